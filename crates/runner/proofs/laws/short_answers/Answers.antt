use Rattle.runner.proofs.Answers.{answered, number_first}
use Rattle.runner.proofs.laws.short_answers.Goals as goal

pub returns-clause-none : goal.returns-clause-none
returns-clause-none g c = λ d e processes last comes p kind i has number.
    c.short_answers.ensures.none comes.turns.turns comes.first last comes.turns.session p kind i
    (answered g.D.Disk d e processes last comes p _ _ has) (number_first g.D.Disk d e processes last comes i number)

pub returns-clause-made : goal.returns-clause-made
returns-clause-made g c = λ d e processes last comes p kind i j has number lower.
    c.short_answers.ensures.made comes.turns.turns comes.first last comes.turns.session p kind i j
    (answered g.D.Disk d e processes last comes p _ _ has) (number_first g.D.Disk d e processes last comes j number) lower

pub returns-clause-short : goal.returns-clause-short
returns-clause-short g c = λ d e processes last comes p i off done bytes has few.
    c.short_answers.ensures.short comes.turns.turns comes.first last comes.turns.session p i off done bytes
    comes.known (answered g.D.Disk d e processes last comes p _ _ has) few
