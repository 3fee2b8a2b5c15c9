use Rattle.mounting.proofs.serving.Server.set_size.Goals as goal

pub returns-in_err-resize-clause-makes : goal.returns-in_err-resize-clause-makes
returns-in_err-resize-clause-makes g c = λ task o first within before. c.resize.ensures.makes task o first (λ x z is. within x z (c.if-valid-eq0.false, is)) before

pub returns-clause-makes : goal.returns-clause-makes
returns-clause-makes g c = λ task o first within before. c.resize.ensures.makes task o first (λ x z is. within x z (c.if-valid-eq0.false, is)) before

pub returns-then-valid-eq0-clause-end : goal.returns-then-valid-eq0-clause-end
returns-then-valid-eq0-clause-end g c = λ sets. absurd (sets c.if-valid-eq0.true)
