use Rattle.std.proofs.Common.{◌∙◌, None, arith, codes, refl, rules}
use Rattle.clap.specs.Words.{found_of, rows_of}
use Rattle.clap.proofs.WalkLemmas.{one_text-rows}
use Rattle.cli.specs.Lemmas.Parses.{choice_read, number_one, number_read, some_is_not_none}
use Rattle.xvfs_words.proofs.words.workers_of.Goals as goal

pub returns-in-Some : goal.returns-in-Some
returns-in-Some c =
    let found = found_of c.args.values.now in
    let read = number_read 32 found (codes "workers") c.in-Some.workers c.in-Some.ensures.none c.in-Some.ensures.value in (
      search rules,
      search rules,
      λ none. absurd (some_is_not_none c.in-Some.workers (c.in-Some.ensures.none (one_text-rows found (codes "workers") ∙ none))),
      λ w has low high.
          let same = number_one 32 (codes "workers") (rows_of found) c.in-Some.workers w read has in
          let is = c.clamp.ensures in
          omega (arith, is, same, low, high),
    )

pub returns-in-None : goal.returns-in-None
returns-in-None c =
    let found = found_of c.args.values.now in (
      search rules,
      search rules,
      λ none. refl,
      λ w has low high. absurd (choice_read 32 found (codes "workers") None c.in-None.ensures.none c.in-None.ensures.value w has),
    )
