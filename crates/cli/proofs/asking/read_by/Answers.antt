use Rattle.std.proofs.Common.{ℕ, List, Option, codes, map, rules}
use Rattle.clap.specs.Words.{Row, subcommand_of, subcommand_rows_of}
use Rattle.cli.specs.Asking.{Asks, Gives, IsMistakeIn}
use Rattle.cli.proofs.CommandLines.{met, mistaken, none_mistaken}
use Rattle.cli.proofs.asking.read_by.Goals as goal

pub returns-in_err-matches-clause-err : goal.returns-in_err-matches-clause-err
returns-in_err-matches-clause-err g c =
    let words = map g.S.AsStr.text c.args.words.now in
    let mistake : IsMistakeIn g.Q.ByWords.wording words c.in_err-matches.field-0.0 = mistaken g.Q.ByWords.wording _ words c.in_err-matches.field-0.0 c.requires.free c.requires.app.0 c.in_err-matches.ensures.kinds in
    search rules

pub returns-in-Some-clause-ok : goal.returns-in-Some-clause-ok
returns-in-Some-clause-ok g c =
    let words = map g.S.AsStr.text c.args.words.now in
    let wording = g.Q.ByWords.wording in
    let matches = c.in_ok-matches.matches in
    let asked = c.in-Some.asked in
    let says : (P : Option (List ℕ × List Row) → Type 0) → P (subcommand_rows_of matches) → P (subcommand_of wording.app words) =
    λ P. met wording _ words matches P c.requires.free c.requires.app.0 c.in_ok-matches.ensures.ok.2 in
    record {
      request = record {
        right = none_mistaken wording _ words matches c.requires.free c.requires.app.0 c.in_ok-matches.ensures.kinds;
        asks = says (λ command. Asks wording command asked.request) (rw c.in-Some.is at c.in_ok-asked.ensures.asks);
      };
      wait = says (λ command. Gives (codes "wait") command asked.wait) (rw c.in-Some.is at c.in_ok-asked.ensures.waits);
      explain = says (λ command. Gives (codes "explain") command asked.explain) (rw c.in-Some.is at c.in_ok-asked.ensures.explains);
      no_lock = says (λ command. Gives (codes "no-lock") command asked.no_lock) (rw c.in-Some.is at c.in_ok-asked.ensures.unlocked);
    }
