use Rattle.std.proofs.Common.{rules, arith, refl, ◌≡◌, ◌<◌, ◌∙◌, ap, sym, subst, length, map}
use Rattle.std.proofs.lemmas.List.{take_more, map-append}
use Rattle.xvfs_words.specs.CommandLine.{xvfs_words}
use Rattle.cmd.specs.Lemmas.Sequences.{one_more_done, stops_here}
use Rattle.commands.specs.Lemmas.Ends.{not_done}
use Rattle.commands.specs.Words.{IsNotDone}
use Rattle.xvfs.specs.Requests.{DoesAll, IsDone, IsRefused}
use Rattle.xvfs.proofs.Disks.{seen_by}
use Rattle.xvfs.proofs.batch.perform_lines.Goals as goal

pub loop-words-init : goal.loop-words-init
loop-words-init g c = record { silent = refl; none = λ e. refl; done = refl }

pub loop-words-preserved : goal.loop-words-preserved
loop-words-preserved g c =
    let file = seen_by g.R.File.Read.remaining g.R.File.Write.contents in
    let lt : c.loop-words.words-index < length c.args.lines.now = search rules in
    record {
      silent = search rules;
      none = λ e. let none : length c.args.lines.now ≡ 0 = ap length e in absurd (omega (arith, lt, none));
      done = subst (λ ls. DoesAll file ls (g.O.Write.contents c.args.out.now) (g.O.Write.contents c.command-status.new.out))
          (sym (ap (map _) (take_more c.args.lines.now c.loop-words.words-index _ lt) ∙ map-append _ _ _))
          (one_more_done (IsDone file) _ _ _ _ _ c.loop-words.invariant.done
          (subst (λ ws. IsDone file (map (λ word. word.now) ws) (g.O.Write.contents c.loop-words.out) (g.O.Write.contents c.command-status.new.out)) (c.as_slice.ensures.value ∙ ap (λ v. v.items) c.words-item.is) (c.command-status.ensures.done (search rules))));
    }

pub returns-then-status-ne0-clause-stopped : goal.returns-then-status-ne0-clause-stopped
returns-then-status-ne0-clause-stopped g c =
    let file = seen_by g.R.File.Read.remaining g.R.File.Write.contents in
    let contents = g.O.Write.contents in
    let lt : c.loop-words.words-index < length c.args.lines.now = search rules in
    λ other. stops_here (IsDone file) (IsNotDone xvfs_words (IsRefused file)) contents (λ words. map (λ word. word.now) words.items) c.args.lines.now c.loop-words.words-index _ c.args.out.now c.loop-words.out c.command-status.new.out lt
    c.loop-words.invariant.done
    (subst (λ ws. IsNotDone xvfs_words (IsRefused file) (map (λ word. word.now) ws) (contents c.loop-words.out) (contents c.command-status.new.out) (c.command-status.new.out ≡ c.loop-words.out)) (c.as_slice.ensures.value ∙ ap (λ v. v.items) c.words-item.is)
    (not_done xvfs_words (IsRefused file) _ (contents c.loop-words.out) (contents c.command-status.new.out) (c.command-status.new.out ≡ c.loop-words.out) c.command-status.result c.command-status.ensures.status other
    c.command-status.ensures.refused c.command-status.ensures.wrong))
