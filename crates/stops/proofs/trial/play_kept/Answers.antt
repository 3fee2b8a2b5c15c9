use Rattle.std.proofs.Common.{rules, ◌≡◌, ◌∙◌, ap₂, sym}
use Rattle.crash_check.specs.Images.{kept_files}
use Rattle.stops.proofs.trial.play_kept.Goals as goal

pub returns : goal.returns
returns c = rw (sym c.record.ensures) (record {
  turns = c.in_ok-ended.ensures;
  files = (let entries : c.in_ok-journal.journal.now ≡ c.play.new.player.kernel.world.journal.list = search rules in
      c.in_ok-files.ensures ∙ ap₂ kept_files entries c.in_ok-ended.ensures.committed);
})
