use Rattle.std.proofs.Common.{rules, ◌≡◌, ◌∙◌, ap₂, sym}
use Rattle.crash_check.specs.Images.{kept_files}
use Rattle.stops.proofs.held_trial.play_held.Goals as goal

pub returns : goal.returns
returns c = rw (sym c.record.ensures) (record {
  turns = c.in_ok-ended.ensures;
  due = (let entries : c.in_ok-journal.journal.now ≡ c.play.new.player.kernel.world.journal.list = search rules in
      record {
        committed = c.in_ok-due.ensures.committed ∙ ap₂ kept_files entries c.in_ok-ended.ensures.committed;
        opened = c.in_ok-due.ensures.opened ∙ ap₂ kept_files entries c.opened.ensures;
      });
})
