-- How many steps an operation has left at most, by the form of the image.
use Rattle.std.proofs.Common.{◌≡◌, ℕ, ◌+◌, ◌<◌, ap, arith}
use Rattle.kernel.specs.Common.{AreLooking, current_of, few_in_task, Form, form_of, HasFacts, Image, inode_count_of, left_in, most_behind, One, process, step_bound, steps_few, StoreState, task_left, Two, World}
use Rattle.kernel.proofs.TaskSteps.{form_untouched}

-- a truncation's, the search of an inode, an operation's end and a commit stay below the bound
pub few_behind : (form : Form) → most_behind form + 200 < step_bound form
few_behind One = omega arith
few_behind Two = omega arith

module _ {D : Type 0} (image : D → Image) (opening : Image) (s : StoreState D) (w : World) (p : ℕ) (has : HasFacts image opening s w) where
  -- the current image has the opening's form
  pub form_now : form_of (current_of image s.volume) ≡ form_of opening
  form_now = form_untouched opening (current_of image s.volume) has.facts.recovers.marks.untouched

  pub few_steps : AreLooking (current_of image s.volume) s.table s.tasks → s.table.inode_count ≡ inode_count_of (current_of image s.volume) →
      left_in image s w p < step_bound (form_of opening)
  few_steps looks numbers =
      let cur = current_of image s.volume in
      let task = few_in_task cur s.table s.tasks looks numbers p in
      let all = steps_few (process w p).at (task_left image s p) (most_behind (form_of cur) + 5) s.volume.log has.facts.valid.log task in
      omega (arith, (few_behind (form_of opening)), (ap most_behind form_now), all)
