-- What a machine's step is to the task: its last one, or one more.
use Rattle.std.proofs.Common.{◌≡◌, ℕ, List, Option, refl, sym}
use Rattle.std.specs.Prelude.{Err, Ok}
use Rattle.inodes.specs.Common.{Ghosts, over, stage_by, Progress, progress_by, SearchState, Stage, table_by, TableState, task, TaskProgress, TaskState, VolumeState}
use Rattle.inodes.specs.InPlace.{SearchesInPlace}
use Rattle.inodes.proofs.Staying.{Rests, search_rests}
use Rattle.inodes.proofs.StoreSteps.{tasks_then}

module _ {T : Type 0} where
  -- what came of the last one
  pub came : (out : T) (r : Progress T) → Ok out ≡ over r → r ≡ Progress.Over out
  came out Progress.Moved is = absurd (cc is)
  came out (Progress.Sleeping why) is = absurd (cc is)
  came out (Progress.Over found) is = cc is
  came out (Progress.Fault fault) is = absurd (cc is)

  -- any other is a step of the task
  pub told : (last : T → TaskProgress) (r : Progress T) (q : TaskProgress) → Err q ≡ over r → progress_by last r ≡ q
  told last Progress.Moved q is = cc is
  told last (Progress.Sleeping why) q is = cc is
  told last (Progress.Over out) q is = absurd (cc is)
  told last (Progress.Fault fault) q is = cc is

  -- which stands with the machine as it is, whether that rested or not
  pub stands : (was now : Stage) (last : T → Stage) (r : Progress T) (q : TaskProgress) → Err q ≡ over r → (Rests r → now ≡ was) → stage_by was now last r ≡ now
  stands was now last Progress.Moved q is rests = refl
  stands was now last (Progress.Sleeping why) q is rests = sym (rests tt)
  stands was now last (Progress.Over out) q is rests = absurd (cc is)
  stands was now last (Progress.Fault fault) q is rests = sym (rests tt)

  -- and the table stays
  pub leaves : (t : TableState) (last : T → TableState) (r : Progress T) (q : TaskProgress) → Err q ≡ over r → table_by t last r ≡ t
  leaves t last Progress.Moved q is = refl
  leaves t last (Progress.Sleeping why) q is = refl
  leaves t last (Progress.Over out) q is = absurd (cc is)
  leaves t last (Progress.Fault fault) q is = refl

-- the tasks behind a step of a search that is not its last one
pub search_goes : {D N : Type 0} (disk : Ghosts D N) (v w : VolumeState D) (p : ℕ) (m : SearchState) (ts us : List TaskState) (r : Progress (Option ℕ)) (q : TaskProgress) → Err q ≡ over r → (steps : SearchesInPlace disk v ts p m r us w)
    → (task ts p).stage ≡ Stage.Creating m → us ≡ tasks_then ts p steps.now r
search_goes disk v w p m ts us Progress.Moved q is steps stood = steps.tasks
search_goes disk v w p m ts us (Progress.Sleeping why) q is steps stood = search_rests disk v w p m ts us (Progress.Sleeping why) steps stood tt
search_goes disk v w p m ts us (Progress.Over found) q is steps stood = absurd (cc is)
search_goes disk v w p m ts us (Progress.Fault fault) q is steps stood = search_rests disk v w p m ts us (Progress.Fault fault) steps stood tt
