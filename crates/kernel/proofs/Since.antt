-- What a stop has left since the opening.
use Rattle.std.proofs.Common.{◌≡◌, ℕ, true, inl, inr, refl, sym, ◌∙◌, ap, subst, arith, None}
use Rattle.kernel.specs.Common.{at_once_reply, at_once_still, false≢true, Ghosts, Grows, grows_goes, inode_count_of, is_at_once, IsRight, keeps_fewer, keeps_later, KeepsBetween, leaves_wider, LeavesOnly, LeavesSince, most_of, Op, refusal, refused, started, StoreState, OpClass, class_of, with_more_room, World}
use Rattle.kernel.proofs.Beginnings.{refused_at_once}
use Rattle.kernel.proofs.Right.{Survive, keeps_now}

module _ {D N : Type 0} (disk : Ghosts D N) (opening : D) where
  -- a refusal, whose entry is of no group
  pub since_refused : (s : StoreState D) (w z : World) (p : ℕ) (op : Op) → IsRight disk opening s w → s.volume.fault ≡ None → class_of s.table.inode_count op ≡ OpClass.Refused
      → z ≡ refused (with_more_room w) p op (at_once_reply op) → LeavesSince disk opening s w → LeavesSince disk opening s z
  since_refused s w z p op right well refuses to since =
      let x = disk.image opening in
      let n = inode_count_of x in
      let once : is_at_once n op ≡ true = subst (λ (k : ℕ). is_at_once k op ≡ true) right.numbers (refused_at_once s.table.inode_count op refuses) in
      let es = w.journal.list in
      let fs = z.journal.list in
      let grows : Grows n s.volume es s.volume fs = grows_goes n p s.volume s.volume es fs well (omega arith) (omega arith)
      (inr (inl (record { entry = refusal w p op (at_once_reply op); mine = refl; later = λ changing. absurd (false≢true (sym (at_once_still n op once) ∙ changing)); list = ap (λ (v : World). v.journal.list) to }))) in
      leaves_wider disk.moment disk.leaves opening s.volume.device (KeepsBetween 0 (most_of s.volume) x es) (KeepsBetween 0 (most_of s.volume) x fs) (λ y kept. keeps_later x s.volume s.volume es fs grows 0 y kept) since

  -- at the opening
  pub since_new : (s : StoreState D) (w : World) → opening ≡ s.volume.device → IsRight disk opening s w → Survive disk s → LeavesSince disk opening s w
  since_new s w same right survives =
      let x = disk.image opening in
      let keeps = keeps_now disk opening s w s.volume.fault right.facts right.keeps survives in
      subst (λ (d : D). LeavesOnly disk.moment disk.leaves d s.volume.device (KeepsBetween 0 (most_of s.volume) x w.journal.list)) (sym same)
      (started disk.moment disk.leaves s.volume.device (KeepsBetween 0 (most_of s.volume) x w.journal.list)
      (λ y left. keeps_fewer 0 s.volume.log.committed (most_of s.volume) x w.journal.list y (omega arith) (keeps y left).between))
