use Rattle.std.proofs.Common.{◌≡◌, ◌∙◌, Bool, true, None, Some, refl, subst, inl, inr}
use Rattle.std.proofs.lemmas.Result.{IfErr-weaker, IfOk-weaker, err_from_is_err_and, on_ok_weaker}
use Rattle.model.specs.Files.{Files, file_in, files_of}
use Rattle.calls.specs.Files.{files_on}
use Rattle.calls.specs.Stopped.{Removes}
use Rattle.transfer.proofs.PlaceLemmas.{put_loses_none}
use Rattle.calls.specs.Calls.{image_on}
use Rattle.transfer.specs.Places.{MayPut, PutsAll, put_at}
use Rattle.transfer.specs.PutWriting.{Comes, FindsNone, Puts}
use Rattle.transfer.specs.Rounds.{HasSpare}
use Rattle.transfer.specs.Stopped.{MayLeave, StaysPut}
use Rattle.transfer.proofs.CallLemmas.{answered_both, answered_none, answered_then, cut_after, leads_answered, leads_none}
use Rattle.transfer.proofs.RoundLemmas.{all_first, comes_alone, cut_round, old_beside, round_place, round_removed, round_then, spare_removed, spare_there}
use Rattle.transfer.proofs.writing.go_round.Given.{Over}
use Rattle.transfer.proofs.writing.go_round.Goals.{After-add, After-refill, After-remove, After-replace}
use Rattle.transfer.proofs.writing.go_round.Goals as goal

-- the new file is being made
added : (g : Over) (c : After-add g) → StaysPut g.D.Disk true (image_on g.D.Disk.image c.args.kernel.now) (Some c.args.number) c.args.bytes.now c.args.kernel.now c.add.new.kernel
added g c = round_place g.D.Disk c.args.number c.args.bytes.now _ c.requires.there _ None _ _ (leads_none _) (λ y may. inl may) c.add.ensures.stays

-- no number is free, and the old file alone is written
module _ (g : Over) (c : After-replace g) where
  none : FindsNone (image_on g.D.Disk.image c.args.kernel.now) None (image_on g.D.Disk.image c.add.new.kernel)
  none = subst (Comes (image_on g.D.Disk.image c.args.kernel.now) None c.args.bytes.now (image_on g.D.Disk.image c.add.new.kernel)) c.in-NoInode.is c.in_ok-spare.ensures.comes

  alone : StaysPut g.D.Disk true (image_on g.D.Disk.image c.args.kernel.now) (Some c.args.number) c.args.bytes.now c.add.new.kernel c.replace.new.kernel
  alone =
      round_place g.D.Disk c.args.number c.args.bytes.now _ c.requires.there (image_on g.D.Disk.image c.add.new.kernel) (Some c.args.number) _ _ (leads_answered g.D.Disk _ _ c.in_ok-spare.ensures.answered)
      (λ y may. inr (inr (none.full, subst (λ (f : Files). MayLeave f (Some c.args.number) c.args.bytes.now (files_of y)) none.files may))) c.replace.ensures.stays

-- the new file has all bytes, and the old one is written
module _ (g : Over) (c : After-refill g) where
  spared : HasSpare (image_on g.D.Disk.image c.args.kernel.now) c.args.bytes.now (image_on g.D.Disk.image c.add.new.kernel)
  spared = record {
    number = c.in-Put.spare;
    put = subst (Comes (image_on g.D.Disk.image c.args.kernel.now) None c.args.bytes.now (image_on g.D.Disk.image c.add.new.kernel)) c.in-Put.is c.in_ok-spare.ensures.comes;
  }

  refilled : StaysPut g.D.Disk true (image_on g.D.Disk.image c.args.kernel.now) (Some c.args.number) c.args.bytes.now c.add.new.kernel c.refill.new.kernel
  refilled =
      round_place g.D.Disk c.args.number c.args.bytes.now _ c.requires.there (image_on g.D.Disk.image c.add.new.kernel) (Some c.args.number) _ _ (leads_answered g.D.Disk _ _ c.in_ok-spare.ensures.answered)
      (λ y may. inr (inl (image_on g.D.Disk.image c.add.new.kernel, spared, may))) c.refill.ensures.stays

-- and has them, too, and the new one is removed
module _ (g : Over) (c : After-remove g) where
  filled : files_on g.D.Disk.image c.refill.new.kernel ≡ put_at (files_on g.D.Disk.image c.add.new.kernel) c.args.number c.args.bytes.now
  filled = subst (λ (all : Bool). Puts all c.args.number c.args.bytes.now (image_on g.D.Disk.image c.add.new.kernel) (image_on g.D.Disk.image c.refill.new.kernel)) c.if-not-branch.false c.in_ok-refill.ensures.puts

  put_round : PutsAll (files_on g.D.Disk.image c.args.kernel.now) None c.args.bytes.now (files_on g.D.Disk.image c.add.new.kernel) c.in-Put.spare
      → Removes c.in-Put.spare (files_on g.D.Disk.image c.refill.new.kernel) (files_on g.D.Disk.image c.remove.new.kernel) → files_on g.D.Disk.image c.remove.new.kernel ≡ put_at (files_on g.D.Disk.image c.args.kernel.now) c.args.number c.args.bytes.now
  put_round put removes =
      removes ∙ spare_removed _ (files_on g.D.Disk.image c.add.new.kernel) c.in-Put.spare c.args.number c.args.bytes.now put.place.free c.requires.there put.files _ c.args.bytes.now filled

  removed : PutsAll (files_on g.D.Disk.image c.args.kernel.now) None c.args.bytes.now (files_on g.D.Disk.image c.add.new.kernel) c.in-Put.spare
      → StaysPut g.D.Disk true (image_on g.D.Disk.image c.args.kernel.now) (Some c.args.number) c.args.bytes.now c.refill.new.kernel c.remove.new.kernel
  removed put =
      round_removed g.D.Disk c.args.number c.args.bytes.now (image_on g.D.Disk.image c.args.kernel.now) c.requires.there (image_on g.D.Disk.image c.add.new.kernel) (record { number = c.in-Put.spare; put = put }) c.refill.new.kernel c.remove.new.kernel filled c.remove.ensures.leaves c.remove.ensures.stays c.remove.ensures.reached (leads_answered g.D.Disk _ _ (answered_both g.D.Disk _ _ _ c.in_ok-spare.ensures.answered c.in_ok-refill.ensures.answered))

-- ---- what the calls require

pub replace-requires-clause-there : goal.replace-requires-clause-there
replace-requires-clause-there g c =
    let none = subst (Comes (image_on g.D.Disk.image c.args.kernel.now) None c.args.bytes.now (image_on g.D.Disk.image c.add.new.kernel)) c.in-NoInode.is c.in_ok-spare.ensures.comes in
    λ gone. c.requires.there (subst (λ (f : Files). file_in f c.args.number ≡ None) none.files gone)

pub refill-requires-clause-there : goal.refill-requires-clause-there
refill-requires-clause-there g c =
    let put = subst (Comes (image_on g.D.Disk.image c.args.kernel.now) None c.args.bytes.now (image_on g.D.Disk.image c.add.new.kernel)) c.in-Put.is c.in_ok-spare.ensures.comes in
    old_beside _ _ c.in-Put.spare c.args.number c.args.bytes.now put.place.free c.requires.there put.files

pub remove-requires-clause-there : goal.remove-requires-clause-there
remove-requires-clause-there g c =
    let put = subst (Comes (image_on g.D.Disk.image c.args.kernel.now) None c.args.bytes.now (image_on g.D.Disk.image c.add.new.kernel)) c.in-Put.is c.in_ok-spare.ensures.comes in
    let filled = subst (λ (all : Bool). Puts all c.args.number c.args.bytes.now (image_on g.D.Disk.image c.add.new.kernel) (image_on g.D.Disk.image c.refill.new.kernel)) c.if-not-branch.false c.in_ok-refill.ensures.puts in
    spare_there _ _ c.in-Put.spare c.args.number c.args.bytes.now put.place.free c.requires.there put.files put.place.below _ c.args.bytes.now filled

-- ---- what they come to

pub returns-in-NoInode-clause-comes : goal.returns-in-NoInode-clause-comes
returns-in-NoInode-clause-comes g c =
    let none = none g (goal.at.returns-in-NoInode-clause-comes g c).After-replace in
    IfOk-weaker c.replace.result _ _ (comes_alone (image_on g.D.Disk.image c.args.kernel.now) (image_on g.D.Disk.image c.add.new.kernel) c.args.number c.args.bytes.now (image_on g.D.Disk.image c.replace.new.kernel) none.files none.full) c.replace.ensures.comes

pub returns-in-NoInode-clause-answered : goal.returns-in-NoInode-clause-answered
returns-in-NoInode-clause-answered g c = on_ok_weaker c.replace.result (answered_both g.D.Disk _ _ _ c.in_ok-spare.ensures.answered) c.replace.ensures.answered

pub returns-in-Full-clause-comes : goal.returns-in-Full-clause-comes
returns-in-Full-clause-comes g c =
    inl (subst (Comes (image_on g.D.Disk.image c.args.kernel.now) None c.args.bytes.now (image_on g.D.Disk.image c.add.new.kernel)) c.in-Full.is c.in_ok-spare.ensures.comes)

pub returns-then-not-branch-clause-comes : goal.returns-then-not-branch-clause-comes
unfolding spared
returns-then-not-branch-clause-comes g c =
    let at = goal.at.returns-then-not-branch-clause-comes g c in
    inr (inl (
      image_on g.D.Disk.image c.add.new.kernel,
      spared g at.After-refill,
      record {
        number = c.args.number;
        place = (refl, old_beside _ _ c.in-Put.spare c.args.number c.args.bytes.now (spared g at.After-refill).put.place.free c.requires.there (spared g at.After-refill).put.files);
        full = image_on g.D.Disk.image c.refill.new.kernel;
        part = subst (λ (all : Bool). Puts all c.args.number c.args.bytes.now (image_on g.D.Disk.image c.add.new.kernel) (image_on g.D.Disk.image c.refill.new.kernel)) c.if-not-branch.true c.in_ok-refill.ensures.puts;
        left = refl;
      },
    ))

pub returns-clause-comes : goal.returns-clause-comes
unfolding spared
returns-clause-comes g c =
    let at = goal.at.returns-clause-comes g c in
    let spared = spared g at.After-refill in
    record { place = (refl, c.requires.there); files = put_round g at.After-remove spared.put c.in_ok-remove.ensures.removes }

pub returns-clause-answered : goal.returns-clause-answered
unfolding spared
returns-clause-answered g c =
    let at = goal.at.returns-clause-answered g c in
    answered_then g.D.Disk _ c.refill.new.kernel _ (answered_both g.D.Disk _ _ _ c.in_ok-spare.ensures.answered c.in_ok-refill.ensures.answered) c.in_ok-remove.ensures.committed c.in_ok-remove.ensures.stays.opening
    (put_loses_none _ c.args.number c.args.bytes.now _ (put_round g at.After-remove (spared g at.After-refill).put c.in_ok-remove.ensures.removes))

-- ---- why one is not answered

pub returns-in_err-spare-clause-refused : goal.returns-in_err-spare-clause-refused
returns-in_err-spare-clause-refused g c =
    let p = err_from_is_err_and c.from_residual.result c.from_residual.ensures.1 in
    rw (p.1, p.2)
    (cut_round g.D.Disk c.args.number c.args.bytes.now c.args.kernel.now c.args.kernel.now None c.add.new.kernel c.requires.ready.rests (answered_none g.D.Disk _ c.requires.ready)
    (λ y may. inl may) c.in_err-spare.field-0.0 c.in_err-spare.ensures.refused)

pub returns-in-NoInode-clause-refused : goal.returns-in-NoInode-clause-refused
returns-in-NoInode-clause-refused g c =
    let none = none g (goal.at.returns-in-NoInode-clause-refused g c).After-replace in
    IfErr-weaker c.replace.result _ _
    (cut_round g.D.Disk c.args.number c.args.bytes.now c.args.kernel.now c.add.new.kernel (Some c.args.number) c.replace.new.kernel c.requires.ready.rests c.in_ok-spare.ensures.answered
    (λ y may. inr (inr (none.full, subst (λ (f : Files). MayPut f (Some c.args.number) c.args.bytes.now (files_of y)) none.files may))))
    c.replace.ensures.refused

pub returns-in_err-refill-clause-refused : goal.returns-in_err-refill-clause-refused
returns-in_err-refill-clause-refused g c =
    let spared = spared g (goal.at.returns-in_err-refill-clause-refused g c).After-refill in
    let p = err_from_is_err_and c.from_residual-in_err-refill.result c.from_residual-in_err-refill.ensures.1 in
    rw (p.1, p.2)
    (cut_round g.D.Disk c.args.number c.args.bytes.now c.args.kernel.now c.add.new.kernel (Some c.args.number) c.refill.new.kernel c.requires.ready.rests c.in_ok-spare.ensures.answered
    (λ y may. inr (inl (image_on g.D.Disk.image c.add.new.kernel, spared, may))) c.in_err-refill.field-0.0 c.in_err-refill.ensures.refused)

pub returns-in_err-remove-clause-refused : goal.returns-in_err-remove-clause-refused
unfolding spared
returns-in_err-remove-clause-refused g c =
    let at = goal.at.returns-in_err-remove-clause-refused g c in
    let d = g.D.Disk in
    let bytes = c.args.bytes.now in
    let number = c.args.number in
    let spared = spared g at.After-refill in
    let p = err_from_is_err_and c.from_residual-in_err-remove.result c.from_residual-in_err-remove.ensures.1 in
    rw (p.1, p.2)
    (cut_round d number bytes c.args.kernel.now c.add.new.kernel (Some number) c.remove.new.kernel c.requires.ready.rests c.in_ok-spare.ensures.answered
    (λ y may. inr (inl (image_on d.image c.add.new.kernel, spared, may))) c.in_err-remove.field-0.0
    (cut_after d (Some number) bytes c.add.new.kernel c.refill.new.kernel c.remove.new.kernel c.in_err-remove.field-0.0 c.in_ok-spare.ensures.answered.rests c.in_ok-refill.ensures.answered
    (all_first (files_on d.image c.add.new.kernel) number bytes _ (old_beside _ _ c.in-Put.spare number bytes spared.put.place.free c.requires.there spared.put.files) (filled g at.After-remove))
    c.in_err-remove.ensures.refused))

-- ---- what a stop leaves

pub returns-in_err-spare-clause-stays : goal.returns-in_err-spare-clause-stays
returns-in_err-spare-clause-stays g c = added g (goal.at.returns-in_err-spare-clause-stays g c).After-add

pub returns-in-Full-clause-stays : goal.returns-in-Full-clause-stays
returns-in-Full-clause-stays g c = added g (goal.at.returns-in-Full-clause-stays g c).After-add

pub returns-in-NoInode-clause-stays : goal.returns-in-NoInode-clause-stays
returns-in-NoInode-clause-stays g c =
    let at = goal.at.returns-in-NoInode-clause-stays g c in
    round_then g.D.Disk c.args.number c.args.bytes.now _ c.requires.there _ c.add.new.kernel _ (added g at.After-add) (alone g at.After-replace)

pub returns-in_err-refill-clause-stays : goal.returns-in_err-refill-clause-stays
returns-in_err-refill-clause-stays g c =
    let at = goal.at.returns-in_err-refill-clause-stays g c in
    round_then g.D.Disk c.args.number c.args.bytes.now _ c.requires.there _ c.add.new.kernel _ (added g at.After-add) (refilled g at.After-refill)

pub returns-then-not-branch-clause-stays : goal.returns-then-not-branch-clause-stays
returns-then-not-branch-clause-stays g c =
    let at = goal.at.returns-then-not-branch-clause-stays g c in
    round_then g.D.Disk c.args.number c.args.bytes.now _ c.requires.there _ c.add.new.kernel _ (added g at.After-add) (refilled g at.After-refill)

pub returns-in_err-remove-clause-stays : goal.returns-in_err-remove-clause-stays
unfolding spared
returns-in_err-remove-clause-stays g c =
    let at = goal.at.returns-in_err-remove-clause-stays g c in
    let then_on = round_then g.D.Disk c.args.number c.args.bytes.now _ c.requires.there in
    then_on _ c.refill.new.kernel _ (then_on _ c.add.new.kernel _ (added g at.After-add) (refilled g at.After-refill)) (removed g at.After-remove (spared g at.After-refill).put)

pub returns-clause-stays : goal.returns-clause-stays
unfolding spared
returns-clause-stays g c =
    let at = goal.at.returns-clause-stays g c in
    let then_on = round_then g.D.Disk c.args.number c.args.bytes.now _ c.requires.there in
    then_on _ c.refill.new.kernel _ (then_on _ c.add.new.kernel _ (added g at.After-add) (refilled g at.After-refill)) (removed g at.After-remove (spared g at.After-refill).put)
