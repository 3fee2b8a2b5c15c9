use Rattle.std.proofs.Common.{Bool, Option, None, Some, ℕ, sym, subst}
use Rattle.std.specs.Prelude.{IfErr, IfOk}
use Rattle.std.proofs.lemmas.Result.{IfErr-weaker, IfOk-weaker}
use Rattle.calls.specs.Calls.{image_on}
use Rattle.transfer.specs.PutWriting.{IsPutCutOff, PutComes}
use Rattle.transfer.specs.Stopped.{StaysPut}
use Rattle.transfer.proofs.RoundLemmas.{comes_straight, cut_straight, stays_straight}
use Rattle.transfer.proofs.writing.put_bytes.Goals as goal

-- ---- by way of a new file

pub returns-then-twice-clause-comes : goal.returns-then-twice-clause-comes
returns-then-twice-clause-comes g c =
    subst (λ (o : Option ℕ). IfOk c.go_round.result (PutComes c.args.twice (image_on g.D.Disk.image c.args.kernel.now) o c.args.bytes.now (image_on g.D.Disk.image c.go_round.new.kernel))) (sym c.in-Some.is)
    (subst (λ (t : Bool). IfOk c.go_round.result (PutComes t (image_on g.D.Disk.image c.args.kernel.now) (Some c.in-Some.number) c.args.bytes.now (image_on g.D.Disk.image c.go_round.new.kernel))) (sym c.if-twice.true)
    c.go_round.ensures.comes)

pub returns-then-twice-clause-refused : goal.returns-then-twice-clause-refused
returns-then-twice-clause-refused g c =
    subst (λ (o : Option ℕ). IfErr c.go_round.result (IsPutCutOff c.args.twice g.D.Disk o c.args.bytes.now c.args.kernel.now c.go_round.new.kernel)) (sym c.in-Some.is)
    (subst (λ (t : Bool). IfErr c.go_round.result (IsPutCutOff t g.D.Disk (Some c.in-Some.number) c.args.bytes.now c.args.kernel.now c.go_round.new.kernel)) (sym c.if-twice.true)
    c.go_round.ensures.refused)

pub returns-then-twice-clause-stays : goal.returns-then-twice-clause-stays
returns-then-twice-clause-stays g c =
    subst (λ (o : Option ℕ). StaysPut g.D.Disk c.args.twice (image_on g.D.Disk.image c.args.kernel.now) o c.args.bytes.now c.args.kernel.now c.go_round.new.kernel) (sym c.in-Some.is)
    (subst (λ (t : Bool). StaysPut g.D.Disk t (image_on g.D.Disk.image c.args.kernel.now) (Some c.in-Some.number) c.args.bytes.now c.args.kernel.now c.go_round.new.kernel) (sym c.if-twice.true)
    c.go_round.ensures.stays)

-- ---- in the old file alone

pub returns-else-twice-clause-comes : goal.returns-else-twice-clause-comes
returns-else-twice-clause-comes g c =
    subst (λ (o : Option ℕ). IfOk c.replace.result (PutComes c.args.twice (image_on g.D.Disk.image c.args.kernel.now) o c.args.bytes.now (image_on g.D.Disk.image c.replace.new.kernel))) (sym c.in-Some.is)
    (IfOk-weaker c.replace.result _ _ (comes_straight (Some c.in-Some.number) c.args.twice c.if-twice.false c.args.bytes.now (image_on g.D.Disk.image c.args.kernel.now) (image_on g.D.Disk.image c.replace.new.kernel)) c.replace.ensures.comes)

pub returns-else-twice-clause-refused : goal.returns-else-twice-clause-refused
returns-else-twice-clause-refused g c =
    subst (λ (o : Option ℕ). IfErr c.replace.result (IsPutCutOff c.args.twice g.D.Disk o c.args.bytes.now c.args.kernel.now c.replace.new.kernel)) (sym c.in-Some.is)
    (IfErr-weaker c.replace.result _ _ (cut_straight (Some c.in-Some.number) c.args.twice c.if-twice.false c.args.bytes.now g.D.Disk c.args.kernel.now c.replace.new.kernel) c.replace.ensures.refused)

pub returns-else-twice-clause-stays : goal.returns-else-twice-clause-stays
returns-else-twice-clause-stays g c =
    subst (λ (o : Option ℕ). StaysPut g.D.Disk c.args.twice (image_on g.D.Disk.image c.args.kernel.now) o c.args.bytes.now c.args.kernel.now c.replace.new.kernel) (sym c.in-Some.is)
    (stays_straight (Some c.in-Some.number) c.args.twice c.if-twice.false c.args.bytes.now g.D.Disk _ _ _ c.replace.ensures.stays)

-- ---- as those of a new file

pub returns-in-None-clause-comes : goal.returns-in-None-clause-comes
returns-in-None-clause-comes g c =
    subst (λ (o : Option ℕ). IfOk c.add.result (PutComes c.args.twice (image_on g.D.Disk.image c.args.kernel.now) o c.args.bytes.now (image_on g.D.Disk.image c.add.new.kernel))) (sym c.in-None.is)
    (IfOk-weaker c.add.result _ _ (comes_straight None c.args.twice tt c.args.bytes.now (image_on g.D.Disk.image c.args.kernel.now) (image_on g.D.Disk.image c.add.new.kernel)) c.add.ensures.comes)

pub returns-in-None-clause-refused : goal.returns-in-None-clause-refused
returns-in-None-clause-refused g c =
    subst (λ (o : Option ℕ). IfErr c.add.result (IsPutCutOff c.args.twice g.D.Disk o c.args.bytes.now c.args.kernel.now c.add.new.kernel)) (sym c.in-None.is)
    (IfErr-weaker c.add.result _ _ (cut_straight None c.args.twice tt c.args.bytes.now g.D.Disk c.args.kernel.now c.add.new.kernel) c.add.ensures.refused)

pub returns-in-None-clause-stays : goal.returns-in-None-clause-stays
returns-in-None-clause-stays g c =
    subst (λ (o : Option ℕ). StaysPut g.D.Disk c.args.twice (image_on g.D.Disk.image c.args.kernel.now) o c.args.bytes.now c.args.kernel.now c.add.new.kernel) (sym c.in-None.is)
    (stays_straight None c.args.twice tt c.args.bytes.now g.D.Disk _ _ _ c.add.ensures.stays)
