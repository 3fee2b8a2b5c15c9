use Rattle.std.proofs.Common.{◌≡◌, ◌∙◌, Bool, Option, None, ℕ, set, ap, subst}
use Rattle.std.proofs.lemmas.Result.{err_from_is_err_and}
use Rattle.model.specs.Files.{Files}
use Rattle.calls.specs.Files.{Creates, MakesFile, files_on}
use Rattle.calls.specs.Stopped.{MakesAny, Removes}
use Rattle.calls.specs.Calls.{image_on}
use Rattle.transfer.specs.Stopped.{StaysPlace}
use Rattle.transfer.specs.PutWriting.{AreAnswered, Puts, PutsPart}
use Rattle.transfer.proofs.CallLemmas.{Begins, all_behind, answered_both, answered_none, answered_then, cut_after, cut_behind, leads_answered, leads_none, part_behind, part_first}
use Rattle.transfer.proofs.PlaceLemmas.{lowest_made, made_put, put_loses_none, removed_put, same_loses_none}
use Rattle.transfer.proofs.StopLemmas.{led_behind, led_by_creation, led_by_removal, stays_behind, stays_first, stays_then}
use Rattle.transfer.proofs.writing.add.Given.{Over}
use Rattle.transfer.proofs.writing.add.Goals.{After-append_all, After-create, After-remove}
use Rattle.transfer.proofs.writing.add.Goals as goal

-- the file was made
created : (g : Over) (c : After-create g) → StaysPlace g.D.Disk (image_on g.D.Disk.image c.args.kernel.now) None c.args.bytes.now c.args.kernel.now c.create.new.kernel
created g c =
    stays_first g.D.Disk _ None c.args.bytes.now (MakesAny 2) _ _ c.create.ensures.leaves c.create.ensures.stays c.create.ensures.reached (leads_none _) (led_by_creation (files_on g.D.Disk.image c.args.kernel.now) c.args.bytes.now)

-- and then bytes were put into it
module _ (g : Over) (c : After-append_all g) where
  made : MakesFile 2 c.in-Some.number (files_on g.D.Disk.image c.args.kernel.now) (files_on g.D.Disk.image c.create.new.kernel)
  made = subst (λ (o : Option ℕ). Creates 2 o (files_on g.D.Disk.image c.args.kernel.now) (files_on g.D.Disk.image c.create.new.kernel)) c.in-Some.is c.in_ok-number.ensures.creates

  begins : Begins g.D.Disk None c.args.kernel.now c.create.new.kernel c.in-Some.number
  begins = record { below = made.below; place = lowest_made _ _ 2 _ made; files = made.files ∙ made_put _ _ made.free }

  answered : AreAnswered g.D.Disk c.args.kernel.now c.create.new.kernel
  answered = answered_then g.D.Disk _ _ _ (answered_none g.D.Disk _ c.requires.ready) c.in_ok-number.ensures.committed c.in_ok-number.ensures.stays.opening (put_loses_none _ c.in-Some.number _ _ begins.files)

  put : StaysPlace g.D.Disk (image_on g.D.Disk.image c.args.kernel.now) None c.args.bytes.now c.args.kernel.now c.create.new.kernel
      → StaysPlace g.D.Disk (image_on g.D.Disk.image c.args.kernel.now) None c.args.bytes.now c.args.kernel.now c.append_all.new.kernel
  put first =
      stays_then g.D.Disk _ None _ _ c.create.new.kernel _ first
      (stays_behind g.D.Disk _ None _ _ _ c.in-Some.number (leads_answered g.D.Disk _ _ answered)
      (λ new. led_behind _ None c.args.bytes.now _ (made.some, made.below, made.free) made.below _ new begins.files) c.append_all.ensures.stays)

-- no block was free for all of them, and the file is removed
module _ (g : Over) (c : After-remove g) where
  part : Begins g.D.Disk None c.args.kernel.now c.create.new.kernel c.in-Some.number
      → PutsPart c.in-Some.number c.args.bytes.now (image_on g.D.Disk.image c.args.kernel.now) (image_on g.D.Disk.image c.append_all.new.kernel)
  part begins =
      part_behind g.D.Disk begins c.args.bytes.now _
      (subst (λ (all : Bool). Puts all c.in-Some.number c.args.bytes.now (image_on g.D.Disk.image c.create.new.kernel) (image_on g.D.Disk.image c.append_all.new.kernel)) c.if-branch.false c.in_ok-append_all.ensures.puts)

  -- so the files are as before
  left : Begins g.D.Disk None c.args.kernel.now c.create.new.kernel c.in-Some.number → PutsPart c.in-Some.number c.args.bytes.now (image_on g.D.Disk.image c.args.kernel.now) (image_on g.D.Disk.image c.append_all.new.kernel)
      → Removes c.in-Some.number (files_on g.D.Disk.image c.append_all.new.kernel) (files_on g.D.Disk.image c.remove.new.kernel) → files_on g.D.Disk.image c.remove.new.kernel ≡ files_on g.D.Disk.image c.args.kernel.now
  left begins part removes = removes ∙ ap (λ (f : Files). set f c.in-Some.number None) part.files ∙ removed_put _ _ _ begins.place.free

  removed : Begins g.D.Disk None c.args.kernel.now c.create.new.kernel c.in-Some.number → AreAnswered g.D.Disk c.args.kernel.now c.append_all.new.kernel
      → StaysPlace g.D.Disk (image_on g.D.Disk.image c.args.kernel.now) None c.args.bytes.now c.args.kernel.now c.append_all.new.kernel
      → StaysPlace g.D.Disk (image_on g.D.Disk.image c.args.kernel.now) None c.args.bytes.now c.args.kernel.now c.remove.new.kernel
  removed begins answered before =
      let part = part begins in
      stays_then g.D.Disk _ None _ _ c.append_all.new.kernel _ before
      (stays_first g.D.Disk _ None _ (Removes c.in-Some.number) _ _ c.remove.ensures.leaves c.remove.ensures.stays c.remove.ensures.reached (leads_answered g.D.Disk _ _ answered)
      (λ new. led_by_removal _ _ _ part.count _ new (begins.place.some, begins.below, begins.place.free) part.files))

pub returns-in_err-append_all-clause-refused : goal.returns-in_err-append_all-clause-refused
returns-in_err-append_all-clause-refused g c =
    let at = (goal.at.returns-in_err-append_all-clause-refused g c).After-append_all in
    let p = err_from_is_err_and c.from_residual-in_err-append_all.result c.from_residual-in_err-append_all.ensures.1 in
    rw (p.1, p.2)
    (cut_behind g.D.Disk (begins g at) c.args.bytes.now c.append_all.new.kernel c.in_err-append_all.field-0.0 c.requires.ready.rests (answered g at) c.in_err-append_all.ensures.refused)

pub returns-then-branch-clause-comes : goal.returns-then-branch-clause-comes
returns-then-branch-clause-comes g c =
    all_behind g.D.Disk (begins g (goal.at.returns-then-branch-clause-comes g c).After-append_all) c.args.bytes.now _
    (subst (λ (all : Bool). Puts all c.in-Some.number c.args.bytes.now (image_on g.D.Disk.image c.create.new.kernel) (image_on g.D.Disk.image c.append_all.new.kernel)) c.if-branch.true c.in_ok-append_all.ensures.puts)

pub returns-in_err-remove-clause-refused : goal.returns-in_err-remove-clause-refused
returns-in_err-remove-clause-refused g c =
    let at = goal.at.returns-in_err-remove-clause-refused g c in
    let begins = begins g at.After-append_all in
    let p = err_from_is_err_and c.from_residual-in_err-remove.result c.from_residual-in_err-remove.ensures.1 in
    rw (p.1, p.2)
    (cut_after g.D.Disk None c.args.bytes.now _ c.append_all.new.kernel c.remove.new.kernel c.in_err-remove.field-0.0 c.requires.ready.rests
    (answered_both g.D.Disk _ _ _ (answered g at.After-append_all) c.in_ok-append_all.ensures.answered)
    (part_first g.D.Disk begins c.args.bytes.now _ (part g at.After-remove begins)) c.in_err-remove.ensures.refused)

pub returns-clause-comes : goal.returns-clause-comes
returns-clause-comes g c =
    let at = goal.at.returns-clause-comes g c in
    let begins = begins g at.After-append_all in
    let part = part g at.After-remove begins in
    record {
      number = c.in-Some.number;
      place = begins.place;
      full = image_on g.D.Disk.image c.append_all.new.kernel;
      part = part;
      left = left g at.After-remove begins part c.in_ok-remove.ensures.removes;
    }

pub returns-clause-answered : goal.returns-clause-answered
returns-clause-answered g c =
    let at = goal.at.returns-clause-answered g c in
    let begins = begins g at.After-append_all in
    answered_then g.D.Disk _ c.append_all.new.kernel _ (answered_both g.D.Disk _ _ _ (answered g at.After-append_all) c.in_ok-append_all.ensures.answered) c.in_ok-remove.ensures.committed c.in_ok-remove.ensures.stays.opening
    (same_loses_none _ _ (left g at.After-remove begins (part g at.After-remove begins) c.in_ok-remove.ensures.removes))

pub returns-in_err-number-clause-stays : goal.returns-in_err-number-clause-stays
returns-in_err-number-clause-stays g c = created g (goal.at.returns-in_err-number-clause-stays g c).After-create

pub returns-in_err-append_all-clause-stays : goal.returns-in_err-append_all-clause-stays
returns-in_err-append_all-clause-stays g c = let at = goal.at.returns-in_err-append_all-clause-stays g c in put g at.After-append_all (created g at.After-create)

pub returns-then-branch-clause-stays : goal.returns-then-branch-clause-stays
returns-then-branch-clause-stays g c = let at = goal.at.returns-then-branch-clause-stays g c in put g at.After-append_all (created g at.After-create)

pub returns-in_err-remove-clause-stays : goal.returns-in_err-remove-clause-stays
returns-in_err-remove-clause-stays g c =
    let at = goal.at.returns-in_err-remove-clause-stays g c in
    removed g at.After-remove (begins g at.After-append_all) (answered_both g.D.Disk _ _ _ (answered g at.After-append_all) c.in_ok-append_all.ensures.answered) (put g at.After-append_all (created g at.After-create))

pub returns-clause-stays : goal.returns-clause-stays
returns-clause-stays g c =
    let at = goal.at.returns-clause-stays g c in
    removed g at.After-remove (begins g at.After-append_all) (answered_both g.D.Disk _ _ _ (answered g at.After-append_all) c.in_ok-append_all.ensures.answered) (put g at.After-append_all (created g at.After-create))
