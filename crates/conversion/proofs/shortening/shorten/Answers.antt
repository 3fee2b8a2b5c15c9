use Rattle.std.proofs.Common.{◌≡◌, ℕ, None, sym, subst}
use Rattle.model.specs.Verdict.{verdict}
use Rattle.conversion.specs.Common.{chosen_size, Image}
use Rattle.conversion.specs.Shortened.{IsNotShortened, IsShortened}
use Rattle.conversion.proofs.UnderLemmas.{refused_all, shortened_all}
use Rattle.std.specs.Prelude.{IfErr, IfOk}
use Rattle.conversion.proofs.shortening.shorten.Goals as goal

pub returns-clause-shortened : goal.returns-clause-shortened
returns-clause-shortened g c =
    let same = c.check_old.ensures.reads.image in
    let y = g.D.Disk.image c.check_old.new.old in
    subst (λ (x : Image). IfOk c.move_image.result (λ new. IsShortened x c.args.nlog (chosen_size x c.args.nlog c.args.size) new.blocks.items)) same
    (shortened_all (λ new. new.blocks.items) y c.args.nlog c.args.size c.move_image.result c.requires.log (g.met.D.Disk.is_image c.check_old.new.old)
    (subst (λ (x : Image). verdict x ≡ None) (sym same) c.in_ok-check_old.ensures.sound) c.move_image.ensures.moved c.move_image.ensures.taken)

pub returns-clause-refused : goal.returns-clause-refused
returns-clause-refused g c =
    let d = g.D.Disk in
    let same = c.check_old.ensures.reads.image in
    let result = c.move_image.result in
    let was = d.fault_count c.check_old.new.old in
    let is = d.fault_count c.move_image.new.old in
    subst (λ (n : ℕ). IfErr result (IsNotShortened (d.image c.args.old.now) c.args.nlog c.args.size n is)) c.in_ok-check_old.ensures.faults
    (subst (λ (x : Image). IfErr result (IsNotShortened x c.args.nlog c.args.size was is)) same
    (refused_all (d.image c.check_old.new.old) c.args.nlog c.args.size was is result
    (subst (λ (x : Image). verdict x ≡ None) (sym same) c.in_ok-check_old.ensures.sound) c.move_image.ensures.refused))
