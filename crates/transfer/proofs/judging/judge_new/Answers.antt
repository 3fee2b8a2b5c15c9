use Rattle.std.proofs.Common.{◌≡◌, ◌∙◌, ℕ, ap, subst, inl, inr, arith}
use Rattle.std.proofs.lemmas.Result.{err_from_is_err_and}
use Rattle.blocks.specs.Calls.{OnlyReads}
use Rattle.blocks.specs.Disk.{Image, Rose}
use Rattle.blocks.specs.Lemmas.Reads.{reads_then}
use Rattle.offline.specs.Recovered.{IsRecoveredOf}
use Rattle.model.specs.Layout.{form_of, greatest_size}
use Rattle.model.specs.Log.{recovered}
use Rattle.model.specs.Verdict.{verdict}
use Rattle.model.specs.declared.types.image.Form.{Form}
use Rattle.transfer.specs.Needs.{free_count, needed_blocks}
use Rattle.transfer.proofs.ImageLemmas.{form_recovered, open_fault}
use Rattle.transfer.proofs.judging.judge_new.Given.{Over}
use Rattle.transfer.proofs.judging.judge_new.Goals.{After-greatest_size, After-needed_blocks-needed}
use Rattle.transfer.proofs.judging.judge_new.Goals as goal

-- the image was opened
module _ (g : Over) (c : After-greatest_size g) where
  abbrev y : Image
  y = recovered (g.D.Disk.image c.args.disk.now)

  reads : OnlyReads g.D.Disk c.args.disk.now c.open.new.disk
  reads = reads_then g.D.Disk _ _ _ c.check.ensures.reads c.open.ensures.reads

  faults : g.D.Disk.fault_count c.open.new.disk ≡ g.D.Disk.fault_count c.args.disk.now
  faults = c.in_ok-image.ensures.faults ∙ c.in_ok-check.ensures.faults

  form : c.in_ok-image.image.form ≡ form_of y
  form =
      form_recovered (g.D.Disk.image c.args.disk.now) c.in_ok-image.image
      (record { recovered = subst (λ (z : Image). IsRecoveredOf z c.in_ok-image.image) c.check.ensures.reads.image c.in_ok-image.ensures.ok; sound = c.in_ok-check.ensures.ok })

  greatest : c.greatest_size.result ≡ greatest_size (form_of y)
  greatest = c.greatest_size.ensures ∙ ap greatest_size form

-- and the free blocks were counted
module _ (g : Over) (c : After-needed_blocks-needed g) where
  free : g.D.Disk.image c.open.new.disk ≡ g.D.Disk.image c.args.disk.now → c.in_ok-free.free ≡ free_count (recovered (g.D.Disk.image c.args.disk.now))
  free same = c.in_ok-free.ensures.count ∙ ap (λ (z : Image). free_count (recovered z)) same

  need : (told : Form) → c.in_ok-image.image.form ≡ told → c.needed_blocks-needed.result ≡ needed_blocks told c.args.count
  need told is = c.needed_blocks-needed.ensures.count ∙ ap (λ (f : Form). needed_blocks f c.args.count) is

pub returns-in_err-image-clause-refused : goal.returns-in_err-image-clause-refused
returns-in_err-image-clause-refused g c =
    let d = g.D.Disk in
    let first = c.check.ensures.reads in
    let sound = c.in_ok-check.ensures.ok in
    let fault = c.in_err-image.field-0.0 in
    let why = open_fault (d.image c.check.new.disk) (d.fault_count c.check.new.disk) (d.fault_count c.open.new.disk) fault (ap verdict first.image ∙ sound) c.in_err-image.ensures.fault c.in_err-image.ensures.memory in
    let p = err_from_is_err_and c.from_residual-in_err-image.result c.from_residual-in_err-image.ensures.1 in
    rw (p.1, p.2)
    (record {
      cause = inr (inl (why.0, subst (λ (n : ℕ). Rose n (d.fault_count c.open.new.disk)) c.in_ok-check.ensures.faults why.1));
      reads = reads_then d c.args.disk.now c.check.new.disk c.open.new.disk first c.open.ensures.reads;
    })

pub returns-then-count-greatest_size-clause-refused : goal.returns-then-count-greatest_size-clause-refused
returns-then-count-greatest_size-clause-refused g c =
    let at = (goal.at.returns-then-count-greatest_size-clause-refused g c).After-greatest_size in
    let size = greatest g at in
    record {
      cause = (c.in_ok-check.ensures.ok, faults g at, tt, omega (arith, c.if-count-greatest_size.true, size));
      reads = reads g at;
    }

pub returns-then-needed-free-clause-refused : goal.returns-then-needed-free-clause-refused
returns-then-needed-free-clause-refused g c =
    let at = goal.at.returns-then-needed-free-clause-refused g c in
    let before = reads g at.After-greatest_size in
    let free = free g at.After-needed_blocks-needed before.image in
    let need = need g at.After-needed_blocks-needed _ (form g at.After-greatest_size) in
    record {
      cause = (c.in_ok-check.ensures.ok, c.in_ok-free.ensures.faults ∙ faults g at.After-greatest_size, tt, omega (arith, c.if-needed-free.true, need, free));
      reads = reads_then g.D.Disk _ _ _ before c.free_blocks.ensures.reads;
    }

pub returns-clause-fit : goal.returns-clause-fit
returns-clause-fit g c =
    let at = goal.at.returns-clause-fit g c in
    let before = reads g at.After-greatest_size in
    let size = greatest g at.After-greatest_size in
    let free = free g at.After-needed_blocks-needed before.image in
    let need = need g at.After-needed_blocks-needed _ (form g at.After-greatest_size) in
    record {
      sound = c.in_ok-check.ensures.ok;
      room = record {
        old = tt;
        plain = tt;
        size = omega (arith, c.if-count-greatest_size.false, size);
        blocks = omega (arith, c.if-needed-free.false, need, free);
      };
      reads = reads_then g.D.Disk _ _ _ before c.free_blocks.ensures.reads;
      faults = c.in_ok-free.ensures.faults ∙ faults g at.After-greatest_size;
    }

pub returns-clause-besides : goal.returns-clause-besides
returns-clause-besides g c =
    let at = goal.at.returns-clause-besides g c in
    let before = reads g at.After-greatest_size in
    let free = free g at.After-needed_blocks-needed before.image in
    let need = need g at.After-needed_blocks-needed _ (form g at.After-greatest_size) in
    omega (arith, c.if-needed-free.false, need, free)
