use Rattle.std.proofs.Common.{◌≡◌, ◌∙◌, ℕ, ap, subst, inl, inr, arith}
use Rattle.std.proofs.lemmas.Result.{err_from_is_err_and}
use Rattle.blocks.specs.Calls.{OnlyReads}
use Rattle.blocks.specs.Disk.{Image, Rose}
use Rattle.blocks.specs.Lemmas.Reads.{reads_then}
use Rattle.offline.specs.Recovered.{IsRecoveredOf}
use Rattle.model.specs.Layout.{form_of, greatest_size}
use Rattle.model.specs.Log.{recovered}
use Rattle.model.specs.Verdict.{verdict}
use Rattle.model.specs.declared.types.image.Form.{Form}
use Rattle.transfer.specs.Judging.{FindsOld}
use Rattle.transfer.specs.Needs.{fits_twice, free_count, needed_blocks}
use Rattle.transfer.proofs.ImageLemmas.{form_recovered, old_told, open_fault}
use Rattle.transfer.proofs.judging.judge.Given.{Over}
use Rattle.transfer.proofs.judging.judge.Goals.{After-greatest_size, After-needed_blocks}
use Rattle.transfer.proofs.judging.judge.Goals as goal

-- the old file was found
module _ (g : Over) (c : After-greatest_size g) where
  abbrev y : Image
  y = recovered (g.D.Disk.image c.args.disk.now)

  opened : OnlyReads g.D.Disk c.args.disk.now c.open.new.disk
  opened = reads_then g.D.Disk _ _ _ c.check.ensures.reads c.open.ensures.reads

  reads : OnlyReads g.D.Disk c.args.disk.now c.old_blocks.new.disk
  reads = reads_then g.D.Disk _ _ _ opened c.old_blocks.ensures.reads

  faults : g.D.Disk.fault_count c.old_blocks.new.disk ≡ g.D.Disk.fault_count c.args.disk.now
  faults = c.in_ok-old.ensures.faults ∙ c.in_ok-image.ensures.faults ∙ c.in_ok-check.ensures.faults

  form : c.in_ok-image.image.form ≡ form_of y
  form =
      form_recovered (g.D.Disk.image c.args.disk.now) c.in_ok-image.image
      (record { recovered = subst (λ (z : Image). IsRecoveredOf z c.in_ok-image.image) c.check.ensures.reads.image c.in_ok-image.ensures.ok; sound = c.in_ok-check.ensures.ok })

  found : FindsOld y c.args.inum c.in_ok-old.old
  found = subst (λ (z : Image). FindsOld (recovered z) c.args.inum c.in_ok-old.old) opened.image c.in_ok-old.ensures.found

  greatest : c.greatest_size.result ≡ greatest_size (form_of y)
  greatest = c.greatest_size.ensures ∙ ap greatest_size form

-- and the free blocks were counted
module _ (g : Over) (c : After-needed_blocks g) where
  free : g.D.Disk.image c.old_blocks.new.disk ≡ g.D.Disk.image c.args.disk.now → c.in_ok-free.free ≡ free_count (recovered (g.D.Disk.image c.args.disk.now))
  free same = c.in_ok-free.ensures.count ∙ ap (λ (z : Image). free_count (recovered z)) same

  need : (told : Form) → c.in_ok-image.image.form ≡ told → c.needed_blocks.result ≡ needed_blocks told c.args.count
  need told is = c.needed_blocks.ensures.count ∙ ap (λ (f : Form). needed_blocks f c.args.count) is

pub returns-in_err-image-clause-refused : goal.returns-in_err-image-clause-refused
returns-in_err-image-clause-refused g c =
    let d = g.D.Disk in
    let x = d.image c.args.disk.now in
    let first = c.check.ensures.reads in
    let sound = c.in_ok-check.ensures.ok in
    let fault = c.in_err-image.field-0.0 in
    let why = open_fault (d.image c.check.new.disk) (d.fault_count c.check.new.disk) (d.fault_count c.open.new.disk) fault (ap verdict first.image ∙ sound) c.in_err-image.ensures.fault c.in_err-image.ensures.memory in
    let p = err_from_is_err_and c.from_residual-in_err-image.result c.from_residual-in_err-image.ensures.1 in
    rw (p.1, p.2)
    (record {
      cause = inr (inl (why.0, subst (λ (n : ℕ). Rose n (d.fault_count c.open.new.disk)) c.in_ok-check.ensures.faults why.1));
      reads = reads_then d c.args.disk.now c.check.new.disk c.open.new.disk first c.open.ensures.reads;
    })

pub returns-in_err-old-clause-refused : goal.returns-in_err-old-clause-refused
returns-in_err-old-clause-refused g c =
    let d = g.D.Disk in
    let read = reads_then d c.args.disk.now c.check.new.disk c.open.new.disk c.check.ensures.reads c.open.ensures.reads in
    let p = err_from_is_err_and c.from_residual-in_err-old.result c.from_residual-in_err-old.ensures.1 in
    rw (p.1, p.2)
    (old_told d c.args.inum c.args.count c.args.disk.now c.open.new.disk c.old_blocks.new.disk c.in_ok-check.ensures.ok read c.old_blocks.ensures.reads
    (c.in_ok-image.ensures.faults ∙ c.in_ok-check.ensures.faults) c.in_err-old.field-0.0 c.in_err-old.ensures.refused)

pub returns-then-count-greatest_size-clause-refused : goal.returns-then-count-greatest_size-clause-refused
returns-then-count-greatest_size-clause-refused g c =
    let at = (goal.at.returns-then-count-greatest_size-clause-refused g c).After-greatest_size in
    let size = greatest g at in
    record {
      cause = (c.in_ok-check.ensures.ok, faults g at, (found g at).plain, omega (arith, c.if-count-greatest_size.true, size));
      reads = reads g at;
    }

pub returns-then-needed_blocks-free-clause-refused : goal.returns-then-needed_blocks-free-clause-refused
returns-then-needed_blocks-free-clause-refused g c =
    let at = goal.at.returns-then-needed_blocks-free-clause-refused g c in
    let old = found g at.After-greatest_size in
    let before = reads g at.After-greatest_size in
    let free = free g at.After-needed_blocks before.image in
    let need = need g at.After-needed_blocks _ (form g at.After-greatest_size) in
    record {
      cause = (c.in_ok-check.ensures.ok, c.in_ok-free.ensures.faults ∙ faults g at.After-greatest_size, old.plain, omega (arith, c.if-needed_blocks-free.true, need, free, old.count));
      reads = reads_then g.D.Disk _ _ _ before c.free_blocks.ensures.reads;
    }

pub returns-clause-fit : goal.returns-clause-fit
returns-clause-fit g c =
    let at = goal.at.returns-clause-fit g c in
    let old = found g at.After-greatest_size in
    let before = reads g at.After-greatest_size in
    let size = greatest g at.After-greatest_size in
    let free = free g at.After-needed_blocks before.image in
    let need = need g at.After-needed_blocks _ (form g at.After-greatest_size) in
    record {
      sound = c.in_ok-check.ensures.ok;
      room = record {
        old = old.there;
        plain = old.plain;
        size = omega (arith, c.if-count-greatest_size.false, size);
        blocks = omega (arith, c.if-needed_blocks-free.false, need, free, old.count);
      };
      reads = reads_then g.D.Disk _ _ _ before c.free_blocks.ensures.reads;
      faults = c.in_ok-free.ensures.faults ∙ faults g at.After-greatest_size;
    }

pub returns-clause-twice : goal.returns-clause-twice
returns-clause-twice g c =
    let at = goal.at.returns-clause-twice g c in
    let y = recovered (g.D.Disk.image c.args.disk.now) in
    let old = found g at.After-greatest_size in
    let before = reads g at.After-greatest_size in
    let free = free g at.After-needed_blocks before.image in
    c.fits_twice.ensures
    ∙ ap (λ (f : Form). fits_twice (needed_blocks f c.args.count) c.in_ok-free.free c.in_ok-old.old) (form g at.After-greatest_size)
    ∙ ap (λ (n : ℕ). fits_twice (needed_blocks (form_of y) c.args.count) n c.in_ok-old.old) free
    ∙ ap (λ (n : ℕ). fits_twice (needed_blocks (form_of y) c.args.count) (free_count y) n) old.count
