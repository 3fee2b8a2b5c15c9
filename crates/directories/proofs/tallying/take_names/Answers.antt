use Rattle.std.proofs.Common.{◌∙◌, ◌<◌, ℕ, Option, length, subst, arith}
use Rattle.blocks.specs.Disk.{Image}
use Rattle.blocks.specs.Lemmas.Reads.{reads_then}
use Rattle.model.specs.Files.{files_of, Files}
use Rattle.model.specs.Log.{recovered}
use Rattle.directories.specs.Tallying.{names_at, Takes}
use Rattle.directories.proofs.Takings.{counted_files, short_file, taken_by, takes_all, takes_file}
use Rattle.directories.proofs.tallying.take_names.Given.{Over}
use Rattle.directories.proofs.tallying.take_names.Goals.{In_ok-number}
use Rattle.directories.proofs.tallying.take_names.Goals as goal

module _ (g : Over) (c : In_ok-number g) where
  abbrev fs : Files
  fs = files_of (recovered (g.D.Disk.image c.args.disk.now))

  inside : c.loop-from.from < length fs
  inside = omega (arith, counted_files (g.D.Disk.image c.args.disk.now) c.args.image.now c.requires.recovered, c.loop-from-test.true)

  takes : Takes (names_at fs c.loop-from.from) c.loop-from.left c.take_at.new.left c.in_ok-number.field-0
  takes =
      subst (λ (y : Image). Takes (names_at (files_of (recovered y)) c.loop-from.from) c.loop-from.left c.take_at.new.left c.in_ok-number.field-0)
      c.loop-from.invariant.reads.image c.in_ok-number.ensures.takes

pub returns-in-Some-clause-takes : goal.returns-in-Some-clause-takes
returns-in-Some-clause-takes g c =
    let at = (goal.at.returns-in-Some-clause-takes g c).In_ok-number in
    short_file (fs g at) c.loop-from.from c.args.left.now c.loop-from.left (inside g at) c.loop-from.invariant.taken c.in-Some.number
    (subst (λ (o : Option ℕ). Takes (names_at (fs g at) c.loop-from.from) c.loop-from.left c.take_at.new.left o) c.in-Some.is (takes g at))

pub loop-from-preserved : goal.loop-from-preserved
loop-from-preserved g c =
    let at = (goal.at.loop-from-preserved g c).In_ok-number in
    record {
      reads = reads_then g.D.Disk c.args.disk.now c.loop-from.disk c.take_at.new.disk c.loop-from.invariant.reads c.take_at.ensures.reads;
      faults = c.in_ok-number.ensures.faults ∙ c.loop-from.invariant.faults;
      taken = takes_file (fs g at) c.loop-from.from c.args.left.now c.loop-from.left (inside g at) c.loop-from.invariant.taken c.take_at.new.left
          (taken_by (names_at (fs g at) c.loop-from.from) c.loop-from.left c.take_at.new.left c.in_ok-number.field-0 c.in_default.not-Some (takes g at));
    }

pub returns-clause-takes : goal.returns-clause-takes
returns-clause-takes g c =
    let x = g.D.Disk.image c.args.disk.now in
    takes_all (files_of (recovered x)) c.loop-from.from c.args.left.now c.loop-from.left
    (omega (arith, counted_files x c.args.image.now c.requires.recovered, c.loop-from-test.false)) c.loop-from.invariant.taken
