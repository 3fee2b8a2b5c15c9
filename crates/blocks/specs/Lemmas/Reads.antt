-- Reads of a disk, one after the other.
use Rattle.std.proofs.Common.{◌∙◌, refl, arith}
use Rattle.blocks.specs.Calls.{OnlyReads}
use Rattle.blocks.specs.declared.disk.Disk.{Ghosts}

module _ {D N : Type 0} (disk : Ghosts D N) where
  -- none yet
  pub reads_none : (d : D) → OnlyReads disk d d
  reads_none d = record { name = refl; image = refl; writes = refl; syncs = refl; time = record { later = omega arith; adds = λ t x le left. left; keeps = λ t x le left. left } }

  -- reads, and then reads
  pub reads_then : (old mid new : D) → OnlyReads disk old mid → OnlyReads disk mid new → OnlyReads disk old new
  reads_then old mid new first then_on = record {
    name = then_on.name ∙ first.name;
    image = then_on.image ∙ first.image;
    writes = then_on.writes ∙ first.writes;
    syncs = then_on.syncs ∙ first.syncs;
    time = record {
      later = omega (arith, first.time.later, then_on.time.later);
      adds = λ t x le left. first.time.adds t x le (then_on.time.adds t x (omega (arith, le, first.time.later)) left);
      keeps = λ t x le left. then_on.time.keeps t x (omega (arith, le, first.time.later)) (first.time.keeps t x le left);
    };
  }
