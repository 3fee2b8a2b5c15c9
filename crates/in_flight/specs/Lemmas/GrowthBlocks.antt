-- The blocks of a task that writes, and the size that it reached.
use Rattle.std.proofs.Common.{◌≡◌, ◌≢◌, ℕ, ◌+◌, ◌*◌, ◌<◌, ◌≤◌, List, ◌++◌, length, take, drop, max, Option, Some, None, sym, ap, subst, ◌∙◌, arith, length-append}
use Rattle.model.specs.Places.{address_in}
use Rattle.in_flight.specs.Lemmas.Apart.{data_marked, slot_marked}
use Rattle.in_flight.specs.Lemmas.HeldFrames.{growing_of}
use Rattle.std.proofs.lemmas.List.{length-drop}
use Rattle.in_flight.specs.Common.{Claims, Dinode, File, file_in, Files, grows, Growth, GrowthHasBlocks, HasGrowthBlocks, Image, IsFullAt, IsGrowing, IsHeldIn, length-bytes_in, length-take-le, overwritten}
use Rattle.in_flight.specs.Lemmas.Placing.{lies_small}
use Rattle.in_flight.specs.Lemmas.HeldLooks.{held_has_blocks}

-- bytes over others, to whose end they reach or past it
pub length-written_over : (old : List ℕ) (at : ℕ) (bytes : List ℕ) → at ≤ length old →
    length (overwritten old at bytes) ≡ max (length old) (at + length bytes)
length-written_over old at bytes inside =
    omega (
      arith,
      inside,
      length-append (take at old ++ bytes) (drop (at + length bytes) old),
      length-append (take at old) bytes,
      length-take-le at old inside,
      length-drop (at + length bytes) old,
    )

-- the file that there is, or another one
abbrev file_or : File → Option File → File
file_or f None = f
file_or f (Some e) = e

pub same_file_there : (these others : File) → Some these ≡ Some others → these ≡ others
same_file_there these others e = ap (file_or these) e

module _ (m : Files) (x : Image) (claims : Claims) (i : ℕ) (g : Growth) (h : IsHeldIn m x claims i (grows g)) where
  abbrev d : Dinode
  d = g.copy

  abbrev pub growing : IsGrowing x i g (file_in m i)
  growing = growing_of m x claims i g h

  -- a block that the copy leads to has 1024 bytes
  pub full_block : (k : ℕ) → address_in x d k ≢ 0 → IsFullAt x (address_in x d k)
  full_block k some =
      let there = data_marked m x claims i g h k some in
      (some, h.fits.full (address_in x d k) (omega (arith, ((lies_small x (address_in x d k) h.fits.geometry h.fits.full there.0).behind))) there.0.1)

  pub copy_full : (k : ℕ) → k * 1024 < d.size → IsFullAt x (address_in x d k)
  copy_full k need = full_block k (growing.fit.whole k need)

  pub copy_size : d.size ≡ max (length growing.old.bytes) (g.offset + length g.written)
  copy_size =
      sym (length-bytes_in x d copy_full) ∙ ap length growing.bytes
      ∙ length-written_over growing.old.bytes g.offset g.written growing.reaches

  has_blocks : (old : File) → file_in m i ≡ Some old → HasGrowthBlocks x g old
  has_blocks old is = record {
    leads = record {
      needed = λ k need. (data_marked m x claims i g h k (growing.fit.whole k need)).0;
      named = λ e low some. (slot_marked m x claims i g h e some).0;
    };
    blocks = held_has_blocks m x claims i (grows g) h;
    size = subst (λ (f : File). d.size ≡ max (length f.bytes) (g.offset + length g.written)) (same_file_there growing.old old (sym growing.was ∙ is)) copy_size;
  }

pub growth_has_blocks : GrowthHasBlocks
growth_has_blocks m x claims i g old h is = has_blocks m x claims i g h old is
