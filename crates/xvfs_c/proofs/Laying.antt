-- An image in memory, laid into C's bytes.
use Rattle.std.proofs.Common.{◌≡◌, ◌∙◌, ◌*◌, ℕ, List, length, sym, ap, arith}
use Rattle.std.specs.List.{concat}
use Rattle.std.specs.Simd.{first_chunks}
use Rattle.blocks.specs.Disk.{Image, IsImage}
use Rattle.sessions.specs.Refusal.{HasBlocks}
use Rattle.xvfs_c.specs.Images.{HasImage}
use Rattle.model.specs.Codec.{made_image}
use Rattle.model.specs.Lemmas.Log.{length-recovered}
use Rattle.model.specs.Lemmas.MadeImages.{length-made_image}
use Rattle.model.specs.Log.{recovered}
use Rattle.model.specs.declared.types.image.Form.{Form}
use Rattle.xvfs_c.proofs.Chunks.{first_chunks-concat, length-concat, length-first_chunks}

-- an image of as many blocks as other bytes had is laid
pub has_laid : (old new : List ℕ) (x : Image) (count : ℕ) → HasBlocks old count → IsImage x → length x ≡ count → new ≡ concat x → HasImage new x
has_laid old new x count has is long laid = record {
  count = length x;
  blocks = record {
    some = omega (arith, long, has.some);
    few = omega (arith, long, has.few);
    whole = ap length laid ∙ length-concat x is;
  };
  is = sym (ap (first_chunks 1024 (length x)) laid ∙ first_chunks-concat x is);
}

-- the memory that it is laid into has room
pub has_room : (old : List ℕ) (x : Image) (count : ℕ) → HasBlocks old count → length x ≡ count → length old ≡ length x * 1024
has_room old x count has long = omega (arith, has.whole, long)

-- as many blocks as the bytes that they are cut from
pub cut_long : (count : ℕ) (bytes : List ℕ) (x : Image) → x ≡ first_chunks 1024 count bytes → count ≡ length x
cut_long count bytes x is = sym (ap length is ∙ length-first_chunks count bytes)

pub made_long : (form : Form) (count n : ℕ) (x : Image) → x ≡ made_image form count n → length x ≡ count
made_long form count n x is = ap length is ∙ length-made_image form count n

pub recovered_long : (count : ℕ) (bytes : List ℕ) (x y : Image) → x ≡ first_chunks 1024 count bytes → y ≡ recovered x → length y ≡ count
recovered_long count bytes x y cut is = ap length is ∙ length-recovered x ∙ sym (cut_long count bytes x cut)
