-- Reading the recovered image block by block.
use Rattle.std.proofs.Common.{◌≡◌, ◌≢◌, ℕ, ◌+◌, ◌<◌, ◌≤◌, true, false, List, [], ◌∷◌, ◌++◌, drop, length, get_or, replicate, Option, Some, None, refl, sym, ap, subst, ◌∙◌, ⊎_elim, arith}
use Rattle.std.specs.Prelude.{slice_get}
use Rattle.offline.specs.Common.{append-nil, BadGeometry, block_at, block_from_log, cases_eq, CheckFault, Form, form_of, geometry_fault, get_or-replicate, get_or_from_slice_get, homes_of, Image, inodes_fault, is_known_magic, is_lawful_log, is_lawful_super, IsBlock, IsCause, lawful_geometry, le-ltb, length-append, length-recovered, length-replicate, log_fault, logged_count, lt-ltb, marks_fault, meta_count, ne_eqb, no_homes, or_else, or_else-assoc, overwritten, Owners, place_among, recovered, recovered_at, recovered_empty, recovered_low, source_among, source_at, Stand, Super, super_in, super_of, super_of-recovered, u32_at}
use Rattle.blocks.specs.Block.{zero_block}
use Rattle.model.specs.Log.{recovered_block}
use Rattle.model.specs.Verdict.{verdict}
use Rattle.offline.specs.Check.{IsGround}
use Rattle.offline.proofs.OwnersLemmas.{cause_first}

block_from_log-source : (x : Image) (b : ℕ) (place : Option ℕ) → block_from_log x b place ≡ block_at x (source_at place b)
block_from_log-source x b None = refl
block_from_log-source x b (Some k) = refl

-- a block of the recovered image is the block at its source
pub recovered_source : (x : Image) (b : ℕ) → b ≢ 2 → b < length x → block_at (recovered x) b ≡ block_at x (source_among (homes_of x) b)
unfolding recovered_block
recovered_source x b other inside =
    ⊎_elim
    (λ (e : logged_count x ≡ 0).
    ap (λ y. block_at y b) (recovered_empty x e) ∙ sym (ap (λ homes. block_at x (source_among homes b)) (no_homes x e)))
    (λ (some : logged_count x ≢ 0).
    recovered_at x b some inside ∙ rw (ne_eqb b 2 other) (block_from_log-source x b (place_among (homes_of x) b)))
    (cases_eq (logged_count x) 0)

-- a superblock that passes the tests has no fault
pub geometry_passes : (x : Image) (bytes : List ℕ) → 2 ≤ length x → slice_get x 1 ≡ Some bytes → is_known_magic (u32_at bytes 0) ≡ true →
    is_lawful_super (super_in bytes) (length x) ≡ true → geometry_fault x ≡ None
geometry_passes x bytes long read magic lawful =
    rw (le-ltb (length x) 2 long, (get_or_from_slice_get x 1 bytes [] read), magic, lawful) refl

-- a table of no places yet
pub stand_new : (x : Image) (sup : Super) (form : Form) (owners : Owners) → IsGround x sup form → owners.first_data ≡ meta_count sup.size sup.ninodes → owners.size ≡ sup.size →
    owners.bitmap ≡ block_at (recovered x) sup.bmapstart → owners.owned.items ≡ replicate sup.size false → Stand owners (recovered x) []
stand_new x sup form owners ground first size bitmap owned = record {
  limits = record {
    first = first ∙ ap (λ s. meta_count s.size s.ninodes) ground.same;
    size = size ∙ ground.size ∙ sym (length-recovered x);
    bitmap = bitmap ∙ ap (λ s. block_at (recovered x) s.bmapstart) ground.same;
  };
  records = λ b below. ap (λ l. get_or l b false) owned
      ∙ get_or-replicate sup.size b false false (omega (arith, owners.sized, size));
}

-- what a superblock without a fault gives of the recovered image
pub ground : (x : Image) (sup : Super) (form : Form) → geometry_fault x ≡ None → is_lawful_log x ≡ true → sup ≡ super_of x → form ≡ form_of x → IsGround x sup form
ground x sup form none lawful same told =
    let f = lawful_geometry x none in
    let room = f.room in
    let size = f.size in
    let long : 1 < length x = omega arith in
    record {
      same = same ∙ sym (super_of-recovered x lawful long);
      is_form = rw (recovered_low x 1 lawful (omega arith) (omega arith) long) (sym told);
      size = rw same f.size;
      some = rw same f.some;
      few = rw same f.few;
      room = rw same f.room;
      small = rw same f.small;
      bitmap = rw same f.map;
    }

-- the first fault of superblock and log is the image's
pub verdict_opening : (x : Image) (old new : ℕ) (fault : CheckFault) → IsCause (or_else (geometry_fault x) (log_fault x)) old new fault → IsCause (verdict x) old new fault
unfolding verdict
verdict_opening x old new fault h =
    let rest = or_else (inodes_fault (recovered x)) (marks_fault (recovered x)) in
    subst (λ (o : Option CheckFault). IsCause o old new fault) (sym (or_else-assoc (geometry_fault x) (log_fault x) rest))
    (cause_first (or_else (geometry_fault x) (log_fault x)) rest old new fault h)

pub verdict_contents : (x : Image) → geometry_fault x ≡ None → is_lawful_log x ≡ true →
    verdict x ≡ or_else (inodes_fault (recovered x)) (marks_fault (recovered x))
unfolding verdict
verdict_contents x none lawful = rw (none, lawful) refl

pub verdict_short : (x : Image) → length x < 2 → verdict x ≡ Some BadGeometry
unfolding verdict
verdict_short x h = rw (lt-ltb (length x) 2 h) refl

pub opening_short : (x : Image) → length x < 2 → or_else (geometry_fault x) (log_fault x) ≡ Some BadGeometry
opening_short x h = rw (lt-ltb (length x) 2 h) refl

-- zeroes in the place of a whole block
pub overwritten_by_zeroes : (old new : List ℕ) → new ≡ overwritten old 0 (replicate 1024 0) → IsBlock new → new ≡ zero_block
unfolding zero_block
overwritten_by_zeroes old new put block = put ∙ whole (replicate 1024 0) (drop (0 + length {A = ℕ} (replicate 1024 0)) old) (length-replicate {A = ℕ} 1024 0) (ap length (sym put) ∙ block.size)
  where
    whole : (front rest : List ℕ) → length front ≡ 1024 → length (front ++ rest) ≡ 1024 → front ++ rest ≡ front
    whole front [] size all = append-nil front
    whole front (a ∷ rest) size all = absurd (omega (arith, length-append front (a ∷ rest), size, all))
