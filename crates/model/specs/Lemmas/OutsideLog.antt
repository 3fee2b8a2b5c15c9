-- Images that differ in the log alone are sound together, and have the same files.
use Rattle.std.proofs.Common.{◌≡◌, ◌≢◌, ℕ, zero, suc, ◌+◌, ◌-◌, ◌<◌, ◌≤◌, true, ◌||◌, ltb, List, [], ◌∷◌, length, map, refl, sym, ap, subst, ◌∙◌, ⊎_elim, arith}
use Rattle.std.specs.Prelude.{All}
use Rattle.std.specs.List.{flat_map, list_all, range_with_len, AllByRecursion}
use Rattle.model.specs.Common.{addresses_in, block_at, cases_eq, cleared, Dinode, file_at, files_of, first_data_block, Form, form_of, get_or-set_other, Image, inode_block, inode_bytes_in, inode_count_of, is_known_magic, is_lawful_super, is_marked, le-ltb, length-set, logged_count, lt-ltb, meta_count, ne_eqb, places_of, Pointer, pointers_of, SameOutsideLog, SameWhenCleared, SameWhenRecovered, Super, super_of}
use Rattle.blocks.specs.Block.{zero_block}
use Rattle.model.specs.Fields.{u32_at, has_bit}
use Rattle.model.specs.Layout.{super_in, inode_of, inode_in}
use Rattle.model.specs.Log.{recovered}
use Rattle.model.specs.Places.{pointers_in}
use Rattle.model.specs.Files.{file_of}
use Rattle.model.specs.Soundness.{IsSound, IsLawfulInode, IsFilled, count_of, place_count}
use Rattle.model.specs.Agreement.{Agrees, AgreesFor, IsSameOutsideLog, is_outside_log}
use Rattle.model.specs.Lemmas.Log.{length-recovered}
use Rattle.model.specs.Lemmas.Recovery.{logged_count-left}
use Rattle.model.specs.Lemmas.Counts.{All-range, All-range_at}
use Rattle.model.specs.Lemmas.Frames.{form_agree, pointers_agree, file_agree}
use Rattle.model.specs.Lemmas.Soundness.{IsInData, inode_in_data, facts_of}

-- functions that agree on a row of numbers
pub map_range_same : {X : Type 0} (f g : ℕ → X) (a n : ℕ) → ((i : ℕ) → a ≤ i → i < a + n → g i ≡ f i) →
    map g (range_with_len a n) ≡ map f (range_with_len a n)
map_range_same f g a zero same = refl
map_range_same f g a (suc n) same =
    rw (same a (omega arith) (omega arith), map_range_same f g (a + 1) n (λ i low high. same i (omega arith) (omega arith))) refl

pub flat_map_range_same : {X : Type 0} (f g : ℕ → List X) (a n : ℕ) → ((i : ℕ) → a ≤ i → i < a + n → g i ≡ f i) →
    flat_map g (range_with_len a n) ≡ flat_map f (range_with_len a n)
flat_map_range_same f g a zero same = refl
flat_map_range_same f g a (suc n) same =
    rw (same a (omega arith) (omega arith), flat_map_range_same f g (a + 1) n (λ i low high. same i (omega arith) (omega arith))) refl

pub behind_log : (b : ℕ) → 33 ≤ b → is_outside_log b ≡ true
behind_log b h = rw (le-ltb b 2 (omega arith), lt-ltb 32 b (omega arith)) refl

-- the header lies in the log
header_inside : (b : ℕ) → is_outside_log b ≡ true → b ≢ 2
header_inside b out same = absurd (cc (subst (λ (a : ℕ). is_outside_log a ≡ true) same out))

-- clearing it leaves the rest
pub cleared_outside : (x : Image) → IsSameOutsideLog x (cleared x)
cleared_outside x = record {
  size = length-set x 2 zero_block;
  agree = λ b out. get_or-set_other x 2 b zero_block [] (header_inside b out);
}

-- data blocks lie behind the log
data_behind : (x : Image) (addresses : List ℕ) → AllByRecursion (IsInData x) addresses → list_all is_outside_log addresses ≡ true
data_behind x [] h = refl
data_behind x (a ∷ addresses) h =
    let low = h.0.0 in
    rw (behind_log a (omega arith)) (data_behind x addresses h.1)

-- what two images have in common that agree outside the log
record Likeness (x y : Image) : Type 0 where
  super : super_of y ≡ super_of x
  form : form_of y ≡ form_of x
  inodes : (i : ℕ) → inode_of y i ≡ inode_of x i
  marks : (b : ℕ) → is_marked y b ≡ is_marked x b
  pointers : (i : ℕ) → 1 ≤ i → i < inode_count_of x → pointers_of y i ≡ pointers_of x i
  files : (i : ℕ) → 1 ≤ i → i < inode_count_of x → file_of y (inode_of y i) ≡ file_of x (inode_of x i)
  places : places_of y ≡ places_of x

pub inode_agree : (x y : Image) (i : ℕ) → Agrees is_outside_log x y → inode_of y i ≡ inode_of x i
unfolding inode_of
inode_agree x y i agree = ap (λ block. inode_in (inode_bytes_in block i)) (agree (inode_block i) (behind_log (inode_block i) (omega arith)))

inode_agrees_for : (x y : Image) (i : ℕ) → Agrees is_outside_log x y → IsSound x → 1 ≤ i → i < inode_count_of x →
    AgreesFor is_outside_log x y (inode_of x i)
inode_agrees_for x y i agree sound low high = record {
  agree = agree;
  one = refl;
  names = data_behind x (addresses_in (pointers_of x i)) (inode_in_data x i sound low high);
}

likeness : (x y : Image) → Agrees is_outside_log x y → IsSound x → Likeness x y
likeness x y agree sound =
    let super : super_of y ≡ super_of x = ap super_in (agree 1 refl) in
    let map = (facts_of x sound.geometry).map in
    let bitmap : block_at y (super_of y).bmapstart ≡ block_at x (super_of x).bmapstart
    = ap (λ (s : Super). block_at y s.bmapstart) super ∙ agree (super_of x).bmapstart (behind_log (super_of x).bmapstart (omega arith)) in
    let pointers : (i : ℕ) → 1 ≤ i → i < inode_count_of x → pointers_of y i ≡ pointers_of x i
    = λ i low high. ap (pointers_in y) (inode_agree x y i agree)
    ∙ pointers_agree is_outside_log x y (inode_of x i) (inode_agrees_for x y i agree sound low high) in
    record {
      super = super;
      form = form_agree is_outside_log x y agree refl;
      inodes = λ i. inode_agree x y i agree;
      marks = λ b. ap (λ block. has_bit block b) bitmap;
      pointers = pointers;
      files = λ i low high. ap (file_of y) (inode_agree x y i agree)
          ∙ file_agree is_outside_log x y (inode_of x i) (inode_agrees_for x y i agree sound low high);
      places = ap (λ (s : Super). flat_map (λ i. addresses_in (pointers_of y i)) (range_with_len 1 (s.ninodes - 1))) super
          ∙ flat_map_range_same (λ i. addresses_in (pointers_of x i)) (λ i. addresses_in (pointers_of y i)) 1 (inode_count_of x - 1)
          (λ i low high. ap addresses_in (pointers i low (omega arith)));
    }

sound_alike : (x y : Image) → length y ≡ length x → Agrees is_outside_log x y → IsSound x → logged_count y ≡ 0 → Likeness x y → IsSound y
sound_alike x y size agree sound empty alike =
    let n = inode_count_of x - 1 in
    let same : inode_count_of y - 1 ≡ n = ap (λ (s : Super). s.ninodes - 1) alike.super in
    let start : first_data_block y ≡ first_data_block x = ap (λ (s : Super). meta_count s.size s.ninodes) alike.super in
    record {
      geometry = record {
        magic = ap (λ b. is_known_magic (u32_at b 0)) (agree 1 refl) ∙ sound.geometry.magic;
        fields = ap (λ s. is_lawful_super s (length y)) alike.super ∙ ap (is_lawful_super (super_of x)) size ∙ sound.geometry.fields;
      };
      empty_log = empty;
      inodes = subst (λ (m : ℕ). All (λ i. IsLawfulInode (form_of y) (inode_of y i)) (range_with_len 1 m)) (sym same)
          (All-range (λ i. IsLawfulInode (form_of y) (inode_of y i)) 1 n
          (λ i low high. subst (λ (d : Dinode). IsLawfulInode (form_of y) d) (sym (alike.inodes i))
          (subst (λ (f : Form). IsLawfulInode f (inode_of x i)) (sym alike.form)
          (All-range_at (λ j. IsLawfulInode (form_of x) (inode_of x j)) 1 n i sound.inodes low high))));
      filled = subst (λ (m : ℕ). All (λ i. All IsFilled (pointers_of y i)) (range_with_len 1 m)) (sym same)
          (All-range (λ i. All IsFilled (pointers_of y i)) 1 n
          (λ i low high. subst (λ (l : List Pointer). All IsFilled l) (sym (alike.pointers i low (omega arith)))
          (All-range_at (λ j. All IsFilled (pointers_of x j)) 1 n i sound.filled low high)));
      in_data = subst (λ (l : List ℕ). All (λ a. (first_data_block y ≤ a) × (a < length y)) l) (sym alike.places)
          (λ k d h. let there = sound.in_data k d h in (omega arith, omega arith));
      once = λ b. subst (λ (l : List ℕ). count_of b l ≤ 1) (sym alike.places) (sound.once b);
      marked = λ b h. alike.marks b ∙ sound.marked b (omega arith)
          ∙ sym (ap (λ s. ltb b s || ltb 0 (place_count y b)) start ∙ ap (λ l. ltb b (first_data_block x) || ltb 0 (count_of b l)) alike.places);
    }

files_alike : (x y : Image) → Likeness x y → files_of y ≡ files_of x
files_alike x y alike =
    ap (λ (s : Super). map (file_at y) (range_with_len 0 s.ninodes)) alike.super
    ∙ map_range_same (file_at x) (file_at y) 0 (inode_count_of x)
    (λ i low high.
    ⊎_elim (λ (e : i ≡ 0). rw e refl)
    (λ (some : i ≢ 0). rw (ne_eqb i 0 some) (alike.files i (omega arith) (omega arith))) (cases_eq i 0))

pub same_outside_log : SameOutsideLog
same_outside_log x y size agree sound empty =
    let alike = likeness x y agree sound in (sound_alike x y size agree sound empty alike, files_alike x y alike)

pub same_when_recovered : SameWhenRecovered
same_when_recovered x y size agree sound =
    same_outside_log (recovered x) (recovered y) (length-recovered y ∙ size ∙ sym (length-recovered x)) agree sound (logged_count-left y)

pub same_when_cleared : SameWhenCleared
same_when_cleared x empty sound =
    let out = cleared_outside x in
    same_outside_log (cleared x) x (sym out.size) (λ b outside. sym (out.agree b outside)) sound empty
