-- A sound image stands for its own files, and one that stands for files is sound with an empty log.
use Rattle.std.proofs.Common.{◌≡◌, ◌≢◌, ℕ, ◌+◌, ◌-◌, ◌<◌, ◌≤◌, List, length, None, refl, sym, ap, subst, ◌∙◌, ⊎_elim, arith}
use Rattle.std.specs.Prelude.{All}
use Rattle.std.specs.List.{AllByRecursion}
use Rattle.std.proofs.lemmas.List.Elements.{All-from_recursion, recursion_from_All}
use Rattle.std.proofs.lemmas.List.FromFn.{fill_by_all}
use Rattle.in_flight.specs.Common.{addresses_in, All-range, All-range_at, all_weaker, block_at, cases_eq, count_of-All, facts_of, file_at, file_in, Files, files_of, filled_whole, Fits, form_of, Image, inode_block, inode_count_of, inode_in_data, is_dinode-inode_of, IsFilled, IsFit, IsImage, IsInData, IsLawfulInode, IsLoose, IsSound, length-words_of-block, LiesInData, places_of, pointers_free, pointers_named, pointers_of, words_of}
use Rattle.model.specs.Layout.{inode_of}
use Rattle.model.specs.Lemmas.FileNumbers.{length-files_of, file_in-files_of, file_in-files_of_zero}
use Rattle.in_flight.specs.Laws.{SoundFits, FitsSoundly}
use Rattle.in_flight.specs.Lemmas.Frames.{AllByRecursion-counted, named_in_data}
use Rattle.in_flight.specs.Lemmas.Wholes.{HasFew, whole_filled}

-- ---- a sound image

pub loose_sound : (x : Image) → IsSound x → IsLoose x (places_of x)
loose_sound x sound = record {
  in_data = λ b some. count_of-All (LiesInData x) b (places_of x) (recursion_from_All (LiesInData x) (places_of x) sound.in_data) some;
  once = sound.once;
  marked = sound.marked;
}

pub fit_sound : (x : Image) (i : ℕ) → IsImage x → IsSound x → 1 ≤ i → i < inode_count_of x → (inode_of x i).kind ≢ 0 → IsFit x (inode_of x i)
fit_sound x i is sound low high used =
    let n = inode_count_of x - 1 in
    let d = inode_of x i in
    let g = facts_of x sound.geometry in
    let size = g.size in
    let room = g.room in
    let inside : i < 1 + n = omega arith in
    let lawful = All-range_at (λ j. IsLawfulInode (form_of x) (inode_of x j)) 1 n i sound.inodes low inside in
    let filled = recursion_from_All IsFilled (pointers_of x i) (All-range_at (λ j. All IsFilled (pointers_of x j)) 1 n i sound.filled low inside) in
    let fields = is_dinode-inode_of x i (is (inode_block i) (omega arith)) in
    record {
      fields = fields;
      used = used;
      kind = lawful.kind;
      size = lawful.size used;
      whole = filled_whole x d used fields.count (lawful.size used) filled
          (all_weaker (IsInData x) (λ a. length (words_of (block_at x a)) ≡ 256) (addresses_in (pointers_of x i))
          (λ a h. length-words_of-block (block_at x a) (is a h.1).size) (inode_in_data x i sound low high));
    }

pub fits_sound : SoundFits
fits_sound x is sound = record {
  geometry = sound.geometry;
  full = λ b low within. (is b within).size;
  loose = loose_sound x sound;
  count = length-files_of x;
  zero = file_in-files_of_zero x;
  each = λ i low high. record {
    same = sym (file_in-files_of x i high);
    fit = fit_sound x i is sound low high;
  };
}

-- ---- an image that stands for files

file_zero : (x : Image) → file_at x 0 ≡ None
file_zero x = refl

-- these are its files, whatever its log
pub files_fit : (m : Files) (x : Image) → Fits m x → files_of x ≡ m
files_fit m x f =
    sym (fill_by_all (file_at x) m (inode_count_of x) None f.count
    (λ k low. ⊎_elim
    (λ (z : k ≡ 0). ap (file_in m) z ∙ f.zero ∙ sym (ap (file_at x) z ∙ file_zero x))
    (λ (some : k ≢ 0). sym (f.each k (omega arith) low).same)
    (cases_eq k 0)))

few_named : (m : Files) (x : Image) (i : ℕ) → Fits m x → 1 ≤ i → i < inode_count_of x →
    AllByRecursion (HasFew x) (addresses_in (pointers_of x i))
few_named m x i f low high =
    AllByRecursion-counted (HasFew x) (addresses_in (pointers_of x i))
    (λ a some.
    let there = named_in_data m x i a f low high some in
    let start = there.0 in
    let count = length-words_of-block (block_at x a) (f.full a (omega arith) there.1) in omega arith)

filled_fit : (m : Files) (x : Image) (i : ℕ) → Fits m x → 1 ≤ i → i < inode_count_of x → AllByRecursion IsFilled (pointers_of x i)
filled_fit m x i f low high =
    let d = inode_of x i in
    ⊎_elim
    (λ (free : d.kind ≡ 0). rw (pointers_free x d free) tt)
    (λ (used : d.kind ≢ 0).
    whole_filled x d used (subst (λ (l : List ℕ). AllByRecursion (HasFew x) l) (pointers_named x d) (few_named m x i f low high))
    ((f.each i low high).fit used).whole)
    (cases_eq d.kind 0)

lawful_fit : (m : Files) (x : Image) (i : ℕ) → Fits m x → 1 ≤ i → i < inode_count_of x → IsLawfulInode (form_of x) (inode_of x i)
lawful_fit m x i f low high =
    let rest = f.each i low high in
    record {
      kind = ⊎_elim
          (λ (free : (inode_of x i).kind ≡ 0). omega arith)
          (λ (used : (inode_of x i).kind ≢ 0). (rest.fit used).kind)
          (cases_eq (inode_of x i).kind 0);
      size = λ used. (rest.fit used).size;
    }

pub sound_quiet : FitsSoundly
sound_quiet m x f empty =
    let n = inode_count_of x - 1 in (
      record {
        geometry = f.geometry;
        empty_log = empty;
        inodes = All-range (λ i. IsLawfulInode (form_of x) (inode_of x i)) 1 n (λ i low high. lawful_fit m x i f low (omega arith));
        filled = All-range (λ i. All IsFilled (pointers_of x i)) 1 n
            (λ i low high. All-from_recursion IsFilled (pointers_of x i) (filled_fit m x i f low (omega arith)));
        in_data = All-from_recursion (LiesInData x) (places_of x)
            (AllByRecursion-counted (LiesInData x) (places_of x) (λ a some. f.loose.in_data a (λ none. omega arith)));
        once = f.loose.once;
        marked = f.loose.marked;
      },
      files_fit m x f,
    )
