-- The files of the new image, stage by stage.
use Rattle.std.proofs.Common.{◌≡◌, ◌≢◌, ◌∙◌, ℕ, ◌+◌, ◌-◌, ◌<◌, ◌≤◌, min, List, [], ◌++◌, length, get_or, map, set, replicate, take, take-take, drop, Option, Some, None, refl, sym, ap, subst, ⊎_elim, arith}
use Rattle.std.proofs.Math.Seq.{take-add}
use Rattle.std.proofs.lemmas.Bool.{cases_lt, cases_eq}
use Rattle.std.proofs.lemmas.Bool.Decides.{nat_tests}
use Rattle.std.proofs.lemmas.List.{append-nil, append_assoc, ext_get_or, get_or-map, get_or-replicate, get_or_past, get_or-set_same, get_or-set_other, length-append, length-drop, length-map, length-replicate, length-set, length-take, length-take-le, nil_from_length, set-get_or, set-set, take_all}
use Rattle.std.proofs.lemmas.List.FromFn.{length-map-range_with_len, get_or-map-range_with_len}
use Rattle.blocks.specs.Disk.{Image}
use Rattle.model.specs.declared.types.image.Dinode.{Dinode}
use Rattle.model.specs.declared.types.image.File.{File}
use Rattle.model.specs.declared.types.image.Form.{Form}
use Rattle.model.specs.Files.{Files, blocks_for, bytes_in, file_in, joined}
use Rattle.model.specs.Layout.{greatest_size}
use Rattle.model.specs.Operations.{with_bytes}
use Rattle.model.specs.Lemmas.FileNumbers.{below_there}
use Rattle.calls.specs.Files.{MakesFile, MakesNone, MayAppend, appended, empty_file, size_of, with_more, without_bytes}
use Rattle.calls.specs.Lemmas.Sizes.{there_of_size}
use Rattle.transfer.specs.Holding.{HasFirst}
use Rattle.transfer.specs.Stages.{kept_at, kind_at, kind_or_plain, listed, made_at, written_at}

-- ---- a file at each number

pub length-listed : (count : ℕ) (at : ℕ → Option File) → length (listed count at) ≡ count
length-listed count at = length-map-range_with_len at 0 count

pub in_listed : (count : ℕ) (at : ℕ → Option File) (i : ℕ) → i < count → file_in (listed count at) i ≡ at i
in_listed count at i low = get_or-map-range_with_len at 0 count i i None low (omega arith)

-- files are listed by what stands at their numbers
pub are_listed : (files : Files) (count : ℕ) (at : ℕ → Option File) → length files ≡ count → ((j : ℕ) → j < count → file_in files j ≡ at j) → files ≡ listed count at
are_listed files count at long each =
    ext_get_or None files (listed count at) (long ∙ sym (length-listed count at))
    (λ j low. let within : j < count = omega arith in each j within ∙ sym (in_listed count at j within))

-- the same where they stand at each number
pub listed_same : (count : ℕ) (f g : ℕ → Option File) → ((j : ℕ) → f j ≡ g j) → listed count f ≡ listed count g
listed_same count f g each = are_listed (listed count f) count g (length-listed count f) (λ j low. in_listed count f j low ∙ each j)

-- one of them is changed
pub listed_set : (count i : ℕ) (f g : ℕ → Option File) (file : Option File) → i < count → file ≡ g i → ((j : ℕ) → j ≢ i → f j ≡ g j) → set (listed count f) i file ≡ listed count g
listed_set count i f g file low here others =
    are_listed (set (listed count f) i file) count g (length-set (listed count f) i file ∙ length-listed count f)
    (λ j below.
    ⊎_elim
    (λ (same : j ≡ i).
    subst (λ (n : ℕ). file_in (set (listed count f) i file) n ≡ g n) (sym same)
    (get_or-set_same (listed count f) i file None (omega (arith, length-listed count f)) ∙ here))
    (λ (other : j ≢ i). get_or-set_other (listed count f) i j file None other ∙ in_listed count f j below ∙ others j other)
    (cases_eq j i))

-- ---- the numbers are made

module _ (kinds : List ℕ) where
  made_past : (k i : ℕ) → k < i → made_at kinds k i ≡ None
  made_past k i past = grind (arith, nat_tests)

  made_here : (k i : ℕ) → 1 ≤ i → i ≤ k → made_at kinds k i ≡ empty_file (kind_or_plain (kind_at kinds i))
  made_here k i some low = grind (arith, nat_tests)

  made_other : (k j : ℕ) → j ≢ k + 1 → made_at kinds k j ≡ made_at kinds (k + 1) j
  made_other k j other = grind (arith, nat_tests)

  module _ (count k : ℕ) (room : k + 1 < count) where
    made_free : file_in (listed count (made_at kinds k)) (k + 1) ≡ None
    made_free = in_listed count (made_at kinds k) (k + 1) room ∙ made_past k (k + 1) (omega arith)

    -- the lowest free number is the one behind those that were made
    made_number : (kind i : ℕ) (new : Files) → MakesFile kind i (listed count (made_at kinds k)) new → i ≡ k + 1
    made_number kind i new makes =
        ⊎_elim
        (λ (low : i < k + 1).
        let within : i < count = omega arith in
        let some = makes.some in
        absurd (cc (
          sym (in_listed count (made_at kinds k) i within ∙ made_here k i some (omega arith)),
          makes.free,
        )))
        (λ (high : k + 1 ≤ i).
        ⊎_elim (λ (same : i ≡ k + 1). same) (λ (other : i ≢ k + 1). absurd (makes.lowest (k + 1) (omega arith) (omega arith) made_free))
        (cases_eq i (k + 1)))
        (cases_lt i (k + 1))

    pub made_next : (kind i : ℕ) (new : Files) → kind ≡ kind_or_plain (get_or kinds k 0) → MakesFile kind i (listed count (made_at kinds k)) new → new ≡ listed count (made_at kinds (k + 1))
    made_next kind i new is makes =
        let here = made_number kind i new makes in
        let at : (k + 1) - 1 ≡ k = omega arith in
        let file : empty_file kind ≡ made_at kinds (k + 1) (k + 1)
        = ap empty_file (is ∙ ap (λ (n : ℕ). kind_or_plain (get_or kinds n 0)) (sym at)) ∙ sym (made_here (k + 1) (k + 1) (omega arith) (omega arith)) in
        makes.files
        ∙ ap (λ (n : ℕ). set (listed count (made_at kinds k)) n (empty_file kind)) here
        ∙ listed_set count (k + 1) (made_at kinds k) (made_at kinds (k + 1)) (empty_file kind) room file (made_other k)

    pub made_always : (new : Files) → MakesNone (listed count (made_at kinds k)) new → ⊥
    made_always new makes = makes.full (k + 1) (omega arith) (omega (arith, length-listed count (made_at kinds k), room)) made_free

  -- at first there is none
  pub made_start : (count : ℕ) → replicate count None ≡ listed count (made_at kinds 0)
  made_start count =
      are_listed (replicate count None) count (made_at kinds 0) (length-replicate count None)
      (λ j low. get_or-replicate count j None None low ∙ sym (none_made j))
    where
      none_made : (j : ℕ) → made_at kinds 0 j ≡ None
      none_made j = grind (arith, nat_tests)

  -- ---- the free ones are removed

  kept_start_at : (i : ℕ) → made_at kinds (length kinds) i ≡ kept_at kinds 0 i
  kept_start_at i = grind (arith, nat_tests)

  pub kept_start : (count : ℕ) → listed count (made_at kinds (length kinds)) ≡ listed count (kept_at kinds 0)
  kept_start count = listed_same count _ _ kept_start_at

  kept_other : (k j : ℕ) → j ≢ k + 1 → kept_at kinds k j ≡ kept_at kinds (k + 1) j
  kept_other k j other = grind (arith, nat_tests)

  kept_free : (k : ℕ) → get_or kinds k 0 ≡ 0 → kept_at kinds (k + 1) (k + 1) ≡ None
  kept_free k free =
      let at : (k + 1) - 1 ≡ k = omega arith in
      let kind : kind_at kinds (k + 1) ≡ 0 = ap (λ (n : ℕ). get_or kinds n 0) at ∙ free in
      grind (arith, nat_tests)

  kept_later : (k i : ℕ) → k < i → kept_at kinds k i ≡ made_at kinds (length kinds) i
  kept_later k i later = grind (arith, nat_tests)

  kept_used : (k : ℕ) → get_or kinds k 0 ≢ 0 → (i : ℕ) → kept_at kinds k i ≡ kept_at kinds (k + 1) i
  kept_used k used i =
      ⊎_elim
      (λ (same : i ≡ k + 1).
      let at : i - 1 ≡ k = omega arith in
      let kind : kind_at kinds i ≢ 0 = λ free. used (ap (λ (n : ℕ). get_or kinds n 0) (sym at) ∙ free) in
      grind (arith, nat_tests))
      (λ (other : i ≢ k + 1). kept_other k i other)
      (cases_eq i (k + 1))

  module _ (count k : ℕ) (room : k + 1 < count) where
    -- a place is held until then
    pub kept_there : k < length kinds → file_in (listed count (kept_at kinds k)) (k + 1) ≢ None
    kept_there low none =
        absurd (cc (
          sym (in_listed count (kept_at kinds k) (k + 1) room ∙ kept_later k (k + 1) (omega arith) ∙ made_here (length kinds) (k + 1) (omega arith) (omega arith)),
          none,
        ))

    pub kept_removed : get_or kinds k 0 ≡ 0 → set (listed count (kept_at kinds k)) (k + 1) None ≡ listed count (kept_at kinds (k + 1))
    kept_removed free =
        listed_set count (k + 1) (kept_at kinds k) (kept_at kinds (k + 1)) None room (sym (kept_free k free)) (kept_other k)

  pub kept_same : (count k : ℕ) → get_or kinds k 0 ≢ 0 → listed count (kept_at kinds k) ≡ listed count (kept_at kinds (k + 1))
  kept_same count k used = listed_same count _ _ (kept_used k used)

-- ---- the files are written

module _ (files : Files) where
  written_here : (k i : ℕ) → i ≤ k → written_at files k i ≡ file_in files i
  written_here k i low = grind (arith, nat_tests)

  written_later : (k i : ℕ) → k < i → written_at files k i ≡ without_bytes (file_in files i)
  written_later k i later = grind (arith, nat_tests)

  written_other : (k j : ℕ) → j ≢ k + 1 → written_at files k j ≡ written_at files (k + 1) j
  written_other k j other = grind (arith, nat_tests)

  -- at first each is without its bytes
  pub written_start : file_in files 0 ≡ None → map without_bytes files ≡ listed (length files) (written_at files 0)
  written_start none =
      are_listed (map without_bytes files) (length files) (written_at files 0) (length-map files without_bytes)
      (λ j low. get_or-map without_bytes files j None None low
      ∙ ⊎_elim
      (λ (zero : j ≡ 0). subst (λ (n : ℕ). without_bytes (file_in files n) ≡ written_at files 0 n) (sym zero) (ap without_bytes none ∙ sym none))
      (λ (some : j ≢ 0). sym (written_later 0 j (omega arith)))
      (cases_eq j 0))

  -- and at last each has them
  pub written_end : (k : ℕ) → ((i : ℕ) → k < i → i < length files → file_in files i ≡ None) → listed (length files) (written_at files k) ≡ files
  written_end k none =
      sym (are_listed files (length files) (written_at files k) refl
      (λ j low.
      ⊎_elim (λ (later : k < j). none j later low ∙ sym (written_later k j later ∙ ap without_bytes (none j later low))) (λ (here : j ≤ k). sym (written_here k j here)) (cases_lt k j)))

  -- a number without a file
  pub written_none : (k : ℕ) → file_in files (k + 1) ≡ None → listed (length files) (written_at files k) ≡ listed (length files) (written_at files (k + 1))
  written_none k none =
      listed_same (length files) _ _
      (λ i.
      ⊎_elim
      (λ (same : i ≡ k + 1).
      let here : file_in files i ≡ None = ap (file_in files) same ∙ none in
      written_later k i (omega arith) ∙ ap without_bytes here ∙ sym (written_here (k + 1) i (omega arith) ∙ here))
      (λ (other : i ≢ k + 1). written_other k i other)
      (cases_eq i (k + 1)))

  module _ (k : ℕ) (room : k + 1 < length files) (file : File) (is : file_in files (k + 1) ≡ Some file) where
    empty_here : file_in (listed (length files) (written_at files k)) (k + 1) ≡ with_bytes file []
    empty_here = in_listed (length files) (written_at files k) (k + 1) room ∙ written_later k (k + 1) (omega arith) ∙ ap without_bytes is

    -- its file is empty until then
    pub written_empty : size_of (file_in (listed (length files) (written_at files k)) (k + 1)) ≡ Some 0
    written_empty = ap size_of empty_here

    pub written_next : appended (listed (length files) (written_at files k)) (k + 1) file.bytes ≡ listed (length files) (written_at files (k + 1))
    written_next =
        let here : with_more (file_in (listed (length files) (written_at files k)) (k + 1)) file.bytes ≡ written_at files (k + 1) (k + 1)
        = ap (λ (o : Option File). with_more o file.bytes) empty_here ∙ sym is ∙ sym (written_here (k + 1) (k + 1) (omega arith)) in
        listed_set (length files) (k + 1) (written_at files k) (written_at files (k + 1)) _ room here (written_other k)

-- ---- one file, piece by piece

pub appended_none : (files : Files) (i : ℕ) → appended files i [] ≡ files
appended_none files i = ap (set files i) (none_more (file_in files i)) ∙ set-get_or files i None
  where
    none_more : (o : Option File) → with_more o [] ≡ o
    none_more None = refl
    none_more (Some file) = ap (λ (b : List ℕ). Some (record file { bytes = b })) (append-nil file.bytes)

more_more : (o : Option File) (a b : List ℕ) → with_more (with_more o a) b ≡ with_more o (a ++ b)
more_more None a b = refl
more_more (Some file) a b = ap (λ (c : List ℕ). Some (record file { bytes = c })) (append_assoc file.bytes a b)

more_size : (o : Option File) (a : List ℕ) → size_of o ≡ Some 0 → size_of (with_more o a) ≡ Some (length a)
more_size None a empty = absurd (cc empty)
more_size (Some file) a empty = let none : length file.bytes ≡ 0 = cc empty in ap Some (length-append file.bytes a ∙ omega arith)

module _ (files : Files) (i : ℕ) (empty : size_of (file_in files i) ≡ Some 0) where
  low : i < length files
  low = below_there files i (there_of_size (file_in files i) 0 empty)

  file_appended : (a : List ℕ) → file_in (appended files i a) i ≡ with_more (file_in files i) a
  file_appended a = get_or-set_same files i (with_more (file_in files i) a) None low

  pub appended_size : (a : List ℕ) → size_of (file_in (appended files i a) i) ≡ Some (length a)
  appended_size a = ap size_of (file_appended a) ∙ more_size (file_in files i) a empty

  first_more : (o : Option File) (all : List ℕ) (n : ℕ) → size_of o ≡ Some 0 → n < length all → (old new : Files) → file_in old i ≡ with_more o all → new ≡ set old i (with_more o (take n all)) → HasFirst i old new
  first_more None all n none fewer old new was now = absurd (cc none)
  first_more (Some file) all n none fewer old new was now =
      let nil : file.bytes ≡ [] = nil_from_length file.bytes (cc none) in
      let long : length (file.bytes ++ all) ≡ length all = ap (λ (b : List ℕ). length (b ++ all)) nil in
      record {
        file = record file { bytes = file.bytes ++ all };
        count = n;
        was = was;
        fewer = omega arith;
        now = now ∙ ap (λ (b : List ℕ). set old i (with_bytes file b)) (ap (λ (b : List ℕ). b ++ take n all) nil ∙ sym (ap (λ (b : List ℕ). take n (b ++ all)) nil));
      }

  -- only the first of all bytes are there
  first_appended : (all : List ℕ) (n : ℕ) → n < length all → (new : Files) → new ≡ appended files i (take n all) → HasFirst i (appended files i all) new
  first_appended all n fewer new is =
      first_more (file_in files i) all n empty fewer (appended files i all) new (file_appended all) (is ∙ sym (set-set files i (with_more (file_in files i) all) (with_more (file_in files i) (take n all))))

  pub appended_more : (a b : List ℕ) → appended (appended files i a) i b ≡ appended files i (a ++ b)
  appended_more a b =
      ap (λ (o : Option File). set (appended files i a) i (with_more o b)) (file_appended a)
      ∙ ap (set (appended files i a) i) (more_more (file_in files i) a b)
      ∙ set-set files i _ _

-- ---- its bytes

-- an inode's bytes are no more than its size
pub few_bytes : (x : Image) (d : Dinode) → length (bytes_in x d) ≤ d.size
unfolding bytes_in
few_bytes x d = omega (arith, length-take d.size (joined x d (blocks_for d.size)))

module _ (all : List ℕ) (size at count : ℕ) (few : length all ≤ size) (inside : at < size) (is : count ≡ min 3072 (size - at)) where
  -- the pieces so far, and one more, are the first bytes
  pub piece_more : take at all ++ take count (drop at all) ≡ take (at + 3072) all
  piece_more =
      sym (take-add at count all)
      ∙ ⊎_elim
      (λ (last : size - at < 3072). take_all (at + count) all (omega arith) ∙ sym (take_all (at + 3072) all (omega arith)))
      (λ (whole : 3072 ≤ size - at). let same : at + count ≡ at + 3072 = omega arith in ap (λ (n : ℕ). take n all) same)
      (cases_lt (size - at) 3072)

  -- a piece that was read is there
  pub piece_there : (bytes : List ℕ) → bytes ≡ take count (drop at all) → length bytes ≡ count → at ≤ length all
  piece_there bytes read long = omega (arith, ap length read, length-take count (drop at all), length-drop at all)

  -- it may be written behind the ones before it
  pub piece_fits : (form : Form) (files : Files) (i : ℕ) (bytes : List ℕ) → size_of (file_in files i) ≡ Some 0 → size ≤ greatest_size form →
      bytes ≡ take count (drop at all) → length bytes ≡ count → MayAppend form (file_in (appended files i (take at all)) i) at (length bytes)
  piece_fits form files i bytes empty small read long =
      let there = piece_there bytes read long in
      let begun : length (take at all) ≡ at = length-take-le at all there in
      record { size = appended_size files i empty (take at all) ∙ ap Some begun; few = omega arith; short = omega arith }

  pub piece_appended : (files : Files) (i : ℕ) (bytes : List ℕ) → size_of (file_in files i) ≡ Some 0 → bytes ≡ take count (drop at all) →
      appended (appended files i (take at all)) i bytes ≡ appended files i (take (at + 3072) all)
  piece_appended files i bytes empty read =
      appended_more files i empty (take at all) bytes
      ∙ ap (appended files i) (ap (λ (b : List ℕ). take at all ++ b) read ∙ piece_more)

  -- only its first bytes are there
  pub piece_begun : (files : Files) (i : ℕ) (bytes : List ℕ) (n : ℕ) → size_of (file_in files i) ≡ Some 0 → bytes ≡ take count (drop at all) → length bytes ≡ count → n < length bytes → (new : Files) →
      new ≡ appended (appended files i (take at all)) i (take n bytes) → HasFirst i (appended files i all) new
  piece_begun files i bytes n empty read long fewer new is =
      let there = piece_there bytes read long in
      let first : take at all ++ take n bytes ≡ take (at + n) all
      = ap (λ (b : List ℕ). take at all ++ take n b) read
      ∙ ap (λ (b : List ℕ). take at all ++ b) (take-take n count (drop at all) (omega arith))
      ∙ sym (take-add at n all) in
      first_appended files i empty all (at + n) (omega (arith, ap length read, length-take count (drop at all), length-drop at all)) new
      (is ∙ appended_more files i empty (take at all) (take n bytes) ∙ ap (appended files i) first)

-- what is left once the free numbers are removed are files at these numbers, without their bytes
module _ (kinds : List ℕ) (count : ℕ) (at : ℕ → Option File) where
  kept_file : (i : ℕ) → 1 ≤ i → i ≤ length kinds → kind_at kinds i ≢ 0 → kept_at kinds (length kinds) i ≡ empty_file (kind_at kinds i)
  kept_file i some low used = grind (arith, nat_tests)

  kept_none : (i : ℕ) → kind_at kinds i ≡ 0 → kept_at kinds (length kinds) i ≡ None
  kept_none i free = grind (arith, nat_tests)

  kept_zero : kept_at kinds (length kinds) 0 ≡ None
  kept_zero = grind (arith, nat_tests)

  module _ (zero : at 0 ≡ None) (free : (i : ℕ) → kind_at kinds i ≡ 0 → at i ≡ None)
      (used : (i : ℕ) → 1 ≤ i → i ≤ length kinds → kind_at kinds i ≢ 0 → without_bytes (at i) ≡ empty_file (kind_at kinds i)) where
    kept_each : (i : ℕ) → kept_at kinds (length kinds) i ≡ without_bytes (at i)
    kept_each i =
        ⊎_elim
        (λ (first : i ≡ 0). subst (λ (n : ℕ). kept_at kinds (length kinds) n ≡ without_bytes (at n)) (sym first) (kept_zero ∙ sym (ap without_bytes zero)))
        (λ (other : i ≢ 0).
        ⊎_elim
        (λ (none : kind_at kinds i ≡ 0). kept_none i none ∙ sym (ap without_bytes (free i none)))
        (λ (some : kind_at kinds i ≢ 0).
        let within = there i some in
        kept_file i (omega arith) within some ∙ sym (used i (omega arith) within some))
        (cases_eq (kind_at kinds i) 0))
        (cases_eq i 0)
      where
        there : (i : ℕ) → kind_at kinds i ≢ 0 → i ≤ length kinds
        there i some =
            ⊎_elim (λ (past : length kinds < i). absurd (some (get_or_past kinds (i - 1) 0 (omega arith)))) (λ (within : i ≤ length kinds). within) (cases_lt (length kinds) i)

    pub kept_end : listed count (kept_at kinds (length kinds)) ≡ map without_bytes (listed count at)
    kept_end =
        sym (are_listed (map without_bytes (listed count at)) count (kept_at kinds (length kinds))
        (length-map (listed count at) without_bytes ∙ length-listed count at)
        (λ j low. get_or-map without_bytes (listed count at) j None None (omega (arith, length-listed count at, low)) ∙ ap without_bytes (in_listed count at j low) ∙ sym (kept_each j)))
