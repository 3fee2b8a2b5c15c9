-- What looks at a file answer: the file of a number is what its inode says in the image.
use Rattle.std.proofs.Common.{◌≡◌, ◌≢◌, ℕ, zero, suc, ◌+◌, ◌*◌, ◌<◌, ◌≤◌, Bool, true, ◌&&◌, leb, ltb, List, [], ◌∷◌, length, get_or, Some, None, refl, sym, ◌∙◌, arith}
use Rattle.std.proofs.lemmas.Slice.Eq.{bytes_eq-Decides}
use Rattle.in_flight.specs.Common.{addresses_in, all_pass, all_pass-append, along_address, AreFull, block_at, both_of, Bytes, count_of, depths, Dinode, eq-eqb, file_at, file_in, Files, first_data_block, Fits, form_of, Image, inode_count_of, IsAtRest, IsFit, IsFullAt, le-leb, le-ltb, leb-true, length-bytes_in, LiesInData, lt-ltb, ltb-true, ne_eqb, part_of, pointers_along, pointers_behind, pointers_of, pointers_under, pointers_used, reach, Read, Stat, StatOf, thirteen_depths, transfer_limit, words_of}
use Rattle.model.specs.Files.{file_of, bytes_in}
use Rattle.model.specs.Layout.{inode_of}
use Rattle.model.specs.Operations.{after}
use Rattle.model.specs.Places.{address_in}
use Rattle.in_flight.specs.Looks.{IsUsed, IsUnused, HasItsFile, HasDataBlocks, AnswersNoFile, UsedIsFit, UsedHasBlocks, StatTells, ReadTells, NoFileTells}
use Rattle.in_flight.specs.Lemmas.Claims.{free_file}
use Rattle.in_flight.specs.Lemmas.Frames.{list_all-counted, named_in_data}

-- ---- what an inode names passes a test that its pointers do

under_head : (test : ℕ → Bool) (x : Image) (size depth first address : ℕ) →
    all_pass test (pointers_under x size depth first address) ≡ true → address ≢ 0 → test address ≡ true
under_head test x size zero first address h some = (both_of (test address) true (rw (ne_eqb address 0 some) at h)).0
under_head test x size (suc depth) first address h some =
    (both_of (test address)
    (all_pass test (pointers_behind (λ f a. pointers_under x size depth f a) first (reach depth) (words_of (block_at x address))))
    (rw (ne_eqb address 0 some) at h)).0

along_parts : (test : ℕ → Bool) (x : Image) (size first depth : ℕ) (ds : List ℕ) (address : ℕ) (addresses : List ℕ) →
    all_pass test (pointers_along x size first (depth ∷ ds) (address ∷ addresses)) ≡ true →
    (all_pass test (pointers_under x size depth first address) ≡ true)
    × (all_pass test (pointers_along x size (first + reach depth) ds addresses) ≡ true)
along_parts test x size first depth ds address addresses h =
    let front = pointers_under x size depth first address in
    let rest = pointers_along x size (first + reach depth) ds addresses in
    both_of (all_pass test front) (all_pass test rest) (sym (all_pass-append test front rest) ∙ h)

-- each address of the inode
along_head : (test : ℕ → Bool) (x : Image) (size first : ℕ) (ds addresses : List ℕ) (e : ℕ) →
    all_pass test (pointers_along x size first ds addresses) ≡ true → e < length ds → get_or addresses e 0 ≢ 0 →
    test (get_or addresses e 0) ≡ true
along_head test x size first [] addresses e h low some = absurd (omega arith)
along_head test x size first (depth ∷ ds) [] e h low some = absurd (some refl)
along_head test x size first (depth ∷ ds) (address ∷ addresses) zero h low some =
    under_head test x size depth first address (along_parts test x size first depth ds address addresses h).0 some
along_head test x size first (depth ∷ ds) (address ∷ addresses) (suc e) h low some =
    along_head test x size (first + reach depth) ds addresses e
    (along_parts test x size first depth ds address addresses h).1 (omega arith) some

-- ---- a number of an image that stands for files

abbrev is_in_data : Image → ℕ → Bool
is_in_data x b = leb (first_data_block x) b && ltb b (length x)

lies : (x : Image) (b : ℕ) → is_in_data x b ≡ true → LiesInData x b
lies x b h =
    let both = both_of (leb (first_data_block x) b) (ltb b (length x)) h in
    (leb-true (first_data_block x) b both.0, ltb-true b (length x) both.1)

pub record IsBetween (x : Image) (i : ℕ) : Type 0 where
  pub low : 1 ≤ i
  pub high : i < inode_count_of x

pub between : (x : Image) (i : ℕ) → (ltb 0 i && ltb i (inode_count_of x)) ≡ true → IsBetween x i
between x i h =
    let both = both_of (ltb 0 i) (ltb i (inode_count_of x)) h in
    let some = ltb-true 0 i both.0 in
    record { low = omega arith; high = ltb-true i (inode_count_of x) both.1 }

-- the number is at rest, and what it names lies among the data
pub record RestsIn (m : Files) (x : Image) (i : ℕ) : Type 0 where
  pub full : AreFull x
  pub rest : IsAtRest x i (file_in m i)
  pub in_data : (b : ℕ) → 1 ≤ count_of b (addresses_in (pointers_of x i)) → LiesInData x b

pub rests_in : (m : Files) (x : Image) (i : ℕ) → Fits m x → IsUsed x i → RestsIn m x i
rests_in m x i f used =
    let at = between x i used.0 in
    record {
      full = f.full;
      rest = f.each i at.low at.high;
      in_data = λ b some. named_in_data m x i b f at.low at.high some;
    }

module _ (m : Files) (x : Image) (i : ℕ) (f : RestsIn m x i) (used : IsUsed x i) where
  abbrev d : Dinode
  d = inode_of x i

  at_place : IsBetween x i
  at_place = between x i used.0

  own_fit : IsFit x d
  own_fit = f.rest.fit used.1

  all_in_data : all_pass (is_in_data x) (pointers_along x d.size 0 (depths (form_of x)) d.addrs) ≡ true
  all_in_data =
      rw (pointers_used x d used.1) at
      (list_all-counted (is_in_data x) (addresses_in (pointers_of x i))
      (λ b some.
      let there = f.in_data b some in
      rw (le-leb (first_data_block x) b there.0, lt-ltb b (length x) there.1) refl))

  needed_in_data : (k : ℕ) → k * 1024 < d.size → LiesInData x (address_in x d k)
  unfolding address_in
  needed_in_data k low =
      lies x (address_in x d k)
      ((along_address (is_in_data x) x x (λ b pass. refl) d.size 0 k (depths (form_of x)) d.addrs all_in_data).1
      (own_fit.whole k low))

  named : (e : ℕ) → e < 13 → get_or d.addrs e 0 ≢ 0 → LiesInData x (get_or d.addrs e 0)
  named e low some =
      let long = thirteen_depths (form_of x) in
      lies x (get_or d.addrs e 0)
      (along_head (is_in_data x) x d.size 0 (depths (form_of x)) d.addrs e all_in_data (omega arith) some)

  pub full_blocks : (k : ℕ) → k * 1024 < d.size → IsFullAt x (address_in x d k)
  full_blocks k low =
      let there = needed_in_data k low in
      let behind = there.0 in
      (own_fit.whole k low, f.full (address_in x d k) (omega arith) there.1)

  own_file : file_at x i ≡ Some (record { kind = d.kind; links = d.nlink; bytes = bytes_in x d })
  unfolding file_of
  own_file =
      let low = at_place.low in
      rw (ne_eqb i 0 (λ e. omega (arith, low, e)), ne_eqb d.kind 0 used.1) refl

  pub its_file : HasItsFile m x i
  its_file = record {
    fit = own_fit;
    file = sym f.rest.same ∙ own_file;
    length = length-bytes_in x d full_blocks;
  }

  pub its_blocks : HasDataBlocks x d
  its_blocks = record { needed = needed_in_data; named = named }

  pub stat_told : after (form_of x) m (Stat i) (StatOf d.kind d.nlink d.size) ≡ Some m
  unfolding after
  stat_told =
      let its = its_file in
      rw (its.file, its.file, eq-eqb d.kind d.kind refl, eq-eqb d.nlink d.nlink refl, eq-eqb d.size (length (bytes_in x d)) (sym its.length)) refl

  pub read_told : (off n : ℕ) → n ≤ transfer_limit →
      after (form_of x) m (Read i off n) (Bytes (part_of (bytes_in x d) off n)) ≡ Some m
  unfolding after
  read_told off n few =
      let part = part_of (bytes_in x d) off n in
      let its = its_file in
      rw (le-ltb transfer_limit n few, its.file, its.file, (bytes_eq-Decides part part).1 refl) refl

pub used_is_fit : UsedIsFit
used_is_fit m x i f used = its_file m x i (rests_in m x i f used) used

pub used_has_blocks : UsedHasBlocks
used_has_blocks m x i f used = its_blocks m x i (rests_in m x i f used) used

pub stat_tells : StatTells
stat_tells m x i f used = stat_told m x i (rests_in m x i f used) used

pub read_tells : ReadTells
read_tells m x i off n f used few = read_told m x i (rests_in m x i f used) used off n few

pub none_told : (m : Files) (x : Image) (i : ℕ) → file_in m i ≡ None → AnswersNoFile (form_of x) m i
unfolding after
none_told m x i none = record {
  write = λ off bytes few. rw (le-ltb transfer_limit (length bytes) few, none) refl;
  read = λ off n few. rw (le-ltb transfer_limit n few, none) refl;
  trunc = rw none refl;
  remove = rw none refl;
  stat = rw none refl;
  attribute = λ a. rw none refl;
}

no_file : (m : Files) (x : Image) (i : ℕ) → Fits m x → IsUnused x i → file_in m i ≡ None
no_file m x i f free =
    let there = between x i free.0 in
    sym (f.each i there.low there.high).same ∙ free_file x i (omega arith) free.1

pub no_file_tells : NoFileTells
no_file_tells m x i f free = none_told m x i (no_file m x i f free)
