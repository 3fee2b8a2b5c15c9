-- What another bitmap makes of an image.
use Rattle.std.proofs.Common.{◌≡◌, ◌≢◌, ℕ, ◌<◌, ◌≤◌, Bool, true, not, eqb, List, [], length, set, ap, ◌∙◌, ⊎_elim, arith}
use Rattle.in_flight.specs.Common.{Agrees-set, AreFull, block_at, cases_eq, facts_of, first_data_block, get_or-set_same, has_bit, Image, inode_block, inode_bytes, inode_bytes_in, inode_in, is_marked, IsLawfulGeometry, length-set, meta_count, ne_eqb, Super, super_in, super_of}
use Rattle.model.specs.Layout.{inode_of}
use Rattle.in_flight.specs.Lemmas.Frames.{AgreesAtData}

-- where the bitmap lies
pub record IsMapped (x : Image) : Type 0 where
  pub behind : 33 ≤ (super_of x).bmapstart
  pub before_data : (super_of x).bmapstart < first_data_block x
  pub within : (super_of x).bmapstart < length x
  pub full : length (block_at x (super_of x).bmapstart) ≡ 1024
  pub room : length x ≤ 8191

pub mapped : (x : Image) → IsLawfulGeometry x → AreFull x → IsMapped x
mapped x g full =
    let f = facts_of x g in
    let room = f.room in
    let size = f.size in
    let small = f.small in
    let map = f.map in
    record {
      behind = omega arith;
      before_data = omega arith;
      within = omega arith;
      full = full (super_of x).bmapstart (omega arith) (omega arith);
      room = omega arith;
    }

module _ (x : Image) (bytes : List ℕ) (map : IsMapped x) where
  abbrev y : Image
  y = set x (super_of x).bmapstart bytes

  abbrev pub test : ℕ → Bool
  test c = not (eqb c (super_of x).bmapstart)

  pub away : (c : ℕ) → c ≢ (super_of x).bmapstart → test c ≡ true
  away c ne = ap not (ne_eqb c (super_of x).bmapstart ne)

  pub agrees : AgreesAtData test x y
  agrees =
      let behind = map.behind in
      let before = map.before_data in
      record {
        agree = Agrees-set x (super_of x).bmapstart bytes;
        one = away 1 (λ e. omega arith);
        from_data = λ c from. away c (λ e. omega arith);
      }

  super_same : super_of y ≡ super_of x
  super_same = ap super_in (agrees.agree 1 agrees.one)

  pub size_same : length y ≡ length x
  size_same = length-set x (super_of x).bmapstart bytes

  pub start_same : first_data_block y ≡ first_data_block x
  start_same = ap (λ (s : Super). meta_count s.size s.ninodes) super_same

  pub bitmap_is : block_at y (super_of x).bmapstart ≡ bytes
  bitmap_is = get_or-set_same x (super_of x).bmapstart bytes [] map.within

  pub marks : (c : ℕ) → is_marked y c ≡ has_bit bytes c
  marks c = ap (λ (s : Super). has_bit (block_at y s.bmapstart) c) super_same ∙ ap (λ b. has_bit b c) bitmap_is

  pub full_after : length bytes ≡ 1024 → AreFull x → AreFull y
  full_after whole full c low within =
      let size = size_same in
      ⊎_elim
      (λ (e : c ≡ (super_of x).bmapstart).
      ap (λ (d : ℕ). length (block_at y d)) e ∙ ap length bitmap_is ∙ whole)
      (λ (ne : c ≢ (super_of x).bmapstart). ap length (agrees.agree c (away c ne)) ∙ full c low (omega arith))
      (cases_eq c (super_of x).bmapstart)

  pub bytes_same : (j : ℕ) → inode_block j < (super_of x).bmapstart → inode_bytes y j ≡ inode_bytes x j
  bytes_same j before =
      ap (λ block. inode_bytes_in block j) (agrees.agree (inode_block j) (away (inode_block j) (λ e. omega arith)))

  pub inode_same : (j : ℕ) → inode_block j < (super_of x).bmapstart → inode_of y j ≡ inode_of x j
  unfolding inode_of
  inode_same j before = ap inode_in (bytes_same j before)
