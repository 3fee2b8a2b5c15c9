-- What a cleared bit and an inode that is written back leave of what no file shows.
use Rattle.std.proofs.Common.{◌≡◌, ◌≢◌, ℕ, [], sym, ap, ◌∙◌, ⊎_elim, arith, List, set, length, IsTrue, None, ◌≤◌}
use Rattle.in_flight.specs.Common.{block_at, cases_eq, Claims, ClearedBitKeeps, DataKeeps, Dinode, facts_of, false≢true, file_in, Files, FitsHeld, get_or-set_other, GrowthKeeps, has_bit, has_bit-with_bit_other, has_bit-without_bit_other, Image, inode_block, inode_bytes-with_inode_other, inode_bytes_in, inode_count_of, inode_of-with_inode, inode_of-with_inode_other, is_marked, is_number, IsDinode, IsPlaced, labels_of, last_inode, length-set, SetBitKeeps, super_of, with_bit, with_inode, with_inode_bytes, without_bit, WriteBackKeeps}
use Rattle.model.specs.Layout.{inode_of}
use Rattle.in_flight.specs.Lemmas.Claims.{apart}
use Rattle.in_flight.specs.Lemmas.Frames.{SameSuperAndMap, marks_same}
use Rattle.in_flight.specs.Lemmas.GivenUp.{held_of}
use Rattle.in_flight.specs.Lemmas.Looks.{between}
use Rattle.in_flight.specs.Lemmas.WriteBacks.{last_fields}
use Rattle.in_flight.specs.Lemmas.Remapped.{mapped, agrees, size_same, away, bytes_same, marks, inode_same}
use Rattle.in_flight.specs.Lemmas.HeldFrames.{growing_of, inode_elsewhere}
use Rattle.model.specs.Tasks.{Marks}

-- ---- a cleared bit

-- where the bitmap has other bits of the image's own blocks alone
remapped_keeps : (m : Files) (x : Image) (claims : Claims) (bits : List ℕ) → FitsHeld m x claims →
    ((c : ℕ) → length x ≤ c → has_bit bits c ≡ is_marked x c) → Marks None x (set x (super_of x).bmapstart bits)
remapped_keeps m x claims bits f past =
    let map = mapped x f.geometry f.full in
    let start = (facts_of x f.geometry).map in
    let behind = map.behind in
    let same = agrees x bits map in
    record {
      size = size_same x bits map;
      untouched = record {
        boot = same.agree 0 (away x bits map 0 (λ e. omega arith));
        super = same.agree 1 same.one;
        inode_zero = bytes_same x bits map 0 (omega arith);
        inodes_past = λ j from lt. bytes_same x bits map j (omega arith);
        bits_past = λ c from lt. marks x bits map c ∙ past c from;
      };
      others = λ j number made used.
          let kept = inode_same x bits map j (apart x j f.geometry (between x j number).high).before_map in
          ((λ z. used (ap (λ (d : Dinode). d.kind) kept ∙ z)), ap (λ (d : Dinode). (d.major, d.minor)) kept);
      fresh = λ j number made. absurd (false≢true made);
    }

pub cleared_bit_keeps : ClearedBitKeeps
cleared_bit_keeps m x claims b f low =
    let block = block_at x (super_of x).bmapstart in
    remapped_keeps m x claims (without_bit block b) f (λ c from. has_bit-without_bit_other block b c (λ e. omega arith))

pub set_bit_keeps : SetBitKeeps
set_bit_keeps m x claims b f low =
    let block = block_at x (super_of x).bmapstart in
    remapped_keeps m x claims (with_bit block b) f (λ c from. has_bit-with_bit_other block b c (λ e. omega arith))

-- ---- a data block that is written

pub data_keeps : DataKeeps
data_keeps m x claims b bytes f there =
    let map = mapped x f.geometry f.full in
    let behind = map.behind in
    let before = map.before_data in
    let from = there.0 in
    let start = (facts_of x f.geometry).map in
    let others : (c : ℕ) → c ≢ b → block_at (set x b bytes) c ≡ block_at x c = λ c ne. get_or-set_other x b c bytes [] ne in
    let base : SameSuperAndMap x (set x b bytes) = record {
      size = length-set x b bytes;
      super = others 1 (λ e. omega arith);
      map = others (super_of x).bmapstart (λ e. omega arith);
    } in
    record {
      size = base.size;
      untouched = record {
        boot = others 0 (λ e. omega arith);
        super = base.super;
        inode_zero = ap (λ block. inode_bytes_in block 0) (others (inode_block 0) (λ e. omega arith));
        inodes_past = λ j past lt. ap (λ block. inode_bytes_in block j) (others (inode_block j) (λ e. omega arith));
        bits_past = λ c past lt. marks_same x (set x b bytes) c base;
      };
      others = λ j number made used.
          let kept = inode_elsewhere x j b bytes (let low = (apart x j f.geometry (between x j number).high).before_data in λ e. omega arith) in
          ((λ z. used (ap (λ (d : Dinode). d.kind) kept ∙ z)), ap (λ (d : Dinode). (d.major, d.minor)) kept);
      fresh = λ j number made. absurd (false≢true made);
    }

-- ---- an inode that is written back

-- of a used number, with its labels
record KeepsLabels (m : Files) (x : Image) (claims : Claims) (i : ℕ) (d : Dinode) : Type 0 where
  fits : FitsHeld m x claims
  number : IsTrue (is_number (inode_count_of x) i)
  fields : IsDinode d
  used : (inode_of x i).kind ≢ 0
  labels : labels_of x i ≡ (d.major, d.minor)

written_back_keeps : (m : Files) (x : Image) (claims : Claims) (i : ℕ) (d : Dinode) → KeepsLabels m x claims i d →
    Marks None x (with_inode x i d)
written_back_keeps m x claims i d g =
    let f = g.fits in
    let at = between x i g.number in
    let low = at.low in
    let a = apart x i f.geometry at.high in
    let behind = a.behind in
    let before = a.before_map in
    let placed : IsPlaced x i = record { within = a.within; full = f.full (inode_block i) a.behind a.within } in
    let new = with_inode_bytes (block_at x (inode_block i)) i d in
    let base : SameSuperAndMap x (with_inode x i d) = record {
      size = length-set x (inode_block i) new;
      super = get_or-set_other x (inode_block i) 1 new [] (λ e. omega arith);
      map = get_or-set_other x (inode_block i) (super_of x).bmapstart new [] (λ e. omega arith);
    } in
    record {
      size = base.size;
      untouched = record {
        boot = get_or-set_other x (inode_block i) 0 new [] (λ e. omega arith);
        super = base.super;
        inode_zero = inode_bytes-with_inode_other x i 0 d placed g.fields (λ e. omega arith);
        inodes_past = λ j from lt. inode_bytes-with_inode_other x i j d placed g.fields (λ e. omega arith);
        bits_past = λ b from lt. marks_same x (with_inode x i d) b base;
      };
      others = λ j number made used.
          ⊎_elim
          (λ (e : j ≡ i).
          let own = inode_of-with_inode x i d placed g.fields in (
            (λ z. g.used (ap (λ n. (inode_of x n).kind) (sym e) ∙ z)),
            ap (λ n. labels_of (with_inode x i d) n) e ∙ ap (λ (o : Dinode). (o.major, o.minor)) own
                ∙ sym g.labels ∙ ap (labels_of x) (sym e),
          ))
          (λ (ne : j ≢ i).
          let kept = inode_of-with_inode_other x i j d placed g.fields ne in
          ((λ z. used (ap (λ (o : Dinode). o.kind) kept ∙ z)), ap (λ (o : Dinode). (o.major, o.minor)) kept))
          (cases_eq j i);
      fresh = λ j number made. absurd (false≢true made);
    }

pub write_back_keeps : WriteBackKeeps
write_back_keeps m x claims i h g =
    let held = held_of m x claims i h g in
    written_back_keeps m x claims i (last_inode h) (record {
      fits = g.fits;
      number = g.number;
      fields = last_fields h x i (file_in m i) held;
      used = λ z. held.used (sym held.same_kind ∙ z);
      labels = held.labels;
    })

pub growth_keeps : GrowthKeeps
growth_keeps m x claims i g h =
    let held = growing_of m x claims i g h in
    written_back_keeps m x claims i g.copy (record {
      fits = h.fits;
      number = h.number;
      fields = held.fit.fields;
      used = λ z. held.fit.used (sym held.same_kind ∙ z);
      labels = held.labels;
    })
