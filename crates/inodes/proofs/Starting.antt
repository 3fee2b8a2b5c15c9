-- A reading begins, or has all its bytes at once.
use Rattle.std.proofs.Common.{◌≡◌, ℕ, ◌≤◌, ◌+◌, ◌-◌, ◌/◌, Bool, true, false, eqb, leb, min, [], length, refl, sym, ◌∙◌, ap, arith, Some, None}
use Rattle.inodes.specs.Common.{branch_shallow, bytes_in, Dinode, eqb-true, few_first, first_read, Form, form_of, GatheredBytes, HasRead, Image, leb-true, length-bytes, MayRead, part_of, part_past, reads_left, ReadState, seen, steps_at, steps_most, target_for, VolumeState}
use Rattle.inodes.specs.Lemmas.ReadRuns.{Begins, begins}
use Rattle.inodes.proofs.ReadLemmas.{begun_reads}

-- a reading of some bytes begins
pub has_begun : {D : Type 0} (image : D → Image) (v : VolumeState D) (p : ℕ) (d : Dinode) (off count : ℕ) (m : ReadState) (g : GatheredBytes) → MayRead (seen (image v.device) v.buffers) d
    → v.log.size ≡ length (seen (image v.device) v.buffers) → first_read (form_of (seen (image v.device) v.buffers)) d off count ≡ Some m → g ≡ record { bytes = []; room = count }
    → HasRead (seen (image v.device) v.buffers) off count m g
has_begun image v p d off count m g may size first empty =
    let x = seen (image v.device) v.buffers in
    let b : Begins (form_of x) d off count m = begins (form_of x) d off count m first in
    let reads = (begun_reads image v p off count d m may size first).0 in
    let next = b.next in
    let end = b.end in
    let long : m.inode.size ≡ d.size = ap (λ (o : Dinode). o.size) b.inode in
    let room : g.room ≡ count = ap (λ (o : GatheredBytes). o.room) empty in
    let none : m.next - off ≡ 0 = omega (arith, next) in
    record {
      form = b.form;
      begun = omega (arith, next);
      some = reads.some;
      end = end ∙ ap (λ (k : ℕ). min k (off + count)) (sym long);
      bytes = ap (λ (o : GatheredBytes). o.bytes) empty ∙ sym (ap (part_of (bytes_in x m.inode) off) none);
      room = omega (arith, next, end, room);
      leads = reads.leads.block;
    }

-- a reading that does not begin has no bytes to read
pub has_none : (x : Image) (form : Form) (d : Dinode) (off count : ℕ) → MayRead x d → first_read form d off count ≡ None → part_of (bytes_in x d) off count ≡ []
has_none x form d off count may first = by_test (leb d.size off) (eqb count 0) refl refl
  where
    by_test : (past none : Bool) → leb d.size off ≡ past → eqb count 0 ≡ none → part_of (bytes_in x d) off count ≡ []
    by_test true none is empty = let le = leb-true d.size off is in let long = length-bytes x d may in part_past (bytes_in x d) off count (omega (arith, le, long))
    by_test false true is empty = ap (part_of (bytes_in x d) off) (eqb-true count 0 empty)
    by_test false false is empty =
        let m : ReadState = record { inode = d; form = form; next = off; end = min d.size (off + count); target = target_for form d (off / 1024) } in
        let some : first_read form d off count ≡ Some m = rw (is, empty) refl in
        absurd (cc (sym first ∙ some))

-- the bytes of one reading lie in four blocks at most
pub few_reads : (form : Form) (d : Dinode) (off count : ℕ) (m : ReadState) → count ≤ 3072 → first_read form d off count ≡ Some m → reads_left m ≤ 24
few_reads form d off count m few first =
    let b : Begins form d off count m = begins form d off count m first in
    let ahead = steps_most m.form ((m.end - 1) / 1024 - m.next / 1024) in
    omega (arith, b.next, b.end, (few_first form d (off / 1024)), (branch_shallow form (off / 1024)), (ap steps_at b.target), ahead, few)
