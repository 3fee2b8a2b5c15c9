-- A task that writes is done: its copy is written back, and its reply stands.
use Rattle.std.proofs.Common.{◌≡◌, ℕ, ◌+◌, ◌*◌, ◌/◌, ◌%◌, ◌<◌, ◌≤◌, true, List, length, set, take, Some, None, refl, sym, ap, ◌∙◌, ⊎_elim, arith, ap₂, eqb, length-set}
use Rattle.in_flight.specs.Common.{cases_lt, count_of, eq-eqb, File, file_in, file_used, Files, Form, form_of, get_or-set_other, get_or-set_same, greatest_size, GrowthAnswers, GrowthRests, le-leb, le-ltb, length-take-le, listed, lt-ltb, may_have_written, or_right, overwritten, RestingRefuses, transfer_limit, with_bytes, Write, Wrote, Image, Claims, Growth, IsHeldIn, grows}
use Rattle.model.specs.Files.{bytes_in}
use Rattle.model.specs.Places.{address_in}
use Rattle.in_flight.specs.GrowthLaws.{HasWritten}
use Rattle.in_flight.specs.Lemmas.GrowthBlocks.{copy_size, same_file_there}
use Rattle.model.specs.Layout.{inode_of}
use Rattle.in_flight.specs.Lemmas.HeldFrames.{growing_of}
use Rattle.model.specs.Operations.{after}
use Rattle.in_flight.specs.Lemmas.Apart.{named_mine}
use Rattle.in_flight.specs.Lemmas.HeldLooks.{resting_tells}
use Rattle.in_flight.specs.Lemmas.WriteBacks.{writes_back}
use Rattle.in_flight.specs.Lemmas.Looks.{between}

-- ---- the write-back

pub growth_rests : GrowthRests
growth_rests m x claims new i g old h none is now =
    let at = between x i h.number in
    let high = at.high in
    let growing = growing_of m x claims i g h in
    let same = same_file_there growing.old old (sym growing.was ∙ is) in
    let file : File = record old { bytes = overwritten old.bytes g.offset g.written } in
    let count = h.fits.count in
    let kind : g.copy.kind ≡ old.kind = growing.kind ∙ ap (λ (f : File). f.kind) same in
    let links : g.copy.nlink ≡ old.links = growing.links ∙ ap (λ (f : File). f.links) same in
    let bytes : bytes_in x g.copy ≡ overwritten old.bytes g.offset g.written
    = growing.bytes ∙ ap (λ (f : File). overwritten f.bytes g.offset g.written) same in
    writes_back m x claims i (set m i (Some file)) new g.copy (record {
      fits = h.fits;
      low = at.low;
      high = at.high;
      now = now;
      fields = growing.fit.fields;
      names = λ c.
          omega (arith, (named_mine m x claims i g h c), (ap (λ t. count_of c (listed t)) none));
      fit = λ used. growing.fit;
      count = length-set m i (Some file);
      own = get_or-set_same m i (Some file) None (omega (arith, high, count))
          ∙ ap₂ (λ (k n : ℕ). Some (record { kind = k; links = n; bytes = overwritten old.bytes g.offset g.written })) (sym kind) (sym links)
          ∙ ap (λ (l : List ℕ). Some (record { kind = g.copy.kind; links = g.copy.nlink; bytes = l })) (sym bytes)
          ∙ sym (file_used x g.copy growing.fit.used);
      files = λ j ne. get_or-set_other m i j (Some file) None ne;
    })

-- ---- what a write answers

-- a write that is not refused answers what it wrote
pub written_answers : (form : Form) (m : Files) (i off k : ℕ) (bytes : List ℕ) (old : File) → file_in m i ≡ Some old →
    length bytes ≤ transfer_limit → off ≤ length old.bytes → off + length bytes ≤ greatest_size form →
    may_have_written (length old.bytes) off (length bytes) k ≡ true →
    after form m (Write i off bytes) (Wrote k) ≡ Some (set m i (with_bytes old (overwritten old.bytes off (take k bytes))))
unfolding after
written_answers form m i off k bytes old is few reaches fits may =
    rw (
      le-ltb transfer_limit (length bytes) few,
      is,
      le-ltb (length old.bytes) off reaches,
      le-ltb (greatest_size form) (off + length bytes) fits,
      is,
      may,
    ) refl

-- k of n bytes may have been written: all, or so many that they end at a whole block, at the file's end or behind it
may_be_all : (old off n k : ℕ) → k ≡ n → may_have_written old off n k ≡ true
may_be_all old off n k all = rw (le-leb k n (omega (arith, all)), eq-eqb k n all) refl

may_be_short : (old off n k : ℕ) → k ≤ n → (off + k) % 1024 ≡ 0 → old ≤ off + k → may_have_written old off n k ≡ true
may_be_short old off n k few even past =
    rw (le-leb k n few, eq-eqb ((off + k) % 1024) 0 even, le-leb old (off + k) past) (or_right (eqb k n) true refl)

-- so many may it have written
pub has_written_so_many : (m : Files) (x : Image) (claims : Claims) (i : ℕ) (g : Growth) (old : File) (off k : ℕ) (bytes : List ℕ) →
    IsHeldIn m x claims i (grows g) → HasWritten x g off bytes k → file_in m i ≡ Some old →
    may_have_written (length old.bytes) off (length bytes) k ≡ true
has_written_so_many m x claims i g old off k bytes h w is =
    let growing = growing_of m x claims i g h in
    let same = same_file_there growing.old old (sym growing.was ∙ is) in
    let long = ap (λ (f : File). length f.bytes) same in
    let size = copy_size m x claims i g h in
    let most = w.most in
    let count : length g.written ≡ k = ap length w.written ∙ length-take-le k bytes most in
    let at = w.offset in
    ⊎_elim
    (λ (all : k ≡ length bytes). may_be_all (length old.bytes) off (length bytes) k all)
    (λ (short : ((off + k) % 1024 ≡ 0) × (address_in x g.copy ((off + k) / 1024) ≡ 0)).
    let even = short.0 in
    let past : g.copy.size ≤ off + k =
    ⊎_elim
    (λ (need : (off + k) / 1024 * 1024 < g.copy.size). absurd (growing.fit.whole ((off + k) / 1024) need short.1))
    (λ (le : g.copy.size ≤ (off + k) / 1024 * 1024). omega (arith, le, even))
    (cases_lt ((off + k) / 1024 * 1024) g.copy.size) in
    may_be_short (length old.bytes) off (length bytes) k most even (omega (arith, past, size, long)))
    w.ends

pub growth_answers : GrowthAnswers
growth_answers m x claims i g old off k bytes h w is =
    let growing = growing_of m x claims i g h in
    let same = same_file_there growing.old old (sym growing.was ∙ is) in
    let long = ap (λ (f : File). length f.bytes) same in
    let reaches : off ≤ length old.bytes = let was = growing.reaches in let at = w.offset in omega (arith, was, at, long) in
    let may = has_written_so_many m x claims i g old off k bytes h w is in
    written_answers (form_of x) m i off k bytes old is w.few reaches w.fits may
    ∙ ap₂ (λ (n : ℕ) (l : List ℕ). Some (set m i (with_bytes old (overwritten old.bytes n l)))) (sym w.offset) (sym w.written)

pub resting_refuses : RestingRefuses
unfolding after
resting_refuses m x claims i off bytes f used none few =
    let its = (resting_tells m x claims i f used none).its in
    let long = its.length in (
      (λ past.
          rw (le-ltb transfer_limit (length bytes) few, its.file, lt-ltb (length (bytes_in x (inode_of x i))) off (omega (arith, past, long))) refl),
      (λ inside big.
          rw (
            le-ltb transfer_limit (length bytes) few,
            its.file,
            le-ltb (length (bytes_in x (inode_of x i))) off (omega (arith, inside, long)),
            lt-ltb (greatest_size (form_of x)) (off + length bytes) big,
          ) refl),
    )
