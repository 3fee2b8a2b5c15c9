-- A task writes bytes into a block of its file.
use Rattle.std.proofs.Common.{◌≡◌, ◌≢◌, ℕ, ◌+◌, ◌-◌, ◌*◌, ◌/◌, ◌%◌, ◌<◌, ◌≤◌, List, [], ◌++◌, length, get_or, set, max, Option, Some, refl, sym, ap, subst, ◌∙◌, ⊎_elim, arith}
use Rattle.in_flight.specs.Common.{address_along, addresses_in, block_at, byte_at, BytesWritten, cases_eq, cases_lt, Claim, Claims, count_of, depths, Dinode, ext_get_or, file_in, Files, FitsThen, Form, form_agree, form_of, get_or-overwritten_before, get_or-overwritten_behind, get_or-overwritten_in, get_or-set_other, get_or-set_same, greatest_size, grows, Growth, Image, IsClaimedNow, IsFine, IsFullAt, IsGrowing, IsHeldIn, IsLawfulGeometry, length-bytes_in, length-overwritten, listed, names_along, names_claimed, overwritten, overwritten-join, pointers_in, reaching, WritesNext}
use Rattle.model.specs.Files.{bytes_in}
use Rattle.in_flight.specs.Lemmas.Looks.{between}
use Rattle.in_flight.specs.Lemmas.Growing.{WritesOwn, but_own, own_agrees, own_base, own_inode, writes_own}
use Rattle.in_flight.specs.Lemmas.KeptTrees.{SameTrees, names_same_along, address_same_along}
use Rattle.in_flight.specs.Lemmas.Wholes.{greatest_small}
use Rattle.model.specs.Places.{address_in}
use Rattle.in_flight.specs.Lemmas.Apart.{blocks_apart, copy_marked, data_apart, data_named, writes_named}
use Rattle.in_flight.specs.Lemmas.HeldFrames.{growing_of, labels_same, whole_names}
use Rattle.in_flight.specs.Lemmas.GrowthBlocks.{copy_full, copy_size, full_block, length-written_over}
use Rattle.in_flight.specs.Lemmas.Frames.{geometry_same}
use Rattle.in_flight.specs.Lemmas.SameBytes.{growing_as}

record Writes (m : Files) (x : Image) (claims new : Claims) (i k at b : ℕ) (bytes : List ℕ) (g : Growth) : Type 0 where
  held : IsHeldIn m x claims i (grows g)
  next : WritesNext x g k at b bytes
  now : IsClaimedNow claims i (Some (grows (reaching g (max g.copy.size (k * 1024 + at + length bytes)) bytes))) new

module _ (m : Files) (x : Image) (claims new : Claims) (i k at b : ℕ) (bytes : List ℕ) (g : Growth)
    (h : Writes m x claims new i k at b bytes g) where
  abbrev d : Dinode
  d = g.copy

  abbrev ds : List ℕ
  ds = depths (form_of x)

  -- where the bytes begin
  abbrev q : ℕ
  q = k * 1024 + at

  abbrev t : Growth
  t = reaching g (max d.size (q + length bytes)) bytes

  abbrev old_block : List ℕ
  old_block = block_at x b

  abbrev block : List ℕ
  block = overwritten old_block at bytes

  abbrev y : Image
  y = set x b block

  growing : IsGrowing x i g (file_in m i)
  growing = growing_of m x claims i g h.held

  count : length d.addrs ≡ 13
  count = growing.fit.fields.count

  most : q + length bytes ≤ greatest_size (form_of x)
  most =
      omega (arith, h.next.fits, h.next.place)

  -- the bytes begin in the file, or at its end
  begins : q ≤ d.size
  begins =
      omega (arith, (copy_size m x claims i g h.held), h.next.place)

  there : address_in x d k ≢ 0
  there z = h.next.there (sym h.next.block ∙ z)

  full : length old_block ≡ 1024
  full = ap (λ c. length (block_at x c)) (sym h.next.block) ∙ (full_block m x claims i g h.held k there).1

  named : 1 ≤ count_of b (addresses_in (pointers_in x d))
  named = data_named m x claims i g h.held k b h.next.block h.next.there

  inside : b < length x
  inside = (copy_marked m x claims i g h.held b named).0.1

  writes : WritesOwn m x claims new i b block
  writes =
      writes_named m x claims i g h.held new _ b block h.now named (length-overwritten old_block at bytes (omega (arith, h.next.inside, full)) ∙ full)

  geometry : IsLawfulGeometry y
  geometry = geometry_same x y (own_base m x claims new i b block writes) h.held.fits.geometry

  same_form : form_of y ≡ form_of x
  same_form =
      let agrees = own_agrees m x claims new i b block writes in
      form_agree (but_own m x claims new i b block writes) x y agrees.agree agrees.one

  other_block : (c : ℕ) → c ≢ b → block_at y c ≡ block_at x c
  other_block c ne = get_or-set_other x b c block [] ne

  -- the blocks of addresses are others
  same_trees : SameTrees x y ds d.addrs
  same_trees slot way n led some short =
      other_block n (λ same. data_apart m x claims i g h.held slot way n k short led some (h.next.block ∙ sym same))

  -- so all addresses lead where they did
  leads : (j : ℕ) → address_in y t.copy j ≡ address_in x d j
  unfolding address_in
  leads j = ap (λ (f : Form). address_along y j (depths f) d.addrs) same_form ∙ address_same_along x y j ds d.addrs same_trees

  -- a block that the new size needs is there
  needs : (j : ℕ) → j * 1024 < t.copy.size → address_in x d j ≢ 0
  needs j need =
      ⊎_elim
      (λ (old : j * 1024 < d.size). growing.fit.whole j old)
      (λ (past : d.size ≤ j * 1024).
      let same : j ≡ k = omega (arith, past, need, begins, h.next.inside) in
      subst (λ n. address_in x d n ≢ 0) (sym same) there)
      (cases_lt (j * 1024) d.size)

  full_now : (j : ℕ) → j * 1024 < t.copy.size → IsFullAt y (address_in y t.copy j)
  full_now j need =
      let old = full_block m x claims i g h.held j (needs j need) in
      let same = leads j in (
        (λ z. old.0 (sym same ∙ z)),
        ap (λ c. length (block_at y c)) same
            ∙ ⊎_elim
            (λ (own : address_in x d j ≡ b).
            ap (λ c. length (block_at y c)) own ∙ ap length (get_or-set_same x b block [] inside) ∙ writes.whole)
            (λ (ne : address_in x d j ≢ b). ap length (other_block (address_in x d j) ne) ∙ old.1)
            (cases_eq (address_in x d j) b),
      )

  -- byte p of the file, where it is not among the written ones
  kept_byte : (p : ℕ) → p < d.size → get_or (bytes_in x d) p 0 ≡ get_or (block_at x (address_in x d (p / 1024))) (p % 1024) 0
  kept_byte p low = byte_at x d (copy_full m x claims i g h.held) p low

  now_byte : (p : ℕ) → p < t.copy.size → get_or (bytes_in y t.copy) p 0 ≡ get_or (block_at y (address_in x d (p / 1024))) (p % 1024) 0
  now_byte p low =
      byte_at y t.copy full_now p low
      ∙ ap (λ c. get_or (block_at y c) (p % 1024) 0) (leads (p / 1024))

  abbrev result : List ℕ
  result = overwritten (bytes_in x d) q bytes

  long : length (bytes_in x d) ≡ d.size
  long = length-bytes_in x d (copy_full m x claims i g h.held)

  start_inside : q ≤ length (bytes_in x d)
  start_inside = let a = begins in let b = long in omega (arith, a, b)

  -- in the block that is written
  in_own : (p : ℕ) → p < t.copy.size → p / 1024 ≡ k → get_or block (p % 1024) 0 ≡ get_or result p 0
  in_own p low here =
      let start = begins in
      let size = full in
      let at_start : at ≤ length old_block = omega (arith, size, h.next.inside) in
      let stays : p < d.size → get_or old_block (p % 1024) 0 ≡ get_or (bytes_in x d) p 0 =
      λ less. ap (λ c. get_or (block_at x c) (p % 1024) 0) (sym h.next.block ∙ ap (address_in x d) (sym here)) ∙ sym (kept_byte p less) in
      ⊎_elim
      (λ (before : p % 1024 < at).
      let earlier : p < q = omega (arith, before, here) in
      get_or-overwritten_before old_block at bytes (p % 1024) 0 at_start before
      ∙ stays (omega (arith, earlier, start))
      ∙ sym (get_or-overwritten_before (bytes_in x d) q bytes p 0 start_inside earlier))
      (λ (from : at ≤ p % 1024).
      ⊎_elim
      (λ (within : p % 1024 < at + length bytes).
      let n = p % 1024 - at in
      let block_place : at + n ≡ p % 1024 = omega (arith, from) in
      let file_place : q + n ≡ p = omega (arith, from, here) in
      let less : n < length bytes = omega (arith, from, within) in
      ap (λ c. get_or block c 0) (sym block_place)
      ∙ get_or-overwritten_in old_block at bytes n 0 at_start less
      ∙ sym (get_or-overwritten_in (bytes_in x d) q bytes n 0 start_inside less)
      ∙ ap (λ c. get_or result c 0) file_place)
      (λ (past : at + length bytes ≤ p % 1024).
      let later : q + length bytes ≤ p = omega (arith, past, here) in
      get_or-overwritten_behind old_block at bytes (p % 1024) 0 at_start past
      ∙ stays (omega (arith, later, low))
      ∙ sym (get_or-overwritten_behind (bytes_in x d) q bytes p 0 start_inside later))
      (cases_lt (p % 1024) (at + length bytes)))
      (cases_lt (p % 1024) at)

  -- in each other one
  in_other : (p : ℕ) → p < t.copy.size → p / 1024 ≢ k → get_or (block_at x (address_in x d (p / 1024))) (p % 1024) 0 ≡ get_or result p 0
  in_other p low apart =
      let fits = h.next.inside in
      ⊎_elim
      (λ (before : p < q).
      sym (kept_byte p (omega (arith, before, begins)))
      ∙ sym (get_or-overwritten_before (bytes_in x d) q bytes p 0 start_inside before))
      (λ (from : q ≤ p).
      let later : q + length bytes ≤ p = ⊎_elim
      (λ (within : p < q + length bytes). absurd (apart (omega (arith, from, within, fits))))
      (λ (past : q + length bytes ≤ p). past)
      (cases_lt p (q + length bytes)) in
      sym (kept_byte p (omega (arith, later, low)))
      ∙ sym (get_or-overwritten_behind (bytes_in x d) q bytes p 0 start_inside later))
      (cases_lt p q)

  each_byte : (p : ℕ) → p < t.copy.size → get_or (bytes_in y t.copy) p 0 ≡ get_or result p 0
  each_byte p low =
      now_byte p low
      ∙ ⊎_elim
      (λ (here : p / 1024 ≡ k).
      ap (λ c. get_or (block_at y c) (p % 1024) 0) (ap (address_in x d) here ∙ h.next.block)
      ∙ ap (λ (l : List ℕ). get_or l (p % 1024) 0) (get_or-set_same x b block [] inside)
      ∙ in_own p low here)
      (λ (apart : p / 1024 ≢ k).
      let other : address_in x d (p / 1024) ≢ b = λ same.
      blocks_apart m x claims i g h.held (p / 1024) k apart there (same ∙ sym h.next.block) in
      ap (λ (l : List ℕ). get_or l (p % 1024) 0) (other_block (address_in x d (p / 1024)) other) ∙ in_other p low apart)
      (cases_eq (p / 1024) k)

  file_now : bytes_in y t.copy ≡ result
  file_now =
      let now = length-bytes_in y t.copy full_now in
      ext_get_or 0 (bytes_in y t.copy) result (omega (arith, now, (length-written_over (bytes_in x d) q bytes start_inside), long))
      (λ p low. each_byte p (omega (arith, now, low)))

  fine : IsGrowing y i t (file_in m i)
  fine =
      let still = own_inode m x claims new i b block writes i ((between x i h.held.number).high) in
      let all = most in
      let old_all = growing.fit.size in
      growing_as x y i g t.copy g.taken t.written (file_in m i) growing
      (record {
        fields = record {
          kind = growing.fit.fields.kind;
          major = growing.fit.fields.major;
          minor = growing.fit.fields.minor;
          nlink = growing.fit.fields.nlink;
          size = omega (arith, all, old_all, (greatest_small (form_of x)));
          count = count;
          addrs = growing.fit.fields.addrs;
        };
        used = growing.fit.used;
        kind = growing.fit.kind;
        size = subst (λ (f : Form). t.copy.size ≤ greatest_size f) (sym same_form) (omega (arith, all, old_all));
        whole = λ j need z. needs j need (sym (leads j) ∙ z);
      })
      (ap (λ (o : Dinode). o.kind) still ∙ growing.same_kind) (labels_same x y i (d.major, d.minor) still growing.labels) refl refl
      (file_now ∙ ap (λ (l : List ℕ). overwritten l q bytes) growing.bytes
      ∙ overwritten-join growing.old.bytes g.written bytes g.offset q (sym h.next.place) growing.reaches)

  same_names : addresses_in (pointers_in y t.copy) ≡ addresses_in (pointers_in x d)
  same_names =
      whole_names y t.copy growing.fit.used
      ∙ ap (λ (f : Form). names_along y (depths f) d.addrs) same_form
      ∙ names_same_along x y ds d.addrs same_trees
      ∙ sym (whole_names x d growing.fit.used)

  written_then : FitsThen m x claims i y new
  written_then =
      writes_own m x claims new i b block writes
      (λ c.
      ap (λ (o : Option Claim). count_of c (names_claimed y i o)) h.now.own
      ∙ ap (λ (l : List ℕ). count_of c (listed g.taken ++ l)) same_names
      ∙ sym (ap (λ (o : Option Claim). count_of c (names_claimed x i o)) h.held.holds))
      (subst (λ (o : Option Claim). IsFine y i o (file_in m i)) (sym h.now.own) fine)

pub bytes_written : BytesWritten
bytes_written m x claims new i k at b bytes g held next now =
    written_then m x claims new i k at b bytes g (record { held = held; next = next; now = now })
