-- What reads give behind a run that broke off.
use Rattle.std.proofs.Common.{◌≡◌, ◌≢◌, ◌⊎◌, inl, inr, ⊎_elim, ℕ, ◌+◌, ◌<◌, ◌==◌, ◌||◌, ◌&&◌, ltb, true, not, take, List, [], length, refl, sym, ap, ◌∙◌, arith, set, length-set}
use Rattle.std.specs.List.{list_any}
use Rattle.std.proofs.lemmas.List.{set-get_or}
use Rattle.wal.specs.Common.{block_at, cases_eq, cases_lt, get_or-set_other, get_or-set_same, get_or_past, homes_in, Image, logged_in}
use Rattle.lost_writes.specs.Device.{BeginsAs, IsReadOf, MayTear}
use Rattle.lost_writes.specs.Stale.{IsStale, freshened, may_be_stale}
use Rattle.lost_writes.proofs.Sector.{SameSector, same_numbers}
use Rattle.lost_writes.proofs.Stale.{stale_alike}

-- a device that is stale but for its header is stale once that is written as reads give it
pub fresh : (y w : Image) → length w ≡ length y → ((b : ℕ) → b ≢ 2 → not (may_be_stale y b) ≡ true → block_at w b ≡ block_at y b) → IsStale y (freshened y w)
fresh y w size same = record {
  size = length-set w 2 (block_at y 2) ∙ size;
  agree = λ b out. elim (cases_eq b 2) [
    | inr other ↦ get_or-set_other w 2 b (block_at y 2) [] other ∙ same b other out
    | inl two ↦ ap (block_at (freshened y w)) two ∙ elim (cases_lt 2 (length w)) [
      | inl long ↦ get_or-set_same w 2 (block_at y 2) [] long
      | inr short ↦ get_or_past (freshened y w) 2 [] (omega (arith, length-set w 2 (block_at y 2), short)) ∙ sym (get_or_past y 2 [] (omega (arith, size, short)))
    ] ∙ ap (block_at y) (sym two)
  ];
}

pub fresh_stale : (y w : Image) → IsStale y w → IsStale y (freshened y w)
fresh_stale y w stale = fresh y w stale.size (λ b other out. stale.agree b out)

-- reads that are mixed of two such images
pub mixed_stale : (x a w y : Image) → IsStale x a → IsStale x w → IsReadOf a w y → IsStale x y
mixed_stale x a w y last there read = record {
  size = read.size ∙ last.size;
  agree = λ b out. ⊎_elim (λ e. e ∙ last.agree b out) (λ e. e ∙ there.agree b out) (read.each b);
}

pub set_here : (x : Image) (b : ℕ) (v : List ℕ) → block_at x b ≡ v → set x b v ≡ x
set_here x b v is = ap (set x b) (sym is) ∙ set-get_or x b []

-- the blocks that may be stale are told by the header's first sector
sector_alike : (v y : Image) (b : ℕ) → SameSector v y → may_be_stale y b ≡ may_be_stale v b
sector_alike v y b same =
    let numbers = same_numbers v y same in
    ap (λ n. list_any (λ home. home == b) (homes_in (block_at y 2)) || (ltb (2 + n) b && ltb b 33)) numbers.0
    ∙ ap (λ l. list_any (λ home. home == b) l || (ltb (2 + logged_in (block_at v 2)) b && ltb b 33)) numbers.1

-- reads behind a header's write: reads gave r and the device had d, the device has w and reads give y
module _ (P : Image → Type 0) (closed : (v w : Image) → SameSector v w → P v → P w) (r d w y : Image) (new bytes : List ℕ) (long : 2 < length r) (size : length d ≡ length r) (header : block_at d 2 ≡ block_at r 2)
    (old_has : (m : Image) → length m ≡ length r → block_at m 2 ≡ block_at r 2 → ((b : ℕ) → b ≢ 2 → (block_at m b ≡ block_at r b) ⊎ (block_at m b ≡ block_at d b)) → P m)
    (new_has : (m : Image) → length m ≡ length r → block_at m 2 ≡ new → ((b : ℕ) → b ≢ 2 → (block_at m b ≡ block_at r b) ⊎ (block_at m b ≡ block_at d b)) → P m)
    (same_old : (b : ℕ) → b ≢ 2 → not (may_be_stale r b) ≡ true → block_at d b ≡ block_at r b)
    (same_new : (b : ℕ) → b ≢ 2 → not (may_be_stale (set r 2 new) b) ≡ true → block_at d b ≡ block_at r b)
    (tears : MayTear d (2, new) bytes) (made : w ≡ set d 2 bytes) (read : IsReadOf (set r 2 new) w y) where
  whole : length y ≡ length r
  whole = read.size ∙ length-set r 2 new

  device_at : (b : ℕ) → b ≢ 2 → block_at w b ≡ block_at d b
  device_at b other = ap (λ (v : Image). block_at v b) made ∙ get_or-set_other d 2 b bytes [] other

  mixed : (b : ℕ) → b ≢ 2 → (block_at y b ≡ block_at r b) ⊎ (block_at y b ≡ block_at d b)
  mixed b other = ⊎_elim (λ e. inl (e ∙ get_or-set_other r 2 b new [] other)) (λ e. inr (e ∙ device_at b other)) (read.each b)

  headed : List ℕ → Image
  headed h = set y 2 h

  with_header : (h : List ℕ) → BeginsAs h (block_at y 2) → SameSector (set y 2 h) y
  with_header h begins = record {
    size = sym (length-set y 2 h);
    agree = λ b other. sym (get_or-set_other y 2 b h [] other);
    header = begins ∙ sym (ap (take 512) (get_or-set_same y 2 h [] (omega (arith, whole, long))));
  }

  by_header : (h : List ℕ) → BeginsAs h (block_at y 2) → P (set y 2 h) → ((b : ℕ) → b ≢ 2 → not (may_be_stale (set y 2 h) b) ≡ true → block_at d b ≡ block_at r b) → P y × IsStale y (freshened y w)
  by_header h begins has same =
      let sector = with_header h begins in (
        closed (set y 2 h) y sector has,
        fresh y w (ap length made ∙ length-set d 2 bytes ∙ size ∙ sym whole)
            (λ b other out.
            let kept : not (may_be_stale (set y 2 h) b) ≡ true = ap not (sym (sector_alike (set y 2 h) y b sector)) ∙ out in
            ⊎_elim (λ e. device_at b other ∙ same b other kept ∙ sym e) (λ e. device_at b other ∙ sym e) (mixed b other)),
      )

  inside : (h : List ℕ) → block_at (set y 2 h) 2 ≡ h
  inside h = get_or-set_same y 2 h [] (omega (arith, whole, long))

  others : (h : List ℕ) (b : ℕ) → b ≢ 2 → (block_at (set y 2 h) b ≡ block_at r b) ⊎ (block_at (set y 2 h) b ≡ block_at d b)
  others h b other = ⊎_elim (λ e. inl (get_or-set_other y 2 b h [] other ∙ e)) (λ e. inr (get_or-set_other y 2 b h [] other ∙ e)) (mixed b other)

  at_old : BeginsAs (block_at r 2) (block_at y 2) → P y × IsStale y (freshened y w)
  at_old begins =
      let h = block_at r 2 in
      by_header h begins (old_has (set y 2 h) (length-set y 2 h ∙ whole) (inside h) (others h))
      (λ b other out. same_old b other (ap not (sym (stale_alike r (set y 2 h) b (inside h))) ∙ out))

  at_new : BeginsAs new (block_at y 2) → P y × IsStale y (freshened y w)
  at_new begins =
      by_header new begins (new_has (set y 2 new) (length-set y 2 new ∙ whole) (inside new) (others new))
      (λ b other out. same_new b other (ap not (sym (stale_alike (set r 2 new) (set y 2 new) b (inside new ∙ sym (get_or-set_same r 2 new [] long)))) ∙ out))

  pub header_reads : P y × IsStale y (freshened y w)
  header_reads = ⊎_elim
      (λ e. at_new (ap (take 512) (e ∙ get_or-set_same r 2 new [] long)))
      (λ e.
      let torn : block_at y 2 ≡ bytes = e ∙ ap (λ (v : Image). block_at v 2) made ∙ get_or-set_same d 2 bytes [] (omega (arith, size, long)) in
      ⊎_elim (λ old. at_old (ap (take 512) torn ∙ old ∙ ap (take 512) header)) (λ now. at_new (ap (take 512) torn ∙ now)) (tears refl))
      (read.each 2)
