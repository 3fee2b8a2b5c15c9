-- A recovery over a stale device.
use Rattle.std.proofs.Common.{◌≡◌, ◌≢◌, ◌⊎◌, inl, inr, ⊎_elim, ℕ, zero, suc, ◌+◌, ◌<◌, ◌==◌, ltb, take, true, false, not, List, [], ◌∷◌, length, get_or, Some, refl, sym, ap, ◌∙◌, subst, arith, set, length-set}
use Rattle.std.specs.List.{list_any, position_from}
use Rattle.std.proofs.lemmas.Bool.{cases_Bool}
use Rattle.blocks.specs.Held.{Write, applied}
use Rattle.model.specs.Laws.{is_home}
use Rattle.model.specs.Lemmas.Log.{recovered_low}
use Rattle.model.specs.Lemmas.OutsideLog.{behind_log}
use Rattle.model.specs.Lemmas.Recovery.{logged_count-short, no_homes}
use Rattle.wal.specs.Common.{are_distinct, block_at, both_of, both_ways, cases_eq, cases_lt, eq-eqb, ext_get_or, get_or-set_other, get_or-set_same, home_of_log, homes_of, Image, is_lawful_log, is_outside_log, le-ltb, lt-ltb, list_any_at, length-recovered, logged_count, ne_eqb, none_cleared, not-true, place_among, recovered, recovered_at, recovered_block-header, recovered_empty, zero_block}
use Rattle.lost_writes.specs.Device.{IsReadOf, Outlasts, StopLeaves, BreaksOff, TornImages}
use Rattle.lost_writes.specs.Laws.{Ends, IsAtRest, RecoversOverStale, RecoveryWrites}
use Rattle.lost_writes.specs.Runs.{clearing, copied_from}
use Rattle.lost_writes.specs.Stale.{IsStale, RecoversTo, freshened, may_be_stale}
use Rattle.lost_writes.proofs.Stale.{header_kept, is_lawful_empty, stale_alike, logged_at, low_no_home, no_header, outside_is, outside_kept, outside_then, recovers_stale, same_outside, stale_between, stale_here, unlogged_at}
use Rattle.lost_writes.proofs.MixedReads.{fresh_stale, header_reads, mixed_stale, set_here}
use Rattle.lost_writes.proofs.Sector.{SameSector, recovers_sector, torn_header}
use Rattle.lost_writes.proofs.Writes.{GoTo, applied_other, copied_at, copies_go, go_first, of_one, torn_all, torn_stale}

-- with an empty header, what may not be stale is outside the log, but for the header
pub empty_outside : (y : Image) (b : ℕ) → logged_count y ≡ 0 → b ≢ 2 → not (may_be_stale y b) ≡ true → is_outside_log b ≡ true
empty_outside y b none other out = elim (cases_lt b 2) [
  | inl low ↦ rw (lt-ltb b 2 low) refl
  | inr ge ↦ elim (cases_lt b 33) [
    | inr high ↦ rw (le-ltb b 2 ge, lt-ltb 32 b (omega (arith, high))) refl
    | inl lt ↦
        let some : ltb (2 + logged_count y) b ≡ true = lt-ltb (2 + logged_count y) b (omega (arith, none, ge, other)) in
        absurd (cc (rw (no_homes y none, some, lt-ltb b 33 lt) at out))
  ]
]

-- the k-th of different homes stands at place k
place_of_home : (homes : List ℕ) (n k : ℕ) → are_distinct homes ≡ true → k < length homes → position_from (λ h. h == get_or homes k 0) n homes ≡ Some (n + k)
place_of_home [] n k distinct lt = absurd (omega arith)
place_of_home (home ∷ homes) n zero distinct lt = rw (eq-eqb home home refl) (ap Some (omega arith))
place_of_home (home ∷ homes) n (suc k) distinct lt =
    let parts = both_of (not (list_any (λ g. g == home) homes)) (are_distinct homes) distinct in
    let v : ℕ = get_or homes k 0 in
    let other : home ≢ v
    = λ e. both_ways (list_any (λ g. g == home) homes) (not-true (list_any (λ g. g == home) homes) parts.0)
    (list_any_at (λ g. g == home) homes k 0 (omega arith) (eq-eqb v home (sym e))) in
    rw (ne_eqb home v other) (place_of_home homes (n + 1) k parts.1 (omega arith) ∙ ap Some (omega arith))

module _ (x z : Image) (lawful : is_lawful_log x ≡ true) (stale : IsStale x z) (some : logged_count x ≢ 0) where
  abbrev copies : List Write
  copies = copied_from x 3 (homes_of x)

  to_stale : GoTo (λ b. may_be_stale x b ≡ true) copies
  to_stale = copies_go (λ b. may_be_stale x b ≡ true) x 3 (homes_of x) (λ h home. rw home refl)

  copying : (w : Image) → TornImages z copies w → IsStale x w
  copying w torn = torn_stale x z w copies to_stale stale torn

  abbrev reads : Image
  reads = applied x copies

  abbrev device : Image
  device = applied z copies

  pub reads_stale : IsStale x reads
  reads_stale = torn_stale x x reads copies to_stale (stale_here x) (torn_all x copies)

  pub device_stale : IsStale x device
  device_stale = copying device (torn_all z copies)

  long : 2 < length x
  long = elim (cases_lt 2 (length x)) [ inl lt ↦ lt | inr short ↦ absurd (some (logged_count-short x short)) ]

  -- with the copies made, an image is as recovery leaves it, outside the log
  home_at : (v : Image) → IsStale x v → (b : ℕ) → is_outside_log b ≡ true → is_home x b ≡ true → block_at (applied v copies) b ≡ block_at (recovered x) b
  home_at v is b out home =
      let inside = (home_of_log x b lawful home).1 in
      copied_at (λ (bytes : List ℕ). bytes ≡ block_at (recovered x) b) x v 3 b (homes_of x)
      (λ k lt at. sym (logged_at x b k some out inside (ap (λ (h : ℕ). place_among (homes_of x) h) (sym at) ∙ place_of_home (homes_of x) 0 k (both_of _ (are_distinct (homes_of x)) lawful).1 lt ∙ ap Some (omega arith))))
      home (omega (arith, is.size, inside))

  brought_home : (v : Image) → IsStale x v → (b : ℕ) → is_outside_log b ≡ true → block_at (applied v copies) b ≡ block_at (recovered x) b
  brought_home v is b out = elim (cases_Bool (is_home x b)) [
    | inl home ↦ home_at v is b out home
    | inr other ↦ outside_kept x (applied v copies) b (torn_stale x v (applied v copies) copies to_stale is (torn_all v copies)) out other ∙ sym (unlogged_at x b out other)
  ]

  -- and with the header emptied it is recovered
  emptied_to : (y : Image) → length y ≡ length x → ((b : ℕ) → is_outside_log b ≡ true → block_at y b ≡ block_at (recovered x) b)
      → (logged_count (set y 2 zero_block) ≡ 0) × RecoversTo (recovered x) (set y 2 zero_block)
  emptied_to y size home =
      let none = none_cleared y (omega (arith, size, long)) in (
        none,
        record {
          lawful = is_lawful_empty (set y 2 zero_block) none;
          same = outside_then (recovered x) (set y 2 zero_block) (recovered (set y 2 zero_block))
              (same_outside (recovered x) (set y 2 zero_block) (length-set y 2 zero_block ∙ size ∙ sym (length-recovered x))
              (λ b out lt. get_or-set_other y 2 b zero_block [] (no_header b out) ∙ home b out))
              (outside_is (set y 2 zero_block) (recovered (set y 2 zero_block)) (recovered_empty (set y 2 zero_block) none));
        },
      )

  cleared_to : (v : Image) → IsStale x v → (logged_count (set (applied v copies) 2 zero_block) ≡ 0) × RecoversTo (recovered x) (set (applied v copies) 2 zero_block)
  cleared_to v is = emptied_to (applied v copies) (torn_stale x v (applied v copies) copies to_stale is (torn_all v copies)).size (brought_home v is)

  -- reads and the device, both with the copies made, once the reads' header is empty
  apart : (b : ℕ) → b ≢ 2 → not (may_be_stale (set reads 2 zero_block) b) ≡ true → block_at device b ≡ block_at reads b
  apart b other out =
      let outside = empty_outside (set reads 2 zero_block) b (cleared_to x (stale_here x)).0 other out in
      brought_home z stale b outside ∙ sym (brought_home x (stale_here x) b outside)

  outlasts : Outlasts (RecoversTo (recovered x)) x z (copies ∷ clearing ∷ [])
  outlasts = record { stops = stops; breaks = breaks }
    where
      stops : (w : Image) → StopLeaves z (copies ∷ clearing ∷ []) w → RecoversTo (recovered x) w
      stops w (inl torn) = recovers_stale x w lawful (copying w torn)
      stops w (inr (inl (bytes, tears, is))) = ⊎_elim
          (λ (old : SameSector device w). recovers_sector (recovered x) device w old (recovers_stale x device lawful device_stale))
          (λ (new : SameSector (set device 2 zero_block) w). recovers_sector (recovered x) (set device 2 zero_block) w new (cleared_to z stale).1)
          (torn_header device w zero_block bytes (omega (arith, device_stale.size, long)) tears is)
      stops w (inr (inr is)) = subst (RecoversTo (recovered x)) (sym is) (cleared_to z stale).1

      part_way : (y w : Image) → IsStale x y → IsStale x w → RecoversTo (recovered x) y × (is_lawful_log y ≡ true) × IsStale y (freshened y w)
      part_way y w first other = let r = recovers_stale x y lawful first in (r, r.lawful, fresh_stale y w (stale_between x y w lawful first other))

      mixed_home : (m : Image) → ((b : ℕ) → b ≢ 2 → (block_at m b ≡ block_at reads b) ⊎ (block_at m b ≡ block_at device b)) → (b : ℕ) → is_outside_log b ≡ true → block_at m b ≡ block_at (recovered x) b
      mixed_home m each b out = ⊎_elim (λ r. r ∙ brought_home x (stale_here x) b out) (λ d. d ∙ brought_home z stale b out) (each b (no_header b out))

      clearing_breaks : (y w : Image) (k : ℕ) → TornImages device (take k clearing) w → IsReadOf (applied reads (take k clearing)) w y → RecoversTo (recovered x) y × (is_lawful_log y ≡ true) × IsStale y (freshened y w)
      clearing_breaks y w k torn read = ⊎_elim
          (λ (none : take k clearing ≡ []).
          let old : w ≡ device = subst (λ (l : List Write). TornImages device l w) none torn in
          let there : IsStale x w = subst (IsStale x) (sym old) device_stale in
          part_way y w (mixed_stale x reads w y reads_stale there (subst (λ (l : List Write). IsReadOf (applied reads l) w y) none read)) there)
          (λ (one : take k clearing ≡ clearing).
          let t : TornImages device clearing w = subst (λ (l : List Write). TornImages device l w) one torn in
          let r = header_reads (RecoversTo (recovered x)) (recovers_sector (recovered x)) reads device w y zero_block t.0 (omega (arith, reads_stale.size, long)) (device_stale.size ∙ sym reads_stale.size) (header_kept x device lawful device_stale ∙ sym (header_kept x reads lawful reads_stale))
          (λ m size two each. recovers_stale x m lawful (record {
            size = size ∙ reads_stale.size;
            agree = λ b out. elim (cases_eq b 2) [
              | inl is ↦ ap (block_at m) is ∙ two ∙ header_kept x reads lawful reads_stale ∙ sym (ap (block_at x) is)
              | inr other ↦ ⊎_elim (λ r. r ∙ reads_stale.agree b out) (λ d. d ∙ device_stale.agree b out) (each b other)
            ];
          }))
          (λ m size two each. subst (RecoversTo (recovered x)) (set_here m 2 zero_block two) (emptied_to m (size ∙ reads_stale.size) (mixed_home m each)).1)
          (λ b other out. let kept : not (may_be_stale x b) ≡ true = ap not (sym (stale_alike x reads b (header_kept x reads lawful reads_stale))) ∙ out in device_stale.agree b kept ∙ sym (reads_stale.agree b kept))
          apart t.1 t.2 (subst (λ (l : List Write). IsReadOf (applied reads l) w y) one read) in
          (r.0, r.0.lawful, r.1))
          (of_one k (2, zero_block))

      breaks : (y w : Image) → BreaksOff x z (copies ∷ clearing ∷ []) y w → RecoversTo (recovered x) y × (is_lawful_log y ≡ true) × IsStale y (freshened y w)
      breaks y w (inl (k, torn, read)) =
          let go = go_first (λ b. may_be_stale x b ≡ true) k copies to_stale in
          let there = torn_stale x z w (take k copies) go stale torn in
          part_way y w (mixed_stale x (applied x (take k copies)) w y (torn_stale x x (applied x (take k copies)) (take k copies) go (stale_here x) (torn_all x (take k copies))) there read) there
      breaks y w (inr (inl (k, torn, read))) = clearing_breaks y w k torn read
      breaks y w (inr (inr none)) = absurd none

  -- with all written, reads have an empty header, and the device is stale in the log alone
  rests : IsAtRest (set reads 2 zero_block) (set device 2 zero_block)
  rests = record {
    empty = (cleared_to x (stale_here x)).0;
    stale = record {
      size = length-set device 2 zero_block ∙ device_stale.size ∙ sym (length-set reads 2 zero_block ∙ reads_stale.size);
      agree = λ b out. elim (cases_eq b 2) [
        | inl two ↦
            ap (block_at (set device 2 zero_block)) two ∙ get_or-set_same device 2 zero_block [] (omega (arith, device_stale.size, long))
            ∙ sym (ap (block_at (set reads 2 zero_block)) two ∙ get_or-set_same reads 2 zero_block [] (omega (arith, reads_stale.size, long)))
        | inr other ↦ get_or-set_other device 2 b zero_block [] other ∙ apart b other out ∙ sym (get_or-set_other reads 2 b zero_block [] other)
      ];
    };
  }

  pub ends_some : Ends (recovered x) x z (RecoversTo (recovered x)) (copies ∷ clearing ∷ [])
  ends_some = record { outlasts = outlasts; rests = rests; image = (cleared_to x (stale_here x)).1 }

  -- and that is all that recovery gives
  written_is : set reads 2 zero_block ≡ recovered x
  written_is = ext_get_or [] (set reads 2 zero_block) (recovered x) (length-set reads 2 zero_block ∙ reads_stale.size ∙ sym (length-recovered x))
      (λ b lt. let inside : b < length x = omega (arith, lt, length-set reads 2 zero_block, reads_stale.size) in elim (cases_eq b 2) [
        | inl two ↦
            ap (block_at (set reads 2 zero_block)) two ∙ get_or-set_same reads 2 zero_block [] (omega (arith, reads_stale.size, long))
            ∙ sym (ap (block_at (recovered x)) two ∙ recovered_at x 2 some long ∙ recovered_block-header x)
        | inr other ↦ get_or-set_other reads 2 b zero_block [] other ∙ elim (cases_Bool (is_outside_log b)) [
          | inl out ↦ brought_home x (stale_here x) b out
          | inr log ↦
              let low : b < 33 = low_of b log in
              (applied_other (λ a. is_home x a ≡ true) x copies (copies_go (λ a. is_home x a ≡ true) x 3 (homes_of x) (λ h home. home))).1 b
              (λ home. both_ways (is_home x b) (low_no_home x b lawful low) home) ∙ sym (recovered_low x b lawful low other inside)
        ]
      ])
    where
      low_of : (b : ℕ) → is_outside_log b ≡ false → b < 33
      low_of b log = elim (cases_lt b 33) [ inl lt ↦ lt | inr ge ↦ absurd (both_ways (is_outside_log b) log (behind_log b ge)) ]

-- where nothing is logged nothing is written
ends_none : (x z : Image) → is_lawful_log x ≡ true → IsStale x z → logged_count x ≡ 0 → Ends (recovered x) x z (RecoversTo (recovered x)) []
ends_none x z lawful stale none = record {
  outlasts = record {
    stops = λ w is. subst (RecoversTo (recovered x)) (sym is) (recovers_stale x z lawful stale);
    breaks = λ y w none_left. absurd none_left;
  };
  rests = record { empty = none; stale = stale };
  image = recovers_stale x x lawful (stale_here x);
}

pub recovers_over_stale : RecoversOverStale
recovers_over_stale x z lawful stale = elim (cases_eq (logged_count x) 0) [
  | inl none ↦ rw (eq-eqb (logged_count x) 0 none) (ends_none x z lawful stale none)
  | inr some ↦ rw (ne_eqb (logged_count x) 0 some) (ends_some x z lawful stale some)
]

pub recovery_writes : RecoveryWrites
recovery_writes x lawful = elim (cases_eq (logged_count x) 0) [
  | inl none ↦ rw (eq-eqb (logged_count x) 0 none) (sym (recovered_empty x none))
  | inr some ↦ rw (ne_eqb (logged_count x) 0 some) (written_is x x lawful (stale_here x) some)
]
