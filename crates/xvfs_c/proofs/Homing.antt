-- What a device may hold amid its recovery, and has behind it.
use Rattle.std.proofs.Common.{◌≡◌, ◌≢◌, ◌∙◌, ℕ, zero, suc, ◌+◌, ◌-◌, ◌<◌, ◌≤◌, true, false, not, eqb, List, [], ◌∷◌, length, get_or, set, Some, None, inl, inr, ⊎_elim, refl, sym, ap, subst, arith, length-set}
use Rattle.std.proofs.lemmas.Bool.{eq-eqb, true≢false}
use Rattle.std.proofs.lemmas.List.{ext_get_or, get_or-set_other, get_or-set_same}
use Rattle.std.specs.List.{list_any, position_from}
use Rattle.blocks.specs.Block.{zero_block}
use Rattle.blocks.specs.Common.{applied, Image}
use Rattle.blocks.specs.Disk.{block_at}
use Rattle.blocks.specs.Lemmas.Held.{held_all}
use Rattle.model.specs.Common.{are_distinct, both_ways, cases_Bool, cases_eq, cases_lt, homes_of, is_home, is_lawful_log, le-ltb, list_any_at, logged_count, lt-ltb, ne_eqb, not-true}
use Rattle.model.specs.Lemmas.Log.{both_of, length-recovered, recovered_at, recovered_block-header, recovered_empty}
use Rattle.model.specs.Lemmas.Recovery.{AgreesBesides, home_of_log, homes_are_rewritten, is_lawful_log-besides, logged_count-left, recovers_once}
use Rattle.model.specs.Log.{recovered, recovered_block}
use Rattle.sessions.specs.Lemmas.Ledgers.{applied_push, held_push}
use Rattle.sessions.specs.Telling.{Ledger, MayHold, after_told, told_bytes}
use Rattle.sessions.specs.declared.session.Told.{Told}
use Rattle.sessions.specs.declared.session.Told.TheVariants.{Nothing, Wrote}
use Rattle.wal.specs.Lemmas.Commits.{empty_lawful}
use Rattle.wal.specs.Recovery.{RecoversAs}
use Rattle.xvfs_c.specs.Numbers.{told_number}
use Rattle.xvfs_c.specs.Recovering.{end_of_recovery, recovering, recovery_at}

-- the k-th of different homes stands at place k
place_of : (homes : List ℕ) (n k : ℕ) → are_distinct homes ≡ true → k < length homes → position_from (λ h. eqb h (get_or homes k 0)) n homes ≡ Some (n + k)
place_of [] n k distinct lt = absurd (omega arith)
place_of (home ∷ homes) n zero distinct lt = rw (eq-eqb home home refl) (ap Some (omega arith))
place_of (home ∷ homes) n (suc k) distinct lt =
    let parts = both_of (not (list_any (λ g. eqb g home) homes)) (are_distinct homes) distinct in
    let v : ℕ = get_or homes k 0 in
    let other : home ≢ v
    = λ e. both_ways (list_any (λ g. eqb g home) homes) (not-true (list_any (λ g. eqb g home) homes) parts.0)
    (list_any_at (λ g. eqb g home) homes k 0 (omega (arith, lt)) (eq-eqb v home (sym e))) in
    rw (ne_eqb home v other) (place_of homes (n + 1) k parts.1 (omega (arith, lt)) ∙ ap Some (omega arith))

-- a block that is no home has no place
no_place_of : (homes : List ℕ) (n b : ℕ) → list_any (λ h. eqb h b) homes ≡ false → position_from (λ h. eqb h b) n homes ≡ None
no_place_of [] n b none = refl
no_place_of (home ∷ homes) n b none = elim (cases_eq home b) [
  | inl is ↦ absurd (true≢false (sym (let t : true ≡ false = rw (eq-eqb home b is) at none in sym t)))
  | inr ne ↦ rw (ne_eqb home b ne) (no_place_of homes (n + 1) b (rw (ne_eqb home b ne) at none))
]

-- one that is stands at a place
home_at : (homes : List ℕ) (b : ℕ) → list_any (λ h. eqb h b) homes ≡ true → (j : ℕ) × (j < length homes) × (get_or homes j 0 ≡ b)
home_at [] b found = absurd (true≢false (sym found))
home_at (home ∷ homes) b found = elim (cases_eq home b) [
  | inl is ↦ (0, omega arith, is)
  | inr ne ↦ let r = home_at homes b (rw (ne_eqb home b ne) at found) in (suc r.0, omega (arith, r.1), r.2)
]

-- nothing is logged
module _ (x : Image) (none : logged_count x ≡ 0) where
  pub none_at : (k : ℕ) → recovery_at x k ≡ Nothing
  none_at k = rw (eq-eqb (logged_count x) 0 none) refl

  none_told : (k : ℕ) → recovering x k ≡ record { synced = x; held = [] }
  none_told zero = refl
  none_told (suc k) = ap (λ (t : Told). after_told (recovering x k) t (told_bytes t (recovered x))) (none_at k) ∙ none_told k

  none_alike : (k : ℕ) (z : Image) → MayHold (recovering x k) z → RecoversAs x z
  none_alike k z may =
      let is : z ≡ x = subst (λ (l : Ledger). MayHold l z) (none_told k) may in
      record { image = ap recovered is; lawful = ap is_lawful_log is }

  none_done : (k : ℕ) → recovering x k ≡ record { synced = recovered x; held = [] }
  none_done k = none_told k ∙ ap (λ (z : Image). record { synced = z; held = [] }) (sym (recovered_empty x none))

-- some blocks are logged
module _ (x : Image) (lawful : is_lawful_log x ≡ true) (some : logged_count x ≢ 0) (long : 2 < length x) where
  abbrev n : ℕ
  n = length (homes_of x)

  abbrev home : ℕ → ℕ
  home k = get_or (homes_of x) k 0

  abbrev y : Image
  y = recovered x

  is_home_at : (k : ℕ) → k < n → is_home x (home k) ≡ true
  is_home_at k lt = list_any_at (λ h. eqb h (home k)) (homes_of x) k 0 lt (eq-eqb (home k) (home k) refl)

  home_in : (k : ℕ) → k < n → (33 ≤ home k) × (home k < length x)
  home_in k lt = home_of_log x (home k) lawful (is_home_at k lt)

  -- the log's block k is the recovered image's at its home
  pub home_block : (k : ℕ) → k < n → block_at y (home k) ≡ block_at x (3 + k)
  unfolding recovered_block
  home_block k lt =
      let inside = home_in k lt in
      let distinct : are_distinct (homes_of x) ≡ true = (both_of _ (are_distinct (homes_of x)) lawful).1 in
      recovered_at x (home k) some inside.1 ∙ rw (ne_eqb (home k) 2 (omega (arith, inside.0)), place_of (homes_of x) 0 k distinct lt ∙ ap Some (let e : 0 + k ≡ k = omega arith in e)) refl

  pub header_block : block_at y 2 ≡ zero_block
  header_block = recovered_at x 2 some long ∙ recovered_block-header x

  other_block : (b : ℕ) → b ≢ 2 → is_home x b ≡ false → b < length x → block_at y b ≡ block_at x b
  unfolding recovered_block
  other_block b ne free lt = recovered_at x b some lt ∙ rw (ne_eqb b 2 ne, no_place_of (homes_of x) 0 b free) refl

  pub at_home : (k : ℕ) → k < n → recovery_at x k ≡ Wrote (home k)
  at_home k lt = rw (ne_eqb (logged_count x) 0 some, lt-ltb k n lt) refl

  pub at_end : (k : ℕ) → n ≤ k → recovery_at x k ≡ end_of_recovery (k - n)
  at_end k le = rw (ne_eqb (logged_count x) 0 some, le-ltb k n le) refl

  -- the first k homes were told
  record Homing (k : ℕ) (l : Ledger) : Type 0 where
    size : (z : Image) → MayHold l z → length z ≡ length x
    besides : (z : Image) → MayHold l z → AgreesBesides x z
    copied : (j : ℕ) → j < k → block_at (applied l.synced l.held) (home j) ≡ block_at y (home j)

  told_home : (k : ℕ) (l : Ledger) → k < n → Homing k l → Homing (suc k) (after_told l (Wrote (home k)) (block_at y (home k)))
  told_home k l lt homing =
      let v = block_at y (home k) in
      let a : Image = applied l.synced l.held in
      record {
        size = λ z may. let r = held_push l.synced l.held (home k, v) z may in
            ⊎_elim (λ same. ap length same ∙ homing.size r.0 r.1) (λ put. ap length put ∙ length-set r.0 (home k) v ∙ homing.size r.0 r.1) r.2;
        besides = λ z may b other. let r = held_push l.synced l.held (home k, v) z may in
            ⊎_elim (λ same. ap (λ (w : Image). block_at w b) same ∙ homing.besides r.0 r.1 b other)
            (λ put. ap (λ (w : Image). block_at w b) put
            ∙ get_or-set_other r.0 (home k) b v [] (λ e. both_ways (is_home x b) (not-true (is_home x b) other) (ap (is_home x) e ∙ is_home_at k lt))
            ∙ homing.besides r.0 r.1 b other) r.2;
        copied = λ j less.
            ap (λ (w : Image). block_at w (home j)) (applied_push l.synced l.held (home k, v))
            ∙ elim (cases_eq (home j) (home k)) [
              | inl is ↦
                  let inside : home k < length a = let s = homing.size a (held_all l.synced l.held) in let h = (home_in k lt).1 in omega (arith, s, h) in
                  ap (λ (b : ℕ). block_at (set a (home k) v) b) is ∙ get_or-set_same a (home k) v [] inside ∙ sym (ap (block_at y) is)
              | inr ne ↦
                  get_or-set_other a (home k) (home j) v [] ne
                  ∙ homing.copied j (elim (cases_eq j k) [ inl e ↦ absurd (ne (ap home e)) | inr apart ↦ omega (arith, less, apart) ])
            ];
      }

  homing_at : (k : ℕ) → k ≤ n → Homing k (recovering x k)
  homing_at zero le = record {
    size = λ z is. ap length is;
    besides = λ z is b other. ap (λ (w : Image). block_at w b) is;
    copied = λ j less. absurd (omega (arith, less));
  }
  homing_at (suc k) le =
      subst (λ (t : Told). Homing (suc k) (after_told (recovering x k) t (told_bytes t y))) (sym (at_home k (omega (arith, le))))
      (told_home k (recovering x k) (omega (arith, le)) (homing_at k (omega (arith, le))))

  abbrev all_home : Image
  all_home = applied (recovering x n).synced (recovering x n).held

  has_all : MayHold (recovering x n) all_home
  has_all = held_all (recovering x n).synced (recovering x n).held

  whole_at : (b : ℕ) → b < length x → block_at (set all_home 2 (block_at y 2)) b ≡ block_at y b
  whole_at b lt =
      let homing = homing_at n (omega arith) in
      let size = homing.size all_home has_all in
      elim (cases_eq b 2) [
        | inl is ↦ ap (block_at (set all_home 2 (block_at y 2))) is ∙ get_or-set_same all_home 2 (block_at y 2) [] (omega (arith, size, long)) ∙ sym (ap (block_at y) is)
        | inr ne ↦
            get_or-set_other all_home 2 b (block_at y 2) [] ne
            ∙ ⊎_elim
            (λ (is : is_home x b ≡ true). let r = home_at (homes_of x) b is in ap (block_at all_home) (sym r.2) ∙ homing.copied r.0 r.1 ∙ ap (block_at y) r.2)
            (λ (free : is_home x b ≡ false). homing.besides all_home has_all b (ap not free) ∙ sym (other_block b ne free lt))
            (cases_Bool (is_home x b))
      ]

  -- with the header the recovered image is there
  whole : set all_home 2 (block_at y 2) ≡ y
  whole =
      let size : length (set all_home 2 (block_at y 2)) ≡ length x = length-set all_home 2 (block_at y 2) ∙ (homing_at n (omega arith)).size all_home has_all in
      ext_get_or [] (set all_home 2 (block_at y 2)) y (size ∙ sym (length-recovered x)) (λ b lt. whole_at b (omega (arith, lt, size)))

  -- behind the homes
  late : ℕ → Ledger
  late zero = record { synced = all_home; held = [] }
  late (suc zero) = record { synced = all_home; held = (2, block_at y 2) ∷ [] }
  late (suc (suc d)) = record { synced = y; held = [] }

  late_then : (d : ℕ) → after_told (late d) (end_of_recovery (suc d)) (told_bytes (end_of_recovery (suc d)) y) ≡ late (suc d)
  unfolding late
  late_then zero = refl
  late_then (suc zero) = ap (λ (z : Image). record { synced = z; held = [] }) whole
  late_then (suc (suc d)) = refl

  late_at : (d k : ℕ) → k ≡ n + d → recovering x (suc k) ≡ late d
  unfolding late
  late_at zero k is =
      let e : k ≡ n = omega (arith, is) in
      ap (λ (i : ℕ). recovering x (suc i)) e
      ∙ ap (λ (t : Told). after_told (recovering x n) t (told_bytes t y)) (at_end n (omega arith) ∙ ap end_of_recovery (let z : n - n ≡ 0 = omega arith in z))
  late_at (suc d) zero is = absurd (omega (arith, is))
  late_at (suc d) (suc k) is =
      ap (λ (l : Ledger). after_told l (recovery_at x (suc k)) (told_bytes (recovery_at x (suc k)) y)) (late_at d k (omega (arith, is)))
      ∙ ap (λ (t : Told). after_told (late d) t (told_bytes t y)) (at_end (suc k) (omega (arith, is)) ∙ ap end_of_recovery (let z : suc k - n ≡ suc d = omega (arith, is) in z))
      ∙ late_then d

  of_homes : (k : ℕ) → k ≤ n → (z : Image) → MayHold (recovering x k) z → RecoversAs x z
  of_homes k le z may =
      let homing = homing_at k le in
      record {
        image = homes_are_rewritten x z lawful (homing.size z may) (homing.besides z may);
        lawful = is_lawful_log-besides x z lawful (homing.size z may) (homing.besides z may) ∙ sym lawful;
      }

  of_whole : (z : Image) → z ≡ y → RecoversAs x z
  of_whole z is = subst (RecoversAs x) (sym is) (record { image = recovers_once x; lawful = empty_lawful y (logged_count-left x) ∙ sym lawful })

  of_all : (z : Image) → z ≡ all_home → RecoversAs x z
  of_all z is = subst (RecoversAs x) (sym is) (of_homes n (omega arith) all_home has_all)

  late_alike : (d : ℕ) (z : Image) → MayHold (late d) z → RecoversAs x z
  unfolding late
  late_alike zero z is = of_all z is
  late_alike (suc zero) z (inl is) = of_all z is
  late_alike (suc zero) z (inr is) = of_whole z (is ∙ whole)
  late_alike (suc (suc d)) z is = of_whole z is

  some_alike : (k : ℕ) (z : Image) → MayHold (recovering x k) z → RecoversAs x z
  some_alike k z may = elim (cases_lt n k) [
    | inl behind ↦
        let d : ℕ = k - n - 1 in
        let is : k ≡ suc (k - 1) = omega (arith, behind) in
        late_alike d z (subst (λ (l : Ledger). MayHold l z) (ap (recovering x) is ∙ late_at d (k - 1) (omega (arith, behind))) may)
    | inr le ↦ of_homes k le z may
  ]

  ended_at : (k d : ℕ) → k ≡ n + d → end_of_recovery d ≡ Nothing → recovering x k ≡ record { synced = y; held = [] }
  unfolding late
  ended_at k zero is none = absurd (cc none)
  ended_at k (suc zero) is none = absurd (cc none)
  ended_at k (suc (suc zero)) is none = absurd (cc none)
  ended_at k (suc (suc (suc d))) is none =
      ap (recovering x) (let e : k ≡ suc (k - 1) = omega (arith, is) in e) ∙ late_at (suc (suc d)) (k - 1) (omega (arith, is))

  some_done : (k : ℕ) → recovery_at x k ≡ Nothing → recovering x k ≡ record { synced = y; held = [] }
  some_done k nothing = elim (cases_lt k n) [
    | inl lt ↦ absurd (let wrong : Wrote (home k) ≡ Nothing = sym (at_home k lt) ∙ nothing in cc wrong)
    | inr le ↦ ended_at k (k - n) (omega (arith, le)) (sym (at_end k le) ∙ nothing)
  ]

module _ (x : Image) (lawful : is_lawful_log x ≡ true) (long : 2 < length x) where
  pub alike_at : (k : ℕ) (z : Image) → MayHold (recovering x k) z → RecoversAs x z
  alike_at k z may = elim (cases_eq (logged_count x) 0) [ inl none ↦ none_alike x none k z may | inr some ↦ some_alike x lawful some long k z may ]

  pub done_at : (k : ℕ) → recovery_at x k ≡ Nothing → recovering x k ≡ record { synced = recovered x; held = [] }
  done_at k nothing = elim (cases_eq (logged_count x) 0) [ inl none ↦ none_done x none k | inr some ↦ some_done x lawful some long k nothing ]

  -- a told block is inside
  pub told_inside : (k : ℕ) → (told_number (recovery_at x k)).0 ≡ 1 → (told_number (recovery_at x k)).1 < length x
  told_inside k wrote = elim (cases_eq (logged_count x) 0) [
    | inl none ↦ absurd (let wrong : 0 ≡ 1 = ap (λ (t : Told). (told_number t).0) (sym (none_at x none k)) ∙ wrote in omega (arith, wrong))
    | inr some ↦ elim (cases_lt k (length (homes_of x))) [
      | inl lt ↦
          subst (λ (t : Told). (told_number t).1 < length x) (sym (at_home x lawful some long k lt)) (home_in x lawful some long k lt).1
      | inr le ↦
          let at = at_end x lawful some long k le in
          subst (λ (t : Told). (told_number t).1 < length x) (sym at) (end_inside (k - length (homes_of x)) (subst (λ (t : Told). (told_number t).0 ≡ 1) at wrote))
    ]
  ]
    where
      end_inside : (d : ℕ) → (told_number (end_of_recovery d)).0 ≡ 1 → (told_number (end_of_recovery d)).1 < length x
      end_inside zero wrong = absurd (omega (arith, wrong))
      end_inside (suc zero) one = long
      end_inside (suc (suc zero)) wrong = absurd (omega (arith, wrong))
      end_inside (suc (suc (suc d))) wrong = absurd (omega (arith, wrong))
