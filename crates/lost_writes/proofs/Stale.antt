-- A stale device is recovered as what reads give.
use Rattle.std.proofs.Common.{min, drop, ◌==◌, ◌≡◌, ◌≢◌, inl, inr, ⊎_elim, ℕ, ◌+◌, ◌<◌, ◌≤◌, Bool, true, false, not, ◌&&◌, ◌||◌, ltb, leb, List, [], ◌∷◌, length, Option, Some, None, refl, sym, ap, ◌∙◌, subst, arith}
use Rattle.std.specs.List.{list_any, position_from}
use Rattle.std.proofs.lemmas.Bool.{cases_Bool}
use Rattle.wal.specs.Common.{length-take, or_parts, words_of, are_distinct, are_in_place, block_at, both_of, cases_eq, cases_lt, get_or_past, home_of_log, homes_in, homes_of, Image, is_lawful_log, is_outside_log, IsSameOutsideLog, le-ltb, leb-true, length-recovered, logged_count, logged_in, ltb-true, ne_eqb, no_place, or_cases, place_among, place_below, recovered, recovered_at, recovered_empty}
use Rattle.model.specs.Laws.{is_home}
use Rattle.model.specs.Layout.{super_in, super_of, is_known_magic, is_lawful_super}
use Rattle.model.specs.Fields.{u32_at}
use Rattle.model.specs.Lemmas.OutsideLog.{same_outside_log}
use Rattle.model.specs.Lemmas.Recovery.{logged_count-left}
use Rattle.model.specs.Lemmas.Soundness.{verdict_sound, sound_verdict}
use Rattle.model.specs.Log.{recovered_block}
use Rattle.model.specs.Verdict.{verdict}
use Rattle.lost_writes.specs.Stale.{IsStale, RecoversTo, may_be_stale}
use Rattle.lost_writes.specs.Laws.{RecoversFiles, StaleIsRecovered}

-- a lawful log has room for what it says
pub few_logged : (x : Image) → is_lawful_log x ≡ true → logged_count x ≤ 30
few_logged x lawful =
    let two = both_of (leb (logged_count x) 30 && are_in_place (homes_of x) (length x)) (are_distinct (homes_of x)) lawful in
    leb-true (logged_count x) 30 (both_of (leb (logged_count x) 30) (are_in_place (homes_of x) (length x)) two.0).0

pub is_lawful_empty : (x : Image) → logged_count x ≡ 0 → is_lawful_log x ≡ true
is_lawful_empty x none = rw none refl

-- no home lies in the log
pub low_no_home : (x : Image) (b : ℕ) → is_lawful_log x ≡ true → b < 33 → is_home x b ≡ false
low_no_home x b lawful low = elim (cases_Bool (is_home x b)) [
  | inl t ↦ absurd (let h = (home_of_log x b lawful t).0 in omega (arith, h, low))
  | inr f ↦ f
]

-- what is no home, and not of the log's unnamed blocks, is not stale
pub named_kept : (x z : Image) (b : ℕ) → is_lawful_log x ≡ true → IsStale x z → b ≤ 2 + logged_count x → block_at z b ≡ block_at x b
named_kept x z b lawful stale low =
    let few = few_logged x lawful in
    let home = low_no_home x b lawful (omega (arith, low, few)) in
    stale.agree b (rw (home, le-ltb (2 + logged_count x) b low) refl)

pub outside_kept : (x z : Image) (b : ℕ) → IsStale x z → is_outside_log b ≡ true → is_home x b ≡ false → block_at z b ≡ block_at x b
outside_kept x z b stale out home = stale.agree b (⊎_elim
    (λ first. let lt : b < 2 = ltb-true b 2 first in rw (home, le-ltb (2 + logged_count x) b (omega (arith, lt))) refl)
    (λ last. let lt : 32 < b = ltb-true 32 b last in rw (home, le-ltb b 33 (omega (arith, lt))) (both_false (ltb (2 + logged_count x) b)))
    (or_cases (ltb b 2) (ltb 32 b) out))
  where
    both_false : (t : Bool) → not (t && false) ≡ true
    both_false true = refl
    both_false false = refl

-- such a device has the same log
pub header_kept : (x z : Image) → is_lawful_log x ≡ true → IsStale x z → block_at z 2 ≡ block_at x 2
header_kept x z lawful stale = named_kept x z 2 lawful stale (omega arith)

pub still_lawful : (x z : Image) → is_lawful_log x ≡ true → IsStale x z → is_lawful_log z ≡ true
still_lawful x z lawful stale =
    ap (λ h. leb (logged_in h) 30 && are_in_place (homes_in h) (length z) && are_distinct (homes_in h)) (header_kept x z lawful stale)
    ∙ ap (λ n. leb (logged_count x) 30 && are_in_place (homes_of x) n && are_distinct (homes_of x)) stale.size ∙ lawful

-- the blocks that may be stale are told by the header alone
pub stale_alike : (x y : Image) (b : ℕ) → block_at y 2 ≡ block_at x 2 → may_be_stale y b ≡ may_be_stale x b
stale_alike x y b header = ap (λ h. list_any (λ home. home == b) (homes_in h) || (ltb (2 + logged_in h) b && ltb b 33)) header

pub stale_here : (x : Image) → IsStale x x
stale_here x = record { size = refl; agree = λ b out. refl }

-- two devices that are stale where reads give x
pub stale_between : (x y w : Image) → is_lawful_log x ≡ true → IsStale x y → IsStale x w → IsStale y w
stale_between x y w lawful first other = record {
  size = other.size ∙ sym first.size;
  agree = λ b out.
      let kept : not (may_be_stale x b) ≡ true = ap not (sym (stale_alike x y b (header_kept x y lawful first))) ∙ out in
      other.agree b kept ∙ sym (first.agree b kept);
}

pub stale_back : (x z : Image) → is_lawful_log x ≡ true → IsStale x z → IsStale z x
stale_back x z lawful stale = stale_between x z x lawful stale (stale_here x)

-- images of one size whose blocks outside the log are the same
pub same_outside : (x y : Image) → length y ≡ length x → ((b : ℕ) → is_outside_log b ≡ true → b < length x → block_at y b ≡ block_at x b) → IsSameOutsideLog x y
same_outside x y size same = record {
  size = size;
  agree = λ b out. elim (cases_lt b (length x)) [
    | inl lt ↦ same b out lt
    | inr past ↦ get_or_past y b [] (omega (arith, size, past)) ∙ sym (get_or_past x b [] past)
  ];
}

pub outside_then : (x y z : Image) → IsSameOutsideLog x y → IsSameOutsideLog y z → IsSameOutsideLog x z
outside_then x y z s t = record { size = t.size ∙ s.size; agree = λ b out. t.agree b out ∙ s.agree b out }

pub outside_back : (x y : Image) → IsSameOutsideLog x y → IsSameOutsideLog y x
outside_back x y s = record { size = sym s.size; agree = λ b out. sym (s.agree b out) }

pub outside_is : (x y : Image) → y ≡ x → IsSameOutsideLog x y
outside_is x y is = record { size = ap length is; agree = λ b out. ap (λ (w : Image). block_at w b) is }

pub no_header : (b : ℕ) → is_outside_log b ≡ true → b ≢ 2
no_header b out same = absurd (cc (subst (λ (a : ℕ). is_outside_log a ≡ true) same out))

-- a block outside the log, as recovery leaves it: that of its log block, or what it is
pub logged_at : (x : Image) (b j : ℕ) → logged_count x ≢ 0 → is_outside_log b ≡ true → b < length x → place_among (homes_of x) b ≡ Some j → block_at (recovered x) b ≡ block_at x (3 + j)
unfolding recovered_block
logged_at x b j some out lt e = recovered_at x b some lt ∙ rw (ne_eqb b 2 (no_header b out), e) refl

pub unlogged_at : (x : Image) (b : ℕ) → is_outside_log b ≡ true → is_home x b ≡ false → block_at (recovered x) b ≡ block_at x b
unfolding recovered_block
unlogged_at x b out home = elim (cases_eq (logged_count x) 0) [
  | inl none ↦ ap (λ (y : Image). block_at y b) (recovered_empty x none)
  | inr some ↦ elim (cases_lt b (length x)) [
    | inl lt ↦ recovered_at x b some lt ∙ rw (ne_eqb b 2 (no_header b out), no_home_no_place (homes_of x) 0 b home) refl
    | inr past ↦ get_or_past (recovered x) b [] (omega (arith, length-recovered x, past)) ∙ sym (get_or_past x b [] past)
  ]
]
  where
    no_home_no_place : (homes : List ℕ) (n a : ℕ) → list_any (λ h. h == a) homes ≡ false → position_from (λ h. h == a) n homes ≡ None
    no_home_no_place [] n a none = refl
    no_home_no_place (home ∷ homes) n a none =
        let parts = or_parts (home == a) (list_any (λ h. h == a) homes) none in
        rw parts.0 (no_home_no_place homes (n + 1) a parts.1)

pub few_places : (x : Image) (b j : ℕ) → place_among (homes_of x) b ≡ Some j → j < logged_count x
few_places x b j e =
    let below = place_below (homes_of x) 0 b j e in
    let few = length-take (min (logged_count x) 30) (words_of (drop 4 (block_at x 2))) in
    omega (arith, below, few)

-- THE SAME IS RECOVERED
pub recovers_stale : (x z : Image) → is_lawful_log x ≡ true → IsStale x z → RecoversTo (recovered x) z
recovers_stale x z lawful stale = record {
  lawful = still_lawful x z lawful stale;
  same = same_outside (recovered x) (recovered z) (length-recovered z ∙ stale.size ∙ sym (length-recovered x))
      (λ b out lt. by_place b out (omega (arith, lt, length-recovered x)) (place_among (homes_of x) b) refl);
}
  where
    header : block_at z 2 ≡ block_at x 2
    header = header_kept x z lawful stale

    by_place : (b : ℕ) → is_outside_log b ≡ true → b < length x → (p : Option ℕ) → place_among (homes_of x) b ≡ p → block_at (recovered z) b ≡ block_at (recovered x) b
    by_place b out lt None e =
        let home : is_home x b ≡ false = no_place (homes_of x) 0 b e in
        unlogged_at z b out (ap (λ h. list_any (λ g. g == b) (homes_in h)) header ∙ home) ∙ outside_kept x z b stale out home ∙ sym (unlogged_at x b out home)
    by_place b out lt (Some j) e =
        let few = few_places x b j e in
        let some : logged_count x ≢ 0 = λ none. omega (arith, none, few) in
        logged_at z b j (λ none. some (sym (ap logged_in header) ∙ none)) out (omega (arith, stale.size, lt)) (ap (λ h. place_among (homes_in h) b) header ∙ e)
        ∙ named_kept x z (3 + j) lawful stale (omega (arith, few)) ∙ sym (logged_at x b j some out lt e)

pub recovers_files : RecoversFiles
recovers_files y w r sound = same_outside_log y (recovered w) r.same.size r.same.agree sound (logged_count-left w)

super_kept : (x z : Image) → IsStale x z → is_lawful_log x ≡ true → block_at z 1 ≡ block_at x 1
super_kept x z stale lawful = named_kept x z 1 lawful stale (omega arith)

faultless : (x z : Image) → is_lawful_log x ≡ true → IsStale x z → verdict x ≡ None → verdict z ≡ None
faultless x z lawful stale none =
    let is = verdict_sound x none in
    let super = super_kept x z stale lawful in
    sound_verdict z (
      record {
        magic = ap (λ b. is_known_magic (u32_at b 0)) super ∙ is.0.magic;
        fields = ap (λ b. is_lawful_super (super_in b) (length z)) super ∙ ap (is_lawful_super (super_of x)) stale.size ∙ is.0.fields;
      },
      still_lawful x z lawful stale,
      (recovers_files (recovered x) z (recovers_stale x z lawful stale) is.2).0,
    )

pub stale_is_recovered : StaleIsRecovered
stale_is_recovered x z lawful stale = record {
  super = super_kept x z stale lawful;
  header = header_kept x z lawful stale;
  recovers = recovers_stale x z lawful stale;
  verdicts = (faultless x z lawful stale, faultless z x (still_lawful x z lawful stale) (stale_back x z lawful stale));
  stopped = λ w alike.
      let r = recovers_stale x z lawful stale in
      record { lawful = alike.lawful ∙ r.lawful; same = subst (IsSameOutsideLog (recovered x)) (sym alike.image) r.same };
}
