-- A commit over a stale device.
use Rattle.std.proofs.Common.{◌≡◌, ◌≢◌, ◌⊎◌, inl, inr, ⊎_elim, ℕ, zero, suc, ◌+◌, ◌-◌, ◌^◌, ◌<◌, ◌≤◌, ◌==◌, ◌&&◌, ◌||◌, ltb, leb, take, Bool, true, false, not, List, [], ◌∷◌, length, get_or, map, Option, Some, None, refl, sym, ap, ◌∙◌, subst, arith, set, length-set}
use Rattle.std.specs.List.{list_any, position_from}
use Rattle.std.specs.Prelude.{slice_index}
use Rattle.blocks.specs.Held.{Write, applied}
use Rattle.model.specs.Laws.{is_home}
use Rattle.model.specs.Lemmas.OutsideLog.{behind_log}
use Rattle.model.specs.Lemmas.Codecs.{homes_in-header_block, logged_in-header_block}
use Rattle.model.specs.Lemmas.Recovery.{home_behind, no_homes}
use Rattle.wal.specs.Common.{are_distinct, are_in_place, block_at, cases_eq, cases_lt, eq-eqb, get_or-set_other, get_or-set_same, get_or_past, header_block, homes_in, homes_of, Image, is_lawful_log, is_outside_log, IsSameOutsideLog, le-leb, length-recovered, list_any_at, logged_count, logged_in, lt-ltb, ne_eqb, no_place, place_among, place_below, recovered, recovered_empty}
use Rattle.lost_writes.specs.Device.{IsReadOf, Outlasts, StopLeaves, BreaksOff, TornImages, written}
use Rattle.lost_writes.specs.Laws.{CommitsOverStale, CommittedOverStale, Ends, IsAtRest}
use Rattle.lost_writes.specs.Runs.{Group, IsGroup, clearing, commit_of, copied_from, copied_to}
use Rattle.lost_writes.specs.Stale.{IsStale, RecoversTo, freshened, may_be_stale}
use Rattle.lost_writes.proofs.Stale.{header_kept, is_lawful_empty, stale_alike, logged_at, no_header, outside_kept, outside_then, recovers_stale, same_outside, stale_between, stale_here, unlogged_at}
use Rattle.lost_writes.proofs.Sector.{SameSector, recovers_sector, torn_header}
use Rattle.lost_writes.proofs.Writes.{GoTo, go_first, go_to, of_one, torn_all, torn_stale, row_at, row_goes}
use Rattle.lost_writes.proofs.Recovery.{ends_some}
use Rattle.lost_writes.proofs.MixedReads.{fresh_stale, header_reads, mixed_stale}

place_from : (homes : List ℕ) (n b j : ℕ) → position_from (λ h. h == b) n homes ≡ Some j → n ≤ j
place_from [] n b j e = absurd (cc e)
place_from (home ∷ homes) n b j e = elim (cases_eq home b) [
  | inl is ↦ let here : Some n ≡ Some j = rw (eq-eqb home b is) at e in let s : n ≡ j = cc here in omega arith
  | inr ne ↦ let r = place_from homes (n + 1) b j (rw (ne_eqb home b ne) at e) in omega arith
]

-- at its place a block stands
home_of_place : (homes : List ℕ) (n b k : ℕ) → position_from (λ h. h == b) n homes ≡ Some (n + k) → get_or homes k 0 ≡ b
home_of_place [] n b k e = absurd (cc e)
home_of_place (home ∷ homes) n b zero e = elim (cases_eq home b) [
  | inl is ↦ is
  | inr ne ↦ let r = place_from homes (n + 1) b (n + 0) (rw (ne_eqb home b ne) at e) in absurd (omega arith)
]
home_of_place (home ∷ homes) n b (suc k) e = elim (cases_eq home b) [
  | inl is ↦ let here : Some n ≡ Some (n + suc k) = rw (eq-eqb home b is) at e in let s : n ≡ n + suc k = cc here in absurd (omega arith)
  | inr ne ↦ home_of_place homes (n + 1) b k ((rw (ne_eqb home b ne) at e) ∙ ap Some (omega arith))
]

-- copies of a row that has the homes' blocks bring these
same_copies : (y cur : Image) (b : ℕ) (homes : List ℕ) → ((k : ℕ) → k < length homes → block_at y (b + k) ≡ block_at cur (get_or homes k 0))
    → copied_from y b homes ≡ map (λ home. (home, block_at cur home)) homes
same_copies y cur b [] same = refl
same_copies y cur b (home ∷ homes) same =
    let first : block_at y b ≡ block_at cur home = ap (block_at y) (omega arith) ∙ same 0 (omega arith) in
    ap (λ (v : List ℕ). (home, v) ∷ copied_from y (b + 1) homes) first
    ∙ ap (λ (l : List Write). (home, block_at cur home) ∷ l) (same_copies y cur (b + 1) homes (λ k lt. ap (block_at y) (omega arith) ∙ same (suc k) (omega arith)))

module _ (x z : Image) (g : Group) (rest : IsAtRest x z) (is : IsGroup x g) where
  abbrev hs : List ℕ
  hs = g.homes

  abbrev cur : Image
  cur = g.image

  abbrev header : List ℕ
  header = header_block g.homes

  abbrev logs : List Write
  logs = copied_to g.image 3 g.homes

  lawful : is_lawful_log x ≡ true
  lawful = is_lawful_empty x rest.empty

  home_in : (k : ℕ) → k < length g.homes → (33 ≤ get_or g.homes k 0) × (get_or g.homes k 0 < length x)
  home_in k lt = home_behind g.homes (length x) (get_or g.homes k 0) is.in_place (list_any_at (λ h. h == get_or g.homes k 0) g.homes k 0 lt (eq-eqb (get_or g.homes k 0) (get_or g.homes k 0) refl))

  long : 33 < length x
  long = let first = home_in 0 is.some in omega (arith, first.0, first.1)

  in_log : (b : ℕ) → 3 ≤ b → b < 33 → may_be_stale x b ≡ true
  in_log b ge lt =
      let low : ltb (2 + logged_count x) b ≡ true = lt-ltb (2 + logged_count x) b (omega (arith, rest.empty, ge)) in
      rw (no_homes x rest.empty, low, lt-ltb b 33 lt) refl

  to_log : GoTo (λ b. (3 ≤ b) × (b < 33)) logs
  to_log = row_goes (λ b. (3 ≤ b) × (b < 33)) g.image 3 g.homes (λ k lt. (omega (arith, lt), omega (arith, lt, is.room)))

  to_stale : GoTo (λ b. may_be_stale x b ≡ true) logs
  to_stale = go_to (λ b. (3 ≤ b) × (b < 33)) (λ b. may_be_stale x b ≡ true) (λ b at. in_log b at.0 at.1) logs to_log

  logging : (v w : Image) → IsStale x v → TornImages v logs w → IsStale x w
  logging v w stale torn = torn_stale x v w logs to_stale stale torn

  abbrev after : Image → Image
  after v = applied v logs

  after_stale : (v : Image) → IsStale x v → IsStale x (after v)
  after_stale v stale = logging v (after v) stale (torn_all v logs)

  -- an image once the log's blocks are written
  row : (v : Image) → IsStale x v → (k : ℕ) → k < length g.homes → block_at (after v) (3 + k) ≡ block_at cur (get_or g.homes k 0)
  row v stale k lt = row_at cur v 3 k g.homes lt (omega (arith, lt, is.room, stale.size, long))

  no_home : (b : ℕ) → is_home x b ≡ false
  no_home b = ap (list_any (λ h. h == b)) (no_homes x rest.empty)

  around : (v : Image) → IsStale x v → (b : ℕ) → is_outside_log b ≡ true → block_at (after v) b ≡ block_at x b
  around v stale b out = outside_kept x (after v) b (after_stale v stale) out (no_home b)

  -- and then the header
  abbrev headed : Image → Image
  headed v = set (after v) 2 header

  abbrev reads : Image
  reads = headed x

  size_of : (v : Image) → IsStale x v → length (headed v) ≡ length x
  size_of v stale = length-set (after v) 2 header ∙ (after_stale v stale).size

  header_is : (v : Image) → IsStale x v → block_at (headed v) 2 ≡ header
  header_is v stale = get_or-set_same (after v) 2 header [] (omega (arith, (after_stale v stale).size, long))

  small : (k : ℕ) → slice_index g.homes k < 2 ^ 32
  small k = elim (cases_lt k (length g.homes)) [
    | inl lt ↦ let inside = (home_in k lt).1 in omega (arith, inside, is.few)
    | inr past ↦ let none : slice_index g.homes k ≡ 0 = get_or_past g.homes k 0 past in omega (arith, none)
  ]

  count : logged_in header ≡ length g.homes
  count = logged_in-header_block g.homes is.room small

  names : homes_in header ≡ g.homes
  names = homes_in-header_block g.homes is.room small

  counted : logged_count reads ≡ length g.homes
  counted = ap logged_in (header_is x (stale_here x)) ∙ count

  named : homes_of reads ≡ g.homes
  named = ap homes_in (header_is x (stale_here x)) ∙ names

  pub reads_lawful : is_lawful_log reads ≡ true
  reads_lawful =
      ap (λ h. leb (logged_in h) 30 && are_in_place (homes_in h) (length reads) && are_distinct (homes_in h)) (header_is x (stale_here x))
      ∙ ap (λ n. leb (logged_in header) 30 && are_in_place (homes_in header) n && are_distinct (homes_in header)) (size_of x (stale_here x))
      ∙ ap (λ n. leb n 30 && are_in_place (homes_in header) (length x) && are_distinct (homes_in header)) count
      ∙ ap (λ l. leb (length g.homes) 30 && are_in_place l (length x) && are_distinct l) names
      ∙ rw (le-leb (length g.homes) 30 is.room, is.in_place, is.distinct) refl

  -- but for the header, the device has what reads give, and the log's blocks that this names
  alike : (b : ℕ) → b ≢ 2 → not (may_be_stale reads b) ≡ true → block_at (after z) b ≡ block_at (after x) b
  alike b other out = elim (cases_lt b 2) [
    | inl low ↦ outside b (rw (lt-ltb b 2 low) refl)
    | inr ge ↦ elim (cases_lt b 33) [
      | inr high ↦ outside b (behind_log b high)
      | inl lt ↦ elim (cases_lt b (3 + length g.homes)) [
        | inl in_row ↦
            let k : ℕ = b - 3 in
            let at : b ≡ 3 + k = omega (arith, ge, other) in
            let less : k < length g.homes = omega (arith, in_row, ge, other) in
            ap (block_at (after z)) at ∙ row z rest.stale k less ∙ sym (ap (block_at (after x)) at ∙ row x (stale_here x) k less)
        | inr past ↦
            let some : ltb (2 + logged_count reads) b ≡ true = lt-ltb (2 + logged_count reads) b (omega (arith, counted, past)) in
            absurd (cc (unnamed (is_home reads b) (rw (some, lt-ltb b 33 lt) at out)))
      ]
    ]
  ]
    where
      outside : (a : ℕ) → is_outside_log a ≡ true → block_at (after z) a ≡ block_at (after x) a
      outside a far = around z rest.stale a far ∙ sym (around x (stale_here x) a far)

      unnamed : (t : Bool) → not (t || true) ≡ true → false ≡ true
      unnamed true e = e
      unnamed false e = e

  headed_stale : IsStale reads (headed z)
  headed_stale = record {
    size = size_of z rest.stale ∙ sym (size_of x (stale_here x));
    agree = λ b out. elim (cases_eq b 2) [
      | inl two ↦ ap (block_at (headed z)) two ∙ header_is z rest.stale ∙ sym (ap (block_at reads) two ∙ header_is x (stale_here x))
      | inr other ↦ get_or-set_other (after z) 2 b header [] other ∙ alike b other out ∙ sym (get_or-set_other (after x) 2 b header [] other)
    ];
  }

  -- recovery gives the group's image
  gives : IsSameOutsideLog cur (recovered reads)
  gives = same_outside cur (recovered reads) (length-recovered reads ∙ size_of x (stale_here x) ∙ sym is.size)
      (λ b out lt. by_place b out (omega (arith, lt, is.size, size_of x (stale_here x))) (place_among (homes_of reads) b) refl)
    where
      by_place : (b : ℕ) → is_outside_log b ≡ true → b < length reads → (p : Option ℕ) → place_among (homes_of reads) b ≡ p → block_at (recovered reads) b ≡ block_at cur b
      by_place b out lt None e =
          let home : is_home reads b ≡ false = no_place (homes_of reads) 0 b e in
          unlogged_at reads b out home ∙ get_or-set_other (after x) 2 b header [] (no_header b out) ∙ around x (stale_here x) b out
          ∙ sym (is.rest b out (ap (list_any (λ h. h == b)) (sym named) ∙ home))
      by_place b out lt (Some j) e =
          let at : place_among g.homes b ≡ Some j = ap (λ l. place_among l b) (sym named) ∙ e in
          let below = place_below g.homes 0 b j at in
          logged_at reads b j (λ none. omega (arith, none, counted, is.some)) out lt e
          ∙ get_or-set_other (after x) 2 (3 + j) header [] (λ two. omega (arith, two)) ∙ row x (stale_here x) j (omega (arith, below))
          ∙ ap (block_at cur) (home_of_place g.homes 0 b j (at ∙ ap Some (omega arith)))

  to_image : (w : Image) → RecoversTo (recovered reads) w → RecoversTo cur w
  to_image w r = record { lawful = r.lawful; same = outside_then cur (recovered reads) (recovered w) gives r.same }

  before : (w : Image) → IsStale x w → RecoversTo x w
  before w stale = subst (λ (y : Image). RecoversTo y w) (recovered_empty x rest.empty) (recovers_stale x w lawful stale)

  behind : (w : Image) → IsStale reads w → RecoversTo cur w
  behind w stale = to_image w (recovers_stale reads w reads_lawful stale)

  abbrev homes : List (List Write)
  homes = map (λ home. (home, block_at cur home)) g.homes ∷ clearing ∷ []

  -- from there on it is a recovery
  ends_homes : Ends (recovered reads) reads (headed z) (RecoversTo (recovered reads)) homes
  ends_homes = subst (λ (l : List Write). Ends (recovered reads) reads (headed z) (RecoversTo (recovered reads)) (l ∷ clearing ∷ []))
      (ap (copied_from reads 3) named ∙ same_copies reads cur 3 g.homes (λ k lt. get_or-set_other (after x) 2 (3 + k) header [] (λ two. omega (arith, two)) ∙ row x (stale_here x) k lt))
      (ends_some reads (headed z) reads_lawful headed_stale (λ none. omega (arith, none, counted, is.some)))

  abbrev Either : Image → Type 0
  Either w = RecoversTo x w ⊎ RecoversTo cur w

  outlasts : Outlasts Either x z (commit_of g)
  outlasts = record { stops = stops; breaks = breaks }
    where
      stops : (w : Image) → StopLeaves z (commit_of g) w → Either w
      stops w (inl torn) = inl (before w (logging z w rest.stale torn))
      stops w (inr (inl (bytes, tears, now))) = ⊎_elim
          (λ (old : SameSector (after z) w). inl (recovers_sector x (after z) w old (before (after z) (after_stale z rest.stale))))
          (λ (new : SameSector (headed z) w). inr (recovers_sector cur (headed z) w new (behind (headed z) headed_stale)))
          (torn_header (after z) w header bytes (omega (arith, (after_stale z rest.stale).size, long)) tears now)
      stops w (inr (inr more)) = inr (to_image w (ends_homes.outlasts.stops w more))

      part_way : (y w : Image) → IsStale x y → IsStale x w → Either y × (is_lawful_log y ≡ true) × IsStale y (freshened y w)
      part_way y w first other = let r = before y first in (inl r, r.lawful, fresh_stale y w (stale_between x y w lawful first other))

      header_breaks : (y w : Image) (k : ℕ) → TornImages (after z) (take k ((2, header) ∷ [])) w → IsReadOf (applied (after x) (take k ((2, header) ∷ []))) w y → Either y × (is_lawful_log y ≡ true) × IsStale y (freshened y w)
      header_breaks y w k torn read = ⊎_elim
          (λ (none : take k ((2, header) ∷ []) ≡ []).
          let old : w ≡ after z = subst (λ (l : List Write). TornImages (after z) l w) none torn in
          let there : IsStale x w = subst (IsStale x) (sym old) (after_stale z rest.stale) in
          part_way y w (mixed_stale x (after x) w y (after_stale x (stale_here x)) there (subst (λ (l : List Write). IsReadOf (applied (after x) l) w y) none read)) there)
          (λ (one : take k ((2, header) ∷ []) ≡ (2, header) ∷ []).
          let t : TornImages (after z) ((2, header) ∷ []) w = subst (λ (l : List Write). TornImages (after z) l w) one torn in
          let here = after_stale x (stale_here x) in
          let there = after_stale z rest.stale in
          let r = header_reads Either closed (after x) (after z) w y header t.0 (omega (arith, here.size, long)) (there.size ∙ sym here.size) (header_kept x (after z) lawful there ∙ sym (header_kept x (after x) lawful here))
          (λ m size two each. inl (before m (record {
            size = size ∙ here.size;
            agree = λ b out. elim (cases_eq b 2) [
              | inl is ↦ ap (block_at m) is ∙ two ∙ header_kept x (after x) lawful here ∙ sym (ap (block_at x) is)
              | inr other ↦ ⊎_elim (λ r. r ∙ here.agree b out) (λ d. d ∙ there.agree b out) (each b other)
            ];
          })))
          (λ m size two each. inr (behind m (record {
            size = size ∙ sym (length-set (after x) 2 header);
            agree = λ b out. elim (cases_eq b 2) [
              | inl is ↦ ap (block_at m) is ∙ two ∙ sym (ap (block_at reads) is ∙ header_is x (stale_here x))
              | inr other ↦ ⊎_elim (λ r. r) (λ d. d ∙ alike b other out) (each b other) ∙ sym (get_or-set_other (after x) 2 b header [] other)
            ];
          })))
          (λ b other out. let kept : not (may_be_stale x b) ≡ true = ap not (sym (stale_alike x (after x) b (header_kept x (after x) lawful here))) ∙ out in there.agree b kept ∙ sym (here.agree b kept))
          alike t.1 t.2 (subst (λ (l : List Write). IsReadOf (applied (after x) l) w y) one read) in
          (r.0, ⊎_elim (λ (e : RecoversTo x y). e.lawful) (λ (e : RecoversTo cur y). e.lawful) r.0, r.1))
          (of_one k (2, header))
        where
          closed : (v u : Image) → SameSector v u → Either v → Either u
          closed v u same either = ⊎_elim (λ e. inl (recovers_sector x v u same e)) (λ e. inr (recovers_sector cur v u same e)) either

      breaks : (y w : Image) → BreaksOff x z (commit_of g) y w → Either y × (is_lawful_log y ≡ true) × IsStale y (freshened y w)
      breaks y w (inl (k, torn, read)) =
          let go = go_first (λ b. may_be_stale x b ≡ true) k logs to_stale in
          let there = torn_stale x z w (take k logs) go rest.stale torn in
          part_way y w (mixed_stale x (applied x (take k logs)) w y (torn_stale x x (applied x (take k logs)) (take k logs) go (stale_here x) (torn_all x (take k logs))) there read) there
      breaks y w (inr (inl (k, torn, read))) = header_breaks y w k torn read
      breaks y w (inr (inr more)) = let r = ends_homes.outlasts.breaks y w more in (inr (to_image y r.0), r.1, r.2)

  pub commits : Ends cur x z Either (commit_of g)
  commits = record { outlasts = outlasts; rests = ends_homes.rests; image = to_image (written reads homes) ends_homes.image }

  pub committed : Outlasts (RecoversTo cur) reads (headed z) homes
  committed = record {
    stops = λ w left. to_image w (ends_homes.outlasts.stops w left);
    breaks = λ y w failed. let r = ends_homes.outlasts.breaks y w failed in (to_image y r.0, r.1, r.2);
  }

pub commits_over_stale : CommitsOverStale
commits_over_stale x z g rest is = commits x z g rest is

pub committed_over_stale : CommittedOverStale
committed_over_stale x z g rest is = committed x z g rest is
