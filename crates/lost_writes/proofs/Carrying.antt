-- The steps of a commit, carried to a device that may be stale, and may lose and tear writes.
use Rattle.std.proofs.Common.{◌≡◌, ◌≢◌, ◌⊎◌, inl, inr, ⊎_elim, ℕ, ◌+◌, ◌<◌, ◌≤◌, ◌==◌, ◌&&◌, ◌||◌, ltb, leb, Bool, true, false, cond, not, List, [], ◌∷◌, ◌++◌, length, get_or, None, refl, sym, ap, ◌∙◌, subst, arith, set, length-set}
use Rattle.std.specs.List.{list_any}
use Rattle.std.specs.Prelude.{slice_index}
use Rattle.blocks.specs.Held.{Write, applied}
use Rattle.model.specs.Laws.{is_home}
use Rattle.model.specs.Lemmas.Recovery.{home_behind, no_homes}
use Rattle.model.specs.Log.{cleared}
use Rattle.wal.specs.Common.{are_distinct, are_in_place, AreHomes, block_at, Buffers, cases_eq, cases_lt, CommitMakes, CommitStepsAt, eq-eqb, eqb-true, fault_of_step, get_or-set_other, get_or-set_same, get_or_past, Ghosts, HasHeader, header_block, homes_of, Image, is_lawful_log, IsSameOutsideLog, JointAt, le-leb, le-ltb, list_any_at, logged_count, LogState, lt-ltb, none_cleared, recovered, recovered_empty, seen, stepped_at, VolumeState, zero_block}
use Rattle.wal.specs.Kept.{KeepsCommitted}
use Rattle.wal.specs.declared.types.Commit.{Commit}
use Rattle.wal.specs.declared.types.Committed.{Committed}
use Rattle.wal.specs.declared.types.Part.{Part}
use Rattle.wal.specs.Deeds.{DoesAs, deed_at}
use Rattle.wal.specs.Lemmas.Commits.{commit_makes}
use Rattle.wal.specs.Lemmas.Deeds.{commit_does}
use Rattle.wal.specs.Lemmas.Log.{few_homes}
use Rattle.lost_writes.specs.Carried.{Carries, CarriesAt, CommitCarries, Endures, IsSettledTo, LeavesAt, Ledger, after_deed, noted}
use Rattle.lost_writes.specs.Device.{MayTear, TornImages}
use Rattle.lost_writes.specs.Laws.{CarriedEndures, RestIsCarried}
use Rattle.lost_writes.specs.Stale.{IsStale, RecoversTo, may_be_stale}
use Rattle.lost_writes.proofs.Sector.{SameSector, recovers_sector, torn_header}
use Rattle.lost_writes.proofs.Stale.{is_lawful_empty, no_header, outside_then, recovers_stale, stale_alike}

applied_push : (z : Image) (held : List Write) (b : ℕ) (v : List ℕ) → applied z (held ++ (b, v) ∷ []) ≡ set (applied z held) b v
applied_push z [] b v = refl
applied_push z (write ∷ held) b v = applied_push (set z write.0 write.1) held b v

-- the last of held writes
torn_push : (z w : Image) (held : List Write) (write : Write) → TornImages z (held ++ write ∷ []) w
    → (v : Image) × TornImages z held v × (bytes : List ℕ) × MayTear v write bytes × (w ≡ set v write.0 bytes)
torn_push z w [] write (bytes, tears, is) = (z, refl, bytes, tears, is)
torn_push z w (first ∷ held) write (bytes, tears, more) =
    let r = torn_push (set z first.0 bytes) w held write more in
    (r.0, (bytes, tears, r.1), r.2, r.3, r.4)

settled_push : (n p : ℕ) (x z : Image) (v : List ℕ) → IsSettledTo n x z → IsSettledTo n (set x p v) (set z p v)
settled_push n p x z v is = record {
  size = length-set z p v ∙ is.size ∙ sym (length-set x p v);
  agree = λ b named. elim (cases_eq b p) [
    | inr other ↦ get_or-set_other z p b v [] other ∙ is.agree b named ∙ sym (get_or-set_other x p b v [] other)
    | inl here ↦ elim (cases_lt p (length x)) [
      | inl lt ↦ ap (block_at (set z p v)) here ∙ get_or-set_same z p v [] (omega (arith, is.size, lt)) ∙ sym (ap (block_at (set x p v)) here ∙ get_or-set_same x p v [] lt)
      | inr past ↦
          get_or_past (set z p v) b [] (omega (arith, length-set z p v, is.size, past, here))
          ∙ sym (get_or_past (set x p v) b [] (omega (arith, length-set x p v, past, here)))
    ]
  ];
}

settled_more : (n : ℕ) (x z : Image) (v : List ℕ) → 3 + n < length x → IsSettledTo n x z → IsSettledTo (n + 1) (set x (3 + n) v) (set z (3 + n) v)
settled_more n x z v lt is = record {
  size = length-set z (3 + n) v ∙ is.size ∙ sym (length-set x (3 + n) v);
  agree = λ b named. elim (cases_eq b (3 + n)) [
    | inl here ↦ ap (block_at (set z (3 + n) v)) here ∙ get_or-set_same z (3 + n) v [] (omega (arith, is.size, lt)) ∙ sym (ap (block_at (set x (3 + n) v)) here ∙ get_or-set_same x (3 + n) v [] lt)
    | inr other ↦
        get_or-set_other z (3 + n) b v [] other ∙ is.agree b (⊎_elim (λ low. inl (omega (arith, low, other))) (λ high. inr high) named)
        ∙ sym (get_or-set_other x (3 + n) b v [] other)
  ];
}

settled_less : (m n : ℕ) (x z : Image) → m ≤ n → IsSettledTo n x z → IsSettledTo m x z
settled_less m n x z le is = record { size = is.size; agree = λ b named. is.agree b (⊎_elim (λ low. inl (omega (arith, low, le))) (λ high. inr high) named) }

-- a device that is settled as far as the header names blocks
stale_of : (n : ℕ) (x z : Image) → logged_count x ≤ n → IsSettledTo n x z → IsStale x z
stale_of n x z le is = record {
  size = is.size;
  agree = λ b out. elim (cases_lt b (3 + n)) [
    | inl low ↦ is.agree b (inl low)
    | inr past ↦ elim (cases_lt b 33) [
      | inr high ↦ is.agree b (inr high)
      | inl lt ↦ absurd (cc (spare (is_home x b) (rw (lt-ltb (2 + logged_count x) b (omega (arith, past, le)), lt-ltb b 33 lt) at out)))
    ]
  ];
}
  where
    spare : (t : Bool) → not (t || true) ≡ true → false ≡ true
    spare true e = e
    spare false e = e

-- a write to a block that may be stale, torn or not
stale_write : (x v : Image) (p : ℕ) (new bytes : List ℕ) → p ≢ 2 → may_be_stale x p ≡ true → IsStale x v → IsStale (set x p new) (set v p bytes)
stale_write x v p new bytes other may stale = record {
  size = length-set v p bytes ∙ stale.size ∙ sym (length-set x p new);
  agree = λ b out.
      let kept : not (may_be_stale x b) ≡ true = ap not (sym (stale_alike x (set x p new) b (get_or-set_other x p 2 new [] (λ e. other (sym e))))) ∙ out in
      let away : b ≢ p = λ e. absurd (cc (rw may at (subst (λ (a : ℕ). not (may_be_stale x a) ≡ true) e kept))) in
      get_or-set_other v p b bytes [] away ∙ stale.agree b kept ∙ sym (get_or-set_other x p b new [] away);
}

header_lawful : (x : Image) (size : ℕ) (hs : List ℕ) → length x ≡ size → length hs ≤ 30 → AreHomes size hs → HasHeader x hs → is_lawful_log x ≡ true
header_lawful x size hs len few are head =
    ap (λ n. leb n 30 && are_in_place (homes_of x) (length x) && are_distinct (homes_of x)) head.count
    ∙ ap (λ l. leb (length hs) 30 && are_in_place l (length x) && are_distinct l) head.each
    ∙ ap (λ n. leb (length hs) 30 && are_in_place hs n && are_distinct hs) len
    ∙ rw (le-leb (length hs) 30 few, are.in_place, are.distinct) refl

lawful_at : (k : Commit) (x : Image) (c : Buffers) (l : LogState) → JointAt k x c l → is_lawful_log x ≡ true
lawful_at Commit.Quiet x c l j = is_lawful_empty x j.phase
lawful_at (Commit.Logging n) x c l j = is_lawful_empty x j.phase.0
lawful_at Commit.Heading x c l j = is_lawful_empty x j.phase.0
lawful_at (Commit.Homing n) x c l j = header_lawful x l.size l.homes j.size (few_homes j.log) j.log.places j.phase.0
lawful_at Commit.Clearing x c l j = header_lawful x l.size l.homes j.size (few_homes j.log) j.log.places j.phase.0
lawful_at (Commit.Syncing Part.Log) x c l j = is_lawful_empty x j.phase.0
lawful_at (Commit.Syncing Part.Header) x c l j = header_lawful x l.size l.homes j.size (few_homes j.log) j.log.places j.phase.0
lawful_at (Commit.Syncing Part.Homes) x c l j = header_lawful x l.size l.homes j.size (few_homes j.log) j.log.places j.phase.0
lawful_at (Commit.Syncing Part.Clear) x c l j = is_lawful_empty x j.phase

-- ---- at a stop

carried_endures_at : (k : Commit) (x w : Image) → is_lawful_log x ≡ true → LeavesAt k x w → Endures k x w
carried_endures_at Commit.Quiet x w lawful stale = inl (recovers_stale x w lawful stale)
carried_endures_at (Commit.Logging n) x w lawful stale = inl (recovers_stale x w lawful stale)
carried_endures_at Commit.Heading x w lawful stale = inl (recovers_stale x w lawful stale)
carried_endures_at (Commit.Homing n) x w lawful stale = inl (recovers_stale x w lawful stale)
carried_endures_at Commit.Clearing x w lawful stale = inl (recovers_stale x w lawful stale)
carried_endures_at (Commit.Syncing Part.Log) x w lawful stale = inl (recovers_stale x w lawful stale)
carried_endures_at (Commit.Syncing Part.Header) x w lawful (inl with_it) = inl with_it
carried_endures_at (Commit.Syncing Part.Header) x w lawful (inr without) = inr (refl, without)
carried_endures_at (Commit.Syncing Part.Homes) x w lawful stale = inl (recovers_stale x w lawful stale)
carried_endures_at (Commit.Syncing Part.Clear) x w lawful recovers = inl recovers

pub carried_endures : CarriedEndures
carried_endures x w c log l joint carries torn = carried_endures_at log.commit x w (lawful_at log.commit x c log joint) (carries.each w torn)

-- ---- where it begins

pub rest_is_carried : RestIsCarried
rest_is_carried x z homes rest =
    let all : IsSettledTo 0 x z = record {
      size = rest.stale.size;
      agree = λ b named. rest.stale.agree b (⊎_elim
          (λ low. rw (no_homes x rest.empty, le-ltb (2 + logged_count x) b (omega (arith, low, rest.empty))) refl)
          (λ high. rw (no_homes x rest.empty, le-ltb b 33 high) (neither (ltb (2 + logged_count x) b)))
          named);
    } in (
      record { all = all; none = tt; each = λ w is. subst (IsStale x) (sym is) rest.stale },
      record { all = all; none = tt; each = λ w is. subst (IsStale x) (sym is) rest.stale },
    )
  where
    neither : (t : Bool) → not (t && false) ≡ true
    neither true = refl
    neither false = refl

-- ---- a step

module _ (x : Image) (c : Buffers) (log : LogState) (l : Ledger) where
  abbrev device : Image
  device = applied l.synced l.held

  long : (k : Commit) → JointAt k x c log → 33 ≤ length x
  long k j = omega (arith, j.size, j.log.big)

  pushed : (n : ℕ) (y : Image) (b : ℕ) (v : List ℕ) → IsSettledTo n y (set device b v) → IsSettledTo n y (applied l.synced (l.held ++ (b, v) ∷ []))
  pushed n y b v is = subst (IsSettledTo n y) (sym (applied_push l.synced l.held b v)) is

  -- where nothing is held the device is what was synced
  alone : l.held ≡ [] → device ≡ l.synced
  alone none = ap (applied l.synced) none

  last_alone : (b : ℕ) (v : List ℕ) (w : Image) → l.held ≡ [] → TornImages l.synced (l.held ++ (b, v) ∷ []) w → (bytes : List ℕ) × MayTear l.synced (b, v) bytes × (w ≡ set l.synced b bytes)
  last_alone b v w none torn = subst (λ (held : List Write). TornImages l.synced (held ++ (b, v) ∷ []) w) none torn

  log_block : (n : ℕ) (v : List ℕ) → JointAt (Commit.Logging n) x c log → CarriesAt (Commit.Logging n) log.homes x l
      → (k : Commit) → (k ≡ cond (n + 1 == length log.homes) (Commit.Syncing Part.Log) (Commit.Logging (n + 1))) → CarriesAt k log.homes (set x (3 + n) v) (noted l (3 + n) v)
  log_block n v j carries k is = subst (λ (m : Commit). CarriesAt m log.homes (set x (3 + n) v) (noted l (3 + n) v)) (sym is) (by_last (n + 1 == length log.homes) refl)
    where
      lt : n < 30
      lt = omega (arith, j.log.idle.1, j.log.room)

      all : IsSettledTo (n + 1) (set x (3 + n) v) (applied l.synced (l.held ++ (3 + n, v) ∷ []))
      all = pushed (n + 1) (set x (3 + n) v) (3 + n) v (settled_more n x device v (let big = long (Commit.Logging n) j in omega (arith, big, lt)) carries.all)

      in_log : may_be_stale x (3 + n) ≡ true
      in_log =
          let none = j.phase.0 in
          rw (no_homes x none, lt-ltb (2 + logged_count x) (3 + n) (omega (arith, none)), lt-ltb (3 + n) 33 (omega (arith, lt))) refl

      each : (w : Image) → TornImages l.synced (l.held ++ (3 + n, v) ∷ []) w → IsStale (set x (3 + n) v) w
      each w torn =
          let r = torn_push l.synced w l.held (3 + n, v) torn in
          subst (IsStale (set x (3 + n) v)) (sym r.4) (stale_write x r.0 (3 + n) v r.2 (λ two. omega (arith, two)) in_log (carries.each r.0 r.1))

      by_last : (t : Bool) → (n + 1 == length log.homes) ≡ t → CarriesAt (cond t (Commit.Syncing Part.Log) (Commit.Logging (n + 1))) log.homes (set x (3 + n) v) (noted l (3 + n) v)
      by_last true e = record { all = subst (λ (m : ℕ). IsSettledTo m (set x (3 + n) v) (applied l.synced (l.held ++ (3 + n, v) ∷ []))) (eqb-true (n + 1) (length log.homes) e) all; none = tt; each = each }
      by_last false e = record { all = all; none = tt; each = each }

  home : (n : ℕ) (v : List ℕ) → JointAt (Commit.Homing n) x c log → CarriesAt (Commit.Homing n) log.homes x l
      → (k : Commit) → (k ≡ cond (n + 1 == length log.homes) (Commit.Syncing Part.Homes) (Commit.Homing (n + 1))) → CarriesAt k log.homes (set x (slice_index log.homes n) v) (noted l (slice_index log.homes n) v)
  home n v j carries k is = subst (λ (m : Commit). CarriesAt m log.homes (set x (slice_index log.homes n) v) (noted l (slice_index log.homes n) v)) (sym is) (by_last (n + 1 == length log.homes))
    where
      b : ℕ
      b = slice_index log.homes n

      among : list_any (λ g. g == slice_index log.homes n) log.homes ≡ true
      among = list_any_at (λ g. g == slice_index log.homes n) log.homes n 0 j.log.idle.1 (eq-eqb (get_or log.homes n 0) (slice_index log.homes n) refl)

      behind : (33 ≤ slice_index log.homes n) × (slice_index log.homes n < log.size)
      behind = home_behind log.homes log.size (slice_index log.homes n) j.log.places.in_place among

      is_one : may_be_stale x (slice_index log.homes n) ≡ true
      is_one = let found : is_home x (slice_index log.homes n) ≡ true = ap (list_any (λ g. g == slice_index log.homes n)) j.phase.0.each ∙ among in rw found refl

      all : IsSettledTo (length log.homes) (set x (slice_index log.homes n) v) (applied l.synced (l.held ++ (slice_index log.homes n, v) ∷ []))
      all = pushed (length log.homes) (set x (slice_index log.homes n) v) (slice_index log.homes n) v (settled_push (length log.homes) (slice_index log.homes n) x device v carries.all)

      each : (w : Image) → TornImages l.synced (l.held ++ (slice_index log.homes n, v) ∷ []) w → IsStale (set x (slice_index log.homes n) v) w
      each w torn =
          let r = torn_push l.synced w l.held (slice_index log.homes n, v) torn in
          subst (IsStale (set x (slice_index log.homes n) v)) (sym r.4) (stale_write x r.0 (slice_index log.homes n) v r.2 (λ two. omega (arith, two, behind.0)) is_one (carries.each r.0 r.1))

      by_last : (t : Bool) → CarriesAt (cond t (Commit.Syncing Part.Homes) (Commit.Homing (n + 1))) log.homes (set x (slice_index log.homes n) v) (noted l (slice_index log.homes n) v)
      by_last true = record { all = all; none = tt; each = each }
      by_last false = record { all = all; none = tt; each = each }

  heading : (h : List ℕ) → JointAt Commit.Heading x c log → CarriesAt Commit.Heading log.homes x l → is_lawful_log (set x 2 h) ≡ true → logged_count (set x 2 h) ≡ length log.homes
      → CarriesAt (Commit.Syncing Part.Header) log.homes (set x 2 h) (noted l 2 h)
  heading h j carries lawful count = record {
    all = pushed (length log.homes) (set x 2 h) 2 h (settled_push (length log.homes) 2 x device h carries.all);
    none = tt;
    each = each;
  }
    where
      z : Image
      z = l.synced

      there : IsSettledTo (length log.homes) x l.synced
      there = subst (IsSettledTo (length log.homes) x) (alone carries.none) carries.all

      old : RecoversTo (cleared (set x 2 h)) l.synced
      old =
          let stale = stale_of (length log.homes) x l.synced (omega (arith, j.phase.0)) there in
          let r = recovers_stale x l.synced (is_lawful_empty x j.phase.0) stale in
          record {
            lawful = r.lawful;
            same = outside_then (cleared (set x 2 h)) x (recovered l.synced)
                (record {
                  size = sym (length-set (set x 2 h) 2 zero_block ∙ length-set x 2 h);
                  agree = λ b out. sym (get_or-set_other (set x 2 h) 2 b zero_block [] (no_header b out) ∙ get_or-set_other x 2 b h [] (no_header b out));
                })
                (subst (λ (y : Image). IsSameOutsideLog y (recovered l.synced)) (recovered_empty x j.phase.0) r.same);
          }

      new : RecoversTo (recovered (set x 2 h)) (set l.synced 2 h)
      new = recovers_stale (set x 2 h) (set l.synced 2 h) lawful (stale_of (length log.homes) (set x 2 h) (set l.synced 2 h) (omega (arith, count)) (settled_push (length log.homes) 2 x l.synced h there))

      each : (w : Image) → TornImages l.synced (l.held ++ (2, h) ∷ []) w → RecoversTo (recovered (set x 2 h)) w ⊎ RecoversTo (cleared (set x 2 h)) w
      each w torn =
          let t = last_alone 2 h w carries.none torn in
          ⊎_elim (λ (s : SameSector l.synced w). inr (recovers_sector (cleared (set x 2 h)) l.synced w s old))
          (λ (s : SameSector (set l.synced 2 h) w). inl (recovers_sector (recovered (set x 2 h)) (set l.synced 2 h) w s new))
          (torn_header l.synced w h t.0 (let big = long Commit.Heading j in omega (arith, big, there.size)) t.1 t.2)

  clearing : JointAt Commit.Clearing x c log → CarriesAt Commit.Clearing log.homes x l → IsSameOutsideLog (recovered x) (recovered (set x 2 zero_block))
      → CarriesAt (Commit.Syncing Part.Clear) log.homes (set x 2 zero_block) (noted l 2 zero_block)
  clearing j carries keeps = record {
    all = pushed (length log.homes) (set x 2 zero_block) 2 zero_block (settled_push (length log.homes) 2 x device zero_block carries.all);
    none = tt;
    each = each;
  }
    where
      there : IsSettledTo (length log.homes) x l.synced
      there = subst (IsSettledTo (length log.homes) x) (alone carries.none) carries.all

      back : IsSameOutsideLog (recovered (set x 2 zero_block)) (recovered x)
      back = record { size = sym keeps.size; agree = λ b out. sym (keeps.agree b out) }

      old : RecoversTo (recovered (set x 2 zero_block)) l.synced
      old =
          let r = recovers_stale x l.synced (lawful_at Commit.Clearing x c log j) (stale_of (length log.homes) x l.synced (omega (arith, j.phase.0.count)) there) in
          record { lawful = r.lawful; same = outside_then (recovered (set x 2 zero_block)) (recovered x) (recovered l.synced) back r.same }

      none : logged_count (set x 2 zero_block) ≡ 0
      none = none_cleared x (let big = long Commit.Clearing j in omega (arith, big))

      new : RecoversTo (recovered (set x 2 zero_block)) (set l.synced 2 zero_block)
      new = recovers_stale (set x 2 zero_block) (set l.synced 2 zero_block) (is_lawful_empty (set x 2 zero_block) none)
          (stale_of (length log.homes) (set x 2 zero_block) (set l.synced 2 zero_block) (omega (arith, none)) (settled_push (length log.homes) 2 x l.synced zero_block there))

      each : (w : Image) → TornImages l.synced (l.held ++ (2, zero_block) ∷ []) w → RecoversTo (recovered (set x 2 zero_block)) w
      each w torn =
          let t = last_alone 2 zero_block w carries.none torn in
          ⊎_elim (λ (s : SameSector l.synced w). recovers_sector (recovered (set x 2 zero_block)) l.synced w s old)
          (λ (s : SameSector (set l.synced 2 zero_block) w). recovers_sector (recovered (set x 2 zero_block)) (set l.synced 2 zero_block) w s new)
          (torn_header l.synced w zero_block t.0 (let big = long Commit.Clearing j in omega (arith, big, there.size)) t.1 t.2)

  -- after the sync of a part the device is what was written
  abbrev after : Ledger
  after = record { synced = device; held = [] }

  settled_there : (n : ℕ) → logged_count x ≤ n → IsSettledTo n x device → (w : Image) → w ≡ device → IsStale x w
  settled_there n le is w same = subst (IsStale x) (sym same) (stale_of n x device le is)

  syncing : (p : Part) → JointAt (Commit.Syncing p) x c log → CarriesAt (Commit.Syncing p) log.homes x l → (next : LogState) → next ≡ stepped_at true (Commit.Syncing p) log → Carries x next after
  syncing Part.Log j carries next is = subst (λ (m : LogState). Carries x m after) (sym is)
      (record { all = carries.all; none = refl; each = settled_there (length log.homes) (omega (arith, j.phase.0)) carries.all })
  syncing Part.Header j carries next is = subst (λ (m : LogState). Carries x m after) (sym is)
      (record { all = carries.all; none = tt; each = settled_there (length log.homes) (omega (arith, j.phase.0.count)) carries.all })
  syncing Part.Homes j carries next is = subst (λ (m : LogState). Carries x m after) (sym is)
      (record { all = carries.all; none = refl; each = settled_there (length log.homes) (omega (arith, j.phase.0.count)) carries.all })
  syncing Part.Clear j carries next is = subst (λ (m : LogState). Carries x m after) (sym is)
      (record { all = settled_less 0 (length log.homes) x device (omega arith) carries.all; none = tt; each = settled_there (length log.homes) (omega (arith, j.phase)) carries.all })

module _ {D N : Type 0} (disk : Ghosts D N) (v w : VolumeState D) (r : Committed) (l : Ledger) (holds : disk.holding (disk.name v.device) ≡ true) (well : fault_of_step r ≡ None) (makes : CommitMakes disk v.device v.buffers v.log r w.device w.buffers w.log) where
  abbrev x : Image
  x = disk.image v.device

  abbrev y : Image
  y = disk.image w.device

  abbrev cur : Image
  cur = seen (disk.image v.device) v.buffers

  log_is : (k : Commit) → v.log.commit ≡ k → w.log ≡ stepped_at true k v.log
  log_is k stands = makes.log ∙ ap (λ (h : Bool). stepped_at h v.log.commit v.log) holds ∙ ap (λ (n : Commit). stepped_at true n v.log) stands

  joint_is : (m : LogState) → w.log ≡ m → JointAt m.commit y w.buffers m
  joint_is m is = subst (λ (n : LogState). JointAt n.commit y w.buffers n) is makes.joint

  there : (m : LogState) (i : Image) (after : Ledger) → w.log ≡ m → y ≡ i → CarriesAt m.commit m.homes i after → Carries y w.log after
  there m i after log image carries = subst (λ (n : LogState). CarriesAt n.commit n.homes y after) (sym log) (subst (λ (a : Image). CarriesAt m.commit m.homes a after) (sym image) carries)

  by_phase : (k : Commit) → v.log.commit ≡ k → JointAt k x v.buffers v.log → CarriesAt k v.log.homes x l → CommitStepsAt disk k v.device v.buffers v.log r w.device w.buffers w.log → DoesAs disk (deed_at k v.log) v w.device
      → Carries y w.log (after_deed v.log.homes cur (deed_at k v.log) l)
  by_phase Commit.Quiet stands j carries step does = absurd step
  by_phase (Commit.Logging n) stands j carries step does =
      let m = stepped_at true (Commit.Logging n) v.log in
      let u = block_at cur (slice_index v.log.homes n) in
      there m (set x (3 + n) u) (noted l (3 + n) u) (log_is (Commit.Logging n) stands) does.image (log_block x v.buffers v.log l n u j carries m.commit refl)
  by_phase Commit.Heading stands j carries step does =
      let m = stepped_at true Commit.Heading v.log in
      let h = header_block v.log.homes in
      let now = joint_is m (log_is Commit.Heading stands) in
      there m (set x 2 h) (noted l 2 h) (log_is Commit.Heading stands) does.write.image
      (heading x v.buffers v.log l h j carries
      (subst (λ (i : Image). is_lawful_log i ≡ true) does.write.image (lawful_at (Commit.Syncing Part.Header) y w.buffers m now))
      (subst (λ (i : Image). logged_count i ≡ length v.log.homes) does.write.image now.phase.0.count))
  by_phase (Commit.Homing n) stands j carries step does =
      let m = stepped_at true (Commit.Homing n) v.log in
      let b = slice_index v.log.homes n in
      let u = block_at cur b in
      there m (set x b u) (noted l b u) (log_is (Commit.Homing n) stands) does.image (home x v.buffers v.log l n u j carries m.commit refl)
  by_phase Commit.Clearing stands j carries step does =
      let m = stepped_at true Commit.Clearing v.log in
      let keeps : KeepsCommitted Commit.Clearing x cur y = subst (λ (n : Commit). KeepsCommitted n x cur y) stands makes.keeps in
      there m (set x 2 zero_block) (noted l 2 zero_block) (log_is Commit.Clearing stands) does.image
      (clearing x v.buffers v.log l j carries (subst (λ (i : Image). IsSameOutsideLog (recovered x) (recovered i)) does.image keeps.outside))
  by_phase (Commit.Syncing p) stands j carries step does =
      let device = applied l.synced l.held in
      subst (λ (i : Image). Carries i w.log (record { synced = device; held = [] })) (sym does.image) (syncing x v.buffers v.log l p j carries w.log (log_is (Commit.Syncing p) stands))

pub commit_carries : {D N : Type 0} (disk : Ghosts D N) → CommitCarries disk
commit_carries disk v w r l holds well joint commits carries =
    let makes = commit_makes disk v.device v.buffers v.log w.device w.buffers w.log r well commits.write in
    by_phase disk v w r l holds well makes v.log.commit refl joint carries commits.write (commit_does disk v.log.commit v w r refl well commits.write)
