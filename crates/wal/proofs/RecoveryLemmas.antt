-- The steps of a recovery, over plain images.
use Rattle.std.proofs.Common.{◌≡◌, ◌≢◌, ◌⊎◌, inl, inr, ⊎_elim, ℕ, ◌+◌, ◌<◌, ◌≤◌, Bool, true, false, cond, eqb, ◌&&◌, leb, List, [], length, set, Some, Result, Ok, Err, refl, sym, ◌∙◌, ap, subst, arith}
use Rattle.std.specs.Prelude.{slice_get, IfOk, OnOk}
use Rattle.std.proofs.lemmas.Option.{get_or_from_slice_get}
use Rattle.wal.specs.Common.{adds_after, AddsNone, are_distinct, are_in_place, block_at, both_of, counted, FailsOnce, few_homes, Ghosts, HasCopied, homes_of, Image, is_lawful_log, IsBlock, IsOldOrNew, IsRecoveredInPart, IsSettled, joined, LeavesFromSync, LeavesOldOrNew, LeavesOnly, leb-true, logged_count, Looks, MayStop, ne_eqb, none_cleared, OnBadLog, OnDisk, one_more, only_added, OnlyReads, OnNoMemory, OnSync, recovered, recovered_empty, Recovers, RecoversAs, RecoversBy, RefusesToRecover, Rests, Settles, started, stays, StopsAlike, syncs_to_restore, syncs_to_settle, writes_to_recover, zero_block}
use Rattle.wal.specs.declared.faults.RecoverFault.{RecoverFault}
use Rattle.blocks.specs.Lemmas.Reads.{reads_then}
use Rattle.wal.proofs.CopyLemmas.{SameBesides, home_at, besides_copied, besides_old_or_new, recovers_besides, recovers_same, copied_more, copied_none, low_stays, cleared, length-homes_of}
use Rattle.wal.specs.Lemmas.Commits.{empty_lawful}
use Rattle.wal.specs.Lemmas.Stops.{if_synced, only_wider}

-- the header that was read
pub header_read : (x : Image) (bytes : List ℕ) → slice_get x 2 ≡ Some bytes → block_at x 2 ≡ bytes
header_read x bytes read = get_or_from_slice_get x 2 bytes [] read

pub few_logged : (x : Image) → is_lawful_log x ≡ true → logged_count x ≤ 30
few_logged x lawful =
    let two = both_of (leb (logged_count x) 30 && are_in_place (homes_of x) (length x)) (are_distinct (homes_of x)) lawful in
    leb-true (logged_count x) 30 (both_of (leb (logged_count x) 30) (are_in_place (homes_of x) (length x)) two.0).0

-- a lawful log has as many homes as it says
pub homes_counted : (x : Image) → is_lawful_log x ≡ true → IsBlock (block_at x 2) → length (homes_of x) ≡ logged_count x
homes_counted x lawful block = omega (arith, few_logged x lawful, length-homes_of x block)

-- what a crash may leave after a write to a home
pub copy_besides : (x : Image) (k home : ℕ) (v : List ℕ) (old new : Image → Type 0) → k < length (homes_of x) → home ≡ home_at x k →
    ((w : Image) → old w → SameBesides x w) → LeavesOldOrNew home v old new → (z : Image) → new z → SameBesides x z
copy_besides x k home v old new lt is before crash z left =
    let r = crash z left in
    besides_old_or_new x r.0 z k v lt (before r.0 r.1) (subst (λ (h : ℕ). IsOldOrNew r.0 h v z) is r.2)

pub copy_step : (x y z : Image) (k home : ℕ) (v : List ℕ) → is_lawful_log x ≡ true → k < length (homes_of x) → home ≡ home_at x k → HasCopied k x y →
    slice_get y (3 + k) ≡ Some v → z ≡ set y home v → HasCopied (k + 1) x z
copy_step x y z k home v lawful lt is copied read written =
    let few = few_homes x in
    let value : v ≡ block_at x (3 + k)
    = sym (get_or_from_slice_get y (3 + k) v [] read) ∙ low_stays x y (3 + k) lawful (besides_copied x y k copied) (omega arith) in
    subst (HasCopied (k + 1) x) (sym (written ∙ ap (λ (h : ℕ). set y h v) is)) (copied_more x y k v lawful lt copied value)

-- the first k homes are copied
pub copied_in_part : (x y z : Image) (k : ℕ) → k ≤ length (homes_of x) → HasCopied k x y → z ≡ y → IsRecoveredInPart x z
copied_in_part x y z k le copied is = inl (k, le, subst (HasCopied k x) (sym is) copied)

-- the next was written, or wasn't
pub written_in_part : (x y new z : Image) (k home : ℕ) (v : List ℕ) → is_lawful_log x ≡ true → k < length (homes_of x) → home ≡ home_at x k → HasCopied k x y →
    slice_get y (3 + k) ≡ Some v → IsOldOrNew y home v new → z ≡ new → IsRecoveredInPart x z
written_in_part x y new z k home v lawful lt at copied read (inl same) is = copied_in_part x y z k (omega arith) copied (is ∙ same)
written_in_part x y new z k home v lawful lt at copied read (inr written) is =
    copied_in_part x new z (k + 1) (omega arith) (copy_step x y new k home v lawful lt at copied read written) is

-- the header was cleared, or wasn't
pub cleared_in_part : (x y new z : Image) → 2 < length x → logged_count x ≢ 0 → HasCopied (length (homes_of x)) x y → IsOldOrNew y 2 zero_block new → z ≡ new → IsRecoveredInPart x z
cleared_in_part x y new z long some copied (inl same) is = copied_in_part x y z (length (homes_of x)) (omega arith) copied (is ∙ same)
cleared_in_part x y new z long some copied (inr written) is = inr (is ∙ written ∙ cleared x y long some copied)

-- the write that clears the header
pub clear_recovers : (x y z : Image) → 33 ≤ length x → is_lawful_log x ≡ true → logged_count x ≢ 0 → HasCopied (length (homes_of x)) x y →
    IsOldOrNew y 2 zero_block z → RecoversAs x z
clear_recovers x y z long lawful some copied (inl is) =
    subst (RecoversAs x) (sym is) (recovers_besides x y lawful (besides_copied x y (length (homes_of x)) copied))
clear_recovers x y z long lawful some copied (inr is) =
    let none = none_cleared y (omega (arith, copied.size)) in
    subst (RecoversAs x) (sym is) (record {
      image = recovered_empty (set y 2 zero_block) none ∙ cleared x y (omega arith) some copied;
      lawful = empty_lawful (set y 2 zero_block) none ∙ sym lawful;
    })

-- where a recovery may stop: at its start, in its copying, and at the write that clears the header
module _ {D N : Type 0} (disk : Ghosts D N) where
  pub stops_here : (d : D) → IsSettled (disk.image d) (disk.leaves d (disk.moment d)) → StopsAlike disk d d
  stops_here d settled =
      let x = disk.image d in
      record {
        in_order = λ plain. started disk.moment disk.leaves d (IsRecoveredInPart x) (λ z crash. copied_in_part x x z 0 (omega arith) (copied_none x) (settled z crash));
        any_moment = started disk.moment disk.leaves d (RecoversAs x) (λ z crash. recovers_same x z (settled z crash));
        plain = λ free. refl;
      }

  -- and then a call that adds nothing
  pub stops_resting : (old mid new : D) → StopsAlike disk old mid → AddsNone (disk.moment mid) (disk.moment new) (disk.leaves mid) (disk.leaves new)
      → (disk.holding (disk.name old) ≡ false → disk.sync_count new ≡ disk.sync_count mid) → StopsAlike disk old new
  stops_resting old mid new stops time unsynced =
      let x = disk.image old in
      record {
        in_order = λ plain. stays disk.moment disk.leaves old mid new (IsRecoveredInPart x) (stops.in_order plain) time;
        any_moment = stays disk.moment disk.leaves old mid new (RecoversAs x) stops.any_moment time;
        plain = λ free. unsynced free ∙ stops.plain free;
      }

  -- after reads alone
  pub stops_read : (old read : D) → IsSettled (disk.image old) (disk.leaves old (disk.moment old)) → OnlyReads disk old read → StopsAlike disk old read
  stops_read old read settled reads = stops_resting old old read (stops_here old settled) reads.time (λ free. reads.syncs)

  pub stops_copying : (old read mid : D) → IsSettled (disk.image old) (disk.leaves old (disk.moment old)) → OnlyReads disk old read → StopsAlike disk read mid → StopsAlike disk old mid
  stops_copying old read mid settled reads copying =
      let x = disk.image old in
      let first = stops_read old read settled reads in
      record {
        in_order = λ plain. joined disk.moment disk.leaves old read mid (IsRecoveredInPart x) (first.in_order plain)
            (subst (λ (z : Image). LeavesOnly disk.moment disk.leaves read mid (IsRecoveredInPart z)) reads.image (copying.in_order (ap disk.holding reads.name ∙ plain)));
        any_moment = joined disk.moment disk.leaves old read mid (RecoversAs x) first.any_moment
            (subst (λ (z : Image). LeavesOnly disk.moment disk.leaves read mid (RecoversAs z)) reads.image copying.any_moment);
        plain = λ free. copying.plain (ap disk.holding reads.name ∙ free) ∙ reads.syncs;
      }

  pub stops_clearing : (old read mid new : D) → IsSettled (disk.image old) (disk.leaves old (disk.moment old)) → 33 ≤ length (disk.image old) → is_lawful_log (disk.image old) ≡ true → logged_count (disk.image old) ≢ 0 →
      OnlyReads disk old read → HasCopied (length (homes_of (disk.image old))) (disk.image old) (disk.image mid) → StopsAlike disk read mid →
      LeavesOnly disk.moment disk.leaves mid new (IsOldOrNew (disk.image mid) 2 zero_block) → (disk.holding (disk.name old) ≡ false → disk.sync_count new ≡ disk.sync_count mid) → StopsAlike disk old new
  stops_clearing old read mid new settled long lawful some reads copied copying clearing unsynced =
      let x = disk.image old in
      let y = disk.image mid in
      let home = stops_copying old read mid settled reads copying in
      record {
        in_order = λ plain. joined disk.moment disk.leaves old mid new (IsRecoveredInPart x) (home.in_order plain)
            (only_wider disk mid new (IsOldOrNew y 2 zero_block) (IsRecoveredInPart x) (λ z left. cleared_in_part x y z z (omega (arith, long)) some copied left refl) clearing);
        any_moment = joined disk.moment disk.leaves old mid new (RecoversAs x) home.any_moment
            (only_wider disk mid new (IsOldOrNew y 2 zero_block) (RecoversAs x) (λ z left. clear_recovers x y z long lawful some copied left) clearing);
        plain = λ free. unsynced free ∙ home.plain free;
      }

  -- a disk that was only read, and then so again
  pub rests_then : (old mid new : D) → Rests disk old mid → Rests disk mid new → Rests disk old new
  rests_then old mid new first next = record {
    name = next.name ∙ first.name;
    image = next.image ∙ first.image;
    writes = next.writes ∙ first.writes;
    time = record {
      later = omega (arith, first.time.later, next.time.later);
      adds = λ t x le left. first.time.adds t x le (next.time.adds t x (omega (arith, le, first.time.later)) left);
      keeps = λ t x le left. next.time.keeps t x (omega (arith, le, first.time.later)) (first.time.keeps t x le left);
    };
    reads = λ plain. reads_then disk old mid new (first.reads plain) (next.reads (ap disk.holding first.name ∙ plain));
  }

  pub rests_same : (d : D) → Rests disk d d
  rests_same d = record {
    name = refl;
    image = refl;
    writes = refl;
    time = record { later = omega arith; adds = λ t x le left. left; keeps = λ t x le left. left };
    reads = λ plain. record { name = refl; image = refl; writes = refl; syncs = refl; time = record { later = omega arith; adds = λ t x le left. left; keeps = λ t x le left. left } };
  }

  pub rests_reading : (old new : D) → OnlyReads disk old new → Rests disk old new
  rests_reading old new reads = record { name = reads.name; image = reads.image; writes = reads.writes; time = reads.time; reads = λ plain. reads }

  -- nothing was done but what adds nothing, and no sync
  pub may_stop_none : (old new : D) → (disk.holding (disk.name old) ≡ false → IsSettled (disk.image old) (disk.leaves old (disk.moment old)))
      → AddsNone (disk.moment old) (disk.moment new) (disk.leaves old) (disk.leaves new) → disk.sync_count new ≡ disk.sync_count old → MayStop disk old new
  may_stop_none old new settled time unsynced = record {
    in_order = λ plain. (stops_resting old old new (stops_here old (settled plain)) time (λ free. unsynced)).in_order plain;
    leaves = record {
      any_moment = λ calm. (stops_resting old old new (stops_here old calm) time (λ free. unsynced)).any_moment;
      adds = record { later = time.later; adds = λ t x le left. inl (time.adds t x le left); keeps = time.keeps };
      from_sync = λ holds. inl unsynced;
    };
    plain = λ free. unsynced;
  }

  -- the first sync, and then the rest
  module _ (old mid new : D) (first : Rests disk old mid) (settles : Settles disk (syncs_to_settle (disk.holding (disk.name old))) old mid) (stops : StopsAlike disk mid new) where
    abbrev same : Image → Type 0
    same = RecoversAs (disk.image old)

    run : LeavesOnly disk.moment disk.leaves mid new same
    run = subst (λ (z : Image). LeavesOnly disk.moment disk.leaves mid new (RecoversAs z)) first.image stops.any_moment

    pub leaves_then : LeavesFromSync disk old new (RecoversAs (disk.image old))
    leaves_then =
        let added = adds_after disk.moment disk.leaves old mid new same first.time run in
        record {
          any_moment = λ calm. only_added disk.moment disk.leaves old new same (λ z left. recovers_same (disk.image old) z (calm z left)) added;
          adds = added;
          from_sync = λ holds. record {
            at = mid;
            name = first.name;
            image = first.image;
            synced = settles.syncs ∙ ap (λ (h : Bool). counted (disk.sync_count old) (syncs_to_settle h)) holds;
            settled = settles.settled;
            time = first.time;
            then_on = run;
          };
        }

    pub may_stop_then : (disk.holding (disk.name old) ≡ false → mid ≡ old) → MayStop disk old new
    may_stop_then plain_same = record {
      in_order = λ plain. subst (λ (d : D). LeavesOnly disk.moment disk.leaves d new (IsRecoveredInPart (disk.image d))) (plain_same plain) (stops.in_order (ap disk.holding first.name ∙ plain));
      leaves = if_synced disk old new same leaves_then;
      plain = λ free. stops.plain (ap disk.holding first.name ∙ free) ∙ ap disk.sync_count (plain_same free);
    }

  pub leaves_so : (old mid new : D) (result : Result ℕ RecoverFault) → Rests disk old mid → Settles disk (syncs_to_settle (disk.holding (disk.name old))) old mid → StopsAlike disk mid new
      → OnOk result (LeavesFromSync disk old new (RecoversAs (disk.image old)))
  leaves_so old mid new (Ok n) first settles stops = leaves_then old mid new first settles stops
  leaves_so old mid new (Err fault) first settles stops = tt

  -- the syncs of a recovery
  syncs_all : (h b : Bool) (s : ℕ) → counted (counted s (cond h 1 0)) (cond h (cond b 0 2) 0) ≡ counted s (cond h (cond b 1 3) 0)
  syncs_all true true s = refl
  syncs_all true false s = refl
  syncs_all false b s = refl

  pub syncs_none : (h : Bool) (s : ℕ) → s ≡ counted s (syncs_to_restore h 0)
  syncs_none true s = refl
  syncs_none false s = refl

  pub syncs_some : (h : Bool) (n s : ℕ) → n ≢ 0 → counted (counted s (syncs_to_settle h)) (syncs_to_settle h) ≡ counted s (syncs_to_restore h n)
  syncs_some true n s some = sym (ap (λ (b : Bool). counted s (cond b 0 2)) (ne_eqb n 0 some))
  syncs_some false n s some = refl

  -- a recovery after the first sync
  pub recovers_then : (n : ℕ) (old mid new : D) → Rests disk old mid → disk.fault_count mid ≡ disk.fault_count old → Settles disk (syncs_to_settle (disk.holding (disk.name old))) old mid
      → RecoversBy disk n (syncs_to_restore (disk.holding (disk.name mid)) n) mid new → Recovers disk n old new
  recovers_then n old mid new first faults settles r = record {
    lawful = subst (λ (z : Image). is_lawful_log z ≡ true) first.image r.lawful;
    count = r.count ∙ ap logged_count first.image;
    image = r.image ∙ ap recovered first.image;
    none = r.none;
    writes = r.writes ∙ ap (λ (k : ℕ). counted k (writes_to_recover n)) first.writes;
    faults = r.faults ∙ faults;
    unwritten = λ none. rests_then old mid new first (r.unwritten none);
    settles = record {
      settled = r.settles.settled;
      syncs = r.settles.syncs ∙ ap (λ (h : Bool). counted (disk.sync_count mid) (syncs_to_restore h n)) (ap disk.holding first.name)
          ∙ ap (λ (s : ℕ). counted s (syncs_to_restore (disk.holding (disk.name old)) n)) settles.syncs ∙ syncs_all (disk.holding (disk.name old)) (eqb n 0) (disk.sync_count old);
    };
  }

  pub refuses_then : {T : Type 0} (old mid new : D) (result : Result T RecoverFault) → Rests disk old mid → disk.fault_count mid ≡ disk.fault_count old → OnNoMemory result ⊥
      → RefusesToRecover disk mid new result → RefusesToRecover disk old new result
  refuses_then {T} old mid new result first faults none r = record {
    bad = by_bad result r.bad;
    unwritten = by_unwritten result r.unwritten;
    memory = by_memory result none;
    fault = by_fault result r.fault;
    unsynced = by_unsynced result r.unsynced;
    holds = by_holds result r.holds;
  }
    where
      by_bad : (o : Result T RecoverFault) → OnBadLog o (is_lawful_log (disk.image mid) ≡ false) → OnBadLog o (is_lawful_log (disk.image old) ≡ false)
      by_bad (Ok v) p = p
      by_bad (Err RecoverFault.Disk) p = p
      by_bad (Err RecoverFault.BadLog) p = sym (ap is_lawful_log first.image) ∙ p
      by_bad (Err RecoverFault.NoMemory) p = p
      by_bad (Err RecoverFault.Sync) p = p

      by_unwritten : (o : Result T RecoverFault) → OnBadLog o (Looks disk mid new) → OnBadLog o (Looks disk old new)
      by_unwritten (Ok v) p = p
      by_unwritten (Err RecoverFault.Disk) p = p
      by_unwritten (Err RecoverFault.BadLog) p = record { rests = rests_then old mid new first p.rests; faults = p.faults ∙ faults }
      by_unwritten (Err RecoverFault.NoMemory) p = p
      by_unwritten (Err RecoverFault.Sync) p = p

      by_memory : (o : Result T RecoverFault) → OnNoMemory o ⊥ → OnNoMemory o (new ≡ old)
      by_memory (Ok v) p = p
      by_memory (Err RecoverFault.Disk) p = p
      by_memory (Err RecoverFault.BadLog) p = p
      by_memory (Err RecoverFault.NoMemory) p = absurd p
      by_memory (Err RecoverFault.Sync) p = p

      by_fault : (o : Result T RecoverFault) → OnDisk o (FailsOnce disk mid new) → OnDisk o (FailsOnce disk old new)
      by_fault (Ok v) p = p
      by_fault (Err RecoverFault.Disk) p = p ∙ ap one_more faults
      by_fault (Err RecoverFault.BadLog) p = p
      by_fault (Err RecoverFault.NoMemory) p = p
      by_fault (Err RecoverFault.Sync) p = p

      by_unsynced : (o : Result T RecoverFault) → OnSync o (FailsOnce disk mid new) → OnSync o (FailsOnce disk old new)
      by_unsynced (Ok v) p = p
      by_unsynced (Err RecoverFault.Disk) p = p
      by_unsynced (Err RecoverFault.BadLog) p = p
      by_unsynced (Err RecoverFault.NoMemory) p = p
      by_unsynced (Err RecoverFault.Sync) p = p ∙ ap one_more faults

      by_holds : (o : Result T RecoverFault) → OnSync o (disk.holding (disk.name mid) ≡ true) → OnSync o (disk.holding (disk.name old) ≡ true)
      by_holds (Ok v) p = p
      by_holds (Err RecoverFault.Disk) p = p
      by_holds (Err RecoverFault.BadLog) p = p
      by_holds (Err RecoverFault.NoMemory) p = p
      by_holds (Err RecoverFault.Sync) p = sym (ap disk.holding first.name) ∙ p

  pub recovers_ok : (old mid new : D) (result : Result ℕ RecoverFault) → Rests disk old mid → disk.fault_count mid ≡ disk.fault_count old → Settles disk (syncs_to_settle (disk.holding (disk.name old))) old mid
      → IfOk result (λ n. RecoversBy disk n (syncs_to_restore (disk.holding (disk.name mid)) n) mid new) → IfOk result (λ n. Recovers disk n old new)
  recovers_ok old mid new (Ok n) first faults settles r = recovers_then n old mid new first faults settles r
  recovers_ok old mid new (Err fault) first faults settles r = r

  -- behind the first write a recovery fails by the disk or by a sync alone
  pub refuses_late : {T : Type 0} (old mid new : D) (e : RecoverFault) → disk.fault_count mid ≡ disk.fault_count old → disk.holding (disk.name mid) ≡ disk.holding (disk.name old)
      → (e ≡ RecoverFault.Disk) ⊎ ((e ≡ RecoverFault.Sync) × (disk.holding (disk.name mid) ≡ true)) → FailsOnce disk mid new → RefusesToRecover {T = T} disk old new (Err e)
  refuses_late {T} old mid new e faults kind (inl is) once =
      let fault : FailsOnce disk old new = once ∙ ap one_more faults in
      subst (λ (f : RecoverFault). RefusesToRecover {T = T} disk old new (Err f)) (sym is) (record { bad = tt; unwritten = tt; memory = tt; fault = fault; unsynced = tt; holds = tt })
  refuses_late {T} old mid new e faults kind (inr is) once =
      let fault : FailsOnce disk old new = once ∙ ap one_more faults in
      subst (λ (f : RecoverFault). RefusesToRecover {T = T} disk old new (Err f)) (sym is.0) (record { bad = tt; unwritten = tt; memory = tt; fault = tt; unsynced = fault; holds = sym kind ∙ is.1 })

  pub none_late : (T : Type 0) (mid : D) (e : RecoverFault) → (e ≡ RecoverFault.Disk) ⊎ ((e ≡ RecoverFault.Sync) × (disk.holding (disk.name mid) ≡ true)) → OnNoMemory {T = T} (Err e) ⊥
  none_late T mid e (inl is) = subst (λ (f : RecoverFault). OnNoMemory {T = T} (Err f) ⊥) (sym is) tt
  none_late T mid e (inr is) = subst (λ (f : RecoverFault). OnNoMemory {T = T} (Err f) ⊥) (sym is.0) tt

pub none_as : (A B : Type 0) (e : RecoverFault) → OnNoMemory {T = A} (Err e) ⊥ → OnNoMemory {T = B} (Err e) ⊥
none_as A B RecoverFault.Disk p = tt
none_as A B RecoverFault.BadLog p = tt
none_as A B RecoverFault.NoMemory p = p
none_as A B RecoverFault.Sync p = tt
