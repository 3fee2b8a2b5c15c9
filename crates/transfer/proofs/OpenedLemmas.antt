-- What calls come to over a disk that was judged, and recovered as its kernel was opened.
use Rattle.std.proofs.Common.{◌≡◌, ◌∙◌, ◌<◌, ◌≤◌, ℕ, Bool, true, false, List, Option, None, length, refl, sym, ap, subst, inl, inr, arith}
use Rattle.blocks.specs.Calls.{OnlyReads}
use Rattle.std.specs.Io.KnownBytes.{Appends}
use Rattle.std.specs.Prelude.{Result, Ok, Err, IfErr, OnOk}
use Rattle.blocks.specs.Disk.{AddsNone, Image, LeavesOnly, Rose}
use Rattle.messages.specs.Output.{number_text}
use Rattle.blocks.specs.Lemmas.Moments.{stays}
use Rattle.blocks.specs.declared.disk.Disk.{Ghosts}
use Rattle.model.specs.Files.{files_of}
use Rattle.model.specs.Lemmas.Soundness.{verdict_sound}
use Rattle.model.specs.Log.{recovered}
use Rattle.model.specs.Soundness.{IsSound}
use Rattle.model.specs.Verdict.{verdict}
use Rattle.kernel.specs.declared.types.OpenFault.{OpenFault}
use Rattle.calls.specs.Calls.{HasFailed, IsWhole, image_on}
use Rattle.calls.specs.Opening.{IsNotOpenedPair, IsOpenedOver, IsOpenedPair}
use Rattle.calls.specs.Lemmas.Unshown.{unshown_none}
use Rattle.calls.specs.Stepping.{IsReached, Plain}
use Rattle.calls.specs.Unshown.{KeepsUnshown}
use Rattle.kernel.specs.Opening.{LeavesRecovered}
use Rattle.opening.specs.Lemmas.Stopping.{unopened_leaves}
use Rattle.history.specs.Lemmas.Leaving.{leaves_wider}
use Rattle.model.specs.Operations.{transfer_limit}
use Rattle.wal.specs.Lemmas.Stops.{from_sync_behind, if_synced, if_synced_behind, if_synced_wider, run_leaves}
use Rattle.wal.specs.Recovery.{RecoversAs}
use Rattle.wal.specs.declared.types.DeviceFault.{DeviceFault}
use Rattle.transfer.specs.Judging.{IsFit, IsTold}
use Rattle.transfer.specs.Needs.{has_room_twice}
use Rattle.transfer.specs.Stopped.{KeepsPut, KeepsPutOf, StaysPut, StopsPut}
use Rattle.transfer.specs.Ending.{SyncsIf}
use Rattle.transfer.specs.Putting.{ComesTo, FailsSound, IsPut, IsUnopenedThen, IsUnput, IsUntold}
use Rattle.transfer.specs.PutWriting.{CallsTo, IsUnwritten, KeepsSome, KeepsSomeOf, PutComes, PutComesOf}
use Rattle.transfer.specs.Whole.{IsUnwhole, KeepsWhole, StaysWhole}
use Rattle.transfer.specs.declared.refused.PutRefusal.{PutRefusal}
use Rattle.transfer.specs.declared.refused.PutRefusal.TheVariants.{Check, NoFile, NotAFile, TooBig, Full, NoMemory, Unopened, NoInode, Disk, Output}
use Rattle.transfer.specs.declared.writing.Outcome.{Outcome}
use Rattle.transfer.specs.declared.writing.Outcome.TheVariants as outcome
use Rattle.transfer.proofs.CallLemmas.{whole_then}
use Rattle.transfer.proofs.RoundLemmas.{never_same, stops_same}
use Rattle.transfer.proofs.KeptLemmas.{keeps_same, whole_kept}

-- a disk has the same image, and no fault more, whether it was synced or left alone
left_same : {D N : Type 0} (disk : Ghosts D N) (sync : Bool) (d e : D) → SyncsIf sync disk d e → (disk.image e ≡ disk.image d) × (disk.fault_count e ≡ disk.fault_count d)
left_same disk true d e syncs = (syncs.image, syncs.faults)
left_same disk false d e same = (ap disk.image same, ap disk.fault_count same)

-- what is told before anything is written
pub told_so : {D N : Type 0} (disk : Ghosts D N) (inum : Option ℕ) (bytes : List ℕ) (sync : Bool) (d e : D) (none : Type 0) → none → (r : PutRefusal) → IsTold disk inum (length bytes) d e r → IsUnput disk inum bytes sync d e none r
told_so disk inum bytes sync d e none silent (Check fault) why = (why, silent)
told_so disk inum bytes sync d e none silent NoFile why = (why, silent)
told_so disk inum bytes sync d e none silent NotAFile why = (why, silent)
told_so disk inum bytes sync d e none silent TooBig why = (why, silent)
told_so disk inum bytes sync d e none silent Full why = (inl why, silent)
told_so disk inum bytes sync d e none silent NoMemory why = (inl why, silent)
told_so disk inum bytes sync d e none silent (Unopened fault) why = absurd why.cause
told_so disk inum bytes sync d e none silent NoInode why = absurd why.cause
told_so disk inum bytes sync d e none silent (Disk fault) why = absurd why.cause
told_so disk inum bytes sync d e none silent Output why = absurd why.cause

module _ {D N : Type 0} (disk : Ghosts D N) (inum : Option ℕ) (bytes : List ℕ) (sync : Bool) (d mid : D) (fit : IsFit disk inum (length bytes) d mid) where
  -- ---- no kernel is opened

  pub unopened_then : (e : D) (fault : OpenFault) → IsNotOpenedPair disk mid e fault → IsUnopenedThen disk inum d e fault
  unopened_then e fault refused = record {
    mid = mid;
    sound = fit.sound;
    plain = fit.room.plain;
    reads = fit.reads;
    faults = fit.faults;
    refused = refused;
  }

  -- ---- calls were made

  module _ (resting : Type 0) (k : Plain D) (opened : IsOpenedOver disk resting mid k) (twice : Bool) (room : twice ≡ has_room_twice (recovered (disk.image d)) inum (length bytes)) where
    begun : image_on disk.image k ≡ recovered (disk.image d)
    begun = opened.image ∙ ap recovered fit.reads.image

    faults : disk.fault_count k.store.volume.device ≡ disk.fault_count d
    faults = ap disk.fault_count opened.device ∙ opened.faults ∙ fit.faults

    comes_to : (m : Plain D) (outcome : Outcome) → CallsTo twice disk inum bytes k m outcome → ComesTo disk inum bytes d m.store.volume.device outcome
    comes_to m outcome calls = record {
      sound = fit.sound;
      plain = fit.room.plain;
      whole = subst (λ (x : Image). IsWhole x (image_on disk.image m)) fit.reads.image
          (whole_then (disk.image mid) (image_on disk.image k) (image_on disk.image m) opened.whole calls.whole);
      unshown = subst (λ (x : Image). KeepsUnshown x (image_on disk.image m)) begun calls.unshown;
      comes = subst (λ (t : Bool). PutComes t (recovered (disk.image d)) inum bytes (image_on disk.image m) outcome) room
          (subst (λ (x : Image). PutComes twice x inum bytes (image_on disk.image m) outcome) begun calls.comes);
      faults = calls.faults ∙ faults;
    }

    failed_so : (m : Plain D) (cause : DeviceFault) → IsReached disk k m → IsOpenedPair disk mid k → HasFailed disk k m cause → FailsSound disk inum d m.store.volume.device cause
    failed_so m cause reached pair why = record {
      sound = fit.sound;
      plain = fit.room.plain;
      mid = mid;
      reads = fit.reads;
      failed = record { first = k; opened = pair; last = m; reached = reached; fault = why.is; device = refl };
      faults = subst (λ (n : ℕ). Rose n (disk.fault_count m.store.volume.device)) faults why.rose;
    }

    -- in one transaction
    pub unwhole_so : (m : Plain D) (none : Type 0) → length bytes ≤ transfer_limit → IsOpenedPair disk mid k → IsReached disk k m → none → (r : PutRefusal) → IsUnwhole disk inum bytes k m r → IsUnput disk inum bytes sync d m.store.volume.device none r
    unwhole_so m none few pair reached silent NoInode why = (comes_to m _ (why twice), silent)
    unwhole_so m none few pair reached silent Full why = (
      inr (inr (record {
        small = few;
        sound = fit.sound;
        plain = fit.room.plain;
        mid = mid;
        reads = fit.reads;
        first = k;
        opened = pair;
        last = m;
        reached = reached;
        part = why.part;
        device = refl;
        image = why.same ∙ begun;
        faults = why.faults ∙ faults;
      })),
      silent,
    )
    unwhole_so m none few pair reached silent NoMemory why = (
      inr (record {
        sound = fit.sound;
        plain = fit.room.plain;
        keeps = subst (λ (y : Image). KeepsSomeOf (recovered (disk.image d)) inum bytes y) (sym (why.0 ∙ begun)) (keeps_same (recovered (disk.image d)) inum bytes (verdict_sound (disk.image d) fit.sound).2);
        none = λ few_still. why.0 ∙ begun;
        faults = why.1 ∙ faults;
      }),
      silent,
    )
    unwhole_so m none few pair reached silent (Disk cause) why = (inl (failed_so m cause reached pair why), silent)
    unwhole_so m none few pair reached silent r why = absurd why

    pub unwritten_so : (m : Plain D) (none : Type 0) → transfer_limit < length bytes → IsOpenedPair disk mid k → IsReached disk k m → none → (r : PutRefusal) → IsUnwritten twice disk inum bytes k m r → IsUnput disk inum bytes sync d m.store.volume.device none r
    unwritten_so m none many pair reached silent NoInode why = (comes_to m _ why, silent)
    unwritten_so m none many pair reached silent Full why = (inr (inl (many, comes_to m _ why)), silent)
    unwritten_so m none many pair reached silent NoMemory why = (
      inr (record {
        sound = fit.sound;
        plain = fit.room.plain;
        keeps = subst (λ (t : Bool). KeepsSome t (recovered (disk.image d)) inum bytes (image_on disk.image m)) room
            (subst (λ (x : Image). KeepsSome twice x inum bytes (image_on disk.image m)) begun why.1);
        none = λ few. absurd (omega (arith, few, many));
        faults = why.0 ∙ faults;
      }),
      silent,
    )
    unwritten_so m none many pair reached silent (Disk cause) why = (inl (failed_so m cause reached pair why), silent)
    unwritten_so m none many pair reached silent r why = absurd why

    -- ---- and then a sync

    module _ (m : Plain D) (unsynced e : D) (same : unsynced ≡ m.store.volume.device) (number : ℕ) (calls : CallsTo twice disk inum bytes k m (outcome.Put number)) where
      put_first : ComesTo disk inum bytes d unsynced (outcome.Put number)
      put_first = subst (λ (o : D). ComesTo disk inum bytes d o (outcome.Put number)) (sym same) (comes_to m _ calls)

      synced_so : SyncsIf sync disk unsynced e → ComesTo disk inum bytes d e (outcome.Put number)
      synced_so syncs =
          let put = put_first in
          let left = left_same disk sync unsynced e syncs in
          record {
            sound = put.sound;
            plain = put.plain;
            whole = subst (IsWhole (disk.image d)) (sym left.0) put.whole;
            unshown = subst (KeepsUnshown (recovered (disk.image d))) (sym left.0) put.unshown;
            comes = subst (λ (y : Image). PutComesOf (recovered (disk.image d)) inum bytes y (outcome.Put number)) (sym left.0) put.comes;
            faults = left.1 ∙ put.faults;
          }

      pub put_so : (r : Result (Unit {0}) PutRefusal) (old new : Option (List ℕ)) → OnOk r (SyncsIf sync disk unsynced e) → OnOk r (Appends old new (number_text number)) → OnOk r (IsPut disk inum bytes sync d e old new)
      put_so (Ok _) old new syncs printed = record { number = number; put = synced_so syncs; unsynced = unsynced; syncs = syncs; printed = printed }
      put_so (Err r) old new syncs printed = tt

      untold_so : (none : Type 0) (r : PutRefusal) → IsUntold disk sync unsynced e none r → IsUnput disk inum bytes sync d e none r
      untold_so none (Disk cause) why = (
        inr (record { number = number; unsynced = unsynced; put = put_first; asked = why.0; is = why.1; faults = why.2 }),
        why.3,
      )
      untold_so none Output why = record { number = number; put = synced_so why; unsynced = unsynced; syncs = why }
      untold_so none r why = absurd why

      pub put_untold : (r : Result (Unit {0}) PutRefusal) (none : Type 0) → IfErr r (IsUntold disk sync unsynced e none) → IfErr r (IsUnput disk inum bytes sync d e none)
      put_untold (Ok _) none why = tt
      put_untold (Err r) none why = untold_so none r why

-- ---- what a stop leaves of the whole

module _ {D N : Type 0} (disk : Ghosts D N) (inum : Option ℕ) (bytes : List ℕ) (d mid : D) (sound : verdict (disk.image d) ≡ None) (reads : OnlyReads disk d mid) where
  abbrev Keeps : Image → Type 0
  Keeps = KeepsPutOf (recovered (disk.image d)) inum bytes

  keeps : (z : Image) → RecoversAs (disk.image d) z → Keeps z
  keeps z same =
      let is = verdict_sound (disk.image d) sound in
      let twice = has_room_twice (recovered (disk.image d)) inum (length bytes) in
      let files : files_of (recovered z) ≡ files_of (recovered (disk.image d)) = ap files_of same.image in
      record {
        put = record {
          log = same.lawful ∙ is.1;
          sound = subst IsSound (sym same.image) is.2;
          files = stops_same inum twice (recovered (disk.image d)) bytes (recovered z) files;
          either = never_same inum twice (files_of (recovered (disk.image d))) bytes (files_of (recovered z)) files;
          unshown = subst (KeepsUnshown (recovered (disk.image d))) (sym same.image) (unshown_none (recovered (disk.image d)));
        };
        whole = λ few. inl files;
      }

  -- the disk was only read, and then recovered, or not
  pub recovered_leaves : (e : D) → LeavesRecovered disk mid e → StopsPut disk inum bytes d e
  recovered_leaves e leaves = if_synced_wider disk d e (RecoversAs (disk.image d)) Keeps keeps (if_synced_behind disk d mid e reads leaves)

  pub read_leaves : StopsPut disk inum bytes d mid
  read_leaves = recovered_leaves mid (unopened_leaves disk mid)

  module _ (resting : Type 0) (k m : Plain D) (opened : IsOpenedOver disk resting mid k) where
    at_first : image_on disk.image k ≡ recovered (disk.image d)
    at_first = opened.image ∙ ap recovered reads.image

    -- what a run since the opening leaves
    since : (e : D) → LeavesOnly disk.moment disk.leaves k.opening e Keeps → StopsPut disk inum bytes d e
    since e run =
        if_synced disk d e Keeps (run_leaves disk d k.opening e (RecoversAs (disk.image d)) Keeps keeps (from_sync_behind disk d mid k.opening reads opened.leaves) run)

    -- many bytes are put call by call
    pub long_run : (twice : Bool) → twice ≡ has_room_twice (recovered (disk.image d)) inum (length bytes) → transfer_limit < length bytes → StaysPut disk twice (image_on disk.image k) inum bytes k m → LeavesOnly disk.moment disk.leaves k.opening m.store.volume.device Keeps
    long_run twice room many put =
        subst (λ (o : D). LeavesOnly disk.moment disk.leaves o m.store.volume.device Keeps) opened.device
        (leaves_wider disk.moment disk.leaves k.store.volume.device m.store.volume.device (KeepsPut twice (image_on disk.image k) inum bytes) Keeps
        (λ z kept. record {
          put = subst (λ (t : Bool). KeepsPut t (recovered (disk.image d)) inum bytes z) room (subst (λ (x : Image). KeepsPut twice x inum bytes z) at_first kept);
          whole = λ few. absurd (omega (arith, few, many));
        })
        put.leaves)

    -- few in one transaction
    pub whole_run : StaysWhole disk inum bytes k m → LeavesOnly disk.moment disk.leaves k.opening m.store.volume.device Keeps
    whole_run put =
        subst (λ (o : D). LeavesOnly disk.moment disk.leaves o m.store.volume.device Keeps) opened.device
        (leaves_wider disk.moment disk.leaves k.store.volume.device m.store.volume.device (KeepsWhole (image_on disk.image k) inum bytes) Keeps
        (λ z kept. whole_kept (recovered (disk.image d)) inum bytes z (subst (λ (x : Image). KeepsWhole x inum bytes z) at_first kept)) put.leaves)

    -- and then calls were made
    pub put_leaves : LeavesOnly disk.moment disk.leaves k.opening m.store.volume.device Keeps → StopsPut disk inum bytes d m.store.volume.device
    put_leaves run = since m.store.volume.device run

    -- and then a sync
    pub synced_leaves : LeavesOnly disk.moment disk.leaves k.opening m.store.volume.device Keeps → (e : D) → AddsNone (disk.moment m.store.volume.device) (disk.moment e) (disk.leaves m.store.volume.device) (disk.leaves e) → StopsPut disk inum bytes d e
    synced_leaves run e time = since e (stays disk.moment disk.leaves k.opening m.store.volume.device e Keeps run time)
