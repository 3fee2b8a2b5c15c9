-- A disk is read, and then a kernel is opened over it, or is not.
use Rattle.std.proofs.Common.{◌≡◌, ⊎_elim, inl, inr, sym, ◌∙◌, ap, subst, arith}
use Rattle.std.specs.Prelude.{None}
use Rattle.blocks.specs.Calls.{OnlyReads}
use Rattle.blocks.specs.Disk.{Image, Rose, counted}
use Rattle.blocks.specs.declared.disk.Disk.{Ghosts}
use Rattle.calls.specs.Opening.{IsNotOpenedPair, IsOpenedPair}
use Rattle.calls.specs.Calls.{IsWhole, image_on}
use Rattle.calls.specs.Stepping.{Plain}
use Rattle.kernel.specs.Common.{verdict}
use Rattle.kernel.specs.Opening.{IsOpenCause, IsRecoverCause, RefusesToOpen, UnlessDisk}
use Rattle.kernel.specs.declared.types.OpenFault.{OpenFault}
use Rattle.kernel.specs.declared.types.OpenFault.TheVariants as open_fault
use Rattle.model.specs.Log.{logged_count, recovered}
use Rattle.offline.specs.Cause.{IsCause}
use Rattle.wal.specs.Lemmas.Stops.{from_sync_behind, if_synced_behind, read_if_synced}
use Rattle.wal.specs.Recovery.{syncs_to_recover, writes_to_recover}
use Rattle.wal.specs.declared.faults.RecoverFault.{RecoverFault}
use Rattle.blocks.specs.Lemmas.Reads.{reads_then}
use Rattle.model.specs.Files.{files_of}
use Rattle.directories.specs.Counts.{HasRightCount}
use Rattle.names.specs.Opening.{IsUnopened}
use Rattle.directories.specs.Trees.{IsTree}
use Rattle.names.specs.declared.opening.TreeOpenFault.{TreeOpenFault}
use Rattle.names.specs.declared.opening.TreeOpenFault.TheVariants.{Kernel, Miscounted, NoTree}

module _ {D N : Type 0} (disk : Ghosts D N) where
  -- a kernel opened over a disk that was read is one over the disk
  pub opened_behind : (old mid : D) (k : Plain D) → OnlyReads disk old mid → disk.fault_count mid ≡ disk.fault_count old → IsOpenedPair disk mid k → IsOpenedPair disk old k
  opened_behind old mid k reads faults is = record {
    sound = subst (λ (y : Image). verdict y ≡ None) reads.image is.sound;
    image = is.image ∙ ap recovered reads.image;
    none = is.none;
    whole = subst (λ (y : Image). IsWhole y (image_on disk.image k)) reads.image is.whole;
    device = is.device;
    rests = is.rests;
    none_called = is.none_called;
    name = is.name ∙ reads.name;
    writes = is.writes ∙ ap (λ n. counted n (writes_to_recover (logged_count (disk.image mid)))) reads.writes
        ∙ ap (λ y. counted (disk.write_count old) (writes_to_recover (logged_count y))) reads.image;
    syncs = is.syncs ∙ ap (λ n. counted n (syncs_to_recover (disk.holding (disk.name mid)) (logged_count (disk.image mid)))) reads.syncs
        ∙ ap (λ h. counted (disk.sync_count old) (syncs_to_recover (disk.holding h) (logged_count (disk.image mid)))) reads.name
        ∙ ap (λ y. counted (disk.sync_count old) (syncs_to_recover (disk.holding (disk.name old)) (logged_count y))) reads.image;
    faults = is.faults ∙ faults;
    settled = is.settled;
    leaves = from_sync_behind disk old mid k.opening reads is.leaves;
  }

  -- reads alone, and a refusal
  pub read_refuses : (d e : D) (cause : OpenFault) → OnlyReads disk d e → UnlessDisk cause (disk.fault_count e ≡ disk.fault_count d) → IsOpenCause disk d e 2 cause → RefusesToOpen disk d e 2 cause
  read_refuses d e cause reads faults why = record {
    cause = why;
    unwritten = inr (reads.image, (reads.writes, reads.syncs));
    faults = faults;
    name = reads.name;
    leaves = read_if_synced disk d e reads;
    plain = λ free. reads.syncs;
  }

  recover_behind : (d m e : D) (fault : RecoverFault) → OnlyReads disk d m → disk.fault_count m ≡ disk.fault_count d → IsRecoverCause disk m e fault → IsRecoverCause disk d e fault
  recover_behind d m e RecoverFault.Disk reads faults why = subst (λ n. Rose n (disk.fault_count e)) faults why
  recover_behind d m e RecoverFault.BadLog reads faults why = why
  recover_behind d m e RecoverFault.NoMemory reads faults why = why
  recover_behind d m e RecoverFault.Sync reads faults why =
      (subst (λ n. Rose n (disk.fault_count e)) faults why.0, sym (ap disk.holding reads.name) ∙ why.1)

  cause_behind : (d m e : D) (cause : OpenFault) → OnlyReads disk d m → disk.fault_count m ≡ disk.fault_count d → IsOpenCause disk m e 2 cause → IsOpenCause disk d e 2 cause
  cause_behind d m e (open_fault.Check fault) reads faults why = (
    why.0,
    why.1,
    subst (λ n. IsCause (verdict (disk.image d)) n (disk.fault_count e) fault) faults
        (subst (λ (y : Image). IsCause (verdict y) (disk.fault_count m) (disk.fault_count e) fault) reads.image why.2),
  )
  cause_behind d m e (open_fault.Recover fault) reads faults why =
      (why.0, why.1, subst (λ (y : Image). verdict y ≡ None) reads.image why.2, recover_behind d m e fault reads faults why.3)
  cause_behind d m e open_fault.NoMemory reads faults why = (why.0, why.1, subst (λ (y : Image). verdict y ≡ None) reads.image why.2)
  cause_behind d m e open_fault.ProcRange reads faults why = absurd (⊎_elim (λ low. omega (arith, low)) (λ high. omega (arith, high)) why.0)

  faults_behind : (d m e : D) (cause : OpenFault) → disk.fault_count m ≡ disk.fault_count d → UnlessDisk cause (disk.fault_count e ≡ disk.fault_count m) → UnlessDisk cause (disk.fault_count e ≡ disk.fault_count d)
  faults_behind d m e (open_fault.Check fault) same kept = λ other. kept other ∙ same
  faults_behind d m e (open_fault.Recover RecoverFault.Disk) same kept = kept
  faults_behind d m e (open_fault.Recover RecoverFault.BadLog) same kept = kept ∙ same
  faults_behind d m e (open_fault.Recover RecoverFault.NoMemory) same kept = kept ∙ same
  faults_behind d m e (open_fault.Recover RecoverFault.Sync) same kept = kept
  faults_behind d m e open_fault.NoMemory same kept = kept ∙ same
  faults_behind d m e open_fault.ProcRange same kept = kept ∙ same

  refuses_behind : (d m e : D) (cause : OpenFault) → OnlyReads disk d m → disk.fault_count m ≡ disk.fault_count d → RefusesToOpen disk m e 2 cause → RefusesToOpen disk d e 2 cause
  refuses_behind d m e cause reads faults why = record {
    cause = cause_behind d m e cause reads faults why.cause;
    unwritten = ⊎_elim (λ may. inl may)
        (λ none. inr (none.0 ∙ reads.image, (none.1.0 ∙ reads.writes, none.1.1 ∙ reads.syncs))) why.unwritten;
    faults = faults_behind d m e cause faults why.faults;
    name = why.name ∙ reads.name;
    leaves = if_synced_behind disk d m e reads why.leaves;
    plain = λ free. why.plain (ap disk.holding reads.name ∙ free) ∙ reads.syncs;
  }

  -- a refusal over a disk that was read
  pub unopened_behind : (d m e : D) (cause : OpenFault) → verdict (disk.image d) ≡ None → OnlyReads disk d m → disk.fault_count m ≡ disk.fault_count d → IsNotOpenedPair disk m e cause → RefusesToOpen disk d e 2 cause
  unopened_behind d m e cause sound reads faults (inl none) =
      subst (λ (c : OpenFault). RefusesToOpen disk d e 2 c) (sym none.0)
      (subst (λ (x : D). RefusesToOpen disk d x 2 open_fault.NoMemory) (sym none.1)
      (read_refuses d m open_fault.NoMemory reads faults (omega arith, omega arith, sound)))
  unopened_behind d m e cause sound reads faults (inr why) = refuses_behind d m e cause reads faults why

  -- the same of a tree
  pub unopened_after : (d m e : D) (cause : TreeOpenFault) → verdict (disk.image d) ≡ None → OnlyReads disk d m → disk.fault_count m ≡ disk.fault_count d → IsUnopened disk m e cause → IsUnopened disk d e cause
  unopened_after d m e (Kernel cause) sound reads faults why = refuses_behind d m e cause reads faults why
  unopened_after d m e NoTree sound reads faults why = record {
    sound = sound;
    none = λ tree. why.none (subst (λ (y : Image). IsTree (files_of (recovered y))) (sym reads.image) tree);
    reads = reads_then disk d m e reads why.reads;
  }
  unopened_after d m e (Miscounted number) sound reads faults why = record {
    sound = sound;
    tree = subst (λ (y : Image). IsTree (files_of (recovered y))) reads.image why.tree;
    wrong = λ right. why.wrong (subst (λ (y : Image). HasRightCount (files_of (recovered y)) number) (sym reads.image) right);
    reads = reads_then disk d m e reads why.reads;
  }
