-- What is true of store and processes follows from a few facts.
use Rattle.kernel.specs.Lasting.{Lasts}
use Rattle.std.proofs.Common.{◌≡◌, ◌≤◌, ℕ, arith, refl, sym, ◌∙◌, ap, subst, Option, Some, None}
use Rattle.std.specs.Prelude.{IfNone, IfSome}
use Rattle.kernel.specs.Common.{ArePaired, ats_of, DeviceFault, faults_after, Form, form_of, Ghosts, HasFacts, if_none, if_some, Image, inode_count_of, IsCounted, IsRight, KeepsNow, known_keeps, known_run, most_of, now_stays, one_more, OnlyReads, StoreState, view_of, where_none, World}
use Rattle.history.specs.Follows.{IsJournal}
use Rattle.history.specs.Lemmas.Groups.{all_but_one}
use Rattle.wal.specs.Floats.{Survives as SurvivesAt}

unfailed : {D : Type 0} (image : D → Image) (form : Form) (s : StoreState D) (w : World) (o : Option DeviceFault) → o ≡ None → IfSome o (λ (f : DeviceFault). Lasts image form s w)
unfailed image form s w None none = tt
unfailed image form s w (Some fault) none = absurd (cc none)

-- what a stop now leaves of a disk that has not failed survives in the log
abbrev pub Survive : {D N : Type 0} → Ghosts D N → StoreState D → Type 0
Survive disk s = IfNone s.volume.fault ((x : Image) → disk.leaves s.volume.device (disk.moment s.volume.device) x → SurvivesAt s.volume.log.commit (disk.image s.volume.device) x)

module _ {D N : Type 0} (disk : Ghosts D N) (opening : D) where
  -- while the disk has not failed
  pub right_well : (s : StoreState D) (w : World) → s.volume.fault ≡ None → s.table.inode_count ≡ inode_count_of (disk.image opening) → ArePaired s w → IsCounted s.volume.log.opened w
      → HasFacts disk.image (disk.image opening) s w → disk.fault_count s.volume.device ≡ disk.fault_count opening → IsRight disk opening s w
  right_well s w well numbers paired counted has faults =
      let run = known_run _ _ _ _ has.facts in
      record {
        numbers = numbers;
        paired = paired;
        counted = counted;
        near = all_but_one s.volume.log has.facts.valid.log;
        facts = if_none s.volume.fault has;
        lasts = unfailed disk.image (form_of (disk.image opening)) s w s.volume.fault well;
        journal = has.facts.journal;
        replays = record { files = run.0; run = run.1 };
        keeps = subst (λ (o : Option DeviceFault). IfSome o (λ f. (x : Image) → disk.leaves s.volume.device (disk.moment s.volume.device) x → KeepsNow s.volume.log.committed (most_of s.volume) (disk.image opening) w.journal.list x)) (sym well) tt;
        faults = faults ∙ sym (ap (λ (o : Option DeviceFault). faults_after o (disk.fault_count opening)) well);
      }

  -- and once it failed, with the same log
  pub right_failed : (s t : StoreState D) (w : World) (fault : DeviceFault) → IsRight disk opening s w → s.volume.fault ≡ None → t.volume.fault ≡ Some fault → t.table.inode_count ≡ s.table.inode_count → ArePaired t w
      → t.volume.log.opened ≡ s.volume.log.opened → t.volume.log.committed ≡ s.volume.log.committed → ((x : Image) → disk.leaves t.volume.device (disk.moment t.volume.device) x → KeepsNow t.volume.log.committed (most_of t.volume) (disk.image opening) w.journal.list x)
      → disk.fault_count t.volume.device ≡ one_more (disk.fault_count s.volume.device) → Lasts disk.image (form_of (disk.image opening)) t w → IsRight disk opening t w
  right_failed s t w fault right well failed numbers paired same same_committed keeps faults lasts =
      let before : disk.fault_count s.volume.device ≡ disk.fault_count opening = right.faults ∙ ap (λ (o : Option DeviceFault). faults_after o (disk.fault_count opening)) well in
      record {
        numbers = numbers ∙ right.numbers;
        paired = paired;
        counted = subst (λ (k : ℕ). IsCounted k w) (sym same) right.counted;
        near = (let near = right.near in omega (arith, near, same, same_committed));
        facts = if_some (HasFacts disk.image (disk.image opening) t w) t.volume.fault fault failed;
        lasts = subst (λ (o : Option DeviceFault). IfSome o (λ (f : DeviceFault). Lasts disk.image (form_of (disk.image opening)) t w)) (sym failed) lasts;
        journal = subst (λ (k : ℕ). IsJournal (inode_count_of (disk.image opening)) k w.journal.list) (sym same) right.journal;
        replays = right.replays;
        keeps = subst (λ (o : Option DeviceFault). IfSome o (λ f. (x : Image) → disk.leaves t.volume.device (disk.moment t.volume.device) x → KeepsNow t.volume.log.committed (most_of t.volume) (disk.image opening) w.journal.list x)) (sym failed) keeps;
        faults = faults ∙ ap one_more before ∙ sym (ap (λ (o : Option DeviceFault). faults_after o (disk.fault_count opening)) failed);
      }

  -- what a stop leaves is kept: while the disk is well by the facts, and then as at its fault
  pub keeps_now : (s : StoreState D) (w : World) (o : Option DeviceFault) → IfNone o (HasFacts disk.image (disk.image opening) s w)
      → IfSome o (λ f. (x : Image) → disk.leaves s.volume.device (disk.moment s.volume.device) x → KeepsNow s.volume.log.committed (most_of s.volume) (disk.image opening) w.journal.list x)
      → IfNone o ((x : Image) → disk.leaves s.volume.device (disk.moment s.volume.device) x → SurvivesAt s.volume.log.commit (disk.image s.volume.device) x)
      → (x : Image) → disk.leaves s.volume.device (disk.moment s.volume.device) x → KeepsNow s.volume.log.committed (most_of s.volume) (disk.image opening) w.journal.list x
  keeps_now s w None has keeps survives x left = known_keeps (disk.image opening) (view_of disk.image s) w.journal.list (ats_of w) has.facts s.volume refl refl x (survives x left)
  keeps_now s w (Some fault) has keeps survives x left = keeps x left

  -- what a stop leaves after reads survives as it did before them
  pub survives_reading : (s t : StoreState D) → ((d : D) (n : ℕ) (x : Image) → n ≤ disk.moment d → disk.leaves d (disk.moment d) x → disk.leaves d n x) → OnlyReads disk s.volume.device t.volume.device → s.volume.fault ≡ None
      → IfNone s.volume.fault ((x : Image) → disk.leaves s.volume.device (disk.moment s.volume.device) x → SurvivesAt s.volume.log.commit (disk.image s.volume.device) x)
      → (x : Image) → disk.leaves t.volume.device (disk.moment t.volume.device) x → SurvivesAt s.volume.log.commit (disk.image s.volume.device) x
  survives_reading s t counts_now reads well survives x left = where_none s.volume.fault well survives x (now_stays disk.moment disk.leaves s.volume.device t.volume.device (counts_now t.volume.device) reads.time x left)
