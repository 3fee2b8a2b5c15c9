-- What the disk of a kernel of one process has while no operation is under way, and what a call makes
-- of it.
use Rattle.std.proofs.Common.{◌≡◌, ◌∙◌, ◌≤◌, ℕ, List, length, Some, None, sym, ap, subst}
use Rattle.blocks.specs.Disk.{block_at}
use Rattle.blocks.specs.declared.disk.Disk.{Ghosts}
use Rattle.model.specs.declared.types.image.Form.{Form}
use Rattle.model.specs.declared.types.operations.Entry.{Entry}
use Rattle.model.specs.declared.types.operations.Op.{Op}
use Rattle.model.specs.Files.{files_of}
use Rattle.model.specs.Journal.{kept, replay}
use Rattle.model.specs.Layout.{form_of, inode_count_of}
use Rattle.model.specs.Operations.{after}
use Rattle.model.specs.Lemmas.Frames.{form_same}
use Rattle.ports.specs.declared.queues.QueueIntake.{QueueIntake}
use Rattle.history.specs.Keeps.{AreUpTo}
use Rattle.history.specs.Lemmas.Kept.{kept_up_to}
use Rattle.kernel.specs.Awake.{AreIdle}
use Rattle.kernel.specs.Known.{Known}
use Rattle.model.specs.declared.types.operations.Step.{Step}
use Rattle.model.specs.declared.types.operations.Step.TheVariants as step
use Rattle.calls.specs.Calls.{Calls, IsWhole, image_on}
use Rattle.calls.specs.Stepping.{Plain, plain_herald, plain_queues}
use Rattle.calls.specs.Transactions.{HasFiles}
use Rattle.calls.specs.Unshown.{KeepsUnshown}
use Rattle.calls.proofs.Called.{call_opening, given, with_intake}
use Rattle.calls.proofs.Idle.{all_committed, disk_files, lone_idle, quiet}
use Rattle.calls.proofs.Keeping.{IsSettled, settled}
use Rattle.calls.proofs.Searches.{lowest, none_free}
use Rattle.calls.proofs.Shorts.{short_full}
use Rattle.calls.proofs.Sole.{IsDone, IsSole}
use Rattle.calls.proofs.Telling.{files_then}
use Rattle.calls.proofs.Unshown.{HasMarks}

-- The image on the disk is settled, with the opening's files after all of the journal. No entry is of
-- a later group than the committed ones.
pub record IsSettledDisk {D N : Type 0} (disk : Ghosts D N) (k : Plain D) : Type 0 where
  pub settled : IsSettled disk k
  pub files : HasFiles disk.image k (files_of (image_on disk.image k))
  pub groups : AreUpTo k.store.volume.log.committed k.world.journal.list

pub settled_disk : {D N : Type 0} (disk : Ghosts D N) (has_now : (d : D) → disk.leaves d (disk.moment d) (disk.image d)) (k : Plain D) → Known disk plain_queues plain_herald k → AreIdle k.world → k.store.volume.fault ≡ None → IsSettledDisk disk k
settled_disk disk has_now k known all well = record {
  settled = settled disk has_now k known well (quiet disk k known all well);
  files = disk_files disk k known all well has_now;
  groups = subst (λ (c : ℕ). AreUpTo c k.world.journal.list) (sym (all_committed disk k known all well)) known.journal.groups;
}

module _ {D N : Type 0} (disk : Ghosts D N) (k : Plain D) (was : IsSettledDisk disk k) where
  -- what is kept of any groups that a stop may keep gives the files on the disk
  pub kept_before : (c : ℕ) → k.store.volume.log.committed ≤ c
      → replay (form_of (disk.image k.opening)) (files_of (disk.image k.opening)) (kept (inode_count_of (disk.image k.opening)) k.world.journal.list c) ≡ Some (files_of (image_on disk.image k))
  kept_before c low =
      ap (λ (es : List Entry). replay (form_of (disk.image k.opening)) (files_of (disk.image k.opening)) es) (kept_up_to (inode_count_of (disk.image k.opening)) k.store.volume.log.committed c k.world.journal.list was.groups low)
      ∙ was.settled.kept_run

  -- and so are its marks
  pub marks_before : (c : ℕ) → k.store.volume.log.committed ≤ c
      → HasMarks (disk.image k.opening) (kept (inode_count_of (disk.image k.opening)) k.world.journal.list c) (image_on disk.image k)
  marks_before c low =
      subst (λ (es : List Entry). HasMarks (disk.image k.opening) es (image_on disk.image k)) (sym (kept_up_to (inode_count_of (disk.image k.opening)) k.store.volume.log.committed c k.world.journal.list was.groups low)) was.settled.marks

module _ {D N : Type 0} (disk : Ghosts D N) (has_now : (d : D) → disk.leaves d (disk.moment d) (disk.image d)) (op : Op) (r : Step) (k m : Plain D) (sole : IsSole disk op r k m) where
  pub was : IsSettledDisk disk k
  was = settled_disk disk has_now k sole.known (lone_idle k.world sole.rests.one sole.rests.idle) sole.rests.well

  module _ (so : r ≡ step.Answered) (well : m.store.volume.fault ≡ None) (done : IsDone op (given disk 0 op r k m sole.call) m) where
    opening : m.opening ≡ k.opening
    opening = call_opening disk 0 op r k m sole.call

    now : IsSettledDisk disk m
    now = settled_disk disk has_now m sole.call.known_now (lone_idle m.world done.one done.idle) well

    -- the files after a call
    call_files : after (form_of (image_on disk.image k)) (files_of (image_on disk.image k)) op done.is.answer.reply ≡ Some (files_of (image_on disk.image m))
    call_files =
        subst (λ (f : Form). after f (files_of (image_on disk.image k)) op done.is.answer.reply ≡ Some (files_of (image_on disk.image m))) (sym (form_same (disk.image k.opening) (image_on disk.image k) was.settled.marks.untouched.super))
        (files_then disk k m done.is.entry op done.is.answer.reply opening done.is.list done.is.same done.is.replied (files_of (image_on disk.image k)) (files_of (image_on disk.image m)) was.files now.files)

    call_whole : IsWhole (image_on disk.image k) (image_on disk.image m)
    call_whole = record {
      sound = now.settled.sound;
      size = now.settled.size ∙ ap (λ (d : D). length (disk.image d)) opening ∙ sym was.settled.size;
      super = now.settled.marks.untouched.super ∙ ap (λ (d : D). block_at (disk.image d) 1) opening ∙ sym was.settled.marks.untouched.super;
    }

    -- what an answered call has made, whatever its queues are then
    pub call_made : (i : QueueIntake) → KeepsUnshown (image_on disk.image k) (image_on disk.image m) → Calls disk.image op k (with_intake m i) done.is.answer.reply
    call_made i unshown = record {
      files = call_files;
      whole = call_whole;
      unshown = unshown;
      lowest = lowest disk op r k m sole so done.is (files_of (image_on disk.image m)) call_files;
      none = none_free disk op r k m sole so done.is;
      short = short_full disk op r k m sole so done well;
      answered = done.one_more;
    }
