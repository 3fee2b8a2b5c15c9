-- The image of a kernel all of whose processes are idle.
use Rattle.std.proofs.Common.{◌≡◌, ◌≢◌, ◌∙◌, zero, suc, ℕ, true, List, [], length, Option, None, refl, sym, ap, subst, arith, length-set}
use Rattle.std.specs.Prelude.{IfNone}
use Rattle.std.proofs.lemmas.List.{get_or-set_other, get_or_past}
use Rattle.blocks.specs.Block.{zero_block}
use Rattle.blocks.specs.Disk.{Image, block_at}
use Rattle.blocks.specs.declared.disk.Disk.{Ghosts}
use Rattle.model.specs.Crash.{due_labels, labels_of}
use Rattle.model.specs.Files.{file_in, files_of}
use Rattle.model.specs.Journal.{kept, replay}
use Rattle.model.specs.Layout.{bitmap_block, form_of, inode_count_of, super_in}
use Rattle.model.specs.Lemmas.Soundness.{facts_of}
use Rattle.model.specs.Log.{cleared, logged_count}
use Rattle.wal.specs.Machine.{is_quiet}
use Rattle.wal.specs.declared.types.Commit.{Commit}
use Rattle.wal.specs.declared.types.Commit.TheVariants as commit
use Rattle.wal.specs.declared.types.DeviceFault.{DeviceFault}
use Rattle.inodes.specs.Store.{current_of}
use Rattle.history.specs.Keeps.{HasFilesAfter}
use Rattle.history.specs.Lemmas.Making.{due_kept}
use Rattle.history.specs.Processes.{World, process}
use Rattle.history.specs.declared.types.Phase.{Phase}
use Rattle.history.specs.declared.types.Phase.TheVariants as at
use Rattle.history.specs.declared.types.Process.{Process}
use Rattle.kernel.specs.Awake.{AreIdle}
use Rattle.kernel.specs.Known.{Known, IsCurrent}
use Rattle.calls.specs.Calls.{image_on}
use Rattle.calls.specs.Stepping.{Plain, plain_herald, plain_queues}
use Rattle.calls.specs.Transactions.{HasFiles, labels_made}
use Rattle.calls.proofs.Keeping.{settled}
use Rattle.calls.proofs.Unshown.{labels_then}

-- a kernel of one process, or of two: what each of them is, all are
pub lone_idle : (w : World) → length w.processes ≡ 1 → (process w 0).at ≡ at.Idle → AreIdle w
lone_idle w one idle zero = idle
lone_idle w one idle (suc p) = ap (λ (u : Process). u.at) (get_or_past w.processes (suc p) Rattle.history.specs.Processes.idle (omega (arith, one)))

pub of_two : (w : World) (P : Phase → Type 0) → length w.processes ≡ 2 → P at.Idle → P (process w 0).at → P (process w 1).at → (p : ℕ) → P (process w p).at
of_two w P two idle first second zero = first
of_two w P two idle first second (suc zero) = second
of_two w P two idle first second (suc (suc p)) =
    subst (λ (u : Process). P u.at) (sym (get_or_past w.processes (suc (suc p)) Rattle.history.specs.Processes.idle (omega (arith, two)))) idle

pub two_idle : (w : World) → length w.processes ≡ 2 → (process w 0).at ≡ at.Idle → (process w 1).at ≡ at.Idle → AreIdle w
two_idle w two first second = of_two w (λ (a : Phase). a ≡ at.Idle) two refl first second

quiet_is : (c : Commit) → is_quiet c ≡ true → c ≡ commit.Quiet
quiet_is commit.Quiet quiet = refl
quiet_is (commit.Logging j) quiet = absurd (cc quiet)
quiet_is commit.Heading quiet = absurd (cc quiet)
quiet_is (commit.Homing j) quiet = absurd (cc quiet)
quiet_is commit.Clearing quiet = absurd (cc quiet)
quiet_is (commit.Syncing part) quiet = absurd (cc quiet)

module _ {D N : Type 0} (disk : Ghosts D N) (k : Plain D) (known : Known disk plain_queues plain_herald k) (all : AreIdle k.world) (well : k.store.volume.fault ≡ None) where
  pub current : IsCurrent disk.image k
  current = subst (λ (f : Option DeviceFault). IfNone f (IsCurrent disk.image k)) well known.current

  -- no operation is open in the log, and no commit is under way
  pub unopened : k.store.volume.log.outstanding ≡ 0
  unopened = (current.rests all).none

  pub quiet : k.store.volume.log.commit ≡ commit.Quiet
  quiet = quiet_is k.store.volume.log.commit (current.rests all).quiet

  -- each group is committed
  pub all_committed : k.store.volume.log.committed ≡ k.store.volume.log.opened
  all_committed = current.settled (current.rests all).none (current.rests all).quiet

  -- nothing stands in buffers alone
  pub on_disk : current_of disk.image k.store.volume ≡ image_on disk.image k
  on_disk = current.shown (current.rests all)

  -- and nothing is logged
  pub nothing_logged : logged_count (image_on disk.image k) ≡ 0
  nothing_logged = current.clear (current.rests all).quiet

  files : HasFilesAfter (disk.image k.opening) (kept (inode_count_of (disk.image k.opening)) k.world.journal.list k.store.volume.log.opened) (cleared (current_of disk.image k.store.volume))
  files = current.files unopened

  -- its superblock is the opening's, and so is its size
  pub super : block_at (image_on disk.image k) 1 ≡ block_at (disk.image k.opening) 1
  super =
      let cur = current_of disk.image k.store.volume in
      ap (λ (x : Image). block_at x 1) (sym on_disk) ∙ sym (get_or-set_other cur 2 1 zero_block [] (λ same. omega (arith, same))) ∙ files.untouched.super

  pub long : length (image_on disk.image k) ≡ length (disk.image k.opening)
  long =
      let cur = current_of disk.image k.store.volume in
      ap (λ (x : Image). length x) (sym on_disk) ∙ sym (length-set cur 2 zero_block) ∙ files.size

  pub numbers : k.store.table.inode_count ≡ inode_count_of (image_on disk.image k)
  numbers = known.numbers ∙ ap (λ (bytes : List ℕ). (super_in bytes).ninodes) (sym super)

  -- the bitmap's block stands behind the inodes
  pub bitmap : (super_in (block_at (image_on disk.image k) 1)).bmapstart ≡ bitmap_block k.store.table.inode_count
  bitmap =
      let cur = current_of disk.image k.store.volume in
      let same : block_at (image_on disk.image k) 1 ≡ block_at (cleared cur) 1 = super ∙ sym files.untouched.super in
      let map = (facts_of (cleared cur) files.sound.geometry).map in
      ap (λ (bytes : List ℕ). (super_in bytes).bmapstart) same ∙ map
      ∙ ap (λ (bytes : List ℕ). bitmap_block (super_in bytes).ninodes) (sym same) ∙ ap bitmap_block (sym numbers)

  -- the files on the disk are those that the journal tells
  pub disk_files : ((d : D) → disk.leaves d (disk.moment d) (disk.image d)) → HasFiles disk.image k (files_of (image_on disk.image k))
  disk_files has_now =
      let n = inode_count_of (disk.image k.opening) in
      let form = form_of (disk.image k.opening) in
      let start = files_of (disk.image k.opening) in
      let es = k.world.journal.list in
      record {
        run = current.idle all ∙ sym files.files ∙ ap (λ (c : ℕ). replay form start (kept n es c)) (sym all_committed) ∙ (settled disk has_now k known well quiet).kept_run;
      }

  -- and so are the labels of each
  pub disk_labels : ((d : D) → disk.leaves d (disk.moment d) (disk.image d)) → (i : ℕ) → file_in (files_of (image_on disk.image k)) i ≢ None → labels_of (image_on disk.image k) i ≡ labels_made disk.image k i
  disk_labels has_now i there =
      let o = disk.image k.opening in
      let x = image_on disk.image k in
      let n = inode_count_of o in
      let es = k.world.journal.list in
      let set_k = settled disk has_now k known well quiet in
      labels_then o x x (kept n es k.store.volume.log.committed) set_k.size set_k.marks i there ∙ ap (λ (c : ℕ). due_labels o (kept n es c) i) all_committed
      ∙ due_kept o known.replays.files k.store.volume.log.opened i es known.journal.groups known.replays.run
