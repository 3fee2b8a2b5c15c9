-- The causes of answers that give less than was asked for, over sessions.
use Rattle.std.specs.Prelude.{◌≡◌, ◌⊎◌, ◌<◌, ◌≤◌, ℕ, IsTrue, List, [], ◌∷◌, length, Some}
use Rattle.blocks.specs.declared.disk.Disk as disk_trait
use Rattle.model.specs.declared.types.operations.Entry.{Entry}
use Rattle.model.specs.declared.types.operations.Op.{Op}
use Rattle.model.specs.declared.types.operations.Op.TheVariants.{Create, Write}
use Rattle.model.specs.declared.types.operations.Reply.{Reply}
use Rattle.model.specs.declared.types.operations.Reply.TheVariants.{Made, NoInode, Wrote}
use Rattle.model.specs.declared.types.operations.TaskProgress.{TaskProgress}
use Rattle.model.specs.Journal.{is_number}
use Rattle.inodes.specs.Runs.{StepMade, SeesTaken}
use Rattle.inodes.specs.Steps.{Steps}
use Rattle.inodes.specs.Store.{StoreState}
use Rattle.inodes.specs.WriteRuns.{SeesFull}
use Rattle.inodes.specs.Writing.{extent_of}
use Rattle.ports.specs.declared.herald.Herald as herald_trait
use Rattle.ports.specs.declared.intake.Intake as intake_trait
use Rattle.history.specs.declared.types.Phase.{Phase}
use Rattle.history.specs.Open.{IsEntry}
use Rattle.kernel.specs.declared.types.Turn.{Turn}
use Rattle.kernel.specs.declared.types.Turn.TheVariants.{Proc}
use Rattle.kernel.specs.Known.{Known}
use Rattle.kernel.specs.Runs.{Session}
use Rattle.kernel.specs.State.{State, ats_of}

-- a turn of process p makes a step of its task, of which P holds
pub record TurnMakes {D N : Type 0} (disk : disk_trait.Ghosts D N) (P : StepMade D → Type 0)
    (p : ℕ) (t : Turn) (s u : StoreState D) : Type 0 where
  pub turn : t ≡ Proc p
  pub op : Op
  pub answer : TaskProgress
  pub steps : Steps disk s p op answer u
  pub holds : P (record { before = s; answer = answer; after = u })

-- one of the turns of a run does
abbrev pub SomeTurnMakes : {D N I M H : Type 0} (disk : disk_trait.Ghosts D N)
    (intake : intake_trait.Ghosts I M) (herald : herald_trait.Ghosts H) (P : StepMade D → Type 0)
    (p : ℕ) (ts : List Turn) (k m : State D I H) → Session disk intake herald ts k m → Type 0
SomeTurnMakes disk intake herald P p [] k m run = ⊥
SomeTurnMakes disk intake herald P p (t ∷ ts) k m run =
    TurnMakes disk P p t k.store run.0.store
    ⊎ SomeTurnMakes disk intake herald P p ts run.0 m run.2

-- process p has no operation under way at k, and an entry for this one at m, which came into the
-- journal between them and has this reply
pub record IsAnswered {D I H : Type 0} (k m : State D I H) (p : ℕ) (op : Op) (reply : Reply)
    : Type 0 where
  pub idle : ats_of k.world p ≡ Phase.Idle
  pub index : ℕ
  pub entry : Entry
  pub later : length k.world.journal.list ≤ index
  pub stands : IsEntry m.world.journal.list index entry
  pub mine : entry.pid ≡ p
  pub same : entry.op ≡ op
  pub told : entry.reply ≡ Some reply

-- THE CAUSE OF NoInode: for each number that operations may name, a turn of the run looked at its
-- block, and the current image had it taken
abbrev pub NoInodeHasCause : {D N I M H : Type 0} → disk_trait.Ghosts D N
    → intake_trait.Ghosts I M → herald_trait.Ghosts H → Type 0
NoInodeHasCause {D} {N} {I} {M} {H} disk intake herald =
    (ts : List Turn) (k m : State D I H) (run : Session disk intake herald ts k m) (p kind i : ℕ) →
    IsAnswered k m p (Create kind) NoInode → IsTrue (is_number k.store.table.inode_count i) →
    SomeTurnMakes disk intake herald (SeesTaken disk.image p i) p ts k m run

-- THE CAUSE OF THE NUMBER THAT WAS MADE: for each lower one a turn of the run looked at its block, and
-- the current image had it taken
abbrev pub MadeHasCause : {D N I M H : Type 0} → disk_trait.Ghosts D N
    → intake_trait.Ghosts I M → herald_trait.Ghosts H → Type 0
MadeHasCause {D} {N} {I} {M} {H} disk intake herald =
    (ts : List Turn) (k m : State D I H) (run : Session disk intake herald ts k m)
    (p kind i j : ℕ) →
    IsAnswered k m p (Create kind) (Made i) → IsTrue (is_number k.store.table.inode_count j) →
    j < i → SomeTurnMakes disk intake herald (SeesTaken disk.image p j) p ts k m run

-- THE CAUSE OF A SHORT WRITE: where fewer bytes were written than were asked for, a turn of the run
-- looked at the bitmap's block, and the current image had no block left
abbrev pub ShortHasCause : {D N I M H : Type 0} → disk_trait.Ghosts D N
    → intake_trait.Ghosts I M → herald_trait.Ghosts H → Type 0
ShortHasCause {D} {N} {I} {M} {H} disk intake herald =
    (ts : List Turn) (k m : State D I H) (run : Session disk intake herald ts k m)
    (p i off done : ℕ) (bytes : List ℕ) →
    Known disk intake herald k → IsAnswered k m p (Write i off bytes) (Wrote done) →
    done < length bytes →
    SomeTurnMakes disk intake herald
    (SeesFull disk.image p
    (extent_of k.store.table.form k.store.table.inode_count k.store.volume.log.size))
    p ts k m run
