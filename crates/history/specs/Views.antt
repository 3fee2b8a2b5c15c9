-- A kernel over a store, as its facts see it.
use Rattle.std.specs.Prelude.{◌≡◌, ◌≢◌, ℕ, Bool, zero, suc, ◌==◌, ◌||◌, IsSome, is_some, IsTrue, nat_lt, true, false, List, Option, Some, None}
use Rattle.blocks.specs.Disk.{Image}
use Rattle.model.specs.declared.types.image.Form.{Form}
use Rattle.model.specs.declared.types.operations.Entry.{Entry}
use Rattle.model.specs.declared.types.operations.Op.{Op}
use Rattle.model.specs.declared.types.operations.Reply.{Reply}
use Rattle.model.specs.Agreement.{IsSameOutsideLog}
use Rattle.model.specs.Files.{Files, files_of}
use Rattle.model.specs.Journal.{is_changing, is_making, is_number, is_at_once}
use Rattle.model.specs.Layout.{form_of, inode_count_of}
use Rattle.model.specs.Log.{is_lawful_log, recovered, cleared}
use Rattle.model.specs.Operations.{after}
use Rattle.model.specs.Tasks.{Marks}
use Rattle.wal.specs.declared.types.Commit.{Commit}
use Rattle.wal.specs.Joint.{stepped_at}
use Rattle.wal.specs.Kept.{KeepsCommitted}
use Rattle.wal.specs.Machine.{LogState, used_by, SameGroups, IsLogAt}
use Rattle.history.specs.declared.types.Phase.{Phase}
use Rattle.history.specs.Crash.{Survives, StoreLaws}
use Rattle.history.specs.Follows.{Follows, IsJournal}
use Rattle.history.specs.Open.{Held, held_by, number_of, is_late, IsEntry, IsLast}

-- what the kernel sees of a store
pub record View : Type 1 where
  -- the disk's image
  pub disk : Image
  -- what buffers and disk show together
  pub current : Image
  pub log : LogState
  -- what each process's task holds whose reply is still to come behind its turn
  pub holds : ℕ → Option Held
  -- these are the files, with each decided operation done
  pub fits : Files → Type 0

-- the operation that process q has open is one of this group, the newest
abbrev pub IsIn : LogState → ℕ → ℕ → Type 0
IsIn l q group = (is_some (used_by l q) ≡ true) × (group ≡ l.opened)

-- the operation of process q that belongs to this group is open in the log; 0 is no group
abbrev pub InGroup : LogState → ℕ → ℕ → Type 0
InGroup l q zero = is_some (used_by l q) ≡ false
InGroup l q (suc g) = IsIn l q (suc g)

-- the operation's entry, which is the last of its process
pub record HasEntry (es : List Entry) (q k group : ℕ) (e : Entry) : Type 0 where
  pub at : IsEntry es k e
  pub mine : e.pid ≡ q
  pub last : IsLast q es k
  pub same : e.group ≡ group

-- what is true of a process, by where it stands
abbrev pub StandsAt : ℕ → View → List Entry → ℕ → Phase → Type 0
StandsAt n s es q Phase.Idle = (s.holds q ≡ None) × InGroup s.log q 0
StandsAt n s es q (Phase.BeforeTurn group op) =
    (s.holds q ≡ None) × InGroup s.log q group × (nat_lt 0 group ≡ is_changing n op)
    × (is_at_once n op ≡ false)
StandsAt n s es q (Phase.AfterTurn group k) =
    InGroup s.log q group × ((e : Entry) × HasEntry es q k group e)
StandsAt n s es q (Phase.Ending group k) =
    (s.holds q ≡ None) × IsIn s.log q group
    × ((e : Entry) × HasEntry es q k group e × IsSome e.reply)
StandsAt n s es q (Phase.Committing group k) =
    (s.holds q ≡ None) × InGroup s.log q 0
    × ((e : Entry) × HasEntry es q k group e × IsSome e.reply)

-- what is true of every store: a fact of its type
pub record IsValidView (n : ℕ) (s : View) : Type 0 where
  pub store : StoreLaws s.current s.log s.holds s.fits
  pub log : IsLogAt s.log.commit s.log
  pub numbers : (q : ℕ) (h : Held) → s.holds q ≡ Some h → IsTrue (is_number n h.number)

-- WHAT IS TRUE OF EVERY KERNEL whose disk has not failed
pub record KernelFacts (opening : Image) (s : View) (es : List Entry) (ats : ℕ → Phase) : Type 0 where
  pub valid : IsValidView (inode_count_of opening) s
  pub journal : IsJournal (inode_count_of opening) s.log.opened es
  pub follows : Follows (form_of opening) (files_of opening) s.holds s.fits es
  pub recovers : Survives opening s.disk s.current s.log es
  pub stands : (q : ℕ) → StandsAt (inode_count_of opening) s es q (ats q)

-- WHAT STAYS TRUE AFTER A FAULT OF THE DISK: the entries that have a reply replay, and who holds
-- something is behind its turn.
pub record LastingFacts (opening : Image) (opened : ℕ) (holds : ℕ → Option Held) (es : List Entry)
    (ats : ℕ → Phase) : Type 0 where
  pub journal : IsJournal (inode_count_of opening) opened es
  pub follows : Follows (form_of opening) (files_of opening) holds (λ m. Unit {0}) es
  pub behind : (q : ℕ) (h : Held) → holds q ≡ Some h → (g : ℕ) × (k : ℕ) × (ats q ≡ Phase.AfterTurn g k)

-- what each step of process p's task leaves of a store in which it made this, or nothing
pub record LeavesRest (made : Option Reply) (p : ℕ) (s t : View) : Type 0 where
  pub disk : t.disk ≡ s.disk
  pub groups : SameGroups s.log t.log
  pub others : (q : ℕ) → q ≢ p → t.holds q ≡ s.holds q
  pub marks : Marks made s.current t.current

-- a step that has no turn and tells no reply
pub record Moves (p : ℕ) (s t : View) : Type 0 where
  pub rest : LeavesRest None p s t
  pub mine : t.holds p ≡ s.holds p
  pub files : (m : Files) → s.fits m → t.fits m

-- with this reply the operation takes the store's files to the new ones
abbrev pub Takes : Form → View → View → Op → Reply → Type 0
Takes form s t op r = (m : Files) → s.fits m → (w : Files) × (after form m op r ≡ Some w) × t.fits w

-- a turn whose reply stands: neither its number nor one that it made is held by another
pub record Turns (form : Form) (p : ℕ) (op : Op) (r : Reply) (s t : View) : Type 0 where
  pub rest : LeavesRest (Some r) p s t
  pub apart : (q : ℕ) (h : Held) → s.holds q ≡ Some h
      → ((number_of op == h.number) || is_making h.number (Some r)) ≡ false
  pub files : Takes form s t op r

-- a turn whose reply is still to come
pub record Opens (n p : ℕ) (op : Op) (s t : View) : Type 0 where
  pub rest : LeavesRest None p s t
  pub late : is_late op ≡ true
  pub number : IsTrue (is_number n (number_of op))
  pub held : t.holds p ≡ Some (held_by op)
  pub files : (m : Files) → s.fits m → t.fits m

-- the reply of the operation is decided: what its task held until then it lets go
pub record Decides (form : Form) (p : ℕ) (op : Op) (r : Reply) (s t : View) : Type 0 where
  pub rest : LeavesRest None p s t
  pub mine : t.holds p ≡ None
  pub made : (i : ℕ) → is_making i (Some r) ≡ false
  pub files : Takes form s t op r

-- the task is over, and holds nothing
pub record Leaves (p : ℕ) (s t : View) : Type 0 where
  pub rest : LeavesRest None p s t
  pub mine : t.holds p ≡ None
  pub files : (m : Files) → s.fits m → t.fits m

-- a call of the log for a process, that leaves the log so: tasks, files and current image stay
pub record CallsLog (l : LogState) (s t : View) : Type 0 where
  pub log : t.log ≡ l
  pub disk : t.disk ≡ s.disk
  pub current : t.current ≡ s.current
  pub holds : (q : ℕ) → t.holds q ≡ s.holds q
  pub files : (m : Files) → s.fits m → t.fits m

-- A step of a commit, which the log tells, over a disk that holds writes back or doesn't: a write,
-- or a sync, which leaves the image alone.
pub record Writes (holds_back : Bool) (s t : View) : Type 0 where
  pub log : t.log ≡ stepped_at holds_back s.log.commit s.log
  pub lawful : IsTrue (is_lawful_log t.disk)
  pub keeps : KeepsCommitted s.log.commit s.disk s.current t.disk
  -- without the header that was written, the image is as it was
  pub unheaded : s.log.commit ≡ Commit.Heading
      → IsSameOutsideLog (recovered s.disk) (cleared t.disk)
  pub same : IsSameOutsideLog s.current t.current
  pub holds : (q : ℕ) → t.holds q ≡ s.holds q
  pub files : (m : Files) → s.fits m → t.fits m
