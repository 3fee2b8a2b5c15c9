-- What the exports promise C of a session behind a handle.
use Rattle.std.specs.Prelude.{◌≡◌, ◌≢◌, ◌⊎◌, ◌<◌, ◌≤◌, ◌+◌, ◌^◌, ◌∷◌, ◌++◌, [], ℕ, true, List, length, slice_set, Option, Some, None}
use Rattle.blocks.specs.declared.disk.Disk as disk_trait
use Rattle.ports.specs.declared.herald.Herald as herald_trait
use Rattle.ports.specs.declared.intake.Intake as intake_trait
use Rattle.ports.specs.declared.herald.PlainHerald.{PlainHerald}
use Rattle.ports.specs.declared.queues.QueueIntake.{QueueIntake}
use Rattle.history.specs.Processes.{process}
use Rattle.ports.specs.Queues.{OthersWait, answers, polled, waiting}
use Rattle.model.specs.declared.types.operations.Answer.{Answer}
use Rattle.model.specs.declared.types.operations.Op.{Op}
use Rattle.model.specs.declared.types.operations.Attribute.TheVariants.{Links, Size}
use Rattle.model.specs.declared.types.operations.Op.TheVariants.{Create, Write, Read, Trunc, Remove, Stat, SetAttribute}
use Rattle.inodes.specs.Deeds.{wanted_holder}
use Rattle.kernel.specs.Steps.{MakesStep}
use Rattle.model.specs.declared.types.operations.Step.{Step}
use Rattle.sessions.specs.declared.disk.HostDisk.{HostDisk}
use Rattle.sessions.specs.declared.session.Session.{Session}
use Rattle.sessions.specs.declared.session.Told.{Told}
use Rattle.sessions.specs.Kept.{OthersKept, byte_count}
use Rattle.sessions.specs.Session.{HasTaken, answers_of, holds_of, image_of, intake_of, processes_of, syncs_of, writes_of}
use Rattle.sessions.specs.Telling.{CarriesOn, TellsUse}
use Rattle.xvfs_c.specs.Numbers.{TellsAnswer, by_number, step_number, told_number}
use Rattle.xvfs_c.specs.declared.report.XvfsAnswer.{XvfsAnswer}
use Rattle.xvfs_c.specs.declared.report.XvfsOp.{XvfsOp}
use Rattle.xvfs_c.specs.declared.report.XvfsStep.{XvfsStep}

-- both handles hold a session, and these are related so
abbrev pub Both : (Session → Session → Type 0) → Option Session → Option Session → Type 0
Both R None after = ⊥
Both R (Some s) None = ⊥
Both R (Some s) (Some t) = R s t

-- the handle holds the session that it held
abbrev pub Stays : Option Session → Option Session → Type 0
Stays = Both (λ s t. t ≡ s)

-- The step of a process that the kernel promises, and what C is told of it: what it did to the disk,
-- and nothing else. Where a write was told, the image is that of before with one block as it was
-- handed out, else it is as it was. What a device that holds writes back may hold is carried on.
pub record TellsStep {N M : Type 0} (disk : disk_trait.Ghosts HostDisk N)
    (intake : intake_trait.Ghosts QueueIntake M) (herald : herald_trait.Ghosts PlainHerald)
    (pid : ℕ) (out : XvfsStep) (block : List ℕ) (s t : Session) : Type 0 where
  pub step : Step
  pub makes : MakesStep disk intake herald pid step s.kernel t.kernel
  pub told : (out.step, out.why) ≡ step_number step
  -- who held what it waits for, as the step began
  pub by : out.by ≡ by_number step (wanted_holder s.kernel.store pid)
  pub did : Told
  pub does : TellsUse did s t
  pub tells : (out.wrote, out.block, out.synced) ≡ told_number did
  pub carries : holds_of s ≡ true → CarriesOn disk did s t
  pub unwritten : out.wrote ≡ 0 → image_of t ≡ image_of s
  pub inside : out.wrote ≡ 1 → out.block < length (image_of t)
  pub written : out.wrote ≡ 1 → image_of t ≡ slice_set (image_of s) out.block block
  pub committed : out.committed ≡ t.kernel.store.volume.log.committed
  -- no answer that is kept is taken
  pub kept : t.kept ≡ s.kept

-- that number says why process p makes no step
abbrev pub RefusesStep : ℕ → List ℕ → ℕ → Session → Type 0
RefusesStep p block number s = ((number ≡ 1537) × (processes_of s ≤ p))
    ⊎ ((number ≡ 1540) × (p < processes_of s) × (length block ≢ 1024))
    ⊎ ((number ≡ 1541) × (p < processes_of s)
    × ((2 ^ 63 ≤ writes_of s) ⊎ (2 ^ 63 ≤ syncs_of s)))

-- C's operation, with these bytes beside it, is that one
abbrev pub IsOperation : XvfsOp → List ℕ → Op → Type 0
IsOperation o bytes (Create kind) = (o.kind ≡ 0) × (kind ≡ o.inum)
IsOperation o bytes (Write i offset content) =
    (o.kind ≡ 1) × (i ≡ o.inum) × (offset ≡ o.offset) × (content ≡ bytes)
IsOperation o bytes (Read i offset len) =
    (o.kind ≡ 2) × (i ≡ o.inum) × (offset ≡ o.offset) × (len ≡ o.len)
IsOperation o bytes (Trunc i) = (o.kind ≡ 3) × (i ≡ o.inum)
IsOperation o bytes (Remove i) = (o.kind ≡ 4) × (i ≡ o.inum)
IsOperation o bytes (Stat i) = (o.kind ≡ 5) × (i ≡ o.inum)
IsOperation o bytes (SetAttribute i (Links count)) =
    (o.kind ≡ 6) × (i ≡ o.inum) × (count ≡ o.len)
IsOperation o bytes (SetAttribute i (Size len)) = (o.kind ≡ 7) × (i ≡ o.inum) × (len ≡ o.len)

-- the sessions differ in queues and in kept answers at most, and of the queues in those of process p
pub record KeepsKernel (p : ℕ) (s t : Session) : Type 0 where
  pub others : OthersWait (intake_of s) (intake_of t) p
  pub kernel : t.kernel ≡ record s.kernel { intake = intake_of t }

-- process p handed an operation in, as C passed it, and was told its number
pub record HandsIn (p : ℕ) (o : XvfsOp) (bytes : List ℕ) (seq : ℕ) (s t : Session) : Type 0 where
  pub op : Op
  pub is : IsOperation o bytes op
  pub waits : waiting (intake_of t) p ≡ waiting (intake_of s) p ++ op ∷ []
  pub answers : answers (intake_of t) p ≡ answers (intake_of s) p
  pub kept : t.kept ≡ s.kept
  pub number : seq ≡ (process s.kernel.world p).begun + length (waiting (intake_of t) p)
  pub keeps : KeepsKernel p s t

-- that number says why C's operation means none: there is none of that kind, no such type or count
-- of links, or memory was refused for the bytes of a write
abbrev pub MeansNone : XvfsOp → ℕ → Type 0
MeansNone o number =
    ((number ≡ 1539) × ((7 < o.kind) ⊎ ((o.kind ≡ 0) × (65535 < o.inum))
    ⊎ ((o.kind ≡ 6) × (65535 < o.len))))
    ⊎ ((number ≡ 1542) × (o.kind ≡ 1))

-- that number says why an operation of process p isn't handed in; it is full where 16 wait, or where
-- 2^64 - 1 were handed in
abbrev pub RefusesOperation : ℕ → ℕ → Session → Type 0
RefusesOperation p number s = ((number ≡ 1537) × (processes_of s ≤ p))
    ⊎ ((number ≡ 1538) × (p < processes_of s) × ((16 ≤ length (waiting (intake_of s) p))
    ⊎ ((process s.kernel.world p).begun + length (waiting (intake_of s) p) + 1 ≡ 2 ^ 64)))

-- there is an answer, and the bytes of the first one are at most so many
abbrev pub FirstFits : List Answer → ℕ → Type 0
FirstFits [] room = ⊥
FirstFits (answer ∷ rest) room = byte_count answer ≤ room

-- or they are more
abbrev pub FirstIsLonger : List Answer → ℕ → Type 0
FirstIsLonger [] room = ⊥
FirstIsLonger (answer ∷ rest) room = room < byte_count answer

-- that number says why process p is given no answer, for whose bytes there is that memory
abbrev pub RefusesAnswer : ℕ → List ℕ → ℕ → Session → Type 0
RefusesAnswer p memory number s = ((number ≡ 1537) × (processes_of s ≤ p))
    ⊎ ((number ≡ 1543) × (p < processes_of s) × (answers_of s p ≡ []))
    ⊎ ((number ≡ 1546) × (p < processes_of s) × FirstIsLonger (answers_of s p) (length memory))

-- process p's queues are as they were
pub record KeepsQueues (p : ℕ) (s t : Session) : Type 0 where
  pub waits : waiting (intake_of t) p ≡ waiting (intake_of s) p
  pub answers : answers (intake_of t) p ≡ answers (intake_of s) p
  pub polled : polled (intake_of t) p ≡ polled (intake_of s) p
  pub kept : t.kept ≡ s.kept
  pub keeps : KeepsKernel p s t

-- process p has the operations and the answers that it had, and took none
pub record KeepsAnswers (p : ℕ) (s t : Session) : Type 0 where
  pub waits : waiting (intake_of t) p ≡ waiting (intake_of s) p
  pub answers : answers_of t p ≡ answers_of s p
  pub taken : (n : ℕ) → HasTaken s p n → HasTaken t p n
  pub others : OthersKept s.kept t.kept p
  pub keeps : KeepsKernel p s t

-- the session was told that no operation begins any more
abbrev pub Shuts : Session → Session → Type 0
Shuts s t = (t.kernel ≡ record s.kernel { world = record s.kernel.world { is_shut = true } })
    × (t.kept ≡ s.kept)

-- process p's oldest answer was taken, and told to C
pub record GivesAnswer (p : ℕ) (out : XvfsAnswer) (old new : List ℕ) (s t : Session)
    : Type 0 where
  pub answer : Answer
  pub oldest : answers_of s p ≡ answer ∷ answers_of t p
  pub taken : (n : ℕ) → HasTaken s p n → HasTaken t p (n + 1)
  pub others : OthersKept s.kept t.kept p
  pub told : TellsAnswer answer out old new
  pub waits : waiting (intake_of t) p ≡ waiting (intake_of s) p
  pub keeps : KeepsKernel p s t
