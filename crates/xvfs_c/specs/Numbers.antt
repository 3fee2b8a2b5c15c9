-- The numbers that C is told.
use Rattle.std.specs.Prelude.{◌≡◌, ◌≤◌, ◌-◌, ◌^◌, ◌==◌, if◌then◌else◌, min, ℕ, List, length, Option, Some}
use Rattle.blocks.specs.Block.{overwritten}
use Rattle.model.specs.declared.types.operations.Answer.{Answer}
use Rattle.model.specs.declared.types.operations.Reply.{Reply}
use Rattle.model.specs.declared.types.operations.Reply.TheVariants as reply
use Rattle.model.specs.declared.types.operations.Step.{Step}
use Rattle.model.specs.declared.types.operations.Step.TheVariants as step
use Rattle.model.specs.declared.types.operations.Why.{Why}
use Rattle.model.specs.declared.types.operations.Why.TheVariants as why
use Rattle.model.specs.declared.types.fault.CheckFault.{CheckFault}
use Rattle.model.specs.declared.types.fault.CheckFault.TheVariants as check
use Rattle.model.specs.declared.types.image.Form.{Form}
use Rattle.model.specs.declared.types.image.Form.TheVariants.{One, Two}
use Rattle.layout.specs.declared.geometry.MkfsFault.{MkfsFault}
use Rattle.layout.specs.declared.geometry.MkfsFault.TheVariants as making
use Rattle.wal.specs.declared.faults.RecoverFault.{RecoverFault}
use Rattle.wal.specs.declared.faults.RecoverFault.TheVariants as recovery
use Rattle.sessions.specs.declared.refusal.OpenRefusal.{OpenRefusal}
use Rattle.sessions.specs.declared.refusal.OpenRefusal.TheVariants as opening
use Rattle.sessions.specs.declared.session.Told.{Told}
use Rattle.sessions.specs.declared.session.Told.TheVariants as told
use Rattle.xvfs_c.specs.declared.report.XvfsAnswer.{XvfsAnswer}

-- of the library, 0.2.0: 65,536 times its first number, 256 times its second one, and its third
abbrev pub library_version : ℕ
library_version = 512

-- of an image's fault, and the inode or the block that has it
abbrev pub check_number : CheckFault → ℕ × ℕ
check_number check.BadMagic = (769, 0)
check_number check.BadGeometry = (770, 0)
check_number check.BadLog = (771, 0)
check_number (check.BadType i) = (772, i)
check_number (check.BadSize i) = (773, i)
check_number (check.BadAddress i) = (774, i)
check_number (check.TwiceUsed b) = (775, b)
check_number (check.UsedButFree b) = (776, b)
check_number (check.LostBlock b) = (777, b)
check_number check.Disk = (778, 0)
check_number check.NoMemory = (779, 0)

abbrev pub mkfs_number : MkfsFault → ℕ
mkfs_number making.SizeRange = 513
mkfs_number making.InodeRange = 514
mkfs_number making.Disk = 515
mkfs_number making.NoMemory = 516

abbrev pub recover_number : RecoverFault → ℕ
recover_number recovery.Disk = 1025
recover_number recovery.BadLog = 1026
recover_number recovery.NoMemory = 1027
recover_number recovery.Sync = 1028

abbrev pub open_number : OpenRefusal → ℕ
open_number opening.Length = 258
open_number (opening.Check fault) = (check_number fault).0
open_number opening.NoMemory = 1283
open_number opening.Processes = 1284

abbrev pub form_number : Form → ℕ
form_number One = 1
form_number Two = 2

-- the form that C means
abbrev pub form_meant : ℕ → Form
form_meant number = if number == 2 then Two else One

abbrev pub why_number : Why → ℕ
why_number why.Committing = 1
why_number why.LogFull = 2
why_number why.InodeHeld = 3
why_number why.BufferHeld = 4
why_number why.NoBuffer = 5
why_number why.AnswersFull = 6

-- of a step, and of why it sleeps
abbrev pub step_number : Step → ℕ × ℕ
step_number step.Moved = (0, 0)
step_number step.Answered = (1, 0)
step_number (step.Sleeping cause) = (2, why_number cause)
step_number step.Idle = (3, 0)
step_number step.NoMemory = (4, 0)
step_number step.ShutDown = (5, 0)
step_number step.Halted = (6, 0)

-- no process
abbrev pub nobody : ℕ
nobody = 2 ^ 32 - 1

-- of who holds what a step waits for that sleeps, by who holds what it was to get or to take
abbrev pub by_number : Step → Option ℕ → ℕ
by_number (step.Sleeping cause) (Some p) = p
by_number other holder = nobody

-- of what a step did to the disk: whether it wrote, the block's number, and whether it synced
abbrev pub told_number : Told → ℕ × ℕ × ℕ
told_number told.Nothing = (0, 0, 0)
told_number (told.Wrote b) = (1, b, 0)
told_number told.Synced = (0, 0, 1)

-- of a reply, and what it carries beside bytes: a value, a count of links, and a length
abbrev pub reply_number : Reply → ℕ × ℕ × ℕ × ℕ
reply_number (reply.Made inum) = (0, inum, 0, 0)
reply_number (reply.Wrote count) = (1, count, 0, 0)
reply_number (reply.Bytes content) = (2, 0, 0, 0)
reply_number reply.Done = (3, 0, 0, 0)
reply_number (reply.StatOf kind links size) = (4, kind, links, size)
reply_number reply.NoInode = (5, 0, 0, 0)
reply_number reply.NoFile = (6, 0, 0, 0)
reply_number reply.BadOffset = (7, 0, 0, 0)
reply_number reply.TooBig = (8, 0, 0, 0)
reply_number reply.TooLong = (9, 0, 0, 0)
reply_number reply.BadType = (10, 0, 0, 0)

-- the bytes of a reply are put into C's memory, which has room for all, and their count is told
abbrev pub HandsOver : Reply → ℕ → List ℕ → List ℕ → Type 0
HandsOver (reply.Bytes content) len old new = (len ≡ min (length content) (2 ^ 32 - 1))
    × (length content ≤ length old) × (new ≡ overwritten old 0 content)
HandsOver other len old new = (len ≡ 0) × (new ≡ old)

-- C is told that answer, in `out` and in its memory for bytes
pub record TellsAnswer (answer : Answer) (out : XvfsAnswer) (old new : List ℕ) : Type 0 where
  pub seq : out.seq ≡ answer.seq
  pub group : out.group ≡ answer.group
  pub reply : (out.reply, out.value, out.links, out.size) ≡ reply_number answer.reply
  pub bytes : HandsOver answer.reply out.len old new
