-- What contracts see of a session.
use Rattle.std.specs.Prelude.{◌≡◌, ◌+◌, ◌-◌, ◌*◌, ◌^◌, ◌++◌, ℕ, min, Bool, List, length, option_to_list, replicate, Option, None}
use Rattle.std.specs.Simd.{first_chunks}
use Rattle.blocks.specs.Disk.{Image}
use Rattle.blocks.specs.declared.disk.Disk.{Ghosts}
use Rattle.model.specs.declared.types.operations.Answer.{Answer}
use Rattle.ports.specs.Queues.{answers, polled}
use Rattle.ports.specs.declared.herald.PlainHerald.{PlainHerald}
use Rattle.ports.specs.declared.queues.QueueIntake.{QueueIntake}
use Rattle.kernel.specs.Opening.{IsOpened}
use Rattle.sessions.specs.Kept.{kept_answer}
use Rattle.sessions.specs.declared.disk.HostDisk.{HostDisk}
use Rattle.sessions.specs.declared.session.Session.{Session}

abbrev pub disk_of : Session → HostDisk
disk_of s = s.kernel.store.volume.device

-- the blocks of its disk
abbrev pub image_of : Session → Image
image_of s = s.kernel.store.volume.device.copy.blocks.items

-- how many writes were made to it
abbrev pub writes_of : Session → ℕ
writes_of s = s.kernel.store.volume.device.copy.writes

-- and how many syncs
abbrev pub syncs_of : Session → ℕ
syncs_of s = s.kernel.store.volume.device.copy.syncs

-- whether it holds writes back
abbrev pub holds_of : Session → Bool
holds_of s = s.kernel.store.volume.device.holds

abbrev pub intake_of : Session → QueueIntake
intake_of s = s.kernel.intake

abbrev pub processes_of : Session → ℕ
processes_of s = length s.kernel.world.processes

-- the answer of process p that was looked at and isn't taken yet
abbrev pub kept_of : Session → ℕ → Option Answer
kept_of s p = kept_answer s.kept p

-- what the kernel gave and process p has not taken, first in first out
abbrev pub answers_of : Session → ℕ → List Answer
answers_of s p = option_to_list (kept_of s p) ++ answers (intake_of s) p

-- process p took n answers by now, as its queue counts them, up to the greatest number
abbrev pub HasTaken : Session → ℕ → ℕ → Type 0
HasTaken s p n =
    polled (intake_of s) p ≡ min (n + length (option_to_list (kept_of s p))) (2 ^ 64 - 1)

-- It was opened with so many processes over a new disk with these bytes, which holds writes back or
-- doesn't.
pub record OpensOver {N : Type 0} (disk : Ghosts HostDisk N) (bytes : List ℕ) (processes : ℕ)
    (holds : Bool) (s : Session) : Type 0 where
  pub device : HostDisk
  pub intake : QueueIntake
  pub herald : PlainHerald
  pub count : ℕ
  pub whole : length bytes ≡ count * 1024
  pub blocks : device.copy.blocks.items ≡ first_chunks 1024 count bytes
  pub unwritten : device.copy.writes ≡ 0
  pub unsynced : device.copy.syncs ≡ 0
  pub kind : device.holds ≡ holds
  pub holds_is : holds_of s ≡ holds
  pub kept : s.kept ≡ replicate processes None
  pub opened : IsOpened disk device intake herald processes s.kernel
