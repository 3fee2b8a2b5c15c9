-- What a contract sees of a kernel, and what a stop leaves of its steps.
use Rattle.std.specs.Prelude.{ℕ, [], if◌then◌else◌, Option, Some, None}
use Rattle.blocks.specs.declared.disk.Disk.{Ghosts}
use Rattle.model.specs.declared.types.operations.Op.{Op}
use Rattle.model.specs.declared.types.operations.Op.TheVariants.{Create, Write, Read, Trunc, Remove, Stat, SetAttribute}
use Rattle.model.specs.Gathered.{GatheredBytes}
use Rattle.model.specs.Journal.{is_at_once}
use Rattle.inodes.specs.Holding.{FitsField}
use Rattle.inodes.specs.Store.{StoreState}
use Rattle.history.specs.declared.types.Phase.{Phase}
use Rattle.history.specs.Most.{most_of}
use Rattle.history.specs.Processes.{process}
use Rattle.history.specs.Stop.{StepsLeave}
use Rattle.history.specs.World.{World}
use Rattle.kernel.specs.declared.class.OpClass.{OpClass}

pub record State (D I H : Type 0) : Type 0 where
  pub store : StoreState D
  -- the disk when the kernel was opened
  pub opening : D
  pub intake : I
  pub herald : H
  pub world : World

-- WHAT A STOP LEAVES in the time in which a kernel k became m, and right behind it.
abbrev pub StopsIn : {D N I H : Type 0} → Ghosts D N → State D I H → State D I H → Type 0
StopsIn disk k m =
    StepsLeave disk m.opening k.store.volume.device m.store.volume.device
    k.store.volume.log.committed m.store.volume.log.committed (most_of m.store.volume)
    m.world.journal.list

-- what an operation is to the kernel that is not answered at once
abbrev pub kind_of : Op → OpClass
kind_of (Create kind) = OpClass.Change
kind_of (Write i off bytes) = OpClass.Change
kind_of (Read i off n) = OpClass.Look (Some n)
kind_of (Trunc i) = OpClass.Change
kind_of (Remove i) = OpClass.Change
kind_of (Stat i) = OpClass.Look None
kind_of (SetAttribute i a) = OpClass.Change

-- what any operation is to it, where there are so many inode numbers
abbrev pub class_of : ℕ → Op → OpClass
class_of inode_count op = if is_at_once inode_count op then OpClass.Refused else kind_of op

-- the attribute that an operation sets, if it sets one, fits its field of an inode
abbrev pub HasValue : Op → Type 0
HasValue (Create kind) = Unit {0}
HasValue (Write i off bytes) = Unit {0}
HasValue (Read i off n) = Unit {0}
HasValue (Trunc i) = Unit {0}
HasValue (Remove i) = Unit {0}
HasValue (Stat i) = Unit {0}
HasValue (SetAttribute i a) = FitsField a

-- room for so many bytes
abbrev pub room_for : Option ℕ → Option GatheredBytes
room_for None = None
room_for (Some n) = Some (record { bytes = []; room = n })

-- where each process stands
abbrev pub ats_of : World → ℕ → Phase
ats_of w q = (process w q).at
