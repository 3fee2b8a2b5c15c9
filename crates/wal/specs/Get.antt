-- What the volume's `get` comes to.
use Rattle.std.specs.Prelude.{ℕ}
use Rattle.blocks.specs.declared.errors.DiskFault.{DiskFault}
use Rattle.model.specs.declared.types.operations.Why.{Why}

-- the process has the lock of a slot, which is valid; or it has to wait; or the disk failed
pub data Get : Type 0 where
  Got : ℕ → Get
  Sleeping : Why → Get
  Fault : DiskFault → Get
