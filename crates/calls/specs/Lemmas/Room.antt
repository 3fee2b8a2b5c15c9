-- Two calls of a transaction always have room; and why they are not made.
use Rattle.std.proofs.Common.{◌≤◌, arith}
use Rattle.blocks.specs.declared.disk.Disk.{Ghosts}
use Rattle.model.specs.declared.types.operations.Attribute.TheVariants.{Links, Size}
use Rattle.model.specs.declared.types.image.Form.{Form}
use Rattle.model.specs.declared.types.image.Form.TheVariants.{One, Two}
use Rattle.model.specs.declared.types.operations.Op.{Op}
use Rattle.model.specs.declared.types.operations.Op.TheVariants.{Create, Write, Read, Trunc, Remove, Stat, SetAttribute}
use Rattle.model.specs.declared.types.operations.Reply.{Reply}
use Rattle.inodes.specs.Writing.{most_beside, most_logged}
use Rattle.calls.specs.Stepping.{Plain}
use Rattle.calls.specs.Transactions.{Adds, Begins, FindsNoRoom}

beside_few : (form : Form) → most_beside form ≤ 4
beside_few One = omega arith
beside_few Two = omega arith

-- whatever it is, an operation logs no more than nine blocks
pub logs_nine : (form : Form) (op : Op) → most_logged form op ≤ 9
logs_nine form (Create kind) = omega arith
logs_nine form (Write i off bytes) = let few = beside_few form in omega (arith, few)
logs_nine form (Read i off n) = omega arith
logs_nine form (Trunc i) = omega arith
logs_nine form (Remove i) = omega arith
logs_nine form (Stat i) = omega arith
logs_nine form (SetAttribute i (Links n)) = omega arith
logs_nine form (SetAttribute i (Size n)) = let few = beside_few form in omega (arith, few)

module _ {D N : Type 0} (disk : Ghosts D N) (k a : Plain D) (begins : Begins disk.image k a) where
  -- the first call of a transaction
  pub first_has_room : (op : Op) (m : Plain D) → FindsNoRoom op a m → ⊥
  first_has_room op m none = let full = none.full in let empty = begins.none in omega (arith, full, empty)

  -- and the second
  pub second_has_room : (first op : Op) (b m : Plain D) (r : Reply) → Adds disk.image first a b r → FindsNoRoom op b m → ⊥
  second_has_room first op b m r one none =
      let full = none.full in
      let empty = begins.none in
      let added = one.room in
      let nine = logs_nine a.store.table.form first in
      omega (arith, full, empty, added, nine)
