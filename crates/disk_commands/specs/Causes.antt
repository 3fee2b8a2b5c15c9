-- Why a command over a disk wasn't done, and how the disk is then.
use Rattle.std.specs.Prelude.{◌≡◌, ◌⊎◌, ◌&&◌, ◌==◌, ⊤, ℕ, Bool, true, false, List, [], ◌++◌, length, take, codes, Option, Some, None, Result, Ok, Err}
use Rattle.std.specs.List.{flat_map}
use Rattle.std.specs.Io.KnownBytes.{Appends}
use Rattle.blocks.specs.Disk.{Image, Rose}
use Rattle.blocks.specs.declared.disk.Disk.{Ghosts}
use Rattle.offline.specs.Cause.{IsCause}
use Rattle.layout.specs.declared.geometry.MkfsFault.{MkfsFault}
use Rattle.layout.specs.declared.geometry.MkfsFault.TheVariants as mkfs
use Rattle.model.specs.Faults.{faults}
use Rattle.model.specs.Layout.{is_inode_count, is_size}
use Rattle.model.specs.Log.{recovered}
use Rattle.model.specs.Verdict.{verdict}
use Rattle.model.specs.declared.types.fault.CheckFault.{CheckFault}
use Rattle.model.specs.declared.types.image.Form.{Form}
use Rattle.opening.specs.Recoveries.{IsUnrecovered}
use Rattle.opening.specs.declared.recovering.RecoverRefusal.{RecoverRefusal}
use Rattle.json_lines.specs.Arrays.{array_text, elements_behind}
use Rattle.json_lines.specs.Faults.{fault_object}
use Rattle.messages.specs.Output.{fault_count_text, fault_line, faults_text}
use Rattle.messages.specs.declared.printed.Printed.{Printed}
use Rattle.messages.specs.declared.printed.Printed.TheVariants as printed

-- The disk d, now e, was not checked, or what was found could not be printed; here and below `none`
-- says that nothing was printed.
abbrev pub IsUnchecked : {D N : Type 0} → Ghosts D N → D → D → Type 0 → Printed CheckFault → Type 0
IsUnchecked disk d e none (printed.Fault fault) =
    IsCause (verdict (disk.image d)) (disk.fault_count d) (disk.fault_count e) fault × none
IsUnchecked disk d e none printed.Output = verdict (disk.image d) ≡ None

-- so many faults were told, and the refusal is the first; or how many could not be printed
abbrev pub IsToldWith : Option (List ℕ) → Option (List ℕ) → ℕ → CheckFault → Printed CheckFault
    → Type 0
IsToldWith old new count first (printed.Fault fault) =
    (fault ≡ first) × Appends old new (fault_count_text count)
IsToldWith old new count first printed.Output = ⊤

-- Of these faults the first ones were printed, so many as were met until it broke off, a line each;
-- where there were none, nothing was.
abbrev pub TellsFirst : List CheckFault → Option (List ℕ) → Option (List ℕ) → Type 0 → Type 0
TellsFirst faults old new none = (count : ℕ) × (take count faults ≡ [] → none)
    × Appends old new (flat_map fault_line (take count faults))

-- The image of the disk d, now e, has faults, all of which were printed, and the refusal is the
-- first; or what was found could not be printed; or a read failed, or memory was refused, and a
-- beginning of its faults was printed.
abbrev pub HasFaultsTold : {D N : Type 0} → Ghosts D N → D → D → Option (List ℕ)
    → Option (List ℕ) → Type 0 → Printed CheckFault → Type 0
HasFaultsTold disk d e old new none (printed.Fault fault) =
    ((verdict (disk.image d) ≡ Some fault)
    × Appends old new (faults_text (faults (disk.image d))))
    ⊎ (IsCause None (disk.fault_count d) (disk.fault_count e) fault
    × TellsFirst (faults (disk.image d)) old new none)
HasFaultsTold disk d e old new none printed.Output = ⊤

-- the end of an array of faults was printed, of which that is the first, if there is any: that is
-- the refusal then; or it could not be printed
abbrev pub EndsWith : Option (List ℕ) → Option (List ℕ) → Option CheckFault
    → Result (Unit {0}) (Printed CheckFault) → Type 0
EndsWith old new first (Ok done) = (first ≡ None) × Appends old new (codes "]\n")
EndsWith old new first (Err (printed.Fault fault)) =
    (first ≡ Some fault) × Appends old new (codes "]\n")
EndsWith old new first (Err printed.Output) = ⊤

-- The image of the disk d, now e, has faults, and an array of all was printed, and the refusal is
-- the first; or what was found could not be printed; or a read failed, or memory was refused, and an
-- array was begun with the first of its faults.
abbrev pub HasArrayTold : {D N : Type 0} → Ghosts D N → D → D → Option (List ℕ)
    → Option (List ℕ) → Printed CheckFault → Type 0
HasArrayTold disk d e old new (printed.Fault fault) =
    ((verdict (disk.image d) ≡ Some fault)
    × Appends old new (array_text fault_object (faults (disk.image d))))
    ⊎ (IsCause None (disk.fault_count d) (disk.fault_count e) fault
    × ((count : ℕ) × Appends old new (codes "["
    ++ elements_behind fault_object 0 (take count (faults (disk.image d))))))
HasArrayTold disk d e old new printed.Output = ⊤

-- why a check that tells the first fault, or all of them, as JSON or as text, was refused
abbrev pub IsUncheckedBy : {D N : Type 0} → Ghosts D N → Bool → Bool → D → D → Option (List ℕ)
    → Option (List ℕ) → Type 0 → Printed CheckFault → Type 0
IsUncheckedBy disk json false d e old new none r = IsUnchecked disk d e none r
IsUncheckedBy disk false true d e old new none r = HasFaultsTold disk d e old new none r
IsUncheckedBy disk true true d e old new none r = HasArrayTold disk d e old new r

-- the disk d, now e, was not recovered; or it was, and how many blocks were copied could not be
-- printed
abbrev pub IsNotRecovered : {D N : Type 0} → Ghosts D N → D → D → Type 0 → Printed RecoverRefusal
    → Type 0
IsNotRecovered disk d e none (printed.Fault refusal) = IsUnrecovered disk d e refusal × none
IsNotRecovered disk d e none printed.Output =
    (verdict (disk.image d) ≡ None) × (disk.image e ≡ recovered (disk.image d))

-- on the disk d, now e, no image of that form and size was made, or it was not synced
abbrev pub IsUnmade : {D : Type 0} → (D → Image) → (D → ℕ) → Form → ℕ → ℕ → D → D → MkfsFault
    → Type 0
IsUnmade image faults form size ninodes d e mkfs.InodeRange =
    (is_inode_count ninodes ≡ false) × (e ≡ d)
IsUnmade image faults form size ninodes d e mkfs.SizeRange =
    ((is_size size ninodes && (size == length (image d))) ≡ false) × (e ≡ d)
IsUnmade image faults form size ninodes d e mkfs.Disk = Rose (faults d) (faults e)
IsUnmade image faults form size ninodes d e mkfs.NoMemory = e ≡ d
