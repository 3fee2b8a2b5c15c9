-- What a walk over all of an image notes: the places in the table; and what it tells of faults.
use Rattle.std.specs.Prelude.{ℕ, ◌+◌, nat_lt, if◌then◌else◌, List, [], ◌++◌, Option, Some, None, Result, MatchResult}
use Rattle.blocks.specs.Disk.{Image}
use Rattle.model.specs.declared.types.fault.CheckFault.{CheckFault}
use Rattle.model.specs.declared.types.fault.CheckFault.TheVariants.{BadType, BadSize}
use Rattle.model.specs.declared.types.image.Dinode.{Dinode}
use Rattle.model.specs.declared.types.image.Form.{Form}
use Rattle.model.specs.declared.types.image.Pointer.{Pointer}
use Rattle.model.specs.Faults.{pointer_faults, inode_faults, inodes_faults}
use Rattle.model.specs.Layout.{greatest_size}
use Rattle.model.specs.Places.{addresses_in, places_of}
use Rattle.model.specs.Verdict.{places_below}
use Rattle.offline.specs.Hearing.{BreaksOff}
use Rattle.offline.specs.Owners.{Stand}
use Rattle.offline.specs.declared.notes.Owner.{Owner}
use Rattle.offline.specs.declared.owners.Owners.{Owners}

-- the fault of a used inode for which its pointers aren't judged
abbrev pub early_fault : ℕ → Dinode → Form → Option CheckFault
early_fault i d form =
    if nat_lt 3 d.kind then Some (BadType i)
    else if nat_lt (greatest_size form) d.size then Some (BadSize i)
    else None

-- the faults of pointers that are judged, none of others
abbrev pub judged_faults : Image → Owner → List ℕ → List Pointer → List CheckFault
judged_faults y owner earlier pointers =
    if owner.is_judged then pointer_faults y owner.number earlier pointers else []

-- pointers were noted behind those places: their addresses joined these, and their faults were told
pub record HasNoted {H : Type 0} (hears : H → List CheckFault → H → Type 0) (y : Image)
    (owner : Owner) (earlier : List ℕ) (pointers : List Pointer) (new : Owners) (before after : H)
    : Type 0 where
  pub stand : Stand new y (earlier ++ addresses_in pointers)
  pub heard : hears before (judged_faults y owner earlier pointers) after

-- the same whatever places stood in the table
abbrev pub NotesPointers : {H : Type 0} → (H → List CheckFault → H → Type 0) → Image → Owner
    → List Pointer → Owners → Owners → H → H → Type 0
NotesPointers hears y owner pointers old new before after = (earlier : List ℕ) →
    Stand old y earlier → HasNoted hears y owner earlier pointers new before after

-- those places stand, where the faults were all told
abbrev pub NotesUpTo : {H : Type 0} → (H → List CheckFault → H → Type 0) → Image → List ℕ
    → List CheckFault → Owners → H → H → Result (Unit {0}) CheckFault → Type 0
NotesUpTo hears y places faults new before after result =
    MatchResult result (λ _. Stand new y places × hears before faults after)
    (λ _. BreaksOff hears faults before after)

-- inode i was noted behind those below it, or a beginning of its faults told
abbrev pub NotesInode : {H : Type 0} → (H → List CheckFault → H → Type 0) → Image → ℕ → Owners → H
    → H → Result (Unit {0}) CheckFault → Type 0
NotesInode hears y i new before after result =
    NotesUpTo hears y (places_below y (i + 1)) (inode_faults y i) new before after result

-- all inodes were noted, or a beginning of their faults told
abbrev pub NotesInodes : {H : Type 0} → (H → List CheckFault → H → Type 0) → Image → Owners → H → H
    → Result (Unit {0}) CheckFault → Type 0
NotesInodes hears y new before after result =
    NotesUpTo hears y (places_of y) (inodes_faults y) new before after result
