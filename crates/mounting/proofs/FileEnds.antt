-- Where a file ends behind a write.
use Rattle.std.proofs.Common.{◌≡◌, ℕ, ◌+◌, ◌<◌, ◌≤◌, Bool, true, false, Option, List, length, take, drop, ◌++◌, Some, None, Ok, ⊎_elim, refl, sym, ap, subst, ◌∙◌, arith}
use Rattle.std.specs.Prelude.{min, slice_set, Result}
use Rattle.std.proofs.lemmas.Bool.{cases_lt}
use Rattle.std.proofs.lemmas.List.{length-append, length-drop, length-take}
use Rattle.blocks.specs.Block.{overwritten}
use Rattle.directories.specs.Lemmas.FileMaps.{set_there}
use Rattle.directories.specs.Trees.{bytes_of}
use Rattle.model.specs.declared.types.image.File.{File}
use Rattle.model.specs.declared.types.image.Form.{Form}
use Rattle.model.specs.Common.{get_or_past}
use Rattle.model.specs.Files.{Files, file_in}
use Rattle.model.specs.Operations.{with_bytes}
use Rattle.names.specs.declared.writing.Unwritten.{Unwritten}
use Rattle.mounting.specs.Changes.{HasLength}
use Rattle.names.specs.declared.asking.Found.{Found}
use Rattle.names.specs.Numbered.{CutsAt, LooksAt, WritesSomeOf}

below : (files : Files) (number : ℕ) (file : File) → file_in files number ≡ Some file → number < length files
below files number file there =
    ⊎_elim (λ (in_it : number < length files). in_it)
    (λ (past : length files ≤ number). let none = sym (get_or_past files number None past) ∙ there in absurd (cc none))
    (cases_lt number (length files))

pub set_in : (files : Files) (number : ℕ) (file : File) (bytes : List ℕ) → file_in files number ≡ Some file → bytes_of (file_in (slice_set files number (with_bytes file bytes)) number) ≡ bytes
set_in files number file bytes there = ap bytes_of (set_there files (slice_set files number (with_bytes file bytes)) number (with_bytes file bytes) (below files number file there) refl)

ends : (old : List ℕ) (at : ℕ) (bytes : List ℕ) → length old ≡ at → length (overwritten old at bytes) ≡ at + length bytes
ends old at bytes is =
    let whole : length (overwritten old at bytes) ≡ length (take at old) + length bytes + length (drop (at + length bytes) old) =
    length-append (take at old ++ bytes) (drop (at + length bytes) old) ∙ ap (λ (n : ℕ). n + length (drop (at + length bytes) old)) (length-append (take at old) bytes) in
    let taken = length-take at old in
    let rest = length-drop (at + length bytes) old in
    omega (arith, whole, taken, rest, is)

-- where bytes were written from the end on, the file ends behind them
pub ends_behind : (form : Form) (files new : Files) (number at : ℕ) (bytes : List ℕ) (count wrote : ℕ) (done : Result ℕ Unwritten) → done ≡ Ok wrote → length bytes ≡ count →
    WritesSomeOf form number at bytes done files new → HasLength files number at → HasLength new number (at + min wrote count)
ends_behind form files new number at bytes count wrote done is size writes end =
    let some = subst (λ (r : Result ℕ Unwritten). WritesSomeOf form number at bytes r files new) is writes in
    let file = some.file in
    let there = some.plain.there in
    let old : length file.bytes ≡ at = subst (λ (l : List ℕ). length l ≡ at) (ap bytes_of there) end in
    let now : bytes_of (file_in new number) ≡ overwritten file.bytes at (take wrote bytes) =
    ap (λ (f : Files). bytes_of (file_in f number)) some.writes.1 ∙ set_in files number file (overwritten file.bytes at (take wrote bytes)) there in
    let more = ends file.bytes at (take wrote bytes) old in
    let taken = length-take wrote bytes in
    let same = ap (λ (l : List ℕ). length l) now in
    omega (arith, more, taken, same, size)

-- a file that was found has its length
pub found_ends : (files new : Files) (number : ℕ) (found : Found) → LooksAt number found files new → HasLength new number found.size
found_ends files new number found looks =
    ap (λ (f : Files). length (bytes_of (file_in f number))) looks.same ∙ ap (λ (o : Option File). length (bytes_of o)) looks.found_is.there ∙ sym looks.found_is.size

-- one that was cut has the other one
pub cut_ends : (files new : Files) (number size : ℕ) (found : Found) (done : Bool) → HasLength files number found.size → size < found.size → CutsAt number size done files new → HasLength new number size
cut_ends files new number size found true end low cuts =
    let old : length cuts.file.bytes ≡ found.size = subst (λ (l : List ℕ). length l ≡ found.size) (ap bytes_of cuts.plain.there) end in
    let now = ap (λ (f : Files). length (bytes_of (file_in f number))) cuts.cuts.1 ∙ ap (λ (l : List ℕ). length l) (set_in files number cuts.file (take size cuts.file.bytes) cuts.plain.there) in
    let taken = length-take size cuts.file.bytes in
    omega (arith, old, now, taken, low)
cut_ends files new number size found false end low cuts =
    let old : length cuts.file.bytes ≡ found.size = subst (λ (l : List ℕ). length l ≡ found.size) (ap bytes_of cuts.plain.there) end in
    let few = cuts.cuts.0 in
    absurd (omega (arith, old, few, low))
