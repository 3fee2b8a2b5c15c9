-- Why a copy is not planned, and what is told of one that was made.
use Rattle.std.proofs.Common.{◌≡◌, ◌∙◌, ℕ, Bool, true, false, ◌&&◌, leb, Option, None, List, ap, sym, subst, refl, inr}
use Rattle.std.specs.Prelude.{◌↔◌, Result, Err, IsOk, IsTrue}
use Rattle.std.specs.Result.{IsErrOf}
use Rattle.blocks.specs.Calls.{OnlyReads}
use Rattle.blocks.specs.declared.disk.Disk.{Ghosts}
use Rattle.blocks.specs.declared.file.FileDisk.{FileDisk}
use Rattle.layout.specs.declared.geometry.MkfsFault.{MkfsFault}
use Rattle.layout.specs.declared.geometry.MkfsFault.TheVariants as mkfs
use Rattle.model.specs.Layout.{inode_count_of, is_inode_count, is_size}
use Rattle.model.specs.Lemmas.Super.{lawful_geometry, verdict_none}
use Rattle.model.specs.Verdict.{verdict}
use Rattle.model.specs.declared.types.image.Super.{Super}
use Rattle.std.proofs.lemmas.Bool.{le-leb}
use Rattle.transfer.specs.declared.fault.CopyFault.TheVariants.{Mkfs}
use Rattle.cmd.specs.Opened.{IsOpened}
use Rattle.commands_changes.specs.Copies.{HasFilled, HasMade, HasNotFilled, IsUnmade, IsUnplanned, OnCopyRefusal, size_asked}
use Rattle.commands_changes.specs.declared.refused.CopyRefusal.{CopyRefusal}
use Rattle.commands_changes.specs.declared.refused.CopyRefusal.TheVariants.{File, Exists, Of, Unconverted, LogRange, Output}

-- an image without a fault has a number of inodes within the limits
count_within : {D N : Type 0} (disk : Ghosts D N) (d : D) → verdict (disk.image d) ≡ None → is_inode_count (inode_count_of (disk.image d)) ≡ true
count_within disk d sound =
    let facts = lawful_geometry (disk.image d) (verdict_none (disk.image d) sound).0 in
    let n = inode_count_of (disk.image d) in
    let some : leb 2 n ≡ true = le-leb 2 n facts.some in
    let few : leb n 1024 ≡ true = le-leb n 1024 facts.few in
    ap (λ (b : Bool). b && leb n 1024) some ∙ few

-- so the only fault of a plan is that of the size
size_fault : (size n : ℕ) (r : Result Super MkfsFault) (fault : MkfsFault) → r ≡ Err fault → is_inode_count n ≡ true
    → IsOk r ↔ IsTrue (is_inode_count n && is_size size n) → IsErrOf r mkfs.SizeRange ↔ (IsTrue (is_inode_count n) × (is_size size n ≡ false))
    → (fault ≡ mkfs.SizeRange) × (is_size size n ≡ false)
size_fault size n r fault is within ok range = by_size (is_size size n) refl
  where
    by_size : (b : Bool) → is_size size n ≡ b → (fault ≡ mkfs.SizeRange) × (is_size size n ≡ false)
    by_size true fits =
        let both : is_inode_count n && is_size size n ≡ true = ap (λ (b : Bool). b && is_size size n) within ∙ fits in
        let bad : false ≡ true = subst (λ (q : Result Super MkfsFault). IsOk q) is (ok.1 both) in
        absurd (cc bad)
    by_size false out =
        let told : r ≡ Err mkfs.SizeRange = range.1 (within, out) in
        let same : Err fault ≡ Err mkfs.SizeRange = sym is ∙ told in
        (cc same, out)

pub unplanned_size : {D N : Type 0} (disk : Ghosts D N) (asked : Option ℕ) (d e : D) (size n : ℕ) (r : Result Super MkfsFault) (fault : MkfsFault) → verdict (disk.image d) ≡ None
    → size ≡ size_asked asked (disk.image d) → n ≡ inode_count_of (disk.image d) → r ≡ Err fault
    → IsOk r ↔ IsTrue (is_inode_count n && is_size size n) → IsErrOf r mkfs.SizeRange ↔ (IsTrue (is_inode_count n) × (is_size size n ≡ false))
    → IsUnplanned disk asked d e (Mkfs fault)
unplanned_size disk asked d e size n r fault sound is_size_of is_count is ok range =
    let within : is_inode_count n ≡ true = ap is_inode_count is_count ∙ count_within disk d sound in
    let found = size_fault size n r fault is within ok range in
    let out : is_size (size_asked asked (disk.image d)) (inode_count_of (disk.image d)) ≡ false = subst (λ (m : ℕ). is_size (size_asked asked (disk.image d)) m ≡ false) is_count (subst (λ (m : ℕ). is_size m n ≡ false) is_size_of found.1) in
    subst (λ (f : MkfsFault). IsUnplanned disk asked d e (Mkfs f)) (sym found.0) (sound, out)

-- why a planned copy was not made
pub uncopied : {F N : Type 0} (remaining : F → Option (List ℕ)) (disk : Ghosts (FileDisk F) N) (size : Option ℕ) (planned : ℕ) (d e left : FileDisk F) (none : Type 0) → IsOpened remaining disk false d → OnlyReads disk d e
    → planned ≡ size_asked size (disk.image d) → none → (sync : Bool) (r : CopyRefusal) → IsUnmade disk planned e left r → OnCopyRefusal remaining disk size sync none r
uncopied remaining disk size planned d e left none opened reads asked silent sync (File fault) why = silent
uncopied remaining disk size planned d e left none opened reads asked silent sync Exists why = silent
uncopied remaining disk size planned d e left none opened reads asked silent sync (Of cause) why =
    (inr (record { opened = d; read = e; left = left; is = opened; reads = reads; why = subst (λ n. HasNotFilled disk n e left cause) asked why }), silent)
uncopied remaining disk size planned d e left none opened reads asked silent sync (Unconverted fault) why = absurd why
uncopied remaining disk size planned d e left none opened reads asked silent sync LogRange why = absurd why
uncopied remaining disk size planned d e left none opened reads asked silent sync Output why = absurd why

-- and what is known where it was
pub has_made : {F N : Type 0} (remaining : F → Option (List ℕ)) (disk : Ghosts (FileDisk F) N) (size : Option ℕ) (sync : Bool) (planned count : ℕ) (d e : FileDisk F) → IsOpened remaining disk false d → OnlyReads disk d e
    → planned ≡ size_asked size (disk.image d) → HasFilled disk planned sync e count → HasMade remaining disk size sync count
has_made remaining disk size sync planned count d e opened reads asked filled = record { opened = d; read = e; is = opened; reads = reads; filled = subst (λ n. HasFilled disk n sync e count) asked filled }
