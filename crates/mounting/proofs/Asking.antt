-- What requests change, by what they ask.
use Rattle.std.proofs.Common.{◌≡◌, ℕ, ◌/◌, List, [], ◌∷◌, refl, subst, sym}
use Rattle.directories.specs.Entries.{padded}
use Rattle.fuse.specs.declared.request.Request.{Request}
use Rattle.fuse.specs.Requests.{asked}
use Rattle.model.specs.declared.types.image.Form.{Form}
use Rattle.model.specs.Files.{Files}
use Rattle.blocks.specs.Disk.{Image}
use Rattle.mounting.specs.declared.errno.Errno.{Errno}
use Rattle.mounting.specs.Causes.{Hinders}
use Rattle.mounting.specs.Asides.{aside_of, digit}
use Rattle.mounting.specs.Changes.{Begins, Does, MayMake, RenamedFile}

-- of an equal request
pub asked_as : (form : Form) (node : ℕ) (r s : Request) (x z : Files) → r ≡ s → MayMake form node (asked s) x z → MayMake form node (asked r) x z
asked_as form node r s x z same makes = subst (λ (q : Request). MayMake form node (asked q) x z) (sym same) makes

pub done_as : (form : Form) (full : Type 0) (node : ℕ) (body : List ℕ) (r s : Request) (x z : Files) → r ≡ s → Does form full node (asked s) body x z → Does form full node (asked r) body x z
done_as form full node body r s x z same does = subst (λ (q : Request). Does form full node (asked q) body x z) (sym same) does

pub begins_as : (node : ℕ) (r s : Request) (x z : Files) → r ≡ s → Begins node (asked s) x z → Begins node (asked r) x z
begins_as node r s x z same begins = subst (λ (q : Request). Begins node (asked q) x z) (sym same) begins

pub hinders_as : (form : Form) (node : ℕ) (r s : Request) (x : Image) (e : Errno) → r ≡ s → Hinders node (asked s) form x e → Hinders node (asked r) form x e
hinders_as form node r s x e same why = subst (λ (q : Request). Hinders node (asked q) form x e) (sym same) why

-- of two equal names
pub twice : (P : List ℕ → List ℕ → Type 0) (old o name n : List ℕ) → old ≡ o → name ≡ n → P old name → P o n
twice P old o name n same_old same_name is = subst (λ (m : List ℕ). P o m) same_name (subst (λ (m : List ℕ). P m name) same_old is)

-- and of equal files
pub renamed_at : (from to : ℕ) (form : Form) (old o name n : List ℕ) (f files new : Files) → old ≡ o → name ≡ n → f ≡ files → RenamedFile from old to name form f new → RenamedFile from o to n form files new
renamed_at from to form old o name n f files new same_old same_name same_files is =
    subst (λ (l : Files). RenamedFile from o to n form l new) same_files
    (subst (λ (m : List ℕ). RenamedFile from o to m form f new) same_name (subst (λ (m : List ℕ). RenamedFile from m to name form f new) same_old is))

-- the digits of a name aside
pub aside_is : (n a b c d e f h : ℕ) → a ≡ digit (n / 1000000) → b ≡ digit (n / 100000) → c ≡ digit (n / 10000) → d ≡ digit (n / 1000) → e ≡ digit (n / 100) → f ≡ digit (n / 10) → h ≡ digit n
    → padded (46 ∷ 120 ∷ 118 ∷ 103 ∷ 111 ∷ 110 ∷ 101 ∷ a ∷ b ∷ c ∷ d ∷ e ∷ f ∷ h ∷ []) ≡ aside_of n
unfolding aside_of
aside_is n a b c d e f h same_a same_b same_c same_d same_e same_f same_h = rw (same_a, same_b, same_c, same_d, same_e, same_f, same_h) refl
