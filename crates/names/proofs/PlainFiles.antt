-- What a file that is no directory answers in a transaction.
use Rattle.std.proofs.Common.{◌≡◌, ◌↔◌, ℕ, min, Bool, true, false, List, Some, Result, Ok, Err, sym, ap, subst, ◌∙◌, inr}
use Rattle.std.specs.Prelude.{IfOk, IsTrue}
use Rattle.std.proofs.Math.Nat.{min-le_right}
use Rattle.std.proofs.lemmas.Result.{IfOk-weaker}
use Rattle.blocks.specs.declared.disk.Disk.{Ghosts}
use Rattle.model.specs.declared.types.image.File.{File}
use Rattle.model.specs.declared.types.operations.Op.TheVariants.{Read}
use Rattle.model.specs.declared.types.operations.Reply.{Reply}
use Rattle.model.specs.declared.types.operations.Reply.TheVariants.{Bytes}
use Rattle.model.specs.Files.{Files, file_in}
use Rattle.model.specs.Operations.{part_of}
use Rattle.calls.specs.Stepping.{Plain}
use Rattle.directories.specs.declared.refusal.Refusal.{Refusal}
use Rattle.names.specs.declared.refusal.TreeFault.{TreeFault}
use Rattle.names.specs.Contents.{IsNoPlain, IsPlainFile, LeadsToNoPlain}
use Rattle.names.specs.Inside.{files_seen, form_seen, Answers}
use Rattle.names.specs.Ready.{Happens}
use Rattle.directories.specs.Trees.{kind_of, IsDirectory, IsFile}
use Rattle.directories.specs.Walks.{walked}
use Rattle.directories.specs.Lemmas.Answered.{some_by}
use Rattle.names.proofs.FileLooks.{reads}

pub not_told : (b : Bool) (P : Type 0) → b ≡ false → IsTrue b ↔ P → P → ⊥
not_told b P untrue told p = let yes : b ≡ true = told.1 p in absurd (cc (sym yes ∙ untrue))

pub plain_by : (files : Files) (i : ℕ) → IsFile files i → (IsDirectory files i → ⊥) → (file : File) × IsPlainFile files i file
plain_by files i there plain =
    let has = some_by (file_in files i) there in
    (has.0, record { there = has.1; plain = λ kind. plain (ap kind_of has.1 ∙ kind) })

pub record HasRead (files new : Files) (i off count : ℕ) (reply : Reply) : Type 0 where
  pub same : new ≡ files
  pub file : File
  pub plain : IsPlainFile files i file
  pub is : reply ≡ Bytes (part_of file.bytes off (min count 3072))

module _ {D N : Type 0} (disk : Ghosts D N) where
  -- a read of it tells its bytes
  pub read_plain : (k a b : Plain D) (i off count : ℕ) (reply : Reply) → files_seen disk.image a ≡ files_seen disk.image k →
      Answers disk.image (Read i off (min count 3072)) a b reply → IsFile (files_seen disk.image k) i → (IsDirectory (files_seen disk.image k) i → ⊥) →
      HasRead (files_seen disk.image k) (files_seen disk.image b) i off count reply
  read_plain k a b i off count reply same answers there plain =
      let has = plain_by (files_seen disk.image k) i there plain in
      let here : file_in (files_seen disk.image a) i ≡ Some has.0 = ap (λ (f : Files). file_in f i) same ∙ has.1.there in
      let brought = reads (form_seen disk.image a) (files_seen disk.image a) (files_seen disk.image b) i off (min count 3072) has.0 reply here
      (min-le_right count 3072) answers in
      record { same = brought.0 ∙ same; file = has.0; plain = has.1; is = brought.1 }

-- what happens to the file that names lead to happens at the names
module _ {T : Type 0} (of at : T → Files → Files → Type 0) (names : List (List ℕ)) (number : ℕ) (files seen new : Files) (led : walked files 1 names ≡ Ok number)
    (same : seen ≡ files) (lift : (made : T) → of made files new → at made files new) where
  at_names : (r : Result T Refusal) → Happens of (IsNoPlain number) files new r → Happens at (LeadsToNoPlain names) files new r
  at_names (Ok made) happens = lift made happens
  at_names (Err cause) happens = (happens.0, inr (number, led, happens.1))

  pub happens_plain : (r : Result (Result T Refusal) TreeFault) → IfOk r (Happens of (IsNoPlain number) seen new) →
      IfOk r (Happens at (LeadsToNoPlain names) files new)
  happens_plain r all =
      IfOk-weaker r (Happens of (IsNoPlain number) seen new) (Happens at (LeadsToNoPlain names) files new)
      (λ s happens. at_names s (subst (λ (f : Files). Happens of (IsNoPlain number) f new s) same happens)) all
