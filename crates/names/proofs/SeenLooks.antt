-- What looks at directories tell in a transaction.
use Rattle.std.proofs.Common.{◌≡◌, ℕ, ◌+◌, ◌<◌, ◌≤◌, List, ◌∷◌, drop, get_or, length, Option, Some, Result, Ok, sym, ap, ◌∙◌, arith}
use Rattle.std.proofs.lemmas.List.{drop_more}
use Rattle.blocks.specs.declared.disk.Disk.{Ghosts}
use Rattle.model.specs.declared.types.image.File.{File}
use Rattle.model.specs.declared.types.operations.Op.TheVariants.{Read, Stat}
use Rattle.model.specs.declared.types.operations.Reply.{Reply}
use Rattle.model.specs.declared.types.operations.Reply.TheVariants.{Bytes, StatOf}
use Rattle.model.specs.Files.{Files, file_in}
use Rattle.model.specs.Operations.{part_of}
use Rattle.calls.specs.Stepping.{IsReached, Plain}
use Rattle.calls.specs.Calls.{call_count, image_on}
use Rattle.directories.specs.Walks.{and_on, stepped, walked}
use Rattle.directories.specs.declared.refusal.Refusal.{Refusal}
use Rattle.names.specs.Inside.{files_seen, form_seen, Answers, IsUnderWay, StaysOn}
use Rattle.directories.specs.Trees.{bytes_of, directory_in, kind_of, IsDirectory, IsFile}
use Rattle.directories.specs.Lemmas.Answered.{file_by, some_by}
use Rattle.names.proofs.FileLooks.{kind_told, reads, tells, tells_file, TellsFile}

module _ {D N : Type 0} (disk : Ghosts D N) where
  pub stat_same : (k a : Plain D) (i : ℕ) (reply : Reply) → Answers disk.image (Stat i) k a reply → files_seen disk.image a ≡ files_seen disk.image k
  stat_same k a i reply answers = (tells (form_seen disk.image k) (files_seen disk.image k) (files_seen disk.image a) i reply answers).same

  pub stat_kind : (k a : Plain D) (i : ℕ) (reply : Reply) → Answers disk.image (Stat i) k a reply →
      kind_of (file_in (files_seen disk.image k) i) ≡ kind_told reply
  stat_kind k a i reply answers = (tells (form_seen disk.image k) (files_seen disk.image k) (files_seen disk.image a) i reply answers).kind

  -- a look at a file that is there
  pub stat_tells : (k a : Plain D) (i : ℕ) (reply : Reply) → Answers disk.image (Stat i) k a reply → IsFile (files_seen disk.image k) i →
      (file : File) × (file_in (files_seen disk.image k) i ≡ Some file) × TellsFile (files_seen disk.image k) (files_seen disk.image a) file reply
  stat_tells k a i reply answers there =
      let has = some_by (file_in (files_seen disk.image k) i) there in
      (has.0, has.1, tells_file (form_seen disk.image k) (files_seen disk.image k) (files_seen disk.image a) i has.0 reply has.1 answers)

  -- the size of a directory is told
  pub stat_size : (k a : Plain D) (i : ℕ) (reply : Reply) (kind links size : ℕ) → Answers disk.image (Stat i) k a reply → reply ≡ StatOf kind links size →
      IsDirectory (files_seen disk.image k) i → size ≡ length (directory_in (files_seen disk.image a) i)
  stat_size k a i reply kind links size answers is there =
      let has = file_by (file_in (files_seen disk.image k) i) there in
      let told = tells_file (form_seen disk.image k) (files_seen disk.image k) (files_seen disk.image a) i has.0 reply has.1 answers in
      let same : StatOf kind links size ≡ StatOf told.kind told.links told.size = sym is ∙ told.is in
      let one : size ≡ told.size = cc same in
      one ∙ told.size_is ∙ ap (λ (o : Option File). length (bytes_of o)) (sym has.1) ∙ ap (λ (f : Files). length (directory_in f i)) (sym told.same)

  -- one read brings as much of a directory as it can
  pub read_brings : (k m : Plain D) (i off : ℕ) (reply : Reply) → Answers disk.image (Read i off 3072) k m reply → IsDirectory (files_seen disk.image k) i →
      (files_seen disk.image m ≡ files_seen disk.image k) × (reply ≡ Bytes (part_of (directory_in (files_seen disk.image k) i) off 3072))
  read_brings k m i off reply answers is =
      let fs : Files = files_seen disk.image k in
      let has = file_by (file_in fs i) is in
      let d : File = has.0 in
      let long : directory_in fs i ≡ d.bytes = ap bytes_of has.1 in
      let brought = reads (form_seen disk.image k) fs (files_seen disk.image m) i off 3072 d reply has.1 (omega arith) answers in
      (brought.0, brought.1 ∙ ap (λ (b : List ℕ). Bytes (part_of b off 3072)) (sym long))

-- one more name was walked
pub walked_on : (seen files : Files) (number next i : ℕ) (names : List (List ℕ)) (name : List ℕ) (led : Result ℕ Refusal) → i < length names →
    name ≡ get_or names i name → led ≡ stepped seen number name → led ≡ Ok next → seen ≡ files →
    walked files 1 names ≡ walked files number (drop i names) → walked files 1 names ≡ walked files next (drop (i + 1) names)
walked_on seen files number next i names name led low is leads ok same so_far =
    let rest : List (List ℕ) = drop (i + 1) names in
    let on : stepped files number name ≡ Ok next = ap (λ (f : Files). stepped f number name) (sym same) ∙ sym leads ∙ ok in
    so_far
    ∙ ap (λ (l : List (List ℕ)). walked files number l) (drop_more names i name low ∙ ap (λ (n : List ℕ). n ∷ rest) (sym is))
    ∙ ap (λ (r : Result ℕ Refusal). and_on r (λ m. walked files m rest)) on

-- names were walked up to a number, and these are left
pub record HasWalked {D N : Type 0} (disk : Ghosts D N) (k m : Plain D) (old left : ℕ) (number : ℕ) (behind names : List (List ℕ)) : Type 0 where
  pub way : IsUnderWay disk m left
  pub same : image_on disk.image m ≡ image_on disk.image k
  pub opening : m.opening ≡ k.opening
  pub files : files_seen disk.image m ≡ files_seen disk.image k
  pub stays : StaysOn disk k m
  pub reached : (o : Plain D) → IsReached disk o k → IsReached disk o m
  pub later : call_count k ≤ call_count m
  pub on : walked (files_seen disk.image k) 1 names ≡ walked (files_seen disk.image k) number behind
