-- What looks at a file tell.
use Rattle.std.proofs.Common.{◌≡◌, ◌≢◌, ℕ, ◌≤◌, true, eqb, ◌&&◌, ltb, List, [], ◌∷◌, length, Option, Some, None, refl, sym, ap, subst, ◌∙◌}
use Rattle.std.specs.Str.{bytes_eq}
use Rattle.std.proofs.lemmas.Bool.{and_parts, eqb-true, le-ltb, cond-false}
use Rattle.std.proofs.lemmas.Slice.Eq.{bytes_eq-Decides}
use Rattle.model.specs.declared.types.image.File.{File}
use Rattle.model.specs.declared.types.image.Form.{Form}
use Rattle.model.specs.declared.types.operations.Op.{Op}
use Rattle.model.specs.declared.types.operations.Op.TheVariants.{Read, Stat}
use Rattle.model.specs.declared.types.operations.Reply.{Reply}
use Rattle.model.specs.declared.types.operations.Reply.TheVariants.{Bytes, StatOf, NoFile, TooLong}
use Rattle.model.specs.Files.{Files, file_in}
use Rattle.model.specs.Lemmas.Runs.{where_true_some}
use Rattle.model.specs.Operations.{after, after_refusal, after_at, after_on, no_file_refusal, part_of}
use Rattle.directories.specs.Trees.{directory_in, kind_of, IsDirectory, IsPath, IsTidy, IsTree}
use Rattle.directories.specs.Lemmas.Answered.{done_where}
use Rattle.directories.specs.Lemmas.TreeBy.{directory_is_file}

-- the type that an answer tells, and 0 where it tells none
abbrev pub kind_told : Reply → ℕ
kind_told (StatOf kind links size) = kind
kind_told reply = 0

pub record Tells (files new : Files) (i : ℕ) (reply : Reply) : Type 0 where
  pub same : new ≡ files
  pub kind : kind_of (file_in files i) ≡ kind_told reply

told_on : (files new : Files) (i : ℕ) (file : File) (reply : Reply) → after_on files i file (Stat i) reply ≡ Some new →
    (new ≡ files) × (file.kind ≡ kind_told reply)
told_on files new i file (StatOf kind links size) h =
    let both = where_true_some (eqb kind file.kind && (eqb links file.links && eqb size (length file.bytes))) files new h in
    (both.1, sym (eqb-true kind file.kind (and_parts (eqb kind file.kind) (eqb links file.links && eqb size (length file.bytes)) both.0).0))
told_on files new i file reply h = absurd (cc h)

told_none : (files new : Files) (op : Op) (reply : Reply) → after_refusal (Some NoFile) files op reply ≡ Some new → (new ≡ files) × (0 ≡ kind_told reply)
told_none files new op NoFile h = ((where_true_some true files new h).1, refl)
told_none files new op reply h = absurd (cc h)

told_by : (files new : Files) (i : ℕ) (o : Option File) (reply : Reply) → file_in files i ≡ o →
    after_refusal (no_file_refusal o) files (Stat i) reply ≡ Some new → (new ≡ files) × (kind_of o ≡ kind_told reply)
told_by files new i None reply is h = told_none files new (Stat i) reply h
told_by files new i (Some file) reply is h =
    told_on files new i file reply (subst (λ (o : Option File). after_at files i o (Stat i) reply ≡ Some new) is h)

-- a look at a file tells its type, and changes none
pub tells : (form : Form) (files new : Files) (i : ℕ) (reply : Reply) → after form files (Stat i) reply ≡ Some new → Tells files new i reply
unfolding after
tells form files new i reply h =
    let told = told_by files new i (file_in files i) reply refl h in
    record { same = told.0; kind = told.1 }

pub record TellsFile (files new : Files) (file : File) (reply : Reply) : Type 0 where
  pub same : new ≡ files
  pub kind : ℕ
  pub links : ℕ
  pub size : ℕ
  pub is : reply ≡ StatOf kind links size
  pub kind_is : kind ≡ file.kind
  pub links_is : links ≡ file.links
  pub size_is : size ≡ length file.bytes

stat_only : (files new : Files) (i : ℕ) (file : File) (j : ℕ) (reply : Reply) → after_on files i file (Stat j) reply ≡ Some new → TellsFile files new file reply
stat_only files new i file j (StatOf kind links size) h =
    let both = where_true_some (eqb kind file.kind && (eqb links file.links && eqb size (length file.bytes))) files new h in
    let parts = and_parts (eqb kind file.kind) (eqb links file.links && eqb size (length file.bytes)) both.0 in
    let rest = and_parts (eqb links file.links) (eqb size (length file.bytes)) parts.1 in
    record {
      same = both.1;
      kind = kind;
      links = links;
      size = size;
      is = refl;
      kind_is = eqb-true kind file.kind parts.0;
      links_is = eqb-true links file.links rest.0;
      size_is = eqb-true size (length file.bytes) rest.1;
    }
stat_only files new i file j reply h = absurd (cc h)

-- a look at a file that is there tells its type, its links and its length
pub tells_file : (form : Form) (files new : Files) (i : ℕ) (file : File) (reply : Reply) → file_in files i ≡ Some file →
    after form files (Stat i) reply ≡ Some new → TellsFile files new file reply
tells_file form files new i file reply is h =
    let done = done_where form files new (Stat i) reply (ap no_file_refusal is) h in
    stat_only files new i file i reply (subst (λ (o : Option File). after_at files i o (Stat i) reply ≡ Some new) is done)

read_only : (files new : Files) (i : ℕ) (file : File) (j off n : ℕ) (reply : Reply) → after_on files i file (Read j off n) reply ≡ Some new →
    (new ≡ files) × (reply ≡ Bytes (part_of file.bytes off n))
read_only files new i file j off n (Bytes bytes) h =
    let both = where_true_some (bytes_eq bytes (part_of file.bytes off n)) files new h in
    (both.1, ap (λ (b : List ℕ). Bytes b) ((bytes_eq-Decides bytes (part_of file.bytes off n)).0 both.0))
read_only files new i file j off n reply h = absurd (cc h)

-- a read of a file that is there tells its bytes, and changes none
pub reads : (form : Form) (files new : Files) (i off n : ℕ) (file : File) (reply : Reply) → file_in files i ≡ Some file → n ≤ 3072 →
    after form files (Read i off n) reply ≡ Some new → (new ≡ files) × (reply ≡ Bytes (part_of file.bytes off n))
reads form files new i off n file reply is few h =
    let done = done_where form files new (Read i off n) reply
    (cond-false (ltb 3072 n) (Some TooLong) (no_file_refusal (file_in files i)) (le-ltb 3072 n few) ∙ ap no_file_refusal is) h in
    read_only files new i file i off n reply (subst (λ (o : Option File). after_at files i o (Read i off n) reply ≡ Some new) is done)

-- the directories of a tree are tidy
tidy_at : (files : Files) (i : ℕ) (names : List (List ℕ)) → IsTree files → IsDirectory files i → IsPath files 1 names i → IsTidy (directory_in files i)
tidy_at files i [] tree is path = subst (λ (j : ℕ). IsTidy (directory_in files j)) path tree.top.tidy
tidy_at files i (name ∷ names) tree is path = (tree.below path.0 i name path.1 path.3 is).tidy

pub tidy_in : (files : Files) (i : ℕ) → IsTree files → IsDirectory files i → IsTidy (directory_in files i)
tidy_in files i tree is =
    let reach = tree.reach i (directory_is_file files i is) in
    tidy_at files i reach.0 tree is reach.1

-- an answer that tells no type
pub untold : (reply : Reply) → ((kind links size : ℕ) → reply ≡ StatOf kind links size → ⊥) → kind_told reply ≡ 0
untold (StatOf kind links size) not = absurd (not kind links size refl)
untold reply not = refl

pub untold_directory : (files : Files) (i : ℕ) (reply : Reply) → kind_of (file_in files i) ≡ kind_told reply → kind_told reply ≢ 1 → IsDirectory files i → ⊥
untold_directory files i reply kind not is = not (sym kind ∙ is)
