-- What a creation comes to.
use Rattle.std.proofs.Common.{◌≡◌, ℕ, ◌<◌, ◌≤◌, ◌^◌, Bool, true, cond, ◌&&◌, ltb, length, set, refl, Some, None, sym, ap, arith}
use Rattle.std.specs.Prelude.{is_none}
use Rattle.std.proofs.lemmas.Bool.{and_parts, ltb-true}
use Rattle.model.specs.declared.types.image.Form.{Form}
use Rattle.model.specs.declared.types.operations.Op.TheVariants.{Create}
use Rattle.model.specs.declared.types.operations.Reply.{Reply}
use Rattle.model.specs.declared.types.operations.Reply.TheVariants.{Made, NoInode, BadType}
use Rattle.model.specs.Files.{Files, file_in}
use Rattle.model.specs.Lemmas.Runs.{where_true_some}
use Rattle.model.specs.Operations.{after, after_create, is_kind}
use Rattle.calls.specs.Calls.{MakesLowestOf, MakesNoneOf}
use Rattle.names.specs.Making.{AreNumbersTaken, HasCreated}
use Rattle.directories.specs.TreeChanges.{empty_file}
use Rattle.directories.specs.Lemmas.Answered.{done_where}
use Rattle.directories.specs.Lemmas.Unnamed.{create_makes}

none_by : (files new : Files) (kind : ℕ) (reply : Reply) → after_create files kind reply ≡ Some new → ((i : ℕ) → reply ≡ Made i → ⊥) →
    (new ≡ files) × (reply ≡ NoInode)
none_by files new kind (Made i) h not = absurd (not i refl)
none_by files new kind NoInode h not = let e : files ≡ new = cc h in (sym e, refl)
none_by files new kind reply h not = absurd (cc h)

allowed : (form : Form) (files new : Files) (kind : ℕ) (reply : Reply) → is_kind kind ≡ true → after form files (Create kind) reply ≡ Some new →
    after_create files kind reply ≡ Some new
allowed form files new kind reply is h =
    done_where form files new (Create kind) reply (ap (λ (b : Bool). cond b None (Some BadType)) is) h

-- none was made, since each number is taken
pub create_none : (form : Form) (files new : Files) (kind : ℕ) (reply : Reply) → is_kind kind ≡ true → after form files (Create kind) reply ≡ Some new →
    MakesNoneOf files (Create kind) reply → ((i : ℕ) → reply ≡ Made i → ⊥) → HasCreated kind files new None
create_none form files new kind reply is h none not =
    let why = none_by files new kind reply (allowed form files new kind reply is h) not in (
      why.0,
      λ i used inside fits. none kind i refl why.1 used inside,
    )

-- a number was made that no entry can hold, so all below it are taken
pub create_past : (files : Files) (kind i : ℕ) → MakesLowestOf files (Create kind) (Made i) → 2 ^ 16 ≤ i → AreNumbersTaken files
create_past files kind i lowest past = λ j used inside fits. lowest kind i j refl refl used (omega (arith, past, fits))

some_by : (files new : Files) (kind i : ℕ) → after_create files kind (Made i) ≡ Some new → 0 < i
some_by files new kind i h =
    let made = where_true_some (ltb 0 i && ltb i (length files) && is_none (file_in files i)) (set files i (Some (empty_file kind))) new h in
    ltb-true 0 i (and_parts (ltb 0 i) (ltb i (length files)) (and_parts (ltb 0 i && ltb i (length files)) (is_none (file_in files i)) made.0).0).0

-- one was made, whose number is never 0
pub create_some : (form : Form) (files new : Files) (kind i : ℕ) → is_kind kind ≡ true → after form files (Create kind) (Made i) ≡ Some new →
    HasCreated kind files new (Some i)
create_some form files new kind i is h = (create_makes form files new kind i h, some_by files new kind i (allowed form files new kind (Made i) is h))
