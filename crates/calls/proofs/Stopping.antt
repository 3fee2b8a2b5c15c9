-- What a stop in the midst of a call leaves, in the words of files.
use Rattle.std.proofs.Common.{◌≡◌, ◌≢◌, ℕ, true, List, length, Some, None, inl, inr, ⊎_elim, subst}
use Rattle.std.specs.Prelude.{◌⊎◌, Result}
use Rattle.blocks.specs.Disk.{Image, LeavesOnly}
use Rattle.blocks.specs.declared.disk.Disk.{Ghosts}
use Rattle.model.specs.declared.types.operations.Attribute.{Attribute}
use Rattle.model.specs.declared.types.operations.Op.{Op}
use Rattle.model.specs.declared.types.operations.Op.TheVariants.{Create, Write, Trunc, Remove, SetAttribute}
use Rattle.model.specs.declared.types.operations.Reply.{Reply}
use Rattle.model.specs.Files.{Files, file_in, files_of}
use Rattle.model.specs.Layout.{form_of}
use Rattle.model.specs.Log.{recovered}
use Rattle.model.specs.Operations.{after, is_kind}
use Rattle.calls.specs.Calls.{KeepsCall}
use Rattle.calls.specs.Files.{CanSet, MayAppend}
use Rattle.calls.specs.Stopped.{AppendsFirst, Empties, KeepsChange, MakesAny, Removes, Sets}
use Rattle.calls.specs.Lemmas.After.{after_creation, after_emptying, after_setting, after_removal, after_write}

-- the files after an operation with a reply are those before it, or those after the change
abbrev Leads : Image → Op → (Files → Files → Type 0) → Type 0
Leads x op change = (r : Reply) (new : Files) → after (form_of x) (files_of x) op r ≡ Some new → (new ≡ files_of x) ⊎ change (files_of x) new

module _ {D N : Type 0} (disk : Ghosts D N) (x : Image) where
  -- where a call was made
  leaves_called : {E : Type 0} (op : Op) (change : Files → Files → Type 0) → Leads x op change → (result : Result Reply E) (d e : D) → LeavesOnly disk.moment disk.leaves d e (KeepsCall x op result)
      → LeavesOnly disk.moment disk.leaves d e (KeepsChange change x)
  leaves_called op change leads result d e only =
      let keeps : (z : Image) → KeepsCall x op result z → KeepsChange change x z
      = λ z kept. record {
        log = kept.log;
        sound = kept.sound;
        files = ⊎_elim (λ same. inl same) (λ (r, may, made). leads r (files_of (recovered z)) made) kept.files;
        unshown = kept.unshown;
      } in
      record {
        later = only.later;
        each = λ z left. keeps z (only.each z left);
        before = λ t z le left. ⊎_elim (λ old. inl old) (λ kept. inr (keeps z kept)) (only.before t z le left);
        keeps = only.keeps;
      }

  pub leaves_made : {E : Type 0} (kind : ℕ) → is_kind kind ≡ true → (result : Result Reply E) (d e : D) → LeavesOnly disk.moment disk.leaves d e (KeepsCall x (Create kind) result)
      → LeavesOnly disk.moment disk.leaves d e (KeepsChange (MakesAny kind) x)
  leaves_made kind is =
      leaves_called (Create kind) (MakesAny kind)
      (λ r new made. ⊎_elim
      (λ (i, so, has). inr (record { number = i; some = has.some; below = has.below; free = has.free; files = has.made }))
      (λ (none, same). inl same) (after_creation (form_of x) (files_of x) kind r new is made))

  pub leaves_removed : {E : Type 0} (i : ℕ) → file_in (files_of x) i ≢ None → (result : Result Reply E) (d e : D) → LeavesOnly disk.moment disk.leaves d e (KeepsCall x (Remove i) result)
      → LeavesOnly disk.moment disk.leaves d e (KeepsChange (Removes i) x)
  leaves_removed i there =
      leaves_called (Remove i) (Removes i) (λ r new made. inr (after_removal (form_of x) (files_of x) i r new there made).1)

  pub leaves_emptied : {E : Type 0} (i : ℕ) → file_in (files_of x) i ≢ None → (result : Result Reply E) (d e : D) → LeavesOnly disk.moment disk.leaves d e (KeepsCall x (Trunc i) result)
      → LeavesOnly disk.moment disk.leaves d e (KeepsChange (Empties i) x)
  leaves_emptied i there =
      leaves_called (Trunc i) (Empties i) (λ r new made. inr (after_emptying (form_of x) (files_of x) i r new there made).1)

  pub leaves_set : {E : Type 0} (i : ℕ) (a : Attribute) → CanSet (file_in (files_of x) i) a → (result : Result Reply E) (d e : D) → LeavesOnly disk.moment disk.leaves d e (KeepsCall x (SetAttribute i a) result)
      → LeavesOnly disk.moment disk.leaves d e (KeepsChange (Sets i a) x)
  leaves_set i a can =
      leaves_called (SetAttribute i a) (Sets i a) (λ r new made. inr (after_setting (form_of x) (files_of x) i a r new can made).1)

  pub leaves_appended : {E : Type 0} (i off : ℕ) (copy bytes : List ℕ) → copy ≡ bytes → MayAppend (form_of x) (file_in (files_of x) i) off (length bytes) → (result : Result Reply E) (d e : D)
      → LeavesOnly disk.moment disk.leaves d e (KeepsCall x (Write i off copy) result) → LeavesOnly disk.moment disk.leaves d e (KeepsChange (AppendsFirst i bytes) x)
  leaves_appended i off copy bytes same room result d e only =
      leaves_called (Write i off bytes) (AppendsFirst i bytes)
      (λ r new made. let (k, is, has) = after_write (form_of x) (files_of x) i off bytes r new room made in inr (record { count = k; few = has.few; files = has.made }))
      result d e (subst (λ (b : List ℕ). LeavesOnly disk.moment disk.leaves d e (KeepsCall x (Write i off b) result)) same only)
