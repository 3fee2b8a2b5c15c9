-- What no file shows stays, one change after the other.
use Rattle.std.proofs.Common.{◌≡◌, ◌≢◌, ◌∙◌, ℕ, Bool, true, cond, length, Option, Some, None, refl, sym, ap, inl}
use Rattle.std.specs.Prelude.{is_some}
use Rattle.blocks.specs.Disk.{Image}
use Rattle.model.specs.Crash.{labels_of}
use Rattle.model.specs.Files.{file_in, files_of}
use Rattle.model.specs.declared.types.image.File.{File}
use Rattle.history.specs.Lemmas.Stops.{untouched_same, untouched_then}
use Rattle.calls.specs.Unshown.{KeepsOrRenews, KeepsUnshown, LosesNone, labels_due}

some_there : (o : Option File) → o ≢ None → is_some o ≡ true
some_there None there = absurd (there refl)
some_there (Some file) there = refl

-- the labels of a file that is there are due to it
pub due_there : (x : Image) (i : ℕ) → file_in (files_of x) i ≢ None → labels_due x i ≡ labels_of x i
due_there x i there = ap (λ (b : Bool). cond b (labels_of x i) (0, 0)) (some_there (file_in (files_of x) i) there)

pub unshown_none : (x : Image) → KeepsUnshown x x
unshown_none x = record { untouched = untouched_same x; labels = λ i there. sym (due_there x i there) }

-- a change behind another that lost no file
pub unshown_then : (x y z : Image) → length y ≡ length x → LosesNone (files_of x) (files_of y) → KeepsUnshown x y → KeepsUnshown y z → KeepsUnshown x z
unshown_then x y z size lost first second = record {
  untouched = untouched_then x y z size first.untouched second.untouched;
  labels = λ i there. second.labels i there ∙ due i (file_in (files_of y) i) refl;
}
  where
    none_before : (i : ℕ) → file_in (files_of y) i ≡ None → (o : Option File) → file_in (files_of x) i ≡ o → (0, 0) ≡ cond (is_some o) (labels_of x i) (0, 0)
    none_before i none None is = refl
    none_before i none (Some file) is = absurd (lost i (λ gone. let both = sym is ∙ gone in cc both) none)

    due : (i : ℕ) (o : Option File) → file_in (files_of y) i ≡ o → cond (is_some o) (labels_of y i) (0, 0) ≡ labels_due x i
    due i None is = none_before i is (file_in (files_of x) i) refl
    due i (Some file) is = first.labels i (λ none. let both = sym is ∙ none in cc both)

pub unshown_renews : (x y : Image) → KeepsUnshown x y → KeepsOrRenews x y
unshown_renews x y keeps = record { untouched = keeps.untouched; labels = λ i there. inl (keeps.labels i there) }
