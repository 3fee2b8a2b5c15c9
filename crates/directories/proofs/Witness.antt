-- A root with a file: the premises of the laws of whole changes are met.
use Rattle.std.proofs.Common.{◌≡◌, ◌≢◌, ℕ, zero, suc, false, List, [], ◌∷◌, ◌++◌, replicate, Some, None, refl, inl, ⊎_elim, arith}
use Rattle.std.specs.List.{Contains}
use Rattle.std.specs.Str.{bytes_eq}
use Rattle.std.proofs.lemmas.Bool.{both_ways}
use Rattle.std.proofs.lemmas.Slice.Eq.{bytes_eq-Decides}
use Rattle.model.specs.declared.types.image.Form.TheVariants.{One}
use Rattle.model.specs.declared.types.operations.Reply.TheVariants.{Done, Wrote}
use Rattle.model.specs.Files.{Files, file_in}
use Rattle.model.specs.Operations.{after}
use Rattle.directories.specs.declared.entries.EntryWrite.{EntryWrite}
use Rattle.directories.specs.Entries.{entries_of, entry_bytes, lookup, name_in, number_in, padded}
use Rattle.directories.specs.Sizes.{AreSized}
use Rattle.directories.specs.Trees.{directory_in, new_directory, parent_name, self_name, IsDown, IsNamedOnce, IsTree, StaysTree, StepsDown}
use Rattle.directories.specs.TreeChanges.{directory_file, empty_file, AddsName, DropsName}
use Rattle.directories.specs.Writes.{Links, Unlinks}
use Rattle.directories.specs.Lemmas.NewDirectory.{root_is_tree}
use Rattle.directories.specs.Lemmas.Stored.{stored_padded}
use Rattle.directories.specs.Lemmas.TreeMeaning.{steps_lead}
use Rattle.directories.specs.Lemmas.WholeChanges.{makes_file_whole, removes_file_whole}

-- the root alone
abbrev files : Files
files = None ∷ Some (directory_file 1 1) ∷ None ∷ []

abbrev made : Files
made = None ∷ Some (directory_file 1 1) ∷ Some (empty_file 2) ∷ []

abbrev name : List ℕ
name = padded (97 ∷ [])

abbrev link : EntryWrite
link = record { place = 2; entry = entry_bytes 2 name }

abbrev unlink : EntryWrite
unlink = record { place = 2; entry = replicate 16 0 }

-- with a file under a name
abbrev named : Files
named = None ∷ Some (record { kind = 1; links = 1; bytes = new_directory 1 1 ++ entry_bytes 2 name }) ∷ Some (empty_file 2) ∷ []

-- and without it again
abbrev freed : Files
freed = None ∷ Some (record { kind = 1; links = 1; bytes = new_directory 1 1 ++ replicate 16 0 }) ∷ Some (empty_file 2) ∷ []

abbrev emptied : Files
emptied = None ∷ Some (record { kind = 1; links = 1; bytes = new_directory 1 1 ++ replicate 16 0 }) ∷ None ∷ []

none_else : (i : ℕ) → i ≢ 1 → file_in files i ≡ None
none_else zero ne = refl
none_else (suc zero) ne = absurd (ne refl)
none_else (suc (suc zero)) ne = refl
none_else (suc (suc (suc i))) ne = refl

pub root_alone : IsTree files
root_alone = root_is_tree files refl none_else

differ : (a b : List ℕ) → bytes_eq a b ≡ false → a ≢ b
differ a b h e = both_ways (bytes_eq a b) h ((bytes_eq-Decides a b).1 e)

down : IsDown name
down = (differ name self_name refl, differ name parent_name refl)

one_byte : (c : ℕ) → 97 ≢ c → Contains (97 ∷ []) c → ⊥
one_byte c ne (zero, inside, is) = ne is
one_byte c ne (suc k, inside, is) = absurd (omega (arith, inside))

links : Links (directory_in files 1) name 2 link
unfolding entries_of number_in lookup name_in
links = record {
  absent = refl;
  place = refl;
  entry = refl;
  used = omega arith;
  fits = omega arith;
  stored = stored_padded (97 ∷ []) (record { some = λ e. absurd (cc e); few = omega arith; whole = λ has. one_byte 0 (λ e. absurd (cc e)) has; no_slash = λ has. one_byte 47 (λ e. absurd (cc e)) has });
}

sized : AreSized One files
sized zero = omega arith
sized (suc zero) = omega arith
sized (suc (suc zero)) = omega arith
sized (suc (suc (suc i))) = omega arith

named_sized : AreSized One named
named_sized zero = omega arith
named_sized (suc zero) = omega arith
named_sized (suc (suc zero)) = omega arith
named_sized (suc (suc (suc i))) = omega arith

-- a file is made
pub adds : AddsName files named 1 name 2 (empty_file 2) × StaysTree files named
unfolding after
adds =
    ⊎_elim (λ (done : (Wrote 16 ≡ Wrote 16) × AddsName files named 1 name 2 (empty_file 2) × StaysTree files named). (done.1, done.2))
    (λ (none : (Wrote 16 ≡ Wrote 0) × (named ≡ made)). absurd (cc (none.0)))
    (makes_file_whole One files made named 1 2 2 name link (Wrote 16) sized root_alone refl down (λ e. absurd (omega arith)) refl links (inl (omega arith)) refl)

unlinks : Unlinks (directory_in named 1) name unlink
unfolding entries_of number_in name_in
unlinks = record { place = refl; entry = refl }

leads : lookup (directory_in named 1) name ≡ Some 2
unfolding entries_of number_in lookup name_in
leads = refl

-- which has one name
none_named : IsNamedOnce files 2
none_named =
    let none : (from : ℕ) (x : List ℕ) → StepsDown files from x 2 → ⊥ = λ from x step. (steps_lead files from 2 x root_alone step.0 step.1).0 refl in
    record { directory = λ a b x y at_a at_b. absurd (none a x at_a); name = λ a b x y at_a at_b. absurd (none a x at_a) }

once : IsNamedOnce named 2
once = adds.1.once 2 none_named

-- and removed
pub drops : DropsName named emptied 1 name 2 × StaysTree named emptied
unfolding after
drops =
    let whole = removes_file_whole One named freed emptied 1 2 name unlink (Wrote 16) Done named_sized adds.1.tree refl down leads once (λ directory. absurd (omega arith)) unlinks refl refl in
    (whole.2, whole.3)
