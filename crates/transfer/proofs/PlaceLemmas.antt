-- What becomes of files where bytes are put, call by call.
use Rattle.std.proofs.Common.{◌≡◌, ◌≢◌, ◌∙◌, ℕ, ◌<◌, List, [], ◌++◌, length, set, Option, Some, None, refl, sym, ap, subst, ⊎_elim}
use Rattle.std.proofs.lemmas.Bool.{cases_eq}
use Rattle.std.proofs.lemmas.List.{get_or-set_other, get_or-set_same, set-get_or, set-set, nil_from_length}
use Rattle.calls.specs.Files.{MakesFile, appended, emptied, empty_file, size_of, with_more, without_bytes}
use Rattle.calls.specs.Unshown.{LosesNone}
use Rattle.model.specs.Files.{Files, file_in}
use Rattle.model.specs.Lemmas.FileNumbers.{below_there}
use Rattle.model.specs.declared.types.image.File.{File}
use Rattle.transfer.specs.Places.{IsLowestFree, put_at, put_file}

-- ---- one file

put_again : (o : Option File) (a b : List ℕ) → put_file (put_file o a) b ≡ put_file o b
put_again None a b = refl
put_again (Some file) a b = refl

put_more : (o : Option File) (a b : List ℕ) → with_more (put_file o a) b ≡ put_file o (a ++ b)
put_more None a b = refl
put_more (Some file) a b = refl

put_size : (o : Option File) (bytes : List ℕ) → size_of (put_file o bytes) ≡ Some (length bytes)
put_size None bytes = refl
put_size (Some file) bytes = refl

put_none : (o : Option File) → o ≢ None → without_bytes o ≡ put_file o []
put_none None there = absurd (there refl)
put_none (Some file) there = refl

put_free : (o : Option File) → o ≡ None → empty_file 2 ≡ put_file o []
put_free None free = refl
put_free (Some file) free = absurd (cc free)

same_empty : (o : Option File) → size_of o ≡ Some 0 → put_file o [] ≡ o
same_empty None h = absurd (cc h)
same_empty (Some file) h = let none : length file.bytes ≡ 0 = cc h in ap (λ (b : List ℕ). Some (record file { bytes = b })) (sym (nil_from_length file.bytes none))

put_there : (o : Option File) (bytes : List ℕ) → put_file o bytes ≢ None
put_there None bytes none = absurd (cc none)
put_there (Some file) bytes none = absurd (cc none)

-- ---- among files

pub file_put : (files : Files) (i : ℕ) (bytes : List ℕ) → i < length files → file_in (put_at files i bytes) i ≡ put_file (file_in files i) bytes
file_put files i bytes below = get_or-set_same files i (put_file (file_in files i) bytes) None below

-- bytes that are put at one number leave another file alone
pub file_beside : (files : Files) (i j : ℕ) (bytes : List ℕ) → j ≢ i → file_in (put_at files i bytes) j ≡ file_in files j
file_beside files i j bytes other = get_or-set_other files i j (put_file (file_in files i) bytes) None other

-- and where they are put there is a file
pub put_stands : (files : Files) (i : ℕ) (bytes : List ℕ) → i < length files → file_in (put_at files i bytes) i ≢ None
put_stands files i bytes below none = put_there (file_in files i) bytes (sym (file_put files i bytes below) ∙ none)

-- so no file is gone
pub put_loses_none : (files : Files) (i : ℕ) (bytes : List ℕ) (new : Files) → new ≡ put_at files i bytes → LosesNone files new
put_loses_none files i bytes new is j there none =
    let gone : file_in (put_at files i bytes) j ≡ None = ap (λ (f : Files). file_in f j) (sym is) ∙ none in
    ⊎_elim
    (λ (same : j ≡ i). put_stands files i bytes (subst (λ (n : ℕ). n < length files) same (below_there files j there)) (ap (file_in (put_at files i bytes)) (sym same) ∙ gone))
    (λ (other : j ≢ i). there (sym (file_beside files i j bytes other) ∙ gone)) (cases_eq j i)

pub same_loses_none : (files new : Files) → new ≡ files → LosesNone files new
same_loses_none files new is j there none = there (ap (λ (f : Files). file_in f j) (sym is) ∙ none)

pub size_put : (files : Files) (i : ℕ) (bytes : List ℕ) → i < length files → size_of (file_in (put_at files i bytes) i) ≡ Some (length bytes)
size_put files i bytes below = ap size_of (file_put files i bytes below) ∙ put_size (file_in files i) bytes

-- what was put before is forgotten
pub put_at_again : (files : Files) (i : ℕ) (a b : List ℕ) → i < length files → put_at (put_at files i a) i b ≡ put_at files i b
put_at_again files i a b below =
    ap (λ (o : Option File). set (put_at files i a) i (put_file o b)) (file_put files i a below)
    ∙ ap (set (put_at files i a) i) (put_again (file_in files i) a b)
    ∙ set-set files i _ _

-- bytes written behind those that were put
pub appended_put : (files : Files) (i : ℕ) (a b : List ℕ) → i < length files → appended (put_at files i a) i b ≡ put_at files i (a ++ b)
appended_put files i a b below =
    ap (λ (o : Option File). set (put_at files i a) i (with_more o b)) (file_put files i a below)
    ∙ ap (set (put_at files i a) i) (put_more (file_in files i) a b)
    ∙ set-set files i _ _

-- a new file that is removed again
pub removed_put : (files : Files) (i : ℕ) (a : List ℕ) → file_in files i ≡ None → set (put_at files i a) i None ≡ files
removed_put files i a free =
    set-set files i _ _ ∙ ap (set files i) (sym free) ∙ set-get_or files i None

-- an old file that is emptied, and a new one that is made, hold none of the bytes
pub emptied_put : (files : Files) (i : ℕ) → file_in files i ≢ None → emptied files i ≡ put_at files i []
emptied_put files i there = ap (set files i) (put_none (file_in files i) there)

pub made_put : (files : Files) (i : ℕ) → file_in files i ≡ None → set files i (empty_file 2) ≡ put_at files i []
made_put files i free = ap (set files i) (put_free (file_in files i) free)

pub lowest_made : (old new : Files) (kind i : ℕ) → MakesFile kind i old new → IsLowestFree old i
lowest_made old new kind i made = record { some = made.some; below = made.below; free = made.free; lowest = made.lowest }

-- an empty file holds none of the bytes
pub empty_put : (files : Files) (i : ℕ) → size_of (file_in files i) ≡ Some 0 → put_at files i [] ≡ files
empty_put files i empty = ap (set files i) (same_empty (file_in files i) empty) ∙ set-get_or files i None
