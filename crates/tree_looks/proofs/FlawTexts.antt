-- What is told of flaws.
use Rattle.std.proofs.Common.{◌≡◌, ◌≢◌, ◌∙◌, ℕ, zero, suc, ◌-◌, ◌++◌, Bool, eqb, List, Option, Some, codes, refl, ap, arith}
use Rattle.std.proofs.lemmas.Bool.{cond-false, ne_eqb}
use Rattle.model.specs.Files.{Files}
use Rattle.directories.specs.declared.flaws.Flaw.{Flaw}
use Rattle.directories.specs.declared.flaws.Flaw.TheVariants.{NoRoot, Torn, Own, Parent, Misnamed, Twice, Nothing, Again, Nameless, Circle, Miscounted}
use Rattle.directories.specs.Flaws.{at_home, home_in}
use Rattle.tree_looks.specs.Flaws.{begin_of, flaw_number, flaw_path, flaw_told, flaw_words, last_part, path_by, words_told}

-- of one that is neither a file without a name nor a count
pub told_by_words : (json : Bool) (files : Files) (homes : List (Option ℕ)) (f : Flaw) → ((n : ℕ) → f ≡ Nameless n → ⊥) → ((n : ℕ) → f ≡ Miscounted n → ⊥) →
    words_told json (flaw_path files homes f) (flaw_number files f) (flaw_words f) ≡ flaw_told json files homes f
told_by_words json files homes NoRoot named counted = refl
told_by_words json files homes (Torn number) named counted = refl
told_by_words json files homes (Own number) named counted = refl
told_by_words json files homes (Parent number) named counted = refl
told_by_words json files homes (Misnamed from place) named counted = refl
told_by_words json files homes (Twice from place) named counted = refl
told_by_words json files homes (Nothing from place) named counted = refl
told_by_words json files homes (Again from place) named counted = refl
told_by_words json files homes (Nameless number) named counted = absurd (named number refl)
told_by_words json files homes (Circle number) named counted = refl
told_by_words json files homes (Miscounted number) named counted = absurd (counted number refl)

-- the path of a file that has a home
pub path_on : (more : ℕ) (files : Files) (homes : List (Option ℕ)) (number from : ℕ) → more ≢ 0 → number ≢ 1 → home_in homes number ≡ Some from →
    path_by more files homes number ≡ path_by (more - 1) files homes from ++ last_part files from number
path_on zero files homes number from some other home = absurd (some refl)
path_on (suc more) files homes number from some other home =
    let on : ℕ → List ℕ = λ (f : ℕ). path_by more files homes f ++ last_part files f number in
    let less : more ≡ suc more - 1 = omega arith in
    cond-false (eqb number 1) (codes "/") (at_home (home_in homes number) (begin_of files number) on) (ne_eqb number 1 other)
    ∙ ap (λ (o : Option ℕ). at_home o (begin_of files number) on) home
    ∙ ap (λ (k : ℕ). path_by k files homes from ++ last_part files from number) less
