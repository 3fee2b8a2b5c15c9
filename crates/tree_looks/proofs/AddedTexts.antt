-- Texts that are made piece by piece.
use Rattle.std.proofs.Common.{◌≡◌, ◌≢◌, ◌∙◌, ℕ, zero, suc, ◌+◌, ◌-◌, ◌<◌, ◌≤◌, List, [], ◌∷◌, ◌++◌, eqb, length, get_or, take, append_assoc, ap, refl, sym, arith}
use Rattle.std.specs.List.{flat_map}
use Rattle.std.proofs.lemmas.List.{append-nil, take_all, take_more}
use Rattle.std.proofs.lemmas.Bool.{cond-true, eq-eqb}
use Rattle.std.proofs.lemmas.List.Concat.{flat_map-append}
use Rattle.model.specs.Files.{Files, file_in}
use Rattle.directories.specs.Entries.{entries_of}
use Rattle.directories.specs.Trees.{IsDirectory, directory_in, directory_kind, kind_of}
use Rattle.tree_looks.specs.Listing.{told_below, told_entry}

module _ {X : Type 0} (text : X → List ℕ) (xs : List X) (old : List ℕ) where
  -- one element's text more
  pub added_more : (k : ℕ) (d : X) (mid new : List ℕ) → k < length xs → mid ≡ old ++ flat_map text (take k xs) → new ≡ mid ++ text (get_or xs k d) → new ≡ old ++ flat_map text (take (k + 1) xs)
  added_more k d mid new low before piece =
      let x = get_or xs k d in
      let more : flat_map text (take (k + 1) xs) ≡ flat_map text (take k xs) ++ text x
      = ap (flat_map text) (take_more xs k d low) ∙ flat_map-append text (take k xs) (x ∷ []) ∙ ap (λ l. flat_map text (take k xs) ++ l) (append-nil (text x)) in
      piece ∙ ap (λ l. l ++ text x) before ∙ append_assoc old (flat_map text (take k xs)) (text x) ∙ ap (λ l. old ++ l) (sym more)

  pub added_none : old ≡ old ++ flat_map text (take 0 xs)
  added_none = sym (append-nil old)

  pub added_all : (k : ℕ) (new : List ℕ) → length xs ≤ k → new ≡ old ++ flat_map text (take k xs) → new ≡ old ++ flat_map text xs
  added_all k new past is = is ∙ ap (λ l. old ++ flat_map text l) (take_all k xs past)

-- two texts more
pub two_more : (old a b one new : List ℕ) → one ≡ old ++ a → new ≡ one ++ b → new ≡ old ++ (a ++ b)
two_more old a b one new first second = second ∙ ap (λ l. l ++ b) first ∙ append_assoc old a b

-- what is told below a directory
pub below_is : (tell : List ℕ → ℕ → List ℕ) (depth : ℕ) (files : Files) (front : List ℕ) (number : ℕ) → depth ≢ 0 → IsDirectory files number →
    told_below tell depth files front number ≡ flat_map (told_entry tell (depth - 1) files front) (entries_of (directory_in files number))
below_is tell zero files front number some is = absurd (some refl)
below_is tell (suc depth) files front number some is =
    let less : depth ≡ suc depth - 1 = omega arith in
    cond-true (eqb (kind_of (file_in files number)) directory_kind) (flat_map (told_entry tell depth files front) (entries_of (directory_in files number))) [] (eq-eqb (kind_of (file_in files number)) directory_kind is)
    ∙ ap (λ (k : ℕ). flat_map (told_entry tell k files front) (entries_of (directory_in files number))) less
