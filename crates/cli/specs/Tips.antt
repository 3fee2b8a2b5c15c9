-- The name nearest to one of which help has nothing to tell.
use Rattle.std.specs.Prelude.{◌≡◌, ◌⊎◌, ◌≤◌, ◌<◌, ◌/◌, ℕ, List, ◌∷◌, ◌++◌, Option, Some, None, All, Contains, codes, length, map, nat_eq, string_bytes}
use Rattle.std.specs.Str.{chars}
use Rattle.strsim.specs.Edits.{levenshtein_row}
use Rattle.cli.specs.Topics.{name_of}
use Rattle.cli.specs.declared.explanation.Explanation.{Explanation}
use Rattle.cli.specs.declared.explanation.Explanation.TheVariants.{Mistake}
use Rattle.cli.specs.declared.table.Outline.{Outline}

-- the names of the topics of a program's help, and of its commands
abbrev pub told_names : Outline → List (List ℕ)
told_names outline = map name_of outline.topics.now ++ map (λ line. line.name.now) outline.lines.now

-- how many characters have to be put in, taken out or changed, to make one text of another
abbrev pub edits_between : List ℕ → List ℕ → ℕ
edits_between word name = levenshtein_row nat_eq (chars word) (chars name) (length (chars name))

-- this one of the names is made of a word by fewest edits
pub record IsNear (word : List ℕ) (names : List (List ℕ)) (near : List ℕ) : Type 0 where
  pub among : Contains names near
  pub few : edits_between word near ≤ length word / 2
  pub fewest : All (λ name. edits_between word near ≤ edits_between word name) names

-- the name near a word, or none where all are far
abbrev pub IsNearest : List ℕ → List (List ℕ) → Option (List ℕ) → Type 0
IsNearest word names None = All (λ name. length word / 2 < edits_between word name) names
IsNearest word names (Some near) = IsNear word names near

-- below the first line of a text stands a tip that has this name
pub record HasTipBelow (name old new : List ℕ) : Type 0 where
  pub first : List ℕ
  pub rest : List ℕ
  pub was : old ≡ first ++ 10 ∷ rest
  pub now : new ≡ first ++ (codes "\n\n  tip: help tells of '" ++ (name ++ (codes "'\n" ++ rest)))

-- it does, or the text is as it was
abbrev pub MayHaveTip : List ℕ → List ℕ → List ℕ → Type 0
MayHaveTip name old new = (new ≡ old) ⊎ HasTipBelow name old new

-- what is told is the same, or has a tip with one of these names
abbrev pub IsToldWith : List (List ℕ) → Explanation → Explanation → Type 0
IsToldWith names (Mistake old) (Mistake new) =
    (new ≡ old) ⊎ ((name : List ℕ) × Contains names name × MayHaveTip name (string_bytes old) (string_bytes new))
IsToldWith names old new = new ≡ old
