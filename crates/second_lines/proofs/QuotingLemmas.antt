-- What quotes have around them and in them can be seen.
use Rattle.std.proofs.Common.{◌≡◌, ◌≤◌, ◌<◌, ◌%◌, ℕ, ◌++◌, Bool, true, false, not, if◌then◌else◌, List, [], ◌∷◌, All, refl, arith, rules, tests}
use Rattle.std.proofs.lemmas.Bool.{not-false, or_parts}
use Rattle.std.proofs.lemmas.Grind.{common_steps}
use Rattle.std.proofs.lemmas.List.Elements.{All-append, All-cons, All-nil}
use Rattle.std.specs.List.{list_any}
use Rattle.second_lines.specs.Quoting.{IsSeen, code_of, digit_of, is_bare, is_seen, mark_of, piece_of, quoted_of, rest_of}

bare_is_seen : (byte : ℕ) → is_bare byte ≡ true → IsSeen byte
bare_is_seen byte h = grind (arith, tests, common_steps)

digit_is_seen : (n : ℕ) → IsSeen (digit_of n)
digit_is_seen n = grind (arith, tests, common_steps)

code_is_seen : (byte : ℕ) → All IsSeen (code_of byte)
code_is_seen byte = search (rules, tests, digit_is_seen, arith)

piece_is_seen : (coded : Bool) (byte : ℕ) → All IsSeen (piece_of coded byte)
piece_is_seen true byte = search (rules, tests, code_is_seen, All-append)
piece_is_seen false byte = search (rules, tests, code_is_seen, All-append)

rest_is_seen : (coded : Bool) (bytes : List ℕ) → All IsSeen (rest_of coded bytes)
rest_is_seen coded [] = search (rules, tests)
rest_is_seen coded (byte ∷ rest) =
    All-append IsSeen (piece_of coded byte) (rest_of (not (is_seen byte)) rest)
    (piece_is_seen coded byte) (rest_is_seen (not (is_seen byte)) rest)

bare_are_seen : (path : List ℕ) → list_any (λ byte. not (is_bare byte)) path ≡ false → All IsSeen path
bare_are_seen [] h = All-nil IsSeen
bare_are_seen (byte ∷ rest) h =
    let parts = or_parts (not (is_bare byte)) (list_any (λ byte. not (is_bare byte)) rest) h in
    All-cons IsSeen byte rest (bare_is_seen byte (not-false (is_bare byte) parts.0)) (bare_are_seen rest parts.1)

either_is_seen : (marks : Bool) (quotes path : List ℕ) → All IsSeen quotes → (marks ≡ false → All IsSeen path) → All IsSeen (if marks then quotes else path)
either_is_seen true quotes path seen bare = seen
either_is_seen false quotes path seen bare = bare refl

pub quoted_is_seen : (path : List ℕ) → All IsSeen (quoted_of path)
quoted_is_seen [] = search (rules, tests)
quoted_is_seen (byte ∷ rest) =
    let path = byte ∷ rest in
    let quote : IsSeen 39 = search (rules, arith) in
    either_is_seen (list_any (λ byte. not (is_bare byte)) path) (39 ∷ rest_of false path) path
    (All-cons IsSeen 39 (rest_of false path) quote (rest_is_seen false path)) (bare_are_seen path)
