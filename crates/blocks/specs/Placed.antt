-- What calls do to the bytes of a file, where these are known.
use Rattle.std.specs.Prelude.{◌≡◌, ◌+◌, ◌≤◌, ℕ, List, length, replicate, Option, Some, IfSome, Result, MatchResult, IfOk, option_map}
use Rattle.blocks.specs.Block.{overwritten}

-- the file has bytes up to that place
abbrev pub Reaches : Option (List ℕ) → ℕ → Type 0
Reaches known end = IfSome known (λ xs. end ≤ length xs)

-- the file has the bytes that it had, with these in the place of those from there on
abbrev pub HasInPlace : Option (List ℕ) → Option (List ℕ) → ℕ → List ℕ → Type 0
HasInPlace old new place bytes = new ≡ option_map (λ xs. overwritten xs place bytes) old

-- as many other bytes are there
pub record IsTornAt (old new : Option (List ℕ)) (place : ℕ) (bytes : List ℕ) : Type 0 where
  pub torn : List ℕ
  pub size : length torn ≡ length bytes
  pub there : HasInPlace old new place torn

-- A write of these bytes at a place that the file reaches: they are there, or where it failed some
-- others. No other byte is changed, and there are as many as before.
abbrev pub WritesInPlace : {T E : Type 0} → Option (List ℕ) → Option (List ℕ) → ℕ → List ℕ
    → Result T E → Type 0
WritesInPlace old new place bytes result = Reaches old (place + length bytes) →
    MatchResult result (λ _. HasInPlace old new place bytes) (λ _. IsTornAt old new place bytes)

-- the file has so many zeroes, and nothing else
abbrev pub BecomesZero : Option (List ℕ) → Option (List ℕ) → ℕ → Type 0
BecomesZero old new count = new ≡ option_map (λ _. replicate count 0) old

-- that is the number of its bytes
abbrev pub IsLength : Option (List ℕ) → ℕ → Type 0
IsLength known count = IfSome known (λ xs. count ≡ length xs)

-- all its bytes remain to be read
abbrev pub AllRemain : Option (List ℕ) → Option (List ℕ) → Type 0
AllRemain known remaining = IfSome known (λ xs. remaining ≡ Some xs)
