-- The bytes of answers.
use Rattle.std.specs.Prelude.{ℕ, ◌+◌, ◌-◌, ◌%◌, ◌^◌, List, ◌++◌, length}
use Rattle.fuse.specs.Answers.{answer_header_bytes}

-- a number below zero, in four bytes
abbrev pub negated : ℕ → ℕ
negated error = (2 ^ 32 - error) % 2 ^ 32

-- an answer: how long it is, why the request isn't done, or 0, the request's number, and what is
-- told
unfoldable pub answer_bytes : ℕ → ℕ → List ℕ → List ℕ
answer_bytes error unique body =
    answer_header_bytes (length body + 16) (negated error) unique ++ body
