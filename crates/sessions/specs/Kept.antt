-- Answers that are kept of processes.
use Rattle.std.specs.Prelude.{◌≡◌, ◌≢◌, ℕ, List, [], length, slice_index_or, Option, None}
use Rattle.model.specs.declared.types.operations.Answer.{Answer}
use Rattle.model.specs.declared.types.operations.Reply.{Reply}
use Rattle.model.specs.declared.types.operations.Reply.TheVariants as reply

-- the bytes that a reply carries
abbrev pub bytes_of : Reply → List ℕ
bytes_of (reply.Bytes content) = content
bytes_of other = []

-- how many they are
abbrev pub byte_count : Answer → ℕ
byte_count answer = length (bytes_of answer.reply)

-- the answer that is kept of process p
abbrev pub kept_answer : List (Option Answer) → ℕ → Option Answer
kept_answer kept p = slice_index_or kept p None

-- those of the other processes are as they were
abbrev pub OthersKept : List (Option Answer) → List (Option Answer) → ℕ → Type 0
OthersKept old new pid = (p : ℕ) → p ≢ pid → kept_answer new p ≡ kept_answer old p
