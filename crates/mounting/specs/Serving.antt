-- What a request is answered.
use Rattle.std.specs.Prelude.{◌≡◌, ◌≢◌, ◌⊎◌, ℕ, ◌^◌, ◌<◌, List, [], true, false, length}
use Rattle.fuse.specs.Requests.{header_in, wants_none}
use Rattle.mounting.specs.declared.serving.Served.{Served}
use Rattle.mounting.specs.declared.serving.Served.TheVariants.{Answered, Unanswered}
use Rattle.mounting.specs.Answers.{answer_bytes}

-- It is answered once, by its own number, and wants that. Without an error it is done; else this
-- hinders it, and nothing else is told.
pub record IsAnswer (done : List ℕ → Type 0) (hinders : ℕ → Type 0) (request answer : List ℕ)
    : Type 0 where
  pub error : ℕ
  pub few : error < 2 ^ 32
  pub body : List ℕ
  pub is : answer ≡ answer_bytes error (header_in request).unique body
  pub alone : (error ≡ 0) ⊎ (body ≡ [])
  pub is_done : error ≡ 0 → done body
  pub hindered : error ≢ 0 → hinders error
  pub wanted : wants_none (header_in request).opcode ≡ false

-- or it wants no answer, or is none
abbrev pub HasAnswer : (List ℕ → Type 0) → (ℕ → Type 0) → List ℕ → List ℕ → Served → Type 0
HasAnswer done hinders request answer Answered = IsAnswer done hinders request answer
HasAnswer done hinders request answer Unanswered =
    (length request < 40) ⊎ (wants_none (header_in request).opcode ≡ true)
