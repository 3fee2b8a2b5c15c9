-- What was taken of a process, and what was given to it, as the journal tells it.
use Rattle.std.specs.Prelude.{◌≡◌, ℕ, List, [], ◌∷◌, ◌++◌, length, map, Option, Some}
use Rattle.std.specs.List.{range_with_len}
use Rattle.std.specs.Option.{option_map}
use Rattle.model.specs.declared.types.operations.Answer.{Answer}
use Rattle.model.specs.declared.types.operations.Entry.{Entry}
use Rattle.model.specs.declared.types.operations.Op.{Op}
use Rattle.model.specs.declared.types.operations.Reply.{Reply}
use Rattle.model.specs.Journal.{own}
use Rattle.ports.specs.History.{History}
use Rattle.history.specs.declared.types.Phase.{Phase}
use Rattle.history.specs.Open.{IsEntry, IsLast}

-- the answer that an entry tells; none while it has no reply
abbrev pub entry_answer : Entry → Option Answer
entry_answer e =
    option_map (λ (r : Reply). record { seq = e.seq; reply = r; group = e.group }) e.reply

-- the operation that was taken and has no entry yet
abbrev pub pending_at : Phase → List Op
pending_at Phase.Idle = []
pending_at (Phase.BeforeTurn group op) = op ∷ []
pending_at (Phase.AfterTurn group k) = []
pending_at (Phase.Ending group k) = []
pending_at (Phase.Committing group k) = []

-- Process p's entries are those that were answered and, at this index, the one that is still to be
-- answered.
pub record Owes (p k : ℕ) (es given : List Entry) : Type 0 where
  pub entry : Entry
  pub at : IsEntry es k entry
  pub mine : entry.pid ≡ p
  pub last : IsLast p es k
  pub own : own p es ≡ given ++ entry ∷ []

-- whether an answer is still to be given, by where the process stands
abbrev pub Owed : Phase → ℕ → List Entry → List Entry → Type 0
Owed Phase.Idle p es given = own p es ≡ given
Owed (Phase.BeforeTurn group op) p es given = own p es ≡ given
Owed (Phase.AfterTurn group k) p es given = Owes p k es given
Owed (Phase.Ending group k) p es given = Owes p k es given
Owed (Phase.Committing group k) p es given = Owes p k es given

-- The operations that were taken are those of the process's own entries, in their order, and the
-- one that waits for its turn; the answers that were given are those of its entries, in their
-- order, but for the last where it is still to be answered. So each entry that was answered has its
-- reply.
pub record IsHistory (es : List Entry) (a : Phase) (begun p : ℕ) (h : History) : Type 0 where
  pub answered : List Entry
  pub owed : Owed a p es answered
  pub taken : h.taken ≡ map (λ (e : Entry). e.op) (own p es) ++ pending_at a
  pub given : map (λ (a : Answer). Some a) h.given ≡ map entry_answer answered
  pub count : begun ≡ length h.taken
  -- they are numbered from 1 on
  pub numbered : map (λ (e : Entry). e.seq) (own p es) ≡ range_with_len 1 (length (own p es))
