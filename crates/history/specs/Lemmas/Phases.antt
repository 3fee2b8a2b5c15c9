-- The processes after one of them went elsewhere.
use Rattle.std.proofs.Common.{◌≡◌, ◌≢◌, ℕ, ◌<◌, true, List, length, get_or, set, refl, ◌∙◌, ap, length-set}
use Rattle.history.specs.Common.{false≢true, get_or-set_other, get_or-set_same, Op, Phase, Process}
use Rattle.history.specs.Alone.{is_committing_at}
use Rattle.history.specs.Processes.{World, process, idle, is_before}
use Rattle.history.specs.Processes.{is_behind, is_ending}

module _ (w v : World) (p : ℕ) (t : Process) (is : v.processes ≡ set w.processes p t) where
  pub there_now : p < length w.processes → process v p ≡ t
  there_now lt = ap (λ (ps : List Process). get_or ps p idle) is ∙ get_or-set_same w.processes p t idle lt

  pub others_stay : (q : ℕ) → q ≢ p → process v q ≡ process w q
  others_stay q apart = ap (λ (ps : List Process). get_or ps q idle) is ∙ get_or-set_other w.processes p q t idle apart

  -- as many processes
  pub as_many : length v.processes ≡ length w.processes
  as_many = ap (λ (ps : List Process). length ps) is ∙ length-set w.processes p t

-- an operation that has not had its turn, one that goes on behind it, one that ends next, and one that
-- commits
pub before_there : (a : Phase) → is_before a ≡ true → (group : ℕ) × (op : Op) × (a ≡ Phase.BeforeTurn group op)
before_there Phase.Idle is = absurd (false≢true is)
before_there (Phase.BeforeTurn group op) is = (group, op, refl)
before_there (Phase.AfterTurn group k) is = absurd (false≢true is)
before_there (Phase.Ending group k) is = absurd (false≢true is)
before_there (Phase.Committing group k) is = absurd (false≢true is)

pub behind_there : (a : Phase) → is_behind a ≡ true → (group : ℕ) × (k : ℕ) × (a ≡ Phase.AfterTurn group k)
behind_there Phase.Idle is = absurd (false≢true is)
behind_there (Phase.BeforeTurn group op) is = absurd (false≢true is)
behind_there (Phase.AfterTurn group k) is = (group, k, refl)
behind_there (Phase.Ending group k) is = absurd (false≢true is)
behind_there (Phase.Committing group k) is = absurd (false≢true is)

pub ending_there : (a : Phase) → is_ending a ≡ true → (group : ℕ) × (k : ℕ) × (a ≡ Phase.Ending group k)
ending_there Phase.Idle is = absurd (false≢true is)
ending_there (Phase.BeforeTurn group op) is = absurd (false≢true is)
ending_there (Phase.AfterTurn group k) is = absurd (false≢true is)
ending_there (Phase.Ending group k) is = (group, k, refl)
ending_there (Phase.Committing group k) is = absurd (false≢true is)

pub committing_there : (a : Phase) → is_committing_at a ≡ true → (group : ℕ) × (k : ℕ) × (a ≡ Phase.Committing group k)
committing_there Phase.Idle is = absurd (false≢true is)
committing_there (Phase.BeforeTurn group op) is = absurd (false≢true is)
committing_there (Phase.AfterTurn group k) is = absurd (false≢true is)
committing_there (Phase.Ending group k) is = absurd (false≢true is)
committing_there (Phase.Committing group k) is = (group, k, refl)
