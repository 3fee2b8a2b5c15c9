-- How much of the log operations may use, and why a beginning waits for it.
use Rattle.std.specs.Prelude.{ℕ, ◌+◌, ◌-◌, ◌*◌, nat_lt, if◌then◌else◌, Bool, Option, Some, None}
use Rattle.model.specs.Format.{log_capacity}
use Rattle.model.specs.declared.types.operations.Why.{Why}
use Rattle.model.specs.declared.types.operations.Why.TheVariants.{Committing, LogFull}

-- what an operation with that many homes has left of its ten blocks
abbrev pub unused_reservation : ℕ → ℕ
unused_reservation homes = 10 - homes

-- the log has no room for ten more blocks of each operation and one more
abbrev pub is_log_full : ℕ → ℕ → Bool
is_log_full logged outstanding = nat_lt log_capacity (logged + (outstanding + 1) * 10)

-- why `begin` waits, in the order of its tests
abbrev pub log_cause : Bool → ℕ → ℕ → Option Why
log_cause is_committing logged outstanding =
    if is_committing then Some Committing
    else if is_log_full logged outstanding then Some LogFull
    else None
