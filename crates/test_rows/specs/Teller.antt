-- What callers see of a herald that tells of a shutdown.
use Rattle.std.specs.Prelude.{◌≡◌, ◌+◌, ◌-◌, ℕ, Bool, ◌==◌}
use Rattle.test_rows.specs.declared.teller.Teller.{Teller}

-- how many groups it was told are committed
abbrev pub count_of : Teller → ℕ
count_of t = t.count

-- whether it told of a shutdown
abbrev pub has_told : Teller → Bool
has_told t = t.left == 0

-- it was asked once
pub record CountsQuestion (old new : Teller) : Type 0 where
  pub left : new.left ≡ old.left - 1
  pub count : count_of new ≡ count_of old

-- it heard of one group more
pub record CountsOne (old new : Teller) : Type 0 where
  pub count : count_of new ≡ count_of old + 1
  pub left : new.left ≡ old.left
