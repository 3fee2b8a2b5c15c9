-- What callers see of a plain herald.
use Rattle.std.specs.Prelude.{◌≡◌, ◌+◌, ℕ}
use Rattle.ports.specs.declared.herald.PlainHerald.{PlainHerald}

-- how many groups it was told are committed
abbrev pub count_of : PlainHerald → ℕ
count_of h = h.count

-- it is as it was
abbrev pub IsSame : PlainHerald → PlainHerald → Type 0
IsSame old new = new ≡ old

-- it counts one group more
abbrev pub CountsOne : PlainHerald → PlainHerald → Type 0
CountsOne old new = count_of new ≡ count_of old + 1
