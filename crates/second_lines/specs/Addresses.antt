-- Which of an inode's addresses a check objects to.
use Rattle.std.specs.Prelude.{ℕ, ◌-◌, ◌==◌, ◌||◌, nat_le, nat_lt, Bool, if◌then◌else◌, Option, Some, None}
use Rattle.std.specs.Int.{div_ceil}
use Rattle.second_lines.specs.declared.addresses.Wanted.{Wanted}

-- a missing one that is needed, or one of no data block
abbrev pub is_wrong : Wanted → ℕ → ℕ → Bool
is_wrong wanted place address =
    if address == 0 then nat_lt place wanted.needed else nat_lt address wanted.first || nat_le wanted.end address

-- how many that lead to so many blocks each, from one of the file's blocks on, a size needs
abbrev pub needed_of : ℕ → ℕ → ℕ → ℕ
needed_of size begin reach = div_ceil (div_ceil size 1024 - begin) reach

-- the places before the one that is found, or all
abbrev pub until : ℕ → Option ℕ → ℕ
until all None = all
until all (Some place) = place
