-- Names, and why bytes are none.
use Rattle.std.specs.Prelude.{◌≡◌, ◌≢◌, ℕ, ◌<◌, ◌≤◌, List, [], length, Contains}
use Rattle.directories.specs.declared.name.NameFault.{NameFault}
use Rattle.directories.specs.declared.name.NameFault.TheVariants.{Empty, TooLong, ZeroByte, Slash}
use Rattle.directories.specs.Entries.{name_size, slash}

-- bytes that are a name
pub record IsName (text : List ℕ) : Type 0 where
  pub some : text ≢ []
  pub few : length text ≤ name_size
  pub whole : Contains text 0 → ⊥
  pub no_slash : Contains text slash → ⊥

-- why bytes are none
abbrev pub IsNameCause : List ℕ → NameFault → Type 0
IsNameCause text Empty = text ≡ []
IsNameCause text TooLong = name_size < length text
IsNameCause text ZeroByte = Contains text 0
IsNameCause text Slash = Contains text slash
