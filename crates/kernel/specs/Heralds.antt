-- What the kernel's calls make of its herald.
use Rattle.std.specs.Prelude.{◌≡◌, ◌⊎◌}
use Rattle.ports.specs.declared.herald.Herald.{Ghosts}

-- it is of the same board
abbrev pub SameBoard : {H : Type 0} → Ghosts H → H → H → Type 0
SameBoard herald g h = herald.board h ≡ herald.board g

-- and it was told of as many groups, and tells the same of a shutdown
pub record SameHerald {H : Type 0} (herald : Ghosts H) (g h : H) : Type 0 where
  pub board : SameBoard herald g h
  pub count : herald.count h ≡ herald.count g
  pub told : herald.told h ≡ herald.told g

-- the herald was not asked for a shutdown: it is as it was, or it heard of one group
pub record IsUnasked {H : Type 0} (herald : Ghosts H) (g h : H) : Type 0 where
  pub board : SameBoard herald g h
  pub told : herald.told h ≡ herald.told g
  pub same : (h ≡ g) ⊎ herald.hears g h
