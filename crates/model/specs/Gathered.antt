-- Bytes that are gathered in room that was taken before.
use Rattle.std.specs.Prelude.{ℕ, ◌-◌, ◌++◌, List, length}

pub record GatheredBytes : Type 0 where
  pub bytes : List ℕ
  -- for how many more there is room
  pub room : ℕ

-- with a piece behind them, for which there was room
abbrev pub gathered_with : GatheredBytes → List ℕ → GatheredBytes
gathered_with g piece = record { bytes = g.bytes ++ piece; room = g.room - length piece }
