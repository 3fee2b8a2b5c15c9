-- What contracts say of a board, its keeper and its watches.
use Rattle.std.specs.Prelude.{◌≡◌, ◌+◌, ℕ, Bool, true, false, Option, Some}
use Rattle.atomic_table.specs.Seated.{TableId}
use Rattle.rings.specs.Rules.{count_of, heard_of, seen_of, asked_of}
use Rattle.rings.specs.declared.board.Board.{Board}
use Rattle.rings.specs.declared.board.Keeper.{Keeper}
use Rattle.rings.specs.declared.board.Watch.{Watch}

-- which board it is
abbrev pub board_id : Board → TableId
board_id b = b.table.shared.table_id

abbrev pub KeeperOf : Board → Keeper → Type 0
KeeperOf b k = k.seat.table_id ≡ board_id b

-- which board a keeper is of
abbrev pub kept_board : Keeper → Option TableId
kept_board k = Some k.seat.table_id

-- and a watch
abbrev pub seen_board : Watch → TableId
seen_board w = w.seat.table_id

abbrev pub WatchOf : Board → Watch → Type 0
WatchOf b w = seen_board w ≡ board_id b

abbrev pub SameBoard : Watch → Watch → Type 0
SameBoard old new = seen_board new ≡ seen_board old

-- how many groups the keeper has published, and whether it has heard of a shutdown
abbrev pub published : Keeper → ℕ
published k = count_of k.seat.me.0

abbrev pub heard : Keeper → Bool
heard k = heard_of k.seat.me.0

-- it is of the same board, and knows the same
pub record SameKeeper (old new : Keeper) : Type 0 where
  pub board : kept_board new ≡ kept_board old
  pub count : published new ≡ published old
  pub heard_stays : heard new ≡ heard old

-- the keeper loaded SHUT once, and published nothing
pub record HasHeeded (old new : Keeper) : Type 0 where
  pub board : kept_board new ≡ kept_board old
  pub count : published new ≡ published old
  pub stays : heard old ≡ true → heard new ≡ true

-- it published one group, and loaded nothing
pub record HasPublished (old new : Keeper) : Type 0 where
  pub board : kept_board new ≡ kept_board old
  pub count : published new ≡ published old + 1
  pub heard_stays : heard new ≡ heard old

-- the count that the watch has seen, and whether it has asked for a shutdown
abbrev pub seen : Watch → ℕ
seen w = seen_of w.seat.me.0

abbrev pub asked : Watch → Bool
asked w = asked_of w.seat.me.0

-- it is of the same board, and knows the same
pub record SameWatch (old new : Watch) : Type 0 where
  pub board : SameBoard old new
  pub seen_stays : seen new ≡ seen old
  pub asked_stays : asked new ≡ asked old

-- a watch of this board that has seen nothing and asked for nothing
abbrev pub IsNewWatch : Board → Watch → Type 0
IsNewWatch b w = WatchOf b w × (seen w ≡ 0) × (asked w ≡ false)
