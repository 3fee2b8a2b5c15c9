-- The brackets over the steps, one for each group.
use Rattle.std.specs.Prelude.{ℕ, Bool, true, false, ◌+◌, ◌-◌, ◌==◌, ◌&&◌, not, List, [], ◌++◌, codes, decimal, if◌then◌else◌, Option, Some, None}
use Rattle.wal.specs.declared.deeds.CommitDeed.{CommitDeed}
use Rattle.wal.specs.declared.deeds.Deed.{Deed}
use Rattle.wal.specs.declared.types.Part.{Part}
use Rattle.messages.specs.Deeds.{made_deed}
use Rattle.pictures.specs.Along.{left_along, pieces_along}
use Rattle.pictures.specs.Places.{column_x, lane_y, sheet_width}
use Rattle.pictures.specs.Markups.{attribute_text, markup_text}
use Rattle.pictures.specs.Shapes.{area, area_text, counted_text, spot}
use Rattle.pictures.specs.declared.markups.Markup.{Markup}
use Rattle.pictures.specs.declared.brackets.Under.{Under}
use Rattle.pictures.specs.declared.types.Frame.{Frame}
use Rattle.pictures.specs.declared.types.Moment.{Moment}

-- ---- which group is under way

-- none at first
abbrev pub first_under : Under
first_under = record { first = None; opened = 0 }

abbrev pub is_end : Option Deed → Bool
is_end None = false
is_end (Some Deed.Begin) = false
is_end (Some (Deed.Task deed)) = false
is_end (Some Deed.End) = true
is_end (Some (Deed.Commit deed)) = false

-- the last operation ended, and there was nothing to write
unfoldable pub is_emptied : Moment → Bool
is_emptied m = is_end m.note.deed && m.note.committed == m.note.opened

abbrev pub is_clear : Part → Bool
is_clear Part.Log = false
is_clear Part.Header = false
is_clear Part.Homes = false
is_clear Part.Clear = true

abbrev pub closes_by : Option CommitDeed → Bool → Moment → Bool
closes_by None holds m = is_emptied m
closes_by (Some (CommitDeed.LogBlock place home)) holds m = false
closes_by (Some (CommitDeed.Header count group)) holds m = false
closes_by (Some (CommitDeed.Home b)) holds m = false
closes_by (Some CommitDeed.Clear) holds m = not holds
closes_by (Some (CommitDeed.Sync part)) holds m = is_clear part

-- A step ends a group: its header was cleared, and synced where the disk holds writes back; or it
-- wrote nothing.
unfoldable pub closes : Frame → Moment → Bool
closes f m = closes_by (made_deed m.note.step m.note.deed) f.holds m

unfoldable pub under_after : Frame → Under → Moment → Under
under_after f u m =
    if closes f m then record { first = None; opened = m.note.opened }
    else if m.note.opened == u.opened then u
    else record { first = Some m.column; opened = m.note.opened }

-- ---- a bracket

unfoldable pub bracket_title : ℕ → List ℕ
bracket_title group =
    markup_text Markup.Field ++ codes "group " ++ decimal group ++ markup_text Markup.TitleEnd

unfoldable pub path_text : ℕ → ℕ → List ℕ
path_text left right =
    attribute_text Markup.Bracket left ++ attribute_text Markup.Up right ++ markup_text Markup.Down

-- the ground of a group behind the lanes, and its bracket
unfoldable pub drawn_bracket : Frame → ℕ → ℕ → List ℕ
drawn_bracket f left right =
    area_text (codes "v") (area left 40 (right - left) (lane_y f.processes - 40))
    ++ path_text left right

unfoldable pub bracket_text : Frame → ℕ → ℕ → ℕ → List ℕ
bracket_text f group column right =
    bracket_title group ++ drawn_bracket f (column_x column) right
    ++ counted_text (codes "v") (spot (column_x column + 8) 34) (codes "group ") group
    ++ markup_text Markup.FieldEnd

-- ---- THE BRACKETS OF A RUN: each from the step that opened its group to the one that ended it

abbrev pub bracket_from : Option ℕ → Frame → ℕ → ℕ → List ℕ
bracket_from None f group right = []
bracket_from (Some column) f group right = bracket_text f group column right

unfoldable pub piece_of : Frame → Under → Moment → List ℕ
piece_of f u m =
    if closes f m then bracket_from u.first f u.opened (column_x m.column + 68) else []

unfoldable pub last_bracket : Frame → Under → List ℕ
last_bracket f u = bracket_from u.first f u.opened (sheet_width f)

unfoldable pub brackets_text : Frame → List Moment → List ℕ
brackets_text f ms =
    pieces_along (piece_of f) (under_after f) first_under ms
    ++ last_bracket f (left_along (under_after f) first_under ms)
