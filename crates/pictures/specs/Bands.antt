-- The row that tells what a stop keeps.
use Rattle.std.specs.Prelude.{ℕ, Bool, ◌+◌, ◌-◌, ◌%◌, ◌==◌, ◌||◌, not, max, is_some, List, [], ◌++◌, codes, decimal, if◌then◌else◌, Option, Some, None}
use Rattle.wal.specs.declared.deeds.CommitDeed.{CommitDeed}
use Rattle.messages.specs.Deeds.{made_deed}
use Rattle.pictures.specs.Along.{left_along, pieces_along}
use Rattle.pictures.specs.Places.{column_x, row_y, sheet_width}
use Rattle.pictures.specs.Markups.{markup_text}
use Rattle.pictures.specs.Shapes.{area, area_text, label_open, spot}
use Rattle.pictures.specs.declared.markups.Markup.{Markup}
use Rattle.pictures.specs.declared.bands.Kept.{Kept}
use Rattle.pictures.specs.declared.types.Frame.{Frame}
use Rattle.pictures.specs.declared.types.Moment.{Moment}

-- what a step wrote, if it did
abbrev pub made_by : Moment → Option CommitDeed
made_by m = made_deed m.note.step m.note.deed

-- ---- what a stop keeps

-- at the opening no group is committed
abbrev pub first_kept : Kept
first_kept = record { behind = None; sure = 0; most = 0 }

-- a band ends with a step that wrote or synced, or with which a group was committed
unfoldable pub ends_band : Kept → Moment → Bool
ends_band k m = is_some (made_by m) || not (m.note.committed == k.sure)

abbrev pub most_by : Option CommitDeed → ℕ → ℕ
most_by None most = most
most_by (Some (CommitDeed.LogBlock place home)) most = most
most_by (Some (CommitDeed.Header count group)) most = group
most_by (Some (CommitDeed.Home b)) most = most
most_by (Some CommitDeed.Clear) most = most
most_by (Some (CommitDeed.Sync part)) most = most

-- the group of a header that is written may be kept
unfoldable pub most_after : Kept → Moment → ℕ
most_after k m = most_by (made_by m) k.most

unfoldable pub kept_after : Kept → Moment → Kept
kept_after k m =
    if ends_band k m
    then record {
      behind = Some m.column;
      sure = m.note.committed;
      most = max (most_after k m) m.note.committed;
    }
    else k

-- ---- a band

unfoldable pub kept_words : Kept → List ℕ
kept_words k =
    if k.sure == k.most then decimal k.sure else decimal k.sure ++ codes " or " ++ decimal k.most

abbrev pub class_of_count : ℕ → List ℕ
class_of_count k =
    if k == 0 then codes "k0" else if k == 1 then codes "k1" else if k == 2 then codes "k2"
    else if k == 3 then codes "k3" else codes "k4"

unfoldable pub band_class : Kept → List ℕ
band_class k = if k.sure == k.most then class_of_count (k.sure % 5) else codes "k5"

abbrev pub edge_behind : Option ℕ → ℕ
edge_behind None = 0
edge_behind (Some column) = column_x column + 72

unfoldable pub left_edge : Kept → ℕ
left_edge k = edge_behind k.behind

unfoldable pub shown_band : Frame → Kept → ℕ → List ℕ
shown_band f k to =
    area_text (band_class k) (area (left_edge k) (row_y f 72) (to - left_edge k) 26)
    ++ label_open (codes "k") (spot (left_edge k + 8) (row_y f 90)) ++ kept_words k
    ++ markup_text Markup.LabelClose

-- up to its right edge, behind what tells when one stops
unfoldable pub band_text : Frame → Kept → ℕ → List ℕ
band_text f k to =
    codes " keeps " ++ kept_words k ++ markup_text Markup.TitleEnd ++ shown_band f k to
    ++ markup_text Markup.FieldEnd

abbrev pub stop_words : Option CommitDeed → Moment → List ℕ
stop_words None m = codes "step " ++ decimal (m.column + 1)
stop_words (Some (CommitDeed.LogBlock place home)) m = codes "write " ++ decimal m.note.writes
stop_words (Some (CommitDeed.Header count group)) m = codes "write " ++ decimal m.note.writes
stop_words (Some (CommitDeed.Home b)) m = codes "write " ++ decimal m.note.writes
stop_words (Some CommitDeed.Clear) m = codes "write " ++ decimal m.note.writes
stop_words (Some (CommitDeed.Sync part)) m = codes "sync " ++ decimal m.note.syncs

unfoldable pub stop_text : Moment → List ℕ
stop_text m =
    markup_text Markup.Field ++ codes "a stop before " ++ stop_words (made_by m) m

-- ---- THE BANDS OF A RUN: each up to the step that ends it, and one behind them

unfoldable pub piece_of : Frame → Kept → Moment → List ℕ
piece_of f k m =
    if ends_band k m then stop_text m ++ band_text f k (column_x m.column + 72) else []

unfoldable pub last_band : Frame → Kept → List ℕ
last_band f k =
    markup_text Markup.Field ++ codes "a stop at the end" ++ band_text f k (sheet_width f)

unfoldable pub bands_text : Frame → List Moment → List ℕ
bands_text f ms =
    pieces_along (piece_of f) kept_after first_kept ms
    ++ last_band f (left_along kept_after first_kept ms)
