-- The stops of a run that were tried, an object each.
use Rattle.std.specs.Prelude.{ℕ, List, [], ◌++◌, codes, Option, Some, None}
use Rattle.std.specs.List.{flat_map}
use Rattle.json_lines.specs.Fields.{bytes_field, first_number, number_field, word_field}
use Rattle.pictures.specs.declared.stops.At.{At}
use Rattle.pictures.specs.declared.stops.Column.{Column}
use Rattle.pictures.specs.declared.stops.Lost.{Lost}

-- ---- where the run is stopped

-- before the write of this number, or at the sync
unfoldable pub number_fields : List ℕ → ℕ → List ℕ
number_fields word n = word_field (codes "stop") word ++ number_field (codes "number") n

abbrev pub at_fields : At → List ℕ
at_fields At.End = word_field (codes "stop") (codes "end")
at_fields (At.Write n) = number_fields (codes "write") n
at_fields (At.Sync n) = number_fields (codes "sync") n

-- ---- what was found there

-- so many images, each of which passed
unfoldable pub passed_object : Column → List ℕ
passed_object c = first_number (codes "passed") c.images ++ at_fields c.at ++ codes "}\n"

-- one that didn't, and the bytes of the words for it
unfoldable pub failed_object : Lost → List ℕ
failed_object l =
    first_number (codes "failed") 1 ++ at_fields l.at ++ bytes_field l.words.now ++ codes "}\n"

abbrev pub lost_text : Option Lost → List ℕ
lost_text None = []
lost_text (Some l) = failed_object l

-- THE OBJECTS OF THE STOPS: of those that passed, and behind them of the one that didn't
unfoldable pub tried_text : List Column → Option Lost → List ℕ
tried_text cs lost = flat_map passed_object cs ++ lost_text lost
