-- The words of a schedule, and its fault.
use Rattle.std.specs.Prelude.{ℕ, ◌+◌, ◌-◌, List, length, take, slice_index, filter, Option, Some, None, is_none, option_map, Bool, true, ◌==◌, ◌||◌, not, nat_lt, codes, if◌then◌else◌}
use Rattle.std.specs.List.{filter_map, position, slice_split}
use Rattle.std.specs.Str.{bytes_eq}
use Rattle.scripts.specs.declared.schedule.ScheduleFault.{ScheduleFault}
use Rattle.scripts.specs.declared.schedule.ScheduleFault.TheVariants.{BadWord, TooLarge}
use Rattle.scripts.specs.declared.schedule.Word.{Word}
use Rattle.scripts.specs.declared.schedule.Word.TheVariants.{Step, Steps, Shutdown}
use Rattle.scripts.specs.Number.{number_of}

-- the words of a text: what stands between spaces and line feeds, and isn't empty
abbrev pub words_of : List ℕ → List (List ℕ)
words_of text = filter
    (λ word. not (length word == 0)) (slice_split (λ byte. (byte == 32) || (byte == 10)) text)

abbrev pub if_below : ℕ → Option ℕ → Option ℕ
if_below processes (Some pid) = if nat_lt pid processes then Some pid else None
if_below processes None = None

-- the process that a text names, of so many
abbrev pub process_of : ℕ → List ℕ → Option ℕ
process_of processes text = if_below processes (number_of text)

-- a text's last byte is `!`
abbrev pub ends_marked : List ℕ → Bool
ends_marked text = slice_index text (length text - 1) == 33

-- what a word of a schedule says, where there are so many processes
unfoldable pub word_of : ℕ → List ℕ → Option Word
word_of processes text =
    if bytes_eq text (codes "S") then Some Shutdown
    else if ends_marked text
    then option_map Steps (process_of processes (take (length text - 1) text))
    else option_map Step (process_of processes text)

abbrev pub schedule_of : ℕ → List ℕ → List Word
schedule_of processes text = filter_map (word_of processes) (words_of text)

-- the fault of a text whose first bad word has this place, from 0
abbrev pub fault_at : Option ℕ → Option ScheduleFault
fault_at (Some place) = Some (BadWord (place + 1))
fault_at None = None

abbrev pub is_bad : ℕ → List ℕ → Bool
is_bad processes word = is_none (word_of processes word)

-- the first bad word
abbrev pub fault_in_words : ℕ → List ℕ → Option ScheduleFault
fault_in_words processes text = fault_at (position (is_bad processes) (words_of text))

-- why a text is no schedule: more than 1,048,576 bytes, else its first bad word
abbrev pub fault_of : ℕ → List ℕ → Option ScheduleFault
fault_of processes text =
    if nat_lt 1048576 (length text) then Some TooLarge else fault_in_words processes text

-- a turn of one of so many processes, or the shutdown
abbrev pub is_word_of : ℕ → Word → Bool
is_word_of processes (Step pid) = nat_lt pid processes
is_word_of processes (Steps pid) = nat_lt pid processes
is_word_of processes Shutdown = true
