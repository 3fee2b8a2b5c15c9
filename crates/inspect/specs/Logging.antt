-- What `show` prints of the log.
use Rattle.std.specs.Prelude.{ℕ, ◌+◌, Bool, true, false, List, [], ◌∷◌, ◌++◌, length, codes, decimal}
use Rattle.blocks.specs.Disk.{Image}
use Rattle.json_lines.specs.Arrays.{elements_behind}
use Rattle.json_lines.specs.Fields.{first_number, word_field}
use Rattle.messages.specs.Deeds.{role_text}
use Rattle.model.specs.Layout.{super_of}
use Rattle.model.specs.Log.{homes_of}

-- how many blocks are logged
abbrev pub count_line : ℕ → List ℕ
count_line count = codes "log n " ++ decimal count ++ codes "\n"

-- the logged block at a place, its home, and what that is in an image of n inode numbers
abbrev pub home_line : ℕ → ℕ → ℕ → List ℕ
home_line n place home =
    codes "log " ++ decimal place ++ codes " home " ++ decimal home ++ codes " " ++ role_text n home
    ++ codes "\n"

-- a line for each of these, from that place on
abbrev pub homes_text : ℕ → ℕ → List ℕ → List ℕ
homes_text n place [] = []
homes_text n place (home ∷ homes) = home_line n place home ++ homes_text n (place + 1) homes

abbrev pub homes_lines : ℕ → List ℕ → List ℕ
homes_lines n homes = count_line (length homes) ++ homes_text n 0 homes

-- the object of a logged block: its home, and what that is in an image of n inode numbers
unfoldable pub home_object : ℕ → ℕ → List ℕ
home_object n home =
    first_number (codes "home") home ++ word_field (codes "area") (role_text n home) ++ codes "}"

-- the object of the log, with an array of what it holds, in the order of their places
unfoldable pub log_object : ℕ → List ℕ → List ℕ
log_object n homes =
    codes "{\"log\":[" ++ elements_behind (home_object n) 0 homes ++ codes "]}\n"

-- homes as JSON, or as lines of text
abbrev pub homes_in : Bool → ℕ → List ℕ → List ℕ
homes_in true n homes = log_object n homes
homes_in false n homes = homes_lines n homes

abbrev pub log_text : Bool → Image → List ℕ
log_text json x = homes_in json (super_of x).ninodes (homes_of x)
