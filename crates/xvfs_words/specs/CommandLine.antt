-- The command line of `xvfs`, as clap is told it, and what words ask for by it.
use Rattle.std.specs.Prelude.{◌≡◌, ◌≢◌, ◌≤◌, ⊤, ℕ, Bool, List, [], ◌∷◌, Option, Some, None, true, false, codes, pos, option_map}
use Rattle.clap.specs.Words.{App, Row, Rule, new_app, new_rule, first_of, one_of, with_rule, with_subcommand}
use Rattle.clap.specs.declared.builder.value_parser.ValueParser.TheVariants.{Signed, Unsigned}
use Rattle.cli.specs.Asking.{HasChoice, HasFlag, HasNumber, Wording, WritesNumber}
use Rattle.cli.specs.CommandLine.{choice_rule, explained, flag_rule, image_app, named_app, number_rule, required_rule, waiting_app}
use Rattle.xvfs_words.specs.declared.words.Part.{Part}
use Rattle.xvfs_words.specs.declared.words.Part.TheVariants.{Whole, File, Log}
use Rattle.xvfs_words.specs.declared.words.Request.{Request}
use Rattle.xvfs_words.specs.declared.words.Request.TheVariants.{Mkfs, Check, Recover, Cat, Ls, Df, Show, ShowLog, ShowPicture, Put, Copy, Convert, Rescue, Replay, ReplayJson, Run, Stops}

-- `--stop N`, where N is from 1
abbrev pub stop_rule : Rule
stop_rule = record (new_rule (codes "stop")) {
  long = Some (codes "stop");
  value_names = 1;
  parser = Some (Unsigned 1 18446744073709551615);
}

abbrev pub mkfs_app : App
mkfs_app = with_rule (with_rule (with_rule (with_rule (image_app (codes "mkfs"))
    (number_rule (codes "SIZE"))) (number_rule (codes "NINODES"))) (flag_rule (codes "large")))
    (flag_rule (codes "no-sync"))

abbrev pub check_app : App
check_app =
    with_rule (with_rule (image_app (codes "check")) (flag_rule (codes "all")))
    (flag_rule (codes "json"))

-- a look at an image that may be told as JSON
abbrev pub look_app : List ℕ → App
look_app name = with_rule (image_app name) (flag_rule (codes "json"))

abbrev pub recover_app : App
recover_app =
    with_rule (with_rule (image_app (codes "recover")) (flag_rule (codes "sync")))
    (flag_rule (codes "json"))

abbrev pub cat_app : App
cat_app = with_rule (with_rule (image_app (codes "cat")) (number_rule (codes "INUM")))
    (flag_rule (codes "read-only"))

-- `--picture FILE`
abbrev pub picture_rule : Rule
picture_rule = record (new_rule (codes "picture")) {
  long = Some (codes "picture");
  value_names = 1;
}

abbrev pub show_app : App
show_app =
    with_rule (with_rule (with_rule (image_app (codes "show")) (new_rule (codes "INUM")))
    picture_rule) (flag_rule (codes "json"))

abbrev pub put_app : App
put_app = with_rule (with_rule (with_rule (with_rule (image_app (codes "put"))
    (required_rule (codes "FILE"))) (choice_rule (codes "INUM"))) (flag_rule (codes "sync")))
    (flag_rule (codes "no-sync"))

-- `--size N`
abbrev pub size_rule : Rule
size_rule = record (choice_rule (codes "size")) {
  long = Some (codes "size");
  value_names = 1;
}

abbrev pub copy_app : App
copy_app = with_rule (with_rule (with_rule (with_rule (waiting_app (codes "copy") (codes "OLD"))
    (required_rule (codes "NEW"))) size_rule) (flag_rule (codes "sync")))
    (flag_rule (codes "no-sync"))

-- `--log N`
abbrev pub log_rule : Rule
log_rule = record (choice_rule (codes "log")) {
  long = Some (codes "log");
  value_names = 1;
}

abbrev pub convert_app : App
convert_app = with_rule (with_rule (with_rule (with_rule (waiting_app (codes "convert") (codes "OLD"))
    (required_rule (codes "NEW"))) log_rule) size_rule) (flag_rule (codes "no-sync"))

abbrev pub rescue_app : App
rescue_app = with_rule (with_rule (waiting_app (codes "rescue") (codes "OLD"))
    (required_rule (codes "NEW"))) (flag_rule (codes "no-sync"))

abbrev pub replay_app : App
replay_app = with_rule (with_rule (with_rule (with_rule (with_rule (with_rule (with_rule (with_rule
    (with_rule (image_app (codes "replay")) (required_rule (codes "SCRIPT")))
    (required_rule (codes "SCHEDULE"))) stop_rule) (flag_rule (codes "sync")))
    (flag_rule (codes "writes"))) (flag_rule (codes "steps"))) picture_rule)
    (flag_rule (codes "plain"))) (flag_rule (codes "json"))

-- `--workers N`, where N is from 1 to 32
abbrev pub workers_rule : Rule
workers_rule = record (new_rule (codes "workers")) {
  long = Some (codes "workers");
  value_names = 1;
  parser = Some (Signed (pos 1) (pos 32));
}

-- `--group N`, where N is from 1, and 1000 where it is not given
abbrev pub group_rule : Rule
group_rule = record (new_rule (codes "group")) {
  long = Some (codes "group");
  value_names = 1;
  range = Some (record { start_inclusive = 0; end_inclusive = 1 });
  missing = codes "1000" ∷ [];
  parser = Some (Signed (pos 1) (pos 4294967295));
}

abbrev pub run_app : App
run_app = with_rule (with_rule (with_rule (with_rule (image_app (codes "run"))
    (required_rule (codes "SCRIPT"))) workers_rule) group_rule) (flag_rule (codes "sync"))

abbrev pub stops_app : App
stops_app =
    with_rule (with_rule (with_rule (with_rule (explained (with_rule (with_rule
    (new_app (codes "stops")) (required_rule (codes "SCRIPT"))) (required_rule (codes "SCHEDULE"))))
    (flag_rule (codes "held"))) picture_rule) (flag_rule (codes "plain")))
    (flag_rule (codes "json"))

abbrev pub bare_app : App
bare_app = named_app (codes "xvfs")

-- with its commands, in the order of help
abbrev pub xvfs_app : App
xvfs_app =
    with_subcommand (with_subcommand (with_subcommand (with_subcommand (with_subcommand
    (with_subcommand (with_subcommand (with_subcommand (with_subcommand (with_subcommand
    (with_subcommand (with_subcommand (with_subcommand (with_subcommand
    bare_app mkfs_app.top) check_app.top)
    (look_app (codes "ls")).top) (look_app (codes "df")).top) cat_app.top) show_app.top)
    put_app.top) copy_app.top) convert_app.top) rescue_app.top)
    recover_app.top) replay_app.top) run_app.top) stops_app.top

-- so many workers are asked for: from 1 to 32, and 1 where no number is given
abbrev pub HasWorkers : List Row → ℕ → Type 0
HasWorkers rows n = (1 ≤ n) × (n ≤ 32) × (one_of (codes "workers") rows ≡ None → n ≡ 1)
    × ((w : ℕ) → HasNumber 32 (codes "workers") rows w → 1 ≤ w → w ≤ 32 → n ≡ w)

-- a run that is asked for has from 1 to 32 workers
abbrev pub HasFewWorkers : Request → Type 0
HasFewWorkers (Run image script workers group sync) = (1 ≤ workers) × (workers ≤ 32)
HasFewWorkers request = ⊤

-- the part of an image that a word asks for: the whole where there is none, the log by its name, and
-- a file by its number
abbrev pub HasPart : Option (List ℕ) → Part → Type 0
HasPart word Whole = word ≡ None
HasPart word (File number) =
    (text : List ℕ) × (word ≡ Some text) × (text ≢ codes "log") × WritesNumber 32 text number
HasPart word Log = word ≡ Some (codes "log")

-- the part that a number asks for
abbrev pub part_of : Option ℕ → Part
part_of None = Whole
part_of (Some number) = File number

-- a page is plain only where there is one
abbrev pub IsOfPage : {P : Type 0} → Option P → Bool → Type 0
IsOfPage (Some path) plain = ⊤
IsOfPage None plain = plain ≡ false

-- a command of this name, with these values, asks for the request
abbrev pub AsksBy : List ℕ → List Row → Request → Type 0
AsksBy name rows (Mkfs image size ninodes large no_sync) = (name ≡ codes "mkfs")
    × (first_of (codes "IMAGE") rows ≡ Some image.now) × HasNumber 32 (codes "SIZE") rows size
    × HasNumber 32 (codes "NINODES") rows ninodes × HasFlag (codes "large") rows large
    × HasFlag (codes "no-sync") rows no_sync
AsksBy name rows (Check image all json) = (name ≡ codes "check")
    × (first_of (codes "IMAGE") rows ≡ Some image.now) × HasFlag (codes "all") rows all
    × HasFlag (codes "json") rows json
AsksBy name rows (Recover image sync json) = (name ≡ codes "recover")
    × (first_of (codes "IMAGE") rows ≡ Some image.now) × HasFlag (codes "sync") rows sync
    × HasFlag (codes "json") rows json
AsksBy name rows (Cat image inum read_only) = (name ≡ codes "cat")
    × (first_of (codes "IMAGE") rows ≡ Some image.now) × HasNumber 32 (codes "INUM") rows inum
    × HasFlag (codes "read-only") rows read_only
AsksBy name rows (Ls image json) = (name ≡ codes "ls")
    × (first_of (codes "IMAGE") rows ≡ Some image.now) × HasFlag (codes "json") rows json
AsksBy name rows (Df image json) = (name ≡ codes "df")
    × (first_of (codes "IMAGE") rows ≡ Some image.now) × HasFlag (codes "json") rows json
AsksBy name rows (Show image inum json) = (name ≡ codes "show")
    × (first_of (codes "IMAGE") rows ≡ Some image.now)
    × HasPart (first_of (codes "INUM") rows) (part_of inum)
    × (first_of (codes "picture") rows ≡ None) × HasFlag (codes "json") rows json
AsksBy name rows (ShowLog image json) = (name ≡ codes "show")
    × (first_of (codes "IMAGE") rows ≡ Some image.now)
    × HasPart (first_of (codes "INUM") rows) Log × (first_of (codes "picture") rows ≡ None)
    × HasFlag (codes "json") rows json
AsksBy name rows (ShowPicture image picture) = (name ≡ codes "show")
    × (first_of (codes "IMAGE") rows ≡ Some image.now)
    × HasPart (first_of (codes "INUM") rows) Whole
    × (first_of (codes "picture") rows ≡ Some picture.now)
    × HasFlag (codes "json") rows false
AsksBy name rows (Put image file inum sync no_sync) = (name ≡ codes "put")
    × (first_of (codes "IMAGE") rows ≡ Some image.now)
    × (first_of (codes "FILE") rows ≡ Some file.now) × HasChoice 32 (codes "INUM") rows inum
    × HasFlag (codes "sync") rows sync × HasFlag (codes "no-sync") rows no_sync
AsksBy name rows (Copy old new size no_sync) = (name ≡ codes "copy")
    × (first_of (codes "OLD") rows ≡ Some old.now)
    × (first_of (codes "NEW") rows ≡ Some new.now) × HasChoice 32 (codes "size") rows size
    × HasFlag (codes "no-sync") rows no_sync
AsksBy name rows (Convert old new log size no_sync) = (name ≡ codes "convert")
    × (first_of (codes "OLD") rows ≡ Some old.now)
    × (first_of (codes "NEW") rows ≡ Some new.now) × HasChoice 32 (codes "log") rows log
    × HasChoice 32 (codes "size") rows size
    × HasFlag (codes "no-sync") rows no_sync
AsksBy name rows (Rescue old new no_sync) = (name ≡ codes "rescue")
    × (first_of (codes "OLD") rows ≡ Some old.now)
    × (first_of (codes "NEW") rows ≡ Some new.now)
    × HasFlag (codes "no-sync") rows no_sync
AsksBy name rows (Replay image script schedule stop sync writes steps picture plain) =
    (name ≡ codes "replay") × (first_of (codes "IMAGE") rows ≡ Some image.now)
    × (first_of (codes "SCRIPT") rows ≡ Some script.now)
    × (first_of (codes "SCHEDULE") rows ≡ Some schedule.now)
    × HasChoice 64 (codes "stop") rows stop × HasFlag (codes "sync") rows sync
    × HasFlag (codes "writes") rows writes × HasFlag (codes "steps") rows steps
    × (option_map (λ path. path.now) picture ≡ first_of (codes "picture") rows)
    × HasFlag (codes "plain") rows plain × IsOfPage picture plain
    × HasFlag (codes "json") rows false
AsksBy name rows (ReplayJson image script schedule stop sync) =
    (name ≡ codes "replay") × (first_of (codes "IMAGE") rows ≡ Some image.now)
    × (first_of (codes "SCRIPT") rows ≡ Some script.now)
    × (first_of (codes "SCHEDULE") rows ≡ Some schedule.now)
    × HasChoice 64 (codes "stop") rows stop × HasFlag (codes "sync") rows sync
    × HasFlag (codes "json") rows true × HasFlag (codes "writes") rows false
    × HasFlag (codes "steps") rows false × HasFlag (codes "plain") rows false
    × (first_of (codes "picture") rows ≡ None)
AsksBy name rows (Run image script workers group sync) =
    (name ≡ codes "run") × (first_of (codes "IMAGE") rows ≡ Some image.now)
    × (first_of (codes "SCRIPT") rows ≡ Some script.now) × HasWorkers rows workers
    × HasChoice 32 (codes "group") rows group × HasFlag (codes "sync") rows sync
AsksBy name rows (Stops script schedule held picture plain json) =
    (name ≡ codes "stops") × (first_of (codes "SCRIPT") rows ≡ Some script.now)
    × (first_of (codes "SCHEDULE") rows ≡ Some schedule.now) × HasFlag (codes "held") rows held
    × (option_map (λ path. path.now) picture ≡ first_of (codes "picture") rows)
    × HasFlag (codes "plain") rows plain × IsOfPage picture plain
    × HasFlag (codes "json") rows json

-- the words of `xvfs`
abbrev pub xvfs_words : Wording Request
xvfs_words = record { app = xvfs_app; asks_by = AsksBy }
