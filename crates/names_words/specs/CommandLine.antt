-- The command line of `xvnames`, as clap is told it, and what words ask for by it.
use Rattle.std.specs.Prelude.{◌≡◌, ℕ, List, [], Bool, false, true, Some, codes, map, unwrap_or}
use Rattle.clap.specs.Words.{App, Row, Rule, all_of, first_of, new_rule, with_rule, with_subcommand}
use Rattle.clap.specs.declared.builder.action.ArgAction.TheVariants.{Append, SetTrue}
use Rattle.cli.specs.Asking.{HasFlag, HasNumber, Wording}
use Rattle.cli.specs.CommandLine.{flag_rule, image_app, named_app, number_rule, required_rule}
use Rattle.names_words.specs.declared.words.Request.{Request}
use Rattle.names_words.specs.declared.words.Request.TheVariants.{Ls, Stat, Tree, Cat, Get, Put, PutFolder, Rm, Mv, Cp, Ln, Mkdir, Rmdir, Check, Recount, Mkfs}

-- a command that may answer with JSON
abbrev pub answering : App → App
answering app = with_rule app (flag_rule (codes "json"))

-- a look at a directory, the root where none is given
abbrev pub look_app : List ℕ → App
look_app name = answering (with_rule (image_app name) (new_rule (codes "PATH")))

-- a command at a path
abbrev pub path_app : List ℕ → App
path_app name = with_rule (image_app name) (required_rule (codes "PATH"))

-- a command that changes an image
abbrev pub changing : App → App
changing app = with_rule (with_rule app (flag_rule (codes "sync"))) (flag_rule (codes "no-sync"))

-- a flag of one letter
abbrev pub letter_rule : List ℕ → ℕ → Rule
letter_rule id letter = record (new_rule id) { short = Some letter; action = Some SetTrue }

-- `-r`
abbrev pub get_app : App
get_app = with_rule (with_rule (path_app (codes "get")) (required_rule (codes "FILE")))
    (letter_rule (codes "all") 114)

abbrev pub rm_app : App
rm_app = with_rule (changing (path_app (codes "rm"))) (letter_rule (codes "all") 114)

-- `-p`
abbrev pub mkdir_app : App
mkdir_app = with_rule (changing (path_app (codes "mkdir"))) (letter_rule (codes "parents") 112)

abbrev pub put_app : App
put_app = with_rule (changing (with_rule (with_rule (image_app (codes "put"))
    (required_rule (codes "FILE"))) (required_rule (codes "PATH"))))
    (letter_rule (codes "all") 114)

-- from a path to another one
abbrev pub between_app : List ℕ → App
between_app name = changing (with_rule (with_rule (image_app name) (required_rule (codes "FROM")))
    (required_rule (codes "TO")))

abbrev pub ln_app : App
ln_app = changing (with_rule (with_rule (image_app (codes "ln")) (required_rule (codes "OLD")))
    (required_rule (codes "NEW")))

-- any number of files behind the others
abbrev pub mkfs_app : App
mkfs_app = with_rule (with_rule (with_rule (with_rule (image_app (codes "mkfs"))
    (number_rule (codes "SIZE"))) (number_rule (codes "NINODES")))
    (record (new_rule (codes "FILE")) { action = Some Append })) (flag_rule (codes "no-sync"))

-- the program, with its commands in the order of help
abbrev pub xvnames_app : App
xvnames_app =
    with_subcommand (with_subcommand (with_subcommand (with_subcommand (with_subcommand
    (with_subcommand (with_subcommand (with_subcommand (with_subcommand (with_subcommand
    (with_subcommand (with_subcommand (with_subcommand (with_subcommand (with_subcommand
    (named_app (codes "xvnames")) (look_app (codes "ls")).top)
    (answering (path_app (codes "stat"))).top)
    (look_app (codes "tree")).top) (path_app (codes "cat")).top) get_app.top) put_app.top)
    rm_app.top) (between_app (codes "mv")).top) (between_app (codes "cp")).top) ln_app.top)
    mkdir_app.top)
    (changing (path_app (codes "rmdir"))).top)
    (answering (image_app (codes "check"))).top) (changing (image_app (codes "recount"))).top) mkfs_app.top

-- a word has that value
abbrev pub HasWord : List ℕ → List Row → List ℕ → Type 0
HasWord id rows value = first_of id rows ≡ Some value

-- a path has that value, or is the root where it is left out
abbrev pub HasPath : List Row → List ℕ → Type 0
HasPath rows path = path ≡ unwrap_or (first_of (codes "PATH") rows) (codes "/")

-- a change over an image, with the words of this name
pub record Changes (rows : List Row) (image : List ℕ) (sync no_sync : Bool) : Type 0 where
  pub image_is : HasWord (codes "IMAGE") rows image
  pub syncs : HasFlag (codes "sync") rows sync
  pub leaves_out : HasFlag (codes "no-sync") rows no_sync

-- the words of values that are called FILE
abbrev pub files_in : List Row → List (List ℕ)
files_in rows = unwrap_or (all_of (codes "FILE") rows) []

-- a command of this name, with these values, asks for the request
abbrev pub AsksBy : List ℕ → List Row → Request → Type 0
AsksBy name rows (Ls image path json) = (name ≡ codes "ls")
    × HasWord (codes "IMAGE") rows image.now × HasPath rows path.now
    × HasFlag (codes "json") rows json
AsksBy name rows (Stat image path json) = (name ≡ codes "stat")
    × HasWord (codes "IMAGE") rows image.now × HasWord (codes "PATH") rows path.now
    × HasFlag (codes "json") rows json
AsksBy name rows (Tree image path json) = (name ≡ codes "tree")
    × HasWord (codes "IMAGE") rows image.now × HasPath rows path.now
    × HasFlag (codes "json") rows json
AsksBy name rows (Cat image path) = (name ≡ codes "cat") × HasWord (codes "IMAGE") rows image.now
    × HasWord (codes "PATH") rows path.now
AsksBy name rows (Get image path file all) = (name ≡ codes "get")
    × HasWord (codes "IMAGE") rows image.now × HasWord (codes "PATH") rows path.now
    × HasWord (codes "FILE") rows file.now × HasFlag (codes "all") rows all
AsksBy name rows (Put image file path sync no_sync) = (name ≡ codes "put")
    × Changes rows image.now sync no_sync × HasWord (codes "FILE") rows file.now
    × HasWord (codes "PATH") rows path.now × HasFlag (codes "all") rows false
AsksBy name rows (PutFolder image folder path) = (name ≡ codes "put")
    × HasWord (codes "IMAGE") rows image.now × HasWord (codes "FILE") rows folder.now
    × HasWord (codes "PATH") rows path.now × HasFlag (codes "all") rows true
AsksBy name rows (Rm image path all sync no_sync) = (name ≡ codes "rm")
    × Changes rows image.now sync no_sync × HasWord (codes "PATH") rows path.now
    × HasFlag (codes "all") rows all
AsksBy name rows (Mv image from to sync no_sync) = (name ≡ codes "mv")
    × Changes rows image.now sync no_sync × HasWord (codes "FROM") rows from.now
    × HasWord (codes "TO") rows to.now
AsksBy name rows (Cp image from to sync no_sync) = (name ≡ codes "cp")
    × Changes rows image.now sync no_sync × HasWord (codes "FROM") rows from.now
    × HasWord (codes "TO") rows to.now
AsksBy name rows (Ln image path into sync no_sync) = (name ≡ codes "ln")
    × Changes rows image.now sync no_sync × HasWord (codes "OLD") rows path.now
    × HasWord (codes "NEW") rows into.now
AsksBy name rows (Mkdir image path parents sync no_sync) = (name ≡ codes "mkdir")
    × Changes rows image.now sync no_sync × HasWord (codes "PATH") rows path.now
    × HasFlag (codes "parents") rows parents
AsksBy name rows (Rmdir image path sync no_sync) = (name ≡ codes "rmdir")
    × Changes rows image.now sync no_sync × HasWord (codes "PATH") rows path.now
AsksBy name rows (Check image json) = (name ≡ codes "check")
    × HasWord (codes "IMAGE") rows image.now × HasFlag (codes "json") rows json
AsksBy name rows (Recount image sync no_sync) = (name ≡ codes "recount")
    × Changes rows image.now sync no_sync
AsksBy name rows (Mkfs image size ninodes files no_sync) = (name ≡ codes "mkfs")
    × HasWord (codes "IMAGE") rows image.now × HasNumber 32 (codes "SIZE") rows size
    × HasNumber 32 (codes "NINODES") rows ninodes
    × (map (λ file. file.now) files.items ≡ files_in rows)
    × HasFlag (codes "no-sync") rows no_sync

-- the words of `xvnames`
abbrev pub xvnames_words : Wording Request
xvnames_words = record { app = xvnames_app; asks_by = AsksBy }
