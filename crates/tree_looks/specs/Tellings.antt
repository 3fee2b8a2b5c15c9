-- How it is told why a look at files by their paths isn't done.
use Rattle.std.specs.Prelude.{ℕ, List, codes}
use Rattle.cmd.specs.Over.{on_file_telling}
use Rattle.messages.specs.Telling.{Telling, check_telling, file_telling, naming, plain, unwritten}
use Rattle.directories.specs.declared.path.PathFault.{PathFault}
use Rattle.directories.specs.declared.path.PathFault.TheVariants as path
use Rattle.directories.specs.declared.refusal.Refusal.{Refusal}
use Rattle.directories.specs.declared.refusal.Refusal.TheVariants as refusal
use Rattle.tree_looks.specs.declared.faults.GetRefusal.{GetRefusal}
use Rattle.tree_looks.specs.declared.faults.GetRefusal.TheVariants as get
use Rattle.tree_looks.specs.declared.faults.LookRefusal.{LookRefusal}
use Rattle.tree_looks.specs.declared.faults.LookRefusal.TheVariants as look

-- a refusal of the layer `names`
abbrev pub names_told : ℕ → List ℕ → Telling
names_told number name = plain (codes "names") number name

abbrev pub no_tree : Telling
no_tree = names_told 13 (codes "NoTree")

-- of the file of that number
abbrev pub miscounted : ℕ → Telling
miscounted number = naming (codes "names") 21 (codes "Miscounted") number

abbrev pub no_memory : Telling
no_memory = names_told 16 (codes "NoMemory")

abbrev pub refusal_telling : Refusal → Telling
refusal_telling refusal.NotFound = names_told 1 (codes "NotFound")
refusal_telling refusal.NotADirectory = names_told 2 (codes "NotADirectory")
refusal_telling refusal.IsADirectory = names_told 3 (codes "IsADirectory")
refusal_telling refusal.Exists = names_told 4 (codes "Exists")
refusal_telling refusal.NotEmpty = names_told 5 (codes "NotEmpty")
refusal_telling refusal.IsRoot = names_told 6 (codes "IsRoot")
refusal_telling refusal.NotDown = names_told 7 (codes "NotDown")
refusal_telling refusal.Full = names_told 9 (codes "Full")
refusal_telling refusal.NoNumber = names_told 10 (codes "NoNumber")
refusal_telling refusal.NoBlock = names_told 11 (codes "NoBlock")
refusal_telling refusal.IsInside = names_told 14 (codes "IsInside")
refusal_telling refusal.TooManyLinks = names_told 20 (codes "TooManyLinks")

abbrev pub path_telling : PathFault → Telling
path_telling path.NameTooLong = names_told 8 (codes "NameTooLong")
path_telling path.ZeroByte = names_told 15 (codes "ZeroByte")
path_telling path.NoMemory = no_memory

abbrev pub look_telling : LookRefusal → Telling
look_telling (look.Check fault) = check_telling fault
look_telling look.NoTree = no_tree
look_telling (look.Path fault) = path_telling fault
look_telling (look.Refused cause) = refusal_telling cause
look_telling look.NoMemory = no_memory
look_telling look.Output = unwritten

abbrev pub get_telling : GetRefusal → Telling
get_telling (get.Made fault) = file_telling fault
get_telling (get.Of refused) = on_file_telling look_telling refused
get_telling get.BadName = names_told 19 (codes "BadName")
get_telling get.Output = unwritten
