-- What the commands print.
use Rattle.std.specs.Prelude.{ℕ, List, ◌++◌, length, codes, decimal}
use Rattle.std.specs.List.{flat_map}
use Rattle.messages.specs.Telling.{check_telling, telling_text}
use Rattle.model.specs.declared.types.fault.CheckFault.{CheckFault}
use Rattle.model.specs.declared.types.image.Super.{Super}

-- the numbers of a new image
abbrev pub numbers_text : Super → List ℕ
numbers_text s =
    codes "size " ++ decimal s.size ++ codes " ninodes " ++ decimal s.ninodes ++ codes " nblocks "
    ++ decimal s.nblocks ++ codes "\n"

-- what a check found
abbrev pub report_text : ℕ → ℕ → List ℕ
report_text logged files =
    codes "sound log " ++ decimal logged ++ codes " files " ++ decimal files ++ codes "\n"

-- a fault of an image
abbrev pub fault_line : CheckFault → List ℕ
fault_line fault = telling_text (check_telling fault) ++ codes "\n"

-- how many there are
abbrev pub fault_count_text : ℕ → List ℕ
fault_count_text count = codes "faults " ++ decimal count ++ codes "\n"

-- faults of an image, a line each, and how many there are
abbrev pub faults_text : List CheckFault → List ℕ
faults_text faults = flat_map fault_line faults ++ fault_count_text (length faults)

-- how many blocks were copied home
abbrev pub copied_text : ℕ → List ℕ
copied_text copied = codes "recovered " ++ decimal copied ++ codes "\n"

-- how many blocks a run wrote, and how many groups are committed
abbrev pub counts_text : ℕ → ℕ → List ℕ
counts_text writes committed =
    codes "writes " ++ decimal writes ++ codes "\ncommitted " ++ decimal committed ++ codes "\n"

-- how many images the stops of a script left
abbrev pub images_text : ℕ → List ℕ
images_text images = codes "images " ++ decimal images ++ codes "\n"

-- how many files were copied
abbrev pub files_text : ℕ → List ℕ
files_text files = codes "copied " ++ decimal files ++ codes "\n"

-- the number of a file
abbrev pub number_text : ℕ → List ℕ
number_text number = decimal number ++ codes "\n"

-- a number whose file was rescued, and one whose file was left out
abbrev pub rescued_line : ℕ → List ℕ
rescued_line number = decimal number ++ codes " copied\n"

abbrev pub left_line : ℕ → List ℕ
left_line number = decimal number ++ codes " left\n"

-- which files were rescued, which were left out, and how many of each there are
abbrev pub rescued_text : List ℕ → List ℕ → List ℕ
rescued_text clean left =
    flat_map rescued_line clean ++ flat_map left_line left ++ codes "rescued "
    ++ decimal (length clean) ++ codes " left " ++ decimal (length left) ++ codes "\n"
