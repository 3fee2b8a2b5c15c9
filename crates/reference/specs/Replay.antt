-- How far a run of operations comes.
use Rattle.std.specs.Prelude.{◌≡◌, List, [], ◌∷◌, ◌++◌, Option, None, Some}
use Rattle.model.specs.declared.types.operations.Entry.{Entry}
use Rattle.model.specs.declared.types.image.Form.{Form}
use Rattle.model.specs.Files.{Files}
use Rattle.model.specs.Journal.{after_answer, replay}

-- what comes of the next files, and these where there are none
abbrev pub or_stay : Option Files → Files → (Files → Files) → Files
or_stay None files f = files
or_stay (Some next) files f = f next

-- the files after the entries before the first that can't be, and after all where there is none
abbrev pub reached : Form → Files → List Entry → Files
reached form files [] = files
reached form files (e ∷ es) = or_stay (after_answer form files e.op e.reply) files
    (λ next. reached form next es)

-- the files after some first ones of the entries
pub record IsOnTheWay (form : Form) (files : Files) (entries : List Entry)
    (new : Files) : Type 0 where
  pub before : List Entry
  pub rest : List Entry
  pub parts : entries ≡ before ++ rest
  pub done : replay form files before ≡ Some new
