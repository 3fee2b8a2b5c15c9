-- The files that a store holds are those that the journal tells.
use Rattle.std.specs.Prelude.{◌≡◌, ℕ, length, List, Option, Some, All}
use Rattle.model.specs.declared.types.operations.Entry.{Entry}
use Rattle.model.specs.declared.types.image.Form.{Form}
use Rattle.model.specs.Files.{Files}
use Rattle.model.specs.Journal.{answered, replay}
use Rattle.history.specs.Keeps.{AreUpTo, HasItsGroup}
use Rattle.history.specs.Open.{Held, AreOpen, AreRising}

-- The answered entries replay to files that the store has, and each other entry is still to get its
-- reply.
pub record Follows (form : Form) (start : Files) (holds : ℕ → Option Held) (fit : Files → Type 0)
    (es : List Entry) : Type 0 where
  pub files : Files
  pub run : replay form start (answered es) ≡ Some files
  pub are : AreOpen (length start) holds es
  pub fits : fit files

-- what is true of every journal, where so many groups were opened
pub record IsJournal (n opened : ℕ) (es : List Entry) : Type 0 where
  pub groups : AreUpTo opened es
  pub rising : AreRising n es
  pub changing : All (HasItsGroup n) es
