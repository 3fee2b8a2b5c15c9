-- Files have no flaw exactly where they are a tree whose counts of links are right.
use Rattle.std.specs.Prelude.{◌≡◌, []}
use Rattle.model.specs.Files.{Files}
use Rattle.directories.specs.Counts.{AreCounted}
use Rattle.directories.specs.Flaws.{flaws_of}
use Rattle.directories.specs.Trees.{IsTree}

-- Files without a flaw are one,
abbrev pub NoFlawIsTree : Type 0
NoFlawIsTree = (files : Files) → flaws_of files ≡ [] → IsTree files × AreCounted files

-- and one has none.
abbrev pub TreeHasNoFlaw : Type 0
TreeHasNoFlaw = (files : Files) → IsTree files → AreCounted files → flaws_of files ≡ []
