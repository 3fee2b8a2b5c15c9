-- What is told of files that were found.
use Rattle.std.proofs.Common.{◌≡◌, ℕ, List, refl, sym, subst}
use Rattle.directories.specs.TreeChanges.{directory_file, empty_file}
use Rattle.model.specs.Files.{Files}
use Rattle.mounting.specs.Tells.{AddsEntry, TellsEntry, TellsNamed}
use Rattle.names.specs.declared.asking.Found.{Found}
use Rattle.names.specs.Making.{MakesDirectoryIn, MakesIn}
use Rattle.names.specs.Numbered.{LooksIn}

-- by a name
pub told_named : (files new : Files) (from : ℕ) (name n old out : List ℕ) (found : Found) → name ≡ n → LooksIn from name found files new → AddsEntry found old out → TellsNamed new from n old out
told_named files new from name n old out found same looks adds =
    subst (λ (m : List ℕ). TellsNamed new from m old out) same
    (subst (λ (f : Files). TellsNamed f from name old out) (sym looks.same) (looks.number, (looks.led, (found, (looks.found_is, adds)))))

-- a new file
pub told_made : (files new : Files) (from number : ℕ) (name old out : List ℕ) → MakesIn from name number files new → AddsEntry (record { number = number; kind = 2; links = 1; size = 0 }) old out → TellsEntry new number old out
told_made files new from number name old out makes adds =
    (record { number = number; kind = 2; links = 1; size = 0 }, (record { is = refl; file = empty_file 2; there = makes.there; kind = refl; links = refl; size = refl }, adds))

-- a new directory
pub told_directory : (files new : Files) (from number : ℕ) (name old out : List ℕ) → MakesDirectoryIn from name number files new → AddsEntry (record { number = number; kind = 1; links = 1; size = 32 }) old out
    → TellsEntry new number old out
told_directory files new from number name old out makes adds =
    (record { number = number; kind = 1; links = 1; size = 32 }, (record { is = refl; file = directory_file number from; there = makes.there; kind = refl; links = refl; size = refl }, adds))
