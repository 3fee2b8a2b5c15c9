-- What a file of a tree is.
use Rattle.std.specs.Prelude.{◌≡◌, ℕ, List, length, Some, Ok}
use Rattle.model.specs.declared.types.image.File.{File}
use Rattle.model.specs.Files.{Files, file_in}
use Rattle.names.specs.declared.asking.Found.{Found}
use Rattle.directories.specs.Trees.{root}
use Rattle.directories.specs.Walks.{walked}

-- the type, the links and the length of the file of a number
pub record IsFound (files : Files) (number : ℕ) (found : Found) : Type 0 where
  pub is : found.number ≡ number
  pub file : File
  pub there : file_in files number ≡ Some file
  pub kind : found.kind ≡ file.kind
  pub links : found.links ≡ file.links
  pub size : found.size ≡ length file.bytes

-- names lead to a file of that number, type, links and length, and no file changes
pub record Looks (names : List (List ℕ)) (found : Found) (files new : Files) : Type 0 where
  pub same : new ≡ files
  pub number : ℕ
  pub led : walked files root names ≡ Ok number
  pub found_is : IsFound files number found
