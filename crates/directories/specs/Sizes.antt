-- Files that are no larger than their image may have them.
use Rattle.std.specs.Prelude.{ℕ, ◌≤◌, length}
use Rattle.model.specs.declared.types.image.Form.{Form}
use Rattle.model.specs.Files.{Files, file_in}
use Rattle.model.specs.Layout.{greatest_size}
use Rattle.directories.specs.Trees.{bytes_of}

-- no file is larger than one of an image of that form may be
abbrev pub AreSized : Form → Files → Type 0
AreSized form files = (i : ℕ) → length (bytes_of (file_in files i)) ≤ greatest_size form
