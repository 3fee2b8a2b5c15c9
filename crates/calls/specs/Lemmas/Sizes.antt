-- Files of a known size.
use Rattle.std.proofs.Common.{◌≡◌, ◌≢◌, ℕ, Option, Some, None}
use Rattle.model.specs.declared.types.image.File.{File}
use Rattle.calls.specs.Files.{size_of}

-- what has a size is there
pub there_of_size : (o : Option File) (n : ℕ) → size_of o ≡ Some n → o ≢ None
there_of_size None n h is = cc h
there_of_size (Some file) n h is = cc is
