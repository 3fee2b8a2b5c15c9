-- The file of a number of an image, as a reader finds it.
use Rattle.std.proofs.Common.{◌≡◌, ◌<◌, ℕ, arith}
use Rattle.blocks.specs.Disk.{Image}
use Rattle.model.specs.Common.{file_in, files_of}
use Rattle.model.specs.Files.{file_at}
use Rattle.model.specs.Lemmas.FileNumbers.{file_in-files_of}
use Rattle.model.specs.Log.{recovered}
use Rattle.offline.specs.Lemmas.Checked.{count_recovered}
use Rattle.offline.specs.Recovered.{IsRecoveredOf}
use Rattle.offline.specs.declared.recovered.Recovered.{Recovered}

pub found_at : (x : Image) (image : Recovered) (i : ℕ) → IsRecoveredOf x image → i < image.sup.ninodes → file_in (files_of (recovered x)) i ≡ file_at (recovered x) i
found_at x image i is low = file_in-files_of (recovered x) i (omega (arith, low, count_recovered x image is))
