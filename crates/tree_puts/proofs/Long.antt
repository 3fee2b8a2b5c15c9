-- An image that recovery leaves sound is long enough to be written anew.
use Rattle.std.proofs.Common.{◌≤◌, arith, length}
use Rattle.blocks.specs.Disk.{Image}
use Rattle.model.specs.Lemmas.Log.{length-recovered}
use Rattle.model.specs.Lemmas.Soundness.{long_geometry}
use Rattle.model.specs.Log.{recovered}
use Rattle.model.specs.Soundness.{IsSound}

pub two_blocks : (x : Image) → IsSound (recovered x) → 2 ≤ length x
two_blocks x sound = let long = long_geometry (recovered x) sound.geometry in omega (arith, long, length-recovered x)
