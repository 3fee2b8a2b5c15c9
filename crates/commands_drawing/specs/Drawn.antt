-- What became of a picture that was to be drawn into the file of a path.
use Rattle.std.specs.Prelude.{ℕ, List, Option, codes}
use Rattle.std.specs.Io.KnownBytes.{Appends}
use Rattle.messages.specs.Telling.{Telling, file_telling, plain}
use Rattle.commands_drawing.specs.declared.drawing.PictureFault.{PictureFault}
use Rattle.commands_drawing.specs.declared.drawing.PictureFault.TheVariants as fault

-- how the refusals are told
abbrev pub picture_telling : PictureFault → Telling
picture_telling (fault.File f) = file_telling f
picture_telling fault.Write = plain (codes "picture") 3 (codes "Write")

-- a file was made, and this text written to it, as far as the file tells of its bytes
pub record IsDrawn {F : Type 0} (contents : F → Option (List ℕ)) (text : List ℕ) : Type 0 where
  pub made : F
  pub written : F
  pub appends : Appends (contents made) (contents written) text
