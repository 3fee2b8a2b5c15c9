use Rattle.model.specs.Lemmas.Frames.{frames_contents}
use Rattle.model.proofs.laws.frames_contents.Goals as goal

pub returns : goal.returns
returns c = frames_contents
