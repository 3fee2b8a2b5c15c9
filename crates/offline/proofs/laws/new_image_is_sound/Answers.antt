use Rattle.model.specs.Lemmas.MadeImages.{sound-made_image, files-made_image, file_count-made_image}
use Rattle.offline.proofs.laws.new_image_is_sound.Goals as goal

pub returns : goal.returns
returns c = λ form size n count fits. record {
  sound = sound-made_image form size n count fits;
  files = files-made_image form size n count fits;
  none = file_count-made_image form size n count fits;
}
