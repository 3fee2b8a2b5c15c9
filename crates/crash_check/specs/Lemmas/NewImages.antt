-- What is known of a new image.
use Rattle.std.proofs.Common.{◌≡◌, refl}
use Rattle.model.specs.declared.types.image.Form.TheVariants.{One}
use Rattle.model.specs.Log.{logged_count}
use Rattle.model.specs.Lemmas.MadeImages.{sound-made_image}
use Rattle.crash_check.specs.Images.{new_image}

-- nothing is logged on a new image
pub new_empty : logged_count new_image ≡ 0
new_empty = (sound-made_image One 48 16 refl refl).empty_log
