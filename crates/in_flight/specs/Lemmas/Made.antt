-- A new image stands for no file.
use Rattle.std.proofs.Common.{replicate, refl, subst, None}
use Rattle.in_flight.specs.Common.{Files, Fits, made_image, One}
use Rattle.model.specs.Lemmas.MadeImages.{is_image-made_image, sound-made_image, files-made_image}
use Rattle.in_flight.specs.Laws.{MadeFits}
use Rattle.in_flight.specs.Lemmas.Soundly.{fits_sound}

pub fits_made : MadeFits
fits_made form size inode_count counts fits =
    let x = made_image form size inode_count in
    subst (λ (m : Files). Fits m x) (files-made_image form size inode_count counts fits)
    (fits_sound x (is_image-made_image form size inode_count) (sound-made_image form size inode_count counts fits))

-- so there are images that stand for files: one of 400 blocks with 32 numbers
pub witness : Fits (replicate 32 None) (made_image One 400 32)
witness = fits_made One 400 32 refl refl
