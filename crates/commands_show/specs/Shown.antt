-- What became of the image in a file whose blocks were drawn into another.
use Rattle.std.specs.Prelude.{ℕ, false, List, Option}
use Rattle.cmd.specs.Lemmas.Disks.{file_disk}
use Rattle.cmd.specs.Opened.{OpensDisk}
use Rattle.cmd.specs.Over.{IsRefusedOn, on_file_telling}
use Rattle.inspect.specs.Causes.{IsUndrawn}
use Rattle.inspect.specs.Cells.{cells_of}
use Rattle.inspect.specs.Looks.{HasDrawn}
use Rattle.inspect.specs.Refusals.{show_telling}
use Rattle.messages.specs.Telling.{Telling}
use Rattle.pictures.specs.Cells.{blocks_text}
use Rattle.commands_drawing.specs.Drawn.{IsDrawn, picture_telling}
use Rattle.commands_show.specs.declared.showing.ShowPictureRefusal.{ShowPictureRefusal}
use Rattle.commands_show.specs.declared.showing.ShowPictureRefusal.TheVariants.{Show, Picture}

-- how the refusals are told
abbrev pub shown_telling : ShowPictureRefusal → Telling
shown_telling (Show refusal) = on_file_telling show_telling refusal
shown_telling (Picture f) = picture_telling f

-- its blocks were printed, and a file got their picture
abbrev pub IsShownInto : {F : Type 0} → (F → Option (List ℕ)) → (F → Option (List ℕ))
    → Option (List ℕ) → Option (List ℕ) → Type 0
IsShownInto remaining contents old new = OpensDisk remaining file_disk false
    (λ d e. HasDrawn file_disk false d e old new
    × IsDrawn contents (blocks_text (cells_of (file_disk.image d))))

-- why none did: they weren't printed, where `none` says that nothing was, or they were
abbrev pub IsUnshown : {F : Type 0} → (F → Option (List ℕ)) → Option (List ℕ) → Option (List ℕ)
    → Type 0 → ShowPictureRefusal → Type 0
IsUnshown remaining old new none (Show refusal) =
    IsRefusedOn remaining false none (λ d e. IsUndrawn file_disk d e none) refusal
IsUnshown remaining old new none (Picture f) =
    OpensDisk remaining file_disk false (λ d e. HasDrawn file_disk false d e old new)
