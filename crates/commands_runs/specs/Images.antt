-- The image of a replay's disk as it was opened.
use Rattle.blocks.specs.Disk.{Image}
use Rattle.commands.specs.Copied.{copied_image}
use Rattle.crash_check.specs.Images.{new_image}
use Rattle.commands_runs.specs.declared.origin.Opened.{Opened}
use Rattle.commands_runs.specs.declared.origin.Opened.TheVariants.{Copied, New}

-- that which was copied, or a new one
abbrev pub opened_image : Opened → Image
opened_image (Copied copied) = copied_image copied
opened_image New = new_image
