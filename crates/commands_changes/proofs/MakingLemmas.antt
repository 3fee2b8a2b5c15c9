-- An image that there is was made, or was not.
use Rattle.std.proofs.Common.{◌≡◌, ◌∙◌, ℕ, Bool, true, length, ap}
use Rattle.std.proofs.lemmas.List.{length-replicate}
use Rattle.std.specs.Prelude.{replicate, Result, Ok, Err, OnOk, IfOk}
use Rattle.blocks.specs.Block.{zero_block}
use Rattle.blocks.specs.declared.disk.Disk.{Ghosts}
use Rattle.cmd.specs.declared.files.OnFile.TheVariants.{Of}
use Rattle.layout.specs.declared.geometry.MkfsFault.{MkfsFault}
use Rattle.layout.specs.declared.geometry.MkfsFault.TheVariants.{SizeRange, InodeRange, Disk, NoMemory}
use Rattle.model.specs.Layout.{is_size, planned_super}
use Rattle.model.specs.declared.types.image.Form.{Form}
use Rattle.model.specs.declared.types.image.Super.{Super}
use Rattle.offline.specs.Making.{MakesAs}
use Rattle.disk_commands.specs.Looks.{EndsSynced}
use Rattle.commands_changes.specs.Lemmas.Plans.{not_off}
use Rattle.commands_changes.specs.Making.{IsFilledWith, IsNotFilledWith, IsNotMadeIn, IsPlan}

pub unfilled_so : {D N : Type 0} (disk : Ghosts D N) (form : Form) (size n : ℕ) (d : D) → IsPlan size n → disk.image d ≡ replicate size zero_block → (fault : MkfsFault) → IsNotFilledWith disk form size n d fault → IsNotMadeIn (Of fault)
unfilled_so disk form size n d plan zeroes InodeRange why = absurd (cc (plan.0, why.cause.0))
unfilled_so disk form size n d plan zeroes SizeRange why = not_off (is_size size n) size (length (disk.image d)) plan.1 (ap length zeroes ∙ length-replicate size zero_block) why.cause.0
unfilled_so disk form size n d plan zeroes Disk why = tt
unfilled_so disk form size n d plan zeroes NoMemory why = tt

pub filled_so : {D N : Type 0} (disk : Ghosts D N) (form : Form) (size n : ℕ) (sync : Bool) (d now : D) (r : Result Super MkfsFault) → OnOk r (MakesAs disk form size n d now) → OnOk r (sync ≡ true → EndsSynced disk now) → IfOk r (λ fields. fields ≡ planned_super size n)
    → IfOk r (IsFilledWith disk form size n sync d)
filled_so disk form size n sync d now (Ok fields) makes synced is = record { now = now; makes = makes; synced = synced; told = is }
filled_so disk form size n sync d now (Err fault) makes synced is = tt
