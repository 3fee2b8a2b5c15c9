use Rattle.std.proofs.Common.{Bool, ℕ, List, inl, refl, subst}
use Rattle.std.specs.Io.KnownBytes.{Appends}
use Rattle.std.proofs.lemmas.Result.{err_from_is_err_and}
use Rattle.cmd.specs.Lemmas.Disks.{file_disk}
use Rattle.commands_changes.specs.Rescues.{HasFilledRescue, HasMadeRescue, HasNotOpened}
use Rattle.messages.specs.Output.{rescued_text}
use Rattle.commands.specs.Lemmas.Ended.{where_made, where_refused}
use Rattle.commands_changes.proofs.Rescuing.{unrescued}
use Rattle.commands_changes.proofs.rescues.rescue_from.Given.{Over}
use Rattle.commands_changes.proofs.rescues.rescue_from.Goals.{After-print_rescued}
use Rattle.commands_changes.proofs.rescues.rescue_from.Goals as goal

pub returns-in_err-plan_rescue-clause-refused : goal.returns-in_err-plan_rescue-clause-refused
returns-in_err-plan_rescue-clause-refused g c =
    let why : HasNotOpened g.R.File.Read.remaining file_disk c.in_err-plan_rescue.field-0.0 = record {
      opened = c.args.disk.now;
      read = c.plan_rescue.new.disk;
      is = c.requires;
      why = c.in_err-plan_rescue.ensures.refused;
    } in
    let p = err_from_is_err_and c.from_residual.result c.from_residual.ensures.1 in
    rw (p.1, p.2) (inl why, refl {a = c.args.out.now})

pub returns-in_err-told-clause-refused : goal.returns-in_err-told-clause-refused
returns-in_err-told-clause-refused g c =
    let told = unrescued g.R.File.Read.remaining file_disk c.args.disk.now c.plan_rescue.new.disk c.fill_file-rescued.new.disk _ c.requires c.plan_rescue.ensures.reads refl c.args.target.now.sync c.in_err-told.field-0.0 (where_refused c.fill_file-rescued.result c.in_err-told.field-0.0 _ c.in_err-told.was c.fill_file-rescued.ensures.refused) in
    let p = err_from_is_err_and c.from_residual-in_err-told.result c.from_residual-in_err-told.ensures.1 in
    rw (p.1, p.2) told

-- what is known of a rescue that was made
module _ (g : Over) (c : After-print_rescued g) where
  made : HasMadeRescue g.R.File.Read.remaining file_disk c.args.target.now.sync c.in_ok-told.told
  made = record {
    opened = c.args.disk.now;
    read = c.plan_rescue.new.disk;
    is = c.requires;
    reads = c.plan_rescue.ensures.reads;
    filled = subst (λ (sync : Bool). HasFilledRescue file_disk sync c.plan_rescue.new.disk c.in_ok-told.told) c.hold.ensures.sync (where_made c.fill_file-rescued.result c.in_ok-told.told _ c.in_ok-told.was c.fill_file-rescued.ensures.filled);
  }

pub returns-in-Ok-clause-rescued : goal.returns-in-Ok-clause-rescued
returns-in-Ok-clause-rescued g c =
    let here = (goal.at.returns-in-Ok-clause-rescued g c).After-print_rescued in
    record {
      told = c.in_ok-told.told;
      made = made g here;
      printed = subst (λ (l : List ℕ). Appends (g.O.Write.contents c.args.out.now) (g.O.Write.contents c.print_rescued.new.out) (rescued_text c.in_ok-told.told.clean.items l)) c.as_slice-2.ensures.value
          (subst (λ (l : List ℕ). Appends (g.O.Write.contents c.args.out.now) (g.O.Write.contents c.print_rescued.new.out) (rescued_text l c.as_slice-2.result.now)) c.as_slice.ensures.value c.in-Ok.ensures.ok);
    }

pub returns-clause-refused : goal.returns-clause-refused
returns-clause-refused g c = (c.in_ok-told.told, made g (goal.at.returns-clause-refused g c).After-print_rescued)
