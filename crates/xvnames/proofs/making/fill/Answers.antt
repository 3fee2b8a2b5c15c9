use Rattle.std.proofs.Common.{◌∙◌, ap, rules, subst}
use Rattle.std.specs.Prelude.{IfErr, OnOk, Result}
use Rattle.calls.specs.Transactions.{HasLabels}
use Rattle.model.specs.Layout.{form_of}
use Rattle.model.specs.Log.{recovered}
use Rattle.model.specs.declared.types.image.Form.{Form}
use Rattle.tree_changes.specs.declared.faults.ChangeRefusal.{ChangeRefusal}
use Rattle.xvnames.specs.Making.{HasAddedTo, IsUnlabelled, files_named, new_labels}
use Rattle.xvnames.specs.Unmade.{IsUnfilledBy}
use Rattle.xvnames.proofs.Added.{new_has_form}
use Rattle.xvnames.proofs.Fits.{empty_unmade}
use Rattle.xvnames.proofs.Stopped.{new_left}
use Rattle.xvnames.proofs.making.fill.Goals as goal

pub returns-in-Ok-default-clause-filled : goal.returns-in-Ok-default-clause-filled
returns-in-Ok-default-clause-filled g c =
    let making = c.args.filled.now.making in
    let plan = c.requires.plan in
    let named = files_named c.args.filled.now.files.now in
    let mid = c.make_empty.new.disk in
    let run = c.fill_tree in
    let now = run.result.1 in
    let image = c.in_ok-fields.ensures.made.image in
    let one_form = ap (λ x. form_of (recovered x)) image ∙ new_has_form making.form making.size making.ninodes plan.0 plan.1 in
    let adds = subst (λ (r : Result (Unit {0}) ChangeRefusal). OnOk r (HasAddedTo g.D.Disk making.sync (form_of (recovered (g.D.Disk.image mid))) named now)) c.in-Ok-default.is-0 run.ensures.filled in
    let labels = subst (λ (r : Result (Unit {0}) ChangeRefusal). OnOk r (IsUnlabelled (recovered (g.D.Disk.image mid)) → HasLabels new_labels (g.D.Disk.image now))) c.in-Ok-default.is-0 run.ensures.labels in
    record {
      empty = mid;
      now = now;
      way = record {
        makes = c.in_ok-fields.ensures.made;
        order = c.make_empty.ensures.order;
        stops = new_left g.D.Disk making.form making.size making.ninodes named mid now plan.0 plan.1 image run.ensures.stops;
      };
      adds = subst (λ (f : Form). HasAddedTo g.D.Disk making.sync f named now) one_form adds;
      labels = labels c.in_ok-fields.ensures.labels;
      told = c.in_ok-fields.ensures.fields;
    }

pub returns-in-Err-default-clause-refused : goal.returns-in-Err-default-clause-refused
returns-in-Err-default-clause-refused g c =
    let making = c.args.filled.now.making in
    let plan = c.requires.plan in
    let named = files_named c.args.filled.now.files.now in
    let mid = c.make_empty.new.disk in
    let run = c.fill_tree in
    let now = run.result.1 in
    let image = c.in_ok-fields.ensures.made.image in
    let one_form = ap (λ x. form_of (recovered x)) image ∙ new_has_form making.form making.size making.ninodes plan.0 plan.1 in
    let why = subst (λ (r : Result (Unit {0}) ChangeRefusal). IfErr r (IsUnfilledBy g.D.Disk making.sync (form_of (recovered (g.D.Disk.image mid))) named mid now)) c.in-Err-default.is-0 run.ensures.refused in
    record {
      empty = mid;
      now = now;
      way = record {
        makes = c.in_ok-fields.ensures.made;
        order = c.make_empty.ensures.order;
        stops = new_left g.D.Disk making.form making.size making.ninodes named mid now plan.0 plan.1 image run.ensures.stops;
      };
      why = subst (λ (f : Form). IsUnfilledBy g.D.Disk making.sync f named mid now c.in-Err-default.refusal) one_form why;
    }

pub returns-in_err-fields-clause-refused : goal.returns-in_err-fields-clause-refused
returns-in_err-fields-clause-refused g c =
    let unmade = empty_unmade g.D.Disk c.args.filled.now.making (files_named c.args.filled.now.files.now) c.args.disk c.make_empty.new.disk c.in_err-fields.field-0.0 c.make_empty.ensures.order c.in_err-fields.ensures.refused in
    search rules
