use Rattle.std.proofs.Common.{◌∙◌, ap, sym, subst}
use Rattle.std.proofs.lemmas.Result.{IfErr-weaker, on_ok_weaker}
use Rattle.blocks.specs.Disk.{Image}
use Rattle.calls.specs.Transactions.{HasLabels}
use Rattle.model.specs.Files.{files_of}
use Rattle.model.specs.Layout.{form_of}
use Rattle.model.specs.Log.{recovered}
use Rattle.model.specs.Soundness.{IsSound}
use Rattle.directories.specs.Counts.{AreCounted}
use Rattle.names.specs.Ready.{HasNoFile}
use Rattle.directories.specs.Trees.{IsTree}
use Rattle.transfer.specs.Ending.{SyncsIf}
use Rattle.xvnames.specs.Making.{files_named, new_labels}
use Rattle.xvnames.specs.Unmade.{IsUngrown, IsUnfilledBy, IsUnsynced}
use Rattle.xvnames.proofs.Fits.{of_sync, of_tree}
use Rattle.xvnames.proofs.Added.{form_opened, labels_opened, synced_image}
use Rattle.xvnames.proofs.Stopped.{ended_left, opened_left, unopened_left}
use Rattle.xvnames.proofs.making.fill_tree.Goals as goal

pub grow-requires-clause-none : goal.grow-requires-clause-none
grow-requires-clause-none g c =
    subst (λ k. HasNoFile (files_of (g.D.Disk.image k.store.volume.device))) (sym c.over-tree.ensures.kernel)
    (subst (λ (x : Image). HasNoFile (files_of x)) (sym c.in-Ok.ensures.opened.image) c.requires)

pub returns-in-Err-clause-stops : goal.returns-in-Err-clause-stops
returns-in-Err-clause-stops g c =
    unopened_left g.D.Disk (files_named c.args.files.now) c.args.disk c.in-Err.disk c.in-Err.fault c.in-Err.ensures.refused

pub returns-in-Ok-grow-clause-filled : goal.returns-in-Ok-grow-clause-filled
returns-in-Ok-grow-clause-filled g c =
    let named = files_named c.args.files.now in
    let form = form_of (recovered (g.D.Disk.image c.args.disk)) in
    let dev = c.into_disk-disk.result in
    let now = c.sync_if-synced.new.disk in
    let grown = form_opened g.D.Disk named c.args.disk c.in-Ok.kernel c.over-tree.result.kernel c.grow.new.tree.kernel dev c.in-Ok.ensures.opened c.over-tree.ensures.kernel c.into_disk-disk.ensures.disk c.in-Ok-grow.ensures.grown in
    on_ok_weaker c.sync_if-synced.result (λ (syncs : SyncsIf c.args.sync g.D.Disk dev now).
    let ready = c.in-Ok-grow.ensures.done in
    let same = sym (synced_image g.D.Disk c.args.sync dev now syncs ∙ ap (λ (d : _). g.D.Disk.image d) c.into_disk-disk.ensures.disk) in
    record {
      unsynced = dev;
      grown = grown;
      syncs = syncs;
      sound = subst (λ (x : Image). IsSound x) same ready.sound;
      tree = subst (λ (x : Image). IsTree (files_of x)) same ready.tree;
      counted = subst (λ (x : Image). AreCounted (files_of x)) same ready.counted;
    }) c.sync_if-synced.ensures.syncs

pub returns-in-Ok-grow-clause-labels : goal.returns-in-Ok-grow-clause-labels
returns-in-Ok-grow-clause-labels g c =
    let d = c.args.disk in
    let dev = c.into_disk-disk.result in
    let now = c.sync_if-synced.new.disk in
    on_ok_weaker c.sync_if-synced.result (λ (syncs : SyncsIf c.args.sync g.D.Disk dev now) fresh.
    subst (λ (x : Image). HasLabels new_labels x) (sym (synced_image g.D.Disk c.args.sync dev now syncs))
    (labels_opened g.D.Disk d c.in-Ok.kernel c.over-tree.result.kernel c.grow.new.tree.kernel (g.D.Disk.image dev) c.in-Ok.ensures.opened c.over-tree.ensures.kernel c.grow.ensures.stays
    (c.into_disk-disk.ensures.labels c.in-Ok-grow.ensures.done) fresh)) c.sync_if-synced.ensures.syncs

pub returns-in-Ok-grow-clause-refused : goal.returns-in-Ok-grow-clause-refused
returns-in-Ok-grow-clause-refused g c =
    let named = files_named c.args.files.now in
    let form = form_of (recovered (g.D.Disk.image c.args.disk)) in
    let dev = c.into_disk-disk.result in
    let now = c.sync_if-synced.new.disk in
    let grown = form_opened g.D.Disk named c.args.disk c.in-Ok.kernel c.over-tree.result.kernel c.grow.new.tree.kernel dev c.in-Ok.ensures.opened c.over-tree.ensures.kernel c.into_disk-disk.ensures.disk c.in-Ok-grow.ensures.grown in
    IfErr-weaker c.sync_if-synced.result (IsUnsynced g.D.Disk c.args.sync dev now) (IsUnfilledBy g.D.Disk c.args.sync form named c.args.disk now)
    (λ r fails. of_sync g.D.Disk c.args.sync form named c.args.disk dev now r grown fails) c.sync_if-synced.ensures.refused

pub returns-in-Ok-grow-clause-stops : goal.returns-in-Ok-grow-clause-stops
returns-in-Ok-grow-clause-stops g c =
    ended_left g.D.Disk (files_named c.args.files.now) c.args.disk c.in-Ok.kernel c.over-tree.result.kernel c.grow.new.tree.kernel c.in-Ok.ensures.opened c.over-tree.ensures.kernel (c.grow.ensures.leaves c.over-tree.ensures.some)
    c.into_disk-disk.result c.sync_if-synced.new.disk c.into_disk-disk.ensures.disk c.sync_if-synced.ensures.time

pub returns-in-Err-grow-clause-refused : goal.returns-in-Err-grow-clause-refused
returns-in-Err-grow-clause-refused g c =
    let named = files_named c.args.files.now in
    let form = form_of (recovered (g.D.Disk.image c.args.disk)) in
    of_tree g.D.Disk c.args.sync form named c.args.disk c.into_disk.result c.in-Err-grow.refusal c.in-Err-grow.ensures.cause
    (record {
      first = c.in-Ok.kernel;
      opened = c.in-Ok.ensures.opened;
      last = c.grow.new.tree.kernel;
      why = subst (λ k. IsUngrown g.D.Disk named k c.grow.new.tree.kernel c.in-Err-grow.refusal) c.over-tree.ensures.kernel c.in-Err-grow.ensures.refused;
      device = sym c.into_disk.ensures.disk;
    })

pub returns-in-Err-grow-clause-stops : goal.returns-in-Err-grow-clause-stops
returns-in-Err-grow-clause-stops g c =
    opened_left g.D.Disk (files_named c.args.files.now) c.args.disk c.in-Ok.kernel c.over-tree.result.kernel c.grow.new.tree.kernel c.in-Ok.ensures.opened c.over-tree.ensures.kernel (c.grow.ensures.leaves c.over-tree.ensures.some)
    c.into_disk.result c.into_disk.ensures.disk
