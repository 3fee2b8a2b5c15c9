use Rattle.std.proofs.lemmas.Map.Keys.{le_from_is_le}
use Rattle.std.proofs.Common.{None, rules, refl, replicate, ◌≡◌, ◌≤◌, ℕ, ◌∙◌, sym, ap, subst, length, arith}
use Rattle.kernel.specs.Common.{ArePorts, files_of, form_of, fresh_volume, fresh_world, from_sync_behind, if_synced_behind, Image, inode_count_of, is_lawful_super, IsCalm, IsRight, IsSound, LeavesFromSync, length-recovered, length-replicate, new_log, no_task, recovered, RecoversAs, StoreState, Super, verdict_sound, VolumeState, World}
use Rattle.inodes.specs.Store.{FitsFiles}
use Rattle.kernel.proofs.Valid.{agreed_now}
use Rattle.kernel.proofs.AtOpening.{right_new}
use Rattle.kernel.proofs.Openings.{super_size, lawful_here, recover_cause, syncs_at_open, opened_form, opened_numbers, empty_left, recover_faults, recover_unwritten, store_is}
use Rattle.kernel.proofs.Ports.{ports_new}
use Rattle.kernel.proofs.Since.{since_new}
use Rattle.kernel.specs.Lemmas.Openings.{lawful_super}
use Rattle.kernel.proofs.stepping.Kernel.open.Goals as goal

pub take_memory-requires : goal.take_memory-requires
take_memory-requires g c = lawful_here (g.D.Disk.image c.args.disk) c.in-Ok.report.sup c.in-Ok.ensures.ok c.in-Ok.ensures.report.sup

pub recover-requires : goal.recover-requires
recover-requires g c =
    ap (λ x. is_lawful_super c.in-Ok.report.sup (length x)) c.check.ensures.reads.image ∙ lawful_super (g.D.Disk.image c.args.disk) c.in-Ok.report.sup c.in-Ok.ensures.ok c.in-Ok.ensures.report.sup

pub open-requires-clause-memory : goal.open-requires-clause-memory
open-requires-clause-memory g c =
    let x = g.D.Disk.image c.args.disk in
    let size : length (g.D.Disk.image c.recover.new.disk) ≡ length x = ap (λ (y : Image). length y) c.in_default-recover.ensures.ok.image ∙ length-recovered (g.D.Disk.image c.check.new.disk) ∙ ap (λ (y : Image). length y) c.check.ensures.reads.image in
    let memory = c.in-Ok-take_memory.ensures.memory in
    record { cache = memory.cache; log = memory.log ∙ ap new_log (super_size x c.in-Ok.report.sup c.in-Ok.ensures.ok c.in-Ok.ensures.report.sup ∙ sym size) }

pub open-store-requires-clause-sound : goal.open-store-requires-clause-sound
open-store-requires-clause-sound g c =
    let x = g.D.Disk.image c.args.disk in
    let left : g.D.Disk.image c.recover.new.disk ≡ recovered x = c.in_default-recover.ensures.ok.image ∙ ap recovered c.check.ensures.reads.image in
    subst IsSound (sym (ap (λ (v : VolumeState _). g.D.Disk.image v.device) c.open.ensures.volume ∙ left)) (verdict_sound x c.in-Ok.ensures.ok).2

pub open-store-requires-clause-few : goal.open-store-requires-clause-few
open-store-requires-clause-few g c =
    let few : c.args.processes ≤ 32 = omega (arith, c.new.ensures.end, le_from_is_le c.args.processes _ c.if-not-contains.ensures.cases.1) in
    omega (arith, few, (ap (λ (ts : _). length ts) c.in-Ok-take_memory.ensures.tasks ∙ length-replicate c.args.processes no_task))

pub open-store-requires-clause-numbers : goal.open-store-requires-clause-numbers
open-store-requires-clause-numbers g c =
    let x = g.D.Disk.image c.args.disk in
    let left : g.D.Disk.image c.recover.new.disk ≡ recovered x = c.in_default-recover.ensures.ok.image ∙ ap recovered c.check.ensures.reads.image in
    opened_numbers x (g.D.Disk.image c.open.result.device) c.in-Ok.report.sup c.in-Ok.ensures.ok c.in-Ok.ensures.report.sup (ap (λ (v : VolumeState _). g.D.Disk.image v.device) c.open.ensures.volume ∙ left)

pub open-store-requires-clause-form : goal.open-store-requires-clause-form
open-store-requires-clause-form g c =
    let x = g.D.Disk.image c.args.disk in
    let left : g.D.Disk.image c.recover.new.disk ≡ recovered x = c.in_default-recover.ensures.ok.image ∙ ap recovered c.check.ensures.reads.image in
    opened_form x (g.D.Disk.image c.open.result.device) c.in-Ok.report.form c.in-Ok.ensures.ok c.in-Ok.ensures.report.form (ap (λ (v : VolumeState _). g.D.Disk.image v.device) c.open.ensures.volume ∙ left)

pub invariant_of-result : goal.invariant_of-result
invariant_of-result g c =
    let x = g.D.Disk.image c.args.disk in
    let d = c.recover.new.disk in
    let s = c.open-store.result in
    let left : g.D.Disk.image d ≡ recovered x = c.in_default-recover.ensures.ok.image ∙ ap recovered c.check.ensures.reads.image in
    let volume : s.volume ≡ fresh_volume g.D.Disk.image d = ap (λ (o : StoreState _). o.volume) c.open-store.ensures.store ∙ c.open.ensures.volume in
    let device : s.volume.device ≡ d = ap (λ (v : VolumeState _). v.device) volume in
    let opening : c.of-opening.result.value ≡ d = c.of-opening.ensures in
    let tasks : s.tasks ≡ replicate c.args.processes no_task = ap (λ (o : StoreState _). o.tasks) c.open-store.ensures.store ∙ c.in-Ok-take_memory.ensures.tasks in
    let some : 1 ≤ c.args.processes = omega (arith, c.new.ensures.start, le_from_is_le _ c.args.processes c.if-not-contains.ensures.cases.0) in
    let few : c.args.processes ≤ 32 = omega (arith, c.new.ensures.end, le_from_is_le c.args.processes _ c.if-not-contains.ensures.cases.1) in
    let now : g.D.Disk.image s.volume.device ≡ recovered x = ap g.D.Disk.image device ∙ left in
    let well : s.volume.fault ≡ None = ap (λ (v : VolumeState _). v.fault) volume in
    let fits = subst (λ (v : VolumeState _). FitsFiles g.D.Disk.image s (files_of (g.D.Disk.image v.device))) (sym (ap (λ (o : StoreState _). o.volume) c.open-store.ensures.store)) c.open-store.ensures.files in
    let world : c.in-Ok-take_memory.memory.processes ≡ fresh_world c.args.processes = c.in-Ok-take_memory.ensures.processes in
    let right = subst (λ (w : World). IsRight g.D.Disk c.of-opening.result.value s w) (sym world)
    (right_new g.D.Disk c.of-opening.result.value s c.args.processes (volume ∙ ap (fresh_volume g.D.Disk.image) (sym device)) (opening ∙ sym device) tasks
    (ap (λ (o : StoreState _). o.table.inode_count) c.open-store.ensures.store ∙ opened_numbers x (g.D.Disk.image s.volume.device) c.in-Ok.report.sup c.in-Ok.ensures.ok c.in-Ok.ensures.report.sup now)
    some few (subst IsSound (sym now) (verdict_sound x c.in-Ok.ensures.ok).2) (empty_left x (g.D.Disk.image s.volume.device) now) (agreed_now g.D.Disk.image s well c.known.ensures.volume c.known.ensures.store) fits) in
    record {
      right = right;
      since = since_new g.D.Disk c.of-opening.result.value s c.in-Ok-take_memory.memory.processes (opening ∙ sym device) right c.known.ensures.survives;
      ports = subst (λ (w : World). ArePorts g.I.Intake g.H.Herald c.args.intake c.args.herald s.volume.log.committed w) (sym world)
          (ports_new g.I.Intake g.H.Herald c.args.intake c.args.herald s.volume.log.committed c.args.processes c.requires.served (c.requires.told ∙ sym (ap (λ (v : VolumeState _). v.log.committed) volume)) c.requires.fits);
    }

pub open-requires-clause-settled : goal.open-requires-clause-settled
open-requires-clause-settled g c = c.in_default-recover.ensures.ok.settles.settled

pub returns-in-Err-recover-clause-refused : goal.returns-in-Err-recover-clause-refused
returns-in-Err-recover-clause-refused g c =
    let refused = c.in-Err-recover.ensures.refused in
    let reads = c.check.ensures.reads in
    let cause = recover_cause ℕ g.D.Disk c.args.disk c.check.new.disk c.recover.new.disk c.in-Err-recover.fault c.in-Ok.ensures.ok reads c.in-Ok.ensures.faults refused in
    record {
      cause = (search rules, search rules, c.in-Ok.ensures.ok, cause);
      unwritten = recover_unwritten ℕ g.D.Disk c.args.disk c.check.new.disk c.recover.new.disk c.in-Err-recover.fault reads cause refused.memory;
      faults = recover_faults ℕ g.D.Disk c.args.disk c.check.new.disk c.recover.new.disk c.in-Err-recover.fault c.in-Ok.ensures.faults cause refused.memory;
      name = c.recover.ensures.name ∙ reads.name;
      leaves = if_synced_behind g.D.Disk c.args.disk c.check.new.disk c.recover.new.disk reads c.recover.ensures.stops.leaves;
      plain = λ free. c.recover.ensures.stops.plain (ap g.D.Disk.holding reads.name ∙ free) ∙ reads.syncs;
    }

pub returns-clause-opened : goal.returns-clause-opened
returns-clause-opened g c =
    let x = g.D.Disk.image c.args.disk in
    let d = c.recover.new.disk in
    let opening : c.of-opening.result.value ≡ d = c.of-opening.ensures in
    let some : 1 ≤ c.args.processes = omega (arith, c.new.ensures.start, le_from_is_le _ c.args.processes c.if-not-contains.ensures.cases.0) in
    let few : c.args.processes ≤ 32 = omega (arith, c.new.ensures.end, le_from_is_le c.args.processes _ c.if-not-contains.ensures.cases.1) in
    record {
      some = some;
      few = few;
      sound = c.in-Ok.ensures.ok;
      opening = ap g.D.Disk.image opening ∙ (c.in_default-recover.ensures.ok.image ∙ ap recovered c.check.ensures.reads.image);
      store = c.open-store.ensures.store ∙ store_is c.open.result (fresh_volume g.D.Disk.image c.of-opening.result.value) c.in-Ok-take_memory.memory.tasks (replicate c.args.processes no_task) c.in-Ok.report.form (form_of x) c.in-Ok.report.sup.ninodes (inode_count_of x)
          (c.open.ensures.volume ∙ ap (fresh_volume g.D.Disk.image) (sym opening)) c.in-Ok-take_memory.ensures.tasks c.in-Ok.ensures.report.form (ap (λ (o : Super). o.ninodes) c.in-Ok.ensures.report.sup);
      world = c.in-Ok-take_memory.ensures.processes;
      intake = refl;
      herald = refl;
      name = ap g.D.Disk.name opening ∙ c.recover.ensures.name ∙ c.check.ensures.reads.name;
      writes = search rules;
      faults = search rules;
      syncs = ap g.D.Disk.sync_count opening ∙ syncs_at_open g.D.Disk c.args.disk c.check.new.disk d _ c.check.ensures.reads c.in_default-recover.ensures.ok;
      settled = subst (IsCalm g.D.Disk) (sym opening) c.in_default-recover.ensures.ok.settles.settled;
      leaves = subst (λ (o : _). LeavesFromSync g.D.Disk c.args.disk o (RecoversAs x)) (sym opening) (from_sync_behind g.D.Disk c.args.disk c.check.new.disk d c.check.ensures.reads c.in_default-recover.ensures.synced);
    }
