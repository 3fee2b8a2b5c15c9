use Rattle.std.proofs.Common.{◌∙◌, ap}
use Rattle.calls.specs.Calls.{image_on}
use Rattle.model.specs.Files.{files_of}
use Rattle.names.specs.Lemmas.Runs.{nothing_done}
use Rattle.names.specs.Replacing.{HindersHalf, IsUnreplaced, Replaces}
use Rattle.mounting.proofs.TreeCalls.{call_kept, call_makes, call_stays}
use Rattle.mounting.proofs.Hindering.{call_hindered}
use Rattle.mounting.proofs.calling.replace_in.Goals as goal

pub returns-clause-makes : goal.returns-clause-makes
returns-clause-makes g c =
    let called = c.replace_in in
    let old = c.args.tree.now in
    let new = called.new.self in
    call_makes g.D.Disk (HindersHalf c.args.from c.args.old.now c.args.to c.args.name.now c.args.aside.now c.args.keeps (files_of (image_on g.D.Disk.image c.args.tree.now.kernel))) (IsUnreplaced c.args.from c.args.old.now c.args.to c.args.name.now c.args.aside.now c.args.keeps) old.kernel new.kernel old.calls_left new.calls_left called.result c.requires.ready
    (λ zero. let same = nothing_done old new called.result (called.ensures.none zero) in (ap (λ t. t.kernel) same, ap (λ t. t.calls_left) same ∙ zero))
    called.ensures.done called.ensures.refused called.ensures.stays (Replaces c.args.from c.args.old.now c.args.to c.args.name.now c.args.aside.now c.args.keeps) called.ensures.replaces called.ensures.leaves

pub returns-clause-hindered : goal.returns-clause-hindered
returns-clause-hindered g c =
    let called = c.replace_in in
    let old = c.args.tree.now in
    let new = called.new.self in
    call_hindered g.D.Disk (HindersHalf c.args.from c.args.old.now c.args.to c.args.name.now c.args.aside.now c.args.keeps (files_of (image_on g.D.Disk.image c.args.tree.now.kernel))) (IsUnreplaced c.args.from c.args.old.now c.args.to c.args.name.now c.args.aside.now c.args.keeps) old new old.kernel new.kernel old.calls_left new.calls_left called.result (λ no. no) c.requires.ready called.ensures.none called.ensures.done called.ensures.refused

pub returns-clause-same : goal.returns-clause-same
returns-clause-same g c =
    let called = c.replace_in in
    call_stays g.D.Disk (HindersHalf c.args.from c.args.old.now c.args.to c.args.name.now c.args.aside.now c.args.keeps (files_of (image_on g.D.Disk.image c.args.tree.now.kernel))) (IsUnreplaced c.args.from c.args.old.now c.args.to c.args.name.now c.args.aside.now c.args.keeps) c.args.tree.now called.new.self c.args.tree.now.kernel called.new.self.kernel c.args.tree.now.calls_left called.result c.requires.ready called.ensures.none called.ensures.refused

pub returns-clause-kept : goal.returns-clause-kept
returns-clause-kept g c =
    let called = c.replace_in in
    let old = c.args.tree.now in
    let new = called.new.self in
    call_kept g.D.Disk (HindersHalf c.args.from c.args.old.now c.args.to c.args.name.now c.args.aside.now c.args.keeps (files_of (image_on g.D.Disk.image c.args.tree.now.kernel))) (IsUnreplaced c.args.from c.args.old.now c.args.to c.args.name.now c.args.aside.now c.args.keeps) old new old.kernel new.kernel old.calls_left new.calls_left called.result c.requires.ready called.ensures.none called.ensures.done called.ensures.refused
