use Rattle.std.proofs.Common.{◌∙◌, ◌++◌, List, sym, ap, subst, arith}
use Rattle.offline.specs.Common.{CheckFault, inodes_faults, marks_faults, recovered}
use Rattle.model.specs.Faults.{faults}
use Rattle.offline.proofs.CheckLemmas.{ground, opening_short}
use Rattle.offline.proofs.NoteLemmas.{alone_broken, alone_heard, breaks_first, contents_broken, contents_heard, faults_alone, faults_contents, hears_first, on_err_anyway, unopened}
use Rattle.offline.proofs.all_faults.check_all.Goals as goal

pub returns-then-size-lt2-clause-heard : goal.returns-then-size-lt2-clause-heard
returns-then-size-lt2-clause-heard g c =
    let x = g.D.Disk.image c.args.disk.now in
    subst (λ (l : List CheckFault). g.H.HearsFaults.hears c.args.hearer.now l c.hear.new.self) (sym (faults_alone x _ (opening_short x (omega (arith, c.size.ensures))))) c.hear.ensures

pub returns-in_err-block-clause-broken : goal.returns-in_err-block-clause-broken
returns-in_err-block-clause-broken g c =
    let a = c.args.hearer.now in
    let hears = g.H.HearsFaults.hears in
    on_err_anyway c.from_residual.result (hears_first hears (faults (g.D.Disk.image c.args.disk.now)) a a (breaks_first hears _ a (g.met.H.HearsFaults.hears_none a)))

pub tell_contents-requires-clause-ground : goal.tell_contents-requires-clause-ground
tell_contents-requires-clause-ground g c =
    let image = c.in-Ok.image in
    let is = c.in-Ok.ensures.ok in
    rw c.open.ensures.reads.image (ground (g.D.Disk.image c.args.disk.now) image.sup image.form is.geometry is.header.lawful is.sup is.form)

pub returns-in-Ok-clause-heard : goal.returns-in-Ok-clause-heard
returns-in-Ok-clause-heard g c =
    let x = g.D.Disk.image c.args.disk.now in
    let is = c.in-Ok.ensures.ok in
    contents_heard g.H.HearsFaults.hears x c.args.hearer.now c.tell_contents.new.hearer c.tell_contents.result _
    (ap (λ z. inodes_faults (recovered z) ++ marks_faults (recovered z)) c.open.ensures.reads.image ∙ sym (faults_contents x is.geometry is.header.lawful)) c.tell_contents.ensures.told

pub returns-in-Ok-clause-broken : goal.returns-in-Ok-clause-broken
returns-in-Ok-clause-broken g c =
    let x = g.D.Disk.image c.args.disk.now in
    let is = c.in-Ok.ensures.ok in
    contents_broken g.H.HearsFaults.hears x c.args.hearer.now c.tell_contents.new.hearer c.tell_contents.result _
    (ap (λ z. inodes_faults (recovered z) ++ marks_faults (recovered z)) c.open.ensures.reads.image ∙ sym (faults_contents x is.geometry is.header.lawful)) c.tell_contents.ensures.told

pub returns-clause-heard : goal.returns-clause-heard
returns-clause-heard g c =
    let count = g.D.Disk.fault_count in
    alone_heard g.H.HearsFaults.hears (g.D.Disk.image c.args.disk.now) c.args.hearer.now c.tell_alone.new.hearer c.tell_alone.result c.in-Err.fault (count c.args.disk.now) (count c.open.new.disk)
    c.in-Err.ensures.fault c.in-Err.ensures.memory c.tell_alone.ensures

pub returns-clause-broken : goal.returns-clause-broken
returns-clause-broken g c =
    alone_broken g.H.HearsFaults.hears (g.D.Disk.image c.args.disk.now) c.args.hearer.now c.tell_alone.new.hearer c.tell_alone.result c.in-Err.fault
    (g.met.H.HearsFaults.hears_none c.args.hearer.now) c.tell_alone.ensures

pub returns-clause-counts : goal.returns-clause-counts
returns-clause-counts g c =
    let count = g.D.Disk.fault_count in
    unopened g.H.HearsFaults.hears (g.D.Disk.image c.args.disk.now) c.args.hearer.now c.tell_alone.new.hearer c.tell_alone.result c.in-Err.fault (count c.args.disk.now) (count c.open.new.disk)
    c.in-Err.ensures.fault c.in-Err.ensures.faults c.tell_alone.ensures
