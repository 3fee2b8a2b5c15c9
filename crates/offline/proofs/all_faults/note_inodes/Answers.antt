use Rattle.std.proofs.Common.{◌≡◌, ◌∙◌, ◌+◌, ◌-◌, Ok, inr, subst, arith, rules}
use Rattle.offline.specs.Common.{block_at, BreaksOff, err_from_is_err_and, flat_mapped_next, Image, inode_block, inode_count_of, NotesInode, places_below, reads_then, recovered, Stand}
use Rattle.std.specs.List.{flat_map, range_with_len}
use Rattle.model.specs.Faults.{inode_faults}
use Rattle.offline.proofs.NoteLemmas.{breaks_at, breaks_first, heard_next}
use Rattle.offline.proofs.all_faults.note_inodes.Goals as goal

pub loop-i-preserved : goal.loop-i-preserved
loop-i-preserved g c =
    let d = g.D.Disk in
    let hears = g.H.HearsFaults.hears in
    let i = c.loop-i.i in
    let y = recovered (d.image c.args.disk.now) in
    let before = c.loop-i.invariant in
    let same = before.reads.image in
    let here = subst (λ (x : Image). Stand c.loop-i.owners (recovered x) (places_below (recovered x) i) →
    NotesInode hears (recovered x) i c.note_inode.new.owners c.loop-i.hearer c.note_inode.new.hearer (Ok tt))
    (c.load_inode.ensures.reads.image ∙ same) c.in_ok-note_inode.ensures.noted in
    record {
      reads = reads_then d c.args.disk.now c.load_inode.new.disk c.note_inode.new.disk (reads_then d c.args.disk.now c.loop-i.disk c.load_inode.new.disk before.reads c.load_inode.ensures.reads) c.note_inode.ensures.reads;
      counts = c.in_ok-note_inode.ensures.counts ∙ c.in_ok-inode.ensures.faults ∙ before.counts;
      limits = search rules;
      loaded = inr (subst (λ (x : Image). c.load_inode.new.block ≡ block_at (recovered x) (inode_block (i + 1 - 1))) same
          (let back : i + 1 - 1 ≡ i = omega arith in rw back c.in_ok-inode.ensures.block));
      stand = λ stand. (here (before.stand stand)).0;
      heard = λ stand. heard_next hears g.met.H.HearsFaults.hears_more c.args.hearer.now c.loop-i.hearer c.note_inode.new.hearer _ (inode_faults y i) _ (before.heard stand)
          (here (before.stand stand)).1 (flat_mapped_next (inode_faults y) i c.loop-i.auto.i);
    }

pub returns-in_err-inode-clause-noted : goal.returns-in_err-inode-clause-noted
returns-in_err-inode-clause-noted g c = λ stand.
    let hears = g.H.HearsFaults.hears in
    let y = recovered (g.D.Disk.image c.args.disk.now) in
    let i = c.loop-i.i in
    let now = c.loop-i.hearer in
    let p = err_from_is_err_and c.from_residual.result c.from_residual.ensures.1 in
    rw p.1
    (subst (λ n. BreaksOff hears (flat_map (inode_faults y) (range_with_len 1 (n - 1))) c.args.hearer.now now) c.requires.count
    (breaks_at hears g.met.H.HearsFaults.hears_more (inode_faults y) i c.args.ninodes c.args.hearer.now now now c.loop-i.auto.i c.loop-i-test.true (c.loop-i.invariant.heard stand)
    (breaks_first hears (inode_faults y i) now (g.met.H.HearsFaults.hears_none now))))

pub returns-in_err-note_inode-clause-noted : goal.returns-in_err-note_inode-clause-noted
returns-in_err-note_inode-clause-noted g c = λ stand.
    let hears = g.H.HearsFaults.hears in
    let y = recovered (g.D.Disk.image c.args.disk.now) in
    let i = c.loop-i.i in
    let before = c.loop-i.invariant in
    let now = c.loop-i.hearer in
    let new = c.note_inode.new.hearer in
    let p = err_from_is_err_and c.from_residual-in_err-note_inode.result c.from_residual-in_err-note_inode.ensures.1 in
    let here = subst (λ (x : Image). Stand c.loop-i.owners (recovered x) (places_below (recovered x) i) → BreaksOff hears (inode_faults (recovered x) i) now new)
    (c.load_inode.ensures.reads.image ∙ before.reads.image) c.in_err-note_inode.ensures.noted in
    rw p.1
    (subst (λ n. BreaksOff hears (flat_map (inode_faults y) (range_with_len 1 (n - 1))) c.args.hearer.now new) c.requires.count
    (breaks_at hears g.met.H.HearsFaults.hears_more (inode_faults y) i c.args.ninodes c.args.hearer.now now new c.loop-i.auto.i c.loop-i-test.true (before.heard stand)
    (here (before.stand stand))))

pub returns-clause-noted : goal.returns-clause-noted
returns-clause-noted g c = λ stand.
    let hears = g.H.HearsFaults.hears in
    let y = recovered (g.D.Disk.image c.args.disk.now) in
    let before = c.loop-i.invariant in
    let last : c.loop-i.i ≡ inode_count_of y = omega (arith, c.requires.count, c.requires.some, c.loop-i.auto.i-end, c.loop-i-test.false) in (
      subst (λ n. Stand c.loop-i.owners y (places_below y n)) last (before.stand stand),
      subst (λ n. hears c.args.hearer.now (flat_map (inode_faults y) (range_with_len 1 (n - 1))) c.loop-i.hearer) last (before.heard stand),
    )
