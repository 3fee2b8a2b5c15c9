use Rattle.std.proofs.Common.{◌≡◌, ◌∙◌, ◌<◌, ◌≤◌, ℕ, List, length, ap, sym, subst, refl, arith}
use Rattle.std.specs.Prelude.{IfOk}
use Rattle.offline.specs.Common.{depths, LeadsAlong, reads_none, recovered}
use Rattle.offline.specs.Lemmas.Checked.{form_recovered}
use Rattle.offline.proofs.WayLemmas.{along_here, along_later, along_end, along_whole_inode, leads_here, leads_later}
use Rattle.offline.proofs.recovered.Recovered.address.Goals as goal

pub loop-j-init : goal.loop-j-init
loop-j-init g c =
    let x = g.D.Disk.image c.args.disk.now in
    record {
      disk = refl;
      same = refl;
      leads = subst (λ (l : List ℕ). LeadsAlong (recovered x) c.args.k l c.args.inode.now.addrs)
          (ap depths (sym (form_recovered x c.args.self.now c.requires.recovered)) ∙ sym c.depths-depths.ensures.value) c.requires.way.leads;
    }

pub address_under-requires-clause-leads : goal.address_under-requires-clause-leads
address_under-requires-clause-leads g c =
    let low = subst (λ (n : ℕ). c.loop-j.rest < n) c.reach-blocks.ensures.value c.if-rest-blocks.true in
    rw c.loop-j.invariant.disk
    (leads_here (recovered (g.D.Disk.image c.args.disk.now)) c.loop-j.rest c.depths-depths.result c.args.inode.now.addrs c.loop-j.j
    (omega (arith, c.depths-depths.ensures.len)) (omega (arith, c.depths-depths.ensures.len, c.requires.way.count)) low c.loop-j.invariant.leads)

pub returns-then-rest-blocks-clause-ok : goal.returns-then-rest-blocks-clause-ok
returns-then-rest-blocks-clause-ok g c =
    let x = g.D.Disk.image c.args.disk.now in
    let inode = c.args.inode.now in
    let low = subst (λ (n : ℕ). c.loop-j.rest < n) c.reach-blocks.ensures.value c.if-rest-blocks.true in
    subst (λ (n : ℕ). IfOk c.address_under.result (λ b. b ≡ n))
    (sym (along_here (recovered x) c.loop-j.rest c.depths-depths.result inode.addrs c.loop-j.j
    (omega (arith, c.depths-depths.ensures.len)) (omega (arith, c.depths-depths.ensures.len, c.requires.way.count)) low)
    ∙ c.loop-j.invariant.same
    ∙ along_whole_inode (recovered x) inode c.args.k c.args.self.now.form c.depths-depths.result (sym (form_recovered x c.args.self.now c.requires.recovered)) c.depths-depths.ensures.value)
    rw c.loop-j.invariant.disk at c.address_under.ensures.ok

pub returns-then-rest-blocks-clause-reads : goal.returns-then-rest-blocks-clause-reads
returns-then-rest-blocks-clause-reads g c = rw c.loop-j.invariant.disk at c.address_under.ensures.reads

pub returns-then-rest-blocks-clause-faults : goal.returns-then-rest-blocks-clause-faults
returns-then-rest-blocks-clause-faults g c = rw c.loop-j.invariant.disk at c.address_under.ensures.faults

pub loop-j-preserved : goal.loop-j-preserved
loop-j-preserved g c =
    let y = recovered (g.D.Disk.image c.args.disk.now) in
    let addresses = c.args.inode.now.addrs in
    let value = c.reach-blocks.ensures.value in
    let high = subst (λ (n : ℕ). n ≤ c.loop-j.rest) value c.if-rest-blocks.false in
    let in_depths : c.loop-j.j < length c.depths-depths.result = omega (arith, c.depths-depths.ensures.len) in
    let in_addresses : c.loop-j.j < length addresses = omega (arith, c.depths-depths.ensures.len, c.requires.way.count) in
    record {
      disk = c.loop-j.invariant.disk;
      same = rw value
          (sym (along_later y c.loop-j.rest c.depths-depths.result addresses c.loop-j.j in_depths in_addresses high) ∙ c.loop-j.invariant.same);
      leads = rw value (leads_later y c.loop-j.rest c.depths-depths.result addresses c.loop-j.j in_depths in_addresses high c.loop-j.invariant.leads);
    }

pub returns-clause-ok : goal.returns-clause-ok
returns-clause-ok g c =
    let x = g.D.Disk.image c.args.disk.now in
    let inode = c.args.inode.now in
    sym (along_end (recovered x) c.loop-j.rest c.depths-depths.result _ c.loop-j.j (omega (arith, c.depths-depths.ensures.len)))
    ∙ c.loop-j.invariant.same
    ∙ along_whole_inode (recovered x) inode c.args.k c.args.self.now.form c.depths-depths.result (sym (form_recovered x c.args.self.now c.requires.recovered)) c.depths-depths.ensures.value

pub returns-clause-reads : goal.returns-clause-reads
returns-clause-reads g c = rw c.loop-j.invariant.disk (reads_none g.D.Disk c.args.disk.now)
