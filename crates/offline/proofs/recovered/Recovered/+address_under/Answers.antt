use Rattle.std.proofs.Common.{◌≡◌, ◌<◌, ◌/◌, ◌%◌, ℕ, ap, sym, subst, arith}
use Rattle.std.specs.Prelude.{IfOk}
use Rattle.std.proofs.Math.Nat.{mod-lt}
use Rattle.offline.specs.Common.{Image, IsRecoveredOf, length-recovered, recovered}
use Rattle.offline.proofs.WayLemmas.{under_zero, entry_inside, leads_block, leads_next, under_next}
use Rattle.offline.proofs.recovered.Recovered.+address_under.Goals as goal

pub returns-then-address-eq0-clause-ok : goal.returns-then-address-eq0-clause-ok
returns-then-address-eq0-clause-ok g t c = under_zero (recovered (g.D.Disk.image c.args.disk.now)) c.args.depth c.args.k c.args.address c.if-address-eq0.true

pub block-requires-clause-other : goal.block-requires-clause-other
block-requires-clause-other g t c =
    let lies = (leads_block (recovered (g.D.Disk.image c.args.disk.now)) c.args.depth c.args.k c.args.address c.if-depth-eq0.false c.if-address-eq0.false c.requires.leads).0 in
    let behind = lies.0 in
    λ e. omega (arith, behind, e)

pub block-requires-clause-inside : goal.block-requires-clause-inside
block-requires-clause-inside g t c =
    let x = g.D.Disk.image c.args.disk.now in
    let inside = ((leads_block (recovered x) c.args.depth c.args.k c.args.address c.if-depth-eq0.false c.if-address-eq0.false c.requires.leads).0).1 in
    omega (arith, inside, length-recovered x)

pub entry-next-requires : goal.entry-next-requires
entry-next-requires g t c =
    subst (λ (n : ℕ). c.args.k / n < 256) (sym c.reach-blocks.ensures.value) (entry_inside c.args.depth c.args.k c.if-depth-eq0.false c.requires.reached)

pub address_under-requires : goal.address_under-requires
address_under-requires g t c = λ κs lives.
    let d = g.D.Disk in (
      omega arith,
      (
        lives.0,
        (
          lives.1,
          (
            subst (λ (z : Image). IsRecoveredOf z c.args.self.now) (sym c.block.ensures.reads.image) c.requires.recovered,
            (
              omega arith,
              (
                subst (λ (n : ℕ). c.args.k % c.reach-blocks.result < n) c.reach-blocks.ensures.value (mod-lt c.args.k (omega (arith, c.reach-blocks.ensures.some))),
                leads_next (recovered (d.image c.args.disk.now)) (recovered (d.image c.block.new.disk)) c.args.depth c.args.k c.args.address c.reach-blocks.result c.entry-next.result c.block.new.into
                    c.if-depth-eq0.false c.if-address-eq0.false (ap recovered c.block.ensures.reads.image) c.reach-blocks.ensures.value c.in_ok-block.ensures.ok c.entry-next.ensures c.requires.leads,
              ),
            ),
          ),
        ),
      ),
    )

pub returns-clause-ok : goal.returns-clause-ok
returns-clause-ok g t c =
    let d = g.D.Disk in
    let x = d.image c.args.disk.now in
    subst (λ (n : ℕ). IfOk c.address_under.result (λ b. b ≡ n))
    (under_next (recovered x) (recovered (d.image c.block.new.disk)) c.args.depth c.args.k c.args.address c.reach-blocks.result c.entry-next.result c.block.new.into
    c.if-depth-eq0.false c.if-address-eq0.false (ap recovered c.block.ensures.reads.image) c.reach-blocks.ensures.value c.in_ok-block.ensures.ok c.entry-next.ensures)
    c.address_under.ensures.ok
