use Rattle.std.proofs.Common.{◌≡◌, ◌≢◌, ◌∙◌, ℕ, [], ap, sym, subst}
use Rattle.offline.specs.Common.{block_at, get_or_from_slice_get, logged_count, recovered_at, recovered_block-header, recovered_empty}
use Rattle.offline.proofs.CheckLemmas.{overwritten_by_zeroes}
use Rattle.offline.proofs.recovered.Recovered.any_block.Goals as goal

pub returns-then-self-ne0-clause-ok : goal.returns-then-self-ne0-clause-ok
returns-then-self-ne0-clause-ok g c =
    let x = g.D.Disk.image c.args.disk.now in
    let some : logged_count x ≢ 0 = subst (λ (n : ℕ). n ≢ 0) c.requires.recovered.header.count c.if-self-ne0.true in
    overwritten_by_zeroes c.read.new.into c.put.new.self c.put.ensures.written c.put.ensures.block
    ∙ sym (recovered_block-header x) ∙ sym (rw (sym c.if-b-ne-LOG_START.false) (recovered_at x c.args.b some c.requires.inside))

pub returns-else-self-ne0-clause-ok : goal.returns-else-self-ne0-clause-ok
returns-else-self-ne0-clause-ok g c =
    let x = g.D.Disk.image c.args.disk.now in
    let none : logged_count x ≡ 0 = sym c.requires.recovered.header.count ∙ c.if-self-ne0.false in
    sym (get_or_from_slice_get x c.args.b c.read.new.into [] c.in_ok-read.ensures.ok) ∙ sym (ap (λ y. block_at y c.args.b) (recovered_empty x none))
