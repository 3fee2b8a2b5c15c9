use Rattle.std.proofs.Common.{◌∙◌, ◌+◌, ◌<◌, ℕ, length, inl, inr, min, set, refl, ap, arith}
use Rattle.std.proofs.lemmas.List.{get_or_default}
use Rattle.offline.proofs.TableLemmas.{counts_one, counts_other}
use Rattle.offline.proofs.table.Table.count.Goals as goal
use Rattle.offline.proofs.table.Table.count.Goals.{else-address-ne0-via-else-address-ne0, else-address-ne0-via-then-address-ne0+else-address-len}

pub returns-then-address-len : goal.returns-then-address-len
returns-then-address-len c = λ y places counts.
    let inside : c.args.address < length c.args.self.now.counts.items = omega (arith, c.if-address-len.true, c.len.ensures) in
    counts_one c.args.self.now _ y places c.args.address counts c.if-address-ne0.true inside refl refl
    (ap (set c.args.self.now.counts.items c.args.address) (c.one_more.ensures ∙ ap (λ (n : ℕ). min 2 (n + 1)) (c.index-count.ensures ∙ get_or_default c.args.self.now.counts.items c.args.address _ 0 inside)))

pub returns-else-address-ne0 : goal.returns-else-address-ne0
returns-else-address-ne0 c = λ y places counts.
    elim c.else-address-ne0.branch [
      | else-address-ne0-via-then-address-ne0+else-address-len w ↦ counts_other c.args.self.now c.args.self.now y places c.args.address counts (inr (omega (arith, w.if-address-len.false, w.len.ensures)))
      | else-address-ne0-via-else-address-ne0 w ↦ counts_other c.args.self.now c.args.self.now y places c.args.address counts (inl w.if-address-ne0.false)
    ]
