use Rattle.std.proofs.Common.{◌≡◌, ◌∙◌, ◌++◌, ◌∷◌, [], ℕ, Option, ap, length, map, slice_index, subst, sym, arith}
use Rattle.std.specs.List.{range_with_len}
use Rattle.model.specs.Lemmas.Steps.{mapped_more}
use Rattle.messages.specs.declared.drawing.Cell.{Cell}
use Rattle.messages.specs.declared.drawing.Owner.{Owner}
use Rattle.inspect.specs.Cells.{cell_at}
use Rattle.inspect.proofs.cells.cells_among.Goals as goal

cell_with : ℕ → ℕ → Option Owner → Cell
cell_with b sign owner = record { block = b; sign = sign; owner = owner }

pub loop-b-preserved : goal.loop-b-preserved
unfolding cell_with
loop-b-preserved c =
    let at = cell_at c.args.signs.now c.args.owned.now in
    c.in_ok-push.ensures.items
    ∙ ap (λ owner. c.loop-b.cells.items ++ cell_with c.loop-b.b (slice_index c.args.signs.now c.loop-b.b) owner ∷ []) c.owner_of.ensures
    ∙ ap (λ cells. cells ++ at c.loop-b.b ∷ []) c.loop-b.invariant
    ∙ sym (mapped_more at c.loop-b.b)

pub returns : goal.returns
returns c =
    let at = cell_at c.args.signs.now c.args.owned.now in
    let all : c.loop-b.b ≡ length c.args.signs.now = omega (arith, c.loop-b-test.false, c.loop-b.auto.b-end) in
    subst (λ (n : ℕ). c.loop-b.cells.items ≡ map at (range_with_len 0 n)) all c.loop-b.invariant
