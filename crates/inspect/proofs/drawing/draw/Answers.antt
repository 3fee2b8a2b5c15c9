use Rattle.std.proofs.Common.{◌≡◌, ◌*◌, ◌≤◌, ℕ, List, length, subst, arith}
use Rattle.std.specs.Int.{div_ceil}
use Rattle.std.specs.Io.KnownBytes.{Appends}
use Rattle.std.specs.List.{flat_map, range_with_len}
use Rattle.std.proofs.KnownBytes.{Appends-trans}
use Rattle.std.proofs.lemmas.Grind.{div_ceil_times}
use Rattle.std.proofs.lemmas.Result.{on_ok_weaker}
use Rattle.inspect.specs.Drawing.{key_text, row_at, row_text}
use Rattle.messages.specs.Lemmas.Texts.{numbered_more}
use Rattle.inspect.proofs.TextLemmas.{row_taken}
use Rattle.inspect.proofs.drawing.draw.Goals as goal

pub loop-row-preserved : goal.loop-row-preserved
loop-row-preserved g c =
    let signs = c.args.signs.now in
    let row = c.loop-row.row in
    let all = div_ceil_times (length signs) 64 (omega arith) in
    let end = c.div_ceil-row-end.ensures in
    let within : row * 64 ≤ length signs = omega (arith, all.1, end, c.loop-row-test.true) in
    numbered_more (row_at signs) row _ _ _ c.loop-row.invariant
    (subst (λ (l : List ℕ). Appends (g.O.Write.contents c.loop-row.out) (g.O.Write.contents c.print_row.new.out) (row_text (row * 64) l))
    (row_taken signs (row * 64) c.min-to.result within c.min-to.ensures) c.in_ok-print_row.ensures.printed)

pub returns : goal.returns
returns g c =
    let signs = c.args.signs.now in
    let contents = g.O.Write.contents in
    let end : c.loop-row.row ≡ div_ceil (length signs) 64 = omega (arith, c.div_ceil-row-end.ensures, c.loop-row-test.false, c.loop-row.auto.row-end) in
    let rows = subst (λ (n : ℕ). Appends (contents c.args.out.now) (contents c.loop-row.out) (flat_map (row_at signs) (range_with_len 0 n))) end c.loop-row.invariant in
    record { printed = on_ok_weaker c.print_last.result (λ key. Appends-trans _ _ _ _ key_text rows key) c.print_last.ensures.ok }
