use Rattle.std.proofs.Common.{◌≡◌, ◌*◌, ◌∙◌, ap, arith, length, subst, sym}
use Rattle.std.specs.Prelude.{IfSome}
use Rattle.std.specs.List.{concat}
use Rattle.blocks.specs.Common.{Image}
use Rattle.blocks.proofs.PlacedLemmas.{mirrors_read}
use Rattle.blocks.proofs.file.FileDisk.over_file.Goals as goal

pub returns-clause-mirrors : goal.returns-clause-mirrors
returns-clause-mirrors g c all is =
    let read = c.in_ok-blocks.ensures in
    let x : Image = c.in_ok-blocks.blocks.items in
    let known = g.F.Placed.bytes in
    let same = ap known c.over.ensures.file ∙ c.read_blocks.ensures.same in
    let count : c.args.size ≡ length x * 1024 = omega (arith, c.in_ok-count.ensures.bytes, read.size) in
    subst (λ (y : Image). IfSome (known c.over.result.file) (λ xs. xs ≡ concat y)) (sym (ap (λ m. m.blocks.items) c.over.ensures.copy ∙ c.of.ensures.image))
    (mirrors_read (known c.args.file) (known c.over.result.file) (g.F.Read.remaining c.args.file) (g.F.Read.remaining c.read_blocks.new.file) x c.args.size read.image same all is read.bytes count)
