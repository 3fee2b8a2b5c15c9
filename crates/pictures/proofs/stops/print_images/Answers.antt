use Rattle.std.proofs.Common.{◌≡◌, ℕ, subst, arith}
use Rattle.std.specs.Io.KnownBytes.{Appends}
use Rattle.std.specs.List.{flat_map, range_with_len}
use Rattle.messages.specs.Lemmas.Texts.{numbered_more}
use Rattle.pictures.specs.Stops.{image_square}
use Rattle.pictures.proofs.stops.print_images.Goals as goal

pub loop-image-preserved : goal.loop-image-preserved
loop-image-preserved g c =
    numbered_more (image_square c.args.place c.args.column.now) c.loop-image.image _ _ _ c.loop-image.invariant c.in_ok-print_image.ensures.ok

pub returns : goal.returns
returns g c =
    let all : c.loop-image.image ≡ c.args.count = omega (arith, c.loop-image-test.false, c.loop-image.auto.image-end) in
    record { ok = subst (λ (n : ℕ). Appends (g.O.Write.contents c.args.out.now) (g.O.Write.contents c.loop-image.out) (flat_map (image_square c.args.place c.args.column.now) (range_with_len 0 n))) all c.loop-image.invariant }
