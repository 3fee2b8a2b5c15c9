use Rattle.std.proofs.Common.{◌≡◌, length, ◌++◌, ◌-◌, ◌∙◌, ap, sym, arith}
use Rattle.std.proofs.lemmas.List.{append-nil}
use Rattle.model.specs.Places.{pointers_under}
use Rattle.reference.proofs.PlacesLemmas.{whole_block, behind_step, behind_all}
use Rattle.reference.proofs.places.+pointers_under.Goals as goal

pub loop-k-preserved : goal.loop-k-preserved
loop-k-preserved t c =
    let size : length c.as_slice-bytes.result.now ≡ 1024 = whole_block c.as_slice-bytes.result.now c.in-Some.block.now c.as_slice-bytes.ensures.value c.as_slice-bytes.ensures.block in
    record {
      rest = behind_step c.args.image.now c.args.size (c.args.depth - 1) c.loop-k.at c.as_slice-bytes.result.now c.loop-k.k
          c.read_u32-word.result c.reach-step.result c.loop-k.pointers.items c.in_ok-behind.behind.items c.as_slice.result.now c.extend_from_slice.new.self.items
          (pointers_under c.args.image.now c.args.size c.args.depth c.args.first c.args.address)
          (omega (arith, size)) c.read_u32-word.ensures c.reach-step.ensures.value c.in_ok-behind.ensures
          c.as_slice.ensures.value c.in_ok-extend_from_slice.ensures.items c.loop-k.invariant.rest;
      at = omega arith;
    }

pub returns : goal.returns
returns t c =
    let size : length c.as_slice-bytes.result.now ≡ 1024 = whole_block c.as_slice-bytes.result.now c.in-Some.block.now c.as_slice-bytes.ensures.value c.as_slice-bytes.ensures.block in
    let all = behind_all c.args.image.now c.args.size (c.args.depth - 1) c.loop-k.at c.as_slice-bytes.result.now c.loop-k.k (omega (arith, size)) in
    sym (append-nil c.loop-k.pointers.items) ∙ ap (λ r. c.loop-k.pointers.items ++ r) (sym all) ∙ c.loop-k.invariant.rest
