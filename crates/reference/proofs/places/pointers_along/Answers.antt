use Rattle.std.proofs.Common.{◌++◌, ◌∙◌, ap, sym, refl, get_or, arith}
use Rattle.std.proofs.lemmas.List.{append-nil}
use Rattle.model.specs.Places.{pointers_along}
use Rattle.reference.proofs.PlacesLemmas.{along_step, along_all, along_none}
use Rattle.reference.proofs.places.pointers_along.Goals as goal

pub loop-k-init : goal.loop-k-init
loop-k-init c = record {
  rest = rw c.new-pointers.ensures.items (along_none c.args.image.now c.args.size 0 c.args.depths.now c.args.addresses.now);
  first = omega arith;
}

pub loop-k-preserved : goal.loop-k-preserved
loop-k-preserved c = record {
  rest = along_step c.args.image.now c.args.size c.loop-k.first c.args.depths.now c.args.addresses.now c.loop-k.k (get_or c.args.depths.now c.loop-k.k 0)
      (get_or c.args.addresses.now c.loop-k.k 0) c.reach-first.result
      c.loop-k.pointers.items c.in_ok-under.under.items c.as_slice.result.now c.extend_from_slice.new.self.items
      (pointers_along c.args.image.now c.args.size 0 c.args.depths.now c.args.addresses.now)
      (omega arith) (omega arith) refl refl c.reach-first.ensures.value c.in_ok-under.ensures
      c.as_slice.ensures.value c.in_ok-extend_from_slice.ensures.items c.loop-k.invariant.rest;
  first = omega arith;
}

pub returns : goal.returns
returns c =
    let all = along_all c.args.image.now c.args.size c.loop-k.first c.args.depths.now c.args.addresses.now c.loop-k.k (omega arith) in
    sym (append-nil c.loop-k.pointers.items) ∙ ap (λ r. c.loop-k.pointers.items ++ r) (sym all) ∙ c.loop-k.invariant.rest
