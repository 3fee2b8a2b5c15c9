use Rattle.std.proofs.Common.{◌∙◌, ◌∷◌, ◌++◌, [], length, refl, sym, ap, subst, arith}
use Rattle.std.proofs.lemmas.List.{append_assoc}
use Rattle.clients.specs.Feeders.{ArePaired}
use Rattle.clients.proofs.Pairs.{one_paired}
use Rattle.clients.proofs.making.paired.Goals as goal

pub loop-caller-init : goal.loop-caller-init
loop-caller-init c = record {
  taken = [];
  all = sym c.into_iter-backlogs.ensures.rest;
  callers = sym c.into_iter-caller-iterator.ensures.into_iter_gives.0;
  paired = subst (ArePaired [] []) (sym c.new-feeders.ensures.items) tt;
  even = ap length c.into_iter-caller-iterator.ensures.into_iter_gives.0 ∙ c.requires.many ∙ ap length (sym c.into_iter-backlogs.ensures.rest);
}

pub loop-caller-preserved : goal.loop-caller-preserved
loop-caller-preserved c = record {
  taken = c.loop-caller.invariant.taken ++ c.in-Some-next.backlog ∷ [];
  all = c.loop-caller.invariant.all ∙ ap (λ bs. c.loop-caller.invariant.taken ++ bs) c.in-Some-next.ensures.cases.0
      ∙ sym (append_assoc c.loop-caller.invariant.taken (c.in-Some-next.backlog ∷ []) c.next-in-loop-caller.new.self.rest.items);
  callers = c.loop-caller.invariant.callers ∙ ap (λ ks. c.loop-caller.yielded ++ ks) c.in-Some.ensures.steps.0
      ∙ sym (append_assoc c.loop-caller.yielded (c.in-Some.caller ∷ []) c.next.new.self.rest.items);
  paired = subst (ArePaired _ _) (sym c.in_ok-push.ensures.items) (one_paired _ _ _ c.in-Some.caller c.in-Some-next.backlog _ c.loop-caller.invariant.paired (refl, refl));
  even = let a = ap length c.in-Some.ensures.steps.0 in let b = ap length c.in-Some-next.ensures.cases.0 in let e = c.loop-caller.invariant.even in omega (arith, a, b, e);
}
