-- What takes pointers, one list after the other.
use Rattle.std.proofs.Common.{◌∙◌, ℕ, List, [], ◌++◌, Result, Ok, Err, refl, sym, ap, subst}
use Rattle.std.proofs.lemmas.List.{append-nil, append_assoc}
use Rattle.model.specs.declared.types.fault.CheckFault.{CheckFault}
use Rattle.model.specs.declared.types.image.Pointer.{Pointer}
use Rattle.offline.specs.Owners.{Stand}
use Rattle.offline.specs.Taking.{Claims, Lists}
use Rattle.offline.specs.Lemmas.Judged.{fault_early, judged_more}
use Rattle.offline.specs.declared.owners.Owners.{Owners}

-- ---- the table of the blocks

pub claims_none : (a : Owners) (i : ℕ) → Claims a i [] a (Ok tt)
claims_none a i = record {
  limits = record { first = refl; size = refl };
  judged = λ y earlier stand. (refl, subst (Stand a y) (sym (append-nil earlier)) stand);
}

pub claims_more : (a b c : Owners) (i : ℕ) (front back : List Pointer) (answer : Result (Unit {0}) CheckFault) →
    Claims a i front b (Ok tt) → Claims b i back c answer → Claims a i (front ++ back) c answer
claims_more a b c i front back answer first then = record {
  limits = record { first = then.limits.first ∙ first.limits.first; size = then.limits.size ∙ first.limits.size };
  judged = λ y earlier stand.
      let passed = first.judged y earlier stand in
      judged_more y i earlier front back c answer passed.0 (then.judged y _ passed.1);
}

pub claims_refused : (a b : Owners) (i : ℕ) (front back : List Pointer) (fault : CheckFault) →
    Claims a i front b (Err fault) → Claims a i (front ++ back) b (Err fault)
claims_refused a b i front back fault first = record {
  limits = first.limits;
  judged = λ y earlier stand. fault_early y i earlier front back fault (first.judged y earlier stand);
}

-- ---- a list

pub lists_none : (a : List Pointer) → Lists a [] a (Ok tt)
lists_none a = sym (append-nil a)

pub lists_more : (a b c front back : List Pointer) (answer : Result (Unit {0}) CheckFault) →
    Lists a front b (Ok tt) → Lists b back c answer → Lists a (front ++ back) c answer
lists_more a b c front back (Ok u) first then = then ∙ ap (λ (l : List Pointer). l ++ back) first ∙ append_assoc a front back
lists_more a b c front back (Err fault) first then = then
