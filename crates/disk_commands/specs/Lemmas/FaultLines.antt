-- Lines of faults, one list after the other.
use Rattle.std.proofs.Common.{◌≡◌, ◌∙◌, ℕ, ◌+◌, Bool, true, false, List, [], ◌∷◌, ◌++◌, length, Option, Some, None, refl, sym, ap, subst, add-zero, add_assoc}
use Rattle.std.specs.Io.KnownBytes.{Appends}
use Rattle.std.proofs.KnownBytes.{Appends-nil, Appends-trans}
use Rattle.std.proofs.lemmas.List.{length-append}
use Rattle.std.proofs.lemmas.List.Concat.{flat_map-append}
use Rattle.model.specs.Faults.{first_in}
use Rattle.model.specs.Verdict.{or_else}
use Rattle.model.specs.declared.types.fault.CheckFault.{CheckFault}
use Rattle.json_lines.specs.Faults.{fault_object}
use Rattle.json_lines.specs.Lemmas.Elements.{elements_joined}
use Rattle.messages.specs.Output.{fault_line}
use Rattle.disk_commands.specs.FaultLines.{HearsLines, PrintsFaults, faults_in}
use Rattle.disk_commands.specs.declared.fault_lines.FaultLines.{FaultLines}
use Rattle.disk_commands.specs.declared.fault_lines.Heard.{Heard}

or_none : {A : Type 0} (o : Option A) → o ≡ or_else o None
or_none None = refl
or_none (Some a) = refl

first_of_both : {A : Type 0} (o : Option A) (front back : List A) → or_else (or_else o (first_in front)) (first_in back) ≡ or_else o (first_in (front ++ back))
first_of_both (Some a) front back = refl
first_of_both None [] back = refl
first_of_both None (a ∷ front) back = refl

none_before : {A : Type 0} (front back : List A) → front ++ back ≡ [] → front ≡ []
none_before [] back h = refl
none_before (a ∷ front) back h = absurd (cc h)

none_behind : {A : Type 0} (front back : List A) → front ++ back ≡ [] → back ≡ []
none_behind [] back h = h
none_behind (a ∷ front) back h = absurd (cc h)

-- faults behind others are printed, one list after the other
faults_joined : (json : Bool) (n : ℕ) (front back : List CheckFault) → faults_in json n (front ++ back) ≡ faults_in json n front ++ faults_in json (n + length front) back
faults_joined true n front back = elements_joined fault_object n front back
faults_joined false n front back = flat_map-append fault_line front back

none_in : (json : Bool) (n : ℕ) → faults_in json n [] ≡ []
none_in true n = refl
none_in false n = refl

module _ {O : Type 0} (contents : O → Option (List ℕ)) where
  prints_none : (json : Bool) (out : O) (heard : Heard) → PrintsFaults contents json [] out heard out heard
  prints_none json out heard = record {
    none = λ h. refl;
    first = or_none heard.first;
    printed = λ is. record { others = is; count = sym (add-zero heard.count); lines = subst (Appends (contents out) (contents out)) (sym (none_in json heard.count)) (Appends-nil (contents out)) };
  }

  prints_more : (json : Bool) (a b c : O) (before between after : Heard) (front back : List CheckFault) → PrintsFaults contents json front a before b between → PrintsFaults contents json back b between c after →
      PrintsFaults contents json (front ++ back) a before c after
  prints_more json a b c before between after front back first then = record {
    none = λ h. then.none (none_behind front back h) ∙ first.none (none_before front back h);
    first = then.first ∙ ap (λ o. or_else o (first_in back)) first.first ∙ first_of_both before.first front back;
    printed = λ is.
        let second = then.printed is in
        let one = first.printed second.others in
        record {
          others = one.others;
          count = second.count ∙ ap (λ n. n + length back) one.count ∙ add_assoc before.count (length front) (length back) ∙ ap (λ n. before.count + n) (sym (length-append front back));
          lines = subst (Appends (contents a) (contents c)) (sym (faults_joined json before.count front back))
              (Appends-trans (contents a) (contents b) (contents c) (faults_in json before.count front) (faults_in json (before.count + length front) back) one.lines
              (subst (λ n. Appends (contents b) (contents c) (faults_in json n back)) one.count second.lines));
        };
  }

  pub lines_none : (a : FaultLines O) → HearsLines contents a [] a
  lines_none a = (refl, refl, prints_none a.json a.out.now a.heard)

  pub lines_more : (a b c : FaultLines O) (front back : List CheckFault) → HearsLines contents a front b → HearsLines contents b back c → HearsLines contents a (front ++ back) c
  lines_more a b c front back first then = (
    then.0 ∙ first.0,
    then.1 ∙ first.1,
    prints_more a.json a.out.now b.out.now c.out.now a.heard b.heard c.heard front back first.2
        (subst (λ (json : Bool). PrintsFaults contents json back b.out.now b.heard c.out.now c.heard) first.1 then.2),
  )
