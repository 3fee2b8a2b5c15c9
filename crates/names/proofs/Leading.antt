-- A change at the last name of a path.
use Rattle.std.proofs.Common.{◌≡◌, ◌∙◌, ◌+◌, ℕ, List, [], ◌∷◌, ◌++◌, length, take, get_or, Result, Ok, Err, sym, subst, inl, inr, arith}
use Rattle.std.specs.Prelude.{IfOk}
use Rattle.std.proofs.lemmas.List.{take_all, take_more}
use Rattle.std.proofs.lemmas.Result.{IfOk-weaker}
use Rattle.model.specs.Files.{Files}
use Rattle.directories.specs.declared.refusal.Refusal.{Refusal}
use Rattle.names.specs.declared.refusal.TreeFault.{TreeFault}
use Rattle.names.specs.Ready.{Happens}
use Rattle.directories.specs.Walks.{walked, AtLast, IsUndoneIn, IsUnled, LeadsIn}

-- the last of some names is behind the others
pub split_last : (names : List (List ℕ)) (last : ℕ) (d : List ℕ) → last + 1 ≡ length names → names ≡ take last names ++ get_or names last d ∷ []
split_last names last d e =
    sym (take_all (last + 1) names (omega (arith, e))) ∙ take_more names last d (omega (arith, e))

module _ {T : Type 0} (change : ℕ → List ℕ → T → Files → Files → Type 0) (why : Files → ℕ → List ℕ → Refusal → Type 0) (names parents : List (List ℕ))
    (name : List ℕ) (from : ℕ) (files seen new : Files) (split : names ≡ parents ++ name ∷ []) (led : walked files 1 parents ≡ Ok from) (same : seen ≡ files) where
  leads_in : LeadsIn names files from name
  leads_in = record { parents = parents; split = split; led = led }

  at_last : (r : Result T Refusal) → Happens (change from name) (λ f. why f from name) files new r → Happens (AtLast change names) (IsUndoneIn why names) files new r
  at_last (Ok made) happens = record { from = from; name = name; led = leads_in; made_is = happens }
  at_last (Err cause) happens = (happens.0, inr (from, name, leads_in, happens.1))

  pub happens_at : (r : Result (Result T Refusal) TreeFault) → IfOk r (Happens (change from name) (λ f. why f from name) seen new) →
      IfOk r (Happens (AtLast change names) (IsUndoneIn why names) files new)
  happens_at r all =
      IfOk-weaker r (Happens (change from name) (λ f. why f from name) seen new) (Happens (AtLast change names) (IsUndoneIn why names) files new)
      (λ s happens. at_last s (subst (λ (f : Files). Happens (change from name) (λ g. why g from name) f new s) same happens)) all

-- all names but the last lead nowhere
pub unled_by : (names parents : List (List ℕ)) (name : List ℕ) (files : Files) (cause : Refusal) → names ≡ parents ++ name ∷ [] →
    walked files 1 parents ≡ Err cause → IsUnled names files cause
unled_by names parents name files cause split led = inr (parents, name, split, led)

pub unled_at : (why : Files → ℕ → List ℕ → Refusal → Type 0) (names parents : List (List ℕ)) (name : List ℕ) (files : Files) (cause : Refusal) →
    names ≡ parents ++ name ∷ [] → walked files 1 parents ≡ Err cause → IsUndoneIn why names files cause
unled_at why names parents name files cause split led = inl (unled_by names parents name files cause split led)
