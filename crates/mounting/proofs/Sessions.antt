-- What requests do one after the other, by what each does.
use Rattle.std.proofs.Common.{◌≡◌, ◌≢◌, ◌∙◌, ℕ, ◌<◌, List, [], ◌∷◌, suc, ⊎_elim, inl, inr, refl, sym, ap, subst, arith}
use Rattle.std.proofs.lemmas.Bool.{cases_eq}
use Rattle.blocks.specs.declared.disk.Disk.{Ghosts}
use Rattle.calls.specs.Calls.{image_on}
use Rattle.calls.specs.Stepping.{Plain}
use Rattle.model.specs.declared.types.image.Form.{Form}
use Rattle.model.specs.Files.{Files, files_of}
use Rattle.mounting.specs.Changes.{MayServe}
use Rattle.mounting.specs.Sessions.{CameByAll, CameBySome, HasServedAll, ServesEach}
use Rattle.names.specs.Inside.{form_seen}
use Rattle.names.specs.Lemmas.Midst.{leaves_more, leaves_on}
use Rattle.names.specs.Lemmas.Over.{form_stays}
use Rattle.names.specs.Lemmas.Runs.{came_same}
use Rattle.names.specs.Ready.{LeavesIfDone, LeavesMidst}
use Rattle.names.specs.Runs.{CameBy, HasRun}

-- a change of the first request, and those of a beginning of the later ones
some_once : (form : Form) (bytes : List ℕ) (later : List (List ℕ)) (x z : Files) → CameBy (MayServe form bytes) x z → CameBySome form (bytes ∷ later) x z
some_once form bytes later x z came = (1, (z, (came, refl)))

some_more : (form : Form) (bytes : List ℕ) (later : List (List ℕ)) (x y z : Files) → CameBy (MayServe form bytes) x y → CameBySome form later y z → CameBySome form (bytes ∷ later) x z
some_more form bytes later x y z came some = (suc some.0, (y, (came, some.1)))

module _ {D N : Type 0} (disk : Ghosts D N) where
  abbrev files_on : Plain D → Files
  files_on k = files_of (image_on disk.image k)

  -- one request, and those behind it
  module _ (form : Form) (bytes : List ℕ) (later : List (List ℕ)) (k e m : Plain D) (mid : ℕ) (made : 0 < mid → CameBy (MayServe form bytes) (files_on k) (files_on e))
      (none : mid ≡ 0 → m ≡ e) where
    abbrev all : Files → Files → Type 0
    all = CameBySome form (bytes ∷ later)

    behind_same : e ≡ k → LeavesMidst disk (CameBySome form later) e m → LeavesMidst disk all k m
    behind_same same behind =
        subst (λ (o : Plain D). LeavesMidst disk all o m) same
        (leaves_more disk (CameBySome form later) all e m (λ x z some. some_more form bytes later x x z (came_same (MayServe form bytes) x x refl) some) behind)

    first_only : LeavesMidst disk (CameBy (MayServe form bytes)) k e → LeavesMidst disk all k e
    first_only before = leaves_more disk (CameBy (MayServe form bytes)) all k e (some_once form bytes later) before

    both : LeavesMidst disk (CameBy (MayServe form bytes)) k e → LeavesMidst disk (CameBySome form later) e m → LeavesMidst disk all k m
    both before behind =
        ⊎_elim
        (λ (zero : mid ≡ 0). subst (λ (o : Plain D). LeavesMidst disk all k o) (sym (none zero)) (first_only before))
        (λ (there : mid ≢ 0).
        let came = made (omega (arith, there)) in
        leaves_on disk (CameBy (MayServe form bytes)) (CameBySome form later) all k e m before behind (some_once form bytes later)
        (some_once form bytes later _ _ came) (λ z some. some_more form bytes later _ _ z came some))
        (cases_eq mid 0)

    pub leaves_then : LeavesIfDone disk (CameBy (MayServe form bytes)) k e → LeavesIfDone disk (CameBySome form later) e m → LeavesIfDone disk all k m
    leaves_then first more =
        ⊎_elim
        (λ (still : m ≡ e). ⊎_elim (λ (same : e ≡ k). inl (still ∙ same)) (λ (before : LeavesMidst disk (CameBy (MayServe form bytes)) k e). inr (subst (λ (o : Plain D). LeavesMidst disk all k o) (sym still) (first_only before))) first)
        (λ (behind : LeavesMidst disk (CameBySome form later) e m). ⊎_elim (λ (same : e ≡ k). inr (behind_same same behind)) (λ (before : LeavesMidst disk (CameBy (MayServe form bytes)) k e). inr (both before behind)) first)
        more

  pub served : (requests : List (List ℕ)) (k m : Plain D) (left less : ℕ) → ServesEach disk requests k left m less → HasServedAll disk requests k m left less
  served [] k m left less each = record {
    made = λ some. ap files_on each.0;
    leaves = inl each.0;
    none = λ zero. (each.0, each.1 ∙ zero);
  }
  served (bytes ∷ later) k m left less each = on each.0 each.1.0 each.1.1.0 (served later each.0 m each.1.0 less each.1.1.1)
    where
      on : (e : Plain D) (mid : ℕ) → HasRun disk (MayServe (form_seen disk.image k) bytes) k e left mid → HasServedAll disk later e m mid less → HasServedAll disk (bytes ∷ later) k m left less
      on e mid run more =
          let form = form_seen disk.image k in
          let same : form_seen disk.image e ≡ form = form_stays disk k e run.stays in
          let some_mid : 0 < less → 0 < mid = λ some. ⊎_elim (λ (zero : mid ≡ 0). let gone = (more.none zero).1 in omega (arith, gone, some)) (λ (there : mid ≢ 0). omega (arith, there)) (cases_eq mid 0) in
          record {
            made = λ some. (files_on e, (run.made (some_mid some), subst (λ (f : Form). CameByAll f later (files_on e) (files_on m)) same (more.made some)));
            leaves = leaves_then form bytes later k e m mid run.made (λ zero. (more.none zero).0) run.leaves (subst (λ (f : Form). LeavesIfDone disk (CameBySome f later) e m) same more.leaves);
            none = λ zero. let here = run.none zero in let behind = more.none here.1 in (behind.0 ∙ here.0, behind.1);
          }
