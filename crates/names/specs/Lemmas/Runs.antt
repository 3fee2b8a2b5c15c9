-- Runs of changes of a tree, one behind the other.
use Rattle.std.proofs.Common.{◌≡◌, ◌∙◌, ℕ, zero, suc, ◌+◌, ◌<◌, ◌≢◌, ⊎_elim, inl, inr, refl, sym, ap, subst, arith}
use Rattle.std.specs.Prelude.{Result, Ok, Err, IfErr, IfOk}
use Rattle.std.proofs.lemmas.Bool.{cases_eq}
use Rattle.blocks.specs.declared.disk.Disk.{Ghosts}
use Rattle.calls.specs.Calls.{image_on}
use Rattle.calls.specs.Stepping.{Plain}
use Rattle.calls.specs.Stopped.{StaysOver}
use Rattle.directories.specs.declared.refusal.Refusal.{Refusal}
use Rattle.model.specs.Files.{Files, files_of}
use Rattle.names.specs.declared.refusal.TreeFault.{TreeFault}
use Rattle.names.specs.declared.refusal.TreeFault.TheVariants.{Path, Refused, Call, NoSpace, NoCall}
use Rattle.names.specs.Ready.{AnyOf, HasNoCall, IsReady, IsReadyBehind, IsUnansweredOr, LeavesIfDone, LeavesMidst, LeavesTree, MayGoOn}
use Rattle.names.specs.Runs.{CameBy, HasRun, MakeNew}
use Rattle.names.specs.Lemmas.Midst.{leaves_any, leaves_more, leaves_on}
use Rattle.names.specs.Lemmas.Over.{over_on}

-- ---- files

pub came_same : (change : Files → Files → Type 0) (files new : Files) → new ≡ files → CameBy change files new
came_same change files new same = (0, same)

pub came_once : (change : Files → Files → Type 0) (files new : Files) → change files new → CameBy change files new
came_once change files new made = (1, (files, refl, made))

came_then : (change : Files → Files → Type 0) (n count : ℕ) (files mid new : Files) → MakeNew change count files mid → MakeNew change n mid new → CameBy change files new
came_then change zero count files mid new first same = (count, subst (λ (f : Files). MakeNew change count files f) (sym same) first)
came_then change (suc n) count files mid new first more =
    let so_far = came_then change n count files mid more.0 first more.1 in
    (suc so_far.0, (more.0, so_far.1, more.2))

pub came_on : (change : Files → Files → Type 0) (files mid new : Files) → CameBy change files mid → CameBy change mid new → CameBy change files new
came_on change files mid new first more = came_then change more.0 first.0 files mid new first.1 more.1

more_new : (less more : Files → Files → Type 0) → ((x z : Files) → less x z → more x z) → (count : ℕ) (files new : Files) → MakeNew less count files new → MakeNew more count files new
more_new less more wider zero files new same = same
more_new less more wider (suc count) files new made = (made.0, more_new less more wider count files made.0 made.1, wider made.0 new made.2)

pub came_wider : (less more : Files → Files → Type 0) (files new : Files) → ((x z : Files) → less x z → more x z) → CameBy less files new → CameBy more files new
came_wider less more files new wider came = (came.0, more_new less more wider came.0 files new came.1)

same_new : (change : Files → Files → Type 0) → ((x z : Files) → change x z → z ≡ x) → (count : ℕ) (files new : Files) → MakeNew change count files new → new ≡ files
same_new change same zero files new is = is
same_new change same (suc count) files new made = same made.0 new made.2 ∙ same_new change same count files made.0 made.1

-- by changes that change nothing
pub came_nowhere : (less more : Files → Files → Type 0) (files new : Files) → ((x z : Files) → less x z → z ≡ x) → CameBy less files new → CameBy more files new
came_nowhere less more files new same came = came_same more files new (same_new less same came.0 files new came.1)

-- ---- kernels

-- where no call is left, nothing is done
pub nothing_done : {S T : Type 0} (t u : S) (r : Result T TreeFault) → HasNoCall t u r → u ≡ t
nothing_done t u (Err NoCall) none = none
nothing_done t u (Ok made) none = absurd none
nothing_done t u (Err (Path cause)) none = absurd none
nothing_done t u (Err (Refused cause)) none = absurd none
nothing_done t u (Err (Call cause)) none = absurd none
nothing_done t u (Err NoSpace) none = absurd none

module _ {D N : Type 0} (disk : Ghosts D N) where
  -- nothing was done
  pub run_same : (change : Files → Files → Type 0) (k m : Plain D) (left less : ℕ) → m ≡ k → less ≡ left → HasRun disk change k m left less
  run_same change k m left less same as_many = record {
    made = λ some. came_same change _ _ (ap (λ (o : Plain D). files_of (image_on disk.image o)) same);
    leaves = inl same;
    none = λ zero. (same, as_many ∙ zero);
    stays = record { opening = ap (λ (o : Plain D). o.opening) same; name = ap (λ (o : Plain D). disk.name o.store.volume.device) same };
  }

  -- one run behind the other
  pub run_on : (change : Files → Files → Type 0) (k m e : Plain D) (left mid less : ℕ) → HasRun disk change k m left mid → HasRun disk change m e mid less → HasRun disk change k e left less
  run_on change k m e left mid less first more = record {
    made = λ some. came_on change _ _ _ (first.made (some_mid some)) (more.made some);
    leaves = leaves;
    none = λ zero. let here = first.none zero in let then_none = more.none here.1 in (then_none.0 ∙ here.0, then_none.1);
    stays = over_on disk k m e first.stays more.stays;
  }
    where
      some_mid : 0 < less → 0 < mid
      some_mid some = ⊎_elim (λ (zero : mid ≡ 0). let none = (more.none zero).1 in omega (arith, none, some)) (λ (some_there : mid ≢ 0). omega (arith, some_there)) (cases_eq mid 0)

      both : LeavesMidst disk (CameBy change) k m → LeavesMidst disk (CameBy change) m e → LeavesIfDone disk (CameBy change) k e
      both before behind =
          ⊎_elim
          (λ (zero : mid ≡ 0). inr (subst (λ (o : Plain D). LeavesMidst disk (CameBy change) k o) (sym (more.none zero).0) before))
          (λ (some_there : mid ≢ 0).
          let there : 0 < mid = omega (arith, some_there) in
          inr (leaves_on disk (CameBy change) (CameBy change) (CameBy change) k m e before behind (λ x z came. came)
          (first.made there) (λ z came. came_on change _ _ _ (first.made there) came)))
          (cases_eq mid 0)

      leaves : LeavesIfDone disk (CameBy change) k e
      leaves =
          ⊎_elim
          (λ (still : e ≡ m). subst (λ (o : Plain D). LeavesIfDone disk (CameBy change) k o) (sym still) first.leaves)
          (λ (behind : LeavesMidst disk (CameBy change) m e).
          ⊎_elim
          (λ (same : m ≡ k). inr (subst (λ (o : Plain D). LeavesMidst disk (CameBy change) o e) same behind))
          (λ (before : LeavesMidst disk (CameBy change) k m). both before behind) first.leaves)
          more.leaves

  -- of other changes, by which as much comes
  pub run_by : (less_of more_of : Files → Files → Type 0) (k m : Plain D) (left less : ℕ) → ((x z : Files) → CameBy less_of x z → CameBy more_of x z) → HasRun disk less_of k m left less → HasRun disk more_of k m left less
  run_by less_of more_of k m left less wider run = record {
    made = λ some. wider _ _ (run.made some);
    leaves = ⊎_elim (λ (same : m ≡ k). inl same) (λ (leaves : LeavesMidst disk (CameBy less_of) k m). inr (leaves_more disk (CameBy less_of) (CameBy more_of) k m wider leaves)) run.leaves;
    none = run.none;
    stays = run.stays;
  }

  -- of changes of more kinds
  pub run_wider : (less_of more_of : Files → Files → Type 0) (k m : Plain D) (left less : ℕ) → ((x z : Files) → less_of x z → more_of x z) → HasRun disk less_of k m left less → HasRun disk more_of k m left less
  run_wider less_of more_of k m left less wider run = run_by less_of more_of k m left less (λ x z came. came_wider less_of more_of x z wider came) run

  -- of changes that change nothing
  pub run_nowhere : (less_of more_of : Files → Files → Type 0) (k m : Plain D) (left less : ℕ) → ((x z : Files) → less_of x z → z ≡ x) → HasRun disk less_of k m left less → HasRun disk more_of k m left less
  run_nowhere less_of more_of k m left less same run = run_by less_of more_of k m left less (λ x z came. came_nowhere less_of more_of x z same came) run

  -- ---- one call of a tree

  -- A call of a tree, by what it ensures.
  module _ {T : Type 0} (change : T → Files → Files → Type 0) (hinders : TreeFault → Type 0) (why : Files → Refusal → Type 0) (k m : Plain D) (left less : ℕ) (ready : MayGoOn disk k left)
      (none : left ≡ 0 → (m ≡ k) × (less ≡ 0)) where
    some_left : 0 < less → 0 < left
    some_left some = ⊎_elim (λ (zero : left ≡ 0). let none_there = (none zero).1 in omega (arith, none_there, some)) (λ (there : left ≢ 0). omega (arith, there)) (cases_eq left 0)

    made_by : (r : Result T TreeFault) → 0 < less → IsReadyBehind disk m less r → IfOk r (λ made. change made (files_of (image_on disk.image k)) (files_of (image_on disk.image m)))
        → (IsReady disk k left → IfErr r (IsUnansweredOr hinders disk why k m)) → CameBy (AnyOf change) (files_of (image_on disk.image k)) (files_of (image_on disk.image m))
    made_by (Ok made) some behind is refused = came_once (AnyOf change) _ _ (made, is)
    made_by (Err (Path cause)) some behind is refused = absurd (refused (ready (some_left some)))
    made_by (Err (Refused cause)) some behind is refused = came_same (AnyOf change) _ _ (refused (ready (some_left some))).0
    made_by (Err (Call cause)) some behind is refused = absurd (omega (arith, behind, some))
    made_by (Err NoSpace) some behind is refused = absurd (omega (arith, behind, some))
    made_by (Err NoCall) some behind is refused = absurd (omega (arith, behind, some))

    pub run_of : (r : Result T TreeFault) → IsReadyBehind disk m less r → IfOk r (λ made. change made (files_of (image_on disk.image k)) (files_of (image_on disk.image m)))
        → (IsReady disk k left → IfErr r (IsUnansweredOr hinders disk why k m)) → (0 < left → LeavesTree disk change k m) → StaysOver disk k m → HasRun disk (AnyOf change) k m left less
    run_of r behind is refused leaves stays = record {
      made = λ some. made_by r some behind is refused;
      leaves = ⊎_elim (λ (zero : left ≡ 0). inl (none zero).0) (λ (there : left ≢ 0). inr (leaves_more disk (AnyOf change) (CameBy (AnyOf change)) k m (λ x z any. came_once (AnyOf change) x z any) (leaves_any disk change k m (leaves (omega (arith, there)))))) (cases_eq left 0);
      none = none;
      stays = stays;
    }
