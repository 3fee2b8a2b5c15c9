-- One call of a tree, by what it does to files.
use Rattle.std.proofs.Common.{◌≡◌, ◌≢◌, ℕ, ◌-◌, ◌<◌, List, length, take, drop, ⊎_elim, inl, inr, refl, subst, arith}
use Rattle.std.specs.Prelude.{zero, suc, Option, Some, None, Result, Ok, Err, IfErr, IfOk, OnErr, OnOk}
use Rattle.std.proofs.lemmas.Bool.{cases_eq}
use Rattle.std.proofs.lemmas.List.{length-drop, take_all}
use Rattle.std.proofs.lemmas.Result.{IfOk-weaker}
use Rattle.blocks.specs.declared.disk.Disk.{Ghosts}
use Rattle.calls.specs.Calls.{image_on}
use Rattle.calls.specs.Stepping.{Plain}
use Rattle.calls.specs.Stopped.{StaysOver}
use Rattle.directories.specs.declared.refusal.Refusal.{Refusal}
use Rattle.model.specs.declared.types.image.Form.{Form}
use Rattle.fuse.specs.declared.header.Header.{Header}
use Rattle.fuse.specs.Requests.{Asked, header_in, Other, Rename, request_in, SetAttributes, Write}
use Rattle.history.specs.Lemmas.Leaving.{leaves_wider}
use Rattle.model.specs.Files.{Files, files_of}
use Rattle.model.specs.Log.{recovered}
use Rattle.mounting.specs.declared.errno.Errno.{Errno}
use Rattle.mounting.specs.Causes.{ChangesFile, HindersIf, HindersServed, IsHindered, Leaves, Looks}
use Rattle.mounting.specs.Changes.{Begins, BeginsIf, BeginsServed, DidAskedIf, DidServe, Makes, MayDo, MayMake, MayMakeIf, MayServe, NoChange, OnlyLooks, Serving, StaysIfRefused, StaysOn, Task}
use Rattle.names.specs.declared.refusal.TreeFault.{TreeFault}
use Rattle.names.specs.declared.refusal.TreeFault.TheVariants.{Path, Refused, Call, NoSpace, NoCall}
use Rattle.names.specs.Inside.{form_seen}
use Rattle.names.specs.Lemmas.Over.{form_stays}
use Rattle.names.specs.Lemmas.Runs.{run_nowhere, run_of, run_on, run_same, run_wider}
use Rattle.names.specs.Ready.{AnyOf, HasNoCall, IsReady, IsReadyBehind, IsUnansweredOr, KeepsTree, LeavesTree, MayGoOn}
use Rattle.names.specs.Runs.{HasRun, MakeNew}

-- two things that are so where a result is one
pub both_ok : {T E P Q S : Type 0} (r : Result T E) → OnOk r P → OnOk r Q → (P → Q → S) → OnOk r S
both_ok (Ok t) p q on = on p q
both_ok (Err e) p q on = tt

-- three
pub all_ok : {T E P Q R S : Type 0} (r : Result T E) → OnOk r P → OnOk r Q → OnOk r R → (P → Q → R → S) → OnOk r S
all_ok (Ok t) p q s on = on p q s
all_ok (Err e) p q s on = tt

module _ {D N : Type 0} (disk : Ghosts D N) where
  -- what a call ensures, as a run of one change
  module _ {T : Type 0} (hinders : TreeFault → Type 0) (why : Files → Refusal → Type 0) (k m : Plain D) (left less : ℕ) (r : Result T TreeFault) (ready : MayGoOn disk k left)
      (none : left ≡ 0 → (m ≡ k) × (less ≡ 0)) (behind : IsReadyBehind disk m less r) (refused : IsReady disk k left → IfErr r (IsUnansweredOr hinders disk why k m)) (stays : StaysOver disk k m) where
    pub call_makes : (change : T → Files → Files → Type 0) → IfOk r (λ made. change made (files_of (image_on disk.image k)) (files_of (image_on disk.image m))) → (0 < left → LeavesTree disk change k m)
        → Makes disk (λ form. AnyOf change) k m left less
    call_makes change is leaves = λ task o first within before.
        run_on disk (MayDo (form_seen disk.image o) task) o k m first left less before
        (run_wider disk (AnyOf change) (MayDo (form_seen disk.image o) task) k m left less within (run_of disk change hinders why k m left less ready none r behind is refused leaves stays))

    -- where the change asks for the form of the image, and for its files
    pub call_makes_here : (change : Form → T → Files → Files → Type 0) → IfOk r (λ made. change (form_seen disk.image k) made (files_of (image_on disk.image k)) (files_of (image_on disk.image m)))
        → (0 < left → LeavesTree disk (change (form_seen disk.image k)) k m) → Makes disk (λ form x z. (x ≡ files_of (image_on disk.image k)) × AnyOf (change form) x z) k m left less
    call_makes_here change is leaves = λ task o first within before.
        let same : form_seen disk.image k ≡ form_seen disk.image o = form_stays disk o k before.stays in
        run_on disk (MayDo (form_seen disk.image o) task) o k m first left less before
        (run_wider disk (AnyOf here) (MayDo (form_seen disk.image o) task) k m left less
        (λ x z any. within x z (any.1.0, subst (λ (form : Form). AnyOf (change form) x z) same (any.0, any.1.1)))
        (run_of disk here hinders why k m left less ready none r behind (IfOk-weaker r _ _ (λ t made. (refl, made)) is) refused here_leaves stays))
      where
        here : T → Files → Files → Type 0
        here t x z = (x ≡ files_of (image_on disk.image k)) × change (form_seen disk.image k) t x z

        here_leaves : 0 < left → LeavesTree disk here k m
        here_leaves some =
            leaves_wider disk.moment disk.leaves k.store.volume.device m.store.volume.device (KeepsTree (change (form_seen disk.image k)) (image_on disk.image k)) (KeepsTree here (image_on disk.image k))
            (λ z kept. record {
              log = kept.log;
              sound = kept.sound;
              tree = kept.tree;
              counted = kept.counted;
              files = ⊎_elim (λ (still : files_of (recovered z) ≡ files_of (image_on disk.image k)). inl still)
                  (λ (made : (t : T) × change (form_seen disk.image k) t (files_of (image_on disk.image k)) (files_of (recovered z))). inr (made.0, (refl, made.1))) kept.files;
            }) (leaves some)

    -- where it changes nothing
    pub call_looks : (change : T → Files → Files → Type 0) → ((made : T) (x z : Files) → change made x z → z ≡ x)
        → IfOk r (λ made. change made (files_of (image_on disk.image k)) (files_of (image_on disk.image m))) → (0 < left → LeavesTree disk change k m) → OnlyLooks disk k m left less
    call_looks change same is leaves = λ task o first before.
        run_on disk (MayDo (form_seen disk.image o) task) o k m first left less before
        (run_nowhere disk (AnyOf change) (MayDo (form_seen disk.image o) task) k m left less (λ x z any. same any.0 x z any.1)
        (run_of disk change hinders why k m left less ready none r behind is refused leaves stays))

-- where a call was refused, files stay
pub call_stays : {D N S T : Type 0} (disk : Ghosts D N) (hinders : TreeFault → Type 0) (why : Files → Refusal → Type 0) (t u : S) (k m : Plain D) (left : ℕ) (r : Result T TreeFault) → MayGoOn disk k left
    → (left ≡ 0 → HasNoCall t u r) → (IsReady disk k left → IfErr r (IsUnansweredOr hinders disk why k m)) → StaysIfRefused disk k m r
call_stays disk hinders why t u k m left (Ok made) ready none refused = tt
call_stays disk hinders why t u k m left (Err (Path cause)) ready none refused = tt
call_stays disk hinders why t u k m left (Err (Refused cause)) ready none refused =
    ⊎_elim (λ (zero : left ≡ 0). absurd (none zero)) (λ (some : left ≢ 0). (refused (ready (omega (arith, some)))).0) (cases_eq left 0)
call_stays disk hinders why t u k m left (Err (Call cause)) ready none refused = tt
call_stays disk hinders why t u k m left (Err NoSpace) ready none refused = tt
call_stays disk hinders why t u k m left (Err NoCall) ready none refused = tt

-- where it was not done, too, unless no other is made
pub call_kept : {D N S T : Type 0} (disk : Ghosts D N) (hinders : TreeFault → Type 0) (why : Files → Refusal → Type 0) (t u : S) (k m : Plain D) (left less : ℕ) (r : Result T TreeFault) → MayGoOn disk k left
    → (left ≡ 0 → HasNoCall t u r) → IsReadyBehind disk m less r → (IsReady disk k left → IfErr r (IsUnansweredOr hinders disk why k m)) → OnErr r (StaysOn disk k m less)
call_kept disk hinders why t u k m left less (Ok made) ready none behind refused = tt
call_kept disk hinders why t u k m left less (Err (Path cause)) ready none behind refused =
    ⊎_elim (λ (zero : left ≡ 0). absurd (none zero)) (λ (some : left ≢ 0). absurd (refused (ready (omega (arith, some))))) (cases_eq left 0)
call_kept disk hinders why t u k m left less (Err (Refused cause)) ready none behind refused = λ on.
    ⊎_elim (λ (zero : left ≡ 0). absurd (none zero)) (λ (some : left ≢ 0). (refused (ready (omega (arith, some)))).0) (cases_eq left 0)
call_kept disk hinders why t u k m left less (Err (Call cause)) ready none behind refused = λ on. absurd (omega (arith, behind, on))
call_kept disk hinders why t u k m left less (Err NoSpace) ready none behind refused = λ on. absurd (omega (arith, behind, on))
call_kept disk hinders why t u k m left less (Err NoCall) ready none behind refused = λ on. absurd (omega (arith, behind, on))

-- ---- what is done of a request that is refused

-- of one that changes a file that may be anything
pub begins_change : (node : ℕ) (r : Asked) (x z : Files) → ChangesFile r → Begins node r x z
begins_change node (SetAttributes valid size changed nanos mode) x z is = tt
begins_change node (Write offset bytes) x z is = tt
begins_change node r x z is = absurd is

-- of a look nothing
pub begins_look : (node : ℕ) (r : Asked) (x z : Files) → Looks r → z ≡ x → Begins node r x z
begins_look node (SetAttributes valid size changed nanos mode) x z is same = absurd is
begins_look node (Write offset bytes) x z is same = absurd is
begins_look node (Rename to flags old name) x z is same = inl same
begins_look node r x z is same = same

made_none : (count : ℕ) (x z : Files) → MakeNew NoChange count x z → z ≡ x
made_none zero x z made = made
made_none (suc count) x z made = absurd made.2

module _ {D N : Type 0} (disk : Ghosts D N) where
  -- where files are only looked at they are the same
  pub looks_stay : (k m : Plain D) (left less : ℕ) → OnlyLooks disk k m left less → StaysOn disk k m less
  looks_stay k m left less looks = λ some.
      let run = looks (Serving 0 Other) k left (run_same disk NoChange k k left left refl refl) in
      let came = run.made some in
      made_none came.0 _ _ came.1

  -- a task from its beginning on
  pub task_run : (task : Task) (k m : Plain D) (left less : ℕ) → Makes disk (λ form. MayDo form task) k m left less → HasRun disk (MayDo (form_seen disk.image k) task) k m left less
  task_run task k m left less makes = makes task k left (λ x z is. is) (run_same disk (MayDo (form_seen disk.image k) task) k k left left refl refl)

  -- a request, if there is one
  pub request_run : (node : ℕ) (request : Option Asked) (k m : Plain D) (left less : ℕ) → Makes disk (λ form. MayMakeIf form node request) k m left less → HasRun disk (MayMakeIf (form_seen disk.image k) node request) k m left less
  request_run node None k m left less makes = task_run (Serving node Other) k m left less makes
  request_run node (Some request) k m left less makes = task_run (Serving node request) k m left less makes

-- what a request may change, by its bytes
pub asked_in : (form : Form) (n node : ℕ) (r : Asked) (request : Option Asked) (x z : Files) → n ≡ node → Some r ≡ request → MayMake form n r x z → MayMakeIf form node request x z
asked_in form n node r request x z same is makes = subst (λ (o : Option Asked). MayMakeIf form node o x z) is (subst (λ (i : ℕ). MayMake form i r x z) same makes)

-- the bytes behind a header
behind_header : (bytes : List ℕ) → take (length bytes - 40) (drop 40 bytes) ≡ drop 40 bytes
behind_header bytes = take_all (length bytes - 40) (drop 40 bytes) (let rest = length-drop 40 bytes in omega (arith, rest))

module _ {D N : Type 0} (disk : Ghosts D N) (bytes : List ℕ) (header : Header) where
  abbrev asked_behind : List ℕ
  asked_behind = take (length bytes - 40) (drop 40 bytes)

  pub served_run : (k m : Plain D) (left less : ℕ) → header ≡ header_in bytes → Makes disk (λ form. MayMakeIf form header.node (request_in header.opcode asked_behind)) k m left less
      → HasRun disk (MayServe (form_seen disk.image k) bytes) k m left less
  served_run k m left less same makes =
      subst (λ (h : Header). HasRun disk (MayMakeIf (form_seen disk.image k) h.node (request_in h.opcode (drop 40 bytes))) k m left less) same
      (subst (λ (rest : List ℕ). HasRun disk (MayMakeIf (form_seen disk.image k) header.node (request_in header.opcode rest)) k m left less) (behind_header bytes)
      (request_run disk header.node (request_in header.opcode asked_behind) k m left less makes))

  pub served_done : (body : List ℕ) (k m : Plain D) → header ≡ header_in bytes → DidAskedIf disk header.node (request_in header.opcode asked_behind) body k m → DidServe disk bytes k m body
  served_done body k m same did =
      subst (λ (h : Header). DidAskedIf disk h.node (request_in h.opcode (drop 40 bytes)) body k m) same
      (subst (λ (rest : List ℕ). DidAskedIf disk header.node (request_in header.opcode rest) body k m) (behind_header bytes) did)

  pub served_left : (k m : Plain D) (left : ℕ) (e : Errno) → header ≡ header_in bytes → Leaves disk (BeginsIf header.node (request_in header.opcode asked_behind)) k m left e → Leaves disk (BeginsServed bytes) k m left e
  served_left k m left e same leaves =
      subst (λ (h : Header). Leaves disk (BeginsIf h.node (request_in h.opcode (drop 40 bytes))) k m left e) same
      (subst (λ (rest : List ℕ). Leaves disk (BeginsIf header.node (request_in header.opcode rest)) k m left e) (behind_header bytes) leaves)

  pub served_hindered : (m : Plain D) (left : ℕ) (e : Errno) → header ≡ header_in bytes → IsHindered disk (HindersIf header.node (request_in header.opcode asked_behind)) m left e → IsHindered disk (HindersServed bytes) m left e
  served_hindered m left e same why =
      subst (λ (h : Header). IsHindered disk (HindersIf h.node (request_in h.opcode (drop 40 bytes))) m left e) same
      (subst (λ (rest : List ℕ). IsHindered disk (HindersIf header.node (request_in header.opcode rest)) m left e) (behind_header bytes) why)
