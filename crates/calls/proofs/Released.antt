-- A task holds no file once its operation is over; and where no task does, the current image has the
-- files that the journal tells.
use Rattle.std.proofs.Common.{◌≡◌, ◌≢◌, ◌∙◌, ◌<◌, ◌≤◌, ℕ, true, List, [], ◌∷◌, length, Option, Some, None, refl, sym, ap, subst, ⊎_elim, arith}
use Rattle.std.specs.Prelude.{IsTrue}
use Rattle.std.proofs.lemmas.Bool.{cases_eq, lt-ltb}
use Rattle.blocks.specs.Disk.{Image}
use Rattle.blocks.specs.declared.disk.Disk.{Ghosts}
use Rattle.blocks.specs.declared.errors.DiskFault.{DiskFault}
use Rattle.model.specs.declared.types.operations.Op.{Op}
use Rattle.model.specs.declared.types.operations.Op.TheVariants.{Create}
use Rattle.model.specs.declared.types.operations.Reply.{Reply}
use Rattle.model.specs.declared.types.operations.TaskProgress.{TaskProgress}
use Rattle.model.specs.declared.types.operations.TaskProgress.TheVariants as progress
use Rattle.model.specs.declared.types.operations.Why.{Why}
use Rattle.model.specs.declared.types.progress.Progress.{Progress}
use Rattle.model.specs.declared.types.progress.Progress.TheVariants as machine
use Rattle.model.specs.Files.{Files, file_in}
use Rattle.model.specs.Journal.{is_number}
use Rattle.model.specs.Layout.{form_of, inode_of}
use Rattle.model.specs.Operations.{after}
use Rattle.in_flight.specs.Held.{Claim, IsFine}
use Rattle.in_flight.specs.Loose.{IsAtRest}
use Rattle.inodes.specs.declared.tasks.Stage.{Stage}
use Rattle.inodes.specs.declared.tasks.Stage.TheVariants as stage
use Rattle.inodes.specs.Goes.{Goes, GoesFrom, progress_by, progress_of_write, shown_of, stage_of_writing}
use Rattle.inodes.specs.Holding.{claim_by, claim_of, claims_of}
use Rattle.inodes.specs.Lemmas.Looks.{IsPassedBy}
use Rattle.inodes.specs.Ialloc.{SearchState}
use Rattle.inodes.specs.Stages.{is_over}
use Rattle.inodes.specs.Steps.{Steps}
use Rattle.inodes.specs.Store.{FitsFiles, StoreState, current_of, first_taking, reply_of}
use Rattle.inodes.specs.Table.{or_else}
use Rattle.inodes.specs.Tasks.{TaskState, task}
use Rattle.inodes.specs.Writei.{WriteState}
use Rattle.history.specs.Processes.{process}
use Rattle.model.specs.declared.types.operations.Step.{Step}
use Rattle.model.specs.declared.types.operations.Step.TheVariants as step
use Rattle.calls.specs.Calls.{MakesLowestOf, MakesNoneOf}
use Rattle.calls.specs.Lemmas.Creations.{creation_makes}
use Rattle.calls.specs.Stepping.{Plain}
use Rattle.calls.specs.Transactions.{HasFiles}
use Rattle.calls.proofs.Called.{IsCall, call_over, given}
use Rattle.calls.proofs.Counting.{IsAnswered, IsFree}
use Rattle.calls.proofs.Searches.{passes_none, used_file}
use Rattle.calls.proofs.Stages.{AfterTurn, Answered, BeforeTurn, Committing, IsKept, Over, Waits, Where}
use Rattle.calls.proofs.Telling.{counts_files, stands_for}

-- ---- a task whose operation is over

-- no number's file is held at this stage
abbrev pub HoldsNone : Option Op → Stage → Type 0
HoldsNone op a = (i : ℕ) → claim_by op a i ≡ None

none_over : (op : Option Op) (a : Stage) → is_over a ≡ true → HoldsNone op a
none_over op stage.Nowhere over i = refl
none_over op (stage.Creating m) over i = refl
none_over op (stage.Taking m) over i = refl
none_over op (stage.Reading k m) over i = refl
none_over op (stage.Delivering k) over i = refl
none_over op (stage.Truncating k m) over i = absurd (cc over)
none_over op (stage.Writing k m) over i = absurd (cc over)
none_over op (stage.Setting k d u) over i = absurd (cc over)
none_over op (stage.Leaving k) over i = refl

module _ {D N : Type 0} (disk : Ghosts D N) (p : ℕ) (op : Op) (s t : StoreState D) where
  abbrev Held : Type 0
  Held = (i : ℕ) → claim_of (task t.tasks p) i ≡ None

  at_stage : (a : Stage) → (task t.tasks p).stage ≡ a → HoldsNone (task t.tasks p).op a → Held
  at_stage a is none = subst (HoldsNone (task t.tasks p).op) (sym is) none

  -- With the last step of a task, and with a reply that is decided behind its turn, it holds none: a
  -- machine's other steps are neither.
  module _ (x : TaskProgress) (moves : x ≢ progress.Moved) (turns : (r : Option Reply) → x ≢ progress.Turned r) (sleeps : (cause : Why) → x ≢ progress.Sleeping cause) (fails : (fault : DiskFault) → x ≢ progress.Fault fault) where
    by_machine : {T : Type 0} (last : T → TaskProgress) → ((out : T) → x ≢ last out) → (answer : Progress T) → x ≢ progress_by last answer
    by_machine last other machine.Moved e = moves e
    by_machine last other (machine.Sleeping cause) e = sleeps cause e
    by_machine last other (machine.Over out) e = other out e
    by_machine last other (machine.Fault fault) e = fails fault e

    by_search : (slot : Option ℕ) (m : SearchState) (q : TaskProgress) → x ≡ q → GoesFrom slot s.table.inode_count p m s.volume.buffers q (task t.tasks p).stage (shown_of disk.image s.volume) (shown_of disk.image t.volume) → ⊥
    by_search slot m progress.Moved is goes = moves is
    by_search slot m (progress.Turned reply) is goes = turns reply is
    by_search None m (progress.Decided reply) is goes = goes.0
    by_search (Some i) m (progress.Decided reply) is goes = goes
    by_search None m progress.Over is goes = goes.0
    by_search (Some i) m progress.Over is goes = goes
    by_search slot m (progress.Sleeping cause) is goes = sleeps cause is
    by_search slot m (progress.Fault fault) is goes = fails fault is

    by_write : (k : ℕ) (m n : WriteState) (answer : Progress (Unit {0})) → x ≡ progress_of_write m.done answer → (task t.tasks p).stage ≡ stage_of_writing k m n answer → Held
    by_write k m n machine.Moved e next = absurd (moves e)
    by_write k m n (machine.Sleeping cause) e next = absurd (sleeps cause e)
    by_write k m n (machine.Over out) e next = at_stage (stage.Leaving k) next (λ i. refl)
    by_write k m n (machine.Fault fault) e next = absurd (fails fault e)

    holds_none : (a : Stage) → (task s.tasks p).stage ≡ a → Goes disk a s p op x t → Held
    holds_none stage.Nowhere is goes = at_stage stage.Nowhere (ap (λ (y : StoreState D). (task y.tasks p).stage) goes.1 ∙ is) (λ i. refl)
    holds_none (stage.Creating m) is goes = absurd (by_search m.slot m x refl goes.0)
    holds_none (stage.Taking m) is goes = absurd (by_machine _ (λ used. turns _) goes.0.answer goes.0.gives)
    holds_none (stage.Reading k m) is goes = absurd (by_machine _ (λ out. moves) goes.0.answer goes.0.gives)
    holds_none (stage.Delivering k) is goes = at_stage stage.Nowhere goes.up.next (λ i. refl)
    holds_none (stage.Truncating k m) is goes = absurd (by_machine _ (λ out. moves) goes.answer goes.gives)
    holds_none (stage.Writing k m) is goes = by_write k m goes.now goes.answer goes.gives goes.next
    holds_none (stage.Setting k d u) is goes = absurd (by_machine _ (λ out. moves) goes.answer goes.gives)
    holds_none (stage.Leaving k) is goes = at_stage stage.Nowhere goes.1.next (λ i. refl)

  over_none : Steps disk s p op progress.Over t → Held
  over_none steps = holds_none progress.Over (λ e. cc e) (λ r e. cc e) (λ cause e. cc e) (λ fault e. cc e) (task s.tasks p).stage refl steps.goes

  decided_none : (reply : Reply) → Steps disk s p op (progress.Decided reply) t → Held
  decided_none reply steps = holds_none (progress.Decided reply) (λ e. cc e) (λ r e. cc e) (λ cause e. cc e) (λ fault e. cc e) (task s.tasks p).stage refl steps.goes

-- what is kept of that
module _ {D N : Type 0} (disk : Ghosts D N) (p : ℕ) (op : Op) (old : StoreState D) (none : (i : ℕ) → claim_of (task old.tasks p) i ≡ None) where
  abbrev pub IsReleased : StoreState D → Type 0
  IsReleased s = (i : ℕ) → claim_of (task s.tasks p) i ≡ None

  abbrev pub Released : Where → StoreState D → Type 0
  Released Waits s = s ≡ old
  Released (BeforeTurn g) s = Unit {0}
  Released (AfterTurn g r) s = Unit {0}
  Released (Over g r) s = IsReleased s
  Released (Committing r) s = IsReleased s
  Released (Answered r) s = IsReleased s

  pub released_kept : IsKept disk p op Released
  released_kept = record {
    begins = λ s kind same. tt;
    looks = λ s count kind same. tt;
    refused = λ s same i. ap (λ (y : StoreState D). claim_of (task y.tasks p) i) same ∙ none i;
    works = λ g s t x unturned steps was. tt;
    turns = λ g s t r steps was. tt;
    turns_over = λ g s t r over steps was. none_over (task t.tasks p).op (task t.tasks p).stage over;
    goes = λ g s t r x going steps was. tt;
    decides = λ g s t r reply untold steps was. tt;
    ends = λ g s t r steps was. over_none disk p op s t steps;
    decides_alone = λ s t r reply untold steps was. decided_none disk p op s t reply steps;
    ends_alone = λ s t r steps was. over_none disk p op s t steps;
    leaves = λ g s r was i. was i;
    closes = λ g s r commits was i. was i;
    commits = λ s t r x commits was i. ap (λ (ts : List TaskState). claim_of (task ts p) i) commits.tasks ∙ was i;
    committed = λ s r was. was;
  }

-- so a call of an operation releases what it held
pub call_releases : {D N : Type 0} (disk : Ghosts D N) (p : ℕ) (op : Op) (r : Step) (k m : Plain D) → IsCall disk p op r k m → ((i : ℕ) → claim_of (task k.store.tasks p) i ≡ None) → r ≡ step.Answered → (i : ℕ) → claim_of (task m.store.tasks p) i ≡ None
call_releases disk p op r k m call none so = (call_over disk p op r k m call (Released disk p op k.store none) (released_kept disk p op k.store none) refl so).holds

-- ---- the files in the current image

-- two tasks hold no file
none_claimed : (ts : List TaskState) → length ts ≡ 2 → ((i : ℕ) → claim_of (task ts 0) i ≡ None) → ((i : ℕ) → claim_of (task ts 1) i ≡ None) → (i : ℕ) → claims_of ts i ≡ None
none_claimed [] two first second i = refl
none_claimed (t ∷ []) two first second i = absurd (cc two)
none_claimed (t ∷ (u ∷ [])) two first second i = ap (λ (o : Option Claim). or_else o (claims_of (u ∷ []) i)) (first i) ∙ ap (λ (o : Option Claim). or_else o None) (second i)
none_claimed (t ∷ (u ∷ (v ∷ ts))) two first second i = absurd (cc two)

-- a number without a file is free in it
free_in : {D : Type 0} (image : D → Image) (s : StoreState D) (f : Files) (j : ℕ) → FitsFiles image s f → ((i : ℕ) → claims_of s.tasks i ≡ None) → 1 ≤ j → j < length f → file_in f j ≡ None → (inode_of (current_of image s.volume) j).kind ≡ 0
unfolding FitsFiles
free_in image s f j fits none low high gone =
    let cur = current_of image s.volume in
    let count = fits.count in
    let rests : IsAtRest cur j (file_in f j) = subst (λ (o : Option Claim). IsFine cur j o (file_in f j)) (none j) (fits.each j low (omega (arith, count, high))) in
    ⊎_elim (λ (free : (inode_of cur j).kind ≡ 0). free)
    (λ (used : (inode_of cur j).kind ≢ 0). let has = used_file cur j (omega (arith, low)) used in let both = sym has.1 ∙ rests.same ∙ gone in absurd (cc both))
    (cases_eq (inode_of cur j).kind 0)

-- ---- a creation in a transaction

module _ {D N : Type 0} (disk : Ghosts D N) (op : Op) (r : Step) (k m : Plain D) (call : IsCall disk 0 op r k m) (so : r ≡ step.Answered) (is : IsAnswered 0 op (given disk 0 op r k m call) m)
    (well : k.store.volume.fault ≡ None) (two : length k.store.tasks ≡ 2) (first : (i : ℕ) → claim_of (task k.store.tasks 0) i ≡ None) (second : (task k.store.tasks 1).stage ≡ first_taking 1) (free : (p : ℕ) → IsFree (process k.world p).at) where
  fits : (f : Files) → HasFiles disk.image k f → FitsFiles disk.image k.store f
  fits f has = stands_for disk (given disk 0 op r k m call) call.known_then free well f (record { run = has.run })

  none_held : (i : ℕ) → claims_of k.store.tasks i ≡ None
  none_held = none_claimed k.store.tasks two first (λ i. ap (λ (a : Stage). claim_by (task k.store.tasks 1).op a i) second)

  -- no number without a file is passed by
  passes_no_file : (f : Files) → HasFiles disk.image k f → (kind j : ℕ) (o : Option ℕ) → op ≡ Create kind → is.answer.reply ≡ reply_of o → 1 ≤ j → j < length f → file_in f j ≡ None → IsPassedBy o j → ⊥
  passes_no_file f has kind j o creates told low high none passed =
      let count = counts_files disk (given disk 0 op r k m call) call.known_then f (record { run = has.run }) in
      let number : IsTrue (is_number (length f) j) = rw (lt-ltb 0 j low, lt-ltb j (length f) high) refl in
      passes_none disk op r k m call so is kind j o creates told (subst (λ (n : ℕ). IsTrue (is_number n j)) (sym count) number)
      (free_in disk.image k.store f j (fits f has) none_held low high none) passed

  pub adds_lowest : (f g : Files) → HasFiles disk.image k f → after (form_of (disk.image k.opening)) f op is.answer.reply ≡ Some g → MakesLowestOf f op is.answer.reply
  adds_lowest f g has runs kind i j creates made low lower none =
      let form = form_of (disk.image k.opening) in
      let made_so = sym (ap (λ (p : Op). after form f p is.answer.reply) creates ∙ ap (after form f (Create kind)) made) ∙ runs in
      let below = (creation_makes form f kind i g made_so).below in
      passes_no_file f has kind j (Some i) creates made low (omega (arith, below, lower)) none lower

  pub adds_none : (f : Files) → HasFiles disk.image k f → MakesNoneOf f op is.answer.reply
  adds_none f has kind j creates made low high none = passes_no_file f has kind j None creates made low high none tt
