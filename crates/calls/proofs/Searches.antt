-- A creation makes the lowest free number, or none where each is taken.
use Rattle.std.proofs.Common.{◌≡◌, ◌≢◌, ◌⊎◌, ◌∙◌, inl, inr, ◌<◌, ◌≤◌, ℕ, Option, Some, None, refl, sym, ap, subst, ⊎_elim, arith}
use Rattle.std.specs.Prelude.{IsTrue}
use Rattle.std.proofs.lemmas.Bool.{cases_eq, lt-ltb, ne_eqb}
use Rattle.blocks.specs.Disk.{Image}
use Rattle.blocks.specs.declared.disk.Disk.{Ghosts}
use Rattle.model.specs.declared.types.image.File.{File}
use Rattle.model.specs.declared.types.operations.Op.{Op}
use Rattle.model.specs.declared.types.operations.Op.TheVariants.{Create}
use Rattle.model.specs.declared.types.operations.Reply.{Reply}
use Rattle.model.specs.declared.types.operations.Reply.TheVariants.{BadType, Made}
use Rattle.model.specs.declared.types.operations.TaskProgress.{TaskProgress}
use Rattle.model.specs.declared.types.operations.TaskProgress.TheVariants as progress
use Rattle.model.specs.Files.{Files, bytes_in, file_at, file_in, file_of, files_of}
use Rattle.model.specs.Journal.{is_at_once, is_number}
use Rattle.model.specs.Layout.{form_of, inode_count_of, inode_of}
use Rattle.model.specs.Lemmas.FileNumbers.{file_in-files_of, length-files_of}
use Rattle.model.specs.Operations.{after}
use Rattle.inodes.specs.Goes.{Goes, Shown}
use Rattle.inodes.specs.Lemmas.Causes.{IsAhead, SearchesOn, search_begins, search_sees, search_shows}
use Rattle.inodes.specs.Lemmas.Looks.{IsPassedBy}
use Rattle.inodes.specs.Lemmas.Runs.{IsAt}
use Rattle.inodes.specs.Runs.{SeesTaken}
use Rattle.inodes.specs.Steps.{Steps}
use Rattle.inodes.specs.Store.{StoreState, current_of, reply_of}
use Rattle.inodes.specs.declared.tasks.Stage.{Stage}
use Rattle.inodes.specs.declared.tasks.Stage.TheVariants as stage
use Rattle.kernel.specs.State.{kind_of}
use Rattle.model.specs.declared.types.operations.Step.{Step}
use Rattle.model.specs.declared.types.operations.Step.TheVariants as step
use Rattle.kernel.specs.declared.class.OpClass.TheVariants as waiting_as
use Rattle.calls.specs.Calls.{MakesLowest, MakesNoneIfFull, image_on}
use Rattle.calls.specs.Lemmas.Creations.{creation_makes}
use Rattle.calls.specs.Stepping.{Plain}
use Rattle.calls.proofs.Called.{IsCall, given, kept_then}
use Rattle.calls.proofs.Counting.{IsAnswered}
use Rattle.calls.proofs.Idle.{lone_idle, numbers, on_disk}
use Rattle.calls.proofs.Sole.{IsSole}
use Rattle.calls.proofs.Stages.{AfterTurn, Answered, BeforeTurn, Committing, IsKept, IsUnturned, Over, Waits, Where, kind_then}

-- ---- a creation, where number j is free in the image before it

module _ {D N : Type 0} (disk : Ghosts D N) (cur : Image) (n j kind : ℕ) (number : IsTrue (is_number n j)) (free : (inode_of cur j).kind ≡ 0) where
  -- nothing was changed yet
  record IsUnchanged (s : StoreState D) : Type 0 where
    pub same : current_of disk.image s.volume ≡ cur
    pub count : s.table.inode_count ≡ n

  -- its search may still come to the number's block, or there is no task
  abbrev MayCome : StoreState D → Type 0
  MayCome s = IsAhead 0 j s ⊎ IsAt 0 s stage.Nowhere

  -- its reply doesn't pass the number by
  abbrev Spares : Option Reply → Type 0
  Spares r = (o : Option ℕ) → r ≡ Some (reply_of o) → IsPassedBy o j → ⊥

  -- what is kept of the creation
  abbrev Searching : Where → StoreState D → Type 0
  Searching Waits s = IsUnchanged s
  Searching (BeforeTurn g) s = IsUnchanged s × MayCome s
  Searching (AfterTurn g r) s = Spares r × (r ≢ None)
  Searching (Over g r) s = Spares r
  Searching (Committing r) s = Spares r
  Searching (Answered r) s = Spares r

  -- a step of the search doesn't see the number taken
  sees_free : (s t : StoreState D) (x : TaskProgress) → Steps disk s 0 (Create kind) x t → IsUnchanged s → IsAhead 0 j s → SearchesOn 0 j x t
  sees_free s t x steps was ahead = ⊎_elim
      (λ (saw : SeesTaken disk.image 0 j (record { before = s; answer = x; after = t })). absurd (saw.taken (ap (λ (y : Image). (inode_of y j).kind) was.same ∙ free)))
      (λ on. on)
      (search_sees disk 0 n j (Create kind) number (record { before = s; answer = x; after = t }) ahead.search ahead.stands ahead.ahead was.count steps)

  -- and before its turn it changes nothing
  works_on : (s t : StoreState D) (x : TaskProgress) → IsUnturned x → Steps disk s 0 (Create kind) x t → IsUnchanged s × MayCome s → IsUnchanged t × MayCome t
  works_on s t x unturned steps (was, inl ahead) =
      let goes = subst (λ (a : Stage). Goes disk a s 0 (Create kind) x t) ahead.stands steps.goes in
      let same = search_shows _ _ _ _ _ x _ _ _ unturned goes.0 in (
        record { same = ap (λ (v : Shown). v.current) same ∙ was.same; count = steps.tasks.numbers ∙ was.count },
        ⊎_elim (λ made. absurd (unturned (Some (Made made.0)) made.1)) (λ on. inl on.1) (sees_free s t x steps was ahead),
      )
  works_on s t x unturned steps (was, inr none) =
      let goes = subst (λ (a : Stage). Goes disk a s 0 (Create kind) x t) none steps.goes in
      subst (λ (o : StoreState D). IsUnchanged o × MayCome o) (sym goes.1) (was, inr none)

  -- with its turn it finds none that is higher
  turns_so : (s t : StoreState D) (r : Option Reply) → Steps disk s 0 (Create kind) (progress.Turned r) t → IsUnchanged s × MayCome s → Spares r × (r ≢ None)
  turns_so s t r steps (was, inl ahead) = ⊎_elim
      (λ made.
      let is : r ≡ Some (Made made.0) = (let e = made.1 in cc e) in
      let low = made.2 in (
        λ o told passed. by_found made.0 low o (sym is ∙ told) passed,
        λ none. let no = sym none ∙ is in cc no,
      ))
      (λ on. absurd (on.0 r refl))
      (sees_free s t (progress.Turned r) steps was ahead)
    where
      by_found : (i : ℕ) → i ≤ j → (o : Option ℕ) → Some (Made i) ≡ Some (reply_of o) → IsPassedBy o j → ⊥
      by_found i low None told passed = cc told
      by_found i low (Some k) told passed = let same : i ≡ k = cc told in omega (arith, same, low, passed)
  turns_so s t r steps (was, inr none) =
      let goes = subst (λ (a : Stage). Goes disk a s 0 (Create kind) (progress.Turned r) t) none steps.goes in
      let no = goes.0 in absurd (cc no)

  -- nor does a refusal tell one
  refused_so : Spares (Some BadType)
  refused_so None told passed = cc told
  refused_so (Some i) told passed = cc told

  searching_kept : IsKept disk 0 (Create kind) Searching
  searching_kept = record {
    begins = λ s change was. (record { same = was.same; count = was.count }, search_begins 0 j kind s);
    looks = λ s count look was. absurd (let no = (kind_then (is_at_once s.table.inode_count (Create kind)) (kind_of (Create kind)) (waiting_as.Look count) (λ e. cc e) look).1 in cc no);
    refused = λ s was. refused_so;
    works = λ g. works_on;
    turns = λ g. turns_so;
    turns_over = λ g s t r over steps was. (turns_so s t r steps was).0;
    goes = λ g s t r x going steps spares. spares;
    decides = λ g s t r reply was steps spares. ⊎_elim (λ (none : r ≡ None). absurd (spares.1 none)) (λ (same : r ≡ Some reply). (subst Spares same spares.0, λ e. cc e)) was;
    ends = λ g s t r steps spares. spares.0;
    decides_alone = λ s t r reply was steps spares. ⊎_elim (λ (none : r ≡ None). absurd (spares.1 none)) (λ (same : r ≡ Some reply). subst Spares same spares.0) was;
    ends_alone = λ s t r steps spares. spares.0;
    leaves = λ g s r spares. spares;
    closes = λ g s r commits spares. spares;
    commits = λ s t r x commits spares. spares;
    committed = λ s r spares. spares;
  }

-- ---- numbers without a file

-- a used inode has a file
pub used_file : (x : Image) (i : ℕ) → 0 < i → (inode_of x i).kind ≢ 0 → (f : File) × (file_at x i ≡ Some f)
unfolding file_of
used_file x i low used = (record { kind = (inode_of x i).kind; links = (inode_of x i).nlink; bytes = bytes_in x (inode_of x i) }, rw (ne_eqb i 0 (λ e. omega (arith, low, e)), ne_eqb (inode_of x i).kind 0 used) refl)

-- a number without one is free
free_number : (x : Image) (i : ℕ) → 0 < i → i < inode_count_of x → file_in (files_of x) i ≡ None → (inode_of x i).kind ≡ 0
free_number x i low high none = ⊎_elim (λ (free : (inode_of x i).kind ≡ 0). free)
    (λ (used : (inode_of x i).kind ≢ 0). let has = used_file x i low used in let both : None ≡ Some has.0 = sym none ∙ file_in-files_of x i high ∙ has.1 in absurd (cc both))
    (cases_eq (inode_of x i).kind 0)

-- ---- its call

-- a creation passes no number by that is free in the current image
pub passes_none : {D N : Type 0} (disk : Ghosts D N) (op : Op) (r : Step) (k m : Plain D) (call : IsCall disk 0 op r k m) → r ≡ step.Answered → (is : IsAnswered 0 op (given disk 0 op r k m call) m) (kind j : ℕ) (o : Option ℕ) → op ≡ Create kind → is.answer.reply ≡ reply_of o → IsTrue (is_number k.store.table.inode_count j)
    → (inode_of (current_of disk.image k.store.volume) j).kind ≡ 0 → IsPassedBy o j → ⊥
passes_none disk op r k m call so is kind j o creates told number free passed =
    let cur = current_of disk.image k.store.volume in
    let n = k.store.table.inode_count in
    let keeps = subst (λ (p : Op). IsKept disk 0 p (Searching disk cur n j kind number free)) (sym creates) (searching_kept disk cur n j kind number free) in
    kept_then disk 0 op r k m call (Searching disk cur n j kind number free) keeps (record { same = refl; count = refl }) so is o (ap (λ (q : Reply). Some q) told) passed

module _ {D N : Type 0} (disk : Ghosts D N) (op : Op) (r : Step) (k m : Plain D) (sole : IsSole disk op r k m) (so : r ≡ step.Answered) (is : IsAnswered 0 op (given disk 0 op r k m sole.call) m) where
  abbrev x : Image
  x = image_on disk.image k

  -- no number without a file is passed by
  passes_no_file : (kind j : ℕ) (o : Option ℕ) → op ≡ Create kind → is.answer.reply ≡ reply_of o → 1 ≤ j → j < inode_count_of x → file_in (files_of x) j ≡ None → IsPassedBy o j → ⊥
  passes_no_file kind j o creates told low high none passed =
      let all = lone_idle k.world sole.rests.one sole.rests.idle in
      let number : IsTrue (is_number (inode_count_of x) j) = rw (lt-ltb 0 j low, lt-ltb j (inode_count_of x) high) refl in
      passes_none disk op r k m sole.call so is kind j o creates told
      (subst (λ (n : ℕ). IsTrue (is_number n j)) (sym (numbers disk k sole.known all sole.rests.well)) number)
      (ap (λ (y : Image). (inode_of y j).kind) (on_disk disk k sole.known all sole.rests.well) ∙ free_number x j low high none) passed

  pub lowest : (last : Files) → after (form_of x) (files_of x) op is.answer.reply ≡ Some last → MakesLowest x op is.answer.reply
  lowest last runs kind i j creates made low lower none =
      let made_so = sym (ap (λ (p : Op). after (form_of x) (files_of x) p is.answer.reply) creates ∙ ap (after (form_of x) (files_of x) (Create kind)) made) ∙ runs in
      let below = (creation_makes (form_of x) (files_of x) kind i last made_so).below in
      let count = length-files_of x in
      passes_no_file kind j (Some i) creates made low (omega (arith, below, lower, count)) none lower

  pub none_free : MakesNoneIfFull x op is.answer.reply
  none_free kind j creates made low high none = passes_no_file kind j None creates made low high none tt
