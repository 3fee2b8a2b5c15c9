-- A write fell short, since no block was free.
use Rattle.std.proofs.Common.{◌≡◌, ◌⊎◌, ◌∙◌, ℕ, ◌*◌, ◌<◌, Bool, List, [], ◌∷◌, length, Option, Some, None, Result, Ok, Err, cond, true, false, refl, sym, ap, subst, ⊎_elim, arith}
use Rattle.std.specs.Prelude.{IfErr, IfOk, ◌==◌}
use Rattle.std.proofs.lemmas.Result.{IfOk-weaker}
use Rattle.blocks.specs.declared.disk.Disk.{Ghosts}
use Rattle.calls.specs.Lemmas.Reaching.{reached_none}
use Rattle.calls.specs.Stepping.{IsReached, Plain}
use Rattle.directories.specs.declared.entries.EntryWrite.{EntryWrite}
use Rattle.directories.specs.declared.entries.LinkFault.{LinkFault}
use Rattle.directories.specs.declared.entries.LinkFault.TheVariants as link_fault
use Rattle.directories.specs.declared.refusal.Refusal.{Refusal}
use Rattle.directories.specs.declared.refusal.Refusal.TheVariants.{NotADirectory, IsADirectory, NotDown, IsInside, NoBlock, TooManyLinks}
use Rattle.directories.specs.Counts.{HasMostLinks}
use Rattle.directories.specs.Trees.{directory_kind, kind_of, number_of, IsDown, IsOutside}
use Rattle.directories.specs.Walks.{and_on, found_or, stepped, walked}
use Rattle.directories.specs.Writes.{operation_of}
use Rattle.model.specs.declared.types.operations.Reply.{Reply}
use Rattle.model.specs.declared.types.operations.Reply.TheVariants.{Wrote}
use Rattle.model.specs.Files.{Files, file_in}
use Rattle.names.specs.declared.planning.Rise.{Rise}
use Rattle.names.specs.declared.refusal.TreeFault.{TreeFault}
use Rattle.names.specs.declared.refusal.TreeFault.TheVariants.{Path, Refused, Call, NoSpace, NoCall}
use Rattle.names.specs.Inside.{Answers, AnswersFull, EndsOr, FallsShort, Goes, IfNoBlock, TellsFull, WasFull}
use Rattle.names.specs.Making.{unlinked, HasEntered}
use Rattle.names.specs.Ready.{answer_of, Happens, TellsBlocks}
use Rattle.names.specs.Renaming.{Rises}
use Rattle.names.specs.Replacing.{IsUnpaired, LeadToDirectory}
use Rattle.names.proofs.Going.{goes_on}

-- ---- what tells no NoBlock

step_no : (is : Bool) (o : Option ℕ) → cond is (found_or o) (Err NotADirectory) ≡ Err NoBlock → ⊥
step_no true None e = cc e
step_no true (Some number) e = cc e
step_no false o e = cc e

pub stepped_no : (files : Files) (from : ℕ) (name : List ℕ) → stepped files from name ≡ Err NoBlock → ⊥
stepped_no files from name e = step_no (kind_of (file_in files from) == directory_kind) (number_of files from name) e

and_no : (r : Result ℕ Refusal) (on : ℕ → Result ℕ Refusal) → (r ≡ Err NoBlock → ⊥) → ((number : ℕ) → on number ≡ Err NoBlock → ⊥) → and_on r on ≡ Err NoBlock → ⊥
and_no (Ok number) on never rest e = rest number e
and_no (Err cause) on never rest e = never e

pub walked_no : (files : Files) (from : ℕ) (names : List (List ℕ)) → walked files from names ≡ Err NoBlock → ⊥
walked_no files from [] e = cc e
walked_no files from (name ∷ names) e =
    and_no (stepped files from name) (λ number. walked files number names) (λ none. stepped_no files from name none) (λ number none. walked_no files number names none) e

pub led_no : (files : Files) (names : List (List ℕ)) (cause : Refusal) → walked files 1 names ≡ Err cause → cause ≡ NoBlock → ⊥
led_no files names cause led is = walked_no files 1 names (led ∙ ap (λ (c : Refusal). Err c) is)

-- why it was refused
pub why_of : {T : Type 0} (change : T → Files → Files → Type 0) (why : Files → Refusal → Type 0) (files new : Files) (r : Result T Refusal) (cause : Refusal) → r ≡ Err cause →
    Happens change why files new r → why files cause
why_of {T} change why files new r cause is happens = (subst (λ (t : Result T Refusal). Happens change why files new t) is happens).1

pub unlinked_no : (fault : LinkFault) → unlinked fault ≡ NoBlock → ⊥
unlinked_no link_fault.Exists e = cc e
unlinked_no link_fault.Full e = cc e

pub unpaired_no : (from : ℕ) (old : List ℕ) (to : ℕ) (name : List ℕ) (files : Files) → IsUnpaired from old to name files NoBlock → ⊥
unpaired_no from old to name files why =
    ⊎_elim (λ (down : (NoBlock ≡ NotDown) × ((IsDown old → ⊥) ⊎ (IsDown name → ⊥))). cc (down.0))
    (λ (others : ((stepped files from old ≡ Err NoBlock) ⊎ (stepped files to name ≡ Err NoBlock)) ⊎ ((NoBlock ≡ IsADirectory) × LeadToDirectory from old to name files)).
    ⊎_elim
    (λ (led : (stepped files from old ≡ Err NoBlock) ⊎ (stepped files to name ≡ Err NoBlock)).
    ⊎_elim (λ (first : stepped files from old ≡ Err NoBlock). stepped_no files from old first) (λ (second : stepped files to name ≡ Err NoBlock). stepped_no files to name second) led)
    (λ (directory : (NoBlock ≡ IsADirectory) × LeadToDirectory from old to name files). cc (directory.0)) others) why

pub rises_no : (files : Files) (number from to : ℕ) (r : Result (Option Rise) Refusal) (cause : Refusal) → r ≡ Err cause → Rises files number from to r → cause ≡ NoBlock → ⊥
rises_no files number from to r cause is rises blocked =
    let why = (subst (λ (s : Result (Option Rise) Refusal). Rises files number from to s) is rises).1 in
    ⊎_elim
    (λ (inside : (cause ≡ IsInside) × (IsOutside files number to → ⊥)). let both = sym inside.0 ∙ blocked in cc both)
    (λ (most : (cause ≡ TooManyLinks) × HasMostLinks files to). let both = sym most.0 ∙ blocked in cc both) why

pub no_block_not : (full : Type 0) (cause : Refusal) → (cause ≡ NoBlock → ⊥) → IfNoBlock cause full
no_block_not full NoBlock not = absurd (not refl)
no_block_not full cause not = tt

no_block_map : (less more : Type 0) (cause : Refusal) → (less → more) → IfNoBlock cause less → IfNoBlock cause more
no_block_map less more NoBlock on is = on is
no_block_map less more cause on is = tt

module _ {D N : Type 0} (disk : Ghosts D N) where
  -- another cause is none of that
  pub answers_err : (k m : Plain D) (cause : Refusal) → (cause ≡ NoBlock → ⊥) → IfNoBlock cause (WasFull disk k m)
  answers_err k m cause not = no_block_not (WasFull disk k m) cause not

  pub answered_not : {T : Type 0} (change : T → Files → Files → Type 0) (why : Files → Refusal → Type 0) (files new : Files) (k m : Plain D) (r : Result T Refusal) →
      (why files NoBlock → ⊥) → Happens change why files new r → AnswersFull disk k m r
  answered_not change why files new k m (Ok made) not happens = tt
  answered_not change why files new k m (Err cause) not happens =
      answers_err k m cause (λ is. not (subst (λ (c : Refusal). why files c) is happens.1))

  -- what is never refused so
  pub answers_not : {T : Type 0} (change : T → Files → Files → Type 0) (why : Files → Refusal → Type 0) (files new : Files) (k m : Plain D) (r : Result (Result T Refusal) TreeFault) →
      (why files NoBlock → ⊥) → IfOk r (Happens change why files new) → IfOk r (AnswersFull disk k m)
  answers_not change why files new k m r not all =
      IfOk-weaker r (Happens change why files new) (AnswersFull disk k m)
      (λ s happens. answered_not change why files new k m s not happens) all

  -- what was refused was
  pub answered_err : {T : Type 0} (k m : Plain D) (r : Result T Refusal) (cause : Refusal) → r ≡ Err cause → AnswersFull disk k m r → IfNoBlock cause (WasFull disk k m)
  answered_err {T} k m r cause is full = subst (λ (s : Result T Refusal). AnswersFull disk k m s) is full

  -- ---- on the way

  pub was_on : (k a m : Plain D) (left : ℕ) → Goes disk k a left → WasFull disk a m → WasFull disk k m
  was_on k a m left goes was = record {
    before = was.before;
    left = was.left;
    goes = goes_on disk k a was.before left was.left goes was.goes;
    behind = was.behind;
    less = was.less;
    writes = was.writes;
    short = was.short;
    reached = was.reached;
  }

  pub was_then : (k m e : Plain D) → ((o : Plain D) → IsReached disk o m → IsReached disk o e) → WasFull disk k m → WasFull disk k e
  was_then k m e on was = record {
    before = was.before;
    left = was.left;
    goes = was.goes;
    behind = was.behind;
    less = was.less;
    writes = was.writes;
    short = was.short;
    reached = on was.behind was.reached;
  }

  -- a write from kernel a to b fell short
  pub was_short : (k a b : Plain D) (left less : ℕ) → Goes disk k a left → Goes disk a b less → FallsShort disk.image a b → WasFull disk k b
  was_short k a b left less goes writes short = record {
    before = a;
    left = left;
    goes = goes;
    behind = b;
    less = less;
    writes = writes;
    short = short;
    reached = reached_none disk b;
  }

  pub answered_on : {T : Type 0} (k a m : Plain D) (left : ℕ) (r : Result T Refusal) → Goes disk k a left → AnswersFull disk a m r → AnswersFull disk k m r
  answered_on k a m left (Ok made) goes full = tt
  answered_on k a m left (Err cause) goes full = no_block_map (WasFull disk a m) (WasFull disk k m) cause (λ (was : WasFull disk a m). was_on k a m left goes was) full

  pub answers_on : {T : Type 0} (k a m : Plain D) (left : ℕ) (r : Result (Result T Refusal) TreeFault) → Goes disk k a left → IfOk r (AnswersFull disk a m) → IfOk r (AnswersFull disk k m)
  answers_on k a m left r goes all = IfOk-weaker r (AnswersFull disk a m) (AnswersFull disk k m) (λ s full. answered_on k a m left s goes full) all

  -- the same of what was refused
  pub refused_on : {T : Type 0} (k a m : Plain D) (left : ℕ) (r : Result T Refusal) (cause : Refusal) → Goes disk k a left → r ≡ Err cause → AnswersFull disk a m r →
      IfNoBlock cause (WasFull disk k m)
  refused_on k a m left r cause goes is full = answered_err k m r cause is (answered_on k a m left r goes full)

  -- the write of an entry of which nothing was written
  pub entry_short : (a b : Plain D) (from : ℕ) (write : EntryWrite) (whole : Bool) (entered : HasEntered disk.image from write a b whole) → length write.entry ≡ 16 →
      entered.reply ≡ Wrote 0 → FallsShort disk.image a b
  entry_short a b from write whole entered size none =
      let fewer : 0 < length write.entry = omega (arith, size) in
      record {
        number = from;
        offset = 16 * write.place;
        count = 0;
        bytes = write.entry;
        fewer = fewer;
        answers = subst (λ (r : Reply). Answers disk.image (operation_of from write) a b r) none entered.answers;
        full = entered.short from (16 * write.place) 0 write.entry refl none fewer;
      }

  -- what a change answered is what the call does
  pub tells_by : {T : Type 0} (k a b m : Plain D) (left : ℕ) (made : Result T Refusal) → Goes disk k a left → ((o : Plain D) → IsReached disk o b → IsReached disk o m) →
      AnswersFull disk a b made → IfErr (answer_of made) (TellsFull disk k m)
  tells_by k a b m left (Ok made) goes reached full = tt
  tells_by k a b m left (Err cause) goes reached full =
      no_block_map (WasFull disk a b) (WasFull disk k m) cause (λ (was : WasFull disk a b). was_then k b m reached (was_on k a b left goes was)) full

  -- a call that ended otherwise
  tells_end : (hinders : TreeFault → Type 0) (a b k m : Plain D) (left : ℕ) (cause : TreeFault) → EndsOr hinders disk a b left cause → TellsFull disk k m cause
  tells_end hinders a b k m left (Path cause) ends = tt
  tells_end hinders a b k m left (Refused cause) ends = absurd ends.broken
  tells_end hinders a b k m left (Call cause) ends = tt
  tells_end hinders a b k m left NoSpace ends = tt
  tells_end hinders a b k m left NoCall ends = tt

  pub blocks_err : {T : Type 0} (fills : T → Type 0) (tells : Type 0) (hinders : TreeFault → Type 0) (a b k m : Plain D) (left : ℕ) (cause : TreeFault) → EndsOr hinders disk a b left cause →
      (r : Result T TreeFault) → r ≡ Err cause → TellsBlocks disk fills tells k m r
  blocks_err {T} fills tells hinders a b k m left cause ends r is = record {
    full = λ made ok fill. let both = sym ok ∙ is in absurd (cc both);
    no_block = λ told. subst (λ (s : Result T TreeFault). IfErr s (TellsFull disk k m)) (sym is) (tells_end hinders a b k m left cause ends);
  }
