-- What a stop in the midst of a call leaves.
use Rattle.std.proofs.Common.{◌≡◌, ◌∙◌, ◌≤◌, ℕ, Bool, true, false, cond, ◌&&◌, leb, List, [], ◌∷◌, ◌++◌, length, Option, Some, None, refl, sym, ap, subst, inl, inr, ⊎_elim}
use Rattle.std.specs.Prelude.{◌⊎◌, Result, Ok}
use Rattle.std.proofs.lemmas.List.{append-nil}
use Rattle.blocks.specs.Disk.{Image, LeavesOnly}
use Rattle.blocks.specs.declared.disk.Disk.{Ghosts}
use Rattle.model.specs.declared.types.image.Form.{Form}
use Rattle.model.specs.declared.types.operations.Entry.{Entry}
use Rattle.model.specs.declared.types.operations.Op.{Op}
use Rattle.model.specs.declared.types.operations.Reply.{Reply}
use Rattle.model.specs.Files.{Files, files_of}
use Rattle.model.specs.Journal.{after_answer, and_then, is_changing, kept, replay}
use Rattle.model.specs.Layout.{form_of, inode_count_of}
use Rattle.model.specs.Crash.{Keeps}
use Rattle.model.specs.Log.{logged_count, recovered}
use Rattle.model.specs.Operations.{after}
use Rattle.model.specs.Lemmas.Runs.{and_then_some, replays_in_parts}
use Rattle.model.specs.Lemmas.Frames.{form_same}
use Rattle.model.specs.Lemmas.Log.{recovered_empty}
use Rattle.history.specs.Keeps.{KeepsBetween}
use Rattle.history.specs.Most.{most_of}
use Rattle.history.specs.Lemmas.Kept.{kept-append}
use Rattle.model.specs.declared.types.operations.Step.{Step}
use Rattle.calls.specs.Lemmas.Entries.{last_same}
use Rattle.calls.specs.declared.fault.CallFault.{CallFault}
use Rattle.calls.specs.Calls.{KeepsCall, MayReply, image_on}
use Rattle.calls.specs.Stepping.{Plain}
use Rattle.calls.specs.Unshown.{KeepsUnshown}
use Rattle.calls.proofs.Called.{call_opening, call_run}
use Rattle.calls.proofs.Counting.{IsAnswered}
use Rattle.calls.proofs.Rest.{IsSettledDisk, kept_before, marks_before, was}
use Rattle.calls.proofs.Sole.{IsSole, call_lists}
use Rattle.calls.proofs.Stages.{HasMore, ListIs}
use Rattle.calls.proofs.Unshown.{HasMarks, kept_marks, unshown_more, unshown_same}

-- what is kept is this entry
one_kept : (form : Form) (files last : Files) (e : Entry) → replay form files (e ∷ []) ≡ Some last
    → (r : Reply) × (e.reply ≡ Some r) × (after form files e.op r ≡ Some last)
one_kept form files last e run = by_reply e.reply refl
  where
    found : (o : Option Reply) → e.reply ≡ o → (mid : Files) × (after_answer form files e.op o ≡ Some mid) × (Some mid ≡ Some last)
    found o is = and_then_some (after_answer form files e.op o) (λ f. Some f) last (subst (λ (p : Option Reply). and_then (after_answer form files e.op p) (λ f. Some f) ≡ Some last) is run)

    by_reply : (o : Option Reply) → e.reply ≡ o → (r : Reply) × (e.reply ≡ Some r) × (after form files e.op r ≡ Some last)
    by_reply None is = let f = found None is in absurd (cc f.1)
    by_reply (Some r) is = let f = found (Some r) is in (r, is, f.1 ∙ f.2)

module _ {D N : Type 0} (disk : Ghosts D N) (has_now : (d : D) → disk.leaves d (disk.moment d) (disk.image d)) (op : Op) (r : Step) (k m : Plain D) (sole : IsSole disk op r k m) (result : Result Reply CallFault)
    (may : (e : Entry) (r : Reply) → m.world.journal.list ≡ k.world.journal.list ++ e ∷ [] → e.reply ≡ Some r → MayReply result r) where
  abbrev x : Image
  x = image_on disk.image k

  abbrev form : Form
  form = form_of (disk.image k.opening)

  abbrev start : Files
  start = files_of (disk.image k.opening)

  abbrev n : ℕ
  n = inode_count_of (disk.image k.opening)

  -- which files it leaves, and that it leaves what no file shows
  record Leaves (z : Image) : Type 0 where
    pub files : (files_of (recovered z) ≡ files_of x) ⊎ ((r : Reply) × MayReply result r × (after (form_of x) (files_of x) op r ≡ Some (files_of (recovered z))))
    pub unshown : KeepsUnshown x (recovered z)

  abbrev before : IsSettledDisk disk k
  before = was disk has_now op r k m sole

  -- no entry is kept more
  left_same : (c : ℕ) (z : Image) → k.store.volume.log.committed ≤ c → files_of (recovered z) ≡ files_of x → HasMarks (disk.image k.opening) (kept n k.world.journal.list c) (recovered z) → Leaves z
  left_same c z low same marks = record {
    files = inl same;
    unshown = unshown_same (disk.image k.opening) x (recovered z) (kept n k.world.journal.list c) before.settled.size (marks_before disk k before c low) marks same;
  }

  -- or one that may be
  left_more : (c : ℕ) (z : Image) (more : HasMore 0 op k.world.journal.list (length k.world.journal.list) m.world.journal.list) (b : Bool) → k.store.volume.log.committed ≤ c →
      replay form (files_of x) (cond b (more.entry ∷ []) []) ≡ Some (files_of (recovered z)) → HasMarks (disk.image k.opening) (kept n k.world.journal.list c ++ cond b (more.entry ∷ []) []) (recovered z) → Leaves z
  left_more c z more false low run marks =
      let same : Some (files_of x) ≡ Some (files_of (recovered z)) = run in
      left_same c z low (cc same) (subst (λ (es : List Entry). HasMarks (disk.image k.opening) es (recovered z)) (append-nil (kept n k.world.journal.list c)) marks)
  left_more c z more true low run marks =
      let e = more.entry in
      let (r, replied, made) = one_kept form (files_of x) (files_of (recovered z)) e run in
      record {
        files = inr (
          r,
          may e r more.is replied,
          subst (λ (f : Form). after f (files_of x) op r ≡ Some (files_of (recovered z))) (sym (form_same (disk.image k.opening) x before.settled.marks.untouched.super))
              (subst (λ (o : Op). after form (files_of x) o r ≡ Some (files_of (recovered z))) more.same made),
        );
        unshown = unshown_more (disk.image k.opening) x (recovered z) (kept n k.world.journal.list c) before.settled.size (marks_before disk k before c low) form e r replied made marks;
      }

  kept_after : (c : ℕ) (z : Image) → k.store.volume.log.committed ≤ c → ListIs 0 op k.world.journal.list m.world.journal.list → Keeps (disk.image k.opening) m.world.journal.list z c → Leaves z
  kept_after c z low (inl same) keeps =
      let same_files : Some (files_of x) ≡ Some (files_of (recovered z)) = sym (kept_before disk k before c low) ∙ ap (λ (es : List Entry). replay form start (kept n es c)) (sym same) ∙ keeps.files in
      left_same c z low (cc same_files) (subst (λ (es : List Entry). HasMarks (disk.image k.opening) (kept n es c) (recovered z)) same (kept_marks (disk.image k.opening) m.world.journal.list z c keeps))
  kept_after c z low (inr more) keeps =
      let e = more.entry in
      let es = k.world.journal.list in
      let split : kept n m.world.journal.list c ≡ kept n es c ++ kept n (e ∷ []) c = ap (λ (l : List Entry). kept n l c) more.is ∙ kept-append n c es (e ∷ []) in
      let both = sym (replays_in_parts form start (kept n es c) (kept n (e ∷ []) c)) ∙ ap (λ (l : List Entry). replay form start l) (sym split) ∙ keeps.files in
      let last : replay form (files_of x) (kept n (e ∷ []) c) ≡ Some (files_of (recovered z)) = subst (λ (o : Option Files). and_then o (λ f. replay form f (kept n (e ∷ []) c)) ≡ Some (files_of (recovered z))) (kept_before disk k before c low) both in
      left_more c z more (is_changing n e.op && leb e.group c) low last
      (subst (λ (l : List Entry). HasMarks (disk.image k.opening) l (recovered z)) split (kept_marks (disk.image k.opening) m.world.journal.list z c keeps))

  keeps_call : (most : ℕ) (z : Image) → ListIs 0 op k.world.journal.list m.world.journal.list → KeepsBetween k.store.volume.log.committed most (disk.image m.opening) m.world.journal.list z → KeepsCall x op result z
  keeps_call most z lists kept_so =
      let leaves = kept_after kept_so.groups z kept_so.low lists (subst (λ (d : D). Keeps (disk.image d) m.world.journal.list z kept_so.groups) (call_opening disk 0 op r k m sole.call) kept_so.keeps) in
      record { log = kept_so.keeps.log; sound = kept_so.keeps.sound; files = leaves.files; unshown = leaves.unshown }

  -- a stop in the midst of a call
  pub call_leaves : LeavesOnly disk.moment disk.leaves k.store.volume.device m.store.volume.device (KeepsCall (image_on disk.image k) op result)
  call_leaves =
      let leaves = (call_run disk 0 op r k m sole.call).stop.leaves in
      let lists = call_lists disk op r k m sole in
      record {
        later = leaves.later;
        each = λ z left. keeps_call (most_of m.store.volume) z lists (leaves.each z left);
        before = λ t z le left. ⊎_elim (λ old. inl old) (λ kept_so. inr (keeps_call (most_of m.store.volume) z lists kept_so)) (leaves.before t z le left);
        keeps = leaves.keeps;
      }

  -- the disk as it is once nothing is logged on it
  pub call_unshown : ((d : D) (t : ℕ) (z : Image) → t ≤ disk.moment d → disk.leaves d (disk.moment d) z → disk.leaves d t z) → logged_count (image_on disk.image m) ≡ 0 → KeepsUnshown (image_on disk.image k) (image_on disk.image m)
  call_unshown counts_now clear =
      let leaves = call_leaves in
      let now = image_on disk.image m in
      subst (KeepsUnshown (image_on disk.image k)) (recovered_empty now clear)
      (leaves.each now (counts_now m.store.volume.device (disk.moment k.store.volume.device) now leaves.later (has_now m.store.volume.device))).unshown

-- only the reply that was given may have come
pub may_given : {D : Type 0} (op : Op) (k m : Plain D) (is : IsAnswered 0 op k m) (e : Entry) (r : Reply) → m.world.journal.list ≡ k.world.journal.list ++ e ∷ [] → e.reply ≡ Some r → MayReply {E = CallFault} (Ok is.answer.reply) r
may_given op k m is e r list replied =
    let entry : e ≡ is.entry = last_same k.world.journal.list k.world.journal.list e is.entry (sym list ∙ is.list) in
    let both : Some r ≡ Some is.answer.reply = sym replied ∙ ap (λ (f : Entry). f.reply) entry ∙ is.replied in
    cc both
