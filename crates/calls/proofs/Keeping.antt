-- What a stop keeps of a transaction: nothing before its commit, and in it all or nothing.
use Rattle.std.proofs.Common.{◌≡◌, ◌∙◌, ◌+◌, ◌<◌, ◌≤◌, ℕ, Bool, true, false, cond, ◌&&◌, ◌||◌, leb, List, [], ◌∷◌, ◌++◌, length, append_assoc, Option, Some, None, refl, sym, ap, subst, inl, inr, ⊎_elim, arith}
use Rattle.std.specs.Prelude.{◌⊎◌, ◌==◌, if◌then◌else◌, IfNone}
use Rattle.std.proofs.lemmas.Bool.{cases_lt}
use Rattle.std.proofs.lemmas.List.Folds.{list_any-append}
use mathlib.Core.List.{IsPrefix}
use Rattle.blocks.specs.Disk.{Image, LeavesOnly, block_at}
use Rattle.blocks.specs.declared.disk.Disk.{Ghosts}
use Rattle.model.specs.declared.types.image.Form.{Form}
use Rattle.model.specs.declared.types.operations.Entry.{Entry}
use Rattle.model.specs.declared.types.operations.Op.{Op}
use Rattle.model.specs.declared.types.operations.Reply.{Reply}
use Rattle.model.specs.Crash.{Keeps, due_labels, labels_of}
use Rattle.model.specs.Files.{Files, files_of}
use Rattle.model.specs.Journal.{after_answer, and_then, is_changing, is_making, kept, replay}
use Rattle.model.specs.Layout.{form_of, inode_count_of, super_in}
use Rattle.model.specs.Log.{logged_count, recovered}
use Rattle.model.specs.Operations.{after}
use Rattle.model.specs.Soundness.{IsSound}
use Rattle.model.specs.Lemmas.FileNumbers.{length-files_of, file_in-files_of_zero}
use Rattle.model.specs.Lemmas.Log.{length-recovered, recovered_empty}
use Rattle.model.specs.Lemmas.Runs.{and_then_some, replays_in_parts}
use Rattle.model.specs.Lemmas.Soundness.{facts_of}
use Rattle.wal.specs.declared.types.Commit.{Commit}
use Rattle.wal.specs.declared.types.Commit.TheVariants as commit
use Rattle.wal.specs.declared.types.DeviceFault.{DeviceFault}
use Rattle.wal.specs.Machine.{is_quiet}
use Rattle.wal.specs.Volume.{VolumeState}
use Rattle.history.specs.Keeps.{KeepsBetween}
use Rattle.history.specs.Most.{most_kept, most_of}
use Rattle.history.specs.Lemmas.Kept.{kept-append, kept_up_to}
use Rattle.history.specs.Lemmas.Making.{due_kept, makes}
use Rattle.history.specs.Lemmas.Quiet.{kept_replays}
use Rattle.kernel.specs.Known.{IsCurrent, Known}
use Rattle.kernel.specs.Lemmas.Turns.{runs_on_none}
use Rattle.kernel.specs.Runs.{RunsOn}
use Rattle.calls.specs.Stepping.{Plain, plain_herald, plain_queues}
use Rattle.calls.specs.Calls.{image_on}
use Rattle.calls.specs.Lemmas.Both.{keeps_nothing}
use Rattle.calls.specs.Transactions.{HasFiles, HasLabels, KeepsEither, KeepsFiles, anchor, labels_made}
use Rattle.calls.specs.Unshown.{KeepsUnshown}
use Rattle.calls.proofs.Anchoring.{anchor_keeps, anchor_makes_none}
use Rattle.calls.proofs.Unshown.{HasMarks, kept_marks, labels_now, renews, unshown_same}

-- no commit is under way: the image on the disk is sound, with the opening's files after what is kept
-- of the committed groups
pub record IsSettled {D N : Type 0} (disk : Ghosts D N) (k : Plain D) : Type 0 where
  pub quiet : k.store.volume.log.commit ≡ commit.Quiet
  pub sound : IsSound (image_on disk.image k)
  pub size : length (image_on disk.image k) ≡ length (disk.image k.opening)
  pub kept_run : replay (form_of (disk.image k.opening)) (files_of (disk.image k.opening))
      (kept (inode_count_of (disk.image k.opening)) k.world.journal.list k.store.volume.log.committed)
      ≡ Some (files_of (image_on disk.image k))
  pub marks : HasMarks (disk.image k.opening)
      (kept (inode_count_of (disk.image k.opening)) k.world.journal.list k.store.volume.log.committed)
      (image_on disk.image k)

-- the most groups that a stop may keep then
most_quiet : {D : Type 0} (v : VolumeState D) → v.log.commit ≡ commit.Quiet → most_of v ≡ v.log.committed
most_quiet v quiet = ap (λ (c : Commit). most_kept v.fault c v.log.committed) quiet

-- a sound image is as long as its superblock says, and so is that of the opening
sound_length : (x : Image) → IsSound x → (super_in (block_at x 1)).size ≡ length x
sound_length x sound = (facts_of x sound.geometry).size

opening_length : {D N : Type 0} (disk : Ghosts D N) (has_now : (d : D) → disk.leaves d (disk.moment d) (disk.image d)) (k : Plain D) → Known disk plain_queues plain_herald k → (super_in (block_at (disk.image k.opening) 1)).size ≡ length (disk.image k.opening)
opening_length disk has_now k known =
    let o = disk.image k.opening in
    let since = known.stop.since in
    let keeps = (since.each o (since.keeps (disk.moment k.opening) o (omega arith) (has_now k.opening))).keeps in
    ap (λ (bytes : List ℕ). (super_in bytes).size) (sym keeps.untouched.super) ∙ sound_length (recovered o) keeps.sound ∙ length-recovered o

pub settled : {D N : Type 0} (disk : Ghosts D N) (has_now : (d : D) → disk.leaves d (disk.moment d) (disk.image d)) (k : Plain D) → Known disk plain_queues plain_herald k → k.store.volume.fault ≡ None → k.store.volume.log.commit ≡ commit.Quiet → IsSettled disk k
settled disk has_now k known well quiet =
    let l = k.store.volume.log in
    let es = k.world.journal.list in
    let x = image_on disk.image k in
    let n = inode_count_of (disk.image k.opening) in
    let form = form_of (disk.image k.opening) in
    let start = files_of (disk.image k.opening) in
    let current : IsCurrent disk.image k = subst (λ (f : Option DeviceFault). IfNone f (IsCurrent disk.image k)) well known.current in
    let clear : logged_count x ≡ 0 = current.clear (ap is_quiet quiet) in
    let same : recovered x ≡ x = recovered_empty x clear in
    let now = known.stop.keeps x (has_now k.store.volume.device) in
    let groups : now.between.groups ≡ l.committed = now.told ∙ ap (λ (c : ℕ). if c == 0 then l.committed else most_of k.store.volume) clear in
    let keeps : Keeps (disk.image k.opening) es x l.committed = subst (λ (c : ℕ). Keeps (disk.image k.opening) es x c) groups now.between.keeps in
    let sound = subst IsSound same keeps.sound in
    let marks : HasMarks (disk.image k.opening) (kept n es l.committed) x = subst (HasMarks (disk.image k.opening) (kept n es l.committed)) same (kept_marks (disk.image k.opening) es x l.committed keeps) in
    record {
      quiet = quiet;
      sound = sound;
      size = sym (sound_length x sound) ∙ ap (λ (bytes : List ℕ). (super_in bytes).size) marks.untouched.super ∙ opening_length disk has_now k known;
      kept_run = keeps.files ∙ ap (λ (y : Image). Some (files_of y)) same;
      marks = marks;
    }

module _ {D N : Type 0} (disk : Ghosts D N) (k m : Plain D) (was : IsSettled disk k) (run : RunsOn disk k m) where
  n : ℕ
  n = inode_count_of (disk.image k.opening)

  form : Form
  form = form_of (disk.image k.opening)

  start : Files
  start = files_of (disk.image k.opening)

  -- what is kept of the groups that were committed before is as it was
  list_still : (c : ℕ) → c ≤ k.store.volume.log.committed → k.store.volume.log.committed ≤ c → kept n m.world.journal.list c ≡ kept n k.world.journal.list k.store.volume.log.committed
  unfolding n
  list_still c high low =
      let most = most_quiet k.store.volume was.quiet in
      let same : c ≡ k.store.volume.log.committed = omega (arith, high, low) in
      run.grows.stays c (omega (arith, most, high)) ∙ ap (kept (inode_count_of (disk.image k.opening)) k.world.journal.list) same

  kept_still : (c : ℕ) → c ≤ k.store.volume.log.committed → k.store.volume.log.committed ≤ c → replay form start (kept n m.world.journal.list c) ≡ Some (files_of (image_on disk.image k))
  unfolding n form start
  kept_still c high low = ap (replay form start) (list_still c high low) ∙ was.kept_run

  -- what recovery gives, from the opening of before
  from_opening : (c : ℕ) (z : Image) → Keeps (disk.image m.opening) m.world.journal.list z c → replay form start (kept n m.world.journal.list c) ≡ Some (files_of (recovered z))
  unfolding n form start
  from_opening c z keeps =
      subst (λ (d : D). replay (form_of (disk.image d)) (files_of (disk.image d)) (kept (inode_count_of (disk.image d)) m.world.journal.list c) ≡ Some (files_of (recovered z))) run.opening keeps.files

  marks_from : (c : ℕ) (z : Image) → Keeps (disk.image m.opening) m.world.journal.list z c → HasMarks (disk.image k.opening) (kept n m.world.journal.list c) (recovered z)
  unfolding n
  marks_from c z keeps =
      subst (λ (d : D). HasMarks (disk.image d) (kept (inode_count_of (disk.image d)) m.world.journal.list c) (recovered z)) run.opening (kept_marks (disk.image m.opening) m.world.journal.list z c keeps)

  -- where no group more is kept, what no file shows is as it was, too
  unshown_still : (c : ℕ) (z : Image) → c ≤ k.store.volume.log.committed → k.store.volume.log.committed ≤ c → Keeps (disk.image m.opening) m.world.journal.list z c → files_of (recovered z) ≡ files_of (image_on disk.image k) → KeepsUnshown (image_on disk.image k) (recovered z)
  unfolding n
  unshown_still c z high low keeps same =
      unshown_same (disk.image k.opening) (image_on disk.image k) (recovered z) (kept (inode_count_of (disk.image k.opening)) k.world.journal.list k.store.volume.log.committed) was.size was.marks
      (subst (λ (es : List Entry). HasMarks (disk.image k.opening) es (recovered z)) (list_still c high low) (marks_from c z keeps)) same

  module _ (quiet : m.store.volume.log.commit ≡ commit.Quiet) (same : m.store.volume.log.committed ≡ k.store.volume.log.committed) where
    keeps_before : (z : Image) → KeepsBetween k.store.volume.log.committed (most_of m.store.volume) (disk.image m.opening) m.world.journal.list z → KeepsFiles (image_on disk.image k) z
    keeps_before z kept_so =
        let most = most_quiet m.store.volume quiet in
        let high = kept_so.high in
        let low = kept_so.low in
        let both : Some (files_of (recovered z)) ≡ Some (files_of (image_on disk.image k)) = sym (from_opening kept_so.groups z kept_so.keeps) ∙ kept_still kept_so.groups (omega (arith, most, high, same)) low in
        record {
          log = kept_so.keeps.log;
          sound = kept_so.keeps.sound;
          files = cc both;
          unshown = unshown_still kept_so.groups z (omega (arith, most, high, same)) low kept_so.keeps (cc both);
        }

    -- A STOP BEFORE THE COMMIT keeps nothing of the transaction
    pub leaves_before : LeavesOnly disk.moment disk.leaves k.store.volume.device m.store.volume.device (KeepsFiles (image_on disk.image k))
    leaves_before =
        let leaves = run.stop.leaves in
        record {
          later = leaves.later;
          each = λ z left. keeps_before z (leaves.each z left);
          before = λ t z le left. ⊎_elim (λ old. inl old) (λ kept_so. inr (keeps_before z kept_so)) (leaves.before t z le left);
          keeps = leaves.keeps;
        }

  marks_then : HasMarks (disk.image k.opening) (kept n k.world.journal.list k.store.volume.log.committed) (image_on disk.image k)
  unfolding n
  marks_then = was.marks

  run_then : replay form start (kept n k.world.journal.list k.store.volume.log.committed) ≡ Some (files_of (image_on disk.image k))
  unfolding n form start
  run_then = was.kept_run

  -- ---- the commit

  -- the journal is as it was, or has the anchor's entry more
  abbrev pub HasAnchors : List Entry → Type 0
  HasAnchors list = (list ≡ k.world.journal.list) ⊎ ((e : Entry) × (list ≡ k.world.journal.list ++ e ∷ []) × (e.op ≡ anchor))

  module _ (f : Files) (has : HasFiles disk.image k f) (known : Known disk plain_queues plain_herald k) (opened : k.store.volume.log.committed + 1 ≡ k.store.volume.log.opened) (lists : HasAnchors m.world.journal.list) where
    -- all of the journal before the commit is kept with the group that is open
    kept_all : (c : ℕ) → k.store.volume.log.opened ≤ c → replay form start (kept n k.world.journal.list c) ≡ Some f
    unfolding n form start
    kept_all c high =
        ap (λ (es : List Entry). replay form start es) (kept_up_to n k.store.volume.log.opened c k.world.journal.list known.journal.groups high)
        ∙ kept_replays form n k.store.volume.log.opened start f k.world.journal.list (length-files_of (disk.image k.opening)) (file_in-files_of_zero (disk.image k.opening)) known.journal.groups has.run

    -- the files behind an entry by its reply
    one_told : (last : Files) (e : Entry) → replay form f (e ∷ []) ≡ Some last → (o : Option Reply) → e.reply ≡ o → (mid : Files) × (after_answer form f e.op o ≡ Some mid) × (Some mid ≡ Some last)
    one_told last e done o same = and_then_some (after_answer form f e.op o) (λ g. Some g) last (subst (λ (p : Option Reply). and_then (after_answer form f e.op p) (λ g. Some g) ≡ Some last) same done)

    -- the anchor's entry changes nothing
    one_more : (last : Files) (e : Entry) (b : Bool) → e.op ≡ anchor → replay form f (cond b (e ∷ []) []) ≡ Some last → last ≡ f
    one_more last e false is done = cc done
    one_more last e true is done = by_reply e.reply refl
      where
        by_reply : (o : Option Reply) → e.reply ≡ o → last ≡ f
        by_reply None same = let g = one_told last e done None same in absurd (cc g.1)
        by_reply (Some r) same =
            let g = one_told last e done (Some r) same in
            anchor_keeps form f last r (subst (λ (o : Op). after form f o r ≡ Some last) is (g.1 ∙ g.2))

    -- what is kept of a journal with an entry more, and the files behind that entry
    in_parts : (c : ℕ) (e : Entry) → m.world.journal.list ≡ k.world.journal.list ++ e ∷ [] → kept n m.world.journal.list c ≡ kept n k.world.journal.list c ++ kept n (e ∷ []) c
    in_parts c e more = ap (λ (l : List Entry). kept n l c) more ∙ kept-append n c k.world.journal.list (e ∷ [])

    rest_kept : (c : ℕ) (last : Files) → k.store.volume.log.opened ≤ c → replay form start (kept n m.world.journal.list c) ≡ Some last → (e : Entry) → m.world.journal.list ≡ k.world.journal.list ++ e ∷ [] → replay form f (kept n (e ∷ []) c) ≡ Some last
    rest_kept c last high done e more =
        let both = sym (replays_in_parts form start (kept n k.world.journal.list c) (kept n (e ∷ []) c)) ∙ ap (λ (l : List Entry). replay form start l) (sym (in_parts c e more)) ∙ done in
        subst (λ (o : Option Files). and_then o (λ g. replay form g (kept n (e ∷ []) c)) ≡ Some last) (kept_all c high) both

    all_kept : (c : ℕ) (last : Files) → k.store.volume.log.opened ≤ c → replay form start (kept n m.world.journal.list c) ≡ Some last → last ≡ f
    all_kept c last high done = by_list lists
      where
        by_list : HasAnchors m.world.journal.list → last ≡ f
        by_list (inl same) =
            let both : Some last ≡ Some f = sym done ∙ ap (λ (es : List Entry). replay form start (kept n es c)) same ∙ kept_all c high in
            cc both
        by_list (inr more) =
            let e = more.0 in
            one_more last e (is_changing n e.op && leb e.group c) more.2 (rest_kept c last high done e more.1)

    -- what is kept then begins with what was kept before
    more_kept : (c : ℕ) → k.store.volume.log.opened ≤ c → IsPrefix (kept n k.world.journal.list k.store.volume.log.committed) (kept n m.world.journal.list c)
    unfolding n
    more_kept c high = by_list lists
      where
        first : IsPrefix (kept (inode_count_of (disk.image k.opening)) k.world.journal.list k.store.volume.log.committed) (kept (inode_count_of (disk.image k.opening)) k.world.journal.list k.store.volume.log.opened)
        first = known.order k.store.volume.log.committed

        all : kept (inode_count_of (disk.image k.opening)) k.world.journal.list c ≡ kept (inode_count_of (disk.image k.opening)) k.world.journal.list k.store.volume.log.committed ++ first.0
        all = kept_up_to (inode_count_of (disk.image k.opening)) k.store.volume.log.opened c k.world.journal.list known.journal.groups high ∙ sym first.1

        by_list : HasAnchors m.world.journal.list → IsPrefix (kept (inode_count_of (disk.image k.opening)) k.world.journal.list k.store.volume.log.committed) (kept (inode_count_of (disk.image k.opening)) m.world.journal.list c)
        by_list (inl same) = (first.0, sym (ap (λ (es : List Entry). kept (inode_count_of (disk.image k.opening)) es c) same ∙ all))
        by_list (inr more) =
            let es = k.world.journal.list in
            let one = kept (inode_count_of (disk.image k.opening)) (more.0 ∷ []) c in (
              first.0 ++ one,
              sym (ap (λ (l : List Entry). kept (inode_count_of (disk.image k.opening)) l c) more.1 ∙ kept-append (inode_count_of (disk.image k.opening)) c es (more.0 ∷ []) ∙ ap (λ (l : List Entry). l ++ one) all
                  ∙ append_assoc (kept (inode_count_of (disk.image k.opening)) k.world.journal.list k.store.volume.log.committed) first.0 one),
            )

    -- and it makes no number
    anchor_makes : (last : Files) (e : Entry) (b : Bool) (i : ℕ) → e.op ≡ anchor → replay form f (cond b (e ∷ []) []) ≡ Some last → makes i (cond b (e ∷ []) []) ≡ false
    anchor_makes last e false i is done = refl
    anchor_makes last e true i is done = by_reply e.reply refl
      where
        by_reply : (o : Option Reply) → e.reply ≡ o → (is_making i e.reply || false) ≡ false
        by_reply None same = ap (λ (o : Option Reply). is_making i o || false) same
        by_reply (Some r) same =
            let g = one_told last e done (Some r) same in
            ap (λ (o : Option Reply). is_making i o || false) same
            ∙ ap (λ (b : Bool). b || false) (anchor_makes_none form f last r i (subst (λ (o : Op). after form f o r ≡ Some last) is (g.1 ∙ g.2)))

    or_nothing : (b : Bool) → (b || false) ≡ b
    or_nothing true = refl
    or_nothing false = refl

    -- what is kept then makes the numbers that the journal before the commit told
    makes_all : (c : ℕ) (last : Files) (i : ℕ) → k.store.volume.log.opened ≤ c → replay form start (kept n m.world.journal.list c) ≡ Some last → makes i (kept n m.world.journal.list c) ≡ makes i (kept n k.world.journal.list c)
    makes_all c last i high done = by_list lists
      where
        by_list : HasAnchors m.world.journal.list → makes i (kept n m.world.journal.list c) ≡ makes i (kept n k.world.journal.list c)
        by_list (inl same) = ap (λ (es : List Entry). makes i (kept n es c)) same
        by_list (inr more) =
            let e = more.0 in
            let es = k.world.journal.list in
            ap (makes i) (in_parts c e more.1) ∙ list_any-append (λ (x : Entry). is_making i x.reply) (kept n es c) (kept n (e ∷ []) c)
            ∙ ap (λ (b : Bool). makes i (kept n es c) || b) (anchor_makes last e (is_changing n e.op && leb e.group c) i more.2 (rest_kept c last high done e more.1)) ∙ or_nothing (makes i (kept n es c))

    -- so the labels of files are those that it tells
    labels_all : (c : ℕ) (z : Image) → k.store.volume.log.opened ≤ c → Keeps (disk.image m.opening) m.world.journal.list z c → HasLabels (labels_made disk.image k) (recovered z)
    unfolding n form start
    labels_all c z high keeps i there =
        let o = disk.image k.opening in
        let es = k.world.journal.list in
        labels_now o (image_on disk.image k) (recovered z) (kept (inode_count_of o) es k.store.volume.log.committed) was.size was.marks (kept (inode_count_of o) m.world.journal.list c) (marks_from c z keeps) i there
        ∙ ap (λ (b : Bool). cond b (0, 0) (labels_of o i)) (makes_all c (files_of (recovered z)) i high (from_opening c z keeps))
        ∙ ap (λ (fs : List Entry). due_labels o fs i) (kept_up_to (inode_count_of o) k.store.volume.log.opened c es known.journal.groups high)
        ∙ due_kept o known.replays.files k.store.volume.log.opened i es known.journal.groups known.replays.run

    either : (c : ℕ) (z : Image) → k.store.volume.log.committed ≤ c → Keeps (disk.image m.opening) m.world.journal.list z c → KeepsEither (image_on disk.image k) f (labels_made disk.image k) z
    unfolding form start
    either c z low keeps = ⊎_elim all none (cases_lt k.store.volume.log.committed c)
      where
        all : k.store.volume.log.committed < c → KeepsEither (image_on disk.image k) f (labels_made disk.image k) z
        all more =
            let high : k.store.volume.log.opened ≤ c = omega (arith, more, opened) in
            record {
              log = keeps.log;
              sound = keeps.sound;
              files = inr (all_kept c (files_of (recovered z)) high (from_opening c z keeps));
              unshown = renews (disk.image k.opening) (image_on disk.image k) (recovered z) (kept n k.world.journal.list k.store.volume.log.committed) (kept n m.world.journal.list c) was.size marks_then (marks_from c z keeps) (more_kept c high) form start run_then (from_opening c z keeps);
              labels = inr (labels_all c z high keeps);
            }

        none : c ≤ k.store.volume.log.committed → KeepsEither (image_on disk.image k) f (labels_made disk.image k) z
        none high =
            let both : Some (files_of (recovered z)) ≡ Some (files_of (image_on disk.image k)) = sym (from_opening c z keeps) ∙ kept_still c high low in
            keeps_nothing (image_on disk.image k) f (labels_made disk.image k) z (record { log = keeps.log; sound = keeps.sound; files = cc both; unshown = unshown_still c z high low keeps (cc both) })

    keeps_either : (z : Image) → KeepsBetween k.store.volume.log.committed (most_of m.store.volume) (disk.image m.opening) m.world.journal.list z → KeepsEither (image_on disk.image k) f (labels_made disk.image k) z
    keeps_either z kept_so = either kept_so.groups z kept_so.low kept_so.keeps

    -- A STOP IN THE COMMIT keeps all of the transaction or nothing
    pub leaves_either : LeavesOnly disk.moment disk.leaves k.store.volume.device m.store.volume.device (KeepsEither (image_on disk.image k) f (labels_made disk.image k))
    leaves_either =
        let leaves = run.stop.leaves in
        record {
          later = leaves.later;
          each = λ z left. keeps_either z (leaves.each z left);
          before = λ t z le left. ⊎_elim (λ old. inl old) (λ kept_so. inr (keeps_either z kept_so)) (leaves.before t z le left);
          keeps = leaves.keeps;
        }

-- where nothing is done, a stop keeps the files on the disk
pub leaves_still : {D N : Type 0} (disk : Ghosts D N) (has_now : (d : D) → disk.leaves d (disk.moment d) (disk.image d)) (k : Plain D) → Known disk plain_queues plain_herald k → k.store.volume.fault ≡ None → k.store.volume.log.commit ≡ commit.Quiet → LeavesOnly disk.moment disk.leaves k.store.volume.device k.store.volume.device (KeepsFiles (image_on disk.image k))
leaves_still disk has_now k known well quiet = leaves_before disk k k (settled disk has_now k known well quiet) (runs_on_none disk plain_queues plain_herald k known.stop.keeps) quiet refl
