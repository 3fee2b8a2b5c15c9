-- Calls of a transaction, one after the other, and its commit, by the promises of its parts alone.
use Rattle.std.proofs.Common.{arith, ◌≡◌, ◌≢◌, ◌⊎◌, ◌∙◌, ℕ, ◌+◌, ◌≤◌, Bool, true, false, cond, List, length, Option, Some, None, refl, sym, ap, subst, inl, inr, ⊎_elim}
use Rattle.std.specs.Prelude.{is_some, IsTrue, Result, Ok, Err}
use Rattle.bcache.specs.Lemmas.Current.{length-current}
use Rattle.blocks.specs.Disk.{Image, LeavesOnly, block_at}
use Rattle.blocks.specs.Lemmas.Moments.{joined}
use Rattle.blocks.specs.declared.disk.Disk.{Ghosts}
use Rattle.history.specs.Lemmas.Leaving.{leaves_wider}
use Rattle.model.specs.Crash.{IsUntouched, labels_of}
use Rattle.model.specs.Files.{Files, file_in, files_of}
use Rattle.model.specs.Journal.{is_making}
use Rattle.model.specs.Layout.{form_of, inode_count_of, super_in}
use Rattle.model.specs.Lemmas.FileNumbers.{length-files_of}
use Rattle.model.specs.Lemmas.Frames.{form_same}
use Rattle.model.specs.Log.{is_lawful_log, recovered}
use Rattle.model.specs.Operations.{after}
use Rattle.model.specs.Soundness.{IsSound}
use Rattle.model.specs.declared.types.image.File.{File}
use Rattle.model.specs.declared.types.image.Form.{Form}
use Rattle.model.specs.declared.types.operations.Entry.{Entry}
use Rattle.model.specs.declared.types.operations.Op.{Op}
use Rattle.model.specs.declared.types.operations.Reply.{Reply}
use Rattle.calls.specs.Answered.{IsCommitted}
use Rattle.calls.specs.Calls.{IsWhole, KeepsCall, KeepsFiles, Makes, MayReply, ShortIsFull, call_count, image_on}
use Rattle.calls.specs.Files.{IsFull, files_on}
use Rattle.calls.specs.Lemmas.Making.{after_tells}
use Rattle.calls.specs.Lemmas.Unshown.{due_there}
use Rattle.calls.specs.Stepping.{Plain}
use Rattle.calls.specs.Transactions.{Adds, Begins, Commits, HasFiles, KeepsEither, Rests, image_seen, labels_made}
use Rattle.calls.specs.Unshown.{KeepsUnshown, labels_due}
use Rattle.calls.specs.declared.transactions.fault.TransactionFault.{TransactionFault}

-- Kernel b is in the transaction that kernel k began, whose calls made these files. Where one of them
-- stands, or stood on the disk, its labels are those that are due to it.
pub record IsGroup {D N : Type 0} (disk : Ghosts D N) (k b : Plain D) (made : Files) : Type 0 where
  pub same : image_on disk.image b ≡ image_on disk.image k
  pub opening : b.opening ≡ k.opening
  pub files : HasFiles disk.image b made
  pub labels : (i : ℕ) → (file_in made i ≢ None) ⊎ (file_in (files_on disk.image k) i ≢ None) → labels_made disk.image b i ≡ labels_due (image_on disk.image k) i
  pub form : form_of (image_on disk.image k) ≡ form_of (disk.image b.opening)
  pub size : length (image_on disk.image k) ≡ length (disk.image b.opening)
  pub super : block_at (image_on disk.image k) 1 ≡ block_at (disk.image b.opening) 1
  pub leaves : LeavesOnly disk.moment disk.leaves k.store.volume.device b.store.volume.device (KeepsFiles (image_on disk.image k))

-- what a stop leaves of image x: recovery gives a sound image with its files, or with these
pub record KeepsMade (x : Image) (made : Files) (z : Image) : Type 0 where
  pub log : IsTrue (is_lawful_log z)
  pub sound : IsSound (recovered z)
  pub files : (files_of (recovered z) ≡ files_of x) ⊎ (files_of (recovered z) ≡ made)
  pub unshown : KeepsUnshown x (recovered z)

module _ {D N : Type 0} (disk : Ghosts D N) where
  -- it was just begun
  pub group_begun : (k a : Plain D) → Begins disk.image k a → a.opening ≡ k.opening → LeavesOnly disk.moment disk.leaves k.store.volume.device a.store.volume.device (KeepsFiles (image_on disk.image k)) → IsGroup disk k a (files_on disk.image k)
  group_begun k a begins opening leaves =
      let x = image_on disk.image k in
      record {
        same = begins.same;
        opening = opening;
        files = begins.files;
        labels = λ i there.
            let is : file_in (files_of x) i ≢ None = ⊎_elim (λ now. now) (λ was. was) there in
            sym (begins.labels i is) ∙ sym (due_there x i is);
        form = begins.form ∙ ap (λ (o : D). form_of (disk.image o)) (sym opening);
        size = begins.size ∙ ap (λ (o : D). length (disk.image o)) (sym opening);
        super = begins.super ∙ ap (λ (o : D). block_at (disk.image o) 1) (sym opening);
        leaves = leaves;
      }

  -- one call more
  module _ (k b d : Plain D) (made : Files) (op : Op) (r : Reply) (group : IsGroup disk k b made) (adds : Adds disk.image op b d r) (opening : d.opening ≡ b.opening)
      (leaves : LeavesOnly disk.moment disk.leaves b.store.volume.device d.store.volume.device (KeepsFiles (image_on disk.image b))) where
    abbrev x : Image
    x = image_on disk.image k

    -- the files behind it
    abbrev pub done : (g : Files) × (after (form_of (image_on disk.image k)) made op r ≡ Some g) × HasFiles disk.image d g
    done =
        let more = adds.files made group.files in
        (more.0, ap (λ (form : Form). after form made op r) group.form ∙ more.1, more.2)

    labels_more : (i : ℕ) → (g : Files) → after (form_of x) made op r ≡ Some g → (is_making i (Some r) ≡ true → file_in (files_of x) i ≡ None) → (file_in g i ≢ None) ⊎ (file_in (files_of x) i ≢ None) → (m : Bool) → is_making i (Some r) ≡ m
        → cond m (0, 0) (labels_made disk.image b i) ≡ labels_due x i
    labels_more i g runs free there true is = ap (λ (o : Option File). cond (is_some o) (labels_of x i) (0, 0)) (sym (free is))
    labels_more i g runs free there false is =
        group.labels i (⊎_elim (λ now. inl ((after_tells (form_of x) made g op r runs).others i is now)) (λ was. inr was) there)

    -- where it makes no number, or one that is free on the disk
    pub group_more : ((i : ℕ) → is_making i (Some r) ≡ true → file_in (files_on disk.image k) i ≡ None) → IsGroup disk k d done.0
    group_more free = record {
      same = adds.same ∙ group.same;
      opening = opening ∙ group.opening;
      files = done.2;
      labels = λ i there. adds.labels i ∙ labels_more i done.0 done.1 (free i) there (is_making i (Some r)) refl;
      form = group.form ∙ ap (λ (o : D). form_of (disk.image o)) (sym opening);
      size = group.size ∙ ap (λ (o : D). length (disk.image o)) (sym opening);
      super = group.super ∙ ap (λ (o : D). block_at (disk.image o) 1) (sym opening);
      leaves = joined disk.moment disk.leaves k.store.volume.device b.store.volume.device d.store.volume.device (KeepsFiles x) group.leaves
          (subst (λ (y : Image). LeavesOnly disk.moment disk.leaves b.store.volume.device d.store.volume.device (KeepsFiles y)) group.same leaves);
    }

  -- ---- what a stop leaves

  module _ (k b : Plain D) (made : Files) (group : IsGroup disk k b made) where
    abbrev old : Image
    old = image_on disk.image k

    -- before the commit nothing is kept
    keeps_none : (z : Image) → KeepsFiles old z → KeepsMade old made z
    keeps_none z kept = record { log = kept.log; sound = kept.sound; files = inl kept.files; unshown = kept.unshown }

    stands : (z : Image) → KeepsEither (image_on disk.image b) made (labels_made disk.image b) z → (i : ℕ) → file_in (files_of (recovered z)) i ≢ None → (file_in made i ≢ None) ⊎ (file_in (files_of old) i ≢ None)
    stands z kept i there = ⊎_elim
        (λ none. inr (λ gone. there (ap (λ (f : Files). file_in f i) (none ∙ ap files_of group.same) ∙ gone)))
        (λ all. inl (λ gone. there (ap (λ (f : Files). file_in f i) all ∙ gone))) kept.files

    keeps_either : (z : Image) → KeepsEither (image_on disk.image b) made (labels_made disk.image b) z → KeepsMade old made z
    keeps_either z kept = record {
      log = kept.log;
      sound = kept.sound;
      files = ⊎_elim (λ none. inl (none ∙ ap files_of group.same)) (λ all. inr all) kept.files;
      unshown = ⊎_elim (λ still. subst (λ (y : Image). KeepsUnshown y (recovered z)) group.same still)
          (λ told. record {
            untouched = subst (λ (y : Image). IsUntouched y (recovered z)) group.same kept.unshown.untouched;
            labels = λ i there. told i there ∙ group.labels i (stands z kept i there);
          }) kept.labels;
    }

    module _ (m : Plain D) (leaves : (f : Files) → HasFiles disk.image b f → LeavesOnly disk.moment disk.leaves b.store.volume.device m.store.volume.device (KeepsEither (image_on disk.image b) f (labels_made disk.image b))) where
      pub group_leaves : LeavesOnly disk.moment disk.leaves k.store.volume.device m.store.volume.device (KeepsMade (image_on disk.image k) made)
      group_leaves =
          joined disk.moment disk.leaves k.store.volume.device b.store.volume.device m.store.volume.device (KeepsMade old made)
          (leaves_wider disk.moment disk.leaves k.store.volume.device b.store.volume.device (KeepsFiles old) (KeepsMade old made) keeps_none group.leaves)
          (leaves_wider disk.moment disk.leaves b.store.volume.device m.store.volume.device (KeepsEither (image_on disk.image b) made (labels_made disk.image b)) (KeepsMade old made) keeps_either (leaves made group.files))

    -- ---- once it is committed

    module _ (m : Plain D) (commits : Commits disk.image b m) where
      pub group_files : files_on disk.image m ≡ made
      group_files = commits.files made group.files

      pub group_whole : IsWhole (image_on disk.image k) (image_on disk.image m)
      group_whole = record { sound = commits.sound; size = commits.size ∙ sym group.size; super = commits.super ∙ sym group.super }

      pub group_unshown : KeepsUnshown (image_on disk.image k) (image_on disk.image m)
      group_unshown = record {
        untouched = subst (λ (y : Image). IsUntouched y (image_on disk.image m)) group.same commits.untouched;
        labels = λ i there. commits.labels i there ∙ group.labels i (inl (λ gone. there (ap (λ (f : Files). file_in f i) group_files ∙ gone)));
      }

      -- where its calls saw no block free, none is
      pub group_full : IsFull (image_seen disk.image b) → IsFull (image_on disk.image m)
      group_full full i below =
          let seen : length (image_seen disk.image b) ≡ length (image_on disk.image b) = length-current (image_on disk.image b) b.store.volume.buffers in
          let same = ap (λ (y : Image). length y) group.same in
          let size = group_whole.size in
          commits.marks i ∙ full i (omega (arith, below, seen, same, size))

      pub group_short : (op : Op) (r : Reply) → ShortIsFull (image_seen disk.image b) op r → ShortIsFull (image_on disk.image m) op r
      group_short op r short i off count bytes is so less = group_full (short i off count bytes is so less)

      pub group_committed : (most : ℕ) → Rests disk.fault_count m → call_count b + 1 ≤ call_count k + most → IsCommitted disk most k m
      group_committed most rests few =
          let one_more = commits.one_more in
          record {
            rests = rests;
            whole = group_whole;
            unshown = group_unshown;
            form = form_same (image_on disk.image k) (image_on disk.image m) group_whole.super;
            numbers = ap (λ (block : List ℕ). (super_in block).ninodes) group_whole.super;
            few_more = omega (arith, one_more, few);
          }

  -- ---- one call

  module _ (op : Op) (k a b : Plain D) (r : Reply) (begins : Begins disk.image k a) (adds : Adds disk.image op a b r) (opening_a : a.opening ≡ k.opening) (opening_b : b.opening ≡ a.opening)
      (first_leaves : LeavesOnly disk.moment disk.leaves k.store.volume.device a.store.volume.device (KeepsFiles (image_on disk.image k))) (call_leaves : LeavesOnly disk.moment disk.leaves a.store.volume.device b.store.volume.device (KeepsFiles (image_on disk.image a))) where
    abbrev begun : IsGroup disk k a (files_on disk.image k)
    begun = group_begun k a begins opening_a first_leaves

    abbrev made_by : (g : Files) × (after (form_of (image_on disk.image k)) (files_on disk.image k) op r ≡ Some g) × HasFiles disk.image b g
    made_by = done k a b (files_on disk.image k) op r begun adds opening_b call_leaves

    called : IsGroup disk k b made_by.0
    called =
        group_more k a b (files_on disk.image k) op r begun adds opening_b call_leaves
        (after_tells (form_of (image_on disk.image k)) (files_on disk.image k) made_by.0 op r made_by.1).made

    -- a stop keeps it or not
    pub one_leaves : (m : Plain D) (result : Result Reply TransactionFault) → MayReply result r
        → ((f : Files) → HasFiles disk.image b f → LeavesOnly disk.moment disk.leaves b.store.volume.device m.store.volume.device (KeepsEither (image_on disk.image b) f (labels_made disk.image b)))
        → LeavesOnly disk.moment disk.leaves k.store.volume.device m.store.volume.device (KeepsCall (image_on disk.image k) op result)
    one_leaves m result may leaves =
        let x = image_on disk.image k in
        leaves_wider disk.moment disk.leaves k.store.volume.device m.store.volume.device (KeepsMade x made_by.0) (KeepsCall x op result)
        (λ z kept. record {
          log = kept.log;
          sound = kept.sound;
          files = ⊎_elim (λ none. inl none) (λ all. inr (r, may, made_by.1 ∙ ap (λ (f : Files). Some f) (sym all))) kept.files;
          unshown = kept.unshown;
        })
        (group_leaves k b made_by.0 called m leaves)

    -- and then it is made
    pub one_made : (m : Plain D) → Commits disk.image b m → Makes 2 disk.image op k m r
    one_made m commits =
        let x = image_on disk.image k in
        let none_more : call_count a ≡ call_count k = ap (λ (es : List Entry). length es) begins.list in
        let call_more = adds.one_more in
        let last_more = commits.one_more in
        record {
          files = made_by.1 ∙ ap (λ (f : Files). Some f) (sym (group_files k b made_by.0 called m commits));
          whole = group_whole k b made_by.0 called m commits;
          unshown = group_unshown k b made_by.0 called m commits;
          lowest = adds.lowest (files_of x) begins.files;
          none = λ kind j is so low high. adds.none (files_of x) begins.files kind j is so low (let count = length-files_of x in omega (arith, high, count));
          short = group_short k b made_by.0 called m commits op r adds.short;
          answered = omega (arith, none_more, call_more, last_more);
        }

-- before the commit a call is not kept
pub uncommitted_leaves : {D N : Type 0} (disk : Ghosts D N) (op : Op) (result : Result Reply TransactionFault) (k m : Plain D) → LeavesOnly disk.moment disk.leaves k.store.volume.device m.store.volume.device (KeepsFiles (image_on disk.image k))
    → LeavesOnly disk.moment disk.leaves k.store.volume.device m.store.volume.device (KeepsCall (image_on disk.image k) op result)
uncommitted_leaves disk op result k m only =
    let x = image_on disk.image k in
    leaves_wider disk.moment disk.leaves k.store.volume.device m.store.volume.device (KeepsFiles x) (KeepsCall x op result)
    (λ z kept. record { log = kept.log; sound = kept.sound; files = inl kept.files; unshown = kept.unshown }) only

-- nor is one that was begun behind a beginning
pub still_leaves : {D N : Type 0} (disk : Ghosts D N) (k a b : Plain D) → image_on disk.image a ≡ image_on disk.image k → LeavesOnly disk.moment disk.leaves k.store.volume.device a.store.volume.device (KeepsFiles (image_on disk.image k)) → LeavesOnly disk.moment disk.leaves a.store.volume.device b.store.volume.device (KeepsFiles (image_on disk.image a))
    → LeavesOnly disk.moment disk.leaves k.store.volume.device b.store.volume.device (KeepsFiles (image_on disk.image k))
still_leaves disk k a b same first second =
    joined disk.moment disk.leaves k.store.volume.device a.store.volume.device b.store.volume.device (KeepsFiles (image_on disk.image k)) first
    (subst (λ (y : Image). LeavesOnly disk.moment disk.leaves a.store.volume.device b.store.volume.device (KeepsFiles y)) same second)
