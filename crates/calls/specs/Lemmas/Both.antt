-- Two calls of a transaction, by the promises of its parts alone.
use Rattle.std.proofs.Common.{arith, List, length, ◌≡◌, ◌≢◌, ◌∙◌, ℕ, Bool, true, false, cond, Some, None, refl, sym, ap, subst, inl, inr, ⊎_elim}
use Rattle.blocks.specs.Disk.{Image, LeavesOnly}
use Rattle.blocks.specs.Lemmas.Moments.{joined}
use Rattle.blocks.specs.declared.disk.Disk.{Ghosts}
use Rattle.model.specs.declared.types.image.Form.{Form}
use Rattle.model.specs.declared.types.operations.Op.{Op}
use Rattle.model.specs.declared.types.operations.Reply.{Reply}
use Rattle.model.specs.Crash.{IsUntouched, labels_of}
use Rattle.model.specs.Files.{Files, file_in, files_of}
use Rattle.model.specs.Journal.{is_making}
use Rattle.model.specs.Log.{recovered}
use Rattle.model.specs.Layout.{form_of}
use Rattle.model.specs.Operations.{after}
use Rattle.calls.specs.Pairing.{AreAfterBoth, KeepsBoth, MakesBoth}
use Rattle.calls.specs.Stepping.{Plain}
use Rattle.calls.specs.Calls.{call_count, image_on}
use Rattle.model.specs.declared.types.operations.Entry.{Entry}
use Rattle.model.specs.Lemmas.Frames.{form_same}
use Rattle.calls.specs.Transactions.{Adds, Begins, Commits, HasFiles, KeepsEither, KeepsFiles, labels_after, labels_made}
use Rattle.calls.specs.Unshown.{KeepsOrRenews}
use Rattle.calls.specs.Lemmas.Making.{after_tells}
use Rattle.calls.specs.Lemmas.Unshown.{unshown_renews}

-- where nothing of a transaction was kept
pub keeps_nothing : (x : Image) (made : Files) (told : ℕ → ℕ × ℕ) (z : Image) → KeepsFiles x z → KeepsEither x made told z
keeps_nothing x made told z keeps = record {
  log = keeps.log;
  sound = keeps.sound;
  files = inl keeps.files;
  unshown = unshown_renews x (recovered z) keeps.unshown;
  labels = inl keeps.unshown;
}

-- what a stop leaves may be said with less
pub weaker : {D : Type 0} (moment : D → ℕ) (leaves : D → ℕ → Image → Type 0) (old new : D) (P Q : Image → Type 0) → ((z : Image) → P z → Q z) → LeavesOnly moment leaves old new P → LeavesOnly moment leaves old new Q
weaker moment leaves old new P Q less all = record {
  later = all.later;
  each = λ z left. less z (all.each z left);
  before = λ t z le left. ⊎_elim (λ was. inl was) (λ p. inr (less z p)) (all.before t z le left);
  keeps = all.keeps;
}

-- neither, where the files are as before
keeps_neither : (x : Image) (first second : Op) (y : Image) → y ≡ x → (z : Image) → KeepsFiles y z → KeepsBoth x first second z
keeps_neither x first second y same z keeps = record {
  log = keeps.log;
  sound = keeps.sound;
  files = inl (keeps.files ∙ ap files_of same);
  unshown = subst (λ (w : Image). KeepsOrRenews w (recovered z)) same (unshown_renews y (recovered z) keeps.unshown);
}

-- a stop before the commit keeps neither
pub neither_leaves : {D N : Type 0} (disk : Ghosts D N) (first second : Op) (k a b d : Plain D) → image_on disk.image a ≡ image_on disk.image k → image_on disk.image b ≡ image_on disk.image a → LeavesOnly disk.moment disk.leaves k.store.volume.device a.store.volume.device (KeepsFiles (image_on disk.image k)) → LeavesOnly disk.moment disk.leaves a.store.volume.device b.store.volume.device (KeepsFiles (image_on disk.image a))
    → LeavesOnly disk.moment disk.leaves b.store.volume.device d.store.volume.device (KeepsFiles (image_on disk.image b)) → LeavesOnly disk.moment disk.leaves k.store.volume.device d.store.volume.device (KeepsBoth (image_on disk.image k) first second)
neither_leaves disk first second k a b d same_a same_b begin one two =
    let x = image_on disk.image k in
    let P : Image → Type 0 = KeepsBoth x first second in
    let dk = k.store.volume.device in
    let da = a.store.volume.device in
    let db = b.store.volume.device in
    let dd = d.store.volume.device in
    joined disk.moment disk.leaves dk db dd P
    (joined disk.moment disk.leaves dk da db P
    (weaker disk.moment disk.leaves dk da (KeepsFiles x) P (keeps_neither x first second x refl) begin)
    (weaker disk.moment disk.leaves da db (KeepsFiles (image_on disk.image a)) P (keeps_neither x first second (image_on disk.image a) same_a) one))
    (weaker disk.moment disk.leaves db dd (KeepsFiles (image_on disk.image b)) P (keeps_neither x first second (image_on disk.image b) (same_b ∙ same_a)) two)

module _ {D N : Type 0} (disk : Ghosts D N) (first second : Op) (k a b d : Plain D) (r s : Reply) (begins : Begins disk.image k a) (one : Adds disk.image first a b r) (two : Adds disk.image second b d s) (opening_a : a.opening ≡ k.opening) (opening_b : b.opening ≡ a.opening) (opening_d : d.opening ≡ b.opening) where
  made : (f : Files) × AreAfterBoth (image_on disk.image k) first second r s f × HasFiles disk.image d f
  made =
      let mid = one.files (files_of (image_on disk.image k)) begins.files in
      let last = two.files mid.0 mid.2 in
      let form_a : form_of (image_on disk.image k) ≡ form_of (disk.image a.opening) = begins.form ∙ ap (λ (o : D). form_of (disk.image o)) (sym opening_a) in
      let form_b : form_of (image_on disk.image k) ≡ form_of (disk.image b.opening) = form_a ∙ ap (λ (o : D). form_of (disk.image o)) (sym opening_b) in (
        last.0,
        record {
          between = mid.0;
          one = subst (λ (form : Form). after form (files_of (image_on disk.image k)) first r ≡ Some mid.0) (sym form_a) mid.1;
          two = subst (λ (form : Form). after form mid.0 second s ≡ Some last.0) (sym form_b) last.1;
        },
        last.2,
      )

  keeps_none : (y : Image) → y ≡ image_on disk.image k → (z : Image) → KeepsFiles y z → KeepsBoth (image_on disk.image k) first second z
  keeps_none = keeps_neither (image_on disk.image k) first second

  keeps_either : (y : Image) → y ≡ image_on disk.image k → (z : Image) → KeepsEither y made.0 (labels_made disk.image d) z → KeepsBoth (image_on disk.image k) first second z
  keeps_either y same z keeps = record {
    log = keeps.log;
    sound = keeps.sound;
    files = ⊎_elim (λ none. inl (none ∙ ap files_of same))
        (λ all. inr (r, s, subst (λ (f : Files). AreAfterBoth (image_on disk.image k) first second r s f) (sym all) made.1)) keeps.files;
    unshown = subst (λ (x : Image). KeepsOrRenews x (recovered z)) same keeps.unshown;
  }

  -- a stop in it keeps both or neither
  pub both_leave : (m : Plain D) → LeavesOnly disk.moment disk.leaves k.store.volume.device a.store.volume.device (KeepsFiles (image_on disk.image k)) → LeavesOnly disk.moment disk.leaves a.store.volume.device b.store.volume.device (KeepsFiles (image_on disk.image a)) → LeavesOnly disk.moment disk.leaves b.store.volume.device d.store.volume.device (KeepsFiles (image_on disk.image b))
      → ((f : Files) → HasFiles disk.image d f → LeavesOnly disk.moment disk.leaves d.store.volume.device m.store.volume.device (KeepsEither (image_on disk.image d) f (labels_made disk.image d))) → LeavesOnly disk.moment disk.leaves k.store.volume.device m.store.volume.device (KeepsBoth (image_on disk.image k) first second)
  both_leave m first_leaves one_leaves two_leaves last_leaves =
      let P : Image → Type 0 = KeepsBoth (image_on disk.image k) first second in
      let same_b : image_on disk.image b ≡ image_on disk.image k = one.same ∙ begins.same in
      let same_d : image_on disk.image d ≡ image_on disk.image k = two.same ∙ same_b in
      let dk = k.store.volume.device in
      let da = a.store.volume.device in
      let db = b.store.volume.device in
      let dd = d.store.volume.device in
      let dm = m.store.volume.device in
      joined disk.moment disk.leaves dk dd dm P
      (joined disk.moment disk.leaves dk db dd P
      (joined disk.moment disk.leaves dk da db P
      (weaker disk.moment disk.leaves dk da (KeepsFiles (image_on disk.image k)) P (keeps_none (image_on disk.image k) refl) first_leaves)
      (weaker disk.moment disk.leaves da db (KeepsFiles (image_on disk.image a)) P (keeps_none (image_on disk.image a) begins.same) one_leaves))
      (weaker disk.moment disk.leaves db dd (KeepsFiles (image_on disk.image b)) P (keeps_none (image_on disk.image b) same_b) two_leaves))
      (weaker disk.moment disk.leaves dd dm (KeepsEither (image_on disk.image d) made.0 (labels_made disk.image d)) P (keeps_either (image_on disk.image d) same_d) (last_leaves made.0 made.2))

  -- a file that neither made was there, with its labels
  both_labels : (m : Plain D) → Commits disk.image d m → (i : ℕ) → file_in (files_of (image_on disk.image m)) i ≢ None → (b c : Bool) → is_making i (Some s) ≡ b → is_making i (Some r) ≡ c →
      labels_of (image_on disk.image m) i ≡ labels_after s i (labels_after r i (labels_of (image_on disk.image k) i))
  both_labels m commits i there b c is_s is_r =
      commits.labels i there ∙ two.labels i ∙ ap (labels_after s i) (one.labels i)
      ∙ ap (λ (q : Bool). cond q (0, 0) (labels_after r i (labels_made disk.image a i))) is_s ∙ ap (λ (q : Bool). cond b (0, 0) (cond q (0, 0) (labels_made disk.image a i))) is_r
      ∙ by b c is_s is_r
      ∙ ap (λ (q : Bool). cond b (0, 0) (cond q (0, 0) (labels_of (image_on disk.image k) i))) (sym is_r) ∙ ap (λ (q : Bool). cond q (0, 0) (labels_after r i (labels_of (image_on disk.image k) i))) (sym is_s)
    where
      by : (b c : Bool) → is_making i (Some s) ≡ b → is_making i (Some r) ≡ c → cond b (0, 0) (cond c (0, 0) (labels_made disk.image a i)) ≡ cond b (0, 0) (cond c (0, 0) (labels_of (image_on disk.image k) i))
      by true c is_s is_r = refl
      by false true is_s is_r = refl
      by false false is_s is_r =
          let x = image_on disk.image k in
          let there_last : file_in made.0 i ≢ None = λ none. there (ap (λ (f : Files). file_in f i) (commits.files made.0 made.2) ∙ none) in
          let there_mid = (after_tells (form_of x) made.1.between made.0 second s made.1.two).others i is_s there_last in
          sym (begins.labels i ((after_tells (form_of x) (files_of x) made.1.between first r made.1.one).others i is_r there_mid))

  -- and the files on the disk are those after both
  pub both_made : (m : Plain D) → Commits disk.image d m → MakesBoth disk.image first second k m r s
  both_made m commits =
      let none_more : call_count a ≡ call_count k = ap (λ (es : List Entry). length es) begins.list in
      let first_more = one.one_more in
      let second_more = two.one_more in
      let last_more = commits.one_more in
      let opening : d.opening ≡ k.opening = opening_d ∙ opening_b ∙ opening_a in
      record {
        files = subst (λ (f : Files). AreAfterBoth (image_on disk.image k) first second r s f) (sym (commits.files made.0 made.2)) made.1;
        sound = commits.sound;
        untouched = subst (λ (x : Image). IsUntouched x (image_on disk.image m)) (two.same ∙ one.same ∙ begins.same) commits.untouched;
        labels = λ i there. both_labels m commits i there (is_making i (Some s)) (is_making i (Some r)) refl refl;
        form = form_same (disk.image d.opening) (image_on disk.image m) commits.super ∙ ap (λ (o : D). form_of (disk.image o)) opening ∙ sym begins.form;
        three_more = omega (arith, none_more, first_more, second_more, last_more);
      }
