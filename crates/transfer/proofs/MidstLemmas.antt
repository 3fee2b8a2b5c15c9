-- Calls in the midst of a transaction that puts bytes.
use Rattle.std.proofs.Common.{◌≡◌, ◌≢◌, ◌∙◌, ◌⊎◌, ℕ, ◌+◌, ◌<◌, ◌≤◌, ◌^◌, Bool, true, false, cond, eqb, List, [], length, take, Option, Some, None, refl, sym, ap, subst, inl, inr, ⊎_elim, arith}
use Rattle.std.specs.Prelude.{is_some}
use Rattle.std.proofs.lemmas.Bool.{cases_eq, eq-eqb, eqb-true, ne_eqb}
use Rattle.std.proofs.lemmas.List.{take_all}
use Rattle.blocks.specs.Disk.{Image, LeavesOnly}
use Rattle.blocks.specs.Lemmas.Moments.{joined}
use Rattle.blocks.specs.declared.disk.Disk.{Ghosts}
use Rattle.model.specs.Crash.{labels_of}
use Rattle.model.specs.Files.{Files, file_in, files_of}
use Rattle.model.specs.Journal.{is_making}
use Rattle.model.specs.Layout.{form_of, greatest_size}
use Rattle.model.specs.Operations.{after, transfer_limit}
use Rattle.model.specs.declared.types.image.File.{File}
use Rattle.model.specs.declared.types.image.Form.{Form}
use Rattle.model.specs.declared.types.operations.Entry.{Entry}
use Rattle.model.specs.declared.types.operations.Op.{Op}
use Rattle.model.specs.declared.types.operations.Op.TheVariants.{Create, Write, Trunc}
use Rattle.model.specs.declared.types.operations.Reply.{Reply}
use Rattle.model.specs.declared.types.operations.Reply.TheVariants.{Made, NoInode, Wrote, Done}
use Rattle.calls.specs.Calls.{KeepsFiles, call_count, image_on}
use Rattle.calls.specs.Files.{MayAppend, files_on}
use Rattle.calls.specs.Lemmas.After.{after_creation, after_emptying, after_write}
use Rattle.calls.specs.Lemmas.Making.{after_tells}
use Rattle.calls.specs.Lemmas.Reaching.{reached_then}
use Rattle.calls.specs.Lemmas.Room.{logs_nine}
use Rattle.calls.specs.Lemmas.Unshown.{due_there}
use Rattle.calls.specs.Stepping.{Plain}
use Rattle.calls.specs.Transactions.{Adds, Begins, HasFiles, IsInside, labels_made}
use Rattle.calls.specs.Unshown.{labels_due}
use Rattle.transfer.specs.Midst.{IsCleared, IsMidst, IsSame, StaysMidst, Writes}
use Rattle.transfer.specs.Places.{put_at}
use Rattle.transfer.proofs.PlaceLemmas.{appended_put, emptied_put, made_put, size_put}

module _ {D N : Type 0} (disk : Ghosts D N) where
  -- a transaction that was just begun
  pub midst_begun : (k a : Plain D) → call_count k ≤ 2 ^ 62 → IsInside disk.fault_count a → Begins disk.image k a → a.opening ≡ k.opening → IsMidst disk 0 (files_on disk.image a) a
  midst_begun k a few inside begins opening =
      let same : image_on disk.image a ≡ image_on disk.image k = begins.same in
      let none = begins.none in
      let list : call_count a ≡ call_count k = ap (λ (es : List Entry). length es) begins.list in
      record {
        inside = inside;
        files = subst (λ (x : Image). HasFiles disk.image a (files_of x)) (sym same) begins.files;
        labels = λ i there.
            let there_then : file_in (files_on disk.image k) i ≢ None = subst (λ (x : Image). file_in (files_of x) i ≢ None) same there in
            sym (begins.labels i there_then) ∙ sym (due_there (image_on disk.image k) i there_then) ∙ ap (λ (x : Image). labels_due x i) (sym same);
        form = ap form_of same ∙ begins.form ∙ ap (λ (o : D). form_of (disk.image o)) (sym opening);
        logged = omega (arith, none);
        few = omega (arith, few, list);
      }

  -- one call more, which makes a number that is free in the image
  module _ (n : ℕ) (files : Files) (k m : Plain D) (op : Op) (r : Reply) (midst : IsMidst disk n files k) (adds : Adds disk.image op k m r) (inside : IsInside disk.fault_count m) (opening : m.opening ≡ k.opening) (made : (i : ℕ) → is_making i (Some r) ≡ true → file_in (files_on disk.image k) i ≡ None) where
    abbrev done : (g : Files) × (after (form_of (disk.image k.opening)) files op r ≡ Some g) × HasFiles disk.image m g
    done = adds.files files midst.files

    labels_more : (i : ℕ) → file_in done.0 i ≢ None → (b : Bool) → is_making i (Some r) ≡ b → cond b (0, 0) (labels_made disk.image k i) ≡ labels_due (image_on disk.image m) i
    labels_more i there true is =
        let free : file_in (files_on disk.image m) i ≡ None = ap (λ (x : Image). file_in (files_of x) i) adds.same ∙ made i is in
        ap (λ (o : Option File). cond (is_some o) (labels_of (image_on disk.image m) i) (0, 0)) (sym free)
    labels_more i there false is =
        midst.labels i ((after_tells (form_of (disk.image k.opening)) files done.0 op r done.1).others i is there) ∙ ap (λ (x : Image). labels_due x i) (sym adds.same)

    pub midst_more : IsMidst disk (n + 1) done.0 m
    midst_more =
        let room = adds.room in
        let nine = logs_nine k.store.table.form op in
        let logged = midst.logged in
        let few = midst.few in
        let one_more = adds.one_more in
        record {
          inside = inside;
          files = done.2;
          labels = λ i there. adds.labels i ∙ labels_more i there (is_making i (Some r)) refl;
          form = ap form_of adds.same ∙ midst.form ∙ ap (λ (o : D). form_of (disk.image o)) (sym opening);
          logged = omega (arith, room, nine, logged);
          few = omega (arith, few, one_more);
        }

  -- ---- the calls

  module _ (k m : Plain D) (r : Reply) (inside : IsInside disk.fault_count m) (opening : m.opening ≡ k.opening) where
    form : Form
    form = form_of (disk.image k.opening)

    makes_none : (q : Reply) → r ≡ q → ((i : ℕ) → is_making i (Some q) ≡ false) → (i : ℕ) → is_making i (Some r) ≡ true → file_in (files_on disk.image k) i ≡ None
    makes_none q so none i making = let no : true ≡ false = sym making ∙ ap (λ (p : Reply). is_making i (Some p)) so ∙ none i in absurd (cc no)

    -- the old file is emptied
    pub empties : (i : ℕ) → IsMidst disk 0 (files_on disk.image k) k → file_in (files_on disk.image k) i ≢ None → Adds disk.image (Trunc i) k m r → (r ≡ Done) × IsMidst disk 1 (put_at (files_on disk.image k) i []) m
    empties i midst there adds =
        let files = files_on disk.image k in
        let done = adds.files files midst.files in
        let is = after_emptying (form_of (disk.image k.opening)) files i r done.0 there done.1 in (
          is.0,
          subst (λ (f : Files). IsMidst disk 1 f m) (is.1 ∙ emptied_put files i there)
              (midst_more 0 files k m (Trunc i) r midst adds inside opening (makes_none Done is.0 (λ j. refl))),
        )

    -- or a new one is made
    pub creates : IsMidst disk 0 (files_on disk.image k) k → Adds disk.image (Create 2) k m r → ((i : ℕ) × (r ≡ Made i) × IsCleared disk None k m (Some i)) ⊎ ((r ≡ NoInode) × IsCleared disk None k m None)
    creates midst adds =
        let files = files_on disk.image k in
        let done = adds.files files midst.files in
        ⊎_elim
        (λ (i, so, has). inl (
          i,
          so,
          (
            record { some = has.some; below = has.below; free = has.free; lowest = λ j one less. adds.lowest files midst.files 2 i j refl so one less },
            has.below,
            subst (λ (f : Files). IsMidst disk 1 f m) (has.made ∙ made_put files i has.free)
                (midst_more 0 files k m (Create 2) r midst adds inside opening
                (λ j making. ap (file_in files) (eqb-true j i (subst (λ (q : Reply). is_making j (Some q) ≡ true) so making)) ∙ has.free)),
          ),
        ))
        (λ (so, same). inr (so, (refl, λ j one less. adds.none files midst.files 2 j refl so one less)))
        (after_creation (form_of (disk.image k.opening)) files 2 r done.0 refl done.1)

    -- and the bytes are written into it
    module _ (i : ℕ) (copy bytes : List ℕ) (same : copy ≡ bytes) (midst : IsMidst disk 1 (put_at (files_on disk.image k) i []) k) (below : i < length (files_on disk.image k)) (few : length bytes ≤ transfer_limit) (short : length bytes ≤ greatest_size (form_of (image_on disk.image k))) (adds : Adds disk.image (Write i 0 copy) k m r) where
      abbrev old : Files
      old = put_at (files_on disk.image k) i []

      pub adds_bytes : Adds disk.image (Write i 0 bytes) k m r
      adds_bytes = subst (λ (b : List ℕ). Adds disk.image (Write i 0 b) k m r) same adds

      abbrev ends : (g : Files) × (after (form_of (disk.image k.opening)) old (Write i 0 bytes) r ≡ Some g) × HasFiles disk.image m g
      ends = adds_bytes.files old midst.files

      room : MayAppend (form_of (disk.image k.opening)) (file_in old i) 0 (length bytes)
      room = record {
        size = size_put (files_on disk.image k) i [] below;
        few = few;
        short = (let fits : length bytes ≤ greatest_size (form_of (disk.image k.opening)) = subst (λ (g : Form). length bytes ≤ greatest_size g) midst.form short in omega (arith, fits));
      }

      pub wrote : (count : ℕ) × (r ≡ Wrote count) × (count ≤ length bytes) × (ends.0 ≡ put_at (files_on disk.image k) i (take count bytes))
      wrote =
          let (count, so, has) = after_write (form_of (disk.image k.opening)) old i 0 bytes r ends.0 room ends.1 in
          (count, so, has.few, has.made ∙ appended_put (files_on disk.image k) i [] (take count bytes) below)

      pub writes_so : (count : ℕ) → r ≡ Wrote count → Writes disk i bytes k m (eqb count (length bytes))
      writes_so count so =
          let (n, is, few_n, files_n) = wrote in
          let one : n ≡ count = cc (is, so) in
          let at_most : count ≤ length bytes = omega (arith, few_n, one) in
          let files : ends.0 ≡ put_at (files_on disk.image k) i (take count bytes) = files_n ∙ ap (λ (c : ℕ). put_at (files_on disk.image k) i (take c bytes)) one in
          ⊎_elim
          (λ (all : count ≡ length bytes).
          subst (λ b. Writes disk i bytes k m b) (sym (eq-eqb count (length bytes) all))
          (subst (λ (f : Files). IsMidst disk 2 f m) (files ∙ ap (put_at (files_on disk.image k) i) (take_all count bytes (omega arith)))
          (midst_more 1 old k m (Write i 0 bytes) r midst adds_bytes inside opening (makes_none (Wrote count) so (λ j. refl)))))
          (λ (fewer : count ≢ length bytes).
          subst (λ b. Writes disk i bytes k m b) (sym (ne_eqb count (length bytes) fewer))
          (record {
            count = count;
            fewer = omega (arith, at_most, fewer);
            files = subst (HasFiles disk.image m) files ends.2;
            full = adds_bytes.short i 0 count bytes refl so (omega (arith, at_most, fewer));
          }))
          (cases_eq count (length bytes))

  -- ---- what a stop leaves

  pub stays_then : (k l m : Plain D) → IsSame disk k l → StaysMidst disk k l → StaysMidst disk l m → StaysMidst disk k m
  stays_then k l m same first second = record {
    leaves = joined disk.moment disk.leaves k.store.volume.device l.store.volume.device m.store.volume.device (KeepsFiles (image_on disk.image k)) first.leaves
        (subst (λ (x : Image). LeavesOnly disk.moment disk.leaves l.store.volume.device m.store.volume.device (KeepsFiles x)) same second.leaves);
    over = record { opening = second.over.opening ∙ first.over.opening; name = second.over.name ∙ first.over.name };
    reached = reached_then disk k l m first.reached second.reached;
  }
