-- The root is made on a disk without files.
use Rattle.std.proofs.Common.{◌≡◌, ◌≢◌, ℕ, ◌<◌, Bool, false, true, Option, Some, None, Result, refl, sym, ap, subst, ◌∙◌, inl, inr, ◌⊎◌, ⊎_elim, arith}
use Rattle.std.specs.Prelude.{OnOk}
use Rattle.std.proofs.lemmas.Bool.{eqb-true}
use Rattle.std.proofs.lemmas.Result.{on_ok_weaker}
use Rattle.blocks.specs.Disk.{LeavesOnly}
use Rattle.blocks.specs.declared.disk.Disk.{Ghosts}
use Rattle.model.specs.declared.types.image.Form.{Form}
use Rattle.model.specs.declared.types.operations.Op.TheVariants.{Create, Write}
use Rattle.model.specs.declared.types.operations.Reply.{Reply}
use Rattle.model.specs.declared.types.operations.Reply.TheVariants.{Made, Wrote}
use Rattle.model.specs.Files.{Files, files_of}
use Rattle.model.specs.Layout.{form_of}
use Rattle.model.specs.Log.{recovered}
use Rattle.model.specs.Operations.{after}
use Rattle.calls.specs.Calls.{MakesLowestOf, image_on}
use Rattle.calls.specs.Files.{IsFull}
use Rattle.calls.specs.Stepping.{Plain}
use Rattle.calls.specs.Transactions.{KeepsEither, image_seen, labels_made}
use Rattle.directories.specs.declared.refusal.Refusal.{Refusal}
use Rattle.names.specs.declared.refusal.TreeFault.{TreeFault}
use Rattle.directories.specs.Counts.{AreCounted}
use Rattle.names.specs.Inside.{files_seen, form_seen, Answers, LeavesFiles, StaysOn}
use Rattle.names.specs.Ready.{is_filled, EndsOn, HasBegun, HasCommitted, HasFilled, HasNoFile, IsRootAlone, KeepsRoot, LeavesEither, MakesRoot}
use Rattle.directories.specs.TreeChanges.{directory_file, empty_file, IsUnnamed}
use Rattle.directories.specs.Trees.{new_directory, IsFile, IsTree}
use Rattle.directories.specs.Lemmas.CountedChanges.{root_is_counted}
use Rattle.names.proofs.Going.{wider}
use Rattle.names.proofs.PlainPuts.{none_by}
use Rattle.directories.specs.Lemmas.Unnamed.{create_makes, write_fills}
use Rattle.directories.specs.Lemmas.WholeChanges.{filled_by, makes_root_whole}

whole_fill : (reply : Reply) → is_filled reply ≡ true → reply ≡ Wrote 32
whole_fill (Wrote count) h = ap (λ (n : ℕ). Wrote n) (eqb-true count 32 h)
whole_fill reply h = absurd (cc h)

root_of : (form : Form) (files made new : Files) → HasNoFile files → after form files (Create 1) (Made 1) ≡ Some made →
    after form made (Write 1 0 (new_directory 1 1)) (Wrote 32) ≡ Some new → IsRootAlone new × IsTree new × AreCounted new
root_of form files made new none create fill =
    let unnamed = filled_by form files made new 1 1 (create_makes form files made 1 1 create) fill in
    let tree = makes_root_whole form files made new none create fill in (
      record { there = unnamed.there; none = λ i ne. unnamed.rest i ne ∙ none i ne },
      tree,
      root_is_counted new tree unnamed.there (λ i ne. unnamed.rest i ne ∙ none i ne),
    )

module _ {D N : Type 0} (disk : Ghosts D N) where
  pub root_filled : (k a b : Plain D) (i : ℕ) (reply : Reply) (whole : Bool) → a.opening ≡ k.opening → reply ≡ Made i → i ≡ 1 →
      Answers disk.image (Create 1) k a reply → HasFilled disk.image a b whole → whole ≡ true → HasNoFile (files_seen disk.image k) →
      IsRootAlone (files_seen disk.image b) × IsTree (files_seen disk.image b) × AreCounted (files_seen disk.image b)
  root_filled k a b i reply whole opening is one create filled all none =
      let made : Answers disk.image (Create 1) k a (Made 1) =
      subst (λ (r : Reply). Answers disk.image (Create 1) k a r) (is ∙ ap (λ (n : ℕ). Made n) one) create in
      let form : Form = form_seen disk.image k in
      let fill : after form (files_seen disk.image a) (Write 1 0 (new_directory 1 1)) filled.reply ≡ Some (files_seen disk.image b) =
      subst (λ (o : D). after (form_of (disk.image o)) (files_seen disk.image a) (Write 1 0 (new_directory 1 1)) filled.reply ≡ Some (files_seen disk.image b))
      opening filled.answers in
      root_of form (files_seen disk.image k) (files_seen disk.image a) (files_seen disk.image b) none made
      (subst (λ (r : Reply). after form (files_seen disk.image a) (Write 1 0 (new_directory 1 1)) r ≡ Some (files_seen disk.image b))
      (whole_fill filled.reply (sym filled.told ∙ all)) fill)

  -- its number was another file's
  pub root_past : (k : Plain D) (i : ℕ) (reply : Reply) → MakesLowestOf (files_seen disk.image k) (Create 1) reply → reply ≡ Made i → 0 < i → i ≢ 1 →
      IsFile (files_seen disk.image k) 1
  root_past k i reply lowest is positive other = lowest 1 i 1 refl is (omega arith) (omega (arith, positive, other))

  -- its entries were not written
  pub root_full : (k a b : Plain D) (i : ℕ) (reply : Reply) (whole : Bool) → reply ≡ Made i → i ≡ 1 → Answers disk.image (Create 1) k a reply →
      HasFilled disk.image a b whole → whole ≡ false → IsFull (image_seen disk.image b)
  root_full k a b i reply whole is one create filled fails =
      let made : Answers disk.image (Create 1) k a (Made 1) =
      subst (λ (r : Reply). Answers disk.image (Create 1) k a r) (is ∙ ap (λ (n : ℕ). Made n) one) create in
      let unnamed : IsUnnamed (files_seen disk.image k) (files_seen disk.image a) 1 (empty_file 1) =
      create_makes (form_seen disk.image k) (files_seen disk.image k) (files_seen disk.image a) 1 1 made in
      ⊎_elim (λ (done : (filled.reply ≡ Wrote 32) × IsUnnamed (files_seen disk.image k) (files_seen disk.image b) 1 (directory_file 1 1)).
      let both : false ≡ true = sym fails ∙ filled.told ∙ ap is_filled done.0 in absurd (cc both))
      (λ (none : (filled.reply ≡ Wrote 0) × (files_seen disk.image b ≡ files_seen disk.image a)).
      filled.short 1 0 0 (new_directory 1 1) refl none.0 (omega arith))
      (write_fills (form_seen disk.image a) (files_seen disk.image k) (files_seen disk.image a) (files_seen disk.image b) 1 1 filled.reply unnamed filled.answers)

  -- it began in k, was a in the transaction and b behind its calls, and is over in m
  module _ (k a b m : Plain D) (less rest : ℕ) (o : Option Refusal) (begun : HasBegun disk k a less) (made : MakesRoot disk.image a b o)
      (not : (x : Refusal) → o ≡ Some x → ⊥) (none : HasNoFile (files_of (image_on disk.image k))) where
    root : IsRootAlone (files_seen disk.image b) × IsTree (files_seen disk.image b) × AreCounted (files_seen disk.image b)
    root =
        let done : MakesRoot disk.image a b None = subst (λ (p : Option Refusal). MakesRoot disk.image a b p) (none_by o not) made in
        done (subst (λ (f : Files). HasNoFile f) (sym begun.files) none)

    pub root_counted : AreCounted (files_seen disk.image b)
    root_counted = root.2

    pub root_alone : (r : Result (Unit {0}) TreeFault) → OnOk r (HasCommitted disk b m rest) → OnOk r (IsRootAlone (files_of (image_on disk.image m)))
    root_alone r all = on_ok_weaker r (λ (done : HasCommitted disk b m rest). subst (λ (f : Files). IsRootAlone f) (sym done.files) root.0) all

    pub root_leaves : LeavesFiles disk k a → image_on disk.image b ≡ image_on disk.image a → StaysOn disk a b → EndsOn disk b m →
        LeavesOnly disk.moment disk.leaves k.store.volume.device m.store.volume.device (KeepsRoot (image_on disk.image k))
    root_leaves first same stays over =
        let all : LeavesEither disk b k m = over.on k (same ∙ begun.goes.same) (stays.on k begun.goes.same first) in
        wider disk k.store.volume.device m.store.volume.device (KeepsEither (image_on disk.image k) (files_seen disk.image b) (labels_made disk.image b)) (KeepsRoot (image_on disk.image k))
        (λ z keeps. record {
          log = keeps.log;
          sound = keeps.sound;
          files = ⊎_elim (λ (was : files_of (recovered z) ≡ files_of (image_on disk.image k)). inl was)
              (λ (is : files_of (recovered z) ≡ files_seen disk.image b). inr (subst (λ (f : Files). IsRootAlone f) (sym is) root.0)) keeps.files;
        }) all.leaves
