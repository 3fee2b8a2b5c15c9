-- A change of a tree in one transaction, from the promises of its parts.
use Rattle.std.proofs.Common.{◌≡◌, ◌⊎◌, ℕ, length, Result, Ok, Err, sym, ap, subst, ◌∙◌, inl, inr, ⊎_elim, arith}
use Rattle.std.specs.Prelude.{OnOk}
use Rattle.blocks.specs.Disk.{Image}
use Rattle.blocks.specs.declared.disk.Disk.{Ghosts}
use Rattle.model.specs.Files.{Files, files_of}
use Rattle.model.specs.Log.{recovered}
use Rattle.calls.specs.Calls.{image_on}
use Rattle.calls.specs.Files.{IsFull}
use Rattle.calls.specs.Stepping.{Plain}
use Rattle.calls.specs.Transactions.{KeepsEither, KeepsFiles, image_seen, labels_made}
use Rattle.directories.specs.declared.refusal.Refusal.{Refusal}
use Rattle.names.specs.Inside.{files_seen, Goes, LeavesFiles, StaysOn}
use Rattle.names.specs.Ready.{answer_of, EndsOn, Happens, HasBegun, HasCommitted, IsReady, KeepsTree, LeavesTree}
use Rattle.directories.specs.Counts.{AreCounted, StaysCounted}
use Rattle.directories.specs.Trees.{IsTree}
use Rattle.names.proofs.Going.{wider}
use Rattle.wal.specs.Common.{length-current}

-- The change of a transaction that began with kernel k, which is b now: what a stop left so far, and
-- what became of the files.
pub record IsWhole {D N T : Type 0} (disk : Ghosts D N) (change : T → Files → Files → Type 0) (why : Files → Refusal → Type 0) (k b : Plain D)
    (r : Result T Refusal) : Type 0 where
  pub tree : IsTree (files_of (image_on disk.image k))
  pub counted : AreCounted (files_of (image_on disk.image k))
  pub same : image_on disk.image b ≡ image_on disk.image k
  pub leaves : LeavesFiles disk k b
  pub seen : StaysCounted (files_of (image_on disk.image k)) (files_seen disk.image b)
  pub happens : Happens change why (files_of (image_on disk.image k)) (files_seen disk.image b) r

-- what is so is so where the result is one
pub on_ok : {T E : Type 0} (r : Result T E) (so : Type 0) → so → OnOk r so
on_ok (Ok t) so is = is
on_ok (Err cause) so is = tt

module _ {D N : Type 0} (disk : Ghosts D N) where
  module _ {T : Type 0} (change : T → Files → Files → Type 0) (why : Files → Refusal → Type 0) where
    -- up to a kernel in the transaction
    pub leaves_inside : (k a b : Plain D) (less : ℕ) → HasBegun disk k a less → LeavesFiles disk k a → StaysOn disk a b → LeavesFiles disk k b
    leaves_inside k a b less begun first stays = stays.on k begun.goes.same first

    happened : (f g : Files) (r : Result T Refusal) (z : Files) → Happens change why f g r → z ≡ g → (z ≡ f) ⊎ ((made : T) × change made f z)
    happened f g (Ok made) z happens same = inr (made, subst (λ (h : Files). change made f h) (sym same) happens)
    happened f g (Err cause) z happens same = inl (same ∙ happens.0)

    keeps_either : (x z : Image) (made : Files) (told : ℕ → ℕ × ℕ) (r : Result T Refusal) → IsTree (files_of x) → AreCounted (files_of x) → StaysCounted (files_of x) made →
        Happens change why (files_of x) made r →
        KeepsEither x made told z → KeepsTree change x z
    keeps_either x z made told r tree counted after happens keeps = record {
      log = keeps.log;
      sound = keeps.sound;
      tree = ⊎_elim (λ (was : files_of (recovered z) ≡ files_of x). subst (λ (f : Files). IsTree f) (sym was) tree)
          (λ (is : files_of (recovered z) ≡ made). subst (λ (f : Files). IsTree f) (sym is) after.tree) keeps.files;
      counted = ⊎_elim (λ (was : files_of (recovered z) ≡ files_of x). subst (λ (f : Files). AreCounted f) (sym was) counted)
          (λ (is : files_of (recovered z) ≡ made). subst (λ (f : Files). AreCounted f) (sym is) (after.counted counted)) keeps.files;
      files = ⊎_elim (λ (was : files_of (recovered z) ≡ files_of x). inl was)
          (λ (is : files_of (recovered z) ≡ made). happened (files_of x) made r (files_of (recovered z)) happens is) keeps.files;
    }

    -- nothing of it is on the disk
    pub unchanged_leaves : (k m : Plain D) → IsTree (files_of (image_on disk.image k)) → AreCounted (files_of (image_on disk.image k)) → LeavesFiles disk k m → LeavesTree disk change k m
    unchanged_leaves k m tree counted leaves =
        wider disk k.store.volume.device m.store.volume.device (KeepsFiles (image_on disk.image k)) (KeepsTree change (image_on disk.image k))
        (λ z keeps. record {
          log = keeps.log;
          sound = keeps.sound;
          tree = subst (λ (f : Files). IsTree f) (sym keeps.files) tree;
          counted = subst (λ (f : Files). AreCounted f) (sym keeps.files) counted;
          files = inl keeps.files;
        }) leaves.leaves

    -- a transaction that began in k, was a in it and is b behind its calls
    pub whole_by : (k a b : Plain D) (left less : ℕ) (r : Result T Refusal) → IsReady disk k left → HasBegun disk k a less → LeavesFiles disk k a →
        image_on disk.image b ≡ image_on disk.image a → StaysOn disk a b → StaysCounted (files_seen disk.image a) (files_seen disk.image b) →
        Happens change why (files_seen disk.image a) (files_seen disk.image b) r → IsWhole disk change why k b r
    whole_by k a b left less r ready begun first same stays tree happens = record {
      tree = ready.tree;
      counted = ready.counted;
      same = same ∙ begun.goes.same;
      leaves = leaves_inside k a b less begun first stays;
      seen = subst (λ (f : Files). StaysCounted f (files_seen disk.image b)) begun.files tree;
      happens = subst (λ (f : Files). Happens change why f (files_seen disk.image b) r) begun.files happens;
    }

    module _ (k b m : Plain D) (r : Result T Refusal) (whole : IsWhole disk change why k b r) where
      pub whole_leaves : EndsOn disk b m → LeavesTree disk change k m
      whole_leaves over =
          wider disk k.store.volume.device m.store.volume.device (KeepsEither (image_on disk.image k) (files_seen disk.image b) (labels_made disk.image b)) (KeepsTree change (image_on disk.image k))
          (λ z keeps. keeps_either (image_on disk.image k) z (files_seen disk.image b) (labels_made disk.image b) r whole.tree whole.counted whole.seen whole.happens keeps)
          (over.on k whole.same whole.leaves).leaves

  -- a transaction that saw no block free leaves none
  pub full_by : (k a b m : Plain D) (less rest left : ℕ) → HasBegun disk k a less → Goes disk a b rest → HasCommitted disk b m left → IsFull (image_seen disk.image b) → IsFull (image_on disk.image m)
  full_by k a b m less rest left begun goes committed full i below =
      let seen : length (image_seen disk.image b) ≡ length (image_on disk.image b) = length-current (image_on disk.image b) b.store.volume.buffers in
      let same : length (image_on disk.image b) ≡ length (image_on disk.image a) = ap (λ (y : Image). length y) goes.same in
      let size : length (image_on disk.image m) ≡ length (image_on disk.image a) = committed.size ∙ ap (λ (o : D). length (disk.image o)) goes.opening ∙ sym begun.size in
      committed.marks i ∙ full i (omega (arith, below, seen, same, size))

-- what was answered was made
pub made_of : {T : Type 0} (r : Result T Refusal) (made : T) → answer_of r ≡ Ok made → r ≡ Ok made
made_of (Ok t) made is = cc is
made_of (Err cause) made is = absurd (cc is)
