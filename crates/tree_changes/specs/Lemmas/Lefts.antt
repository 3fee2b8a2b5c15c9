-- What a stop leaves of changes one behind the other, where each may not have been done.
use Rattle.std.proofs.Common.{◌≡◌, ◌∙◌, ◌⊎◌, ⊎_elim, subst, sym, inl, inr}
use Rattle.blocks.specs.Disk.{LeavesOnly}
use Rattle.blocks.specs.Lemmas.Moments.{joined}
use Rattle.blocks.specs.declared.disk.Disk.{Ghosts}
use Rattle.calls.specs.Calls.{image_on}
use Rattle.calls.specs.Stepping.{Plain}
use Rattle.history.specs.Lemmas.Leaving.{leaves_wider}
use Rattle.model.specs.Files.{Files, files_of}
use Rattle.model.specs.Log.{recovered}
use Rattle.names.specs.Lemmas.Midst.{leaves_behind, leaves_on}
use Rattle.names.specs.Ready.{KeepsTree, LeavesIfDone, LeavesMidst, LeavesTree}

module _ {D N : Type 0} (disk : Ghosts D N) where
  -- what a stop leaves of a change is what it leaves of one that may do as much with the same files
  pub leaves_here : {T U : Type 0} (less : T → Files → Files → Type 0) (more : U → Files → Files → Type 0) (k m : Plain D)
      → ((made : T) (z : Files) → less made (files_of (image_on disk.image k)) z → (z ≡ files_of (image_on disk.image k)) ⊎ ((u : U) × more u (files_of (image_on disk.image k)) z))
      → LeavesTree disk less k m → LeavesTree disk more k m
  leaves_here {T} {U} less more k m wider leaves =
      leaves_wider disk.moment disk.leaves k.store.volume.device m.store.volume.device (KeepsTree less (image_on disk.image k)) (KeepsTree more (image_on disk.image k))
      (λ z kept. record {
        log = kept.log;
        sound = kept.sound;
        tree = kept.tree;
        counted = kept.counted;
        files = ⊎_elim (λ (same : files_of (recovered z) ≡ files_of (image_on disk.image k)). inl same)
            (λ (made : (t : T) × less t (files_of (image_on disk.image k)) (files_of (recovered z))). wider made.0 (files_of (recovered z)) made.1) kept.files;
      }) leaves

  -- of a look none, whatever is behind it
  pub look_leaves : {T : Type 0} (look : T → Files → Files → Type 0) (all : Files → Files → Type 0) (k m : Plain D) → ((made : T) (z : Files) → look made (files_of (image_on disk.image k)) z → z ≡ files_of (image_on disk.image k))
      → LeavesTree disk look k m → LeavesMidst disk all k m
  look_leaves look all k m same leaves = leaves_here look (λ (made : Unit {0}). all) k m (λ made z is. inl (same made z is)) leaves

  -- of a call as much as of what it is part of
  pub call_leaves : {T : Type 0} (change : T → Files → Files → Type 0) (all : Files → Files → Type 0) (k m : Plain D)
      → ((made : T) (z : Files) → change made (files_of (image_on disk.image k)) z → all (files_of (image_on disk.image k)) z) → LeavesTree disk change k m → LeavesMidst disk all k m
  call_leaves change all k m wider leaves = leaves_here change (λ (made : Unit {0}). all) k m (λ made z is. inr (tt, wider made z is)) leaves

  pub left_more : (less more : Files → Files → Type 0) (k m : Plain D) → ((z : Files) → less (files_of (image_on disk.image k)) z → more (files_of (image_on disk.image k)) z)
      → LeavesIfDone disk less k m → LeavesIfDone disk more k m
  left_more less more k m wider left =
      ⊎_elim (λ (same : m ≡ k). inl same) (λ (leaves : LeavesMidst disk less k m). inr (call_leaves (λ (made : Unit {0}). less) more k m (λ made z is. wider z is) leaves)) left

  -- behind changes that left the files as they were
  pub left_behind : (all : Files → Files → Type 0) (k m e : Plain D) → files_of (image_on disk.image m) ≡ files_of (image_on disk.image k) → LeavesMidst disk all k m → LeavesIfDone disk all m e → LeavesMidst disk all k e
  left_behind all k m e same first behind =
      ⊎_elim (λ (still : e ≡ m). subst (LeavesMidst disk all k) (sym still) first)
      (λ (leaves : LeavesMidst disk all m e).
      joined disk.moment disk.leaves k.store.volume.device m.store.volume.device e.store.volume.device (KeepsTree (λ (made : Unit {0}). all) (image_on disk.image k)) first
      (leaves_wider disk.moment disk.leaves m.store.volume.device e.store.volume.device (KeepsTree (λ (made : Unit {0}). all) (image_on disk.image m)) (KeepsTree (λ (made : Unit {0}). all) (image_on disk.image k))
      (λ z kept. record {
        log = kept.log;
        sound = kept.sound;
        tree = kept.tree;
        counted = kept.counted;
        files = ⊎_elim (λ (still : files_of (recovered z) ≡ files_of (image_on disk.image m)). inl (still ∙ same))
            (λ (made : (t : Unit {0}) × all (files_of (image_on disk.image m)) (files_of (recovered z))). inr (tt, subst (λ (f : Files). all f (files_of (recovered z))) same made.1)) kept.files;
      }) leaves)) behind

  pub left_if_behind : (all : Files → Files → Type 0) (k m e : Plain D) → files_of (image_on disk.image m) ≡ files_of (image_on disk.image k) → LeavesIfDone disk all k m → LeavesIfDone disk all m e → LeavesIfDone disk all k e
  left_if_behind all k m e same first behind =
      ⊎_elim (λ (still : m ≡ k). subst (λ (o : Plain D). LeavesIfDone disk all o e) still behind) (λ (leaves : LeavesMidst disk all k m). inr (left_behind all k m e same leaves behind)) first

  -- behind changes that are part of all
  pub left_on : (first later all : Files → Files → Type 0) (k m e : Plain D) → LeavesIfDone disk first k m → LeavesIfDone disk later m e → ((x z : Files) → first x z → all x z)
      → all (files_of (image_on disk.image k)) (files_of (image_on disk.image m)) → ((z : Files) → later (files_of (image_on disk.image m)) z → all (files_of (image_on disk.image k)) z) → LeavesIfDone disk all k e
  left_on first later all k m e before behind wider here on =
      ⊎_elim
      (λ (still : e ≡ m). subst (LeavesIfDone disk all k) (sym still) (left_more first all k m (λ z is. wider _ z is) before))
      (λ (leaves : LeavesMidst disk later m e).
      ⊎_elim
      (λ (same : m ≡ k).
      inr (subst (λ (o : Plain D). LeavesOnly disk.moment disk.leaves o.store.volume.device e.store.volume.device (KeepsTree (λ (made : Unit {0}). all) (image_on disk.image k))) same
      (leaves_behind disk later all k m e leaves here on)))
      (λ (one : LeavesMidst disk first k m). inr (leaves_on disk first later all k m e one leaves wider here on))
      before)
      behind

  -- of changes that change nothing none
  pub stays_leaves : (all : Files → Files → Type 0) (k m : Plain D) → LeavesIfDone disk (λ files new. new ≡ files) k m → LeavesIfDone disk all k m
  stays_leaves all k m left =
      ⊎_elim (λ (same : m ≡ k). inl same)
      (λ (leaves : LeavesMidst disk (λ files new. new ≡ files) k m). inr (look_leaves (λ (made : Unit {0}) files new. new ≡ files) all k m (λ made z is. is) leaves)) left
