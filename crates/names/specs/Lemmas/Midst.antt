-- What a stop leaves in the midst of changes.
use Rattle.std.proofs.Common.{◌≡◌, ℕ, ⊎_elim, sym, subst, inl, inr}
use Rattle.blocks.specs.Disk.{LeavesOnly}
use Rattle.blocks.specs.Lemmas.Moments.{joined}
use Rattle.blocks.specs.declared.disk.Disk.{Ghosts}
use Rattle.calls.specs.Calls.{image_on}
use Rattle.calls.specs.Stepping.{Plain}
use Rattle.history.specs.Lemmas.Leaving.{leaves_wider}
use Rattle.model.specs.Files.{Files, files_of}
use Rattle.model.specs.Log.{recovered}
use Rattle.names.specs.Ready.{AnyOf, KeepsTree, LeavesMidst, LeavesTree}

module _ {D N : Type 0} (disk : Ghosts D N) where
  -- of one call of a tree
  pub leaves_any : {T : Type 0} (change : T → Files → Files → Type 0) (k m : Plain D) → LeavesTree disk change k m → LeavesMidst disk (AnyOf change) k m
  leaves_any {T} change k m leaves =
      leaves_wider disk.moment disk.leaves k.store.volume.device m.store.volume.device (KeepsTree change (image_on disk.image k)) (KeepsTree (λ (made : Unit {0}). AnyOf change) (image_on disk.image k))
      (λ z kept. record {
        log = kept.log;
        sound = kept.sound;
        tree = kept.tree;
        counted = kept.counted;
        files = ⊎_elim (λ (same : files_of (recovered z) ≡ files_of (image_on disk.image k)). inl same) (λ (made : (t : T) × change t (files_of (image_on disk.image k)) (files_of (recovered z))). inr (tt, made)) kept.files;
      }) leaves

  -- it is less than that
  pub leaves_more : (less more : Files → Files → Type 0) (k m : Plain D) → ((x z : Files) → less x z → more x z) → LeavesMidst disk less k m → LeavesMidst disk more k m
  leaves_more less more k m wider leaves =
      leaves_wider disk.moment disk.leaves k.store.volume.device m.store.volume.device (KeepsTree (λ (made : Unit {0}). less) (image_on disk.image k)) (KeepsTree (λ (made : Unit {0}). more) (image_on disk.image k))
      (λ z kept. record {
        log = kept.log;
        sound = kept.sound;
        tree = kept.tree;
        counted = kept.counted;
        files = ⊎_elim (λ (same : files_of (recovered z) ≡ files_of (image_on disk.image k)). inl same)
            (λ (made : (t : Unit {0}) × less (files_of (image_on disk.image k)) (files_of (recovered z))). inr (tt, wider _ _ made.1)) kept.files;
      }) leaves

  -- What a stop in a run from m to e leaves of the files there is what it leaves of those of k, which came
  -- to them.
  pub leaves_behind : (later all : Files → Files → Type 0) (k m e : Plain D) → LeavesMidst disk later m e
      → all (files_of (image_on disk.image k)) (files_of (image_on disk.image m)) → ((z : Files) → later (files_of (image_on disk.image m)) z → all (files_of (image_on disk.image k)) z)
      → LeavesOnly disk.moment disk.leaves m.store.volume.device e.store.volume.device (KeepsTree (λ (made : Unit {0}). all) (image_on disk.image k))
  leaves_behind later all k m e behind here on =
      leaves_wider disk.moment disk.leaves m.store.volume.device e.store.volume.device (KeepsTree (λ (made : Unit {0}). later) (image_on disk.image m)) (KeepsTree (λ (made : Unit {0}). all) (image_on disk.image k))
      (λ z kept. record {
        log = kept.log;
        sound = kept.sound;
        tree = kept.tree;
        counted = kept.counted;
        files = ⊎_elim (λ (same : files_of (recovered z) ≡ files_of (image_on disk.image m)). inr (tt, subst (all (files_of (image_on disk.image k))) (sym same) here))
            (λ (made : (t : Unit {0}) × later (files_of (image_on disk.image m)) (files_of (recovered z))). inr (tt, on _ made.1)) kept.files;
      }) behind

  -- and in a run from k to e through m
  pub leaves_on : (first later all : Files → Files → Type 0) (k m e : Plain D) → LeavesMidst disk first k m → LeavesMidst disk later m e → ((x z : Files) → first x z → all x z)
      → all (files_of (image_on disk.image k)) (files_of (image_on disk.image m)) → ((z : Files) → later (files_of (image_on disk.image m)) z → all (files_of (image_on disk.image k)) z) → LeavesMidst disk all k e
  leaves_on first later all k m e before behind wider here on =
      joined disk.moment disk.leaves k.store.volume.device m.store.volume.device e.store.volume.device (KeepsTree (λ (made : Unit {0}). all) (image_on disk.image k))
      (leaves_more first all k m wider before) (leaves_behind later all k m e behind here on)
