-- What a stop leaves of calls one after the other.
use Rattle.std.proofs.Common.{◌≡◌, ◌≢◌, ◌∙◌, ℕ, ◌+◌, ◌<◌, ◌≤◌, List, [], ◌++◌, length, take, set, Option, Some, None, refl, sym, ap, subst, inl, inr}
use Rattle.std.specs.Prelude.{◌⊎◌}
use Rattle.blocks.specs.Disk.{Image, LeavesOnly}
use Rattle.blocks.specs.Lemmas.Moments.{joined}
use Rattle.blocks.specs.declared.disk.Disk.{Ghosts}
use Rattle.model.specs.Files.{Files, file_in, files_of}
use Rattle.model.specs.Log.{recovered}
use Rattle.calls.specs.Files.{appended, files_on}
use Rattle.calls.specs.Stopped.{AppendsFirst, Empties, KeepsChange, LeavesChange, MakesAny, Removes, StaysOver}
use Rattle.history.specs.Lemmas.Leaving.{leaves_wider}
use Rattle.calls.specs.Calls.{KeepsFiles, image_on}
use Rattle.calls.specs.Lemmas.Reaching.{reached_none, reached_then}
use Rattle.calls.specs.Stepping.{IsReached, Plain}
use Rattle.transfer.specs.Places.{put_at}
use Rattle.transfer.specs.Stopped.{IsSpot, KeepsPlace, LeavesFirst, StaysPlace}
use Rattle.transfer.proofs.CallLemmas.{Leads, leads_on}
use Rattle.transfer.proofs.PlaceLemmas.{appended_put, emptied_put, made_put, put_at_again, removed_put}

module _ {D N : Type 0} (disk : Ghosts D N) (x : Image) (inum : Option ℕ) (bytes : List ℕ) where
  -- the files on a disk as a put may leave them
  abbrev Led : Files → Type 0
  Led new = (new ≡ files_of x) ⊎ LeavesFirst (files_of x) inum bytes new

  -- a change leaves the files that stand on the disk, or those behind it
  pub stays_first : (change : Files → Files → Type 0) (k m : Plain D) → LeavesChange disk change k m → StaysOver disk k m → IsReached disk k m → Leads x (image_on disk.image k)
      → ((new : Files) → (new ≡ files_on disk.image k) ⊎ change (files_on disk.image k) new → Led new) → StaysPlace disk x inum bytes k m
  stays_first change k m only over reached behind leads = record {
    leaves = leaves_wider disk.moment disk.leaves k.store.volume.device m.store.volume.device (KeepsChange change (image_on disk.image k)) (KeepsPlace x inum bytes)
        (λ z kept. record { log = kept.log; sound = kept.sound; files = leads (files_of (recovered z)) kept.files; unshown = leads_on x (image_on disk.image k) (recovered z) behind kept.unshown }) only;
    name = over.name;
    reached = reached;
  }

  -- so does no call
  pub stays_none : (k : Plain D) → LeavesOnly disk.moment disk.leaves k.store.volume.device k.store.volume.device (KeepsFiles (image_on disk.image k))
      → Leads x (image_on disk.image k) → Led (files_on disk.image k) → StaysPlace disk x inum bytes k k
  stays_none k only behind led = record {
    leaves = leaves_wider disk.moment disk.leaves k.store.volume.device k.store.volume.device (KeepsFiles (image_on disk.image k)) (KeepsPlace x inum bytes)
        (λ z kept. record { log = kept.log; sound = kept.sound; files = subst Led (sym kept.files) led; unshown = leads_on x (image_on disk.image k) (recovered z) behind kept.unshown }) only;
    name = refl;
    reached = reached_none disk k;
  }

  -- calls behind calls
  pub stays_then : (k l m : Plain D) → StaysPlace disk x inum bytes k l → StaysPlace disk x inum bytes l m → StaysPlace disk x inum bytes k m
  stays_then k l m first second = record {
    leaves = joined disk.moment disk.leaves k.store.volume.device l.store.volume.device m.store.volume.device (KeepsPlace x inum bytes) first.leaves second.leaves;
    name = second.name ∙ first.name;
    reached = reached_then disk k l m first.reached second.reached;
  }

  -- pieces that are put behind the call that made the file, or emptied it
  pub stays_behind : (l m : Plain D) (i : ℕ) → Leads x (image_on disk.image l) → ((new : Files) → (new ≡ files_on disk.image l) ⊎ LeavesFirst (files_on disk.image l) (Some i) bytes new → Led new)
      → StaysPlace disk (image_on disk.image l) (Some i) bytes l m → StaysPlace disk x inum bytes l m
  stays_behind l m i behind leads stays = record {
    leaves = leaves_wider disk.moment disk.leaves l.store.volume.device m.store.volume.device (KeepsPlace (image_on disk.image l) (Some i) bytes) (KeepsPlace x inum bytes)
        (λ z kept. record { log = kept.log; sound = kept.sound; files = leads (files_of (recovered z)) kept.files; unshown = leads_on x (image_on disk.image l) (recovered z) behind kept.unshown }) stays.leaves;
    name = stays.name;
    reached = stays.reached;
  }

-- ---- which files a call leads to

first_bytes : (files : Files) (inum : Option ℕ) (bytes : List ℕ) (i count : ℕ) (new : Files) → IsSpot files inum i → new ≡ put_at files i (take count bytes) → LeavesFirst files inum bytes new
first_bytes files inum bytes i count new spot is = record { number = i; spot = spot; count = count; files = is }

-- a creation
pub led_by_creation : (files : Files) (bytes : List ℕ) (new : Files) → (new ≡ files) ⊎ MakesAny 2 files new → (new ≡ files) ⊎ LeavesFirst files None bytes new
led_by_creation files bytes new (inl same) = inl same
led_by_creation files bytes new (inr made) =
    inr (first_bytes files None bytes made.number 0 new (made.some, made.below, made.free) (made.files ∙ made_put files made.number made.free))

-- a truncation of the old file
pub led_by_emptying : (files : Files) (inum : ℕ) (bytes : List ℕ) (new : Files) → file_in files inum ≢ None → (new ≡ files) ⊎ Empties inum files new → (new ≡ files) ⊎ LeavesFirst files (Some inum) bytes new
led_by_emptying files inum bytes new there (inl same) = inl same
led_by_emptying files inum bytes new there (inr is) =
    inr (first_bytes files (Some inum) bytes inum 0 new (refl, there) (is ∙ emptied_put files inum there))

-- behind either, what was put before is a first part of the bytes
module _ (files : Files) (inum : Option ℕ) (bytes : List ℕ) (i : ℕ) (spot : IsSpot files inum i) (below : i < length files) where
  -- a piece that comes behind so many bytes
  pub led_by_piece : (now new : Files) (at : ℕ) (piece : List ℕ) → now ≡ put_at files i (take at bytes)
      → ((count : ℕ) → count ≤ length piece → take at bytes ++ take count piece ≡ take (at + count) bytes)
      → (new ≡ now) ⊎ AppendsFirst i piece now new → (new ≡ files) ⊎ LeavesFirst files inum bytes new
  led_by_piece now new at piece is joins (inl same) = inr (first_bytes files inum bytes i at new spot (same ∙ is))
  led_by_piece now new at piece is joins (inr first) =
      inr (first_bytes files inum bytes i (at + first.count) new spot
      (first.files ∙ ap (λ (f : Files). appended f i (take first.count piece)) is ∙ appended_put files i (take at bytes) (take first.count piece) below
      ∙ ap (put_at files i) (joins first.count first.few)))

  -- what a stop leaves of pieces that are put behind the first call
  pub led_behind : (now new : Files) → now ≡ put_at files i [] → (new ≡ now) ⊎ LeavesFirst now (Some i) bytes new → (new ≡ files) ⊎ LeavesFirst files inum bytes new
  led_behind now new is (inl same) = inr (first_bytes files inum bytes i 0 new spot (same ∙ is))
  led_behind now new is (inr first) =
      inr (first_bytes files inum bytes i first.count new spot
      (first.files ∙ ap (λ (n : ℕ). put_at now n (take first.count bytes)) first.spot.0
      ∙ ap (λ (f : Files). put_at f i (take first.count bytes)) is ∙ put_at_again files i [] (take first.count bytes) below))

-- a removal of the new file
pub led_by_removal : (files : Files) (bytes : List ℕ) (i count : ℕ) (now new : Files) → IsSpot files None i → now ≡ put_at files i (take count bytes)
    → (new ≡ now) ⊎ Removes i now new → (new ≡ files) ⊎ LeavesFirst files None bytes new
led_by_removal files bytes i count now new spot is (inl same) = inr (first_bytes files None bytes i count new spot (same ∙ is))
led_by_removal files bytes i count now new spot is (inr gone) =
    inl (gone ∙ ap (λ (f : Files). set f i None) is ∙ removed_put files i (take count bytes) spot.2)
