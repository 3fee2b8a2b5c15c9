-- What a stop leaves of a run that begins with a sync of a disk that holds writes back.
use Rattle.std.proofs.Common.{◌∙◌, refl, sym, ap, subst, arith, inl, inr, ⊎_elim}
use Rattle.blocks.specs.Calls.{OnlyReads}
use Rattle.blocks.specs.Disk.{AddsOnly, Image, LeavesOnly, one_more}
use Rattle.blocks.specs.Lemmas.Moments.{adds_behind, adds_joined, adds_wider, joined, only_added}
use Rattle.blocks.specs.declared.disk.Disk.{Ghosts}
use Rattle.wal.specs.Recovery.{HasSynced, LeavesFromSync, LeavesIfCalm, LeavesIfSynced, RecoversAs}

module _ {D N : Type 0} (disk : Ghosts D N) where
  -- what leaves only images of one kind leaves only those of a wider one
  pub only_wider : (old new : D) (P Q : Image → Type 0) → ((x : Image) → P x → Q x) → LeavesOnly disk.moment disk.leaves old new P → LeavesOnly disk.moment disk.leaves old new Q
  only_wider old new P Q wider run = record {
    later = run.later;
    each = λ x left. wider x (run.each x left);
    before = λ t x le left. ⊎_elim (λ was. inl was) (λ p. inr (wider x p)) (run.before t x le left);
    keeps = run.keeps;
  }

  pub synced_wider : (old new : D) (P Q : Image → Type 0) → ((x : Image) → P x → Q x) → HasSynced disk old new P → HasSynced disk old new Q
  synced_wider old new P Q wider first = record {
    at = first.at;
    name = first.name;
    image = first.image;
    synced = first.synced;
    settled = first.settled;
    time = first.time;
    then_on = only_wider first.at new P Q wider first.then_on;
  }

  pub if_synced_wider : (old new : D) (P Q : Image → Type 0) → ((x : Image) → P x → Q x) → LeavesIfSynced disk old new P → LeavesIfSynced disk old new Q
  if_synced_wider old new P Q wider leaves = record {
    any_moment = λ calm. only_wider old new P Q wider (leaves.any_moment calm);
    adds = adds_wider disk.moment disk.leaves old new P Q wider leaves.adds;
    from_sync = λ holds. ⊎_elim (λ unsynced. inl unsynced) (λ first. inr (synced_wider old new P Q wider first)) (leaves.from_sync holds);
  }

  -- the sync, what followed it, and then a run
  pub synced_joined : (old mid new : D) (P : Image → Type 0) → HasSynced disk old mid P → LeavesOnly disk.moment disk.leaves mid new P → HasSynced disk old new P
  synced_joined old mid new P first run = record {
    at = first.at;
    name = first.name;
    image = first.image;
    synced = first.synced;
    settled = first.settled;
    time = first.time;
    then_on = joined disk.moment disk.leaves first.at mid new P first.then_on run;
  }

  pub run_leaves : (old mid new : D) (P Q : Image → Type 0) → ((x : Image) → P x → Q x) → LeavesFromSync disk old mid P → LeavesOnly disk.moment disk.leaves mid new Q → LeavesFromSync disk old new Q
  run_leaves old mid new P Q wider leaves run = record {
    any_moment = λ calm. joined disk.moment disk.leaves old mid new Q (only_wider old mid P Q wider (leaves.any_moment calm)) run;
    adds = adds_joined disk.moment disk.leaves old mid new Q (adds_wider disk.moment disk.leaves old mid P Q wider leaves.adds) run;
    from_sync = λ holds. synced_joined old mid new Q (synced_wider old mid P Q wider (leaves.from_sync holds)) run;
  }

  pub if_synced : (old new : D) (P : Image → Type 0) → LeavesFromSync disk old new P → LeavesIfSynced disk old new P
  if_synced old new P leaves = record { any_moment = leaves.any_moment; adds = leaves.adds; from_sync = λ holds. inr (leaves.from_sync holds) }

  -- reads before the sync
  synced_behind : (old mid new : D) (P : Image → Type 0) → OnlyReads disk old mid → HasSynced disk mid new P → HasSynced disk old new P
  synced_behind old mid new P reads first = record {
    at = first.at;
    name = first.name ∙ reads.name;
    image = first.image ∙ reads.image;
    synced = first.synced ∙ ap one_more reads.syncs;
    settled = first.settled;
    time = record {
      later = omega (arith, reads.time.later, first.time.later);
      adds = λ t x le left. reads.time.adds t x le (first.time.adds t x (omega (arith, le, reads.time.later)) left);
      keeps = λ t x le left. first.time.keeps t x (omega (arith, le, reads.time.later)) (reads.time.keeps t x le left);
    };
    then_on = first.then_on;
  }

  -- of a recovery: what recovers as the disk that was read recovers as the one before
  same_image : (old mid : D) → OnlyReads disk old mid → (Q : (Image → Type 0) → Type 0) → Q (RecoversAs (disk.image mid)) → Q (RecoversAs (disk.image old))
  same_image old mid reads Q is = subst (λ (y : Image). Q (RecoversAs y)) reads.image is

  adds_read : (old mid new : D) → OnlyReads disk old mid → AddsOnly disk.moment disk.leaves mid new (RecoversAs (disk.image mid)) → AddsOnly disk.moment disk.leaves old new (RecoversAs (disk.image old))
  adds_read old mid new reads run = adds_behind disk.moment disk.leaves old mid new (RecoversAs (disk.image old)) reads.time (same_image old mid reads (AddsOnly disk.moment disk.leaves mid new) run)

  adds_calm : (old new : D) → AddsOnly disk.moment disk.leaves old new (RecoversAs (disk.image old)) → LeavesIfCalm disk old new (RecoversAs (disk.image old))
  adds_calm old new added = λ calm. only_added disk.moment disk.leaves old new (RecoversAs (disk.image old)) (λ x left. subst (RecoversAs (disk.image old)) (sym (calm x left)) (record { image = refl; lawful = refl })) added

  pub from_sync_behind : (old mid new : D) → OnlyReads disk old mid → LeavesFromSync disk mid new (RecoversAs (disk.image mid)) → LeavesFromSync disk old new (RecoversAs (disk.image old))
  from_sync_behind old mid new reads leaves =
      let P : Image → Type 0 = RecoversAs (disk.image old) in
      let added : AddsOnly disk.moment disk.leaves old new P = adds_read old mid new reads leaves.adds in
      record {
        any_moment = adds_calm old new added;
        adds = added;
        from_sync = λ holds. synced_behind old mid new P reads (same_image old mid reads (HasSynced disk mid new) (leaves.from_sync (ap disk.holding reads.name ∙ holds)));
      }

  pub if_synced_behind : (old mid new : D) → OnlyReads disk old mid → LeavesIfSynced disk mid new (RecoversAs (disk.image mid)) → LeavesIfSynced disk old new (RecoversAs (disk.image old))
  if_synced_behind old mid new reads leaves =
      let P : Image → Type 0 = RecoversAs (disk.image old) in
      let added : AddsOnly disk.moment disk.leaves old new P = adds_read old mid new reads leaves.adds in
      record {
        any_moment = adds_calm old new added;
        adds = added;
        from_sync = λ holds. ⊎_elim (λ unsynced. inl (unsynced ∙ reads.syncs))
            (λ first. inr (synced_behind old mid new P reads (same_image old mid reads (HasSynced disk mid new) first))) (leaves.from_sync (ap disk.holding reads.name ∙ holds));
      }

  -- of reads alone
  pub read_if_synced : (old new : D) → OnlyReads disk old new → LeavesIfSynced disk old new (RecoversAs (disk.image old))
  read_if_synced old new reads =
      let added : AddsOnly disk.moment disk.leaves old new (RecoversAs (disk.image old)) = record { later = reads.time.later; adds = λ t x le left. inl (reads.time.adds t x le left); keeps = reads.time.keeps } in
      record { any_moment = adds_calm old new added; adds = added; from_sync = λ holds. inl reads.syncs }
