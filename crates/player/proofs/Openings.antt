-- A whole replay, from the recovery on.
use Rattle.std.proofs.Common.{◌≡◌, ◌∙◌, ℕ, false, List, sym, ap, subst, replicate, None, inl, inr, ⊎_elim}
use Rattle.blocks.specs.Disk.{AddsOnly, Image, LeavesOnly}
use Rattle.blocks.specs.declared.disk.Disk.{Ghosts}
use Rattle.blocks.specs.declared.faulty.FaultyDisk.{FaultyDisk}
use Rattle.blocks.specs.declared.faulty.Trap.{Trap}
use Rattle.blocks.specs.Disk.{counted}
use Rattle.inodes.specs.Store.{fresh_volume}
use Rattle.inodes.specs.Table.{new_table}
use Rattle.inodes.specs.Tasks.{no_task}
use Rattle.kernel.specs.Opening.{IsOpened, LeavesRecovered}
use Rattle.opening.specs.Lemmas.Stopping.{unopened_leaves}
use Rattle.model.specs.Layout.{form_of, inode_count_of}
use Rattle.model.specs.Log.{recovered}
use Rattle.model.specs.Verdict.{verdict}
use Rattle.rings.specs.Boards.{asked}
use Rattle.rings.specs.declared.herald.BoardHerald.{BoardHerald}
use Rattle.clients.specs.Feeders.{AreNewFeeders}
use Rattle.rings.specs.Callers.{intake_names}
use Rattle.rings.specs.declared.intake.RingIntake.{RingIntake}
use Rattle.scripts.specs.declared.script.Task.{Task}
use Rattle.wal.specs.Recovery.{HasSynced, LeavesFromSync, RecoversAs, writes_to_recover}
use Rattle.player.specs.Afterwards.{IsUnopenedOver, RefusesOver}
use Rattle.player.specs.Opening.{IsOpenedOver}
use Rattle.player.specs.Stepping.{Ringed}
use Rattle.kernel.specs.declared.types.OpenFault.{OpenFault}
use Rattle.player.specs.declared.player.Player.{Player}
use Rattle.player.specs.Disks.{faulty}

-- a player whose kernel was opened over new rings
pub opened_over : {D N : Type 0} (disk : Ghosts (FaultyDisk D) (N × Trap)) (d : FaultyDisk D) (i : RingIntake) (h : BoardHerald) (x : Image) (tasks : List Task) (processes : ℕ) (player : Player D N) → disk.image d ≡ x → IsOpened disk d i h processes player.kernel
    → AreNewFeeders (intake_names i) tasks processes player.feeders.items → asked player.watch ≡ false → IsOpenedOver disk.image x tasks processes player
opened_over disk d i h x tasks processes player same opened feeders unasked =
    let k = player.kernel in
    record {
      sound = subst (λ y. verdict y ≡ None) same opened.sound;
      recovers = opened.opening ∙ ap recovered same;
      store = subst (λ y. k.store ≡ record { volume = fresh_volume disk.image k.opening; tasks = replicate processes no_task; table = new_table (form_of y) (inode_count_of y) }) same opened.store;
      world = opened.world;
      feeders = subst (λ q. AreNewFeeders (intake_names q) tasks processes player.feeders.items) (sym opened.intake) feeders;
      unasked = unasked;
    }

-- the same over an image that is the recovered one
pub opened_again : {D N : Type 0} (image : FaultyDisk D → Image) (x y : Image) (tasks : List Task) (processes : ℕ) (player : Player D N) → y ≡ recovered x → IsOpenedOver image y tasks processes player → IsOpenedOver image (recovered x) tasks processes player
opened_again image x y tasks processes player is opened = subst (λ z. IsOpenedOver image z tasks processes player) is opened

-- a recovery of nothing counts no write
pub none_counted : (written logged : ℕ) → logged ≡ 0 → counted written (writes_to_recover logged) ≡ written
none_counted written logged none = ap (λ n. counted written (writes_to_recover n)) none

module _ {D N : Type 0} (below : Ghosts D N) where
  -- what a stop leaves of a disk of which a write may be stopped, it leaves of that below
  leaves_below : (fd fe : FaultyDisk D) (P : Image → Type 0) → LeavesOnly (faulty below).moment (faulty below).leaves fd fe P → LeavesOnly below.moment below.leaves fd.inner fe.inner P
  leaves_below fd fe P only = record { later = only.later; each = only.each; before = only.before; keeps = only.keeps }

  -- the disk below a player that was opened
  pub opened_name : (d : D) (fd : FaultyDisk D) (i : RingIntake) (h : BoardHerald) (processes : ℕ) (k : Ringed (FaultyDisk D)) → fd.inner ≡ d → IsOpened (faulty below) fd i h processes k → below.name k.store.volume.device.inner ≡ below.name d
  opened_name d fd i h processes k is opened = ap (λ s. below.name s.volume.device.inner) opened.store ∙ ap (λ n. n.0) opened.name ∙ ap below.name is

  adds_below : (fd fe : FaultyDisk D) (P : Image → Type 0) → AddsOnly (faulty below).moment (faulty below).leaves fd fe P → AddsOnly below.moment below.leaves fd.inner fe.inner P
  adds_below fd fe P added = record { later = added.later; adds = added.adds; keeps = added.keeps }

  synced_below : (fd fe : FaultyDisk D) (P : Image → Type 0) → HasSynced (faulty below) fd fe P → HasSynced below fd.inner fe.inner P
  synced_below fd fe P first = record {
    at = first.at.inner;
    name = ap (λ n. n.0) first.name;
    image = first.image;
    synced = first.synced;
    settled = first.settled;
    time = first.time;
    then_on = leaves_below first.at fe P first.then_on;
  }

  -- what an opening's stop leaves of such a disk
  opened_below : (fd fe : FaultyDisk D) (P : Image → Type 0) → LeavesFromSync (faulty below) fd fe P → LeavesFromSync below fd.inner fe.inner P
  opened_below fd fe P leaves = record {
    any_moment = λ calm. leaves_below fd fe P (leaves.any_moment calm);
    adds = adds_below fd fe P leaves.adds;
    from_sync = λ holds. synced_below fd fe P (leaves.from_sync holds);
  }

  -- and one's that is refused
  recovered_below : (fd fe : FaultyDisk D) → LeavesRecovered (faulty below) fd fe → LeavesRecovered below fd.inner fe.inner
  recovered_below fd fe leaves =
      let P : Image → Type 0 = RecoversAs (below.image fd.inner) in
      record {
        any_moment = λ calm. leaves_below fd fe P (leaves.any_moment calm);
        adds = adds_below fd fe P leaves.adds;
        from_sync = λ holds. ⊎_elim (λ unsynced. inl unsynced) (λ first. inr (synced_below fd fe P first)) (leaves.from_sync holds);
      }

  pub opened_only : (d : D) (fd : FaultyDisk D) (i : RingIntake) (h : BoardHerald) (processes : ℕ) (k : Ringed (FaultyDisk D)) → fd.inner ≡ d → IsOpened (faulty below) fd i h processes k → LeavesFromSync below d k.store.volume.device.inner (RecoversAs (below.image d))
  opened_only d fd i h processes k is opened =
      subst (λ o. LeavesFromSync below o k.store.volume.device.inner (RecoversAs (below.image o))) is
      (subst (λ o. LeavesFromSync below fd.inner o (RecoversAs (below.image fd.inner))) (sym (ap (λ s. s.volume.device.inner) opened.store))
      (opened_below fd k.opening (RecoversAs (below.image fd.inner)) opened.leaves))

  -- and below one that was not
  pub over_name : (processes stop : ℕ) (d e : D) (fault : OpenFault) → IsUnopenedOver (faulty below) processes stop d e fault → below.name e ≡ below.name d
  over_name processes stop d e fault why =
      ⊎_elim (λ refused. ap below.name refused.1) (λ refuses. sym (ap below.name refuses.below_now) ∙ ap (λ n. n.0) refuses.refuses.name ∙ ap below.name refuses.below) why

  pub over_only : (processes stop : ℕ) (d e : D) (fault : OpenFault) → IsUnopenedOver (faulty below) processes stop d e fault → LeavesRecovered below d e
  over_only processes stop d e fault why =
      ⊎_elim (λ refused. subst (LeavesRecovered below d) (sym refused.1) (unopened_leaves below d)) told why
    where
      told : RefusesOver (faulty below) processes stop d e fault → LeavesRecovered below d e
      told refuses =
          subst (λ o. LeavesRecovered below o e) refuses.below
          (subst (LeavesRecovered below refuses.over.inner) refuses.below_now (recovered_below refuses.over refuses.now refuses.refuses.leaves))
