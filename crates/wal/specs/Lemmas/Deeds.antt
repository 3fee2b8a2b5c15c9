-- What a step of a commit does is what the log told before it.
use Rattle.std.proofs.Common.{◌≡◌, refl, None, set, subst}
use Rattle.wal.specs.Common.{Buffers, bytes_at, Commit, CommitStepsAt, CommitsTo, CommitSyncs, Committed, CommitWrites, DeviceFault, fault_of_step, Ghosts, header_block, IsFault, LogState, Part, place_at, seen, VolumeState}
use Rattle.wal.specs.Deeds.{DoesAs, SyncsOnce, WritesBlock, deed_at}

module _ {D N : Type 0} (disk : Ghosts D N) (d : D) (c : Buffers) (l : LogState) (e : D) (f : Buffers) (m : LogState) where
  -- where it did not fail, a fact about what it came to holds
  made : (P : DeviceFault → Type 0) (A B : Type 0) (r : Committed) → fault_of_step r ≡ None → IsFault r P A B → B
  made P A B Committed.More well fact = fact
  made P A B (Committed.Durable g) well fact = fact
  made P A B Committed.Done well fact = fact
  made P A B (Committed.Fault fault) well fact = absurd (cc well)

  stepped : (A B : Type 0) (answer r : Committed) → fault_of_step r ≡ None → CommitsTo answer r A B → A
  stepped A B answer Committed.More well step = step.1
  stepped A B answer (Committed.Durable g) well step = step.1
  stepped A B answer Committed.Done well step = step.1
  stepped A B answer (Committed.Fault fault) well step = absurd (cc well)

  -- a write that was made, where the commit stood there
  wrote : (k : Commit) (r : Committed) → l.commit ≡ k → fault_of_step r ≡ None → CommitWrites disk d c l r e f m → WritesBlock disk (place_at k l.homes) (bytes_at k l.homes (header_block l.homes) (seen (disk.image d) c)) d e
  wrote k r stands well w = record {
    image = subst (λ (n : Commit). disk.image e ≡ set (disk.image d) (place_at n l.homes) (bytes_at n l.homes (header_block l.homes) (seen (disk.image d) c))) stands (stepped _ _ _ r well w.step).image;
    writes = made _ _ _ r well w.writes;
    syncs = w.syncs;
  }

  -- a sync that was made
  synced : (p : Part) (r : Committed) → fault_of_step r ≡ None → CommitSyncs disk p d c l r e f m → SyncsOnce disk d e
  synced p r well s = record { image = s.image; writes = s.writes; syncs = made _ _ _ r well s.syncs }

pub commit_does : {D N : Type 0} (disk : Ghosts D N) (k : Commit) (v w : VolumeState D) (r : Committed) → v.log.commit ≡ k → fault_of_step r ≡ None
    → CommitStepsAt disk k v.device v.buffers v.log r w.device w.buffers w.log → DoesAs disk (deed_at k v.log) v w.device
commit_does disk Commit.Quiet v w r stands well step = absurd step
commit_does disk (Commit.Logging j) v w r stands well step = wrote disk v.device v.buffers v.log w.device w.buffers w.log (Commit.Logging j) r stands well step
commit_does disk Commit.Heading v w r stands well step = record {
  write = wrote disk v.device v.buffers v.log w.device w.buffers w.log Commit.Heading r stands well step;
  count_is = refl;
  group_is = refl;
}
commit_does disk (Commit.Homing j) v w r stands well step = wrote disk v.device v.buffers v.log w.device w.buffers w.log (Commit.Homing j) r stands well step
commit_does disk Commit.Clearing v w r stands well step = wrote disk v.device v.buffers v.log w.device w.buffers w.log Commit.Clearing r stands well step
commit_does disk (Commit.Syncing p) v w r stands well step = synced disk v.device v.buffers v.log w.device w.buffers w.log p r well step
