-- What a look at an inode block finds.
use Rattle.std.proofs.Common.{◌≡◌, ℕ, ◌-◌, ◌≤◌, Bool, true, false, cond, List, Option, Some, None, refl, sym, ap, subst, ◌∙◌, arith}
use Rattle.inodes.specs.Common.{at_next_block, block_at, block_or_zero, buffer, Buffers, BuffersAfter, current_after, eqb-false, fault_in, faults_after, finds, Ghosts, GivesUpLock, Holds, HoldsWhereGot, Image, inode_block, inode_bytes_in, inode_in, is_last_block, IsFree, IsReady, log_after, lowest_free, lt-ltb, MayStep, new_inode, noted, OnlyReads, OnMore, Progress, SearchGoes, SearchLocks, SearchState, SearchSteps, seen, SeesNoneFree, VolumeState, Why, with_inode, with_new_inode, with_released}
use Rattle.model.specs.Layout.{inode_of}
use Rattle.inodes.specs.Lemmas.Looks.{found_number, taken_by_look}

-- the process holds the block that it looks at
pub held : (cur : Image) (c : Buffers) (size pid slot : ℕ) (m : SearchState) → IsReady cur c size pid m → m.slot ≡ Some slot → Holds cur c pid m.block slot
held cur c size pid slot m ready is = subst (λ (o : Option ℕ). HoldsWhereGot cur c pid m.block o) is ready.holds

-- where it found a number, it holds that number's block
pub held_number : (cur : Image) (c : Buffers) (size pid slot i : ℕ) (bytes : List ℕ) (m : SearchState) → IsReady cur c size pid m → m.slot ≡ Some slot → bytes ≡ (buffer c slot).bytes
    → Some i ≡ lowest_free bytes m.inode_count m.block → Holds cur c pid (inode_block i) slot
held_number cur c size pid slot i bytes m ready is same e =
    let found = found_number bytes m.inode_count m.block i ready.behind (sym e) in
    subst (λ (b : ℕ). Holds cur c pid b slot) (sym found.place) (held cur c size pid slot m ready is)

-- the next block may be looked at, if there is one
pub ready_next : (cur new : Image) (c d : Buffers) (size width pid : ℕ) (m n : SearchState) (r : Progress (Option ℕ)) → IsReady cur c size pid m → width ≡ size
    → r ≡ cond (is_last_block m) (Progress.Over None) Progress.Moved → n ≡ cond (is_last_block m) m (at_next_block m) → OnMore r (IsReady new d width pid n)
ready_next cur new c d size width pid m n r ready same are is =
    subst (λ (s : Progress (Option ℕ)). OnMore s (IsReady new d width pid n)) (sym are) (subst (λ (o : SearchState). OnMore {T = Option ℕ} (cond (is_last_block m) (Progress.Over None) Progress.Moved) (IsReady new d width pid o)) (sym is) (by_last (is_last_block m) refl))
  where
    by_last : (t : Bool) → is_last_block m ≡ t → OnMore {T = Option ℕ} (cond t (Progress.Over None) Progress.Moved) (IsReady new d width pid (cond t m (at_next_block m)))
    by_last true last = tt
    by_last false more =
        record {
          kind = ready.kind;
          behind = omega (arith, ready.behind);
          last = omega (arith, (eqb-false m.block (inode_block (m.inode_count - 1)) more), ready.last);
          some = ready.some;
          few = ready.few;
          within = omega (arith, ready.within, same);
          holds = tt;
        }

-- where a look found none, each number of the block is taken
sees_none : (cur : Image) (m : SearchState) → finds cur m ≡ None → SeesNoneFree cur m
sees_none cur m none count i some below place free =
    taken_by_look cur m.inode_count m.block i None none tt (rw (lt-ltb 0 i some, lt-ltb i m.inode_count (omega (arith, count, below))) refl) place free

-- a number that a look finds is free in the image
pub finds_free : (cur : Image) (bytes : List ℕ) (m : SearchState) (i : ℕ) → 33 ≤ m.block → bytes ≡ block_at cur m.block → Some i ≡ lowest_free bytes m.inode_count m.block → IsFree cur m i
unfolding inode_of
finds_free cur bytes m i behind same e =
    let found = found_number bytes m.inode_count m.block i behind (sym e) in
    let here : bytes ≡ block_at cur (inode_block i) = same ∙ ap (λ (b : ℕ). block_at cur b) (sym found.place) in
    record { place = found.place; number = found.number; free = ap (λ (l : List ℕ). (inode_in (inode_bytes_in l i)).kind) (sym here) ∙ found.free }

-- a disk that stays is only read
reads_none : {D N : Type 0} (disk : Ghosts D N) (d e : D) → e ≡ d → OnlyReads disk d e
reads_none disk d e same = subst (λ (k : _). OnlyReads disk d k) (sym same) (record { name = refl; image = refl; writes = refl; syncs = refl; time = record { later = omega arith; adds = λ t x low is. is; keeps = λ t x low is. is } })

-- a look is made, with these buffers and this log, on the same disk
look_made : {D N : Type 0} (disk : Ghosts D N) (v w : VolumeState D) (pid slot : ℕ) (m n : SearchState) (r : Progress (Option ℕ)) → v.fault ≡ None → (w.device ≡ v.device) × (w.fault ≡ v.fault) → fault_in r ≡ None → ((cause : Why) → r ≡ Progress.Sleeping cause → ⊥)
    → BuffersAfter disk.image (Some slot) m v pid r w.buffers → SearchLocks (Some slot) r v.buffers w.buffers pid m.block n.slot → w.log ≡ log_after v.log pid m.block r
    → seen (disk.image w.device) w.buffers ≡ current_after (seen (disk.image v.device) v.buffers) m r → SearchGoes (Some slot) (seen (disk.image v.device) v.buffers) v.buffers m r n → OnMore r (MayStep disk.image w pid n)
    → SearchSteps disk (Some slot) v w pid m n r
look_made disk v w pid slot m n r well same fine awake buffers locks log current goes more = record {
  goes = goes;
  buffers = buffers;
  locks = locks;
  log = log;
  asleep = λ cause waits. absurd (awake cause waits);
  more = more;
  current = current;
  fault = same.1 ∙ well ∙ sym fine;
  device = reads_none disk v.device w.device same.0;
  looks = λ got. same.0;
  faults = ap disk.fault_count same.0 ∙ ap (λ (o : _). faults_after o (disk.fault_count v.device)) (sym fine);
}

-- a look that claims a number
pub look_claims : {D N : Type 0} (disk : Ghosts D N) (v w : VolumeState D) (pid slot i : ℕ) (bytes : List ℕ) (m : SearchState) → MayStep disk.image v pid m → v.fault ≡ None → m.slot ≡ Some slot → bytes ≡ block_at (seen (disk.image v.device) v.buffers) m.block
    → Some i ≡ lowest_free bytes m.inode_count m.block → w ≡ with_new_inode v pid slot i m.kind → GivesUpLock v.buffers w.buffers pid slot
    → seen (disk.image w.device) w.buffers ≡ with_inode (seen (disk.image v.device) v.buffers) i (new_inode m.kind) → SearchSteps disk (Some slot) v w pid m m (Progress.Over (Some i))
look_claims disk v w pid slot i bytes m ready well is same e made gives current =
    look_made disk v w pid slot m m (Progress.Over (Some i)) well (ap (λ (o : VolumeState _). o.device) made, ap (λ (o : VolumeState _). o.fault) made) refl (λ cause no. cc no) (ap (λ (o : VolumeState _). o.buffers) made) gives
    (ap (λ (o : VolumeState _). o.log) made ∙ ap (λ (o : Option ℕ). noted v.log pid (block_or_zero o)) (held (seen (disk.image v.device) v.buffers) v.buffers v.log.size pid slot m ready is).block) current
    (refl, ap (λ (l : List ℕ). lowest_free l m.inode_count m.block) (sym same) ∙ sym e, finds_free (seen (disk.image v.device) v.buffers) bytes m i ready.behind same e) tt

-- a look that claims none
pub look_goes_on : {D N : Type 0} (disk : Ghosts D N) (v w : VolumeState D) (pid slot : ℕ) (m n : SearchState) (r : Progress (Option ℕ)) (last : Bool) → is_last_block m ≡ last → finds (seen (disk.image v.device) v.buffers) m ≡ None → v.fault ≡ None → w ≡ with_released v slot
    → GivesUpLock v.buffers w.buffers pid slot → seen (disk.image w.device) w.buffers ≡ seen (disk.image v.device) v.buffers → OnMore r (MayStep disk.image w pid n)
    → r ≡ cond last (Progress.Over None) Progress.Moved → n ≡ cond last m (at_next_block m) → SearchSteps disk (Some slot) v w pid m n r
look_goes_on disk v w pid slot m n r last is none well made gives current more answer next = by_last last is answer next
  where
    same : (w.device ≡ v.device) × (w.fault ≡ v.fault)
    same = (ap (λ (o : VolumeState _). o.device) made, ap (λ (o : VolumeState _). o.fault) made)

    taken : SeesNoneFree (seen (disk.image v.device) v.buffers) m
    taken = sees_none (seen (disk.image v.device) v.buffers) m none

    by_last : (t : Bool) → is_last_block m ≡ t → r ≡ cond t (Progress.Over None) Progress.Moved → n ≡ cond t m (at_next_block m) → SearchSteps disk (Some slot) v w pid m n r
    by_last true end answer next = subst (λ (a : Progress (Option ℕ)). SearchSteps disk (Some slot) v w pid m n a) (sym answer)
        (look_made disk v w pid slot m n (Progress.Over None) well same refl (λ cause no. cc no) (ap (λ (o : VolumeState _). o.buffers) made) gives (ap (λ (o : VolumeState _). o.log) made) current (next, end, none, taken) tt)
    by_last false on answer next = subst (λ (a : Progress (Option ℕ)). SearchSteps disk (Some slot) v w pid m n a) (sym answer)
        (look_made disk v w pid slot m n Progress.Moved well same refl (λ cause no. cc no) (ap (λ (o : VolumeState _). o.buffers) made) gives (ap (λ (o : VolumeState _). o.log) made) current (next, on, none, taken)
        (subst (λ (a : Progress (Option ℕ)). OnMore a (MayStep disk.image w pid n)) answer more))
