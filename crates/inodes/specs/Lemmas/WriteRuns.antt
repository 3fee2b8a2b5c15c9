-- What a run of a write's steps saw that ends with fewer bytes than were asked for.
use Rattle.std.proofs.Common.{◌≡◌, ◌≢◌, ◌⊎◌, ◌<◌, ◌≤◌, ◌-◌, ◌+◌, ◌/◌, ℕ, Bool, true, false, cond, eqb, not, inl, inr, List, [], ◌∷◌, Option, Some, None, refl, sym, ◌∙◌, ap, subst, ⊎_elim, arith}
use Rattle.std.specs.Prelude.{◌&&◌, slice_index, ◌==◌}
use Rattle.std.specs.List.{Any}
use Rattle.inodes.specs.Common.{address_at, after_address, after_behind, AllocAt, Allocs, AllocState, behind_at, block_at, Branch, branch_of, come_to, ComesBelow, current_of, Dinode, eqb-true, Extent, FindsEntry, first_alloc, first_update, first_write, Get, Ghosts, has_bit, Image, IsLowestClear, lowest_clear_is_lowest, lowest_in, MapAt, mapped_for_writing, MappedForWriting, MapState, MapSteps, named_by, next_byte, next_place, Node, node_at, one_more, Op, piece, place_in, place_of_mapped, stage_of_writing, Progress, progress_of, progress_of_write, rest_under, some_address, Stage, StoreState, TakesIn, TakesLowest, TakesOne, TaskProgress, VolumeState, with_piece, write_mapped, WriteAt, WritesOn, WriteState, WriteSteps, Wrote}
use Rattle.wal.specs.Get as get
use Rattle.inodes.specs.Lemmas.Runs.{IsAt, goes_from, nothing_behind, seen_first, seen_later}
use Rattle.inodes.specs.Runs.{StepMade, IsRun, EndsWith}
use Rattle.inodes.specs.WriteRuns.{IsFull, LooksAtBitmap, LooksIn, LooksOnWay, SeesFull, ShortSawFull}

-- ---- a writing that goes on takes blocks in its extent, and has not come to the end of them

abbrev pub IsAtOnWay : Extent → MapAt → Type 0
IsAtOnWay e (MapAt.Address t) = TakesIn e t
IsAtOnWay e (MapAt.Entry n slot) = Unit {0}
IsAtOnWay e (MapAt.Behind n i t) = TakesIn e t
IsAtOnWay e (MapAt.Setting n i None) = ⊥
IsAtOnWay e (MapAt.Setting n i (Some b)) = Unit {0}

pub record IsOnWay (e : Extent) (way : MapState) : Type 0 where
  pub bitmap : way.bitmap ≡ e.bitmap
  pub size : way.size ≡ e.size
  pub at : IsAtOnWay e way.at

-- where the inode is written back, all bytes were written
abbrev pub IsGoingOnAt : Extent → ℕ → ℕ → WriteAt → Type 0
IsGoingOnAt e count done (WriteAt.Mapping way) = IsOnWay e way
IsGoingOnAt e count done (WriteAt.Block b slot) = Unit {0}
IsGoingOnAt e count done (WriteAt.Updating u) = count ≤ done

pub record IsGoingOn (e : Extent) (asked : ℕ) (m : WriteState) : Type 0 where
  pub extent : m.extent ≡ e
  pub count : m.count ≡ asked
  pub at : IsGoingOnAt e asked m.done m.at

-- ---- it begins so, and goes on so behind each piece

module _ (e : Extent) (d : Dinode) (k : ℕ) where
  abbrev take : AllocState
  take = first_alloc e.bitmap e.size

  abbrev b : Branch
  b = branch_of e.form k

  abbrev address : ℕ
  address = slice_index d.addrs b.index

  first_on_way : (none : Bool) → IsAtOnWay e
      (cond none (MapAt.Address take) (MapAt.Entry (node_at b.depth b.rest address) None))
  first_on_way true = record { bitmap = refl; size = refl }
  first_on_way false = tt

  mapped_next : (count done : ℕ) → IsGoingOnAt e count done
      (place_of_mapped (mapped_for_writing e.form d k e.bitmap e.size))
  mapped_next count done = by_place (not (address == 0) && (b.depth == 0))
    where
      by_place : (at_once : Bool) → IsGoingOnAt e count done (place_of_mapped
          (cond at_once (MappedForWriting.At address) (MappedForWriting.Behind (record {
            branch = b;
            bitmap = e.bitmap;
            size = e.size;
            at = cond (eqb address 0) (MapAt.Address take)
                (MapAt.Entry (node_at b.depth b.rest address) None);
          }))))
      by_place true = tt
      by_place false = record {
        bitmap = refl;
        size = refl;
        at = first_on_way (eqb address 0);
      }

pub comes_next : (e : Extent) (count done number next left : ℕ) (d : Dinode) →
    (left ≡ 0 → count ≤ done) → IsGoingOnAt e count done (next_place number d next left e)
comes_next e count done number next left d all = by_left (eqb left 0) refl
  where
    by_left : (b : Bool) → eqb left 0 ≡ b → IsGoingOnAt e count done
        (cond b (WriteAt.Updating (first_update number))
        (place_of_mapped (mapped_for_writing e.form d (next / 1024) e.bitmap e.size)))
    by_left true none = all (eqb-true left 0 none)
    by_left false some = mapped_next e d (next / 1024) count done

-- ---- its steps

-- who gets a block is not over with that
never_over : {T : Type 0} (a : Get) (out : T) → progress_of a ≡ Progress.Over out → ⊥
never_over (get.Got i) out over = cc over
never_over (get.Sleeping cause) out over = cc over
never_over (get.Fault fault) out over = cc over

mapped_over : (q : Progress (Option ℕ)) (out : Unit {0}) → one_more q ≡ Progress.Over out → ⊥
mapped_over Progress.Moved out over = cc over
mapped_over (Progress.Sleeping why) out over = cc over
mapped_over (Progress.Over found) out over = cc over
mapped_over (Progress.Fault fault) out over = cc over

module _ {D N : Type 0} (disk : Ghosts D N) (v : VolumeState D) (p : ℕ) (e : Extent)
    (w : VolumeState D) where
  abbrev cur : Image
  cur = current_of disk.image v

  -- the taking of a block goes on, or has come to a block
  record TakesOn (r : Progress (Option ℕ)) (n : AllocState) : Type 0 where
    pub takes : TakesIn e n
    pub some : r ≢ Progress.Over None

  takes_on : (r : Progress (Option ℕ)) (t n : AllocState) (a : AllocAt) → TakesIn e t →
      n ≡ record t { at = a } → r ≢ Progress.Over None → TakesOn r n
  takes_on r t n a takes is some = record {
    takes = subst (TakesIn e) (sym is) (record { bitmap = takes.bitmap; size = takes.size });
    some = some;
  }

  -- so it does, but where it looks at a bitmap without a clear bit
  allocs_on : (t n : AllocState) (r : Progress (Option ℕ)) (a : AllocAt) → t.at ≡ a →
      TakesIn e t → Allocs disk a v p t r n w → (LooksIn e t × IsFull cur e) ⊎ TakesOn r n
  allocs_on t n r (AllocAt.Looking None) at takes allocs =
      inr (takes_on r t n (AllocAt.Looking allocs.0) takes allocs.1
      (λ over. never_over allocs.2.answer None (sym allocs.2.gives ∙ over)))
  allocs_on t n r (AllocAt.Looking (Some i)) at takes allocs =
      by_lowest (lowest_in cur t) refl allocs
    where
      by_lowest : (o : Option ℕ) → lowest_in cur t ≡ o → TakesLowest disk o v p i t r n w →
          (LooksIn e t × IsFull cur e) ⊎ TakesOn r n
      by_lowest None lowest step =
          let none : IsLowestClear (block_at cur t.bitmap) t.size None =
          subst (IsLowestClear (block_at cur t.bitmap) t.size) lowest
          (lowest_clear_is_lowest (block_at cur t.bitmap) t.size) in
          inl (
            record { slot = i; got = at; takes = takes },
            λ b below.
                ap (λ (c : ℕ). has_bit (block_at cur c) b) (sym takes.bitmap)
                ∙ none b (omega (arith, below, takes.size)),
          )
      by_lowest (Some b) lowest step =
          inr (takes_on r t n (AllocAt.Zeroing b None) takes step.1
          (λ over. cc (sym step.0 ∙ over)))
  allocs_on t n r (AllocAt.Zeroing b None) at takes allocs =
      inr (takes_on r t n (AllocAt.Zeroing b allocs.0) takes allocs.1
      (λ over. never_over allocs.2.answer None (sym allocs.2.gives ∙ over)))
  allocs_on t n r (AllocAt.Zeroing b (Some i)) at takes allocs =
      inr (record {
        takes = subst (TakesIn e) (sym allocs.1) takes;
        some = λ over. cc (sym allocs.0 ∙ over);
      })

  -- the way goes on, or has come to a block
  record MapsTo (r : Progress (Option ℕ)) (n : MapState) : Type 0 where
    pub way : IsOnWay e n
    pub some : r ≢ Progress.Over None

  -- so it does behind the taking of a block
  takes_one : (m n : MapState) (t : AllocState)
      (after : Progress (Option ℕ) → Progress (Option ℕ))
      (there : Progress (Option ℕ) → AllocState → MapAt) (inode : Progress (Option ℕ) → Dinode)
      (r : Progress (Option ℕ)) (f : Dinode) → IsOnWay e m → TakesIn e t →
      ((q : Progress (Option ℕ)) (u : AllocState) → TakesOn q u →
      IsAtOnWay e (there q u) × (after q ≢ Progress.Over None)) →
      TakesOne disk v p m t after there inode r n f w →
      (LooksIn e t × IsFull cur e) ⊎ MapsTo r n
  takes_one m n t after there inode r f on takes then step =
      ⊎_elim
      (λ (sees : LooksIn e t × IsFull cur e). inl sees)
      (λ (still : TakesOn step.answer step.now).
      let next = then step.answer step.now still in
      inr (record {
        way = subst (IsOnWay e) (sym step.next)
            (record { bitmap = on.bitmap; size = on.size; at = next.0 });
        some = λ over. next.1 (sym step.gives ∙ over);
      }))
      (allocs_on t step.now step.answer t.at refl takes step.allocs)

  -- a block that was come to is one
  some_come : (depth a : ℕ) → come_to depth a ≢ Progress.Over None
  some_come depth a = by_depth (eqb depth 0)
    where
      by_depth : (ends : Bool) → cond ends (Progress.Over (Some a)) Progress.Moved ≢ Progress.Over None
      by_depth true over = cc over
      by_depth false over = cc over

  on_in : (at : MapAt) (depth rest a : ℕ) → IsAtOnWay e at → IsAtOnWay e (place_in at depth rest a)
  on_in at depth rest a on = by_depth (eqb depth 0)
    where
      by_depth : (ends : Bool) →
          IsAtOnWay e (cond ends at (MapAt.Entry (node_at depth rest a) None))
      by_depth true = on
      by_depth false = tt

  then_address : (b : Branch) (q : Progress (Option ℕ)) (u : AllocState) → TakesOn q u →
      IsAtOnWay e (address_at b q u) × (after_address b q ≢ Progress.Over None)
  then_address b Progress.Moved u still = (still.takes, λ over. cc over)
  then_address b (Progress.Sleeping why) u still = (still.takes, λ over. cc over)
  then_address b (Progress.Over None) u still = absurd (still.some refl)
  then_address b (Progress.Over (Some a)) u still =
      (on_in (MapAt.Address u) b.depth b.rest a still.takes, some_come b.depth a)
  then_address b (Progress.Fault fault) u still = (still.takes, λ over. cc over)

  then_behind : (k : Node) (i : ℕ) (q : Progress (Option ℕ)) (u : AllocState) → TakesOn q u →
      IsAtOnWay e (behind_at k i q u) × (after_behind q ≢ Progress.Over None)
  then_behind k i Progress.Moved u still = (still.takes, λ over. cc over)
  then_behind k i (Progress.Sleeping why) u still = (still.takes, λ over. cc over)
  then_behind k i (Progress.Over None) u still = absurd (still.some refl)
  then_behind k i (Progress.Over (Some b)) u still = (tt, λ over. cc over)
  then_behind k i (Progress.Fault fault) u still = (still.takes, λ over. cc over)

  -- so is one below an entry
  comes_below : (m n : MapState) (k : Node) (b : ℕ) (r : Progress (Option ℕ)) → IsOnWay e m →
      ComesBelow m k b r n → MapsTo r n
  comes_below m n k b r on comes = record {
    way = subst (IsOnWay e) (sym comes.1) (record {
      bitmap = on.bitmap;
      size = on.size;
      at = on_in m.at k.level (rest_under k) b on.at;
    });
    some = λ over. some_come k.level b (sym comes.0 ∙ over);
  }

  -- the way goes on, but where it looks at such a bitmap
  maps_on : (m n : MapState) (d f : Dinode) (r : Progress (Option ℕ)) (a : MapAt) → m.at ≡ a →
      IsOnWay e m → MapSteps disk a v p m d r n f w → (LooksOnWay e a × IsFull cur e) ⊎ MapsTo r n
  maps_on m n d f r (MapAt.Address t) at on step =
      takes_one m n t _ _ _ r f on (subst (IsAtOnWay e) at on.at) (then_address m.branch) step
  maps_on m n d f r (MapAt.Entry k None) at on step =
      inr (record {
        way = subst (IsOnWay e) (sym step.2)
            (record { bitmap = on.bitmap; size = on.size; at = tt });
        some = λ over. never_over step.1.answer None (sym step.1.gives ∙ over);
      })
  maps_on m n d f r (MapAt.Entry k (Some i)) at on step =
      by_entry (some_address (named_by cur k)) step.0
    where
      by_entry : (o : Option ℕ) → FindsEntry disk o v p k i m r n w →
          (LooksOnWay e (MapAt.Entry k (Some i)) × IsFull cur e) ⊎ MapsTo r n
      by_entry None finds =
          inr (record {
            way = subst (IsOnWay e) (sym finds.1) (record {
              bitmap = on.bitmap;
              size = on.size;
              at = record { bitmap = on.bitmap; size = on.size };
            });
            some = λ over. cc (sym finds.0 ∙ over);
          })
      by_entry (Some b) finds = inr (comes_below m n k b r on finds.0)
  maps_on m n d f r (MapAt.Behind k i t) at on step =
      takes_one m n t _ _ _ r f on (subst (IsAtOnWay e) at on.at) (then_behind k i) step
  maps_on m n d f r (MapAt.Setting k i None) at on step = absurd (subst (IsAtOnWay e) at on.at)
  maps_on m n d f r (MapAt.Setting k i (Some b)) at on step =
      inr (comes_below m n k b r on step.0.0)

  module _ (count : ℕ) where
    -- the writing goes on, or is over with all bytes
    pub record GoesOnWriting (m : WriteState) (r : Progress (Unit {0})) (n : WriteState) : Type 0 where
      pub on : IsGoingOn e count n
      pub all : (out : Unit {0}) → r ≡ Progress.Over out → count ≤ m.done

    mapped_on : (m : WriteState) (way : MapState) (d : Dinode) (q : Progress (Option ℕ)) →
        IsGoingOn e count m → MapsTo q way → IsGoingOn e count (write_mapped m way d q)
    mapped_on m way d Progress.Moved on to =
        record { extent = on.extent; count = on.count; at = to.way }
    mapped_on m way d (Progress.Sleeping why) on to =
        record { extent = on.extent; count = on.count; at = on.at }
    mapped_on m way d (Progress.Over None) on to = absurd (to.some refl)
    mapped_on m way d (Progress.Over (Some b)) on to =
        record { extent = on.extent; count = on.count; at = tt }
    mapped_on m way d (Progress.Fault fault) on to =
        record { extent = on.extent; count = on.count; at = on.at }

    -- behind a piece
    piece_on : (m : WriteState) → IsGoingOn e count m → IsGoingOn e count (with_piece m)
    piece_on m on =
        let many = on.count in
        record {
          extent = on.extent;
          count = on.count;
          at = subst
              (λ (x : Extent). IsGoingOnAt e count (m.done + piece m) (next_place m.number
              (with_piece m).inode (next_byte m + piece m) (m.count - (m.done + piece m)) x))
              (sym on.extent)
              (comes_next e count (m.done + piece m) m.number (next_byte m + piece m)
              (m.count - (m.done + piece m)) (with_piece m).inode
              (λ none. omega (arith, none, many)));
        }

    -- A STEP goes on so, but where it looks at such a bitmap
    writes_on : (m n : WriteState) (bytes : List ℕ) (r : Progress (Unit {0})) (a : WriteAt) →
        m.at ≡ a → IsGoingOn e count m → WriteSteps disk a v p m bytes r n w →
        (LooksAtBitmap e a × IsFull cur e) ⊎ GoesOnWriting m r n
    writes_on m n bytes r (WriteAt.Mapping way) at on step =
        ⊎_elim
        (λ (sees : LooksOnWay e way.at × IsFull cur e). inl sees)
        (λ (to : MapsTo step.answer step.now).
        inr (record {
          on = subst (IsGoingOn e count) (sym step.next)
              (mapped_on m step.now step.inode step.answer on to);
          all = λ out over. absurd (mapped_over step.answer out (sym step.gives ∙ over));
        }))
        (maps_on way step.now m.inode step.inode step.answer way.at refl (subst (IsGoingOnAt e count m.done) at on.at) step.steps)
    writes_on m n bytes r (WriteAt.Block b None) at on step =
        inr (record {
          on = subst (IsGoingOn e count) (sym step.2)
              (record { extent = on.extent; count = on.count; at = tt });
          all = λ out over. absurd (never_over step.1.answer out (sym step.1.gives ∙ over));
        })
    writes_on m n bytes r (WriteAt.Block b (Some i)) at on step =
        inr (record {
          on = subst (IsGoingOn e count) (sym step.1) (piece_on m on);
          all = λ out over. absurd (cc (sym step.0 ∙ over));
        })
    writes_on m n bytes r (WriteAt.Updating u) at on step =
        let all : count ≤ m.done = subst (IsGoingOnAt e count m.done) at on.at in
        inr (record {
          on = subst (IsGoingOn e count) (sym step.2)
              (record { extent = on.extent; count = on.count; at = all });
          all = λ out over. all;
        })

-- ---- its run

module _ {D N : Type 0} (disk : Ghosts D N) (p k count done : ℕ) (e : Extent) (op : Op)
    (short : done < count) where
  abbrev reply : TaskProgress
  reply = TaskProgress.Decided (Wrote done)

  abbrev Sees : StepMade D → Type 0
  Sees = SeesFull disk.image p e

  -- a step sees that no block is left, or the writing goes on
  pub sees_or_on : (step : StepMade D) (m : WriteState) → IsAt p step.before (Stage.Writing k m) →
      IsGoingOn e count m →
      (goes : WritesOn disk step.before p k op m step.answer step.after) →
      Sees step ⊎ GoesOnWriting disk step.before.volume p e step.after.volume count m goes.answer
      goes.now
  sees_or_on step m stands on goes =
      ⊎_elim
      (λ (is : LooksAtBitmap e m.at × IsFull (current_of disk.image step.before.volume) e).
      inl (record { writing = m; entry = k; stands = stands; looks = is.0; full = is.1 }))
      (λ still. inr still)
      (writes_on disk step.before.volume p e step.after.volume count m goes.now _ goes.answer m.at
      refl on goes.writes)

  -- a writing that goes on so does not answer with too few bytes
  pub not_over : (m : WriteState) (q : Progress (Unit {0})) →
      ((out : Unit {0}) → q ≡ Progress.Over out → count ≤ m.done) →
      progress_of_write m.done q ≡ reply → ⊥
  not_over m Progress.Moved all is = cc is
  not_over m (Progress.Sleeping why) all is = cc is
  not_over m (Progress.Over out) all is =
      let same : m.done ≡ done = cc is in
      let most = all out refl in
      omega (arith, same, most, short)
  not_over m (Progress.Fault fault) all is = cc is

  -- a step before it, where the rest of the run sees so from each place of the writing
  module _ (step : StepMade D) (rest : List (StepMade D)) (m n : WriteState)
      (more : IsAt p step.after (Stage.Leaving k) → ⊥)
      (rest_sees : (o : WriteState) → IsAt p step.after (Stage.Writing k o) →
      IsGoingOn e count o → Any Sees rest) (was : IsGoingOn e count m)
      (now : IsGoingOn e count n) where
    seen_on : (q : Progress (Unit {0})) → IsAt p step.after (stage_of_writing k m n q) →
        Any Sees (step ∷ rest)
    seen_on Progress.Moved at = seen_later Sees step rest (rest_sees n at now)
    seen_on (Progress.Sleeping why) at = seen_later Sees step rest (rest_sees m at was)
    seen_on (Progress.Over out) at = absurd (more at)
    seen_on (Progress.Fault fault) at = seen_later Sees step rest (rest_sees m at was)

  -- a run from where the writing goes on
  seen_in_run : (steps : List (StepMade D)) (s : StoreState D) (m : WriteState) →
      IsAt p s (Stage.Writing k m) → IsGoingOn e count m → IsRun disk p op s steps →
      EndsWith steps reply → Any Sees steps
  seen_in_run [] s m stands on run ends = absurd ends
  seen_in_run (step ∷ []) s m stands on run ends =
      let to = goes_from disk p op s step (Stage.Writing k m) stands run.0 run.1 in
      ⊎_elim
      (λ is. seen_first Sees step [] is)
      (λ still. absurd (not_over m to.goes.answer still.all (sym to.goes.gives ∙ ends)))
      (sees_or_on step m to.here on to.goes)
  seen_in_run (step ∷ next ∷ rest) s m stands on run ends =
      let to = goes_from disk p op s step (Stage.Writing k m) stands run.0 run.1 in
      ⊎_elim
      (λ is. seen_first Sees step (next ∷ rest) is)
      (λ still. seen_on step (next ∷ rest) m to.goes.now
      (λ up. nothing_behind disk p op reply (λ e. cc e) (next ∷ rest) step.after k up run.2 ends)
      (λ o at goes. seen_in_run (next ∷ rest) step.after o at goes run.2 ends)
      on still.on to.goes.answer to.goes.next)
      (sees_or_on step m to.here on to.goes)

pub short_saw_full : {D N : Type 0} (disk : Ghosts D N) → ShortSawFull disk
short_saw_full disk s p k i off count done d e op steps run short =
    seen_in_run disk p k count done e op short steps s (first_write i d off count e) run.begins
    (record {
      extent = refl;
      count = refl;
      at = comes_next e count 0 i off count d (λ none. omega (arith, none));
    })
    run.runs run.ends
