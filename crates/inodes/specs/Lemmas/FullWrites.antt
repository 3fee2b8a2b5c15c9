-- A write that saw no block left goes to its end, and leaves none.
use Rattle.std.proofs.Common.{◌≡◌, ◌≢◌, ◌⊎◌, ◌∙◌, inl, inr, ℕ, List, [], Option, Some, None, sym, ap, subst, arith}
use Rattle.std.specs.Prelude.{slice_set}
use Rattle.inodes.specs.Common.{after_address, after_behind, AllocAt, Allocs, AllocState, behind_at, block_at, bytes_of, current_of, Dinode, Extent, get_or-set_other, Ghosts, Goes, has_bit, Image, inode_block, lowest_clear_found, lowest_in, MapAt, MapState, MapSteps, one_more, Op, stage_of_writing, Progress, progress_of_write, Reply, seen, Stage, Steps, StoreState, TakesLowest, TaskProgress, Updates, UpdateState, VolumeState, write_mapped, WriteAt, WritesOn, WriteState, WriteSteps, Wrote}
use Rattle.inodes.specs.Lemmas.Runs.{IsAt}
use Rattle.inodes.specs.Runs.{StepMade}
use Rattle.inodes.specs.WriteRuns.{IsFull, LooksAtBitmap, LooksIn, LooksOnWay, SeesFull}

-- the way comes to no block
abbrev EndsOnWay : MapAt → Type 0
EndsOnWay (MapAt.Address t) = ⊥
EndsOnWay (MapAt.Entry n slot) = ⊥
EndsOnWay (MapAt.Behind n i t) = ⊥
EndsOnWay (MapAt.Setting n i None) = Unit {0}
EndsOnWay (MapAt.Setting n i (Some b)) = ⊥

-- the writing comes to none, and writes inode i back
abbrev EndsAt : ℕ → WriteAt → Type 0
EndsAt i (WriteAt.Mapping way) = EndsOnWay way.at
EndsAt i (WriteAt.Block b slot) = ⊥
EndsAt i (WriteAt.Updating u) = u.number ≡ i

-- ---- a step of the writing

module _ {D N : Type 0} (disk : Ghosts D N) (p i : ℕ) (e : Extent) (v w : VolumeState D) where
  abbrev was : Image
  was = seen (disk.image v.device) v.buffers

  abbrev now : Image
  now = seen (disk.image w.device) w.buffers

  -- who looks at the bitmap takes none
  takes_none : (t u : AllocState) (q : Progress (Option ℕ)) → LooksIn e t → IsFull was e →
      Allocs disk t.at v p t q u w → (q ≡ Progress.Over None) × (now ≡ was)
  takes_none t u q looks full allocs =
      let step : TakesLowest disk (lowest_in was t) v p looks.slot t q u w =
      subst (λ (a : AllocAt). Allocs disk a v p t q u w) looks.got allocs in
      let none : lowest_in was t ≡ None = lowest_clear_found (block_at was t.bitmap) t.size None
      (λ b below. let same = looks.takes.size in
      ap (λ (c : ℕ). has_bit (block_at was c) b) looks.takes.bitmap
      ∙ full b (omega (arith, below, same))) in
      let done = subst (λ (o : Option ℕ). TakesLowest disk o v p looks.slot t q u w) none step in
      (done.0, done.2.current)

  -- and comes to none
  record ComesToNone (q : Progress (Option ℕ)) (n : MapState) : Type 0 where
    pub same : now ≡ was
    pub ends : (q ≡ Progress.Over None) ⊎ ((q ≡ Progress.Moved) × EndsOnWay n.at)

  on_way : (m n : MapState) (d f : Dinode) (q : Progress (Option ℕ)) (a : MapAt) →
      LooksOnWay e a → IsFull was e → MapSteps disk a v p m d q n f w → ComesToNone q n
  on_way m n d f q (MapAt.Address t) looks full step =
      let none = takes_none t step.now step.answer looks full step.allocs in
      record { same = none.1; ends = inl (step.gives ∙ ap (after_address m.branch) none.0) }
  on_way m n d f q (MapAt.Entry k slot) looks full step = absurd looks
  on_way m n d f q (MapAt.Behind k j t) looks full step =
      let none = takes_none t step.now step.answer looks full step.allocs in
      record {
        same = none.1;
        ends = inr (
          step.gives ∙ ap after_behind none.0,
          subst EndsOnWay (sym (ap (λ (x : MapState). x.at) step.next
              ∙ ap (λ (y : Progress (Option ℕ)). behind_at k j y step.now) none.0)) tt,
        );
      }
  on_way m n d f q (MapAt.Setting k j found) looks full step = absurd looks

  -- the entry of a block that wasn't found isn't set
  sets_none : (m n : MapState) (d f : Dinode) (q : Progress (Option ℕ)) (a : MapAt) →
      EndsOnWay a → MapSteps disk a v p m d q n f w → (q ≡ Progress.Over None) × (now ≡ was)
  sets_none m n d f q (MapAt.Address t) ends step = absurd ends
  sets_none m n d f q (MapAt.Entry k slot) ends step = absurd ends
  sets_none m n d f q (MapAt.Behind k j t) ends step = absurd ends
  sets_none m n d f q (MapAt.Setting k j None) ends step = (step.0.0, step.0.2.current)
  sets_none m n d f q (MapAt.Setting k j (Some b)) ends step = absurd ends

  -- the writing goes to its end
  record GoesToEnd (n : WriteState) : Type 0 where
    pub number : n.number ≡ i
    pub at : EndsAt i n.at
    pub full : IsFull now e

  module _ (m n : WriteState) (bytes : List ℕ) (r : Progress (Unit {0})) (number : m.number ≡ i) where
    -- behind a way that came to none
    mapped_none : (way : MapState) (d : Dinode) → IsFull was e → now ≡ was →
        n ≡ write_mapped m way d (Progress.Over None) → GoesToEnd n
    mapped_none way d full same next = subst GoesToEnd (sym next)
        (record {
          number = number;
          at = number;
          full = subst (λ (x : Image). IsFull x e) (sym same) full;
        })

    -- a step that looks at such a bitmap
    looks_last : (a : WriteAt) → LooksAtBitmap e a → IsFull was e →
        WriteSteps disk a v p m bytes r n w → (r ≡ Progress.Moved) × GoesToEnd n
    looks_last (WriteAt.Mapping way) looks full step = by_end come.ends
      where
        come : ComesToNone step.answer step.now
        come = on_way way step.now m.inode step.inode step.answer way.at looks full step.steps

        by_end : (step.answer ≡ Progress.Over None)
            ⊎ ((step.answer ≡ Progress.Moved) × EndsOnWay step.now.at) →
            (r ≡ Progress.Moved) × GoesToEnd n
        by_end (inl is) = (
          step.gives ∙ ap one_more is,
          mapped_none step.now step.inode full come.same
              (step.next ∙ ap (write_mapped m step.now step.inode) is),
        )
        by_end (inr is) = (
          step.gives ∙ ap one_more is.0,
          subst GoesToEnd (sym (step.next ∙ ap (write_mapped m step.now step.inode) is.0))
              (record {
                number = number;
                at = is.1;
                full = subst (λ (x : Image). IsFull x e) (sym come.same) full;
              }),
        )
    looks_last (WriteAt.Block b slot) looks full step = absurd looks
    looks_last (WriteAt.Updating u) looks full step = absurd looks

    -- and one behind it
    ends_next : inode_block i ≢ e.bitmap → IsFull was e → (a : WriteAt) → EndsAt i a →
        WriteSteps disk a v p m bytes r n w → GoesToEnd n
    ends_next apart full (WriteAt.Mapping way) ends step =
        let none = sets_none way step.now m.inode step.inode step.answer way.at ends step.steps in
        mapped_none step.now step.inode full none.1
        (step.next ∙ ap (write_mapped m step.now step.inode) none.0)
    ends_next apart full (WriteAt.Block b slot) ends step = absurd ends
    ends_next apart full (WriteAt.Updating u) ends step =
        let to = by_slot step.0 u.slot step.1 in
        subst GoesToEnd (sym step.2) (record { number = number; at = to.0 ∙ ends; full = to.1 })
      where
        by_slot : (u2 : UpdateState) (o : Option ℕ) → Updates disk o v p u m.inode r u2 w →
            (u2.number ≡ u.number) × IsFull now e
        by_slot u2 None to = (
          ap (λ (x : UpdateState). x.number) to.0,
          subst (λ (x : Image). IsFull x e) (sym to.1.reads.current) full,
        )
        by_slot u2 (Some k) to =
            let is : now ≡ slice_set was (inode_block u.number) to.2.content =
            to.2.current ∙ to.2.image in (
              ap (λ (x : UpdateState). x.number) to.1,
              λ b below.
                  ap (λ (x : Image). has_bit (block_at x e.bitmap) b) is
                  ∙ ap (λ (bits : List ℕ). has_bit bits b)
                  (get_or-set_other was (inode_block u.number) e.bitmap to.2.content []
                  (λ same. apart (ap inode_block (sym ends) ∙ sym same)))
                  ∙ full b below,
            )

    -- a writing keeps its number
    number_stays : (a : WriteAt) → WriteSteps disk a v p m bytes r n w → n.number ≡ i
    number_stays (WriteAt.Mapping way) step = by_answer step.answer step.next
      where
        by_answer : (q : Progress (Option ℕ)) → n ≡ write_mapped m step.now step.inode q →
            n.number ≡ i
        by_answer Progress.Moved is = ap (λ (x : WriteState). x.number) is ∙ number
        by_answer (Progress.Sleeping why) is = ap (λ (x : WriteState). x.number) is ∙ number
        by_answer (Progress.Over found) is = ap (λ (x : WriteState). x.number) is ∙ number
        by_answer (Progress.Fault fault) is = ap (λ (x : WriteState). x.number) is ∙ number
    number_stays (WriteAt.Block b None) step = ap (λ (x : WriteState). x.number) step.2 ∙ number
    number_stays (WriteAt.Block b (Some k)) step =
        ap (λ (x : WriteState). x.number) step.1 ∙ number
    number_stays (WriteAt.Updating u) step = ap (λ (x : WriteState). x.number) step.2 ∙ number

-- ---- a step of its task

-- process p's writing of inode i goes to its end, and no block is left
pub record WritesToEnd {D : Type 0} (image : D → Image) (p i : ℕ) (e : Extent) (s : StoreState D)
    : Type 0 where
  pub entry : ℕ
  pub writing : WriteState
  pub stands : IsAt p s (Stage.Writing entry writing)
  pub number : writing.number ≡ i
  pub at : EndsAt i writing.at
  pub full : IsFull (current_of image s.volume) e

-- a step of it decides a reply, with only the inode to be given up then, or it goes on
pub record EndsSo {D : Type 0} (image : D → Image) (p i : ℕ) (e : Extent) (step : StepMade D)
    : Type 0 where
  pub full : IsFull (current_of image step.after.volume) e
  pub on : ((reply : Reply) → step.answer ≢ TaskProgress.Decided reply) →
      WritesToEnd image p i e step.after
  pub up : (reply : Reply) → step.answer ≡ TaskProgress.Decided reply →
      (k : ℕ) × IsAt p step.after (Stage.Leaving k)

module _ {D N : Type 0} (disk : Ghosts D N) (p i : ℕ) (e : Extent) (op : Op) (step : StepMade D) where
  abbrev GoesBy : ℕ → WriteState → Type 0
  GoesBy k m = WritesOn disk step.before p k op m step.answer step.after

  goes : (k : ℕ) (m : WriteState) → IsAt p step.before (Stage.Writing k m) →
      Steps disk step.before p op step.answer step.after → GoesBy k m
  goes k m stands steps =
      subst (λ (a : Stage). Goes disk a step.before p op step.answer step.after) stands steps.goes

  -- it stands at a writing then
  still_writes : (k : ℕ) (o : WriteState) → IsAt p step.after (Stage.Writing k o) → o.number ≡ i → EndsAt i o.at →
      IsFull (current_of disk.image step.after.volume) e → ((reply : Reply) → step.answer ≢ TaskProgress.Decided reply) → EndsSo disk.image p i e step
  still_writes k o to number at full none = record {
    full = full;
    on = λ gone. record { entry = k; writing = o; stands = to; number = number; at = at; full = full };
    up = λ reply is. absurd (none reply is);
  }

  to_end : (k : ℕ) (m o : WriteState) (q : Progress (Unit {0})) → m.number ≡ i →
      (q ≢ Progress.Moved → EndsAt i m.at) → step.answer ≡ progress_of_write m.done q →
      IsAt p step.after (stage_of_writing k m o q) →
      GoesToEnd disk p i e step.before.volume step.after.volume o → EndsSo disk.image p i e step
  to_end k m o Progress.Moved number still gives to end = still_writes k o to end.number end.at end.full (λ reply is. let no = sym gives ∙ is in cc no)
  to_end k m o (Progress.Sleeping why) number still gives to end = still_writes k m to number (still (λ is. cc is)) end.full (λ reply is. let no = sym gives ∙ is in cc no)
  to_end k m o (Progress.Over out) number still gives to end = record { full = end.full; on = λ none. absurd (none (Wrote m.done) gives); up = λ reply is. (k, to) }
  to_end k m o (Progress.Fault fault) number still gives to end = still_writes k m to number (still (λ is. cc is)) end.full (λ reply is. let no = sym gives ∙ is in cc no)

  -- a step of a writing that goes to its end
  pub full_ends : inode_block i ≢ e.bitmap → WritesToEnd disk.image p i e step.before →
      Steps disk step.before p op step.answer step.after → EndsSo disk.image p i e step
  full_ends apart from steps =
      let on = goes from.entry from.writing from.stands steps in
      to_end from.entry from.writing on.now on.answer from.number (λ no. from.at) on.gives on.next
      (ends_next disk p i e step.before.volume step.after.volume from.writing on.now (bytes_of op)
      on.answer from.number apart from.full from.writing.at from.at on.writes)

  -- one that saw no block left
  pub full_seen : (k : ℕ) (m : WriteState) → IsAt p step.before (Stage.Writing k m) →
      m.number ≡ i → SeesFull disk.image p e step →
      Steps disk step.before p op step.answer step.after → EndsSo disk.image p i e step
  full_seen k m stands number saw steps =
      let on = goes k m stands steps in
      let same : m ≡ saw.writing = cc (sym stands ∙ saw.stands) in
      let last = looks_last disk p i e step.before.volume step.after.volume m on.now (bytes_of op)
      on.answer number m.at
      (subst (λ (o : WriteState). LooksAtBitmap e o.at) (sym same) saw.looks) saw.full on.writes in
      to_end k m on.now on.answer number (λ no. absurd (no last.0)) on.gives on.next last.1

  -- any one keeps the number that is written
  pub writes_number : (k l : ℕ) (m o : WriteState) → IsAt p step.before (Stage.Writing k m) →
      m.number ≡ i → Steps disk step.before p op step.answer step.after →
      IsAt p step.after (Stage.Writing l o) → o.number ≡ i
  writes_number k l m o stands number steps to =
      by_answer on.answer (sym on.next ∙ to)
    where
      on : GoesBy k m
      on = goes k m stands steps

      now : on.now.number ≡ i
      now = number_stays disk p i e step.before.volume step.after.volume m on.now (bytes_of op)
          on.answer number m.at on.writes

      by_answer : (q : Progress (Unit {0})) →
          stage_of_writing k m on.now q ≡ Stage.Writing l o → o.number ≡ i
      by_answer Progress.Moved is =
          let same : on.now ≡ o = cc is in subst (λ (x : WriteState). x.number ≡ i) same now
      by_answer (Progress.Sleeping why) is =
          let same : m ≡ o = cc is in subst (λ (x : WriteState). x.number ≡ i) same number
      by_answer (Progress.Over out) is = absurd (cc is)
      by_answer (Progress.Fault fault) is =
          let same : m ≡ o = cc is in subst (λ (x : WriteState). x.number ≡ i) same number
