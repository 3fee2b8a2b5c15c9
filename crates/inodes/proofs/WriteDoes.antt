-- What a step does at a block of the file, or at the inode.
use Rattle.std.proofs.Common.{◌%◌, ◌≡◌, ◌≢◌, ℕ, ◌+◌, ◌-◌, ◌/◌, ◌≤◌, List, set, length, refl, sym, ◌∙◌, ap, subst, ⊎_elim, arith, Option, Some, None, []}
use Rattle.inodes.specs.Common.{block_at, block_of_write, blocks_behind, blocks_left, branch_of, cases_eq, Claims, data_keeps, Files, FitsHeld, FitsThen, Form, get_or-set_other, GetsFor, Ghosts, greatest_size, grows, growth_of, HasComeTo, Image, inode_block, IsClaimedNow, kept_by_write, LiesInData, next_block, next_byte, next_place, node_of_write, noted, overwritten, piece, piece_of, Progress, Stage, StoreState, taken_by, TaskState, UpdateState, used_by_write, uses_left, VolumeState, with_piece, with_written, within_limit, WriteAt, WritesNext, WriteState}
use Rattle.inodes.specs.Writei.{GetsNext}
use Rattle.inodes.proofs.Standing.{StandsAt}
use Rattle.inodes.proofs.TruncSlots.{Slots, slots_as, slots_none, slots_put, slots_used}
use Rattle.inodes.specs.Lemmas.Bounds.{next_low, writes_enough, writes_grow, writes_more}
use Rattle.inodes.proofs.WriteComes.{comes_next, ended_next, fresh_next, IsFresh}
use Rattle.inodes.proofs.WriteFiles.{WritesPiece, piece_written}
use Rattle.inodes.proofs.WriteLogged.{KeepsWays, beside_grow, counts_on, ways_keep}
use Rattle.inodes.proofs.WriteMoves.{DoesSo, GoesOn, does_get, does_put}
use Rattle.inodes.proofs.Writing as of
use Rattle.inodes.proofs.WriteAny as on

-- in a store whose process p writes a file's bytes
module _ {D N : Type 0} {disk : Ghosts D N} {s : StoreState D} {p k : ℕ} {m : WriteState} (h : StandsAt disk s p (Stage.Writing k m)) where
  module _ (n : WriteState) (w : VolumeState D) (ts : List TaskState) where
    -- ---- a block of the file

    module _ (q : Progress (Unit {0})) (b : ℕ) where
      -- it is got
      pub does_block : m.at ≡ WriteAt.Block b None → GetsNext disk s.volume p m b q n w → DoesSo h n w ts q
      does_block at gets = does_get h n w ts q b gets.0 gets.1 (ap block_of_write at) (ap used_by_write at) (λ j kept. absurd (let e : None ≡ Some j = sym (ap kept_by_write at) ∙ kept in cc e))
          (λ i at_slot moved locks. subst (λ (o : WriteState). GoesOn h o w ts (of.cur h)) (sym (gets.2 ∙ ap (λ (o : Option ℕ). record m { at = WriteAt.Block b o }) at_slot))
          (on.goes_still h n w ts (WriteAt.Block b None) (WriteAt.Block b (Some i)) at refl gets.1.reads.log (slots_used s.volume.buffers w.buffers p 0 b b i None (on.slots_of h (WriteAt.Block b None) at) locks)
          (omega arith) (on.come_at h (WriteAt.Block b None) at) (omega arith)))

      -- and the next bytes are written into it
      module _ (i : ℕ) (at : m.at ≡ WriteAt.Block b (Some i)) where
        abbrev later : WriteState
        later = with_piece m

        come : HasComeTo (of.cur h) m (WriteAt.Block b (Some i))
        come = on.come_at h (WriteAt.Block b (Some i)) at

        writes_piece : WritesPiece (of.cur h) m (of.bytes h) b
        writes_piece = record {
          left = come.0;
          all = of.enough h;
          fits = subst (λ (f : Form). m.offset + m.count ≤ greatest_size f) (of.form h) (of.work h).fits;
          block = come.1;
          there = come.2;
        }

        fresh : IsFresh later (branch_of m.extent.form ((next_byte m + piece m) / 1024)) later.at
        fresh = fresh_next later m.number later.inode (next_byte m + piece m) (m.count - (m.done + piece m)) m.extent

        -- where bytes are left, the next block is a whole one behind this
        fewer : m.count - (m.done + piece m) ≢ 0 → blocks_behind later + 1 ≤ blocks_behind m
        fewer some = omega (arith, some)

        piece_event : (files : Files) → FitsHeld files (of.cur h) (of.claims h) → (new : Claims) → IsClaimedNow (of.claims h) m.number (Some (grows (growth_of later (of.op h)))) new
            → FitsThen files (of.cur h) (of.claims h) m.number (with_written (of.cur h) m (of.bytes h) b) new
        piece_event files fits new claimed = piece_written files (of.cur h) (of.claims h) new m.number b m (of.op h) writes_piece (ap taken_by at) fresh.taken (of.held_in h files fits) claimed

        here : LiesInData (of.cur h) b
        here = subst (LiesInData (of.cur h)) come.1 (of.reached_marked h (next_block m) (λ none. come.2 (sym come.1 ∙ none))).0

        abbrev content : List ℕ
        content = overwritten (block_at (of.cur h) b) (next_byte m % 1024) (piece_of m (of.bytes h))

        abbrev then_image : Image
        then_image = set (of.cur h) b content

        -- no block of addresses is written
        ways_then : KeepsWays (of.cur h) then_image m later.inode
        ways_then = ways_keep (of.cur h) then_image m later.inode refl
            (λ j way a led some short. get_or-set_other (of.cur h) b a content [] (λ same. of.data_apart_from h j a way short led some (come.1 ∙ sym same)))

        left_now : blocks_left later later.at ≤ blocks_behind m
        left_now = ⊎_elim
            (λ (none : m.count - (m.done + piece m) ≡ 0). let zero = (ended_next later m.number later.inode (next_byte m + piece m) (m.count - (m.done + piece m)) m.extent none).0 in omega (arith, zero))
            (λ (some : m.count - (m.done + piece m) ≢ 0). let few_now = fresh.blocks in let fewer_now = fewer some in omega (arith, few_now, fewer_now))
            (cases_eq (m.count - (m.done + piece m)) 0)

        pub does_piece : WritesNext disk s.volume p m b i (of.bytes h) q n w → DoesSo h n w ts q
        does_piece writes =
            let files = (of.looking h).files in
            let most : m.done + piece m ≤ m.count = (let left = come.0 in omega (arith, left)) in
            let same_next : next_byte later ≡ next_byte m + piece m = omega arith in
            subst (DoesSo h n w ts) (sym writes.0) (subst (λ (o : WriteState). DoesSo h o w ts Progress.Moved) (sym writes.1)
            (does_put h later w ts i b content writes.2 (on.behind_map h b here)
            (data_keeps files.0 (of.cur h) (of.claims h) b content files.1 here)
            (record {
              same = refl;
              slots_now = slots_as w.buffers p (node_of_write later.at) (block_of_write later.at) (node_of_write later.at) (block_of_write later.at) (kept_by_write later.at) (used_by_write later.at) None None refl fresh.kept refl fresh.used
                  (slots_none w.buffers p 0 0 (node_of_write later.at) (block_of_write later.at)
                  (slots_put s.volume.buffers w.buffers p 0 b i 0 None (on.slots_of h (WriteAt.Block b (Some i)) at) (λ j none. absurd (cc none)) writes.2.locks));
              logged = on.log_one h (WriteAt.Block b (Some i)) at b come.2 then_image later 0 0
                  (let more = beside_grow (of.cur h) then_image s.volume.log (noted s.volume.log p b) (counts_on s.volume.log p b) m later.inode ways_then in omega (arith, more))
                  (let fewer_left = left_now in omega (arith, fewer_left)) w.log writes.2.log;
              done = most;
              come = subst (λ (j : ℕ). HasComeTo then_image later (next_place m.number later.inode j (m.count - (m.done + piece m)) m.extent)) same_next
                  (comes_next then_image later (on.form_set h b content here) (of.long h) most (λ left. next_low later left (of.work h).fits));
              less =
                  let was = on.left_of h (WriteAt.Block b (Some i)) at in
                  ⊎_elim
                  (λ (none : m.count - (m.done + piece m) ≡ 0). let two = (ended_next later m.number later.inode (next_byte m + piece m) (m.count - (m.done + piece m)) m.extent none).1 in omega (arith, was, two))
                  (λ (some : m.count - (m.done + piece m) ≢ 0).
                  let enough = writes_enough m.extent.form ((next_byte m + piece m) / 1024) (within_limit m.extent.form (next_byte m + piece m) (let fits = (of.work h).fits in omega (arith, most, some, fits))) in
                  let fewer_now = writes_grow m.extent.form (blocks_behind later + 1) (blocks_behind m) (fewer some) in
                  omega (arith, was, fresh.steps, enough, (writes_more m.extent.form (blocks_behind later)), fewer_now))
                  (cases_eq (m.count - (m.done + piece m)) 0);
              passes = λ new claimed files fits. (piece_event files fits new claimed).fits;
            })
            piece_event))

    -- ---- the inode

    module _ (q : Progress (Unit {0})) (u v : UpdateState) (next : n ≡ record m { at = WriteAt.Updating v }) where
      -- its block is got
      pub does_inode : m.at ≡ WriteAt.Updating u → HasComeTo (of.cur h) m (WriteAt.Updating u) → u.slot ≡ None → v ≡ record u { slot = v.slot } → GetsFor disk s.volume p (inode_block u.number) q v.slot w → DoesSo h n w ts q
      does_inode at come none v_is gets = does_get h n w ts q (inode_block u.number) v.slot gets (ap block_of_write at) (ap used_by_write at ∙ none)
          (λ j kept. absurd (let e : None ≡ Some j = sym (ap kept_by_write at) ∙ kept in cc e))
          (λ i at_slot moved locks.
          subst (λ (o : WriteState). GoesOn h o w ts (of.cur h)) (sym (next ∙ ap (λ (o : UpdateState). record m { at = WriteAt.Updating o }) (v_is ∙ ap (λ (o : Option ℕ). record u { slot = o }) at_slot)))
          (on.goes_still h n w ts (WriteAt.Updating u) (WriteAt.Updating (record u { slot = Some i })) at refl gets.reads.log
          (slots_used s.volume.buffers w.buffers p 0 (inode_block u.number) (inode_block u.number) i None
          (subst (λ (o : Option ℕ). Slots s.volume.buffers p 0 None (inode_block u.number) o) none (on.slots_of h (WriteAt.Updating u) at)) locks)
          (omega arith) come (let two = ap uses_left none in omega (arith, two))))
