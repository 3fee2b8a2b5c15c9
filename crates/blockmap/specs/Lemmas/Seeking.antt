-- What a step that seeks a target's block makes of the target.
use Rattle.std.proofs.Common.{◌≡◌, ◌≢◌, ⊎_elim, ℕ, ◌+◌, ◌*◌, ◌<◌, eqb, length, refl, sym, ◌∙◌, ap, subst, arith, Option, Some, None}
use Rattle.std.specs.Prelude.{is_none, if◌then◌else◌}
use Rattle.blockmap.specs.Common.{Branch, branch_of, Dinode, eqb-false, form_of, Get, Gets, GetsFor, Ghosts, Image, LiesOnWay, named_by, Node, node_at, or_parts, Progress, progress_of, ReadsFor, rest_under, seen, slot_of, Target, VolumeState}
use Rattle.model.specs.declared.types.operations.Why.{Why}
use Rattle.wal.specs.Get as get
use Rattle.blockmap.specs.Getting.{Releases}
use Rattle.model.specs.Progress.{one_more}
use Rattle.blockmap.specs.Bmap.{EntryState, Ends, GoesBelow, IsNode, LooksUp, below, some_address, with_slot}
use Rattle.blockmap.specs.Map.{address_or_zero}
use Rattle.blockmap.specs.Reading.{MayRead}
use Rattle.blockmap.specs.Target.{HoldsTarget, LeadsTo, LeadsToBlock, LooksUpFor, Seeks, got_slot, steps_at, target_behind}
use Rattle.blockmap.specs.Lemmas.Addresses.{address_or_zero_of}
use Rattle.blockmap.specs.Lemmas.Branches.{lies_next}
use Rattle.blockmap.specs.Lemmas.Targets.{address_there_now, lies_ends, node_there}

-- A step of process p from target t to target u, on the way to block k of an inode's file: who
-- sleeps changed nothing, and who moved is nearer, over the same current image.
pub record SeeksOn {D N : Type 0} (disk : Ghosts D N) (v : VolumeState D) (p : ℕ) (d : Dinode) (k : ℕ) (t : Target) (r : Progress (Unit {0})) (u : Target) (w : VolumeState D) : Type 0 where
  pub unfinished : r ≢ Progress.Over tt
  pub asleep : (cause : Why) → r ≡ Progress.Sleeping cause → (w ≡ v) × (u ≡ t)
  pub current : r ≡ Progress.Moved → seen (disk.image w.device) w.buffers ≡ seen (disk.image v.device) v.buffers
  pub leads : r ≡ Progress.Moved → LeadsTo disk.image w p d k u
  pub nearer : r ≡ Progress.Moved → steps_at u < steps_at t

module _ {D N : Type 0} (disk : Ghosts D N) (v w : VolumeState D) (p k : ℕ) (d : Dinode) (r : Progress (Unit {0})) (u : Target) where
  abbrev x : Image
  x = seen (disk.image v.device) v.buffers

  -- the disk failed
  failed : (t : Target) (fault : _) → r ≡ Progress.Fault fault → SeeksOn disk v p d k t r u w
  failed t fault gives = record {
    unfinished = λ over. absurd (cc (sym gives ∙ over));
    asleep = λ cause waits. absurd (cc (sym gives ∙ waits));
    current = λ moved. absurd (cc (sym gives ∙ moved));
    leads = λ moved. absurd (cc (sym gives ∙ moved));
    nearer = λ moved. absurd (cc (sym gives ∙ moved));
  }

  slept : (t : Target) (why : Why) → r ≡ Progress.Sleeping why → w ≡ v → u ≡ t → SeeksOn disk v p d k t r u w
  slept t why gives same stays = record {
    unfinished = λ over. absurd (cc (sym gives ∙ over));
    asleep = λ cause waits. (same, stays);
    current = λ moved. absurd (cc (sym gives ∙ moved));
    leads = λ moved. absurd (cc (sym gives ∙ moved));
    nearer = λ moved. absurd (cc (sym gives ∙ moved));
  }

  -- it is at another target, which leads there in the same image
  moves : (t n : Target) → r ≡ Progress.Moved → u ≡ n → seen (disk.image w.device) w.buffers ≡ x → LeadsToBlock x d k n → HoldsTarget disk.image w p n → steps_at n < steps_at t →
      SeeksOn disk v p d k t r u w
  moves t n gives now current block holds nearer =
      let leads : LeadsTo disk.image w p d k n = record { block = subst (λ (y : Image). LeadsToBlock y d k n) (sym current) block; holds = holds } in
      record {
        unfinished = λ over. absurd (cc (sym gives ∙ over));
        asleep = λ cause waits. absurd (cc (sym gives ∙ waits));
        current = λ moved. current;
        leads = λ moved. subst (λ (o : Target). LeadsTo disk.image w p d k o) (sym now) leads;
        nearer = λ moved. subst (λ (o : Target). steps_at o < steps_at t) (sym now) nearer;
      }

  gets_block : (b : ℕ) (got : Option ℕ) → LeadsToBlock x d k (Target.Block b None) → u ≡ Target.Block b got → GetsFor disk v p b r got w → SeeksOn disk v p d k (Target.Block b None) r u w
  gets_block b got is to f = by_answer f.answer f.gives f.slot f.gets f.reads
    where
      by_answer : (q : Get) → r ≡ progress_of q → got ≡ slot_of q → Gets disk v p b q w → ReadsFor disk v q w → SeeksOn disk v p d k (Target.Block b None) r u w
      by_answer (get.Got i) gives slot gets reads =
          moves (Target.Block b None) (Target.Block b (Some i)) gives (to ∙ ap (λ (o : Option ℕ). Target.Block b o) slot) reads.current is gets.got (omega arith)
      by_answer (get.Sleeping why) gives slot gets reads = slept (Target.Block b None) why gives gets.sleeping (to ∙ ap (λ (o : Option ℕ). Target.Block b o) slot)
      by_answer (get.Fault fault) gives slot gets reads = failed (Target.Block b None) fault gives

  module _ (may : MayRead x d) (size : v.log.size ≡ length x) (low : k * 1024 < d.size) where
    abbrev at : Branch
    at = branch_of (form_of x) k

    -- a block of addresses on the way is one of the volume still
    node_still : (n : Node) → w.log.size ≡ v.log.size → LiesOnWay x d at n → IsNode w n
    node_still n same lies =
        let there = node_there disk.image v p k d may size low n lies in
        let far = there.within in
        record { behind = there.behind; within = omega (arith, far, same); shallow = there.shallow; reached = there.reached }

    module _ (e : EntryState) (lies : LiesOnWay x d at e.node) where
      gets_entry : (f : LooksUpFor disk v p e r u w) → e.slot ≡ None → f.entry ≡ with_slot e f.entry.slot → GetsFor disk v p e.node.block f.answer f.entry.slot w → SeeksOn disk v p d k (Target.Entry e) r u w
      gets_entry f none stays g = by_answer g.answer g.gives g.slot g.gets g.reads
        where
          steps : steps_at (Target.Entry e) ≡ 2 * e.node.level + 4
          steps = ap (λ (o : Option ℕ). 2 * e.node.level + (if is_none o then 4 else 3)) none

          by_answer : (q : Get) → f.answer ≡ progress_of q → f.entry.slot ≡ slot_of q → Gets disk v p e.node.block q w → ReadsFor disk v q w → SeeksOn disk v p d k (Target.Entry e) r u w
          by_answer (get.Got i) gives slot gets reads =
              let now : u ≡ Target.Entry (with_slot e (Some i)) = f.target ∙ ap (λ (q : Progress (Option ℕ)). target_behind q f.entry) gives ∙ ap Target.Entry (stays ∙ ap (with_slot e) slot) in
              let node = node_still e.node (ap (λ l. l.size) reads.log) lies in
              moves (Target.Entry e) (Target.Entry (with_slot e (Some i))) (f.gives ∙ ap one_more gives) now reads.current lies (record { node = node; holds = gets.got }) (omega (arith, steps))
          by_answer (get.Sleeping why) gives slot gets reads =
              slept (Target.Entry e) why (f.gives ∙ ap one_more gives) gets.sleeping
              (f.target ∙ ap (λ (q : Progress (Option ℕ)). target_behind q f.entry) gives ∙ ap Target.Entry (stays ∙ ap (with_slot e) (slot ∙ sym none)))
          by_answer (get.Fault fault) gives slot gets reads = failed (Target.Entry e) fault (f.gives ∙ ap one_more gives)

      -- the entry is read in the slot that holds its block
      module _ (f : LooksUpFor disk v p e r u w) (i : ℕ) (got : e.slot ≡ Some i) (releases : Releases disk.image v p i w) where
        abbrev named : ℕ
        named = named_by x e.node

        steps : steps_at (Target.Entry e) ≡ 2 * e.node.level + 3
        steps = ap (λ (o : Option ℕ). 2 * e.node.level + (if is_none o then 4 else 3)) got

        uses_entry : Ends named e f.answer f.entry → SeeksOn disk v p d k (Target.Entry e) r u w
        uses_entry ends =
            let now : u ≡ Target.Block (address_or_zero (some_address named)) None = f.target ∙ ap (λ (q : Progress (Option ℕ)). target_behind q f.entry) ends.over in
            let is = lies_ends x d k e.node lies e refl ends.ends in
            moves (Target.Entry e) (Target.Block (address_or_zero (some_address named)) None) (f.gives ∙ ap one_more ends.over) now releases.current
            (address_or_zero_of named ∙ sym (address_there_now disk.image v p k d may size low ∙ is)) tt (omega (arith, steps))

        goes_below : GoesBelow named e f.answer f.entry → SeeksOn disk v p d k (Target.Entry e) r u w
        goes_below on =
            let now : u ≡ Target.Entry (below e named) = f.target ∙ ap (λ (q : Progress (Option ℕ)). target_behind q f.entry) on.moved ∙ ap Target.Entry on.now in
            let parts = or_parts (eqb named 0) (eqb e.node.level 0) on.more in
            let deep : e.node.level ≢ 0 = eqb-false e.node.level 0 parts.1 in
            let next = lies_next x d at e.node lies deep (eqb-false named 0 parts.0) in
            let node = node_still (node_at e.node.level (rest_under e.node) named) (ap (λ (o : VolumeState D). o.log.size) releases.volume) next in
            moves (Target.Entry e) (Target.Entry (below e named)) (f.gives ∙ ap one_more on.moved) now releases.current next (record { node = node; holds = tt }) (omega (arith, deep, steps))

    pub seeks_on : (t : Target) → LeadsTo disk.image v p d k t → got_slot t ≡ None → Seeks disk t v p r u w → SeeksOn disk v p d k t r u w
    seeks_on (Target.Block b None) leads none seeks = gets_block b seeks.0 leads.block seeks.1 seeks.2
    seeks_on (Target.Block b (Some i)) leads none seeks = absurd (cc none)
    seeks_on (Target.Entry e) leads none seeks = by_slot e.slot refl seeks.looks
      where
        by_slot : (o : Option ℕ) → e.slot ≡ o → LooksUp disk o v p e seeks.answer seeks.entry w → SeeksOn disk v p d k (Target.Entry e) r u w
        by_slot None at looks = gets_entry e leads.block seeks at looks.0 looks.1
        by_slot (Some i) at looks = ⊎_elim (uses_entry e leads.block seeks i at looks.1) (goes_below e leads.block seeks i at looks.1) looks.0
