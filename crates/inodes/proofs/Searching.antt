-- A creation's search goes on, and the tasks agree with buffers and log as before.
use Rattle.std.proofs.Common.{◌≡◌, ◌≢◌, inl, ℕ, ◌-◌, ◌<◌, false, leb, List, length, refl, sym, ◌∙◌, ap, subst, arith, ⊎_elim, Option, Some, None}
use Rattle.inodes.specs.Common.{Agrees, at_next_block, at_slot, both_of, Buffers, eqb-false, facts_of, GetsLock, GivesUpLock, GrowsHomes, HasLock, HasSlot, held_is, HoldsAt, HoldsWhereGot, Image, inode_block, inode_count_of, is_last_block, IsLawfulGeometry, IsReady, IsSearching, Joint, leb-true, length-current, LogState, SearchState, seen, Stage, Stands, stays_got, stays_same, StaysForOthers, task, TaskState, used_by}
use Rattle.inodes.proofs.Agreeing.{TaskIsNow}

module _ (c d : Buffers) (l : LogState) (n p : ℕ) (ts : List TaskState) (m : SearchState) (agrees : Agrees c l n ts) (inside : p < length ts) (stood : (task ts p).stage ≡ Stage.Creating m) where
  pub search : IsSearching c l n p (task ts p).op m
  search = subst (λ (a : Stage). Stands c l n p (task ts p).op a) stood (agrees.stands p)

  -- what the process has, it has in the search's slot
  own : (o : Option ℕ) (b j : ℕ) → m.slot ≡ o → HasLock c p b j → o ≡ Some j
  own o b j is has = sym is ∙ subst (λ (a : Stage). HasSlot a j) stood (agrees.holders p b j has)

  -- it stays where it stands
  pub task_waits : TaskIsNow c c l l n p ts (record (task ts p) { stage = Stage.Creating m })
  task_waits = record { agrees = agrees; inside = inside; others = stays_same c l p; stands = search; locks = λ b j has. own m.slot b j refl has }

  -- it got its block
  pub task_got : (i : ℕ) → m.slot ≡ None → GetsLock c d p m.block i → TaskIsNow c d l l n p ts (record (task ts p) { stage = Stage.Creating (at_slot m i) })
  task_got i none gets = record {
    agrees = agrees;
    inside = inside;
    others = stays_got c d l p m.block i gets;
    stands = record { op = search.op; used = search.used; count = search.count; kind = search.kind; behind = search.behind; last = search.last; holds = gets.holds };
    locks = λ b j has. ⊎_elim
        (λ (was : HasLock c p b j). let no = own None b j none was in absurd (cc no))
        (λ mine. ap Some (sym mine.2))
        (gets.takes p b j has);
  }

  module _ (i : ℕ) (slot : m.slot ≡ Some i) (gives : GivesUpLock c d p i) where
    -- nothing is left to it
    nothing : {A : Type 0} (b j : ℕ) → HasLock d p b j → A
    nothing b j has =
        let here : j ≡ i = cc (own (Some i) b j slot (gives.none p b j has)) in
        absurd (gives.free p b (subst (λ (k : ℕ). HasLock d p b k) here has))

    others : (k : LogState) → GrowsHomes l k → ((q : ℕ) → q ≢ p → used_by k q ≡ used_by l q) → StaysForOthers c d l k p
    others k grows used = record {
      holds = λ q b j apart has. gives.others q b j (inl apart) has;
      locks = λ q b j apart has. gives.none q b j has;
      used = used;
      among = grows;
    }

    -- it goes on to the next block
    pub task_next : is_last_block m ≡ false → TaskIsNow c d l l n p ts (record (task ts p) { stage = Stage.Creating (at_next_block m) })
    task_next more =
        let other = eqb-false m.block (inode_block (m.inode_count - 1)) more in
        let same : inode_block (m.inode_count - 1) ≡ inode_block (n - 1) = ap (λ (k : ℕ). inode_block (k - 1)) search.count in
        record {
          agrees = agrees;
          inside = inside;
          others = others l (λ h among. among) (λ q apart. refl);
          stands = record { op = search.op; used = search.used; count = search.count; kind = search.kind; behind = omega (arith, search.behind); last = let low = search.last in omega (arith, low, other, same); holds = tt };
          locks = λ b j has. nothing b j has;
        }

    -- it is over
    pub task_over : (k : LogState) → GrowsHomes l k → ((q : ℕ) → q ≢ p → used_by k q ≡ used_by l q) → TaskIsNow c d l k n p ts (record (task ts p) { stage = Stage.Nowhere })
    task_over k grows used = record {
      agrees = agrees;
      inside = inside;
      others = others k grows used;
      stands = tt;
      locks = λ b j has. nothing b j has;
    }

-- who holds a block where it was got, has it as the buffers show it
pub where_got : (x : Image) (c : Buffers) (l : LogState) (p b : ℕ) (o : Option ℕ) → Joint x c l → HoldsAt c p b o → HoldsWhereGot (seen x c) c p b o
where_got x c l p b None joint has = tt
where_got x c l p b (Some i) joint has = held_is p b i joint has

-- the search may make its next step
pub ready_of : (x : Image) (c : Buffers) (l : LogState) (n p : ℕ) (ts : List TaskState) (m : SearchState) → Agrees c l n ts → p < length ts → (task ts p).stage ≡ Stage.Creating m → Joint x c l
    → IsLawfulGeometry (seen x c) → n ≡ inode_count_of (seen x c) → IsReady (seen x c) c l.size p m
ready_of x c l n p ts m agrees inside stood joint geometry numbers =
    let s = search c c l n p ts m agrees inside stood in
    let f = facts_of (seen x c) geometry in
    let some = f.some in
    let few = f.few in
    record {
      kind = leb-true m.kind 3 (both_of (leb 1 m.kind) (leb m.kind 3) s.kind).1;
      behind = s.behind;
      last = let low = s.last in omega (arith, low, (ap (λ (k : ℕ). inode_block (k - 1)) s.count));
      some = omega (arith, some, numbers, s.count);
      few = omega (arith, few, numbers, s.count);
      within = omega (arith, f.room, f.size, some, numbers, s.count, (length-current x c), joint.size);
      holds = where_got x c l p m.block m.slot joint s.holds;
    }
