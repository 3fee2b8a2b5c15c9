-- What a step of a process starts from, while the disk has not failed.
use Rattle.std.proofs.Common.{◌≡◌, ℕ, ◌<◌, ◌≤◌, zero, suc, true, false, ltb, length, refl, ◌∙◌, subst, arith, Some, None}
use Rattle.kernel.specs.Common.{Agrees, AreLooking, ArePaired, ats_of, changing_later, current_of, Entry, facts_of, false≢true, group_unread, HasEntry, HasFacts, Image, in_reads, InGroup, inode_count_of, is_changing, is_over, is_unturned, IsBehind, IsEntry, IsLogAt, IsStore, Op, passes_busy, Phase, process, StandsAt, StoreState, task, TaskStands, view_of, World}

-- a kernel whose disk has not failed, at a step of process p
pub record IsWell {D : Type 0} (image : D → Image) (opening : Image) (s : StoreState D) (w : World) (p : ℕ) : Type 0 where
  pub well : s.volume.fault ≡ None
  pub inside : p < length w.processes
  pub paired : ArePaired s w
  pub has : HasFacts image opening s w
  pub agrees : Agrees s.volume.buffers s.volume.log s.table.inode_count s.tasks
  pub looks : AreLooking (current_of image s.volume) s.table s.tasks
  pub few : s.table.inode_count ≤ 1024
  pub numbers : s.table.inode_count ≡ inode_count_of (current_of image s.volume)
  pub count : s.table.inode_count ≡ inode_count_of opening

-- the number of a lawful image's inodes
pub few_numbers : {D : Type 0} (image : D → Image) (s : StoreState D) → IsStore image s → s.table.inode_count ≤ 1024
few_numbers image s is =
    omega (arith, ((facts_of (current_of image s.volume) is.geometry).few), is.numbers)

module _ {D : Type 0} (image : D → Image) (opening : Image) (s : StoreState D) (w : World) (p : ℕ) (is : IsWell image opening s w p) where
  pub log_of : IsLogAt s.volume.log.commit s.volume.log
  log_of = is.has.facts.valid.log

  -- what stands where
  pub stands_at : (a : Phase) → (process w p).at ≡ a → StandsAt (inode_count_of opening) (view_of image s) w.journal.list p a
  stands_at a stands = subst (λ (b : Phase). StandsAt (inode_count_of opening) (view_of image s) w.journal.list p b) stands (is.has.facts.stands p)

  -- an operation under way has its task, which is not over
  pub before_there : (group : ℕ) (op : Op) → (process w p).at ≡ Phase.BeforeTurn group op → ((task s.tasks p).op ≡ Some op) × (is_over (task s.tasks p).stage ≡ false)
  before_there group op stands =
      let there : TaskStands w.journal.list (task s.tasks p) (Phase.BeforeTurn group op) = subst (λ (a : Phase). TaskStands w.journal.list (task s.tasks p) a) stands (is.paired.stand p).stands in
      (there.0, passes_busy is_unturned refl (task s.tasks p).stage there.1)

  pub unturned_before : (group : ℕ) (op : Op) → (process w p).at ≡ Phase.BeforeTurn group op → is_unturned (task s.tasks p).stage ≡ true
  unturned_before group op stands = (subst (λ (a : Phase). TaskStands w.journal.list (task s.tasks p) a) stands (is.paired.stand p).stands).1

  pub behind_there : (group k : ℕ) → (process w p).at ≡ Phase.AfterTurn group k → (e : Entry) × HasEntry w.journal.list p k group e × IsBehind (task s.tasks p) e
  behind_there group k stands =
      let there : TaskStands w.journal.list (task s.tasks p) (Phase.AfterTurn group k) = subst (λ (a : Phase). TaskStands w.journal.list (task s.tasks p) a) stands (is.paired.stand p).stands in
      let has = (stands_at (Phase.AfterTurn group k) stands).1 in (has.0, has.1, there has.0 has.1.at)

  -- the group of a changing one is not committed
  pub later_before : (group : ℕ) (op : Op) → (process w p).at ≡ Phase.BeforeTurn group op → is_changing (inode_count_of opening) op ≡ true → in_reads s.volume.log < group
  later_before group op stands changing = by_group group (stands_at (Phase.BeforeTurn group op) stands).1 (stands_at (Phase.BeforeTurn group op) stands).2
    where
      by_group : (g : ℕ) → InGroup s.volume.log p g → ltb 0 g ≡ is_changing (inode_count_of opening) op → in_reads s.volume.log < g
      by_group zero is_in same = absurd (false≢true (same ∙ changing))
      by_group (suc g) is_in same = group_unread s.volume.log p (suc g) log_of is_in (omega arith)

  -- also behind the turn
  pub later_behind : (group k : ℕ) (e : Entry) → (process w p).at ≡ Phase.AfterTurn group k → IsEntry w.journal.list k e → is_changing (inode_count_of opening) e.op ≡ true → in_reads s.volume.log < e.group
  later_behind group k e stands there =
      changing_later opening (view_of image s) (view_of image s) w.journal.list (ats_of w) is.has.facts is.has.facts.valid p (ats_of w) (λ q apart. refl) group k e stands there
