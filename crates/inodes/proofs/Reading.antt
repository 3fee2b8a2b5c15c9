-- An operation that looks at a file reads its bytes.
use Rattle.std.proofs.Common.{◌≡◌, ℕ, ◌*◌, ◌/◌, ◌<◌, true, length, sym, ◌∙◌, ap, subst, arith, Some, None}
use Rattle.std.specs.Prelude.{IsTrue}
use Rattle.inodes.specs.Common.{Agrees, AreLooking, asked_by, block_of, claim_by, claims_of, copy_at, current_of, GatheredBytes, Ghosts, grip, grip_by, grips_of, HasRoomLeft, HasSlot, HoldsAt, HoldsTarget, HoldsWhereGot, Image, inode_count_of, is_number, IsAtRead, IsReading, LeadsToBlock, length-current, locked_grip, LooksAt, MayRead, node_there, owes_reply, ReadState, resting_may_be_read, slot_in, Stage, Stands, StoreState, Target, task}
use Rattle.inodes.specs.Lemmas.Faults.{where_none}
use Rattle.inodes.specs.Lemmas.Looks.{copy_is, late_number}
use Rattle.inodes.specs.Lemmas.Unclaimed.{unclaimed, late_used}
use Rattle.inodes.proofs.Standing.{StandsAt}
use Rattle.inodes.proofs.Gripping.{grip_is}
use Rattle.inodes.proofs.Searching.{where_got}

-- in a store whose process p reads
module _ {D N : Type 0} {disk : Ghosts D N} {s : StoreState D} {p k : ℕ} {m : ReadState} (h : StandsAt disk s p (Stage.Reading k m)) where
  abbrev cur : Image
  cur = current_of disk.image s.volume

  -- the number of its inode
  abbrev number : ℕ
  number = asked_by (task s.tasks p).op

  pub agrees : Agrees s.volume.buffers s.volume.log s.table.inode_count s.tasks
  agrees = where_none s.volume.fault h.well h.is.agrees

  pub looking : AreLooking cur s.table s.tasks
  looking = where_none s.volume.fault h.well h.is.looks

  pub at_read : IsAtRead cur s.table.inode_count (copy_at s.table.places k) (task s.tasks p) m
  at_read = subst (λ (a : Stage). LooksAt cur s.table (task s.tasks p) a) h.stood (looking.stand p)

  pub has : grip (grips_of s.tasks) p ≡ Some (locked_grip k number)
  has = grip_is s.tasks p ∙ ap (λ (a : Stage). grip_by a number) h.stood

  pub holds : HoldsAt s.volume.buffers p (block_of m.target) (slot_in m.target)
  holds = subst (λ (a : Stage). Stands s.volume.buffers s.volume.log s.table.inode_count p (task s.tasks p).op a) h.stood (agrees.stands p)

  pub slot_is : (i : ℕ) → HasSlot (task s.tasks p).stage i → slot_in m.target ≡ Some i
  slot_is i got = subst (λ (a : Stage). HasSlot a i) h.stood got

  -- no task holds its number
  pub nobody : claims_of s.tasks number ≡ None
  nobody = unclaimed cur s.table s.tasks looking p k number (sym (grip_is s.tasks p) ∙ has) (ap (λ (a : Stage). claim_by (task s.tasks p).op a number) h.stood)

  reads : owes_reply (task s.tasks p).stage ≡ true
  reads = ap owes_reply h.stood

  may_name : IsTrue (is_number (inode_count_of cur) number)
  may_name = subst (λ (n : ℕ). IsTrue (is_number n number)) h.is.numbers (late_number cur s.table s.tasks looking p reads)

  -- the file of its inode may be read
  pub may : MayRead cur m.inode
  may = subst (MayRead cur) (copy_is cur s.table s.tasks looking p number k m.inode has at_read.copy).0
      (resting_may_be_read looking.files.0 cur (claims_of s.tasks) number looking.files.1 (may_name, late_used cur s.table s.tasks looking h.is.numbers p reads) nobody)

  -- it has room for the bytes that are left
  pub room : (g : GatheredBytes) → (task s.tasks p).gathered ≡ Some g → HasRoomLeft m g
  room g had =
      let same : at_read.op.gathered ≡ g = let both = sym at_read.op.has ∙ had in cc both in
      subst (HasRoomLeft m) same at_read.read.room

  pub size : s.volume.log.size ≡ length cur
  size = let long = length-current (disk.image s.volume.device) s.volume.buffers in sym (long ∙ h.joint.size)

  inside_file : m.next / 1024 * 1024 < m.inode.size
  inside_file = let some = at_read.read.some in let end = at_read.read.end in omega (arith, some, end)

  holds_by : (t : Target) → LeadsToBlock cur m.inode (m.next / 1024) t → HoldsWhereGot cur s.volume.buffers p (block_of t) (slot_in t) → HoldsTarget disk.image s.volume p t
  holds_by (Target.Entry e) leads held = record { node = node_there disk.image s.volume p (m.next / 1024) m.inode may size inside_file e.node leads; holds = held }
  holds_by (Target.Block b slot) leads held = held

  -- it may make its next step
  pub is_ready : IsReading disk.image s.volume p m
  is_ready = record {
    may = may;
    form = at_read.read.form;
    some = at_read.read.some;
    inside = let end = at_read.read.end in omega (arith, end);
    leads = record {
      block = at_read.read.leads;
      holds = holds_by m.target at_read.read.leads (where_got (disk.image s.volume.device) s.volume.buffers s.volume.log p (block_of m.target) (slot_in m.target) h.joint holds);
    };
  }
