-- What is true of operations that look at a file stays, whatever the others do.
use Rattle.std.proofs.Common.{◌≡◌, ◌≢◌, ℕ, zero, suc, ◌-◌, ◌*◌, ◌/◌, ◌≤◌, ◌<◌, true, ltb, List, [], ◌∷◌, length, set, replicate, refl, sym, ◌∙◌, ap, subst, ⊎_elim, arith, Option, Some, None}
use Rattle.std.specs.Prelude.{IsTrue, slice_index}
use Rattle.std.proofs.lemmas.List.{length-set}
use Rattle.inodes.specs.Common.{address_in, ahead_of, ahead_root, AreLooking, asked_by, at_hand, between, block_at, both_of, branch_of, bytes_by, bytes_in, CanBegin, cases_eq, Claim, claim_by, claim_fits, claim_of, Claims, claims_of, copy_at, count_of, Create, depths, Dinode, Extent, extent_of, file_in, Files, first_left, first_stage, Fits, FitsHeld, FitsThen, Form, form_of, form_same, free_tells, Freeing, frees, get_or-set_other, get_or-set_same, Grip, grip, grip_by, grip_of, grips_of, grows, Growth, growth_of, hand_in, HasClaimed, HasFiles, HasGivenUp, HasLoggedWrite, HasSameFile, Held, held_alike, held_of, held_outside, Image, inode_block, inode_count_of, inode_of-with_inode_other, inode_same, is_among, is_kind, is_number, IsApart, IsClaimedNow, IsDinode, IsHeldIn, IsInHand, IsMapped, IsPlaced, IsSameOutsideLog, IsWriting, Keeps, KeepsUsedInodes, last_fields, last_inode, leads_still, locked_grip, LogState, LooksAt, ltb-true, mapped, MayRead, named_held, names_claimed, names_left, needed_within, new_inode, new_table, no_task, Op, part_of, Read, Remove, resting_may_be_read, root_of, SameInside, Stage, Stat, StaysHeld, super_of, TableIs, TableState, taken_by, taken_owned, task, TaskState, Trunc, TruncAt, unmarked, used_by, way_of, whole_names, with_inode, with_inode_bytes, without_bit, Write, write_back_rests, WriteState, SetAttribute}
use Rattle.model.specs.Layout.{inode_of}
use Rattle.in_flight.specs.Lemmas.GivenUp.{held_of as is_held}
use Rattle.in_flight.specs.Lemmas.HeldFrames.{stays_same}
use Rattle.in_flight.specs.Lemmas.Claims.{apart as apart_from}
use Rattle.model.specs.Names.{names_along}
use Rattle.model.specs.Lemmas.OutsideLog.{inode_agree}
use Rattle.in_flight.specs.Lemmas.AtRest.{fits_at_rest}
use Rattle.inodes.specs.Lemmas.Grips.{is_table_at_opening, kept_by_image}
use Rattle.inodes.specs.Lemmas.Holding.{claim_stays, own_holds}
use Rattle.inodes.specs.Lemmas.Looks.{copy_is, trunc_names, write_locks}
use Rattle.inodes.proofs.InHand.{first_tree, given_kept, keeps_kept, root_there}
use Rattle.inodes.proofs.Gripping.{grip_is, grips_same}
use Rattle.inodes.specs.Lemmas.Unclaimed.{own_claim, unclaimed, claim_locks, own_growth}
use Rattle.inodes.proofs.Agreeing.{counts_more}
use Rattle.inodes.proofs.WriteComes.{come_still}
use Rattle.inodes.proofs.WriteLogged.{beside_grow, ways_keep}
use Rattle.inodes.proofs.WriteNodes.{CountsOn, same_inside}

-- ---- the current image is another one

-- The image is as long as it was, and each used number but i has the inode that it had, and its file where no task holds it, and what
-- a task holds where one does.
pub record KeepsUsed (n i : ℕ) (claims : Claims) (old new : Image) : Type 0 where
  pub size : length new ≡ length old
  pub super : block_at new 1 ≡ block_at old 1
  pub inodes : KeepsUsedInodes n i old new
  pub contents : (j : ℕ) → IsTrue (is_number n j) → j ≢ i → (inode_of old j).kind ≢ 0 → claims j ≡ None → HasSameFile old new j
  pub held : (j : ℕ) (c : Claim) → IsTrue (is_number n j) → j ≢ i → claims j ≡ Some c → StaysHeld old new c

-- ---- which images keep what is used

-- the same one
pub keeps_same : (n i : ℕ) (claims : Claims) (x : Image) → KeepsUsed n i claims x x
keeps_same n i claims x = record {
  size = refl;
  super = refl;
  inodes = λ j number apart used. refl;
  contents = λ j number apart used none. record { inode = refl; blocks = λ b some. refl; addresses = λ k. refl; bytes = refl };
  held = λ j c number apart holds. stays_same x c;
}

-- one in which the files stand so but for number i
pub keeps_then : (n i : ℕ) (m : Files) (x y : Image) (claims new : Claims) → n ≡ inode_count_of x → FitsThen m x claims i y new → length y ≡ length x → block_at y 1 ≡ block_at x 1 → KeepsUsedInodes n i x y → KeepsUsed n i claims x y
keeps_then n i m x y claims new numbers then size super inodes = record {
  size = size;
  super = super;
  inodes = inodes;
  contents = λ j number apart used none. then.others j apart none (subst (λ (c : ℕ). IsTrue (is_number c j)) numbers number, used);
  held = λ j c number apart holds. then.held j c apart (subst (λ (c : ℕ). IsTrue (is_number c j)) numbers number) holds;
}

-- one with another block behind the log
pub super_set : (x : Image) (b : ℕ) (bytes : List ℕ) → 33 ≤ b → block_at (set x b bytes) 1 ≡ block_at x 1
super_set x b bytes behind = get_or-set_other x b 1 bytes [] (λ same. omega (arith, same, behind))

-- a number is not 0
some_number : (x : Image) (j : ℕ) → IsTrue (is_number (inode_count_of x) j) → j ≢ 0
some_number x j number none = let low = (between x j number).low in omega (arith, low, none)

-- one that is the same outside the log
pub keeps_outside : (files : Files) (x y : Image) (claims : Claims) (i : ℕ) → FitsHeld files x claims → IsSameOutsideLog x y → KeepsUsed (inode_count_of x) i claims x y
keeps_outside files x y claims i fits same = record {
  size = same.size;
  super = same.agree 1 refl;
  inodes = λ j number apart used. inode_agree x y j same.agree;
  contents = λ j number apart used none. (held_outside files x y claims same fits).others j (some_number x j number) none (number, used);
  held = λ j c number apart holds. (held_outside files x y claims same fits).held j c (some_number x j number) number holds;
}

-- one in which a free number is claimed
pub keeps_claimed : (files : Files) (x : Image) (claims : Claims) (i kind : ℕ) → FitsHeld files x claims → IsTrue (is_number (inode_count_of x) i) → (inode_of x i).kind ≡ 0 → IsTrue (is_kind kind) → HasClaimed x i kind (with_inode x i (new_inode kind))
    → KeepsUsed (inode_count_of x) 0 claims x (with_inode x i (new_inode kind))
keeps_claimed files x claims i kind fits number free is claimed = record {
  size = length-set x (inode_block i) (with_inode_bytes (block_at x (inode_block i)) i (new_inode kind));
  super = super_set x (inode_block i) (with_inode_bytes (block_at x (inode_block i)) i (new_inode kind)) (omega arith);
  inodes = λ j names apart used. claimed.others j (other j used);
  contents = λ j names apart used none. (claim_fits files x claims i kind fits number (free_tells files x claims i fits (number, free)).0 free is).0.others j (other j used) none (names, used);
  held = λ j c names apart holds.
      (claim_fits files x claims i kind fits number none_holds free is).0.held j c (not_held j c holds) names holds;
}
  where
    none_holds : claims i ≡ None
    none_holds = (free_tells files x claims i fits (number, free)).0

    not_held : (j : ℕ) (c : Claim) → claims j ≡ Some c → j ≢ i
    not_held j c holds same = absurd (cc (sym holds ∙ ap claims same ∙ none_holds))

    other : (j : ℕ) → (inode_of x j).kind ≢ 0 → j ≢ i
    other j used same = used (ap (λ (k : ℕ). (inode_of x k).kind) same ∙ free)

-- one in which a block's bit is cleared that the task of number i gave up
pub keeps_freed : (files m : Files) (x : Image) (claims new : Claims) (i b : ℕ) → FitsHeld files x claims → FitsThen m x claims i (unmarked x b) new → KeepsUsed (inode_count_of x) i claims x (unmarked x b)
keeps_freed files m x claims new i b fits then = keeps_then (inode_count_of x) i m x (unmarked x b) claims new refl then (length-set x (super_of x).bmapstart (without_bit (block_at x (super_of x).bmapstart) b))
    (super_set x (super_of x).bmapstart (without_bit (block_at x (super_of x).bmapstart) b) (let behind = map.behind in omega (arith, behind)))
    (λ j number apart used. inode_same x (without_bit (block_at x (super_of x).bmapstart) b) map j (apart_from x j fits.geometry (between x j number).high).before_map)
  where
    map : IsMapped x
    map = mapped x fits.geometry fits.full

-- one in which the inode of number i is written back
pub keeps_written : (files : Files) (x : Image) (claims new : Claims) (i : ℕ) (h : Held) → IsHeldIn files x claims i (frees h) → h.copy.addrs ≡ replicate 13 0 → IsClaimedNow claims i None new → KeepsUsed (inode_count_of x) i claims x (with_inode x i (last_inode h))
keeps_written files x claims new i h held bare now = keeps_then (inode_count_of x) i _ x (with_inode x i (last_inode h)) claims new refl (write_back_rests files x claims new i h held bare now)
    (length-set x (inode_block i) (with_inode_bytes (block_at x (inode_block i)) i (last_inode h))) (super_set x (inode_block i) (with_inode_bytes (block_at x (inode_block i)) i (last_inode h)) (omega arith))
    (λ j number apart used. inode_of-with_inode_other x i j (last_inode h) placed fields apart)
  where
    there : IsApart x i
    there = apart_from x i held.fits.geometry (between x i held.number).high

    placed : IsPlaced x i
    placed = record { within = there.within; full = held.fits.full (inode_block i) there.behind there.within }

    fields : IsDinode (last_inode h)
    fields = last_fields h x i (file_in files i) (is_held files x claims i h held)

-- ---- what is true of tasks stays in an image that keeps what is used

-- an inode leads to the same blocks and bytes, by the same blocks of addresses
record LeadsSame (old new : Image) (d : Dinode) : Type 0 where
  may : MayRead old d
  blocks : (b : ℕ) → 1 ≤ count_of b (names_along old (depths (form_of old)) d.addrs) → block_at new b ≡ block_at old b
  addresses : (k : ℕ) → address_in new d k ≡ address_in old d k
  bytes : bytes_in new d ≡ bytes_in old d

module _ (old new : Image) (t : TableState) (ts : List TaskState) (i : ℕ) (are : AreLooking old t ts) (numbers : t.inode_count ≡ inode_count_of old) (keeps : KeepsUsed t.inode_count i (claims_of ts) old new) where
  -- a copy of a locked inode does so, where no task holds its number
  copy_keeps : (p j k : ℕ) (d : Dinode) → j ≢ i → grip_of (task ts p) ≡ Some (locked_grip k j) → claim_of (task ts p) j ≡ None → copy_at t.places k ≡ Some d → LeadsSame old new d
  copy_keeps p j k d apart locked none copy =
      let has : grip (grips_of ts) p ≡ Some (locked_grip k j) = grip_is ts p ∙ locked in
      let its = copy_is old t ts are p j k d has copy in
      let number = are.table.numbers j k (are.table.places p (locked_grip k j) has).1 in
      let used : (inode_of old j).kind ≢ 0 = λ free. its.1 (ap (λ (c : Dinode). c.kind) (sym its.0) ∙ free) in
      let rests = unclaimed old t ts are p k j locked none in
      let same = keeps.contents j number apart used rests in
      let may = resting_may_be_read are.files.0 old (claims_of ts) j are.files.1 (subst (λ (n : ℕ). IsTrue (is_number n j)) numbers number, used) rests in
      record {
        may = subst (MayRead old) its.0 may;
        blocks = λ b some. same.blocks b
            (λ none. let is = ap (count_of b) (whole_names old (inode_of old j) used) in
            let here = ap (λ (c : Dinode). count_of b (names_along old (depths (form_of old)) c.addrs)) its.0 in omega (arith, some, none, is, here));
        addresses = λ a. subst (λ (c : Dinode). address_in new c a ≡ address_in old c a) its.0 (same.addresses a);
        bytes = subst (λ (c : Dinode). bytes_in new c ≡ bytes_in old c) its.0 same.bytes;
      }

  form_still : form_of new ≡ form_of old
  form_still = form_same old new keeps.super

  -- the blocks of addresses that a task frees stay
  module _ (p k : ℕ) (m : Freeing) (free : (k : ℕ) → grip_of (task ts p) ≡ Some (locked_grip k i) → ⊥) (at : (task ts p).stage ≡ Stage.Truncating k m) where
    left_still : (b : ℕ) → 1 ≤ count_of b (names_left old m.machine.inode (held_of m.machine).cursor) → block_at new b ≡ block_at old b
    left_still b some =
        let h = frees (held_of m.machine) in
        let locked = claim_locks old t ts are p m.machine.number h (ap (λ (a : Stage). claim_by (task ts p).op a m.machine.number) at ∙ own_holds k m) in
        let apart : m.machine.number ≢ i = λ same. free locked.0 (locked.1 ∙ ap (λ (n : ℕ). Some (locked_grip locked.0 n)) same) in
        (keeps.held m.machine.number h (trunc_names old t ts are p k m at) apart (own_claim old t ts are p k m at)).blocks b (λ none. omega (arith, some, none))

    root_still : IsInHand old m.machine → block_at new (root_of m.machine) ≡ block_at old (root_of m.machine)
    root_still h = left_still (root_of m.machine)
        (first_left old m.machine.inode m.machine.slot (held_of m.machine).cursor [] (root_of m.machine) (first_tree old m.machine h) (omega arith) refl (root_there old m.machine h) (ahead_root (held_of m.machine).cursor))

    hand_still : IsInHand old m.machine → block_at new (hand_in old m.machine) ≡ block_at old (hand_in old m.machine)
    hand_still h = left_still (hand_in old m.machine)
        (first_left old m.machine.inode m.machine.slot (held_of m.machine).cursor (way_of m.machine) (hand_in old m.machine) (first_tree old m.machine h) (let level = h.level in omega (arith, level)) refl h.there
        (ahead_of (way_of m.machine) m.machine.given_up))

    still : {a : TruncAt} → m.machine.at ≡ a → IsInHand old m.machine → HasGivenUp old m.machine a → Keeps old m.kept m.machine a → HasGivenUp new m.machine a × Keeps new m.kept m.machine a
    still {a} is h given kept =
        subst (λ (o : TruncAt). HasGivenUp old m.machine o → Keeps old m.kept m.machine o → HasGivenUp new m.machine o × Keeps new m.kept m.machine o) is
        (λ (g : HasGivenUp old m.machine m.machine.at) (o : Keeps old m.kept m.machine m.machine.at).
        (given_kept old new m.machine form_still (λ e upper. root_still h) (λ entry. hand_still h) g, keeps_kept old new m.machine form_still (λ e upper. root_still h) m.kept o))
        given kept

    -- so it has come as far, and keeps the same
    come_as_far : (a : TruncAt) → m.machine.at ≡ a → HasGivenUp old m.machine a → Keeps old m.kept m.machine a → HasGivenUp new m.machine a × Keeps new m.kept m.machine a
    come_as_far TruncAt.Direct is given kept = (given, record { inner = kept.inner; outer = kept.outer })
    come_as_far (TruncAt.Loading b) is given kept = still is given.0 given kept
    come_as_far TruncAt.Entry is given kept = still is given.hand given kept
    come_as_far TruncAt.Unloading is given kept = still is given.0 given kept
    come_as_far TruncAt.Freeing is given kept = still is given.0 given kept
    come_as_far TruncAt.Updating is given kept = (given, record { inner = kept.inner; outer = kept.outer })

  -- a task that writes holds what it held, and its copy leads on as it did
  module _ (p k : ℕ) (m : WriteState) (free : (k : ℕ) → grip_of (task ts p) ≡ Some (locked_grip k i) → ⊥) (at : (task ts p).stage ≡ Stage.Writing k m) (writes : IsWriting old t.inode_count (task ts p) m) where
    abbrev g : Growth
    g = growth_of m (task ts p).op

    held : IsHeldIn are.files.0 old (claims_of ts) m.number (grows g)
    held = record {
      fits = are.files.1;
      number = subst (λ (n : ℕ). IsTrue (is_number n m.number)) numbers writes.number;
      holds = own_growth old t ts are p k m at;
    }

    its : StaysHeld old new (grows g)
    its = keeps.held m.number (grows g) writes.number (λ same. free k (write_locks old t ts are p k m at ∙ ap (λ (n : ℕ). Some (locked_grip k n)) same)) (own_growth old t ts are p k m at)

    ways_same : (j : ℕ) → SameInside old new (branch_of m.extent.form j).depth (slice_index m.inode.addrs (branch_of m.extent.form j).index)
    ways_same = same_inside are.files.0 old (claims_of ts) m.number g held new (λ n some. its.blocks n (named_held are.files.0 old (claims_of ts) m.number g held n some))
        m.extent.form (ap (λ (e : Extent). e.form) writes.extent)

    taken_same : (c : ℕ) → taken_by m.at ≡ Some c → block_at new c ≡ block_at old c
    taken_same c taken = its.blocks c (λ none.
        let owns = subst (λ (o : Option Claim). 1 ≤ count_of c (names_claimed old m.number o)) held.holds (taken_owned are.files.0 old (claims_of ts) m.number c g held taken).0 in
        omega (arith, owns, none))

    -- and what it logged counts still
    pub logged_still : (l h : LogState) → ((b : ℕ) → is_among b l.homes ≡ true → is_among b h.homes ≡ true) → used_by h p ≡ used_by l p → HasLoggedWrite old l p m → HasLoggedWrite new h p m
    logged_still l h among same had homes used =
        let on : CountsOn l h = λ b. counts_more l h b (among b) in
        omega (arith, (had homes (sym same ∙ used)), (beside_grow old new l h on m m.inode (ways_keep old new m m.inode refl ways_same)), (on (at_hand m.at)))

  -- of a task that has not locked number i
  pub stands_still : (p : ℕ) (a : Stage) → ((k : ℕ) → grip_of (task ts p) ≡ Some (locked_grip k i) → ⊥) → (task ts p).stage ≡ a → LooksAt old t (task ts p) a → LooksAt new t (task ts p) a
  stands_still p Stage.Nowhere free at stands = tt
  stands_still p (Stage.Creating m) free at stands = tt
  stands_still p (Stage.Taking m) free at stands = stands
  stands_still p (Stage.Reading k m) free at stands =
      let j = asked_by (task ts p).op in
      let locked : grip_of (task ts p) ≡ Some (locked_grip k j) = ap (λ (a : Stage). grip_by a j) at in
      let same = copy_keeps p j k m.inode (λ one. free k (locked ∙ ap (λ (n : ℕ). Some (locked_grip k n)) one)) locked (ap (λ (a : Stage). claim_by (task ts p).op a j) at) stands.copy in
      let read = stands.read in
      let needed : m.next / 1024 * 1024 < m.inode.size = let some = read.some in let end = read.end in omega (arith, some, end) in
      record {
        op = stands.op;
        copy = stands.copy;
        read = record {
          form = read.form ∙ sym form_still;
          begun = read.begun;
          some = read.some;
          end = read.end;
          bytes = read.bytes ∙ ap (λ (file : List ℕ). part_of file stands.op.offset (m.next - stands.op.offset)) (sym same.bytes);
          room = read.room;
          leads = leads_still old new m.inode (m.next / 1024) (needed_within old m.inode (m.next / 1024) same.may.fit needed) same.blocks form_still same.addresses m.target read.leads;
        };
      }
  stands_still p (Stage.Delivering k) free at stands =
      let j = asked_by (task ts p).op in
      let locked : grip_of (task ts p) ≡ Some (locked_grip k j) = ap (λ (a : Stage). grip_by a j) at in
      let same = copy_keeps p j k stands.dinode (λ one. free k (locked ∙ ap (λ (n : ℕ). Some (locked_grip k n)) one)) locked (ap (λ (a : Stage). claim_by (task ts p).op a j) at) stands.copy in
      record {
        op = stands.op;
        dinode = stands.dinode;
        copy = stands.copy;
        bytes = stands.bytes ∙ ap (λ (file : List ℕ). part_of file stands.op.offset stands.op.count) (sym same.bytes);
      }
  stands_still p (Stage.Truncating k m) free at stands =
      let far = come_as_far p k m free at m.machine.at refl stands.given stands.keeps in
      record {
        op = stands.op;
        number = stands.number;
        bitmap = stands.bitmap;
        form = stands.form ∙ sym form_still;
        slot = stands.slot;
        given = far.0;
        keeps = far.1;
      }
  stands_still p (Stage.Writing k m) free at stands = record {
    op = stands.op;
    is = stands.is;
    writes = stands.writes;
    number = stands.number;
    few = stands.few;
    done = stands.done;
    fits = stands.fits;
    extent = stands.extent ∙ ap (extent_of (form_of old) t.inode_count) (sym keeps.size) ∙ ap (λ (f : Form). extent_of f t.inode_count (length new)) (sym form_still);
    come = come_still old new m (ways_same p k m free at stands) (its p k m free at stands).grown.0 m.at (taken_same p k m free at stands) stands.come;
  }
  stands_still p (Stage.Setting k d u) free at stands = stands
  stands_still p (Stage.Leaving k) free at stands = stands

-- where all used inodes stay
module _ (old new : Image) (t : TableState) (ts : List TaskState) (are : AreLooking old t ts) (numbers : t.inode_count ≡ inode_count_of old) where
  -- number 0 is nobody's
  pub none_locks_zero : (p k : ℕ) → grip_of (task ts p) ≡ Some (locked_grip k 0) → ⊥
  none_locks_zero p k locked =
      omega (arith, (ltb-true 0 0 (both_of (ltb 0 0) (ltb 0 t.inode_count) (are.table.numbers 0 k (are.table.places p (locked_grip k 0) (grip_is ts p ∙ locked)).1)).0))

  pub looks_kept : HasFiles new (claims_of ts) → KeepsUsed t.inode_count 0 (claims_of ts) old new → AreLooking new t ts
  looks_kept has keeps = record {
    files = has;
    table = kept_by_image t (grips_of ts) old new are.table keeps.inodes;
    stand = λ p. stands_still old new t ts 0 are numbers keeps p (task ts p).stage (none_locks_zero p) refl (are.stand p);
  }

pub looks_outside : (cur now : Image) (t : TableState) (ts : List TaskState) → AreLooking cur t ts → t.inode_count ≡ inode_count_of cur → IsSameOutsideLog cur now → AreLooking now t ts
looks_outside cur now t ts are numbers same =
    let claims = claims_of ts in
    looks_kept cur now t ts are numbers (are.files.0, (held_outside are.files.0 cur now claims same are.files.1).fits)
    (subst (λ (n : ℕ). KeepsUsed n 0 claims cur now) (sym numbers) (keeps_outside are.files.0 cur now claims 0 are.files.1 same))

-- ---- one task is another, with the same grip, and holds what it held

pub looks_set : (cur : Image) (t : TableState) (ts : List TaskState) (p : ℕ) (s : TaskState) → AreLooking cur t ts → p < length ts → grip_of s ≡ grip_of (task ts p) → LooksAt cur t s s.stage
    → ((j : ℕ) → claim_of s j ≡ claim_of (task ts p) j) → AreLooking cur t (set ts p s)
looks_set cur t ts p s are inside same stands claims = record {
  files = (are.files.0, held_alike are.files.0 cur (claims_of ts) (claims_of (set ts p s)) (λ j. claim_stays ts p j s (claims j)) are.files.1);
  table = subst (λ (gs : List (Option Grip)). TableIs t gs cur) (sym (grips_same ts p s same)) are.table;
  stand = λ q. ⊎_elim
      (λ (own : q ≡ p). subst (λ (o : TaskState). LooksAt cur t o o.stage) (sym (ap (task (set ts p s)) own ∙ get_or-set_same ts p s no_task inside)) stands)
      (λ (apart : q ≢ p). subst (λ (o : TaskState). LooksAt cur t o o.stage) (sym (get_or-set_other ts p q s no_task apart)) (are.stand q))
      (cases_eq q p);
}

-- a changing operation begins: a creation, or one that takes an inode
module _ (cur : Image) (t : TableState) (ts : List TaskState) (p : ℕ) (are : AreLooking cur t ts) (inside : p < length ts) (stood : (task ts p).stage ≡ Stage.Nowhere) where
  no_grip : grip_of (task ts p) ≡ None
  no_grip = ap (λ (a : Stage). grip_by a (asked_by (task ts p).op)) stood

  no_claim : (j : ℕ) → claim_of (task ts p) j ≡ None
  no_claim j = ap (λ (a : Stage). claim_by (task ts p).op a j) stood

  begun : (s : TaskState) → grip_of s ≡ None → LooksAt cur t s s.stage → ((j : ℕ) → claim_of s j ≡ None) → AreLooking cur t (set ts p s)
  begun s none stands holds = looks_set cur t ts p s are inside (none ∙ sym no_grip) stands (λ j. holds j ∙ sym (no_claim j))

  pub looks_begun : (op : Op) → CanBegin t.inode_count op → AreLooking cur t (set ts p (record { op = Some op; stage = first_stage op t.inode_count; gathered = None }))
  looks_begun (Create kind) can = begun (record { op = Some (Create kind); stage = first_stage (Create kind) t.inode_count; gathered = None }) refl tt (λ j. refl)
  looks_begun (Write i off bytes) can =
      begun (record { op = Some (Write i off bytes); stage = first_stage (Write i off bytes) t.inode_count; gathered = None }) refl (record { op = Write i off bytes; is = refl; can = can; number = refl; room = refl }) (λ j. refl)
  looks_begun (Read i off n) can = absurd can
  looks_begun (Trunc i) can =
      begun (record { op = Some (Trunc i); stage = first_stage (Trunc i) t.inode_count; gathered = None }) refl (record { op = Trunc i; is = refl; can = can; number = refl; room = refl }) (λ j. refl)
  looks_begun (Remove i) can =
      begun (record { op = Some (Remove i); stage = first_stage (Remove i) t.inode_count; gathered = None }) refl (record { op = Remove i; is = refl; can = can; number = refl; room = refl }) (λ j. refl)
  looks_begun (Stat i) can = absurd can
  looks_begun (SetAttribute i a) can =
      begun (record { op = Some (SetAttribute i a); stage = first_stage (SetAttribute i a) t.inode_count; gathered = None }) refl (record { op = SetAttribute i a; is = refl; can = can; number = refl; room = refl }) (λ j. refl)

-- ---- no task is under way at the opening

pub none_at : (k p : ℕ) → task (replicate k no_task) p ≡ no_task
none_at zero p = refl
none_at (suc k) zero = refl
none_at (suc k) (suc p) = none_at k p

no_grips : (k : ℕ) → grips_of (replicate k no_task) ≡ replicate k None
no_grips zero = refl
no_grips (suc k) = ap (λ (gs : List (Option Grip)). None ∷ gs) (no_grips k)

-- so nothing is held of a number
pub none_claimed : (k i : ℕ) → claims_of (replicate k no_task) i ≡ None
none_claimed zero i = refl
none_claimed (suc k) i = none_claimed k i

pub held_opened : (files : Files) (cur : Image) (k : ℕ) → Fits files cur → FitsHeld files cur (claims_of (replicate k no_task))
held_opened files cur k fits = (fits_at_rest files cur (claims_of (replicate k no_task)) (λ i low high. none_claimed k i)).0 fits

pub looks_opened : (form : Form) (files : Files) (cur : Image) (n k : ℕ) → Fits files cur → k ≤ 32 → AreLooking cur (new_table form n) (replicate k no_task)
looks_opened form files cur n k fits few = record {
  files = (files, held_opened files cur k fits);
  table = subst (λ (gs : List (Option Grip)). TableIs (new_table form n) gs cur) (sym (no_grips k)) (is_table_at_opening form n k cur few);
  stand = λ p. subst (λ (t : TaskState). LooksAt cur (new_table form n) t t.stage) (sym (none_at k p)) tt;
}
