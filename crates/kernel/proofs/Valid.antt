-- What is true of every store, as a journal sees it.
use Rattle.std.proofs.Common.{◌≡◌, ⊎_elim, inl, inr, ℕ, Bool, true, false, cond, List, length, ◌∙◌, sym, refl, ap, subst, arith, Option, Some, None}
use Rattle.std.specs.Option.{option_map}
use Rattle.std.specs.Prelude.{IfNone, IsSome, IsTrue}
use Rattle.model.specs.declared.types.operations.Attribute.TheVariants.{Links, Size}
use Rattle.inodes.specs.Looks.{IsWriteOp}
use Rattle.inodes.specs.Lemmas.Looks.{write_number}
use Rattle.kernel.specs.Common.{Agrees, AreLooking, asked, asked_by, Buffers, CanLook, CanTake, cleared, Create, current_of, false≢true, Files, files_of, Held, held_at, held_by, Image, is_late, is_number, is_over, is_unturned, IsLate, IsLogAt, IsSound, IsStore, IsValidView, IsWrite, Joint, late_apart, late_is, late_number, le-ltb, SetAttribute, LogState, look_takes, LooksAt, number_of, Op, open_of, owes_reply, Read, Remove, Stage, Stands, Stat, StoreState, task, TaskState, Trunc, used_by, view_of, where_none, Write}
use Rattle.in_flight.specs.Lemmas.AtRest.{fits_at_rest}
use Rattle.in_flight.specs.Lemmas.OutsideLog.{sound_cleared}
use Rattle.inodes.specs.Holding.{claim_by, claims_of}
use Rattle.inodes.specs.Lemmas.Holding.{none_held}
use Rattle.inodes.specs.Store.{FitsFiles}

-- a store whose disk has not failed agrees with the disk, and its looks with what is shown
pub record HasAgreed {D : Type 0} (image : D → Image) (s : StoreState D) : Type 0 where
  pub joint : Joint (image s.volume.device) s.volume.buffers s.volume.log
  pub looks : AreLooking (current_of image s.volume) s.table s.tasks
  pub agrees : Agrees s.volume.buffers s.volume.log s.table.inode_count s.tasks

pub agreed_now : {D : Type 0} (image : D → Image) (s : StoreState D) → s.volume.fault ≡ None → IfNone s.volume.fault (Joint (image s.volume.device) s.volume.buffers s.volume.log) → IsStore image s → HasAgreed image s
agreed_now image s well joint store = record { joint = where_none s.volume.fault well joint; looks = where_none s.volume.fault well store.looks; agrees = where_none s.volume.fault well store.agrees }

-- whose task owes no reply holds nothing
pub unread_holds : (u : TaskState) → owes_reply u.stage ≡ false → held_at u ≡ None
unread_holds u unread = ap (λ (b : Bool). cond b (option_map held_by u.op) None) unread

pub over_unread : (a : Stage) → is_over a ≡ true → owes_reply a ≡ false
over_unread Stage.Nowhere over = refl
over_unread (Stage.Creating m) over = refl
over_unread (Stage.Taking m) over = refl
over_unread (Stage.Reading k m) over = absurd (false≢true over)
over_unread (Stage.Delivering k) over = absurd (false≢true over)
over_unread (Stage.Truncating k m) over = refl
over_unread (Stage.Writing k m) over = absurd (false≢true over)
over_unread (Stage.Setting k d u) over = refl
over_unread (Stage.Leaving k) over = refl

pub unturned_unread : (a : Stage) → is_unturned a ≡ true → owes_reply a ≡ false
unturned_unread Stage.Nowhere is = refl
unturned_unread (Stage.Creating m) is = refl
unturned_unread (Stage.Taking m) is = refl
unturned_unread (Stage.Reading k m) is = absurd (false≢true is)
unturned_unread (Stage.Delivering k) is = absurd (false≢true is)
unturned_unread (Stage.Truncating k m) is = refl
unturned_unread (Stage.Writing k m) is = absurd (false≢true is)
unturned_unread (Stage.Setting k d u) is = refl
unturned_unread (Stage.Leaving k) is = refl

-- the number on which the answer of an operation depends that takes an inode is that which it asks for
pub take_number : (n : ℕ) (op : Op) → CanTake n op → number_of op ≡ asked op
take_number n (Create kind) can = absurd can
take_number n (Write i off bytes) can = ap (λ (b : Bool). cond b 0 i) (le-ltb 3072 (length bytes) can.1)
take_number n (Read i off count) can = ap (λ (b : Bool). cond b 0 i) (le-ltb 3072 count can.1)
take_number n (Trunc i) can = refl
take_number n (Remove i) can = refl
take_number n (Stat i) can = refl
take_number n (SetAttribute i a) can = refl

pub look_number : (n : ℕ) (op : Op) → CanLook n op → number_of op ≡ asked op
look_number n op can = take_number n op (look_takes n op can)

-- an operation whose reply may come behind its turn, of a number that operations may name
pub record LateOp (n : ℕ) (op : Op) : Type 0 where
  pub late : is_late op ≡ true
  pub named : IsTrue (is_number n (asked op))
  pub number : number_of op ≡ asked op

write_late : (op : Op) → IsWriteOp op → is_late op ≡ true
write_late (Create kind) w = absurd w
write_late (Write i off bytes) w = refl
write_late (Read i off count) w = absurd w
write_late (Trunc i) w = absurd w
write_late (Remove i) w = absurd w
write_late (Stat i) w = absurd w
write_late (SetAttribute i (Links c)) w = absurd w
write_late (SetAttribute i (Size c)) w = refl

-- such is that of a task whose reply is to come
pub late_op : (n : ℕ) (t : TaskState) (op : Op) → t.op ≡ Some op → IsLate n t → LateOp n op
late_op n t op same (inl r) =
    let is : Read r.number r.offset r.count ≡ op = (let both = sym r.is ∙ same in cc both) in
    subst (LateOp n) is (record { late = refl; named = r.may.0; number = look_number n (Read r.number r.offset r.count) r.may })
late_op n t op same (inr w) =
    let is : w.op ≡ op = (let both : Some w.op ≡ Some op = sym w.is ∙ same in cc both) in
    subst (LateOp n) is (record { late = write_late w.op w.writes; named = write_number n w.op w.writes w.may; number = take_number n w.op w.may })

-- the reply of process q is to come, and it holds the number that it asks for; only a write writes
pub record HoldsLate (n : ℕ) (ts : List TaskState) (q : ℕ) (h : Held) : Type 0 where
  pub late : owes_reply (task ts q).stage ≡ true
  pub number : h.number ≡ asked_by (task ts q).op
  pub writes : h.writes ≡ true → IsWrite n (task ts q)

-- so does who holds something
pub held_late : (cur : Image) (t : Rattle.inodes.specs.Table.TableState) (ts : List TaskState) → AreLooking cur t ts → (q : ℕ) (h : Held) → held_at (task ts q) ≡ Some h → HoldsLate t.inode_count ts q h
held_late cur t ts are q h held = by_place (owes_reply (task ts q).stage) refl
  where
    shown : (op : Op) → owes_reply (task ts q).stage ≡ true → (task ts q).op ≡ Some op → held_by op ≡ h
    shown op is same =
        cc (sym (ap (λ (o : Option Op). option_map held_by o) same) ∙ sym (ap (λ (b : Bool). cond b (option_map held_by (task ts q).op) None) is) ∙ held)

    numbered : (op : Op) → owes_reply (task ts q).stage ≡ true → (task ts q).op ≡ Some op → IsLate t.inode_count (task ts q) → h.number ≡ asked_by (task ts q).op
    numbered op is same late = ap (λ (g : Held). g.number) (sym (shown op is same)) ∙ (late_op t.inode_count (task ts q) op same late).number ∙ sym (ap asked_by same)

    by_late : owes_reply (task ts q).stage ≡ true → IsLate t.inode_count (task ts q) → HoldsLate t.inode_count ts q h
    by_late is (inl r) = record {
      late = is;
      number = numbered (Read r.number r.offset r.count) is r.is (inl r);
      writes = λ writes. absurd (false≢true (ap (λ (g : Held). g.writes) (shown (Read r.number r.offset r.count) is r.is) ∙ writes));
    }
    by_late is (inr w) = record { late = is; number = numbered w.op is w.is (inr w); writes = λ writes. w }

    by_place : (b : Bool) → owes_reply (task ts q).stage ≡ b → HoldsLate t.inode_count ts q h
    by_place false is = let no = sym (unread_holds (task ts q) is) ∙ held in absurd (cc no)
    by_place true is = by_late is (late_is cur t ts are q is)

-- a reading isn't a write
never_writes : (u : TaskState) (n i off count : ℕ) → u.op ≡ Some (Read i off count) → IsWrite n u → ⊥
never_writes u n i off count reads w =
    let same : w.op ≡ Read i off count = (let both : Some w.op ≡ Some (Read i off count) = sym w.is ∙ reads in cc both) in
    subst IsWriteOp same w.writes

-- a write whose reply is to come is open in the log
write_logged : (cur : Image) (t : Rattle.inodes.specs.Table.TableState) (c : Buffers) (l : LogState) (q : ℕ) (u : TaskState) (a : Stage) → LooksAt cur t u a → Stands c l t.inode_count q u.op a → owes_reply a ≡ true → IsWrite t.inode_count u → IsSome (used_by l q)
write_logged cur t c l q u Stage.Nowhere looks stands late w = absurd (false≢true late)
write_logged cur t c l q u (Stage.Creating m) looks stands late w = absurd (false≢true late)
write_logged cur t c l q u (Stage.Taking m) looks stands late w = absurd (false≢true late)
write_logged cur t c l q u (Stage.Reading k m) looks stands late w = absurd (never_writes u t.inode_count looks.op.number looks.op.offset looks.op.count looks.op.is w)
write_logged cur t c l q u (Stage.Delivering k) looks stands late w = absurd (never_writes u t.inode_count looks.op.number looks.op.offset looks.op.count looks.op.is w)
write_logged cur t c l q u (Stage.Truncating k m) looks stands late w = absurd (false≢true late)
write_logged cur t c l q u (Stage.Writing k m) looks stands late w = subst IsSome (sym stands.logged.used) refl
write_logged cur t c l q u (Stage.Setting k d v) looks stands late w = absurd (false≢true late)
write_logged cur t c l q u (Stage.Leaving k) looks stands late w = absurd (false≢true late)

-- while no operation is open in the log, no task holds a number
claims_nothing : (l : LogState) (c : Buffers) (n p i : ℕ) (o : Option Op) (a : Stage) → IsLogAt l.commit l → l.outstanding ≡ 0 → Stands c l n p o a → claim_by o a i ≡ None
claims_nothing l c n p i o Stage.Nowhere log none stands = refl
claims_nothing l c n p i o (Stage.Creating m) log none stands = refl
claims_nothing l c n p i o (Stage.Taking m) log none stands = refl
claims_nothing l c n p i o (Stage.Reading k m) log none stands = refl
claims_nothing l c n p i o (Stage.Delivering k) log none stands = refl
claims_nothing l c n p i o (Stage.Truncating k m) log none stands = absurd (⊎_elim (λ (zero : used_by l p ≡ Some 0). is_out 0 zero) (λ one. is_out 1 one.0) stands.logged)
  where
    is_out : (u : ℕ) → used_by l p ≡ Some u → ⊥
    is_out u used = let some = (open_of l p log (subst IsSome (sym used) refl)).some in omega (arith, some, none)
claims_nothing l c n p i o (Stage.Writing k m) log none stands =
    let some = (open_of l p log (subst IsSome (sym stands.logged.used) refl)).some in absurd (omega (arith, some, none))
claims_nothing l c n p i o (Stage.Setting k d u) log none stands =
    let some = (open_of l p log (subst IsSome (sym stands.used) refl)).some in absurd (omega (arith, some, none))
claims_nothing l c n p i o (Stage.Leaving k) log none stands = refl

-- so its image stands for files as one between operations, and with the log's header cleared it has them
files_quiet : {D : Type 0} (image : D → Image) (s : StoreState D) (m : Files) → HasAgreed image s → s.volume.log.outstanding ≡ 0 → FitsFiles image s m
    → IsSound (cleared (current_of image s.volume)) × (m ≡ files_of (cleared (current_of image s.volume)))
unfolding FitsFiles
files_quiet image s m agreed none fits =
    let l = s.volume.log in
    let free : (i : ℕ) → claims_of s.tasks i ≡ None = λ i. none_held s.tasks i
    (λ q. claims_nothing l s.volume.buffers s.table.inode_count q i (task s.tasks q).op (task s.tasks q).stage agreed.joint.log none (agreed.agrees.stands q)) in
    let quiet = sound_cleared m (current_of image s.volume) ((fits_at_rest m (current_of image s.volume) (claims_of s.tasks) (λ i low high. free i)).1 fits) in
    (quiet.0, sym quiet.1)

-- what a journal asks of a store
pub valid_joint : {D : Type 0} (image : D → Image) (s : StoreState D) (n : ℕ) → s.table.inode_count ≡ n → HasAgreed image s → IsValidView n (view_of image s)
valid_joint image s n same agreed =
    let cur = current_of image s.volume in
    let are = agreed.looks in
    let holds = held_late cur s.table s.tasks are in
    record {
      store = record {
        alone = λ p q g h mine other equal. let one = holds p g mine in let two = holds q h other in late_apart cur s.table s.tasks are p q one.late two.late (sym one.number ∙ equal ∙ two.number);
        logged = λ q h held writes. let its = holds q h held in write_logged cur s.table s.volume.buffers s.volume.log q (task s.tasks q) (task s.tasks q).stage (are.stand q) (agreed.agrees.stands q) its.late (its.writes writes);
        quiet = λ none m fits. files_quiet image s m agreed none fits;
      };
      log = agreed.joint.log;
      numbers = λ q h held. let one = holds q h held in
          subst (λ (k : ℕ). IsTrue (is_number k h.number)) same (subst (λ (i : ℕ). IsTrue (is_number s.table.inode_count i)) (sym one.number) (late_number cur s.table s.tasks are q one.late));
    }
