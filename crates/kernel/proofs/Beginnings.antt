-- What is true of store and processes stays so where an operation begins or is answered at once.
use Rattle.std.proofs.Common.{◌≡◌, ◌≢◌, ℕ, ◌+◌, ◌<◌, ◌≤◌, Bool, true, false, not, cond, eqb, ltb, length, length-set, refl, sym, ◌∙◌, ap, subst, arith, ⊎_elim, Option, Some, None}
use Rattle.std.specs.Option.{option_map}
use Rattle.std.specs.Prelude.{IfSome}
use Rattle.kernel.specs.Common.{alone_begun, alone_taken, at_once_journal, at_once_reply, at_same, ats_of, begin_cause, begun, CanBegin, CanLook, cases_eq, change_fits, counted_refused, counted_taken, Create, DeviceFault, first_stage, form_of, get_or-set_other, Ghosts, HasValue, HasFacts, HasRoom, inode_count_of, inv_at_once, inv_begun, inv_taken, is_at_once, is_changing, is_committing_at, is_kind, is_number, is_over, IsItsRoom, IsRight, KeepsFiles, kind_of, le-leb, SetAttribute, LogState, ltb-false, no_task, not-false, Op, or_parts, others_back, others_stay, Phase, Process, process, Read, refused, Remove, room_for, Stat, StoreState, taken, task, TaskStands, there_now, Trunc, view_of, OpClass, class_of, where_none, with_begun, with_look, with_more_room, World, Write}
use Rattle.kernel.specs.Lasting.{Lasts}
use Rattle.kernel.proofs.LogCalls.{logs_begun, logs_looked}
use Rattle.kernel.proofs.Valid.{HasAgreed, valid_joint}
use Rattle.kernel.proofs.Pairing.{paired_goes, keeps_behind, task_begun, begins_unturned}
use Rattle.kernel.proofs.Right.{right_well}

-- an operation that changes files, and is not refused at once, may begin
pub change_begins : (n : ℕ) (op : Op) → HasValue op → class_of n op ≡ OpClass.Change → CanBegin n op × (is_changing n op ≡ true)
change_begins n op count e = by_once (is_at_once n op) refl e
  where
    by_kind : (o : Op) → HasValue o → is_at_once n o ≡ false → kind_of o ≡ OpClass.Change → CanBegin n o × (is_changing n o ≡ true)
    by_kind (Create kind) count out e = let is = not-false (is_kind kind) out in (is, is)
    by_kind (Write i off bytes) count out e =
        let both = or_parts (ltb 3072 (length bytes)) (not (is_number n i)) out in
        let few = ltb-false 3072 (length bytes) both.0 in
        let named = not-false (is_number n i) both.1 in
        ((named, few), rw (le-leb (length bytes) 3072 few, named) refl)
    by_kind (Read i off m) count out e = absurd (cc e)
    by_kind (Trunc i) count out e = let is = not-false (is_number n i) out in (is, is)
    by_kind (Remove i) count out e = let is = not-false (is_number n i) out in (is, is)
    by_kind (Stat i) count out e = absurd (cc e)
    by_kind (SetAttribute i a) count out e = let is = not-false (is_number n i) out in ((is, count), is)

    by_once : (b : Bool) → is_at_once n op ≡ b → cond b OpClass.Refused (kind_of op) ≡ OpClass.Change → CanBegin n op × (is_changing n op ≡ true)
    by_once true once e = absurd (cc e)
    by_once false once e = by_kind op count once e

-- an operation that looks at a file, and has room for so many bytes: it may begin, and changes nothing
pub record IsLook (n : ℕ) (op : Op) (count : Option ℕ) : Type 0 where
  pub can : CanLook n op
  pub read : HasRoom op (room_for count)
  pub answer : IsItsRoom (Some op) (room_for count)
  pub still : is_changing n op ≡ false
  pub later : is_at_once n op ≡ false

pub look_begins : (n : ℕ) (op : Op) (count : Option ℕ) → class_of n op ≡ OpClass.Look count → IsLook n op count
look_begins n op count e = by_once (is_at_once n op) refl e
  where
    counted : (o : Op) (c : Option ℕ) → c ≡ count → IsLook n o c → IsLook n o count
    counted o c same is = subst (λ (d : Option ℕ). IsLook n o d) same is

    by_kind : (o : Op) → is_at_once n o ≡ false → kind_of o ≡ OpClass.Look count → IsLook n o count
    by_kind (Create kind) out e = absurd (cc e)
    by_kind (Write i off bytes) out e = absurd (cc e)
    by_kind (Read i off m) out e =
        let both = or_parts (ltb 3072 m) (not (is_number n i)) out in
        counted (Read i off m) (Some m) (cc e) (record { can = (not-false (is_number n i) both.1, ltb-false 3072 m both.0); read = refl; answer = refl; still = refl; later = out })
    by_kind (Trunc i) out e = absurd (cc e)
    by_kind (Remove i) out e = absurd (cc e)
    by_kind (Stat i) out e = counted (Stat i) None (cc e) (record { can = not-false (is_number n i) out; read = refl; answer = tt; still = refl; later = out })
    by_kind (SetAttribute i a) out e = absurd (cc e)

    by_once : (b : Bool) → is_at_once n op ≡ b → cond b OpClass.Refused (kind_of op) ≡ OpClass.Look count → IsLook n op count
    by_once true once e = absurd (cc e)
    by_once false once e = by_kind op once e

-- what is refused is what is answered at once
pub refused_at_once : (n : ℕ) (op : Op) → class_of n op ≡ OpClass.Refused → is_at_once n op ≡ true
refused_at_once n op e = by_once (is_at_once n op) refl e
  where
    never : (o : Op) → kind_of o ≡ OpClass.Refused → ⊥
    never (Create kind) e = cc e
    never (Write i off bytes) e = cc e
    never (Read i off m) e = cc e
    never (Trunc i) e = cc e
    never (Remove i) e = cc e
    never (Stat i) e = cc e
    never (SetAttribute i a) e = cc e

    by_once : (b : Bool) → is_at_once n op ≡ b → cond b OpClass.Refused (kind_of op) ≡ OpClass.Refused → is_at_once n op ≡ true
    by_once true once e = once
    by_once false once e = absurd (never op e)

-- one group more at most
opened_more : (l : LogState) (p : ℕ) → (begun l p).opened ≤ l.opened + 1
opened_more l p = by_first (eqb l.outstanding 0)
  where
    by_first : (t : Bool) → cond t (l.opened + 1) l.opened ≤ l.opened + 1
    by_first true = omega arith
    by_first false = omega arith

module _ {D N : Type 0} (disk : Ghosts D N) (opening : D) (s : StoreState D) (w : World) (right : IsRight disk opening s w) (well : s.volume.fault ≡ None) (p : ℕ) (lt : p < length w.processes)
    (stands : (process w p).at ≡ Phase.Idle) where
  had : HasFacts disk.image (disk.image opening) s w
  had = where_none _ well right.facts

  inside_tasks : p < length s.tasks
  inside_tasks = let many = right.paired.many in omega (arith, lt, many)

  over_here : is_over (task s.tasks p).stage ≡ true
  over_here = subst (λ (a : Phase). TaskStands w.journal.list (task s.tasks p) a) stands (right.paired.stand p).stands

  -- an operation that looks at a file is taken, and none of the log's
  pub right_looked : (op : Op) (count : Option ℕ) → class_of s.table.inode_count op ≡ OpClass.Look count → HasAgreed disk.image (with_look s p op (room_for count)) → KeepsFiles disk.image s (with_look s p op (room_for count))
      → IsRight disk opening (with_look s p op (room_for count)) (taken (with_more_room w) p 0 op (room_for count))
  right_looked op count look agreed keeps =
      let n = inode_count_of (disk.image opening) in
      let room = room_for count in
      let t = with_look s p op room in
      let z = taken (with_more_room w) p 0 op room in
      let u : Process = record { begun = (process w p).begun + 1; at = Phase.BeforeTurn 0 op; room = room } in
      let others : (q : ℕ) → q ≢ p → ats_of z q ≡ ats_of w q = λ q apart. ap (λ (r : Process). r.at) (others_stay w z p u refl q apart) in
      let now : ats_of z p ≡ Phase.BeforeTurn 0 op = ap (λ (r : Process). r.at) (there_now w z p u refl lt) in
      let is = look_begins n op count (subst (λ (k : ℕ). class_of k op ≡ OpClass.Look count) right.numbers look) in
      right_well disk opening t z well right.numbers
      (paired_goes s t w z p u right.paired lt refl (length-set s.tasks p _) (λ q apart. get_or-set_other s.tasks p q _ no_task apart) (keeps_behind w z p refl)
      (task_begun s w.journal.list p 0 op _ room room inside_tasks refl is.answer))
      (counted_taken s.volume.log.opened p w right.counted lt s.volume.log.opened 0 op room stands (omega arith))
      (record {
        facts = inv_taken (disk.image opening) (view_of disk.image s) (view_of disk.image t) w.journal.list (ats_of w) had.facts
            (valid_joint disk.image t n right.numbers agreed) p (ats_of z) others op (logs_looked disk.image s t p keeps op room refl inside_tasks over_here) stands now is.still is.later;
        alone = alone_taken (ats_of w) (ats_of z) s.volume.log had.alone p others (ap is_committing_at stands) (ap is_committing_at now);
      })
      (right.faults ∙ ap (λ (o : Option _). Rattle.wal.specs.Volume.faults_after o (disk.fault_count opening)) well)

  -- an operation is taken, and open in the log
  pub right_taken : (op : Op) → HasValue op → class_of s.table.inode_count op ≡ OpClass.Change → begin_cause s.volume.log ≡ None
      → HasAgreed disk.image (with_begun s p op) → KeepsFiles disk.image s (with_begun s p op)
      → IsRight disk opening (with_begun s p op) (taken (with_more_room w) p (begun s.volume.log p).opened op None)
  right_taken op count change free agreed keeps =
      let n = inode_count_of (disk.image opening) in
      let t = with_begun s p op in
      let z = taken (with_more_room w) p (begun s.volume.log p).opened op None in
      let u : Process = record { begun = (process w p).begun + 1; at = Phase.BeforeTurn (begun s.volume.log p).opened op; room = None } in
      let others : (q : ℕ) → q ≢ p → ats_of z q ≡ ats_of w q = λ q apart. ap (λ (r : Process). r.at) (others_stay w z p u refl q apart) in
      let now : ats_of z p ≡ Phase.BeforeTurn (begun s.volume.log p).opened op = ap (λ (r : Process). r.at) (there_now w z p u refl lt) in
      let begins = change_begins n op count (subst (λ (k : ℕ). class_of k op ≡ OpClass.Change) right.numbers change) in
      let inside : p < length s.volume.log.used = let few = right.paired.few in let pids = had.facts.valid.log.pids in omega (arith, lt, few, pids) in
      right_well disk opening t z well right.numbers
      (paired_goes s t w z p u right.paired lt refl (length-set s.tasks p _) (λ q apart. get_or-set_other s.tasks p q _ no_task apart) (keeps_behind w z p refl)
      (task_begun s w.journal.list p (begun s.volume.log p).opened op (first_stage op s.table.inode_count) None None inside_tasks (begins_unturned op s.table.inode_count (subst (λ (k : ℕ). CanBegin k op) (sym right.numbers) begins.0)) (change_fits n op None begins.1)))
      (counted_taken s.volume.log.opened p w right.counted lt (begun s.volume.log p).opened (begun s.volume.log p).opened op None stands (opened_more s.volume.log p))
      (record {
        facts = inv_begun (disk.image opening) (view_of disk.image s) (view_of disk.image t) w.journal.list (ats_of w) had.facts
            (valid_joint disk.image t n right.numbers agreed) p (ats_of z) others op (logs_begun disk.image s t p keeps op refl inside_tasks over_here) stands now begins.1 inside;
        alone = alone_begun (ats_of w) (ats_of z) s.volume.log had.alone p others free (ap is_committing_at now);
      })
      (right.faults ∙ ap (λ (o : Option _). Rattle.wal.specs.Volume.faults_after o (disk.fault_count opening)) well)

  -- an operation is answered at once
  pub right_refused : (op : Op) → class_of s.table.inode_count op ≡ OpClass.Refused → IsRight disk opening s (refused (with_more_room w) p op (at_once_reply op))
  right_refused op refusal =
      let z = refused (with_more_room w) p op (at_once_reply op) in
      let u : Process = record (process w p) { begun = (process w p).begun + 1 } in
      let others : (q : ℕ) → q ≢ p → ats_of z q ≡ ats_of w q = λ q apart. ap (λ (r : Process). r.at) (others_stay w z p u refl q apart) in
      let now : ats_of z p ≡ ats_of w p = ap (λ (r : Process). r.at) (there_now w z p u refl lt) in
      let same : (q : ℕ) → ats_of z q ≡ ats_of w q = λ q. ⊎_elim (λ (e : q ≡ p). ap (ats_of z) e ∙ now ∙ ap (ats_of w) (sym e)) (λ (e : q ≢ p). others q e) (cases_eq q p) in
      let n = inode_count_of (disk.image opening) in
      let once = subst (λ (k : ℕ). is_at_once k op ≡ true) right.numbers (refused_at_once s.table.inode_count op refusal) in
      right_well disk opening s z well right.numbers
      (paired_goes s s w z p u right.paired lt refl refl (λ q apart. refl)
      (λ q apart g k e there. others_back (disk.image opening) (view_of disk.image s) w.journal.list z.journal.list (ats_of w) had.facts n p s.volume.log.committed (at_once_journal n p s.volume.log.committed ((process w p).begun + 1) w.journal.list op once) q apart g k e there)
      (record { stands = subst (λ (a : Phase). TaskStands z.journal.list (task s.tasks p) a) (sym stands) over_here; room_is = (right.paired.stand p).room_is }))
      (counted_refused s.volume.log.opened p w right.counted lt op (at_once_reply op) stands)
      (record {
        facts = at_same (disk.image opening) (view_of disk.image s) z.journal.list (ats_of w) (ats_of z) same
            (inv_at_once (disk.image opening) (view_of disk.image s) w.journal.list (ats_of w) had.facts p ((process w p).begun + 1) op stands once);
        alone = alone_taken (ats_of w) (ats_of z) s.volume.log had.alone p others (ap is_committing_at stands) (ap is_committing_at (now ∙ stands));
      })
      (right.faults ∙ ap (λ (o : Option _). Rattle.wal.specs.Volume.faults_after o (disk.fault_count opening)) well)

-- a shutdown changes nothing of it
pub right_shut : {D N : Type 0} (disk : Ghosts D N) (opening : D) (s : StoreState D) (w : World) (b : Bool) → IsRight disk opening s w → IsRight disk opening s (record w { is_shut = b })
right_shut disk opening s w b right = record {
  numbers = right.numbers;
  paired = record { many = right.paired.many; some = right.paired.some; few = right.paired.few; stand = right.paired.stand };
  counted = record { room = right.counted.room; begun = right.counted.begun; groups = right.counted.groups };
  near = right.near;
  facts = Rattle.inodes.specs.Lemmas.Faults.if_well s.volume.fault (λ (f : HasFacts disk.image (disk.image opening) s w). record { facts = f.facts; alone = f.alone }) right.facts;
  lasts = shut_lasts s.volume.fault right.lasts;
  journal = right.journal;
  replays = record { files = right.replays.files; run = right.replays.run };
  keeps = right.keeps;
  faults = right.faults;
}
  where
    shut_lasts : (o : Option DeviceFault) → IfSome o (λ (f : DeviceFault). Lasts disk.image (form_of (disk.image opening)) s w) → IfSome o (λ (f : DeviceFault). Lasts disk.image (form_of (disk.image opening)) s (record w { is_shut = b }))
    shut_lasts None lasts = tt
    shut_lasts (Some fault) lasts = record { locks = lasts.locks; unanswered = λ k e is none. (let u = lasts.unanswered k e is none in record { late = u.late; group = u.group; behind = u.behind }); left = lasts.left }

-- the first that waits is of this kind
pub first_waits : {o : Option Op} (n : ℕ) (op : Op) (what : OpClass) → Some op ≡ o → option_map (class_of n) o ≡ Some what → class_of n op ≡ what
first_waits {o} n op what is waits = let now : Some (class_of n op) ≡ Some what = ap (option_map (class_of n)) is ∙ waits in cc now
