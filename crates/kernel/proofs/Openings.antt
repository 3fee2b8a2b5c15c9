-- What a kernel that is opened has.
use Rattle.std.proofs.Common.{get_or, ◌≡◌, ℕ, ◌+◌, ◌*◌, ◌<◌, ◌≤◌, true, cond, List, [], length, replicate, refl, sym, ◌∙◌, ap, subst, arith, ⊎_elim, None, Err, inl, inr}
use Rattle.std.specs.Prelude.{count_by, Result, Ok, IfOk, OnErr, ◌⊎◌}
use Rattle.std.proofs.lemmas.List.Folds.{sum_by-replicate}
use Rattle.kernel.specs.Common.{ArePaired, block_at, cases_lt, counted, empty_lawful, Entry, facts_of, false≢true, Form, form_of, fresh_world, get_or-replicate, get_or_past, Ghosts, idle, Image, inode_count_of, is_before, is_known_magic, is_lawful_log, is_lawful_super, is_over, IsCounted, IsPaired, Keeps, length-recovered, length-replicate, logged_count, logged_count-left, long_geometry, new_table, no_task, OnlyReads, OnNoMemory, Process, process, recovered, recovered_low, Recovers, RefusesToRecover, sound_verdict, StoreState, Super, super_of, syncs_to_recover, task, TaskState, u32_at, verdict, verdict_sound, VolumeState}
use Rattle.model.specs.Lemmas.Super.{super_of-recovered}
use Rattle.wal.specs.declared.faults.RecoverFault.{RecoverFault}
use Rattle.kernel.specs.Lemmas.Openings.{lawful_super}
use Rattle.kernel.specs.Device.{SameUse, counts_of}
use Rattle.kernel.specs.Opening.{MayWrite, IsRecoverCause, UnlessDisk}
use Rattle.kernel.specs.declared.types.OpenFault.TheVariants.{Recover}

pub super_size : (x : Image) (sup : Super) → verdict x ≡ None → sup ≡ super_of x → sup.size ≡ length x
super_size x sup none is = ap (λ (s : Super). s.size) is ∙ (facts_of x (verdict_sound x none).0).size

pub lawful_here : (x : Image) (sup : Super) → verdict x ≡ None → sup ≡ super_of x → is_lawful_super sup sup.size ≡ true
lawful_here x sup none is = ap (is_lawful_super sup) (super_size x sup none is) ∙ lawful_super x sup none is

-- an image that keeps some count of groups has no fault, and so can be opened again
pub opens_again : (opening x : Image) (journal : List Entry) (c : ℕ) → Keeps opening journal x c → verdict x ≡ None
opens_again opening x journal c k =
    let long = long_geometry (recovered x) k.sound.geometry in
    let size = length-recovered x in
    let one = recovered_low x 1 k.log (omega arith) (omega arith) (omega (arith, long, size)) in
    sound_verdict x (
      record {
        magic = ap (λ b. is_known_magic (u32_at b 0)) (sym one) ∙ k.sound.geometry.magic;
        fields = ap (λ s. is_lawful_super s (length x)) (sym (super_of-recovered x k.log (omega (arith, long, size))))
            ∙ ap (is_lawful_super (super_of (recovered x))) (sym size) ∙ k.sound.geometry.fields;
      },
      k.log,
      k.sound,
    )

-- the fault of a recovery after that check
pub recover_cause : {D N : Type 0} (T : Type 0) (disk : Ghosts D N) (d e f : D) (fault : RecoverFault) → verdict (disk.image d) ≡ None → OnlyReads disk d e → disk.fault_count e ≡ disk.fault_count d → RefusesToRecover {T = T} disk e f (Err fault)
    → IsRecoverCause disk d f fault
recover_cause T disk d e f RecoverFault.Disk none reads same r = let once = r.fault in omega (arith, once, same)
recover_cause T disk d e f RecoverFault.BadLog none reads same r = false≢true (sym r.bad ∙ ap is_lawful_log reads.image ∙ (verdict_sound (disk.image d) none).1)
recover_cause T disk d e f RecoverFault.NoMemory none reads same r = tt
recover_cause T disk d e f RecoverFault.Sync none reads same r = (let once = r.unsynced in omega (arith, once, same), sym (ap disk.holding reads.name) ∙ r.holds)

-- the syncs of an opening
pub syncs_at_open : {D N : Type 0} (disk : Ghosts D N) (d e f : D) (n : ℕ) → OnlyReads disk d e → Recovers disk n e f → disk.sync_count f ≡ counted (disk.sync_count d) (syncs_to_recover (disk.holding (disk.name d)) (logged_count (disk.image d)))
syncs_at_open disk d e f n reads r =
    r.settles.syncs ∙ ap (λ h. counted (disk.sync_count e) (syncs_to_recover h n)) (ap disk.holding reads.name)
    ∙ ap (λ m. counted (disk.sync_count e) (syncs_to_recover (disk.holding (disk.name d)) m)) (r.count ∙ ap logged_count reads.image)
    ∙ ap (λ c. counted c (syncs_to_recover (disk.holding (disk.name d)) (logged_count (disk.image d)))) reads.syncs

-- a list of the same everywhere
pub same_at : {A : Type 0} (n p : ℕ) (a : A) → get_or (replicate n a) p a ≡ a
same_at {A} n p a = ⊎_elim (λ (low : p < n). get_or-replicate n p a a low) (λ (high : n ≤ p). get_or_past (replicate n a) p a (omega (arith, length-replicate {A = A} n a))) (cases_lt p n)

-- each process is idle
pub idle_at : (n p : ℕ) → process (fresh_world n) p ≡ idle
idle_at n p = same_at n p idle

mul_zero : (n : ℕ) → n * 0 ≡ 0
mul_zero n = omega arith

none_before : (n : ℕ) → count_by (λ (q : Process). is_before q.at) (replicate n idle) ≡ 0
none_before n = sum_by-replicate (λ (q : Process). cond {A = ℕ} (is_before q.at) 1 0) n idle ∙ mul_zero n

-- as many inode numbers as the image that was checked
pub opened_numbers : (x y : Image) (sup : Super) → verdict x ≡ None → sup ≡ super_of x → y ≡ recovered x → sup.ninodes ≡ inode_count_of y
opened_numbers x y sup none new is =
    let sound = verdict_sound x none in
    let long = long_geometry x sound.0 in
    ap (λ (s : Super). s.ninodes) (new ∙ sym (super_of-recovered x sound.1 (omega (arith, long)))) ∙ sym (ap inode_count_of is)

-- and of the form that it has
pub opened_form : (x y : Image) (form : Form) → verdict x ≡ None → form ≡ form_of x → y ≡ recovered x → form ≡ form_of y
opened_form x y form none told is =
    let sound = verdict_sound x none in
    told ∙ sym (form_alike (recovered x) x (recovered_low x 1 sound.1 (omega arith) (omega arith) (omega (arith, (long_geometry x sound.0))))) ∙ sym (ap form_of is)
  where
    form_alike : (y x : Image) → block_at y 1 ≡ block_at x 1 → form_of y ≡ form_of x
    form_alike y x same = rw same refl

pub counted_new : (opened n : ℕ) → opened ≡ 0 → IsCounted opened (fresh_world n)
counted_new opened n none = record {
  room = sym (none_before n);
  begun = λ p. subst (λ (q : Process). q.begun ≤ 0 + cond {A = ℕ} (is_before q.at) 1 0) (sym (idle_at n p)) (omega arith);
  groups = omega (arith, none);
}

pub paired_new : {D : Type 0} (s : StoreState D) (n : ℕ) → s.tasks ≡ replicate n no_task → 1 ≤ n → n ≤ 32 → ArePaired s (fresh_world n)
paired_new s n is some few = record {
  many = ap (λ (ts : List TaskState). length ts) is ∙ length-replicate n no_task ∙ sym (length-replicate n idle);
  some = omega (arith, some, length-replicate n idle);
  few = omega (arith, few, length-replicate n idle);
  stand = λ p. subst (λ (q : Process). IsPaired [] (task s.tasks p) q.at q.room) (sym (idle_at n p)) (record { stands = ap (λ (t : TaskState). is_over t.stage) (ap (λ (ts : List TaskState). task ts p) is ∙ same_at n p no_task); room_is = λ busy. absurd (false≢true busy) });
}

-- what holds of each answer, and of each refusal
pub where_ok : {A B : Type 0} (P Q : A → Type 0) (r : Result A B) → ((a : A) → P a → Q a) → IfOk r P → IfOk r Q
where_ok P Q (Ok a) goes p = goes a p
where_ok P Q (Err b) goes p = p

pub where_both : {A B : Type 0} (P Q : A → Type 0) (r : Result A B) → IfOk r P → IfOk r Q → IfOk r (λ a. P a × Q a)
where_both P Q (Ok a) p q = (p, q)
where_both P Q (Err b) p q = p

pub where_err : {A B : Type 0} (P Q : Type 0) (r : Result A B) → (P → Q) → OnErr r P → OnErr r Q
where_err P Q (Ok a) goes p = p
where_err P Q (Err b) goes p = goes p

-- what a recovery leaves has an empty log
pub empty_left : (x y : Image) → y ≡ recovered x → is_lawful_log y ≡ true
empty_left x y is = empty_lawful y (ap logged_count is ∙ logged_count-left x)

-- only a recovery that failed by the disk, or by a sync, may have written
pub recover_unwritten : {D N : Type 0} (T : Type 0) (disk : Ghosts D N) (d e f : D) (fault : RecoverFault) → OnlyReads disk d e → IsRecoverCause disk d f fault → OnNoMemory {T = T} (Err fault) (f ≡ e)
    → MayWrite (Recover fault) ⊎ ((disk.image f ≡ disk.image d) × SameUse (counts_of disk d) (counts_of disk f))
recover_unwritten T disk d e f RecoverFault.Disk reads cause same = inl tt
recover_unwritten T disk d e f RecoverFault.BadLog reads cause same = absurd cause
recover_unwritten T disk d e f RecoverFault.NoMemory reads cause same = inr (ap disk.image same ∙ reads.image, (ap disk.write_count same ∙ reads.writes, ap disk.sync_count same ∙ reads.syncs))
recover_unwritten T disk d e f RecoverFault.Sync reads cause same = inl tt

-- no failed call of the disk is told as anything else
pub recover_faults : {D N : Type 0} (T : Type 0) (disk : Ghosts D N) (d e f : D) (fault : RecoverFault) → disk.fault_count e ≡ disk.fault_count d → IsRecoverCause disk d f fault → OnNoMemory {T = T} (Err fault) (f ≡ e)
    → UnlessDisk (Recover fault) (disk.fault_count f ≡ disk.fault_count d)
recover_faults T disk d e f RecoverFault.Disk kept cause same = tt
recover_faults T disk d e f RecoverFault.BadLog kept cause same = absurd cause
recover_faults T disk d e f RecoverFault.NoMemory kept cause same = ap disk.fault_count same ∙ kept
recover_faults T disk d e f RecoverFault.Sync kept cause same = tt

-- a store by its parts
pub store_is : {D : Type 0} (v u : VolumeState D) (ts us : List TaskState) (f g : Form) (m n : ℕ) → v ≡ u → ts ≡ us → f ≡ g → m ≡ n
    → (let made : StoreState D = record { volume = v; tasks = ts; table = new_table f m } in made) ≡ record { volume = u; tasks = us; table = new_table g n }
store_is v u ts us f g m n volume tasks form numbers =
    ap (λ (w : VolumeState _). record { volume = w; tasks = ts; table = new_table f m }) volume ∙ ap (λ (l : List TaskState). record { volume = u; tasks = l; table = new_table f m }) tasks
    ∙ ap (λ (h : Form). record { volume = u; tasks = us; table = new_table h m }) form ∙ ap (λ (k : ℕ). record { volume = u; tasks = us; table = new_table g k }) numbers
