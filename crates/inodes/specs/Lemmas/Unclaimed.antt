-- Who has locked a number knows what tasks hold of it.
use Rattle.std.proofs.Common.{◌≡◌, ◌≢◌, ℕ, List, refl, sym, ◌∙◌, ap, subst, Option, Some, None, ⊎_elim, true}
use Rattle.inodes.specs.Lemmas.Grips.{locks_exclude}
use Rattle.inodes.specs.Lemmas.Holding.{HoldsAlone, claim_of_one, holding_is, own_holds, own_grows, own_setting}
use Rattle.inodes.specs.Lemmas.Looks.{trunc_locks, write_asks, write_locks, set_locks, copy_is, grip_of_task}
use Rattle.model.specs.Layout.{inode_of}
use Rattle.std.specs.Prelude.{IsTrue}
use Rattle.in_flight.specs.AttributeLaws.{unwritten}
use Rattle.inodes.specs.Iupdate.{UpdateState}
use Rattle.inodes.specs.Common.{AreLooking, asked_by, bytes_by, Claim, claim_by, claim_of, claims_of, copy_at, Dinode, Freeing, frees, grip, grip_by, grip_of, grips_of, growing_of, grows, growth_of, held_of, Image, inode_count_of, is_number, IsWriting, locked_grip, LooksAt, owes_reply, Stage, TableState, task, TaskState, WriteState}

-- no process but p has locked number i
abbrev pub LocksAlone : List TaskState → ℕ → ℕ → Type 0
LocksAlone ts p i = (q k : ℕ) → q ≢ p → grip_of (task ts q) ≡ Some (locked_grip k i) → ⊥

module _ (cur : Image) (t : TableState) (ts : List TaskState) (are : AreLooking cur t ts) where
  -- who holds a number has locked it
  pub claim_locks : (q i : ℕ) (h : Claim) → claim_of (task ts q) i ≡ Some h → (k : ℕ) × (grip_of (task ts q) ≡ Some (locked_grip k i))
  claim_locks q i h claimed =
      let is = holding_is (task ts q).op (task ts q).stage i h claimed in (
        is.0,
        ⊎_elim
            (λ (frees : (m : Freeing) × ((task ts q).stage ≡ Stage.Truncating is.0 m) × (m.machine.number ≡ i)).
            subst (λ (j : ℕ). grip_of (task ts q) ≡ Some (locked_grip is.0 j)) frees.2 (trunc_locks cur t ts are q is.0 frees.0 frees.1))
            (λ others. ⊎_elim
            (λ (writes : (m : WriteState) × ((task ts q).stage ≡ Stage.Writing is.0 m) × (m.number ≡ i)).
            subst (λ (j : ℕ). grip_of (task ts q) ≡ Some (locked_grip is.0 j)) writes.2 (write_locks cur t ts are q is.0 writes.0 writes.1))
            (λ (sets : (d : Dinode) × (u : UpdateState) × ((task ts q).stage ≡ Stage.Setting is.0 d u) × (u.number ≡ i)).
            subst (λ (j : ℕ). grip_of (task ts q) ≡ Some (locked_grip is.0 j)) sets.3 (set_locks cur t ts are q is.0 sets.0 sets.1 sets.2))
            others)
            is.1,
      )

  -- so the one who may have locked it may hold it
  pub holds_alone_of : (p i : ℕ) → LocksAlone ts p i → HoldsAlone ts p i
  holds_alone_of p i alone q apart = by_claim (claim_of (task ts q) i) refl
    where
      by_claim : (o : Option Claim) → claim_of (task ts q) i ≡ o → o ≡ None
      by_claim None none = refl
      by_claim (Some h) claimed = let locked = claim_locks q i h claimed in absurd (alone q locked.0 apart locked.1)

  -- who has locked a number is the only one
  pub one_holder : (p q j k i : ℕ) → grip_of (task ts p) ≡ Some (locked_grip j i) → grip_of (task ts q) ≡ Some (locked_grip k i) → p ≡ q
  one_holder p q j k i mine theirs = locks_exclude t (grips_of ts) cur p q i j k are.table (grip_of_task ts p ∙ mine) (grip_of_task ts q ∙ theirs)

  pub locks_alone : (p k i : ℕ) → grip_of (task ts p) ≡ Some (locked_grip k i) → LocksAlone ts p i
  locks_alone p k i mine q l apart theirs = apart (sym (one_holder p q k l i mine theirs))

  pub holds_alone : (p k i : ℕ) → grip_of (task ts p) ≡ Some (locked_grip k i) → HoldsAlone ts p i
  holds_alone p k i mine = holds_alone_of p i (locks_alone p k i mine)

  -- what is held of a number is what that process holds of it
  pub claim_of_locked : (p k i : ℕ) → grip_of (task ts p) ≡ Some (locked_grip k i) → claims_of ts i ≡ claim_of (task ts p) i
  claim_of_locked p k i mine = claim_of_one ts p i (holds_alone p k i mine)

  -- nothing, where it does not free the blocks of its file
  pub unclaimed : (p k i : ℕ) → grip_of (task ts p) ≡ Some (locked_grip k i) → claim_of (task ts p) i ≡ None → claims_of ts i ≡ None
  unclaimed p k i mine none = claim_of_locked p k i mine ∙ none

  -- and else what is left of them
  pub own_claim : (p k : ℕ) (m : Freeing) → (task ts p).stage ≡ Stage.Truncating k m → claims_of ts m.machine.number ≡ Some (frees (held_of m.machine))
  own_claim p k m at = claim_of_locked p k m.machine.number (trunc_locks cur t ts are p k m at) ∙ ap (λ (a : Stage). claim_by (task ts p).op a m.machine.number) at ∙ own_holds k m

  -- and so is what a write made of them
  pub own_growth : (p k : ℕ) (m : WriteState) → (task ts p).stage ≡ Stage.Writing k m → claims_of ts m.number ≡ Some (grows (growth_of m (task ts p).op))
  own_growth p k m at = claim_of_locked p k m.number (write_locks cur t ts are p k m at) ∙ ap (λ (a : Stage). claim_by (task ts p).op a m.number) at ∙ own_grows (task ts p).op k m

  -- and so is an inode that is written back with an attribute set
  pub own_set : (p k : ℕ) (d : Dinode) (u : UpdateState) → (task ts p).stage ≡ Stage.Setting k d u → claims_of ts u.number ≡ Some (grows (unwritten d))
  own_set p k d u at = claim_of_locked p k u.number (set_locks cur t ts are p k d u at) ∙ ap (λ (a : Stage). claim_by (task ts p).op a u.number) at ∙ own_setting (task ts p).op k d u

  -- a task whose reply is to come has a used inode
  pub late_used : t.inode_count ≡ inode_count_of cur → (p : ℕ) → owes_reply (task ts p).stage ≡ true → (inode_of cur (asked_by (task ts p).op)).kind ≢ 0
  late_used numbers p is = by_place (task ts p).stage refl (are.stand p) (grip_of_task ts p) is
    where
      used : (k : ℕ) (d : Dinode) → grip (grips_of ts) p ≡ Some (locked_grip k (asked_by (task ts p).op)) → copy_at t.places k ≡ Some d → (inode_of cur (asked_by (task ts p).op)).kind ≢ 0
      used k d has copy free =
          let its = copy_is cur t ts are p (asked_by (task ts p).op) k d has copy in
          its.1 (ap (λ (c : Dinode). c.kind) (sym its.0) ∙ free)

      writes : (k : ℕ) (m : WriteState) → (task ts p).stage ≡ Stage.Writing k m → IsWriting cur t.inode_count (task ts p) m → (inode_of cur (asked_by (task ts p).op)).kind ≢ 0
      writes k m at work =
          let names : IsTrue (is_number (inode_count_of cur) m.number) = subst (λ (n : ℕ). IsTrue (is_number n m.number)) numbers work.number in
          let growing = growing_of are.files.0 cur (claims_of ts) m.number (growth_of m (task ts p).op) (record { fits = are.files.1; number = names; holds = own_growth p k m at }) in
          subst (λ (j : ℕ). (inode_of cur j).kind ≢ 0) (sym (write_asks work.op m work.is work.writes)) (λ free. growing.fit.used (sym growing.same_kind ∙ free))

      by_place : (a : Stage) → (task ts p).stage ≡ a → LooksAt cur t (task ts p) a → grip (grips_of ts) p ≡ grip_by a (asked_by (task ts p).op) → owes_reply a ≡ true → (inode_of cur (asked_by (task ts p).op)).kind ≢ 0
      by_place Stage.Nowhere at stands has unlike = absurd (cc unlike)
      by_place (Stage.Creating m) at stands has unlike = absurd (cc unlike)
      by_place (Stage.Taking m) at stands has unlike = absurd (cc unlike)
      by_place (Stage.Reading k m) at stands has is = used k m.inode has stands.copy
      by_place (Stage.Delivering k) at stands has is = used k stands.dinode has stands.copy
      by_place (Stage.Truncating k m) at stands has unlike = absurd (cc unlike)
      by_place (Stage.Writing k m) at stands has is = writes k m at stands
      by_place (Stage.Setting k d u) at stands has unlike = absurd (cc unlike)
      by_place (Stage.Leaving k) at stands has unlike = absurd (cc unlike)
