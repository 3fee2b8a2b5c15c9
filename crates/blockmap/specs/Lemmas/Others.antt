-- What a step leaves to the other processes.
use Rattle.std.proofs.Common.{◌≡◌, ◌≢◌, inl, ⊎_elim, ℕ, ◌<◌, Bool, true, false, cond, length, refl, sym, ◌∙◌, ap, subst, Option, Some, None}
use Rattle.std.specs.Prelude.{is_some}
use Rattle.blockmap.specs.Common.{appended, Buffers, cases_eq, FailsToFill, Get, get_or-set_other, get_or-set_same, GetsFor, Ghosts, is_among, LogState, noted, one_used, OnFault, Progress, progress_of, SameGroups, used_by, VolumeState}
use Rattle.blocks.specs.declared.errors.DiskFault.{DiskFault}
use Rattle.wal.specs.Get as get
use Rattle.wal.specs.Held.{HasLock, HoldsBlock, GetsLock, GivesUpLock}
use Rattle.wal.specs.Lemmas.Rooms.{noted_grows, used_noted}

-- ---- what the others hold

-- what the others hold and have in the log stays, while process p works
pub record StaysForOthers (c d : Buffers) (l m : LogState) (p : ℕ) : Type 0 where
  pub holds : (q b i : ℕ) → q ≢ p → HoldsBlock c q b i → HoldsBlock d q b i
  pub locks : (q b i : ℕ) → q ≢ p → HasLock d q b i → HasLock c q b i
  pub used : (q : ℕ) → q ≢ p → used_by m q ≡ used_by l q
  pub among : (b : ℕ) → is_among b l.homes ≡ true → is_among b m.homes ≡ true

pub stays_same : (c : Buffers) (l : LogState) (p : ℕ) → StaysForOthers c c l l p
stays_same c l p = record { holds = λ q b i apart has. has; locks = λ q b i apart has. has; used = λ q apart. refl; among = λ b has. has }

-- where it gets a lock
pub stays_got : (c d : Buffers) (l : LogState) (p b i : ℕ) → GetsLock c d p b i → StaysForOthers c d l l p
stays_got c d l p b i gets = record {
  holds = λ q a j apart has. gets.held q a j has;
  locks = λ q a j apart has. ⊎_elim (λ (was : HasLock c q a j). was) (λ mine. absurd (apart mine.0)) (gets.takes q a j has);
  used = λ q apart. refl;
  among = λ a has. has;
}

-- where it gives one up
pub stays_left : (c d : Buffers) (l : LogState) (p i : ℕ) → GivesUpLock c d p i → StaysForOthers c d l l p
stays_left c d l p i gives = record {
  holds = λ q a j apart has. gives.others q a j (inl apart) has;
  locks = λ q a j apart has. gives.none q a j has;
  used = λ q apart. refl;
  among = λ a has. has;
}

-- and where what it gives up was logged
pub stays_noted : (c d : Buffers) (l : LogState) (p i b : ℕ) → GivesUpLock c d p i → StaysForOthers c d l (noted l p b) p
stays_noted c d l p i b gives = record {
  holds = λ q a j other has. gives.others q a j (inl other) has;
  locks = λ q a j other has. gives.none q a j has;
  used = λ q other. used_noted l p q b other;
  among = λ a has. noted_grows l p b a has;
}

-- ---- the groups of the log

-- the log has the same groups, whatever an operation logs
pub groups_noted : (l : LogState) (p b : ℕ) → p < length l.used → SameGroups l (noted l p b)
groups_noted l p b lt = by_home (is_among b l.homes)
  where
    one_more : (o : Option ℕ) → is_some (one_used o) ≡ is_some o
    one_more None = refl
    one_more (Some u) = refl

    used : (q : ℕ) → is_some (used_by (appended l p b) q) ≡ is_some (used_by l q)
    used q = ⊎_elim
        (λ (same : q ≡ p). subst (λ (k : ℕ). is_some (used_by (appended l p b) k) ≡ is_some (used_by l k)) (sym same) (ap is_some (get_or-set_same l.used p (one_used (used_by l p)) None lt) ∙ one_more (used_by l p)))
        (λ (apart : q ≢ p). ap is_some (get_or-set_other l.used p q (one_used (used_by l p)) None apart))
        (cases_eq q p)

    by_home : (t : Bool) → SameGroups l (cond t l (appended l p b))
    by_home true = record { size = refl; outstanding = refl; opened = refl; committed = refl; commit = refl; used = λ q. refl }
    by_home false = record { size = refl; outstanding = refl; opened = refl; committed = refl; commit = refl; used = used }

pub groups_same : (l : LogState) → SameGroups l l
groups_same l = record { size = refl; outstanding = refl; opened = refl; committed = refl; commit = refl; used = λ q. refl }

-- the block at which a machine fails that gets it
pub gets_fails : {D N T : Type 0} (disk : Ghosts D N) (v : VolumeState D) (p b : ℕ) (fault : DiskFault) (slot : Option ℕ) (w : VolumeState D) → GetsFor {T = T} disk v p b (Progress.Fault fault) slot w → fault.0 ≡ b
gets_fails {T = T} disk v p b fault slot w got = by_answer got.answer got.gives got.gets.failed
  where
    by_answer : (x : Get) → Progress.Fault fault ≡ progress_of {T = T} x → OnFault x (FailsToFill v.buffers w.buffers p b) → fault.0 ≡ b
    by_answer (get.Got i) is failed = absurd (cc is)
    by_answer (get.Sleeping why) is failed = absurd (cc is)
    by_answer (get.Fault other) is failed = let same : fault ≡ other = cc is in ap (λ (f : DiskFault). f.0) same ∙ failed.block
