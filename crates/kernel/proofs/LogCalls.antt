-- The calls of a store that begin and end an operation, as a journal sees them.
use Rattle.std.proofs.Common.{◌≡◌, ◌≢◌, ℕ, ◌<◌, true, false, List, length, set, refl, ◌∙◌, sym, ap, ⊎_elim, Option}
use Rattle.kernel.specs.Common.{begun, CallsLog, cases_eq, Create, current_of, ended, first_stage, GatheredBytes, get_or-set_other, get_or-set_same, held_at, Image, is_over, KeepsFiles, SetAttribute, LogState, no_task, Op, owes_reply, Read, Remove, Stat, StoreState, task, TaskState, Trunc, view_of, VolumeState, with_begun, with_log, with_look, Write}
use Rattle.kernel.proofs.Valid.{over_unread, unread_holds}

-- a task that begins reads nothing yet
first_unread : (op : Op) (n : ℕ) → owes_reply (first_stage op n) ≡ false
first_unread (Create kind) n = refl
first_unread (Write i off bytes) n = refl
first_unread (Read i off m) n = refl
first_unread (Trunc i) n = refl
first_unread (Remove i) n = refl
first_unread (Stat i) n = refl
first_unread (SetAttribute i a) n = refl

module _ {D : Type 0} (image : D → Image) (old new : StoreState D) (p : ℕ) (files : KeepsFiles image old new) where
  -- whatever the log is then
  calls : (l : LogState) → new.volume ≡ record old.volume { log = l } → ((q : ℕ) → held_at (task new.tasks q) ≡ held_at (task old.tasks q)) → CallsLog l (view_of image old) (view_of image new)
  calls l is holds = record {
    log = ap (λ (v : VolumeState D). v.log) is;
    disk = ap (λ (v : VolumeState D). image v.device) is;
    current = ap (λ (v : VolumeState D). current_of image v) is;
    holds = holds;
    files = files;
  }

  -- a process whose task was over begins another
  begins : (u : TaskState) → new.tasks ≡ set old.tasks p u → p < length old.tasks → is_over (task old.tasks p).stage ≡ true → owes_reply u.stage ≡ false → (q : ℕ) → held_at (task new.tasks q) ≡ held_at (task old.tasks q)
  begins u is lt over unread q = ⊎_elim
      (λ (same : q ≡ p). ap (λ (r : ℕ). held_at (task new.tasks r)) same ∙ ap held_at (ap (λ (ts : List TaskState). task ts p) is ∙ get_or-set_same old.tasks p u no_task lt) ∙ unread_holds u unread
      ∙ sym (unread_holds (task old.tasks p) (over_unread (task old.tasks p).stage over)) ∙ ap (λ (r : ℕ). held_at (task old.tasks r)) (sym same))
      (λ (apart : q ≢ p). ap held_at (ap (λ (ts : List TaskState). task ts q) is ∙ get_or-set_other old.tasks p q u no_task apart))
      (cases_eq q p)

  pub logs_begun : (op : Op) → new ≡ with_begun old p op → p < length old.tasks → is_over (task old.tasks p).stage ≡ true → CallsLog (begun old.volume.log p) (view_of image old) (view_of image new)
  logs_begun op is lt over = calls (begun old.volume.log p) (ap (λ (s : StoreState D). s.volume) is) (begins _ (ap (λ (s : StoreState D). s.tasks) is) lt over (first_unread op old.table.inode_count))

  pub logs_looked : (op : Op) (room : Option GatheredBytes) → new ≡ with_look old p op room → p < length old.tasks → is_over (task old.tasks p).stage ≡ true → CallsLog old.volume.log (view_of image old) (view_of image new)
  logs_looked op room is lt over = calls old.volume.log (ap (λ (s : StoreState D). s.volume) is) (begins _ (ap (λ (s : StoreState D). s.tasks) is) lt over refl)

  pub logs_ended : new ≡ with_log old (ended old.volume.log p) → CallsLog (ended old.volume.log p) (view_of image old) (view_of image new)
  logs_ended is = calls (ended old.volume.log p) (ap (λ (s : StoreState D). s.volume) is) (λ q. ap (λ (s : StoreState D). held_at (task s.tasks q)) is)
