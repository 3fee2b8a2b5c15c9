-- A process whose task stands at a stage, in a store whose disk has not failed; its step's promise, told in the code's words; and a store with another log.
use Rattle.std.proofs.Common.{length, List, None, subst, ℕ, ◌<◌, ◌≡◌, ◌≤◌}
use Rattle.std.specs.Prelude.{IfNone}
use Rattle.inodes.specs.Common.{Agrees, AreLooking, current_of, Ghosts, HaveLogged, Image, IsStore, Joint, LogState, Op, Stage, Steps, StoreState, task, TaskProgress, TaskState}

pub record StandsAt {D N : Type 0} (disk : Ghosts D N) (s : StoreState D) (p : ℕ) (a : Stage) : Type 0 where
  pub is : IsStore disk.image s
  pub well : s.volume.fault ≡ None
  pub inside : p < length s.tasks
  pub stood : (task s.tasks p).stage ≡ a
  pub joint : Joint (disk.image s.volume.device) s.volume.buffers s.volume.log

pub steps_as : {D N : Type 0} {disk : Ghosts D N} {p : ℕ} {op : Op} {s o : StoreState D} {q r : TaskProgress} {t u : StoreState D} → s ≡ o → q ≡ r → t ≡ u → Steps disk s p op q t → Steps disk o p op r u
steps_as {D} {N} {disk} {p} {op} {s} {o} {q} {r} {t} {u} from told to steps =
    subst (λ (a : StoreState D). Steps disk a p op r u) from (subst (λ (x : TaskProgress). Steps disk s p op x u) told (subst (Steps disk s p op q) to steps))

-- another log and other tasks in the same image, where these agree
pub with_others : {D : Type 0} (image : D → Image) (s : StoreState D) (l : LogState) (ts : List TaskState) → IsStore image s → length ts ≤ 32 → IfNone s.volume.fault (Agrees s.volume.buffers l s.table.inode_count ts)
    → IfNone s.volume.fault (AreLooking (current_of image s.volume) s.table ts) → IfNone s.volume.fault (HaveLogged (current_of image s.volume) l ts) → IsStore image (record { volume = record s.volume { log = l }; tasks = ts; table = s.table })
with_others image s l ts is few agrees looks logged = record { few = few; geometry = is.geometry; numbers = is.numbers; form = is.form; agrees = agrees; looks = looks; logged = logged }
