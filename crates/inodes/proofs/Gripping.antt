-- What processes have of the table of inodes, by their tasks.
use Rattle.std.proofs.Common.{◌≡◌, ℕ, zero, suc, List, [], ◌∷◌, set, refl, sym, ◌∙◌, ap, Option}
use Rattle.inodes.specs.Common.{Grip, grip_of, grips_of, map-set, no_task, set-get_or, Stage, task, TaskState, with_grip}
-- a process has what its task has
pub use Rattle.inodes.specs.Lemmas.Looks.{grip_of_task as grip_is}

-- one task is another, and has another grip
pub grips_set : (ts : List TaskState) (p : ℕ) (t : TaskState) → grips_of (set ts p t) ≡ with_grip (grips_of ts) p (grip_of t)
grips_set ts p t = map-set grip_of ts p t

-- with the same grip, all of them are the same
pub grips_same : (ts : List TaskState) (p : ℕ) (t : TaskState) → grip_of t ≡ grip_of (task ts p) → grips_of (set ts p t) ≡ grips_of ts
grips_same [] p t same = refl
grips_same (s ∷ ts) zero t same = ap (λ (g : Option Grip). g ∷ grips_of ts) same
grips_same (s ∷ ts) (suc p) t same = ap (λ (gs : List (Option Grip)). grip_of s ∷ gs) (grips_same ts p t same)

-- a task that stays where it stands is the same
pub same_task : (ts : List TaskState) (p : ℕ) (a : Stage) → (task ts p).stage ≡ a → ts ≡ set ts p (record (task ts p) { stage = a })
same_task ts p a stood = sym (ap (λ (b : Stage). set ts p (record (task ts p) { stage = b })) (sym stood) ∙ set-get_or ts p no_task)
