-- An operation more in a process's backlog.
use Rattle.std.proofs.Common.{◌≡◌, ℕ, ◌<◌, Bool, true, false, List, [], ◌∷◌, ◌++◌, length, set, Some, sym, ap, ◌∙◌, ⊎_elim, append-nil}
use Rattle.std.specs.Prelude.{slice_get, if◌then◌else◌, ◌==◌}
use Rattle.std.proofs.lemmas.Bool.Decides.{eqb_tells}
use Rattle.std.proofs.lemmas.List.{flat_map_more}
use Rattle.ports.specs.Lemmas.Lanes.{slice_get-set_here, slice_get-set_other}
use Rattle.model.specs.declared.types.operations.Op.{Op}
use Rattle.scripts.specs.declared.script.Task.{Task}
use Rattle.clients.specs.declared.backlog.Backlog.{Backlog}
use Rattle.clients.specs.Backlogs.{backlog_of, backlog_in, backlog_at, op_if, ops_of}

one_if : (b : Bool) (op : Op) → b ≡ true → (if b then op ∷ [] else []) ≡ op ∷ []
one_if b op is = ap (λ c. if c then op ∷ [] else []) is

none_if : (b : Bool) (op : Op) → b ≡ false → (if b then op ∷ [] else []) ≡ []
none_if b op is = ap (λ c. if c then op ∷ [] else []) is

more_ops : (p : ℕ) (tasks : List Task) (task : Task) → ops_of p tasks ++ op_if p task ≡ ops_of p (tasks ++ task ∷ [])
more_ops p tasks task = flat_map_more (op_if p) [] tasks task

pub one_added : (backlogs : List Backlog) (b new : Backlog) (tasks : List Task) (task : Task) (p : ℕ) → task.pid < length backlogs → slice_get backlogs task.pid ≡ Some b → backlog_of new ≡ backlog_of b ++ task.op ∷ []
    → backlog_at backlogs p ≡ ops_of p tasks → backlog_at (set backlogs task.pid new) p ≡ ops_of p (tasks ++ task ∷ [])
one_added backlogs b new tasks task p within here added before =
    ⊎_elim
    (λ same.
    let own : backlog_at (set backlogs task.pid new) p ≡ backlog_of new = ap (backlog_at (set backlogs task.pid new)) (sym same.1) ∙ ap backlog_in (slice_get-set_here backlogs task.pid new within) in
    let old : backlog_of b ≡ ops_of p tasks = sym (ap backlog_in here) ∙ ap (backlog_at backlogs) same.1 ∙ before in
    own ∙ added ∙ ap (λ ops. ops ++ task.op ∷ []) old ∙ ap (λ ops. ops_of p tasks ++ ops) (sym (one_if (task.pid == p) task.op same.0)) ∙ more_ops p tasks task)
    (λ other.
    let stays : backlog_at (set backlogs task.pid new) p ≡ backlog_at backlogs p = ap backlog_in (slice_get-set_other backlogs task.pid p new (λ e. other.1 (sym e))) in
    stays ∙ before ∙ sym (append-nil (ops_of p tasks)) ∙ ap (λ ops. ops_of p tasks ++ ops) (sym (none_if (task.pid == p) task.op other.0)) ∙ more_ops p tasks task)
    (eqb_tells task.pid p)
