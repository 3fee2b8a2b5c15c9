-- A step of a store's task is what a journal says of such a step.
use Rattle.std.proofs.Common.{◌≡◌, ◌≢◌, ℕ, Bool, true, false, cond, eqb, ◌||◌, List, ◌∙◌, sym, ap, subst, ⊎_elim, Option, Some, None}
use Rattle.std.specs.Option.{option_map}
use Rattle.std.specs.Prelude.{if◌then◌else◌, ◌==◌, IsTrue}
use Rattle.kernel.specs.Common.{AreLooking, asked, asked_by, cases_eq, current_of, Form, form_of, Ghosts, GoesOn, Held, held_at, held_by, Image, is_making, is_number, is_over, IsLate, IsUntouched, Leaves, LeavesRest, magic_of, ne_eqb, number_of, One, Op, Opens, owes_reply, Reply, Steps, StoreState, Takes, task, TaskProgress, Turns, Two, u32_at, view_of}
use Rattle.model.specs.Tasks.{reply_at_turn}
use Rattle.history.specs.Views.{Moves}
use Rattle.kernel.proofs.Valid.{LateOp, unread_holds, over_unread, late_op, held_late}

-- what no operation touches has the form of the opening
pub form_untouched : (opening x : Image) → IsUntouched opening x → form_of x ≡ form_of opening
form_untouched opening x same = ap (λ (b : List ℕ). if u32_at b 0 == magic_of Two then Two else One) same.super

module _ {D N : Type 0} (disk : Ghosts D N) (s t : StoreState D) (p : ℕ) (op : Op) where
  rest : (r : TaskProgress) → Steps disk s p op r t → LeavesRest (reply_at_turn r) p (view_of disk.image s) (view_of disk.image t)
  rest r step = record {
    disk = step.reads.device.image;
    groups = step.groups;
    others = λ q apart. ap held_at (step.tasks.others q apart);
    marks = step.marks;
  }

  -- what it held
  mine : (r : TaskProgress) → Steps disk s p op r t → owes_reply (task t.tasks p).stage ≡ owes_reply (task s.tasks p).stage → held_at (task t.tasks p) ≡ held_at (task s.tasks p)
  mine r step same = ap (λ (b : Bool). cond b (option_map held_by (task t.tasks p).op) None) same ∙ ap (λ (o : Option Op). cond (owes_reply (task s.tasks p).stage) (option_map held_by o) None) step.tasks.op_stays

  pub moves_of : GoesOn (task s.tasks p).stage (task t.tasks p).stage → Steps disk s p op TaskProgress.Moved t → Moves p (view_of disk.image s) (view_of disk.image t)
  moves_of on step = record { rest = rest TaskProgress.Moved step; mine = mine TaskProgress.Moved step on.reading; files = step.files }

  -- nothing is held where no reply is owed any more
  pub free_then : owes_reply (task t.tasks p).stage ≡ false → (view_of disk.image t).holds p ≡ None
  free_then unread = unread_holds (task t.tasks p) unread

  pub leaves_of : is_over (task t.tasks p).stage ≡ true → Steps disk s p op TaskProgress.Over t → Leaves p (view_of disk.image s) (view_of disk.image t)
  leaves_of over step = record { rest = rest TaskProgress.Over step; mine = free_then (over_unread (task t.tasks p).stage over); files = step.files }

  pub reads_rest : (r : Reply) → Steps disk s p op (TaskProgress.Decided r) t → LeavesRest None p (view_of disk.image s) (view_of disk.image t)
  reads_rest r step = rest (TaskProgress.Decided r) step

  -- an operation has its turn, and its reply is to come
  pub opens_of : (n : ℕ) → IsLate n (task t.tasks p) → (task s.tasks p).op ≡ Some op → owes_reply (task t.tasks p).stage ≡ true → Steps disk s p op (TaskProgress.Turned None) t → Opens n p op (view_of disk.image s) (view_of disk.image t)
  opens_of n late same owes step =
      let its : LateOp n op = late_op n (task t.tasks p) op (step.tasks.op_stays ∙ same) late in
      record {
        rest = rest (TaskProgress.Turned None) step;
        late = its.late;
        number = subst (λ (k : ℕ). IsTrue (is_number n k)) (sym its.number) its.named;
        held = ap (λ (b : Bool). cond b (option_map held_by (task t.tasks p).op) None) owes ∙ ap (λ (o : Option Op). option_map held_by o) (step.tasks.op_stays ∙ same);
        files = step.files;
      }

  module _ (form : Form) (same : form_of (current_of disk.image s.volume) ≡ form) where
    -- with its reply
    pub takes_of : (r : Reply) → Steps disk s p op (TaskProgress.Decided r) t → Takes form (view_of disk.image s) (view_of disk.image t) op r
    takes_of r step = subst (λ (f : Form). Takes f (view_of disk.image s) (view_of disk.image t) op r) same step.files

    pub turns_of : (r : Reply) → number_of op ≡ asked op → owes_reply (task s.tasks p).stage ≡ false → AreLooking (current_of disk.image s.volume) s.table s.tasks → Steps disk s p op (TaskProgress.Turned (Some r)) t
        → Turns form p op r (view_of disk.image s) (view_of disk.image t)
    turns_of r number unread are step = subst (λ (f : Form). Turns f p op r (view_of disk.image s) (view_of disk.image t)) same (record {
      rest = rest (TaskProgress.Turned (Some r)) step;
      apart = λ q h held. ⊎_elim
          (λ (own : q ≡ p). let no = sym (unread_holds (task s.tasks p) unread) ∙ ap (λ (o : ℕ). held_at (task s.tasks o)) (sym own) ∙ held in absurd (cc no))
          (λ (other : q ≢ p). leaves q h other held)
          (cases_eq q p);
      files = step.files;
    })
      where
        leaves : (q : ℕ) (h : Held) → q ≢ p → held_at (task s.tasks q) ≡ Some h → (eqb (number_of op) h.number || is_making h.number (Some r)) ≡ false
        leaves q h other held =
            let its = held_late (current_of disk.image s.volume) s.table s.tasks are q h held in
            let apart = step.apart q other its.late in
            ap (λ (k : ℕ). eqb k h.number || is_making h.number (Some r)) number ∙ ap (λ (k : ℕ). eqb (asked op) k || is_making k (Some r)) its.number
            ∙ ap (λ (b : Bool). b || is_making (asked_by (task s.tasks q).op) (Some r)) (ne_eqb (asked op) (asked_by (task s.tasks q).op) apart.0) ∙ apart.1
