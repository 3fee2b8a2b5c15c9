-- One step of a process whose task is under way, by where it stands and what the step answers.
use Rattle.std.specs.Prelude.{◌≡◌, ◌⊎◌, ℕ, true, List, [], ◌∷◌, ◌++◌, length, slice_set, Some, None}
use Rattle.model.specs.declared.types.image.Form.{Form}
use Rattle.model.specs.declared.types.operations.Entry.{Entry}
use Rattle.model.specs.declared.types.operations.Op.{Op}
use Rattle.model.specs.declared.types.operations.Reply.{Reply}
use Rattle.model.specs.declared.types.operations.Reply.TheVariants.{Bytes}
use Rattle.model.specs.declared.types.operations.TaskProgress.{TaskProgress}
use Rattle.model.specs.Journal.{is_changing}
use Rattle.history.specs.declared.types.Phase.{Phase}
use Rattle.history.specs.Journal.{entry_of}
use Rattle.history.specs.Open.{IsEntry, told}
use Rattle.history.specs.Views.{View, LeavesRest, Moves, Takes, Turns, Opens, Decides, Leaves}

-- with its reply the operation has its task still to finish, or only its end in the log is left
abbrev pub GoesBehind : ℕ → ℕ → ℕ → Op → View → ℕ → Phase → Type 0
GoesBehind n p group op t k a =
    (a ≡ Phase.AfterTurn group k)
    ⊎ ((a ≡ Phase.Ending group k) × (is_changing n op ≡ true) × (t.holds p ≡ None))

-- a read is over, with its bytes: it is answered
pub record ReadOver (form : Form) (p group k : ℕ) (e : Entry) (s t : View) (es fs : List Entry)
    (a : Phase) : Type 0 where
  pub bytes : List ℕ
  pub open_still : e.reply ≡ None
  pub none : group ≡ 0
  pub rest : LeavesRest None p s t
  pub free : t.holds p ≡ None
  pub files : Takes form s t e.op (Bytes bytes)
  pub list : fs ≡ slice_set es k (told e (Bytes bytes))
  pub now : a ≡ Phase.Idle

-- a changing operation is over, and ends next
pub record ChangeOver (n p group k : ℕ) (e : Entry) (s t : View) (es fs : List Entry) (a : Phase)
    : Type 0 where
  pub reply : Reply
  pub has : e.reply ≡ Some reply
  pub changing : is_changing n e.op ≡ true
  pub leaves : Leaves p s t
  pub list : fs ≡ es
  pub now : a ≡ Phase.Ending group k

-- another operation with its reply is over, and answered
pub record LookOver (p group k : ℕ) (e : Entry) (s t : View) (es fs : List Entry) (a : Phase)
    : Type 0 where
  pub reply : Reply
  pub has : e.reply ≡ Some reply
  pub none : group ≡ 0
  pub leaves : Leaves p s t
  pub list : fs ≡ es
  pub now : a ≡ Phase.Idle

-- its task is over, whatever the operation was
abbrev pub IsOver : ℕ →
    Form → ℕ → ℕ → ℕ → Entry → View → View → List Entry → List Entry → Phase → Type 0
IsOver n form p group k e s t es fs a =
    ReadOver form p group k e s t es fs a
    ⊎ (ChangeOver n p group k e s t es fs a ⊎ LookOver p group k e s t es fs a)

-- WHAT A STEP OF PROCESS p's TASK MAKES of store, journal and phase; none is made where it has to
-- wait, or the disk failed.
abbrev pub TaskNext : Phase → TaskProgress → ℕ → Form → ℕ → ℕ → View → List Entry → View → List Entry
    → Phase → Type 0
TaskNext (Phase.BeforeTurn group op) TaskProgress.Moved n form p seq s es t fs a =
    Moves p s t × (fs ≡ es) × (a ≡ Phase.BeforeTurn group op)
TaskNext (Phase.BeforeTurn group op) (TaskProgress.Turned None) n form p seq s es t fs a =
    Opens n p op s t × (fs ≡ es ++ entry_of p seq op group None ∷ [])
    × (a ≡ Phase.AfterTurn group (length es))
TaskNext (Phase.BeforeTurn group op) (TaskProgress.Turned (Some r)) n form p seq s es t fs a =
    Turns form p op r s t × (fs ≡ es ++ entry_of p seq op group (Some r) ∷ [])
    × GoesBehind n p group op t (length es) a
TaskNext (Phase.AfterTurn group k) TaskProgress.Moved n form p seq s es t fs a =
    Moves p s t × (fs ≡ es) × (a ≡ Phase.AfterTurn group k)
TaskNext (Phase.AfterTurn group k) (TaskProgress.Decided r) n form p seq s es t fs a =
    (e : Entry) × IsEntry es k e × (e.reply ≡ None) × Decides form p e.op r s t
    × (fs ≡ slice_set es k (told e r)) × (a ≡ Phase.AfterTurn group k)
TaskNext (Phase.AfterTurn group k) TaskProgress.Over n form p seq s es t fs a =
    (e : Entry) × IsEntry es k e × IsOver n form p group k e s t es fs a
TaskNext a progress n form p seq s es t fs b = ⊥
