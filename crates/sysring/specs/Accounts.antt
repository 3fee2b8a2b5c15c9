-- What a settled process comes to.
use Rattle.std.specs.Prelude.{◌≡◌, ℕ, List, [], ◌++◌, map, length}
use mathlib.Core.List.{IsPrefix}
use Rattle.std.specs.List.{filter}
use Rattle.model.specs.declared.types.operations.Answer.{Answer}
use Rattle.model.specs.declared.types.operations.Entry.{Entry}
use Rattle.model.specs.declared.types.operations.Op.{Op}
use Rattle.model.specs.Journal.{is_changing}
use Rattle.ports.specs.History.{History}
use Rattle.history.specs.Histories.{IsHistory}
use Rattle.history.specs.Processes.{process}
use Rattle.kernel.specs.Counts.{kept_of}
use Rattle.kernel.specs.State.{State}
use Rattle.sysring.specs.declared.settling.Account.{Account}

-- Process p of kernel k handed these operations in and polled these answers, and no more.
pub record Accounts {D I H : Type 0} (inode_count : ℕ) (k : State D I H) (p : ℕ) (ops : List Op)
    (answers : List Answer) (a : Account) : Type 0 where
  -- what the kernel took of it and gave to it
  pub history : History
  pub is : IsHistory k.world.journal.list (process k.world p).at (process k.world p).begun p history
  -- what was handed in was taken or is left, in order
  pub rest : List Op
  pub order : ops ≡ history.taken ++ rest
  -- what was given is what was polled, and then what was not
  pub unpolled : List Answer
  pub given : answers ++ unpolled ≡ history.given
  -- what is kept is a beginning of the changing ones that were handed in
  pub beginning : IsPrefix (map (λ (e : Entry). e.op) (kept_of inode_count k p))
      (filter (is_changing inode_count) ops)
  pub submitted : a.submitted ≡ length ops
  pub begun : a.begun ≡ length history.taken
  pub left : a.left ≡ length rest
  pub kept : a.kept ≡ length (kept_of inode_count k p)

-- The same, and these answers are all that it was given.
pub record AccountsForAll {D I H : Type 0} (inode_count : ℕ) (k : State D I H) (p : ℕ)
    (ops : List Op) (answers : List Answer) (a : Account) : Type 0 where
  pub accounts : Accounts inode_count k p ops answers a
  pub all : accounts.unpolled ≡ []
