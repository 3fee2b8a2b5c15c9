-- What is printed of a run's processes.
use Rattle.std.specs.Prelude.{◌≡◌, ◌&&◌, ℕ, Bool, List, ◌++◌, Option, Some, MatchResult, Result, flat_map, length, nat_le, slice_get}
use Rattle.std.specs.List.{list_all}
use Rattle.std.specs.Io.KnownBytes.{Appends}
use Rattle.model.specs.declared.types.operations.Answer.{Answer}
use Rattle.model.specs.declared.types.operations.Op.{Op}
use Rattle.kernel.specs.State.{State}
use Rattle.sysring.specs.Accounts.{AccountsForAll}
use Rattle.sysring.specs.declared.settling.Account.{Account}
use Rattle.messages.specs.Answers.{account_line, answer_line}
use Rattle.messages.specs.declared.told.Unwritten.{Unwritten}

-- a line for each answer of process p, and one for its account
abbrev pub report_text : ℕ → List Answer → Account → List ℕ
report_text p answers a =
    flat_map (answer_line p) answers ++ account_line p a.submitted a.begun a.left a.kept

-- whether each of these operations has its answer, the first its first
abbrev pub are_answered : List Op → List Answer → Bool
are_answered ops answers = nat_le (length ops) (length answers)

-- This text is the report of process p of kernel k, which had these operations: the first of them
-- were handed in. It tells each answer that the process was given, in order, and what became of
-- the operations that were handed in; and so many are all that it had, or not.
pub record IsReport {D I H : Type 0} (inode_count : ℕ) (k : State D I H) (p : ℕ) (ops : List Op)
    (all : Bool) (text : List ℕ) : Type 0 where
  pub submitted : List Op
  pub behind : List Op
  pub first : ops ≡ submitted ++ behind
  pub answers : List Answer
  pub account : Account
  pub accounts : AccountsForAll inode_count k p submitted answers account
  pub is : text ≡ report_text p answers account
  pub whole : all ≡ are_answered ops answers

-- The report of a process was printed, behind others, of which each operation had its answer or
-- not; so it is of all of them.
pub record PrintsReport {D I H : Type 0} (inode_count : ℕ) (k : State D I H) (p : ℕ)
    (ops : List Op) (before all : Bool) (old new : Option (List ℕ)) : Type 0 where
  pub mine : Bool
  pub text : List ℕ
  pub is : IsReport inode_count k p ops mine text
  pub both : all ≡ (before && mine)
  pub printed : Appends old new text

-- the same, where those before could be printed
abbrev pub PrintsBehind : {D I H : Type 0} → ℕ → State D I H → ℕ → List Op
    → Result Bool Unwritten → Bool → Option (List ℕ) → Option (List ℕ) → Type 0
PrintsBehind inode_count k p ops before all old new = MatchResult before
    (λ were. PrintsReport inode_count k p ops were all old new) (λ _. ⊥)

-- The reports of so many processes were printed, one after the other. Each operation of them all
-- has its answer, or not.
pub record IsReported {D I H : Type 0} (inode_count : ℕ) (k : State D I H) (ops : ℕ → List Op)
    (processes : ℕ) (all : Bool) (old new : Option (List ℕ)) : Type 0 where
  pub reports : List (Bool × List ℕ)
  pub count : length reports ≡ processes
  pub each : (p : ℕ) (r : Bool × List ℕ) → slice_get reports p ≡ Some r
      → IsReport inode_count k p (ops p) r.0 r.1
  pub whole : all ≡ list_all (λ r. r.0) reports
  pub printed : Appends old new (flat_map (λ r. r.1) reports)
