-- What may be called behind a call, and what is done where no call is left.
use Rattle.std.proofs.Common.{◌≡◌, ℕ, List, inl, subst}
use Rattle.std.specs.Prelude.{Result, Ok, Err}
use Rattle.blocks.specs.declared.disk.Disk.{Ghosts}
use Rattle.calls.specs.Stepping.{Plain}
use Rattle.directories.specs.declared.refusal.Refusal.{Refusal}
use Rattle.names.specs.declared.refusal.TreeFault.{TreeFault}
use Rattle.names.specs.declared.refusal.TreeFault.TheVariants.{Path, Refused, Call, NoSpace, NoCall}
use Rattle.names.specs.Inside.{EndsOr, IsBrokenOr}
use Rattle.names.specs.Ready.{answer_of, HasNoCall, HasNoCallAt, IsReady, IsReadyBehind}
use Rattle.names.specs.Renaming.{HasNoCallAtBoth}

module _ {D N : Type 0} (disk : Ghosts D N) where
  -- behind a transaction that was not answered no other call is made
  pub ends_behind : {T : Type 0} (hinders : TreeFault → Type 0) (k m : Plain D) (left : ℕ) (r : Result T TreeFault) (cause : TreeFault) → r ≡ Err cause → EndsOr hinders disk k m left cause → IsReadyBehind disk m left r
  ends_behind hinders k m left (Ok made) cause is ends = absurd (cc is)
  ends_behind hinders k m left (Err (Path fault)) cause is ends = tt
  ends_behind hinders k m left (Err (Refused refusal)) cause is ends =
      let same : cause ≡ Refused refusal = cc is in
      absurd (subst (λ (c : TreeFault). IsBrokenOr hinders disk k m c) same ends.broken)
  ends_behind hinders k m left (Err (Call fault)) cause is ends = ends.none
  ends_behind hinders k m left (Err NoSpace) cause is ends = ends.none
  ends_behind hinders k m left (Err NoCall) cause is ends = ends.none

  -- behind one that was committed the tree is ready, also where the files refused the change
  pub ready_behind : {T : Type 0} (m : Plain D) (left : ℕ) (r : Result T Refusal) → IsReady disk m left → IsReadyBehind disk m left (answer_of r)
  ready_behind m left (Ok made) ready = ready
  ready_behind m left (Err cause) ready = ready

-- a call where names lead is one at a path
pub none_at : {S T : Type 0} (path : List ℕ) (t u : S) (r : Result T TreeFault) → HasNoCall t u r → HasNoCallAt path t u r
none_at path t u (Ok made) none = none
none_at path t u (Err (Path cause)) none = absurd none
none_at path t u (Err (Refused cause)) none = none
none_at path t u (Err (Call cause)) none = none
none_at path t u (Err NoSpace) none = none
none_at path t u (Err NoCall) none = none

-- and one at a path one at two
pub none_both : {S T : Type 0} (path into : List ℕ) (t u : S) (r : Result T TreeFault) → HasNoCallAt path t u r → HasNoCallAtBoth path into t u r
none_both path into t u (Ok made) none = none
none_both path into t u (Err (Path cause)) none = (none.0, inl none.1)
none_both path into t u (Err (Refused cause)) none = none
none_both path into t u (Err (Call cause)) none = none
none_both path into t u (Err NoSpace) none = none
none_both path into t u (Err NoCall) none = none
