-- Reports of processes, one after the other.
use Rattle.std.proofs.Common.{◌≡◌, ◌+◌, ℕ, zero, suc, List, [], ◌∷◌, ◌++◌, length, Option, Some, Result, Ok, Err, refl, subst, ap, sym, ◌∙◌}
use Rattle.std.proofs.lemmas.List.{append_assoc, length-append}
use Rattle.std.specs.Prelude.{Bool, ◌&&◌, IfOk, MatchResult, slice_get}
use Rattle.std.specs.List.{list_all}
use Rattle.std.proofs.lemmas.List.Folds.{list_all-append}
use mathlib.Core.Bool.{and-true}
use Rattle.std.proofs.lemmas.Option.{same_Some}
use Rattle.blocks.specs.Disk.{Image}
use Rattle.blocks.specs.declared.disk.Disk as disk_trait
use Rattle.ports.specs.declared.herald.Herald as herald_trait
use Rattle.ports.specs.declared.intake.Intake as intake_trait
use Rattle.rings.specs.declared.intake.RingIntake.{RingIntake}
use Rattle.clients.specs.declared.client.Client.{Client}
use Rattle.history.specs.Own.{KeepsFirst}
use Rattle.history.specs.Lemmas.Own.{keeps_first}
use Rattle.kernel.specs.Known.{Known}
use Rattle.kernel.specs.State.{State}
use Rattle.model.specs.Layout.{inode_count_of}
use Rattle.model.specs.declared.types.operations.Answer.{Answer}
use Rattle.model.specs.declared.types.operations.Op.{Op}
use Rattle.sysring.specs.Accounts.{AccountsForAll}
use Rattle.sysring.specs.declared.settling.Account.{Account}
use Rattle.messages.specs.declared.told.Unwritten.{Unwritten}
use Rattle.runner.specs.Reports.{IsReport, IsReported, PrintsReport}
use Rattle.runner.proofs.Lines.{one_more_line}

-- a report behind others
pub each_more : {R : Type 0} (reports : List R) (t : R) (P : ℕ → R → Type 0) → ((p : ℕ) (text : R) → slice_get reports p ≡ Some text → P p text) → P (length reports) t
    → (p : ℕ) (text : R) → slice_get (reports ++ t ∷ []) p ≡ Some text → P p text
each_more [] t P old here zero text at = subst (P 0) (same_Some t text at) here
each_more [] t P old here (suc p) text at = absurd (cc at)
each_more (r ∷ rs) t P old here zero text at = old zero text at
each_more (r ∷ rs) t P old here (suc p) text at = each_more rs t (λ q. P (suc q)) (λ q. old (suc q)) here p text at

-- the client behind others
pub client_at : (before behind : List Client) (c : Client) → slice_get (before ++ c ∷ behind) (length before) ≡ Some c
client_at [] behind c = refl
client_at (x ∷ before) behind c = client_at before behind c

-- a report is of a kernel whatever its intake is
pub report_still : {D I H : Type 0} (n : ℕ) (k : State D I H) (i : I) (p : ℕ) (ops : List Op) (all : Bool) (text : List ℕ) → IsReport n (record k { intake = i }) p ops all text → IsReport n k p ops all text
report_still n k i p ops all text r = record {
  submitted = r.submitted;
  behind = r.behind;
  first = r.first;
  answers = r.answers;
  account = r.account;
  accounts = record {
    accounts = record {
      history = r.accounts.accounts.history;
      is = r.accounts.accounts.is;
      rest = r.accounts.accounts.rest;
      order = r.accounts.accounts.order;
      unpolled = r.accounts.accounts.unpolled;
      given = r.accounts.accounts.given;
      beginning = r.accounts.accounts.beginning;
      submitted = r.accounts.accounts.submitted;
      begun = r.accounts.accounts.begun;
      left = r.accounts.accounts.left;
      kept = r.accounts.accounts.kept;
    };
    all = r.accounts.all;
  };
  is = r.is;
  whole = r.whole;
}

-- nothing but the intake changed, and then again
pub same_still : {D I H : Type 0} (k l m : State D I H) → l ≡ record k { intake = l.intake } → m ≡ record l { intake = m.intake } → m ≡ record k { intake = m.intake }
same_still {D} {I} {H} k l m before here = here ∙ ap (λ (s : State D I H). record s { intake = m.intake }) before

-- one report more, of a kernel whose intake has changed
pub one_more_report : {D I H : Type 0} (image : D → Image) (k l : State D I H) → l ≡ record k { intake = l.intake } → (ops : ℕ → List Op) (p : ℕ) (mine : List Op) → mine ≡ ops p → (were all : Bool) (old mid new : Option (List ℕ))
    → IsReported (inode_count_of (image k.opening)) k ops p were old mid → PrintsReport (inode_count_of (image l.opening)) l p mine were all mid new → IsReported (inode_count_of (image k.opening)) k ops (p + 1) all old new
one_more_report {D} {I} {H} image k l same ops p mine are were all old mid new first more =
    let n = inode_count_of (image k.opening) in
    let r : Bool × List ℕ = (more.mine, more.text) in
    let here : IsReport n k p mine more.mine more.text =
    report_still n k l.intake p mine more.mine more.text (subst (λ (m : State D I H). IsReport (inode_count_of (image m.opening)) m p mine more.mine more.text) same more.is) in
    let its : IsReport n k p (ops p) more.mine more.text = subst (λ o. IsReport n k p o more.mine more.text) are here in
    record {
      reports = first.reports ++ r ∷ [];
      count = length-append first.reports (r ∷ []) ∙ ap (λ m. m + 1) first.count;
      each = each_more first.reports r (λ q t. IsReport n k q (ops q) t.0 t.1) first.each (subst (λ q. IsReport n k q (ops q) more.mine more.text) (sym first.count) its);
      whole = more.both ∙ ap (λ b. b && more.mine) first.whole ∙ sym (list_all-append (λ (t : Bool × List ℕ). t.0) first.reports (r ∷ []) ∙ ap (λ b. list_all (λ (t : Bool × List ℕ). t.0) first.reports && b) (and-true more.mine));
      printed = one_more_line (λ (t : Bool × List ℕ). t.1) first.reports r old mid new first.printed more.printed;
    }

-- what is kept of a process, of a kernel whose intake has changed
pub own_still : {D I H : Type 0} (image : D → Image) (k l : State D I H) → l ≡ record k { intake = l.intake } → (p : ℕ) (mine ops : List Op) → mine ≡ ops
    → KeepsFirst (inode_count_of (image l.opening)) l.world.journal.list p mine → KeepsFirst (inode_count_of (image k.opening)) k.world.journal.list p ops
own_still {D} {I} {H} image k l same p mine ops are own =
    subst (λ o. KeepsFirst (inode_count_of (image k.opening)) k.world.journal.list p o) are (subst (λ (m : State D I H). KeepsFirst (inode_count_of (image m.opening)) m.world.journal.list p mine) same own)

-- where the reports before could not be printed, none is
pub reports_then : (r before : Result Bool Unwritten) (A : Bool → Type 0) (B : Bool → Bool → Type 0) (C : Bool → Type 0) → ((were all : Bool) → A were → B were all → C all)
    → IfOk before A → IfOk r (λ all. MatchResult before (λ were. B were all) (λ _. ⊥)) → IfOk r C
reports_then (Ok all) (Ok were) A B C f a b = f were all a b
reports_then (Ok all) (Err e) A B C f a b = absurd b
reports_then (Err e) before A B C f a b = tt

-- the operations of a client, of which the first were handed in and the first of these taken
taken_first : (ops submitted behind taken rest : List Op) → ops ≡ submitted ++ behind → submitted ≡ taken ++ rest → ops ≡ taken ++ (rest ++ behind)
taken_first ops submitted behind taken rest one two = one ∙ ap (λ xs. xs ++ behind) two ∙ append_assoc taken rest behind

-- what is kept of a process that is accounted for is a beginning of its client's operations
pub account_own : {D N M H : Type 0} (disk : disk_trait.Ghosts D N) (intake : intake_trait.Ghosts RingIntake M) (herald : herald_trait.Ghosts H) (k : State D RingIntake H) → Known disk intake herald k
    → (p : ℕ) (submitted : List Op) (answers : List Answer) (a : Account) → AccountsForAll (inode_count_of (disk.image k.opening)) k p submitted answers a → (ops behind : List Op) → ops ≡ submitted ++ behind
    → KeepsFirst (inode_count_of (disk.image k.opening)) k.world.journal.list p ops
account_own disk intake herald k known p submitted answers a accounts ops behind first =
    let its = accounts.accounts in
    keeps_first (inode_count_of (disk.image k.opening)) k.world.journal.list p its.history.taken (its.rest ++ behind) ops (λ c. known.beginnings p c its.history its.is)
    (taken_first ops submitted behind its.history.taken its.rest first its.order)
