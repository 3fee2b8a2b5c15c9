-- The anchor's operation changes no file.
use Rattle.std.proofs.Common.{◌≡◌, ℕ, ◌+◌, Bool, true, false, length, Option, Some, None, refl, subst}
use Rattle.std.specs.Prelude.{nat_lt, if◌then◌else◌}
use Rattle.model.specs.declared.types.image.File.{File}
use Rattle.model.specs.declared.types.image.Form.{Form}
use Rattle.model.specs.declared.types.image.Form.TheVariants.{One, Two}
use Rattle.model.specs.declared.types.operations.Reply.{Reply}
use Rattle.model.specs.declared.types.operations.Reply.TheVariants.{Made, NoFile, BadOffset, TooBig}
use Rattle.model.specs.Files.{Files, file_in}
use Rattle.model.specs.Journal.{is_making}
use Rattle.model.specs.Layout.{greatest_size}
use Rattle.model.specs.Operations.{after, after_refusal, write_refusal, is_refusal}
use Rattle.model.specs.Lemmas.Runs.{where_true_some}
use Rattle.calls.specs.Lemmas.Making.{never_refused}
use Rattle.calls.specs.Transactions.{anchor}

-- it is refused, whatever file there is
refused : (form : Form) (o : Option File) → (r : Reply) × (write_refusal form o 4294967295 0 ≡ Some r)
refused form None = (NoFile, refl)
refused form (Some file) = by_size (nat_lt (length file.bytes) 4294967295) form
  where
    by_size : (b : Bool) (g : Form) → (r : Reply) × ((if b then Some BadOffset else if nat_lt (greatest_size g) (4294967295 + 0) then Some TooBig else None) ≡ Some r)
    by_size true g = (BadOffset, refl)
    by_size false One = (TooBig, refl)
    by_size false Two = (TooBig, refl)

pub anchor_keeps : (form : Form) (files new : Files) (reply : Reply) → after form files anchor reply ≡ Some new → new ≡ files
unfolding after
anchor_keeps form files new reply is =
    let r = refused form (file_in files 1) in
    let there : after_refusal (Some r.0) files anchor reply ≡ Some new = subst (λ (o : Option Reply). after_refusal o files anchor reply ≡ Some new) r.1 is in
    (where_true_some (is_refusal r.0 reply) files new there).1

-- nor does it make a number
pub anchor_makes_none : (form : Form) (files new : Files) (reply : Reply) (i : ℕ) → after form files anchor reply ≡ Some new → is_making i (Some reply) ≡ false
unfolding after
anchor_makes_none form files new reply i is =
    let r = refused form (file_in files 1) in
    let there : after_refusal (Some r.0) files anchor reply ≡ Some new = subst (λ (o : Option Reply). after_refusal o files anchor reply ≡ Some new) r.1 is in
    by_reply r.0 reply (where_true_some (is_refusal r.0 reply) files new there).0
  where
    by_reply : (refusal q : Reply) → is_refusal refusal q ≡ true → is_making i (Some q) ≡ false
    by_reply refusal (Made j) is = absurd (never_refused refusal j is)
    by_reply refusal q is = refl
