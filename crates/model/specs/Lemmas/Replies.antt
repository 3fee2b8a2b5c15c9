-- What a reply says of the files.
use Rattle.std.proofs.Common.{◌≡◌, ◌⊎◌, inl, inr, ℕ, false, Option, Some, None, refl}
use Rattle.model.specs.Common.{BadOffset, both_ways, Bytes, Done, Files, Form, Made, NoFile, NoInode, Op, Reply, StatOf, TooBig, TooLong, Wrote}
use Rattle.model.specs.declared.types.operations.Reply.TheVariants.{BadType}
use Rattle.model.specs.Operations.{after, after_refusal, after_done, refusal_of, is_refusal}
use Rattle.model.specs.Lemmas.Runs.{where_true_some}

refusal_cases : (files new : Files) (refusal : Option Reply) (op : Op) (reply : Reply) → after_refusal refusal files op reply ≡ Some new →
    (new ≡ files) ⊎ ((refusal ≡ None) × (after_done files op reply ≡ Some new))
refusal_cases files new None op reply h = inr (refl, h)
refusal_cases files new (Some refusal) op reply h = inl (where_true_some (is_refusal refusal reply) files new h).1

-- an operation was refused, or done
pub after_cases : (form : Form) (files new : Files) (op : Op) (reply : Reply) → after form files op reply ≡ Some new →
    (new ≡ files) ⊎ ((refusal_of form files op ≡ None) × (after_done files op reply ≡ Some new))
unfolding after
after_cases form files new op reply h = refusal_cases files new (refusal_of form files op) op reply h

not_refusal : (refusal : Reply) (k : ℕ) → is_refusal refusal (Wrote k) ≡ false
not_refusal (Made i) k = refl
not_refusal NoInode k = refl
not_refusal (Wrote j) k = refl
not_refusal (Bytes bytes) k = refl
not_refusal Done k = refl
not_refusal (StatOf kind links size) k = refl
not_refusal NoFile k = refl
not_refusal BadOffset k = refl
not_refusal TooBig k = refl
not_refusal TooLong k = refl
not_refusal BadType k = refl

wrote_by : (files new : Files) (refusal : Option Reply) (op : Op) (k : ℕ) → after_refusal refusal files op (Wrote k) ≡ Some new →
    after_done files op (Wrote k) ≡ Some new
wrote_by files new None op k h = h
wrote_by files new (Some refusal) op k h =
    absurd (both_ways (is_refusal refusal (Wrote k)) (not_refusal refusal k) (where_true_some (is_refusal refusal (Wrote k)) files new h).0)

-- one that wrote was done
pub wrote_done : (form : Form) (files new : Files) (op : Op) (k : ℕ) → after form files op (Wrote k) ≡ Some new →
    after_done files op (Wrote k) ≡ Some new
unfolding after
wrote_done form files new op k h = wrote_by files new (refusal_of form files op) op k h
