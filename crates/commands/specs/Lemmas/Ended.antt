-- What is known of a command by how it ended.
use Rattle.std.proofs.Common.{◌≡◌, subst}
use Rattle.std.specs.Prelude.{Result, Ok, Err, OnOk, IfErr, IfOk}

pub where_done : {T E : Type 0} (r : Result T E) (done : T) (P : Type 0) → r ≡ Ok done
    → OnOk r P → P
where_done (Ok _) done P is known = known
where_done (Err _) done P is known = absurd (cc is)

pub where_refused : {T E : Type 0} (r : Result T E) (e : E) (P : E → Type 0) → r ≡ Err e
    → IfErr r P → P e
where_refused r e P is known = subst (λ q. IfErr q P) is known

pub where_made : {T E : Type 0} (r : Result T E) (made : T) (P : T → Type 0) → r ≡ Ok made
    → IfOk r P → P made
where_made r made P is known = subst (λ q. IfOk q P) is known
