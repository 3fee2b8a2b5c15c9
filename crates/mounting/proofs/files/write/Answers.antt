use Rattle.model.specs.Files.{files_of}
use Rattle.calls.specs.Files.{IsFull}
use Rattle.calls.specs.Calls.{image_on}
use Rattle.std.proofs.Common.{ℕ, inl, inr, refl, subst, ◌<◌, arith}
use Rattle.mounting.specs.Changes.{Lengthens, WritesPart, EndsShort}
use Rattle.names.specs.Inside.{form_seen}
use Rattle.mounting.proofs.files.write.Goals as goal

pub returns-in_err-fill_up-clause-makes : goal.returns-in_err-fill_up-clause-makes
returns-in_err-fill_up-clause-makes g c =
    λ task o first within before. (c.fill_up.ensures.makes task o first (λ x z is. within x z (inr (subst (λ (n : ℕ). Lengthens c.args.number n (form_seen g.D.Disk.image o) x z) c.in-Ok.ensures.1 is))) before)

pub returns-in_err-left-clause-makes : goal.returns-in_err-left-clause-makes
returns-in_err-left-clause-makes g c =
    λ task o first within before. c.write_pieces.ensures.makes task o first (λ x z is. within x z (inl (subst (λ (n : ℕ). WritesPart c.args.number n c.args.bytes.now (form_seen g.D.Disk.image o) x z) c.in-Ok.ensures.1 is))) (c.fill_up.ensures.makes task o first (λ x z is. within x z (inr (subst (λ (n : ℕ). Lengthens c.args.number n (form_seen g.D.Disk.image o) x z) c.in-Ok.ensures.1 is))) before)

pub returns-then-left-gt0-clause-makes : goal.returns-then-left-gt0-clause-makes
returns-then-left-gt0-clause-makes g c =
    λ task o first within before. c.write_pieces.ensures.makes task o first (λ x z is. within x z (inl (subst (λ (n : ℕ). WritesPart c.args.number n c.args.bytes.now (form_seen g.D.Disk.image o) x z) c.in-Ok.ensures.1 is))) (c.fill_up.ensures.makes task o first (λ x z is. within x z (inr (subst (λ (n : ℕ). Lengthens c.args.number n (form_seen g.D.Disk.image o) x z) c.in-Ok.ensures.1 is))) before)

pub returns-in-Ok-try_from-clause-makes : goal.returns-in-Ok-try_from-clause-makes
returns-in-Ok-try_from-clause-makes g c =
    λ task o first within before. c.write_pieces.ensures.makes task o first (λ x z is. within x z (inl (subst (λ (n : ℕ). WritesPart c.args.number n c.args.bytes.now (form_seen g.D.Disk.image o) x z) c.in-Ok.ensures.1 is))) (c.fill_up.ensures.makes task o first (λ x z is. within x z (inr (subst (λ (n : ℕ). Lengthens c.args.number n (form_seen g.D.Disk.image o) x z) c.in-Ok.ensures.1 is))) before)

pub returns-in-Err-clause-makes : goal.returns-in-Err-clause-makes
returns-in-Err-clause-makes g c =
    λ task o first within before. c.write_pieces.ensures.makes task o first (λ x z is. within x z (inl (subst (λ (n : ℕ). WritesPart c.args.number n c.args.bytes.now (form_seen g.D.Disk.image o) x z) c.in-Ok.ensures.1 is))) (c.fill_up.ensures.makes task o first (λ x z is. within x z (inr (subst (λ (n : ℕ). Lengthens c.args.number n (form_seen g.D.Disk.image o) x z) c.in-Ok.ensures.1 is))) before)

pub returns-in-Err-clause-hindered : goal.returns-in-Err-clause-hindered
returns-in-Err-clause-hindered g c = inl (inr (inr (inr (refl, inr (omega (arith, c.in-Err.ensures, c.saturating_sub.ensures))))))

pub returns-in-Ok-try_from-clause-short : goal.returns-in-Ok-try_from-clause-short
returns-in-Ok-try_from-clause-short g c = λ few.
    let m = c.write_pieces.new.tree.kernel in
    let count = c.in-Ok-try_from.ensures.1 in
    let some : 0 < c.in_ok-left.left = omega (arith, few, count, c.saturating_sub.ensures) in
    subst (λ (n : ℕ). EndsShort (IsFull (image_on g.D.Disk.image m)) (form_seen g.D.Disk.image m) (files_of (image_on g.D.Disk.image m)) c.args.number n c.args.bytes.now) c.in-Ok.ensures.1
    (c.in_ok-left.ensures.short some).1
