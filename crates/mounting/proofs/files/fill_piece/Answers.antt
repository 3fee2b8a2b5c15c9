use Rattle.mounting.proofs.Hindering.{unlengthened}
use Rattle.std.proofs.Common.{◌∙◌, ◌+◌, ◌≡◌, ℕ, ◌≤◌, List, length, take, replicate, ap, subst, sym, arith, inl, inr}
use Rattle.std.proofs.lemmas.List.{length-replicate, length-take, take-replicate}
use Rattle.model.specs.Files.{Files}
use Rattle.names.specs.Inside.{form_seen}
use Rattle.names.specs.Numbered.{WritesSomeOf}
use Rattle.names.specs.Ready.{AnyOf}
use Rattle.mounting.specs.Changes.{EndsAt, HasLength}
use Rattle.mounting.proofs.FileEnds.{ends_behind}
use Rattle.mounting.proofs.files.fill_piece.Goals as goal

pub returns-in_err-write_at-clause-makes : goal.returns-in_err-write_at-clause-makes
returns-in_err-write_at-clause-makes g c =
    λ task o first within before. c.write_at.ensures.makes task o first
    (λ x z is. within x z (
      c.args.at,
      (
        c.min-count.result,
        let count = c.min-count.ensures in let some = c.requires.some in omega (arith, count, some),
        subst (λ (f : Files). HasLength f c.args.number c.args.at) (sym is.0) c.requires.end,
        subst (λ (bytes : List ℕ). AnyOf (WritesSomeOf (form_seen g.D.Disk.image o) c.args.number c.args.at bytes) x z) (take-replicate c.min-count.result 3072 0 (let count = c.min-count.ensures in omega (arith, count))) is.1,
      ),
    )) before

pub returns-in-Ok-eq0-clause-makes : goal.returns-in-Ok-eq0-clause-makes
returns-in-Ok-eq0-clause-makes g c =
    λ task o first within before. c.write_at.ensures.makes task o first
    (λ x z is. within x z (
      c.args.at,
      (
        c.min-count.result,
        let count = c.min-count.ensures in let some = c.requires.some in omega (arith, count, some),
        subst (λ (f : Files). HasLength f c.args.number c.args.at) (sym is.0) c.requires.end,
        subst (λ (bytes : List ℕ). AnyOf (WritesSomeOf (form_seen g.D.Disk.image o) c.args.number c.args.at bytes) x z) (take-replicate c.min-count.result 3072 0 (let count = c.min-count.ensures in omega (arith, count))) is.1,
      ),
    )) before

pub returns-in-Ok-clause-makes : goal.returns-in-Ok-clause-makes
returns-in-Ok-clause-makes g c =
    λ task o first within before. c.write_at.ensures.makes task o first
    (λ x z is. within x z (
      c.args.at,
      (
        c.min-count.result,
        let count = c.min-count.ensures in let some = c.requires.some in omega (arith, count, some),
        subst (λ (f : Files). HasLength f c.args.number c.args.at) (sym is.0) c.requires.end,
        subst (λ (bytes : List ℕ). AnyOf (WritesSomeOf (form_seen g.D.Disk.image o) c.args.number c.args.at bytes) x z) (take-replicate c.min-count.result 3072 0 (let count = c.min-count.ensures in omega (arith, count))) is.1,
      ),
    )) before

pub returns-in-Err-clause-makes : goal.returns-in-Err-clause-makes
returns-in-Err-clause-makes g c =
    λ task o first within before. c.write_at.ensures.makes task o first
    (λ x z is. within x z (
      c.args.at,
      (
        c.min-count.result,
        let count = c.min-count.ensures in let some = c.requires.some in omega (arith, count, some),
        subst (λ (f : Files). HasLength f c.args.number c.args.at) (sym is.0) c.requires.end,
        subst (λ (bytes : List ℕ). AnyOf (WritesSomeOf (form_seen g.D.Disk.image o) c.args.number c.args.at bytes) x z) (take-replicate c.min-count.result 3072 0 (let count = c.min-count.ensures in omega (arith, count))) is.1,
      ),
    )) before

pub returns-in-Ok-clause-end : goal.returns-in-Ok-clause-end
returns-in-Ok-clause-end g c =
    let few : c.min-count.result ≤ 3072 = let count = c.min-count.ensures in omega (arith, count) in
    let size : length (take c.min-count.result (replicate 3072 0)) ≡ c.min-count.result = ap (λ (l : List ℕ). length l) (take-replicate c.min-count.result 3072 0 few) ∙ length-replicate c.min-count.result 0 in
    subst (λ (n : ℕ). EndsAt g.D.Disk c.args.number c.write_at.new.tree.kernel (c.args.at + n)) (sym c.min.ensures)
    (ends_behind _ _ _ c.args.number c.args.at _ c.min-count.result c.in-Ok.wrote c.in_ok-write_at.field-0 c.in-Ok.is size c.in_ok-write_at.ensures.does c.requires.end)

pub returns-in-Err-clause-hindered : goal.returns-in-Err-clause-hindered
returns-in-Err-clause-hindered g c =
    let count = c.min-count.ensures in
    let some = c.requires.some in
    let few : c.min-count.result ≤ 3072 = omega (arith, count) in
    let zeroes : take c.min-count.result (replicate 3072 0) ≡ replicate c.min-count.result 0 = take-replicate c.min-count.result 3072 0 few in
    let cut : length (take c.min-count.result (replicate 3072 0)) ≤ 3072 = let size = length-take {A = ℕ} c.min-count.result (replicate 3072 0) in omega (arith, size, few) in
    inl (inr (inr (unlengthened g.D.Disk c.args.number c.args.at c.args.to c.min-count.result _ c.args.tree.now.kernel c.write_at.new.tree.kernel c.in_ok-write_at.field-0 c.in-Err.cause c.into.result c.in-Err.is
    zeroes cut (omega (arith, count, some)) c.requires.end c.in_ok-write_at.ensures.does c.in_ok-write_at.ensures.part c.into.ensures)))
