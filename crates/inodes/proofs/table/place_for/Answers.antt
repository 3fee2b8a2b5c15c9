use Rattle.std.proofs.Common.{◌∙◌, sym, ap, ℕ, Option, position}
use Rattle.std.specs.Prelude.{is_none}
use Rattle.inodes.specs.Common.{or_else}
use Rattle.inodes.proofs.TableNumbers.{none_in}
use Rattle.inodes.proofs.table.place_for.Goals as goal

pub returns-then-not-has_number-clause-place : goal.returns-then-not-has_number-clause-place
returns-then-not-has_number-clause-place c =
    c.free_place.ensures.place
    ∙ sym (ap (λ (at : Option ℕ). or_else at (position (λ e. is_none e) c.args.places.now)) (none_in c.args.numbers.now c.args.places.now c.args.number c.requires (c.has_number.ensures c.if-not-has_number.true)))
