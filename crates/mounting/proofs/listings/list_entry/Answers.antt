use Rattle.mounting.specs.Listings.{Skips, Fills, Tells}
use Rattle.std.proofs.Common.{inl, inr, sym, arith, ◌∙◌}
use Rattle.mounting.proofs.listings.list_entry.Goals as goal

pub returns-then-place-part-clause-lists : goal.returns-then-place-part-clause-lists
returns-then-place-part-clause-lists g c = λ rest new lists. Skips c.args.place c.args.entry.now rest c.args.out.now.items new (inl c.if-place-part.true) lists

pub returns-then-is_hidden-clause-lists : goal.returns-then-is_hidden-clause-lists
returns-then-is_hidden-clause-lists g c = λ rest new lists. Skips c.args.place c.args.entry.now rest c.args.out.now.items new (inr (sym c.is_hidden.ensures ∙ c.if-is_hidden.true)) lists

pub returns-then-saturating_add-part-clause-lists : goal.returns-then-saturating_add-part-clause-lists
returns-then-saturating_add-part-clause-lists g c = λ rest.
    Fills c.args.place c.args.entry.now rest c.args.out.now.items c.if-place-part.false (sym c.is_hidden.ensures ∙ c.if-is_hidden.false) (omega (arith, c.if-saturating_add-part.true, c.saturating_add.ensures, c.whole_size.ensures))

pub returns-clause-lists : goal.returns-clause-lists
returns-clause-lists g c = λ rest new lists. Tells c.args.place c.args.entry.now rest c.args.out.now.items c.add.new.out.items new c.if-place-part.false (sym c.is_hidden.ensures ∙ c.if-is_hidden.false) c.in_ok-add.ensures.tells lists
