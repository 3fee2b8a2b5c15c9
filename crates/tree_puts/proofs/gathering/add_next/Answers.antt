use Rattle.std.proofs.Common.{◌≡◌, ◌∙◌, rules, subst, sym}
use Rattle.std.proofs.lemmas.Result.{on_ok_weaker}
use Rattle.tree_puts.specs.Gathering.{IsBelow}
use Rattle.tree_puts.proofs.Gathered.{deeper, none_added}
use Rattle.tree_puts.proofs.gathering.add_next.Goals as goal

pub returns-in-Ok-None : goal.returns-in-Ok-None
returns-in-Ok-None g c = record { adds = none_added c.args.path.now c.args.found.now.items.items }

pub returns-in-Ok-Some : goal.returns-in-Ok-Some
returns-in-Ok-Some g c =
    let path = c.args.path.now in
    let items = c.args.found.now.items.items in
    let item = c.index.result.now in
    let below : IsBelow path item = subst (IsBelow path) (sym c.index.ensures) (c.requires.below c.args.place item c.requires.place) in
    let same : c.in-Ok-Some.own.items ≡ item.path.items = search rules in
    record { adds = on_ok_weaker c.add_below.result (λ adds. deeper path item c.as_slice.result.now items c.add_below.new.found.items.items below (c.as_slice.ensures.value ∙ same) adds) c.add_below.ensures.adds }
