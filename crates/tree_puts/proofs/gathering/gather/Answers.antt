use Rattle.std.proofs.Common.{◌≡◌, [], rules}
use Rattle.std.proofs.lemmas.List.Elements.{All-nil, All-same}
use Rattle.tree_puts.specs.Gathering.{IsBelow}
use Rattle.tree_puts.proofs.Gathered.{still_below}
use Rattle.tree_puts.proofs.gathering.gather.Goals as goal

pub loop-place-init : goal.loop-place-init
loop-place-init g c =
    let below = IsBelow c.args.path.now in
    let none : c.new-items.result.items ≡ [] = search rules in
    still_below c.args.path.now _ _ (All-same below c.new-items.result.items [] none (All-nil below)) c.in_ok-add_below.ensures.adds

pub loop-place-preserved : goal.loop-place-preserved
loop-place-preserved g c = still_below c.args.path.now _ _ c.loop-place.invariant c.in_ok-add_next.ensures.adds
