use Rattle.std.proofs.Common.{◌≡◌, ◌∙◌, ◌∷◌, ◌++◌, [], ℕ, List, Some, ap, rules, sym, take, ◌+◌}
use Rattle.std.specs.Prelude.{slice_get}
use Rattle.std.proofs.lemmas.List.{take_more}
use Rattle.std.proofs.lemmas.Option.{get_or_from_slice_get, slice_get_within}
use Rattle.crash_check.proofs.images.blocks_of.Goals as goal

pub loop-b-preserved : goal.loop-b-preserved
loop-b-preserved c =
    let image = c.loop-b.disk.blocks.items in
    let b = c.loop-b.b in
    let block = c.read.new.into in
    let got : slice_get image b ≡ Some block = search rules in
    record {
      blocks = c.in_ok-push.ensures.items ∙ ap (λ (blocks : List (List ℕ)). blocks ++ block ∷ []) c.loop-b.invariant.blocks
          ∙ ap (λ (read : List ℕ). take b image ++ read ∷ []) (sym (get_or_from_slice_get image b block [] got)) ∙ sym (take_more image b [] (slice_get_within image b block got))
          ∙ ap (take (b + 1)) (sym c.read.ensures.image);
      same = c.read.ensures.image ∙ c.loop-b.invariant.same;
    }
