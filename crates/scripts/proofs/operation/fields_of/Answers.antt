use Rattle.std.proofs.Common.{◌∙◌, ◌+◌, ◌++◌, ◌∷◌, [], ◌==◌, ℕ, Bool, List, length, map, take, sym, ap, rules, tests, arith}
use Rattle.std.proofs.lemmas.List.{length_push, map_push, take_all, take_more}
use Rattle.std.proofs.lemmas.List.Splits.{length-slice_split}
use Rattle.std.proofs.lemmas.Iterator.Consumers.{YieldsList-at, YieldsList-end, YieldsList-turn}
use Rattle.std.proofs.lemmas.Iterator.Splits.{YieldsList-from_slice_split}
use Rattle.scripts.specs.Operation.{fields_of}
use Rattle.scripts.proofs.operation.fields_of.Goals as goal

abbrev is_space : ℕ → Bool
is_space byte = byte == 32

pub push-requires : goal.push-requires
push-requires c =
    let turn = YieldsList-turn (YieldsList-at c.into_iter-field-iterator.ensures.into_iter_gives (YieldsList-from_slice_split _ is_space c.args.line.now c.split-field-items.ensures.rest c.split-field-items.ensures.done c.split-field-items.ensures.closure (λ x b q k. search (rules, tests)))) c.loop-field.yielded _ c.loop-field.yielded_by _ _ c.in-Some.field c.in-Some.is c.next.ensures.steps in
    omega (arith, turn.0, c.loop-field.invariant.counted, length-slice_split is_space c.args.line.now, c.requires)

pub loop-field-preserved : goal.loop-field-preserved
loop-field-preserved c =
    let all = fields_of c.args.line.now in
    let done = length c.loop-field.yielded in
    let field = c.in-Some.field in
    let turn = YieldsList-turn (YieldsList-at c.into_iter-field-iterator.ensures.into_iter_gives (YieldsList-from_slice_split _ is_space c.args.line.now c.split-field-items.ensures.rest c.split-field-items.ensures.done c.split-field-items.ensures.closure (λ x b q k. search (rules, tests)))) c.loop-field.yielded _ c.loop-field.yielded_by _ _ field c.in-Some.is c.next.ensures.steps in
    let more = length_push c.loop-field.yielded field in
    let items = c.loop-field.fields.items in
    record {
      counted = ap length c.push.ensures.items ∙ length_push items field ∙ ap (λ (n : ℕ). n + 1) c.loop-field.invariant.counted ∙ sym more;
      so_far = ap (map (λ f. f.now)) c.push.ensures.items ∙ map_push (λ f. f.now) items field
          ∙ ap (λ (front : List (List ℕ)). front ++ field.now ∷ []) c.loop-field.invariant.so_far
          ∙ ap (λ (x : List ℕ). take done all ++ x ∷ []) turn.1
          ∙ sym (take_more all done field.now turn.0)
          ∙ ap (λ (n : ℕ). take n all) (sym more);
    }

pub returns : goal.returns
returns c =
    let all = fields_of c.args.line.now in
    let over = YieldsList-end (YieldsList-at c.into_iter-field-iterator.ensures.into_iter_gives (YieldsList-from_slice_split _ is_space c.args.line.now c.split-field-items.ensures.rest c.split-field-items.ensures.done c.split-field-items.ensures.closure (λ x b q k. search (rules, tests)))) c.loop-field.yielded _ c.loop-field.yielded_by _ _ c.in-None.is c.next.ensures.steps in
    c.loop-field.invariant.so_far ∙ take_all (length c.loop-field.yielded) all (omega (arith, over.1))
