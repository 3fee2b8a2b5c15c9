use Rattle.std.proofs.Common.{ℕ, ◌==◌, ◌||◌, Bool, List, not, length, is_none, refl, inr, rules, tests, arith, ap, sym, ◌∙◌}
use Rattle.std.proofs.lemmas.List.{length_push}
use Rattle.std.proofs.lemmas.Iterator.Consumers.{YieldsList-at, YieldsList-end, YieldsList-from_filter, YieldsList-turn}
use Rattle.std.proofs.lemmas.Iterator.Splits.{YieldsList-from_slice_split}
use Rattle.scripts.proofs.Walk.{HasRead-end, HasRead-start, HasRead-take, NoneBad-end, NoneBad-next, NoneBad-start, NoneBad-stop, at_number, filter_map-enumerate_from, length-filter-slice_split-le}
use Rattle.scripts.specs.Schedule.{fault_at, is_bad, word_of, words_of}
use Rattle.scripts.proofs.schedule.words_in.Goals as goal

abbrev is_separator : ℕ → Bool
is_separator byte = (byte == 32) || (byte == 10)

abbrev is_word : List ℕ → Bool
is_word part = not (length part == 0)

pub loop-word-init : goal.loop-word-init
loop-word-init c = record {
  counted = refl;
  read = rw c.new-words.ensures.items (HasRead-start _ _);
  none_bad = NoneBad-start _ _;
}

pub overflow_add-number : goal.overflow_add-number
overflow_add-number c =
    let here = at_number (words_of c.args.text.now) c.in-Some.word.now c.loop-word.number _ c.loop-word.invariant.counted (YieldsList-turn (YieldsList-at c.into_iter-word-iterator.ensures.into_iter_gives (YieldsList-from_filter _ is_word (YieldsList-at c.filter-word-items.ensures.source (YieldsList-from_slice_split _ is_separator c.args.text.now c.split-parts.ensures.rest c.split-parts.ensures.done c.split-parts.ensures.closure (λ x b q k. search (rules, tests)))) c.filter-word-items.ensures.closure (λ x b q k. search (rules, tests)))) c.loop-word.yielded _ c.loop-word.yielded_by _ _ c.in-Some.word c.in-Some.is c.next.ensures.steps) in
    omega (arith, here.0, length-filter-slice_split-le is_word is_separator c.args.text.now)

pub loop-word-preserved : goal.loop-word-preserved
loop-word-preserved c =
    let here = at_number (words_of c.args.text.now) c.in-Some.word.now c.loop-word.number _ c.loop-word.invariant.counted (YieldsList-turn (YieldsList-at c.into_iter-word-iterator.ensures.into_iter_gives (YieldsList-from_filter _ is_word (YieldsList-at c.filter-word-items.ensures.source (YieldsList-from_slice_split _ is_separator c.args.text.now c.split-parts.ensures.rest c.split-parts.ensures.done c.split-parts.ensures.closure (λ x b q k. search (rules, tests)))) c.filter-word-items.ensures.closure (λ x b q k. search (rules, tests)))) c.loop-word.yielded _ c.loop-word.yielded_by _ _ c.in-Some.word c.in-Some.is c.next.ensures.steps) in
    let gives = sym c.in-Some-meaning.ensures in
    record {
      counted = omega (arith, length_push c.loop-word.yielded c.in-Some.word);
      read =
          rw c.in_ok-push-in-Some-meaning.ensures.items (HasRead-take _ (words_of c.args.text.now) c.loop-word.number c.loop-word.words.items c.in-Some.word.now c.in-Some-meaning.word c.loop-word.invariant.read here.0 here.1 gives);
      none_bad =
          NoneBad-next (is_bad c.args.processes) (words_of c.args.text.now) c.loop-word.number c.in-Some.word.now c.loop-word.invariant.none_bad here.0 here.1 (ap is_none gives);
    }

pub returns-in-None-meaning-clause-fault : goal.returns-in-None-meaning-clause-fault
returns-in-None-meaning-clause-fault c =
    let here = at_number (words_of c.args.text.now) c.in-Some.word.now c.loop-word.number _ c.loop-word.invariant.counted (YieldsList-turn (YieldsList-at c.into_iter-word-iterator.ensures.into_iter_gives (YieldsList-from_filter _ is_word (YieldsList-at c.filter-word-items.ensures.source (YieldsList-from_slice_split _ is_separator c.args.text.now c.split-parts.ensures.rest c.split-parts.ensures.done c.split-parts.ensures.closure (λ x b q k. search (rules, tests)))) c.filter-word-items.ensures.closure (λ x b q k. search (rules, tests)))) c.loop-word.yielded _ c.loop-word.yielded_by _ _ c.in-Some.word c.in-Some.is c.next.ensures.steps) in
    let gives = sym c.in-None-meaning.ensures in
    inr (ap fault_at (NoneBad-stop (is_bad c.args.processes) (words_of c.args.text.now) c.loop-word.number c.in-Some.word.now c.loop-word.invariant.none_bad here.0 here.1 (ap is_none gives)))

pub returns-clause-words : goal.returns-clause-words
returns-clause-words c =
    let over = YieldsList-end (YieldsList-at c.into_iter-word-iterator.ensures.into_iter_gives (YieldsList-from_filter _ is_word (YieldsList-at c.filter-word-items.ensures.source (YieldsList-from_slice_split _ is_separator c.args.text.now c.split-parts.ensures.rest c.split-parts.ensures.done c.split-parts.ensures.closure (λ x b q k. search (rules, tests)))) c.filter-word-items.ensures.closure (λ x b q k. search (rules, tests)))) c.loop-word.yielded _ c.loop-word.yielded_by _ _ c.in-None.is c.next.ensures.steps in
    let words = words_of c.args.text.now in
    HasRead-end _ words c.loop-word.number c.loop-word.words.items c.loop-word.invariant.read (omega (arith, over.1)) ∙ filter_map-enumerate_from (word_of c.args.processes) 1 words

pub returns-clause-sound : goal.returns-clause-sound
returns-clause-sound c =
    let over = YieldsList-end (YieldsList-at c.into_iter-word-iterator.ensures.into_iter_gives (YieldsList-from_filter _ is_word (YieldsList-at c.filter-word-items.ensures.source (YieldsList-from_slice_split _ is_separator c.args.text.now c.split-parts.ensures.rest c.split-parts.ensures.done c.split-parts.ensures.closure (λ x b q k. search (rules, tests)))) c.filter-word-items.ensures.closure (λ x b q k. search (rules, tests)))) c.loop-word.yielded _ c.loop-word.yielded_by _ _ c.in-None.is c.next.ensures.steps in
    ap fault_at (NoneBad-end (is_bad c.args.processes) (words_of c.args.text.now) c.loop-word.number c.loop-word.invariant.none_bad (omega (arith, over.1)))
