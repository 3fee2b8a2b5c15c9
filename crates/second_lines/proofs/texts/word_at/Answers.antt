use Rattle.std.proofs.Common.{ℕ, ◌==◌, ◌||◌, Bool, List, length, not, rules, tests}
use Rattle.std.proofs.lemmas.Iterator.Consumers.{YieldsList-at, YieldsList-from_filter, nth_from_yields_List}
use Rattle.std.proofs.lemmas.Iterator.Splits.{YieldsList-from_slice_split}
use Rattle.second_lines.proofs.texts.word_at.Goals as goal

abbrev is_separator : ℕ → Bool
is_separator byte = (byte == 32) || (byte == 10)

abbrev is_word : List ℕ → Bool
is_word part = not (length part == 0)

pub returns : goal.returns
returns c = nth_from_yields_List c.nth.result c.nth.new.self c.args.place c.nth.ensures.ran (YieldsList-from_filter _ is_word (YieldsList-at c.filter.ensures.source (YieldsList-from_slice_split _ is_separator c.args.text.now c.split.ensures.rest c.split.ensures.done c.split.ensures.closure (λ x b q k. search (rules, tests)))) c.filter.ensures.closure (λ x b q k. search (rules, tests)))
