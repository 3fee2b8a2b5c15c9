use Rattle.std.proofs.Common.{ℕ, ◌==◌, Bool, rules, tests}
use Rattle.std.proofs.lemmas.Iterator.Consumers.{nth_from_yields_List}
use Rattle.std.proofs.lemmas.Iterator.Splits.{YieldsList-from_slice_split}
use Rattle.second_lines.proofs.texts.line_at.Goals as goal

abbrev ends_line : ℕ → Bool
ends_line byte = byte == 10

pub returns : goal.returns
returns c = nth_from_yields_List c.nth.result c.nth.new.self c.args.place c.nth.ensures.ran (YieldsList-from_slice_split _ ends_line c.args.text.now c.split.ensures.rest c.split.ensures.done c.split.ensures.closure (λ x b q k. search (rules, tests)))
