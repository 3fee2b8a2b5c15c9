use Rattle.std.proofs.Common.{◌≡◌, ◌∙◌, ◌<◌, ◌+◌, ◌-◌, ◌^◌, ℕ, true, false, ap, ap₂, arith, length}
use Rattle.std.proofs.lemmas.List.{length-set, take-set}
use Rattle.std.specs.Prelude.{slice_set}
use Rattle.crash_check.proofs.ChoiceLemmas.{both, doubled, shorter}
use Rattle.crash_check.proofs.choices.+try_rest.Goals as goal

pub returns-clause-before : goal.returns-clause-before
returns-clause-before t c =
    let from = c.args.from in
    let mid = c.try_rest.new.keep in
    shorter from c.try_rest-2.new.keep (slice_set mid from true) c.in_ok-with.ensures.before ∙ take-set mid from true
    ∙ shorter from mid (slice_set c.args.keep.now from false) c.in_ok-without.ensures.before ∙ take-set c.args.keep.now from false

pub returns-clause-all : goal.returns-clause-all
returns-clause-all t c =
    let from = c.args.from in
    let keep = c.args.keep.now in
    let below : from < length keep = omega (arith, c.if-from-keep.false, c.requires.from) in
    both c.args.disk.now c.args.due.now from keep c.try_rest.new.keep below (c.try_rest.ensures.size ∙ length-set keep from false) c.in_ok-without.ensures.before c.in_ok-without.ensures.all c.in_ok-with.ensures.all

pub returns-clause-count : goal.returns-clause-count
returns-clause-count t c =
    let from = c.args.from in
    let keep = c.args.keep.now in
    let mid = c.try_rest.new.keep in
    let below : from < length keep = omega (arith, c.if-from-keep.false, c.requires.from) in
    let half = λ (n : ℕ). 2 ^ (n - (from + 1)) in
    let same : length mid ≡ length keep = c.try_rest.ensures.size ∙ length-set keep from false in
    ap₂ (λ (a b : ℕ). a + b) (c.in_ok-without.ensures.count ∙ ap half (length-set keep from false)) (c.in_ok-with.ensures.count ∙ ap half (length-set mid from true ∙ same)) ∙ doubled (length keep) from below
