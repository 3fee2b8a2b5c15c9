use Rattle.std.proofs.Common.{◌≡◌, ◌∙◌, false, true, get_or, refl, sym, ap}
use Rattle.std.specs.List.{list_all}
use Rattle.offline.specs.Common.{drop_all, drop_more, Pointer}
use Rattle.offline.specs.Clean.{is_clean_pointer}
use Rattle.offline.proofs.table.Table.are_clean.Goals as goal

pub returns-then-not-is_clean : goal.returns-then-not-is_clean
returns-then-not-is_clean c = λ y i counts.
    let pointers = c.args.pointers.now in
    let k = c.loop-pointer.pointer-index in
    let none : Pointer = record { address = 0; needed = false } in
    let here : is_clean_pointer y i (get_or pointers k none) ≡ false = sym (c.is_clean.ensures y i counts) ∙ c.if-not-is_clean.true in
    sym (sym (c.loop-pointer.invariant y i counts) ∙ ap (list_all (is_clean_pointer y i)) (drop_more pointers k none c.loop-pointer-test.true) ∙ rw here refl)

pub loop-pointer-preserved : goal.loop-pointer-preserved
loop-pointer-preserved c = λ y i counts.
    let pointers = c.args.pointers.now in
    let k = c.loop-pointer.pointer-index in
    let none : Pointer = record { address = 0; needed = false } in
    let here : is_clean_pointer y i (get_or pointers k none) ≡ true = sym (c.is_clean.ensures y i counts) ∙ c.if-not-is_clean.false in
    sym (sym (c.loop-pointer.invariant y i counts) ∙ ap (list_all (is_clean_pointer y i)) (drop_more pointers k none c.loop-pointer-test.true) ∙ rw here refl)

pub returns : goal.returns
returns c = λ y i counts.
    sym (sym (c.loop-pointer.invariant y i counts) ∙ ap (list_all (is_clean_pointer y i)) (drop_all c.loop-pointer.pointer-index c.args.pointers.now c.loop-pointer-test.false))
