use Rattle.std.proofs.Common.{◌≡◌, false, refl, inl, inr, rules, arith}
use Rattle.std.proofs.lemmas.Grind.{common_steps}
use Rattle.directories.specs.Trees.{IsDown}
use Rattle.names.proofs.PlainFiles.{not_told}
use Rattle.names.proofs.tree.Tree.replaceable.Goals as goal

pub returns-then-not-is_down-clause-told : goal.returns-then-not-is_down-clause-told
returns-then-not-is_down-clause-told g c =
    let no : c.is_down.result ≡ false = first_of (search rules, grind (arith, common_steps)) in
    inl (refl, inl (not_told c.is_down.result (IsDown c.args.old.now) no c.is_down.ensures))

pub returns-then-not-is_down-2-clause-told : goal.returns-then-not-is_down-2-clause-told
returns-then-not-is_down-2-clause-told g c =
    let no : c.is_down-2.result ≡ false = first_of (search rules, grind (arith, common_steps)) in
    inl (refl, inr (not_told c.is_down-2.result (IsDown c.args.name.now) no c.is_down-2.ensures))
