use Rattle.std.proofs.Common.{◌≡◌, Bool, true, false, not, ℕ, Option, Some, None, refl, sym, ap, ◌∙◌}
use Rattle.std.specs.List.{position}
use Rattle.std.specs.Option.{is_some}
use Rattle.directories.specs.Entries.{entries_of}
use Rattle.directories.specs.Trees.{leads_down}
use Rattle.directories.proofs.Emptiness.{empty_by_first, first_by_empty}
use Rattle.directories.proofs.directory.is_empty.Goals as goal

none_where : (o : Option ℕ) (b : Bool) → is_some o ≡ not b → b ≡ true → o ≡ None
none_where None b h is = refl
none_where (Some k) true h is = absurd (cc h)
none_where (Some k) false h is = absurd (cc is)

true_where : (o : Option ℕ) (b : Bool) → is_some o ≡ not b → o ≡ None → b ≡ true
true_where None true h none = refl
true_where None false h none = absurd (cc h)
true_where (Some k) b h none = absurd (cc none)

pub returns : goal.returns
returns c =
    let first : c.first_down.result ≡ position leads_down (entries_of c.args.bytes.now) =
    c.first_down.ensures ∙ ap (position leads_down) c.entries_in.ensures.value in (
      λ none. empty_by_first c.args.bytes.now (sym first ∙ none_where c.first_down.result c.is_none.result c.is_none.ensures none),
      λ empty. true_where c.first_down.result c.is_none.result c.is_none.ensures (first ∙ first_by_empty c.args.bytes.now empty),
    )
