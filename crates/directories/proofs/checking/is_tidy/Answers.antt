use Rattle.std.proofs.Common.{ℕ, ◌<◌, List, length, sym, subst}
use Rattle.directories.specs.Checks.{IsFirst}
use Rattle.directories.specs.Entries.{AreNamed}
use Rattle.directories.proofs.FirstNames.{first_from_once, once_from_first}
use Rattle.directories.proofs.checking.is_tidy.Goals as goal

abbrev AreFirst : List (List ℕ) → Type 0
AreFirst es = (j : ℕ) → j < length es → IsFirst es j

pub returns-then-is_whole : goal.returns-then-is_whole
returns-then-is_whole c =
    let sizes = c.is_whole.ensures.0 c.if-is_whole.true in (
      λ all.
          let both = c.are_tidy.ensures.0 all in
          record {
            whole = sizes;
            named = subst (λ (es : List (List ℕ)). AreNamed es) c.entries_in.ensures.value both.0;
            once = once_from_first c.args.bytes.now (subst (λ (es : List (List ℕ)). AreFirst es) c.entries_in.ensures.value both.1);
          },
      λ tidy.
          c.are_tidy.ensures.1 (
            subst (λ (es : List (List ℕ)). AreNamed es) (sym c.entries_in.ensures.value) tidy.named,
            subst (λ (es : List (List ℕ)). AreFirst es) (sym c.entries_in.ensures.value) (first_from_once c.args.bytes.now tidy.once),
          ),
    )
