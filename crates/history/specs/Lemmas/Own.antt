-- What is a beginning of the operations that were taken is one of those that were handed in.
use Rattle.std.proofs.Common.{◌≡◌, Bool, ℕ, List, ◌++◌, sym, ◌∙◌, ap}
use mathlib.Core.List.{IsPrefix}
use Rattle.std.specs.List.{filter}
use Rattle.history.specs.Common.{append_assoc, Entry, filter-append, is_changing, Op}
use Rattle.history.specs.Own.{KeepsFirst}

longer : (test : Op → Bool) (kept taken rest ops : List Op) → IsPrefix kept (filter test taken) → ops ≡ taken ++ rest → IsPrefix kept (filter test ops)
longer test kept taken rest ops (behind, is) order = (
  behind ++ filter test rest,
  sym (append_assoc kept behind (filter test rest)) ∙ ap (λ (xs : List Op). xs ++ filter test rest) is ∙ sym (filter-append test taken rest) ∙ ap (filter test) (sym order),
)

pub keeps_first : (inode_count : ℕ) (es : List Entry) (p : ℕ) (taken rest ops : List Op) → KeepsFirst inode_count es p taken → ops ≡ taken ++ rest → KeepsFirst inode_count es p ops
keeps_first inode_count es p taken rest ops keeps order c = longer (is_changing inode_count) _ taken rest ops (keeps c) order
