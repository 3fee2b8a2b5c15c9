-- The entries that are kept in memory.
use Rattle.std.specs.Prelude.{◌≡◌, ℕ, List, [], ◌∷◌, ◌++◌, slice_set, Option, Some, None}
use Rattle.std.specs.Option.{option_map}
use Rattle.model.specs.declared.types.operations.Entry.{Entry}
use Rattle.model.specs.declared.types.operations.Reply.{Reply}
use Rattle.history.specs.Journal.{entry_in}
use Rattle.history.specs.Open.{told}

abbrev pub with_entry : Option (List Entry) → Entry → Option (List Entry)
with_entry kept e = option_map (λ (es : List Entry). es ++ e ∷ []) kept

abbrev pub with_reply : Option (List Entry) → ℕ → Reply → Option (List Entry)
with_reply kept k reply =
    option_map (λ (es : List Entry). slice_set es k (told (entry_in es k) reply)) kept

-- where they are kept, they are the journal's
abbrev pub Records : Option (List Entry) → List Entry → Type 0
Records None es = Unit {0}
Records (Some kept) es = kept ≡ es
