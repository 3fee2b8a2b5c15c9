-- Entries listed one behind the other.
use Rattle.std.proofs.Common.{◌≡◌, ℕ, ◌+◌, ◌<◌, ◌≤◌, Bool, true, false, List, [], length, drop, sym, subst}
use Rattle.std.specs.Prelude.{slice_index_or}
use Rattle.std.proofs.lemmas.List.{at_drop_more, drop_all}
use Rattle.directories.specs.Entries.{entries_of}
use Rattle.directories.specs.Trees.{directory_in}
use Rattle.model.specs.Files.{Files}
use Rattle.mounting.specs.Listings.{Ends, Lists, ListsOn}

module _ (files new : Files) (number offset size : ℕ) (plus : Bool) (items : List (List ℕ)) (first : List ℕ) where
  -- what is listed from an entry on is listed with those before it
  abbrev pub ListsFrom : ℕ → ℕ → List ℕ → Type 0
  ListsFrom index place out = (all : List ℕ) → Lists files number offset size plus place (drop index items) out all → Lists files number offset size plus 0 items first all

  module _ (index place : ℕ) (out mid : List ℕ) (told : Bool) (below : index < length items) (same : new ≡ files) (on : ListsOn new number offset size plus place (slice_index_or items index []) out mid told)
      (before : ListsFrom index place out) where
    there : ListsOn files number offset size plus place (slice_index_or items index []) out mid told
    there = subst (λ (f : Files). ListsOn f number offset size plus place (slice_index_or items index []) out mid told) same on

    -- one more
    pub lists_on : told ≡ true → ListsFrom (index + 1) (place + 1) mid
    lists_on is all rest =
        let one = subst (λ (b : Bool). ListsOn files number offset size plus place (slice_index_or items index []) out mid b) is there in
        before all (subst (λ (l : List (List ℕ)). Lists files number offset size plus place l out all) (sym (at_drop_more (λ (l : List (List ℕ)). l) items index [] below)) (one (drop (index + 1) items) all rest))

    -- there is no room for another
    pub lists_stop : told ≡ false → Lists files number offset size plus 0 items first mid
    lists_stop is =
        let one = subst (λ (b : Bool). ListsOn files number offset size plus place (slice_index_or items index []) out mid b) is there in
        before mid (subst (λ (l : List (List ℕ)). Lists files number offset size plus place l out mid) (sym (at_drop_more (λ (l : List (List ℕ)). l) items index [] below)) (one (drop (index + 1) items)))

  -- behind the last
  pub lists_all : (index place : ℕ) (out : List ℕ) → length items ≤ index → ListsFrom index place out → Lists files number offset size plus 0 items first out
  lists_all index place out past before =
      before out (subst (λ (l : List (List ℕ)). Lists files number offset size plus place l out out) (sym (drop_all index items past)) (Ends place out))

-- of the directory's entries
pub lists_of : (files seen : Files) (number offset size : ℕ) (plus : Bool) (items : List (List ℕ)) (bytes first out : List ℕ) → seen ≡ files → items ≡ entries_of bytes → bytes ≡ directory_in files number
    → Lists seen number offset size plus 0 items first out → Lists files number offset size plus 0 (entries_of (directory_in files number)) first out
lists_of files seen number offset size plus items bytes first out same are is lists =
    subst (λ (b : List ℕ). Lists files number offset size plus 0 (entries_of b) first out) is
    (subst (λ (l : List (List ℕ)). Lists files number offset size plus 0 l first out) are (subst (λ (f : Files). Lists f number offset size plus 0 items first out) same lists))
