-- The rule of the board, and what each of its steps tells.
use Rattle.std.specs.Prelude.{◌≡◌, ℕ, ◌+◌, ◌≤◌, Bool, true, false, List, [], ◌==◌, length, slice_index, ◌⊎◌}
use mathlib.Core.Option.{some}
use lib.ListN.{get_elem?}
use Rattle.atomic_table.specs.Table.{State, Me, Step}
use Rattle.rings.specs.declared.view.View.{View}
use Rattle.rings.specs.declared.view.View.TheVariants.{Both, Keeps, Watches}

abbrev pub Table : Type 0
Table = State (Unit {0}) View

-- the word DURABLE
abbrev pub durable_of : Table → ℕ
durable_of s = slice_index s.words 0

-- the word SHUT
abbrev pub shut_of : Table → ℕ
shut_of s = slice_index s.words 1

-- Where DURABLE is d and SHUT is h: the keeper sits at seat 0, its count is d, and it has heard only where h is 1. What a watch has seen is at most d, and it has asked only where h is 1.
abbrev pub FitsKeeper : ℕ → ℕ → ℕ → ℕ → Bool → Type 0
FitsKeeper d h seat count heard = (seat ≡ 0) × (count ≡ d) × (heard ≡ true → h ≡ 1)

abbrev pub FitsWatch : ℕ → ℕ → ℕ → Bool → Type 0
FitsWatch d h seen asked = (seen ≤ d) × (asked ≡ true → h ≡ 1)

abbrev pub FitsView : ℕ → ℕ → ℕ → View → Type 0
FitsView d h seat (Keeps count heard) = FitsKeeper d h seat count heard
FitsView d h seat (Watches seen asked) = FitsWatch d h seen asked
FitsView d h seat (Both count heard seen asked) =
    FitsKeeper d h seat count heard × FitsWatch d h seen asked

-- a keeper's count, and whether it has heard
abbrev pub count_of : View → ℕ
count_of (Keeps count heard) = count
count_of (Watches seen asked) = 0
count_of (Both count heard seen asked) = count

abbrev pub heard_of : View → Bool
heard_of (Keeps count heard) = heard
heard_of (Watches seen asked) = false
heard_of (Both count heard seen asked) = heard

abbrev pub is_keeper : View → Bool
is_keeper (Keeps count heard) = true
is_keeper (Watches seen asked) = false
is_keeper (Both count heard seen asked) = false

abbrev pub is_watch : View → Bool
is_watch (Keeps count heard) = false
is_watch (Watches seen asked) = true
is_watch (Both count heard seen asked) = false

-- what a watch has seen, and whether it has asked
abbrev pub seen_of : View → ℕ
seen_of (Keeps count heard) = 0
seen_of (Watches seen asked) = seen
seen_of (Both count heard seen asked) = seen

abbrev pub asked_of : View → Bool
asked_of (Keeps count heard) = false
asked_of (Watches seen asked) = asked
asked_of (Both count heard seen asked) = asked

-- some watch has asked
abbrev pub SomeAsked : List View → Type 0
SomeAsked views = (seat : ℕ) × (v : View) × (get_elem? views seat ≡ some v) × (asked_of v ≡ true)

-- SHUT is 1 where some watch has asked, and else 0
abbrev pub ShutFits : ℕ → List View → Type 0
ShutFits h views = (h ≡ 0) ⊎ ((h ≡ 1) × SomeAsked views)

pub record IsKept (s : Table) : Type 0 where
  pub two : length s.words ≡ 2
  pub views : (seat : ℕ) (v : View) → get_elem? s.views seat ≡ some v → FitsView (durable_of s) (shut_of s) seat v
  pub shut : ShutFits (shut_of s) s.views

abbrev pub keeps : ℕ → Bool → View
keeps = Keeps

abbrev pub watches : ℕ → Bool → View
watches = Watches

-- what a keeper and a watch know together, and each part of it
abbrev pub united : View → View → View
united v w = Both (count_of v) (heard_of v) (seen_of w) (asked_of w)

abbrev pub keeper_part : View → View
keeper_part v = Keeps (count_of v) (heard_of v)

abbrev pub watch_part : View → View
watch_part v = Watches (seen_of v) (asked_of v)

abbrev pub Known : Type 0
Known = Me (Unit {0}) View

-- the keeper's seat, with what it knows
abbrev pub IsKeeperWith : Known → ℕ → Bool → Type 0
IsKeeperWith m count heard = m ≡ (Keeps count heard, [])

abbrev pub IsWatchWith : Known → ℕ → Bool → Type 0
IsWatchWith m seen asked = m ≡ (Watches seen asked, [])

-- publish: the count is one more
abbrev pub Publishes : Step (Unit {0}) → Known → ℕ → Known → Type 0
Publishes s m found n = IsKeeperWith n (count_of m.0 + 1) (heard_of m.0)

-- look: what is found is what was seen, and no less than before
abbrev pub Looks : Step (Unit {0}) → Known → ℕ → Known → Type 0
Looks s m found n = IsWatchWith n found (asked_of m.0) × (seen_of m.0 ≤ found)

-- ask: the watch has asked
abbrev pub Asks : Step (Unit {0}) → Known → ℕ → Known → Type 0
Asks s m found n = IsWatchWith n (seen_of m.0) true

-- heed: the keeper has heard where it finds 1, and it finds 1 where it has heard
abbrev pub Heeds : Step (Unit {0}) → Known → ℕ → Known → Type 0
Heeds s m found n = IsKeeperWith n (count_of m.0) (found == 1) × (heard_of m.0 ≡ true → found ≡ 1)

-- compare: the watch has seen no more than the keeper published; nothing changes
abbrev pub Compares : Step (Unit {0}) → Known → ℕ → Known → Type 0
Compares s m found n = (n ≡ m) × (seen_of m.0 ≤ count_of m.0)
