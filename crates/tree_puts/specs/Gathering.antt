-- What is below a folder of the system, and why it can't be had.
use Rattle.std.specs.Prelude.{◌≡◌, ℕ, List, ◌∷◌, ◌++◌, All, codes}
use Rattle.commands_changes.specs.Refusals.{reading_telling}
use Rattle.commands_changes.specs.declared.refused.ReadFault.TheVariants as read
use Rattle.directories.specs.Entries.{slash}
use Rattle.messages.specs.Telling.{Telling, plain}
use Rattle.tree_changes.specs.declared.filling.Item.{Item}
use Rattle.tree_looks.specs.Tellings.{names_told}
use Rattle.tree_puts.specs.declared.gathering.FolderFault.{FolderFault}
use Rattle.tree_puts.specs.declared.gathering.FolderFault.TheVariants as fault

abbrev pub gathering_telling : FolderFault → Telling
gathering_telling fault.NoMemory = reading_telling read.NoMemory
gathering_telling fault.File = reading_telling read.File
gathering_telling fault.Special = plain (codes "put") 8 (codes "Special")
gathering_telling fault.NameTooLong = names_told 8 (codes "NameTooLong")
gathering_telling fault.BadName = names_told 19 (codes "BadName")
gathering_telling fault.TooMany = names_told 10 (codes "NoNumber")
gathering_telling fault.TooLarge = names_told 11 (codes "NoBlock")

-- an item's path is another one, and something behind it and a slash
abbrev pub IsBelow : List ℕ → Item → Type 0
IsBelow path item = (name : List ℕ) × (item.path.items ≡ path ++ slash ∷ name)

abbrev pub AreBelow : List ℕ → List Item → Type 0
AreBelow path = All (IsBelow path)

-- items below a path were added to others
pub record AddsBelow (path : List ℕ) (old new : List Item) : Type 0 where
  pub more : List Item
  pub added : new ≡ old ++ more
  pub below : AreBelow path more
