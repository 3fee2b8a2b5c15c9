-- Directories and files that are put below a directory.
use Rattle.std.specs.Prelude.{◌≡◌, ◌⊎◌, ℕ, false, List, [], ◌∷◌, ◌++◌, Option, None}
use Rattle.blocks.specs.declared.disk.Disk.{Ghosts}
use Rattle.calls.specs.Calls.{image_on}
use Rattle.calls.specs.Stepping.{Plain}
use Rattle.directories.specs.Paths.{names_of}
use Rattle.directories.specs.Walks.{IsUndoneIn, IsUnfound}
use Rattle.model.specs.Files.{Files, files_of}
use Rattle.model.specs.declared.types.image.Form.{Form}
use Rattle.names.specs.Inside.{form_seen}
use Rattle.names.specs.Making.{IsUnmadeDirectoryIn, MakesDirectoryAt}
use Rattle.names.specs.Ready.{AnyOf, IsUndone}
use Rattle.tree_changes.specs.Changes.{OnTree}
use Rattle.tree_changes.specs.Making.{is_absent, LeadsToDirectory, LeadsToOther}
use Rattle.tree_changes.specs.Puts.{IsUnputAt, Puts, PutsSome}
use Rattle.tree_changes.specs.declared.faults.ChangeRefusal.{ChangeRefusal}
use Rattle.tree_changes.specs.declared.filling.Item.{Item}
use Rattle.tree_changes.specs.declared.filling.What.{What}
use Rattle.tree_changes.specs.declared.filling.What.TheVariants.{Directory, Bytes}

-- names lead to a directory, which was there, or was made
abbrev pub EntersAt : List (List ℕ) → Files → Files → Type 0
EntersAt names files new = ((new ≡ files) × LeadsToDirectory names files)
    ⊎ AnyOf (MakesDirectoryAt names) files new

-- a path leads to a directory then, or to a file of these bytes
abbrev pub PutsWhat : Form → List ℕ → What → Files → Files → Type 0
PutsWhat form path Directory files new = EntersAt (names_of path) files new
PutsWhat form path (Bytes bytes) files new =
    (told : Option ℕ) × Puts path bytes.items form told files new

abbrev pub PutsItem : Form → Item → Files → Files → Type 0
PutsItem form item = PutsWhat form item.path.items item.what

-- these were put, one after the other
abbrev pub PutsEach : Form → List Item → Files → Files → Type 0
PutsEach form [] files new = new ≡ files
PutsEach form (item ∷ items) files new =
    (mid : Files) × PutsItem form item files mid × PutsEach form items mid new

-- below the directory that names lead to
abbrev pub FillsAt : Form → List (List ℕ) → List Item → Files → Files → Type 0
FillsAt form names items files new =
    (entered : Files) × EntersAt names files entered × PutsEach form items entered new

-- the same of a path, and no number is answered
abbrev pub Fills : List ℕ → List Item → Form → Option ℕ → Files → Files → Type 0
Fills path items form number files new =
    (number ≡ None) × FillsAt form (names_of path) items files new

-- ---- what a stop may leave of it

-- of one, besides the files as they were: the directory, or bytes as far as they were put
abbrev pub PutsWhatSome : Form → List ℕ → What → Files → Files → Type 0
PutsWhatSome form path Directory files new = EntersAt (names_of path) files new
PutsWhatSome form path (Bytes bytes) files new = PutsSome path bytes.items form files new

abbrev pub PutsItemSome : Form → Item → Files → Files → Type 0
PutsItemSome form item = PutsWhatSome form item.path.items item.what

-- of these the first one at most
abbrev pub PutsFirst : Form → List Item → Files → Files → Type 0
PutsFirst form [] files new = new ≡ files
PutsFirst form (item ∷ items) files new = (new ≡ files) ⊎ PutsItemSome form item files new

-- of these some were put, from the first on, and of the one behind them a part
pub record PutsUpTo (form : Form) (items : List Item) (files new : Files) : Type 0 where
  pub before : List Item
  pub behind : List Item
  pub split : items ≡ before ++ behind
  pub mid : Files
  pub put : PutsEach form before files mid
  pub part : PutsFirst form behind mid new

-- below the directory that names lead to
abbrev pub FillsSome : Form → List (List ℕ) → List Item → Files → Files → Type 0
FillsSome form names items files new =
    (entered : Files) × EntersAt names files entered × PutsUpTo form items entered new

-- ---- why not, over kernel k, which is m now

-- why a path does not lead to a directory: it was not looked at, or leads to a file that is none; or to
-- nothing, and none was made
abbrev pub IsNotEnteredAt : {D N : Type 0} → Ghosts D N → List ℕ → Plain D → Plain D
    → ChangeRefusal → Type 0
IsNotEnteredAt {D} disk path k m r =
    OnTree (λ fault. (is_absent fault ≡ false)
    × IsUndone disk path (IsUnfound (names_of path)) k m fault) r
    ⊎ (OnTree (IsUndone disk path (LeadsToOther (names_of path)) k m) r
    ⊎ ((mid : Plain D) × (files_of (image_on disk.image mid) ≡ files_of (image_on disk.image k))
    × OnTree (IsUndone disk path (IsUndoneIn IsUnmadeDirectoryIn (names_of path)) mid m) r))

-- why one was not put
abbrev pub IsUnputWhat : {D N : Type 0} → Ghosts D N → List ℕ → What → Plain D → Plain D
    → ChangeRefusal → Type 0
IsUnputWhat disk path Directory k m r = IsNotEnteredAt disk path k m r
IsUnputWhat disk path (Bytes bytes) k m r = IsUnputAt disk path bytes.items k m r

abbrev pub IsUnputItem : {D N : Type 0} → Ghosts D N → Item → Plain D → Plain D → ChangeRefusal
    → Type 0
IsUnputItem disk item = IsUnputWhat disk item.path.items item.what

-- those before one were put, and it was not
pub record StopsPutting {D N : Type 0} (disk : Ghosts D N) (items : List Item) (k m : Plain D)
    (r : ChangeRefusal) : Type 0 where
  pub before : List Item
  pub item : Item
  pub behind : List Item
  pub split : items ≡ before ++ item ∷ behind
  pub mid : Plain D
  pub put : PutsEach (form_seen disk.image k) before (files_of (image_on disk.image k))
      (files_of (image_on disk.image mid))
  pub why : IsUnputItem disk item mid m r

-- why a directory was not filled: it is not there, or not all were put below it
abbrev pub IsUnfilledAt : {D N : Type 0} → Ghosts D N → List ℕ → List Item → Plain D → Plain D
    → ChangeRefusal → Type 0
IsUnfilledAt {D} disk path items k m r = IsNotEnteredAt disk path k m r
    ⊎ ((mid : Plain D) × EntersAt (names_of path) (files_of (image_on disk.image k))
    (files_of (image_on disk.image mid)) × StopsPutting disk items mid m r)
