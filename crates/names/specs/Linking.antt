-- A file that gets another name.
use Rattle.std.specs.Prelude.{◌≡◌, ◌⊎◌, ℕ, ◌+◌, ◌^◌, ◌≤◌, List, Result, Ok, Err, None}
use Rattle.model.specs.Files.{Files, file_in}
use Rattle.directories.specs.declared.entries.LinkFault.TheVariants as link_fault
use Rattle.directories.specs.declared.refusal.Refusal.{Refusal}
use Rattle.directories.specs.declared.refusal.Refusal.TheVariants.{NotFound, NotADirectory, IsRoot, Exists, Full, NoNumber, NoBlock, IsADirectory, NotEmpty, IsInside, NotDown, TooManyLinks}
use Rattle.directories.specs.Counts.{HasMostLinks}
use Rattle.names.specs.Numbered.{IsNoFile}
use Rattle.directories.specs.TreeChanges.{LinksName}
use Rattle.directories.specs.Trees.{directory_in, links_of, number_of, root, IsDirectory}
use Rattle.directories.specs.Walks.{walked, LeadsIn, IsUnled}
use Rattle.directories.specs.Writes.{IsLinkCause, NeedsBlock}

-- a file's count with one name more, unless it has the greatest
abbrev pub HasMore : Files → ℕ → Result ℕ Refusal → Type 0
HasMore files number (Ok count) = count ≡ links_of (file_in files number) + 1
HasMore files number (Err cause) = (cause ≡ TooManyLinks) × HasMostLinks files number

-- a file has another name, in a directory
abbrev pub LinksIn : ℕ → ℕ → List ℕ → Unit {0} → Files → Files → Type 0
LinksIn number to name done files new = LinksName files new to name number

-- why it has none
abbrev pub IsNotLinkedIn : Files → ℕ → ℕ → List ℕ → Refusal → Type 0
IsNotLinkedIn files number to name IsADirectory = IsDirectory files number
IsNotLinkedIn files number to name NotADirectory = IsDirectory files to → ⊥
IsNotLinkedIn files number to name Exists =
    IsDirectory files to × IsLinkCause (directory_in files to) name link_fault.Exists
IsNotLinkedIn files number to name Full =
    IsDirectory files to × IsLinkCause (directory_in files to) name link_fault.Full
IsNotLinkedIn files number to name NoBlock = IsDirectory files to
    × (number_of files to name ≡ None) × NeedsBlock (directory_in files to)
IsNotLinkedIn files number to name NoNumber = 2 ^ 16 ≤ number
IsNotLinkedIn files number to name TooManyLinks = HasMostLinks files number
IsNotLinkedIn files number to name NotFound = ⊥
IsNotLinkedIn files number to name IsRoot = ⊥
IsNotLinkedIn files number to name NotEmpty = ⊥
IsNotLinkedIn files number to name IsInside = ⊥
IsNotLinkedIn files number to name NotDown = ⊥

-- or there is no such file
abbrev pub IsNotLinkedAs : ℕ → ℕ → List ℕ → Files → Refusal → Type 0
IsNotLinkedAs number to name files cause =
    IsNoFile number files cause ⊎ IsNotLinkedIn files number to name cause

-- names lead to a file, and the last of other ones will be another name of it
pub record LeadToBoth (names into : List (List ℕ)) (files : Files) : Type 0 where
  pub number : ℕ
  pub led : walked files root names ≡ Ok number
  pub to : ℕ
  pub name : List ℕ
  pub led_to : LeadsIn into files to name

-- the file has it
pub record LinksAt (names into : List (List ℕ)) (done : Unit {0}) (files new : Files)
    : Type 0 where
  pub lead : LeadToBoth names into files
  pub links : LinksIn lead.number lead.to lead.name done files new

-- why it has not, there
pub record IsNotLinkedThere (names into : List (List ℕ)) (files : Files) (cause : Refusal)
    : Type 0 where
  pub lead : LeadToBoth names into files
  pub why : IsNotLinkedIn files lead.number lead.to lead.name cause

-- or the first names lead nowhere, or all but the last of the others
abbrev pub IsNotLinkedAt : List (List ℕ) → List (List ℕ) → Files → Refusal → Type 0
IsNotLinkedAt names into files cause = (walked files root names ≡ Err cause)
    ⊎ (IsUnled into files cause ⊎ IsNotLinkedThere names into files cause)
