-- How the journal of a kernel goes on.
use Rattle.std.specs.Prelude.{◌≡◌, ◌⊎◌, ◌<◌, ◌≤◌, ℕ, true, List, [], ◌∷◌, ◌++◌, slice_set, None}
use Rattle.model.specs.declared.types.operations.Entry.{Entry}
use Rattle.model.specs.declared.types.operations.Reply.{Reply}
use Rattle.model.specs.Journal.{kept, is_changing}
use Rattle.wal.specs.Volume.{VolumeState}
use Rattle.history.specs.Most.{most_of}
use Rattle.history.specs.Open.{IsEntry, told}

-- an entry is as it was, or was told its reply
abbrev pub Becomes : Entry → Entry → Type 0
Becomes e f = (f ≡ e) ⊎ ((e.reply ≡ None) × ((r : Reply) × (f ≡ told e r)))

-- no entry is lost: each stays but for a reply that comes, and more are added
abbrev pub Extends : List Entry → List Entry → Type 0
Extends [] after = Unit {0}
Extends (e ∷ before) [] = ⊥
Extends (e ∷ before) (f ∷ after) = Becomes e f × Extends before after

-- Time goes on: no group that was committed is lost, no entry, and what is kept of the groups that
-- recovery may keep stays.
pub record Grows {D : Type 0} (inode_count : ℕ) (v : VolumeState D) (before : List Entry)
    (u : VolumeState D) (after : List Entry) : Type 0 where
  pub committed : v.log.committed ≤ u.log.committed
  pub most : most_of v ≤ most_of u
  pub journal : Extends before after
  pub stays : (c : ℕ) → c ≤ most_of v → kept inode_count after c ≡ kept inode_count before c

-- process p's new entry, of a group that isn't committed
pub record IsLonger (inode_count p committed : ℕ) (before after : List Entry) : Type 0 where
  pub entry : Entry
  pub mine : entry.pid ≡ p
  pub later : is_changing inode_count entry.op ≡ true → committed < entry.group
  pub list : after ≡ before ++ entry ∷ []

-- an entry of process p, of such a group, is told its reply
pub record IsTold (inode_count p committed : ℕ) (before after : List Entry) : Type 0 where
  pub index : ℕ
  pub entry : Entry
  pub reply : Reply
  pub at : IsEntry before index entry
  pub mine : entry.pid ≡ p
  pub none : entry.reply ≡ None
  pub later : is_changing inode_count entry.op ≡ true → committed < entry.group
  pub list : after ≡ slice_set before index (told entry reply)

-- what a step of process p makes of the journal: nothing, an entry more, or a reply
abbrev pub JournalGoes : ℕ → ℕ → ℕ → List Entry → List Entry → Type 0
JournalGoes inode_count p committed before after =
    (after ≡ before)
    ⊎ (IsLonger inode_count p committed before after ⊎ IsTold inode_count p committed before after)
