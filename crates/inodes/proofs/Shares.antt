-- What a step of one process leaves to those that have locked other numbers.
use Rattle.std.proofs.Common.{◌≡◌, ◌≢◌, ℕ, List, set, refl, ◌∙◌, ap, subst, Option, Some, None}
use Rattle.std.specs.Prelude.{IsTrue}
use Rattle.inodes.specs.Common.{AreLooking, Claim, claim_of, claims_of, current_of, grip_of, Image, inode_count_of, is_number, LeavesShares, locked_grip, SameShare, StoreState, TableState, task, TaskState}
use Rattle.model.specs.Layout.{inode_of}
use Rattle.inodes.specs.Lemmas.Holding.{claim_stays}
use Rattle.inodes.proofs.Gripping.{grip_is}
use Rattle.inodes.proofs.LooksKept.{KeepsUsed}
use Rattle.inodes.specs.Lemmas.Unclaimed.{LocksAlone}

-- in an image that keeps what is used, so does what is held of a number
module _ (old new : Image) (t : TableState) (ts : List TaskState) (i : ℕ) (are : AreLooking old t ts) (numbers : t.inode_count ≡ inode_count_of old) (keeps : KeepsUsed t.inode_count i (claims_of ts) old new) where
  pub share_same : (j : ℕ) (o : Option Claim) → claims_of ts j ≡ o → IsTrue (is_number t.inode_count j) → j ≢ i → (inode_of old j).kind ≢ 0 → SameShare old new j o
  share_same j None none number other used = keeps.contents j number other used none
  share_same j (Some c) holds number other used = (keeps.held j c number other holds).names

-- process p's task is u now, which had to do with number i alone
module _ {D : Type 0} (image : D → Image) (s t : StoreState D) (p i : ℕ) (u : TaskState) (are : AreLooking (current_of image s.volume) s.table s.tasks) (numbers : s.table.inode_count ≡ inode_count_of (current_of image s.volume))
    (tasks : t.tasks ≡ set s.tasks p u) (alone : LocksAlone s.tasks p i) (claims : (j : ℕ) → j ≢ i → claim_of u j ≡ claim_of (task s.tasks p) j)
    (keeps : KeepsUsed s.table.inode_count i (claims_of s.tasks) (current_of image s.volume) (current_of image t.volume)) where
  pub shares : LeavesShares image s p t
  shares q k j apart locked used =
      let other : j ≢ i = λ same. alone q k apart (subst (λ (n : ℕ). grip_of (task s.tasks q) ≡ Some (locked_grip k n)) same locked) in
      let number = are.table.numbers j k (are.table.places q (locked_grip k j) (grip_is s.tasks q ∙ locked)).1 in
      record {
        inode = keeps.inodes j number other used;
        claim = ap (λ (ts : List TaskState). claims_of ts j) tasks ∙ claim_stays s.tasks p j u (claims j other);
        same = share_same (current_of image s.volume) (current_of image t.volume) s.table s.tasks i are numbers keeps j (claims_of s.tasks j) refl number other used;
      }
