-- A file that is shown, piece by piece.
use Rattle.std.proofs.Common.{◌≡◌, ◌∙◌, ℕ, ◌+◌, ◌<◌, List, ◌++◌, length, take, drop, Option, Some, None, refl, sym, ap, subst, inl, inr, arith, ⊎_elim}
use Rattle.std.proofs.Math.Seq.{take-add}
use Rattle.std.proofs.KnownBytes.{Appends-trans}
use Rattle.std.proofs.lemmas.List.{take-take}
use Rattle.std.specs.Io.KnownBytes.{Appends, Keeps}
use Rattle.blocks.specs.Calls.{OnlyReads}
use Rattle.blocks.specs.Disk.{Image, Rose}
use Rattle.blocks.specs.declared.disk.Disk.{Ghosts}
use Rattle.model.specs.Files.{bytes_in, file_in, files_of}
use Rattle.model.specs.Log.{logged_count, recovered}
use Rattle.model.specs.declared.types.image.Dinode.{Dinode}
use Rattle.model.specs.Lemmas.Log.{length-recovered}
use Rattle.offline.specs.Checked.{IsInodeOf}
use Rattle.opening.specs.Lemmas.Recovered.{recovered_again}
use Rattle.opening.specs.Recoveries.{IsRecovered}
use Rattle.disk_commands.specs.Showing.{IsNotShown, IsPartly, IsUnshown, ShowsFile, ShowsFirst, FailsRecovered}
use Rattle.disk_commands.specs.declared.refusals.CatRefusal.{CatRefusal}
use Rattle.disk_commands.specs.declared.refusals.CatRefusal.TheVariants.{NoMemory, Unrecovered, NoFile, Disk, Output}

-- ---- piece by piece

-- one piece more
pub piece_more : (all : List ℕ) (at count : ℕ) (bytes : List ℕ) (old mid new : Option (List ℕ)) → bytes ≡ take count (drop at all) → Appends old mid (take at all) → Appends mid new bytes → Appends old new (take (at + count) all)
piece_more all at count bytes old mid new is before piece =
    let joined : take at all ++ bytes ≡ take (at + count) all = ap (λ (l : List ℕ). take at all ++ l) is ∙ sym (take-add at count all) in
    subst (Appends old new) joined (Appends-trans old mid new _ _ before piece)

-- all of them
pub all_written : (x : Image) (d : Dinode) (at : ℕ) (old new : Option (List ℕ)) → at ≡ d.size → Appends old new (take at (bytes_in x d)) → Appends old new (bytes_in x d)
unfolding bytes_in
all_written x d at old new end written = subst (Appends old new) (ap (λ (n : ℕ). take n (bytes_in x d)) end ∙ take-take d.size d.size _ (omega arith)) written

kept_behind : (old mid new : Option (List ℕ)) (bytes : List ℕ) → Appends old mid bytes → Keeps mid new → Appends old new bytes
kept_behind None mid new bytes before keeps = tt
kept_behind (Some a) None new bytes before keeps = absurd before
kept_behind (Some a) (Some b) None bytes before keeps = absurd keeps
kept_behind (Some a) (Some b) (Some c) bytes before keeps = keeps ∙ before

-- the file was written whole
pub shown_whole : (x : Image) (i : ℕ) (d : Dinode) (old mid new : Option (List ℕ)) → IsInodeOf x i d → Appends old mid (bytes_in x d) → Keeps mid new → ShowsFile x i old new
shown_whole x i d old mid new is written keeps = record {
  file = record { kind = d.kind; links = d.nlink; bytes = bytes_in x d };
  is = is.file;
  bytes = kept_behind old mid new (bytes_in x d) written keeps;
}

-- ---- why the file was not written whole

pub counted_so : {D N : Type 0} (disk : Ghosts D N) (d e : D) (copied : ℕ) → IsRecovered disk copied d e → IsRecovered disk (logged_count (disk.image d)) d e
counted_so disk d e copied is = subst (λ (n : ℕ). IsRecovered disk n d e) is.count is

module _ {D N : Type 0} (disk : Ghosts D N) (d mid e : D) (is : IsRecovered disk (logged_count (disk.image d)) d mid) (reads : OnlyReads disk mid e) where
  recovered_still : disk.fault_count e ≡ disk.fault_count mid → IsRecovered disk (logged_count (disk.image d)) d e
  recovered_still same = record {
    sound = is.sound;
    count = refl;
    image = reads.image ∙ is.image;
    none = ap logged_count reads.image ∙ is.none;
    writes = reads.writes ∙ is.writes;
    syncs = reads.syncs ∙ is.syncs;
    faults = same ∙ is.faults;
  }

  failed_still : Rose (disk.fault_count mid) (disk.fault_count e) → FailsRecovered disk d e
  failed_still rose = record {
    sound = is.sound;
    image = reads.image ∙ is.image;
    writes = reads.writes ∙ is.writes;
    faults = subst (λ (n : ℕ). Rose n (disk.fault_count e)) is.faults rose;
  }

  pub not_shown : (i : ℕ) (old new : Option (List ℕ)) (none : Type 0) (r : CatRefusal) → IsUnshown disk mid e i old new none r → IsNotShown disk d e i old new none r
  not_shown i old new none NoFile why = (recovered_still why.0, (is.sound, subst (λ (y : Image). file_in (files_of y) i ≡ None) (recovered_again disk d mid is) why.1), why.2)
  not_shown i old new none (Disk fault) why = (
    subst (λ (n : ℕ). fault.0 < n) (ap (λ (x : Image). length x) is.image ∙ length-recovered (disk.image d)) why.0,
    failed_still why.1,
    ⊎_elim (λ nothing. inl nothing) (λ part. inr (is.sound, subst (λ (y : Image). ShowsFirst y i old new) (recovered_again disk d mid is) part)) why.2,
  )
  not_shown i old new none Output why = recovered_still why
  not_shown i old new none NoMemory why = absurd why
  not_shown i old new none (Unrecovered refusal) why = absurd why

-- a file of which some bytes were written, over a disk that is now mid
pub part_unshown : {D N : Type 0} (disk : Ghosts D N) (d mid e : D) (i : ℕ) (inode : Dinode) (old new : Option (List ℕ)) (none : Type 0) → disk.image mid ≡ disk.image d → disk.fault_count mid ≡ disk.fault_count d → IsInodeOf (recovered (disk.image d)) i inode
    → (r : CatRefusal) → IsPartly disk mid e (bytes_in (recovered (disk.image mid)) inode) old new r → IsUnshown disk d e i old new none r
part_unshown disk d mid e i inode old new none image same is (Disk fault) why = (
  subst (λ (x : Image). fault.0 < length x) image why.0,
  subst (λ (n : ℕ). Rose n (disk.fault_count e)) same why.1,
  inr (record {
    file = record { kind = inode.kind; links = inode.nlink; bytes = bytes_in (recovered (disk.image d)) inode };
    is = is.file;
    count = why.2.0;
    bytes = subst (λ (y : Image). Appends old new (take why.2.0 (bytes_in (recovered y) inode))) image why.2.1;
  }),
)
part_unshown disk d mid e i inode old new none image same is Output why = why ∙ same
part_unshown disk d mid e i inode old new none image same is NoMemory why = absurd why
part_unshown disk d mid e i inode old new none image same is NoFile why = absurd why
part_unshown disk d mid e i inode old new none image same is (Unrecovered refusal) why = absurd why
