-- What a reader of an image knows of the image that recovery would leave, and of the file of a number.
use Rattle.std.proofs.Common.{◌≡◌, ◌≢◌, ◌∙◌, ℕ, ◌<◌, ◌≤◌, cond, eqb, List, Option, None, Some, refl, sym, ap, subst, arith}
use Rattle.std.specs.Prelude.{IfNone}
use Rattle.std.proofs.lemmas.Bool.{ne_eqb}
use Rattle.std.proofs.lemmas.List.{take-take}
use Rattle.blocks.specs.Disk.{Image, IsImage, Rose}
use Rattle.model.specs.Fields.{u32_at}
use Rattle.model.specs.Files.{bytes_in, file_in, file_of, files_of}
use Rattle.model.specs.Layout.{form_of, inode_count_of, inode_of, magic_of, super_of}
use Rattle.model.specs.Lemmas.Bytes.{file_used}
use Rattle.model.specs.Lemmas.FileNumbers.{file_in-files_of, file_in-files_of_past}
use Rattle.model.specs.Lemmas.Log.{recovered_low}
use Rattle.model.specs.Lemmas.Super.{lawful_geometry, super_of-recovered}
use Rattle.model.specs.Log.{recovered}
use Rattle.model.specs.Operations.{part_of}
use Rattle.model.specs.declared.types.fault.CheckFault.{CheckFault}
use Rattle.model.specs.declared.types.fault.CheckFault.TheVariants as check
use Rattle.model.specs.declared.types.image.Dinode.{Dinode}
use Rattle.model.specs.declared.types.image.Form.{Form}
use Rattle.model.specs.declared.types.image.Form.TheVariants.{One, Two}
use Rattle.model.specs.declared.types.image.Super.{Super}
use Rattle.offline.specs.Cause.{IsBreak}
use Rattle.offline.specs.Checked.{IsCheckedOf, IsInodeOf}
use Rattle.offline.specs.Laws.{CheckedFilesMayBeRead}
use Rattle.offline.specs.Recovered.{IsRecoveredOf, MayReadFile}
use Rattle.offline.specs.declared.recovered.Recovered.{Recovered}

-- ---- the superblock

module _ (x : Image) (image : Recovered) (is : IsRecoveredOf x image) where
  pub super_recovered : image.sup ≡ super_of (recovered x)
  super_recovered =
      let f = lawful_geometry x is.geometry in
      let room = f.room in
      let size = f.size in
      is.sup ∙ sym (super_of-recovered x is.header.lawful (omega arith))

  pub count_recovered : image.sup.ninodes ≡ inode_count_of (recovered x)
  count_recovered = ap (λ (s : Super). s.ninodes) super_recovered

  pub form_recovered : image.form ≡ form_of (recovered x)
  form_recovered =
      let f = lawful_geometry x is.geometry in
      let room = f.room in
      let size = f.size in
      is.form ∙ ap form_in (sym (recovered_low x 1 is.header.lawful (omega arith) (omega arith) (omega arith)))
    where
      form_in : List ℕ → Form
      form_in bytes = cond (eqb (u32_at bytes 0) (magic_of Two)) Two One

-- ---- the file of a number

pub none_past : (x : Image) (image : Recovered) (i : ℕ) → IsRecoveredOf x image → image.sup.ninodes ≤ i → file_in (files_of (recovered x)) i ≡ None
none_past x image i is past = file_in-files_of_past (recovered x) i (omega (arith, count_recovered x image is, past))

module _ (x : Image) (image : Recovered) (i : ℕ) (d : Dinode) (is : IsRecoveredOf x image) (some : i ≢ 0) (low : i < image.sup.ninodes) (here : d ≡ inode_of (recovered x) i) where
  pub file_here : file_in (files_of (recovered x)) i ≡ file_of (recovered x) d
  file_here =
      file_in-files_of (recovered x) i (omega (arith, count_recovered x image is, low))
      ∙ rw (ne_eqb i 0 some) (ap (file_of (recovered x)) (sym here))

  pub none_free : d.kind ≡ 0 → file_in (files_of (recovered x)) i ≡ None
  unfolding file_of
  none_free free = file_here ∙ rw free refl

pub inode_used : (x : Image) (image : Recovered) (i : ℕ) (d : Dinode) → IsImage x → CheckedFilesMayBeRead → IsCheckedOf x image → i ≢ 0 → i < image.sup.ninodes → d ≡ inode_of (recovered x) i → d.kind ≢ 0 → IsInodeOf (recovered x) i d
inode_used x image i d is_image law is some low here used =
    let known : image.sup.ninodes ≡ inode_count_of x = ap (λ (s : Super). s.ninodes) is.recovered.sup in
    record {
      file = file_here x image i d is.recovered some low here ∙ file_used (recovered x) d used;
      readable = subst (λ (e : Dinode). MayReadFile (recovered x) e) (sym here)
          (law x i is_image is.sound (omega (arith, some)) (omega (arith, known, low)) (λ free. used (ap (λ (e : Dinode). e.kind) here ∙ free)));
    }

-- what is told of a number without a file, where none was found
pub none_told : {X : Type 0} (found : Option X) (P : Type 0) → IfNone found P → ((x : X) → found ≡ Some x → ⊥) → P
none_told None P told not = told
none_told (Some x) P told not = absurd (not x refl)

-- all bytes of a file, read into as many places
pub all_read : (y : Image) (d : Dinode) → part_of (bytes_in y d) 0 d.size ≡ bytes_in y d
unfolding bytes_in
all_read y d = take-take d.size d.size _ (omega arith)

-- ---- why a reading ended

-- a read that failed
pub broken_by_read : (old new : ℕ) (fault : CheckFault) → IsBreak old new fault → fault ≢ check.NoMemory → Rose old new
broken_by_read old new check.Disk broken other = broken
broken_by_read old new check.NoMemory broken other = absurd (other refl)
broken_by_read old new fault broken other = absurd broken
