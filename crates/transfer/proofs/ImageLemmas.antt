-- What a check without a fault says of the image that recovery leaves, and of the file of a number.
use Rattle.std.proofs.Common.{◌≡◌, ◌≢◌, ◌∙◌, ℕ, ◌<◌, ◌≤◌, List, length, Option, None, Some, ap, sym, subst, inl, inr, arith, cond, eqb, not, count_by, refl}
use Rattle.std.specs.List.{range_with_len}
use Rattle.std.proofs.lemmas.Bool.{ne_eqb}
use Rattle.blocks.specs.Calls.{OnlyReads}
use Rattle.blocks.specs.Disk.{Image, Rose, block_at}
use Rattle.blocks.specs.Lemmas.Reads.{reads_then}
use Rattle.blocks.specs.declared.disk.Disk.{Ghosts}
use Rattle.offline.specs.Cause.{IsCause}
use Rattle.offline.specs.declared.recovered.Recovered.{Recovered}
use Rattle.model.specs.Fields.{u32_at, has_bit}
use Rattle.model.specs.Files.{bytes_in, file_in, file_of, files_of}
use Rattle.model.specs.Layout.{form_of, inode_count_of, inode_of, magic_of, super_of}
use Rattle.model.specs.Log.{recovered}
use Rattle.model.specs.Verdict.{geometry_fault, log_fault, or_else, verdict}
use Rattle.model.specs.declared.types.fault.CheckFault.{CheckFault}
use Rattle.model.specs.declared.types.fault.CheckFault.TheVariants as check
use Rattle.model.specs.declared.types.image.Dinode.{Dinode}
use Rattle.model.specs.declared.types.image.Form.{Form}
use Rattle.model.specs.declared.types.image.Form.TheVariants.{One, Two}
use Rattle.model.specs.declared.types.image.Super.{Super}
use Rattle.model.specs.Lemmas.FileNumbers.{file_in-files_of, file_in-files_of_past}
use Rattle.model.specs.Lemmas.Log.{length-recovered, recovered_low}
use Rattle.model.specs.Lemmas.Super.{SuperFacts, lawful_geometry, long_where_sound, or_else_none, super_of-recovered, verdict_none}
use Rattle.transfer.specs.Judging.{IsCheckedOf, IsOldRefused, IsTold}
use Rattle.transfer.specs.Needs.{free_count}
use Rattle.transfer.specs.Places.{IsOtherOld, LacksOld}
use Rattle.transfer.specs.declared.refused.PutRefusal.{PutRefusal}
use Rattle.transfer.specs.declared.refused.PutRefusal.TheVariants.{Check, NoFile, NotAFile}

-- ---- the superblock

form_in : List ℕ → Form
form_in bytes = cond (eqb (u32_at bytes 0) (magic_of Two)) Two One

module _ (x : Image) (image : Recovered) (is : IsCheckedOf x image) where
  super_recovered : image.sup ≡ super_of (recovered x)
  super_recovered =
      let long = long_where_sound x is.sound in
      is.recovered.sup ∙ sym (super_of-recovered x (verdict_none x is.sound).1 (omega (arith, long)))

  pub form_recovered : image.form ≡ form_of (recovered x)
  unfolding form_in
  form_recovered =
      let long = long_where_sound x is.sound in
      let one = recovered_low x 1 (verdict_none x is.sound).1 (omega arith) (omega arith) (omega (arith, long)) in
      is.recovered.form ∙ ap form_in (sym one)

  facts : SuperFacts image.sup (length x)
  facts = subst (λ (s : Super). SuperFacts s (length x)) (sym is.recovered.sup) (lawful_geometry x is.recovered.geometry)

  pub free_counted : (bitmap : List ℕ) (count : ℕ) → bitmap ≡ block_at (recovered x) image.sup.bmapstart →
      count ≡ count_by (λ (b : ℕ). not (has_bit bitmap b)) (range_with_len 0 image.sup.size) → count ≡ free_count (recovered x)
  free_counted bitmap count read counted =
      counted
      ∙ ap (λ (bytes : List ℕ). count_by (λ (b : ℕ). not (has_bit bytes b)) (range_with_len 0 image.sup.size))
      (read ∙ ap (λ (s : Super). block_at (recovered x) s.bmapstart) super_recovered)
      ∙ ap (λ (n : ℕ). count_by (λ (b : ℕ). not (has_bit (block_at (recovered x) (super_of (recovered x)).bmapstart) b)) (range_with_len 0 n))
      (facts.size ∙ sym (length-recovered x))

  -- ---- the file of a number

  count_recovered : image.sup.ninodes ≡ inode_count_of (recovered x)
  count_recovered = ap (λ (s : Super). s.ninodes) super_recovered

  pub none_past : (i : ℕ) → image.sup.ninodes ≤ i → file_in (files_of (recovered x)) i ≡ None
  none_past i past = file_in-files_of_past (recovered x) i (omega (arith, count_recovered, past))

  module _ (i : ℕ) (d : Dinode) (some : i ≢ 0) (low : i < image.sup.ninodes) (here : d ≡ inode_of (recovered x) i) where
    file_here : file_in (files_of (recovered x)) i ≡ file_of (recovered x) d
    file_here =
        file_in-files_of (recovered x) i (omega (arith, count_recovered, low))
        ∙ rw (ne_eqb i 0 some) (ap (file_of (recovered x)) (sym here))

    pub free_number : d.kind ≡ 0 → file_in (files_of (recovered x)) i ≡ None
    unfolding file_of
    free_number free = file_here ∙ rw free refl

    pub file_number : d.kind ≢ 0 → file_in (files_of (recovered x)) i ≡ Some (record { kind = d.kind; links = d.nlink; bytes = bytes_in (recovered x) d })
    unfolding file_of
    file_number used = file_here ∙ rw (ne_eqb d.kind 0 used) refl

    pub used_number : d.kind ≢ 0 → file_in (files_of (recovered x)) i ≢ None
    unfolding file_of
    used_number used none =
        let file : file_of (recovered x) d ≡ Some (record { kind = d.kind; links = d.nlink; bytes = bytes_in (recovered x) d }) = rw (ne_eqb d.kind 0 used) refl in
        cc (sym file_here ∙ none, file)

-- ---- a checked image is opened

pub open_fault : (x : Image) (old new : ℕ) (fault : CheckFault) → verdict x ≡ None → IsCause (or_else (geometry_fault x) (log_fault x)) old new fault →
    fault ≢ check.NoMemory → (fault ≡ check.Disk) × Rose old new
unfolding verdict
open_fault x old new fault sound (inl here) other =
    let first = or_else_none (geometry_fault x) _ sound in
    let second = or_else_none (log_fault x) _ first.1 in
    absurd (cc (here, ap (λ (g : Option CheckFault). or_else g (log_fault x)) first.0, second.0))
open_fault x old new fault sound (inr (inl failed)) other = failed
open_fault x old new fault sound (inr (inr refused)) other = absurd (other refused)

-- ---- the old file is not one that bytes can be put in

pub old_told : {D N : Type 0} (disk : Ghosts D N) (inum : Option ℕ) (count : ℕ) (d mid e : D) → verdict (disk.image d) ≡ None → OnlyReads disk d mid → OnlyReads disk mid e → disk.fault_count mid ≡ disk.fault_count d
    → (r : PutRefusal) → IsOldRefused (recovered (disk.image mid)) inum (disk.fault_count mid) (disk.fault_count e) r → IsTold disk inum count d e r
old_told disk inum count d mid e sound first then same (Check fault) why = record {
  cause = inr (inl (why.0, subst (λ (n : ℕ). Rose n (disk.fault_count e)) same why.1));
  reads = reads_then disk d mid e first then;
}
old_told disk inum count d mid e sound first then same NoFile why = record {
  cause = (sound, why.1 ∙ same, subst (λ (x : Image). LacksOld (files_of (recovered x)) inum) first.image why.0);
  reads = reads_then disk d mid e first then;
}
old_told disk inum count d mid e sound first then same NotAFile why = record {
  cause = (sound, why.1 ∙ same, subst (λ (x : Image). IsOtherOld (files_of (recovered x)) inum) first.image why.0);
  reads = reads_then disk d mid e first then;
}
old_told disk inum count d mid e sound first then same _ why = absurd why
