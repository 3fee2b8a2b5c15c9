-- An image with our log is sound in the one sense exactly where it is in the other.
use Rattle.std.proofs.Common.{◌≡◌, ℕ, ◌-◌, ◌≤◌, true, ◌&&◌, ◌||◌, eqb, leb, ltb, List, length, None, refl, sym, ap, ◌∙◌, subst, arith}
use Rattle.std.specs.Prelude.{All, Option}
use Rattle.blocks.specs.Disk.{Image, IsImage}
use Rattle.model.specs.Common.{addresses_in, are_alike, are_distinct, are_in_place, eqb-true, first_data_block, form_of, inode_count_of, is_inode_count, is_lawful_log, is_lawful_super, is_size, logged_count, magic_at, magic_of, numbers_of, places_of, planned_super, pointers_of, super_of}
use Rattle.model.specs.declared.types.image.Form.TheVariants.{One}
use Rattle.model.specs.declared.types.image.Super.{Super}
use Rattle.model.specs.Layout.{inode_of}
use Rattle.model.specs.Lemmas.Counts.{All-range, All-range_at}
use Rattle.model.specs.Lemmas.Frames.{flat_map_same}
use Rattle.model.specs.Lemmas.Log.{both_of, recovered_empty}
use Rattle.model.specs.Lemmas.Recovery.{no_homes}
use Rattle.model.specs.Lemmas.Soundness.{sound_verdict}
use Rattle.model.specs.Places.{pointers_in}
use Rattle.model.specs.Soundness.{count_of, IsFilled, IsLawfulInode, IsSound, place_count}
use Rattle.model.specs.Verdict.{verdict}
use Rattle.conversion.specs.Converted.{conversion_fault, IsNewFault, IsRefusal}
use Rattle.conversion.specs.declared.fault.ConversionFault.{ConversionFault}
use Rattle.conversion.specs.declared.fault.ConversionFault.TheVariants.{BadGeometry, BadMagic, Disk, Logged, NoMemory, SizeRange, Unsound}
use Rattle.conversion.specs.Common.{chosen_size, is_log_length, is_older_super, is_size_with, meta_with, super_with}
use Rattle.conversion.specs.Moving.{moved_image}
use Rattle.conversion.specs.Older.{older_inode}
use Rattle.conversion.specs.OlderSound.{IsOlderSound, older_first_data, older_places, older_pointers}
use Rattle.conversion.specs.Shortened.{SoundOnesConvert}
use Rattle.conversion.proofs.FitLemmas.{fit_of, older_facts}
use Rattle.conversion.proofs.MovedLemmas.{fields-moved, form_one}
use Rattle.conversion.proofs.OlderSoundLemmas.{soundness_is_kept}
use Rattle.conversion.proofs.OverLemmas.{own_inode}

-- ---- the superblock

lawful_of_older : (s : Super) (n : ℕ) → is_older_super s n ≡ true → s.nlog ≡ 31 → is_lawful_super s n ≡ true
lawful_of_older s n h own =
    let all = both_of (eqb s.size n && is_inode_count s.ninodes && is_log_length s.nlog && is_size_with s.nlog s.size s.ninodes) (are_alike s (super_with s.nlog s.size s.ninodes)) h in
    let four = both_of (eqb s.size n && is_inode_count s.ninodes && is_log_length s.nlog) (is_size_with s.nlog s.size s.ninodes) all.0 in
    let three = both_of (eqb s.size n && is_inode_count s.ninodes) (is_log_length s.nlog) four.0 in
    let two = both_of (eqb s.size n) (is_inode_count s.ninodes) three.0 in
    let fits : is_size s.size s.ninodes ≡ true = subst (λ (m : ℕ). is_size_with m s.size s.ninodes ≡ true) own four.1 in
    let alike : are_alike s (planned_super s.size s.ninodes) ≡ true = subst (λ (m : ℕ). are_alike s (super_with m s.size s.ninodes) ≡ true) own all.1 in
    rw (two.0, two.1, fits, alike) refl

-- a lawful superblock names our log
pub our_log : (s : Super) (n : ℕ) → is_lawful_super s n ≡ true → s.nlog ≡ 31
our_log s n h =
    let p = planned_super s.size s.ninodes in
    let all = both_of (eqb s.size n && is_inode_count s.ninodes && is_size s.size s.ninodes) (are_alike s p) h in
    let six = both_of (eqb s.size p.size && eqb s.nblocks p.nblocks && eqb s.ninodes p.ninodes && eqb s.nlog p.nlog && eqb s.logstart p.logstart && eqb s.inodestart p.inodestart) (eqb s.bmapstart p.bmapstart) all.1 in
    let five = both_of (eqb s.size p.size && eqb s.nblocks p.nblocks && eqb s.ninodes p.ninodes && eqb s.nlog p.nlog && eqb s.logstart p.logstart) (eqb s.inodestart p.inodestart) six.0 in
    let four = both_of (eqb s.size p.size && eqb s.nblocks p.nblocks && eqb s.ninodes p.ninodes && eqb s.nlog p.nlog) (eqb s.logstart p.logstart) five.0 in
    let three = both_of (eqb s.size p.size && eqb s.nblocks p.nblocks && eqb s.ninodes p.ninodes) (eqb s.nlog p.nlog) four.0 in
    eqb-true s.nlog p.nlog three.1

pub older_of_lawful : (s : Super) (n : ℕ) → is_lawful_super s n ≡ true → is_older_super s n ≡ true
older_of_lawful s n h =
    let own = our_log s n h in
    let all = both_of (eqb s.size n && is_inode_count s.ninodes && is_size s.size s.ninodes) (are_alike s (planned_super s.size s.ninodes)) h in
    let three = both_of (eqb s.size n && is_inode_count s.ninodes) (is_size s.size s.ninodes) all.0 in
    let two = both_of (eqb s.size n) (is_inode_count s.ninodes) three.0 in
    let log : is_log_length s.nlog ≡ true = ap is_log_length own in
    let fits : is_size_with s.nlog s.size s.ninodes ≡ true = subst (λ (m : ℕ). is_size_with m s.size s.ninodes ≡ true) (sym own) three.1 in
    let alike : are_alike s (super_with s.nlog s.size s.ninodes) ≡ true = subst (λ (m : ℕ). are_alike s (super_with m s.size s.ninodes) ≡ true) (sym own) all.1 in
    rw (two.0, two.1, log, fits, alike) refl

-- ---- the rest

module _ (z : Image) (own : (super_of z).nlog ≡ 31) (fields : is_older_super (super_of z) (length z) ≡ true) where
  start : (super_of z).inodestart ≡ 33
  start = omega (arith, own, (older_facts z fields).inodes)

  own_pointers : (i : ℕ) → pointers_of z i ≡ older_pointers z i
  own_pointers i = ap (pointers_in z) (own_inode z start i)

  own_places : places_of z ≡ older_places z
  own_places =
      flat_map_same (λ i. addresses_in (pointers_of z i)) (λ i. addresses_in (older_pointers z i)) (λ i. ap addresses_in (own_pointers i)) (numbers_of z)

  own_first : first_data_block z ≡ older_first_data z
  own_first = ap (λ (m : ℕ). meta_with m (super_of z).size (super_of z).ninodes) (sym own)

  each_number : (P Q : ℕ → Type 0) → ((i : ℕ) → P i → Q i) → All P (numbers_of z) → All Q (numbers_of z)
  each_number P Q each all =
      All-range Q 1 (inode_count_of z - 1) (λ i low high. each i (All-range_at P 1 (inode_count_of z - 1) i all low high))

  pub sound_of_older : IsOlderSound z → IsSound z
  sound_of_older sound =
      let one = form_one z sound.magic in
      record {
        geometry = record {
          magic = rw sound.magic refl;
          fields = lawful_of_older (super_of z) (length z) fields own;
        };
        empty_log = sound.empty_log;
        inodes = each_number (λ i. IsLawfulInode One (older_inode z i)) (λ i. IsLawfulInode (form_of z) (inode_of z i))
            (λ i lawful. rw (one, own_inode z start i) lawful) sound.inodes;
        filled = each_number (λ i. All IsFilled (older_pointers z i)) (λ i. All IsFilled (pointers_of z i))
            (λ i all. subst (All IsFilled) (sym (own_pointers i)) all) sound.filled;
        in_data = rw (own_places, own_first) sound.in_data;
        once = λ b. subst (λ (l : List ℕ). count_of b l ≤ 1) (sym own_places) (sound.once b);
        marked = λ b low. sound.marked b low ∙ ap (λ (f : ℕ). ltb b f || ltb 0 (count_of b (older_places z))) (sym own_first)
            ∙ ap (λ (l : List ℕ). ltb b (first_data_block z) || ltb 0 (count_of b l)) (sym own_places);
      }

  pub older_of_sound : magic_at z ≡ magic_of One → IsSound z → IsOlderSound z
  older_of_sound magic sound =
      let one = form_one z magic in
      record {
        magic = magic;
        fields = fields;
        empty_log = sound.empty_log;
        inodes = each_number (λ i. IsLawfulInode (form_of z) (inode_of z i)) (λ i. IsLawfulInode One (older_inode z i))
            (λ i lawful. rw (← one, ← own_inode z start i) lawful) sound.inodes;
        filled = each_number (λ i. All IsFilled (pointers_of z i)) (λ i. All IsFilled (older_pointers z i))
            (λ i all. subst (All IsFilled) (own_pointers i) all) sound.filled;
        in_data = rw (← own_places, ← own_first) sound.in_data;
        once = λ b. subst (λ (l : List ℕ). count_of b l ≤ 1) own_places (sound.once b);
        marked = λ b low. sound.marked b low ∙ ap (λ (f : ℕ). ltb b f || ltb 0 (place_count z b)) own_first
            ∙ ap (λ (l : List ℕ). ltb b (older_first_data z) || ltb 0 (count_of b l)) own_places;
      }

-- ---- its verdict

lawful_empty : (z : Image) → logged_count z ≡ 0 → is_lawful_log z ≡ true
lawful_empty z empty =
    ap (λ (hs : List ℕ). leb (logged_count z) 30 && are_in_place hs (length z) && are_distinct hs) (no_homes z empty)
    ∙ ap (λ (n : ℕ). leb n 30 && true && true) empty

pub judged_where_sound : (z : Image) → IsSound z → verdict z ≡ None
judged_where_sound z sound =
    sound_verdict z (sound.geometry, lawful_empty z sound.empty_log, subst IsSound (sym (recovered_empty z sound.empty_log)) sound)

pub sound_ones_convert : SoundOnesConvert
sound_ones_convert x asked is sound none =
    let size = chosen_size x 31 asked in
    let y = moved_image x 31 size in
    let own : (super_of y).nlog ≡ 31 = ap (λ (t : Super). t.nlog) (fields-moved x 31 size (fit_of x 31 asked refl none)) in
    let there = soundness_is_kept x 31 asked refl is sound none in
    judged_where_sound y (sound_of_older y own there.fields there)

-- why a moved image is of no use
pub of_no_use : (x : Image) (asked : Option ℕ) (was is : ℕ) (fault : ConversionFault) → IsImage x → conversion_fault x 31 asked ≡ None → is ≡ was →
    IsNewFault (moved_image x 31 (chosen_size x 31 asked)) fault → IsRefusal x asked was is fault
of_no_use x asked was is (Unsound fault) image none same has =
    (none, has, same, λ sound. let both = sym (sound_ones_convert x asked image sound none) ∙ has in cc both)
of_no_use x asked was is NoMemory image none same has = same
of_no_use x asked was is BadMagic image none same has = absurd has
of_no_use x asked was is BadGeometry image none same has = absurd has
of_no_use x asked was is (Logged n) image none same has = absurd has
of_no_use x asked was is SizeRange image none same has = absurd has
of_no_use x asked was is (Disk b) image none same has = absurd has
