-- A moved image that is sound and has our log has the files of the old one.
use Rattle.std.proofs.Common.{◌≡◌, ◌≢◌, ℕ, ◌+◌, ◌-◌, ◌/◌, ◌^◌, ◌<◌, ◌≤◌, min, true, cond, ◌&&◌, eqb, ltb, get_or, None, refl, sym, ap, ◌∙◌, subst, arith}
use Rattle.blocks.specs.Disk.{block_at, Image, IsImage}
use Rattle.model.specs.Common.{file_at, files_of, first_data_block, form_of, inode_bytes_in, inode_count_of, le-ltb, logged_count, ltb-true, meta_count, ne_eqb, planned_super, super_of}
use Rattle.model.specs.declared.types.image.Dinode.{Dinode}
use Rattle.model.specs.declared.types.image.Form.TheVariants.{One}
use Rattle.model.specs.declared.types.image.Super.{Super}
use Rattle.model.specs.Files.{file_of}
use Rattle.model.specs.Fields.{has_bit}
use Rattle.model.specs.Layout.{inode_in, inode_of}
use Rattle.model.specs.Lemmas.Log.{both_of, recovered_empty}
use Rattle.model.specs.Lemmas.Soundness.{inode_in_data, IsInData, verdict_sound}
use Rattle.model.specs.Places.{address_in}
use Rattle.model.specs.Soundness.{IsSound}
use Rattle.model.specs.Verdict.{verdict}
use Rattle.conversion.specs.Common.{chosen_size, FilesComeOver, is_moved_mark, IsConverted, meta_with, moved, moved_inode, older_file, older_files, source_in}
use Rattle.conversion.specs.Moving.{moved_image}
use Rattle.conversion.specs.Older.{older_inode}
use Rattle.conversion.proofs.AddressLemmas.{moved_at}
use Rattle.conversion.proofs.FitLemmas.{fit_of, IsFit}
use Rattle.conversion.proofs.KeptLemmas.{address_over, files_kept, IsUsed, IsWithin, map_range, node_of}
use Rattle.conversion.proofs.MovedLemmas.{boot-moved, empty-moved, fields-moved, form_one, inode-moved, length-moved_image, magic-moved, marked-moved}
use Rattle.conversion.proofs.PlacedLemmas.{apart_in, data_at_place, IsUsedOf, node_at_place}

-- ---- an image with our log

-- its inodes are where its superblock says
pub own_inode : (z : Image) → (super_of z).inodestart ≡ 33 → (i : ℕ) → inode_of z i ≡ older_inode z i
unfolding inode_of older_inode
own_inode z start i =
    let place : i / 16 + 33 ≡ (super_of z).inodestart + i / 16 = omega (arith, start) in
    ap (λ (b : ℕ). inode_in (inode_bytes_in (block_at z b) i)) place

pub own_files : (z : Image) → (super_of z).inodestart ≡ 33 → files_of z ≡ older_files z
own_files z start =
    map_range (file_at z) (older_file z) 0 (inode_count_of z)
    (λ i low high. ap (λ (d : Dinode). cond (eqb i 0) None (file_of z d)) (own_inode z start i))

-- what a check without a fault says of an image whose log is empty
pub sound_where_judged : (z : Image) → logged_count z ≡ 0 → verdict z ≡ None → IsSound z
sound_where_judged z empty judged = subst IsSound (recovered_empty z empty) (verdict_sound z judged).2

-- an address that is there stays there, in front of a log that is not longer
moved_some : (from to a : ℕ) → from ≤ to → from < 2 ^ 31 → a ≢ 0 → moved from to a ≢ 0
moved_some from to a le small some =
    rw (ne_eqb a 0 some) (λ e. absurd (omega (arith, e, le, small, some)))

moved_back : (from to a : ℕ) → from ≤ to → a ≢ 0 → moved from to a < 2 ^ 31 → from < 2 ^ 30 → moved from to a + from ≡ a + to
moved_back from to a le some small low =
    let is : moved from to a ≡ min (a + to) (2 ^ 32 - 1) - from = rw (ne_eqb a 0 some) refl in
    omega (arith, is, le, small, low)

module _ (x : Image) (size : ℕ) (is : IsImage x) (fit : IsFit x 31 size) (sound : IsSound (moved_image x 31 size)) where
  abbrev y : Image
  y = moved_image x 31 size

  abbrev s : Super
  s = super_of x

  abbrev from : ℕ
  from = (super_of x).nlog

  abbrev old : ℕ → Dinode
  old i = older_inode x i

  fields : super_of y ≡ planned_super size s.ninodes
  fields = fields-moved x 31 size fit

  count : inode_count_of y ≡ s.ninodes
  count = ap (λ (t : Super). t.ninodes) fields

  one_x : form_of x ≡ One
  one_x = form_one x fit.magic

  one_y : form_of y ≡ One
  one_y = form_one y (magic-moved x 31 size fit)

  start : (super_of y).inodestart ≡ 33
  start = ap (λ (t : Super). t.inodestart) fields

  inode : (i : ℕ) → i < s.ninodes → inode_of y i ≡ moved_inode from 31 (old i)
  inode i low = own_inode y start i ∙ inode-moved x 31 size fit is i low

  used_there : (i : ℕ) → IsUsed x i → IsUsedOf (inode_of y) (inode_count_of y) i
  used_there i u = record {
    some = u.some;
    low = omega (arith, count, u.low);
    used = λ e. u.used (ap (λ (d : Dinode). d.kind) (sym (inode i u.low)) ∙ e);
  }

  there : (a : ℕ) → a ≢ 0 → moved from 31 a ≢ 0
  there a some = moved_some from 31 a fit.from_most (omega (arith, fit.from_most)) some

  -- a block that is a data block of the new image was one of the old
  within : (a : ℕ) → a ≢ 0 → IsInData y (moved from 31 a) → IsWithin x a
  within a some in_data =
      let b = moved from 31 a in
      let long = length-moved_image x 31 size fit in
      let first : first_data_block y ≡ meta_with 31 size s.ninodes = ap (λ (t : Super). meta_count t.size t.ninodes) fields in
      let high : meta_with 31 size s.ninodes ≤ b = omega (arith, first, in_data.0) in
      let below : b < size = omega (arith, long, in_data.1) in
      let marked : is_moved_mark s (block_at x s.bmapstart) 31 size b ≡ true = sym (marked-moved x 31 size fit b below) ∙ in_data.2 in
      let later : (ltb (source_in s 31 b) s.size && has_bit (block_at x s.bmapstart) (source_in s 31 b)) ≡ true
      = rw (le-ltb b (meta_with 31 size s.ninodes) high) at marked in
      let inside = ltb-true (source_in s 31 b) s.size (both_of (ltb (source_in s 31 b) s.size) (has_bit (block_at x s.bmapstart) (source_in s 31 b)) later).0 in
      let back = moved_back from 31 a fit.from_most some (omega (arith, below, fit.most)) (omega (arith, fit.from_most)) in
      let source : source_in s 31 b ≡ a = omega (arith, back) in
      record {
        high = omega (arith, back, high, fit.most, fit.small, fit.from_most);
        low = omega (arith, inside, source);
      }

  node_there : (i a : ℕ) → IsUsed x i → node_of x i ≡ a → get_or (inode_of y i).addrs 12 0 ≡ moved from 31 a
  node_there i a u node =
      ap (λ (d : Dinode). get_or d.addrs 12 0) (inode i u.low) ∙ moved_at from 31 (old i).addrs 12 ∙ ap (moved from 31) node

  node_range : (i : ℕ) → IsUsed x i → node_of x i ≢ 0 → IsWithin x (node_of x i)
  node_range i u some =
      within (node_of x i) some
      (node_at_place y (inode_of y) (inode_count_of y) one_y (IsInData y) (λ j some low. inode_in_data y j sound some low) i (moved from 31 (node_of x i)) (used_there i u) (there (node_of x i) some) (node_there i (node_of x i) u refl))

  data_there : (i k a : ℕ) → IsUsed x i → address_in x (old i) k ≡ a → address_in y (inode_of y i) k ≡ moved from 31 a
  data_there i k a u leads =
      ap (λ (d : Dinode). address_in y d k) (inode i u.low) ∙ address_over x 31 size is fit node_range i k u ∙ ap (moved from 31) leads

  data_range : (i k : ℕ) → IsUsed x i → address_in x (old i) k ≢ 0 → IsWithin x (address_in x (old i) k)
  data_range i k u some =
      let a = address_in x (old i) k in
      within a some (data_at_place y (inode_of y) (inode_count_of y) one_y (IsInData y) (λ j some low. inode_in_data y j sound some low) i k (moved from 31 a) (used_there i u) (there a some) (data_there i k a u refl))

  apart : (i j k a : ℕ) → IsUsed x i → IsUsed x j → a ≢ 0 → address_in x (old i) k ≡ a → node_of x j ≡ a → ⊥
  apart i j k a u v some leads node =
      apart_in y (inode_of y) (inode_count_of y) one_y sound.once i j k (moved from 31 a) (used_there i u) (used_there j v) (there a some) (data_there i k a u leads) (node_there j a v node)

  pub converted : verdict y ≡ None → IsConverted x size y
  converted judged = record {
    blocks = refl;
    sound = sound;
    judged = judged;
    fields = fields;
    form = one_y;
    long = length-moved_image x 31 size fit;
    files = own_files y start ∙ files_kept x 31 size is fit node_range data_range apart;
    labels = λ i low high. ap (λ (d : Dinode). (d.major, d.minor)) (inode i high);
    boot = boot-moved x 31 size fit;
  }

pub files_come_over : FilesComeOver
files_come_over x asked is none judged =
    let size = chosen_size x 31 asked in
    let fit = fit_of x 31 asked refl none in
    converted x size is fit (sound_where_judged (moved_image x 31 size) (empty-moved x 31 size fit) judged) judged
