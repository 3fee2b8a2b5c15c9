-- Images that differ in the log alone have the same marks and the same files after some entries.
use Rattle.std.proofs.Common.{◌≡◌, ℕ, ◌<◌, ◌≤◌, List, [], length, refl, sym, ◌∙◌, ap, arith, Some}
use Rattle.history.specs.Common.{behind_log, block_at, cleared, cleared_outside, Entry, facts_of, Files, HasFilesAfter, HasMarks, Image, inode_block, inode_bytes, inode_bytes_in, inode_in, IsSameOutsideLog, IsSound, logged_count, long_geometry, none_cleared, same_outside_log, super_in, super_of}
use Rattle.model.specs.declared.types.image.Dinode.{Dinode}
use Rattle.model.specs.declared.types.image.Super.{Super}
use Rattle.model.specs.Fields.{has_bit}
use Rattle.model.specs.Layout.{inode_of}

-- either of the two may be the first
pub same_back : (x y : Image) → IsSameOutsideLog x y → IsSameOutsideLog y x
same_back x y same = record { size = sym same.size; agree = λ b out. sym (same.agree b out) }

inode_alike : (x y : Image) (i : ℕ) → IsSameOutsideLog x y → inode_of y i ≡ inode_of x i
unfolding inode_of
inode_alike x y i same = ap (λ block. inode_in (inode_bytes_in block i)) (same.agree (inode_block i) (behind_log (inode_block i) (omega arith)))

bytes_alike : (x y : Image) (i : ℕ) → IsSameOutsideLog x y → inode_bytes y i ≡ inode_bytes x i
bytes_alike x y i same = ap (λ block. inode_bytes_in block i) (same.agree (inode_block i) (behind_log (inode_block i) (omega arith)))

-- the superblock lies before the log, and the bitmap of a sound image behind it
super_alike : (x y : Image) → IsSameOutsideLog x y → super_of y ≡ super_of x
super_alike x y same = ap super_in (same.agree 1 refl)

-- so the log has no part in it
pub map_behind : (x : Image) → IsSound x → 33 ≤ (super_of x).bmapstart
map_behind x sound = let map = (facts_of x sound.geometry).map in omega (arith, map)

-- and in the other image neither
pub map_alike : (x y : Image) → IsSameOutsideLog x y → 33 ≤ (super_of y).bmapstart → 33 ≤ (super_of x).bmapstart
map_alike x y same low = let starts = ap (λ (s : Super). s.bmapstart) (super_alike x y same) in omega (arith, low, starts)

-- images that differ in the log alone have the same marks
pub marks_elsewhere : (opening : Image) (es : List Entry) (x y : Image) → IsSameOutsideLog x y → 33 ≤ (super_of x).bmapstart → HasMarks opening es x → HasMarks opening es y
marks_elsewhere opening es x y same low h =
    let bitmap : block_at y (super_of y).bmapstart ≡ block_at x (super_of x).bmapstart
    = ap (λ (s : Super). block_at y s.bmapstart) (super_alike x y same) ∙ same.agree (super_of x).bmapstart (behind_log (super_of x).bmapstart low) in
    record {
      size = same.size ∙ h.size;
      untouched = record {
        boot = same.agree 0 refl ∙ h.untouched.boot;
        super = same.agree 1 refl ∙ h.untouched.super;
        inode_zero = bytes_alike x y 0 same ∙ h.untouched.inode_zero;
        inodes_past = λ i from to. bytes_alike x y i same ∙ h.untouched.inodes_past i from to;
        bits_past = λ b from to. ap (λ block. has_bit block b) bitmap ∙ h.untouched.bits_past b from to;
      };
      labels = λ i used number.
          ap (λ (d : Dinode). (d.major, d.minor)) (inode_alike x y i same)
          ∙ h.labels i (λ free. used (ap (λ (d : Dinode). d.kind) (inode_alike x y i same) ∙ free)) number;
    }

-- what has the files has the marks
pub marks_of : (opening : Image) (es : List Entry) (x : Image) → HasFilesAfter opening es x → HasMarks opening es x
marks_of opening es x h = record { size = h.size; untouched = h.untouched; labels = h.labels }

-- an image that differs in the log alone, and has an empty one
pub after_elsewhere : (opening : Image) (es : List Entry) (x y : Image) → IsSameOutsideLog x y → logged_count y ≡ 0 → HasFilesAfter opening es x → HasFilesAfter opening es y
after_elsewhere opening es x y same empty h =
    let marks = marks_elsewhere opening es x y same (map_behind x h.sound) (marks_of opening es x h) in
    let sound = same_outside_log x y same.size same.agree h.sound empty in
    record { size = marks.size; sound = sound.0; files = h.files ∙ ap (λ (f : Files). Some f) (sym sound.1); untouched = marks.untouched; labels = marks.labels }

-- an image that has files is as long as its log
pub long_enough : (opening : Image) (es : List Entry) (x : Image) → HasFilesAfter opening es x → 2 < length x
long_enough opening es x h = let long = long_geometry x h.sound.geometry in omega (arith, long)

-- the header can be cleared, and an empty header can be as it was
pub clear : (opening : Image) (es : List Entry) (x : Image) → HasFilesAfter opening es x → HasFilesAfter opening es (cleared x)
clear opening es x h = after_elsewhere opening es x (cleared x) (cleared_outside x) (none_cleared x (long_enough opening es x h)) h

-- an empty header can be as it was
pub unclear : (opening : Image) (es : List Entry) (x : Image) → logged_count x ≡ 0 → HasFilesAfter opening es (cleared x) → HasFilesAfter opening es x
unclear opening es x empty h = after_elsewhere opening es (cleared x) x (same_back x (cleared x) (cleared_outside x)) empty h

-- an image is its own opening, after no entry
pub after_none : (x : Image) → IsSound x → HasFilesAfter x [] x
after_none x sound = record {
  size = refl;
  sound = sound;
  files = refl;
  untouched = record { boot = refl; super = refl; inode_zero = refl; inodes_past = λ i low high. refl; bits_past = λ b low high. refl };
  labels = λ i used number. refl;
}
