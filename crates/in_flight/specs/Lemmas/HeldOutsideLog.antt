-- The log has no part in which files an image stands for, be numbers held or not.
use Rattle.std.proofs.Common.{◌≡◌, ◌≢◌, ℕ, suc, ◌<◌, length, refl, ap, ◌∙◌, arith, ◌≤◌}
use Rattle.in_flight.specs.Common.{AreFull, behind_log, Claims, count_of, facts_of, file_in, Files, FitsHeld, FitsThen, HeldOutsideLog, Image, inode_agree, inode_count_of, is_outside_log, IsSameOutsideLog, names_claimed, owned}
use Rattle.in_flight.specs.Lemmas.Frames.{loose_same}
use Rattle.in_flight.specs.Lemmas.HeldFrames.{ChangesOne, loose_alike, names_same, fine_same, owned_kept, fits_then, same_file, at_data, Passes, data_passes, stays_held}
use Rattle.in_flight.specs.Lemmas.OutsideLog.{base_outside, data_outside}

module _ (m : Files) (x y : Image) (claims : Claims) (same : IsSameOutsideLog x y) (f : FitsHeld m x claims) where
  all_pass : (j : ℕ) → 1 ≤ j → j < inode_count_of x → Passes is_outside_log (names_claimed x j (claims j))
  all_pass = data_passes is_outside_log m x y claims f (data_outside x y same.agree)

  -- whichever number is taken for the one that changes
  change : (i : ℕ) → i ≢ 0 → ChangesOne is_outside_log m x claims i m y claims
  change i some = record {
    fits = f;
    agree = at_data is_outside_log x y (data_outside x y same.agree);
    passes = λ j first last ne. all_pass j first last;
    size = same.size;
    inodes = λ j inside ne. inode_agree x y j same.agree;
    claims_same = λ j ne. refl;
    count = refl;
    files = λ j ne. refl;
    some = some;
  }

  first : ChangesOne is_outside_log m x claims 1 m y claims
  first = change 1 (λ e. omega arith)

  two : 1 < inode_count_of x
  two = let some = (facts_of x f.geometry).some in omega arith

  same_owned : (c : ℕ) → count_of c (owned x claims) ≡ count_of c (owned y claims)
  same_owned c =
      let inside = two in
      let kept = owned_kept is_outside_log m x claims 1 m y claims first c (omega arith) inside in
      let own = ap (count_of c) (names_same is_outside_log x y 1 (claims 1) first.agree (inode_agree x y 1 same.agree)
      (all_pass 1 (omega arith) inside)) in
      omega arith

  full_kept : AreFull y
  full_kept b low within =
      let size = same.size in
      ap length (same.agree b (behind_log b low)) ∙ f.full b low (omega arith)

  fits_outside : FitsHeld m y claims
  fits_outside =
      let inside = two in
      (fits_then is_outside_log m x claims 1 m y claims first full_kept
      (loose_alike y (owned x claims) (owned y claims) same_owned (loose_same x y (owned x claims) (base_outside x y same f.geometry) f.loose))
      (fine_same is_outside_log x y 1 (claims 1) (file_in m 1) first.agree (inode_agree x y 1 same.agree)
      (all_pass 1 (omega arith) inside) (f.each 1 (omega arith) inside))).fits

  -- as if the number behind j changed
  as_behind : (j : ℕ) → FitsThen m x claims (suc j) y claims
  as_behind j =
      let one = change (suc j) (λ e. omega arith) in
      record {
        fits = fits_outside;
        others = same_file is_outside_log m x claims (suc j) m y claims one;
        held = stays_held is_outside_log m x claims (suc j) m y claims one;
      }

pub held_outside : HeldOutsideLog
held_outside m x y claims same f = record {
  fits = fits_outside m x y claims same f;
  others = λ j ne rest used. (as_behind m x y claims same f j).others j (λ e. omega arith) rest used;
  held = λ j c ne number holds. (as_behind m x y claims same f j).held j c (λ e. omega arith) number holds;
}
