-- There are images in which a task holds a file.
use Rattle.std.proofs.Common.{◌≡◌, ◌≢◌, ◌<◌, true, false, cond, eqb, replicate, set, is_some, [], Some, None, inl, refl, sym, ap, ◌∙◌, ⊎_elim, arith}
use Rattle.in_flight.specs.Common.{cases_eq, Claims, Dinode, false≢true, file_at, Files, Fits, FitsHeld, frees, grows, Image, inode_block, inode_count_of, is_number, length-set, lt-ltb, made_image, ne_eqb, new_inode, One, with_inode}
use Rattle.model.specs.Layout.{inode_of}
use Rattle.in_flight.specs.Claims.{with_new_file}
use Rattle.in_flight.specs.Lemmas.AtRest.{fits_at_rest}
use Rattle.in_flight.specs.Lemmas.Claims.{claims, apart}
use Rattle.in_flight.specs.Lemmas.Made.{witness}
use Rattle.in_flight.specs.Lemmas.Turns.{turn_holds, used_file}
use Rattle.in_flight.specs.Lemmas.WriteBacks.{claim_fits}
use Rattle.in_flight.specs.Lemmas.BlocksTaken.{turn_grows}

abbrev nobody : Claims
nobody i = None

-- who removes number 1
abbrev remover : Dinode → Claims
remover d i = cond (eqb i 1) (Some (frees (record { copy = d; cursor = []; last_kind = 0 }))) None

-- who writes into it
abbrev writer : Dinode → Claims
writer d i = cond (eqb i 1) (Some (grows (record { copy = d; taken = None; offset = 0; at_end = false; written = [] }))) None

-- an image that stands for files, with number 1 free
module _ (m : Files) (x : Image) (f : Fits m x) (none : file_at x 1 ≡ None) (some : 1 < inode_count_of x) where
  at_rest : FitsHeld m x nobody
  at_rest = (fits_at_rest m x nobody (λ i low high. refl)).0 f

  number : is_number (inode_count_of x) 1 ≡ true
  number = lt-ltb 1 (inode_count_of x) some

  free : (inode_of x 1).kind ≡ 0
  free =
      ⊎_elim
      (λ (z : (inode_of x 1).kind ≡ 0). z)
      (λ (used : (inode_of x 1).kind ≢ 0).
      let told = sym none ∙ used_file x 1 (omega arith) used in absurd (false≢true (ap is_some told)))
      (cases_eq (inode_of x 1).kind 0)

  abbrev y : Image
  y = with_inode x 1 (new_inode 2)

  made : FitsHeld (with_new_file m 1 2) y nobody
  made = (claim_fits m x nobody 1 2 at_rest number refl free refl).0.fits

  own : inode_of y 1 ≡ new_inode 2
  own =
      let a = apart x 1 f.geometry some in
      (claims x 1 2 f.geometry number (omega arith) (f.full (inode_block 1) a.behind a.within)).own

  numbers : 1 < inode_count_of y
  numbers =
      let count = made.count in
      let long = length-set m 1 (Some (record { kind = 2; links = 1; bytes = [] })) in
      let old = f.count in omega arith

  pub removed : FitsHeld (set (with_new_file m 1 2) 1 None) y (remover (inode_of y 1))
  removed =
      (turn_holds (with_new_file m 1 2) y nobody (remover (inode_of y 1)) 1 0 [] made
      (lt-ltb 1 (inode_count_of y) numbers, λ z. omega (arith, ap (λ (d : Dinode). d.kind) own, z)) refl (inl refl) (λ c. refl)
      (record { own = refl; others = λ j ne. rw (ne_eqb j 1 ne) refl })).fits

  -- and one who writes into it from its start on
  pub written_into : FitsHeld (with_new_file m 1 2) y (writer (inode_of y 1))
  written_into =
      (turn_grows (with_new_file m 1 2) y nobody (writer (inode_of y 1)) 1 0 false made
      (lt-ltb 1 (inode_count_of y) numbers, λ z. omega (arith, ap (λ (d : Dinode). d.kind) own, z)) refl (omega arith) (λ no. absurd (cc no))
      (record { own = refl; others = λ j ne. rw (ne_eqb j 1 ne) refl })).fits

-- so it is in one of 400 blocks with 32 numbers
pub held_witness : FitsHeld (set (with_new_file (replicate 32 None) 1 2) 1 None) (with_inode (made_image One 400 32) 1 (new_inode 2))
    (remover (inode_of (with_inode (made_image One 400 32) 1 (new_inode 2)) 1))
held_witness =
    let x = made_image One 400 32 in
    let some : 1 < inode_count_of x = let count = witness.count in omega arith in
    removed (replicate 32 None) x witness ((witness.each 1 (omega arith) some).same) some

pub grown_witness : FitsHeld (with_new_file (replicate 32 None) 1 2) (with_inode (made_image One 400 32) 1 (new_inode 2))
    (writer (inode_of (with_inode (made_image One 400 32) 1 (new_inode 2)) 1))
grown_witness =
    let x = made_image One 400 32 in
    let some : 1 < inode_count_of x = let count = witness.count in omega arith in
    written_into (replicate 32 None) x witness ((witness.each 1 (omega arith) some).same) some
