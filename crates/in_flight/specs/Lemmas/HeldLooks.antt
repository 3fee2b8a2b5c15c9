-- What looks answer while tasks hold files, and what a task holds.
use Rattle.std.proofs.Common.{◌≡◌, ℕ, ◌-◌, ◌≤◌, ltb, Option, Some, None, refl, sym, subst, ◌∙◌, arith, IsTrue}
use Rattle.in_flight.specs.Common.{Claim, Claims, count_flat, count_of, file_in, Files, first_data_block, FitsHeld, frees, FreeTells, grows, HeldHasBlocks, Image, inode_count_of, is_number, IsAtRest, IsFine, IsMarkedData, lt-ltb, names_claimed, or_right, owned, RestingTells}
use Rattle.model.specs.Layout.{inode_of}
use Rattle.in_flight.specs.Looks.{IsUsed}
use Rattle.in_flight.specs.Lemmas.Claims.{free_file}
use Rattle.in_flight.specs.Lemmas.HeldFrames.{claimed_in_data, owned_once}
use Rattle.in_flight.specs.Lemmas.Looks.{between, RestsIn, its_file, its_blocks, stat_told, read_told, none_told}

-- ---- numbers at rest

pub resting : (m : Files) (x : Image) (claims : Claims) (i : ℕ) → FitsHeld m x claims → IsUsed x i → claims i ≡ None → RestsIn m x i
resting m x claims i f used none =
    let at = between x i used.0 in
    record {
      full = f.full;
      rest = subst (λ (o : Option Claim). IsFine x i o (file_in m i)) none (f.each i at.low at.high);
      in_data = λ b some. claimed_in_data m x claims i b f at.low at.high
          (subst (λ (o : Option Claim). 1 ≤ count_of b (names_claimed x i o)) (sym none) some);
    }

pub resting_tells : RestingTells
resting_tells m x claims i f used none =
    let there = resting m x claims i f used none in
    record {
      its = its_file m x i there used;
      blocks = its_blocks m x i there used;
      stat = stat_told m x i there used;
      read = read_told m x i there used;
    }

-- a number that a task holds is used
free_rests : (m : Files) (x : Image) (i : ℕ) (claim : Option Claim) → (inode_of x i).kind ≡ 0 → IsFine x i claim (file_in m i) → claim ≡ None
free_rests m x i None free fine = refl
free_rests m x i (Some (frees h)) free fine = absurd (fine.used (sym fine.same_kind ∙ free))
free_rests m x i (Some (grows g)) free fine = absurd (fine.fit.used (sym fine.same_kind ∙ free))

pub free_tells : FreeTells
free_tells m x claims i f free =
    let at = between x i free.0 in
    let low = at.low in
    let fine = f.each i at.low at.high in
    let none = free_rests m x i (claims i) free.1 fine in
    (none, none_told m x i (sym (subst (λ (o : Option Claim). IsFine x i o (file_in m i)) none fine).same ∙ free_file x i (omega arith) free.1))

-- ---- what a task holds

-- an owned block is a data block, and the bitmap has it
pub owned_marked : (m : Files) (x : Image) (claims : Claims) (i b : ℕ) → FitsHeld m x claims → IsTrue (is_number (inode_count_of x) i) →
    1 ≤ count_of b (names_claimed x i (claims i)) → IsMarkedData x b
owned_marked m x claims i b f number mine =
    let at = between x i number in
    let low = at.low in
    let there = claimed_in_data m x claims i b f low at.high mine in
    let few : count_of b (names_claimed x i (claims i)) ≤ count_of b (owned x claims) =
    count_flat (λ j. names_claimed x j (claims j)) b 1 (inode_count_of x - 1) i low (omega arith) in (
      there,
      f.loose.marked b there.1
          ∙ or_right (ltb b (first_data_block x)) (ltb 0 (count_of b (owned x claims)))
          (lt-ltb 0 (count_of b (owned x claims)) (omega arith)),
    )

pub held_has_blocks : HeldHasBlocks
held_has_blocks m x claims i c g =
    let at = between x i g.number in
    record {
      marked = λ b some.
          owned_marked m x claims i b g.fits g.number
          (subst (λ (o : Option Claim). 1 ≤ count_of b (names_claimed x i o)) (sym g.holds) (omega (arith, some)));
      once = λ b.
          subst (λ (o : Option Claim). count_of b (names_claimed x i o) ≤ 1) g.holds (owned_once m x claims i b g.fits at.low at.high);
    }
