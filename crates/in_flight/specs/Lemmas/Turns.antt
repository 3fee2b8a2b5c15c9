-- What becomes of the claims where the image stays: a turn, and an entry that is passed over.
use Rattle.std.proofs.Common.{◌≡◌, ◌≢◌, ℕ, ◌<◌, ◌≤◌, true, length, set, Option, Some, None, refl, sym, ap, subst, ◌∙◌, arith}
use Rattle.in_flight.specs.Common.{Claim, Claims, count_of, depths, EntryPassed, file_at, file_in, file_left, Files, FitsHeld, FitsThen, form_of, get_or-set_other, get_or-set_same, Image, inode_count_of, IsAtRest, IsClaimedNow, IsFine, length-set, names_claimed, ne_eqb, owned, TurnAnswers, TurnHolds}
use Rattle.model.specs.Files.{file_of, bytes_in}
use Rattle.model.specs.Layout.{inode_of}
use Rattle.model.specs.Operations.{after}
use Rattle.in_flight.specs.Looks.{IsUsed}
use Rattle.in_flight.specs.Lemmas.Frames.{AgreesAtData}
use Rattle.in_flight.specs.Lemmas.GivenUp.{held_of, held_further}
use Rattle.in_flight.specs.Lemmas.LeftInTrees.{whole_along}
use Rattle.in_flight.specs.Lemmas.HeldFrames.{ChangesOne, loose_alike, owned_kept, fits_then, at_data, whole_names}
use Rattle.in_flight.specs.Lemmas.Looks.{IsBetween, between}

agrees_itself : (x : Image) → AgreesAtData (λ _. true) x x
agrees_itself x = record { agree = λ b pass. refl; one = refl; from_data = λ b from. refl }

-- the image stays, and so do the blocks that the number owns
pub record ChangesClaim (m : Files) (x : Image) (claims : Claims) (i : ℕ) (n : Files) (new : Claims) : Type 0 where
  pub fits : FitsHeld m x claims
  pub low : 1 ≤ i
  pub high : i < inode_count_of x
  pub claims_same : (j : ℕ) → j ≢ i → new j ≡ claims j
  pub count : length n ≡ length m
  pub files : (j : ℕ) → j ≢ i → file_in n j ≡ file_in m j
  pub alike : (c : ℕ) → count_of c (names_claimed x i (new i)) ≡ count_of c (names_claimed x i (claims i))
  pub fine : IsFine x i (new i) (file_in n i)

module _ (m : Files) (x : Image) (claims : Claims) (i : ℕ) (n : Files) (new : Claims) (h : ChangesClaim m x claims i n new) where
  change : ChangesOne (λ _. true) m x claims i n x new
  change =
      let low = h.low in
      record {
        fits = h.fits;
        agree = at_data (λ _. true) x x (agrees_itself x);
        passes = λ j first last ne b some. refl;
        size = refl;
        inodes = λ j inside ne. refl;
        claims_same = h.claims_same;
        count = h.count;
        files = h.files;
        some = λ e. omega arith;
      }

  same_owned : (c : ℕ) → count_of c (owned x claims) ≡ count_of c (owned x new)
  same_owned c =
      let kept = owned_kept (λ _. true) m x claims i n x new change c h.low h.high in
      let alike = h.alike c in
      omega arith

  pub changes_claim : FitsThen n x claims i x new
  changes_claim =
      fits_then (λ _. true) m x claims i n x new change h.fits.full
      (loose_alike x (owned x claims) (owned x new) same_owned h.fits.loose) h.fine

-- only the claim of the number is another, and the files stay
pub claim_turned : (m : Files) (x : Image) (claims new : Claims) (i : ℕ) (was is : Option Claim) → FitsHeld m x claims → IsBetween x i → claims i ≡ was → IsClaimedNow claims i is new →
    ((c : ℕ) → count_of c (names_claimed x i is) ≡ count_of c (names_claimed x i was)) → IsFine x i is (file_in m i) → FitsThen m x claims i x new
claim_turned m x claims new i was is fits at had now alike fine =
    changes_claim m x claims i m new (record {
      fits = fits;
      low = at.low;
      high = at.high;
      claims_same = now.others;
      count = refl;
      files = λ j ne. refl;
      alike = λ c.
          ap (λ (o : Option Claim). count_of c (names_claimed x i o)) now.own ∙ alike c
          ∙ sym (ap (λ (o : Option Claim). count_of c (names_claimed x i o)) had);
      fine = subst (λ (o : Option Claim). IsFine x i o (file_in m i)) (sym now.own) fine;
    })

-- ---- entries under which nothing is left

pub entry_passed : EntryPassed
entry_passed m x claims new i cursor h g alike now =
    (claim_turned m x claims new i _ _ g.fits (between x i g.number) g.holds now alike (held_further x i cursor h (file_in m i) (held_of m x claims i h g))).fits

-- ---- a turn

pub at_rest_of : (m : Files) (x : Image) (claims : Claims) (i : ℕ) → FitsHeld m x claims → IsUsed x i → claims i ≡ None → IsAtRest x i (file_in m i)
at_rest_of m x claims i f used none =
    let at = between x i used.0 in
    subst (λ (o : Option Claim). IsFine x i o (file_in m i)) none (f.each i at.low at.high)

pub turn_holds : TurnHolds
turn_holds m x claims new i last cursor f used none last_is alike now =
    let at = between x i used.0 in
    let d = inode_of x i in
    let left = file_left last d.nlink in
    let high = at.high in
    let fit = (at_rest_of m x claims i f used none).fit used.1 in
    changes_claim m x claims i (set m i left) new (record {
      fits = f;
      low = at.low;
      high = at.high;
      claims_same = now.others;
      count = length-set m i left;
      files = λ j ne. get_or-set_other m i j left None ne;
      alike = λ c.
          ap (λ (o : Option Claim). count_of c (names_claimed x i o)) now.own
          ∙ alike c ∙ ap (count_of c) (whole_along x (depths (form_of x)) d.addrs ∙ sym (whole_names x d used.1))
          ∙ sym (ap (λ (o : Option Claim). count_of c (names_claimed x i o)) none);
      fine = subst (λ (o : Option Claim). IsFine x i o (file_in (set m i left) i)) (sym now.own)
          (record {
            fields = fit.fields;
            used = fit.used;
            kind = fit.kind;
            same_kind = refl;
            labels = refl;
            last = last_is;
            told = get_or-set_same m i left None (omega (arith, high, f.count));
          });
    })

pub used_file : (x : Image) (i : ℕ) → 1 ≤ i → (inode_of x i).kind ≢ 0 →
    file_at x i ≡ Some (record { kind = (inode_of x i).kind; links = (inode_of x i).nlink; bytes = bytes_in x (inode_of x i) })
unfolding file_of
used_file x i low used = rw (ne_eqb i 0 (λ e. omega (arith, low, e)), ne_eqb (inode_of x i).kind 0 used) refl

pub turn_answers : TurnAnswers
unfolding after
turn_answers m x claims i f used none =
    let file = sym (at_rest_of m x claims i f used none).same ∙ used_file x i (between x i used.0).low used.1 in (
      rw (file, file, ne_eqb (inode_of x i).kind 0 used.1) refl,
      rw (file, file) refl,
    )
