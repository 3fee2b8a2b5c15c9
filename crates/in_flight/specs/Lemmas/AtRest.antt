-- Where no number is held, an image stands for files as one does without claims.
use Rattle.std.proofs.Common.{◌≡◌, ◌-◌, Option, sym, ap, subst, arith}
use Rattle.in_flight.specs.Common.{addresses_in, AreAtRest, Claim, Claims, file_in, Files, Fits, FitsAtRest, FitsHeld, flat_map_range_same, Image, inode_count_of, IsFine, IsLoose, names_claimed, owned, places_of, pointers_of, RestsSoundly}
use Rattle.in_flight.specs.Lemmas.Soundly.{sound_quiet}

module _ (m : Files) (x : Image) (claims : Claims) (rest : AreAtRest x claims) where
  owned_places : owned x claims ≡ places_of x
  owned_places =
      flat_map_range_same (λ i. addresses_in (pointers_of x i)) (λ i. names_claimed x i (claims i)) 1 (inode_count_of x - 1)
      (λ i low high. ap (names_claimed x i) (rest i low (omega arith)))

  held_from_fits : Fits m x → FitsHeld m x claims
  held_from_fits f = record {
    geometry = f.geometry;
    full = f.full;
    loose = subst (IsLoose x) (sym owned_places) f.loose;
    count = f.count;
    zero = f.zero;
    each = λ i low high.
        subst (λ (c : Option Claim). IsFine x i c (file_in m i)) (sym (rest i low high)) (f.each i low high);
  }

  fits_from_held : FitsHeld m x claims → Fits m x
  fits_from_held f = record {
    geometry = f.geometry;
    full = f.full;
    loose = subst (IsLoose x) owned_places f.loose;
    count = f.count;
    zero = f.zero;
    each = λ i low high.
        subst (λ (c : Option Claim). IsFine x i c (file_in m i)) (rest i low high) (f.each i low high);
  }

pub fits_at_rest : FitsAtRest
fits_at_rest m x claims rest = (held_from_fits m x claims rest, fits_from_held m x claims rest)

pub rests_soundly : RestsSoundly
rests_soundly m x claims rest f empty = sound_quiet m x (fits_from_held m x claims rest f) empty
