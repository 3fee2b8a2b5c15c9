-- The log has no part in which files an image stands for.
use Rattle.std.proofs.Common.{◌≡◌, ◌<◌, length, refl, sym, ap, subst, ◌∙◌, arith}
use Rattle.in_flight.specs.Common.{Agrees, behind_log, cleared_outside, facts_of, file_in, Image, inode_agree, inode_count_of, is_outside_log, IsLawfulGeometry, IsLoose, IsSameOutsideLog, long_geometry, none_cleared, places_of, Super, super_of}
use Rattle.model.specs.Log.{cleared}
use Rattle.in_flight.specs.Laws.{FitsOutsideLog, FitsWhenCleared}
use Rattle.in_flight.specs.Lemmas.Frames.{AgreesAtData, agrees_for, rest_alike, addresses_alike, SameSuperAndMap, super_same, geometry_same, loose_same, places_same}
use Rattle.in_flight.specs.Lemmas.Soundly.{sound_quiet}

pub base_outside : (x y : Image) → IsSameOutsideLog x y → IsLawfulGeometry x → SameSuperAndMap x y
base_outside x y same geometry =
    let bitmap = (facts_of x geometry).map in
    record {
      size = same.size;
      super = same.agree 1 refl;
      map = same.agree (super_of x).bmapstart (behind_log (super_of x).bmapstart (omega arith));
    }

pub data_outside : (x y : Image) → Agrees is_outside_log x y → AgreesAtData is_outside_log x y
data_outside x y agree = record {
  agree = agree;
  one = refl;
  from_data = λ b from. behind_log b (omega arith);
}

pub fits_outside : FitsOutsideLog
fits_outside m x y same f =
    let agree = same.agree in
    let size = same.size in
    let base = base_outside x y same f.geometry in
    let data_same = data_outside x y agree in
    let numbers : inode_count_of y ≡ inode_count_of x = ap (λ (s : Super). s.ninodes) (super_same x y base) in
    let places : places_of y ≡ places_of x = places_same x y base
    (λ i low high. addresses_alike is_outside_log x y i (inode_agree x y i agree) (agrees_for is_outside_log m x y i f data_same low high)) in
    record {
      geometry = geometry_same x y base f.geometry;
      full = λ b low within. ap length (agree b (behind_log b low)) ∙ f.full b low (omega arith);
      loose = subst (IsLoose y) (sym places) (loose_same x y (places_of x) base f.loose);
      count = f.count ∙ sym numbers;
      zero = f.zero;
      each = λ i low high.
          let inside : i < inode_count_of x = omega arith in
          rest_alike is_outside_log x y i (file_in m i) (inode_agree x y i agree)
          (agrees_for is_outside_log m x y i f data_same low inside) (f.each i low inside);
    }

pub sound_cleared : FitsWhenCleared
sound_cleared m x f =
    let long = long_geometry x f.geometry in
    sound_quiet m (cleared x) (fits_outside m x (cleared x) (cleared_outside x) f) (none_cleared x (omega arith))
