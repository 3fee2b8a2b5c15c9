-- The parts of a path, found from its beginning on.
use Rattle.std.proofs.Common.{◌≡◌, ◌≢◌, ℕ, ◌+◌, ◌<◌, ◌≤◌, Bool, eqb, cond, List, [], ◌∷◌, ◌++◌, length, get_or, drop, map, append_assoc, refl, sym, ap, subst, ◌∙◌, ⊎_elim, lit<, arith}
use Rattle.std.specs.List.{Contains, slice_range}
use Rattle.std.proofs.lemmas.Bool.{ne_eqb}
use Rattle.std.proofs.lemmas.List.{drop_all, drop_more, map-append}
use Rattle.std.proofs.lemmas.List.Edits.{between_none, between_more}
use Rattle.std.proofs.lemmas.List.Elements.{Contains-append_left, Contains-append_right, Contains-push_cases}
use Rattle.directories.specs.declared.path.PathFault.{PathFault}
use Rattle.directories.specs.declared.path.PathFault.TheVariants.{NameTooLong, ZeroByte, NoMemory}
use Rattle.directories.specs.Entries.{padded}
use Rattle.directories.specs.Paths.{one_part, parts_behind, parts_of, IsPartCause, IsPathCause}

-- up to place i the parts before the one that begins at start were found
pub record Parted (path : List ℕ) (names : List (List ℕ)) (start i : ℕ) : Type 0 where
  pub done : List (List ℕ)
  pub names_are : names ≡ map padded done
  pub whole : parts_of path ≡ done ++ parts_behind (slice_range path start i) (drop i path)
  pub low : start ≤ i
  pub bare : Contains (slice_range path start i) 47 → ⊥

none_there : Contains {X = ℕ} [] 47 → ⊥
none_there has = let inside : has.0 < 0 = has.1 in omega arith

none_bare : (path : List ℕ) (i : ℕ) → Contains (slice_range path i i) 47 → ⊥
none_bare path i has = none_there (subst (λ (l : List ℕ). Contains l 47) (between_none path i) has)

-- a byte that is no slash adds none
before_another : (path : List ℕ) (start i : ℕ) → start ≤ i → i < length path → get_or path i 0 ≢ 47 →
    Contains (slice_range path start (i + 1)) 47 → Contains (slice_range path start i) 47
before_another path start i low inside other has =
    ⊎_elim (λ (old : Contains (slice_range path start i) 47). old) (λ (is : get_or path i 0 ≡ 47). absurd (other is))
    (Contains-push_cases (slice_range path start i) (get_or path i 0) 47
    (subst (λ (l : List ℕ). Contains l 47) (between_more path start i 0 low inside) has))

pub parted_none : (path : List ℕ) → Parted path [] 0 0
parted_none path = record { done = []; names_are = refl; whole = refl; low = omega arith; bare = λ has. none_bare path 0 has }

unslashed : (path part : List ℕ) (i : ℕ) → i < length path → get_or path i 0 ≢ 47 →
    parts_behind part (drop i path) ≡ parts_behind (part ++ get_or path i 0 ∷ []) (drop (i + 1) path)
unslashed path part i inside other =
    ap (λ (l : List ℕ). parts_behind part l) (drop_more path i 0 inside)
    ∙ ap (λ (b : Bool). cond b (one_part part ++ parts_behind [] (drop (i + 1) path)) (parts_behind (part ++ get_or path i 0 ∷ []) (drop (i + 1) path)))
    (ne_eqb (get_or path i 0) 47 other)

slashed : (path part : List ℕ) (i : ℕ) → i < length path → get_or path i 0 ≡ 47 →
    parts_behind part (drop i path) ≡ one_part part ++ parts_behind [] (drop (i + 1) path)
slashed path part i inside is =
    ap (λ (l : List ℕ). parts_behind part l) (drop_more path i 0 inside)
    ∙ ap (λ (n : ℕ). cond (eqb n 47) (one_part part ++ parts_behind [] (drop (i + 1) path)) (parts_behind (part ++ n ∷ []) (drop (i + 1) path))) is

-- the part goes on
pub parted_on : (path : List ℕ) (names : List (List ℕ)) (start i : ℕ) → i < length path → get_or path i 0 ≢ 47 →
    Parted path names start i → Parted path names start (i + 1)
parted_on path names start i inside other parted = record {
  done = parted.done;
  names_are = parted.names_are;
  whole = parted.whole
      ∙ ap (λ (l : List (List ℕ)). parted.done ++ l) (unslashed path (slice_range path start i) i inside other
      ∙ ap (λ (p : List ℕ). parts_behind p (drop (i + 1) path)) (sym (between_more path start i 0 parted.low inside)));
  low = omega (arith, parted.low);
  bare = λ has. parted.bare (before_another path start i parted.low inside other has);
}

-- the part ends
pub parted_at : (path : List ℕ) (names more : List (List ℕ)) (start i : ℕ) → i < length path → get_or path i 0 ≡ 47 →
    more ≡ names ++ map padded (one_part (slice_range path start i)) → Parted path names start i → Parted path more (i + 1) (i + 1)
parted_at path names more start i inside is adds parted =
    let part : List ℕ = slice_range path start i in
    record {
      done = parted.done ++ one_part part;
      names_are = adds ∙ ap (λ (l : List (List ℕ)). l ++ map padded (one_part part)) parted.names_are ∙ sym (map-append padded parted.done (one_part part));
      whole = parted.whole
          ∙ ap (λ (l : List (List ℕ)). parted.done ++ l) (slashed path part i inside is)
          ∙ sym (append_assoc parted.done (one_part part) (parts_behind [] (drop (i + 1) path)))
          ∙ ap (λ (p : List ℕ). (parted.done ++ one_part part) ++ parts_behind p (drop (i + 1) path)) (sym (between_none path (i + 1)));
      low = omega arith;
      bare = λ has. none_bare path (i + 1) has;
    }

-- the last part ends
pub parted_all : (path : List ℕ) (names more : List (List ℕ)) (start i : ℕ) → i ≡ length path →
    more ≡ names ++ map padded (one_part (slice_range path start (length path))) → Parted path names start i → more ≡ map padded (parts_of path)
parted_all path names more start i behind adds parted =
    let part : List ℕ = slice_range path start (length path) in
    let all : Parted path names start (length path) = subst (λ (j : ℕ). Parted path names start j) behind parted in
    adds ∙ ap (λ (l : List (List ℕ)). l ++ map padded (one_part part)) all.names_are
    ∙ sym (map-append padded all.done (one_part part))
    ∙ ap (map padded) (sym (all.whole ∙ ap (λ (l : List ℕ). all.done ++ parts_behind part l) (drop_all (length path) path (omega arith))))

part_there : (part : List ℕ) (cause : PathFault) → IsPartCause part cause → Contains (one_part part) part
part_there [] NameTooLong why = absurd (omega (arith, why))
part_there [] ZeroByte why = absurd (omega (arith, why.1))
part_there [] NoMemory why = absurd (why refl)
part_there (b ∷ bs) cause why = (0, lit< tt, refl)

-- a part that is none refuses the path
pub refused_at : (path : List ℕ) (names : List (List ℕ)) (start i : ℕ) (cause : PathFault) → i < length path → get_or path i 0 ≡ 47 →
    Parted path names start i → IsPartCause (slice_range path start i) cause → IsPathCause path cause
refused_at path names start i cause inside is parted why =
    let part : List ℕ = slice_range path start i in (
      part,
      subst (λ (l : List (List ℕ)). Contains l part) (sym (parted.whole ∙ ap (λ (l : List (List ℕ)). parted.done ++ l) (slashed path part i inside is)))
          (Contains-append_right parted.done (one_part part ++ parts_behind [] (drop (i + 1) path)) part
          (Contains-append_left (one_part part) (parts_behind [] (drop (i + 1) path)) part (part_there part cause why))),
      why,
    )

pub refused_last : (path : List ℕ) (names : List (List ℕ)) (start i : ℕ) (cause : PathFault) → i ≡ length path →
    Parted path names start i → IsPartCause (slice_range path start (length path)) cause → IsPathCause path cause
refused_last path names start i cause behind parted why =
    let part : List ℕ = slice_range path start (length path) in
    let all : Parted path names start (length path) = subst (λ (j : ℕ). Parted path names start j) behind parted in (
      part,
      subst (λ (l : List (List ℕ)). Contains l part) (sym (all.whole ∙ ap (λ (l : List ℕ). all.done ++ parts_behind part l) (drop_all (length path) path (omega arith))))
          (Contains-append_right all.done (one_part part) part (part_there part cause why)),
      why,
    )
