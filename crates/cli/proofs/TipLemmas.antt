-- The nearest of names, one after the other.
use Rattle.std.proofs.Common.{◌≡◌, ◌≤◌, ◌<◌, ◌+◌, ◌/◌, ℕ, List, Option, Some, None, [], All, Contains, MatchOption, Bor, arith, get_or, length, map, option_map, refl, subst, sym, take}
use Rattle.std.proofs.lemmas.List.{get_or-map, length-map, take_all}
use Rattle.std.proofs.lemmas.List.Elements.{All-map, All-more, All-weaker, Contains-get_or}
use Rattle.cli.specs.Tips.{IsNearest, edits_between}

-- none of the first names is nearer, and the one that is near is one of the names
pub record NearestOf (word : List ℕ) (names : List (Bor (List ℕ))) (count : ℕ) (found : Option (Bor (List ℕ))) (more : ℕ) : Type 0 where
  pub least : All (λ name. more ≤ edits_between word name.now) (take count names)
  pub near : MatchOption found (more ≡ length word / 2 + 1) (λ name. Contains (map (λ other. other.now) names) name.now × (more ≡ edits_between word name.now) × (more ≤ length word / 2))

few : (A B : Bor (List ℕ) → Type 0) (near : Option (Bor (List ℕ))) (half more edits : ℕ) → MatchOption near (more ≡ half + 1) (λ name. A name × B name × (more ≤ half)) → edits < more → edits ≤ half
few A B None half more edits e lt = omega arith
few A B (Some name) half more edits (a, b, le) lt = omega arith

among : (names : List (Bor (List ℕ))) (i : ℕ) (d : Bor (List ℕ)) → i < length names → Contains (map (λ other. other.now) names) (get_or names i d).now
among names i d lt =
    let others = map (λ other. other.now) names in
    let within : i < length others = rw length-map lt in
    subst (λ name. Contains others name) (get_or-map (λ other. other.now) names i d [] lt) (Contains-get_or others i [] within)

pub same_nearest : (word : List ℕ) (names : List (Bor (List ℕ))) (count : ℕ) (near found : Option (Bor (List ℕ))) (more edits : ℕ) → near ≡ found → more ≡ edits → NearestOf word names count found edits → NearestOf word names count near more
same_nearest word names count near found more edits same equal met = subst (λ o. NearestOf word names count o more) (sym same) (subst (λ n. NearestOf word names count found n) (sym equal) met)

pub nearer : (word : List ℕ) (names : List (Bor (List ℕ))) (i : ℕ) (near : Option (Bor (List ℕ))) (more edits : ℕ) (d : Bor (List ℕ)) → i < length names → NearestOf word names i near more → edits ≡ edits_between word (get_or names i d).now → edits < more → NearestOf word names (i + 1) (Some (get_or names i d)) edits
nearer word names i near more edits d lt met e below = record {
  least = All-more (λ name. edits ≤ edits_between word name.now) names i d lt
      (All-weaker (λ name. more ≤ edits_between word name.now) (λ name. edits ≤ edits_between word name.now) (λ name le. omega arith) (take i names) met.least)
      (omega (arith, e));
  near = (among names i d lt, e, few _ _ near (length word / 2) more edits met.near below);
}

pub as_near : (word : List ℕ) (names : List (Bor (List ℕ))) (i : ℕ) (near : Option (Bor (List ℕ))) (more edits : ℕ) (d : Bor (List ℕ)) → i < length names → NearestOf word names i near more → edits ≡ edits_between word (get_or names i d).now → more ≤ edits → NearestOf word names (i + 1) near more
as_near word names i near more edits d lt met e above = record {
  least = All-more (λ name. more ≤ edits_between word name.now) names i d lt met.least (omega (arith, e));
  near = met.near;
}

pub all_met : (word : List ℕ) (names : List (Bor (List ℕ))) (i : ℕ) (near : Option (Bor (List ℕ))) (more : ℕ) → length names ≤ i → NearestOf word names i near more → IsNearest word (map (λ name. name.now) names) (option_map (λ name. name.now) near)
all_met word names i None more past met =
    All-map (λ name. length word / 2 < edits_between word name) (λ name. name.now) names
    (All-weaker (λ name. more ≤ edits_between word name.now) (λ name. length word / 2 < edits_between word name.now) (λ name le. omega (arith, met.near)) names
    (subst (λ ns. All (λ name. more ≤ edits_between word name.now) ns) (take_all i names past) met.least))
all_met word names i (Some found) more past met = record {
  among = met.near.0;
  few = omega (arith, met.near.1, met.near.2);
  fewest = All-map (λ name. edits_between word found.now ≤ edits_between word name) (λ name. name.now) names
      (All-weaker (λ name. more ≤ edits_between word name.now) (λ name. edits_between word found.now ≤ edits_between word name.now) (λ name le. omega (arith, met.near.1)) names
      (subst (λ ns. All (λ name. more ≤ edits_between word name.now) ns) (take_all i names past) met.least));
}
