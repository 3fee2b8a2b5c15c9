-- The next file that was found is looked into.
use Rattle.std.proofs.Common.{◌≡◌, ◌⊎◌, inl, inr, ℕ, ◌+◌, ◌<◌, ◌≤◌, List, [], ◌∷◌, ◌++◌, length, get_or, refl, sym, ap, subst, ◌∙◌, ⊎_elim, arith}
use Rattle.std.proofs.lemmas.Bool.{cases_lt}
use Rattle.std.proofs.lemmas.List.{get_or_append_left, get_or-append-add, length-append}
use Rattle.model.specs.Files.{Files}
use Rattle.directories.specs.Checks.{AreApart, HasFound, HasName, WasFound}
use Rattle.directories.specs.Trees.{IsDirectory, IsFile}
use Rattle.directories.specs.Lemmas.Apart.{none_among}

-- ---- at the beginning

one_alone : AreApart (1 ∷ [])
one_alone = record { same = λ j k at_j at_k e. omega arith }

pub begin_found : (files : Files) → HasFound files 0 (1 ∷ []) (1 ∷ []) []
begin_found files = record {
  few = refl;
  some = omega arith;
  low = omega arith;
  first = refl;
  top = refl;
  apart = one_alone;
  there = λ j seen. absurd (omega arith);
  directories = λ j seen is. absurd (omega arith);
  down = λ j number name seen step. absurd (omega arith);
  names = λ j number x y seen to_x to_y. absurd (omega arith);
  up = λ m behind inside. absurd (omega arith);
  twice = λ n s. absurd (none_among n s);
}

-- ---- a file that is no directory

pub at_last : (j k : ℕ) → j < k + 1 → (j < k) ⊎ (j ≡ k)
at_last j k h = ⊎_elim (λ (low : j < k). inl low) (λ (high : k ≤ j). inr (omega arith)) (cases_lt j k)

pub name_later : (files : Files) (k : ℕ) (numbers parents : List ℕ) (m : ℕ) → HasName files k numbers parents m → HasName files (k + 1) numbers parents m
name_later files k numbers parents m has =
    let seen : has.from < k = has.seen in
    record { from = has.from; before = has.before; seen = omega arith; parent = has.parent; name = has.name; step = has.step }

pub next_plain : (files : Files) (k : ℕ) (numbers parents again : List ℕ) → HasFound files k numbers parents again → k < length numbers →
    IsFile files (get_or numbers k 0) → (IsDirectory files (get_or numbers k 0) → ⊥) → HasFound files (k + 1) numbers parents again
next_plain files k numbers parents again found inside there plain =
    let not_here : (j : ℕ) → j ≡ k → IsDirectory files (get_or numbers j 0) → ⊥ =
    λ j same is. plain (subst (λ (i : ℕ). IsDirectory files (get_or numbers i 0)) same is) in
    record {
      few = found.few;
      some = found.some;
      low = omega arith;
      first = found.first;
      top = found.top;
      apart = found.apart;
      there = λ j seen.
          ⊎_elim (λ (before : j < k). found.there j before)
          (λ (same : j ≡ k). subst (λ (i : ℕ). IsFile files (get_or numbers i 0)) (sym same) there) (at_last j k seen);
      directories = λ j seen is.
          ⊎_elim (λ (before : j < k). found.directories j before is) (λ (same : j ≡ k). absurd (not_here j same is)) (at_last j k seen);
      down = λ j number name seen step.
          ⊎_elim (λ (before : j < k). found.down j number name before step) (λ (same : j ≡ k). absurd (not_here j same step.1.0)) (at_last j k seen);
      names = λ j number x y seen to_x to_y.
          ⊎_elim (λ (before : j < k). found.names j number x y before to_x to_y) (λ (same : j ≡ k). absurd (not_here j same to_x.1.0))
          (at_last j k seen);
      up = λ m behind inside. name_later files k numbers parents m (found.up m behind inside);
      twice = found.twice;
    }

-- ---- a directory

-- what was found stays found where more are
pub found_more : (numbers parents more up : List ℕ) (j number : ℕ) → j < length numbers → length parents ≡ length numbers →
    WasFound numbers parents j number → WasFound (numbers ++ more) (parents ++ up) j number
found_more numbers parents more up j number seen few was =
    let inside : was.place < length numbers = was.inside in
    let long : length (numbers ++ more) ≡ length numbers + length more = length-append numbers more in
    record {
      place = was.place;
      behind = was.behind;
      inside = omega arith;
      is = get_or_append_left numbers more 0 was.place inside ∙ was.is;
      parent = get_or_append_left parents up 0 was.place (omega arith) ∙ was.parent ∙ sym (get_or_append_left numbers more 0 j seen);
    }

-- what is behind the numbers found before
pub record IsBehind (numbers parents more up : List ℕ) (m place : ℕ) : Type 0 where
  pub number : get_or (numbers ++ more) m 0 ≡ get_or more place 0
  pub parent : get_or (parents ++ up) m 0 ≡ get_or up place 0

pub is_behind : (numbers parents more up : List ℕ) (m place : ℕ) → length parents ≡ length numbers → length numbers + place ≡ m →
    IsBehind numbers parents more up m place
is_behind numbers parents more up m place few at =
    let at_parents : length parents + place ≡ m = omega arith in
    record {
      number = ap (λ (i : ℕ). get_or (numbers ++ more) i 0) (sym at) ∙ get_or-append-add numbers more place 0;
      parent = ap (λ (i : ℕ). get_or (parents ++ up) i 0) (sym at_parents) ∙ get_or-append-add parents up place 0;
    }
