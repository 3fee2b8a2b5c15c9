-- A recovery and commits over a stale device.
use Rattle.std.proofs.Common.{◌≡◌, ◌⊎◌, inl, inr, ⊎_elim, suc, List, [], ◌∷◌, ◌++◌, length, refl, sym, ap, ◌∙◌, subst, arith}
use Rattle.std.specs.List.{flat_map}
use Rattle.blocks.specs.Held.{Write, applied}
use Rattle.wal.specs.Common.{are_in_place, Image, IsSameOutsideLog, logged_count, recovered, recovered_empty}
use Rattle.lost_writes.specs.Device.{StopLeaves, BreaksOff, written}
use Rattle.lost_writes.specs.Laws.{CommitsInTurn, Ends, IsAtRest, RunsOverStale}
use Rattle.lost_writes.specs.Runs.{AreGroups, Group, IsGroup, KeepsSome, commit_of, image_after, recovery_of}
use Rattle.lost_writes.specs.Stale.{IsStale, RecoversTo}
use Rattle.lost_writes.proofs.Stale.{is_lawful_empty, outside_then, recovers_stale, stale_here}
use Rattle.lost_writes.proofs.Recovery.{recovers_over_stale}
use Rattle.lost_writes.proofs.Commit.{commits_over_stale}

abbrev Parts : Type 0
Parts = List (List Write)

written_then : (x : Image) (a b : Parts) → written x (a ++ b) ≡ written (written x a) b
written_then x [] b = refl
written_then x (part ∷ a) b = written_then (applied x part) a b

stop_in : (z w : Image) (a b : Parts) → StopLeaves z (a ++ b) w → StopLeaves z a w ⊎ StopLeaves (written z a) b w
stop_in z w [] b left = inr left
stop_in z w (part ∷ a) b (inl held) = inl (inl held)
stop_in z w (part ∷ a) b (inr later) = ⊎_elim (λ first. inl (inr first)) (λ second. inr second) (stop_in (applied z part) w a b later)

breaks_in : (x z y w : Image) (a b : Parts) → BreaksOff x z (a ++ b) y w → BreaksOff x z a y w ⊎ BreaksOff (written x a) (written z a) b y w
breaks_in x z y w [] b failed = inr failed
breaks_in x z y w (part ∷ a) b (inl here) = inl (inl here)
breaks_in x z y w (part ∷ a) b (inr later) = ⊎_elim (λ first. inl (inr first)) (λ second. inr second) (breaks_in (applied x part) (applied z part) y w a b later)

-- parts and then others
ends_then : (first last x z : Image) (P Q R : Image → Type 0) (a b : Parts) → ((w : Image) → P w → R w) → ((w : Image) → Q w → R w)
    → Ends first x z P a → Ends last (written x a) (written z a) Q b → Ends last x z R (a ++ b)
ends_then first last x z P Q R a b from_p from_q one two = record {
  outlasts = record {
    stops = λ w left. ⊎_elim (λ s. from_p w (one.outlasts.stops w s)) (λ s. from_q w (two.outlasts.stops w s)) (stop_in z w a b left);
    breaks = λ y w failed. ⊎_elim
        (λ f. let r = one.outlasts.breaks y w f in (from_p y r.0, r.1, r.2))
        (λ f. let r = two.outlasts.breaks y w f in (from_q y r.0, r.1, r.2))
        (breaks_in x z y w a b failed);
  };
  rests = subst (λ (v : Image). IsAtRest v (written z (a ++ b))) (sym (written_then x a b))
      (subst (IsAtRest (written (written x a) b)) (sym (written_then z a b)) two.rests);
  image = subst (RecoversTo last) (sym (written_then x a b)) two.image;
}

-- an image with an empty log that is the same as y outside it
recovers_here : (y x w : Image) → IsSameOutsideLog y x → RecoversTo x w → RecoversTo y w
recovers_here y x w same r = record { lawful = r.lawful; same = outside_then y x (recovered w) same r.same }

at_rest : (y x : Image) → logged_count x ≡ 0 → RecoversTo y x → IsSameOutsideLog y x
at_rest y x none r = subst (IsSameOutsideLog y) (recovered_empty x none) r.same

group_there : (y x : Image) (g : Group) → IsSameOutsideLog y x → IsGroup y g → IsGroup x g
group_there y x g same is = record {
  size = is.size ∙ sym same.size;
  few = omega (arith, is.few, same.size);
  some = is.some;
  room = is.room;
  in_place = ap (are_in_place g.homes) same.size ∙ is.in_place;
  distinct = is.distinct;
  rest = λ b out other. is.rest b out other ∙ sym (same.agree b out);
}

commits_in_turn : (y x z : Image) (gs : List Group) → IsAtRest x z → IsSameOutsideLog y x → AreGroups y gs
    → Ends (image_after y gs (length gs)) x z (KeepsSome y gs) (flat_map commit_of gs)
commits_in_turn y x z [] rest same groups =
    let lawful = is_lawful_empty x rest.empty in
    let to : (w : Image) → IsStale x w → RecoversTo y w = λ w stale. recovers_here y x w same (subst (λ (v : Image). RecoversTo v w) (recovered_empty x rest.empty) (recovers_stale x w lawful stale)) in
    record {
      outlasts = record {
        stops = λ w is. record { groups = 0; most = omega arith; recovers = subst (RecoversTo y) (sym is) (to z rest.stale) };
        breaks = λ v w none. absurd none;
      };
      rests = rest;
      image = to x (stale_here x);
    }
commits_in_turn y x z (g ∷ gs) rest same groups =
    let first = commits_over_stale x z g rest (group_there y x g same groups.0) in
    let more = commits_in_turn g.image (written x (commit_of g)) (written z (commit_of g)) gs first.rests (at_rest g.image (written x (commit_of g)) first.rests.empty first.image) groups.1 in
    ends_then g.image (image_after g.image gs (length gs)) x z (λ w. RecoversTo x w ⊎ RecoversTo g.image w) (KeepsSome g.image gs) (KeepsSome y (g ∷ gs)) (commit_of g) (flat_map commit_of gs)
    (λ w either. ⊎_elim
    (λ (r : RecoversTo x w). record { groups = 0; most = omega arith; recovers = recovers_here y x w same r })
    (λ (r : RecoversTo g.image w). record { groups = 1; most = omega arith; recovers = r }) either)
    (λ w (k : KeepsSome g.image gs w). record { groups = suc k.groups; most = omega (arith, k.most); recovers = k.recovers })
    first more

pub commits_turn_by_turn : CommitsInTurn
commits_turn_by_turn y x z gs rest r groups = commits_in_turn y x z gs rest (at_rest y x rest.empty r) groups

pub runs_over_stale : RunsOverStale
runs_over_stale x z gs lawful stale groups =
    let first = recovers_over_stale x z lawful stale in
    let y = recovered x in
    let more = commits_in_turn y (written x (recovery_of x)) (written z (recovery_of x)) gs first.rests (at_rest y (written x (recovery_of x)) first.rests.empty first.image) groups in
    ends_then y (image_after y gs (length gs)) x z (RecoversTo y) (KeepsSome y gs) (KeepsSome y gs) (recovery_of x) (flat_map commit_of gs)
    (λ w r. record { groups = 0; most = omega arith; recovers = r }) (λ w k. k) first more
