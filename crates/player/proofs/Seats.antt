-- A player's seats: its board, its watch, and its feeders with their rings.
use Rattle.std.proofs.Common.{◌≡◌, ◌∙◌, ◌<◌, ℕ, List, [], ◌∷◌, ◌++◌, length, set, Option, Some, None, refl, sym, ap, subst, arith}
use Rattle.std.specs.Prelude.{IfNone, IfSome, IsSome, slice_get}
use Rattle.std.proofs.lemmas.List.{length-set, nil_from_length, set-set}
use Rattle.std.proofs.lemmas.Option.{slice_get_within, same_Some}
use mathlib.Core.List.{IsPrefix}
use Rattle.rings.specs.Boards.{WatchOf}
use Rattle.model.specs.declared.types.operations.Answer.{Answer}
use Rattle.ports.specs.History.{SameNames}
use Rattle.ports.specs.Lemmas.Lanes.{slice_get-set_here}
use Rattle.rings.specs.Callers.{answers_known, intake_names, polled, submitted, unpolled}
use Rattle.rings.specs.declared.caller.Caller.{Caller}
use Rattle.rings.specs.declared.name.Names.{Names}
use Rattle.scripts.specs.declared.script.Task.{Task}
use Rattle.clients.specs.Lemmas.Sets.{each_set}
use Rattle.clients.specs.Feeders.{AreNewFeeders, HasHandedIn, HaveSourceRings, IsSameFeeder, feeder_names, feeder_ops}
use Rattle.clients.specs.declared.feeder.Feeder.{Feeder}
use Rattle.player.specs.Stepping.{HandsIn, HasItsWatch, HasSame, IsSeated, ReconcilesAt, Polls, Ringed, TakesOldest}
use Rattle.player.specs.declared.player.Player.{Player}
use Rattle.blocks.specs.declared.faulty.FaultyDisk.{FaultyDisk}

-- one feeder is set, with the rings that it had
set_rings : (names now : ℕ → Option Names) (b : List Feeder) (p : ℕ) (s t : Feeder) → slice_get b p ≡ Some s → feeder_names t ≡ feeder_names s → SameNames names now → HaveSourceRings names b → HaveSourceRings now (set b p t)
set_rings names now b p s t here same still rings =
    each_set (λ q e. now q ≡ Some (feeder_names e)) b p s t here (still p ∙ rings p s here ∙ ap Some (sym same)) (λ q e at. still q ∙ rings q e at)

-- new feeders have their rings
pub new_seated : (names : ℕ → Option Names) (tasks : List Task) (processes : ℕ) (ss : List Feeder) → AreNewFeeders names tasks processes ss → HaveSourceRings names ss
new_seated names tasks processes ss are p s at = (are.each p s at).rings

module _ {D N : Type 0} (old new : Player D N) (seated : IsSeated old) (watch : HasItsWatch old new) (names : SameNames (intake_names old.kernel.intake) (intake_names new.kernel.intake)) (many : length new.kernel.world.processes ≡ length old.kernel.world.processes) where
  still_watched : WatchOf new.board.now new.watch
  still_watched = subst (λ b. WatchOf b.now new.watch) (sym watch.0) (subst (WatchOf old.board.now) (sym watch.1) seated.watched)

  -- where the feeders stay
  pub still_seated : new.feeders.items ≡ old.feeders.items → IsSeated new
  still_seated same = record {
    watched = still_watched;
    ringed = subst (HaveSourceRings (intake_names new.kernel.intake)) (sym same) (λ p s at. names p ∙ seated.ringed p s at);
    many = ap length same ∙ seated.many ∙ sym many;
  }

  -- where one is set
  pub set_seated : (p : ℕ) (s t : Feeder) → slice_get old.feeders.items p ≡ Some s → feeder_names t ≡ feeder_names s → new.feeders.items ≡ set old.feeders.items p t → IsSeated new
  set_seated p s t here same is = record {
    watched = still_watched;
    ringed = subst (HaveSourceRings (intake_names new.kernel.intake)) (sym is) (set_rings (intake_names old.kernel.intake) (intake_names new.kernel.intake) old.feeders.items p s t here same names seated.ringed);
    many = ap length is ∙ length-set old.feeders.items p t ∙ seated.many ∙ sym many;
  }

-- a process has its feeder, also behind a meeting
pub low_in : {D N : Type 0} (p : ℕ) (old new : Player D N) → p < length old.kernel.world.processes → HasSame old.kernel new.kernel → IsSeated new → p < length new.feeders.items
low_in {D} {N} p old new low same seated =
    let many = seated.many in
    let is = ap (λ (k : Ringed (FaultyDisk D)). length k.world.processes) same in
    omega (arith, low, many, is)

-- the kernel's processes, where only its ends of the rings changed
pub same_many : {D : Type 0} (k m : Ringed D) → HasSame k m → length m.world.processes ≡ length k.world.processes
same_many {D} k m same = ap (λ (n : Ringed D). length n.world.processes) same

-- nothing but its ends of the rings changed, and then again
pub same_still : {D : Type 0} (k l m : Ringed D) → HasSame k l → HasSame l m → HasSame k m
same_still {D} k l m before here = here ∙ ap (λ (s : Ringed D). record s { intake = m.intake }) before

-- and its disk did not
pub same_inner : {D : Type 0} (k m : Ringed (FaultyDisk D)) → HasSame k m → m.store.volume.device.inner ≡ k.store.volume.device.inner
same_inner {D} k m same = ap (λ (s : Ringed (FaultyDisk D)). s.store.volume.device.inner) same

none_known : (known : List Answer) → (0 < length known → ⊥) → known ≡ []
none_known [] never = refl
none_known (a ∷ known) never = absurd (never (omega arith))

-- what a poll says of the oldest answer
pub takes : (answer : Option Answer) (old new : Caller) → IfSome answer (λ a. polled new ≡ polled old ++ a ∷ []) → IfSome answer (λ a. IsPrefix (unpolled old) (a ∷ unpolled new)) → IfNone answer (polled new ≡ polled old) → (0 < answers_known old → IsSome answer)
    → TakesOldest answer old new
takes None old new some oldest none succeeds = (none, none_known (unpolled old) (λ low. absurd (cc (succeeds low))))
takes (Some a) old new some oldest none succeeds = (some, oldest)

module _ {D : Type 0} (p : ℕ) (k m : Ringed D) (b c : List Feeder) (at : ReconcilesAt p k.intake b m.intake c) (had now : Feeder) (here : slice_get c p ≡ Some had) (same : HasSame k m) where
  had_is : had ≡ record at.feeder { caller = at.met }
  had_is = same_Some had (record at.feeder { caller = at.met }) (sym here ∙ ap (λ ss. slice_get ss p) at.set ∙ slice_get-set_here b p (record at.feeder { caller = at.met }) (slice_get_within b p at.feeder at.is))

  set_is : set c p now ≡ set b p now
  set_is = ap (λ ss. set ss p now) at.set ∙ set-set b p (record at.feeder { caller = at.met }) now

  -- operations were handed in behind a meeting
  pub hands_in_then : IsSameFeeder had now → polled now.caller ≡ polled had.caller → HasHandedIn now → HandsIn p k b m (set c p now)
  hands_in_then still kept all = record {
    feeder = at.feeder;
    met = at.met;
    now = now;
    is = at.is;
    set = set_is;
    reconciles = at.reconciles;
    ops = still.1 ∙ ap feeder_ops had_is;
    polled = kept ∙ ap (λ s. polled s.caller) had_is;
    all = all;
    same = same;
  }

  -- the oldest answer was polled behind a meeting
  pub polls_then : (answer : Option Answer) → TakesOldest answer had.caller now.caller → (submitted now.caller ≡ submitted had.caller) × (now.backlog ≡ had.backlog) → Polls p answer k b m (set c p now)
  polls_then answer takes untouched = record {
    feeder = at.feeder;
    met = at.met;
    now = now;
    is = at.is;
    set = set_is;
    reconciles = at.reconciles;
    takes = subst (λ s. TakesOldest answer s.caller now.caller) had_is takes;
    untouched = (untouched.0 ∙ ap (λ s. submitted s.caller) had_is, untouched.1 ∙ ap (λ s. s.backlog) had_is);
    same = same;
  }

-- nothing is there to be polled behind a meeting
pub polls_none : {D : Type 0} (p : ℕ) (k m : Ringed D) (b c : List Feeder) (at : ReconcilesAt p k.intake b m.intake c) (had : Feeder) (here : slice_get c p ≡ Some had) (same : HasSame k m) → answers_known had.caller ≡ 0 → Polls p None k b m c
polls_none p k m b c at had here same none = record {
  feeder = at.feeder;
  met = at.met;
  now = record at.feeder { caller = at.met };
  is = at.is;
  set = at.set;
  reconciles = at.reconciles;
  takes = (refl, subst (λ (s : Feeder). unpolled s.caller ≡ []) (had_is p k m b c at had had here same) (nil_from_length (unpolled had.caller) none));
  untouched = (refl, refl);
  same = same;
}

-- the board and the watch, through three calls
pub watch_then : {D N : Type 0} (a b c d : Player D N) → HasItsWatch a b → HasItsWatch b c → HasItsWatch c d → HasItsWatch a d
watch_then a b c d one two three = (three.0 ∙ two.0 ∙ one.0, three.1 ∙ two.1 ∙ one.1)
