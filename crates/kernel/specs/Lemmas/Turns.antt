-- What turns keep of a kernel.
use Rattle.std.proofs.Common.{◌≡◌, ◌∙◌, true, List, [], ◌∷◌, refl, sym, subst, ℕ}
use Rattle.kernel.specs.Common.{Entry, Grows, grows_none, grows_then, Image, inode_count_of, KeepsBetween, KeepsNow, leaves_then, LeavesOnly, Makes, MakesStep, most_of, Proc, Runs, RunsOn, Session, Shut, started, State, Step, StopsIn, Turn, VolumeState, with_ports, with_shutdown, World}
use Rattle.blocks.specs.declared.disk.Disk as disk_trait
use Rattle.ports.specs.declared.herald.Herald as herald_trait
use Rattle.ports.specs.declared.intake.Intake as intake_trait
use Rattle.kernel.specs.Progress.{KeepsShutdown, StaysShut}

-- what is shut stays so in one step more
shut_more : (w z y : World) → KeepsShutdown z y → (w.is_shut ≡ true → StaysShut w z) → w.is_shut ≡ true → StaysShut w y
shut_more w z y kept had shut = let here = had shut in record { shut = kept.stays here.shut; none = λ p. kept.none (kept.stays here.shut) p ∙ here.none p }

-- what a stop leaves where nothing happened
leaves_none : {D : Type 0} (opening : Image) (moment : D → ℕ) (leaves : D → ℕ → Image → Type 0) (v : VolumeState D) (es : List Entry)
    → ((x : Image) → leaves v.device (moment v.device) x → KeepsNow v.log.committed (most_of v) opening es x) → LeavesOnly moment leaves v.device v.device (KeepsBetween v.log.committed (most_of v) opening es)
leaves_none opening moment leaves v es keeps = started moment leaves v.device (KeepsBetween v.log.committed (most_of v) opening es) (λ x left. (keeps x left).between)

module _ {D N I M H : Type 0} (disk : disk_trait.Ghosts D N) (intake : intake_trait.Ghosts I M) (herald : herald_trait.Ghosts H) where
  -- what a stop leaves now
  abbrev pub Keeps : State D I H → Type 0
  Keeps k = (x : Image) → disk.leaves k.store.volume.device (disk.moment k.store.volume.device) x → KeepsNow k.store.volume.log.committed (most_of k.store.volume) (disk.image k.opening) k.world.journal.list x

  stops_none : (k : State D I H) → Keeps k → StopsIn disk k k
  stops_none k keeps = record { keeps = keeps; leaves = leaves_none (disk.image k.opening) disk.moment disk.leaves k.store.volume k.world.journal.list keeps }

  -- before the first turn
  pub runs_on_none : (k : State D I H) → Keeps k → RunsOn disk k k
  runs_on_none k keeps = record {
    opening = refl;
    many = refl;
    shut = λ shut. record { shut = shut; none = λ p. refl };
    grows = grows_none (inode_count_of (disk.image k.opening)) k.store.volume k.store.volume k.world.journal.list k.world.journal.list refl refl;
    stop = stops_none k keeps;
  }

  -- a shutdown
  pub runs_on_shut : (k : State D I H) → Keeps k → RunsOn disk k (with_shutdown k)
  runs_on_shut k keeps = record {
    opening = refl;
    many = refl;
    shut = λ shut. record { shut = refl; none = λ p. refl };
    grows = grows_none (inode_count_of (disk.image k.opening)) k.store.volume k.store.volume k.world.journal.list k.world.journal.list refl refl;
    stop = stops_none k keeps;
  }

  -- a step
  pub runs_on_step : (p : ℕ) (r : Step) (k m : State D I H) → MakesStep disk intake herald p r k m → RunsOn disk k m
  runs_on_step p r k m made = record {
    opening = made.acts.opening;
    many = made.progress.many;
    shut = shut_more k.world k.world m.world made.progress.shut (λ shut. record { shut = shut; none = λ q. refl });
    grows = made.progress.grows;
    stop = made.stop;
  }

  -- turns after turns
  pub runs_on_then : (a b c : State D I H) → RunsOn disk a b → RunsOn disk b c → RunsOn disk a c
  runs_on_then a b c run next =
      let opening = next.opening ∙ run.opening in
      let es = a.world.journal.list in
      let fs = b.world.journal.list in
      let gs = c.world.journal.list in
      let grows : Grows (inode_count_of (disk.image a.opening)) b.store.volume fs c.store.volume gs
      = subst (λ (o : D). Grows (inode_count_of (disk.image o)) b.store.volume fs c.store.volume gs) run.opening next.grows in
      let before : LeavesOnly disk.moment disk.leaves a.store.volume.device b.store.volume.device (KeepsBetween a.store.volume.log.committed (most_of b.store.volume) (disk.image a.opening) fs)
      = subst (λ (o : D). LeavesOnly disk.moment disk.leaves a.store.volume.device b.store.volume.device (KeepsBetween a.store.volume.log.committed (most_of b.store.volume) (disk.image o) fs)) run.opening run.stop.leaves in
      let behind : LeavesOnly disk.moment disk.leaves b.store.volume.device c.store.volume.device (KeepsBetween b.store.volume.log.committed (most_of c.store.volume) (disk.image a.opening) gs)
      = subst (λ (o : D). LeavesOnly disk.moment disk.leaves b.store.volume.device c.store.volume.device (KeepsBetween b.store.volume.log.committed (most_of c.store.volume) (disk.image o) gs)) opening next.stop.leaves in
      record {
        opening = opening;
        many = next.many ∙ run.many;
        shut = λ shut. let here = run.shut shut in let on = next.shut here.shut in record { shut = on.shut; none = λ p. on.none p ∙ here.none p };
        grows = grows_then (inode_count_of (disk.image a.opening)) a.store.volume b.store.volume c.store.volume es fs gs run.grows grows;
        stop = record {
          keeps = next.stop.keeps;
          leaves = subst (λ (o : D). LeavesOnly disk.moment disk.leaves a.store.volume.device c.store.volume.device (KeepsBetween a.store.volume.log.committed (most_of c.store.volume) (disk.image o) gs)) (sym opening)
              (leaves_then (disk.image a.opening) disk.moment disk.leaves a.store.volume b.store.volume c.store.volume es fs gs run.grows grows before behind);
        };
      }

  -- anything at the ports
  pub runs_on_ports : (k m : State D I H) (i : I) (h : H) → Keeps k → m ≡ with_ports k i h → RunsOn disk k m
  runs_on_ports k m i h keeps is = subst (λ (o : State D I H). RunsOn disk k o) (sym is)
      (let none = runs_on_none k keeps in record { opening = none.opening; many = none.many; shut = none.shut; grows = none.grows; stop = none.stop })

  -- a turn
  pub runs_on_turn : (t : Turn) (k m : State D I H) → Keeps k → Makes disk intake herald t k m → RunsOn disk k m
  runs_on_turn (Proc p) k m keeps made = runs_on_step p made.0 k m made.1
  runs_on_turn Shut k m keeps is = subst (λ (o : State D I H). RunsOn disk k o) (sym is) (runs_on_shut k keeps)

  -- a session
  pub runs_on_session : (ts : List Turn) (k m : State D I H) → Keeps k → Session disk intake herald ts k m → RunsOn disk k m
  runs_on_session [] k m keeps (i, h, is) = runs_on_ports k m i h keeps is
  runs_on_session (t ∷ ts) k m keeps (mid, (i, h, made), rest) =
      let at = with_ports k i h in
      let here = runs_on_then k at mid (runs_on_ports k at i h keeps refl) (runs_on_turn t at mid keeps made) in
      runs_on_then k mid m here (runs_on_session ts mid m here.stop.keeps rest)

  -- a run is one in which nothing happens at the ports
  pub session_of : (ts : List Turn) (k m : State D I H) → Runs disk intake herald ts k m → Session disk intake herald ts k m
  session_of [] k m is = (k.intake, k.herald, is)
  session_of (t ∷ ts) k m (mid, made, rest) = (mid, (k.intake, k.herald, made), session_of ts mid m rest)
