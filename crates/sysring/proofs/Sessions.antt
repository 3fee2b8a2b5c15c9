-- Turns of a kernel that threads share, one after the other.
use Rattle.std.proofs.Common.{◌∙◌, ap, ◌++◌, ℕ, List, [], ◌∷◌, refl, subst, Option, Some, None}
use Rattle.blocks.specs.declared.disk.Disk as disk_trait
use Rattle.ports.specs.History.{SameNames}
use Rattle.ports.specs.declared.herald.Herald as herald_trait
use Rattle.rings.specs.Callers.{intake_names}
use Rattle.rings.specs.contracts.intake.RingIntakeIntake.TheImpl.{ghosts}
use Rattle.rings.specs.declared.intake.RingIntake.{RingIntake}
use Rattle.model.specs.declared.types.operations.Step.{Step}
use Rattle.kernel.specs.Lemmas.Turns.{session_of}
use Rattle.kernel.specs.Runs.{Makes, Runs, Session}
use Rattle.kernel.specs.State.{State}
use Rattle.kernel.specs.Steps.{MakesStep}
use Rattle.kernel.specs.declared.types.Turn.{Turn}
use Rattle.kernel.specs.declared.types.Turn.TheVariants.{Proc, Shut}
use Rattle.sysring.specs.Sessions.{IsOfTurns}

module _ {D N H : Type 0} (disk : disk_trait.Ghosts D N) (herald : herald_trait.Ghosts H) where
  -- one step more
  session_more : (ts : List Turn) (p : ℕ) (r : Step) (a k m : State D RingIntake H) → Session disk ghosts herald ts a k → MakesStep disk ghosts herald p r k m → Session disk ghosts herald (ts ++ Proc p ∷ []) a m
  session_more [] p r a k m (i, h, is) made = (m, (i, h, (r, subst (λ (o : State D RingIntake H). MakesStep disk ghosts herald p r o m) is made)), (m.intake, m.herald, refl))
  session_more (t ∷ ts) p r a k m (mid, first, rest) made = (mid, first, session_more ts p r mid k m rest made)

  -- and so many turns
  session_then : (ts us : List Turn) (a k m : State D RingIntake H) → Session disk ghosts herald ts a k → Runs disk ghosts herald us k m → Session disk ghosts herald (ts ++ us) a m
  session_then [] [] a k m (i, h, is) run = (i, h, run ∙ is)
  session_then [] (u ∷ us) a k m (i, h, is) (mid, made, rest) =
      (mid, (i, h, subst (λ (o : State D RingIntake H). Makes disk ghosts herald u o mid) is made), session_of disk ghosts herald us mid m rest)
  session_then (t ∷ ts) us a k m (mid, first, rest) run = (mid, first, session_then ts us mid k m rest run)

  -- they keep the rings
  pub rings_stay : (us : List Turn) (k m : State D RingIntake H) → Runs disk ghosts herald us k m → SameNames (intake_names k.intake) (intake_names m.intake)
  rings_stay [] k m is p = ap (λ (o : State D RingIntake H). intake_names o.intake p) is
  rings_stay (Proc q ∷ us) k m (mid, made, rest) p = rings_stay us mid m rest p ∙ made.1.acts.ports.sides.names p
  rings_stay (Shut ∷ us) k m (mid, made, rest) p = rings_stay us mid m rest p ∙ ap (λ (o : State D RingIntake H). intake_names o.intake p) made

  pub of_turns_behind : (o : Option (State D RingIntake H)) (us : List Turn) (k m : State D RingIntake H) → IsOfTurns disk herald o k → Runs disk ghosts herald us k m → IsOfTurns disk herald o m
  of_turns_behind None us k m had run = had
  of_turns_behind (Some a) us k m had run = record { turns = had.turns ++ us; session = session_then had.turns us a k m had.session run }

  pub of_turns_then : (o : Option (State D RingIntake H)) (p : ℕ) (r : Step) (k m : State D RingIntake H) → IsOfTurns disk herald o k → MakesStep disk ghosts herald p r k m → IsOfTurns disk herald o m
  of_turns_then None p r k m had made = had
  of_turns_then (Some a) p r k m had made = record { turns = had.turns ++ Proc p ∷ []; session = session_more had.turns p r a k m had.session made }
