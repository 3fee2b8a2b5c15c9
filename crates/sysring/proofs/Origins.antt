-- A kernel stays of its origin in each step.
use Rattle.std.proofs.Common.{◌∙◌, ℕ, Option, Some, None}
use Rattle.blocks.specs.declared.disk.Disk as disk_trait
use Rattle.ports.specs.History.{SameNames}
use Rattle.ports.specs.declared.herald.Herald as herald_trait
use Rattle.ports.specs.declared.intake.Intake as intake_trait
use Rattle.rings.specs.Callers.{intake_names}
use Rattle.rings.specs.declared.intake.RingIntake.{RingIntake}
use Rattle.model.specs.declared.types.operations.Step.{Step}
use Rattle.kernel.specs.Heralds.{SameBoard}
use Rattle.kernel.specs.Lemmas.Turns.{runs_on_step, runs_on_then}
use Rattle.kernel.specs.Runs.{RunsOn}
use Rattle.kernel.specs.State.{State}
use Rattle.kernel.specs.Steps.{MakesStep}
use Rattle.sysring.specs.Origins.{IsOfOrigin}

module _ {D N M H : Type 0} (disk : disk_trait.Ghosts D N) (intake : intake_trait.Ghosts RingIntake M) (herald : herald_trait.Ghosts H) where
  pub of_origin_behind : (o : Option (State D RingIntake H)) (k m : State D RingIntake H) → IsOfOrigin disk herald o k → RunsOn disk k m
      → SameNames (intake_names k.intake) (intake_names m.intake) → SameBoard herald k.herald m.herald → IsOfOrigin disk herald o m
  of_origin_behind None k m had runs same board = had
  of_origin_behind (Some a) k m had runs same board = record {
    runs = runs_on_then disk intake herald a k m had.runs runs;
    rings = λ q. same q ∙ had.rings q;
    board = board ∙ had.board;
  }

  pub of_origin_then : (o : Option (State D RingIntake H)) (p : ℕ) (r : Step) (k m : State D RingIntake H) → IsOfOrigin disk herald o k → MakesStep disk intake herald p r k m
      → SameNames (intake_names k.intake) (intake_names m.intake) → IsOfOrigin disk herald o m
  of_origin_then None p r k m had made same = had
  of_origin_then (Some a) p r k m had made same = record {
    runs = runs_on_then disk intake herald a k m had.runs (runs_on_step disk intake herald p r k m made);
    rings = λ q. same q ∙ had.rings q;
    board = made.acts.ports.board ∙ had.board;
  }
