-- A session of a kernel, carried to such a device turn by turn.
use Rattle.std.proofs.Common.{◌≡◌, ◌≢◌, ℕ, List, [], ◌∷◌, Option, Some, None, refl, sym, ap, ◌∙◌, subst}
use Rattle.std.specs.Prelude.{IfNone, IsSome}
use Rattle.blocks.specs.declared.disk.Disk.{Ghosts}
use Rattle.ports.specs.declared.herald.Herald as herald_trait
use Rattle.ports.specs.declared.intake.Intake as intake_trait
use Rattle.model.specs.declared.types.operations.Step.{Step}
use Rattle.wal.specs.Common.{Image, Joint}
use Rattle.wal.specs.declared.types.DeviceFault.{DeviceFault}
use Rattle.inodes.specs.Store.{StoreState}
use Rattle.kernel.specs.declared.types.Turn.{Turn}
use Rattle.kernel.specs.declared.types.Turn.TheVariants.{Proc, Shut}
use Rattle.kernel.specs.Next.{NextIf}
use Rattle.kernel.specs.Runs.{Makes, with_ports}
use Rattle.kernel.specs.State.{State}
use Rattle.kernel.specs.Steps.{MakesStep}
use Rattle.lost_writes.specs.Carried.{Carries, KernelCarries, KernelEndures, Ledger}
use Rattle.lost_writes.specs.Laws.{IsAtRest, RestIsCarried}
use Rattle.lost_writes.specs.Sessions.{CarriesOn, IsCarriedTo, OpeningCarries, SessionCarries, SessionEndures, after_turn}

works : {P : Type 0} (o : Option DeviceFault) → o ≡ None → IfNone o P → P
works None none p = p
works (Some fault) none p = absurd (cc none)

module _ {D N I M H : Type 0} (disk : Ghosts D N) (intake : intake_trait.Ghosts I M) (herald : herald_trait.Ghosts H) where
  -- a fault stays
  fault_before : (p : ℕ) (r : Step) (k m : State D I H) → MakesStep disk intake herald p r k m → m.store.volume.fault ≡ None → (o : Option DeviceFault) → k.store.volume.fault ≡ o → k.store.volume.fault ≡ None
  fault_before p r k m makes still None e = e
  fault_before p r k m makes still (Some fault) e =
      let next : NextIf disk (Some fault) k.store k.world p (intake.side k.intake p).ahead (intake.side m.intake p) (herald.told m.herald) r m.store m.world =
      subst (λ (o : Option DeviceFault). NextIf disk o k.store k.world p (intake.side k.intake p).ahead (intake.side m.intake p) (herald.told m.herald) r m.store m.world) e makes.acts.next in
      sym (ap (λ (s : StoreState D). s.volume.fault) next.1.0) ∙ still

  turn_before : (t : Turn) (k m : State D I H) → Makes disk intake herald t k m → m.store.volume.fault ≡ None → k.store.volume.fault ≡ None
  turn_before (Proc p) k m made still = fault_before p made.0 k m made.1 still k.store.volume.fault refl
  turn_before Shut k m made still = ap (λ (j : State D I H). j.store.volume.fault) (sym made) ∙ still

  works_before : (ts : List Turn) (k m : State D I H) (l n : Ledger) → CarriesOn disk intake herald ts k m l n → m.store.volume.fault ≡ None → k.store.volume.fault ≡ None
  works_before [] k m l n run still = ap (λ (j : State D I H). j.store.volume.fault) (sym run.2) ∙ still
  works_before (t ∷ ts) k m l n run still =
      turn_before t (with_ports k run.1.0 run.1.1) run.0 run.1.2 (works_before ts run.0 m (after_turn disk.image t k l) n run.2 still)

  -- a step that leaves no fault did not halt
  went : (p : ℕ) (r : Step) (k m : State D I H) → MakesStep disk intake herald p r k m → m.store.volume.fault ≡ None → r ≢ Step.Halted
  went p r k m makes still halted = by m.store.volume.fault still (makes.acts.device.halted.0 halted)
    where
      by : (o : Option DeviceFault) → o ≡ None → IsSome o → ⊥
      by None none some = cc some
      by (Some fault) none some = cc none

  module _ (carry : KernelCarries disk intake herald) where
    one_turn : (t : Turn) (k m : State D I H) (l : Ledger) → IsCarriedTo disk k l → Makes disk intake herald t k m → m.store.volume.fault ≡ None → IsCarriedTo disk m (after_turn disk.image t k l)
    one_turn (Proc p) k m l was made still =
        let makes = made.1 in
        record {
          holds = ap disk.holding makes.acts.device.name ∙ was.holds;
          joint = makes.progress.joint;
          carries = carry k m p made.0 l was.holds (went p made.0 k m makes still) (works k.store.volume.fault (turn_before (Proc p) k m made still) was.joint) makes was.carries;
        }
    one_turn Shut k m l was made still = record {
      holds = ap (λ (j : State D I H). disk.holding (disk.name j.store.volume.device)) made ∙ was.holds;
      joint = subst (λ (s : StoreState D). IfNone s.volume.fault (Joint (disk.image s.volume.device) s.volume.buffers s.volume.log)) (ap (λ (j : State D I H). j.store) (sym made)) was.joint;
      carries = subst (λ (s : StoreState D). Carries (disk.image s.volume.device) s.volume.log l) (ap (λ (j : State D I H). j.store) (sym made)) was.carries;
    }

    at_ports : (k : State D I H) (i : I) (h : H) (l : Ledger) → IsCarriedTo disk k l → IsCarriedTo disk (with_ports k i h) l
    at_ports k i h l was = record { holds = was.holds; joint = was.joint; carries = was.carries }

    pub session_carries : SessionCarries disk intake herald
    session_carries [] k m l n was run still =
        subst (λ (o : Ledger). IsCarriedTo disk m o) (sym run.3)
        (subst (λ (j : State D I H). IsCarriedTo disk j l) (sym run.2) (at_ports k run.0 run.1 l was))
    session_carries (t ∷ ts) k m l n was run still =
        let j = with_ports k run.1.0 run.1.1 in
        let there = works_before ts run.0 m (after_turn disk.image t k l) n run.2 still in
        session_carries ts run.0 m (after_turn disk.image t k l) n (one_turn_of t k run.0 run.1.0 run.1.1 l was run.1.2 there) run.2 still
      where
        one_turn_of : (t : Turn) (k mid : State D I H) (i : I) (h : H) (l : Ledger) → IsCarriedTo disk k l → Makes disk intake herald t (with_ports k i h) mid → mid.store.volume.fault ≡ None → IsCarriedTo disk mid (after_turn disk.image t k l)
        one_turn_of (Proc p) k mid i h l was made there = one_turn (Proc p) (with_ports k i h) mid l (at_ports k i h l was) made there
        one_turn_of Shut k mid i h l was made there = one_turn Shut (with_ports k i h) mid l (at_ports k i h l was) made there

    pub session_endures : KernelEndures disk intake herald → SessionEndures disk intake herald
    session_endures endures turns k m l n w was run still known left =
        let now = session_carries turns k m l n was run still in
        endures m n w still known (works m.store.volume.fault still now.joint) now.carries left

  pub opening_carries : RestIsCarried → OpeningCarries disk intake herald
  opening_carries rests d i h processes k z opened holds joint rest = record {
    holds = ap (λ (e : D). disk.holding (disk.name e)) (ap (λ (s : StoreState D). s.volume.device) opened.store) ∙ ap disk.holding opened.name ∙ holds;
    joint = joint;
    carries = subst (λ (s : StoreState D). Carries (disk.image s.volume.device) s.volume.log (record { synced = z; held = [] })) (sym opened.store)
        (rests (disk.image k.opening) z [] (subst (λ (x : Image). IsAtRest x z) (sym opened.opening) rest)).0;
  }
