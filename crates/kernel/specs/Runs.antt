-- Runs of turns.
use Rattle.std.specs.Prelude.{◌≡◌, ℕ, nat_lt, Bool, true, length, List, [], ◌∷◌}
use Rattle.blocks.specs.declared.disk.Disk as disk_trait
use Rattle.ports.specs.declared.herald.Herald as herald_trait
use Rattle.ports.specs.declared.intake.Intake as intake_trait
use Rattle.model.specs.declared.types.operations.Step.{Step}
use Rattle.kernel.specs.declared.types.Turn.{Turn}
use Rattle.kernel.specs.declared.types.Turn.TheVariants.{Proc, Shut}
use Rattle.model.specs.Layout.{inode_count_of}
use Rattle.history.specs.Grows.{Grows}
use Rattle.kernel.specs.Progress.{StaysShut}
use Rattle.kernel.specs.State.{State, StopsIn}
use Rattle.kernel.specs.Steps.{MakesStep}

-- a turn of one of so many processes, or the shutdown
abbrev pub is_turn_of : ℕ → Turn → Bool
is_turn_of count (Proc p) = nat_lt p count
is_turn_of count Shut = true

-- no operation begins any more
abbrev pub with_shutdown : {D I H : Type 0} → State D I H → State D I H
with_shutdown k = record k { world = record k.world { is_shut = true } }

-- one turn makes m of k: a step of its process, with some answer, or the shutdown
abbrev pub Makes : {D N I M H : Type 0} → disk_trait.Ghosts D N → intake_trait.Ghosts I M
    → herald_trait.Ghosts H → Turn → State D I H → State D I H → Type 0
Makes disk intake herald (Proc p) k m = (r : Step) × MakesStep disk intake herald p r k m
Makes disk intake herald Shut k m = m ≡ with_shutdown k

-- the turns of a list make m of k, one after the other
abbrev pub Runs : {D N I M H : Type 0} → disk_trait.Ghosts D N → intake_trait.Ghosts I M
    → herald_trait.Ghosts H → List Turn → State D I H → State D I H → Type 0
Runs disk intake herald [] k m = m ≡ k
Runs {D} {N} {I} {M} {H} disk intake herald (t ∷ ts) k m =
    (mid : State D I H) × Makes disk intake herald t k mid × Runs disk intake herald ts mid m

-- other operations may wait, and other answers: anything but a step happened at the ports
abbrev pub with_ports : {D I H : Type 0} → State D I H → I → H → State D I H
with_ports k i h = record k { intake = i; herald = h }

-- one turn makes m of k, with anything at the ports before it
abbrev pub MakesLater : {D N I M H : Type 0} → disk_trait.Ghosts D N → intake_trait.Ghosts I M
    → herald_trait.Ghosts H → Turn → State D I H → State D I H → Type 0
MakesLater {D} {N} {I} {M} {H} disk intake herald t k m =
    (i : I) × (h : H) × Makes disk intake herald t (with_ports k i h) m

-- A SESSION: these turns, one after the other, and anything at the ports before each and at the end
abbrev pub Session : {D N I M H : Type 0} → disk_trait.Ghosts D N → intake_trait.Ghosts I M
    → herald_trait.Ghosts H → List Turn → State D I H → State D I H → Type 0
Session {D} {N} {I} {M} {H} disk intake herald [] k m = (i : I) × (h : H) × (m ≡ with_ports k i h)
Session {D} {N} {I} {M} {H} disk intake herald (t ∷ ts) k m =
    (mid : State D I H) × MakesLater disk intake herald t k mid
    × Session disk intake herald ts mid m

-- What any turns keep of a kernel: no group that was committed is lost, also by a stop at any
-- moment.
pub record RunsOn {D N I H : Type 0} (disk : disk_trait.Ghosts D N)
    (k m : State D I H) : Type 0 where
  pub opening : m.opening ≡ k.opening
  pub many : length m.world.processes ≡ length k.world.processes
  pub shut : k.world.is_shut ≡ true → StaysShut k.world m.world
  pub grows : Grows
      (inode_count_of (disk.image k.opening)) k.store.volume k.world.journal.list m.store.volume
      m.world.journal.list
  pub stop : StopsIn disk k m
