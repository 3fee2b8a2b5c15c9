-- Runs of turns.
use Rattle.std.proofs.Common.{List, [], ◌∷◌, ◌++◌, refl, subst}
use Rattle.kernel.specs.Common.{Makes, Runs, State, Turn}
use Rattle.blocks.specs.declared.disk.Disk as disk_trait
use Rattle.ports.specs.declared.herald.Herald as herald_trait
use Rattle.ports.specs.declared.intake.Intake as intake_trait

module _ {D N I M H : Type 0} (disk : disk_trait.Ghosts D N) (intake : intake_trait.Ghosts I M) (herald : herald_trait.Ghosts H) where
  -- one turn more at the end
  pub runs_more : (ts : List Turn) (t : Turn) (k m n : State D I H) → Runs disk intake herald ts k m → Makes disk intake herald t m n → Runs disk intake herald (ts ++ t ∷ []) k n
  runs_more [] t k m n is made = (n, subst (λ (o : State D I H). Makes disk intake herald t o n) is made, refl)
  runs_more (u ∷ ts) t k m n is made = (is.0, is.1, runs_more ts t is.0 m n is.2 made)
