-- What a stop leaves where no kernel was opened.
use Rattle.std.proofs.Common.{◌≡◌, ℕ, sym, ap, subst, ⊎_elim}
use Rattle.blocks.specs.declared.disk.Disk.{Ghosts}
use Rattle.kernel.specs.Opening.{LeavesRecovered}
use Rattle.kernel.specs.declared.types.OpenFault.{OpenFault}
use Rattle.opening.specs.Lemmas.Stopping.{unopened_leaves}
use Rattle.opening.specs.Openings.{IsNotOpened}

module _ {D N : Type 0} (disk : Ghosts D N) (processes : ℕ) (d e : D) where
  -- of a disk over which none was, and which disk it is
  pub not_opened_leaves : (fault : OpenFault) → IsNotOpened disk processes d e fault
      → LeavesRecovered disk d e
  not_opened_leaves fault why = ⊎_elim
      (λ refused. subst (LeavesRecovered disk d) (sym refused.1) (unopened_leaves disk d))
      (λ refuses. refuses.leaves) why

  pub not_opened_name : (fault : OpenFault) → IsNotOpened disk processes d e fault
      → disk.name e ≡ disk.name d
  not_opened_name fault why =
      ⊎_elim (λ refused. ap disk.name refused.1) (λ refuses. refuses.name) why
