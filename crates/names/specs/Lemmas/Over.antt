-- A kernel over the same disk, as it was opened.
use Rattle.std.proofs.Common.{◌≡◌, ap, ◌∙◌}
use Rattle.blocks.specs.declared.disk.Disk.{Ghosts}
use Rattle.calls.specs.Stepping.{Plain}
use Rattle.calls.specs.Stopped.{StaysOver}
use Rattle.model.specs.Layout.{form_of}
use Rattle.names.specs.Inside.{form_seen}

module _ {D N : Type 0} (disk : Ghosts D N) where
  -- its image has the same form
  pub form_stays : (k m : Plain D) → StaysOver disk k m → form_seen disk.image m ≡ form_seen disk.image k
  form_stays k m stays = ap (λ (o : D). form_of (disk.image o)) stays.opening

  pub over_on : (k m e : Plain D) → StaysOver disk k m → StaysOver disk m e → StaysOver disk k e
  over_on k m e first then_on = record { opening = then_on.opening ∙ first.opening; name = then_on.name ∙ first.name }
