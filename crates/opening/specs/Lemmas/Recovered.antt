-- An image that was recovered, checked again.
use Rattle.std.proofs.Common.{◌≡◌, ◌∙◌, None, sym, subst, ap}
use Rattle.blocks.specs.Disk.{Image, counted}
use Rattle.blocks.specs.declared.disk.Disk.{Ghosts}
use Rattle.model.specs.Log.{logged_count, recovered}
use Rattle.model.specs.Soundness.{IsSound}
use Rattle.model.specs.Verdict.{verdict}
use Rattle.model.specs.Lemmas.Log.{recovered_empty}
use Rattle.model.specs.Lemmas.Soundness.{sound_verdict, verdict_sound}
use Rattle.wal.specs.Lemmas.Commits.{empty_lawful}
use Rattle.wal.specs.Recovery.{writes_to_recover}
use Rattle.opening.specs.Recoveries.{IsRecovered}

-- what was recovered has no fault
pub recovered_verdict : (x : Image) → verdict x ≡ None → verdict (recovered x) ≡ None
recovered_verdict x none =
    let sound = (verdict_sound x none).2 in
    sound_verdict (recovered x) (
      sound.geometry,
      empty_lawful (recovered x) sound.empty_log,
      subst IsSound (sym (recovered_empty (recovered x) sound.empty_log)) sound,
    )

module _ {D N : Type 0} (disk : Ghosts D N) (d e : D)
    (is : IsRecovered disk (logged_count (disk.image d)) d e) where
  -- nor has the disk
  pub recovered_sound : verdict (disk.image e) ≡ None
  recovered_sound = ap verdict is.image ∙ recovered_verdict (disk.image d) is.sound

  -- and recovery leaves it so
  pub recovered_again : recovered (disk.image e) ≡ recovered (disk.image d)
  recovered_again = recovered_empty (disk.image e) is.none ∙ is.image

  -- where nothing was logged, nothing was written
  pub recovered_unwritten : logged_count (disk.image d) ≡ 0
      → (disk.image e ≡ disk.image d) × (disk.write_count e ≡ disk.write_count d)
  recovered_unwritten none = (
    is.image ∙ recovered_empty (disk.image d) none,
    is.writes ∙ ap (λ n. counted (disk.write_count d) (writes_to_recover n)) none,
  )
