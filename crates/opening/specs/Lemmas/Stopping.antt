-- What a stop leaves of an opening, and of another behind it.
use Rattle.std.proofs.Common.{◌≡◌, ◌∙◌, None, sym, ap}
use Rattle.blocks.specs.Disk.{Image, LeavesOnly}
use Rattle.blocks.specs.Lemmas.Reads.{reads_none}
use Rattle.blocks.specs.declared.disk.Disk.{Ghosts}
use Rattle.model.specs.Lemmas.Recovery.{logged_count-left, recovers_once}
use Rattle.model.specs.Lemmas.Soundness.{verdict_sound}
use Rattle.model.specs.Log.{is_lawful_log, recovered}
use Rattle.model.specs.Verdict.{verdict}
use Rattle.wal.specs.Lemmas.Commits.{empty_lawful}
use Rattle.wal.specs.Lemmas.Stops.{only_wider, read_if_synced, run_leaves}
use Rattle.wal.specs.Recovery.{IsCalm, LeavesFromSync, LeavesIfCalm, RecoversAs}
use Rattle.kernel.specs.Opening.{LeavesRecovered}

-- what is recovered as the recovered image is recovered as the image before
pub recovers_before : (x y z : Image) → verdict x ≡ None → y ≡ recovered x → RecoversAs y z
    → RecoversAs x z
recovers_before x y z sound is alike = record {
  image = alike.image ∙ ap recovered is ∙ recovers_once x;
  lawful = alike.lawful ∙ ap is_lawful_log is
      ∙ empty_lawful (recovered x) (logged_count-left x) ∙ sym (verdict_sound x sound).1;
}

module _ {D N : Type 0} (disk : Ghosts D N) where
  -- of a disk with which nothing was done
  pub unopened_leaves : (d : D) → LeavesRecovered disk d d
  unopened_leaves d = read_if_synced disk d d (reads_none disk d)

  -- of one that was recovered, so that nothing is held, and then again, or not
  pub leaves_again : (d mid e : D) → verdict (disk.image d) ≡ None
      → disk.image mid ≡ recovered (disk.image d) → IsCalm disk mid
      → LeavesFromSync disk d mid (RecoversAs (disk.image d))
      → LeavesIfCalm disk mid e (RecoversAs (disk.image mid))
      → LeavesFromSync disk d e (RecoversAs (disk.image d))
  leaves_again d mid e sound is calm first again =
      let P : Image → Type 0 = RecoversAs (disk.image d) in
      let then_on : LeavesOnly disk.moment disk.leaves mid e P =
      only_wider disk mid e (RecoversAs (disk.image mid)) P
      (λ x. recovers_before (disk.image d) (disk.image mid) x sound is) (again calm) in
      run_leaves disk d mid e P P (λ x same. same) first then_on
