use Rattle.std.proofs.Common.{Bool, subst, sym}
use Rattle.std.specs.Prelude.{◌≡◌, not}
use Rattle.cmd.specs.Lemmas.Disks.{file_disk}
use Rattle.commands_changes.specs.Conversions.{HasConverted, OnConvertRefusal}
use Rattle.commands_changes.specs.Copies.{HasCopied, OnCopyRefusal}
use Rattle.commands_changes.specs.Making.{IsMade}
use Rattle.commands_changes.specs.Rescues.{HasRescued, OnRescueRefusal}
use Rattle.commands_changes.specs.declared.refused.CopyRefusal.{CopyRefusal}
use Rattle.xvfs.specs.Requests.{Answers, OnRefused}
use Rattle.xvfs.proofs.Disks.{seen_by}
use Rattle.xvfs.proofs.Dispatch.{was_done, was_refused}
use Rattle.xvfs.proofs.command.dispatch.Goals as goal

pub returns-in-Mkfs-clause-done : goal.returns-in-Mkfs-clause-done
returns-in-Mkfs-clause-done g c =
    let file = seen_by g.R.File.Read.remaining g.R.File.Write.contents in
    λ done. subst (λ request. Answers file request (g.O.Write.contents c.args.out.now) (g.O.Write.contents c.perform_alone.new.out)) (sym c.in-Mkfs.is) (subst (λ form. IsMade file.disk form c.in-Mkfs.size c.in-Mkfs.ninodes (not c.in-Mkfs.no_sync) (g.O.Write.contents c.args.out.now) (g.O.Write.contents c.perform_alone.new.out)) c.form_asked.ensures (c.perform_alone.ensures.done done))

pub returns-in-Mkfs-clause-refused : goal.returns-in-Mkfs-clause-refused
returns-in-Mkfs-clause-refused g c =
    λ refused. subst (λ request. OnRefused (seen_by g.R.File.Read.remaining g.R.File.Write.contents) request (g.O.Write.contents c.args.out.now) (g.O.Write.contents c.perform_alone.new.out) (c.perform_alone.new.out ≡ c.args.out.now)) (sym c.in-Mkfs.is) (c.perform_alone.ensures.refused refused)

pub returns-in-Recover-clause-done : goal.returns-in-Recover-clause-done
returns-in-Recover-clause-done g c =
    λ done. subst (λ request. Answers (seen_by g.R.File.Read.remaining g.R.File.Write.contents) request (g.O.Write.contents c.args.out.now) (g.O.Write.contents c.perform_alone-in-Recover.new.out)) (sym c.in-Recover.is) (c.perform_alone-in-Recover.ensures.done done)

pub returns-in-Recover-clause-refused : goal.returns-in-Recover-clause-refused
returns-in-Recover-clause-refused g c =
    λ refused. subst (λ request. OnRefused (seen_by g.R.File.Read.remaining g.R.File.Write.contents) request (g.O.Write.contents c.args.out.now) (g.O.Write.contents c.perform_alone-in-Recover.new.out) (c.perform_alone-in-Recover.new.out ≡ c.args.out.now)) (sym c.in-Recover.is) (c.perform_alone-in-Recover.ensures.refused refused)

pub returns-in-Put-clause-done : goal.returns-in-Put-clause-done
returns-in-Put-clause-done g c =
    let file = seen_by g.R.File.Read.remaining g.R.File.Write.contents in
    λ done. subst (λ request. Answers file request (g.O.Write.contents c.args.out.now) (g.O.Write.contents c.perform_alone-in-Put.new.out)) (sym c.in-Put.is) (c.perform_alone-in-Put.ensures.done done)

pub returns-in-Put-clause-refused : goal.returns-in-Put-clause-refused
returns-in-Put-clause-refused g c =
    λ refused. subst (λ request. OnRefused (seen_by g.R.File.Read.remaining g.R.File.Write.contents) request (g.O.Write.contents c.args.out.now) (g.O.Write.contents c.perform_alone-in-Put.new.out) (c.perform_alone-in-Put.new.out ≡ c.args.out.now)) (sym c.in-Put.is) (c.perform_alone-in-Put.ensures.refused refused)

pub returns-in-Copy-clause-done : goal.returns-in-Copy-clause-done
returns-in-Copy-clause-done g c =
    let file = seen_by g.R.File.Read.remaining g.R.File.Write.contents in
    λ done. subst (λ request. Answers file request (g.O.Write.contents c.args.out.now) (g.O.Write.contents c.perform_alone-in-Copy.new.out)) (sym c.in-Copy.is)
    (subst (λ (sync : Bool). HasCopied g.R.File.Read.remaining file_disk c.in-Copy.size sync (g.O.Write.contents c.args.out.now) (g.O.Write.contents c.perform_alone-in-Copy.new.out)) c.target_at-target.ensures (c.perform_alone-in-Copy.ensures.done done))

pub returns-in-Copy-clause-refused : goal.returns-in-Copy-clause-refused
returns-in-Copy-clause-refused g c =
    λ refused. subst (λ request. OnRefused (seen_by g.R.File.Read.remaining g.R.File.Write.contents) request (g.O.Write.contents c.args.out.now) (g.O.Write.contents c.perform_alone-in-Copy.new.out) (c.perform_alone-in-Copy.new.out ≡ c.args.out.now)) (sym c.in-Copy.is)
    (subst (λ (sync : Bool). (x : CopyRefusal) × OnCopyRefusal g.R.File.Read.remaining file_disk c.in-Copy.size sync (c.perform_alone-in-Copy.new.out ≡ c.args.out.now) x) c.target_at-target.ensures (c.perform_alone-in-Copy.ensures.refused refused))

pub returns-in-Convert-clause-done : goal.returns-in-Convert-clause-done
returns-in-Convert-clause-done g c =
    let file = seen_by g.R.File.Read.remaining g.R.File.Write.contents in
    λ done. subst (λ request. Answers file request (g.O.Write.contents c.args.out.now) (g.O.Write.contents c.perform_alone-in-Convert.new.out)) (sym c.in-Convert.is)
    (subst (λ (sync : Bool). HasConverted g.R.File.Read.remaining file_disk c.in-Convert.log c.in-Convert.size sync (g.O.Write.contents c.args.out.now) (g.O.Write.contents c.perform_alone-in-Convert.new.out)) c.target_at-target-in-Convert.ensures (c.perform_alone-in-Convert.ensures.done done))

pub returns-in-Convert-clause-refused : goal.returns-in-Convert-clause-refused
returns-in-Convert-clause-refused g c =
    λ refused. subst (λ request. OnRefused (seen_by g.R.File.Read.remaining g.R.File.Write.contents) request (g.O.Write.contents c.args.out.now) (g.O.Write.contents c.perform_alone-in-Convert.new.out) (c.perform_alone-in-Convert.new.out ≡ c.args.out.now)) (sym c.in-Convert.is)
    (subst (λ (sync : Bool). (x : CopyRefusal) × OnConvertRefusal g.R.File.Read.remaining file_disk c.in-Convert.log c.in-Convert.size sync (c.perform_alone-in-Convert.new.out ≡ c.args.out.now) x) c.target_at-target-in-Convert.ensures (c.perform_alone-in-Convert.ensures.refused refused))

pub returns-in-Rescue-clause-done : goal.returns-in-Rescue-clause-done
returns-in-Rescue-clause-done g c =
    let file = seen_by g.R.File.Read.remaining g.R.File.Write.contents in
    λ done. subst (λ request. Answers file request (g.O.Write.contents c.args.out.now) (g.O.Write.contents c.perform_alone-in-Rescue.new.out)) (sym c.in-Rescue.is)
    (subst (λ (sync : Bool). HasRescued g.R.File.Read.remaining file_disk sync (g.O.Write.contents c.args.out.now) (g.O.Write.contents c.perform_alone-in-Rescue.new.out)) c.target_at-target-in-Rescue.ensures (c.perform_alone-in-Rescue.ensures.done done))

pub returns-in-Rescue-clause-refused : goal.returns-in-Rescue-clause-refused
returns-in-Rescue-clause-refused g c =
    λ refused. subst (λ request. OnRefused (seen_by g.R.File.Read.remaining g.R.File.Write.contents) request (g.O.Write.contents c.args.out.now) (g.O.Write.contents c.perform_alone-in-Rescue.new.out) (c.perform_alone-in-Rescue.new.out ≡ c.args.out.now)) (sym c.in-Rescue.is)
    (subst (λ (sync : Bool). (x : CopyRefusal) × OnRescueRefusal g.R.File.Read.remaining file_disk sync (c.perform_alone-in-Rescue.new.out ≡ c.args.out.now) x) c.target_at-target-in-Rescue.ensures (c.perform_alone-in-Rescue.ensures.refused refused))

pub returns-in-Replay-clause-done : goal.returns-in-Replay-clause-done
returns-in-Replay-clause-done g c =
    λ done. subst (λ request. Answers (seen_by g.R.File.Read.remaining g.R.File.Write.contents) request (g.O.Write.contents c.args.out.now) (g.O.Write.contents c.replay_into.new.out)) (sym c.in-Replay.is) (was_done c.replay_into.result _ c.replay_into.ensures.done (c.end.ensures.done done))

pub returns-in-Replay-clause-refused : goal.returns-in-Replay-clause-refused
returns-in-Replay-clause-refused g c =
    λ refused. subst (λ request. OnRefused (seen_by g.R.File.Read.remaining g.R.File.Write.contents) request (g.O.Write.contents c.args.out.now) (g.O.Write.contents c.replay_into.new.out) (c.replay_into.new.out ≡ c.args.out.now)) (sym c.in-Replay.is) (was_refused c.replay_into.result _ c.replay_into.ensures.refused (c.end.ensures.refused refused))

pub returns-in-ReplayJson-clause-done : goal.returns-in-ReplayJson-clause-done
returns-in-ReplayJson-clause-done g c =
    λ done. subst (λ request. Answers (seen_by g.R.File.Read.remaining g.R.File.Write.contents) request (g.O.Write.contents c.args.out.now) (g.O.Write.contents c.replay_json.new.out)) (sym c.in-ReplayJson.is) (was_done c.replay_json.result _ c.replay_json.ensures.opened (c.end-in-ReplayJson.ensures.done done))

pub returns-in-ReplayJson-clause-refused : goal.returns-in-ReplayJson-clause-refused
returns-in-ReplayJson-clause-refused g c =
    λ refused. subst (λ request. OnRefused (seen_by g.R.File.Read.remaining g.R.File.Write.contents) request (g.O.Write.contents c.args.out.now) (g.O.Write.contents c.replay_json.new.out) (c.replay_json.new.out ≡ c.args.out.now)) (sym c.in-ReplayJson.is) (was_refused c.replay_json.result _ c.replay_json.ensures.refused (c.end-in-ReplayJson.ensures.refused refused))

pub returns-in-Run-clause-done : goal.returns-in-Run-clause-done
returns-in-Run-clause-done g c =
    λ done. subst (λ request. Answers (seen_by g.R.File.Read.remaining g.R.File.Write.contents) request (g.O.Write.contents c.args.out.now) (g.O.Write.contents c.run_files.new.out)) (sym c.in-Run.is) (was_done c.run_files.result _ c.run_files.ensures.opened (c.end-in-Run.ensures.done done))

pub returns-in-Run-clause-refused : goal.returns-in-Run-clause-refused
returns-in-Run-clause-refused g c =
    λ refused. subst (λ request. OnRefused (seen_by g.R.File.Read.remaining g.R.File.Write.contents) request (g.O.Write.contents c.args.out.now) (g.O.Write.contents c.run_files.new.out) (c.run_files.new.out ≡ c.args.out.now)) (sym c.in-Run.is) (was_refused c.run_files.result _ c.run_files.ensures.refused (c.end-in-Run.ensures.refused refused))

pub returns-in-Stops-clause-done : goal.returns-in-Stops-clause-done
returns-in-Stops-clause-done g c =
    λ done. subst (λ request. Answers (seen_by g.R.File.Read.remaining g.R.File.Write.contents) request (g.O.Write.contents c.args.out.now) (g.O.Write.contents c.stops_into.new.out)) (sym c.in-Stops.is) (was_done c.stops_into.result _ c.stops_into.ensures.checked (c.end_stops.ensures.done done))

pub returns-in-Stops-clause-refused : goal.returns-in-Stops-clause-refused
returns-in-Stops-clause-refused g c =
    λ refused. subst (λ request. OnRefused (seen_by g.R.File.Read.remaining g.R.File.Write.contents) request (g.O.Write.contents c.args.out.now) (g.O.Write.contents c.stops_into.new.out) (c.stops_into.new.out ≡ c.args.out.now)) (sym c.in-Stops.is) (was_refused c.stops_into.result _ c.stops_into.ensures.refused (c.end_stops.ensures.refused refused))

pub returns-in-Cat-clause-done : goal.returns-in-Cat-clause-done
returns-in-Cat-clause-done g c =
    λ done. subst (λ request. Answers (seen_by g.R.File.Read.remaining g.R.File.Write.contents) request (g.O.Write.contents c.args.out.now) (g.O.Write.contents c.perform_alone-in-Cat.new.out)) (sym c.in-Cat.is) (c.perform_alone-in-Cat.ensures.done done)

pub returns-in-Cat-clause-refused : goal.returns-in-Cat-clause-refused
returns-in-Cat-clause-refused g c =
    λ refused. subst (λ request. OnRefused (seen_by g.R.File.Read.remaining g.R.File.Write.contents) request (g.O.Write.contents c.args.out.now) (g.O.Write.contents c.perform_alone-in-Cat.new.out) (c.perform_alone-in-Cat.new.out ≡ c.args.out.now)) (sym c.in-Cat.is) (c.perform_alone-in-Cat.ensures.refused refused)

pub returns-in-Show-clause-done : goal.returns-in-Show-clause-done
returns-in-Show-clause-done g c =
    λ done. subst (λ request. Answers (seen_by g.R.File.Read.remaining g.R.File.Write.contents) request (g.O.Write.contents c.args.out.now) (g.O.Write.contents c.perform_alone-in-Show.new.out)) (sym c.in-Show.is) (c.perform_alone-in-Show.ensures.done done)

pub returns-in-Show-clause-refused : goal.returns-in-Show-clause-refused
returns-in-Show-clause-refused g c =
    λ refused. subst (λ request. OnRefused (seen_by g.R.File.Read.remaining g.R.File.Write.contents) request (g.O.Write.contents c.args.out.now) (g.O.Write.contents c.perform_alone-in-Show.new.out) (c.perform_alone-in-Show.new.out ≡ c.args.out.now)) (sym c.in-Show.is) (c.perform_alone-in-Show.ensures.refused refused)

pub returns-in-ShowLog-clause-done : goal.returns-in-ShowLog-clause-done
returns-in-ShowLog-clause-done g c =
    λ done. subst (λ request. Answers (seen_by g.R.File.Read.remaining g.R.File.Write.contents) request (g.O.Write.contents c.args.out.now) (g.O.Write.contents c.perform_alone-in-ShowLog.new.out)) (sym c.in-ShowLog.is) (c.perform_alone-in-ShowLog.ensures.done done)

pub returns-in-ShowLog-clause-refused : goal.returns-in-ShowLog-clause-refused
returns-in-ShowLog-clause-refused g c =
    λ refused. subst (λ request. OnRefused (seen_by g.R.File.Read.remaining g.R.File.Write.contents) request (g.O.Write.contents c.args.out.now) (g.O.Write.contents c.perform_alone-in-ShowLog.new.out) (c.perform_alone-in-ShowLog.new.out ≡ c.args.out.now)) (sym c.in-ShowLog.is) (c.perform_alone-in-ShowLog.ensures.refused refused)

pub returns-in-Check-clause-done : goal.returns-in-Check-clause-done
returns-in-Check-clause-done g c =
    λ done. subst (λ request. Answers (seen_by g.R.File.Read.remaining g.R.File.Write.contents) request (g.O.Write.contents c.args.out.now) (g.O.Write.contents c.perform_alone-in-Check.new.out)) (sym c.in-Check.is) (c.perform_alone-in-Check.ensures.done done)

pub returns-in-Check-clause-refused : goal.returns-in-Check-clause-refused
returns-in-Check-clause-refused g c =
    λ refused. subst (λ request. OnRefused (seen_by g.R.File.Read.remaining g.R.File.Write.contents) request (g.O.Write.contents c.args.out.now) (g.O.Write.contents c.perform_alone-in-Check.new.out) (c.perform_alone-in-Check.new.out ≡ c.args.out.now)) (sym c.in-Check.is) (c.perform_alone-in-Check.ensures.refused refused)

pub returns-in-ShowPicture-clause-done : goal.returns-in-ShowPicture-clause-done
returns-in-ShowPicture-clause-done g c =
    λ done. subst (λ request. Answers (seen_by g.R.File.Read.remaining g.R.File.Write.contents) request (g.O.Write.contents c.args.out.now) (g.O.Write.contents c.perform_alone-in-ShowPicture.new.out)) (sym c.in-ShowPicture.is) (c.perform_alone-in-ShowPicture.ensures.done done)

pub returns-in-ShowPicture-clause-refused : goal.returns-in-ShowPicture-clause-refused
returns-in-ShowPicture-clause-refused g c =
    λ refused. subst (λ request. OnRefused (seen_by g.R.File.Read.remaining g.R.File.Write.contents) request (g.O.Write.contents c.args.out.now) (g.O.Write.contents c.perform_alone-in-ShowPicture.new.out) (c.perform_alone-in-ShowPicture.new.out ≡ c.args.out.now)) (sym c.in-ShowPicture.is) (c.perform_alone-in-ShowPicture.ensures.refused refused)

pub returns-in-Ls-clause-done : goal.returns-in-Ls-clause-done
returns-in-Ls-clause-done g c =
    λ done. subst (λ request. Answers (seen_by g.R.File.Read.remaining g.R.File.Write.contents) request (g.O.Write.contents c.args.out.now) (g.O.Write.contents c.perform_alone-in-Ls.new.out)) (sym c.in-Ls.is) (c.perform_alone-in-Ls.ensures.done done)

pub returns-in-Df-clause-done : goal.returns-in-Df-clause-done
returns-in-Df-clause-done g c =
    λ done. subst (λ request. Answers (seen_by g.R.File.Read.remaining g.R.File.Write.contents) request (g.O.Write.contents c.args.out.now) (g.O.Write.contents c.perform_alone-in-Df.new.out)) (sym c.in-Df.is) (c.perform_alone-in-Df.ensures.done done)
