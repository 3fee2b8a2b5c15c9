use Rattle.std.proofs.Common.{◌≡◌, ℕ, ◌∙◌, sym, ap, arith, length, None, Err}
use Rattle.std.proofs.lemmas.Bool.{false≢true}
use Rattle.blocks.specs.Calls.{OnlyReads}
use Rattle.blocks.specs.declared.disk.Disk.{Ghosts}
use Rattle.model.specs.Layout.{is_lawful_super}
use Rattle.model.specs.Log.{is_lawful_log}
use Rattle.model.specs.Verdict.{verdict}
use Rattle.model.specs.Lemmas.Soundness.{verdict_sound}
use Rattle.wal.specs.Recovery.{RefusesToRecover}
use Rattle.wal.specs.declared.faults.RecoverFault.{RecoverFault}
use Rattle.wal.specs.declared.faults.RecoverFault.TheVariants as recover
use Rattle.kernel.specs.Lemmas.Openings.{lawful_super}
use Rattle.wal.specs.Lemmas.Stops.{from_sync_behind, if_synced_behind}
use Rattle.opening.specs.Recoveries.{IsUnrecovered}
use Rattle.opening.specs.declared.recovering.RecoverRefusal.TheVariants as refusal
use Rattle.opening.proofs.recovering.recover_image.Goals as goal

-- the fault of a recovery that follows a check without one
refused_by : {D N : Type 0} (T : Type 0) (disk : Ghosts D N) (d mid e : D) (fault : RecoverFault) → verdict (disk.image d) ≡ None → OnlyReads disk d mid → disk.fault_count mid ≡ disk.fault_count d → RefusesToRecover {T = T} disk mid e (Err fault)
    → IsUnrecovered disk d e (refusal.Recover fault)
refused_by T disk d mid e recover.Disk none reads same r = (none, let once = r.fault in omega (arith, once, same))
refused_by T disk d mid e recover.BadLog none reads same r = absurd (false≢true (sym r.bad ∙ ap is_lawful_log reads.image ∙ (verdict_sound (disk.image d) none).1))
refused_by T disk d mid e recover.NoMemory none reads same r = (none, ap disk.image r.memory ∙ reads.image)
refused_by T disk d mid e recover.Sync none reads same r = (none, (let once = r.unsynced in omega (arith, once, same), sym (ap disk.holding reads.name) ∙ r.holds))

pub recover-recovered-requires : goal.recover-recovered-requires
recover-recovered-requires g c =
    ap (λ x. is_lawful_super c.in_ok-report.report.sup (length x)) c.check.ensures.reads.image ∙ lawful_super (g.D.Disk.image c.args.disk.now) c.in_ok-report.report.sup c.in_ok-report.ensures.ok c.in_ok-report.ensures.report.sup

pub returns-in-Err-clause-refused : goal.returns-in-Err-clause-refused
returns-in-Err-clause-refused g c =
    refused_by ℕ g.D.Disk c.args.disk.now c.check.new.disk c.recover-recovered.new.disk c.in-Err.fault c.in_ok-report.ensures.ok c.check.ensures.reads c.in_ok-report.ensures.faults c.in-Err.ensures.refused

pub returns-in-Err-clause-stops : goal.returns-in-Err-clause-stops
returns-in-Err-clause-stops g c = if_synced_behind g.D.Disk c.args.disk.now c.check.new.disk c.recover-recovered.new.disk c.check.ensures.reads c.recover-recovered.ensures.stops.leaves

pub returns-in-Ok-clause-stops : goal.returns-in-Ok-clause-stops
returns-in-Ok-clause-stops g c = if_synced_behind g.D.Disk c.args.disk.now c.check.new.disk c.recover-recovered.new.disk c.check.ensures.reads c.recover-recovered.ensures.stops.leaves

pub returns-in-Ok-clause-synced : goal.returns-in-Ok-clause-synced
returns-in-Ok-clause-synced g c = from_sync_behind g.D.Disk c.args.disk.now c.check.new.disk c.recover-recovered.new.disk c.check.ensures.reads c.in-Ok.ensures.synced
