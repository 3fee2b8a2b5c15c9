use Rattle.std.proofs.Common.{subst}
use Rattle.wal.specs.Common.{VolumeCommits, VolumeState}
use Rattle.wal.proofs.BlocksLemmas.{step_unsynced, whole_stepped}
use Rattle.wal.proofs.HeldLemmas.{leaves_stepped}
use Rattle.wal.proofs.VolumeLemmas.{floats_at, joint_here, blocks_here, step_current}
use Rattle.wal.proofs.volume.Volume.commit_step.Goals as goal

pub commit_step-answer-requires-clause-floats : goal.commit_step-answer-requires-clause-floats
commit_step-answer-requires-clause-floats g c = (floats_at g.D.Disk _ _ c.self.view_is c.requires.fault c.self.invariant).each

pub returns : goal.returns
returns g c =
    let step = c.commit_step-answer in
    let e = step.ensures.step in
    let s = c.self.inside in
    let old : VolumeState _ = record { device = s.disk; buffers = s.cache; log = s.log; fault = s.fault } in
    let new : VolumeState _ = record { device = step.new.disk; buffers = step.new.cache; log = step.new.self; fault = c.fault_of-self-inside.result } in
    let promise : VolumeCommits g.D.Disk old step.result new = record {
      write = e;
      fault = c.fault_of-self-inside.ensures;
      current = step_current g.D.Disk s.disk s.cache s.log step.result step.new.disk step.new.cache step.new.self (joint_here g.D.Disk _ _ c.self.view_is c.requires.fault c.self.invariant) e;
      locks = leaves_stepped g.D.Disk s.disk s.cache s.log step.result step.new.disk step.new.cache step.new.self e;
      unsynced = step_unsynced g.D.Disk s.disk s.cache s.log step.result step.new.disk step.new.cache step.new.self (blocks_here g.D.Disk _ _ c.self.view_is c.requires.fault c.self.invariant) (floats_at g.D.Disk _ _ c.self.view_is c.requires.fault c.self.invariant).plain e;
    } in
    record { commits = subst (λ (k : VolumeState _). VolumeCommits g.D.Disk k step.result new) c.self.view_is promise }

pub invariant_of-self : goal.invariant_of-self
invariant_of-self g c =
    let step = c.commit_step-answer in
    let s = c.self.inside in
    whole_stepped g.D.Disk s.disk s.cache s.log step.result step.new.disk step.new.cache step.new.self (blocks_here g.D.Disk _ _ c.self.view_is c.requires.fault c.self.invariant) (floats_at g.D.Disk _ _ c.self.view_is c.requires.fault c.self.invariant).plain _ c.fault_of-self-inside.ensures step.ensures.step
