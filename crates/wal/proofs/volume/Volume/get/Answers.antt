use Rattle.std.proofs.Common.{◌≡◌, ◌∙◌, ℕ, refl, subst, rules, true, false}
use Rattle.std.specs.Prelude.{Result, Ok, Err}
use Rattle.wal.specs.Common.{fill_answer, LeavesLocks, LocksAfter, seen, UnlessFault, WaitsFor}
use Rattle.blocks.specs.declared.errors.DiskFault.{DiskFault}
use Rattle.wal.proofs.BlocksLemmas.{blocks_acquired}
use Rattle.wal.proofs.HeldLemmas.{gets_acquired, gets_filled, waits_acquired}
use Rattle.wal.specs.Get as get
use Rattle.wal.proofs.StepLemmas.{joint_acquired}
use Rattle.wal.proofs.VolumeLemmas.{filled_holds, floats_at, if_whole, joint_here, blocks_here, seen_acquired}
use Rattle.wal.specs.Lemmas.Volume.{acquired_now, holds_now}
use Rattle.wal.proofs.volume.Volume.get.Goals as goal

pub invariant_of-self-in-Got-default-true : goal.invariant_of-self-in-Got-default-true
invariant_of-self-in-Got-default-true g c =
    let joint = joint_here g.D.Disk _ _ c.self.view_is c.requires.fault c.self.invariant in
    if_whole _ (joint_acquired _ _ c.args.pid c.args.block joint c.requires.behind (search rules) c.acquire.ensures.cache)
    (blocks_acquired _ _ c.args.pid c.args.block joint.cache (blocks_here g.D.Disk _ _ c.self.view_is c.requires.fault c.self.invariant) c.acquire.ensures.cache)
    (floats_at g.D.Disk _ _ c.self.view_is c.requires.fault c.self.invariant)

pub invariant_of-self-in-Got-default-false : goal.invariant_of-self-in-Got-default-false
invariant_of-self-in-Got-default-false g c =
    let joint = joint_here g.D.Disk _ _ c.self.view_is c.requires.fault c.self.invariant in
    if_whole _ (joint_acquired _ _ c.args.pid c.args.block joint c.requires.behind (search rules) c.acquire.ensures.cache)
    (blocks_acquired _ _ c.args.pid c.args.block joint.cache (blocks_here g.D.Disk _ _ c.self.view_is c.requires.fault c.self.invariant) c.acquire.ensures.cache)
    (floats_at g.D.Disk _ _ c.self.view_is c.requires.fault c.self.invariant)

pub fill-requires-clause-lacks : goal.fill-requires-clause-lacks
fill-requires-clause-lacks g c =
    let arm = c.in-Got-default-false in
    let joint = joint_here g.D.Disk _ _ c.self.view_is c.requires.fault c.self.invariant in
    let has = acquired_now c.self.inside.cache c.acquire.new.self c.args.pid c.args.block arm.got false arm.valid joint.cache arm.ensures.answer arm.valid-test c.acquire.ensures.cache in
    record { slot = has.slot; block = has.block; valid = has.valid }

pub returns-in-Got-default-true : goal.returns-in-Got-default-true
returns-in-Got-default-true g c =
    let arm = c.in-Got-default-true in
    let x = g.D.Disk.image c.self.inside.disk in
    let joint = joint_here g.D.Disk _ _ c.self.view_is c.requires.fault c.self.invariant in
    let has = acquired_now c.self.inside.cache c.acquire.new.self c.args.pid c.args.block arm.got true arm.valid joint.cache arm.ensures.answer arm.valid-test c.acquire.ensures.cache in
    record {
      answer = get.Got arm.got;
      gives = search rules;
      slot = search rules;
      gets = record {
        answer = search rules;
        buffers = search rules;
        got = holds_now c.acquire.new.self c.args.pid c.args.block arm.got (joint_acquired c.self.inside.cache c.acquire.new.self c.args.pid c.args.block joint c.requires.behind (search rules) c.acquire.ensures.cache) has.slot has.holder has.block has.valid;
        sleeping = tt;
        failed = tt;
      };
      reads = record {
        fault = search rules;
        log = search rules;
        current = subst (λ s. seen x c.acquire.new.self ≡ seen (g.D.Disk.image s.device) s.buffers) c.self.view_is
            (seen_acquired c.self.inside.cache c.acquire.new.self c.args.pid c.args.block joint c.acquire.ensures.cache);
        device = search rules;
        faults = search rules;
      };
      locks = subst (λ s. LocksAfter (get.Got arm.got) s.buffers c.acquire.new.self c.args.pid c.args.block) c.self.view_is
          (gets_acquired c.self.inside.cache c.acquire.new.self c.args.pid c.args.block arm.got arm.valid joint.cache arm.ensures.answer c.acquire.ensures.cache has);
    }

-- the answer names the slot that was got
names : (i : ℕ) (r : Result (Unit {0}) DiskFault) → UnlessFault (fill_answer i r) (fill_answer i r ≡ get.Got i)
names i (Ok done) = refl
names i (Err fault) = tt

pub returns-in-Got-default-false : goal.returns-in-Got-default-false
returns-in-Got-default-false g c =
    let arm = c.in-Got-default-false in
    let x = g.D.Disk.image c.self.inside.disk in
    let r = fill_answer arm.got c.fill.result in
    let joint = joint_here g.D.Disk _ _ c.self.view_is c.requires.fault c.self.invariant in
    let joint' = joint_acquired c.self.inside.cache c.acquire.new.self c.args.pid c.args.block joint c.requires.behind (search rules) c.acquire.ensures.cache in
    let has = acquired_now c.self.inside.cache c.acquire.new.self c.args.pid c.args.block arm.got false arm.valid joint.cache arm.ensures.answer arm.valid-test c.acquire.ensures.cache in
    record {
      answer = r;
      gives = search rules;
      slot = search rules;
      gets = record {
        answer = search rules;
        buffers = search rules;
        got = filled_holds c.acquire.new.self c.fill.new.self.buffers c.args.pid c.args.block arm.got r joint' has (names arm.got c.fill.result) c.fill.ensures.buffers c.fill.ensures.reads.device.image;
        sleeping = search rules;
        failed = search rules;
      };
      reads = record {
        fault = search rules;
        log = search rules;
        current = subst (λ s. seen (g.D.Disk.image c.fill.new.self.device) c.fill.new.self.buffers ≡ seen (g.D.Disk.image s.device) s.buffers) c.self.view_is
            (c.fill.ensures.reads.current ∙ seen_acquired c.self.inside.cache c.acquire.new.self c.args.pid c.args.block joint c.acquire.ensures.cache);
        device = search rules;
        faults = search rules;
      };
      locks = subst (λ s. LocksAfter r s.buffers c.fill.new.self.buffers c.args.pid c.args.block) c.self.view_is
          (gets_filled x c.self.inside.cache c.acquire.new.self c.fill.new.self.buffers c.args.pid c.args.block arm.got arm.valid r joint.cache joint'.cache
          arm.ensures.answer c.acquire.ensures.cache has (names arm.got c.fill.result) c.fill.ensures.buffers c.fill.ensures.failed);
    }

pub returns-in-Sleeping : goal.returns-in-Sleeping
returns-in-Sleeping g c =
    let arm = c.in-Sleeping in
    record {
      answer = get.Sleeping c.why.result;
      gives = refl;
      slot = c.requires.none;
      gets = record {
        answer = search rules;
        buffers = search rules;
        got = tt;
        sleeping = search rules;
        failed = tt;
      };
      reads = record {
        fault = search rules;
        log = search rules;
        current = search rules;
        device = search rules;
        faults = search rules;
      };
      locks = subst (λ s. WaitsFor c.why.result s.buffers c.args.block × LeavesLocks s.buffers c.acquire.new.self) c.self.view_is
          (waits_acquired c.self.inside.cache c.acquire.new.self c.args.pid c.args.block arm.busy c.why.result arm.ensures.answer c.why.ensures c.acquire.ensures.cache);
    }
