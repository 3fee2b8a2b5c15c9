use Rattle.std.proofs.Common.{◌≡◌, ◌<◌, ◌+◌, ℕ, List, length, get_or, set, refl, sym, ◌∙◌, ap, subst, arith, add-one}
use Rattle.std.specs.Prelude.{slice_get}
use Rattle.wal.specs.Common.{counted, few_homes, goes_on, homes_of, Image, IsOldOrNew, IsRecoveredInPart, now_stays, one_more, RecoversAs, started, stays}
use Rattle.wal.proofs.CopyLemmas.{SameBesides, same_besides, copied_none, recovers_besides, recovers_same, home_at}
use Rattle.wal.proofs.RecoveryLemmas.{copy_besides, copy_step, copied_in_part, written_in_part}
use Rattle.wal.proofs.recovery.copy_home.Given.{Over}
use Rattle.wal.proofs.recovery.copy_home.Goals.{After-write}
use Rattle.wal.proofs.recovery.copy_home.Goals as goal

-- a block was written home
module _ (g : Over) (c : After-write g) where
  low : c.loop-k.k < length (homes_of (g.D.Disk.image c.args.disk.now))
  low = omega (arith, ap length c.requires.homes)

  home : get_or c.args.homes.now c.loop-k.k 0 ≡ home_at (g.D.Disk.image c.args.disk.now) c.loop-k.k
  home = ap (λ (l : List ℕ). get_or l c.loop-k.k 0) c.requires.homes

  besides : (z : Image) → g.D.Disk.leaves c.write.new.self (g.D.Disk.moment c.write.new.self) z → SameBesides (g.D.Disk.image c.args.disk.now) z
  besides =
      copy_besides (g.D.Disk.image c.args.disk.now) c.loop-k.k _ _ _ _ low home
      (λ z now. c.loop-k.invariant.besides z (now_stays g.D.Disk.moment g.D.Disk.leaves c.loop-k.disk c.read.new.self (g.met.D.Disk.counts_now c.read.new.self) c.read.ensures.time z now)) c.write.ensures.crash

pub log_block-requires : goal.log_block-requires
log_block-requires g c = omega (arith, ap length c.requires.homes, few_homes (g.D.Disk.image c.args.disk.now))

pub read-requires : goal.read-requires
read-requires g c = omega (arith, c.log_block.ensures, c.requires.long, c.loop-k.invariant.copied.size, ap length c.requires.homes, few_homes (g.D.Disk.image c.args.disk.now))

pub loop-k-init : goal.loop-k-init
loop-k-init g c =
    let d = g.D.Disk in
    let old = c.args.disk.now in
    let x = d.image old in
    record {
      copied = copied_none x;
      besides = λ z now. subst (SameBesides x) (sym (c.requires.settled z now)) (same_besides x);
      name = refl;
      writes = refl;
      syncs = refl;
      faults = refl;
      any_moment = started d.moment d.leaves old (RecoversAs x) (λ z now. recovers_same x z (c.requires.settled z now));
      in_order = λ plain. started d.moment d.leaves old (IsRecoveredInPart x) (λ z now. copied_in_part x x z 0 (omega arith) (copied_none x) (c.requires.settled z now));
    }

pub returns-in_err-write-clause-stops : goal.returns-in_err-write-clause-stops
returns-in_err-write-clause-stops g c =
    let at = (goal.at.returns-in_err-write-clause-stops g c).After-write in
    let d = g.D.Disk in
    let x = d.image c.args.disk.now in
    let kept = c.loop-k.invariant in
    let lt = low g at in
    let home = home g at in
    let left = subst (λ (y : Image). IsOldOrNew y (get_or c.args.homes.now c.loop-k.k 0) c.read.new.into (d.image c.write.new.self)) c.in_ok-read.ensures.image c.in_err-write.ensures.err in
    record {
      in_order = λ plain. goes_on d.moment d.leaves c.args.disk.now c.read.new.self c.write.new.self (IsRecoveredInPart x)
          (stays d.moment d.leaves c.args.disk.now c.loop-k.disk c.read.new.self (IsRecoveredInPart x) (kept.in_order plain) c.read.ensures.time) c.write.ensures.time
          (λ z now. written_in_part x (d.image c.loop-k.disk) (d.image c.write.new.self) z c.loop-k.k _ _ c.requires.lawful lt home kept.copied
          (ap (slice_get (d.image c.loop-k.disk)) (sym c.log_block.ensures) ∙ c.in_ok-read.ensures.ok) left (g.met.D.Disk.only_now c.write.new.self (ap d.holding (c.write.ensures.name ∙ c.read.ensures.name ∙ kept.name) ∙ plain) z now));
      any_moment = goes_on d.moment d.leaves c.args.disk.now c.read.new.self c.write.new.self (RecoversAs x)
          (stays d.moment d.leaves c.args.disk.now c.loop-k.disk c.read.new.self (RecoversAs x) kept.any_moment c.read.ensures.time) c.write.ensures.time
          (λ z now. recovers_besides x z c.requires.lawful (besides g at z now));
      plain = λ free. c.write.ensures.syncs ∙ c.read.ensures.syncs ∙ kept.syncs;
    }

pub loop-k-preserved : goal.loop-k-preserved
loop-k-preserved g c =
    let at = (goal.at.loop-k-preserved g c).After-write in
    let d = g.D.Disk in
    let x = d.image c.args.disk.now in
    let kept = c.loop-k.invariant in
    let lt = low g at in
    let home = home g at in
    let written : d.image c.write.new.self ≡ set (d.image c.loop-k.disk) (get_or c.args.homes.now c.loop-k.k 0) c.read.new.into = c.in_ok-write.ensures.ok ∙ ap (λ (y : Image). set y (get_or c.args.homes.now c.loop-k.k 0) c.read.new.into) c.in_ok-read.ensures.image in
    let read = stays d.moment d.leaves c.args.disk.now c.loop-k.disk c.read.new.self (RecoversAs x) kept.any_moment c.read.ensures.time in
    let copied = copy_step x (d.image c.loop-k.disk) (d.image c.write.new.self) c.loop-k.k _ _ c.requires.lawful lt home kept.copied (ap (slice_get (d.image c.loop-k.disk)) (sym c.log_block.ensures) ∙ c.in_ok-read.ensures.ok) written in
    record {
      copied = copied;
      name = c.in_ok-write.ensures.name ∙ c.in_ok-read.ensures.name ∙ kept.name;
      in_order = λ plain. goes_on d.moment d.leaves c.args.disk.now c.read.new.self c.write.new.self (IsRecoveredInPart x)
          (stays d.moment d.leaves c.args.disk.now c.loop-k.disk c.read.new.self (IsRecoveredInPart x) (kept.in_order plain) c.read.ensures.time) c.write.ensures.time
          (λ z now. copied_in_part x (d.image c.write.new.self) z (c.loop-k.k + 1) (omega (arith, lt)) copied (g.met.D.Disk.only_now c.write.new.self (ap d.holding (c.write.ensures.name ∙ c.read.ensures.name ∙ kept.name) ∙ plain) z now));
      besides = besides g at;
      writes = c.in_ok-write.ensures.writes ∙ ap one_more (c.in_ok-read.ensures.writes ∙ kept.writes) ∙ ap (counted (d.write_count c.args.disk.now)) (sym (add-one c.loop-k.k));
      syncs = c.in_ok-write.ensures.syncs ∙ c.in_ok-read.ensures.syncs ∙ kept.syncs;
      faults = c.in_ok-write.ensures.faults ∙ c.in_ok-read.ensures.faults ∙ kept.faults;
      any_moment = goes_on d.moment d.leaves c.args.disk.now c.read.new.self c.write.new.self (RecoversAs x) read c.write.ensures.time (λ z now. recovers_besides x z c.requires.lawful (besides g at z now));
    }
