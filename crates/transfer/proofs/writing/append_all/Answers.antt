use Rattle.std.proofs.Common.{◌≡◌, ◌∙◌, ◌+◌, ◌-◌, ◌*◌, ◌<◌, ◌≢◌, ℕ, Bool, List, length, take, drop, Some, None, sym, ap, subst, refl, inl, arith}
use Rattle.model.specs.Files.{file_in}
use Rattle.model.specs.Layout.{form_of}
use Rattle.model.specs.Lemmas.FileNumbers.{below_there}
use Rattle.calls.specs.Files.{Appends, AppendsPart, files_on}
use Rattle.calls.specs.Stopped.{AppendsFirst}
use Rattle.calls.specs.Lemmas.Sizes.{there_of_size}
use Rattle.calls.specs.Calls.{image_on}
use Rattle.transfer.specs.Places.{put_at}
use Rattle.transfer.specs.Stopped.{StaysPlace}
use Rattle.transfer.specs.PutWriting.{PutsPart}
use Rattle.transfer.proofs.AppendLemmas.{part_put, piece_first, piece_put, piece_room}
use Rattle.transfer.proofs.CallLemmas.{answered_none, answered_then, leads_answered, leads_none}
use Rattle.transfer.proofs.PieceLemmas.{piece_inside}
use Rattle.transfer.proofs.PlaceLemmas.{empty_put, put_loses_none}
use Rattle.transfer.proofs.StopLemmas.{led_by_piece, stays_first, stays_none, stays_then}
use Rattle.transfer.proofs.writing.append_all.Given.{Over}
use Rattle.transfer.proofs.writing.append_all.Goals.{After-append}
use Rattle.transfer.proofs.writing.append_all.Goals as goal

-- a piece, which is inside the bytes
module _ (g : Over) (c : After-append g) where
  abbrev from : ℕ
  from = c.loop-piece.piece * 6144

  abbrev piece : List ℕ
  piece = take (c.min-to.result - from) (drop from c.args.bytes.now)

  inside : from < length c.args.bytes.now
  inside = piece_inside (length c.args.bytes.now) 6144 c.loop-piece.piece (omega arith) (omega (arith, c.loop-piece-test.true, c.div_ceil-piece-end.ensures))

  there : file_in (files_on g.D.Disk.image c.args.kernel.now) c.args.number ≢ None
  there = there_of_size _ 0 c.requires.empty

  below : c.args.number < length (files_on g.D.Disk.image c.args.kernel.now)
  below = below_there _ _ there

  -- what a stop leaves of it
  stays : StaysPlace g.D.Disk (image_on g.D.Disk.image c.args.kernel.now) (Some c.args.number) c.args.bytes.now c.args.kernel.now c.append.new.kernel
  stays =
      stays_then g.D.Disk _ (Some c.args.number) _ _ c.loop-piece.kernel _ c.loop-piece.invariant.stays
      (stays_first g.D.Disk _ (Some c.args.number) _ (AppendsFirst c.args.number piece) _ _ c.append.ensures.leaves c.append.ensures.stays c.append.ensures.reached (leads_answered g.D.Disk _ _ c.loop-piece.invariant.answered)
      (λ new. led_by_piece _ (Some c.args.number) c.args.bytes.now c.args.number (refl, there) below _ new from piece c.loop-piece.invariant.files
      (piece_first (image_on g.D.Disk.image c.args.kernel.now) (image_on g.D.Disk.image c.loop-piece.kernel) c.args.number c.args.bytes.now from c.min-to.result below c.loop-piece.invariant.files (omega (arith, inside)) c.min-to.ensures)))

pub loop-piece-init : goal.loop-piece-init
loop-piece-init g c =
    let k = c.args.kernel.now in
    record {
      answered = answered_none g.D.Disk k c.requires.ready;
      calls = omega arith;
      files = sym (empty_put (files_on g.D.Disk.image k) c.args.number c.requires.empty);
      stays = stays_none g.D.Disk (image_on g.D.Disk.image k) (Some c.args.number) c.args.bytes.now k c.rested.ensures (leads_none _) (inl refl);
    }

pub append-requires-clause-room : goal.append-requires-clause-room
append-requires-clause-room g c =
    let d = g.D.Disk in
    let k = c.args.kernel.now in
    let m = c.loop-piece.kernel in
    let i = c.args.number in
    let bytes = c.args.bytes.now in
    let before = c.loop-piece.invariant in
    let inside : c.loop-piece.piece * 6144 < length bytes = piece_inside (length bytes) 6144 c.loop-piece.piece (omega arith) (omega (arith, c.loop-piece-test.true, c.div_ceil-piece-end.ensures)) in
    piece_room (image_on d.image k) (image_on d.image m) i bytes (c.loop-piece.piece * 6144) c.min-to.result
    (below_there (files_on d.image k) i (there_of_size _ 0 c.requires.empty)) before.files (omega (arith, inside)) c.min-to.ensures
    (form_of (image_on d.image m)) (form_of (image_on d.image k)) before.answered.form c.requires.short

-- only the first of it was written
part : (g : Over) (c : After-append g) → AppendsPart c.args.number (piece g c) (image_on g.D.Disk.image c.loop-piece.kernel) (image_on g.D.Disk.image c.append.new.kernel)
    → PutsPart c.args.number c.args.bytes.now (image_on g.D.Disk.image c.args.kernel.now) (image_on g.D.Disk.image c.append.new.kernel)
part g c appends =
    let inside = inside g c in
    part_put (image_on g.D.Disk.image c.args.kernel.now) (image_on g.D.Disk.image c.loop-piece.kernel) c.args.number c.args.bytes.now (from g c) c.min-to.result
    (below g c) c.loop-piece.invariant.files (omega (arith, inside)) c.min-to.ensures (image_on g.D.Disk.image c.append.new.kernel) appends

pub returns-then-not-branch-clause-puts : goal.returns-then-not-branch-clause-puts
returns-then-not-branch-clause-puts g c =
    let at = (goal.at.returns-then-not-branch-clause-puts g c).After-append in
    part g at (subst (λ (all : Bool). Appends all c.args.number (piece g at) (image_on g.D.Disk.image c.loop-piece.kernel) (image_on g.D.Disk.image c.append.new.kernel)) c.if-not-branch.true c.in_ok-append.ensures.appends)

pub returns-then-not-branch-clause-answered : goal.returns-then-not-branch-clause-answered
returns-then-not-branch-clause-answered g c =
    let at = (goal.at.returns-then-not-branch-clause-answered g c).After-append in
    let call = c.in_ok-append.ensures in
    let part = part g at (subst (λ (all : Bool). Appends all c.args.number (piece g at) (image_on g.D.Disk.image c.loop-piece.kernel) (image_on g.D.Disk.image c.append.new.kernel)) c.if-not-branch.true call.appends) in
    answered_then g.D.Disk _ c.loop-piece.kernel _ c.loop-piece.invariant.answered call.committed call.stays.opening (put_loses_none _ c.args.number _ _ part.files)

pub loop-piece-preserved : goal.loop-piece-preserved
loop-piece-preserved g c =
    let at = (goal.at.loop-piece-preserved g c).After-append in
    let k = c.args.kernel.now in
    let m = c.loop-piece.kernel in
    let e = c.append.new.kernel in
    let before = c.loop-piece.invariant in
    let call = c.in_ok-append.ensures in
    let inside = inside g at in
    let next : c.loop-piece.piece * 6144 + 6144 ≡ (c.loop-piece.piece + 1) * 6144 = omega arith in
    let files : files_on g.D.Disk.image e ≡ put_at (files_on g.D.Disk.image k) c.args.number (take ((c.loop-piece.piece + 1) * 6144) c.args.bytes.now)
    = piece_put (image_on g.D.Disk.image k) (image_on g.D.Disk.image m) c.args.number c.args.bytes.now (from g at) c.min-to.result
    (below g at) before.files (omega (arith, inside)) c.min-to.ensures (image_on g.D.Disk.image e)
    (subst (λ (all : Bool). Appends all c.args.number (piece g at) (image_on g.D.Disk.image m) (image_on g.D.Disk.image e)) c.if-not-branch.false call.appends)
    ∙ ap (λ (n : ℕ). put_at (files_on g.D.Disk.image k) c.args.number (take n c.args.bytes.now)) next in
    record {
      answered = answered_then g.D.Disk k m e before.answered call.committed call.stays.opening (put_loses_none _ c.args.number _ _ files);
      calls = omega (arith, call.committed.few_more, before.calls);
      files = files;
      stays = stays g at;
    }

pub returns-in_err-append-clause-stays : goal.returns-in_err-append-clause-stays
returns-in_err-append-clause-stays g c = stays g (goal.at.returns-in_err-append-clause-stays g c).After-append

pub returns-then-not-branch-clause-stays : goal.returns-then-not-branch-clause-stays
returns-then-not-branch-clause-stays g c = stays g (goal.at.returns-then-not-branch-clause-stays g c).After-append
