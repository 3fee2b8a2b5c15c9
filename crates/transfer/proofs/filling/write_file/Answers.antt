use Rattle.std.proofs.Common.{◌≡◌, ◌∙◌, ℕ, ◌+◌, ◌*◌, length, take, drop, refl, sym, ap, arith}
use Rattle.std.proofs.lemmas.List.{length-take}
use Rattle.blocks.specs.Lemmas.Reads.{reads_then}
use Rattle.model.specs.Files.{bytes_in}
use Rattle.model.specs.Layout.{form_of, inode_of}
use Rattle.model.specs.Log.{recovered}
use Rattle.calls.specs.Calls.{call_count}
use Rattle.calls.specs.Files.{appended, files_on}
use Rattle.transfer.proofs.FillingLemmas.{all_appended, holds_as, most_bytes, one_appended, part_appended, piece_allowed, piece_read, readable, small_file}
use Rattle.transfer.proofs.StageLemmas.{appended_none, few_bytes}
use Rattle.transfer.proofs.filling.write_file.Given.{Over}
use Rattle.transfer.proofs.filling.write_file.Goals.{In_ok-read}
use Rattle.transfer.proofs.filling.write_file.Goals as goal

-- a piece was read
module _ (g : Over) (c : In_ok-read g) where
  long : length (take c.min.result c.loop-piece.room) ≡ c.min.result
  long = omega (arith, c.min.array_long, length-take c.min.result c.loop-piece.room)

  read : c.read.new.into ≡ take c.min.result (drop (c.loop-piece.piece * 3072) (bytes_in (recovered (g.D.Disk.image c.args.old.now)) c.in_ok-inode.inode))
  read =
      piece_read (g.D.Disk.image c.args.old.now) c.args.source.now c.requires.file.is (g.D.Disk.image c.loop-piece.old) c.in_ok-inode.inode (c.loop-piece.piece * 3072) c.min.result _ c.read.new.into
      c.loop-piece.invariant.reads.image long c.in_ok-read.ensures.ok

pub loop-piece-init : goal.loop-piece-init
loop-piece-init g c =
    let l = c.args.kernel.now in
    record {
      reads = c.inode.ensures.reads;
      faults = c.in_ok-inode.ensures.faults;
      holds = holds_as g.E.Disk (call_count l) (call_count l + 0) l c.requires.empty.0 (omega arith) (sym (appended_none (files_on g.E.Disk.image l) c.args.i));
      opening = refl;
      name = refl;
    }

pub read-requires-clause-file : goal.read-requires-clause-file
read-requires-clause-file g c =
    let x = g.D.Disk.image c.args.old.now in
    readable x c.args.source.now c.requires.file.is (g.D.Disk.image c.loop-piece.old) c.args.i c.in_ok-inode.inode
    c.loop-piece.invariant.reads.image c.requires.file.whole c.in_ok-inode.ensures.ok

pub append-requires-clause-room : goal.append-requires-clause-room
append-requires-clause-room g c =
    let here = (goal.at.append-requires-clause-room g c).In_ok-read in
    let x = g.D.Disk.image c.args.old.now in
    let d = c.in_ok-inode.inode in
    let at = c.loop-piece.piece * 3072 in
    let count = c.min.result in
    let small = small_file x c.args.source.now c.requires.file.is c.args.i d c.requires.file.whole c.in_ok-inode.ensures.ok in
    piece_allowed g.E.Disk (files_on g.E.Disk.image c.args.kernel.now) c.args.i c.requires.empty.1 (bytes_in (recovered x) d) d.size at count (few_bytes (recovered x) d) (omega arith) (omega arith)
    c.read.new.into (read g here) (call_count c.args.kernel.now + c.loop-piece.piece) c.loop-piece.kernel c.loop-piece.invariant.holds c.args.source.now.form
    (c.requires.form ∙ ap (λ o. form_of (g.E.Disk.image o)) (sym c.loop-piece.invariant.opening)) small (c.read.auto.into ∙ long g here)

pub returns-then-not-branch-clause-refused : goal.returns-then-not-branch-clause-refused
returns-then-not-branch-clause-refused g c =
    let here = (goal.at.returns-then-not-branch-clause-refused g c).In_ok-read in
    let x = g.D.Disk.image c.args.old.now in
    let d = c.in_ok-inode.inode in
    let at = c.loop-piece.piece * 3072 in
    let count = c.min.result in
    let part = part_appended g.E.Disk (files_on g.E.Disk.image c.args.kernel.now) c.args.i c.requires.empty.1 (bytes_in (recovered x) d) d.size at count (few_bytes (recovered x) d) (omega arith) (omega arith)
    c.read.new.into (read g here) (call_count c.args.kernel.now + c.loop-piece.piece) c.loop-piece.kernel c.loop-piece.invariant.holds
    c.append.new.kernel c.in_ok-append.field-0 c.if-not-branch.true c.in_ok-append.ensures.appends (c.read.auto.into ∙ long g here) c.in_ok-append.ensures.answered
    c.args.kernel.now.opening c.loop-piece.invariant.opening (bytes_in (recovered x) (inode_of (recovered x) c.args.i)) (ap (bytes_in (recovered x)) {y = inode_of (recovered x) c.args.i} c.in_ok-inode.ensures.ok) in
    (part.0, part.1, c.in_ok-read.ensures.faults ∙ c.loop-piece.invariant.faults)

pub loop-piece-preserved : goal.loop-piece-preserved
loop-piece-preserved g c =
    let here = (goal.at.loop-piece-preserved g c).In_ok-read in
    let x = g.D.Disk.image c.args.old.now in
    let d = c.in_ok-inode.inode in
    let before = c.loop-piece.invariant in
    let l = c.args.kernel.now in
    let m = c.append.new.kernel in
    let piece = c.loop-piece.piece in
    let at = piece * 3072 in
    let count = c.min.result in
    let next : at + 3072 ≡ (piece + 1) * 3072 = omega arith in
    record {
      reads = reads_then g.D.Disk c.args.old.now c.loop-piece.old c.read.new.disk before.reads c.read.ensures.reads;
      faults = c.in_ok-read.ensures.faults ∙ before.faults;
      holds = holds_as g.E.Disk (call_count l + piece + 1) (call_count l + (piece + 1)) m
          (one_appended g.E.Disk (files_on g.E.Disk.image l) c.args.i c.requires.empty.1 (bytes_in (recovered x) d) d.size at count (few_bytes (recovered x) d) (omega arith) (omega arith)
          c.read.new.into (read g here) (call_count l + piece) c.loop-piece.kernel before.holds m c.in_ok-append.field-0 c.if-not-branch.false c.in_ok-append.ensures.appends c.in_ok-append.ensures.answered c.append.ensures.stays.opening)
          (omega arith) (ap (λ (n : ℕ). appended (files_on g.E.Disk.image l) c.args.i (take n (bytes_in (recovered x) d))) next);
      opening = cc;
      name = cc;
    }

pub returns-clause-written : goal.returns-clause-written
returns-clause-written g c =
    let x = g.D.Disk.image c.args.old.now in
    let i = c.args.i in
    let d = c.in_ok-inode.inode in
    let l = c.args.kernel.now in
    let piece = c.loop-piece.piece in
    let small = small_file x c.args.source.now c.requires.file.is i d c.requires.file.whole c.in_ok-inode.ensures.ok in
    let most = most_bytes c.args.source.now.form in
    all_appended g.E.Disk (files_on g.E.Disk.image l) i (recovered x) d (inode_of (recovered x) i) (piece * 3072) (call_count l + piece) (call_count l + 21935) c.loop-piece.kernel
    c.loop-piece.invariant.holds (omega arith) (omega arith) c.in_ok-inode.ensures.ok
