use Rattle.std.proofs.Common.{◌≡◌, ◌∙◌, ◌≤◌, ◌*◌, ◌++◌, ℕ, List, length, refl, sym, subst, arith}
use Rattle.model.specs.Files.{Files}
use Rattle.model.specs.Operations.{part_of}
use Rattle.names.specs.Inside.{files_seen}
use Rattle.directories.specs.Trees.{directory_in, IsDirectory}
use Rattle.names.proofs.Going.{stays_here}
use Rattle.names.proofs.ReadBehind.{all_read, one_more}
use Rattle.names.proofs.tree.Tree.whole_directory.Goals as goal

pub loop-piece-init : goal.loop-piece-init
loop-piece-init g c = record {
  way = c.requires.way;
  same = refl;
  opening = refl;
  files = refl;
  stays = stays_here g.D.Disk c.args.self.now.kernel;
  later = omega arith;
  reached = λ o so_far. so_far;
  bytes_are = c.new-bytes.ensures.items;
}

pub read_behind-requires-clause-there : goal.read_behind-requires-clause-there
read_behind-requires-clause-there g c =
    subst (λ (f : Files). IsDirectory f c.args.number) (sym c.loop-piece.invariant.files) c.requires.there

pub loop-piece-preserved : goal.loop-piece-preserved
loop-piece-preserved g c =
    let before = c.loop-piece.invariant in
    let whole : List ℕ = directory_in (files_seen g.D.Disk.image c.args.self.now.kernel) c.args.number in
    let more : c.read_behind.new.bytes.items ≡ c.loop-piece.bytes.items ++ part_of whole (c.loop-piece.piece * 3072) 3072 =
    subst (λ (f : Files). c.read_behind.new.bytes.items ≡ c.loop-piece.bytes.items ++ part_of (directory_in f c.args.number) (c.loop-piece.piece * 3072) 3072)
    before.files c.in_ok-read_behind.ensures.more in
    record {
      way = c.in_ok-read_behind.ensures.goes.on.way;
      same = c.in_ok-read_behind.ensures.goes.on.same ∙ before.same;
      opening = c.in_ok-read_behind.ensures.goes.on.opening ∙ before.opening;
      files = c.in_ok-read_behind.ensures.same ∙ before.files;
      stays = record { on = λ o same so_far. c.read_behind.ensures.goes.stays.on o (before.same ∙ same) (before.stays.on o same so_far) };
      later = omega (arith, before.later, c.in_ok-read_behind.ensures.goes.on.later);
      reached = λ o so_far. c.in_ok-read_behind.ensures.goes.on.reached o (before.reached o so_far);
      bytes_are = one_more whole c.loop-piece.bytes.items c.read_behind.new.bytes.items c.loop-piece.piece before.bytes_are more;
    }

pub returns-clause-bytes : goal.returns-clause-bytes
returns-clause-bytes g c =
    let whole : List ℕ = directory_in (files_seen g.D.Disk.image c.args.self.now.kernel) c.args.number in
    let enough : length whole ≤ c.loop-piece.piece * 3072 =
    omega (arith, c.requires.size, c.loop-piece-test.false, c.loop-piece.auto.piece-end, c.div_ceil-piece-end.ensures) in
    c.new.ensures ∙ all_read whole c.loop-piece.bytes.items c.loop-piece.piece c.loop-piece.invariant.bytes_are enough

pub returns-clause-goes : goal.returns-clause-goes
returns-clause-goes g c =
    let read = c.loop-piece.invariant in
    record { on = record { way = read.way; same = read.same; opening = read.opening; later = read.later; reached = read.reached }; stays = read.stays; ends = tt }
