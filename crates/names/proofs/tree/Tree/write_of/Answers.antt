use Rattle.std.proofs.Common.{sym, subst}
use Rattle.model.specs.Files.{Files}
use Rattle.names.specs.Inside.{files_seen}
use Rattle.directories.specs.Trees.{IsDirectory, IsFile}
use Rattle.names.proofs.Going.{full_ends, goes_on, stays_on}
use Rattle.names.proofs.PlainFiles.{not_told}
use Rattle.names.proofs.PlainPuts.{none_by, short_full}
use Rattle.names.proofs.PlainWrites.{writes_plain, writes_tree}
use Rattle.names.proofs.tree.Tree.write_of.Given.{Over}
use Rattle.names.proofs.tree.Tree.write_of.Goals as goal

module _ (g : Over) (c : goal.In-Some g) where
  no_directory : IsDirectory (files_seen g.D.Disk.image c.args.self.now.kernel) c.args.number → ⊥
  no_directory =
      not_told c.in_ok-is_directory.field-0 (IsDirectory (files_seen g.D.Disk.image c.args.self.now.kernel) c.args.number) c.if-branch.false
      c.in_ok-is_directory.ensures.told

pub returns-clause-tree : goal.returns-clause-tree
returns-clause-tree g c =
    writes_tree g.D.Disk c.args.self.now.kernel c.is_directory.new.self.kernel c.write_called.new.self.kernel c.args.number c.args.offset c.args.bytes.now c.in_ok-done.field-0
    c.in_ok-is_directory.ensures.same c.in_ok-done.ensures.written c.requires.tree (no_directory g c)

pub returns-clause-wrote : goal.returns-clause-wrote
returns-clause-wrote g c =
    writes_plain g.D.Disk c.args.self.now.kernel c.is_directory.new.self.kernel c.write_called.new.self.kernel c.args.number c.args.offset c.args.bytes.now c.in_ok-done.field-0 c.in-Some.done
    c.in_ok-is_directory.ensures.same c.in_ok-is_directory.ensures.goes.on.opening c.in_ok-done.ensures.written c.in-Some.is c.requires.there (no_directory g c)

pub returns-in_default-clause-goes : goal.returns-in_default-clause-goes
returns-in_default-clause-goes g c = record {
  on = tt;
  stays = stays_on g.D.Disk c.args.self.now.kernel c.is_directory.new.self.kernel c.write_called.new.self.kernel c.is_directory.new.self.calls_left
      c.in_ok-is_directory.ensures.goes.on c.is_directory.ensures.goes.stays c.write_called.ensures.goes.stays;
  ends = full_ends g.D.Disk c.args.self.now.kernel c.write_called.new.self.kernel c.args.self.now.calls_left c.write_called.new.self.calls_left c.requires.way
      (goes_on g.D.Disk c.args.self.now.kernel c.is_directory.new.self.kernel c.write_called.new.self.kernel c.is_directory.new.self.calls_left
      c.write_called.new.self.calls_left c.in_ok-is_directory.ensures.goes.on c.in_ok-done.ensures.goes.on)
      (short_full g.D.Disk c.is_directory.new.self.kernel c.write_called.new.self.kernel c.args.number c.args.offset c.args.bytes.now c.in_ok-done.field-0
      c.in_ok-done.ensures.written (none_by c.in_ok-done.field-0 c.in_default.not-Some)
      (subst (λ (f : Files). IsFile f c.args.number) (sym c.in_ok-is_directory.ensures.same) c.requires.there));
}
