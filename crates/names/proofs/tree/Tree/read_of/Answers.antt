use Rattle.std.proofs.Common.{◌≡◌, ◌∙◌, ℕ, min, List, sym, subst}
use Rattle.model.specs.declared.types.operations.Op.TheVariants.{Read}
use Rattle.model.specs.declared.types.operations.Reply.TheVariants.{Bytes}
use Rattle.model.specs.Operations.{part_of}
use Rattle.names.specs.Inside.{files_seen, Answers}
use Rattle.directories.specs.Trees.{IsDirectory}
use Rattle.names.proofs.PlainFiles.{not_told, read_plain, HasRead}
use Rattle.names.proofs.tree.Tree.read_of.Given.{Over}
use Rattle.names.proofs.tree.Tree.read_of.Goals.{In_ok-bytes}
use Rattle.names.proofs.tree.Tree.read_of.Goals as goal

same_bytes : (a b : List ℕ) → Bytes a ≡ Bytes b → a ≡ b
same_bytes a b e = cc

-- what was read
module _ (g : Over) (c : In_ok-bytes g) where
  read_whole : HasRead (files_seen g.D.Disk.image c.args.self.now.kernel) (files_seen g.D.Disk.image c.called.new.self.kernel) c.args.number c.args.offset
      c.args.count c.in_ok-bytes.field-0
  read_whole =
      read_plain g.D.Disk c.args.self.now.kernel c.is_directory.new.self.kernel c.called.new.self.kernel c.args.number c.args.offset c.args.count c.in_ok-bytes.field-0
      c.in_ok-is_directory.ensures.same
      (subst (λ (n : ℕ). Answers g.D.Disk.image (Read c.args.number c.args.offset n) c.is_directory.new.self.kernel c.called.new.self.kernel c.in_ok-bytes.field-0)
      c.min-most.ensures c.in_ok-bytes.ensures.answers) c.requires.there
      (not_told c.in_ok-is_directory.field-0 (IsDirectory (files_seen g.D.Disk.image c.args.self.now.kernel) c.args.number) c.if-branch.false
      c.in_ok-is_directory.ensures.told)

pub unreachable-requires : goal.unreachable-requires
unreachable-requires g c = c.in_default.not-Bytes _ (read_whole g (goal.at.unreachable-requires g c).In_ok-bytes).is

pub returns-clause-same : goal.returns-clause-same
returns-clause-same g c = (read_whole g (goal.at.returns-clause-same g c).In_ok-bytes).same

pub returns-clause-read : goal.returns-clause-read
returns-clause-read g c =
    let read = read_whole g (goal.at.returns-clause-read g c).In_ok-bytes in
    let both : Bytes c.in-Bytes.bytes ≡ Bytes (part_of read.file.bytes c.args.offset (min c.args.count 3072)) = sym c.in-Bytes.is ∙ read.is in
    record { same = read.same; file = read.file; plain = read.plain; bytes_are = same_bytes c.in-Bytes.bytes (part_of read.file.bytes c.args.offset (min c.args.count 3072)) both }
