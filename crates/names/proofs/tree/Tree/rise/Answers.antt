use Rattle.std.proofs.Common.{◌≡◌, ◌∙◌, ℕ, ◌<◌, List, length, Some, None, true, sym, ap, subst, rules}
use Rattle.model.specs.Files.{Files}
use Rattle.directories.specs.Entries.{lookup}
use Rattle.names.specs.Inside.{files_seen, form_seen}
use Rattle.directories.specs.Trees.{directory_in, self_name, IsDirectory}
use Rattle.names.proofs.Renamed.{lookup_used}
use Rattle.directories.specs.Lemmas.Sizes.{size_small}
use Rattle.directories.specs.Lemmas.TreeMeaning.{directories_are_tidy}
use Rattle.names.proofs.tree.Tree.rise.Goals as goal

pub tidy_directory-requires-clause-there : goal.tidy_directory-requires-clause-there
tidy_directory-requires-clause-there g c =
    let is : c.in_ok-is_directory.field-0 ≡ true = search rules in
    subst (λ (f : Files). IsDirectory f c.args.number) (sym (c.in_ok-more.ensures.same ∙ c.in_ok-links.ensures.same ∙ c.in_ok-is_outside.ensures.same ∙ c.in_ok-is_directory.ensures.same)) (c.in_ok-is_directory.ensures.told.0 is)

pub repoint-requires-clause-used : goal.repoint-requires-clause-used
repoint-requires-clause-used g c =
    let of = (directories_are_tidy (files_seen g.D.Disk.image c.args.self.now.kernel) c.args.to c.requires.tree c.requires.there).1 in
    lookup_used (directory_in (files_seen g.D.Disk.image c.args.self.now.kernel) c.args.to) self_name c.args.to of.1.own

pub repoint-requires-clause-size : goal.repoint-requires-clause-size
repoint-requires-clause-size g c =
    let seen = c.one_more.new.self.kernel in
    subst (λ (l : List ℕ). length l < 4294967296) (sym (c.as_slice.ensures ∙ c.in_ok-bytes.ensures.bytes))
    (size_small (form_seen g.D.Disk.image seen) (length (directory_in (files_seen g.D.Disk.image seen) c.args.number))
    (c.in_ok-more.ensures.goes.on.way.sized c.args.number))

pub unreachable-requires : goal.unreachable-requires
unreachable-requires g c =
    let fs : Files = files_seen g.D.Disk.image c.args.self.now.kernel in
    let is : c.in_ok-is_directory.field-0 ≡ true = search rules in
    let of = (directories_are_tidy fs c.args.number c.requires.tree (c.in_ok-is_directory.ensures.told.0 is)).1 in
    let same : c.as_slice.result.now ≡ directory_in fs c.args.number =
    c.as_slice.ensures ∙ c.in_ok-bytes.ensures.bytes ∙ ap (λ (f : Files). directory_in f c.args.number)
    (c.in_ok-more.ensures.same ∙ c.in_ok-links.ensures.same ∙ c.in_ok-is_outside.ensures.same ∙ c.in_ok-is_directory.ensures.same) in
    let both : None ≡ Some of.0 =
    sym c.in_default.ensures.absent ∙ ap (λ (l : List ℕ). lookup l c.parent.result) same ∙ ap (λ (n : List ℕ). lookup (directory_in fs c.args.number) n) c.parent.ensures
    ∙ of.1.up in cc both
