use Rattle.std.proofs.Common.{◌∙◌, ◌-◌, ◌≤◌, sym, subst, inl, inr, arith}
use Rattle.model.specs.Files.{Files}
use Rattle.names.specs.Inside.{files_seen}
use Rattle.directories.specs.Counts.{StaysCounted}
use Rattle.names.specs.Removing.{KeepsLinks}
use Rattle.directories.specs.TreeChanges.{DropsName, UnlinksName}
use Rattle.directories.specs.Trees.{IsTree}
use Rattle.names.proofs.Leaving.{down_there, dropped_stays, file_led, is_there, may_drop, may_lose, once_there, other_there, plain_there}
use Rattle.names.proofs.removing.RemoveFileChangeIn.apply_in.Goals as goal

pub unnamed-requires-clause-tree : goal.unnamed-requires-clause-tree
unnamed-requires-clause-tree g c = subst (λ (f : Files). IsTree f) (sym (c.in_ok-links.ensures.same ∙ c.in_ok-_other.ensures.same ∙ c.in_ok-bytes.ensures.same)) c.requires.tree

pub unnamed-requires-clause-loses : goal.unnamed-requires-clause-loses
unnamed-requires-clause-loses g c =
    let more = c.if-links-gt1.true in
    may_lose (files_seen g.D.Disk.image c.args.tree.now.kernel) (files_seen g.D.Disk.image c.directory.new.self.kernel) (files_seen g.D.Disk.image c.directory-2.new.self.kernel)
    (files_seen g.D.Disk.image c.links_of.new.self.kernel)
    c.args.from c.in-Some-lookup.number c.from-number.result c.in_ok-links.links c.args.name.now c.in-Some.bytes c.as_slice.result.now c.as_slice-then-links-gt1.result.now c.in_ok-bytes.field-0
    c.in_ok-_other.field-0 c.requires.tree c.requires.counted c.in_ok-bytes.ensures.same c.in_ok-bytes.ensures.found c.in-Some.is c.as_slice.ensures c.as_slice-then-links-gt1.ensures
    (sym c.in-Some-lookup.ensures) c.from-number.ensures c.in_ok-_other.ensures.same c.in_ok-_other.ensures.found c.in_default-2.not-Some c.in_ok-links.ensures.same c.in_ok-links.ensures.links
    (c.in_ok-links.links - 1) (omega arith) (omega arith)

pub returns-then-links-gt1-clause-tree : goal.returns-then-links-gt1-clause-tree
returns-then-links-gt1-clause-tree g c =
    subst (λ (f : Files). StaysCounted f (files_seen g.D.Disk.image c.unnamed.new.self.kernel)) (c.in_ok-links.ensures.same ∙ c.in_ok-_other.ensures.same ∙ c.in_ok-bytes.ensures.same) c.in_ok-unnamed.ensures.tree

pub returns-then-links-gt1-clause-made : goal.returns-then-links-gt1-clause-made
returns-then-links-gt1-clause-made g c =
    let more = c.if-links-gt1.true in (
      c.from-number.result,
      inr (
        subst (λ (f : Files). UnlinksName f (files_seen g.D.Disk.image c.unnamed.new.self.kernel) c.args.from c.args.name.now c.from-number.result) (c.in_ok-links.ensures.same ∙ c.in_ok-_other.ensures.same ∙ c.in_ok-bytes.ensures.same)
            c.in_ok-unnamed.ensures.loses,
        other_there (files_seen g.D.Disk.image c.args.tree.now.kernel) (files_seen g.D.Disk.image c.directory.new.self.kernel) (files_seen g.D.Disk.image c.directory-2.new.self.kernel)
            (files_seen g.D.Disk.image c.links_of.new.self.kernel)
            c.args.from c.in-Some-lookup.number c.from-number.result c.in_ok-links.links c.args.name.now c.in-Some.bytes c.as_slice.result.now c.as_slice-then-links-gt1.result.now c.in_ok-bytes.field-0
            c.in_ok-_other.field-0 c.requires.tree c.requires.counted c.in_ok-bytes.ensures.same c.in_ok-bytes.ensures.found c.in-Some.is c.as_slice.ensures c.as_slice-then-links-gt1.ensures
            (sym c.in-Some-lookup.ensures) c.from-number.ensures c.in_ok-_other.ensures.same c.in_ok-_other.ensures.found c.in_default-2.not-Some c.in_ok-links.ensures.same c.in_ok-links.ensures.links
            (omega arith),
      ),
    )

pub dropped-requires-clause-tree : goal.dropped-requires-clause-tree
dropped-requires-clause-tree g c = subst (λ (f : Files). IsTree f) (sym (c.in_ok-links.ensures.same ∙ c.in_ok-_other.ensures.same ∙ c.in_ok-bytes.ensures.same)) c.requires.tree

pub dropped-requires-clause-drops : goal.dropped-requires-clause-drops
dropped-requires-clause-drops g c =
    let few = c.if-links-gt1.false in
    may_drop (files_seen g.D.Disk.image c.args.tree.now.kernel) (files_seen g.D.Disk.image c.directory.new.self.kernel) (files_seen g.D.Disk.image c.directory-2.new.self.kernel)
    (files_seen g.D.Disk.image c.links_of.new.self.kernel)
    c.args.from c.in-Some-lookup.number c.from-number.result c.in_ok-links.links c.args.name.now c.in-Some.bytes c.as_slice.result.now c.as_slice-2.result.now c.in_ok-bytes.field-0
    c.in_ok-_other.field-0 c.requires.tree c.requires.counted c.in_ok-bytes.ensures.same c.in_ok-bytes.ensures.found c.in-Some.is c.as_slice.ensures c.as_slice-2.ensures
    (sym c.in-Some-lookup.ensures) c.from-number.ensures c.in_ok-_other.ensures.same c.in_ok-_other.ensures.found c.in_default-2.not-Some c.in_ok-links.ensures.same c.in_ok-links.ensures.links
    (omega arith)

pub returns-clause-tree : goal.returns-clause-tree
returns-clause-tree g c =
    let few : c.in_ok-links.links ≤ 1 = omega (arith, c.if-links-gt1.false) in
    let still = (c.in_ok-links.ensures.same ∙ c.in_ok-_other.ensures.same ∙ c.in_ok-bytes.ensures.same) in
    let new : Files = files_seen g.D.Disk.image c.dropped.new.self.kernel in
    dropped_stays (files_seen g.D.Disk.image c.args.tree.now.kernel) new c.args.from c.from-number.result c.args.name.now c.requires.tree
    (is_there (files_seen g.D.Disk.image c.args.tree.now.kernel) (files_seen g.D.Disk.image c.directory.new.self.kernel) (files_seen g.D.Disk.image c.directory-2.new.self.kernel)
    (files_seen g.D.Disk.image c.links_of.new.self.kernel)
    c.args.from c.in-Some-lookup.number c.from-number.result c.in_ok-links.links c.args.name.now c.in-Some.bytes c.as_slice.result.now c.as_slice-2.result.now c.in_ok-bytes.field-0
    c.in_ok-_other.field-0 c.requires.tree c.requires.counted c.in_ok-bytes.ensures.same c.in_ok-bytes.ensures.found c.in-Some.is c.as_slice.ensures c.as_slice-2.ensures
    (sym c.in-Some-lookup.ensures) c.from-number.ensures c.in_ok-_other.ensures.same c.in_ok-_other.ensures.found c.in_default-2.not-Some c.in_ok-links.ensures.same c.in_ok-links.ensures.links)
    (down_there (files_seen g.D.Disk.image c.args.tree.now.kernel) (files_seen g.D.Disk.image c.directory.new.self.kernel) (files_seen g.D.Disk.image c.directory-2.new.self.kernel)
    (files_seen g.D.Disk.image c.links_of.new.self.kernel)
    c.args.from c.in-Some-lookup.number c.from-number.result c.in_ok-links.links c.args.name.now c.in-Some.bytes c.as_slice.result.now c.as_slice-2.result.now c.in_ok-bytes.field-0
    c.in_ok-_other.field-0 c.requires.tree c.requires.counted c.in_ok-bytes.ensures.same c.in_ok-bytes.ensures.found c.in-Some.is c.as_slice.ensures c.as_slice-2.ensures
    (sym c.in-Some-lookup.ensures) c.from-number.ensures c.in_ok-_other.ensures.same c.in_ok-_other.ensures.found c.in_default-2.not-Some c.in_ok-links.ensures.same c.in_ok-links.ensures.links)
    (once_there (files_seen g.D.Disk.image c.args.tree.now.kernel) (files_seen g.D.Disk.image c.directory.new.self.kernel) (files_seen g.D.Disk.image c.directory-2.new.self.kernel)
    (files_seen g.D.Disk.image c.links_of.new.self.kernel)
    c.args.from c.in-Some-lookup.number c.from-number.result c.in_ok-links.links c.args.name.now c.in-Some.bytes c.as_slice.result.now c.as_slice-2.result.now c.in_ok-bytes.field-0
    c.in_ok-_other.field-0 c.requires.tree c.requires.counted c.in_ok-bytes.ensures.same c.in_ok-bytes.ensures.found c.in-Some.is c.as_slice.ensures c.as_slice-2.ensures
    (sym c.in-Some-lookup.ensures) c.from-number.ensures c.in_ok-_other.ensures.same c.in_ok-_other.ensures.found c.in_default-2.not-Some c.in_ok-links.ensures.same c.in_ok-links.ensures.links few)
    (plain_there (files_seen g.D.Disk.image c.args.tree.now.kernel) (files_seen g.D.Disk.image c.directory.new.self.kernel) (files_seen g.D.Disk.image c.directory-2.new.self.kernel)
    (files_seen g.D.Disk.image c.links_of.new.self.kernel)
    c.args.from c.in-Some-lookup.number c.from-number.result c.in_ok-links.links c.args.name.now c.in-Some.bytes c.as_slice.result.now c.as_slice-2.result.now c.in_ok-bytes.field-0
    c.in_ok-_other.field-0 c.requires.tree c.requires.counted c.in_ok-bytes.ensures.same c.in_ok-bytes.ensures.found c.in-Some.is c.as_slice.ensures c.as_slice-2.ensures
    (sym c.in-Some-lookup.ensures) c.from-number.ensures c.in_ok-_other.ensures.same c.in_ok-_other.ensures.found c.in_default-2.not-Some c.in_ok-links.ensures.same c.in_ok-links.ensures.links)
    (subst (λ (f : Files). KeepsLinks c.args.from f new) still c.in_ok-dropped.ensures.links)
    (subst (λ (f : Files). DropsName f new c.args.from c.args.name.now c.from-number.result) still c.in_ok-dropped.ensures.drops)

pub returns-clause-made : goal.returns-clause-made
returns-clause-made g c =
    let few : c.in_ok-links.links ≤ 1 = omega (arith, c.if-links-gt1.false) in (
      c.from-number.result,
      inl (
        subst (λ (f : Files). DropsName f (files_seen g.D.Disk.image c.dropped.new.self.kernel) c.args.from c.args.name.now c.from-number.result) (c.in_ok-links.ensures.same ∙ c.in_ok-_other.ensures.same ∙ c.in_ok-bytes.ensures.same)
            c.in_ok-dropped.ensures.drops,
        once_there (files_seen g.D.Disk.image c.args.tree.now.kernel) (files_seen g.D.Disk.image c.directory.new.self.kernel) (files_seen g.D.Disk.image c.directory-2.new.self.kernel)
            (files_seen g.D.Disk.image c.links_of.new.self.kernel)
            c.args.from c.in-Some-lookup.number c.from-number.result c.in_ok-links.links c.args.name.now c.in-Some.bytes c.as_slice.result.now c.as_slice-2.result.now c.in_ok-bytes.field-0
            c.in_ok-_other.field-0 c.requires.tree c.requires.counted c.in_ok-bytes.ensures.same c.in_ok-bytes.ensures.found c.in-Some.is c.as_slice.ensures c.as_slice-2.ensures
            (sym c.in-Some-lookup.ensures) c.from-number.ensures c.in_ok-_other.ensures.same c.in_ok-_other.ensures.found c.in_default-2.not-Some c.in_ok-links.ensures.same c.in_ok-links.ensures.links
            few,
      ),
    )

pub links_of-requires-clause-there : goal.links_of-requires-clause-there
links_of-requires-clause-there g c =
    file_led (files_seen g.D.Disk.image c.args.tree.now.kernel) (files_seen g.D.Disk.image c.directory.new.self.kernel) (files_seen g.D.Disk.image c.directory-2.new.self.kernel)
    c.args.from c.in-Some-lookup.number c.from-number.result c.args.name.now c.in-Some.bytes c.as_slice.result.now c.in_ok-bytes.field-0 c.in_ok-_other.field-0
    c.requires.tree c.in_ok-bytes.ensures.same c.in_ok-bytes.ensures.found c.in-Some.is c.as_slice.ensures (sym c.in-Some-lookup.ensures) c.from-number.ensures
    c.in_ok-_other.ensures.same c.in_ok-_other.ensures.found c.in_default-2.not-Some
