use Rattle.std.proofs.Common.{◌≡◌, ◌∙◌, ◌<◌, true, false, sym, ap, subst, rules, arith}
use Rattle.model.specs.Files.{Files, file_in}
use Rattle.names.specs.Inside.{files_seen}
use Rattle.directories.specs.Trees.{links_of, IsDown, IsTree}
use Rattle.names.proofs.Emptied.{gone, gone_stays, led_full, may_empty}
use Rattle.names.proofs.Entering.{found_bytes}
use Rattle.names.proofs.Named.{directory_counts}
use Rattle.names.proofs.undirecting.RemoveDirectoryChangeIn.apply_in.Goals as goal

pub dropped-requires-clause-tree : goal.dropped-requires-clause-tree
dropped-requires-clause-tree g c = subst (λ (f : Files). IsTree f) (sym (c.in_ok-links.ensures.same ∙ c.in_ok-empty.ensures.same ∙ c.in_ok-bytes.ensures.same)) c.requires.tree

pub returns-then-not-empty-clause-made : goal.returns-then-not-empty-clause-made
returns-then-not-empty-clause-made g c =
    let full : c.in-Some-2.empty ≡ false = search rules in (
      c.in_ok-empty.ensures.same ∙ c.in_ok-bytes.ensures.same,
      led_full (files_seen g.D.Disk.image c.args.tree.now.kernel) (files_seen g.D.Disk.image c.directory.new.self.kernel) c.args.from c.in-Some-lookup.number
          c.from-number.result c.args.name.now c.in-Some.bytes c.as_slice.result.now c.in_ok-bytes.field-0 c.in_ok-empty.field-0 c.in-Some-2.empty
          c.in_ok-bytes.ensures.found c.in-Some.is c.as_slice.ensures (sym c.in-Some-lookup.ensures) c.from-number.ensures c.in_ok-bytes.ensures.same
          c.in_ok-empty.ensures.found c.in-Some-2.is full,
    )

pub dropped-requires-clause-drops : goal.dropped-requires-clause-drops
dropped-requires-clause-drops g c =
    let down : IsDown c.args.name.now = search rules in
    let empty : c.in-Some-2.empty ≡ true = search rules in
    may_empty (files_seen g.D.Disk.image c.args.tree.now.kernel) (files_seen g.D.Disk.image c.directory.new.self.kernel) (files_seen g.D.Disk.image c.links_of.new.self.kernel)
    c.args.from c.in-Some-lookup.number c.from-number.result c.args.name.now c.in-Some.bytes c.as_slice.result.now c.as_slice-2.result.now c.in_ok-bytes.field-0
    c.in_ok-empty.field-0 c.in-Some-2.empty c.in_ok-bytes.ensures.same c.in_ok-bytes.ensures.found c.in-Some.is down c.as_slice.ensures c.as_slice-2.ensures
    (sym c.in-Some-lookup.ensures) c.from-number.ensures (c.in_ok-links.ensures.same ∙ c.in_ok-empty.ensures.same) c.in_ok-empty.ensures.found c.in-Some-2.is empty c.requires.tree

pub returns-clause-tree : goal.returns-clause-tree
returns-clause-tree g c =
    let down : IsDown c.args.name.now = search rules in
    let empty : c.in-Some-2.empty ≡ true = search rules in
    gone_stays (files_seen g.D.Disk.image c.args.tree.now.kernel) (files_seen g.D.Disk.image c.directory.new.self.kernel) (files_seen g.D.Disk.image c.links_of.new.self.kernel)
    c.args.from c.in-Some-lookup.number c.from-number.result c.args.name.now c.in-Some.bytes c.as_slice.result.now c.as_slice-2.result.now c.in_ok-bytes.field-0
    c.in_ok-empty.field-0 c.in-Some-2.empty c.in_ok-bytes.ensures.same c.in_ok-bytes.ensures.found c.in-Some.is down c.as_slice.ensures c.as_slice-2.ensures
    (sym c.in-Some-lookup.ensures) c.from-number.ensures (c.in_ok-links.ensures.same ∙ c.in_ok-empty.ensures.same) c.in_ok-empty.ensures.found c.in-Some-2.is empty c.requires.tree
    (files_seen g.D.Disk.image c.dropped.new.self.kernel) (files_seen g.D.Disk.image c.relinked.new.self.kernel) c.in_ok-links.links c.in_ok-dropped.ensures.drops
    c.in_ok-dropped.ensures.links (c.in_ok-links.ensures.links ∙ ap (λ (f : Files). links_of (file_in f c.args.from)) (sym c.in_ok-links.ensures.same)) c.requires.counted c.in_ok-relinked.ensures.relinks

pub returns-clause-made : goal.returns-clause-made
returns-clause-made g c =
    let down : IsDown c.args.name.now = search rules in
    let empty : c.in-Some-2.empty ≡ true = search rules in (
      c.from-number.result,
      gone (files_seen g.D.Disk.image c.args.tree.now.kernel) (files_seen g.D.Disk.image c.directory.new.self.kernel) (files_seen g.D.Disk.image c.links_of.new.self.kernel)
          c.args.from c.in-Some-lookup.number c.from-number.result c.args.name.now c.in-Some.bytes c.as_slice.result.now c.as_slice-2.result.now c.in_ok-bytes.field-0
          c.in_ok-empty.field-0 c.in-Some-2.empty c.in_ok-bytes.ensures.same c.in_ok-bytes.ensures.found c.in-Some.is down c.as_slice.ensures c.as_slice-2.ensures
          (sym c.in-Some-lookup.ensures) c.from-number.ensures (c.in_ok-links.ensures.same ∙ c.in_ok-empty.ensures.same) c.in_ok-empty.ensures.found c.in-Some-2.is empty c.requires.tree
          (files_seen g.D.Disk.image c.dropped.new.self.kernel) (files_seen g.D.Disk.image c.relinked.new.self.kernel) c.in_ok-links.links c.in_ok-dropped.ensures.drops
          c.in_ok-dropped.ensures.links (c.in_ok-links.ensures.links ∙ ap (λ (f : Files). links_of (file_in f c.args.from)) (sym c.in_ok-links.ensures.same)) c.requires.counted c.in_ok-relinked.ensures.relinks,
    )

pub overflow_sub-links : goal.overflow_sub-links
overflow_sub-links g c =
    let fs : Files = files_seen g.D.Disk.image c.args.tree.now.kernel in
    let is = found_bytes fs c.args.from c.in_ok-bytes.field-0 c.in-Some.bytes c.in-Some.is c.in_ok-bytes.ensures.found in
    let some : 0 < links_of (file_in fs c.args.from) = directory_counts fs c.args.from c.requires.tree c.requires.counted is.0 in
    let count : c.in_ok-links.links ≡ links_of (file_in fs c.args.from) =
    c.in_ok-links.ensures.links ∙ ap (λ (f : Files). links_of (file_in f c.args.from)) (c.in_ok-empty.ensures.same ∙ c.in_ok-bytes.ensures.same) in
    omega arith
