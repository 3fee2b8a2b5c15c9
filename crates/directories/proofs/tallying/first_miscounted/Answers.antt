use Rattle.std.proofs.Common.{◌≡◌, ◌∙◌, ℕ, List, Option, None, subst, sym}
use Rattle.blocks.specs.Disk.{Image}
use Rattle.model.specs.Files.{file_in, files_of, Files}
use Rattle.model.specs.Log.{recovered}
use Rattle.directories.specs.Counts.{HasNames}
use Rattle.directories.specs.Tallying.{names_to, AreLinks, AreTaken, Takes}
use Rattle.directories.specs.Trees.{links_of}
use Rattle.directories.proofs.Takings.{told_by, wrong_by_short}
use Rattle.directories.proofs.tallying.first_miscounted.Given.{Over}
use Rattle.directories.proofs.tallying.first_miscounted.Goals.{In_ok-short}
use Rattle.directories.proofs.tallying.first_miscounted.Goals as goal

module _ (g : Over) (c : In_ok-short g) where
  abbrev fs : Files
  fs = files_of (recovered (g.D.Disk.image c.args.disk.now))

  links : AreLinks fs c.in_ok-left.left.items
  links = subst (λ (y : Image). AreLinks (files_of (recovered y)) c.in_ok-left.left.items) c.open_checked.ensures.reads.image c.in_ok-left.ensures.links

  takes : Takes (names_to fs) c.in_ok-left.left.items c.take_all.new.left.items c.in_ok-short.short
  takes =
      subst (λ (y : Image). Takes (names_to (files_of (recovered y))) c.in_ok-left.left.items c.take_all.new.left.items c.in_ok-short.short)
      (c.link_counts.ensures.reads.image ∙ c.open_checked.ensures.reads.image) c.in_ok-short.ensures.takes

  takes_at : (o : Option ℕ) → c.in_ok-short.short ≡ o → Takes (names_to fs) c.in_ok-left.left.items c.take_all.new.left.items o
  takes_at o is = subst (λ (p : Option ℕ). Takes (names_to fs) c.in_ok-left.left.items c.take_all.new.left.items p) is takes

pub returns-in-Some-clause-told : goal.returns-in-Some-clause-told
returns-in-Some-clause-told g c =
    let at = (goal.at.returns-in-Some-clause-told g c).In_ok-short in
    let files : Files = fs g at in
    subst (λ (n : ℕ). HasNames files n (links_of (file_in files n)) → ⊥) (sym c.from.ensures)
    (wrong_by_short files c.requires.tree c.in_ok-left.left.items c.take_all.new.left.items (links g at) c.in-Some.number (takes_at g at _ c.in-Some.is))

pub returns-clause-told : goal.returns-clause-told
returns-clause-told g c =
    let at = (goal.at.returns-clause-told g c).In_ok-short in
    let files : Files = fs g at in
    let taken : AreTaken (names_to files) c.in_ok-left.left.items c.take_all.new.left.items = takes_at g at None c.in-None.is in
    told_by files c.requires.tree c.in_ok-left.left.items c.as_slice.result.now (links g at)
    (subst (λ (l : List ℕ). AreTaken (names_to files) c.in_ok-left.left.items l) (sym c.as_slice.ensures.value) taken)
    c.first_left.result c.first_left.ensures.none c.first_left.ensures.some
