use Rattle.std.proofs.Common.{◌≡◌, ◌∙◌, Bool, List, ℕ, true, subst, sym}
use Rattle.std.specs.Prelude.{◌↔◌, IsTrue}
use Rattle.std.proofs.lemmas.Bool.{true≢false}
use Rattle.std.proofs.lemmas.Result.{IfOk-weaker}
use Rattle.blocks.specs.Disk.{Image}
use Rattle.model.specs.Files.{files_of, Files}
use Rattle.model.specs.Log.{recovered}
use Rattle.directories.specs.Judging.{AreAmong, ArePlain, HasLookedThrough}
use Rattle.directories.specs.Trees.{IsDirectory, IsTree}
use Rattle.directories.proofs.Judged.{not_plain, told_by}
use Rattle.directories.proofs.judging.is_tree_of.Given.{Over}
use Rattle.directories.proofs.judging.is_tree_of.Goals.{In_ok-are_plain}
use Rattle.directories.proofs.judging.is_tree_of.Goals as goal

-- all that was found was looked into, and what was found again as well
module _ (g : Over) (c : In_ok-are_plain g) where
  abbrev fs : Files
  fs = files_of (recovered (g.D.Disk.image c.args.disk.now))

  looked : HasLookedThrough fs c.look_through.new.numbers.items c.look_through.new.again.items true
  looked =
      subst (λ (b : Bool). HasLookedThrough fs c.look_through.new.numbers.items c.look_through.new.again.items b) c.if-not-branch.false
      (subst (λ (y : Image). HasLookedThrough (files_of (recovered y)) c.look_through.new.numbers.items c.look_through.new.again.items c.in_ok-look_through.field-0)
      c.kind_at.ensures.reads.image c.in_ok-look_through.ensures.looked)

  same : g.D.Disk.image c.look_through.new.disk ≡ g.D.Disk.image c.args.disk.now
  same = c.look_through.ensures.reads.image ∙ c.kind_at.ensures.reads.image

  plain : IsTrue c.in_ok-are_plain.field-0 ↔ ArePlain fs c.look_through.new.again.items
  plain =
      subst (λ (l : List ℕ). IsTrue c.in_ok-are_plain.field-0 ↔ ArePlain fs l) c.as_slice.ensures.value
      (subst (λ (y : Image). IsTrue c.in_ok-are_plain.field-0 ↔ ArePlain (files_of (recovered y)) c.as_slice.result.now) same c.in_ok-are_plain.ensures.plain)

pub returns-then-not-branch-2-clause-told : goal.returns-then-not-branch-2-clause-told
returns-then-not-branch-2-clause-told g c =
    let at = (goal.at.returns-then-not-branch-2-clause-told g c).In_ok-are_plain in (
      λ yes. absurd (true≢false (sym yes)),
      λ tree. absurd (not_plain (fs g at) c.look_through.new.numbers.items c.look_through.new.again.items (looked g at)
          (λ all. true≢false (sym ((plain g at).1 all) ∙ c.if-not-branch-2.true)) tree),
    )

pub returns-clause-told : goal.returns-clause-told
returns-clause-told g c =
    let at = (goal.at.returns-clause-told g c).In_ok-are_plain in
    let d = g.D.Disk in
    let numbers = c.look_through.new.numbers.items in
    let rooted : IsDirectory (fs g at) 1 = sym c.in_ok-kind_at.ensures.kind ∙ c.if-branch-ne-DIRECTORY_KIND.false in
    let still : d.image c.are_plain.new.disk ≡ d.image c.args.disk.now = c.are_plain.ensures.reads.image ∙ same g at in
    IfOk-weaker c.are_among.result (λ are. IsTrue are ↔ AreAmong (files_of (recovered (d.image c.are_plain.new.disk))) c.as_slice-2.result.now) (λ is. IsTrue is ↔ IsTree (fs g at))
    (λ are among. told_by (fs g at) numbers c.look_through.new.again.items are rooted (looked g at) ((plain g at).0 c.if-not-branch-2.false)
    (subst (λ (l : List ℕ). IsTrue are ↔ AreAmong (fs g at) l) c.as_slice-2.ensures.value
    (subst (λ (y : Image). IsTrue are ↔ AreAmong (files_of (recovered y)) c.as_slice-2.result.now) still among)))
    c.are_among.ensures.among
