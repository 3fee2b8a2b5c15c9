use Rattle.std.proofs.Common.{◌≡◌, ◌∙◌, ◌<◌, ◌-◌, ℕ, List, ap, false, get_or, is_some, length, map, subst, sym}
use Rattle.blocks.specs.Disk.{Image}
use Rattle.model.specs.Files.{files_of, Files}
use Rattle.model.specs.Log.{recovered}
use Rattle.directories.specs.Tallying.{names_to, AreNameCounts, AreTaken, Takes}
use Rattle.directories.proofs.Takings.{counted_files, few_left, not_short, taken_by, too_many_by, turned_counts, written_whole}
use Rattle.directories.proofs.tallying.name_counts.Given.{Over}
use Rattle.directories.proofs.tallying.name_counts.Goals.{In_ok-short}
use Rattle.directories.proofs.tallying.name_counts.Goals as goal

module _ (g : Over) (c : In_ok-short g) where
  abbrev fs : Files
  fs = files_of (recovered (g.D.Disk.image c.args.disk.now))

  abbrev all : List ℕ
  all = c.in_ok-left.left.items

  long : length all ≡ length fs
  long = c.in_ok-left.ensures.long ∙ sym (counted_files (g.D.Disk.image c.args.disk.now) c.in_ok-image.image c.in_ok-image.ensures.ok.recovered)

  most : (i : ℕ) → i < length all → get_or all i 0 ≡ 32767
  most = c.in_ok-left.ensures.most

  takes : Takes (names_to fs) all c.take_all.new.left.items c.in_ok-short.short
  takes =
      subst (λ (y : Image). Takes (names_to (files_of (recovered y))) all c.take_all.new.left.items c.in_ok-short.short)
      c.open_checked.ensures.reads.image c.in_ok-short.ensures.takes

  taken : is_some c.in_ok-short.short ≡ false → AreTaken (names_to fs) all c.take_all.new.left.items
  taken none = taken_by (names_to fs) all c.take_all.new.left.items c.in_ok-short.short (not_short c.in_ok-short.short none) takes

pub returns-then-is_some-clause-told : goal.returns-then-is_some-clause-told
returns-then-is_some-clause-told g c =
    let at = (goal.at.returns-then-is_some-clause-told g c).In_ok-short in
    too_many_by (fs g at) c.requires.tree (all g at) (long g at) (most g at) c.take_all.new.left.items c.in_ok-short.short
    (sym c.is_some.ensures ∙ c.if-is_some.true) (takes g at)

pub turn_over-requires : goal.turn_over-requires
turn_over-requires g c =
    let at = (goal.at.turn_over-requires g c).In_ok-short in
    few_left (fs g at) c.requires.tree (all g at) (long g at) (most g at) c.deref_mut.result.now
    (subst (λ (l : List ℕ). AreTaken (names_to (fs g at)) (all g at) l) (sym c.deref_mut.ensures.value) (taken g at (sym c.is_some.ensures ∙ c.if-is_some.false)))

pub returns-clause-told : goal.returns-clause-told
returns-clause-told g c =
    let at = (goal.at.returns-clause-told g c).In_ok-short in
    let left = c.take_all.new.left in
    let after = c.turn_over.new.left in
    let same : length after ≡ length left.items = c.turn_over.auto.left ∙ ap length c.deref_mut.ensures.value in
    subst (λ (l : List ℕ). AreNameCounts (fs g at) l) (sym (written_whole after left.items left.len same left.ok.0))
    (turned_counts (fs g at) c.requires.tree (all g at) (long g at) (most g at) left.items after (taken g at (sym c.is_some.ensures ∙ c.if-is_some.false))
    (c.turn_over.ensures ∙ ap (map (λ n. 32767 - n)) c.deref_mut.ensures.value))
