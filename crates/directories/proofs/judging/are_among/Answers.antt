use Rattle.std.proofs.Common.{◌≡◌, ◌∙◌, ◌<◌, ℕ, ⊎_elim, ap, refl, sym, subst, arith}
use Rattle.std.proofs.lemmas.Bool.{true≢false}
use Rattle.blocks.specs.Disk.{Image}
use Rattle.blocks.specs.Lemmas.Reads.{reads_none, reads_then}
use Rattle.model.specs.Files.{file_in, files_of}
use Rattle.model.specs.Layout.{inode_of}
use Rattle.model.specs.Log.{recovered}
use Rattle.directories.specs.Checks.{IsAmong}
use Rattle.offline.specs.Checked.{IsCheckedOf}
use Rattle.directories.specs.Trees.{kind_of, IsFile}
use Rattle.directories.specs.Lemmas.FoundNext.{at_last}
use Rattle.directories.proofs.Looked.{none_by_kind, number_inside}
use Rattle.directories.proofs.judging.are_among.Goals as goal
use Rattle.directories.proofs.judging.are_among.Goals.{else-kind-ne0-via-then-kind-ne0+else-not-is_number_among, else-kind-ne0-via-else-kind-ne0}

pub loop-i-init : goal.loop-i-init
loop-i-init g c = record {
  reads = reads_none g.D.Disk c.args.disk.now;
  faults = refl;
  among = λ k low there.
      let inside = number_inside (g.D.Disk.image c.args.disk.now) c.args.image.now c.requires.recovered k there in
      let from = inside.0 in absurd (omega (arith, low, from));
}

pub kind_at-requires : goal.kind_at-requires
kind_at-requires g c = subst (λ (y : Image). IsCheckedOf y c.args.image.now) (sym c.loop-i.invariant.reads.image) c.requires

pub returns-then-not-is_number_among-clause-among : goal.returns-then-not-is_number_among-clause-among
returns-then-not-is_number_among-clause-among g c =
    let files = files_of (recovered (g.D.Disk.image c.args.disk.now)) in
    let kind : c.in_ok-kind.kind ≡ kind_of (file_in files c.loop-i.i) =
    c.in_ok-kind.ensures.kind ∙ ap (λ (y : Image). kind_of (file_in (files_of (recovered y)) c.loop-i.i)) c.loop-i.invariant.reads.image in
    let there : IsFile files c.loop-i.i = λ none. c.if-kind-ne0.true (kind ∙ ap kind_of none) in
    (λ no. absurd (true≢false (sym no)), λ all. absurd (true≢false (sym (c.is_number_among.ensures.1 (all c.loop-i.i there)) ∙ c.if-not-is_number_among.true)))

pub loop-i-preserved : goal.loop-i-preserved
loop-i-preserved g c =
    let d = g.D.Disk in
    let files = files_of (recovered (d.image c.args.disk.now)) in
    let i = c.loop-i.i in
    let kind : c.in_ok-kind.kind ≡ kind_of (file_in files i) =
    c.in_ok-kind.ensures.kind ∙ ap (λ (y : Image). kind_of (file_in (files_of (recovered y)) i)) c.loop-i.invariant.reads.image in
    let here : IsFile files i → IsAmong c.args.numbers.now i =
    λ there. elim c.else-kind-ne0.branch [
      | else-kind-ne0-via-then-kind-ne0+else-not-is_number_among w ↦ w.is_number_among.ensures.0 w.if-not-is_number_among.false
      | else-kind-ne0-via-else-kind-ne0 w ↦ absurd (there (none_by_kind (d.image c.args.disk.now) c.args.image.now c.requires.recovered i (inode_of (recovered (d.image c.args.disk.now)) i) (λ zero. omega (arith, zero, c.loop-i.auto.i)) (omega (arith, c.loop-i-test.true, c.loop-i.auto.i-end)) refl (sym kind ∙ w.if-kind-ne0.false)))
    ] in
    record {
      reads = reads_then d c.args.disk.now c.loop-i.disk c.kind_at.new.disk c.loop-i.invariant.reads c.kind_at.ensures.reads;
      faults = c.in_ok-kind.ensures.faults ∙ c.loop-i.invariant.faults;
      among = λ k low there.
          ⊎_elim (λ (before : k < i). c.loop-i.invariant.among k before there)
          (λ (same : k ≡ i). subst (λ (n : ℕ). IsAmong c.args.numbers.now n) (sym same) (here (subst (λ (n : ℕ). IsFile files n) same there)))
          (at_last k i low);
    }

pub returns-clause-among : goal.returns-clause-among
returns-clause-among g c = (
  λ yes i there.
      let inside = number_inside (g.D.Disk.image c.args.disk.now) c.args.image.now c.requires.recovered i there in
      let low = inside.1 in
      let end = c.loop-i-test.false in
      c.loop-i.invariant.among i (omega (arith, low, end, c.loop-i.auto.i-end)) there,
  λ all. refl,
)
