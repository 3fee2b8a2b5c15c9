use Rattle.std.proofs.Common.{◌≡◌, ◌*◌, ◌∙◌, ap, false, refl, subst, sym, [], arith, length-set}
use Rattle.blocks.specs.Common.{get_or-set_same, Image, IsBlock, IsImage, IsSettledOn, IsShadow}
use Rattle.std.specs.Prelude.{List, ℕ, Option, IfSome}
use Rattle.std.specs.List.{concat}
use Rattle.blocks.specs.Placed.{WritesInPlace}
use Rattle.blocks.proofs.PlacedLemmas.{mirrors_written, writes_done}
use Rattle.blocks.proofs.HeldLemmas.{crash_shadow, elapses_on, lost_noted, shadow_written}
use Rattle.blocks.proofs.file.FileDiskDisk.write.Goals as goal

pub invariant_of-self-2-clause-shadowed : goal.invariant_of-self-2-clause-shadowed
invariant_of-self-2-clause-shadowed g c =
    let d = c.args.self.now in
    let done = c.in_ok-write.ensures in
    let plain = λ (free : d.holds ≡ false). subst (λ (x : Image). IsSettledOn x c.write-2.new.self.state) (ap (λ v. v.items) c.blocks-2.ensures.blocks ∙ done.ok) (c.write-2.ensures.plain free) in
    let block : IsBlock c.args.from.now = subst IsBlock (get_or-set_same d.copy.blocks.items c.args.block c.args.from.now [] c.requires)
    (subst IsImage done.ok c.write.new.self.is_image c.args.block (omega (arith, c.requires, length-set d.copy.blocks.items c.args.block c.args.from.now))) in
    subst (λ (x : Image). IsShadow d.holds x c.write-2.new.self) (sym done.ok)
    (shadow_written d.holds d.shadow c.write-2.new.self c.write-2.ensures.past d.copy.blocks.items c.args.block c.args.from.now d.shadowed c.write-2.ensures.held plain d.copy.is_image block)

pub returns-clause-writes : goal.returns-clause-writes
returns-clause-writes g c =
    let d = c.args.self.now in
    let done = c.in_ok-write.ensures in
    let plain = λ (free : d.holds ≡ false). subst (λ (x : Image). IsSettledOn x c.write-2.new.self.state) (ap (λ v. v.items) c.blocks-2.ensures.blocks ∙ done.ok) (c.write-2.ensures.plain free) in
    record {
      name = refl;
      ok = done.ok;
      err = tt;
      writes = done.writes;
      faults = refl;
      syncs = done.syncs;
      time = elapses_on d.shadow c.write-2.new.self c.write-2.ensures.past;
      crash = crash_shadow d.holds d.shadow c.write-2.new.self c.write-2.ensures.past d.copy.blocks.items c.args.block c.args.from.now d.shadowed c.write-2.ensures.held plain;
      may_lose = λ holds. lost_noted d.shadow c.write-2.new.self c.write-2.ensures.past c.args.block c.args.from.now (c.write-2.ensures.held holds);
    }

pub returns-clause-mirrors : goal.returns-clause-mirrors
returns-clause-mirrors g c had =
    let d = c.args.self.now in
    let old : Option (List ℕ) = g.F.Placed.bytes d.file in
    let new : Option (List ℕ) = g.F.Placed.bytes c.write_at.new.self in
    let bytes = subst (λ (v : List ℕ). WritesInPlace old new (c.args.block * 1024) v c.write_at.result) c.as_slice.ensures.value c.write_at.ensures.bytes in
    let does = writes_done old new (c.args.block * 1024) c.args.from.now c.write_at.result bytes (sym c.is_err.ensures.value ∙ c.if-is_err.false) in
    subst (λ (x : Image). IfSome new (λ xs. xs ≡ concat x)) (sym c.in_ok-write.ensures.ok)
    (mirrors_written old new d.copy.blocks.items c.args.block c.args.from.now d.copy.is_image c.requires c.as_slice.ensures.block had does)
