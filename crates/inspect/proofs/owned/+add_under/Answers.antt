use Rattle.std.proofs.Common.{◌≡◌, ◌∙◌, ◌-◌, ◌+◌, ◌++◌, ◌<◌, ℕ, List, drop, get_or, length, ap, sym, subst, arith}
use Rattle.std.specs.List.{flat_map}
use Rattle.std.proofs.lemmas.List.{append-nil}
use Rattle.blocks.specs.Disk.{Image, block_at}
use Rattle.blocks.specs.Lemmas.Reads.{reads_then}
use Rattle.model.specs.Fields.{words_of}
use Rattle.model.specs.Log.{recovered}
use Rattle.model.specs.Lemmas.Log.{length-recovered}
use Rattle.offline.specs.Recovered.{IsRecoveredOf}
use Rattle.inspect.specs.Owned.{owned_under}
use Rattle.inspect.proofs.OwnedLemmas.{under_none, names_here, names_entry, entry_more, entry_all, under_done}
use Rattle.inspect.specs.Lemmas.Gathered.{next_done}
use Rattle.inspect.proofs.owned.+add_under.Goals as goal

pub returns-then-top-eq0-clause-added : goal.returns-then-top-eq0-clause-added
returns-then-top-eq0-clause-added g t c =
    let top = c.args.top in
    rw (under_none (recovered (g.D.Disk.image c.args.disk.now)) top.file top.depth top.block c.if-top-eq0.true) (sym (append-nil _))

pub block-requires-clause-other : goal.block-requires-clause-other
block-requires-clause-other g t c = λ e.
    let here = (names_here (recovered (g.D.Disk.image c.args.disk.now)) c.args.top.depth c.args.top.block c.if-top-eq0.false c.requires.behind).0 in
    omega (arith, here, e)

pub block-requires-clause-inside : goal.block-requires-clause-inside
block-requires-clause-inside g t c =
    let x = g.D.Disk.image c.args.disk.now in
    let here = (names_here (recovered x) c.args.top.depth c.args.top.block c.if-top-eq0.false c.requires.behind).1 in
    omega (arith, here, length-recovered x)

pub add_under-requires : goal.add_under-requires
add_under-requires g t c = λ κs lives.
    let d = g.D.Disk in
    let x = d.image c.args.disk.now in
    let y = recovered x in
    let top = c.args.top in
    let words = c.read_all-addresses.result in
    let k = c.loop-k.k in
    let read : words ≡ words_of (block_at y top.block) = c.read_all-addresses.ensures.value ∙ ap words_of c.in_ok-block.ensures.ok in
    let low : k < length words = omega (arith, c.read_all-addresses.ensures.len) in
    let same = c.loop-k.invariant.reads.image in
    let entry = names_entry y top.depth top.block k c.if-top-eq0.false c.if-top-eq0-2.false c.requires.behind
    (subst (λ (ws : List ℕ). k < length ws) read low) in (
      omega arith,
      (
        lives.0,
        (
          lives.1,
          (
            subst (λ (z : Image). IsRecoveredOf z c.args.image.now) (sym same) c.requires.recovered,
            (
              omega arith,
              rw (same, read) entry,
            ),
          ),
        ),
      ),
    )

pub loop-k-preserved : goal.loop-k-preserved
loop-k-preserved g t c =
    let d = g.D.Disk in
    let y = recovered (d.image c.args.disk.now) in
    let top = c.args.top in
    let depth = top.depth - 1 in
    let words = c.read_all-addresses.result in
    let k = c.loop-k.k in
    let before = c.loop-k.invariant in
    let under = λ (ws : List ℕ). flat_map (λ a. owned_under y top.file depth a) ws in
    let added = subst (λ (z : Image). c.add_under.new.owned.items ≡ c.loop-k.owned.items ++ owned_under (recovered z) top.file depth (get_or words k 0))
    before.reads.image c.in_ok-add_under.ensures.added in
    record {
      reads = reads_then d c.args.disk.now c.loop-k.disk c.add_under.new.disk before.reads c.add_under.ensures.reads;
      faults = c.in_ok-add_under.ensures.faults ∙ before.faults;
      added = next_done c.loop-k.owned.items c.add_under.new.owned.items (owned_under y top.file depth (get_or words k 0)) (under (drop k words)) (under (drop (k + 1) words))
          (c.push.new.self.items ++ under words) before.added (entry_more y top.file depth words k (omega (arith, c.read_all-addresses.ensures.len))) added;
    }

pub returns-clause-added : goal.returns-clause-added
returns-clause-added g t c =
    let d = g.D.Disk in
    let y = recovered (d.image c.args.disk.now) in
    let top = c.args.top in
    let words = c.read_all-addresses.result in
    let k = c.loop-k.k in
    let read : words ≡ words_of (block_at y top.block) = c.read_all-addresses.ensures.value ∙ ap words_of c.in_ok-block.ensures.ok in
    under_done y top words c.args.owned.now.items c.push.new.self.items c.loop-k.owned.items (flat_map (λ a. owned_under y top.file (top.depth - 1) a) (drop k words))
    c.if-top-eq0.false c.if-top-eq0-2.false read c.in_ok-push.ensures.items c.loop-k.invariant.added
    (entry_all y top.file (top.depth - 1) words k (omega (arith, c.read_all-addresses.ensures.len)))
