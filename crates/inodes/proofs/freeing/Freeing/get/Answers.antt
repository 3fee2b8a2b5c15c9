use Rattle.std.proofs.Common.{rules, ◌≡◌, sym, subst, ℕ, List, Option}
use Rattle.inodes.specs.Common.{block_at, block_next, GetsFor, seen, taken, when_got}
use Rattle.inodes.proofs.freeing.Freeing.get.Goals as goal

pub returns-in-Some : goal.returns-in-Some
returns-in-Some g c =
    let m = c.args.self.now in
    let x = seen (g.D.Disk.image c.args.volume.now.device) c.args.volume.now.buffers in
    let slot = c.in-Some.slot in
    let bytes : c.data.result.now ≡ block_at x (block_next m) = search rules in
    record {
      slot = c.get-progress.new.slot;
      gets = subst (λ (b : ℕ). GetsFor g.D.Disk c.args.volume.now c.args.pid b c.get-progress.result c.get-progress.new.slot c.get-progress.new.self) c.next_block.ensures c.get-progress.ensures;
      next = subst (λ (o : Option ℕ). c.take.new.self ≡ when_got x o m) (sym c.in-Some.is) (subst (λ (l : List ℕ). c.take.new.self ≡ taken l slot m.machine.at m) bytes c.take.ensures);
    }
