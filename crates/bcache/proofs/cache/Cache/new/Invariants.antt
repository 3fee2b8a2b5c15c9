use Rattle.std.proofs.Common.{◌≡◌, replicate}
use Rattle.bcache.specs.Common.{empty_buffer}
use Rattle.bcache.proofs.cache.Cache.new.Given as goal

abbrev pub invariant-loop-slot : goal.invariant-loop-slot
invariant-loop-slot l = l.buffers.items ≡ replicate l.slot empty_buffer
