-- What a put is to a process that holds the block.
use Rattle.std.proofs.Common.{◌≡◌, ◌∙◌, ap, refl, ℕ, List, set}
use Rattle.blockmap.specs.Common.{block_at, block_or_zero, buffer, Ghosts, Holds, noted, overwritten, seen, VolumeState}
use Rattle.blockmap.specs.Getting.{Puts, WritesBlock, block_at_slot, with_block_written}

-- block b is written, where those bytes make it the new one
pub writes_put : {D N : Type 0} (disk : Ghosts D N) (v : VolumeState D) (p i b at : ℕ)
    (bytes new : List ℕ) (w : VolumeState D) →
    Holds (seen (disk.image v.device) v.buffers) v.buffers p b i →
    overwritten (block_at (seen (disk.image v.device) v.buffers) b) at bytes ≡ new →
    Puts disk.image v p i at bytes w →
    WritesBlock disk v p i b (set (seen (disk.image v.device) v.buffers) b new) w
writes_put disk v p i b at bytes new w held makes puts =
    let x = seen (disk.image v.device) v.buffers in
    let here : block_at_slot v i ≡ b = ap block_or_zero held.block in
    let content : overwritten (buffer v.buffers i).bytes at bytes ≡ new =
    ap (λ (l : List ℕ). overwritten l at bytes) held.bytes ∙ makes in
    record {
      content = new;
      image = refl;
      buffers = ap (λ (u : VolumeState _). u.buffers) puts.volume
          ∙ ap (λ (c : ℕ). with_block_written v.buffers v.log i c
          (overwritten (buffer v.buffers i).bytes at bytes)) here
          ∙ ap (with_block_written v.buffers v.log i b) content;
      current = puts.current
          ∙ ap (λ (c : ℕ). set x c (overwritten (block_at x c) at bytes)) here
          ∙ ap (set x b) makes;
      log = ap (λ (u : VolumeState _). u.log) puts.volume ∙ ap (noted v.log p) here;
      device = ap (λ (u : VolumeState _). u.device) puts.volume;
      fault = ap (λ (u : VolumeState _). u.fault) puts.volume;
      locks = puts.locks;
    }
