use Rattle.std.proofs.Common.{◌≡◌, List, arith, ap, inl, length, subst, sym, take}
use Rattle.std.proofs.lemmas.List.{take_all}
use Rattle.blocks.specs.Disk.{block_at}
use Rattle.blocks.specs.Held.{Write, applied, chosen}
use Rattle.blocks.specs.Lemmas.Held.{chosen_held}
use Rattle.lost_writes.specs.Device.{TornImages}
use Rattle.lost_writes.proofs.Writes.{held_is_torn}
use Rattle.lost_writes.proofs.laws.forgotten_breaks_off.Goals as goal

pub returns : goal.returns
returns c x z held brought same =
    let all : take (length held) held ≡ held = take_all (length held) held (omega arith) in
    let left = held_is_torn z (chosen z held brought) held (chosen_held z held brought same) in
    inl (
      length held,
      subst (λ (writes : List Write). TornImages z writes (chosen z held brought)) (sym all) left,
      record {
        size = ap (λ (writes : List Write). length (applied x writes)) (sym all);
        each = λ b. inl (ap (λ (writes : List Write). block_at (applied x writes) b) (sym all));
      },
    )
