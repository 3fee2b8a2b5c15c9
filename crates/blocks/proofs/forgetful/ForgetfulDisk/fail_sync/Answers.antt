use Rattle.std.proofs.Common.{◌≡◌, ◌∙◌, ap, length, List, sym}
use Rattle.blocks.specs.Common.{applied, Image, Write}
use Rattle.blocks.specs.Disk.{block_at}
use Rattle.blocks.specs.ForgetfulDisk.{device_of, held_of}
use Rattle.blocks.specs.SyncDisk.{held_of as held_below, synced_of}
use Rattle.blocks.proofs.ForgetfulLemmas.{applied_other, chosen_other}
use Rattle.blocks.proofs.HeldLemmas.{length-chosen}
use Rattle.blocks.proofs.forgetful.ForgetfulDisk.fail_sync.Goals as goal

pub invariant_of-self : goal.invariant_of-self
invariant_of-self c =
    let d = c.args.self.now in
    record {
      same_size = ap length (c.in_ok-self.ensures.image ∙ c.in_ok-device.ensures.image) ∙ length-chosen (device_of d) (held_of d) c.args.brought.now ∙ d.below.same_size ∙ d.same_size;
    }

pub returns-clause-lacking : goal.returns-clause-lacking
returns-clause-lacking c b none =
    let d = c.args.self.now in
    let e = c.in_ok-self.field-0 in
    let device : synced_of e ≡ _ = c.in_ok-self.ensures.synced ∙ c.in_ok-device.ensures.image in
    let same : block_at (applied (synced_of e) (held_below e)) b ≡ block_at (applied (device_of d) (held_of d)) b =
    ap (λ (h : List Write). block_at (applied (synced_of e) h) b) c.in_ok-self.ensures.held
    ∙ ap (λ (x : Image). block_at x b) device
    ∙ chosen_other (device_of d) (held_of d) c.args.brought.now b none ∙ sym (applied_other (device_of d) (held_of d) b none) in
    (λ lacks is. lacks (same ∙ is), λ lacks is. lacks (sym same ∙ is))
