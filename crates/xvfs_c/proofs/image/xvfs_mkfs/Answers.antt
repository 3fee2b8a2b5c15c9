use Rattle.std.proofs.Common.{◌≡◌, ◌∙◌, ap, subst}
use Rattle.blocks.specs.Disk.{Image}
use Rattle.model.specs.Codec.{made_image}
use Rattle.model.specs.declared.types.image.Form.{Form}
use Rattle.xvfs_c.specs.Images.{HasImage}
use Rattle.xvfs_c.proofs.Causes.{good_inodes, good_size, making_cause}
use Rattle.xvfs_c.proofs.Laying.{cut_long, has_laid, has_room, made_long}
use Rattle.xvfs_c.proofs.image.xvfs_mkfs.Goals as goal

pub returns-in-Err-clause-refused : goal.returns-in-Err-clause-refused
returns-in-Err-clause-refused c = λ _ _.
    let long = cut_long c.in-Some.count c.args.image.now c.in-Ok.disk.blocks.items c.in-Ok.ensures.image in
    record {
      count = c.in-Some.count;
      blocks = c.in-Some.ensures.some;
      fault = c.in-Err.fault;
      cause = making_cause c.in-Ok.disk c.mkfs_as.new.disk c.in-Some.count c.args.ninodes long c.in-Err.fault c.in-Err.ensures.refuses;
      named = c.mkfs_number.ensures;
    }

pub store-requires : goal.store-requires
store-requires c =
    has_room c.args.image.now c.mkfs_as.new.disk.blocks.items c.in-Some.count c.in-Some.ensures.some
    (made_long c.form_meant.result c.in-Some.count c.args.ninodes c.mkfs_as.new.disk.blocks.items c.in_default-mkfs_as.ensures.made.image)

pub returns-clause-made : goal.returns-clause-made
returns-clause-made c = λ _.
    let x : Image = c.mkfs_as.new.disk.blocks.items in
    let made = c.in_default-mkfs_as.ensures.made.image in
    let is : x ≡ made_image _ c.in-Some.count c.args.ninodes = made ∙ ap (λ (form : Form). made_image form c.in-Some.count c.args.ninodes) c.form_meant.ensures in
    let long = cut_long c.in-Some.count c.args.image.now c.in-Ok.disk.blocks.items c.in-Ok.ensures.image in
    record {
      count = c.in-Some.count;
      blocks = c.in-Some.ensures.some;
      inodes = good_inodes c.in-Ok.disk c.mkfs_as.new.disk c.in-Some.count c.args.ninodes long _ c.in_default-mkfs_as.ensures.refuses;
      size = good_size c.in-Ok.disk c.mkfs_as.new.disk c.in-Some.count c.args.ninodes long _ c.in_default-mkfs_as.ensures.refuses;
      made = subst (HasImage c.store.new.image) is
          (has_laid c.args.image.now c.store.new.image x c.in-Some.count c.in-Some.ensures.some c.mkfs_as.new.disk.is_image
          (made_long c.form_meant.result c.in-Some.count c.args.ninodes x made) c.store.ensures);
    }
