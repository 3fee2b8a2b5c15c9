use Rattle.inodes.specs.Lemmas.Grips.{kept_by_refer, kept_by_lock, kept_by_renew, kept_by_leave, kept_by_image, is_table_at_opening}
use Rattle.inodes.proofs.laws.table_kept.Goals as goal

pub returns : goal.returns
returns c = record {
  refer = kept_by_refer;
  lock = kept_by_lock;
  renew = kept_by_renew;
  leave = kept_by_leave;
  image = kept_by_image;
  opening = is_table_at_opening;
}
