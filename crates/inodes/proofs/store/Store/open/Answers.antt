use Rattle.std.proofs.Common.{◌≡◌, length, replicate, sym, ◌∙◌, ap, subst, List}
use Rattle.inodes.specs.Store.{FitsFiles}
use Rattle.std.specs.Prelude.{IfNone}
use Rattle.inodes.specs.Common.{Agrees, AreLooking, claims_of, current_of, files_of, FitsHeld, form_of, fresh_buffers, HaveLogged, Image, inode_count_of, IsLawfulGeometry, new_log, new_table, no_task, TableState, TaskState, VolumeState}
use Rattle.in_flight.specs.Lemmas.Soundly.{fits_sound}
use Rattle.wal.specs.Lemmas.Volume.{fresh_seen}
use Rattle.inodes.specs.Lemmas.Faults.{if_none}
use Rattle.inodes.proofs.LooksKept.{held_opened, looks_opened}
use Rattle.inodes.proofs.StoreKeeps.{agrees_opened, logged_opened}
use Rattle.inodes.proofs.store.Store.open.Goals as goal

pub invariant_of-result : goal.invariant_of-result
invariant_of-result g c =
    let image = g.D.Disk.image in
    let d = c.args.volume.device in
    let n = c.args.sup.now.ninodes in
    let now : current_of image c.args.volume ≡ image d = ap (λ (v : VolumeState _). current_of image v) c.requires.volume ∙ fresh_seen (image d) in
    let fits = fits_sound (image d) (g.met.D.Disk.is_image d) c.requires.sound in
    record {
      few = c.requires.few;
      geometry = subst IsLawfulGeometry (sym now) c.requires.sound.geometry;
      numbers = ap (λ (t : TableState). t.inode_count) c.new.ensures ∙ c.requires.numbers ∙ sym (ap inode_count_of now);
      form = ap (λ (t : TableState). t.form) c.new.ensures ∙ c.requires.form ∙ sym (ap form_of now);
      agrees = subst (λ (v : VolumeState _). IfNone v.fault (Agrees v.buffers v.log c.new.result.inode_count c.args.tasks)) (sym c.requires.volume)
          (subst (λ (ts : List TaskState). Agrees fresh_buffers (new_log (length (image d))) c.new.result.inode_count ts) (sym c.requires.tasks)
          (agrees_opened (new_log (length (image d))) c.new.result.inode_count (length c.args.tasks)));
      looks = subst (λ (t : TableState). IfNone c.args.volume.fault (AreLooking (current_of image c.args.volume) t c.args.tasks)) (sym c.new.ensures)
          (if_none c.args.volume.fault (subst (λ (x : Image). AreLooking x (new_table c.args.form n) c.args.tasks) (sym now)
          (subst (λ (ts : List TaskState). AreLooking (image d) (new_table c.args.form n) ts) (sym c.requires.tasks) (looks_opened c.args.form (files_of (image d)) (image d) n (length c.args.tasks) fits c.requires.few))));
      logged = subst (λ (ts : List TaskState). IfNone c.args.volume.fault (HaveLogged (current_of image c.args.volume) c.args.volume.log ts)) (sym c.requires.tasks)
          (if_none c.args.volume.fault (logged_opened (current_of image c.args.volume) c.args.volume.log (length c.args.tasks)));
    }

pub returns-clause-files : goal.returns-clause-files
unfolding FitsFiles
returns-clause-files g c =
    let image = g.D.Disk.image in
    let d = c.args.volume.device in
    let now : current_of image c.args.volume ≡ image d = ap (λ (v : VolumeState _). current_of image v) c.requires.volume ∙ fresh_seen (image d) in
    subst (λ (ts : List TaskState). FitsHeld (files_of (image d)) (current_of image c.args.volume) (claims_of ts)) (sym c.requires.tasks)
    (subst (λ (y : Image). FitsHeld (files_of (image d)) y (claims_of (replicate (length c.args.tasks) no_task))) (sym now)
    (held_opened (files_of (image d)) (image d) (length c.args.tasks) (fits_sound (image d) (g.met.D.Disk.is_image d) c.requires.sound)))
