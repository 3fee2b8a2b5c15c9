use Rattle.std.proofs.Common.{rules, ◌≡◌, sym, subst}
use Rattle.std.specs.Prelude.{None}
use Rattle.inodes.specs.Common.{claims_of, current_of, FitsHeld, IsStore, StoreState, VolumeState}
use Rattle.inodes.specs.Store.{FitsFiles}
use Rattle.inodes.specs.Lemmas.Faults.{where_none, if_none}
use Rattle.inodes.proofs.Standing.{with_others}
use Rattle.inodes.proofs.StoreKeeps.{agrees_ended, logged_ended}
use Rattle.inodes.proofs.store.Store.end.Goals as goal

pub invariant_of-self : goal.invariant_of-self
invariant_of-self g c =
    let image = g.D.Disk.image in
    let old = c.self.inside.volume in
    let ts = c.self.inside.tasks in
    let well : old.fault ≡ None = search rules in
    subst (λ (v : VolumeState _). IsStore image (record { volume = v; tasks = ts; table = c.self.inside.inodes })) (sym c.end.ensures.volume) (with_others image _ _ ts c.self.invariant c.self.invariant.few
    (if_none old.fault (agrees_ended old.buffers old.log c.self.inside.inodes.inode_count c.args.pid ts (where_none old.fault well c.self.invariant.agrees) (search rules))) c.self.invariant.looks
    (if_none old.fault (logged_ended (current_of image old) old.log c.args.pid ts (search rules) (where_none old.fault well c.self.invariant.logged))))

pub returns-clause-files : goal.returns-clause-files
unfolding FitsFiles
returns-clause-files g c = λ files fits.
    let image = g.D.Disk.image in
    subst (λ (v : VolumeState _). FitsHeld files (current_of image v) (claims_of c.self.inside.tasks)) (sym c.end.ensures.volume)
    (subst (λ (s : StoreState _). FitsHeld files (current_of image s.volume) (claims_of s.tasks)) (sym c.self.view_is) fits)
