use Rattle.std.proofs.Common.{rules, false, refl, ◌≡◌, sym, subst, ◌∙◌}
use Rattle.std.specs.Prelude.{None}
use Rattle.inodes.specs.Common.{claims_of, Commits, current_of, form_same, held_outside, is_quiet, StoreState}
use Rattle.inodes.specs.Store.{FitsFiles}
use Rattle.wal.specs.Lemmas.Commits.{commit_log}
use Rattle.inodes.specs.Lemmas.Faults.{where_none, if_none}
use Rattle.inodes.proofs.StoreKeeps.{geometry_kept, count_kept, agrees_committed, logged_committed}
use Rattle.inodes.proofs.LooksKept.{looks_outside}
use Rattle.inodes.proofs.store.Store.commit_step.Goals as goal

pub invariant_of-self : goal.invariant_of-self
invariant_of-self g c =
    let image = g.D.Disk.image in
    let old = c.self.inside.volume in
    let new = c.commit_step.new.self in
    let n = c.self.inside.inodes.inode_count in
    let well : old.fault ≡ None = search rules in
    let e = c.commit_step.ensures.commits in
    let super = e.current.agree 1 refl in
    let joint = where_none old.fault well c.known.ensures.joint in
    let busy : is_quiet old.log.commit ≡ false = subst (λ (s : StoreState _). is_quiet s.volume.log.commit ≡ false) (sym c.self.view_is) c.requires.busy in
    record {
      few = c.self.invariant.few;
      geometry = geometry_kept (current_of image old) (current_of image new) e.current.size super c.self.invariant.geometry;
      numbers = c.self.invariant.numbers ∙ sym (count_kept (current_of image old) (current_of image new) super);
      form = c.self.invariant.form ∙ sym (form_same (current_of image old) (current_of image new) super);
      agrees = if_none new.fault (agrees_committed (g.D.Disk.holding (g.D.Disk.name old.device)) old.buffers new.buffers old.log new.log n c.self.inside.tasks (commit_log g.D.Disk old.device old.buffers old.log new.device new.buffers new.log c.commit_step.result e.write) e.locks joint.log busy (where_none old.fault well c.self.invariant.agrees));
      looks = if_none new.fault (looks_outside (current_of image old) (current_of image new) c.self.inside.inodes c.self.inside.tasks (where_none old.fault well c.self.invariant.looks) c.self.invariant.numbers e.current);
      logged = if_none new.fault (logged_committed (g.D.Disk.holding (g.D.Disk.name old.device)) (current_of image new) old.log new.log c.self.inside.tasks (commit_log g.D.Disk old.device old.buffers old.log new.device new.buffers new.log c.commit_step.result e.write) joint.log busy);
    }

pub returns : goal.returns
unfolding FitsFiles
returns g c =
    let image = g.D.Disk.image in
    let e = c.commit_step.ensures.commits in
    let old = c.self.inside.volume in
    let s : StoreState _ = record { volume = old; tasks = c.self.inside.tasks; table = c.self.inside.inodes } in
    let t : StoreState _ = record { volume = c.commit_step.new.self; tasks = c.self.inside.tasks; table = c.self.inside.inodes } in
    let promise : Commits g.D.Disk s c.commit_step.result t = record {
      volume = e;
      files = λ m fits. (held_outside m (current_of image old) (current_of image c.commit_step.new.self) (claims_of c.self.inside.tasks) e.current fits).fits;
      tasks = refl;
      table = refl;
    } in
    record { commits = subst (λ (k : StoreState _). Commits g.D.Disk k c.commit_step.result t) c.self.view_is promise }
