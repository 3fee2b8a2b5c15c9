use Rattle.std.proofs.Common.{rules, refl, ap, sym, subst}
use Rattle.inodes.specs.Common.{IsStore, StoreState, TableState}
use Rattle.inodes.proofs.Leaving.{low_leaving, store_over, steps_over}
use Rattle.inodes.proofs.Standing.{steps_as}
use Rattle.inodes.proofs.store.Store.leave.Goals as goal

pub leave-requires : goal.leave-requires
leave-requires g c =
    low_leaving g.D.Disk _ c.args.pid c.args.place c.self.invariant (search rules) (search rules) (search rules)

pub invariant_of-self : goal.invariant_of-self
invariant_of-self g c =
    let s : StoreState _ = record { volume = c.self.inside.volume; tasks = c.self.inside.tasks; table = c.self.inside.inodes } in
    subst (λ (t : TableState). IsStore g.D.Disk.image (record { volume = s.volume; tasks = c.finish.new.self; table = t })) (sym c.leave.ensures)
    (store_over g.D.Disk s c.args.pid c.args.place c.self.invariant (search rules) (search rules) (search rules) c.finish.new.self c.finish.ensures)

pub returns : goal.returns
returns g c =
    let s : StoreState _ = record { volume = c.self.inside.volume; tasks = c.self.inside.tasks; table = c.self.inside.inodes } in
    record {
      step = λ op is. steps_as c.self.view_is refl (ap (λ (t : TableState). record { volume = s.volume; tasks = c.finish.new.self; table = t }) (sym c.leave.ensures))
          (steps_over g.D.Disk s c.args.pid c.args.place c.self.invariant (search rules) (search rules) (search rules) c.finish.new.self c.finish.ensures op);
    }
