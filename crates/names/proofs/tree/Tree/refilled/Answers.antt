use Rattle.std.proofs.Common.{[], ℕ, refl, subst}
use Rattle.names.specs.Contents.{HasOnly}
use Rattle.names.specs.Inside.{files_seen}
use Rattle.names.specs.Writing.{HasWritten}
use Rattle.names.proofs.Going.{full_ends, goes_on, stays_on}
use Rattle.names.proofs.PlainPuts.{emptied_only, emptied_there, none_by, refills, refills_tree, short_full}
use Rattle.names.proofs.tree.Tree.refilled.Given.{Over}
use Rattle.names.proofs.tree.Tree.refilled.Goals as goal

module _ (g : Over) (c : goal.After-self-1 g) where
  emptied_first : HasOnly c.args.number [] (files_seen g.D.Disk.image c.args.self.now.kernel) (files_seen g.D.Disk.image c.emptied.new.self.kernel)
  emptied_first =
      emptied_only (files_seen g.D.Disk.image c.args.self.now.kernel) (files_seen g.D.Disk.image c.emptied.new.self.kernel) c.from.result c.args.number
      c.in_ok-refusal.field-0 c.in_default.field-0 c.from.ensures c.in_default.is c.in_ok-refusal.ensures.emptied

  has_first : HasWritten g.D.Disk.image c.args.number 0 c.args.bytes.now c.emptied.new.self.kernel c.write_called.new.self.kernel c.in_ok-_all.field-0
  has_first =
      subst (λ (n : ℕ). HasWritten g.D.Disk.image n 0 c.args.bytes.now c.emptied.new.self.kernel c.write_called.new.self.kernel c.in_ok-_all.field-0)
      c.from-2.ensures c.in_ok-_all.ensures.written

pub returns-in_default-2-clause-goes : goal.returns-in_default-2-clause-goes
returns-in_default-2-clause-goes g c = record {
  on = tt;
  stays = stays_on g.D.Disk c.args.self.now.kernel c.emptied.new.self.kernel c.write_called.new.self.kernel c.emptied.new.self.calls_left
      c.in_ok-refusal.ensures.goes.on c.emptied.ensures.goes.stays c.write_called.ensures.goes.stays;
  ends = full_ends g.D.Disk c.args.self.now.kernel c.write_called.new.self.kernel c.args.self.now.calls_left c.write_called.new.self.calls_left c.requires.way
      (goes_on g.D.Disk c.args.self.now.kernel c.emptied.new.self.kernel c.write_called.new.self.kernel c.emptied.new.self.calls_left
      c.write_called.new.self.calls_left c.in_ok-refusal.ensures.goes.on c.in_ok-_all.ensures.goes.on)
      (short_full g.D.Disk c.emptied.new.self.kernel c.write_called.new.self.kernel c.args.number 0 c.args.bytes.now c.in_ok-_all.field-0
      (has_first g c) (none_by c.in_ok-_all.field-0 c.in_default-2.not-Some)
      (emptied_there g.D.Disk c.args.self.now.kernel c.emptied.new.self.kernel c.write_called.new.self.kernel c.args.number c.args.bytes.now c.in_ok-_all.field-0
      (emptied_first g c) (has_first g c)));
}

module _ (g : Over) (c : goal.In-Some g) where
  emptied_is : HasOnly c.args.number [] (files_seen g.D.Disk.image c.args.self.now.kernel) (files_seen g.D.Disk.image c.emptied.new.self.kernel)
  emptied_is =
      emptied_only (files_seen g.D.Disk.image c.args.self.now.kernel) (files_seen g.D.Disk.image c.emptied.new.self.kernel) c.from.result c.args.number
      c.in_ok-refusal.field-0 c.in_default.field-0 c.from.ensures c.in_default.is c.in_ok-refusal.ensures.emptied

  has : HasWritten g.D.Disk.image c.args.number 0 c.args.bytes.now c.emptied.new.self.kernel c.write_called.new.self.kernel c.in_ok-_all.field-0
  has =
      subst (λ (n : ℕ). HasWritten g.D.Disk.image n 0 c.args.bytes.now c.emptied.new.self.kernel c.write_called.new.self.kernel c.in_ok-_all.field-0)
      c.from-2.ensures c.in_ok-_all.ensures.written

pub returns-clause-tree : goal.returns-clause-tree
returns-clause-tree g c =
    refills_tree g.D.Disk c.args.self.now.kernel c.emptied.new.self.kernel c.write_called.new.self.kernel c.args.number c.args.bytes.now c.in_ok-_all.field-0
    (emptied_is g c) (has g c) c.in_ok-refusal.ensures.tree

pub returns-clause-filled : goal.returns-clause-filled
returns-clause-filled g c = (
  refl,
  refills g.D.Disk c.args.self.now.kernel c.emptied.new.self.kernel c.write_called.new.self.kernel c.args.number c.args.bytes.now c.in_ok-_all.field-0
      (emptied_is g c) (has g c) c.in-Some._all c.in-Some.is c.requires.few,
)
