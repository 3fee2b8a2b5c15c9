use Rattle.std.proofs.Common.{◌≡◌, ◌+◌, ◌-◌, refl, arith}
use Rattle.names.specs.Inside.{files_seen}
use Rattle.names.proofs.Going.{commit_broken, commit_ends, commit_leaves, ends_here, none_left}
use Rattle.names.proofs.tree.Tree.committed.Goals as goal

pub returns-then-self-eq0-clause-leaves : goal.returns-then-self-eq0-clause-leaves
returns-then-self-eq0-clause-leaves g c = ends_here g.D.Disk c.args.self.now.kernel

pub returns-then-self-eq0-clause-ends : goal.returns-then-self-eq0-clause-ends
returns-then-self-eq0-clause-ends g c = none_left g.D.Disk c.args.self.now.kernel c.args.self.now.calls_left c.requires.way c.if-self-eq0.true

pub returns-in-Ok-clause-commits : goal.returns-in-Ok-clause-commits
returns-in-Ok-clause-commits g c =
    let some = c.if-self-eq0.false in
    let less : (c.args.self.now.calls_left - 1) + 1 ≡ c.args.self.now.calls_left = omega arith in
    commit_ends g.D.Disk c.args.self.now.kernel c.commit.new.kernel c.args.self.now.calls_left (c.args.self.now.calls_left - 1) less c.requires.way c.requires.tree c.requires.counted
    c.in-Ok.ensures.rests c.in-Ok.ensures.commits c.commit.ensures.reached

pub returns-in-Ok-clause-leaves : goal.returns-in-Ok-clause-leaves
returns-in-Ok-clause-leaves g c =
    commit_leaves g.D.Disk c.args.self.now.kernel c.commit.new.kernel c.commit.ensures.opening c.commit.ensures.name
    (c.commit.ensures.leaves (files_seen g.D.Disk.image c.args.self.now.kernel) c.requires.way.files)

pub returns-in-Err-clause-leaves : goal.returns-in-Err-clause-leaves
returns-in-Err-clause-leaves g c =
    commit_leaves g.D.Disk c.args.self.now.kernel c.commit.new.kernel c.commit.ensures.opening c.commit.ensures.name
    (c.commit.ensures.leaves (files_seen g.D.Disk.image c.args.self.now.kernel) c.requires.way.files)

pub returns-in-Err-clause-ends : goal.returns-in-Err-clause-ends
returns-in-Err-clause-ends g c =
    record { none = refl; broken = commit_broken g.D.Disk c.args.self.now.kernel c.commit.new.kernel c.in-Err.fault c.in-Err.ensures.refused }
