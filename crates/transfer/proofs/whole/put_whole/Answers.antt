use Rattle.std.proofs.Common.{subst, sym}
use Rattle.transfer.specs.Midst.{HasTried, StaysMidst}
use Rattle.transfer.specs.Whole.{StaysWhole, WholeTo}
use Rattle.transfer.specs.declared.writing.Outcome.TheVariants as outcome
use Rattle.transfer.proofs.WholeLemmas.{committed_stays, committed_to, given_up, tried_stays}
use Rattle.transfer.proofs.whole.put_whole.Given.{Over}
use Rattle.transfer.proofs.whole.put_whole.Goals.{After-commit, After-try_put}
use Rattle.transfer.proofs.whole.put_whole.Goals as goal

-- once its calls are made
module _ (g : Over) (c : After-try_put g) where
  begun : StaysMidst g.D.Disk c.args.kernel.now c.begin.new.kernel
  begun = record {
    leaves = c.begin.ensures.leaves;
    over = record { opening = c.begin.ensures.opening; name = c.begin.ensures.name };
    reached = c.begin.ensures.reached;
  }

  tried : StaysWhole g.D.Disk c.args.inum c.args.bytes.now c.args.kernel.now c.try_put.new.kernel
  tried = tried_stays g.D.Disk c.args.inum c.args.bytes.now c.args.kernel.now c.begin.new.kernel c.try_put.new.kernel c.in_ok-begin.ensures.begins begun c.try_put.ensures.stays

-- once all of the bytes were written and their commit was made, or refused
module _ (g : Over) (c : After-commit g) where
  has : HasTried g.D.Disk c.args.inum c.args.bytes.now c.begin.new.kernel c.try_put.new.kernel (outcome.Put c.in-Put.field-0)
  has = subst (HasTried g.D.Disk c.args.inum c.args.bytes.now c.begin.new.kernel c.try_put.new.kernel) c.in-Put.is c.in_ok-outcome.ensures.tried

  committed : StaysMidst g.D.Disk c.args.kernel.now c.begin.new.kernel → StaysWhole g.D.Disk c.args.inum c.args.bytes.now c.args.kernel.now c.commit.new.kernel
  committed first = committed_stays g.D.Disk c.args.inum c.args.bytes.now c.args.kernel.now c.begin.new.kernel c.try_put.new.kernel c.in_ok-begin.ensures.begins first c.try_put.ensures.stays
      c.in_ok-outcome.ensures.inside.1 c.in-Put.field-0 has c.commit.new.kernel c.commit.ensures.leaves c.commit.ensures.name c.commit.ensures.reached

pub returns-in_err-outcome-clause-stays : goal.returns-in_err-outcome-clause-stays
returns-in_err-outcome-clause-stays g c = tried g (goal.at.returns-in_err-outcome-clause-stays g c).After-try_put

pub returns-in_err-commit-clause-stays : goal.returns-in_err-commit-clause-stays
returns-in_err-commit-clause-stays g c = let at = goal.at.returns-in_err-commit-clause-stays g c in committed g at.After-commit (begun g at.After-try_put)

pub returns-in_ok-commit-clause-stays : goal.returns-in_ok-commit-clause-stays
returns-in_ok-commit-clause-stays g c = let at = goal.at.returns-in_ok-commit-clause-stays g c in committed g at.After-commit (begun g at.After-try_put)

pub returns-in_ok-commit-clause-comes : goal.returns-in_ok-commit-clause-comes
returns-in_ok-commit-clause-comes g c =
    let at = goal.at.returns-in_ok-commit-clause-comes g c in
    let i = c.in-Put.field-0 in
    subst (λ o. WholeTo g.D.Disk c.args.inum c.args.bytes.now c.args.kernel.now c.commit.new.kernel o) (sym c.in-Put.is)
    (committed_to g.D.Disk c.args.inum c.args.bytes.now c.args.kernel.now c.begin.new.kernel c.try_put.new.kernel c.in_ok-begin.ensures.begins (begun g at.After-try_put) c.try_put.ensures.stays
    c.in_ok-outcome.ensures.inside.1 i (has g at.After-commit) c.commit.new.kernel c.requires.opened.0 c.requires.rests.pair c.in_ok-commit.ensures.rests.pair c.commit.ensures.opening c.in_ok-commit.ensures.commits)

-- nothing is committed
pub returns-in_default : goal.returns-in_default
returns-in_default g c =
    let at = (goal.at.returns-in_default g c).After-try_put in
    record {
      comes = given_up g.D.Disk c.args.inum c.args.bytes.now c.args.kernel.now c.begin.new.kernel c.try_put.new.kernel c.in_ok-begin.ensures.begins (begun g at) c.try_put.ensures.stays
          c.in_ok-outcome.ensures.inside.1 c.requires.rests.pair c.in_ok-outcome.ensures.inside.0.pair c.in_ok-outcome.outcome (λ i. c.in_default.not-Put i) c.in_ok-outcome.ensures.tried;
      refused = tt;
      stays = tried g at;
    }
