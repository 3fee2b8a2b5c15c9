use Rattle.std.proofs.Common.{◌∙◌, arith}
use Rattle.calls.specs.Lemmas.Reaching.{reached_none, reached_then}
use Rattle.calls.proofs.Appending.{both_append, both_committed, both_leave, short_appends, short_committed, short_leaves, wrote_first, wrote_second}
use Rattle.calls.proofs.transactions.changing.append_two.Goals as goal

-- no copy was made
pub returns-in_default-clause-reached : goal.returns-in_default-clause-reached
returns-in_default-clause-reached g c =
    reached_none g.D.Disk c.args.kernel.now

pub returns-in_default-copy_of-clause-reached : goal.returns-in_default-copy_of-clause-reached
returns-in_default-copy_of-clause-reached g c =
    reached_none g.D.Disk c.args.kernel.now

pub returns-in_err-count-clause-reached : goal.returns-in_err-count-clause-reached
returns-in_err-count-clause-reached g c =
    reached_then g.D.Disk c.args.kernel.now c.begin.new.kernel c.call.new.kernel c.begin.ensures.reached c.call.ensures.reached

-- the first write
pub unreachable-requires : goal.unreachable-requires
unreachable-requires g c =
    let (count, so, has) = wrote_first g.D.Disk c.args.kernel.now c.args.i c.args.off c.args.bytes.now c.requires.more c.requires.room c.begin.new.kernel c.call.new.kernel c.in_ok-count.field-0 c.in-Ok.one (c.in-Ok.ensures ∙ c.split_at.ensures.front) c.in_ok-begin.ensures.begins c.in_ok-count.ensures.adds c.begin.ensures.opening c.call.ensures.opening
    c.begin.ensures.leaves c.call.ensures.leaves in
    c.in_default-2.not-Wrote count so

-- which was short
pub returns-in_err-commit-clause-leaves : goal.returns-in_err-commit-clause-leaves
returns-in_err-commit-clause-leaves g c =
    short_leaves g.D.Disk c.args.kernel.now c.args.i c.args.off c.args.bytes.now c.requires.more c.requires.room c.begin.new.kernel c.call.new.kernel c.in_ok-count.field-0 c.in-Ok.one (c.in-Ok.ensures ∙ c.split_at.ensures.front) c.in_ok-begin.ensures.begins c.in_ok-count.ensures.adds c.begin.ensures.opening c.call.ensures.opening
    c.begin.ensures.leaves c.call.ensures.leaves
    c.commit.new.kernel c.commit.ensures.leaves

pub returns-in_err-commit-clause-reached : goal.returns-in_err-commit-clause-reached
returns-in_err-commit-clause-reached g c =
    reached_then g.D.Disk c.args.kernel.now c.call.new.kernel c.commit.new.kernel (reached_then g.D.Disk c.args.kernel.now c.begin.new.kernel c.call.new.kernel c.begin.ensures.reached c.call.ensures.reached) c.commit.ensures.reached

pub returns-then-count-lt-TRANSFER_LIMIT-clause-appends : goal.returns-then-count-lt-TRANSFER_LIMIT-clause-appends
returns-then-count-lt-TRANSFER_LIMIT-clause-appends g c =
    short_appends g.D.Disk c.args.kernel.now c.args.i c.args.off c.args.bytes.now c.requires.more c.requires.room c.begin.new.kernel c.call.new.kernel c.in_ok-count.field-0 c.in-Ok.one (c.in-Ok.ensures ∙ c.split_at.ensures.front) c.in_ok-begin.ensures.begins c.in_ok-count.ensures.adds c.begin.ensures.opening c.call.ensures.opening
    c.begin.ensures.leaves c.call.ensures.leaves
    c.in-Wrote.count c.in-Wrote.is c.commit.new.kernel c.in_ok-commit.ensures.commits (omega (arith, c.if-count-lt-TRANSFER_LIMIT.true))

pub returns-then-count-lt-TRANSFER_LIMIT-clause-committed : goal.returns-then-count-lt-TRANSFER_LIMIT-clause-committed
returns-then-count-lt-TRANSFER_LIMIT-clause-committed g c =
    short_committed g.D.Disk c.args.kernel.now c.args.i c.args.off c.args.bytes.now c.requires.more c.requires.room c.begin.new.kernel c.call.new.kernel c.in_ok-count.field-0 c.in-Ok.one (c.in-Ok.ensures ∙ c.split_at.ensures.front) c.in_ok-begin.ensures.begins c.in_ok-count.ensures.adds c.begin.ensures.opening c.call.ensures.opening
    c.begin.ensures.leaves c.call.ensures.leaves
    c.in-Wrote.count c.in-Wrote.is c.commit.new.kernel c.in_ok-commit.ensures.commits c.in_ok-commit.ensures.rests

pub returns-then-count-lt-TRANSFER_LIMIT-clause-leaves : goal.returns-then-count-lt-TRANSFER_LIMIT-clause-leaves
returns-then-count-lt-TRANSFER_LIMIT-clause-leaves g c =
    short_leaves g.D.Disk c.args.kernel.now c.args.i c.args.off c.args.bytes.now c.requires.more c.requires.room c.begin.new.kernel c.call.new.kernel c.in_ok-count.field-0 c.in-Ok.one (c.in-Ok.ensures ∙ c.split_at.ensures.front) c.in_ok-begin.ensures.begins c.in_ok-count.ensures.adds c.begin.ensures.opening c.call.ensures.opening
    c.begin.ensures.leaves c.call.ensures.leaves
    c.commit.new.kernel c.commit.ensures.leaves

pub returns-then-count-lt-TRANSFER_LIMIT-clause-reached : goal.returns-then-count-lt-TRANSFER_LIMIT-clause-reached
returns-then-count-lt-TRANSFER_LIMIT-clause-reached g c =
    reached_then g.D.Disk c.args.kernel.now c.call.new.kernel c.commit.new.kernel (reached_then g.D.Disk c.args.kernel.now c.begin.new.kernel c.call.new.kernel c.begin.ensures.reached c.call.ensures.reached) c.commit.ensures.reached

-- and the second
pub returns-in_err-count-2-clause-reached : goal.returns-in_err-count-2-clause-reached
returns-in_err-count-2-clause-reached g c =
    reached_then g.D.Disk c.args.kernel.now c.call.new.kernel c.call-2.new.kernel (reached_then g.D.Disk c.args.kernel.now c.begin.new.kernel c.call.new.kernel c.begin.ensures.reached c.call.ensures.reached) c.call-2.ensures.reached

pub unreachable-requires-in_default-3 : goal.unreachable-requires-in_default-3
unreachable-requires-in_default-3 g c =
    let (count, so, has) = wrote_second g.D.Disk c.args.kernel.now c.args.i c.args.off c.args.bytes.now c.requires.more c.requires.room c.begin.new.kernel c.call.new.kernel c.in_ok-count.field-0 c.in-Ok.one (c.in-Ok.ensures ∙ c.split_at.ensures.front) c.in_ok-begin.ensures.begins c.in_ok-count.ensures.adds c.begin.ensures.opening c.call.ensures.opening
    c.begin.ensures.leaves c.call.ensures.leaves c.in-Wrote.count c.in-Wrote.is (omega (arith, c.if-count-lt-TRANSFER_LIMIT.false)) c.call-2.new.kernel c.in_ok-count-2.field-0 c.in-Ok-copy_of.two (c.in-Ok-copy_of.ensures ∙ c.split_at.ensures.back) c.in_ok-count-2.ensures.adds c.call-2.ensures.opening
    c.call-2.ensures.leaves in
    c.in_default-3.not-Wrote count so

pub returns-in_err-commit-2-clause-leaves : goal.returns-in_err-commit-2-clause-leaves
returns-in_err-commit-2-clause-leaves g c =
    both_leave g.D.Disk c.args.kernel.now c.args.i c.args.off c.args.bytes.now c.requires.more c.requires.room c.begin.new.kernel c.call.new.kernel c.in_ok-count.field-0 c.in-Ok.one (c.in-Ok.ensures ∙ c.split_at.ensures.front) c.in_ok-begin.ensures.begins c.in_ok-count.ensures.adds c.begin.ensures.opening c.call.ensures.opening
    c.begin.ensures.leaves c.call.ensures.leaves c.in-Wrote.count c.in-Wrote.is (omega (arith, c.if-count-lt-TRANSFER_LIMIT.false)) c.call-2.new.kernel c.in_ok-count-2.field-0 c.in-Ok-copy_of.two (c.in-Ok-copy_of.ensures ∙ c.split_at.ensures.back) c.in_ok-count-2.ensures.adds c.call-2.ensures.opening
    c.call-2.ensures.leaves
    c.commit-2.new.kernel c.commit-2.ensures.leaves

pub returns-in_err-commit-2-clause-reached : goal.returns-in_err-commit-2-clause-reached
returns-in_err-commit-2-clause-reached g c =
    reached_then g.D.Disk c.args.kernel.now c.call-2.new.kernel c.commit-2.new.kernel (reached_then g.D.Disk c.args.kernel.now c.call.new.kernel c.call-2.new.kernel (reached_then g.D.Disk c.args.kernel.now c.begin.new.kernel c.call.new.kernel c.begin.ensures.reached c.call.ensures.reached) c.call-2.ensures.reached) c.commit-2.ensures.reached

pub returns-clause-appends : goal.returns-clause-appends
returns-clause-appends g c =
    both_append g.D.Disk c.args.kernel.now c.args.i c.args.off c.args.bytes.now c.requires.more c.requires.room c.begin.new.kernel c.call.new.kernel c.in_ok-count.field-0 c.in-Ok.one (c.in-Ok.ensures ∙ c.split_at.ensures.front) c.in_ok-begin.ensures.begins c.in_ok-count.ensures.adds c.begin.ensures.opening c.call.ensures.opening
    c.begin.ensures.leaves c.call.ensures.leaves c.in-Wrote.count c.in-Wrote.is (omega (arith, c.if-count-lt-TRANSFER_LIMIT.false)) c.call-2.new.kernel c.in_ok-count-2.field-0 c.in-Ok-copy_of.two (c.in-Ok-copy_of.ensures ∙ c.split_at.ensures.back) c.in_ok-count-2.ensures.adds c.call-2.ensures.opening
    c.call-2.ensures.leaves
    c.commit-2.new.kernel c.in_ok-commit-2.ensures.commits _ c.split_at.ensures.back c.in-Wrote-2.count c.in-Wrote-2.is

pub returns-clause-committed : goal.returns-clause-committed
returns-clause-committed g c =
    both_committed g.D.Disk c.args.kernel.now c.args.i c.args.off c.args.bytes.now c.requires.more c.requires.room c.begin.new.kernel c.call.new.kernel c.in_ok-count.field-0 c.in-Ok.one (c.in-Ok.ensures ∙ c.split_at.ensures.front) c.in_ok-begin.ensures.begins c.in_ok-count.ensures.adds c.begin.ensures.opening c.call.ensures.opening
    c.begin.ensures.leaves c.call.ensures.leaves c.in-Wrote.count c.in-Wrote.is (omega (arith, c.if-count-lt-TRANSFER_LIMIT.false)) c.call-2.new.kernel c.in_ok-count-2.field-0 c.in-Ok-copy_of.two (c.in-Ok-copy_of.ensures ∙ c.split_at.ensures.back) c.in_ok-count-2.ensures.adds c.call-2.ensures.opening
    c.call-2.ensures.leaves
    c.commit-2.new.kernel c.in_ok-commit-2.ensures.commits c.in_ok-commit-2.ensures.rests

pub returns-clause-leaves : goal.returns-clause-leaves
returns-clause-leaves g c =
    both_leave g.D.Disk c.args.kernel.now c.args.i c.args.off c.args.bytes.now c.requires.more c.requires.room c.begin.new.kernel c.call.new.kernel c.in_ok-count.field-0 c.in-Ok.one (c.in-Ok.ensures ∙ c.split_at.ensures.front) c.in_ok-begin.ensures.begins c.in_ok-count.ensures.adds c.begin.ensures.opening c.call.ensures.opening
    c.begin.ensures.leaves c.call.ensures.leaves c.in-Wrote.count c.in-Wrote.is (omega (arith, c.if-count-lt-TRANSFER_LIMIT.false)) c.call-2.new.kernel c.in_ok-count-2.field-0 c.in-Ok-copy_of.two (c.in-Ok-copy_of.ensures ∙ c.split_at.ensures.back) c.in_ok-count-2.ensures.adds c.call-2.ensures.opening
    c.call-2.ensures.leaves
    c.commit-2.new.kernel c.commit-2.ensures.leaves

pub returns-clause-reached : goal.returns-clause-reached
returns-clause-reached g c =
    reached_then g.D.Disk c.args.kernel.now c.call-2.new.kernel c.commit-2.new.kernel (reached_then g.D.Disk c.args.kernel.now c.call.new.kernel c.call-2.new.kernel (reached_then g.D.Disk c.args.kernel.now c.begin.new.kernel c.call.new.kernel c.begin.ensures.reached c.call.ensures.reached) c.call-2.ensures.reached) c.commit-2.ensures.reached
