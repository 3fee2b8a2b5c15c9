use Rattle.std.proofs.Common.{◌≡◌, Err, rules, subst, sym, take}
use Rattle.std.specs.Prelude.{IfErr, None, OnOk}
use Rattle.std.proofs.lemmas.Result.{IfErr-weaker, on_ok_weaker}
use Rattle.player.specs.Stepping.{IsClosed, IsNotClosed}
use Rattle.player.specs.Told.{IsBrokenOff, Saying}
use Rattle.player.proofs.Keeping.{turns_keep}
use Rattle.player.proofs.Owning.{turns_ops}
use Rattle.player.proofs.Refused.{broken_off, counts_printed, heard_as}
use Rattle.player.specs.declared.refusals.ReplayRefusal.TheVariants.{Output}
use Rattle.player.specs.Disks.{faulty}
use Rattle.player.proofs.playing.run.Goals as goal

pub returns-in_err-play-clause-refused : goal.returns-in_err-play-clause-refused
returns-in_err-play-clause-refused g c =
    let same : c.from_residual.result ≡ Err Output = search rules in
    subst (λ r. IfErr r (IsBrokenOff (faulty g.D.Disk) c.args.base c.args.stop (g.T.Teller.says c.args.teller.now) c.args.words.now c.args.player.now c.play.new.player (g.O.Write.contents c.args.out.now) (g.O.Write.contents c.play.new.out))) (sym same) c.play.ensures.breaks

pub returns-in_err-play-clause-keeps : goal.returns-in_err-play-clause-keeps
returns-in_err-play-clause-keeps g c =
    let breaks = c.play.ensures.breaks in
    (turns_keep (faulty g.D.Disk) c.args.stop (take breaks.count c.args.words.now) breaks.events c.args.player.now c.play.new.player c.known.ensures.stop.keeps breaks.makes).runs

pub returns-in_err-play-clause-ops : goal.returns-in_err-play-clause-ops
returns-in_err-play-clause-ops g c =
    let breaks = c.play.ensures.breaks in
    turns_ops (faulty g.D.Disk) c.args.stop (take breaks.count c.args.words.now) breaks.events c.args.player.now c.play.new.player breaks.makes

pub returns-in_err-play-clause-name : goal.returns-in_err-play-clause-name
returns-in_err-play-clause-name g c =
    let breaks = c.play.ensures.breaks in
    (turns_keep (faulty g.D.Disk) c.args.stop (take breaks.count c.args.words.now) breaks.events c.args.player.now c.play.new.player c.known.ensures.stop.keeps breaks.makes).name

pub returns-clause-printed : goal.returns-clause-printed
returns-clause-printed g c =
    let closed = subst (λ (says : Saying). OnOk c.close.result (IsClosed (faulty g.D.Disk) c.args.base.writes says.of_end c.play.new.player.kernel None (g.O.Write.contents c.play.new.out) (g.O.Write.contents c.close.new.out))) c.play.ensures.says c.close.ensures.printed in
    on_ok_weaker c.close.result
    (λ ended. heard_as g.T.Teller.hears c.args.words.now c.args.teller.now c.play.new.teller _ _
    (λ tolds plays. counts_printed (faulty g.D.Disk) c.args.base c.args.stop c.inode_count-inode_count.result (g.T.Teller.says c.args.teller.now) c.args.words.now _ _ (g.O.Write.contents c.args.out.now) (g.O.Write.contents c.play.new.out) (g.O.Write.contents c.close.new.out) c.inode_count-inode_count.ensures _ tolds plays ended.0 ended.1)
    c.in_ok-play.ensures.printed)
    closed

pub returns-clause-refused : goal.returns-clause-refused
returns-clause-refused g c =
    let heard = c.in_ok-play.ensures.printed in
    let refused = subst (λ (says : Saying). IfErr c.close.result (IsNotClosed (faulty g.D.Disk) c.args.base.writes says.of_end c.play.new.player.kernel (g.O.Write.contents c.play.new.out) (g.O.Write.contents c.close.new.out))) c.play.ensures.says c.close.ensures.refused in
    IfErr-weaker c.close.result _ _
    (broken_off (faulty g.D.Disk) c.args.base c.args.stop c.inode_count-inode_count.result (g.T.Teller.says c.args.teller.now) c.args.words.now c.args.player.now c.play.new.player (g.O.Write.contents c.args.out.now) (g.O.Write.contents c.play.new.out) (g.O.Write.contents c.close.new.out) c.inode_count-inode_count.ensures heard.tolds heard.told c.play.ensures.breaks)
    refused

pub returns-clause-keeps : goal.returns-clause-keeps
returns-clause-keeps g c =
    let breaks = c.play.ensures.breaks in
    (turns_keep (faulty g.D.Disk) c.args.stop (take breaks.count c.args.words.now) breaks.events c.args.player.now c.play.new.player c.known.ensures.stop.keeps breaks.makes).runs

pub returns-clause-ops : goal.returns-clause-ops
returns-clause-ops g c =
    let breaks = c.play.ensures.breaks in
    turns_ops (faulty g.D.Disk) c.args.stop (take breaks.count c.args.words.now) breaks.events c.args.player.now c.play.new.player breaks.makes

pub returns-clause-name : goal.returns-clause-name
returns-clause-name g c =
    let breaks = c.play.ensures.breaks in
    (turns_keep (faulty g.D.Disk) c.args.stop (take breaks.count c.args.words.now) breaks.events c.args.player.now c.play.new.player c.known.ensures.stop.keeps breaks.makes).name
