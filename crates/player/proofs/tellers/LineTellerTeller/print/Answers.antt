use Rattle.std.proofs.Common.{◌∙◌, ap, subst, sym}
use Rattle.std.specs.Io.KnownBytes.{Appends}
use Rattle.std.proofs.lemmas.Result.{on_ok_weaker}
use Rattle.messages.specs.Events.{event_line}
use Rattle.player.proofs.Tells.{line_alone}
use Rattle.player.proofs.tellers.LineTellerTeller.print.Goals as goal

pub returns : goal.returns
returns g c =
    on_ok_weaker c.print_event.result
    (λ line word told was heard same. subst (Appends (g.O.Write.contents c.args.out.now) (g.O.Write.contents c.print_event.new.out)) (sym (line_alone c.args._inode_count told ∙ ap event_line same)) line)
    c.print_event.ensures.ok
