use Rattle.std.proofs.Common.{rules, ◌≡◌, ◌-◌, [], length, refl, sym, ◌∙◌, ap, arith}
use Rattle.std.proofs.lemmas.List.{length-append}
use Rattle.rings.specs.Callers.{intake_side, submitted}
use Rattle.model.specs.Layout.{inode_count_of}
use Rattle.history.specs.Lemmas.Own.{keeps_first}
use Rattle.sysring.proofs.accounting.account.Goals as goal

pub overflow_sub-account : goal.overflow_sub-account
overflow_sub-account g c =
    let mine = c.known.ensures.histories c.args.pid c.requires.pid in
    let met = c.visit-caller.ensures.tells in
    let ahead = (intake_side c.visit-caller.new.self.intake c.args.pid).ahead in
    let all = sym (length-append mine.history.taken ahead) ∙ ap length (met.taken mine.history mine.fit) in
    let count = c.submitted-submitted.ensures in
    let begun = c.counts-begun.ensures.begun ∙ mine.is.count in
    omega (arith, all, count, begun)

pub returns-clause-account : goal.returns-clause-account
returns-clause-account g c =
    let k = c.args.kernel.now in
    let known = c.known.ensures in
    let mine = known.histories c.args.pid c.requires.pid in
    let met = c.visit-caller.ensures.tells in
    let ahead = (intake_side c.visit-caller.new.self.intake c.args.pid).ahead in
    let all = sym (length-append mine.history.taken ahead) ∙ ap length (met.taken mine.history mine.fit) in
    let count = c.submitted-submitted.ensures in
    let begun = c.counts-begun.ensures.begun ∙ mine.is.count in
    let left : c.submitted-submitted.result - c.counts-begun.result.0 ≡ length ahead = omega (arith, all, count, begun) in
    record {
      accounts = record {
        history = mine.history;
        is = mine.is;
        rest = ahead;
        order = search rules;
        unpolled = [];
        given = search rules;
        beginning = keeps_first (inode_count_of (g.D.Disk.image k.opening)) k.world.journal.list c.args.pid mine.history.taken ahead (submitted c.args.caller) (λ n. known.beginnings c.args.pid n mine.history mine.is) (search rules) k.store.volume.log.committed;
        submitted = search rules;
        begun = begun;
        left = left;
        kept = c.counts-begun.ensures.kept;
      };
      all = refl;
    }
