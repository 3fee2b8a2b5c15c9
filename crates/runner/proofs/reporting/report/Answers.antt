use Rattle.std.proofs.Common.{◌≡◌, ◌∙◌, ◌+◌, ◌∷◌, ◌++◌, [], Some, ap, arith, below_more, length, refl, sym}
use Rattle.std.proofs.KnownBytes.{Appends-nil}
use Rattle.std.proofs.lemmas.List.{append_assoc, length-append}
use Rattle.std.specs.Prelude.{slice_get}
use Rattle.clients.specs.Clients.{ops_at, ops_in}
use Rattle.history.specs.Own.{KeepsOwn}
use Rattle.model.specs.Layout.{inode_count_of}
use Rattle.runner.proofs.Reports.{client_at, one_more_report, own_still, reports_then, same_still}
use Rattle.runner.proofs.reporting.report.Given.{Over}
use Rattle.runner.proofs.reporting.report.Goals.{In-None}
use Rattle.runner.proofs.reporting.report.Goals as goal

pub loop-client-init : goal.loop-client-init
loop-client-init g c =
    let few = c.known.ensures.few in
    let many = c.requires.many in
    record {
      pid = refl;
      all = sym c.into_iter-client-iterator.ensures.into_iter_gives.0;
      few = omega (arith, few, many);
      reported = record {
        reports = [];
        count = refl;
        each = λ p r at. absurd (cc at);
        whole = refl;
        printed = Appends-nil (g.O.Write.contents c.args.out.now);
      };
      own = λ p low. absurd (omega (arith, low));
      same = refl;
      names = λ p. refl;
    }

pub report_one-reported-requires-clause-rings : goal.report_one-reported-requires-clause-rings
report_one-reported-requires-clause-rings g c =
    let inv = c.loop-client.invariant in
    inv.names c.loop-client.pid ∙ c.requires.rings c.loop-client.pid c.in-Some.client
    (ap (λ cs. slice_get cs c.loop-client.pid) (inv.all ∙ ap (λ cs. c.loop-client.yielded ++ cs) c.in-Some.ensures.steps.0)
    ∙ ap (slice_get (c.loop-client.yielded ++ c.in-Some.client ∷ c.next.new.self.rest.items)) inv.pid
    ∙ client_at c.loop-client.yielded c.next.new.self.rest.items c.in-Some.client)

pub loop-client-preserved : goal.loop-client-preserved
loop-client-preserved g c =
    let inv = c.loop-client.invariant in
    let k = c.args.kernel.now in
    let n = inode_count_of (g.D.Disk.image k.opening) in
    let ops = ops_at c.args.clients.items in
    let here = inv.all ∙ ap (λ cs. c.loop-client.yielded ++ cs) c.in-Some.ensures.steps.0 in
    let at : slice_get c.args.clients.items c.loop-client.pid ≡ Some c.in-Some.client =
    ap (λ cs. slice_get cs c.loop-client.pid) here ∙ ap (slice_get (c.loop-client.yielded ++ c.in-Some.client ∷ c.next.new.self.rest.items)) inv.pid
    ∙ client_at c.loop-client.yielded c.next.new.self.rest.items c.in-Some.client in
    let made = c.report_one-reported.ensures in
    record {
      pid = ap (λ n. n + 1) inv.pid ∙ sym (length-append c.loop-client.yielded (c.in-Some.client ∷ []));
      all = here ∙ sym (append_assoc c.loop-client.yielded (c.in-Some.client ∷ []) c.next.new.self.rest.items);
      few = inv.few;
      reported = reports_then c.report_one-reported.result c.loop-client.reported _ _ _
          (λ were all first one. one_more_report g.D.Disk.image k c.loop-client.kernel inv.same ops c.loop-client.pid _ (sym (ap ops_in at)) were all _ _ _ first one) inv.reported made.reported;
      own = below_more _ _ inv.own (own_still g.D.Disk.image k c.loop-client.kernel inv.same c.loop-client.pid _ (ops c.loop-client.pid) (sym (ap ops_in at)) made.own);
      same = same_still k c.loop-client.kernel c.report_one-reported.new.kernel inv.same made.same;
      names = λ p. made.names p ∙ inv.names p;
    }

-- once all clients were met, each has what is told of it
module _ (g : Over) (c : In-None g) where
  own : KeepsOwn (inode_count_of (g.D.Disk.image c.args.kernel.now.opening)) c.args.kernel.now.world.journal.list (length c.args.clients.items) (ops_at c.args.clients.items)
  own p low =
      let inv = c.loop-client.invariant in
      let left = c.loop-client.client-iterator.rest in
      let all = ap length inv.all ∙ length-append c.loop-client.yielded left.items in
      inv.own p (omega (arith, low, c.in-None.ensures.steps.0, left.ok.0, inv.pid, all))

pub returns-in_err-all-clause-own : goal.returns-in_err-all-clause-own
returns-in_err-all-clause-own g c = own g (goal.at.returns-in_err-all-clause-own g c).In-None

pub returns-in_err-pass_on-clause-own : goal.returns-in_err-pass_on-clause-own
returns-in_err-pass_on-clause-own g c = own g (goal.at.returns-in_err-pass_on-clause-own g c).In-None

pub returns-clause-own : goal.returns-clause-own
returns-clause-own g c = own g (goal.at.returns-clause-own g c).In-None
