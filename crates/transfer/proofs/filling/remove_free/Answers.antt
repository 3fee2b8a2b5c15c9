use Rattle.std.proofs.Common.{◌≡◌, ℕ, ◌+◌, ◌*◌, length, refl, sym, ap, subst, arith}
use Rattle.calls.specs.Files.{files_on}
use Rattle.transfer.specs.Holding.{Holds}
use Rattle.transfer.specs.Stages.{kept_at, listed, made_at}
use Rattle.transfer.proofs.FillingLemmas.{holds_as, one_kept, one_removed, still_there}
use Rattle.transfer.proofs.StageLemmas.{kept_start}
use Rattle.calls.specs.Stepping.{Plain}
use Rattle.transfer.proofs.filling.remove_free.Goals as goal
use Rattle.transfer.proofs.filling.remove_free.Goals.{then-kind-eq0+in_ok-remove, else-kind-eq0}

pub loop-k-init : goal.loop-k-init
loop-k-init g c =
    let kinds = c.args.kinds.now in
    let n = length kinds in
    let count = length (files_on g.E.Disk.image c.args.kernel.now) in
    record {
      holds = holds_as g.E.Disk n (n + 0) {files = listed count (made_at kinds n)} {new = listed count (kept_at kinds 0)} c.args.kernel.now c.requires.made (omega arith) (kept_start kinds count);
      opening = refl;
      name = refl;
    }

pub remove-requires-clause-there : goal.remove-requires-clause-there
remove-requires-clause-there g c =
    let count = length (files_on g.E.Disk.image c.args.kernel.now) in
    still_there g.E.Disk c.args.kinds.now count c.loop-k.k (length c.args.kinds.now + c.loop-k.k) (omega arith) c.loop-k.kernel c.loop-k.invariant.holds (omega arith)

pub loop-k-preserved : goal.loop-k-preserved
loop-k-preserved g c =
    let disk = g.E.Disk in
    let kinds = c.args.kinds.now in
    let before = c.loop-k.invariant in
    let count = length (files_on disk.image c.args.kernel.now) in
    let k = c.loop-k.k in
    let most = length kinds + k in
    let kept : Plain g.row.E.Denot → Type 0 = λ m. Holds disk (length kinds + (k + 1)) (listed count (kept_at kinds (k + 1))) m in
    let holds : kept c.if-kind-eq0.kernel
    = elim c.if-kind-eq0.branch [
      | then-kind-eq0+in_ok-remove w ↦ subst kept (sym w.kernel-is) (holds_as disk (most + 1) (length kinds + (k + 1)) w.remove.new.kernel
          (one_removed disk kinds count k most (omega arith) c.loop-k.kernel before.holds w.remove.new.kernel w.if-kind-eq0.true w.in_ok-remove.ensures.removes w.in_ok-remove.ensures.answered w.remove.ensures.stays.opening)
          (omega arith) refl)
      | else-kind-eq0 w ↦ subst kept (sym w.kernel-is) (holds_as disk (most + 1) (length kinds + (k + 1)) c.loop-k.kernel
          (one_kept disk kinds count k most (omega arith) c.loop-k.kernel before.holds w.if-kind-eq0.false)
          (omega arith) refl)
    ] in
    record {
      holds = holds;
      opening = elim c.if-kind-eq0.branch [ then-kind-eq0+in_ok-remove w ↦ cc | else-kind-eq0 w ↦ cc ];
      name = elim c.if-kind-eq0.branch [ then-kind-eq0+in_ok-remove w ↦ cc | else-kind-eq0 w ↦ cc ];
    }

pub returns-clause-kept : goal.returns-clause-kept
returns-clause-kept g c =
    let count = length (files_on g.E.Disk.image c.args.kernel.now) in
    let end : c.loop-k.k ≡ length c.args.kinds.now = omega arith in
    holds_as g.E.Disk (length c.args.kinds.now + c.loop-k.k) (2 * length c.args.kinds.now) c.loop-k.kernel c.loop-k.invariant.holds (omega arith)
    (ap (λ (n : ℕ). listed count (kept_at c.args.kinds.now n)) end)
