use Rattle.std.proofs.Common.{ℕ, inl, subst, arith}
use Rattle.offline.specs.Common.{err_from_is_err_and, geometry_fault, Image, IsCause, IsHeaderOf, log_fault}
use Rattle.offline.proofs.CheckLemmas.{opening_short}
use Rattle.offline.proofs.OwnersLemmas.{cause_first}
use Rattle.offline.proofs.recovered.Recovered.open.Goals as goal

pub returns-then-size-lt2-clause-fault : goal.returns-then-size-lt2-clause-fault
returns-then-size-lt2-clause-fault g c = inl (opening_short (g.D.Disk.image c.args.disk.now) (omega (arith, c.size.ensures)))

pub returns-in_err-sup-clause-fault : goal.returns-in_err-sup-clause-fault
returns-in_err-sup-clause-fault g c =
    let d = g.D.Disk in
    let x = d.image c.args.disk.now in
    let p = err_from_is_err_and c.from_residual.result c.from_residual.ensures.1 in
    rw (p.1, p.2)
    (cause_first (geometry_fault x) (log_fault x) (d.fault_count c.args.disk.now) (d.fault_count c.read_super.new.disk) c.in_err-sup.field-0.0 c.in_err-sup.ensures.ok)

pub returns-in_err-header-clause-fault : goal.returns-in_err-header-clause-fault
returns-in_err-header-clause-fault g c =
    let d = g.D.Disk in
    let x = d.image c.args.disk.now in
    let fault = c.in_err-header.field-0.0 in
    let after = d.fault_count c.read_header.new.disk in
    let here = subst (λ (z : Image). IsCause (log_fault z) (d.fault_count c.read_super.new.disk) after fault) c.read_super.ensures.reads.image c.in_err-header.ensures.ok in
    let p = err_from_is_err_and c.from_residual-in_err-header.result c.from_residual-in_err-header.ensures.1 in
    rw (p.1, p.2, c.in_ok-sup.ensures.ok.0)
    (subst (λ (n : ℕ). IsCause (log_fault x) n after fault) c.in_ok-sup.ensures.faults here)

pub returns-clause-ok : goal.returns-clause-ok
returns-clause-ok g c =
    let read = c.in_ok-sup.ensures.ok in
    record {
      geometry = read.0;
      sup = read.1;
      form = read.2;
      header = subst (λ (z : Image). IsHeaderOf z c.in_ok-header.header) c.read_super.ensures.reads.image c.in_ok-header.ensures.ok;
    }
