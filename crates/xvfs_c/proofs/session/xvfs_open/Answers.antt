use Rattle.std.proofs.Common.{◌≡◌, ◌≢◌, ◌≤◌, ◌==◌, inl, inr, ⊎_elim, sym, subst, rules, arith}
use Rattle.std.proofs.lemmas.Grind.{common_steps}
use Rattle.std.proofs.lemmas.Option.{IfSome_then}
use Rattle.sessions.specs.contracts.disk.HostDiskDisk.TheImpl.{ghosts}
use Rattle.sessions.specs.declared.session.Session.{Session}
use Rattle.sessions.specs.Session.{writes_of}
use Rattle.xvfs_c.specs.Images.{OpensUnlogged}
use Rattle.xvfs_c.proofs.Unlogged.{opens_unlogged}
use Rattle.xvfs_c.proofs.session.xvfs_open.Goals as goal

pub returns-in-Ok-clause-number : goal.returns-in-Ok-clause-number
returns-in-Ok-clause-number c = λ refused.
    let flags : c.args.flags ≤ 1 = first_of (omega (arith, c.if-flags-gt-HOLD.false), search rules, grind (arith, common_steps)) in
    inr (
      flags,
      ⊎_elim (λ (memory : c.keep.result ≡ 1283). inl memory)
          (λ (logged : (c.keep.result ≡ 1286) × (writes_of c.in-Ok.session ≢ 0)).
          inr (inl (logged.0, (c.in-Ok.session, c.in-Ok.ensures.opened, logged.1)))) (c.keep.ensures.number refused),
    )

pub returns-in-Ok-clause-opened : goal.returns-in-Ok-clause-opened
returns-in-Ok-clause-opened c = λ done.
    let holds = c.args.flags == 1 in
    let opened =
    opens_unlogged c.args.image.now c.args.processes holds c.in-Ok.session c.in-Ok.ensures.opened (c.keep.ensures.unwritten done) c.in-Ok.ensures.covered in
    IfSome_then c.keep.new.handle.session (c.keep.ensures.kept done)
    (λ (s : Session) same. subst (λ (t : Session). OpensUnlogged ghosts c.args.image.now c.args.processes holds t) (sym same) opened)
