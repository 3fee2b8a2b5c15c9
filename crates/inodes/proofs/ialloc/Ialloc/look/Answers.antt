use Rattle.std.proofs.Common.{rules, refl, sym, ap, subst, ◌≡◌, ◌∙◌, Some, None, List}
use Rattle.inodes.specs.Common.{finds, lowest_free, MayStep, Progress, SearchState, SearchSteps, seen}
use Rattle.inodes.proofs.LookLemmas.{held, held_number, ready_next, look_claims, look_goes_on}
use Rattle.inodes.proofs.ialloc.Ialloc.look.Goals as goal

pub claim-requires-clause-holds : goal.claim-requires-clause-holds
claim-requires-clause-holds g c =
    held_number _ _ _ _ _ _ _ _ c.requires.ready c.requires.slot c.data.ensures.bytes (c.in-Some.ensures ∙ ap (λ (k : SearchState). lowest_free c.data.result.now k.inode_count k.block) c.self.view_is)

pub returns-in-Some : goal.returns-in-Some
returns-in-Some g c =
    let m : SearchState = record { kind = c.self.inside.kind; inode_count = c.self.inside.inode_count; block = c.self.inside.block; slot = c.self.inside.slot } in
    let is : m ≡ c.args.self.now = c.self.view_is in
    let ready : MayStep g.D.Disk.image c.args.volume.now c.args.pid m = subst (λ (k : SearchState). MayStep g.D.Disk.image c.args.volume.now c.args.pid k) (sym is) c.requires.ready in
    let slot : m.slot ≡ Some c.args.slot = ap (λ (k : SearchState). k.slot) is ∙ c.requires.slot in
    subst (λ (k : SearchState). SearchSteps g.D.Disk (Some c.args.slot) c.args.volume.now c.claim.new.volume c.args.pid k k (Progress.Over (Some c.in-Some.i))) is
    (look_claims g.D.Disk _ _ _ _ _ _ m ready c.requires.fault slot (c.data.ensures.bytes ∙ (held _ _ _ _ _ m ready slot).bytes) c.in-Some.ensures c.claim.ensures.volume c.claim.ensures.locks c.claim.ensures.current)

pub returns-in-None : goal.returns-in-None
returns-in-None g c =
    let v = c.args.volume.now in
    let m : SearchState = c.args.self.now in
    let none : lowest_free c.data.result.now m.inode_count m.block ≡ None = sym (c.in-None.ensures ∙ ap (λ (k : SearchState). lowest_free c.data.result.now k.inode_count k.block) c.self.view_is) in
    let bytes = c.data.ensures.bytes ∙ (held _ _ _ _ _ _ c.requires.ready c.requires.slot).bytes in
    let found : finds (seen (g.D.Disk.image v.device) v.buffers) m ≡ None = ap (λ (l : List _). lowest_free l m.inode_count m.block) (sym bytes) ∙ none in
    look_goes_on g.D.Disk _ _ _ _ m _ _ _ refl found c.requires.fault c.release.ensures.volume c.release.ensures.locks c.release.ensures.current
    (ready_next _ _ _ _ _ _ _ _ _ _ c.requires.ready (search rules) c.go_on.ensures.answer c.go_on.ensures.search)
    c.go_on.ensures.answer c.go_on.ensures.search
