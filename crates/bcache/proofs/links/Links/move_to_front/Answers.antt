use Rattle.std.proofs.Common.{ap, sym, arith, ◌∙◌}
use Rattle.bcache.specs.Common.{linked_in_front, order_of}
use Rattle.bcache.specs.declared.links.Links.{Links}
use Rattle.bcache.proofs.LinkLemmas.{moved, first_moved, nothing_changed, first_inside_of, after_inside_of, before_inside_of}
use Rattle.bcache.proofs.links.Links.move_to_front.Goals as goal

pub unlink-requires-clause-before : goal.unlink-requires-clause-before
unlink-requires-clause-before c = before_inside_of c.args.self.now c.args.slot c.requires.linked c.requires.slot c.if-self-slot.true

pub unlink-requires-clause-after : goal.unlink-requires-clause-after
unlink-requires-clause-after c = after_inside_of c.args.self.now c.args.slot c.requires.linked c.requires.slot

pub link_in_front-requires-clause-first : goal.link_in_front-requires-clause-first
link_in_front-requires-clause-first c =
    omega (arith, (first_inside_of c.args.self.now c.requires.linked), (ap (λ (l : Links). l.first) c.unlink.ensures))

pub returns-then-self-slot : goal.returns-then-self-slot
returns-then-self-slot c =
    let m = moved c.args.self.now c.link_in_front.new.self c.args.slot c.requires.linked c.requires.slot c.if-self-slot.true
    (c.link_in_front.ensures ∙ ap (λ (l : Links). linked_in_front l c.args.slot) c.unlink.ensures) in
    record { entries = m.entries; front = m.front; linked = m.linked }

pub returns-else-self-slot-clause-front : goal.returns-else-self-slot-clause-front
returns-else-self-slot-clause-front c =
    sym (first_moved (order_of c.args.self.now) c.args.slot c.requires.linked.order c.requires.slot (sym (ap (λ (l : Links). l.first) c.requires.linked.same) ∙ c.if-self-slot.false))

pub returns-else-self-slot-clause-entries : goal.returns-else-self-slot-clause-entries
returns-else-self-slot-clause-entries c = let same = nothing_changed c.args.self.now in omega (arith, same)
