use Rattle.std.proofs.Common.{rules, refl, inl, inr, ◌≡◌, ◌<◌, length, List, None, Some, ◌∷◌, ap, subst, sym, ◌∙◌}
use Rattle.std.specs.Option.{option_map}
use Rattle.kernel.specs.Common.{Answer, ArePorts, at_once_reply, begin_cause, BeginsWith, begun, first_in, FitWith, gives, IsRight, KeepsFiles, LeavesSince, Op, Phase, process, refusal_answer, refused, Reply, room_for, Rooms, State, Step, StoreState, taken, OpClass, class_of, with_begun, with_look, with_more_room, World}
use Rattle.kernel.specs.Begins.{Begins, TakesFirst, kept_out, count_of, rooms_for}
use Rattle.kernel.specs.Ports.{KeepsOthers, first_waiting}
use Rattle.kernel.proofs.Beginnings.{change_begins, right_taken, right_looked, right_refused, first_waits}
use Rattle.kernel.proofs.Ports.{ports_left, ports_taken, ports_refused}
use Rattle.kernel.proofs.Since.{since_refused}
use Rattle.kernel.proofs.Valid.{HasAgreed, agreed_now}
use Rattle.kernel.proofs.stepping.Kernel.begin_first.Given.{Over}
use Rattle.kernel.proofs.stepping.Kernel.begin_first.Goals.{After-known, After-known-2, After-take, After-take-in-Look, After-refuse-answer}
use Rattle.kernel.proofs.stepping.Kernel.begin_first.Goals as goal

-- it begins, or is left
begins : (g : Over) (c : After-known g) (r : Step) (t : StoreState _) (j : _) (z : World)
    → BeginsWith (Some c.args.what) c.self.inside.store c.self.inside.processes c.args.pid (g.I.Intake.side c.self.inside.intake c.args.pid).ahead (g.I.Intake.side j c.args.pid) r t z → KeepsOthers g.I.Intake c.args.pid c.self.inside.intake j
    → Begins g.I.Intake (Some c.args.what) c.args.pid r c.args.self.now (record { store = t; opening = c.self.inside.opening.value; intake = j; herald = c.self.inside.herald; world = z })
begins g c r t j z next sides =
    subst (λ (o : State _ _ _). Begins g.I.Intake (Some c.args.what) c.args.pid r o (record { store = t; opening = c.self.inside.opening.value; intake = j; herald = c.self.inside.herald; world = z })) c.self.view_is
    (record { next = next; sides = sides; herald = refl; opening = refl })

pub invariant_of-self : goal.invariant_of-self
invariant_of-self g c =
    let k = c.self.inside in
    let left = c.in-Err.ensures.left in
    record {
      right = subst (λ (w : World). IsRight g.D.Disk k.opening.value k.store w) (sym left.world) c.self.invariant.right;
      since = subst (λ (w : World). LeavesSince g.D.Disk k.opening.value k.store w) (sym left.world) c.self.invariant.since;
      ports = ports_left g.I.Intake g.H.Herald k.intake c.take_first.new.intake k.herald k.store.volume.log.committed k.processes c.take_first.new.processes c.args.pid c.args.what k.store.volume.log c.in-Err.step c.self.invariant.ports left;
    }

-- what was taken, of a process that stands idle
record Head (g : Over) (c : After-known-2 g) : Type 0 where
  well : c.self.inside.store.volume.fault ≡ None
  lt : c.args.pid < length c.self.inside.processes.processes
  stands : (process c.self.inside.processes c.args.pid).at ≡ Phase.Idle
  takes : TakesFirst g.I.Intake c.args.what c.self.inside.store.volume.log c.args.pid c.in-Ok.taken.0 c.in-Ok.taken.1 c.self.inside.intake c.take_first.new.intake c.self.inside.processes c.take_first.new.processes
  kind : class_of c.self.inside.store.table.inode_count c.in-Ok.taken.0 ≡ c.args.what

head : (g : Over) (c : After-known-2 g) → Head g c
head g c =
    let k = c.self.inside in
    let waits : option_map (class_of k.store.table.inode_count) (first_in (g.I.Intake.side k.intake c.args.pid).ahead) ≡ Some c.args.what
    = subst (λ (o : State _ _ _). first_waiting g.I.Intake o.store.table.inode_count o.intake c.args.pid ≡ Some c.args.what) (sym c.self.view_is) c.requires.waits in
    record {
      well = search rules;
      lt = search rules;
      stands = search rules;
      takes = c.in-Ok.ensures.taken;
      kind = first_waits k.store.table.inode_count c.in-Ok.taken.0 c.args.what (sym (ap first_in c.in-Ok.ensures.taken.ahead)) waits;
    }

-- the log lets it begin
free : (g : Over) (c : After-known-2 g) → c.args.what ≡ OpClass.Change → begin_cause c.self.inside.store.volume.log ≡ None
free g c is = subst (λ (o : OpClass). kept_out o c.self.inside.store.volume.log ≡ None) is (head g c).takes.free

pub begin-group-requires-clause-may : goal.begin-group-requires-clause-may
begin-group-requires-clause-may g c =
    let none = free g (goal.at.begin-group-requires-clause-may g c).After-known-2 c.in-Change.is in
    record { none = search rules; free = none; opened = search rules }

pub begin-group-requires-clause-op : goal.begin-group-requires-clause-op
begin-group-requires-clause-op g c =
    let h = head g (goal.at.begin-group-requires-clause-op g c).After-known-2 in
    (change_begins c.self.inside.store.table.inode_count c.in-Ok.taken.0 c.value_known.ensures (h.kind ∙ c.in-Change.is)).0

changed : (g : Over) (c : After-take g) → c.take.new.self ≡ taken (with_more_room c.self.inside.processes) c.args.pid (begun c.self.inside.store.volume.log c.args.pid).opened c.in-Ok.taken.0 None
changed g c = c.take.ensures ∙ ap (λ (w : World). taken w c.args.pid c.begin-group.result c.in-Ok.taken.0 None) c.in-Ok.ensures.taken.world
    ∙ ap (λ n. taken (with_more_room c.self.inside.processes) c.args.pid n c.in-Ok.taken.0 None) c.begin-group.ensures.group

pub invariant_of-self-in-Change : goal.invariant_of-self-in-Change
invariant_of-self-in-Change g c =
    let k = c.self.inside in
    let past = (goal.at.invariant_of-self-in-Change g c).After-take in
    let h = head g (goal.at.invariant_of-self-in-Change g c).After-known-2 in
    let op = c.in-Ok.taken.0 in
    let t = c.begin-group.new.self in
    let is : t ≡ with_begun k.store c.args.pid op = c.begin-group.ensures.store in
    let agreed = subst (λ (o : StoreState _). HasAgreed g.D.Disk.image o) is (agreed_now g.D.Disk.image t (ap (λ (o : StoreState _). o.volume.fault) is ∙ h.well) c.known-in-Change.ensures.volume c.known-in-Change.ensures.store) in
    let keeps = subst (λ (o : StoreState _). KeepsFiles g.D.Disk.image k.store o) is c.begin-group.ensures.files in
    record {
      right = subst (λ (o : StoreState _). IsRight g.D.Disk k.opening.value o c.take.new.self) (sym is)
          (subst (λ (w : World). IsRight g.D.Disk k.opening.value (with_begun k.store c.args.pid op) w) (sym (changed g past))
          (right_taken g.D.Disk k.opening.value k.store k.processes c.self.invariant.right h.well c.args.pid h.lt h.stands op c.value_known.ensures (h.kind ∙ c.in-Change.is) (free g (goal.at.invariant_of-self-in-Change g c).After-known-2 c.in-Change.is) agreed keeps));
      since = subst (λ (o : StoreState _). LeavesSince g.D.Disk k.opening.value o c.take.new.self) (sym is)
          (subst (λ (w : World). LeavesSince g.D.Disk k.opening.value (with_begun k.store c.args.pid op) w) (sym (changed g past)) c.self.invariant.since);
      ports = subst (λ (o : StoreState _). ArePorts g.I.Intake g.H.Herald c.take_first.new.intake k.herald o.volume.log.committed c.take.new.self) (sym is)
          (ports_taken g.I.Intake g.H.Herald k.intake c.take_first.new.intake k.herald k.store.volume.log.committed k.processes c.take_first.new.processes c.take.new.self c.args.pid c.args.what k.store.volume.log op c.in-Ok.taken.1
          c.self.invariant.ports h.lt h.stands h.takes (begun k.store.volume.log c.args.pid).opened None (changed g past));
    }

pub returns-in-Change : goal.returns-in-Change
returns-in-Change g c =
    let h = head g (goal.at.returns-in-Change g c).After-known-2 in
    begins g (goal.at.returns-in-Change g c).After-known Step.Moved c.begin-group.new.self c.take_first.new.intake c.take.new.self
    (inl (record {
      op = c.in-Ok.taken.0;
      waits = ap (λ (o : OpClass). Some o) c.in-Change.is;
      taken = (h.takes.ahead, h.kind ∙ c.in-Change.is);
      room = h.takes.room;
      free = free g (goal.at.returns-in-Change g c).After-known-2 c.in-Change.is;
      answer = refl;
      store = c.begin-group.ensures.store;
      world = changed g (goal.at.returns-in-Change g c).After-take;
    }))
    h.takes.sides

-- the rooms of what looks at a file
rooms : (g : Over) (c : After-known-2 g) (count : _) → c.args.what ≡ OpClass.Look count → c.in-Ok.taken.1 ≡ rooms_for count
rooms g c count is = (head g c).takes.rooms_are ∙ ap (λ (o : OpClass). rooms_for (count_of o)) is

looked : (g : Over) (c : After-take-in-Look g) → (c.begin_look.new.self ≡ with_look c.self.inside.store c.args.pid c.in-Ok.taken.0 (room_for c.in-Look.field-0))
    × (c.take-in-Look.new.self ≡ taken (with_more_room c.self.inside.processes) c.args.pid 0 c.in-Ok.taken.0 (room_for c.in-Look.field-0))
looked g c =
    let has = rooms g (goal.at.After-take-in-Look g c).After-known-2 c.in-Look.field-0 c.in-Look.is in
    let op = c.in-Ok.taken.0 in (
      c.begin_look.ensures.store ∙ ap (λ (o : Rooms). with_look c.self.inside.store c.args.pid op o.read) has,
      c.take-in-Look.ensures ∙ ap (λ (w : World). taken w c.args.pid 0 op c.in-Ok.taken.1.answer) c.in-Ok.ensures.taken.world
          ∙ ap (λ (o : Rooms). taken (with_more_room c.self.inside.processes) c.args.pid 0 op o.answer) has,
    )

pub invariant_of-self-in-Look : goal.invariant_of-self-in-Look
invariant_of-self-in-Look g c =
    let k = c.self.inside in
    let made = looked g c in
    let h = head g (goal.at.invariant_of-self-in-Look g c).After-known-2 in
    let op = c.in-Ok.taken.0 in
    let count = c.in-Look.field-0 in
    let t = c.begin_look.new.self in
    let is : t ≡ with_look k.store c.args.pid op (room_for count) = made.0 in
    let agreed = subst (λ (o : StoreState _). HasAgreed g.D.Disk.image o) is (agreed_now g.D.Disk.image t (ap (λ (o : StoreState _). o.volume.fault) is ∙ h.well) c.known-in-Look.ensures.volume c.known-in-Look.ensures.store) in
    let keeps = subst (λ (o : StoreState _). KeepsFiles g.D.Disk.image k.store o) is c.begin_look.ensures.files in
    record {
      right = subst (λ (o : StoreState _). IsRight g.D.Disk k.opening.value o c.take-in-Look.new.self) (sym is)
          (subst (λ (w : World). IsRight g.D.Disk k.opening.value (with_look k.store c.args.pid op (room_for count)) w) (sym made.1)
          (right_looked g.D.Disk k.opening.value k.store k.processes c.self.invariant.right h.well c.args.pid h.lt h.stands op count (h.kind ∙ c.in-Look.is) agreed keeps));
      since = subst (λ (o : StoreState _). LeavesSince g.D.Disk k.opening.value o c.take-in-Look.new.self) (sym is)
          (subst (λ (w : World). LeavesSince g.D.Disk k.opening.value (with_look k.store c.args.pid op (room_for count)) w) (sym made.1) c.self.invariant.since);
      ports = subst (λ (o : StoreState _). ArePorts g.I.Intake g.H.Herald c.take_first.new.intake k.herald o.volume.log.committed c.take-in-Look.new.self) (sym is)
          (ports_taken g.I.Intake g.H.Herald k.intake c.take_first.new.intake k.herald k.store.volume.log.committed k.processes c.take_first.new.processes c.take-in-Look.new.self c.args.pid c.args.what k.store.volume.log op c.in-Ok.taken.1
          c.self.invariant.ports h.lt h.stands h.takes 0 (room_for count) made.1);
    }

pub returns-in-Look : goal.returns-in-Look
returns-in-Look g c =
    let made = looked g (goal.at.returns-in-Look g c).After-take-in-Look in
    let h = head g (goal.at.returns-in-Look g c).After-known-2 in
    begins g (goal.at.returns-in-Look g c).After-known Step.Moved c.begin_look.new.self c.take_first.new.intake c.take-in-Look.new.self
    (inr (inl (record {
      op = c.in-Ok.taken.0;
      count = c.in-Look.field-0;
      waits = ap (λ (o : OpClass). Some o) c.in-Look.is;
      taken = (h.takes.ahead, h.kind ∙ c.in-Look.is);
      room = h.takes.room;
      answer = refl;
      store = made.0;
      world = made.1;
    })))
    h.takes.sides

refusal : (g : Over) (c : After-refuse-answer g) → c.refuse-answer.new.self ≡ refused (with_more_room c.self.inside.processes) c.args.pid c.in-Ok.taken.0 (at_once_reply c.in-Ok.taken.0)
refusal g c = c.refuse-answer.ensures.processes ∙ ap (λ (r : Reply). refused c.take_first.new.processes c.args.pid c.in-Ok.taken.0 r) c.at_once_reply-reply.ensures.reply
    ∙ ap (λ (w : World). refused w c.args.pid c.in-Ok.taken.0 (at_once_reply c.in-Ok.taken.0)) c.in-Ok.ensures.taken.world

pub invariant_of-self-in-Refused : goal.invariant_of-self-in-Refused
invariant_of-self-in-Refused g c =
    let k = c.self.inside in
    let made = refusal g (goal.at.invariant_of-self-in-Refused g c).After-refuse-answer in
    let h = head g (goal.at.invariant_of-self-in-Refused g c).After-known-2 in
    let op = c.in-Ok.taken.0 in
    let fits = g.I.Intake.fits in
    let answer : c.refuse-answer.result ≡ refusal_answer (with_more_room k.processes) c.args.pid (at_once_reply op) =
    c.refuse-answer.ensures.answer ∙ ap (λ (r : Reply). refusal_answer c.take_first.new.processes c.args.pid r) c.at_once_reply-reply.ensures.reply ∙ ap (λ (w : World). refusal_answer w c.args.pid (at_once_reply op)) h.takes.world in
    record {
      right = subst (λ (w : World). IsRight g.D.Disk k.opening.value k.store w) (sym made) (right_refused g.D.Disk k.opening.value k.store k.processes c.self.invariant.right h.well c.args.pid h.lt h.stands op (h.kind ∙ c.in-Refused.is));
      since = since_refused g.D.Disk k.opening.value k.store k.processes c.refuse-answer.new.self c.args.pid op c.self.invariant.right h.well (h.kind ∙ c.in-Refused.is) made c.self.invariant.since;
      ports = ports_refused g.I.Intake g.H.Herald k.intake c.take_first.new.intake k.herald k.store.volume.log.committed k.processes c.take_first.new.processes c.refuse-answer.new.self c.args.pid c.args.what k.store.volume.log op c.in-Ok.taken.1
          c.self.invariant.ports h.lt h.stands h.takes c.answer.new.self (at_once_reply op) made
          c.answer.ensures.processes c.answer.ensures.others (subst (λ (a : Answer). FitWith (fits c.take_first.new.intake) (fits c.answer.new.self) c.args.pid (gives a)) answer c.answer.ensures.fits);
    }

pub returns-in-Refused : goal.returns-in-Refused
returns-in-Refused g c =
    let h = head g (goal.at.returns-in-Refused g c).After-known-2 in
    let op = c.in-Ok.taken.0 in
    begins g (goal.at.returns-in-Refused g c).After-known Step.Answered c.self.inside.store c.answer.new.self c.refuse-answer.new.self
    (inr (inr (inl (record {
      op = op;
      waits = ap (λ (o : OpClass). Some o) c.in-Refused.is;
      taken = (h.takes.ahead ∙ ap (λ (l : List Op). op ∷ l) (sym c.answer.ensures.ahead), h.kind ∙ c.in-Refused.is);
      answer = refl;
      store = refl;
      world = refusal g (goal.at.returns-in-Refused g c).After-refuse-answer;
    }))))
    (record { names = λ q. c.answer.ensures.names q ∙ h.takes.sides.names q; others = λ q apart. c.answer.ensures.others q apart ∙ h.takes.sides.others q apart })
