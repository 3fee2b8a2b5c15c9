use Rattle.std.proofs.Common.{◌≡◌, ◌∙◌, List, [], ◌∷◌, ◌++◌, length, rules, ap, subst, sym, refl, arith}
use Rattle.std.proofs.lemmas.List.{length_push}
use Rattle.model.specs.declared.types.operations.Step.{Step}
use Rattle.model.specs.declared.types.operations.Step.TheVariants as step
use Rattle.messages.specs.declared.deeds.StepNote.{StepNote}
use Rattle.player.specs.Disks.{faulty}
use Rattle.player.specs.Stepping.{MakesRingedStep}
use Rattle.player.specs.Told.{NotesMoves, note_of}
use Rattle.player.proofs.Tells.{noted_few, noted_more}
use Rattle.player.proofs.player.Player.noted_steps.Goals as goal

pub loop-step-init : goal.loop-step-init
loop-step-init g c =
    let k = c.args.self.now.kernel in
    record {
      moves = subst (λ (ns : List StepNote). NotesMoves (faulty g.D.Disk) c.args.base c.args.pid ns k k) (sym c.requires.none) refl;
      count = ap length c.requires.none;
      processes = refl;
      feeders = refl;
      watch = (refl, refl);
      seated = c.requires.seated;
    }

pub loop-step-preserved : goal.loop-step-preserved
loop-step-preserved g c =
    let disk = faulty g.D.Disk in
    let was = c.loop-step.self.kernel in
    let now = c.noted_step-step.new.self.kernel in
    let moved : c.noted_step-step.result ≡ step.Moved = search rules in
    let note = note_of disk c.args.base c.args.pid step.Moved was now in
    let made = subst (λ (r : Step). MakesRingedStep disk c.args.pid r was now) moved c.noted_step-step.ensures.makes in
    let all = c.noted_step-step.ensures.note ∙ ap (λ (r : Step). c.loop-step.notes ++ note_of disk c.args.base c.args.pid r was now ∷ []) moved in
    record {
      moves = subst (λ (ns : List StepNote). NotesMoves disk c.args.base c.args.pid ns c.args.self.now.kernel now) (sym all) (noted_more disk c.args.base c.args.pid c.loop-step.notes note c.args.self.now.kernel was now c.loop-step.invariant.moves made refl);
      count = let one = ap length all in let more = length_push c.loop-step.notes note in let so = c.loop-step.invariant.count in omega (arith, one, more, so);
      processes = c.noted_step-step.ensures.processes ∙ c.loop-step.invariant.processes;
      feeders = c.noted_step-step.ensures.feeders ∙ c.loop-step.invariant.feeders;
      watch = (c.noted_step-step.ensures.watch.0 ∙ c.loop-step.invariant.watch.0, c.noted_step-step.ensures.watch.1 ∙ c.loop-step.invariant.watch.1);
      seated = c.noted_step-step.ensures.seated;
    }

pub returns-then-ne-clause-notes : goal.returns-then-ne-clause-notes
returns-then-ne-clause-notes g c = record {
  before = c.loop-step.notes;
  mid = c.loop-step.self.kernel;
  moves = c.loop-step.invariant.moves;
  made = c.noted_step-step.ensures.makes;
  last = search rules;
  all = c.noted_step-step.ensures.note;
}

pub unreachable-requires : goal.unreachable-requires
unreachable-requires g c =
    let few = noted_few (faulty g.D.Disk) c.args.base c.args.pid c.loop-step.notes c.args.self.now.kernel c.loop-step.self.kernel c.loop-step.invariant.moves in
    let all = c.loop-step-test.false in
    let count = c.loop-step.invariant.count in
    omega (arith, few, all, count)
