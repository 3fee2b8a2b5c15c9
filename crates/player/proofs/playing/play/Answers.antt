use Rattle.std.proofs.Common.{◌∙◌, refl, subst, sym}
use Rattle.std.specs.Io.KnownBytes.{Appends}
use Rattle.std.proofs.lemmas.List.{drop_all}
use Rattle.scripts.specs.declared.schedule.Word.TheVariants as word
use Rattle.player.specs.Told.{Saying, Told, is_last_told}
use Rattle.player.proofs.Plays.{all_broken, all_played, breaks_here, last_played, next_word, none_played, one_played}
use Rattle.player.proofs.Tells.{Both, all_heard, part_made}
use Rattle.player.specs.Disks.{faulty}
use Rattle.player.proofs.playing.play.Goals as goal

pub loop-word-init : goal.loop-word-init
loop-word-init g c = record {
  played = none_played is_last_told (Both (faulty g.D.Disk) c.args.base c.args.stop g.T.Teller.hears) ((g.T.Teller.says c.args.teller.now).of_turn c.args.inode_count) c.args.words.now (c.args.player.now, c.args.teller.now) (g.O.Write.contents c.args.out.now);
  says = refl;
  seated = c.requires.seated;
  processes = refl;
}

pub returns-in_err-print-clause-says : goal.returns-in_err-print-clause-says
returns-in_err-print-clause-says g c = c.turn-event.ensures.says ∙ c.loop-word.invariant.says

pub returns-in_err-print-clause-breaks : goal.returns-in_err-print-clause-breaks
returns-in_err-print-clause-breaks g c =
    part_made (faulty g.D.Disk) c.args.base c.args.stop g.T.Teller.hears c.args.words.now _ _ _ _
    (breaks_here is_last_told (Both (faulty g.D.Disk) c.args.base c.args.stop g.T.Teller.hears) ((g.T.Teller.says c.args.teller.now).of_turn c.args.inode_count) c.args.words.now c.loop-word.word-index _ _ _ _ _ _ (record { event = c.turn-event.result; notes = c.turn-event.ensures.heard.notes }) c.loop-word.invariant.played c.loop-word-test.true (next_word c.args.words.now c.loop-word.word-index (word.Step 0) c.loop-word-test.true)
    (c.turn-event.ensures.heard.turn, c.turn-event.ensures.heard.heard))

pub returns-then-is_last-clause-printed : goal.returns-then-is_last-clause-printed
returns-then-is_last-clause-printed g c =
    let told : Told = record { event = c.turn-event.result; notes = c.turn-event.ensures.heard.notes } in
    all_heard (faulty g.D.Disk) c.args.base c.args.stop g.T.Teller.hears c.args.words.now _ _ _ _ _ _ _
    (last_played is_last_told (Both (faulty g.D.Disk) c.args.base c.args.stop g.T.Teller.hears) ((g.T.Teller.says c.args.teller.now).of_turn c.args.inode_count) c.args.words.now c.loop-word.word-index _ _ _ _ _ _ (record { event = c.turn-event.result; notes = c.turn-event.ensures.heard.notes }) c.loop-word.invariant.played c.loop-word-test.true (next_word c.args.words.now c.loop-word.word-index (word.Step 0) c.loop-word-test.true)
    (c.turn-event.ensures.heard.turn, c.turn-event.ensures.heard.heard) _ (sym c.is_last.ensures ∙ c.if-is_last.true)
    (subst (λ (says : Saying). Appends (g.O.Write.contents c.loop-word.out) (g.O.Write.contents c.print.new.out) (says.of_turn c.args.inode_count told)) (c.turn-event.ensures.says ∙ c.loop-word.invariant.says) (c.in_ok-print.ensures _ told _ c.turn-event.ensures.heard.heard refl)))

pub returns-then-is_last-clause-says : goal.returns-then-is_last-clause-says
returns-then-is_last-clause-says g c = c.turn-event.ensures.says ∙ c.loop-word.invariant.says

pub returns-then-is_last-clause-breaks : goal.returns-then-is_last-clause-breaks
returns-then-is_last-clause-breaks g c =
    part_made (faulty g.D.Disk) c.args.base c.args.stop g.T.Teller.hears c.args.words.now _ _ _ _
    (breaks_here is_last_told (Both (faulty g.D.Disk) c.args.base c.args.stop g.T.Teller.hears) ((g.T.Teller.says c.args.teller.now).of_turn c.args.inode_count) c.args.words.now c.loop-word.word-index _ _ _ _ _ _ (record { event = c.turn-event.result; notes = c.turn-event.ensures.heard.notes }) c.loop-word.invariant.played c.loop-word-test.true (next_word c.args.words.now c.loop-word.word-index (word.Step 0) c.loop-word-test.true)
    (c.turn-event.ensures.heard.turn, c.turn-event.ensures.heard.heard))

pub loop-word-preserved : goal.loop-word-preserved
loop-word-preserved g c =
    let told : Told = record { event = c.turn-event.result; notes = c.turn-event.ensures.heard.notes } in
    record {
      played = one_played is_last_told (Both (faulty g.D.Disk) c.args.base c.args.stop g.T.Teller.hears) ((g.T.Teller.says c.args.teller.now).of_turn c.args.inode_count) c.args.words.now c.loop-word.word-index _ _ _ _ _ _ (record { event = c.turn-event.result; notes = c.turn-event.ensures.heard.notes }) c.loop-word.invariant.played c.loop-word-test.true (next_word c.args.words.now c.loop-word.word-index (word.Step 0) c.loop-word-test.true)
          (c.turn-event.ensures.heard.turn, c.turn-event.ensures.heard.heard) _ (sym c.is_last.ensures ∙ c.if-is_last.false)
          (subst (λ (says : Saying). Appends (g.O.Write.contents c.loop-word.out) (g.O.Write.contents c.print.new.out) (says.of_turn c.args.inode_count told)) (c.turn-event.ensures.says ∙ c.loop-word.invariant.says) (c.in_ok-print.ensures _ told _ c.turn-event.ensures.heard.heard refl));
      says = c.turn-event.ensures.says ∙ c.loop-word.invariant.says;
      seated = c.turn-event.ensures.seated;
      processes = c.turn-event.ensures.processes ∙ c.loop-word.invariant.processes;
    }

pub returns-clause-printed : goal.returns-clause-printed
returns-clause-printed g c =
    all_heard (faulty g.D.Disk) c.args.base c.args.stop g.T.Teller.hears c.args.words.now _ _ _ _ _ _ _
    (all_played is_last_told (Both (faulty g.D.Disk) c.args.base c.args.stop g.T.Teller.hears) ((g.T.Teller.says c.args.teller.now).of_turn c.args.inode_count) c.args.words.now c.loop-word.word-index _ _ _ _ c.loop-word.invariant.played (drop_all c.loop-word.word-index c.args.words.now c.loop-word-test.false))

pub returns-clause-says : goal.returns-clause-says
returns-clause-says g c = c.loop-word.invariant.says

pub returns-clause-breaks : goal.returns-clause-breaks
returns-clause-breaks g c =
    part_made (faulty g.D.Disk) c.args.base c.args.stop g.T.Teller.hears c.args.words.now _ _ _ _
    (all_broken is_last_told (Both (faulty g.D.Disk) c.args.base c.args.stop g.T.Teller.hears) ((g.T.Teller.says c.args.teller.now).of_turn c.args.inode_count) c.args.words.now _ _ (g.O.Write.contents c.args.out.now) (g.O.Write.contents c.loop-word.out)
    (all_played is_last_told (Both (faulty g.D.Disk) c.args.base c.args.stop g.T.Teller.hears) ((g.T.Teller.says c.args.teller.now).of_turn c.args.inode_count) c.args.words.now c.loop-word.word-index _ _ _ _ c.loop-word.invariant.played (drop_all c.loop-word.word-index c.args.words.now c.loop-word-test.false)))
