use Rattle.std.proofs.Common.{◌∙◌, None, sym}
use Rattle.std.proofs.lemmas.List.{drop_all}
use Rattle.scripts.specs.declared.schedule.Word.TheVariants as word
use Rattle.messages.specs.Events.{event_line, is_last}
use Rattle.player.specs.Stepping.{MakesGrantedTurn}
use Rattle.player.proofs.Plays.{next_word, one_played, last_played, all_played}
use Rattle.player.specs.Disks.{faulty}
use Rattle.player.proofs.playing.make_turns.Goals as goal

pub returns-then-is_last : goal.returns-then-is_last
returns-then-is_last g c =
    let plays = last_played is_last (MakesGrantedTurn (faulty g.D.Disk) c.args.stop) event_line c.args.words.now c.loop-word.word-index _ _ _ None None _ c.turn-event.result c.loop-word.invariant.played c.loop-word-test.true (next_word c.args.words.now c.loop-word.word-index (word.Step 0) c.loop-word-test.true)
    (c.turn-event.ensures.makes, sym c.is_refused.ensures ∙ c.if-is_refused.false) None (sym c.is_last.ensures ∙ c.if-is_last.true) tt in
    record { made = (plays.came, plays.makes) }

pub loop-word-preserved : goal.loop-word-preserved
loop-word-preserved g c = record {
  played = one_played is_last (MakesGrantedTurn (faulty g.D.Disk) c.args.stop) event_line c.args.words.now c.loop-word.word-index _ _ _ None None _ c.turn-event.result c.loop-word.invariant.played c.loop-word-test.true (next_word c.args.words.now c.loop-word.word-index (word.Step 0) c.loop-word-test.true)
      (c.turn-event.ensures.makes, sym c.is_refused.ensures ∙ c.if-is_refused.false) None (sym c.is_last.ensures ∙ c.if-is_last.false) tt;
  seated = c.turn-event.ensures.seated;
  processes = c.turn-event.ensures.processes ∙ c.loop-word.invariant.processes;
}

pub returns : goal.returns
returns g c =
    let plays = all_played is_last (MakesGrantedTurn (faulty g.D.Disk) c.args.stop) event_line c.args.words.now c.loop-word.word-index _ _ None None c.loop-word.invariant.played (drop_all c.loop-word.word-index c.args.words.now c.loop-word-test.false) in
    record { made = (plays.came, plays.makes) }
