use Rattle.std.proofs.Common.{◌≡◌, length}
use Rattle.scripts.proofs.Walk.{HasRead, NoneBad}
use Rattle.scripts.specs.Schedule.{is_bad, word_of, words_of}
use Rattle.scripts.proofs.schedule.words_in.Given as goal

abbrev pub invariant-loop-word : goal.invariant-loop-word
invariant-loop-word l = record {
  counted : l.number ≡ length l.yielded;
  read : HasRead (λ numbered. word_of l.processes numbered.1) (words_of l.text) l.number l.words.items;
  none_bad : NoneBad (is_bad l.processes) (words_of l.text) l.number;
}
