-- The table's commands and words, one after the other.
use Rattle.std.proofs.Common.{◌+◌, ◌≡◌, ◌∙◌, ◌<◌, ℕ, List, [], ◌∷◌, ◌++◌, refl, ap, length, slice_index_or, take}
use Rattle.std.proofs.lemmas.List.{take_more}
use Rattle.clap.specs.Words.{App, with_rule, with_subcommand}
use Rattle.cli.specs.Table.{line_app, with_lines, with_words, word_rule}
use Rattle.cli.specs.declared.table.Line.{Line}
use Rattle.cli.specs.declared.table.Word.{Word}

words_and_one : (app : App) (ws : List Word) (w : Word) → with_words app (ws ++ w ∷ []) ≡ with_rule (with_words app ws) (word_rule w)
words_and_one app [] w = refl
words_and_one app (v ∷ ws) w = words_and_one (with_rule app (word_rule v)) ws w

lines_and_one : (app : App) (ls : List Line) (x : Line) → with_lines app (ls ++ x ∷ []) ≡ with_subcommand (with_lines app ls) (line_app x).top
lines_and_one app [] x = refl
lines_and_one app (y ∷ ls) x = lines_and_one (with_subcommand app (line_app y).top) ls x

-- with one word more
pub next_word : (app : App) (ws : List Word) (k : ℕ) (default : Word) → k < length ws → with_words app (take (k + 1) ws) ≡ with_rule (with_words app (take k ws)) (word_rule (slice_index_or ws k default))
next_word app ws k default lt = ap (with_words app) (take_more ws k default lt) ∙ words_and_one app (take k ws) (slice_index_or ws k default)

-- with one command more
pub next_line : (app : App) (ls : List Line) (k : ℕ) (default : Line) → k < length ls → with_lines app (take (k + 1) ls) ≡ with_subcommand (with_lines app (take k ls)) (line_app (slice_index_or ls k default)).top
next_line app ls k default lt = ap (with_lines app) (take_more ls k default lt) ∙ lines_and_one app (take k ls) (slice_index_or ls k default)
