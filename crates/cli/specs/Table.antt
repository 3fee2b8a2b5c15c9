-- The table of commands, as clap is told it.
use Rattle.std.specs.Prelude.{List, ℕ, [], ◌∷◌, Option, None, Some, codes, pos}
use Rattle.clap.specs.declared.builder.action.ArgAction.TheVariants.{Append, SetTrue}
use Rattle.clap.specs.Words.{App, Rule, new_app, new_rule, with_rule, with_subcommand}
use Rattle.clap.specs.declared.builder.value_parser.ValueParser.TheVariants.{Signed, Unsigned}
use Rattle.cli.specs.CommandLine.{choice_rule, flag_rule, named_app, number_rule, required_rule}
use Rattle.cli.specs.declared.table.Kind.{Kind}
use Rattle.cli.specs.declared.table.Kind.TheVariants.{Needed, Free, Rest, Number, Choice, Flag, Letter, Valued, FewValued, LongValued, Preset, Path}
use Rattle.cli.specs.declared.table.Line.{Line}
use Rattle.cli.specs.declared.table.Outline.{Outline}
use Rattle.cli.specs.declared.table.Word.{Word}

-- a word after `--` that has a value
abbrev pub valued_rule : List ℕ → Rule → Rule
valued_rule id rule = record rule { long = Some id; value_names = 1 }

-- a word with a number of 32 bits from 1, which is this one where none is given
abbrev pub preset_rule : List ℕ → Rule → Rule
preset_rule value rule = record rule {
  range = Some (record { start_inclusive = 0; end_inclusive = 1 });
  missing = value ∷ [];
  parser = Some (Signed (pos 1) (pos 4294967295));
}

abbrev pub kind_rule : Kind → List ℕ → Rule
kind_rule Needed id = required_rule id
kind_rule Free id = new_rule id
kind_rule Rest id = record (new_rule id) { action = Some Append }
kind_rule Number id = number_rule id
kind_rule Choice id = choice_rule id
kind_rule Flag id = flag_rule id
kind_rule (Letter letter) id =
    record (new_rule id) { short = Some letter; action = Some SetTrue }
kind_rule Valued id = valued_rule id (choice_rule id)
kind_rule FewValued id =
    valued_rule id (record (new_rule id) { parser = Some (Signed (pos 1) (pos 32)) })
kind_rule LongValued id =
    valued_rule id (record (new_rule id) { parser = Some (Unsigned 1 18446744073709551615) })
kind_rule (Preset value) id = preset_rule value.now (valued_rule id (new_rule id))
kind_rule Path id = valued_rule id (new_rule id)

abbrev pub word_rule : Word → Rule
word_rule word = kind_rule word.kind word.name.now

abbrev pub with_words : App → List Word → App
with_words app [] = app
with_words app (word ∷ rest) = with_words (with_rule app (word_rule word)) rest

-- with the path of an image, which it waits for, says more of, or takes no lock of
abbrev pub with_image : App → Option Word → App
with_image app None = app
with_image app (Some image) =
    with_rule (with_rule (with_rule (with_rule app (word_rule image)) (flag_rule (codes "wait")))
    (flag_rule (codes "explain"))) (flag_rule (codes "no-lock"))

-- a command with its words
abbrev pub line_app : Line → App
line_app line = with_words (with_image (new_app line.name.now) line.image) line.words.now

abbrev pub with_lines : App → List Line → App
with_lines app [] = app
with_lines app (line ∷ rest) = with_lines (with_subcommand app (line_app line).top) rest

-- a program with its commands
abbrev pub outline_app : Outline → App
outline_app outline = with_lines (named_app outline.name.now) outline.lines.now
