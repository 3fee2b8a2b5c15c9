use Rattle.std.proofs.Common.{codes, rules}
use Rattle.clap.specs.Words.{found_of}
use Rattle.cli.specs.Lemmas.Parses.{flag_read, value_read}
use Rattle.names_words.proofs.CommandLines.{path_read}
use Rattle.names_words.proofs.words.look_request.Goals as goal

pub returns-in-ls : goal.returns-in-ls
returns-in-ls c =
    let found = found_of c.args.values.now in
    (search rules, value_read found (codes "IMAGE") _ c.in_ok-image.ensures, path_read found c.unwrap_or-path.result.now (search rules), flag_read found (codes "json") c.get_flag-json.result c.get_flag-json.ensures.none c.get_flag-json.ensures.value c.get_flag-json.ensures.other)

pub returns-in-tree : goal.returns-in-tree
returns-in-tree c =
    let found = found_of c.args.values.now in
    (search rules, value_read found (codes "IMAGE") _ c.in_ok-image.ensures, path_read found c.unwrap_or-path.result.now (search rules), flag_read found (codes "json") c.get_flag-json.result c.get_flag-json.ensures.none c.get_flag-json.ensures.value c.get_flag-json.ensures.other)
