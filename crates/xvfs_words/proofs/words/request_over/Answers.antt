use Rattle.std.proofs.Common.{codes, rules}
use Rattle.clap.specs.Words.{found_of}
use Rattle.cli.specs.Lemmas.Parses.{flag_read, value_read}
use Rattle.xvfs_words.proofs.words.request_over.Goals as goal

pub returns-in-check : goal.returns-in-check
returns-in-check c =
    let found = found_of c.args.values.now in (
      search rules,
      value_read found (codes "IMAGE") _ c.in_ok-image.ensures,
      flag_read found (codes "all") c.get_flag.result c.get_flag.ensures.none c.get_flag.ensures.value c.get_flag.ensures.other,
      flag_read found (codes "json") c.get_flag-json.result c.get_flag-json.ensures.none c.get_flag-json.ensures.value c.get_flag-json.ensures.other,
    )

pub returns-in-recover : goal.returns-in-recover
returns-in-recover c =
    let found = found_of c.args.values.now in (
      search rules,
      value_read found (codes "IMAGE") _ c.in_ok-image.ensures,
      flag_read found (codes "sync") c.get_flag-in-recover.result c.get_flag-in-recover.ensures.none c.get_flag-in-recover.ensures.value c.get_flag-in-recover.ensures.other,
      flag_read found (codes "json") c.get_flag-json.result c.get_flag-json.ensures.none c.get_flag-json.ensures.value c.get_flag-json.ensures.other,
    )

pub returns-in-ls : goal.returns-in-ls
returns-in-ls c =
    let found = found_of c.args.values.now in (
      search rules,
      value_read found (codes "IMAGE") _ c.in_ok-image.ensures,
      flag_read found (codes "json") c.get_flag-json.result c.get_flag-json.ensures.none c.get_flag-json.ensures.value c.get_flag-json.ensures.other,
    )

pub returns-in-df : goal.returns-in-df
returns-in-df c =
    let found = found_of c.args.values.now in (
      search rules,
      value_read found (codes "IMAGE") _ c.in_ok-image.ensures,
      flag_read found (codes "json") c.get_flag-json.result c.get_flag-json.ensures.none c.get_flag-json.ensures.value c.get_flag-json.ensures.other,
    )
