use Rattle.std.proofs.Common.{codes, refl}
use Rattle.clap.specs.Words.{found_of}
use Rattle.cli.specs.Lemmas.Parses.{flag_read, value_read}
use Rattle.xvfs_words.proofs.words.stops_request.Goals as goal

pub returns : goal.returns
returns c =
    let found = found_of c.args.values.now in (
      refl,
      value_read found (codes "SCRIPT") _ c.in_ok-get_str.ensures,
      value_read found (codes "SCHEDULE") _ c.in_ok-get_str-2.ensures,
      flag_read found (codes "held") c.get_flag.result c.get_flag.ensures.none c.get_flag.ensures.value c.get_flag.ensures.other,
      c.in_ok-page.ensures.path,
      c.in_ok-page.ensures.plain,
      c.in_ok-page.ensures.whose,
      flag_read found (codes "json") c.get_flag-2.result c.get_flag-2.ensures.none c.get_flag-2.ensures.value c.get_flag-2.ensures.other,
    )
