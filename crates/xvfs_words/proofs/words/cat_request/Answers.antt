use Rattle.std.proofs.Common.{codes, refl}
use Rattle.clap.specs.Words.{found_of}
use Rattle.cli.specs.Lemmas.Parses.{flag_read, number_read, value_read}
use Rattle.xvfs_words.proofs.words.cat_request.Goals as goal

pub returns : goal.returns
returns c =
    let found = found_of c.args.values.now in (
      refl,
      value_read found (codes "IMAGE") _ c.in_ok-get_str.ensures,
      number_read 32 found (codes "INUM") _ c.in_ok-get_one.ensures.none c.in_ok-get_one.ensures.value,
      flag_read found (codes "read-only") c.get_flag.result c.get_flag.ensures.none c.get_flag.ensures.value c.get_flag.ensures.other,
    )
