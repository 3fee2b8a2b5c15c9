use Rattle.std.proofs.Common.{codes, refl}
use Rattle.clap.specs.Words.{found_of}
use Rattle.cli.specs.Lemmas.Parses.{choice_read, flag_read, value_read}
use Rattle.xvfs_words.proofs.words.put_request.Goals as goal

pub returns : goal.returns
returns c =
    let found = found_of c.args.values.now in (
      refl,
      value_read found (codes "IMAGE") _ c.in_ok-image.ensures,
      value_read found (codes "FILE") _ c.in_ok-get_str.ensures,
      choice_read 32 found (codes "INUM") c.get_one.result c.get_one.ensures.none c.get_one.ensures.value,
      flag_read found (codes "sync") c.get_flag.result c.get_flag.ensures.none c.get_flag.ensures.value c.get_flag.ensures.other,
      flag_read found (codes "no-sync") c.get_flag-2.result c.get_flag-2.ensures.none c.get_flag-2.ensures.value c.get_flag-2.ensures.other,
    )
