use Rattle.std.proofs.Common.{codes, refl}
use Rattle.clap.specs.Words.{found_of}
use Rattle.cli.specs.Lemmas.Parses.{flag_read, value_read}
use Rattle.names_words.proofs.words.rm_request.Goals as goal

pub returns : goal.returns
returns c =
    let found = found_of c.args.values.now in (
      refl,
      record { image_is = value_read found (codes "IMAGE") _ c.in_ok-get_str.ensures; syncs = flag_read found (codes "sync") c.get_flag.result c.get_flag.ensures.none c.get_flag.ensures.value c.get_flag.ensures.other; leaves_out = flag_read found (codes "no-sync") c.get_flag-2.result c.get_flag-2.ensures.none c.get_flag-2.ensures.value c.get_flag-2.ensures.other },
      value_read found (codes "PATH") _ c.in_ok-get_str-2.ensures,
      flag_read found (codes "all") c.get_flag-all.result c.get_flag-all.ensures.none c.get_flag-all.ensures.value c.get_flag-all.ensures.other,
    )
