use Rattle.std.proofs.Common.{codes, refl}
use Rattle.clap.specs.Words.{found_of}
use Rattle.cli.specs.Lemmas.Parses.{flag_read, value_read}
use Rattle.names_words.proofs.words.cp_request.Goals as goal

pub returns : goal.returns
returns c =
    let found = found_of c.args.values.now in (
      refl,
      record { image_is = value_read found (codes "IMAGE") _ c.in_ok-get_str.ensures; syncs = flag_read found (codes "sync") c.get_flag.result c.get_flag.ensures.none c.get_flag.ensures.value c.get_flag.ensures.other; leaves_out = flag_read found (codes "no-sync") c.get_flag-2.result c.get_flag-2.ensures.none c.get_flag-2.ensures.value c.get_flag-2.ensures.other },
      value_read found (codes "FROM") _ c.in_ok-from.ensures,
      value_read found (codes "TO") _ c.in_ok-get_str-2.ensures,
    )
