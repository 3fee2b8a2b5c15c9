use Rattle.std.proofs.Common.{None, codes, false, refl, sym}
use Rattle.clap.specs.Words.{found_of}
use Rattle.cli.specs.Lemmas.Parses.{choice_read, flag_read, path_read, value_read}
use Rattle.xvfs_words.proofs.words.json_request.Goals as goal

pub returns-in_ok-get_str-in-false-false-false-None-3 : goal.returns-in_ok-get_str-in-false-false-false-None-3
returns-in_ok-get_str-in-false-false-false-None-3 c =
    let found = found_of c.args.values.now in (
      refl,
      value_read found (codes "IMAGE") _ c.in_ok-get_str-in-false-false-false-None.ensures,
      value_read found (codes "SCRIPT") _ c.in_ok-get_str-in-false-false-false-None-2.ensures,
      value_read found (codes "SCHEDULE") _ c.in_ok-get_str-in-false-false-false-None-3.ensures,
      choice_read 64 found (codes "stop") c.get_one.result c.get_one.ensures.none c.get_one.ensures.value,
      flag_read found (codes "sync") c.get_flag.result c.get_flag.ensures.none c.get_flag.ensures.value c.get_flag.ensures.other,
      c.requires,
      flag_read found (codes "writes") false c.in-false-false-false-None.ensures.none c.in-false-false-false-None.ensures.value c.in-false-false-false-None.ensures.other,
      flag_read found (codes "steps") false c.in-false-false-false-None.ensures'.none c.in-false-false-false-None.ensures'.value c.in-false-false-false-None.ensures'.other,
      flag_read found (codes "plain") false c.in-false-false-false-None.ensures''.none c.in-false-false-false-None.ensures''.value c.in-false-false-false-None.ensures''.other,
      sym (path_read found (codes "picture") None c.in-false-false-false-None.ensures'''),
    )
