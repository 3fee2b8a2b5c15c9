use Rattle.std.proofs.Common.{codes, refl}
use Rattle.clap.specs.Words.{found_of}
use Rattle.cli.specs.Lemmas.Parses.{choice_read, flag_read, value_read}
use Rattle.xvfs_words.proofs.words.copy_request.Goals as goal

pub returns : goal.returns
returns c = (
  refl,
  value_read (found_of c.args.values.now) (codes "OLD") _ c.in_ok-get_str.ensures,
  value_read (found_of c.args.values.now) (codes "NEW") _ c.in_ok-get_str-2.ensures,
  choice_read 32 (found_of c.args.values.now) (codes "size") c.get_one.result c.get_one.ensures.none c.get_one.ensures.value,
  flag_read (found_of c.args.values.now) (codes "no-sync") c.get_flag.result c.get_flag.ensures.none c.get_flag.ensures.value c.get_flag.ensures.other,
)
