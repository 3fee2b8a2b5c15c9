use Rattle.std.proofs.Common.{codes, refl, subst}
use Rattle.clap.specs.Words.{found_of, rows_of}
use Rattle.cli.specs.Asking.{HasFlag}
use Rattle.cli.specs.Lemmas.Parses.{choice_read, flag_read, value_read}
use Rattle.xvfs_words.proofs.words.replay_request.Goals as goal

pub returns : goal.returns
returns c = (
  refl,
  value_read (found_of c.args.values.now) (codes "IMAGE") _ c.in_ok-get_str.ensures,
  value_read (found_of c.args.values.now) (codes "SCRIPT") _ c.in_ok-get_str-2.ensures,
  value_read (found_of c.args.values.now) (codes "SCHEDULE") _ c.in_ok-get_str-3.ensures,
  choice_read 64 (found_of c.args.values.now) (codes "stop") c.get_one.result c.get_one.ensures.none c.get_one.ensures.value,
  flag_read (found_of c.args.values.now) (codes "sync") c.get_flag-2.result c.get_flag-2.ensures.none c.get_flag-2.ensures.value c.get_flag-2.ensures.other,
  flag_read (found_of c.args.values.now) (codes "writes") c.get_flag-3.result c.get_flag-3.ensures.none c.get_flag-3.ensures.value c.get_flag-3.ensures.other,
  flag_read (found_of c.args.values.now) (codes "steps") c.get_flag-4.result c.get_flag-4.ensures.none c.get_flag-4.ensures.value c.get_flag-4.ensures.other,
  c.in_ok-page.ensures.path,
  c.in_ok-page.ensures.plain,
  c.in_ok-page.ensures.whose,
  subst (HasFlag (codes "json") (rows_of (found_of c.args.values.now))) c.if-get_flag.false
      (flag_read (found_of c.args.values.now) (codes "json") c.get_flag.result c.get_flag.ensures.none c.get_flag.ensures.value c.get_flag.ensures.other),
)

pub json_request-requires : goal.json_request-requires
json_request-requires c =
    subst (HasFlag (codes "json") (rows_of (found_of c.args.values.now))) c.if-get_flag.true
    (flag_read (found_of c.args.values.now) (codes "json") c.get_flag.result c.get_flag.ensures.none c.get_flag.ensures.value c.get_flag.ensures.other)
