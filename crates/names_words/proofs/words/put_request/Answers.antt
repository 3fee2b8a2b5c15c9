use Rattle.std.proofs.Common.{codes, refl, subst}
use Rattle.clap.specs.Words.{found_of, rows_of}
use Rattle.cli.specs.Asking.{HasFlag}
use Rattle.cli.specs.Lemmas.Parses.{flag_read, value_read}
use Rattle.names_words.proofs.words.put_request.Goals as goal

pub returns-then-whole : goal.returns-then-whole
returns-then-whole c =
    let found = found_of c.args.values.now in (
      refl,
      value_read found (codes "IMAGE") _ c.in_ok-image.ensures,
      value_read found (codes "FILE") _ c.in_ok-file.ensures,
      value_read found (codes "PATH") _ c.in_ok-path.ensures,
      subst (HasFlag (codes "all") (rows_of found)) c.if-whole.true (flag_read found (codes "all") c.get_flag-whole.result c.get_flag-whole.ensures.none c.get_flag-whole.ensures.value c.get_flag-whole.ensures.other),
    )

pub returns : goal.returns
returns c =
    let found = found_of c.args.values.now in (
      refl,
      record { image_is = value_read found (codes "IMAGE") _ c.in_ok-image.ensures; syncs = flag_read found (codes "sync") c.get_flag.result c.get_flag.ensures.none c.get_flag.ensures.value c.get_flag.ensures.other; leaves_out = flag_read found (codes "no-sync") c.get_flag-2.result c.get_flag-2.ensures.none c.get_flag-2.ensures.value c.get_flag-2.ensures.other },
      value_read found (codes "FILE") _ c.in_ok-file.ensures,
      value_read found (codes "PATH") _ c.in_ok-path.ensures,
      subst (HasFlag (codes "all") (rows_of found)) c.if-whole.false (flag_read found (codes "all") c.get_flag-whole.result c.get_flag-whole.ensures.none c.get_flag-whole.ensures.value c.get_flag-whole.ensures.other),
    )
