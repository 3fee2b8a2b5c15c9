use Rattle.std.proofs.Common.{None, Some, codes, false}
use Rattle.clap.specs.Words.{found_of}
use Rattle.cli.specs.Lemmas.Parses.{flag_read, path_read}
use Rattle.xvfs_words.proofs.words.page_of.Goals as goal

pub returns-in-Some-default-clause-path : goal.returns-in-Some-default-clause-path
returns-in-Some-default-clause-path c = path_read (found_of c.args.values.now) (codes "picture") (Some c.in-Some-default.path.now) c.in-Some-default.ensures

pub returns-in-Some-default-clause-plain : goal.returns-in-Some-default-clause-plain
returns-in-Some-default-clause-plain c =
    let plain = c.get_flag-plain in
    flag_read (found_of c.args.values.now) (codes "plain") plain.result plain.ensures.none plain.ensures.value plain.ensures.other

pub returns-in-None-false-clause-path : goal.returns-in-None-false-clause-path
returns-in-None-false-clause-path c = path_read (found_of c.args.values.now) (codes "picture") None c.in-None-false.ensures

pub returns-in-None-false-clause-plain : goal.returns-in-None-false-clause-plain
returns-in-None-false-clause-plain c =
    let plain = c.in-None-false.ensures' in
    flag_read (found_of c.args.values.now) (codes "plain") false plain.none plain.value plain.other
