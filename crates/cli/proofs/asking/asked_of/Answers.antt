use Rattle.std.proofs.Common.{codes}
use Rattle.clap.specs.Words.{found_of, rows_of}
use Rattle.cli.specs.Lemmas.Parses.{flag_read}
use Rattle.cli.proofs.CommandLines.{gives}
use Rattle.cli.proofs.asking.asked_of.Goals as goal

pub returns-clause-waits : goal.returns-clause-waits
returns-clause-waits g c =
    let found = found_of c.in-Some.values.now in
    gives _ _ (codes "wait") c.in-Some.name.now (rows_of found) c.get_flag.result c.in-Some.ensures.name c.in-Some.ensures.rows (flag_read found (codes "wait") c.get_flag.result c.get_flag.ensures.none c.get_flag.ensures.value c.get_flag.ensures.other)

pub returns-clause-explains : goal.returns-clause-explains
returns-clause-explains g c =
    let found = found_of c.in-Some.values.now in
    gives _ _ (codes "explain") c.in-Some.name.now (rows_of found) c.get_flag-2.result c.in-Some.ensures.name c.in-Some.ensures.rows (flag_read found (codes "explain") c.get_flag-2.result c.get_flag-2.ensures.none c.get_flag-2.ensures.value c.get_flag-2.ensures.other)

pub returns-clause-unlocked : goal.returns-clause-unlocked
returns-clause-unlocked g c =
    let found = found_of c.in-Some.values.now in
    gives _ _ (codes "no-lock") c.in-Some.name.now (rows_of found) c.get_flag-3.result c.in-Some.ensures.name c.in-Some.ensures.rows (flag_read found (codes "no-lock") c.get_flag-3.result c.get_flag-3.ensures.none c.get_flag-3.ensures.value c.get_flag-3.ensures.other)
