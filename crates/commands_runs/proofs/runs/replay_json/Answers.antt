use Rattle.std.proofs.Common.{◌≡◌, ℕ, List, Option, None, sym, subst}
use Rattle.std.specs.Prelude.{unwrap_or}
use Rattle.cmd.specs.Lemmas.Disks.{faulty_disk, file_disk}
use Rattle.player.specs.Opening.{IsNotReplayed, Replays}
use Rattle.player.specs.Told.{in_objects, writes_in}
use Rattle.commands.specs.Lemmas.Ended.{where_done, where_refused}
use Rattle.commands_runs.proofs.Leaving.{writes_asked}
use Rattle.commands_runs.proofs.Opened.{still_opened}
use Rattle.commands_runs.proofs.runs.replay_json.Goals as goal

pub returns-in-Ok-ran-clause-opened : goal.returns-in-Ok-ran-clause-opened
returns-in-Ok-ran-clause-opened g c =
    let ran = c.replay_written-ran in
    let had = c.writes_on-written in
    let read = c.in-Ok.read.0 in
    let told = where_done ran.result.0 _ _ c.in-Ok-ran.is ran.ensures.printed in
    let written = writes_in had.result (λ v. v.items) in (
      had.new.disk,
      (
        ran.result.1,
        still_opened g.R.File.Read.remaining c.args.replay.sync c.in-Ok.read.1 had.new.disk had.ensures.reads had.ensures.file c.in-Ok.ensures.opened,
        (
          written,
          record {
            tasks = _;
            processes = _;
            words = _;
            tolds = told.0;
            replays = subst (λ (stop : Option ℕ). Replays file_disk faulty_disk had.new.disk ran.result.1 read.tasks.items read.processes read.words.items (unwrap_or stop 0) (in_objects written) None (g.O.Write.contents c.args.out.now) (g.O.Write.contents ran.new.out) told.0) c.in-Ok.ensures.scenario.stops told.1;
            more = writes_asked had.result (λ v. v.items) c.args.replay.sync (file_disk.image c.in-Ok.read.1) (file_disk.image had.new.disk) read.tasks.items read.processes read.words.items read.stop c.args.replay.stop (sym had.ensures.reads.image) c.in-Ok.ensures.scenario.stops
                (where_done ran.result.0 _ _ c.in-Ok-ran.is ran.ensures.had) had.ensures.writes;
          },
        ),
      ),
    )

pub returns-clause-refused : goal.returns-clause-refused
returns-clause-refused g c =
    let ran = c.replay_written-ran in
    let had = c.writes_on-written in
    let read = c.in-Ok.read.0 in
    let written = writes_in had.result (λ v. v.items) in (
      had.new.disk,
      (
        ran.result.1,
        still_opened g.R.File.Read.remaining c.args.replay.sync c.in-Ok.read.1 had.new.disk had.ensures.reads had.ensures.file c.in-Ok.ensures.opened,
        record {
          tasks = _;
          processes = _;
          words = _;
          written = written;
          refused = subst (λ (stop : Option ℕ). IsNotReplayed file_disk faulty_disk had.new.disk ran.result.1 read.tasks.items read.processes read.words.items (unwrap_or stop 0) (in_objects written) (g.O.Write.contents c.args.out.now) (g.O.Write.contents ran.new.out) (ran.new.out ≡ c.args.out.now) c.in-Err-ran.refusal) c.in-Ok.ensures.scenario.stops
              (where_refused ran.result.0 c.in-Err-ran.refusal _ c.in-Err-ran.is ran.ensures.refused);
          writes = λ may. writes_asked had.result (λ v. v.items) c.args.replay.sync (file_disk.image c.in-Ok.read.1) (file_disk.image had.new.disk) read.tasks.items read.processes read.words.items read.stop c.args.replay.stop (sym had.ensures.reads.image) c.in-Ok.ensures.scenario.stops
              (where_refused ran.result.0 c.in-Err-ran.refusal _ c.in-Err-ran.is ran.ensures.had_them may) had.ensures.writes;
        },
      ),
    )
