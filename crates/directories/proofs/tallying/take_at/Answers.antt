use Rattle.std.proofs.Common.{◌∙◌, ap, subst}
use Rattle.model.specs.Files.{files_of, Files}
use Rattle.model.specs.Log.{recovered}
use Rattle.directories.specs.Entries.{entries_of}
use Rattle.directories.specs.Judging.{IsSeen}
use Rattle.directories.specs.declared.judging.Seen.{Seen}
use Rattle.directories.specs.declared.judging.Seen.TheVariants.{Directory}
use Rattle.directories.proofs.Takings.{takes_directory, takes_no_directory, takes_no_file}
use Rattle.directories.proofs.tallying.take_at.Goals as goal

pub returns-in-Nothing-clause-takes : goal.returns-in-Nothing-clause-takes
returns-in-Nothing-clause-takes g c =
    let files : Files = files_of (recovered (g.D.Disk.image c.args.disk.now)) in
    takes_no_file files c.args.from c.args.left.now (subst (λ (s : Seen). IsSeen files c.args.from s) c.in-Nothing.is c.in_ok-look.ensures.seen)

pub returns-in-Plain-clause-takes : goal.returns-in-Plain-clause-takes
returns-in-Plain-clause-takes g c =
    let files : Files = files_of (recovered (g.D.Disk.image c.args.disk.now)) in
    takes_no_directory files c.args.from c.args.left.now (subst (λ (s : Seen). IsSeen files c.args.from s) c.in-Plain.is c.in_ok-look.ensures.seen).1

pub returns-in-Directory-clause-takes : goal.returns-in-Directory-clause-takes
returns-in-Directory-clause-takes g c =
    let files : Files = files_of (recovered (g.D.Disk.image c.args.disk.now)) in
    let seen : IsSeen files c.args.from (Directory c.in-Directory.bytes) = subst (λ (s : Seen). IsSeen files c.args.from s) c.in-Directory.is c.in_ok-look.ensures.seen in
    takes_directory files c.args.from c.in-Directory.bytes.items c.entries_in.result.now c.args.left.now c.take_entries.new.left c.take_entries.result seen.0 seen.1
    (c.entries_in.ensures.value ∙ ap entries_of c.as_slice.ensures.value) c.take_entries.ensures
