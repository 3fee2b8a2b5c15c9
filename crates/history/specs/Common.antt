-- The names that most proofs of this crate cite, passed on from one place. Declares nothing.
pub use Rattle.std.proofs.lemmas.Bool.{cases_eq, cases_lt, eq-eqb, eqb-false, eqb-true, false_from_ne_true, false≢true, le-leb, leb-true, lt-leb, lt-ltb, ltb-true, ne_eqb, not-true, or_parts}
pub use Rattle.std.proofs.lemmas.List.{append-nil, append_assoc, get_or-set_other, get_or-set_same, get_or_past, length-append, length-map, length-set, length-take, map-append, map-id, set-get_or, set_comm}
pub use Rattle.std.proofs.lemmas.List.Elements.{All-append, All-cons, All-get_or, All-nil, All-set, filter-append}
pub use Rattle.std.proofs.lemmas.List.Folds.{list_all-append, list_any-append, sum_by-replicate}
pub use Rattle.blocks.specs.Disk.{AddsNone, block_at, Elapses, Image, LeavesOnly}
pub use Rattle.model.specs.Agreement.{Agrees, IsSameOutsideLog}
pub use Rattle.model.specs.Crash.{due_labels, IsUntouched, Keeps, labels_of}
pub use Rattle.model.specs.Files.{file_in, Files, files_of}
pub use Rattle.model.specs.Gathered.{GatheredBytes}
pub use Rattle.model.specs.Journal.{after_answer, and_then, answered, is_at_once, is_changing, is_making, is_number, kept, own, replay}
pub use Rattle.model.specs.Laws.{is_writing}
pub use Rattle.model.specs.Layout.{form_of, inode_block, inode_bytes, inode_bytes_in, inode_count_of, inode_in, super_in, super_of}
pub use Rattle.model.specs.Lemmas.FileNumbers.{file_in-files_of_zero, length-files_of}
pub use Rattle.model.specs.Lemmas.Log.{both_of, none_cleared, recovered_empty}
pub use Rattle.model.specs.Lemmas.OutsideLog.{behind_log, cleared_outside, same_outside_log}
pub use Rattle.model.specs.Lemmas.Recovery.{logged_count-left, recovers_once}
pub use Rattle.model.specs.Lemmas.Runs.{and_then_some, at_once_is_not_changing, at_once_is_refused, count_stays, length-after, no_file_at, refusals_first, replay_more, where_true_some, zero_stays}
pub use Rattle.model.specs.Lemmas.Soundness.{facts_of, long_geometry, verdict_sound}
pub use Rattle.model.specs.Log.{cleared, is_lawful_log, logged_count, recovered}
pub use Rattle.model.specs.Operations.{after_at, after_create, after_done, after_on, after_refusal, is_kind, is_refusal, attribute_refusal, no_file_refusal, part_of, refusal_of, where_true, with_attribute, with_bytes, write_refusal}
pub use Rattle.model.specs.Soundness.{IsSound}
pub use Rattle.model.specs.Tasks.{Marks}
pub use Rattle.model.specs.declared.types.image.File.{File}
pub use Rattle.model.specs.declared.types.image.Form.{Form}
pub use Rattle.model.specs.declared.types.operations.Answer.{Answer}
pub use Rattle.model.specs.declared.types.operations.Entry.{Entry}
pub use Rattle.model.specs.declared.types.operations.Op.{Op}
pub use Rattle.model.specs.declared.types.operations.Op.TheVariants.{Create, SetAttribute, Read, Remove, Stat, Trunc, Write}
pub use Rattle.model.specs.declared.types.operations.Reply.{Reply}
pub use Rattle.model.specs.declared.types.operations.Reply.TheVariants.{BadOffset, BadType, Bytes, Done, Made, NoFile, NoInode, StatOf, TooBig, TooLong, Wrote}
pub use Rattle.model.specs.declared.types.operations.TaskProgress.{TaskProgress}
pub use Rattle.ports.specs.History.{gives, History, nothing_yet, takes}
pub use Rattle.wal.specs.Joint.{place_at, SameButLog, stepped_at, synced_at}
pub use Rattle.wal.specs.Kept.{CrashKeeps, KeepsCommitted, TellsHeader, TellsSynced, TellsWritten}
pub use Rattle.wal.specs.Lemmas.Log.{few_homes, is_open, let_in, quiet_of, some_open}
pub use Rattle.wal.specs.Machine.{begin_cause, begun, closed, Counts, CountsSynced, end_answer, ended, Idle, is_quiet, IsLogAt, left_by, LogState, SameGroups, ten, used_by}
pub use Rattle.wal.specs.Step.{answer_at, FailsAt}
pub use Rattle.wal.specs.Volume.{VolumeState}
pub use Rattle.wal.specs.declared.types.Commit.{Commit}
pub use Rattle.wal.specs.declared.types.DeviceFault.{DeviceFault}
pub use Rattle.wal.specs.declared.types.Ended.{Ended}
pub use Rattle.wal.specs.declared.types.Part.{Part}
pub use Rattle.history.specs.Crash.{AwaitsHeader, HasMarks, in_reads, StoreLaws, Survives}
pub use Rattle.history.specs.Follows.{Follows, IsJournal}
pub use Rattle.history.specs.Keeps.{AreUpTo, HasFilesAfter, HasItsGroup, KeepsBeginnings, KeepsBetween, KeepsNow}
pub use Rattle.history.specs.Most.{most_headed, most_kept, most_of, most_synced}
pub use Rattle.history.specs.Open.{all_apart, AreExclusive, AreOpen, AreRising, Held, held_by, is_late, is_write_op, IsEntry, IsLast, IsOpen, number_of, told, touches}
pub use Rattle.history.specs.Views.{CallsLog, Decides, HasEntry, InGroup, IsIn, IsValidView, KernelFacts, LastingFacts, Leaves, LeavesRest, Moves, Opens, StandsAt, Takes, Turns, View, Writes}
pub use Rattle.history.specs.declared.types.Phase.{Phase}
pub use Rattle.history.specs.declared.types.Process.{Process}
