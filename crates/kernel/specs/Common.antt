-- The names that most proofs of this crate cite, passed on from one place. Declares nothing.
pub use Rattle.std.proofs.lemmas.Bool.{and_parts, both_ways, cases_eq, cases_lt, false≢true, le-leb, le-ltb, ltb-false, ltb-true, ne_eqb, not-false, or_parts}
pub use Rattle.std.proofs.lemmas.List.{append-nil, get_or-replicate, get_or-set_other, get_or-set_same, get_or_past, length-append, length-replicate, nil_from_length, set-get_or, take_more}
pub use Rattle.bcache.specs.Buffers.{Buffers, IsCache}
pub use Rattle.blocks.specs.Calls.{OnlyReads}
pub use Rattle.blocks.specs.Disk.{block_at, counted, Elapses, Image, LeavesOnly, one_more, Rose}
pub use Rattle.blocks.specs.Lemmas.Moments.{now_stays, started}
pub use Rattle.blocks.specs.declared.disk.Disk.{Ghosts}
pub use Rattle.blocks.specs.declared.errors.DiskFault.{DiskFault}
pub use Rattle.history.specs.Alone.{CommitsAlone, is_committing_at}
pub use Rattle.history.specs.AtOnce.{at_once_reply}
pub use Rattle.history.specs.Bound.{all_steps_left, is_busy_at, writes_left}
pub use Rattle.history.specs.Counting.{IsCounted}
pub use Rattle.history.specs.Crash.{in_reads, Survives}
pub use Rattle.history.specs.Grows.{Becomes, Extends, Grows, IsTold, JournalGoes}
pub use Rattle.history.specs.Histories.{IsHistory, Owed}
pub use Rattle.history.specs.Journal.{Entries, entry_in, entry_of, IsItsRoom, no_entry}
pub use Rattle.history.specs.Keeps.{HasItsGroup, KeepsBetween, KeepsNow}
pub use Rattle.history.specs.Lemmas.Alone.{alone_begun, alone_done, alone_end_commits, alone_end_leaves, alone_stepped, alone_taken, alone_written, durable_count, goes_on, none_commits, over_now, quiet_if_open, same_committed}
pub use Rattle.history.specs.Lemmas.Answers.{answer_at_commit, answer_at_end, answer_there, CanAnswer, change_fits, changing_in_group, entry_inside, group_tells, group_there, history_given}
pub use Rattle.history.specs.Lemmas.Bounds.{busy_with, left_same, some_write, steps_few, writes_fall}
pub use Rattle.history.specs.Lemmas.Counting.{counted_refused, counted_same, counted_taken, counted_turned}
pub use Rattle.history.specs.Lemmas.Events.{at_once_still, changing_later, inv_at_once}
pub use Rattle.history.specs.Lemmas.Groups.{all_committed, closed_uncommitted, ended_keeps, ended_opened, group_unread, open_of, outstanding_none, SameOpen, stepped_same}
pub use Rattle.history.specs.Lemmas.Growing.{extends_same, extends_then, grows_goes, grows_none, grows_then, keeps_later}
pub use Rattle.history.specs.Lemmas.Known.{idle_used, inv_new, kept_of_taken, known_current, known_failed, known_files, known_keeps, known_run, known_size}
pub use Rattle.history.specs.Lemmas.Leaving.{elapses_none, elapses_same, keeps_fewer, kept_alike, kept_whole, leaves_between, leaves_on, leaves_then, leaves_wider}
pub use Rattle.history.specs.Lemmas.Lists.{entry_more, entry_new, entry_next, entry_same, entry_set, entry_set_other, last_one}
pub use Rattle.history.specs.Lemmas.LogEvents.{inv_begun, inv_end_commits, inv_end_leaves, inv_taken, inv_written}
pub use Rattle.history.specs.Lemmas.Nexts.{at_once_journal, at_same, others_back, task_journal, task_next}
pub use Rattle.history.specs.Lemmas.Phases.{as_many, behind_there, committing_there, ending_there, others_stay, there_now}
pub use Rattle.history.specs.Most.{most_of}
pub use Rattle.history.specs.Open.{Held, held_by, is_late, IsEntry, number_of, told}
pub use Rattle.history.specs.Processes.{answered, at_phase, committing, committing_at, decided, entry_index, fresh_world, idle, is_before, is_behind, is_ending, last_answer, operation_at, over, over_at, phase_behind, process, refusal, refusal_answer, refused, taken, told_at, turned, turned_from, with_more_room, with_process, World}
pub use Rattle.history.specs.Views.{CallsLog, HasEntry, InGroup, IsValidView, KernelFacts, Leaves, LeavesRest, Opens, StandsAt, Takes, Turns, View, Writes}
pub use Rattle.history.specs.declared.types.Phase.{Phase}
pub use Rattle.history.specs.declared.types.Process.{Process}
pub use Rattle.inodes.specs.Goes.{Goes, GoesFrom, progress_of_setting, stage_of_setting, stage_of_lock, stage_of_reading, stage_of_trunc, stage_of_writing, progress_of_lock, progress_of_read, progress_of_trunc, progress_of_write, shown_of, table_of_setting, table_of_trunc, table_of_writing}
pub use Rattle.inodes.specs.Lemmas.Causes.{BeginsWriting, IsAhead, search_begins, search_sees, SearchesOn, write_sees, write_turns, WritesOn}
pub use Rattle.inodes.specs.Lemmas.Faults.{if_none, if_some, where_none}
pub use Rattle.inodes.specs.Lemmas.Looks.{holds_lock, IsPassedBy, late_apart, late_is, late_number, look_takes}
pub use Rattle.inodes.specs.Lemmas.Sought.{passes_busy, sought}
pub use Rattle.inodes.specs.Lemmas.StepEnds.{DecisionEnds, ends_of, fails_at, GoesOn, GoesOnTurned, logs_of, StepEnds, TurnEnds}
pub use Rattle.inodes.specs.Lemmas.StepsLeft.{failed_left, few_in_task, left_outside, others_left}
pub use Rattle.inodes.specs.Looks.{AreLooking, CanLook, CanTake, HasRoom, HoldsInode, IsLate, IsWrite, LooksAt}
pub use Rattle.inodes.specs.Stages.{asked, asked_by, block_at_stage, is_over, is_unturned, most_behind, owes_reply, steps_left}
pub use Rattle.inodes.specs.Steps.{Commits, is_made, Steps}
pub use Rattle.inodes.specs.Store.{Agrees, CanBegin, current_of, first_stage, fresh_volume, IsStore, KeepsFiles, reply_of, Stands, StoreState, with_begun, with_log, with_look}
pub use Rattle.inodes.specs.Table.{copy_at, holder_at, new_table, TableState}
pub use Rattle.inodes.specs.Tasks.{no_task, task, TaskState}
pub use Rattle.inodes.specs.Waiting.{NobodyWaitsForEver, sleep_cause, SleepsForCause, WaitsWithCause}
pub use Rattle.inodes.specs.Writing.{extent_of}
pub use Rattle.inodes.specs.declared.ilock.LockAt.{LockAt}
pub use Rattle.inodes.specs.declared.tasks.Stage.{Stage}
pub use Rattle.model.specs.Crash.{IsUntouched, Keeps}
pub use Rattle.model.specs.Fields.{u32_at}
pub use Rattle.model.specs.Files.{Files, files_of}
pub use Rattle.model.specs.Gathered.{GatheredBytes}
pub use Rattle.model.specs.Journal.{is_at_once, is_changing, is_making, is_number, kept, own, replay}
pub use Rattle.model.specs.Layout.{form_of, inode_count_of, inode_of, is_known_magic, is_lawful_super, magic_of, super_of}
pub use Rattle.model.specs.Lemmas.Log.{length-recovered, recovered_empty, recovered_low}
pub use Rattle.model.specs.Lemmas.Recovery.{logged_count-left, recovers_once}
pub use Rattle.model.specs.Lemmas.Soundness.{facts_of, long_geometry, sound_verdict, verdict_sound}
pub use Rattle.model.specs.Log.{cleared, is_lawful_log, logged_count, recovered}
pub use Rattle.model.specs.Operations.{is_kind, transfer_limit}
pub use Rattle.model.specs.Soundness.{IsSound}
pub use Rattle.model.specs.Verdict.{verdict}
pub use Rattle.model.specs.declared.types.image.Form.{Form}
pub use Rattle.model.specs.declared.types.image.Form.TheVariants.{One, Two}
pub use Rattle.model.specs.declared.types.image.Super.{Super}
pub use Rattle.model.specs.declared.types.operations.Answer.{Answer}
pub use Rattle.model.specs.declared.types.operations.Entry.{Entry}
pub use Rattle.model.specs.declared.types.operations.Op.{Op}
pub use Rattle.model.specs.declared.types.operations.Op.TheVariants.{Create, SetAttribute, Read, Remove, Stat, Trunc, Write}
pub use Rattle.model.specs.declared.types.operations.Reply.{Reply}
pub use Rattle.model.specs.declared.types.operations.Reply.TheVariants.{BadType, Bytes, Made, NoFile, TooLong, Wrote}
pub use Rattle.model.specs.declared.types.operations.Step.{Step}
pub use Rattle.model.specs.declared.types.operations.TaskProgress.{TaskProgress}
pub use Rattle.model.specs.declared.types.operations.Why.{Why}
pub use Rattle.ports.specs.History.{AllFit, first_in, FitWith, gives, History, nothing_yet, OthersStay, Side, takes}
pub use Rattle.ports.specs.contracts.queues.QueueIntakeIntake.TheImpl.{ghosts}
pub use Rattle.wal.specs.Joint.{Joint, JointAt, place_at, seen, stepped_at}
pub use Rattle.wal.specs.Lemmas.Commits.{commit_fails, commit_kinds, commit_log, commit_makes, empty_lawful, quiet_is_current}
pub use Rattle.wal.specs.Lemmas.Volume.{fresh_seen, none_seen}
pub use Rattle.wal.specs.Machine.{begin_cause, begun, end_answer, ended, is_quiet, is_syncing, is_writing, IsLogAt, LogState, new_log, used_by}
pub use Rattle.wal.specs.Lemmas.Stops.{from_sync_behind, if_synced_behind, synced_joined, synced_wider}
pub use Rattle.wal.specs.Recovery.{IsCalm, LeavesFromSync, LeavesIfCalm, Looks, OnBadLog, OnNoMemory, Recovers, RecoversAs, RefusesToRecover, syncs_to_recover}
pub use Rattle.wal.specs.Step.{CommitMakes, CommitSyncs, CommitWrites, FailsAt, FailsToSync, IsFault}
pub use Rattle.wal.specs.Volume.{fault_of_step, fault_of_task, faults_after, VolumeState}
pub use Rattle.wal.specs.declared.types.Commit.{Commit}
pub use Rattle.wal.specs.declared.types.Committed.{Committed}
pub use Rattle.wal.specs.declared.types.DeviceFault.{DeviceFault}
pub use Rattle.wal.specs.declared.types.DeviceFault.TheVariants.{Block, Sync}
pub use Rattle.wal.specs.declared.types.Ended.{Ended}
pub use Rattle.wal.specs.declared.types.Part.{Part}
pub use Rattle.kernel.specs.Acts.{Acts, may_begin}
pub use Rattle.kernel.specs.Bound.{GivesNone, left_in, left_of, step_bound, TakesOne, task_left}
pub use Rattle.kernel.specs.Invariant.{ArePaired, ArePorts, HasFacts, HasHistory, Inv, IsBehind, IsPaired, IsRight, LeavesSince, TaskStands}
pub use Rattle.kernel.specs.Next.{BeginsWith, Ends, Finishes, HasNoRoom, IsNotTaken, NextAt, NextIf, Same, step_behind, step_of, step_of_end, step_of_last, step_of_told, step_of_write, TakesNone, Works, world_after, world_behind, world_ended, world_of_last, world_of_told, world_written}
pub use Rattle.kernel.specs.Runs.{is_turn_of, Makes, MakesLater, Runs, RunsOn, Session, with_ports, with_shutdown}
pub use Rattle.kernel.specs.State.{ats_of, HasValue, kind_of, room_for, State, StopsIn, class_of}
pub use Rattle.kernel.specs.Steps.{MakesStep}
pub use Rattle.kernel.specs.View.{held_at, view_of}
pub use Rattle.kernel.specs.declared.beginning.Rooms.{Rooms}
pub use Rattle.kernel.specs.declared.types.Turn.{Turn}
pub use Rattle.kernel.specs.declared.types.Turn.TheVariants.{Proc, Shut}
pub use Rattle.kernel.specs.declared.class.OpClass.{OpClass}
