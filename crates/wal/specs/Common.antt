-- The names that most proofs of this crate cite, passed on from one place. Declares nothing.
pub use Rattle.std.proofs.lemmas.Bool.{and_from, and_parts, and_right, both_ways, cases_eq, cases_lt, cond-false, cond-true, eq-eqb, eqb-true, false_from_ne_true, false≢true, le-leb, le-ltb, leb-true, lt-ltb, ltb-false, ltb-true, ne_eqb, not-true, or_cases, or_from, or_left, or_parts, or_right, true≢false}
pub use Rattle.std.proofs.lemmas.List.{ext_get_or, get_or-drop, get_or-replicate, get_or-set_other, get_or-set_same, get_or-take, get_or_default, get_or_past, length-map, length-replicate, length-take, length-take-le, set-set, take-append-le}
pub use Rattle.std.proofs.lemmas.List.Folds.{list_any-append, list_any_at, list_any_none}
pub use Rattle.std.proofs.lemmas.List.Sums.{AllPass-from_list_all, get_or-le-sum_by, list_all-from_AllPass, sum_by-cons, sum_by-le-sum_by, sum_by-set}
pub use Rattle.bcache.specs.Buffers.{acquire_answer, after_acquire, after_acquire_by, after_lock, after_take, answer_by, block_or_zero, buffer, Buffers, changed, empty_buffer, EndsUnfilled, filled, found, fresh_buffers, IsCache, lock_answer, locked, pinned, released, take_answer, taken, unpinned, victim, with_buffer}
pub use Rattle.bcache.specs.Current.{holder_count, is_number_in, is_of, references_of, shows}
pub use Rattle.bcache.specs.Lemmas.Current.{counts_keep_current, current_at, current_changed, current_filled, current_hidden, current_kept, current_same_write, current_unfilled, current_write, is_current, length-current, not_shown, shown, slot_shows}
pub use Rattle.bcache.specs.Lemmas.Slots.{block_is, buffer_other, buffer_same, cache_fresh, cache_kept, cache_released, cache_taken, each_buffer, found_at, none_found, some_found, victim_free, victim_none_in_use}
pub use Rattle.bcache.specs.declared.types.Acquired.{Acquired}
pub use Rattle.bcache.specs.declared.types.Buffer.{Buffer}
pub use Rattle.blocks.specs.Block.{IsBlock, overwritten, zero_block}
pub use Rattle.blocks.specs.Calls.{OnlyReads, UnlessHolds}
pub use Rattle.blocks.specs.Disk.{AddsNone, block_at, counted, Elapses, Image, IsImage, IsOldOrNew, IsSettled, LeavesOldOrNew, LeavesOnly, one_more, Rose}
pub use Rattle.blocks.specs.Lemmas.Moments.{adds_after, goes_on, joined, now_stays, only_added, started, stays}
pub use Rattle.blocks.specs.declared.disk.Disk.{Ghosts}
pub use Rattle.model.specs.Agreement.{is_outside_log, IsSameOutsideLog}
pub use Rattle.model.specs.Codec.{header_block}
pub use Rattle.model.specs.Fields.{u32_at, words_of}
pub use Rattle.model.specs.Lemmas.Log.{both_of, length-recovered, none_cleared, recovered_at, recovered_block-header, recovered_empty, zero_header}
pub use Rattle.model.specs.Lemmas.Recovery.{AgreesBesides, few_homes, home_of_log, homes_are_rewritten, is_lawful_log-besides, no_place, place_below}
pub use Rattle.model.specs.Lemmas.Super.{super_facts}
pub use Rattle.model.specs.Log.{are_distinct, are_in_place, block_from_log, homes_in, homes_of, is_lawful_log, logged_count, logged_in, place_among, recovered}
pub use Rattle.model.specs.Reservations.{is_log_full, log_cause}
pub use Rattle.model.specs.declared.types.operations.Why.{Why}
pub use Rattle.wal.specs.Held.{GetsLock, GivesUpLock, HasLock, HoldsBlock, KeepsHeld, LeavesLocks, LocksAfter, TakesLock, WaitsFor}
pub use Rattle.wal.specs.Joint.{AreBlocks, bytes_at, bytes_found, HasHeader, HasPin, held_at, IsHeader, IsPinned, IsWithin, Joint, JointAt, live_at, Logs, Phase, pins_of, place_at, SameButLog, seen, source_at, stepped_at, synced_at, unpinned_found, written_at, written_cache}
pub use Rattle.wal.specs.Machine.{added_by, after_begin, after_begin_by, appended, AreHomes, begin_cause, begun, closed, Counts, ended, HasRoom, Idle, is_among, is_quiet, is_syncing, is_writing, IsLogAt, left_by, LogState, new_log, noted, noted_cache, one_used, ten, unused, used_by}
pub use Rattle.wal.specs.Recovery.{copied_block, FailsOnce, HasCopied, IsRecoveredInPart, LeavesFromSync, Looks, MayStop, OnBadLog, OnDisk, OnNoMemory, OnSync, Recovers, RecoversAs, RecoversBy, RefusesToRecover, Rests, Settles, StopsAlike, syncs_to_restore, syncs_to_settle, writes_to_recover}
pub use Rattle.wal.specs.Step.{answer_at, answer_synced, CommitMakes, CommitSteps, CommitStepsAt, CommitsTo, CommitSyncs, CommitWrites, FailsAt, FailsToSync, Faulted, IsFault, Stepped, Synced, Unsynced}
pub use Rattle.wal.specs.Volume.{cause_of_get, cause_to_get, fault_of_step, fill_answer, get_answer_by, Holds, OnFault, OnGot, UnlessFault, VolumeCommits, VolumeState, why_busy}
pub use Rattle.wal.specs.declared.types.Commit.{Commit}
pub use Rattle.wal.specs.declared.types.Committed.{Committed}
pub use Rattle.wal.specs.declared.types.DeviceFault.{DeviceFault}
pub use Rattle.wal.specs.declared.types.Part.{Part}
