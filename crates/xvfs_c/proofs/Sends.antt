-- A session may go to another thread, as all that it owns may: each struct that remembers a `Snapshot` by
-- itself, since a `search` that goes down through them runs out of steps.
use denote.RattleType.{RattleType}
use denote.Param.Send.{IsSend, sendable}
use Rattle.std.proofs.Crossing.{crosses}
use Rattle.blocks.proofs.past.Past.TheLaws.TheKnot.{send-Past}
use Rattle.blocks.specs.contracts.memory.MemDisk as MemDisk
use Rattle.blocks.specs.declared.disk.Disk as disk
use Rattle.history.proofs.changes.Changes.TheSendSync as changes
use Rattle.history.proofs.record.Record.TheSendSync as kept
use Rattle.history.proofs.told.Told.TheLaws.TheKnot.{send-Told}
use Rattle.history.proofs.types.Process.TheSendSync as process
use Rattle.history.specs.contracts.journal.Journal as Journal
use Rattle.history.specs.contracts.processes.Processes as Processes
use Rattle.history.specs.contracts.told.Told as Told
use Rattle.inodes.proofs.table.Inodes.TheSendSync as inodes
use Rattle.inodes.proofs.tasks.Stage.TheSendSync as stage
use Rattle.inodes.specs.contracts.store.Store as Store
use Rattle.inodes.specs.contracts.tasks.Task as Task
use Rattle.inodes.specs.contracts.tasks.Tasks as Tasks
use Rattle.kernel.specs.contracts.stepping.Kernel as Kernel
use Rattle.model.proofs.gathered.Gathered.TheSendSync as gathered
use Rattle.model.proofs.types.operations.Entry.TheSendSync as entry
use Rattle.ports.proofs.queues.QueueIntake.TheSendSync as queues
use Rattle.ports.specs.declared.herald.Herald as herald
use Rattle.ports.specs.declared.intake.Intake as intake
use Rattle.sessions.proofs.kept.Kept.TheSendSync as kept_answers
use Rattle.sessions.proofs.track.Track.TheLaws.TheKnot.{send-Track}
use Rattle.sessions.specs.contracts.disk.HostDisk as HostDisk
use Rattle.sessions.specs.contracts.track.Track as Track
use Rattle.sessions.specs.contracts.session.Session as Session
use Rattle.wal.proofs.volume.Volume.TheSendSync as volume

ruleset parts = (crosses, stage.the_field_send, gathered.the_send, inodes.the_send, volume.the_send)

MemDisk-row : IsSend (MemDisk.the_field).row
MemDisk-row = search (sendable, crosses, send-Past) depth 20

Track-send : IsSend Track.the_row
Track-send = search (sendable, crosses, send-Track) depth 20

HostDisk-send : IsSend HostDisk.the_row
HostDisk-send = search (sendable, crosses, Track-send, MemDisk-row) depth 20

Told-send : IsSend Told.the_row
Told-send = search (sendable, crosses, send-Told) depth 20

Journal-send : IsSend Journal.the_row
Journal-send = search (sendable, crosses, Told-send, kept.the_send) depth 20

Processes-send : IsSend Processes.the_row
Processes-send = search (sendable, crosses, process.the_send, changes.the_send, entry.the_send, Journal-send) depth 20

Task-send : IsSend Task.the_row
Task-send = search (sendable, parts) depth 20

Tasks-send : IsSend Tasks.the_row
Tasks-send = let a = Task-send in search (sendable, parts) depth 20

module _ (D N : RattleType) (g : disk.Ghosts D.Denot N.Denot) where
  Store-send : IsSend D → IsSend (Store.the_row D N g)
  Store-send s = let a = Tasks-send in search (sendable, parts) depth 20

module _ (D I H N M : RattleType) (g : disk.Ghosts D.Denot N.Denot) (i : intake.Ghosts I.Denot M.Denot) (h : herald.Ghosts H.Denot) where
  Kernel-send : IsSend D → IsSend I → IsSend H → IsSend (Kernel.the_row D I H N M g i h)
  Kernel-send d n e = let a = Store-send D N g d in search (sendable, parts, Processes-send) depth 20

pub Session-send : IsSend Session.the_row
Session-send = search (sendable, crosses, HostDisk-send, Kernel-send, queues.the_send, kept_answers.the_send) depth 20
