use Rattle.std.specs.Prelude.{Option, Some, None}
use Rattle.std.specs.Box.Ownership.{box_owns}
use Rattle.std.proofs.Crossing as heap
use base.Fraction.{full_share}
use base.Shift.{Keyless}
use mir.Raw.{raw}
use denote.Exit.{Exit, unchanged, leaves, hidden, under}
use denote.Memory.{lone}
use denote.Param.Send.{AllSend, IsSend, Quiet, owning_send, part_keyless, sendable, struct_send}
use denote.RawPtr.{Ptr, block_ptr, null_ptr}
use denote.Struct.Owning.{fields, shape, to}
use denote.Struct.Struct.{exits_of}
use Rattle.sessions.specs.contracts.session.Session as session
use Rattle.sessions.specs.declared.session.Session.{Session}
use Rattle.xvfs_c.proofs.Sends.{Session-send}
use Rattle.xvfs_c.specs.Owns.{chunk, handle_owns}
use Rattle.xvfs_c.specs.contracts.handle.Handle.{the_row, the_type}

-- the box of a session, wherever it is
boxed : (p : Ptr) (s : Session) → Keyless (box_owns chunk session.the_row p s)
boxed (block_ptr b o) s = (part_keyless session.the_row Session-send full_share s b o, heap.frees.frees (record { memory = record { seal = tt } }) (raw (lone (session.the_row).mir)) (block_ptr b o))
boxed null_ptr s = (tt, heap.frees.frees (record { memory = record { seal = tt } }) (raw (lone (session.the_row).mir)) null_ptr)

owned : (p : Ptr) (s : Option Session) → Keyless (handle_owns p s)
owned p None = tt
owned p (Some s) = boxed p s

quiet : {D X : Type 0} (to : D → X) (e : Exit X) → Quiet e → Quiet (hidden (under to e))
quiet to unchanged q = λ x w. tt
quiet to (leaves L l S s r₀) q = λ d. q (to d)

pub send : IsSend the_row
send =
    let all : AllSend (fields the_type) = (search sendable, tt) in
    owning_send the_type all (λ h. owned h.at h.session) (λ k. quiet (to the_type) (exits_of k (fields the_type)) ((struct_send (shape the_type) all).leaving k))
