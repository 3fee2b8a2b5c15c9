-- What a client is.
use Rattle.std.specs.Prelude.{◌≡◌, ◌⊎◌, ◌≤◌, ℕ, List, [], Option, Some, None, length, slice_get}
use Rattle.model.specs.declared.types.operations.Op.{Op}
use Rattle.rings.specs.Callers.{answers_known, polled}
use Rattle.rings.specs.declared.name.Names.{Names}
use Rattle.scripts.specs.declared.script.Task.{Task}
use Rattle.clients.specs.Backlogs.{ops_of}
use Rattle.clients.specs.Feeders.{HasHandedIn, feeder_names, feeder_ops}
use Rattle.clients.specs.declared.client.Client.{Client}

-- the rings that it has
abbrev pub client_names : Client → Names
client_names c = feeder_names c.feeder

-- all its operations
abbrev pub client_ops : Client → List Op
client_ops c = feeder_ops c.feeder

-- a client of these rings with these operations
pub record IsClient (names : Option Names) (ops : List Op) (c : Client) : Type 0 where
  pub rings : names ≡ Some (client_names c)
  pub all : client_ops c ≡ ops

-- the operations of the client of process p; none past the last
abbrev pub ops_in : Option Client → List Op
ops_in None = []
ops_in (Some c) = client_ops c

abbrev pub ops_at : List Client → ℕ → List Op
ops_at cs p = ops_in (slice_get cs p)

-- each client has its process's rings
abbrev pub HaveRings : (ℕ → Option Names) → List Client → Type 0
HaveRings names cs =
    (p : ℕ) (c : Client) → slice_get cs p ≡ Some c → names p ≡ Some (client_names c)

-- each process has its client, with its operations of a script
pub record AreClients (names : ℕ → Option Names) (tasks : List Task) (processes : ℕ)
    (cs : List Client) : Type 0 where
  pub count : length cs ≡ processes
  pub each : (p : ℕ) (c : Client) → slice_get cs p ≡ Some c → IsClient (names p) (ops_of p tasks) c

-- the same clients, after calls
abbrev pub IsSameClient : Client → Client → Type 0
IsSameClient old new = (client_names new ≡ client_names old) × (client_ops new ≡ client_ops old)

abbrev pub AreSameClients : List Client → List Client → Type 0
AreSameClients old new = (names : ℕ → Option Names) (tasks : List Task) (processes : ℕ)
    → AreClients names tasks processes old → AreClients names tasks processes new

-- no answer is known to it, or it has one for each operation
abbrev pub HasPolled : Client → Type 0
HasPolled c = (answers_known c.feeder.caller ≡ 0)
    ⊎ (length (client_ops c) ≤ length (polled c.feeder.caller))

-- it has handed in what its ring takes, and polled what there is
abbrev pub IsCalled : Client → Type 0
IsCalled c = HasHandedIn c.feeder × HasPolled c

abbrev pub AreCalled : List Client → Type 0
AreCalled cs = (p : ℕ) (c : Client) → slice_get cs p ≡ Some c → IsCalled c
