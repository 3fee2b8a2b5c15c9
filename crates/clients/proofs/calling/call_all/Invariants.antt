use Rattle.std.proofs.Common.{◌≡◌, ◌<◌, ℕ, Some}
use Rattle.std.specs.Prelude.{slice_get}
use Rattle.clients.specs.Clients.{AreSameClients, IsCalled}
use Rattle.clients.specs.declared.client.Client.{Client}
use Rattle.clients.proofs.calling.call_all.Given as goal

-- the first clients were called
abbrev pub invariant-loop-client : goal.invariant-loop-client
invariant-loop-client l = record {
  same : AreSameClients l.initial.clients l.clients;
  first : (p : ℕ) (c : Client) → p < l.client-index → slice_get l.clients p ≡ Some c → IsCalled c;
}
