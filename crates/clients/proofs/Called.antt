-- Clients that are called.
use Rattle.std.proofs.Common.{◌≡◌, ◌∙◌, ◌<◌, ◌+◌, ℕ, List, set, Option, Some, sym, ap, subst, arith, ⊎_elim}
use Rattle.std.proofs.lemmas.Bool.Decides.{eqb_tells}
use Rattle.std.proofs.lemmas.Option.{slice_get_within, same_Some}
use Rattle.ports.specs.Lemmas.Lanes.{slice_get-set_here, slice_get-set_other}
use Rattle.std.specs.Prelude.{slice_get}
use Rattle.std.proofs.lemmas.List.{length-set}
use Rattle.model.specs.declared.types.operations.Op.{Op}
use Rattle.rings.specs.declared.name.Names.{Names}
use Rattle.clients.specs.Backlogs.{ops_of}
use Rattle.clients.specs.Clients.{AreSameClients, IsCalled, IsClient, IsSameClient}
use Rattle.clients.specs.Lemmas.Sets.{each_set}
use Rattle.clients.specs.declared.client.Client.{Client}

client_still : (names : Option Names) (ops : List Op) (c d : Client) → IsSameClient c d → IsClient names ops c → IsClient names ops d
client_still names ops c d same had = record { rings = had.rings ∙ ap Some (sym same.0); all = same.1 ∙ had.all }

-- one of the clients was called
pub one_called : (cs : List Client) (i : ℕ) (c d : Client) → slice_get cs i ≡ Some c → IsSameClient c d → AreSameClients cs (set cs i d)
one_called cs i c d here same names tasks processes are = record {
  count = length-set cs i d ∙ are.count;
  each = each_set (λ p e. IsClient (names p) (ops_of p tasks) e) cs i c d here (client_still (names i) (ops_of i tasks) c d same (are.each i c here)) are.each;
}

-- one more of the first was called
pub called_so_far : (cs : List Client) (i : ℕ) (c d : Client) → slice_get cs i ≡ Some c → IsCalled d → ((p : ℕ) (e : Client) → p < i → slice_get cs p ≡ Some e → IsCalled e)
    → (p : ℕ) (e : Client) → p < i + 1 → slice_get (set cs i d) p ≡ Some e → IsCalled e
called_so_far cs i c d here now first p e low at =
    ⊎_elim
    (λ same. subst (λ (x : Client). IsCalled x) (same_Some d e (sym (slice_get-set_here cs i d (slice_get_within cs i c here)) ∙ ap (slice_get (set cs i d)) same.1 ∙ at)) now)
    (λ other. first p e (let apart = other.1 in grind (arith, low, apart)) (sym (slice_get-set_other cs i p d (λ q. other.1 (sym q))) ∙ at))
    (eqb_tells i p)
