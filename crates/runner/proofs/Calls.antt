-- Clients that were lent as a slice, and called.
use Rattle.std.proofs.Common.{◌≡◌, ◌∙◌, ℕ, List, ◌++◌, length, take, drop, sym, ap, subst}
use lib.Seq.{take-append_seam}
use Rattle.clients.specs.Clients.{AreClients, AreSameClients}
use Rattle.clients.specs.declared.client.Client.{Client}

pub still_clients : (len : ℕ) (lent first old new : List Client) → lent ≡ old → len ≡ length old → AreSameClients lent new → AreSameClients first old → AreSameClients first (take len (new ++ drop (length new) old))
still_clients len lent first old new is long called same names tasks processes are =
    let before = same names tasks processes are in
    let after = subst (λ xs. AreSameClients xs new) is called names tasks processes before in
    let many : length new ≡ len = after.count ∙ sym before.count ∙ sym long in
    subst (AreClients names tasks processes) (sym (ap (λ n. take n (new ++ drop (length new) old)) (sym many) ∙ take-append_seam new (drop (length new) old))) after
