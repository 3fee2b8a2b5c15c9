-- Feeders that are made of callers and operations, and clients of feeders.
use Rattle.std.proofs.Common.{◌≡◌, ℕ, zero, suc, ◌<◌, List, [], ◌∷◌, ◌++◌, length, map, Option, Some, refl, sym, ap, subst, ◌∙◌}
use Rattle.std.specs.Prelude.{option_map, slice_get}
use Rattle.std.proofs.lemmas.List.{length-map}
use Rattle.std.proofs.lemmas.Option.{slice_get-map, slice_get_within, same_Some}
use Rattle.rings.specs.Callers.{IsNewCaller, caller_names, polled, submitted}
use Rattle.rings.specs.declared.caller.Caller.{Caller}
use Rattle.rings.specs.declared.name.Names.{Names}
use Rattle.scripts.specs.declared.script.Task.{Task}
use Rattle.clients.specs.Backlogs.{backlog_at, backlog_of, ops_of}
use Rattle.clients.specs.Clients.{AreClients}
use Rattle.clients.specs.Feeders.{AreNewFeeders, ArePaired, IsPaired}
use Rattle.clients.specs.declared.backlog.Backlog.{Backlog}
use Rattle.clients.specs.declared.client.Client.{Client}
use Rattle.clients.specs.declared.feeder.Feeder.{Feeder}

-- one pair more
pub one_paired : (ks : List Caller) (bs : List Backlog) (ss : List Feeder) (k : Caller) (b : Backlog) (s : Feeder) → ArePaired ks bs ss → IsPaired k b s → ArePaired (ks ++ k ∷ []) (bs ++ b ∷ []) (ss ++ s ∷ [])
one_paired [] [] [] k b s had more = (more, tt)
one_paired [] [] (x ∷ ss) k b s had more = absurd had
one_paired [] (x ∷ bs) ss k b s had more = absurd had
one_paired (x ∷ ks) [] ss k b s had more = absurd had
one_paired (x ∷ ks) (y ∷ bs) [] k b s had more = absurd had
one_paired (x ∷ ks) (y ∷ bs) (z ∷ ss) k b s had more = (had.0, one_paired ks bs ss k b s had.1 more)

pub many : (ks : List Caller) (bs : List Backlog) (ss : List Feeder) → ArePaired ks bs ss → length ss ≡ length ks
many [] [] [] had = refl
many [] [] (x ∷ ss) had = absurd had
many [] (x ∷ bs) ss had = absurd had
many (x ∷ ks) [] ss had = absurd had
many (x ∷ ks) (y ∷ bs) [] had = absurd had
many (x ∷ ks) (y ∷ bs) (z ∷ ss) had = ap suc (many ks bs ss had.1)

-- what a feeder's process has
record Has (ks : List Caller) (bs : List Backlog) (p : ℕ) (s : Feeder) : Type 0 where
  caller : Caller
  backlog : Backlog
  is : slice_get ks p ≡ Some caller
  ops : backlog_at bs p ≡ backlog_of backlog
  pair : IsPaired caller backlog s

pair_at : (ks : List Caller) (bs : List Backlog) (ss : List Feeder) → ArePaired ks bs ss → (p : ℕ) (s : Feeder) → slice_get ss p ≡ Some s → Has ks bs p s
pair_at [] [] [] had p s at = absurd (cc at)
pair_at [] [] (x ∷ ss) had p s at = absurd had
pair_at [] (x ∷ bs) ss had p s at = absurd had
pair_at (x ∷ ks) [] ss had p s at = absurd had
pair_at (x ∷ ks) (y ∷ bs) [] had p s at = absurd had
pair_at (x ∷ ks) (y ∷ bs) (z ∷ ss) had zero s at = record { caller = x; backlog = y; is = refl; ops = refl; pair = subst (IsPaired x y) (same_Some z s at) had.0 }
pair_at (x ∷ ks) (y ∷ bs) (z ∷ ss) had (suc p) s at =
    let deeper = pair_at ks bs ss had.1 p s at in record { caller = deeper.caller; backlog = deeper.backlog; is = deeper.is; ops = deeper.ops; pair = deeper.pair }

module _ (names : ℕ → Option Names) (tasks : List Task) (processes : ℕ) where
  -- pairs of new callers with a script's operations are its feeders
  pub are_sources : (ks : List Caller) (bs : List Backlog) (ss : List Feeder) → length ks ≡ processes → ((p : ℕ) (k : Caller) → slice_get ks p ≡ Some k → IsNewCaller names p k)
      → ((p : ℕ) → p < processes → backlog_at bs p ≡ ops_of p tasks) → ArePaired ks bs ss → AreNewFeeders names tasks processes ss
  are_sources ks bs ss count new ops had = record {
    count = many ks bs ss had ∙ count;
    each = λ p s at.
        let has = pair_at ks bs ss had p s at in
        let fresh = new p has.caller has.is in
        let low = subst (λ n. p < n) count (slice_get_within ks p has.caller has.is) in
        let none = ap submitted has.pair.0 ∙ fresh.nothing_submitted in
        record {
          rings = fresh.rings ∙ ap (λ k. Some (caller_names k)) (sym has.pair.0);
          all = ap (λ l. l ++ backlog_of s.backlog) none ∙ ap backlog_of has.pair.1 ∙ sym has.ops ∙ ops p low;
          fresh = (none, ap polled has.pair.0 ∙ fresh.nothing_polled);
        };
  }

  some_source : (o : Option Client) (c : Client) → o ≡ Some c → option_map (λ (d : Client). d.feeder) o ≡ Some c.feeder
  some_source o c is = ap (option_map (λ (d : Client). d.feeder)) is

  -- who has the feeders are clients
  pub are_clients : (cs : List Client) (ss : List Feeder) → map (λ (c : Client). c.feeder) cs ≡ ss → AreNewFeeders names tasks processes ss → AreClients names tasks processes cs
  are_clients cs ss is feeders = record {
    count = sym (length-map cs (λ (c : Client). c.feeder)) ∙ ap length is ∙ feeders.count;
    each = λ p c at.
        let mine = feeders.each p c.feeder (ap (λ xs. slice_get xs p) (sym is) ∙ slice_get-map (λ (d : Client). d.feeder) cs p ∙ some_source (slice_get cs p) c at) in
        record { rings = mine.rings; all = mine.all };
  }

-- the feeder behind others
pub feeder_at : (before behind : List Feeder) (s : Feeder) → slice_get (before ++ s ∷ behind) (length before) ≡ Some s
feeder_at [] behind s = refl
feeder_at (x ∷ before) behind s = feeder_at before behind s
