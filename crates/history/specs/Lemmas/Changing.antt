-- The changing operations of each process go on being counted.
use Rattle.std.proofs.Common.{add-zero, Bool, ◌&&◌, ◌≡◌, ◌≢◌, ℕ, zero, suc, ◌+◌, ◌<◌, ◌≤◌, ltb, eqb, nat_lt, nat_le, cond, true, false, List, [], ◌∷◌, ◌++◌, length, get_or, set, replicate, refl, sym, ap, subst, ◌∙◌, arith, ⊎_elim}
use Rattle.std.specs.List.{filter, list_all}
use Rattle.history.specs.declared.changes.Changes.{Changes}
use Rattle.history.specs.Common.{both_of, cases_eq, Entry, eqb-false, eqb-true, filter-append, get_or-set_other, get_or-set_same, length-append, length-set, list_all-append, ltb-true, ne_eqb, eq-eqb, Process, Reply, told}
use Rattle.std.proofs.lemmas.Bool.{ltb-false}
use Rattle.std.proofs.lemmas.List.{get_or-replicate, length-replicate}
use Rattle.history.specs.Processes.{idle}
use Rattle.history.specs.Changing.{counted, CountsOf, HaveCounts, is_counted, kept_by, no_changes, with_change}
use Rattle.history.specs.Journal.{entry_in, no_entry}
use Rattle.history.specs.Keeps.{AreUpTo}

-- of a group above the newest, of the newest, and of one below it
abbrev rose : Changes → ℕ → Changes
rose t g = record { newest = g; at = 1; below = t.below + t.at }

abbrev stayed : Changes → Changes
stayed t = record t { at = t.at + 1 }

abbrev fell : Changes → Changes
fell t = record t { below = t.below + 1 }

rises : (t : Changes) (g c n : ℕ) → t.newest < g → g ≤ c + 1 → kept_by t c ≡ n → kept_by (rose t g) c ≡ n + cond (nat_le g c) 1 0
rises t g c n more near had = grind (arith)

stays : (t : Changes) (c n : ℕ) → t.newest ≤ c + 1 → kept_by t c ≡ n → kept_by (stayed t) c ≡ n + cond (nat_le t.newest c) 1 0
stays t c n near had = grind (arith)

falls : (t : Changes) (g c n : ℕ) → g < t.newest → t.newest ≤ c + 1 → kept_by t c ≡ n → kept_by (fell t) c ≡ n + cond (nat_le g c) 1 0
falls t g c n less near had = grind (arith)

newest_step : (t : Changes) (g b : ℕ) → t.newest ≤ b → g ≤ b → (with_change t g).newest ≤ b
newest_step t g b had small = grind (arith)

few_step : (t : Changes) (g n : ℕ) → t.below + t.at ≤ n → (with_change t g).below + (with_change t g).at ≤ n + 1
few_step t g n had = grind (arith)

-- what they keep, once one of group g is added
module _ (t : Changes) (g c n : ℕ) (had : t.newest ≤ c + 1 → kept_by t c ≡ n) where
  abbrev Kept : Changes → Bool → Type 0
  Kept u some = u.newest ≤ c + 1 → kept_by u c ≡ n + cond (some && nat_le g c) 1 0

  by_same : (b : Bool) → eqb g t.newest ≡ b → g ≤ t.newest → Kept (cond b (stayed t) (fell t)) true
  by_same true is low near =
      let same = eqb-true g t.newest is in
      stays t c n near (had near) ∙ ap (λ (k : ℕ). n + cond (nat_le k c) 1 0) (sym same)
  by_same false is low near =
      let apart = eqb-false g t.newest is in
      falls t g c n (⊎_elim (λ (same : g ≡ t.newest). absurd (apart same)) (λ (other : g ≢ t.newest). omega (arith, low, other)) (cases_eq g t.newest)) near (had near)

  by_more : (b : Bool) → ltb t.newest g ≡ b → Kept (cond b (rose t g) (cond (eqb g t.newest) (stayed t) (fell t))) true
  by_more true is near =
      let more = ltb-true t.newest g is in
      rises t g c n more near (had (omega (arith, more, near)))
  by_more false is near = by_same (eqb g t.newest) refl (ltb-false t.newest g is) near

  by_some : (b : Bool) → ltb 0 g ≡ b → Kept (cond b (cond (ltb t.newest g) (rose t g) (cond (eqb g t.newest) (stayed t) (fell t))) t) b
  by_some true is near = by_more (ltb t.newest g) refl near
  by_some false is near = had near ∙ sym (add-zero n)

  kept_step : Kept (with_change t g) (ltb 0 g)
  kept_step = by_some (ltb 0 g) refl

length_cond : (b : Bool) (e : Entry) → length (cond b (e ∷ []) []) ≡ cond b 1 0
length_cond true e = refl
length_cond false e = refl

-- one entry more is counted, or is not
counted_next : (f : Entry → Bool) (es : List Entry) (e : Entry) → length (filter f (es ++ e ∷ [])) ≡ length (filter f es) + cond (f e) 1 0
counted_next f es e = ap (λ (l : List Entry). length l) (filter-append f es (e ∷ [])) ∙ length-append (filter f es) (cond (f e) (e ∷ []) []) ∙ ap (λ (n : ℕ). length (filter f es) + n) (length_cond (f e) e)

-- the earlier entries, and the last, are of groups up to b
up_to_parts : (b : ℕ) (es : List Entry) (e : Entry) → AreUpTo b (es ++ e ∷ []) → AreUpTo b es × (e.group ≤ b)
up_to_parts b es e all =
    let parts = both_of _ _ (sym (list_all-append (λ (x : Entry). nat_le x.group b) es (e ∷ [])) ∙ all) in
    (parts.0, Rattle.std.proofs.lemmas.Bool.leb-true e.group b (both_of (nat_le e.group b) true parts.1).0)

module _ (es : List Entry) (e : Entry) (p : ℕ) (t : Changes) (had : CountsOf es p t) where
  -- an entry that is none of process p's groups
  uncounted : ((c : ℕ) → is_counted p c e ≡ false) → CountsOf (es ++ e ∷ []) p t
  uncounted none = record {
    kept = λ c near. had.kept c near ∙ sym (counted_next (is_counted p c) es e ∙ ap (λ (b : Bool). counted p c es + cond {A = ℕ} b 1 0) (none c) ∙ add-zero _);
    newest = λ b all. had.newest b (up_to_parts b es e all).0;
    few = let more = length-append es (e ∷ []) in let few = had.few in omega (arith, more, few);
  }

  -- an entry of process p
  counts_more : e.pid ≡ p → CountsOf (es ++ e ∷ []) p (with_change t e.group)
  counts_more own = record {
    kept = λ c near. kept_step t e.group c (counted p c es) (had.kept c) near
        ∙ sym (counted_next (is_counted p c) es e ∙ ap (λ (b : Bool). counted p c es + cond {A = ℕ} (b && (nat_lt 0 e.group && nat_le e.group c)) 1 0) (eq-eqb e.pid p own));
    newest = λ b all. (let parts = up_to_parts b es e all in newest_step t e.group b (had.newest b parts.0) parts.1);
    few = (let more = length-append es (e ∷ []) in let step = few_step t e.group (length es) had.few in omega (arith, more, step));
  }

-- a test that does not look at the reply is of an entry with its reply what it was before
module _ (f : Entry → Bool) (same : (e : Entry) (r : Reply) → f (told e r) ≡ f e) (r : Reply) where
  length_behind : (b c : Bool) (e g : Entry) (l m : List Entry) → b ≡ c → length l ≡ length m → length (cond b (e ∷ l) l) ≡ length (cond c (g ∷ m) m)
  length_behind true true e g l m is lengths = ap suc lengths
  length_behind false false e g l m is lengths = lengths
  length_behind true false e g l m is lengths = absurd (cc is)
  length_behind false true e g l m is lengths = absurd (cc is)

  filter_told : (es : List Entry) (k : ℕ) → length (filter f (set es k (told (get_or es k no_entry) r))) ≡ length (filter f es)
  filter_told [] k = refl
  filter_told (e ∷ es) zero = length_behind (f (told e r)) (f e) (told e r) e (filter f es) (filter f es) (same e r) refl
  filter_told (e ∷ es) (suc k) = length_behind (f e) (f e) e e (filter f (set es k (told (get_or es k no_entry) r))) (filter f es) refl (filter_told es k)

  all_told : (es : List Entry) (k : ℕ) → list_all f (set es k (told (get_or es k no_entry) r)) ≡ list_all f es
  all_told [] k = refl
  all_told (e ∷ es) zero = ap (λ (b : Bool). b && list_all f es) (same e r)
  all_told (e ∷ es) (suc k) = ap (λ (b : Bool). f e && b) (all_told es k)

module _ (counts : List Changes) (ps : List Process) (es : List Entry) (had : HaveCounts counts ps es) where
  -- an operation had its turn
  pub counts_turned : (p : ℕ) (t : Process) (e : Entry) → p < length counts → e.pid ≡ p → HaveCounts (set counts p (with_change (get_or counts p no_changes) e.group)) (set ps p t) (es ++ e ∷ [])
  counts_turned p t e lt own = record {
    many = length-set counts p _ ∙ had.many ∙ sym (length-set ps p t);
    each = λ q inside. (let there : q < length counts = (let same = length-set counts p (with_change (get_or counts p no_changes) e.group) in omega (arith, inside, same)) in
        ⊎_elim
        (λ (same : q ≡ p). subst (λ (r : ℕ). CountsOf (es ++ e ∷ []) r (get_or (set counts p (with_change (get_or counts p no_changes) e.group)) r no_changes)) (sym same)
        (subst (λ (u : Changes). CountsOf (es ++ e ∷ []) p u) (sym (get_or-set_same counts p (with_change (get_or counts p no_changes) e.group) no_changes lt))
        (counts_more es e p (get_or counts p no_changes) (had.each p lt) own)))
        (λ (apart : q ≢ p). subst (λ (u : Changes). CountsOf (es ++ e ∷ []) q u) (sym (get_or-set_other counts p q (with_change (get_or counts p no_changes) e.group) no_changes apart))
        (uncounted es e q (get_or counts q no_changes) (had.each q there)
        (λ c. ap (λ (b : Bool). b && (nat_lt 0 e.group && nat_le e.group c)) (ne_eqb e.pid q (λ (is : e.pid ≡ q). apart (sym is ∙ own))))))
        (cases_eq q p));
  }

  -- a process goes on
  pub counts_moved : (p : ℕ) (t : Process) → HaveCounts counts (set ps p t) es
  counts_moved p t = record { many = had.many ∙ sym (length-set ps p t); each = had.each }

  -- one was answered at once, in no group
  pub counts_refused : (p : ℕ) (t : Process) (e : Entry) → e.group ≡ 0 → HaveCounts counts (set ps p t) (es ++ e ∷ [])
  counts_refused p t e none = record {
    many = had.many ∙ sym (length-set ps p t);
    each = λ q inside. uncounted es e q (get_or counts q no_changes) (had.each q inside)
        (λ c. ap (λ (g : ℕ). eqb e.pid q && (nat_lt 0 g && nat_le g c)) none ∙ Rattle.std.proofs.Math.Bool.and-false (eqb e.pid q));
  }

  -- an entry has its reply
  pub counts_decided : (k : ℕ) (r : Reply) → HaveCounts counts ps (set es k (told (entry_in es k) r))
  counts_decided k r = record {
    many = had.many;
    each = λ q inside. (let one = had.each q inside in record {
      kept = λ c near. one.kept c near ∙ sym (filter_told (is_counted q c) (λ e s. refl) r es k);
      newest = λ b all. one.newest b (sym (all_told (λ (x : Entry). nat_le x.group b) (λ e s. refl) r es k) ∙ all);
      few = (let same = length-set es k (told (entry_in es k) r) in let few = one.few in omega (arith, few, same));
    });
  }

kept_none : (b : Bool) → cond {A = ℕ} b 0 0 ≡ 0
kept_none true = refl
kept_none false = refl

-- none had its turn
pub counts_new : (n : ℕ) → HaveCounts (replicate n no_changes) (replicate n idle) []
counts_new n = record {
  many = length-replicate n no_changes ∙ sym (length-replicate n idle);
  each = λ p inside. subst (λ (t : Changes). CountsOf [] p t) (sym (get_or-replicate n p no_changes no_changes (let many = length-replicate n no_changes in omega (arith, inside, many)))) (record {
    kept = λ c near. kept_none (ltb c 0);
    newest = λ b all. omega arith;
    few = omega arith;
  });
}
