-- Each process goes on having the entry of its operation.
use Rattle.std.proofs.Common.{◌≡◌, ◌≢◌, ℕ, ◌<◌, List, [], ◌∷◌, ◌++◌, length, get_or, set, replicate, Option, Some, None, sym, ap, subst, ◌∙◌, ◌≤◌, arith, ⊎_elim, length-append, length-set}
use Rattle.std.proofs.lemmas.List.{get_or_append_left, get_or-replicate, length-replicate}
use Rattle.history.specs.Common.{cases_eq, cases_lt, Entry, get_or_past, get_or-set_other, get_or-set_same, Process, Reply, set-get_or, told}
use Rattle.history.specs.Lemmas.Lists.{entry_new}
use Rattle.history.specs.Holding.{AreHeld, HoldsAt}
use Rattle.history.specs.Journal.{entry_in, no_entry}
use Rattle.history.specs.Processes.{idle, entry_index}

-- inside of a list the default is not read
pub read_inside : {A : Type 0} (xs : List A) (p : ℕ) (x y : A) → p < length xs → get_or xs p x ≡ get_or xs p y
read_inside {A} xs p x y lt = sym (ap (λ (l : List A). get_or l p x) (set-get_or xs p y)) ∙ get_or-set_same xs p (get_or xs p y) x lt

-- one entry more
holds_more : (es : List Entry) (e : Entry) (q : ℕ) (held : Option Entry) (at : Option ℕ) → HoldsAt es q held at → HoldsAt (es ++ e ∷ []) q held at
holds_more es e q held None had = tt
holds_more es e q held (Some k) had =
    let same : entry_in (es ++ e ∷ []) k ≡ entry_in es k = get_or_append_left es (e ∷ []) no_entry k had.0 in (
      let more = length-append es (e ∷ []) in let lt = had.0 in omega (arith, more, lt),
      had.1 ∙ ap (λ (x : Entry). Some x) (sym same),
      ap (λ (x : Entry). x.pid) same ∙ had.2,
    )

module _ (held : List (Option Entry)) (ps : List Process) (p : ℕ) (t : Process) (lt : p < length ps) where
  -- process p goes on where it stood, beside one entry more
  pub held_more : (es : List Entry) (e : Entry) → entry_index t.at ≡ entry_index (get_or ps p idle).at → AreHeld held ps es → AreHeld held (set ps p t) (es ++ e ∷ [])
  held_more es e stands had = record {
    many = had.many ∙ sym (length-set ps p t);
    each = λ q. holds_more es e q (get_or held q None) _ (⊎_elim
        (λ (same : q ≡ p). subst (λ (r : ℕ). HoldsAt es r (get_or held r None) (entry_index (get_or (set ps p t) r idle).at)) (sym same)
        (subst (λ (at : Option ℕ). HoldsAt es p (get_or held p None) at) (sym (ap (λ (x : Process). entry_index x.at) (get_or-set_same ps p t idle lt) ∙ stands)) (had.each p)))
        (λ (apart : q ≢ p). subst (λ (x : Process). HoldsAt es q (get_or held q None) (entry_index x.at)) (sym (get_or-set_other ps p q t idle apart)) (had.each q))
        (cases_eq q p));
  }

  -- process p has none any more
  pub held_given : (es : List Entry) → entry_index t.at ≡ None → AreHeld held ps es → AreHeld (set held p None) (set ps p t) es
  held_given es none had = record {
    many = length-set held p None ∙ had.many ∙ sym (length-set ps p t);
    each = λ q. ⊎_elim
        (λ (same : q ≡ p). subst (λ (r : ℕ). HoldsAt es r (get_or (set held p None) r None) (entry_index (get_or (set ps p t) r idle).at)) (sym same)
        (subst (λ (at : Option ℕ). HoldsAt es p (get_or (set held p None) p None) at) (sym (ap (λ (x : Process). entry_index x.at) (get_or-set_same ps p t idle lt) ∙ none)) tt))
        (λ (apart : q ≢ p). subst (λ (x : Process). HoldsAt es q (get_or (set held p None) q None) (entry_index x.at)) (sym (get_or-set_other ps p q t idle apart))
        (subst (λ (h : Option Entry). HoldsAt es q h (entry_index (get_or ps q idle).at)) (sym (get_or-set_other held p q None None apart)) (had.each q)))
        (cases_eq q p);
  }

  -- process p has its own
  module _ (e : Entry) (own : e.pid ≡ p) where
    held_here : (es gs : List Entry) → ((q : ℕ) → q ≢ p → HoldsAt gs q (get_or held q None) (entry_index (get_or ps q idle).at)) → length held ≡ length ps → (k : ℕ) → k < length gs → entry_in gs k ≡ e → entry_index t.at ≡ Some k → AreHeld (set held p (Some e)) (set ps p t) gs
    held_here es gs others many k inside there stands = record {
      many = length-set held p (Some e) ∙ many ∙ sym (length-set ps p t);
      each = λ q. ⊎_elim
          (λ (same : q ≡ p). subst (λ (r : ℕ). HoldsAt gs r (get_or (set held p (Some e)) r None) (entry_index (get_or (set ps p t) r idle).at)) (sym same)
          (subst (λ (at : Option ℕ). HoldsAt gs p (get_or (set held p (Some e)) p None) at) (sym (ap (λ (x : Process). entry_index x.at) (get_or-set_same ps p t idle lt) ∙ stands))
          (inside, get_or-set_same held p (Some e) None (omega (arith, lt, many)) ∙ ap (λ (x : Entry). Some x) (sym there), ap (λ (x : Entry). x.pid) there ∙ own)))
          (λ (apart : q ≢ p). subst (λ (x : Process). HoldsAt gs q (get_or (set held p (Some e)) q None) (entry_index x.at)) (sym (get_or-set_other ps p q t idle apart))
          (subst (λ (h : Option Entry). HoldsAt gs q h (entry_index (get_or ps q idle).at)) (sym (get_or-set_other held p q (Some e) None apart)) (others q apart)))
          (cases_eq q p);
    }

    -- with its turn
    pub held_turned : (es : List Entry) → entry_index t.at ≡ Some (length es) → AreHeld held ps es → AreHeld (set held p (Some e)) (set ps p t) (es ++ e ∷ [])
    held_turned es stands had =
        let last = entry_new es e in
        held_here es (es ++ e ∷ []) (λ q apart. holds_more es e q (get_or held q None) (entry_index (get_or ps q idle).at) (had.each q)) had.many (length es) last.inside
        (read_inside (es ++ e ∷ []) (length es) no_entry e last.inside ∙ last.is) stands

-- an entry that is another process's has its reply
holds_beside : (es : List Entry) (k : ℕ) (e : Entry) (q : ℕ) (held : Option Entry) (at : Option ℕ) → (entry_in es k).pid ≢ q → HoldsAt es q held at → HoldsAt (set es k e) q held at
holds_beside es k e q held None other had = tt
holds_beside es k e q held (Some j) other had =
    let same : entry_in (set es k e) j ≡ entry_in es j = get_or-set_other es k j e no_entry (λ (is : j ≡ k). other (ap (λ (i : ℕ). (entry_in es i).pid) (sym is) ∙ had.2)) in (
      let long = length-set es k e in let lt = had.0 in omega (arith, long, lt),
      had.1 ∙ ap (λ (x : Entry). Some x) (sym same),
      ap (λ (x : Entry). x.pid) same ∙ had.2,
    )

-- the entry of process p has its reply
pub held_decided : (held : List (Option Entry)) (ps : List Process) (es : List Entry) (p k : ℕ) (e : Entry) (r : Reply) → p < length ps → entry_index (get_or ps p idle).at ≡ Some k → get_or held p None ≡ Some e → AreHeld held ps es
    → AreHeld (set held p (Some (told e r))) ps (set es k (told (entry_in es k) r))
held_decided held ps es p k e r lt stands is had =
    let mine : HoldsAt es p (get_or held p None) (Some k) = subst (λ (at : Option ℕ). HoldsAt es p (get_or held p None) at) stands (had.each p) in
    let same : Some e ≡ Some (entry_in es k) = sym is ∙ mine.1 in
    let here : e ≡ entry_in es k = cc same in
    let one : Entry = told (entry_in es k) r in
    subst (λ (f : Entry). AreHeld (set held p (Some (told f r))) ps (set es k one)) (sym here)
    (subst (λ (l : List Process). AreHeld (set held p (Some one)) l (set es k one)) (set-get_or ps p idle)
    (held_here held ps p (get_or ps p idle) lt one mine.2 es (set es k one)
    (λ q apart. holds_beside es k one q (get_or held q None) (entry_index (get_or ps q idle).at) (λ (other : (entry_in es k).pid ≡ q). apart (sym other ∙ mine.2)) (had.each q))
    had.many k (let long = length-set es k one in let inside = mine.0 in omega (arith, long, inside)) (get_or-set_same es k one no_entry mine.0) stands))

-- none has one
pub held_new : (n : ℕ) → AreHeld (replicate n None) (replicate n idle) []
held_new n = record {
  many = length-replicate {A = Option Entry} n None ∙ sym (length-replicate n idle);
  each = λ p. subst (λ (x : Process). HoldsAt [] p (get_or (replicate n None) p None) (entry_index x.at)) (sym (none_else p)) tt;
}
  where
    none_else : (p : ℕ) → get_or (replicate n idle) p idle ≡ idle
    none_else p = ⊎_elim
        (λ (less : p < n). get_or-replicate n p idle idle less)
        (λ (more : n ≤ p). get_or_past (replicate n idle) p idle (let many = length-replicate n idle in omega (arith, many, more)))
        (cases_lt p n)
