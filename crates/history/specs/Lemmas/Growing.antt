-- How a kernel's journal goes on.
use Rattle.std.proofs.Common.{◌≡◌, ◌≢◌, inl, inr, ℕ, zero, suc, ◌≤◌, List, [], ◌∷◌, ◌++◌, set, refl, sym, ◌∙◌, ap, subst, arith, Option, Some, None}
use Rattle.history.specs.Common.{DeviceFault, due_labels, Entry, files_of, form_of, History, Image, in_reads, inode_count_of, IsEntry, Keeps, KeepsBetween, kept, most_kept, most_of, Phase, recovered, replay, Reply, told, VolumeState}
use Rattle.history.specs.Lemmas.Stops.{most_more, kept_turned, kept_told}
use Rattle.history.specs.Histories.{IsHistory}
use Rattle.history.specs.Grows.{Becomes, Extends, Grows, JournalGoes}
use Rattle.history.specs.Lemmas.Histories.{history_more, history_told}
use Rattle.history.specs.Lemmas.Lists.{entry_next, entry_more, entry_set_other, entry_same}

-- without a fault recovery keeps at most what reads give
pub most_well : {D : Type 0} (v : VolumeState D) → v.fault ≡ None → most_of v ≡ in_reads v.log
most_well v well = ap (λ (o : Option DeviceFault). most_kept o v.log.commit v.log.committed) well

-- so no fewer later, where reads give no fewer
pub most_grows : {D : Type 0} (v u : VolumeState D) → v.fault ≡ None → in_reads v.log ≤ in_reads u.log → most_of v ≤ most_of u
most_grows v u well up = let m = most_well v well in let more = most_more u.fault u.log.commit u.log.committed in omega (arith, m, more, up)

-- a journal as it was
pub extends_same : (es : List Entry) → Extends es es
extends_same [] = tt
extends_same (e ∷ es) = (inl refl, extends_same es)

-- with more entries
pub extends_more : (es fs : List Entry) → Extends es (es ++ fs)
extends_more [] fs = tt
extends_more (e ∷ es) fs = (inl refl, extends_more es fs)

-- with a reply more
pub extends_told : (es : List Entry) (k : ℕ) (e : Entry) (r : Reply) → IsEntry es k e → e.reply ≡ None → Extends es (set es k (told e r))
extends_told [] k e r at none = tt
extends_told (d ∷ es) zero e r at none = (inr (ap (λ (f : Entry). f.reply) at.is ∙ none, (r, ap (λ (f : Entry). told f r) (sym at.is))), extends_same es)
extends_told (d ∷ es) (suc k) e r at none = (inl refl, extends_told es k e r (entry_next d es k e at) none)

becomes_then : (a b c : Entry) → Becomes a b → Becomes b c → Becomes a c
becomes_then a b c (inl same) (inl more) = inl (more ∙ same)
becomes_then a b c (inl same) (inr (none, (r, is))) = inr (ap (λ (f : Entry). f.reply) (sym same) ∙ none, (r, is ∙ ap (λ (f : Entry). told f r) same))
becomes_then a b c (inr (none, (r, is))) (inl more) = inr (none, (r, more ∙ is))
becomes_then a b c (inr (none, (r, is))) (inr (still, (s, was))) = let t = sym (ap (λ (f : Entry). f.reply) is) ∙ still in absurd (cc t)

-- it goes on, and goes on again
pub extends_then : (es fs gs : List Entry) → Extends es fs → Extends fs gs → Extends es gs
extends_then [] fs gs first second = tt
extends_then (e ∷ es) [] gs first second = absurd first
extends_then (e ∷ es) (f ∷ fs) [] first second = absurd second
extends_then (e ∷ es) (f ∷ fs) (g ∷ gs) first second = (becomes_then e f g first.0 second.0, extends_then es fs gs first.1 second.1)

-- time goes on, and goes on again
pub grows_then : {D : Type 0} (n : ℕ) (a b c : VolumeState D) (es fs gs : List Entry) → Grows n a es b fs → Grows n b fs c gs → Grows n a es c gs
grows_then n a b c es fs gs first second = record {
  committed = omega (arith, first.committed, second.committed);
  most = omega (arith, first.most, second.most);
  journal = extends_then es fs gs first.journal second.journal;
  stays = λ k le. let m = first.most in second.stays k (omega (arith, le, m)) ∙ first.stays k le;
}

-- what a step keeps, without a fault before it
pub grows_by : {D : Type 0} (n : ℕ) (v u : VolumeState D) (es fs : List Entry) → v.fault ≡ None → v.log.committed ≤ u.log.committed → in_reads v.log ≤ in_reads u.log → Extends es fs → ((c : ℕ) → c ≤ in_reads v.log → kept n fs c ≡ kept n es c) → Grows n v es u fs
grows_by n v u es fs well more reads goes same = record {
  committed = more;
  most = most_grows v u well reads;
  journal = goes;
  stays = λ c le. let m = most_well v well in same c (omega (arith, le, m));
}

keeps_same : (opening x : Image) (es fs : List Entry) (c : ℕ) → kept (inode_count_of opening) fs c ≡ kept (inode_count_of opening) es c → Keeps opening es x c → Keeps opening fs x c
keeps_same opening x es fs c same k = record {
  log = k.log;
  sound = k.sound;
  files = subst (λ (l : List Entry). replay (form_of opening) (files_of opening) l ≡ Some (files_of (recovered x))) (sym same) k.files;
  untouched = k.untouched;
  labels = λ i used number. k.labels i used number ∙ ap (λ (l : List Entry). due_labels opening l i) (sym same);
}

-- what is kept now is kept later
pub keeps_later : {D : Type 0} (opening : Image) (v u : VolumeState D) (es fs : List Entry) → Grows (inode_count_of opening) v es u fs → (least : ℕ) (x : Image) → KeepsBetween least (most_of v) opening es x → KeepsBetween least (most_of u) opening fs x
keeps_later opening v u es fs grows least x k =
    record { groups = k.groups; low = k.low; high = omega (arith, k.high, grows.most); keeps = keeps_same opening x es fs k.groups (grows.stays k.groups k.high) k.keeps }

-- nothing happened
pub grows_none : {D : Type 0} (n : ℕ) (v u : VolumeState D) (es fs : List Entry) → u ≡ v → fs ≡ es → Grows n v es u fs
grows_none n v u es fs is same = record {
  committed = let c = ap (λ (o : VolumeState _). o.log.committed) is in omega (arith, c);
  most = let m = ap (λ (o : VolumeState _). most_of o) is in omega (arith, m);
  journal = subst (Extends es) (sym same) (extends_same es);
  stays = λ c le. ap (λ (l : List Entry). kept n l c) same;
}

-- a step of process p
module _ (n p committed : ℕ) (es fs : List Entry) where
  pub goes_extends : JournalGoes n p committed es fs → Extends es fs
  goes_extends (inl same) = subst (Extends es) (sym same) (extends_same es)
  goes_extends (inr (inl more)) = subst (Extends es) (sym more.list) (extends_more es (more.entry ∷ []))
  goes_extends (inr (inr tells)) = subst (Extends es) (sym tells.list) (extends_told es tells.index tells.entry tells.reply tells.at tells.none)

  -- what is kept of the committed groups stays
  pub goes_stays : JournalGoes n p committed es fs → (c : ℕ) → c ≤ committed → kept n fs c ≡ kept n es c
  goes_stays (inl same) c le = ap (λ (l : List Entry). kept n l c) same
  goes_stays (inr (inl more)) c le = ap (λ (l : List Entry). kept n l c) more.list ∙ kept_turned n c es more.entry (λ changing. let later = more.later changing in omega (arith, le, later))
  goes_stays (inr (inr tells)) c le = ap (λ (l : List Entry). kept n l c) tells.list ∙ kept_told n c es tells.index tells.entry tells.reply tells.at (λ changing. let later = tells.later changing in omega (arith, le, later))

  -- and another's entry stays where it is
  pub goes_entry : JournalGoes n p committed es fs → (k : ℕ) (e : Entry) → e.pid ≢ p → IsEntry es k e → IsEntry fs k e
  goes_entry (inl same) k e other at = subst (λ (l : List Entry). IsEntry l k e) (sym same) at
  goes_entry (inr (inl more)) k e other at = subst (λ (l : List Entry). IsEntry l k e) (sym more.list) (entry_more es k e more.entry at)
  goes_entry (inr (inr tells)) k e other at = subst (λ (l : List Entry). IsEntry l k e) (sym tells.list) (entry_set_other es k tells.index e tells.entry (told tells.entry tells.reply) at tells.at (λ mine. other (mine ∙ tells.mine)))

  -- and it is the same entry
  pub goes_back : JournalGoes n p committed es fs → (k : ℕ) (e f : Entry) → e.pid ≢ p → IsEntry es k e → IsEntry fs k f → IsEntry es k f
  goes_back goes k e f other at there = subst (λ (g : Entry). IsEntry es k g) (entry_same fs k e f (goes_entry goes k e other at) there) at

-- so time goes on with a step that is made, without a fault before it
pub grows_goes : {D : Type 0} (n p : ℕ) (v u : VolumeState D) (es fs : List Entry) → v.fault ≡ None → v.log.committed ≤ u.log.committed → in_reads v.log ≤ in_reads u.log → JournalGoes n p (in_reads v.log) es fs → Grows n v es u fs
grows_goes n p v u es fs well more reads goes = grows_by n v u es fs well more reads (goes_extends n p (in_reads v.log) es fs goes) (goes_stays n p (in_reads v.log) es fs goes)
