-- An entry is given another number, and its name leads there.
use Rattle.std.proofs.Common.{◌≡◌, ◌≢◌, ℕ, ◌+◌, ◌*◌, ◌<◌, ◌≤◌, true, false, List, [], length, get_or, Some, sym, ap, subst, ◌∙◌, ⊎_elim, arith}
use Rattle.std.proofs.lemmas.Bool.{cases_eq}
use Rattle.model.specs.declared.types.operations.Reply.{Reply}
use Rattle.model.specs.Layout.{greatest_size}
use Rattle.model.specs.Operations.{after}
use Rattle.directories.specs.declared.entries.EntryWrite.{EntryWrite}
use Rattle.directories.specs.Entries.{entries_of, name_in, number_in, is_for, lookup, HasOnce, IsFor, IsProper}
use Rattle.directories.specs.Trees.{directory_in}
use Rattle.directories.specs.TreeLaws.{RepointLeads}
use Rattle.directories.specs.Writes.{operation_of, written, KeepsOthers, Repoints}
use Rattle.directories.specs.Lemmas.Adding.{same_name}
use Rattle.directories.specs.Lemmas.Answered.{entry_answered}
use Rattle.directories.specs.Lemmas.Chunks.{length-entries_of, puts_entry}
use Rattle.directories.specs.Lemmas.EntryBytes.{is_for-entry_bytes, is_for-other, length-entry_bytes, name_in-entry_bytes, name_of_entry, number_in-entry_bytes, proper-entry_bytes}
use Rattle.directories.specs.Lemmas.EntrySteps.{leads_by}
use Rattle.directories.specs.Lemmas.Standing.{lookup_at, lookup_same, named_keeps, once_keeps, stands_at, Puts, StandsAt}

-- the entry of a name is replaced by another of that name
again_first : (bytes new name : List ℕ) (place : ℕ) (entry : List ℕ) → Puts (entries_of bytes) (entries_of new) place entry →
    is_for name entry ≡ true → StandsAt (is_for name) (entries_of bytes) place → StandsAt (is_for name) (entries_of new) place
again_first bytes new name place entry puts good at = record {
  within = puts.within;
  passes = ap (is_for name) puts.there ∙ good;
  first = λ j below.
      let within : place < length (entries_of bytes) = at.within in
      ap (is_for name) (puts.others j (omega arith) (λ same. omega arith)) ∙ at.first j below;
}

-- where a name stands in the new entries it stood before
stood : (bytes new name : List ℕ) (place : ℕ) (entry : List ℕ) → Puts (entries_of bytes) (entries_of new) place entry →
    StandsAt (is_for name) (entries_of bytes) place → (j : ℕ) → IsFor new name j → IsFor bytes name j
stood bytes new name place entry puts at j is =
    ⊎_elim (λ (here : j ≡ place). subst (λ (k : ℕ). IsFor bytes name k) (sym here) (at.within, at.passes))
    (λ (ne : j ≢ place). let old = puts.more j is.0 ne in (old, ap (is_for name) (sym (puts.others j old ne)) ∙ is.1)) (cases_eq j place)

again_once : (bytes new name : List ℕ) (place : ℕ) (entry : List ℕ) → Puts (entries_of bytes) (entries_of new) place entry →
    StandsAt (is_for name) (entries_of bytes) place → HasOnce bytes name → HasOnce new name
again_once bytes new name place entry puts at once = record {
  same = λ j k at_j at_k. once.same j k (stood bytes new name place entry puts at j at_j) (stood bytes new name place entry puts at k at_k);
}

repoint_stands : (bytes name : List ℕ) (number : ℕ) (write : EntryWrite) → Repoints bytes name number write →
    StandsAt (is_for name) (entries_of bytes) write.place
repoint_stands bytes name number write repoints = stands_at (is_for name) (entries_of bytes) write.place repoints.place

repoint_size : (bytes name : List ℕ) (number : ℕ) (write : EntryWrite) → Repoints bytes name number write → length write.entry ≡ 16
repoint_size bytes name number write repoints = ap length repoints.entry ∙ length-entry_bytes number name repoints.stored

repoint_at : (bytes name : List ℕ) (number : ℕ) (write : EntryWrite) → Repoints bytes name number write → 16 * write.place + 16 ≤ length bytes
repoint_at bytes name number write repoints =
    let inside : write.place < length (entries_of bytes) = (repoint_stands bytes name number write repoints).within in
    let count = length-entries_of bytes in omega arith

repoint_puts : (bytes name : List ℕ) (number : ℕ) (write : EntryWrite) → Repoints bytes name number write →
    Puts (entries_of bytes) (entries_of (written bytes write)) write.place write.entry
repoint_puts bytes name number write repoints =
    let inside = repoint_at bytes name number write repoints in
    puts_entry bytes write.place write.entry (omega arith) (repoint_size bytes name number write repoints)

repoint_for : (bytes name : List ℕ) (number : ℕ) (write : EntryWrite) → Repoints bytes name number write → is_for name write.entry ≡ true
repoint_for bytes name number write repoints =
    ap (is_for name) repoints.entry ∙ is_for-entry_bytes number name repoints.stored repoints.used repoints.fits

repoint_not_for : (bytes name : List ℕ) (number : ℕ) (write : EntryWrite) → Repoints bytes name number write →
    (other : List ℕ) → other ≢ name → is_for other write.entry ≡ false
repoint_not_for bytes name number write repoints other differs =
    ap (is_for other) repoints.entry ∙ is_for-other other name _ differs (name_in-entry_bytes number name repoints.stored)

repoint_proper : (bytes name : List ℕ) (number : ℕ) (write : EntryWrite) → Repoints bytes name number write → IsProper (name_in write.entry)
repoint_proper bytes name number write repoints =
    subst (λ (l : List ℕ). IsProper (name_in l)) (sym repoints.entry) (proper-entry_bytes number name repoints.stored)

pub repoint_leads : (bytes name : List ℕ) (number : ℕ) (write : EntryWrite) → Repoints bytes name number write →
    lookup (written bytes write) name ≡ Some number
repoint_leads bytes name number write repoints =
    let puts = repoint_puts bytes name number write repoints in
    lookup_at (written bytes write) name write.place
    (again_first bytes (written bytes write) name write.place write.entry puts (repoint_for bytes name number write repoints)
    (repoint_stands bytes name number write repoints))
    ∙ ap (λ (l : List ℕ). Some (number_in l)) (puts.there ∙ repoints.entry)
    ∙ ap (λ (n : ℕ). Some n) (number_in-entry_bytes number name repoints.fits)

pub repoint_keeps : (bytes name : List ℕ) (number : ℕ) (write : EntryWrite) → Repoints bytes name number write →
    KeepsOthers name bytes (written bytes write)
repoint_keeps bytes name number write repoints =
    let puts = repoint_puts bytes name number write repoints in
    let at = repoint_stands bytes name number write repoints in
    let old = name_of_entry name (get_or (entries_of bytes) write.place []) at.passes in
    record {
      others = λ other differs.
          lookup_same bytes (written bytes write) other write.place write.entry puts (repoint_not_for bytes name number write repoints other differs)
          (λ h. is_for-other other name (get_or (entries_of bytes) write.place []) differs old);
      once = λ any once.
          ⊎_elim
          (λ (same : any ≡ name).
          subst (λ (n : List ℕ). HasOnce (written bytes write) n) (sym same)
          (again_once bytes (written bytes write) name write.place write.entry puts at (subst (λ (n : List ℕ). HasOnce bytes n) same once)))
          (λ (differ : any ≢ name).
          once_keeps bytes (written bytes write) any write.place write.entry puts (repoint_not_for bytes name number write repoints any differ) once)
          (same_name any name);
      named = named_keeps (entries_of bytes) (entries_of (written bytes write)) write.place write.entry puts (λ used. repoint_proper bytes name number write repoints);
    }

pub repoint_leads_there : RepointLeads
repoint_leads_there form files new from i name write reply sized is tidy repoints h =
    let bytes : List ℕ = directory_in files from in
    let fits : length bytes ≤ greatest_size form = sized from in
    let inside : 16 * write.place + 16 ≤ length bytes = repoint_at bytes name i write repoints in
    let size = repoint_size bytes name i write repoints in
    let whole = (entry_answered form files new from write reply is size (omega arith) (omega (arith, inside, fits)) h).there inside in (
      whole,
      leads_by form files new from name (Some i) write is tidy size (omega arith) (repoint_keeps bytes name i write repoints)
          (repoint_leads bytes name i write repoints) (subst (λ (r : Reply). after form files (operation_of from write) r ≡ Some new) whole h),
    )
