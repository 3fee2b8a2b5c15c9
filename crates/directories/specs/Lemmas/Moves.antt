-- Two changes of one name each, by which a file has another name.
use Rattle.std.proofs.Common.{◌≡◌, ◌≢◌, inl, inr, ℕ, ◌+◌, ◌*◌, ◌<◌, ◌≤◌, List, length, Option, Some, None, sym, ap, subst, ◌∙◌, ⊎_elim, arith}
use Rattle.std.proofs.lemmas.Bool.{cases_eq}
use Rattle.model.specs.declared.types.image.File.{File}
use Rattle.model.specs.Files.{Files, file_in}
use Rattle.model.specs.Layout.{greatest_size}
use Rattle.model.specs.Operations.{after}
use Rattle.model.specs.declared.types.operations.Reply.{Reply}
use Rattle.model.specs.declared.types.operations.Reply.TheVariants.{Wrote}
use Rattle.directories.specs.Entries.{entries_of}
use Rattle.directories.specs.Trees.{bytes_of, directory_in, kind_of, number_of, IsDirectory, IsTidy}
use Rattle.directories.specs.TreeChanges.{LeadsTo}
use Rattle.directories.specs.TreeLaws.{LinkMoves, RelinkLeads, UnlinkMoves}
use Rattle.directories.specs.Writes.{operation_of}
use Rattle.directories.specs.Lemmas.Adding.{number_same}
use Rattle.directories.specs.Lemmas.Answered.{entry_answered}
use Rattle.directories.specs.Lemmas.Chunks.{length-entries_of}
use Rattle.directories.specs.Lemmas.EntrySteps.{link_inside, link_size, links_to, unlink_leads_nowhere, unlink_size}
use Rattle.directories.specs.Lemmas.FileMaps.{writes}
use Rattle.directories.specs.Lemmas.Moving.{IsOther}
use Rattle.directories.specs.Lemmas.Sizes.{after_sized}

-- ---- one change

pub other_leads : (files new : Files) (from : ℕ) (name : List ℕ) (o : Option ℕ) → LeadsTo files new from name o →
    (i : ℕ) (other : List ℕ) → IsOther i other from name → number_of new i other ≡ number_of files i other
other_leads files new from name o led i other apart =
    ⊎_elim
    (λ (in_from : i ≡ from).
    ⊎_elim (λ (differ : i ≢ from). absurd (differ in_from))
    (λ (differ : other ≢ name).
    ap (λ (k : ℕ). number_of new k other) in_from ∙ led.changes.others other differ ∙ ap (λ (k : ℕ). number_of files k other) (sym in_from)) apart)
    (λ (elsewhere : i ≢ from). number_same files new i other (led.rest i elsewhere)) (cases_eq i from)

pub other_kinds : (files new : Files) (from : ℕ) (name : List ℕ) (o : Option ℕ) → IsDirectory files from → LeadsTo files new from name o →
    (i : ℕ) → kind_of (file_in new i) ≡ kind_of (file_in files i)
other_kinds files new from name o is led i =
    ⊎_elim
    (λ (in_from : i ≡ from).
    ap (λ (k : ℕ). kind_of (file_in new k)) in_from ∙ led.changes.directory ∙ sym (ap (λ (k : ℕ). kind_of (file_in files k)) in_from ∙ is))
    (λ (elsewhere : i ≢ from). ap kind_of (led.rest i elsewhere)) (cases_eq i from)

pub other_tidy : (files new : Files) (from : ℕ) (name : List ℕ) (o : Option ℕ) → LeadsTo files new from name o →
    (i : ℕ) → IsTidy (directory_in files i) → IsTidy (directory_in new i)
other_tidy files new from name o led i tidy =
    ⊎_elim (λ (in_from : i ≡ from). subst (λ (k : ℕ). IsTidy (directory_in new k)) (sym in_from) led.changes.tidy)
    (λ (elsewhere : i ≢ from). subst (λ (f : Option File). IsTidy (bytes_of f)) (sym (led.rest i elsewhere)) tidy) (cases_eq i from)

-- ---- two changes

-- a name that leads somewhere and one that leads nowhere are two
two_names : (files : Files) (from to i : ℕ) (old name : List ℕ) → number_of files from old ≡ Some i → number_of files to name ≡ None →
    IsOther from old to name
two_names files from to i old name led absent =
    ⊎_elim
    (λ (same : from ≡ to).
    inr (λ this. let both : None ≡ Some i = sym absent ∙ ap (number_of files to) (sym this) ∙ ap (λ (k : ℕ). number_of files k old) (sym same) ∙ led in absurd (cc both)))
    (λ (differ : from ≢ to). inl differ) (cases_eq from to)

turned : (from to : ℕ) (old name : List ℕ) → IsOther from old to name → IsOther to name from old
turned from to old name other =
    ⊎_elim (λ (differ : from ≢ to). inl (λ same. differ (sym same))) (λ (differ : old ≢ name). inr (λ same. differ (sym same))) other

pub link_moves : LinkMoves
link_moves files freed new from to i old name is is_to led absent first second =
    let apart = two_names files from to i old name led absent in
    let kinds = other_kinds files freed from old None is first in
    let freed_to : IsDirectory freed to = kinds to ∙ is_to in
    record {
      led = led;
      absent = absent;
      gone = other_leads freed new to name (Some i) second from old apart ∙ first.leads;
      leads = second.leads;
      others = λ j other not_old not_new.
          other_leads freed new to name (Some i) second j other not_new ∙ other_leads files freed from old None first j other not_old;
      kinds = λ j. other_kinds freed new to name (Some i) freed_to second j ∙ kinds j;
      tidy = λ j tidy. other_tidy freed new to name (Some i) second j (other_tidy files freed from old None first j tidy);
      rest = λ j not_from not_to. second.rest j not_to ∙ first.rest j not_from;
    }

pub unlink_moves : UnlinkMoves
unlink_moves files both new from to i old name is is_to led absent first second =
    let apart = two_names files from to i old name led absent in
    let kinds = other_kinds files both to name (Some i) is_to first in
    let both_from : IsDirectory both from = kinds from ∙ is in
    record {
      led = led;
      absent = absent;
      gone = second.leads;
      leads = other_leads both new from old None second to name (turned from to old name apart) ∙ first.leads;
      others = λ j other not_old not_new.
          other_leads both new from old None second j other not_old ∙ other_leads files both to name (Some i) first j other not_new;
      kinds = λ j. other_kinds both new from old None both_from second j ∙ kinds j;
      tidy = λ j tidy. other_tidy both new from old None second j (other_tidy files both to name (Some i) first j tidy);
      rest = λ j not_from not_to. second.rest j not_from ∙ first.rest j not_to;
    }

-- ---- in one directory

pub relink_leads : RelinkLeads
relink_leads form files freed new from i old name unlink link reply sized is tidy unlinks freeing links h =
    let bytes : List ℕ = directory_in files from in
    let w = writes form files freed from unlink (unlink_size bytes old unlink unlinks) freeing in
    let first = (unlink_leads_nowhere form files freed from old unlink (Wrote 16) sized is tidy unlinks freeing).1 in
    let fits : length (directory_in freed from) ≤ greatest_size form = after_sized form files freed (operation_of from unlink) (Wrote 16) sized freeing from in
    let there : link.place < length (entries_of (directory_in freed from)) =
    link_inside bytes (directory_in freed from) old name i unlink link unlinks w.bytes links in
    let count = length-entries_of (directory_in freed from) in
    let inside : 16 * link.place + 16 ≤ length (directory_in freed from) = omega arith in
    let size = link_size (directory_in freed from) name i link links in
    let whole = (entry_answered form freed new from link reply first.changes.directory size (omega arith) (omega (arith, inside, fits)) h).there inside in (
      whole,
      links_to form freed new from i name link first.changes.directory first.changes.tidy links
          (subst (λ (r : Reply). after form freed (operation_of from link) r ≡ Some new) whole h),
    )
