-- A file's count is changed, which changes no name; and operations that leave each count as it was.
use Rattle.std.proofs.Common.{◌≡◌, ◌≢◌, ◌⊎◌, ℕ, ◌*◌, Bool, List, [], take, set, Option, Some, None, sym, ap, subst, ◌∙◌, ⊎_elim}
use Rattle.std.proofs.lemmas.Bool.{cases_eq}
use Rattle.blocks.specs.Block.{overwritten}
use Rattle.blocks.specs.declared.disk.Disk.{Ghosts}
use Rattle.model.specs.declared.types.image.File.{File}
use Rattle.model.specs.declared.types.image.Form.{Form}
use Rattle.model.specs.declared.types.operations.Attribute.{Attribute}
use Rattle.model.specs.declared.types.operations.Op.{Op}
use Rattle.model.specs.declared.types.operations.Op.TheVariants.{Remove, Trunc, Write}
use Rattle.model.specs.declared.types.operations.Reply.{Reply}
use Rattle.model.specs.Files.{Files, file_in}
use Rattle.model.specs.Lemmas.FileNumbers.{below_file}
use Rattle.model.specs.Lemmas.Replies.{after_cases}
use Rattle.model.specs.Operations.{after, after_done, attribute_refusal, refusal_of, with_bytes, with_links}
use Rattle.calls.specs.Stepping.{Plain}
use Rattle.directories.specs.declared.entries.EntryWrite.{EntryWrite}
use Rattle.directories.specs.Entries.{lookup}
use Rattle.names.specs.Inside.{files_seen, form_seen}
use Rattle.names.specs.Making.{HasEntered}
use Rattle.directories.specs.TreeChanges.{AddsName, ChangesName, DropsName, MovesName, Relinks}
use Rattle.directories.specs.Trees.{bytes_of, directory_in, kind_of, links_of, number_of, IsFile, IsTidy}
use Rattle.directories.specs.Lemmas.Answered.{done_where, some_by}
use Rattle.directories.specs.Lemmas.FileMaps.{set_others, set_there}
use Rattle.directories.specs.Lemmas.Keeping.{at_cases, links_on, remove_on, size_on, trunc_on, write_on}

-- ---- a count changed

pub relinks_by : (form : Form) (files new : Files) (i n : ℕ) (reply : Reply) → IsFile files i → after form files (Op.SetAttribute i (Attribute.Links n)) reply ≡ Some new →
    Relinks files new i n
relinks_by form files new i n reply there h =
    let has = some_by (file_in files i) there in
    let done = done_where form files new (Op.SetAttribute i (Attribute.Links n)) reply (ap (λ (o : Option File). attribute_refusal form o (Attribute.Links n)) has.1) h in
    let on = at_cases files new i (file_in files i) (Op.SetAttribute i (Attribute.Links n)) reply done in
    let e : new ≡ set files i (with_links on.0 n) = links_on files new i on.0 i n reply on.2 in
    record {
      file = on.0;
      was = on.1;
      is = set_there files new i (with_links on.0 n) (below_file files i on.0 on.1) e;
      rest = set_others files new i (with_links on.0 n) e;
    }

module _ (files new : Files) (i n : ℕ) (relinks : Relinks files new i n) where
  pub relinked_kinds : (j : ℕ) → kind_of (file_in new j) ≡ kind_of (file_in files j)
  relinked_kinds j =
      ⊎_elim
      (λ (same : j ≡ i).
      ap (λ (k : ℕ). kind_of (file_in new k)) same ∙ ap kind_of relinks.is ∙ sym (ap (λ (k : ℕ). kind_of (file_in files k)) same ∙ ap kind_of relinks.was))
      (λ (apart : j ≢ i). ap kind_of (relinks.rest j apart)) (cases_eq j i)

  pub relinked_bytes : (j : ℕ) → directory_in new j ≡ directory_in files j
  relinked_bytes j =
      ⊎_elim
      (λ (same : j ≡ i). ap (directory_in new) same ∙ ap bytes_of relinks.is ∙ sym (ap (directory_in files) same ∙ ap bytes_of relinks.was))
      (λ (apart : j ≢ i). ap bytes_of (relinks.rest j apart)) (cases_eq j i)

  pub relinked_numbers : (j : ℕ) (name : List ℕ) → number_of new j name ≡ number_of files j name
  relinked_numbers j name = ap (λ (b : List ℕ). lookup b name) (relinked_bytes j)

  pub relinked_tidy : (j : ℕ) → IsTidy (directory_in files j) → IsTidy (directory_in new j)
  relinked_tidy j tidy = subst (λ (b : List ℕ). IsTidy b) (sym (relinked_bytes j)) tidy

  pub relinked_links : links_of (file_in new i) ≡ n
  relinked_links = ap links_of relinks.is

  pub relinked_there : (j : ℕ) → IsFile files j → IsFile new j
  relinked_there j there none =
      ⊎_elim
      (λ (same : j ≡ i). let both = sym (ap (file_in new) (sym same) ∙ none) ∙ relinks.is in absurd (cc both))
      (λ (apart : j ≢ i). there (sym (relinks.rest j apart) ∙ none)) (cases_eq j i)

-- ---- behind a change of a name

pub changed_relinked : (files mid new : Files) (from i n : ℕ) (name : List ℕ) → Relinks mid new i n → ChangesName files mid from name →
    ChangesName files new from name
changed_relinked files mid new from i n name relinks changes = record {
  directory = relinked_kinds mid new i n relinks from ∙ changes.directory;
  tidy = relinked_tidy mid new i n relinks from changes.tidy;
  others = λ other differ. relinked_numbers mid new i n relinks from other ∙ changes.others other differ;
}

pub adds_relinked : (files mid new : Files) (from number n : ℕ) (name : List ℕ) (file : File) → from ≢ number → Relinks mid new from n →
    AddsName files mid from name number file → AddsName files new from name number file
adds_relinked files mid new from number n name file apart relinks adds = record {
  changes = changed_relinked files mid new from from n name relinks adds.changes;
  free = adds.free;
  absent = adds.absent;
  leads = relinked_numbers mid new from n relinks from name ∙ adds.leads;
  there = relinks.rest number (λ same. apart (sym same)) ∙ adds.there;
  rest = λ j not_from not_it. relinks.rest j not_from ∙ adds.rest j not_from not_it;
}

pub drops_relinked : (files mid new : Files) (from number n : ℕ) (name : List ℕ) → from ≢ number → Relinks mid new from n →
    DropsName files mid from name number → DropsName files new from name number
drops_relinked files mid new from number n name apart relinks drops = record {
  changes = changed_relinked files mid new from from n name relinks drops.changes;
  led = drops.led;
  gone = relinked_numbers mid new from n relinks from name ∙ drops.gone;
  free = relinks.rest number (λ same. apart (sym same)) ∙ drops.free;
  rest = λ j not_from not_it. relinks.rest j not_from ∙ drops.rest j not_from not_it;
}

pub moves_relinked : (files mid new : Files) (from to number i n : ℕ) (old name : List ℕ) → ((i ≡ from) ⊎ (i ≡ to)) → Relinks mid new i n →
    MovesName files mid from old to name number → MovesName files new from old to name number
moves_relinked files mid new from to number i n old name one relinks moves = record {
  led = moves.led;
  absent = moves.absent;
  gone = relinked_numbers mid new i n relinks from old ∙ moves.gone;
  leads = relinked_numbers mid new i n relinks to name ∙ moves.leads;
  others = λ j other not_old not_new. relinked_numbers mid new i n relinks j other ∙ moves.others j other not_old not_new;
  kinds = λ j. relinked_kinds mid new i n relinks j ∙ moves.kinds j;
  tidy = λ j tidy. relinked_tidy mid new i n relinks j (moves.tidy j tidy);
  rest = λ j not_from not_to.
      relinks.rest j (λ same. ⊎_elim (λ (e : i ≡ from). not_from (same ∙ e)) (λ (e : i ≡ to). not_to (same ∙ e)) one)
      ∙ moves.rest j not_from not_to;
}

-- ---- operations that leave each count as it was

pub set_links : (files new : Files) (i : ℕ) (old : File) (bytes : List ℕ) → file_in files i ≡ Some old → new ≡ set files i (with_bytes old bytes) →
    (j : ℕ) → links_of (file_in new j) ≡ links_of (file_in files j)
set_links files new i old bytes was e j =
    ⊎_elim
    (λ (same : j ≡ i).
    ap (λ (k : ℕ). links_of (file_in new k)) same
    ∙ ap links_of (set_there files new i (with_bytes old bytes) (below_file files i old was) e)
    ∙ sym (ap (λ (k : ℕ). links_of (file_in files k)) same ∙ ap links_of was))
    (λ (apart : j ≢ i). ap links_of (set_others files new i (with_bytes old bytes) e j apart)) (cases_eq j i)

same_links : (files new : Files) → new ≡ files → (j : ℕ) → links_of (file_in new j) ≡ links_of (file_in files j)
same_links files new same j = ap (λ (f : Files). links_of (file_in f j)) same

pub writes_links : (form : Form) (files new : Files) (i off : ℕ) (bytes : List ℕ) (reply : Reply) → after form files (Write i off bytes) reply ≡ Some new →
    (j : ℕ) → links_of (file_in new j) ≡ links_of (file_in files j)
writes_links form files new i off bytes reply h j =
    ⊎_elim (λ (same : new ≡ files). same_links files new same j)
    (λ (done : (refusal_of form files (Write i off bytes) ≡ None) × (after_done files (Write i off bytes) reply ≡ Some new)).
    let on = at_cases files new i (file_in files i) (Write i off bytes) reply done.1 in
    let wrote = write_on files new i on.0 i off bytes reply on.2 in
    set_links files new i on.0 (overwritten on.0.bytes off (take wrote.0 bytes)) on.1 wrote.2 j)
    (after_cases form files new (Write i off bytes) reply h)

pub truncs_links : (form : Form) (files new : Files) (i : ℕ) (reply : Reply) → after form files (Trunc i) reply ≡ Some new →
    (j : ℕ) → links_of (file_in new j) ≡ links_of (file_in files j)
truncs_links form files new i reply h j =
    ⊎_elim (λ (same : new ≡ files). same_links files new same j)
    (λ (done : (refusal_of form files (Trunc i) ≡ None) × (after_done files (Trunc i) reply ≡ Some new)).
    let on = at_cases files new i (file_in files i) (Trunc i) reply done.1 in
    set_links files new i on.0 [] on.1 (trunc_on files new i on.0 i reply on.2) j)
    (after_cases form files new (Trunc i) reply h)

pub cuts_links : (form : Form) (files new : Files) (i n : ℕ) (reply : Reply) → after form files (Op.SetAttribute i (Attribute.Size n)) reply ≡ Some new →
    (j : ℕ) → links_of (file_in new j) ≡ links_of (file_in files j)
cuts_links form files new i n reply h j =
    ⊎_elim (λ (same : new ≡ files). same_links files new same j)
    (λ (done : (refusal_of form files (Op.SetAttribute i (Attribute.Size n)) ≡ None) × (after_done files (Op.SetAttribute i (Attribute.Size n)) reply ≡ Some new)).
    let on = at_cases files new i (file_in files i) (Op.SetAttribute i (Attribute.Size n)) reply done.1 in
    let sized = size_on files new i on.0 i n reply on.2 in
    set_links files new i on.0 sized.0 on.1 sized.1 j)
    (after_cases form files new (Op.SetAttribute i (Attribute.Size n)) reply h)

-- another file was removed
pub remove_keeps : (form : Form) (files new : Files) (i : ℕ) (reply : Reply) (j : ℕ) → j ≢ i → after form files (Remove i) reply ≡ Some new →
    links_of (file_in new j) ≡ links_of (file_in files j)
remove_keeps form files new i reply j apart h =
    ⊎_elim (λ (same : new ≡ files). same_links files new same j)
    (λ (done : (refusal_of form files (Remove i) ≡ None) × (after_done files (Remove i) reply ≡ Some new)).
    let on = at_cases files new i (file_in files i) (Remove i) reply done.1 in
    ap links_of (set_others files new i None (remove_on files new i on.0 i reply on.2) j apart))
    (after_cases form files new (Remove i) reply h)

-- an entry was written
pub entered_links : {D N : Type 0} (disk : Ghosts D N) (k m : Plain D) (from : ℕ) (write : EntryWrite) (whole : Bool) →
    HasEntered disk.image from write k m whole → (j : ℕ) →
    links_of (file_in (files_seen disk.image m) j) ≡ links_of (file_in (files_seen disk.image k) j)
entered_links disk k m from write whole entered j =
    writes_links (form_seen disk.image k) (files_seen disk.image k) (files_seen disk.image m) from (16 * write.place) write.entry entered.reply entered.answers j
