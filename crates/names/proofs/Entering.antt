-- A file that was made gets its name, or none where no block is free.
use Rattle.std.proofs.Common.{◌≡◌, ◌⊎◌, inr, ℕ, ◌<◌, Bool, true, false, List, length, Option, Some, None, Result, Ok, sym, ap, subst, ◌∙◌, ⊎_elim, arith, ◌≢◌}
use Rattle.model.specs.declared.types.image.Form.{Form}
use Rattle.model.specs.declared.types.operations.Reply.{Reply}
use Rattle.model.specs.declared.types.operations.Reply.TheVariants.{Wrote}
use Rattle.model.specs.Files.{Files, file_in}
use Rattle.model.specs.Operations.{after}
use Rattle.directories.specs.declared.entries.EntryWrite.{EntryWrite}
use Rattle.blocks.specs.declared.disk.Disk.{Ghosts}
use Rattle.calls.specs.Stepping.{Plain}
use Rattle.directories.specs.Counts.{AreCounted, StaysCounted}
use Rattle.names.specs.Inside.{files_seen, form_seen, FallsShort}
use Rattle.names.specs.Making.{is_entered, HasCreatedNew, HasEntered, HasParentCount, IsNewFile, Settles, Uncreates}
use Rattle.directories.specs.declared.refusal.Refusal.{Refusal}
use Rattle.directories.specs.Walks.{IsDirectoryFound}
use Rattle.directories.specs.TreeChanges.{empty_file, AddsName, IsUnnamed}
use Rattle.directories.specs.Trees.{bytes_of, directory_in, kind_of, number_of, IsDirectory, IsDown, IsFile, IsTree, links_of}
use Rattle.directories.specs.Sizes.{AreSized}
use Rattle.directories.specs.Writes.{operation_of, Links, MayHold, NeedsBlock}
use Rattle.model.specs.declared.types.image.File.{File}
use Rattle.directories.specs.TreeLaws.{IsNew}
use Rattle.directories.specs.Lemmas.Adding.{adding_keeps}
use Rattle.directories.specs.Lemmas.CountedChanges.{counted_added, counted_directory_added}
use Rattle.directories.specs.Lemmas.EntryBytes.{length-entry_bytes}
use Rattle.directories.specs.Lemmas.EntrySteps.{link_needs}
use Rattle.directories.specs.Lemmas.NewDirectory.{files_are_new}
use Rattle.directories.specs.Lemmas.Sizes.{size_small}
use Rattle.names.proofs.Blocked.{entry_short}
use Rattle.names.proofs.Relinking.{adds_relinked, entered_links, relinked_links}
use Rattle.directories.specs.Lemmas.TreeBy.{directory_is_file}
use Rattle.directories.specs.Lemmas.TreeMeaning.{directories_are_tidy}
use Rattle.directories.specs.Lemmas.Unnamed.{apart_from}
use Rattle.directories.specs.Lemmas.WholeChanges.{linked_new}

-- a name that leads nowhere leads down
pub down_absent : (files : Files) (from : ℕ) (name : List ℕ) → IsTree files → IsDirectory files from → number_of files from name ≡ None → IsDown name
down_absent files from name tree is absent =
    let of = (directories_are_tidy files from tree is).1 in (
      (λ own. let both : None ≡ Some from = sym absent ∙ ap (number_of files from) own ∙ of.1.own in cc both),
      (λ up. let both : None ≡ Some of.0 = sym absent ∙ ap (number_of files from) up ∙ of.1.up in cc both),
    )

module _ (form : Form) (files made new : Files) (from number : ℕ) (name : List ℕ) (file : File) (write : EntryWrite) (reply : Reply) (whole : Bool)
    (tree : IsTree files) (is : IsDirectory files from) (fresh : IsNew file number from) (unnamed : IsUnnamed files made number file)
    (links : Links (directory_in files from) name number write) (room : MayHold (directory_in files from) write.place) (sized : AreSized form made) (h : after form made (operation_of from write) reply ≡ Some new)
    (told : whole ≡ is_entered reply) where
  either : ((reply ≡ Wrote 16) × AddsName files new from name number file) ⊎ ((reply ≡ Wrote 0) × (new ≡ made))
  either = linked_new form files made new from number name file write reply sized tree is unnamed links room h

  pub entered_adds : whole ≡ true → AddsName files new from name number file
  entered_adds holds =
      ⊎_elim (λ (done : (reply ≡ Wrote 16) × AddsName files new from name number file). done.1)
      (λ (none : (reply ≡ Wrote 0) × (new ≡ made)).
      let both : true ≡ false = sym holds ∙ told ∙ ap is_entered none.0 in absurd (cc both)) either

  pub entered_none : whole ≡ false → new ≡ made
  entered_none fails =
      ⊎_elim (λ (done : (reply ≡ Wrote 16) × AddsName files new from name number file).
      let both : false ≡ true = sym fails ∙ told ∙ ap is_entered done.0 in absurd (cc both))
      (λ (none : (reply ≡ Wrote 0) × (new ≡ made)). none.1) either

  pub entered_short : whole ≡ false → reply ≡ Wrote 0
  entered_short fails =
      ⊎_elim (λ (done : (reply ≡ Wrote 16) × AddsName files new from name number file).
      let both : false ≡ true = sym fails ∙ told ∙ ap is_entered done.0 in absurd (cc both))
      (λ (none : (reply ≡ Wrote 0) × (new ≡ made)). none.0) either

  pub entered_needs : whole ≡ false → NeedsBlock (directory_in files from)
  entered_needs fails =
      let stays : file_in made from ≡ file_in files from = unnamed.rest from (apart_from files number from unnamed.free is) in
      subst (λ (o : Option File). NeedsBlock (bytes_of o)) stays
      (link_needs form made new from number name write reply sized (ap kind_of stays ∙ is)
      (subst (λ (o : Option File). Links (bytes_of o) name number write) (sym stays) links)
      (subst (λ (o : Option File). MayHold (bytes_of o) write.place) (sym stays) room) h (entered_short fails))

-- the bytes that were found are the directory's
pub found_bytes : (files : Files) (from : ℕ) (found : Option (List ℕ)) (bytes : List ℕ) → found ≡ Some bytes → IsDirectoryFound files from found →
    IsDirectory files from × (bytes ≡ directory_in files from)
found_bytes files from found bytes is here = subst (λ (o : Option (List ℕ)). IsDirectoryFound files from o) is here

pub found_fits : (form : Form) (files : Files) (from : ℕ) (found : Option (List ℕ)) (bytes slice : List ℕ) → AreSized form files → found ≡ Some bytes →
    slice ≡ bytes → IsDirectoryFound files from found → length slice < 4294967296
found_fits form files from found bytes slice sized is same here =
    let at = found_bytes files from found bytes is here in
    subst (λ (b : List ℕ). length b < 4294967296) (sym (same ∙ at.1)) (size_small form (length (directory_in files from)) (sized from))

-- the file that was made
pub created_new : (blocks : Type 0) (file : ℕ → ℕ → File) (own parent : ℕ) (files new : Files) (made : Result ℕ Refusal) (number : ℕ) → own ≡ parent →
    made ≡ Ok number → HasCreatedNew blocks file own files new made →
    IsUnnamed files new number (file number parent) × IsNew (file number parent) number parent × (0 < number)
created_new blocks file own parent files new made number same is created =
    subst (λ (p : ℕ). HasCreatedNew blocks file p files new (Ok number)) same
    (subst (λ (r : Result ℕ Refusal). HasCreatedNew blocks file own files new r) is created)

-- an empty file that is no directory is new
pub empty_is_new : (number from : ℕ) → IsNew (empty_file 2) number from
empty_is_new number from = files_are_new.0 2 number from (λ e. absurd (omega (arith, e)))

-- In a transaction: kernel k looked at the directory, which is a then; b made the file, d wrote its entry.
module _ {D N : Type 0} (disk : Ghosts D N) (k a b d : Plain D) (from number : ℕ) (name bytes slice : List ℕ) (file : File) (found : Option (List ℕ))
    (write : EntryWrite) (whole : Bool) (tree : IsTree (files_seen disk.image k)) (looked : files_seen disk.image a ≡ files_seen disk.image k)
    (here : IsDirectoryFound (files_seen disk.image k) from found) (found_is : found ≡ Some bytes) (fresh : IsNew file number from)
    (created : IsUnnamed (files_seen disk.image a) (files_seen disk.image b) number file) (slice_is : slice ≡ bytes)
    (links : Links slice name number write) (room : MayHold slice write.place) (entered : HasEntered disk.image from write b d whole) where
  abbrev fs : Files
  fs = files_seen disk.image k

  there : IsDirectory fs from × (bytes ≡ directory_in fs from)
  there = found_bytes fs from found bytes found_is here

  named : Links (directory_in fs from) name number write
  named = subst (λ (l : List ℕ). Links l name number write) (slice_is ∙ there.1) links

  named_room : MayHold (directory_in fs from) write.place
  named_room = subst (λ (l : List ℕ). MayHold l write.place) (slice_is ∙ there.1) room

  made_unnamed : IsUnnamed fs (files_seen disk.image b) number file
  made_unnamed = subst (λ (f : Files). IsUnnamed f (files_seen disk.image b) number file) looked created

  pub made_adds : whole ≡ true → AddsName fs (files_seen disk.image d) from name number file
  made_adds holds =
      entered_adds (form_seen disk.image b) fs (files_seen disk.image b) (files_seen disk.image d) from number name file write entered.reply whole tree there.0
      fresh made_unnamed named named_room entered.sized entered.answers entered.told holds

  pub made_there : whole ≡ true → IsFile (files_seen disk.image d) from
  made_there holds = directory_is_file (files_seen disk.image d) from (made_adds holds).changes.directory

  -- the directory has as many links as before
  made_links : links_of (file_in (files_seen disk.image d) from) ≡ links_of (file_in fs from)
  made_links =
      entered_links disk b d from write whole entered from
      ∙ ap links_of (made_unnamed.rest from (apart_from fs number from made_unnamed.free there.0))

  -- and e gave the directory its count
  module _ (e : Plain D) (is_directory : Bool) (count : Option ℕ) (told : Result (Option ℕ) Refusal) (told_is : told ≡ Ok count)
      (counts : HasParentCount is_directory fs from told) (new : IsNewFile is_directory file number from)
      (settles : Settles (files_seen disk.image d) (files_seen disk.image e) from count) (holds : whole ≡ true) where
    has_count : HasParentCount is_directory fs from (Ok count)
    has_count = subst (λ (r : Result (Option ℕ) Refusal). HasParentCount is_directory fs from r) told_is counts

    down : IsDown name
    down = down_absent fs from name tree there.0 named.absent

    apart : from ≢ number
    apart = apart_from fs number from made_unnamed.free there.0

    settled : (o : Option ℕ) → Settles (files_seen disk.image d) (files_seen disk.image e) from o →
        AddsName fs (files_seen disk.image e) from name number file
    settled None same = subst (λ (f : Files). AddsName fs f from name number file) (sym same) (made_adds holds)
    settled (Some n) relinks =
        adds_relinked fs (files_seen disk.image d) (files_seen disk.image e) from number n name file apart relinks (made_adds holds)

    pub settled_adds : AddsName fs (files_seen disk.image e) from name number file
    settled_adds = settled count settles

    settled_tree : IsTree (files_seen disk.image e)
    settled_tree = (adding_keeps fs (files_seen disk.image e) from number name file tree there.0 down fresh settled_adds).tree

    counted_of : (b : Bool) (o : Option ℕ) → HasParentCount b fs from (Ok o) → IsNewFile b file number from →
        Settles (files_seen disk.image d) (files_seen disk.image e) from o → AreCounted fs → AreCounted (files_seen disk.image e)
    counted_of true None told new same counted = absurd (cc told)
    counted_of true (Some n) more new relinks counted =
        counted_directory_added fs (files_seen disk.image e) from number name there.0 down.0
        (subst (λ (f : File). IsNew f number from) new fresh)
        (subst (λ (f : File). AddsName fs (files_seen disk.image e) from name number f) new settled_adds) counted settled_tree
        (relinked_links (files_seen disk.image d) (files_seen disk.image e) from n relinks ∙ more.1)
    counted_of false None told new same counted =
        counted_added fs (files_seen disk.image e) from number name file counted settled_tree there.0 down.0 new.0 new.1
        (ap (λ (f : Files). links_of (file_in f from)) same ∙ made_links) settled_adds
    counted_of false (Some n) more new relinks counted = absurd (cc (more.0))

    pub settled_stays : StaysCounted fs (files_seen disk.image e)
    settled_stays = record { tree = settled_tree; counted = counted_of is_directory count has_count new settles }

  -- and where nothing was written, the file is removed again
  pub made_undone : (u : Plain D) (i : ℕ) → i ≡ number → whole ≡ false → Uncreates i (files_seen disk.image d) (files_seen disk.image u) →
      files_seen disk.image u ≡ fs
  made_undone u i same fails undoes =
      let none : files_seen disk.image d ≡ files_seen disk.image b
      = entered_none (form_seen disk.image b) fs (files_seen disk.image b) (files_seen disk.image d) from number name file write entered.reply whole tree there.0
      fresh made_unnamed named named_room entered.sized entered.answers entered.told fails in
      undoes fs file
      (subst (λ (j : ℕ). IsUnnamed fs (files_seen disk.image d) j file) (sym same)
      (subst (λ (f : Files). IsUnnamed fs f number file) (sym none) made_unnamed))

  -- the entry would have begun another block
  pub made_needs : (blocks : Type 0) → whole ≡ false →
      IsDirectory fs from × (number_of fs from name ≡ None) × (blocks ⊎ NeedsBlock (directory_in fs from))
  made_needs blocks fails = (
    there.0,
    named.absent,
    inr (entered_needs (form_seen disk.image b) fs (files_seen disk.image b) (files_seen disk.image d) from number name file write entered.reply whole tree
        there.0 fresh made_unnamed named named_room entered.sized entered.answers entered.told fails),
  )

  -- no block was free for it
  pub made_short : whole ≡ false → FallsShort disk.image b d
  made_short fails =
      entry_short disk b d from write whole entered (ap length named.entry ∙ length-entry_bytes number name named.stored)
      (entered_short (form_seen disk.image b) fs (files_seen disk.image b) (files_seen disk.image d) from number name file write entered.reply whole tree
      there.0 fresh made_unnamed named named_room entered.sized entered.answers entered.told fails)
