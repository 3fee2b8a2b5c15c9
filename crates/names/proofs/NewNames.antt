-- A file gets another name, by the answers of its calls.
use Rattle.std.proofs.Common.{◌≡◌, ◌≢◌, ◌⊎◌, inr, ℕ, ◌+◌, Bool, true, false, List, [], ◌∷◌, ◌++◌, length, Option, Some, None, Result, Ok, Err, sym, ap, subst, ◌∙◌, ⊎_elim}
use Rattle.std.specs.Prelude.{IfOk}
use Rattle.std.proofs.lemmas.Result.{IfOk-weaker}
use Rattle.blocks.specs.declared.disk.Disk.{Ghosts}
use Rattle.model.specs.declared.types.image.File.{File}
use Rattle.model.specs.declared.types.operations.Reply.TheVariants.{Wrote}
use Rattle.model.specs.Files.{Files, file_in}
use Rattle.model.specs.Operations.{after, with_links}
use Rattle.calls.specs.Stepping.{Plain}
use Rattle.directories.specs.declared.entries.EntryWrite.{EntryWrite}
use Rattle.directories.specs.Counts.{StaysCounted}
use Rattle.names.specs.Inside.{files_seen, form_seen, FallsShort}
use Rattle.directories.specs.declared.refusal.Refusal.{Refusal}
use Rattle.names.specs.declared.refusal.TreeFault.{TreeFault}
use Rattle.names.specs.Linking.{IsNotLinkedAt, IsNotLinkedIn, LeadToBoth, LinksAt, LinksIn}
use Rattle.names.specs.Making.{is_entered, HasEntered}
use Rattle.names.specs.Ready.{Happens}
use Rattle.directories.specs.TreeChanges.{LeadsTo, LinksName, Relinks}
use Rattle.directories.specs.Trees.{directory_in, kind_of, links_of, number_of, IsDirectory, IsFile, IsTree}
use Rattle.directories.specs.Walks.{walked, IsDirectoryFound, LeadsIn}
use Rattle.directories.specs.Sizes.{AreSized}
use Rattle.directories.specs.Writes.{operation_of, Links, MayHold, NeedsBlock}
use Rattle.directories.specs.Lemmas.Answered.{some_by}
use Rattle.directories.specs.Lemmas.CountedChanges.{counted_linked}
use Rattle.names.proofs.Blocked.{entry_short}
use Rattle.names.proofs.Entering.{down_absent, found_bytes}
use Rattle.directories.specs.Lemmas.EntryBytes.{length-entry_bytes}
use Rattle.directories.specs.Lemmas.EntrySteps.{link_leads_there, link_needs}
use Rattle.directories.specs.Lemmas.Linked.{linked_tree}
use Rattle.names.proofs.Relinking.{changed_relinked, entered_links, relinked_numbers}
use Rattle.directories.specs.Lemmas.TreeMeaning.{directories_are_tidy}

-- In a transaction: kernel k looked at the directory and at the file, which is a then; b wrote the entry.
module _ {D N : Type 0} (disk : Ghosts D N) (k a b : Plain D) (to number short : ℕ) (name bytes slice : List ℕ) (found : Option (List ℕ)) (seen : Files)
    (write : EntryWrite) (whole : Bool) (tree : IsTree (files_seen disk.image k)) (looked : files_seen disk.image a ≡ files_seen disk.image k)
    (saw : seen ≡ files_seen disk.image k) (here : IsDirectoryFound seen to found) (found_is : found ≡ Some bytes) (slice_is : slice ≡ bytes) (same : short ≡ number)
    (links : Links slice name short write) (room : MayHold slice write.place) (entered : HasEntered disk.image to write a b whole) where
  abbrev fs : Files
  fs = files_seen disk.image k

  there : IsDirectory fs to × (bytes ≡ directory_in fs to)
  there = found_bytes fs to found bytes found_is (subst (λ (f : Files). IsDirectoryFound f to found) saw here)

  linking : Links (directory_in fs to) name number write
  linking =
      subst (λ (n : ℕ). Links (directory_in fs to) name n write) same
      (subst (λ (l : List ℕ). Links l name short write) (slice_is ∙ there.1) links)

  may_hold : MayHold (directory_in fs to) write.place
  may_hold = subst (λ (l : List ℕ). MayHold l write.place) (slice_is ∙ there.1) room

  sized : AreSized (form_seen disk.image a) fs
  sized = subst (λ (f : Files). AreSized (form_seen disk.image a) f) looked entered.sized

  either : ((entered.reply ≡ Wrote 16) × LeadsTo fs (files_seen disk.image b) to name (Some number))
      ⊎ ((entered.reply ≡ Wrote 0) × (files_seen disk.image b ≡ fs))
  either =
      link_leads_there (form_seen disk.image a) fs (files_seen disk.image b) to number name write entered.reply sized there.0 (directories_are_tidy fs to tree there.0).0 linking may_hold
      (subst (λ (f : Files). after (form_seen disk.image a) f (operation_of to write) entered.reply ≡ Some (files_seen disk.image b)) looked entered.answers)

  -- nothing was written
  pub named_not : whole ≡ false → files_seen disk.image b ≡ fs
  named_not fails =
      ⊎_elim (λ (done : (entered.reply ≡ Wrote 16) × LeadsTo fs (files_seen disk.image b) to name (Some number)).
      let both : false ≡ true = sym fails ∙ entered.told ∙ ap is_entered done.0 in absurd (cc both))
      (λ (none : (entered.reply ≡ Wrote 0) × (files_seen disk.image b ≡ fs)). none.1) either

  answered_none : whole ≡ false → entered.reply ≡ Wrote 0
  answered_none fails =
      ⊎_elim (λ (done : (entered.reply ≡ Wrote 16) × LeadsTo fs (files_seen disk.image b) to name (Some number)).
      let both : false ≡ true = sym fails ∙ entered.told ∙ ap is_entered done.0 in absurd (cc both))
      (λ (none : (entered.reply ≡ Wrote 0) × (files_seen disk.image b ≡ fs)). none.0) either

  -- no block was free for it
  pub named_short : whole ≡ false → FallsShort disk.image a b
  named_short fails =
      entry_short disk a b to write whole entered (ap length linking.entry ∙ length-entry_bytes number name linking.stored) (answered_none fails)

  -- the entry would have begun another block
  pub named_needs : whole ≡ false → IsDirectory fs to × (number_of fs to name ≡ None) × NeedsBlock (directory_in fs to)
  named_needs fails = (
    there.0,
    linking.absent,
    link_needs (form_seen disk.image a) fs (files_seen disk.image b) to number name write entered.reply sized there.0 linking may_hold
        (subst (λ (f : Files). after (form_seen disk.image a) f (operation_of to write) entered.reply ≡ Some (files_seen disk.image b)) looked entered.answers)
        (answered_none fails),
  )

  -- the entry was written, of a file that is no directory
  module _ (holds : whole ≡ true) (is_there : IsFile fs number) (plain : IsDirectory fs number → ⊥) where
    leads : LeadsTo fs (files_seen disk.image b) to name (Some number)
    leads =
        ⊎_elim (λ (done : (entered.reply ≡ Wrote 16) × LeadsTo fs (files_seen disk.image b) to name (Some number)). done.1)
        (λ (none : (entered.reply ≡ Wrote 0) × (files_seen disk.image b ≡ fs)).
        let both : true ≡ false = sym holds ∙ entered.told ∙ ap is_entered none.0 in absurd (cc both)) either

    apart : number ≢ to
    apart same_number = plain (subst (λ (i : ℕ). IsDirectory fs i) (sym same_number) there.0)

    its : (file : File) × (file_in fs number ≡ Some file)
    its = some_by (file_in fs number) is_there

    pub named_there : IsFile (files_seen disk.image b) number
    named_there none = is_there (sym (leads.rest number apart) ∙ none)

    -- and d gave the file its count
    module _ (d : Plain D) (count : ℕ) (more : count ≡ links_of (file_in fs number) + 1)
        (relinks : Relinks (files_seen disk.image b) (files_seen disk.image d) number count) where
      pub named_links : LinksName fs (files_seen disk.image d) to name number
      named_links =
          let both : Some relinks.file ≡ Some its.0 = sym relinks.was ∙ leads.rest number apart ∙ its.1 in
          let file_same : relinks.file ≡ its.0 = cc both in
          record {
            changes = changed_relinked fs (files_seen disk.image b) (files_seen disk.image d) to number count name relinks leads.changes;
            absent = linking.absent;
            leads = relinked_numbers (files_seen disk.image b) (files_seen disk.image d) number count relinks to name ∙ leads.leads;
            file = its.0;
            was = its.1;
            plain = λ kind. plain (ap kind_of its.1 ∙ kind);
            is = relinks.is ∙ ap (λ (f : File). with_links f count) file_same
                ∙ ap (λ (n : ℕ). with_links its.0 n) (more ∙ ap (λ (o : Option File). links_of o + 1) its.1);
            rest = λ j not_to not_it. relinks.rest j not_it ∙ leads.rest j not_to;
          }

      pub named_stays : StaysCounted fs (files_seen disk.image d)
      named_stays =
          let down = down_absent fs to name tree there.0 linking.absent in
          let tree_new = linked_tree fs (files_seen disk.image d) to number name tree there.0 down named_links in
          let kept =
          ap links_of (relinks.rest to (λ same_number. apart (sym same_number))) ∙ entered_links disk a b to write whole entered to
          ∙ ap (λ (f : Files). links_of (file_in f to)) looked in
          record { tree = tree_new; counted = λ counted. counted_linked fs (files_seen disk.image d) to number name counted tree_new there.0 down.0 kept named_links }

-- ---- at two paths

module _ (names into ends : List (List ℕ)) (name : List ℕ) (number to : ℕ) (files seen new : Files) (led : walked files 1 names ≡ Ok number)
    (split_to : into ≡ ends ++ name ∷ []) (led_to : walked files 1 ends ≡ Ok to) (same : seen ≡ files) where
  abbrev last : LeadsIn into files to name
  last = record { parents = ends; split = split_to; led = led_to }

  abbrev lead : LeadToBoth names into files
  lead = record { number = number; led = led; to = to; name = name; led_to = last }

  at_both : (r : Result (Unit {0}) Refusal) → Happens (LinksIn number to name) (λ f. IsNotLinkedIn f number to name) files new r →
      Happens (LinksAt names into) (IsNotLinkedAt names into) files new r
  at_both (Ok done) happens = record { lead = lead; links = happens }
  at_both (Err cause) happens = (happens.0, inr (inr (record { lead = lead; why = happens.1 })))

  pub linked_at : (r : Result (Result (Unit {0}) Refusal) TreeFault) →
      IfOk r (Happens (LinksIn number to name) (λ f. IsNotLinkedIn f number to name) seen new) → IfOk r (Happens (LinksAt names into) (IsNotLinkedAt names into) files new)
  linked_at r all =
      IfOk-weaker r (Happens (LinksIn number to name) (λ f. IsNotLinkedIn f number to name) seen new) (Happens (LinksAt names into) (IsNotLinkedAt names into) files new)
      (λ s happens. at_both s (subst (λ (f : Files). Happens (LinksIn number to name) (λ g. IsNotLinkedIn g number to name) f new s) same happens)) all
