-- A file of a tree gets another name, by the answers of its calls.
use Rattle.std.proofs.Common.{◌≡◌, ◌≢◌, ℕ, ◌<◌, Bool, true, List, [], ◌∷◌, ◌++◌, length, get_or, Option, Some, None, Result, Ok, Err, refl, sym, ap, subst, ◌∙◌, inl, inr, ⊎_elim, arith}
use Rattle.std.specs.Prelude.{IfErr, IfOk, IsSome}
use Rattle.std.proofs.lemmas.Result.{IfOk-weaker}
use Rattle.std.proofs.lemmas.Bool.{both_ways, cases_eq, eq-eqb, eqb-true}
use Rattle.blocks.specs.declared.disk.Disk.{Ghosts}
use Rattle.model.specs.declared.types.operations.Reply.{Reply}
use Rattle.model.specs.declared.types.operations.Reply.TheVariants.{Wrote}
use Rattle.model.specs.Files.{Files, file_in}
use Rattle.model.specs.Layout.{form_of}
use Rattle.model.specs.Operations.{after}
use Rattle.calls.specs.Stepping.{Plain}
use Rattle.directories.specs.declared.entries.EntryWrite.{EntryWrite}
use Rattle.directories.specs.declared.entries.LinkFault.{LinkFault}
use Rattle.directories.specs.declared.entries.LinkFault.TheVariants.{Exists, Full}
use Rattle.directories.specs.Entries.{entries_of, is_for, lookup, number_in, place_of}
use Rattle.directories.specs.Counts.{StaysCounted}
use Rattle.names.specs.Inside.{files_seen, form_seen}
use Rattle.names.specs.Making.{is_entered, HasEntered}
use Rattle.directories.specs.declared.refusal.Refusal.{Refusal}
use Rattle.names.specs.declared.refusal.TreeFault.{TreeFault}
use Rattle.names.specs.declared.refusal.TreeFault.TheVariants.{Path, Refused, Call, NoSpace, NoCall}
use Rattle.names.specs.Ready.{Happens, IsUndone}
use Rattle.names.specs.Renaming.{IsUndoneAt, IsUndoneAtBoth, IsUnrenamed, LeadBoth, Renames, RenamesAt}
use Rattle.directories.specs.Sizes.{AreSized}
use Rattle.directories.specs.TreeChanges.{LeadsTo, MovesName}
use Rattle.directories.specs.Trees.{directory_in, links_of, number_of, IsDirectory, IsDown, IsTidy, IsTree}
use Rattle.directories.specs.Walks.{walked, IsDirectoryFound, LeadsIn}
use Rattle.directories.specs.Writes.{free_place, operation_of, written, IsLinkCause, Links, Unlinks}
use Rattle.directories.specs.Lemmas.Changes.{lookup_absent}
use Rattle.directories.specs.Lemmas.CountedChanges.{counted_moved}
use Rattle.names.proofs.Entering.{down_absent, found_bytes}
use Rattle.directories.specs.Lemmas.EntryBytes.{is_for-free}
use Rattle.directories.specs.Lemmas.EntrySteps.{freed_room, unlink_leads_nowhere, unlink_size}
use Rattle.directories.specs.Lemmas.FileMaps.{writes}
use Rattle.directories.specs.Lemmas.Sizes.{after_sized, size_small}
use Rattle.names.proofs.Relinking.{entered_links}
use Rattle.directories.specs.Lemmas.Standing.{lookup_at, stands_at}
use Rattle.directories.specs.Lemmas.TreeMeaning.{directories_are_tidy}
use Rattle.directories.specs.Lemmas.WholeChanges.{renames_file_whole}

-- ---- numbers

used_entry : (name entry : List ℕ) (n : ℕ) → is_for name entry ≡ true → number_in entry ≡ n → 0 < n
used_entry name entry n good is =
    ⊎_elim (λ (none : n ≡ 0). absurd (both_ways (is_for name entry) (is_for-free name entry (eq-eqb (number_in entry) 0 (is ∙ none))) good))
    (λ (some : n ≢ 0). omega arith) (cases_eq n 0)

used_at : (bytes name : List ℕ) (o : Option ℕ) (n : ℕ) → place_of bytes name ≡ o → lookup bytes name ≡ Some n → 0 < n
used_at bytes name None n is led = let both : None ≡ Some n = sym (lookup_absent bytes name is) ∙ led in absurd (cc both)
used_at bytes name (Some k) n is led =
    let stands = stands_at (is_for name) (entries_of bytes) k is in
    let at : Some (number_in (get_or (entries_of bytes) k [])) ≡ Some n = sym (lookup_at bytes name k stands) ∙ led in
    let one : number_in (get_or (entries_of bytes) k []) ≡ n = cc at in
    used_entry name (get_or (entries_of bytes) k []) n stands.passes one

-- a name leads to a number that is not 0
pub lookup_used : (bytes name : List ℕ) (n : ℕ) → lookup bytes name ≡ Some n → 0 < n
lookup_used bytes name n led = used_at bytes name (place_of bytes name) n refl led

-- ---- replies

-- a whole entry was written
pub whole_entry : (reply : Reply) → is_entered reply ≡ true → reply ≡ Wrote 16
whole_entry (Wrote count) h = ap (λ (n : ℕ). Wrote n) (eqb-true count 16 h)
whole_entry reply h = absurd (cc h)

-- a link that has no cause is not refused
pub not_refused : (bytes name : List ℕ) (r : Result EntryWrite LinkFault) → IfErr r (IsLinkCause bytes name) → ((cause : LinkFault) → IsLinkCause bytes name cause → ⊥) →
    ((write : EntryWrite) → r ≡ Ok write → ⊥) → ⊥
not_refused bytes name (Ok write) refused none not = not write refl
not_refused bytes name (Err cause) refused none not = none cause refused

tidy_in : (files : Files) (from : ℕ) → IsTree files → IsDirectory files from → IsTidy (directory_in files from)
tidy_in files from tree is = (directories_are_tidy files from tree is).0

-- ---- in one directory

-- In a transaction: kernel k looked at the directory, which is a then; b freed the entry of a name.
module _ {D N : Type 0} (disk : Ghosts D N) (k a b : Plain D) (from i : ℕ) (old bytes slice again : List ℕ) (found : Option (List ℕ)) (free : EntryWrite) (whole : Bool)
    (tree : IsTree (files_seen disk.image k)) (looked : files_seen disk.image a ≡ files_seen disk.image k) (here : IsDirectoryFound (files_seen disk.image k) from found)
    (found_is : found ≡ Some bytes) (slice_is : slice ≡ bytes) (led : lookup slice old ≡ Some i) (again_is : again ≡ bytes) (unlinks : Unlinks again old free)
    (entered : HasEntered disk.image from free a b whole) where
  abbrev fs : Files
  fs = files_seen disk.image k

  there : IsDirectory fs from × (bytes ≡ directory_in fs from)
  there = found_bytes fs from found bytes found_is here

  frees : Unlinks (directory_in fs from) old free
  frees = subst (λ (l : List ℕ). Unlinks l old free) (again_is ∙ there.1) unlinks

  old_led : number_of fs from old ≡ Some i
  old_led = ap (λ (l : List ℕ). lookup l old) (sym (slice_is ∙ there.1)) ∙ led

  freeing : after (form_seen disk.image a) fs (operation_of from free) entered.reply ≡ Some (files_seen disk.image b)
  freeing = subst (λ (f : Files). after (form_seen disk.image a) f (operation_of from free) entered.reply ≡ Some (files_seen disk.image b)) looked entered.answers

  sized : AreSized (form_seen disk.image a) fs
  sized = subst (λ (f : Files). AreSized (form_seen disk.image a) f) looked entered.sized

  nowhere : (entered.reply ≡ Wrote 16) × LeadsTo fs (files_seen disk.image b) from old None
  nowhere =
      unlink_leads_nowhere (form_seen disk.image a) fs (files_seen disk.image b) from old free entered.reply sized there.0 (tidy_in fs from tree there.0) frees freeing

  pub freed_directory : IsDirectory (files_seen disk.image b) from
  freed_directory = nowhere.1.changes.directory

  pub freed_tidy : IsTidy (directory_in (files_seen disk.image b) from)
  freed_tidy = nowhere.1.changes.tidy

  freed_bytes : directory_in (files_seen disk.image b) from ≡ written (directory_in fs from) free
  freed_bytes =
      (writes (form_seen disk.image a) fs (files_seen disk.image b) from free (unlink_size (directory_in fs from) old free frees)
      (subst (λ (r : Reply). after (form_seen disk.image a) fs (operation_of from free) r ≡ Some (files_seen disk.image b)) nowhere.0 freeing)).bytes

  -- a name that led nowhere can be linked then
  module _ (name second : List ℕ) (second_is : second ≡ bytes) (absent : lookup second name ≡ None) where
    name_absent : number_of fs from name ≡ None
    name_absent = ap (λ (l : List ℕ). lookup l name) (sym (second_is ∙ there.1)) ∙ absent

    apart : name ≢ old
    apart same = let both : None ≡ Some i = sym name_absent ∙ ap (number_of fs from) same ∙ old_led in cc both

    no_cause : (cause : LinkFault) → IsLinkCause (directory_in (files_seen disk.image b) from) name cause → ⊥
    no_cause Exists some =
        let none : IsSome {T = ℕ} None = subst (λ (o : Option ℕ). IsSome o) (nowhere.1.changes.others name apart ∙ name_absent) some in absurd (cc none)
    no_cause Full full =
        let room = freed_room (directory_in fs from) (directory_in (files_seen disk.image b) from) old free frees freed_bytes in
        let past : free_place (directory_in (files_seen disk.image b) from) ≡ length (entries_of (directory_in (files_seen disk.image b) from)) = full.1.1 in
        omega arith

    -- it was read again, in c
    module _ (c : Plain D) (read third : List ℕ) (saw : files_seen disk.image c ≡ files_seen disk.image b) (read_is : read ≡ directory_in (files_seen disk.image b) from)
        (third_is : third ≡ read) where
      pub freed_fits : length third < 4294967296
      freed_fits =
          subst (λ (l : List ℕ). length l < 4294967296) (sym (third_is ∙ read_is))
          (size_small (form_seen disk.image a) (length (directory_in (files_seen disk.image b) from))
          (after_sized (form_seen disk.image a) fs (files_seen disk.image b) (operation_of from free) entered.reply sized freeing from))

      pub freed_links : (r : Result EntryWrite LinkFault) → IfErr r (IsLinkCause third name) → ((write : EntryWrite) → r ≡ Ok write → ⊥) → ⊥
      freed_links r refused not =
          not_refused third name r refused (λ cause why. no_cause cause (subst (λ (l : List ℕ). IsLinkCause l name cause) (third_is ∙ read_is) why)) not

      -- and d linked the name
      module _ (d : Plain D) (down : IsDown old) (write : EntryWrite) (all : Bool) (links : Links third name i write) (linked : HasEntered disk.image from write c d all)
          (opening : c.opening ≡ a.opening) where
        renamed_links : (j : ℕ) → links_of (file_in (files_seen disk.image d) j) ≡ links_of (file_in fs j)
        renamed_links j =
            entered_links disk c d from write all linked j ∙ ap (λ (f : Files). links_of (file_in f j)) saw ∙ entered_links disk a b from free whole entered j
            ∙ ap (λ (f : Files). links_of (file_in f j)) looked

        both : MovesName fs (files_seen disk.image d) from old from name i × StaysCounted fs (files_seen disk.image d)
        both =
            let first : after (form_seen disk.image a) (files_seen disk.image c) (operation_of from write) linked.reply ≡ Some (files_seen disk.image d) =
            subst (λ (o : D). after (form_of (disk.image o)) (files_seen disk.image c) (operation_of from write) linked.reply ≡ Some (files_seen disk.image d)) opening linked.answers in
            let whole = renames_file_whole (form_seen disk.image a) fs (files_seen disk.image b) (files_seen disk.image d) from i old name free write entered.reply linked.reply
            sized tree there.0 down (down_absent fs from name tree there.0 name_absent) old_led name_absent frees freeing
            (subst (λ (l : List ℕ). Links l name i write) (third_is ∙ read_is) links)
            (subst (λ (f : Files). after (form_seen disk.image a) f (operation_of from write) linked.reply ≡ Some (files_seen disk.image d)) saw first) in (
              whole.2,
              record {
                tree = whole.3.tree;
                counted = λ counted.
                    counted_moved fs (files_seen disk.image d) from from i old name counted there.0 there.0 down.0
                    (down_absent fs from name tree there.0 name_absent).0 renamed_links whole.2;
              },
            )

        pub renamed_whole : Renames from old from name tt fs (files_seen disk.image d) × StaysCounted fs (files_seen disk.image d)
        renamed_whole = ((i, inl (both.0, λ is. refl)), both.1)

-- ---- at two paths

module _ (names into parents ends : List (List ℕ)) (old name : List ℕ) (from to : ℕ) (files seen new : Files) (split : names ≡ parents ++ old ∷ [])
    (led : walked files 1 parents ≡ Ok from) (split_to : into ≡ ends ++ name ∷ []) (led_to : walked files 1 ends ≡ Ok to) (same : seen ≡ files) where
  abbrev first : LeadsIn names files from old
  first = record { parents = parents; split = split; led = led }

  abbrev second : LeadsIn into files to name
  second = record { parents = ends; split = split_to; led = led_to }

  abbrev leads : LeadBoth names into files
  leads = record { from = from; old = old; led = first; to = to; name = name; led_to = second }

  at_both : (r : Result (Unit {0}) Refusal) → Happens (Renames from old to name) (λ f. IsUnrenamed f from old to name) files new r →
      Happens (RenamesAt names into) (IsUndoneAt names into) files new r
  at_both (Ok done) happens = record { lead = leads; renames = happens }
  at_both (Err cause) happens = (happens.0, inr (inr (record { lead = leads; why = happens.1 })))

  pub renamed_at : (r : Result (Result (Unit {0}) Refusal) TreeFault) →
      IfOk r (Happens (Renames from old to name) (λ f. IsUnrenamed f from old to name) seen new) → IfOk r (Happens (RenamesAt names into) (IsUndoneAt names into) files new)
  renamed_at r all =
      IfOk-weaker r (Happens (Renames from old to name) (λ f. IsUnrenamed f from old to name) seen new) (Happens (RenamesAt names into) (IsUndoneAt names into) files new)
      (λ s happens. at_both s (subst (λ (f : Files). Happens (Renames from old to name) (λ g. IsUnrenamed g from old to name) f new s) same happens)) all

module _ {D N : Type 0} (disk : Ghosts D N) (path into : List ℕ) where
  both_by : (why : Files → Refusal → Type 0) (k m : Plain D) (cause : TreeFault) → IsUndone disk path why k m cause → IsUndoneAtBoth disk path into why k m cause
  both_by why k m (Path cause) undone = (undone.0, inl undone.1)
  both_by why k m (Refused cause) undone = undone
  both_by why k m (Call cause) undone = undone
  both_by why k m NoSpace undone = undone
  both_by why k m NoCall undone = undone

  undone_by : {T : Type 0} (why : Files → Refusal → Type 0) (k m : Plain D) (r : Result T TreeFault) → IfErr r (IsUndone disk path why k m) →
      IfErr r (IsUndoneAtBoth disk path into why k m)
  undone_by why k m (Ok done) undone = tt
  undone_by why k m (Err cause) undone = both_by why k m cause undone

  -- why it was not done, where the second path has these names
  pub undone_both : {T : Type 0} (why : List (List ℕ) → Files → Refusal → Type 0) (ends found : List (List ℕ)) (k m : Plain D) (r : Result T TreeFault) →
      found ≡ ends → IfErr r (IsUndone disk path (why found) k m) → IfErr r (IsUndoneAtBoth disk path into (why ends) k m)
  undone_both why ends found k m r is undone =
      undone_by (why ends) k m r (subst (λ (e : List (List ℕ)). IfErr r (IsUndone disk path (why e) k m)) is undone)
