-- A file goes from a tree with its name.
use Rattle.std.proofs.Common.{◌≡◌, ◌≢◌, ◌<◌, ℕ, Bool, List, length, Option, Some, None, refl, sym, ap, subst, ◌∙◌, ⊎_elim, ◌+◌, ◌≤◌, arith}
use Rattle.std.proofs.lemmas.Bool.{cases_eq}
use Rattle.blocks.specs.declared.disk.Disk.{Ghosts}
use Rattle.model.specs.declared.types.image.File.{File}
use Rattle.model.specs.declared.types.image.Form.{Form}
use Rattle.model.specs.declared.types.operations.Op.TheVariants.{Remove}
use Rattle.model.specs.declared.types.operations.Reply.{Reply}
use Rattle.model.specs.Files.{Files, file_in}
use Rattle.model.specs.Layout.{form_of}
use Rattle.model.specs.Operations.{after, with_links}
use Rattle.calls.specs.Stepping.{Plain}
use Rattle.directories.specs.declared.entries.EntryWrite.{EntryWrite}
use Rattle.directories.specs.Counts.{AreCounted, IsNameOf, StaysCounted}
use Rattle.directories.specs.Entries.{lookup}
use Rattle.names.specs.Inside.{files_seen, form_seen, Answers}
use Rattle.names.specs.Making.{HasEntered}
use Rattle.names.specs.Removing.{MayDrop, MayLose}
use Rattle.directories.specs.TreeChanges.{DropsName, LeadsTo, Relinks, UnlinksName}
use Rattle.directories.specs.Sizes.{AreSized}
use Rattle.directories.specs.Trees.{directory_in, number_of, parent_name, HasOtherName, IsDirectory, IsDown, IsFile, IsTree, kind_of, links_of, IsNamedOnce, StepsDown}
use Rattle.directories.specs.Walks.{IsDirectoryFound}
use Rattle.directories.specs.Writes.{Unlinks}
use Rattle.directories.specs.Lemmas.Answered.{some_by}
use Rattle.directories.specs.Lemmas.Below.{parents_decide}
use Rattle.directories.specs.Lemmas.CountedChanges.{counted_dropped, counted_unlinked}
use Rattle.directories.specs.Lemmas.Dropping.{dropping_keeps}
use Rattle.names.proofs.Entering.{found_bytes}
use Rattle.directories.specs.Lemmas.Sizes.{size_small}
use Rattle.directories.specs.Lemmas.TreeMeaning.{directories_are_tidy, steps_lead}
use Rattle.directories.specs.Lemmas.EntrySteps.{unlink_leads_nowhere}
use Rattle.directories.specs.Lemmas.Linked.{unlinked_tree}
use Rattle.names.proofs.Named.{once_counted, other_counted}
use Rattle.directories.specs.Lemmas.Places.{count_some}
use Rattle.names.proofs.Relinking.{changed_relinked, entered_links, relinked_numbers, remove_keeps}
use Rattle.directories.specs.Lemmas.Unnamed.{some_ne_none}
use Rattle.directories.specs.Lemmas.WholeChanges.{removes_file_whole}

-- the file is no directory
pub none_found : (files : Files) (i : ℕ) (found : Option (List ℕ)) → ((bytes : List ℕ) → found ≡ Some bytes → ⊥) → IsDirectoryFound files i found →
    IsDirectory files i → ⊥
none_found files i None not here = here
none_found files i (Some bytes) not here = absurd (not bytes refl)

-- the parent of a directory is one
parent_is : (files : Files) (from parent : ℕ) → IsTree files → IsDirectory files from → number_of files from parent_name ≡ Some parent → IsDirectory files parent
parent_is files from parent tree is up =
    ⊎_elim
    (λ (e : from ≡ 1).
    let both : Some 1 ≡ Some parent = sym tree.top.up ∙ ap (λ (i : ℕ). number_of files i parent_name) (sym e) ∙ up in
    let one : 1 ≡ parent = cc both in subst (λ (i : ℕ). IsDirectory files i) one tree.rooted)
    (λ (ne : from ≢ 1). (parents_decide files 1 from parent tree is ne up).2) (cases_eq from 1)

-- a name that leads to no directory leads down
pub down_file : (files : Files) (from number : ℕ) (name : List ℕ) → IsTree files → IsDirectory files from → number_of files from name ≡ Some number →
    (IsDirectory files number → ⊥) → IsDown name
down_file files from number name tree is led plain =
    let of = (directories_are_tidy files from tree is).1 in (
      (λ own. let both : Some number ≡ Some from = sym led ∙ ap (number_of files from) own ∙ of.1.own in
          let same : number ≡ from = cc both in plain (subst (λ (i : ℕ). IsDirectory files i) (sym same) is)),
      (λ up. plain (parent_is files from number tree is (ap (number_of files from) (sym up) ∙ led))),
    )

-- In a transaction: over kernel k the name was unlinked, b, and its file removed, d.
pub unlinked_drops : {D N : Type 0} (disk : Ghosts D N) (k b d : Plain D) (from i : ℕ) (bytes name : List ℕ) (write : EntryWrite) (whole : Bool)
    (reply : Reply) → IsTree (files_seen disk.image k) → MayDrop (files_seen disk.image k) from bytes name i → Unlinks bytes name write →
    HasEntered disk.image from write k b whole → b.opening ≡ k.opening → Answers disk.image (Remove i) b d reply →
    DropsName (files_seen disk.image k) (files_seen disk.image d) from name i
unlinked_drops {D} disk k b d from i bytes name write whole reply tree may unlinks entered opening answers =
    let fs : Files = files_seen disk.image k in
    let form : Form = form_seen disk.image k in
    let second : after form (files_seen disk.image b) (Remove i) reply ≡ Some (files_seen disk.image d) =
    subst (λ (o : D). after (form_of (disk.image o)) (files_seen disk.image b) (Remove i) reply ≡ Some (files_seen disk.image d)) opening answers in
    (removes_file_whole form fs (files_seen disk.image b) (files_seen disk.image d) from i name write entered.reply reply entered.sized tree may.is may.down may.led may.once may.empty
    (subst (λ (l : List ℕ). Unlinks l name write) may.bytes_are unlinks) entered.answers second).2

-- and the directory's count is as it was
pub dropped_links : {D N : Type 0} (disk : Ghosts D N) (k b d : Plain D) (from i : ℕ) (bytes name : List ℕ) (write : EntryWrite) (whole : Bool)
    (reply : Reply) → IsTree (files_seen disk.image k) → MayDrop (files_seen disk.image k) from bytes name i →
    HasEntered disk.image from write k b whole → Answers disk.image (Remove i) b d reply →
    links_of (file_in (files_seen disk.image d) from) ≡ links_of (file_in (files_seen disk.image k) from)
dropped_links disk k b d from i bytes name write whole reply tree may entered answers =
    let apart : from ≢ i = λ same. (steps_lead (files_seen disk.image k) from i name tree may.down (may.is, may.led)).2 (sym same) in
    remove_keeps (form_seen disk.image b) (files_seen disk.image b) (files_seen disk.image d) i reply from apart answers
    ∙ entered_links disk k b from write whole entered from

-- a file dropped with its only name leaves a tree
pub dropped_stays : (files new : Files) (from i : ℕ) (name : List ℕ) → IsTree files → IsDirectory files from → IsDown name → IsNamedOnce files i →
    (IsDirectory files i → ⊥) → links_of (file_in new from) ≡ links_of (file_in files from) → DropsName files new from name i → StaysCounted files new
dropped_stays files new from i name tree is down once plain links drops =
    let tree_new = (dropping_keeps files new from i name tree is down once (λ it. absurd (plain it)) drops).tree in
    record { tree = tree_new; counted = λ counted. counted_dropped files new from i name counted tree_new is down.0 plain links drops }

-- the directory and the file were looked at, and the file is there
pub file_led : (files a d : Files) (from number i : ℕ) (name bytes slice : List ℕ) (found other : Option (List ℕ)) → IsTree files → a ≡ files →
    IsDirectoryFound files from found → found ≡ Some bytes → slice ≡ bytes → lookup slice name ≡ Some number → i ≡ number → d ≡ a →
    IsDirectoryFound a i other → ((x : List ℕ) → other ≡ Some x → ⊥) → IsFile d i
file_led files a d from number i name bytes slice found other tree looked here found_is slice_is led same saw there none =
    let is = found_bytes files from found bytes found_is here in
    let leads : number_of files from name ≡ Some i =
    ap (λ (l : List ℕ). lookup l name) (sym (slice_is ∙ is.1)) ∙ led ∙ ap (λ (j : ℕ). Some j) (sym same) in
    let plain = none_found files i other none (subst (λ (f : Files). IsDirectoryFound f i other) looked there) in
    let down = down_file files from i name tree is.0 leads plain in
    subst (λ (f : Files). IsFile f i) (sym (saw ∙ looked)) (steps_lead files from i name tree down (is.0, leads)).0

-- In a transaction the directory was looked at, which left the files `a`, the file that a name of it leads to, which left them `d`: it is no directory; and its
-- count, which left them `e`.
module _ (files a d e : Files) (from number i links : ℕ) (name bytes slice again : List ℕ) (found other : Option (List ℕ)) (tree : IsTree files)
    (counted : AreCounted files) (looked : a ≡ files) (here : IsDirectoryFound files from found) (found_is : found ≡ Some bytes) (slice_is : slice ≡ bytes)
    (again_is : again ≡ bytes) (led : lookup slice name ≡ Some number) (same : i ≡ number) (saw : d ≡ a) (there : IsDirectoryFound a i other)
    (none : (x : List ℕ) → other ≡ Some x → ⊥) (same_still : e ≡ d) (count : links ≡ links_of (file_in d i)) where
  is_directory : IsDirectory files from × (bytes ≡ directory_in files from)
  is_directory = found_bytes files from found bytes found_is here

  leads : number_of files from name ≡ Some i
  leads = ap (λ (l : List ℕ). lookup l name) (sym (slice_is ∙ is_directory.1)) ∙ led ∙ ap (λ (j : ℕ). Some j) (sym same)

  pub plain_there : IsDirectory files i → ⊥
  plain_there = none_found files i other none (subst (λ (f : Files). IsDirectoryFound f i other) looked there)

  pub down_there : IsDown name
  down_there = down_file files from i name tree is_directory.0 leads plain_there

  step_there : StepsDown files from name i
  step_there = (down_there, (is_directory.0, leads))

  counted_there : links ≡ links_of (file_in files i)
  counted_there = count ∙ ap (λ (f : Files). links_of (file_in f i)) (saw ∙ looked)

  still : e ≡ files
  still = same_still ∙ saw ∙ looked

  -- it has that name alone
  pub once_there : links ≤ 1 → IsNamedOnce files i
  once_there low =
      let some : 0 < links_of (file_in files i) = count_some (IsNameOf files i) (from, name) (links_of (file_in files i)) (down_there.0, step_there.1) (counted i) in
      let few = counted_there in once_counted files i counted (omega arith)

  pub may_drop : links ≤ 1 → MayDrop e from again name i
  may_drop low =
      subst (λ (f : Files). MayDrop f from again name i) (sym still) (record {
        is = is_directory.0;
        bytes_are = again_is ∙ is_directory.1;
        down = down_there;
        led = leads;
        once = once_there low;
        empty = λ it. absurd (plain_there it);
      })

  -- or another one, too
  pub other_there : 1 < links → HasOtherName files from name i
  other_there more = let many = counted_there in other_counted files from i name tree counted plain_there step_there (omega arith)

  pub may_lose : (left : ℕ) → left + 1 ≡ links → 1 < links → MayLose e from again name i left
  may_lose left less more =
      subst (λ (f : Files). MayLose f from again name i left) (sym still) (record {
        is = is_directory.0;
        bytes_are = again_is ∙ is_directory.1;
        down = down_there;
        led = leads;
        other = other_there more;
        plain = plain_there;
        less = less ∙ counted_there;
      })

  pub is_there : IsDirectory files from
  is_there = is_directory.0

-- In a transaction: over kernel k the name was unlinked, b.
module _ {D N : Type 0} (disk : Ghosts D N) (k b : Plain D) (from i left : ℕ) (bytes name : List ℕ) (write : EntryWrite) (whole : Bool)
    (tree : IsTree (files_seen disk.image k)) (may : MayLose (files_seen disk.image k) from bytes name i left) (unlinks : Unlinks bytes name write)
    (entered : HasEntered disk.image from write k b whole) where
  abbrev fs : Files
  fs = files_seen disk.image k

  freed : LeadsTo fs (files_seen disk.image b) from name None
  freed =
      (unlink_leads_nowhere (form_seen disk.image k) fs (files_seen disk.image b) from name write entered.reply entered.sized may.is (directories_are_tidy fs from tree may.is).0
      (subst (λ (l : List ℕ). Unlinks l name write) may.bytes_are unlinks) entered.answers).1

  apart : i ≢ from
  apart = (steps_lead fs from i name tree may.down (may.is, may.led)).2

  its : (file : File) × (file_in fs i ≡ Some file)
  its = some_by (file_in fs i) (steps_lead fs from i name tree may.down (may.is, may.led)).0

  pub unnamed_there : IsFile (files_seen disk.image b) i
  unnamed_there none = some_ne_none its.0 (sym its.1 ∙ sym (freed.rest i apart) ∙ none)

  -- and its file got its count, d
  module _ (d : Plain D) (relinks : Relinks (files_seen disk.image b) (files_seen disk.image d) i left) where
    pub unnamed_loses : UnlinksName fs (files_seen disk.image d) from name i
    unnamed_loses =
        let both : Some relinks.file ≡ Some its.0 = sym relinks.was ∙ freed.rest i apart ∙ its.1 in
        let same : relinks.file ≡ its.0 = cc both in
        record {
          changes = changed_relinked fs (files_seen disk.image b) (files_seen disk.image d) from i left name relinks freed.changes;
          led = may.led;
          gone = relinked_numbers (files_seen disk.image b) (files_seen disk.image d) i left relinks from name ∙ freed.leads;
          file = its.0;
          was = its.1;
          plain = λ kind. may.plain (ap kind_of its.1 ∙ kind);
          left = left;
          less = may.less ∙ ap links_of its.1;
          is = relinks.is ∙ ap (λ (f : File). with_links f left) same;
          rest = λ j not_from not_it. relinks.rest j not_it ∙ freed.rest j not_from;
        }

    pub unnamed_stays : StaysCounted fs (files_seen disk.image d)
    unnamed_stays =
        let tree_new = unlinked_tree fs (files_seen disk.image d) from i name tree may.is may.down may.other unnamed_loses in
        let links = ap links_of (relinks.rest from (λ same. apart (sym same))) ∙ entered_links disk k b from write whole entered from in
        record { tree = tree_new; counted = λ counted. counted_unlinked fs (files_seen disk.image d) from i name counted tree_new may.is may.down.0 links unnamed_loses }

-- four bytes hold the length of a directory
pub drop_fits : (form : Form) (files : Files) (from i : ℕ) (bytes name : List ℕ) → AreSized form files → MayDrop files from bytes name i → length bytes < 4294967296
drop_fits form files from i bytes name sized may =
    subst (λ (b : List ℕ). length b < 4294967296) (sym may.bytes_are) (size_small form (length (directory_in files from)) (sized from))

pub lose_fits : (form : Form) (files : Files) (from i left : ℕ) (bytes name : List ℕ) → AreSized form files → MayLose files from bytes name i left →
    length bytes < 4294967296
lose_fits form files from i left bytes name sized may =
    subst (λ (b : List ℕ). length b < 4294967296) (sym may.bytes_are) (size_small form (length (directory_in files from)) (sized from))

pub lose_leads : (files : Files) (from i left : ℕ) (bytes name : List ℕ) → MayLose files from bytes name i left → lookup bytes name ≡ None → ⊥
lose_leads files from i left bytes name may none = let both = sym none ∙ ap (λ (l : List ℕ). lookup l name) may.bytes_are ∙ may.led in cc both

-- and the name has an entry
pub drop_leads : (files : Files) (from i : ℕ) (bytes name : List ℕ) → MayDrop files from bytes name i → lookup bytes name ≡ None → ⊥
drop_leads files from i bytes name may none = let both = sym none ∙ ap (λ (l : List ℕ). lookup l name) may.bytes_are ∙ may.led in cc both
