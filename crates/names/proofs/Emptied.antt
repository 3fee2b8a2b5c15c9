-- An empty directory goes from a tree with its name.
use Rattle.std.proofs.Common.{◌≡◌, ◌≢◌, ℕ, ◌-◌, ◌<◌, Bool, true, false, List, Option, Some, sym, ap, subst, ◌∙◌, arith}
use Rattle.model.specs.Files.{Files, file_in}
use Rattle.directories.specs.Counts.{AreCounted, StaysCounted}
use Rattle.directories.specs.Entries.{lookup}
use Rattle.names.specs.Removing.{MayDrop}
use Rattle.directories.specs.TreeChanges.{DropsDirectory, DropsName, Relinks}
use Rattle.directories.specs.Trees.{directory_in, links_of, number_of, IsDirectory, IsDown, IsEmpty, IsTree}
use Rattle.names.specs.Undirecting.{IsEmptinessOf}
use Rattle.directories.specs.Walks.{IsDirectoryFound}
use Rattle.directories.specs.Lemmas.CountedChanges.{counted_directory_dropped}
use Rattle.directories.specs.Lemmas.Dropping.{dropping_keeps}
use Rattle.names.proofs.Entering.{found_bytes}
use Rattle.names.proofs.Named.{directory_counts}
use Rattle.names.proofs.Relinking.{drops_relinked, relinked_links}
use Rattle.directories.specs.Lemmas.TreeBy.{directory_named_once}
use Rattle.directories.specs.Lemmas.TreeMeaning.{steps_lead}

-- the file is a directory, and whether it is empty
emptied : (files : Files) (i : ℕ) (found : Option Bool) (empty : Bool) → found ≡ Some empty → IsEmptinessOf files i found → IsEmptinessOf files i (Some empty)
emptied files i found empty is here = subst (λ (o : Option Bool). IsEmptinessOf files i o) is here

-- a name of the bytes that were found leads so
pub led_by : (files : Files) (from : ℕ) (name bytes slice : List ℕ) (found : Option (List ℕ)) (number : Option ℕ) → IsDirectoryFound files from found →
    found ≡ Some bytes → slice ≡ bytes → lookup slice name ≡ number → IsDirectory files from × (number_of files from name ≡ number)
led_by files from name bytes slice found number here is same led =
    let there = found_bytes files from found bytes is here in
    (there.0, ap (λ (l : List ℕ). lookup l name) (sym (same ∙ there.1)) ∙ led)

-- a directory that is not empty is there under the name
pub led_full : (files seen : Files) (from number i : ℕ) (name bytes slice : List ℕ) (found : Option (List ℕ)) (other : Option Bool) (empty : Bool) →
    IsDirectoryFound files from found → found ≡ Some bytes → slice ≡ bytes → lookup slice name ≡ Some number → i ≡ number → seen ≡ files →
    IsEmptinessOf seen i other → other ≡ Some empty → empty ≡ false →
    (n : ℕ) × (number_of files from name ≡ Some n) × IsDirectory files n × (IsEmpty (directory_in files n) → ⊥)
led_full files seen from number i name bytes slice found other empty here is slice_is led same saw there other_is full =
    let was = emptied files i other empty other_is (subst (λ (f : Files). IsEmptinessOf f i other) saw there) in (
      i,
      (led_by files from name bytes slice found (Some number) here is slice_is led).1 ∙ ap (λ (j : ℕ). Some j) (sym same),
      was.0,
      λ nothing. let both : false ≡ true = sym full ∙ was.1.1 nothing in cc both,
    )

-- In a transaction the directory was looked at, which left the files `a`, and the other in it, which left them `e`: nothing is in it.
module _ (files a e : Files) (from number i : ℕ) (name bytes slice again : List ℕ) (found : Option (List ℕ)) (other : Option Bool) (empty : Bool)
    (looked : a ≡ files) (here : IsDirectoryFound files from found) (found_is : found ≡ Some bytes) (down : IsDown name) (slice_is : slice ≡ bytes)
    (again_is : again ≡ bytes) (led : lookup slice name ≡ Some number) (same : i ≡ number) (saw : e ≡ a) (there : IsEmptinessOf a i other)
    (other_is : other ≡ Some empty) (is_empty : empty ≡ true) (tree : IsTree files) where
  was : IsEmptinessOf files i (Some empty)
  was = emptied files i other empty other_is (subst (λ (f : Files). IsEmptinessOf f i other) looked there)

  pub may_empty : MayDrop e from again name i
  may_empty =
      let is = led_by files from name bytes slice found (Some number) here found_is slice_is led in
      subst (λ (f : Files). MayDrop f from again name i) (sym (saw ∙ looked)) (record {
        is = is.0;
        bytes_are = again_is ∙ (found_bytes files from found bytes found_is here).1;
        down = down;
        led = is.1 ∙ ap (λ (j : ℕ). Some j) (sym same);
        once = directory_named_once files tree i was.0;
        empty = λ it. was.1.0 is_empty;
      })

  pub emptied_drops : (new : Files) → DropsName e new from name i → DropsDirectory files new from name i
  emptied_drops new drops = record { drops = subst (λ (f : Files). DropsName f new from name i) (saw ∙ looked) drops; was = was.0; empty = was.1.0 is_empty }

  -- the name and the directory were dropped, which left `x`, and the other got its count, which left `y`
  module _ (x y : Files) (links : ℕ) (dropped : DropsName e x from name i) (kept : links_of (file_in x from) ≡ links_of (file_in e from))
      (count : links ≡ links_of (file_in e from)) (counted : AreCounted files) (relinks : Relinks x y from (links - 1)) where
    is_directory : IsDirectory files from
    is_directory = (led_by files from name bytes slice found (Some number) here found_is slice_is led).0

    drops_before : DropsDirectory files x from name i
    drops_before = emptied_drops x dropped

    apart : from ≢ i
    apart same_number = (steps_lead files from i name tree down (is_directory, drops_before.drops.led)).2 (sym same_number)

    pub gone : DropsDirectory files y from name i
    gone = record {
      drops = drops_relinked files x y from i (links - 1) name apart relinks drops_before.drops;
      was = drops_before.was;
      empty = drops_before.empty;
    }

    count_was : links ≡ links_of (file_in files from)
    count_was = count ∙ ap (λ (f : Files). links_of (file_in f from)) (saw ∙ looked)

    pub gone_stays : StaysCounted files y
    gone_stays =
        let tree_new =
        (dropping_keeps files y from i name tree is_directory down (directory_named_once files tree i gone.was) (λ it. gone.empty) gone.drops).tree in
        let some : 0 < links_of (file_in files from) = directory_counts files from tree counted is_directory in
        let now : links_of (file_in y from) ≡ links - 1 = relinked_links x y from (links - 1) relinks in
        let old = count_was in
        record {
          tree = tree_new;
          counted = λ right. counted_directory_dropped files y from i name tree is_directory down gone right tree_new (omega arith);
        }
