-- Each file's count is right behind a change where it was right before.
use Rattle.std.proofs.Common.{◌≡◌, ◌≢◌, inl, inr, ℕ, ◌+◌, ◌-◌, ◌<◌, List, Option, Some, None, refl, sym, ap, ap₂, subst, ◌∙◌, ⊎_elim, arith}
use Rattle.std.specs.Str.{bytes_eq}
use Rattle.std.proofs.lemmas.Bool.{both_ways, cases_eq}
use Rattle.std.proofs.lemmas.Slice.Eq.{bytes_eq-Decides}
use Rattle.model.specs.declared.types.image.File.{File}
use Rattle.model.specs.Files.{Files, file_in}
use Rattle.directories.specs.Counts.{AreCounted, HasNames, IsNameOf, Place}
use Rattle.directories.specs.Entries.{lookup}
use Rattle.directories.specs.Trees.{bytes_of, directory_in, kind_of, links_of, number_of, parent_name, self_name, IsDirectory, IsDirectoryOf, IsDown, IsFile, IsTree, Steps}
use Rattle.directories.specs.TreeChanges.{directory_file, AddsDirectory, AddsName, ChangesName, DropsDirectory, DropsName, KeepsNames, LinksName, MovesDirectory, MovesName, UnlinksName}
use Rattle.directories.specs.TreeLaws.{IsNew}
use Rattle.directories.specs.Lemmas.Adding.{same_name, step_same}
use Rattle.directories.specs.Lemmas.Counting.{gains, gains_not, loses, loses_not, Appears, HasBy, Lead, Vanishes}
use Rattle.directories.specs.Lemmas.Dropping.{no_kind}
use Rattle.directories.specs.Lemmas.Moves.{other_kinds, other_leads}
use Rattle.directories.specs.Lemmas.Moving.{same_entry, IsOther}
use Rattle.directories.specs.Lemmas.NewDirectory.{new_is_empty}
use Rattle.directories.specs.Lemmas.Places.{count_more, count_none, count_same, count_some}
use Rattle.directories.specs.Lemmas.TreeBy.{depth_in, directory_is_file, tree_makes_steps}
use Rattle.directories.specs.Lemmas.TreeMeaning.{directory_by, steps_lead}
use Rattle.directories.specs.Lemmas.Unnamed.{apart_from}

-- ---- what no file is

one_target : (files : Files) (at m number : ℕ) (name : List ℕ) → Steps files at name m → number_of files at name ≡ Some number → m ≡ number
one_target files at m number name step led = let both : Some m ≡ Some number = sym step.1 ∙ led in cc both

no_target : (files : Files) (at m : ℕ) (name : List ℕ) → number_of files at name ≡ None → Steps files at name m → ⊥
no_target files at m name none step = let both : Some m ≡ None = sym step.1 ∙ none in absurd (cc both)

-- what a name leads to in a tree is a file
target_is_file : (files : Files) (at m : ℕ) (name : List ℕ) → IsTree files → name ≢ self_name → Steps files at name m → IsFile files m
target_is_file files at m name tree counts step =
    ⊎_elim
    (λ (up : name ≡ parent_name).
    let of = directory_by files (depth_in files tree) at (tree_makes_steps files tree) step.0 in
    let both : Some m ≡ Some of.0 = sym step.1 ∙ ap (number_of files at) up ∙ of.1.up in
    let same : m ≡ of.0 = cc both in
    subst (λ (k : ℕ). IsFile files k) (sym same) (directory_is_file files of.0 of.2))
    (λ (down : name ≢ parent_name). (steps_lead files at m name tree (counts, down) step).0)
    (same_name name parent_name)

free_has_none : (files : Files) (m : ℕ) → IsTree files → file_in files m ≡ None → HasNames files m 0
free_has_none files m tree free =
    count_none (IsNameOf files m) (λ p is. target_is_file files p.0 m p.1 tree is.0 is.1 free)

at_file : (files : Files) (m : ℕ) (o : Option File) → file_in files m ≡ o → IsTree files → (IsFile files m → HasNames files m (links_of (file_in files m))) →
    HasNames files m (links_of (file_in files m))
at_file files m None is tree all = subst (λ (o : Option File). HasNames files m (links_of o)) (sym is) (free_has_none files m tree is)
at_file files m (Some file) is tree all = all (λ none. let both : Some file ≡ None = sym is ∙ none in absurd (cc both))

-- it is enough to see it of files
pub counted_by : (files : Files) → IsTree files → ((m : ℕ) → IsFile files m → HasNames files m (links_of (file_in files m))) → AreCounted files
counted_by files tree all m = at_file files m (file_in files m) refl tree (all m)

as_many : (files new : Files) (m n : ℕ) → n ≡ links_of (file_in new m) → HasNames new m n → HasNames new m (links_of (file_in new m))
as_many files new m n same has = subst (λ (k : ℕ). HasNames new m k) same has

-- the counts of the others are as before
same_links : (files new : Files) (from number m : ℕ) → links_of (file_in new from) ≡ links_of (file_in files from) →
    ((i : ℕ) → i ≢ from → i ≢ number → file_in new i ≡ file_in files i) → m ≢ number → links_of (file_in files m) ≡ links_of (file_in new m)
same_links files new from number m links rest differ =
    ⊎_elim
    (λ (in_from : m ≡ from).
    ap (λ (k : ℕ). links_of (file_in files k)) in_from ∙ sym links ∙ ap (λ (k : ℕ). links_of (file_in new k)) (sym in_from))
    (λ (elsewhere : m ≢ from). ap links_of (sym (rest m elsewhere differ)))
    (cases_eq m from)

pub parent_counts : parent_name ≢ self_name
parent_counts e = both_ways (bytes_eq parent_name self_name) refl ((bytes_eq-Decides parent_name self_name).1 e)

not_itself : (at : ℕ) (name : List ℕ) → IsOther at name at name → ⊥
not_itself at name other = ⊎_elim (λ (d : at ≢ at). d refl) (λ (d : name ≢ name). d refl) other

another_name : (i from : ℕ) (other name : List ℕ) → i ≡ from → IsOther i other from name → other ≢ name
another_name i from other name same apart =
    ⊎_elim (λ (elsewhere : i ≢ from). absurd (elsewhere same)) (λ (another : other ≢ name). another) apart

-- ---- a directory of which one name was changed

changed_on : (files new : Files) (from : ℕ) (name : List ℕ) → ChangesName files new from name →
    (i m : ℕ) (other : List ℕ) → i ≡ from → IsOther i other from name → Steps files i other m → Steps new i other m
changed_on files new from name changes i m other same apart step =
    let led : number_of files from other ≡ Some m = ap (λ (k : ℕ). number_of files k other) (sym same) ∙ step.1 in (
      ap (λ (k : ℕ). kind_of (file_in new k)) same ∙ changes.directory,
      ap (λ (k : ℕ). number_of new k other) same ∙ changes.others other (another_name i from other name same apart) ∙ led,
    )

changed_back : (files new : Files) (from : ℕ) (name : List ℕ) → IsDirectory files from → ChangesName files new from name →
    (i m : ℕ) (other : List ℕ) → i ≡ from → IsOther i other from name → Steps new i other m → Steps files i other m
changed_back files new from name is changes i m other same apart step =
    let led : number_of new from other ≡ Some m = ap (λ (k : ℕ). number_of new k other) (sym same) ∙ step.1 in (
      ap (λ (k : ℕ). kind_of (file_in files k)) same ∙ is,
      ap (λ (k : ℕ). number_of files k other) same ∙ sym (changes.others other (another_name i from other name same apart)) ∙ led,
    )

-- the same of all directories, where the file of a number has no names that count but one
spread_on : (files new : Files) (from number : ℕ) (name : List ℕ) → ChangesName files new from name →
    ((i : ℕ) → i ≢ from → i ≢ number → file_in new i ≡ file_in files i) →
    (i m : ℕ) (other : List ℕ) → i ≢ number → IsOther i other from name → Steps files i other m → Steps new i other m
spread_on files new from number name changes rest i m other differ apart step =
    ⊎_elim (λ (in_from : i ≡ from). changed_on files new from name changes i m other in_from apart step)
    (λ (elsewhere : i ≢ from). step_same files new i m other (rest i elsewhere differ) step) (cases_eq i from)

spread_back : (files new : Files) (from number : ℕ) (name : List ℕ) → IsDirectory files from → ChangesName files new from name →
    ((i : ℕ) → i ≢ from → i ≢ number → file_in new i ≡ file_in files i) →
    (i m : ℕ) (other : List ℕ) → i ≢ number → IsOther i other from name → Steps new i other m → Steps files i other m
spread_back files new from number name is changes rest i m other differ apart step =
    ⊎_elim (λ (in_from : i ≡ from). changed_back files new from name is changes i m other in_from apart step)
    (λ (elsewhere : i ≢ from). step_same new files i m other (sym (rest i elsewhere differ)) step) (cases_eq i from)

-- no name leads from a file that is no directory
plain_leads_not : (files : Files) (i number m : ℕ) (other : List ℕ) (file : File) → file_in files number ≡ Some file → file.kind ≢ 1 →
    i ≡ number → Steps files i other m → ⊥
plain_leads_not files i number m other file is plain same step =
    plain (sym (ap (λ (k : ℕ). kind_of (file_in files k)) same ∙ ap kind_of is) ∙ step.0)

free_leads_not : (files : Files) (i number m : ℕ) (other : List ℕ) → file_in files number ≡ None → i ≡ number → Steps files i other m → ⊥
free_leads_not files i number m other free same step = no_kind files i (ap (file_in files) same ∙ free) step.0

-- ---- a file added

adds_appears : (files new : Files) (from number : ℕ) (name : List ℕ) (file : File) → IsDirectory files from → name ≢ self_name → file.kind ≢ 1 →
    AddsName files new from name number file → Appears (Steps files) (Steps new) from name number
adds_appears files new from number name file is counts plain adds = record {
  keeps = record {
    on = λ i m other count apart step.
        spread_on files new from number name adds.changes adds.rest i m other (λ same. free_leads_not files i number m other adds.free same step) apart step;
    back = λ i m other count apart step.
        spread_back files new from number name is adds.changes adds.rest i m other
        (λ same. plain_leads_not new i number m other file adds.there plain same step) apart step;
  };
  counts = counts;
  none = λ m step. no_target files from m name adds.absent step;
  leads = (adds.changes.directory, adds.leads);
  only = λ m step. one_target new from m number name step adds.leads;
}

pub counted_added : (files new : Files) (from number : ℕ) (name : List ℕ) (file : File) → AreCounted files → IsTree new → IsDirectory files from →
    name ≢ self_name → file.kind ≢ 1 → file.links ≡ 1 → links_of (file_in new from) ≡ links_of (file_in files from) →
    AddsName files new from name number file → AreCounted new
counted_added files new from number name file counted tree is counts plain one links adds =
    let appears = adds_appears files new from number name file is counts plain adds in
    counted_by new tree
    (λ m there.
    ⊎_elim
    (λ (same : m ≡ number).
    let zero : links_of (file_in files m) ≡ 0 = ap (λ (k : ℕ). links_of (file_in files k)) same ∙ ap links_of adds.free in
    let now : links_of (file_in new m) ≡ file.links = ap (λ (k : ℕ). links_of (file_in new k)) same ∙ ap links_of adds.there in
    as_many files new m (links_of (file_in files m) + 1) (omega arith)
    (gains (Steps files) (Steps new) from number name appears m (links_of (file_in files m)) same (counted m)))
    (λ (differ : m ≢ number).
    as_many files new m (links_of (file_in files m)) (same_links files new from number m links adds.rest differ)
    (gains_not (Steps files) (Steps new) from number name appears m (links_of (file_in files m)) differ (counted m)))
    (cases_eq m number))

-- ---- a directory added: its name for its parent counts, too

-- the names but one, of those that lead from somewhere
abbrev But : Lead → ℕ → List ℕ → Lead
But S at name = λ i other m. S i other m × IsOther i other at name

module _ (files new : Files) (from number : ℕ) (name : List ℕ) (is : IsDirectory files from) (counts : name ≢ self_name)
    (fresh : IsNew (directory_file number from) number from) (adds : AddsDirectory files new from name number) where
  apart : from ≢ number
  apart = apart_from files number from adds.free is

  bytes_now : (other : List ℕ) → number_of new number other ≡ lookup (directory_file number from).bytes other
  bytes_now other = ap (λ (o : Option File). lookup (bytes_of o) other) adds.there

  down_leads_not : (i m : ℕ) (other : List ℕ) → other ≢ self_name → IsOther i other number parent_name → i ≡ number → Steps new i other m → ⊥
  down_leads_not i m other count but same step =
      let down : IsDown other = (count, another_name i number other parent_name same but) in
      no_target new number m other (bytes_now other ∙ (fresh refl).1 other down)
      (subst (λ (k : ℕ). Steps new k other m) same step)

  directory_named : Appears (Steps files) (But (Steps new) number parent_name) from name number
  directory_named = record {
    keeps = record {
      on = λ i m other count other_name step.
          let differ : i ≢ number = λ same. free_leads_not files i number m other adds.free same step in
          (spread_on files new from number name adds.changes adds.rest i m other differ other_name step, inl differ);
      back = λ i m other count other_name step.
          spread_back files new from number name is adds.changes adds.rest i m other
          (λ same. down_leads_not i m other count step.1 same step.0) other_name step.0;
    };
    counts = counts;
    none = λ m step. no_target files from m name adds.absent step;
    leads = ((adds.changes.directory, adds.leads), inl apart);
    only = λ m step. one_target new from m number name step.0 adds.leads;
  }

  parent_led : number_of new number parent_name ≡ Some from
  parent_led = bytes_now parent_name ∙ (fresh refl).0.up

  parent_named : Appears (But (Steps new) number parent_name) (Steps new) number parent_name from
  parent_named = record {
    keeps = record { on = λ i m other count apart step. step.0; back = λ i m other count apart step. (step, apart) };
    counts = parent_counts;
    none = λ m step. not_itself number parent_name step.1;
    leads = (ap kind_of adds.there, parent_led);
    only = λ m step. one_target new number m from parent_name step parent_led;
  }

  pub counted_directory_added : AreCounted files → IsTree new → links_of (file_in new from) ≡ links_of (file_in files from) + 1 → AreCounted new
  counted_directory_added counted tree links =
      let Mid : Lead = But (Steps new) number parent_name in
      counted_by new tree
      (λ m there.
      ⊎_elim
      (λ (same : m ≡ number).
      let zero : links_of (file_in files m) ≡ 0 = ap (λ (k : ℕ). links_of (file_in files k)) same ∙ ap links_of adds.free in
      let now : links_of (file_in new m) ≡ 1 = ap (λ (k : ℕ). links_of (file_in new k)) same ∙ ap links_of adds.there in
      as_many files new m (links_of (file_in files m) + 1) (omega arith)
      (gains_not Mid (Steps new) number from parent_name parent_named m (links_of (file_in files m) + 1) (λ e. apart (sym e ∙ same))
      (gains (Steps files) Mid from number name directory_named m (links_of (file_in files m)) same (counted m))))
      (λ (differ : m ≢ number).
      let named = gains_not (Steps files) Mid from number name directory_named m (links_of (file_in files m)) differ (counted m) in
      ⊎_elim
      (λ (in_from : m ≡ from).
      let was : links_of (file_in files m) ≡ links_of (file_in files from) = ap (λ (k : ℕ). links_of (file_in files k)) in_from in
      let now : links_of (file_in new m) ≡ links_of (file_in new from) = ap (λ (k : ℕ). links_of (file_in new k)) in_from in
      as_many files new m (links_of (file_in files m) + 1) (omega arith)
      (gains Mid (Steps new) number from parent_name parent_named m (links_of (file_in files m)) in_from named))
      (λ (elsewhere : m ≢ from).
      as_many files new m (links_of (file_in files m)) (ap links_of (sym (adds.rest m elsewhere differ)))
      (gains_not Mid (Steps new) number from parent_name parent_named m (links_of (file_in files m)) elsewhere named))
      (cases_eq m from))
      (cases_eq m number))

-- ---- a file dropped with its name

pub counted_dropped : (files new : Files) (from number : ℕ) (name : List ℕ) → AreCounted files → IsTree new → IsDirectory files from → name ≢ self_name →
    (IsDirectory files number → ⊥) → links_of (file_in new from) ≡ links_of (file_in files from) → DropsName files new from name number → AreCounted new
counted_dropped files new from number name counted tree is counts plain links drops =
    let not_there : (i m : ℕ) (other : List ℕ) → Steps files i other m → i ≢ number =
    λ i m other step same. plain (subst (λ (k : ℕ). IsDirectory files k) same step.0) in
    let vanishes : Vanishes (Steps files) (Steps new) from name number = record {
      keeps = record {
        on = λ i m other count apart step.
            spread_on files new from number name drops.changes drops.rest i m other (not_there i m other step) apart step;
        back = λ i m other count apart step.
            spread_back files new from number name is drops.changes drops.rest i m other
            (λ same. free_leads_not new i number m other drops.free same step) apart step;
      };
      counts = counts;
      led = (is, drops.led);
      only = λ m step. one_target files from m number name step drops.led;
      none = λ m step. no_target new from m name drops.gone step;
    } in
    counted_by new tree
    (λ m there.
    let differ : m ≢ number = λ same. there (ap (file_in new) same ∙ drops.free) in
    as_many files new m (links_of (file_in files m)) (same_links files new from number m links drops.rest differ)
    (loses_not (Steps files) (Steps new) from number name vanishes m (links_of (file_in files m)) differ (counted m)))

-- a directory has the name for its parent, too
module _ (files new : Files) (from number : ℕ) (name : List ℕ) (tree : IsTree files) (is : IsDirectory files from) (down : IsDown name)
    (dropped : DropsDirectory files new from name number) where
  drops_it : DropsName files new from name number
  drops_it = dropped.drops

  of_parent : IsDirectoryOf (directory_in files number) number from
  of_parent = tree.below from number name down (is, drops_it.led) dropped.was

  from_apart : from ≢ number
  from_apart same = (steps_lead files from number name tree down (is, drops_it.led)).2 (sym same)

  empty_leads_not : (i m : ℕ) (other : List ℕ) → other ≢ self_name → IsOther i other number parent_name → i ≡ number → Steps files i other m → ⊥
  empty_leads_not i m other count but same step =
      no_target files number m other (dropped.empty other (count, another_name i number other parent_name same but))
      (subst (λ (k : ℕ). Steps files k other m) same step)

  parent_lost : Vanishes (Steps files) (But (Steps files) number parent_name) number parent_name from
  parent_lost = record {
    keeps = record { on = λ i m other count apart step. (step, apart); back = λ i m other count apart step. step.0 };
    counts = parent_counts;
    led = (dropped.was, of_parent.up);
    only = λ m step. one_target files number m from parent_name step of_parent.up;
    none = λ m step. not_itself number parent_name step.1;
  }

  name_lost : Vanishes (But (Steps files) number parent_name) (Steps new) from name number
  name_lost = record {
    keeps = record {
      on = λ i m other count apart step.
          spread_on files new from number name drops_it.changes drops_it.rest i m other
          (λ same. empty_leads_not i m other count step.1 same step.0) apart step.0;
      back = λ i m other count apart step.
          let differ : i ≢ number = λ same. free_leads_not new i number m other drops_it.free same step in
          (spread_back files new from number name is drops_it.changes drops_it.rest i m other differ apart step, inl differ);
    };
    counts = down.0;
    led = ((is, drops_it.led), inl from_apart);
    only = λ m step. one_target files from m number name step.0 drops_it.led;
    none = λ m step. no_target new from m name drops_it.gone step;
  }

  pub counted_directory_dropped : AreCounted files → IsTree new → links_of (file_in files from) ≡ links_of (file_in new from) + 1 → AreCounted new
  counted_directory_dropped counted tree_new links =
      let Mid : Lead = But (Steps files) number parent_name in
      counted_by new tree_new
      (λ m there.
      let differ : m ≢ number = λ same. there (ap (file_in new) same ∙ drops_it.free) in
      ⊎_elim
      (λ (in_from : m ≡ from).
      let was : links_of (file_in files m) ≡ links_of (file_in files from) = ap (λ (k : ℕ). links_of (file_in files k)) in_from in
      let now : links_of (file_in new m) ≡ links_of (file_in new from) = ap (λ (k : ℕ). links_of (file_in new k)) in_from in
      as_many files new m (links_of (file_in new m)) refl
      (loses_not Mid (Steps new) from number name name_lost m (links_of (file_in new m)) differ
      (loses (Steps files) Mid number from parent_name parent_lost m (links_of (file_in files m)) (links_of (file_in new m)) in_from (omega arith) (counted m))))
      (λ (elsewhere : m ≢ from).
      as_many files new m (links_of (file_in files m)) (ap links_of (sym (drops_it.rest m elsewhere differ)))
      (loses_not Mid (Steps new) from number name name_lost m (links_of (file_in files m)) differ
      (loses_not (Steps files) Mid number from parent_name parent_lost m (links_of (file_in files m)) elsewhere (counted m))))
      (cases_eq m from))

  -- the directory counts
  pub parent_is_counted : AreCounted files → 0 < links_of (file_in files from)
  parent_is_counted counted =
      count_some (IsNameOf files from) (number, parent_name) (links_of (file_in files from)) (parent_counts, (dropped.was, of_parent.up)) (counted from)

-- ---- one name more, or one less

pub links_appears : (files new : Files) (from number : ℕ) (name : List ℕ) → IsDirectory files from → name ≢ self_name → LinksName files new from name number →
    Appears (Steps files) (Steps new) from name number
links_appears files new from number name is counts linked =
    let file : File = linked.file in
    record {
      keeps = record {
        on = λ i m other count apart step.
            spread_on files new from number name linked.changes linked.rest i m other
            (λ same. plain_leads_not files i number m other file linked.was linked.plain same step) apart step;
        back = λ i m other count apart step.
            spread_back files new from number name is linked.changes linked.rest i m other
            (λ same. plain_leads_not new i number m other (record file { links = file.links + 1 }) linked.is linked.plain same step) apart step;
      };
      counts = counts;
      none = λ m step. no_target files from m name linked.absent step;
      leads = (linked.changes.directory, linked.leads);
      only = λ m step. one_target new from m number name step linked.leads;
    }

pub unlinks_vanishes : (files new : Files) (from number : ℕ) (name : List ℕ) → IsDirectory files from → name ≢ self_name → UnlinksName files new from name number →
    Vanishes (Steps files) (Steps new) from name number
unlinks_vanishes files new from number name is counts unlinked =
    let file : File = unlinked.file in
    record {
      keeps = record {
        on = λ i m other count apart step.
            spread_on files new from number name unlinked.changes unlinked.rest i m other
            (λ same. plain_leads_not files i number m other file unlinked.was unlinked.plain same step) apart step;
        back = λ i m other count apart step.
            spread_back files new from number name is unlinked.changes unlinked.rest i m other
            (λ same. plain_leads_not new i number m other (record file { links = unlinked.left }) unlinked.is unlinked.plain same step) apart step;
      };
      counts = counts;
      led = (is, unlinked.led);
      only = λ m step. one_target files from m number name step unlinked.led;
      none = λ m step. no_target new from m name unlinked.gone step;
    }

pub counted_linked : (files new : Files) (from number : ℕ) (name : List ℕ) → AreCounted files → IsTree new → IsDirectory files from → name ≢ self_name →
    links_of (file_in new from) ≡ links_of (file_in files from) → LinksName files new from name number → AreCounted new
counted_linked files new from number name counted tree is counts links linked =
    let file : File = linked.file in
    let appears = links_appears files new from number name is counts linked in
    counted_by new tree
    (λ m there.
    ⊎_elim
    (λ (same : m ≡ number).
    let was : links_of (file_in files m) ≡ file.links = ap (λ (k : ℕ). links_of (file_in files k)) same ∙ ap links_of linked.was in
    let now : links_of (file_in new m) ≡ file.links + 1 = ap (λ (k : ℕ). links_of (file_in new k)) same ∙ ap links_of linked.is in
    as_many files new m (links_of (file_in files m) + 1) (omega arith)
    (gains (Steps files) (Steps new) from number name appears m (links_of (file_in files m)) same (counted m)))
    (λ (differ : m ≢ number).
    as_many files new m (links_of (file_in files m)) (same_links files new from number m links linked.rest differ)
    (gains_not (Steps files) (Steps new) from number name appears m (links_of (file_in files m)) differ (counted m)))
    (cases_eq m number))

pub counted_unlinked : (files new : Files) (from number : ℕ) (name : List ℕ) → AreCounted files → IsTree new → IsDirectory files from → name ≢ self_name →
    links_of (file_in new from) ≡ links_of (file_in files from) → UnlinksName files new from name number → AreCounted new
counted_unlinked files new from number name counted tree is counts links unlinked =
    let file : File = unlinked.file in
    let vanishes = unlinks_vanishes files new from number name is counts unlinked in
    counted_by new tree
    (λ m there.
    ⊎_elim
    (λ (same : m ≡ number).
    let was : links_of (file_in files m) ≡ file.links = ap (λ (k : ℕ). links_of (file_in files k)) same ∙ ap links_of unlinked.was in
    let now : links_of (file_in new m) ≡ unlinked.left = ap (λ (k : ℕ). links_of (file_in new k)) same ∙ ap links_of unlinked.is in
    let less = unlinked.less in
    as_many files new m (links_of (file_in new m)) refl
    (loses (Steps files) (Steps new) from number name vanishes m (links_of (file_in files m)) (links_of (file_in new m)) same (omega arith) (counted m)))
    (λ (differ : m ≢ number).
    as_many files new m (links_of (file_in files m)) (same_links files new from number m links unlinked.rest differ)
    (loses_not (Steps files) (Steps new) from number name vanishes m (links_of (file_in files m)) differ (counted m)))
    (cases_eq m number))

-- ---- another name

-- as many names lead to each number
pub moved_names : (files new : Files) (from to number : ℕ) (old name : List ℕ) → IsDirectory files from → IsDirectory files to → old ≢ self_name →
    name ≢ self_name → MovesName files new from old to name number → (m n : ℕ) → HasNames files m n → HasNames new m n
moved_names files new from to number old name is is_to old_counts counts moves m n has =
    let Mid : Lead = But (Steps files) from old in
    let lost : Vanishes (Steps files) Mid from old number = record {
      keeps = record { on = λ i k other count apart step. (step, apart); back = λ i k other count apart step. step.0 };
      counts = old_counts;
      led = (is, moves.led);
      only = λ k step. one_target files from k number old step moves.led;
      none = λ k step. not_itself from old step.1;
    } in
    let gained : Appears Mid (Steps new) to name number = record {
      keeps = record {
        on = λ i k other count apart step. (moves.kinds i ∙ step.0.0, moves.others i other step.1 apart ∙ step.0.1);
        back = λ i k other count apart step.
            let not_old : IsOther i other from old =
            ⊎_elim
            (λ (here : (i ≡ from) × (other ≡ old)).
            absurd (no_target new from k old moves.gone
            (subst (λ (o : List ℕ). Steps new from o k) here.1 (subst (λ (j : ℕ). Steps new j other k) here.0 step))))
            (λ (o : IsOther i other from old). o) (same_entry i from other old) in
            ((sym (moves.kinds i) ∙ step.0, sym (moves.others i other not_old apart) ∙ step.1), not_old);
      };
      counts = counts;
      none = λ k step. no_target files to k name moves.absent step.0;
      leads = (moves.kinds to ∙ is_to, moves.leads);
      only = λ k step. one_target new to k number name step moves.leads;
    } in
    ⊎_elim
    (λ (same : m ≡ number).
    let some : 0 < n = count_some (IsNameOf files m) (from, old) n
    (old_counts, (is, moves.led ∙ ap (λ (k : ℕ). Some k) (sym same))) has in
    let again : HasNames new m (n - 1 + 1) =
    gains Mid (Steps new) to number name gained m (n - 1) same
    (loses (Steps files) Mid from number old lost m n (n - 1) same (omega arith) has) in
    let e : n - 1 + 1 ≡ n = omega arith in
    subst (λ (k : ℕ). HasNames new m k) e again)
    (λ (differ : m ≢ number).
    gains_not Mid (Steps new) to number name gained m n differ (loses_not (Steps files) Mid from number old lost m n differ has))
    (cases_eq m number)

pub counted_moved : (files new : Files) (from to number : ℕ) (old name : List ℕ) → AreCounted files → IsDirectory files from → IsDirectory files to →
    old ≢ self_name → name ≢ self_name → ((i : ℕ) → links_of (file_in new i) ≡ links_of (file_in files i)) →
    MovesName files new from old to name number → AreCounted new
counted_moved files new from to number old name counted is is_to old_counts counts links moves m =
    as_many files new m (links_of (file_in files m)) (sym (links m))
    (moved_names files new from to number old name is is_to old_counts counts moves m (links_of (file_in files m)) (counted m))

-- a directory's name for its parent leads to another one
module _ (files new : Files) (from to number : ℕ) (old name : List ℕ) (tree : IsTree files) (is : IsDirectory files from) (is_to : IsDirectory files to)
    (apart : from ≢ to) (directory : IsDirectory files number) (old_down : IsDown old) (down : IsDown name)
    (moves : MovesDirectory files new from old to name number) where
  abbrev mid : Files
  mid = moves.mid

  was_parent : number_of mid number parent_name ≡ Some from
  was_parent =
      moves.moves.others number parent_name (inr (λ same. old_down.1 (sym same))) (inr (λ same. down.1 (sym same)))
      ∙ (tree.below from number old old_down (is, moves.moves.led) directory).up

  mid_is : IsDirectory mid number
  mid_is = moves.moves.kinds number ∙ directory

  parent_gone : Vanishes (Steps mid) (But (Steps mid) number parent_name) number parent_name from
  parent_gone = record {
    keeps = record { on = λ i m other count other_name step. (step, other_name); back = λ i m other count other_name step. step.0 };
    counts = parent_counts;
    led = (mid_is, was_parent);
    only = λ m step. one_target mid number m from parent_name step was_parent;
    none = λ m step. not_itself number parent_name step.1;
  }

  parent_new : Appears (But (Steps mid) number parent_name) (Steps new) number parent_name to
  parent_new = record {
    keeps = record {
      on = λ i m other count other_name step. (
        other_kinds mid new number parent_name (Some to) mid_is moves.up i ∙ step.0.0,
        other_leads mid new number parent_name (Some to) moves.up i other other_name ∙ step.0.1,
      );
      back = λ i m other count other_name step. (
        (
          sym (other_kinds mid new number parent_name (Some to) mid_is moves.up i) ∙ step.0,
          sym (other_leads mid new number parent_name (Some to) moves.up i other other_name) ∙ step.1,
        ),
        other_name,
      );
    };
    counts = parent_counts;
    none = λ m step. not_itself number parent_name step.1;
    leads = (moves.up.changes.directory, moves.up.leads);
    only = λ m step. one_target new number m to parent_name step moves.up.leads;
  }

  pub counted_directory_moved : AreCounted files → links_of (file_in files from) ≡ links_of (file_in new from) + 1 →
      links_of (file_in new to) ≡ links_of (file_in files to) + 1 →
      ((i : ℕ) → i ≢ from → i ≢ to → links_of (file_in new i) ≡ links_of (file_in files i)) → AreCounted new
  counted_directory_moved counted less more links m =
      let Mid : Lead = But (Steps mid) number parent_name in
      let n : ℕ = links_of (file_in files m) in
      let moved : HasNames mid m n = moved_names files mid from to number old name is is_to old_down.0 down.0 moves.moves m n (counted m) in
      ⊎_elim
      (λ (in_from : m ≡ from).
      let was : links_of (file_in files m) ≡ links_of (file_in files from) = ap (λ (k : ℕ). links_of (file_in files k)) in_from in
      let now : links_of (file_in new m) ≡ links_of (file_in new from) = ap (λ (k : ℕ). links_of (file_in new k)) in_from in
      gains_not Mid (Steps new) number to parent_name parent_new m (links_of (file_in new m)) (λ same. apart (sym in_from ∙ same))
      (loses (Steps mid) Mid number from parent_name parent_gone m n (links_of (file_in new m)) in_from (omega arith) moved))
      (λ (not_from : m ≢ from).
      let less_not : HasBy Mid m n = loses_not (Steps mid) Mid number from parent_name parent_gone m n not_from moved in
      ⊎_elim
      (λ (in_to : m ≡ to).
      let was : links_of (file_in files m) ≡ links_of (file_in files to) = ap (λ (k : ℕ). links_of (file_in files k)) in_to in
      let now : links_of (file_in new m) ≡ links_of (file_in new to) = ap (λ (k : ℕ). links_of (file_in new k)) in_to in
      as_many files new m (n + 1) (omega arith) (gains Mid (Steps new) number to parent_name parent_new m n in_to less_not))
      (λ (not_to : m ≢ to).
      as_many files new m n (sym (links m not_from not_to)) (gains_not Mid (Steps new) number to parent_name parent_new m n not_to less_not))
      (cases_eq m to))
      (cases_eq m from)

-- ---- files that are no directories

pub kept_names : (files new : Files) → KeepsNames files new → (m n : ℕ) → HasNames files m n → HasNames new m n
kept_names files new keeps m n has =
    count_same (IsNameOf files m) (IsNameOf new m) n
    (λ p is. (is.0, step_same files new p.0 m p.1 (keeps.directories p.0 is.1.0) is.1))
    (λ p is.
    let was : IsDirectory files p.0 = sym (keeps.kinds p.0) ∙ is.1.0 in
    (is.0, step_same new files p.0 m p.1 (sym (keeps.directories p.0 was)) is.1)) has

pub counted_kept : (files new : Files) → AreCounted files → ((i : ℕ) → links_of (file_in new i) ≡ links_of (file_in files i)) → KeepsNames files new →
    AreCounted new
counted_kept files new counted links keeps m =
    as_many files new m (links_of (file_in files m)) (sym (links m)) (kept_names files new keeps m (links_of (file_in files m)) (counted m))

-- ---- the root alone

place_same : (p : Place) (at : ℕ) (name : List ℕ) → p.0 ≡ at → p.1 ≡ name → (at, name) ≡ p
place_same p at name same named = ap₂ (λ (a : ℕ) (n : List ℕ). (a, n)) (sym same) (sym named)

root_named : (files : Files) → file_in files 1 ≡ Some (directory_file 1 1) → ((i : ℕ) → i ≢ 1 → file_in files i ≡ None) →
    (m : ℕ) (p : Place) → IsNameOf files m p → ((1, parent_name) ≡ p) × (m ≡ 1)
root_named files there none m p is =
    let fresh = new_is_empty 1 1 (omega arith) (omega arith) (omega arith) (omega arith) in
    let bytes : (other : List ℕ) → number_of files 1 other ≡ lookup (directory_file 1 1).bytes other =
    λ other. ap (λ (o : Option File). lookup (bytes_of o) other) there in
    ⊎_elim
    (λ (in_root : p.0 ≡ 1).
    let step : Steps files 1 p.1 m = subst (λ (k : ℕ). Steps files k p.1 m) in_root is.1 in
    ⊎_elim
    (λ (up : p.1 ≡ parent_name).
    let led : number_of files 1 parent_name ≡ Some m = ap (number_of files 1) (sym up) ∙ step.1 in
    let both : Some m ≡ Some 1 = sym led ∙ bytes parent_name ∙ fresh.0.up in
    let place : (1, parent_name) ≡ p = place_same p 1 parent_name in_root up in
    (place, cc both))
    (λ (down : p.1 ≢ parent_name).
    absurd (no_target files 1 m p.1 (bytes p.1 ∙ fresh.1 p.1 (is.0, down)) step))
    (same_name p.1 parent_name))
    (λ (elsewhere : p.0 ≢ 1). absurd (no_kind files p.0 (none p.0 elsewhere) is.1.0))
    (cases_eq p.0 1)

pub root_is_counted : (files : Files) → IsTree files → file_in files 1 ≡ Some (directory_file 1 1) → ((i : ℕ) → i ≢ 1 → file_in files i ≡ None) →
    AreCounted files
root_is_counted files tree there none =
    let fresh = new_is_empty 1 1 (omega arith) (omega arith) (omega arith) (omega arith) in
    counted_by files tree
    (λ m is.
    ⊎_elim
    (λ (same : m ≡ 1).
    let one : links_of (file_in files m) ≡ 1 = ap (λ (k : ℕ). links_of (file_in files k)) same ∙ ap links_of there in
    let led : number_of files 1 parent_name ≡ Some m =
    ap (λ (o : Option File). lookup (bytes_of o) parent_name) there ∙ fresh.0.up ∙ ap (λ (k : ℕ). Some k) (sym same) in
    as_many files files m 1 (sym one)
    (count_more (λ q. ⊥) (IsNameOf files m) (1, parent_name) 0 1 refl (λ no. no) (parent_counts, (ap kind_of there, led))
    (λ p no. absurd no) (λ p named. inl (root_named files there none m p named).0) (count_none (λ q. ⊥) (λ p no. no))))
    (λ (differ : m ≢ 1). absurd (is (none m differ)))
    (cases_eq m 1))
