-- Counts that are put right, one after the other.
use Rattle.std.proofs.Common.{◌≡◌, ◌≢◌, ◌⊎◌, ◌∙◌, ℕ, suc, ◌+◌, ◌<◌, ◌≤◌, ◌^◌, List, [], ◌∷◌, ◌++◌, length, drop, slice_index_or, set, Option, Some, None, inl, inr, ⊎_elim, refl, sym, ap, subst, arith}
use Rattle.std.specs.Prelude.{All, slice_index}
use Rattle.std.proofs.lemmas.Bool.{cases_eq, cases_lt}
use Rattle.std.proofs.lemmas.List.{drop_more, length-append}
use Rattle.std.proofs.lemmas.List.Elements.{All-cons, All-nil}
use Rattle.blocks.specs.Calls.{OnlyReads}
use Rattle.blocks.specs.Disk.{Image, LeavesOnly}
use Rattle.blocks.specs.Lemmas.Moments.{joined}
use Rattle.blocks.specs.Lemmas.Reads.{reads_then}
use Rattle.blocks.specs.declared.disk.Disk.{Ghosts}
use Rattle.calls.specs.Calls.{KeepsFiles, LeavesFiles, image_on}
use Rattle.calls.specs.Files.{relinked, with_count}
use Rattle.calls.specs.Opening.{IsOpenedPair}
use Rattle.calls.specs.Stepping.{Plain}
use Rattle.calls.specs.Stopped.{KeepsChange, LeavesChange, Relinks}
use Rattle.history.specs.Lemmas.Leaving.{leaves_wider}
use Rattle.model.specs.declared.types.image.File.{File}
use Rattle.model.specs.Files.{Files, file_in, files_of}
use Rattle.model.specs.Lemmas.FileNumbers.{below_file}
use Rattle.model.specs.Lemmas.Log.{recovered_empty}
use Rattle.model.specs.Lemmas.Soundness.{verdict_sound}
use Rattle.model.specs.Log.{recovered}
use Rattle.model.specs.Soundness.{IsSound}
use Rattle.model.specs.Verdict.{verdict}
use Rattle.wal.specs.Lemmas.Stops.{if_synced, if_synced_wider, read_if_synced, run_leaves}
use Rattle.wal.specs.Recovery.{LeavesIfSynced, RecoversAs}
use Rattle.directories.specs.Counts.{AreCounted, HasNames, HasRightCount, IsIn, IsNameOf, Place}
use Rattle.directories.specs.Entries.{lookup}
use Rattle.names.specs.Recounting.{AddsIf, AgreeButCounts, AreDiffering, AreSet, AreWrong, Differs, IsOnce, IsOneOf, IsRecounted, IsUnrecounted, IsWrong, KeepsButCounts, StopsRecount}
use Rattle.directories.specs.Tallying.{AreLinks, AreNameCounts, HasTooMany}
use Rattle.directories.specs.Trees.{bytes_of, directory_in, kind_of, links_of, number_of, IsFile, IsTree}
use Rattle.names.specs.declared.recounting.Counted.{Counted}
use Rattle.names.specs.declared.recounting.RecountFault.{RecountFault}
use Rattle.names.specs.declared.recounting.RecountFault.TheVariants.{Unopened, TooMany, Call}
use Rattle.directories.specs.Lemmas.Answered.{some_by}
use Rattle.directories.specs.Lemmas.FileMaps.{set_others, set_there}
use Rattle.directories.specs.Lemmas.FoundNext.{at_last}
use Rattle.names.proofs.Openings.{opened_behind, unopened_after}
use Rattle.directories.specs.Lemmas.PathLaws.{step_leads}

-- ---- files that agree but for their counts

kind_kept : (o : Option File) (n : ℕ) → kind_of (with_count o n) ≡ kind_of o
kind_kept None n = refl
kind_kept (Some file) n = refl

bytes_kept : (o : Option File) (n : ℕ) → bytes_of (with_count o n) ≡ bytes_of o
bytes_kept None n = refl
bytes_kept (Some file) n = refl

count_kept : (o : Option File) (n : ℕ) → with_count (with_count o n) 0 ≡ with_count o 0
count_kept None n = refl
count_kept (Some file) n = refl

none_kept : (o : Option File) → with_count o 0 ≡ None → o ≡ None
none_kept None none = refl
none_kept (Some file) none = absurd (cc none)

pub agree_none : (files new : Files) → new ≡ files → AgreeButCounts files new
agree_none files new same i = ap (λ (f : Files). with_count (file_in f i) 0) same

pub agree_on : (files mid new : Files) → AgreeButCounts files mid → AgreeButCounts mid new → AgreeButCounts files new
agree_on files mid new first then_on i = then_on i ∙ first i

module _ (files new : Files) (agree : AgreeButCounts files new) where
  kinds : (i : ℕ) → kind_of (file_in new i) ≡ kind_of (file_in files i)
  kinds i = sym (kind_kept (file_in new i) 0) ∙ ap kind_of (agree i) ∙ kind_kept (file_in files i) 0

  directories : (i : ℕ) → directory_in new i ≡ directory_in files i
  directories i = sym (bytes_kept (file_in new i) 0) ∙ ap bytes_of (agree i) ∙ bytes_kept (file_in files i) 0

  numbers : (i : ℕ) (name : List ℕ) → number_of new i name ≡ number_of files i name
  numbers i name = ap (λ (b : List ℕ). lookup b name) (directories i)

  pub there_still : (i : ℕ) → IsFile files i → IsFile new i
  there_still i there none = there (none_kept (file_in files i) (sym (agree i) ∙ ap (λ (o : Option File). with_count o 0) none))

  over : (number : ℕ) (place : Place) → IsNameOf files number place → IsNameOf new number place
  over number place is = (is.0, (kinds place.0 ∙ is.1.0, numbers place.0 place.1 ∙ is.1.1))

  back : (number : ℕ) (place : Place) → IsNameOf new number place → IsNameOf files number place
  back number place is = (is.0, (sym (kinds place.0) ∙ is.1.0, sym (numbers place.0 place.1) ∙ is.1.1))

  pub names_still : (number count : ℕ) → HasNames files number count → HasNames new number count
  names_still number count has = record {
    places = has.places;
    many = has.many;
    distinct = has.distinct;
    so = λ place is. over number place (has.so place is);
    all = λ place is. has.all place (back number place is);
  }

-- ---- one count is set

module _ (files new : Files) (i n : ℕ) (there : IsFile files i) (is : new ≡ relinked files i n) where
  here : file_in new i ≡ with_count (file_in files i) n
  here =
      let has = some_by (file_in files i) there in
      set_there files new i (with_count (file_in files i) n) (below_file files i has.0 has.1) is

  pub set_agree : AgreeButCounts files new
  set_agree j =
      ⊎_elim
      (λ (same : j ≡ i). ap (λ (k : ℕ). with_count (file_in new k) 0) same ∙ ap (λ (o : Option File). with_count o 0) here ∙ count_kept (file_in files i) n ∙ ap (λ (k : ℕ). with_count (file_in files k) 0) (sym same))
      (λ (apart : j ≢ i). ap (λ (o : Option File). with_count o 0) (set_others files new i (with_count (file_in files i) n) is j apart)) (cases_eq j i)

  pub set_count : links_of (file_in new i) ≡ n
  set_count =
      let has = some_by (file_in files i) there in
      ap links_of here ∙ ap (λ (o : Option File). links_of (with_count o n)) has.1

  set_rest : (j : ℕ) → j ≢ i → links_of (file_in new j) ≡ links_of (file_in files j)
  set_rest j apart = ap links_of (set_others files new i (with_count (file_in files i) n) is j apart)

  -- a count that was right is right still, and this one is
  pub set_right : HasNames files i n → (j : ℕ) → HasRightCount files j → HasRightCount new j
  set_right names j right =
      ⊎_elim
      (λ (same : j ≡ i). subst (HasRightCount new) (sym same) (subst (HasNames new i) (sym set_count) (names_still files new set_agree i n names)))
      (λ (apart : j ≢ i). subst (HasNames new j) (sym (set_rest j apart)) (names_still files new set_agree j (links_of (file_in files j)) right)) (cases_eq j i)

  pub set_this : HasNames files i n → HasRightCount new i
  set_this names = subst (HasNames new i) (sym set_count) (names_still files new set_agree i n names)

-- ---- one after the other

-- each count is right, or is that of one of these
abbrev pub AreLeft : Files → List Counted → Type 0
AreLeft files wrong = (i : ℕ) → IsOneOf wrong i ⊎ HasRightCount files i

pub none_left : (files : Files) (wrong : List Counted) → wrong ≡ [] → AreLeft files wrong → AreCounted files
none_left files wrong none left i =
    ⊎_elim (λ (one : IsOneOf wrong i). absurd (subst (λ (l : List Counted). IsOneOf l i) none one)) (λ (right : HasRightCount files i). right) (left i)

pub one_less : (files new : Files) (wrong : List Counted) (at : ℕ) (d : Counted) → at < length wrong → (first : Files) → AgreeButCounts first files → IsWrong first (slice_index_or wrong at d)
    → new ≡ relinked files (slice_index_or wrong at d).number (slice_index_or wrong at d).count → AreLeft files (drop at wrong) → AreLeft new (drop (at + 1) wrong)
one_less files new wrong at d low first agree is set left i =
    let one = slice_index_or wrong at d in
    let names = names_still first files agree one.number one.count is.names in
    let there = there_still first files agree one.number is.there in
    let split = drop_more wrong at d low in
    ⊎_elim
    (λ (some : IsOneOf (drop at wrong) i).
    ⊎_elim (λ (same : one.number ≡ i). inr (subst (HasRightCount new) same (set_this files new one.number one.count there set names)))
    (λ (more : IsOneOf (drop (at + 1) wrong) i). inl more) (subst (λ (l : List Counted). IsOneOf l i) split some))
    (λ (right : HasRightCount files i). inr (set_right files new one.number one.count there set names i right))
    (left i)

-- ---- what is wrong, by two lists

-- a number has no names where it has no file
named : (files : Files) → IsTree files → (i count : ℕ) → HasNames files i count → count ≢ 0 → IsFile files i
named files tree i count has some = by has.places has.many has.so
  where
    by : (places : List Place) → length places ≡ count → ((place : Place) → IsIn places place → IsNameOf files i place) → IsFile files i
    by [] many so = absurd (some (sym many))
    by (place ∷ places) many so = let is = so place (inl refl) in step_leads files tree place.0 i place.1 is.1

module _ (files : Files) (counts links : List ℕ) (tree : IsTree files) (named_by : AreNameCounts files counts) (linked : AreLinks files links) where
  inside_so : (i : ℕ) → i < length counts → i < length files
  inside_so i low = omega (arith, low, named_by.long)

  wrong_so : (one : Counted) → Differs counts links one → IsWrong files one
  wrong_so one differs =
      let has : HasNames files one.number one.count = subst (HasNames files one.number) (sym differs.is) (named_by.names one.number (inside_so one.number differs.inside)) in
      let apart : links_of (file_in files one.number) ≢ one.count = λ same. differs.other (linked.links one.number ∙ same) in
      record {
        there = λ none. named files tree one.number one.count has (λ zero. apart (ap links_of none ∙ sym zero)) none;
        names = has;
        differs = apart;
      }

  right_so : (i : ℕ) → i < length counts → slice_index links i ≡ slice_index counts i → HasRightCount files i
  right_so i low same = subst (HasNames files i) (sym same ∙ linked.links i) (named_by.names i (inside_so i low))

  -- there are no names behind the files
  right_past : (i : ℕ) → (IsFile files i → ⊥) → HasRightCount files i
  right_past i none = record {
    places = [];
    many = none_links (file_in files i) (λ there. none there);
    distinct = tt;
    so = λ place is. absurd is;
    all = λ place is. absurd (none (step_leads files tree place.0 i place.1 is.1));
  }
    where
      none_links : (o : Option File) → (o ≢ None → ⊥) → 0 ≡ links_of o
      none_links None apart = refl
      none_links (Some file) apart = absurd (apart (λ e. absurd (cc e)))

  pub differing_wrong : (wrong : List Counted) → length counts < 2 ^ 32 → AreDiffering counts links wrong → AreWrong files wrong
  differing_wrong wrong few are = record {
    once = are.once;
    each = λ k d low. wrong_so (slice_index_or wrong k d) (are.each k d low);
    rest = λ i.
        ⊎_elim (λ (low : i < length counts). ⊎_elim (λ (one : IsOneOf wrong i). inl one) (λ (same : slice_index links i ≡ slice_index counts i). inr (right_so i low same)) (are.rest i low))
        (λ (past : length counts ≤ i). inr (right_past i (λ there. past_file i past there))) (cases_lt i (length counts));
    few = omega (arith, few, are.few);
  }
    where
      past_file : (i : ℕ) → length counts ≤ i → IsFile files i → ⊥
      past_file i past there =
          let has = some_by (file_in files i) there in
          let low = below_file files i has.0 has.1 in
          let long = named_by.long in
          omega (arith, past, low, long)

-- ---- one list after the other

all_push : {X : Type 0} (P : X → Type 0) (xs : List X) (x : X) → All P xs → P x → All P (xs ++ x ∷ [])
all_push P [] x all this = All-cons P x [] this (All-nil P)
all_push P (first ∷ xs) x all this = All-cons P first (xs ++ x ∷ []) (all 0 first (omega arith)) (all_push P xs x (λ k d low. all (suc k) d (omega (arith, low))) this)

one_of_push : (wrong : List Counted) (one : Counted) (i : ℕ) → IsOneOf wrong i → IsOneOf (wrong ++ one ∷ []) i
one_of_push [] one i is = absurd is
one_of_push (first ∷ wrong) one i is = ⊎_elim (λ (same : first.number ≡ i). inl same) (λ (more : IsOneOf wrong i). inr (one_of_push wrong one i more)) is

one_pushed : (wrong : List Counted) (one : Counted) → IsOneOf (wrong ++ one ∷ []) one.number
one_pushed [] one = inl refl
one_pushed (first ∷ wrong) one = inr (one_pushed wrong one)

one_of_pushed : (wrong : List Counted) (one : Counted) (i : ℕ) → IsOneOf (wrong ++ one ∷ []) i → IsOneOf wrong i ⊎ (one.number ≡ i)
one_of_pushed [] one i is = ⊎_elim (λ (same : one.number ≡ i). inr same) (λ (none : ⊥). absurd none) is
one_of_pushed (first ∷ wrong) one i is =
    ⊎_elim (λ (same : first.number ≡ i). inl (inl same))
    (λ (more : IsOneOf (wrong ++ one ∷ []) i).
    ⊎_elim (λ (was : IsOneOf wrong i). inl (inr was)) (λ (last : one.number ≡ i). inr last) (one_of_pushed wrong one i more)) is

once_push : (wrong : List Counted) (one : Counted) → IsOnce wrong → (IsOneOf wrong one.number → ⊥) → IsOnce (wrong ++ one ∷ [])
once_push [] one once apart = (λ is. is, tt)
once_push (first ∷ wrong) one once apart = (
  λ is. ⊎_elim (λ (was : IsOneOf wrong first.number). once.0 was) (λ (last : one.number ≡ first.number). apart (inl (sym last))) (one_of_pushed wrong one first.number is),
  once_push wrong one once.1 (λ is. apart (inr is)),
)

-- the numbers below one were compared
pub record HasCompared (counts links : List ℕ) (at : ℕ) (wrong : List Counted) : Type 0 where
  pub each : All (Differs counts links) wrong
  pub rest : (i : ℕ) → i < at → IsOneOf wrong i ⊎ (slice_index links i ≡ slice_index counts i)
  pub few : length wrong ≤ at
  pub below : (i : ℕ) → IsOneOf wrong i → i < at
  pub once : IsOnce wrong

pub none_compared : (counts links : List ℕ) → HasCompared counts links 0 []
none_compared counts links = record { each = All-nil (Differs counts links); rest = λ i low. absurd (omega (arith, low)); few = omega arith; below = λ i is. absurd is; once = tt }

pub all_compared : (counts links : List ℕ) (at : ℕ) (wrong : List Counted) → at ≡ length counts → HasCompared counts links at wrong → AreDiffering counts links wrong
all_compared counts links at wrong all has = record { once = has.once; each = has.each; rest = λ i low. has.rest i (omega (arith, low, all)); few = omega (arith, has.few, all) }

pub one_compared : (counts links : List ℕ) (at : ℕ) (old new : List Counted) → at < length counts → HasCompared counts links at old
    → AddsIf at (slice_index counts at) (slice_index links at) old new → HasCompared counts links (at + 1) new
one_compared counts links at old new low has adds =
    ⊎_elim
    (λ (same : (slice_index counts at ≡ slice_index links at) × (new ≡ old)).
    subst (HasCompared counts links (at + 1)) (sym same.1)
    (record {
      each = has.each;
      rest = λ i below. ⊎_elim (λ (before : i < at). has.rest i before) (λ (here : i ≡ at). inr (ap (slice_index links) here ∙ sym same.0 ∙ ap (slice_index counts) (sym here))) (at_last i at below);
      few = omega (arith, has.few);
      below = λ i is. let low = has.below i is in omega (arith, low);
      once = has.once;
    }))
    (λ (more : (slice_index counts at ≢ slice_index links at) × (new ≡ old ++ record { number = at; count = slice_index counts at } ∷ [])).
    let one : Counted = record { number = at; count = slice_index counts at } in
    let this : Differs counts links one = record { inside = low; is = refl; other = λ same. more.0 (sym same) } in
    subst (HasCompared counts links (at + 1)) (sym more.1)
    (record {
      each = all_push (Differs counts links) old one has.each this;
      rest = λ i below.
          ⊎_elim (λ (before : i < at). ⊎_elim (λ (is : IsOneOf old i). inl (one_of_push old one i is)) (λ (same : slice_index links i ≡ slice_index counts i). inr same) (has.rest i before))
          (λ (here : i ≡ at). inl (subst (IsOneOf (old ++ one ∷ [])) (sym here) (one_pushed old one))) (at_last i at below);
      few = omega (arith, has.few, length-append old (one ∷ []));
      below = λ i is.
          ⊎_elim (λ (was : IsOneOf old i). let low = has.below i was in omega (arith, low)) (λ (same : at ≡ i). omega (arith, same)) (one_of_pushed old one i is);
      once = once_push old one has.once (λ was. let low = has.below at was in omega (arith, low));
    }))
    adds

-- ---- what stops leave

-- a stop between two transactions
pub keeps_rested : {D N : Type 0} (disk : Ghosts D N) (k : Plain D) → LeavesFiles disk k k
    → LeavesOnly disk.moment disk.leaves k.store.volume.device k.store.volume.device (KeepsButCounts (image_on disk.image k))
keeps_rested disk k leaves =
    leaves_wider disk.moment disk.leaves k.store.volume.device k.store.volume.device (KeepsFiles (image_on disk.image k)) (KeepsButCounts (image_on disk.image k))
    (λ z kept. record { log = kept.log; sound = kept.sound; files = agree_none _ _ kept.files }) leaves

-- and behind others in one more
pub keeps_more : {D N : Type 0} (disk : Ghosts D N) (k m e : Plain D) (i n : ℕ) → IsFile (files_of (image_on disk.image m)) i → AgreeButCounts (files_of (image_on disk.image k)) (files_of (image_on disk.image m))
    → LeavesOnly disk.moment disk.leaves k.store.volume.device m.store.volume.device (KeepsButCounts (image_on disk.image k))
    → LeavesChange disk (Relinks i n) m e
    → LeavesOnly disk.moment disk.leaves k.store.volume.device e.store.volume.device (KeepsButCounts (image_on disk.image k))
keeps_more disk k m e i n there agree before then_on =
    joined disk.moment disk.leaves k.store.volume.device m.store.volume.device e.store.volume.device (KeepsButCounts (image_on disk.image k)) before
    (leaves_wider disk.moment disk.leaves m.store.volume.device e.store.volume.device (KeepsChange (Relinks i n) (image_on disk.image m)) (KeepsButCounts (image_on disk.image k))
    (λ z kept. record {
      log = kept.log;
      sound = kept.sound;
      files = agree_on (files_of (image_on disk.image k)) (files_of (image_on disk.image m)) (files_of (recovered z)) agree
          (⊎_elim (λ (same : files_of (recovered z) ≡ files_of (image_on disk.image m)). agree_none (files_of (image_on disk.image m)) (files_of (recovered z)) same)
          (λ (set : files_of (recovered z) ≡ relinked (files_of (image_on disk.image m)) i n). set_agree (files_of (image_on disk.image m)) (files_of (recovered z)) i n there set) kept.files);
    }) then_on)

-- ---- over a disk

module _ {D N : Type 0} (disk : Ghosts D N) (d : D) where
  keeps : verdict (disk.image d) ≡ None → (z : Image) → RecoversAs (disk.image d) z → KeepsButCounts (recovered (disk.image d)) z
  keeps sound z same =
      let is = verdict_sound (disk.image d) sound in
      record {
        log = same.lawful ∙ is.1;
        sound = subst IsSound (sym same.image) is.2;
        files = agree_none (files_of (recovered (disk.image d))) (files_of (recovered z)) (ap files_of same.image);
      }

  -- nothing but a recovery was done
  pub stops_recovered : (e : D) → LeavesIfSynced disk d e (RecoversAs (disk.image d)) → StopsRecount disk d e
  stops_recovered e leaves sound = if_synced_wider disk d e (RecoversAs (disk.image d)) (KeepsButCounts (recovered (disk.image d))) (keeps sound) leaves

  -- it was only read
  pub stops_read : (e : D) → OnlyReads disk d e → StopsRecount disk d e
  stops_read e reads = stops_recovered e (read_if_synced disk d e reads)

  -- no count was wrong
  pub recounted_none : (e : D) (wrong : List Counted) → wrong ≡ [] → verdict (disk.image d) ≡ None → IsTree (files_of (recovered (disk.image d))) → AreWrong (files_of (recovered (disk.image d))) wrong → OnlyReads disk d e → IsRecounted disk d e 0
  recounted_none e wrong none sound tree are reads = record {
    sound = sound;
    tree = tree;
    which = wrong;
    are = are;
    many = sym (ap length none);
    files = agree_none (files_of (recovered (disk.image d))) (files_of (recovered (disk.image e))) (ap (λ (y : Image). files_of (recovered y)) reads.image);
    opens = subst (λ (y : Image). verdict y ≡ None) (sym reads.image) sound;
    counted = subst (λ (y : Image). AreCounted (files_of (recovered y))) (sym reads.image) (none_left (files_of (recovered (disk.image d))) wrong none are.rest);
    way = inl (refl, reads);
  }

  module _ (k m : Plain D) (opened : IsOpenedPair disk d k) where
    since : LeavesOnly disk.moment disk.leaves k.store.volume.device m.store.volume.device (KeepsButCounts (image_on disk.image k)) → (e : D) → e ≡ m.store.volume.device → LeavesOnly disk.moment disk.leaves k.opening e (KeepsButCounts (recovered (disk.image d)))
    since leaves e is =
        subst (λ (o : D). LeavesOnly disk.moment disk.leaves k.opening o (KeepsButCounts (recovered (disk.image d)))) (sym is)
        (subst (λ (o : D). LeavesOnly disk.moment disk.leaves o m.store.volume.device (KeepsButCounts (recovered (disk.image d)))) opened.device
        (subst (λ (y : Image). LeavesOnly disk.moment disk.leaves k.store.volume.device m.store.volume.device (KeepsButCounts y)) opened.image leaves))

    -- a kernel was opened, and the counts set, of which some were wrong
    pub recounted_all : (wrong : List Counted) (count : ℕ) → IsTree (files_of (image_on disk.image k)) → AreWrong (files_of (image_on disk.image k)) wrong → count ≡ length wrong → length wrong ≢ 0 → AreSet disk.image k m → LeavesOnly disk.moment disk.leaves k.store.volume.device m.store.volume.device (KeepsButCounts (image_on disk.image k)) → (e : D) → e ≡ m.store.volume.device → verdict (disk.image e) ≡ None → IsRecounted disk d e count
    recounted_all wrong count tree are many some set leaves e is opens =
        let empty : recovered (disk.image e) ≡ image_on disk.image m = ap (λ (o : D). recovered (disk.image o)) is ∙ recovered_empty (image_on disk.image m) set.sound.empty_log in
        record {
          sound = opened.sound;
          tree = subst (λ (y : Image). IsTree (files_of y)) opened.image tree;
          which = wrong;
          are = subst (λ (y : Image). AreWrong (files_of y) wrong) opened.image are;
          many = many;
          files = subst (λ (y : Image). AgreeButCounts (files_of y) (files_of (recovered (disk.image e)))) opened.image
              (subst (λ (y : Image). AgreeButCounts (files_of (image_on disk.image k)) (files_of y)) (sym empty) set.files);
          counted = subst (λ (y : Image). AreCounted (files_of y)) (sym empty) set.counted;
          opens = opens;
          way = inr (λ zero. some (sym many ∙ zero), record { first = k; opened = opened; leaves = since leaves e is });
        }

    pub stops_set : LeavesOnly disk.moment disk.leaves k.store.volume.device m.store.volume.device (KeepsButCounts (image_on disk.image k)) → (e : D) → e ≡ m.store.volume.device → StopsRecount disk d e
    stops_set leaves e is sound =
        if_synced disk d e (KeepsButCounts (recovered (disk.image d)))
        (run_leaves disk d k.opening e (RecoversAs (disk.image d)) (KeepsButCounts (recovered (disk.image d))) (keeps sound) opened.leaves (since leaves e is))

-- why counts are not put right, of a disk that was read before
pub unrecounted_after : {D N : Type 0} (disk : Ghosts D N) (d m e : D) (cause : RecountFault) → verdict (disk.image d) ≡ None → OnlyReads disk d m → disk.fault_count m ≡ disk.fault_count d → IsUnrecounted disk m e cause → IsUnrecounted disk d e cause
unrecounted_after disk d m e (Unopened cause) sound reads faults why = unopened_after disk d m e cause sound reads faults why
unrecounted_after disk d m e TooMany sound reads faults why = record {
  sound = sound;
  tree = subst (λ (y : Image). IsTree (files_of (recovered y))) reads.image why.tree;
  names = subst (λ (y : Image). HasTooMany (files_of (recovered y))) reads.image why.names;
  reads = reads_then disk d m e reads why.reads;
}
unrecounted_after disk d m e (Call fault) sound reads faults why = record { first = why.first; opened = opened_behind disk d m why.first reads faults why.opened; last = why.last; fails = why.fails; device = why.device }
