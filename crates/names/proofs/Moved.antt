-- A file of a tree gets a name in another directory, by the answers of its calls.
use Rattle.std.proofs.Common.{◌≡◌, ◌≢◌, ℕ, ◌*◌, ◌<◌, Bool, true, false, List, length, Option, Some, None, Result, Ok, Err, sym, ap, subst, ◌∙◌, inl, inr, ⊎_elim, ◌+◌, [], refl}
use Rattle.blocks.specs.declared.disk.Disk.{Ghosts}
use Rattle.model.specs.declared.types.operations.Reply.{Reply}
use Rattle.model.specs.declared.types.operations.Reply.TheVariants.{Wrote}
use Rattle.model.specs.declared.types.image.File.{File}
use Rattle.model.specs.Files.{Files, file_in}
use Rattle.model.specs.Layout.{form_of}
use Rattle.model.specs.Operations.{after}
use Rattle.calls.specs.Stepping.{Plain}
use Rattle.directories.specs.declared.entries.EntryWrite.{EntryWrite}
use Rattle.names.specs.declared.planning.Plan.{Plan}
use Rattle.names.specs.declared.planning.Rise.{Rise}
use Rattle.directories.specs.declared.refusal.Refusal.{Refusal}
use Rattle.directories.specs.declared.refusal.Refusal.TheVariants.{IsInside, TooManyLinks}
use Rattle.directories.specs.Counts.{AreCounted, HasLinks, HasMostLinks, StaysCounted}
use Rattle.directories.specs.Entries.{lookup}
use Rattle.names.specs.Inside.{files_seen, form_seen, FallsShort}
use Rattle.names.specs.Making.{is_entered, HasEntered}
use Rattle.names.specs.Renaming.{IsPlan, IsRise, IsUnrenamed, IsUp, Renames, Rises}
use Rattle.directories.specs.Sizes.{AreSized}
use Rattle.directories.specs.TreeChanges.{LeadsTo, MovesDirectory, MovesName, Relinks}
use Rattle.directories.specs.Trees.{directory_in, number_of, self_name, IsDirectory, IsDown, IsFile, IsTree, bytes_of, kind_of, links_of, parent_name, IsOutside, IsTidy}
use Rattle.directories.specs.Walks.{IsDirectoryFound}
use Rattle.directories.specs.Writes.{operation_of, Links, MayHold, NeedsBlock, Unlinks, Repoints}
use Rattle.directories.specs.Lemmas.CountedChanges.{counted_directory_moved, counted_moved}
use Rattle.names.proofs.Blocked.{entry_short}
use Rattle.names.proofs.Entering.{down_absent, found_bytes}
use Rattle.directories.specs.Lemmas.EntryBytes.{length-entry_bytes}
use Rattle.directories.specs.Lemmas.EntrySteps.{link_leads_there, link_needs}
use Rattle.directories.specs.Lemmas.MovingDirectory.{moving_directory_keeps}
use Rattle.names.proofs.Named.{directory_counts}
use Rattle.names.proofs.Relinking.{entered_links, moves_relinked, relinked_links, relinked_there}
use Rattle.names.proofs.Renamed.{whole_entry}
use Rattle.directories.specs.Lemmas.Repoints.{repoint_leads_there}
use Rattle.directories.specs.Lemmas.TreeBy.{directory_is_file}
use Rattle.directories.specs.Lemmas.TreeMeaning.{directories_are_tidy, steps_lead}
use Rattle.directories.specs.Lemmas.WholeChanges.{moved_name, moves_file_whole}

-- ---- planned

-- the other directory, which was looked at then
pub target_in : (files a : Files) (to : ℕ) (found : Option (List ℕ)) (into : List ℕ) → a ≡ files → found ≡ Some into → IsDirectoryFound a to found →
    IsDirectory files to × (into ≡ directory_in files to)
target_in files a to found into saw is there = found_bytes files to found into is (subst (λ (f : Files). IsDirectoryFound f to found) saw there)

-- a directory has itself
module _ (files : Files) (to : ℕ) (slice into self : List ℕ) (found : Option ℕ) (tree : IsTree files) (is : IsDirectory files to) (into_is : into ≡ directory_in files to)
    (slice_is : slice ≡ into) (self_is : self ≡ self_name) (looked : found ≡ lookup slice self) where
  itself : found ≡ Some to
  itself =
      looked ∙ ap (λ (l : List ℕ). lookup l self) (slice_is ∙ into_is) ∙ ap (λ (n : List ℕ). lookup (directory_in files to) n) self_is
      ∙ (directories_are_tidy files to tree is).1.1.own

  pub own_there : ((own : ℕ) → found ≡ Some own → ⊥) → ⊥
  own_there not = not to itself

  pub own_is : (own : ℕ) → found ≡ Some own → own ≡ to
  own_is own some = let both : Some own ≡ Some to = sym some ∙ itself in cc both

module _ (files a b : Files) (from to number file own : ℕ) (old name bytes slice again into third : List ℕ) (found other : Option (List ℕ)) (tree : IsTree files)
    (apart : from ≢ to) (down : IsDown old) (saw : a ≡ files) (saw_on : b ≡ a) (here : IsDirectoryFound files from found) (found_is : found ≡ Some bytes)
    (slice_is : slice ≡ bytes) (again_is : again ≡ bytes) (led : lookup slice old ≡ Some number) (file_is : file ≡ number) (own_same : own ≡ to)
    (target : IsDirectory files to × (into ≡ directory_in files to)) (third_is : third ≡ into) where
  source : IsDirectory files from × (bytes ≡ directory_in files from)
  source = found_bytes files from found bytes found_is here

  file_led : number_of files from old ≡ Some file
  file_led = ap (λ (l : List ℕ). lookup l old) (sym (slice_is ∙ source.1)) ∙ led ∙ ap (λ (n : ℕ). Some n) (sym file_is)

  pub not_root : file ≢ 1
  not_root = (steps_lead files from file old tree down (source.0, file_led)).1

  pub own_directory : IsDirectory b own
  own_directory = subst (λ (f : Files). IsDirectory f own) (sym (saw_on ∙ saw)) (subst (λ (n : ℕ). IsDirectory files n) (sym own_same) target.0)

  -- what was told of its parent
  module _ (told : Result (Option Rise) Refusal) (rises : Rises b file from own told) where
    rising : Rises files file from to told
    rising = subst (λ (n : ℕ). Rises files file from n told) own_same (subst (λ (f : Files). Rises f file from own told) (saw_on ∙ saw) rises)

    pub plan_is : (rise : Option Rise) (link unlink : EntryWrite) → told ≡ Ok rise → Links third name number link →
        MayHold third link.place → 16 * link.place < 4294967296 → Unlinks again old unlink → 16 * unlink.place < 4294967296 →
        IsPlan files from old to name (record { file = file; link = link; unlink = unlink; rise = rise })
    plan_is rise link unlink is links room within unlinks freed = record {
      source = source.0;
      down = down;
      led = file_led;
      target = target.0;
      links = subst (λ (n : ℕ). Links (directory_in files to) name n link) (sym file_is)
          (subst (λ (l : List ℕ). Links l name number link) (third_is ∙ target.1) links);
      unlinks = subst (λ (l : List ℕ). Unlinks l old unlink) (again_is ∙ source.1) unlinks;
      up = subst (λ (r : Result (Option Rise) Refusal). Rises files file from to r) is rising;
      link_room = subst (λ (l : List ℕ). MayHold l link.place) (third_is ∙ target.1) room;
      link_within = within;
      unlink_within = freed;
    }

    pub plan_inside : (cause : Refusal) → told ≡ Err cause → IsUnrenamed files from old to name cause
    plan_inside cause is =
        let why : Rises files file from to (Err cause) = subst (λ (r : Result (Option Rise) Refusal). Rises files file from to r) is rising in
        ⊎_elim
        (λ (inside : (cause ≡ IsInside) × (IsOutside files file to → ⊥)).
        subst (λ (c : Refusal). IsUnrenamed files from old to name c) (sym inside.0) (apart, (file, file_led, why.0, inside.1)))
        (λ (most : (cause ≡ TooManyLinks) × HasMostLinks files to).
        subst (λ (c : Refusal). IsUnrenamed files from old to name c) (sym most.0) (apart, target.0, most.1))
        why.1

  -- the directory that has the file counts
  pub source_counts : AreCounted files → HasLinks b from
  source_counts counted = subst (λ (f : Files). HasLinks f from) (sym (saw_on ∙ saw)) (directory_counts files from tree counted source.0)

-- ---- made

-- In a transaction: kernel k planned the move, which is a then; b linked the new name.
module _ {D N : Type 0} (disk : Ghosts D N) (k a b : Plain D) (from to : ℕ) (old name : List ℕ) (plan : Plan) (whole : Bool)
    (tree : IsTree (files_seen disk.image k)) (apart : from ≢ to) (planned : files_seen disk.image a ≡ files_seen disk.image k)
    (is : IsPlan (files_seen disk.image k) from old to name plan) (linked : HasEntered disk.image to plan.link a b whole) where
  abbrev all : Files
  all = files_seen disk.image k

  linking : after (form_seen disk.image a) all (operation_of to plan.link) linked.reply ≡ Some (files_seen disk.image b)
  linking = subst (λ (f : Files). after (form_seen disk.image a) f (operation_of to plan.link) linked.reply ≡ Some (files_seen disk.image b)) planned linked.answers

  sized : AreSized (form_seen disk.image a) all
  sized = subst (λ (f : Files). AreSized (form_seen disk.image a) f) planned linked.sized

  linked_none : whole ≡ false → linked.reply ≡ Wrote 0
  linked_none fails =
      ⊎_elim (λ (done : (linked.reply ≡ Wrote 16) × LeadsTo all (files_seen disk.image b) to name (Some plan.file)).
      let both : false ≡ true = sym fails ∙ linked.told ∙ ap is_entered done.0 in absurd (cc both))
      (λ (none : (linked.reply ≡ Wrote 0) × (files_seen disk.image b ≡ all)). none.0)
      (link_leads_there (form_seen disk.image a) all (files_seen disk.image b) to plan.file name plan.link linked.reply sized is.target
      (directories_are_tidy all to tree is.target).0 is.links is.link_room linking)

  -- no block was free for it
  pub unlinked_short : whole ≡ false → FallsShort disk.image a b
  unlinked_short fails =
      entry_short disk a b to plan.link whole linked (ap length is.links.entry ∙ length-entry_bytes plan.file name is.links.stored) (linked_none fails)

  -- nothing of it was written
  pub unlinked_same : whole ≡ false → files_seen disk.image b ≡ all
  unlinked_same fails =
      ⊎_elim (λ (done : (linked.reply ≡ Wrote 16) × LeadsTo all (files_seen disk.image b) to name (Some plan.file)).
      let both : false ≡ true = sym fails ∙ linked.told ∙ ap is_entered done.0 in absurd (cc both))
      (λ (none : (linked.reply ≡ Wrote 0) × (files_seen disk.image b ≡ all)). none.1)
      (link_leads_there (form_seen disk.image a) all (files_seen disk.image b) to plan.file name plan.link linked.reply sized is.target
      (directories_are_tidy all to tree is.target).0 is.links is.link_room linking)

  -- the entry would have begun another block
  pub unlinked_needs : whole ≡ false → IsDirectory all to × (number_of all to name ≡ None) × NeedsBlock (directory_in all to)
  unlinked_needs fails = (
    is.target,
    is.links.absent,
    link_needs (form_seen disk.image a) all (files_seen disk.image b) to plan.file name plan.link linked.reply sized is.target is.links is.link_room linking
        (linked_none fails),
  )

  -- c freed the old one
  module _ (c : Plain D) (done : Bool) (holds : whole ≡ true) (freed : HasEntered disk.image from plan.unlink b c done) (opening : b.opening ≡ a.opening) where
    first : after (form_seen disk.image a) all (operation_of to plan.link) (Wrote 16) ≡ Some (files_seen disk.image b)
    first =
        subst (λ (r : Reply). after (form_seen disk.image a) all (operation_of to plan.link) r ≡ Some (files_seen disk.image b))
        (whole_entry linked.reply (sym linked.told ∙ holds)) linking

    second : after (form_seen disk.image a) (files_seen disk.image b) (operation_of from plan.unlink) freed.reply ≡ Some (files_seen disk.image c)
    second =
        subst (λ (o : D). after (form_of (disk.image o)) (files_seen disk.image b) (operation_of from plan.unlink) freed.reply ≡ Some (files_seen disk.image c)) opening freed.answers

    module_links : (j : ℕ) → links_of (file_in (files_seen disk.image c) j) ≡ links_of (file_in all j)
    module_links j =
        entered_links disk b c from plan.unlink done freed j ∙ entered_links disk a b to plan.link whole linked j
        ∙ ap (λ (f : Files). links_of (file_in f j)) planned

    down : IsDown name
    down = down_absent all to name tree is.target is.links.absent

    pub moved_file : plan.rise ≡ None → Renames from old to name tt all (files_seen disk.image c) × StaysCounted all (files_seen disk.image c)
    moved_file none =
        let plain : IsDirectory all plan.file → ⊥ = subst (λ (o : Option Rise). IsUp all plan.file from to o) none is.up in
        let moved = moves_file_whole (form_seen disk.image a) all (files_seen disk.image b) (files_seen disk.image c) from to plan.file old name plan.unlink plan.link freed.reply sized tree
        is.source is.target apart is.down down plain is.led is.links is.link_room first is.unlinks second in (
          (plan.file, inl (moved.1, λ there. absurd (plain there))),
          record {
            tree = moved.2.tree;
            counted = λ counted.
                counted_moved all (files_seen disk.image c) from to plan.file old name counted is.source is.target is.down.0 down.0 module_links moved.1;
          },
        )

    moved_before : MovesName all (files_seen disk.image c) from old to name plan.file
    moved_before =
        (moved_name (form_seen disk.image a) all (files_seen disk.image b) (files_seen disk.image c) from to plan.file old name plan.unlink plan.link freed.reply sized tree is.source
        is.target apart is.led is.links first is.unlinks second).1

    -- both directories are there still
    pub source_there : IsFile (files_seen disk.image c) from
    source_there = directory_is_file (files_seen disk.image c) from (moved_before.kinds from ∙ is.source)

    pub target_there : (p : Plain D) (n : ℕ) → Relinks (files_seen disk.image c) (files_seen disk.image p) from n → IsFile (files_seen disk.image p) to
    target_there p n relinks =
        relinked_there (files_seen disk.image c) (files_seen disk.image p) from n relinks to
        (directory_is_file (files_seen disk.image c) to (moved_before.kinds to ∙ is.target))

    -- both directories got their counts, in e, and d gave the moved one its new parent
    module _ (p e d : Plain D) (rise : Rise) (all_up : Bool) (some : plan.rise ≡ Some rise)
        (less : Relinks (files_seen disk.image c) (files_seen disk.image p) from rise.left) (more : Relinks (files_seen disk.image p) (files_seen disk.image e) to rise.more)
        (turned : HasEntered disk.image plan.file rise.up e d all_up) (still : e.opening ≡ b.opening) where
      rises : IsRise all plan.file from to rise
      rises = subst (λ (o : Option Rise). IsUp all plan.file from to o) some is.up

      moved_mid : MovesName all (files_seen disk.image e) from old to name plan.file
      moved_mid =
          moves_relinked all (files_seen disk.image p) (files_seen disk.image e) from to plan.file to rise.more old name (inr refl) more
          (moves_relinked all (files_seen disk.image c) (files_seen disk.image p) from to plan.file from rise.left old name (inl refl) less moved_before)

      not_from : plan.file ≢ from
      not_from = (steps_lead all from plan.file old tree is.down (is.source, is.led)).2

      not_to : plan.file ≢ to
      not_to same = rises.outside [] same

      stays : file_in (files_seen disk.image e) plan.file ≡ file_in all plan.file
      stays = moved_mid.rest plan.file not_from not_to

      turning : LeadsTo (files_seen disk.image e) (files_seen disk.image d) plan.file parent_name (Some to)
      turning =
          (repoint_leads_there (form_seen disk.image e) (files_seen disk.image e) (files_seen disk.image d) plan.file to parent_name rise.up turned.reply turned.sized
          (ap kind_of stays ∙ rises.directory)
          (subst (λ (o : Option File). IsTidy (bytes_of o)) (sym stays) (directories_are_tidy all plan.file tree rises.directory).0)
          (subst (λ (o : Option File). Repoints (bytes_of o) parent_name to rise.up) (sym stays) rises.repoints) turned.answers).1

      moves : MovesDirectory all (files_seen disk.image d) from old to name plan.file
      moves = record { mid = files_seen disk.image e; moves = moved_mid; up = turning }

      turned_links : (j : ℕ) → links_of (file_in (files_seen disk.image d) j) ≡ links_of (file_in (files_seen disk.image e) j)
      turned_links j = entered_links disk e d plan.file rise.up all_up turned j

      from_now : links_of (file_in (files_seen disk.image d) from) ≡ rise.left
      from_now =
          turned_links from ∙ ap links_of (more.rest from apart)
          ∙ relinked_links (files_seen disk.image c) (files_seen disk.image p) from rise.left less

      to_now : links_of (file_in (files_seen disk.image d) to) ≡ rise.more
      to_now = turned_links to ∙ relinked_links (files_seen disk.image p) (files_seen disk.image e) to rise.more more

      pub moved_directory : Renames from old to name tt all (files_seen disk.image d) × StaysCounted all (files_seen disk.image d)
      moved_directory = (
        (plan.file, inr (moves, rises.directory, apart, rises.outside)),
        record {
          tree =
              (moving_directory_keeps all (files_seen disk.image d) from to plan.file old name tree is.source is.target rises.directory is.down down rises.outside moves).tree;
          counted = λ counted.
              counted_directory_moved all (files_seen disk.image d) from to plan.file old name tree is.source is.target apart rises.directory is.down down moves counted
              (sym rises.less ∙ ap (λ (n : ℕ). n + 1) (sym from_now)) (to_now ∙ rises.more)
              (λ j no_from no_to.
              turned_links j ∙ ap links_of (more.rest j no_to) ∙ ap links_of (less.rest j no_from) ∙ module_links j);
        },
      )
