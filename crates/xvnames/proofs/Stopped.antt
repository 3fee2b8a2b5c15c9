-- What a stop leaves of files that are put on a new disk one after the other.
use Rattle.std.proofs.Common.{◌≡◌, ◌≢◌, ◌∙◌, ℕ, ◌+◌, ◌<◌, true, List, [], ◌∷◌, ◌++◌, length, slice_index_or, take, drop, None, ⊎_elim, refl, sym, ap, subst, inl, inr, arith}
use Rattle.std.specs.Prelude.{Result, Ok, Err}
use Rattle.std.proofs.lemmas.Bool.{cases_eq}
use Rattle.blocks.specs.Calls.{OnlyReads}
use Rattle.blocks.specs.Disk.{AddsNone, Image, LeavesOnly}
use Rattle.blocks.specs.Lemmas.Moments.{joined, stays}
use Rattle.blocks.specs.declared.disk.Disk.{Ghosts}
use Rattle.calls.specs.Calls.{image_on}
use Rattle.calls.specs.Opening.{IsNotOpenedPair, IsOpenedPair}
use Rattle.calls.specs.Stepping.{Plain}
use Rattle.calls.specs.Stopped.{StaysOver}
use Rattle.directories.specs.Lemmas.CountedChanges.{root_is_counted}
use Rattle.directories.specs.Lemmas.NewDirectory.{root_is_tree}
use Rattle.directories.specs.Paths.{names_of}
use Rattle.history.specs.Lemmas.Leaving.{leaves_wider}
use Rattle.kernel.specs.Opening.{RefusesToOpen}
use Rattle.kernel.specs.declared.types.OpenFault.{OpenFault}
use Rattle.kernel.specs.declared.types.OpenFault.TheVariants as open_fault
use Rattle.model.specs.Codec.{made_image}
use Rattle.model.specs.Files.{Files, files_of}
use Rattle.model.specs.Layout.{form_of, is_inode_count, is_size}
use Rattle.model.specs.Lemmas.Log.{recovered_empty}
use Rattle.model.specs.Lemmas.MadeImages.{sound-made_image}
use Rattle.model.specs.Lemmas.Soundness.{sound_verdict, verdict_sound}
use Rattle.model.specs.Log.{logged_count, recovered}
use Rattle.model.specs.Soundness.{IsSound}
use Rattle.model.specs.Verdict.{verdict}
use Rattle.model.specs.declared.types.image.Form.{Form}
use Rattle.names.specs.Inside.{form_seen}
use Rattle.names.specs.Lemmas.Midst.{leaves_any}
use Rattle.names.specs.Lemmas.Over.{form_stays}
use Rattle.names.specs.Making.{MakesAt}
use Rattle.names.specs.Ready.{AnyOf, HasNoCallAt, IsRootAlone, KeepsRoot, KeepsTree, LeavesIfDone, LeavesMidst, LeavesTree}
use Rattle.names.specs.declared.refusal.TreeFault.{TreeFault}
use Rattle.names.specs.declared.refusal.TreeFault.TheVariants.{Path, Refused, Call, NoSpace, NoCall}
use Rattle.tree_changes.specs.Lemmas.Lefts.{left_more, left_on}
use Rattle.tree_changes.specs.Puts.{WritesSome, piece_count}
use Rattle.wal.specs.Lemmas.Commits.{empty_lawful}
use Rattle.wal.specs.Lemmas.Stops.{if_synced, if_synced_wider, read_if_synced, run_leaves}
use Rattle.wal.specs.Recovery.{LeavesIfSynced, RecoversAs}
use Rattle.xvnames.specs.Making.{AddsAll, AddsPart, AddsSome, HasGrownInPart, KeepsGrowing, LeavesGrowing, StopsGrowing, files_named}
use Rattle.xvnames.specs.declared.making.Named.{Named}
use Rattle.xvnames.proofs.Added.{files_split, new_has_form, pair_of}

-- ---- files

-- the first were added, and none behind them
pub some_of : (form : Form) (named behind : List (List ℕ × List ℕ)) (a b : Files) → AddsAll form named a b → AddsSome form (named ++ behind) a b
some_of form [] [] a b is = is
some_of form [] (file ∷ behind) a b is = inl is
some_of form (file ∷ named) behind a b is = inr (inr (is.0, is.1, some_of form named behind is.0 b is.2))

-- and of the next one a part
pub some_then : (form : Form) (named : List (List ℕ × List ℕ)) (file : List ℕ × List ℕ) (behind : List (List ℕ × List ℕ)) (a b c : Files) → AddsAll form named a b → AddsPart form file.0 file.1 b c → AddsSome form (named ++ file ∷ behind) a c
some_then form [] file behind a b c is part = inr (inl (subst (λ (f : Files). AddsPart form file.0 file.1 f c) is part))
some_then form (first ∷ named) file behind a b c is part = inr (inr (is.0, is.1, some_then form named file behind is.0 b c is.2 part))

-- the root alone is a tree
pub alone_in_part : (form : Form) (named : List (List ℕ × List ℕ)) (files : Files) → IsRootAlone files → HasGrownInPart form named files
alone_in_part form named files alone =
    let tree = root_is_tree files alone.there alone.none in
    record { root = files; alone = alone; added = some_of form [] named files files refl; tree = tree; counted = root_is_counted files tree alone.there alone.none }

-- where no call is left, nothing is done at a path
pub nothing_at : {S T : Type 0} (path : List ℕ) (t u : S) (r : Result T TreeFault) → HasNoCallAt path t u r → u ≡ t
nothing_at path t u (Ok made) none = absurd none
nothing_at path t u (Err (Path cause)) none = none.0
nothing_at path t u (Err (Refused cause)) none = absurd none
nothing_at path t u (Err (Call cause)) none = absurd none
nothing_at path t u (Err NoSpace) none = absurd none
nothing_at path t u (Err NoCall) none = none

module _ {D N : Type 0} (disk : Ghosts D N) where
  -- ---- in a tree

  -- of a file that was made, and not written
  pub made_left : (k m : Plain D) (left : ℕ) (form : Form) (name bytes : List ℕ) → (left ≡ 0 → m ≡ k) → (0 < left → LeavesTree disk (MakesAt (names_of name)) k m) → LeavesIfDone disk (AddsPart form name bytes) k m
  made_left k m left form name bytes none leaves =
      ⊎_elim (λ (zero : left ≡ 0). inl (none zero))
      (λ (some : left ≢ 0).
      left_more disk (AnyOf (MakesAt (names_of name))) (AddsPart form name bytes) k m (λ z made. (made.0, (z, made.1, (0, omega arith, refl))))
      (inr (leaves_any disk (MakesAt (names_of name)) k m (leaves (omega (arith, some))))))
      (cases_eq left 0)

  -- and then written
  pub file_left : (k m e : Plain D) (name bytes : List ℕ) (number : ℕ) → StaysOver disk k m → MakesAt (names_of name) number (files_of (image_on disk.image k)) (files_of (image_on disk.image m))
      → LeavesIfDone disk (AddsPart (form_seen disk.image k) name bytes) k m → LeavesIfDone disk (WritesSome (form_seen disk.image m) name bytes (piece_count bytes)) m e → LeavesIfDone disk (AddsPart (form_seen disk.image k) name bytes) k e
  file_left k m e name bytes number stays makes before behind =
      let form = form_seen disk.image k in
      let mid = files_of (image_on disk.image m) in
      left_on disk (AddsPart form name bytes) (WritesSome form name bytes (piece_count bytes)) (AddsPart form name bytes) k m e before
      (subst (λ (f : Form). LeavesIfDone disk (WritesSome f name bytes (piece_count bytes)) m e) (form_stays disk k m stays) behind)
      (λ x z part. part)
      (number, (mid, makes, (0, omega arith, refl)))
      (λ z some. (number, (mid, makes, some)))

  -- of files of which the first were added, and then the next one
  pub files_left : (k m e : Plain D) (files : List Named) (i : ℕ) (d : Named) → i < length files → StaysOver disk k m
      → AddsAll (form_seen disk.image k) (files_named (take i files)) (files_of (image_on disk.image k)) (files_of (image_on disk.image m))
      → LeavesIfDone disk (AddsSome (form_seen disk.image k) (files_named files)) k m
      → LeavesIfDone disk (AddsPart (form_seen disk.image m) (slice_index_or files i d).name.now (slice_index_or files i d).bytes.items) m e
      → LeavesIfDone disk (AddsSome (form_seen disk.image k) (files_named files)) k e
  files_left k m e files i d lt stays added before behind =
      let form = form_seen disk.image k in
      let file = pair_of (slice_index_or files i d) in
      let first = files_named (take i files) in
      let rest = files_named (drop (i + 1) files) in
      let split = sym (files_split files i d lt) in
      let old = files_of (image_on disk.image k) in
      let mid = files_of (image_on disk.image m) in
      left_on disk (AddsSome form (files_named files)) (AddsPart form file.0 file.1) (AddsSome form (files_named files)) k m e before
      (subst (λ (f : Form). LeavesIfDone disk (AddsPart f file.0 file.1) m e) (form_stays disk k m stays) behind)
      (λ x z some. some)
      (subst (λ (all : List (List ℕ × List ℕ)). AddsSome form all old mid) split (some_of form first (file ∷ rest) old mid added))
      (λ z part. subst (λ (all : List (List ℕ × List ℕ)). AddsSome form all old z) split (some_then form first file rest old mid z added part))

  -- of a root
  pub root_left : (named : List (List ℕ × List ℕ)) (k m : Plain D) → LeavesOnly disk.moment disk.leaves k.store.volume.device m.store.volume.device (KeepsRoot (image_on disk.image k)) → LeavesGrowing disk named k m
  root_left named k m leaves =
      let form = form_seen disk.image k in
      leaves_wider disk.moment disk.leaves k.store.volume.device m.store.volume.device (KeepsRoot (image_on disk.image k)) (KeepsGrowing form named (image_on disk.image k))
      (λ z kept. record {
        log = kept.log;
        sound = kept.sound;
        files = ⊎_elim (λ (same : files_of (recovered z) ≡ files_of (image_on disk.image k)). inl same) (λ (alone : IsRootAlone (files_of (recovered z))). inr (alone_in_part form named (files_of (recovered z)) alone)) kept.files;
      }) leaves

  -- and then of files in it
  pub grown_left : (named : List (List ℕ × List ℕ)) (k m e : Plain D) → StaysOver disk k m → IsRootAlone (files_of (image_on disk.image m)) → LeavesGrowing disk named k m → LeavesIfDone disk (AddsSome (form_seen disk.image m) named) m e → LeavesGrowing disk named k e
  grown_left named k m e over alone first left =
      let form = form_seen disk.image k in
      let root = files_of (image_on disk.image m) in
      ⊎_elim (λ (still : e ≡ m). subst (λ (o : Plain D). LeavesGrowing disk named k o) (sym still) first)
      (λ (leaves : LeavesMidst disk (AddsSome (form_seen disk.image m) named) m e).
      joined disk.moment disk.leaves k.store.volume.device m.store.volume.device e.store.volume.device (KeepsGrowing form named (image_on disk.image k)) first
      (leaves_wider disk.moment disk.leaves m.store.volume.device e.store.volume.device (KeepsTree (λ (made : Unit {0}). AddsSome (form_seen disk.image m) named) (image_on disk.image m)) (KeepsGrowing form named (image_on disk.image k))
      (λ z kept. record {
        log = kept.log;
        sound = kept.sound;
        files = inr (record {
          root = root;
          alone = alone;
          added = ⊎_elim (λ (same : files_of (recovered z) ≡ root). some_of form [] named root (files_of (recovered z)) same)
              (λ (made : (t : Unit {0}) × AddsSome (form_seen disk.image m) named root (files_of (recovered z))). subst (λ (f : Form). AddsSome f named root (files_of (recovered z))) (form_stays disk k m over) made.1) kept.files;
          tree = kept.tree;
          counted = kept.counted;
        });
      }) leaves)) left

  -- ---- on a disk

  module _ (named : List (List ℕ × List ℕ)) (d : D) where
    abbrev Keeps : Image → Type 0
    Keeps = KeepsGrowing (form_of (recovered (disk.image d))) named (recovered (disk.image d))

    keeps : verdict (disk.image d) ≡ None → (z : Image) → RecoversAs (disk.image d) z → Keeps z
    keeps sound z same =
        let is = verdict_sound (disk.image d) sound in
        record { log = same.lawful ∙ is.1; sound = subst IsSound (sym same.image) is.2; files = inl (ap files_of same.image) }

    same_reads : (e : D) → e ≡ d → OnlyReads disk d e
    same_reads e same =
        subst (λ (o : D). OnlyReads disk d o) (sym same)
        (record { name = refl; image = refl; writes = refl; syncs = refl; time = record { later = omega arith; adds = λ t x le left. left; keeps = λ t x le left. left } })

    -- no kernel was opened
    pub unopened_left : (e : D) (cause : OpenFault) → IsNotOpenedPair disk d e cause → StopsGrowing disk named d e
    unopened_left e cause why = λ sound.
        if_synced_wider disk d e (RecoversAs (disk.image d)) Keeps (keeps sound)
        (⊎_elim (λ (unused : (cause ≡ open_fault.NoMemory) × (e ≡ d)). read_if_synced disk d e (same_reads e unused.1)) (λ (refuses : RefusesToOpen disk d e 2 cause). refuses.leaves) why)

    module _ (k first last : Plain D) (opened : IsOpenedPair disk d k) (is : first ≡ k) (leaves : LeavesGrowing disk named first last) where
      run : LeavesOnly disk.moment disk.leaves k.opening last.store.volume.device Keeps
      run =
          let opening : disk.image k.opening ≡ recovered (disk.image d) = ap disk.image (sym opened.device) ∙ opened.image in
          let here : LeavesGrowing disk named k last = subst (λ (o : Plain D). LeavesGrowing disk named o last) is leaves in
          subst (λ (o : D). LeavesOnly disk.moment disk.leaves o last.store.volume.device Keeps) opened.device
          (leaves_wider disk.moment disk.leaves k.store.volume.device last.store.volume.device (KeepsGrowing (form_seen disk.image k) named (image_on disk.image k)) Keeps
          (λ z kept. subst (λ (x : Image). KeepsGrowing (form_of (recovered (disk.image d))) named x z) opened.image
          (subst (λ (form : Form). KeepsGrowing form named (image_on disk.image k) z) (ap form_of opening) kept)) here)

      since : (e : D) → LeavesOnly disk.moment disk.leaves k.opening e Keeps → StopsGrowing disk named d e
      since e only = λ sound. if_synced disk d e Keeps (run_leaves disk d k.opening e (RecoversAs (disk.image d)) Keeps (keeps sound) opened.leaves only)

      -- one was opened, and files were put in its tree, or not all
      pub opened_left : (e : D) → e ≡ last.store.volume.device → StopsGrowing disk named d e
      opened_left e same = subst (λ (o : D). StopsGrowing disk named d o) (sym same) (since last.store.volume.device run)

      -- and then it was synced, or left alone
      pub ended_left : (dev e : D) → dev ≡ last.store.volume.device → AddsNone (disk.moment dev) (disk.moment e) (disk.leaves dev) (disk.leaves e) → StopsGrowing disk named d e
      ended_left dev e same time =
          since e (stays disk.moment disk.leaves k.opening dev e Keeps (subst (λ (o : D). LeavesOnly disk.moment disk.leaves k.opening o Keeps) (sym same) run) time)

  -- on one with a new image
  pub new_left : (form : Form) (size n : ℕ) (named : List (List ℕ × List ℕ)) (d e : D) → is_inode_count n ≡ true → is_size size n ≡ true → disk.image d ≡ made_image form size n → StopsGrowing disk named d e → LeavesIfSynced disk d e (KeepsGrowing form named (disk.image d))
  new_left form size n named d e count fits is leaves =
      let x = made_image form size n in
      let sound = sound-made_image form size n count fits in
      let same : recovered (disk.image d) ≡ disk.image d = recovered_empty (disk.image d) (ap logged_count is ∙ sound.empty_log) in
      let one_form : form_of (recovered (disk.image d)) ≡ form = ap (λ (y : Image). form_of (recovered y)) is ∙ new_has_form form size n count fits in
      let none : verdict x ≡ None = sound_verdict x (sound.geometry, empty_lawful x sound.empty_log, subst IsSound (sym (recovered_empty x sound.empty_log)) sound) in
      subst (λ (f : Form). LeavesIfSynced disk d e (KeepsGrowing f named (disk.image d))) one_form
      (subst (λ (y : Image). LeavesIfSynced disk d e (KeepsGrowing (form_of (recovered (disk.image d))) named y)) same
      (leaves (subst (λ (y : Image). verdict y ≡ None) (sym is) none)))
