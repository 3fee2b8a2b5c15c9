-- Files that are added to a tree one after the other.
use Rattle.std.proofs.Common.{◌≡◌, Bool, true, false, if◌then◌else◌, ◌==◌, arith, List, [], ◌∷◌, ◌++◌, ℕ, ◌+◌, ◌<◌, Bor, length, map, slice_index_or, take, drop, refl, subst, sym, ap, ◌∙◌}
use Rattle.std.proofs.lemmas.List.{drop_more, map-append, map_more, map_push, take-append-drop}
use Rattle.blocks.specs.Disk.{Image}
use Rattle.blocks.specs.declared.disk.Disk.{Ghosts}
use Rattle.calls.specs.Calls.{image_on}
use Rattle.calls.specs.Opening.{IsOpenedPair}
use Rattle.calls.specs.Stepping.{Plain}
use Rattle.calls.specs.Stopped.{StaysOver}
use Rattle.calls.specs.Transactions.{HasLabels, IsLabelled}
use Rattle.model.specs.Codec.{made_image}
use Rattle.model.specs.Crash.{labels_of}
use Rattle.model.specs.declared.types.operations.Entry.{Entry}
use Rattle.model.specs.Files.{Files, files_of}
use Rattle.model.specs.Journal.{is_making}
use Rattle.model.specs.Layout.{form_of, inode_count_of, is_inode_count, is_size, magic_at, magic_of}
use Rattle.model.specs.Lemmas.FileNumbers.{below_there, length-files_of}
use Rattle.model.specs.Lemmas.Log.{recovered_empty}
use Rattle.model.specs.Lemmas.MadeImages.{is_within, magic-made_image, sound-made_image}
use Rattle.model.specs.Log.{recovered}
use Rattle.model.specs.declared.types.image.Form.{Form}
use Rattle.model.specs.declared.types.image.Form.TheVariants.{One, Two}
use Rattle.names.specs.Inside.{form_seen}
use Rattle.transfer.specs.Ending.{SyncsIf}
use Rattle.std.specs.List.{list_any}
use Rattle.xvnames.specs.Making.{AddsAll, AddsFile, AreNamed, HasGrown, IsNameOf, IsUnlabelled, files_named, new_labels}
use Rattle.xvnames.specs.declared.making.Named.{Named}

-- one more at the end
pub one_more_added : (form : Form) (named : List (List ℕ × List ℕ)) (file : List ℕ × List ℕ) (a b c : Files) → AddsAll form named a b → AddsFile form file.0 file.1 b c → AddsAll form (named ++ file ∷ []) a c
one_more_added form [] file a b c is adds = (c, subst (λ (f : Files). AddsFile form file.0 file.1 f c) is adds, refl)
one_more_added form (first ∷ named) file a b c is adds = (is.0, is.1, one_more_added form named file is.0 b c is.2 adds)

-- so is one more that is named by its path
pub one_more_named : (paths : List (List ℕ)) (path : List ℕ) (named : List (List ℕ × List ℕ)) (file : List ℕ × List ℕ) → AreNamed paths named → IsNameOf path file.0 → AreNamed (paths ++ path ∷ []) (named ++ file ∷ [])
one_more_named [] path [] file are is = (is, tt)
one_more_named [] path (first ∷ named) file are is = absurd are
one_more_named (first ∷ paths) path [] file are is = absurd are
one_more_named (first ∷ paths) path (other ∷ named) file are is = (are.0, one_more_named paths path named file are.1 is)

abbrev pub pair_of : Named → List ℕ × List ℕ
pair_of file = (file.name.now, file.bytes.items)

-- the next of some files was added
pub file_more_added : (form : Form) (files : List Named) (i : ℕ) (d : Named) (a b c : Files) → i < length files → AddsAll form (files_named (take i files)) a b → AddsFile form (slice_index_or files i d).name.now (slice_index_or files i d).bytes.items b c → AddsAll form (files_named (take (i + 1) files)) a c
file_more_added form files i d a b c lt so_far one =
    subst (λ (named : List (List ℕ × List ℕ)). AddsAll form named a c) (sym (map_more pair_of files i d lt)) (one_more_added form (files_named (take i files)) (pair_of (slice_index_or files i d)) a b c so_far one)

-- those before the next, it, and those behind it
pub files_split : (files : List Named) (i : ℕ) (d : Named) → i < length files → files_named files ≡ files_named (take i files) ++ pair_of (slice_index_or files i d) ∷ files_named (drop (i + 1) files)
files_split files i d lt = ap files_named (sym (take-append-drop i files)) ∙ map-append pair_of (take i files) (drop i files) ∙ ap (λ (rest : List Named). files_named (take i files) ++ files_named rest) (drop_more files i d lt)

-- the file at the next path was read
pub path_more_named : (paths : List (Bor (List ℕ))) (i : ℕ) (d : Bor (List ℕ)) (files : List Named) (file : Named) → i < length paths → AreNamed (map (λ path. path.now) (take i paths)) (files_named files) → IsNameOf (slice_index_or paths i d).now file.name.now
    → AreNamed (map (λ path. path.now) (take (i + 1) paths)) (files_named (files ++ file ∷ []))
path_more_named paths i d files file lt so_far one =
    let text = λ (path : Bor (List ℕ)). path.now in
    subst (λ (ps : List (List ℕ)). AreNamed ps (files_named (files ++ file ∷ []))) (sym (map_more text paths i d lt))
    (subst (λ (named : List (List ℕ × List ℕ)). AreNamed (map text (take i paths) ++ text (slice_index_or paths i d) ∷ []) named) (sym (map_push pair_of files file))
    (one_more_named (map text (take i paths)) (text (slice_index_or paths i d)) (files_named files) (pair_of file) so_far one))

module _ {D N : Type 0} (disk : Ghosts D N) where
  -- a sync leaves the image
  pub synced_image : (sync : Bool) (d e : D) → SyncsIf sync disk d e → disk.image e ≡ disk.image d
  synced_image true d e syncs = syncs.image
  synced_image false d e same = ap disk.image same

  -- a tree that grew over a disk has the form of the image there
  pub form_opened : (named : List (List ℕ × List ℕ)) (d : D) (k first last : Plain D) (e : D) → IsOpenedPair disk d k → first ≡ k → e ≡ last.store.volume.device
      → HasGrown (form_seen disk.image first) named (files_of (image_on disk.image last)) → HasGrown (form_of (recovered (disk.image d))) named (files_of (disk.image e))
  form_opened named d k first last e opened is left grown =
      let one_form : form_seen disk.image first ≡ form_of (recovered (disk.image d))
      = ap (λ (m : Plain D). form_seen disk.image m) is ∙ ap (λ (o : D). form_of (disk.image o)) (sym opened.device) ∙ ap form_of opened.image in
      subst (λ (o : D). HasGrown (form_of (recovered (disk.image d))) named (files_of (disk.image o))) (sym left)
      (subst (λ (f : Form). HasGrown f named (files_of (image_on disk.image last))) one_form grown)

  -- the files of a tree that grew over a disk have the labels of new ones, where its inodes had them
  pub labels_opened : (d : D) (k first last : Plain D) (x : Image) → IsOpenedPair disk d k → first ≡ k → StaysOver disk first last → IsLabelled disk.image last x → IsUnlabelled (recovered (disk.image d)) → HasLabels new_labels x
  labels_opened d k first last x opened is stays labelled fresh = λ i there.
      let o = disk.image last.opening in
      let opening : o ≡ recovered (disk.image d)
      = ap disk.image stays.opening ∙ ap (λ (m : Plain D). disk.image m.opening) is ∙ ap disk.image (sym opened.device) ∙ opened.image in
      let below : i < inode_count_of o = subst (λ (n : ℕ). i < n) (length-files_of x ∙ labelled.numbers) (below_there (files_of x) i there) in
      labelled.labels i there ∙ none_or (list_any (λ (e : Entry). is_making i e.reply) last.world.journal.list) (labels_of o i) (subst IsUnlabelled (sym opening) fresh i below)
    where
      none_or : (b : Bool) (p : ℕ × ℕ) → p ≡ (0, 0) → (if b then (0, 0) else p) ≡ (0, 0)
      none_or true p is = refl
      none_or false p is = is

-- an image has the form of its magic number
form_from_magic : (form : Form) (x : Image) → magic_at x ≡ magic_of form → form_of x ≡ form
form_from_magic One x is = ap (λ (m : ℕ). if m == magic_of Two then Two else One) is
form_from_magic Two x is = ap (λ (m : ℕ). if m == magic_of Two then Two else One) is

-- a new image has the form that was asked for
pub new_has_form : (form : Form) (size n : ℕ) → is_inode_count n ≡ true → is_size size n ≡ true → form_of (recovered (made_image form size n)) ≡ form
new_has_form form size n count fits =
    let x = made_image form size n in
    let room = (is_within size n count fits).room in
    ap form_of (recovered_empty x (sound-made_image form size n count fits).empty_log) ∙ form_from_magic form x (magic-made_image form size n (omega arith))
