-- Calls that fill a kernel, one after the other.
use Rattle.std.proofs.Common.{◌≡◌, ◌≢◌, ◌⊎◌, ◌∙◌, ℕ, ◌+◌, ◌-◌, ◌<◌, ◌≤◌, min, Bool, true, false, All, List, length, get_or, map, set, take, drop, Option, Some, None, refl, sym, ap, subst, ⊎_elim, arith}
use Rattle.std.proofs.lemmas.Bool.{cases_eq}
use Rattle.std.proofs.lemmas.List.{get_or_past, take_all}
use Rattle.std.proofs.lemmas.List.Elements.{All-from_get_or}
use Rattle.blocks.specs.Disk.{Image, Rose}
use Rattle.blocks.specs.declared.disk.Disk.{Ghosts}
use Rattle.model.specs.declared.types.image.Dinode.{Dinode}
use Rattle.model.specs.declared.types.image.File.{File}
use Rattle.model.specs.declared.types.image.Form.{Form}
use Rattle.model.specs.declared.types.image.Form.TheVariants.{One, Two}
use Rattle.model.specs.Files.{Files, bytes_in, file_in, files_of}
use Rattle.model.specs.Layout.{form_of, greatest_size, inode_count_of, inode_of}
use Rattle.model.specs.Log.{recovered}
use Rattle.model.specs.Operations.{part_of}
use Rattle.model.specs.Lemmas.Super.{lawful_geometry}
use Rattle.offline.specs.Laws.{IsWholeInode}
use Rattle.offline.specs.Recovered.{MayReadFile}
use Rattle.calls.specs.Calls.{call_count, image_on}
use Rattle.calls.specs.Stepping.{Plain}
use Rattle.calls.specs.Answered.{IsAnswered}
use Rattle.calls.specs.Files.{Appends, AppendsPart, Creates, MakesFile, MakesNone, MayAppend, appended, empty_file, files_on, size_of, without_bytes}
use Rattle.transfer.specs.Holding.{BreaksOff, CutsShort, HasFirst, HasNoRoom, Holds, IsUnwritten}
use Rattle.transfer.specs.Source.{IsSourceOf, chosen_at, chosen_files}
use Rattle.transfer.specs.Stages.{kind_at, kept_at, kind_or_plain, listed, made_at, written_at}
use Rattle.transfer.specs.declared.fault.CopyFault.{CopyFault}
use Rattle.transfer.specs.declared.fault.CopyFault.TheVariants.{Old, NotFirst, Mkfs, Full, Leaked, NoMemory, Disk}
use Rattle.transfer.specs.declared.source.Source.{Source}
use Rattle.transfer.proofs.SourceLemmas.{chosen_free, chosen_used, chosen_zero, count_recovered, form_recovered}
use Rattle.transfer.proofs.StageLemmas.{few_bytes, in_listed, kept_end, kept_removed, kept_same, kept_there, length-listed, made_always, made_next, piece_appended, piece_begun, piece_fits, written_empty, written_end, written_next, written_none, written_start}

module _ {D N : Type 0} (disk : Ghosts D N) where
  -- after a call more
  pub holds_next : (most : ℕ) {files new : Files} (k m : Plain D) → Holds disk most files k → IsAnswered disk k m → m.opening ≡ k.opening → files_on disk.image m ≡ new → Holds disk (most + 1) new m
  holds_next most k m before answered opening is = record {
    rests = answered.rests;
    few = let few = before.few in let more = answered.one_more in omega arith;
    sound = answered.whole.sound;
    form = answered.form ∙ before.form ∙ ap (λ (d : D). form_of (disk.image d)) (sym opening);
    size = answered.whole.size ∙ before.size ∙ ap (λ (d : D). length (disk.image d)) (sym opening);
    held = is;
  }

  -- the same, said otherwise
  pub holds_as : (most more : ℕ) {files new : Files} (k : Plain D) → Holds disk most files k → most ≤ more → files ≡ new → Holds disk more new k
  holds_as most more k before le same = record {
    rests = before.rests;
    few = let few = before.few in omega arith;
    sound = before.sound;
    form = before.form;
    size = before.size;
    held = before.held ∙ same;
  }

  -- how many numbers there are
  pub count_listed : (most count : ℕ) (at : ℕ → Option File) (k : Plain D) → Holds disk most (listed count at) k → length (files_on disk.image k) ≡ count
  count_listed most count at k holds = ap length holds.held ∙ length-listed count at

  -- ---- the numbers, one after the other

  module _ (kinds : List ℕ) (count k : ℕ) (room : k + 1 < count) (l m : Plain D) (before : Holds disk k (listed count (made_at kinds k)) l) where
    pub one_made : (kind i : ℕ) (made : Option ℕ) → kind ≡ kind_or_plain (get_or kinds k 0) → made ≡ Some i → Creates kind made (files_on disk.image l) (files_on disk.image m) →
        IsAnswered disk l m → m.opening ≡ l.opening → Holds disk (k + 1) (listed count (made_at kinds (k + 1))) m
    one_made kind i made is number creates answered opening =
        let some : MakesFile kind i (files_on disk.image l) (files_on disk.image m)
        = subst (λ (o : Option ℕ). Creates kind o (files_on disk.image l) (files_on disk.image m)) number creates in
        let makes = subst (λ (files : Files). MakesFile kind i files (files_on disk.image m)) before.held some in
        holds_next k l m before answered opening (made_next kinds count k room kind i (files_on disk.image m) is makes)

    -- a number is always made
    pub never_full : (kind : ℕ) (made : Option ℕ) → made ≡ None → Creates kind made (files_on disk.image l) (files_on disk.image m) → ⊥
    never_full kind made number creates =
        let none : MakesNone (files_on disk.image l) (files_on disk.image m)
        = subst (λ (o : Option ℕ). Creates kind o (files_on disk.image l) (files_on disk.image m)) number creates in
        made_always kinds count k room (files_on disk.image m) (subst (λ (files : Files). MakesNone files (files_on disk.image m)) before.held none)

  module _ (kinds : List ℕ) (count k most : ℕ) (room : k + 1 < count) (l : Plain D) (before : Holds disk most (listed count (kept_at kinds k)) l) where
    -- a number that isn't removed yet has a file
    pub still_there : k < length kinds → file_in (files_on disk.image l) (k + 1) ≢ None
    still_there low none =
        kept_there kinds count k room low (ap (λ (files : Files). file_in files (k + 1)) (sym before.held) ∙ none)

    pub one_removed : (m : Plain D) → get_or kinds k 0 ≡ 0 → files_on disk.image m ≡ set (files_on disk.image l) (k + 1) None → IsAnswered disk l m → m.opening ≡ l.opening →
        Holds disk (most + 1) (listed count (kept_at kinds (k + 1))) m
    one_removed m free removes answered opening =
        holds_next most l m before answered opening
        (removes ∙ ap (λ (files : Files). set files (k + 1) None) before.held ∙ kept_removed kinds count k room free)

    pub one_kept : get_or kinds k 0 ≢ 0 → Holds disk (most + 1) (listed count (kept_at kinds (k + 1))) l
    one_kept used = holds_as most (most + 1) l before (omega arith) (kept_same kinds count k used)

  -- ---- the pieces of a file, one after the other

  module _ (files : Files) (i : ℕ) (empty : size_of (file_in files i) ≡ Some 0) (all : List ℕ) (size at count : ℕ) (few : length all ≤ size) (inside : at < size) (is : count ≡ min 3072 (size - at))
      (bytes : List ℕ) (read : bytes ≡ take count (drop at all)) (most : ℕ) (l : Plain D) (before : Holds disk most (appended files i (take at all)) l) where
    pub piece_allowed : (form : Form) → form ≡ form_of (disk.image l.opening) → size ≤ greatest_size form → length bytes ≡ count → MayAppend (form_of (image_on disk.image l)) (file_in (files_on disk.image l) i) at (length bytes)
    piece_allowed form is_form small long =
        let here : form ≡ form_of (image_on disk.image l) = is_form ∙ sym before.form in
        subst (λ (now : Files). MayAppend (form_of (image_on disk.image l)) (file_in now i) at (length bytes)) (sym before.held)
        (piece_fits all size at count few inside is (form_of (image_on disk.image l)) files i bytes empty (subst (λ (f : Form). size ≤ greatest_size f) here small) read long)

    pub one_appended : (m : Plain D) (whole : Bool) → whole ≡ true → Appends whole i bytes (image_on disk.image l) (image_on disk.image m) → IsAnswered disk l m → m.opening ≡ l.opening →
        Holds disk (most + 1) (appended files i (take (at + 3072) all)) m
    one_appended m whole true_is appends answered opening =
        let made : files_on disk.image m ≡ appended (files_on disk.image l) i bytes
        = subst (λ (b : Bool). Appends b i bytes (image_on disk.image l) (image_on disk.image m)) true_is appends in
        holds_next most l m before answered opening
        (made ∙ ap (λ (now : Files). appended now i bytes) before.held ∙ piece_appended all size at count few inside is files i bytes empty read)

    -- or no block is free, and only the first of its bytes are there
    pub part_appended : (m : Plain D) (whole : Bool) → whole ≡ false → Appends whole i bytes (image_on disk.image l) (image_on disk.image m) → length bytes ≡ count → IsAnswered disk l m →
        (o : D) → l.opening ≡ o → (these : List ℕ) → all ≡ these → CutsShort i (appended files i these) i (files_on disk.image m) × HasNoRoom (length (disk.image o)) (form_of (disk.image o)) (image_on disk.image m)
    part_appended m whole false_is appends long answered o opening these same =
        let part : AppendsPart i bytes (image_on disk.image l) (image_on disk.image m)
        = subst (λ (b : Bool). Appends b i bytes (image_on disk.image l) (image_on disk.image m)) false_is appends in (
          (
            refl,
            subst (λ (b : List ℕ). HasFirst i (appended files i b) (files_on disk.image m)) same
                (piece_begun all size at count few inside is files i bytes part.count empty read long part.fewer (files_on disk.image m)
                (part.files ∙ ap (λ (now : Files). appended now i (take part.count bytes)) before.held)),
          ),
          record {
            sound = answered.whole.sound;
            form = answered.form ∙ before.form ∙ ap (λ (d : D). form_of (disk.image d)) opening;
            long = answered.whole.size ∙ before.size ∙ ap (λ (d : D). length (disk.image d)) opening;
            full = part.full;
          },
        )

  -- at last all of its bytes are there
  pub all_appended : (files : Files) (i : ℕ) (x : Image) (d e : Dinode) (n most more : ℕ) (l : Plain D) → Holds disk most (appended files i (take n (bytes_in x d))) l → most ≤ more → d.size ≤ n → d ≡ e →
      Holds disk more (appended files i (bytes_in x e)) l
  all_appended files i x d e n most more l before le long same =
      let few = few_bytes x d in
      holds_as most more l before le (ap (appended files i) (take_all n (bytes_in x d) (omega arith) ∙ ap (bytes_in x) same))

  -- ---- the files, one after the other

  holds_own : (most : ℕ) (files : Files) (l : Plain D) → Holds disk most files l → Holds disk (call_count l) (files_on disk.image l) l
  holds_own most files l before = record {
    rests = before.rests;
    few = omega arith;
    sound = before.sound;
    form = before.form;
    size = before.size;
    held = refl;
  }

  module _ (files : Files) (k : ℕ) (room : k + 1 < length files) (most : ℕ) (l : Plain D) (before : Holds disk most (listed (length files) (written_at files k)) l) where
    module _ (file : File) (is : file_in files (k + 1) ≡ Some file) where
      -- a file that isn't written yet is empty
      pub still_empty : Holds disk (call_count l) (files_on disk.image l) l × (size_of (file_in (files_on disk.image l) (k + 1)) ≡ Some 0)
      still_empty = (
        holds_own most _ l before,
        ap (λ (now : Files). size_of (file_in now (k + 1))) before.held ∙ written_empty files k room file is,
      )

      -- why its file is not all written is why not all files are
      pub one_unwritten : {C M : Type 0} (from : Ghosts C M) (c d c' : C) (p o e : D) (fault : CopyFault) → IsUnwritten from disk (CutsShort (k + 1) (appended (files_on disk.image l) (k + 1) file.bytes)) c c' p e fault →
          from.fault_count c ≡ from.fault_count d → p ≡ o → IsUnwritten from disk (BreaksOff files) d c' o e fault
      one_unwritten from c d c' p o e (Old fault) refused same opening = refused
      one_unwritten from c d c' p o e NotFirst refused same opening = refused
      one_unwritten from c d c' p o e (Mkfs fault) refused same opening = refused
      one_unwritten from c d c' p o e (Full i) refused same opening = refused
      one_unwritten from c d c' p o e (Leaked i) refused same opening =
          let now = ap (λ (now : Files). appended now (k + 1) file.bytes) before.held ∙ written_next files k room file is in (
            subst (λ (n : ℕ). BreaksOff files n (files_of (disk.image e))) (sym refused.0.0) (subst (λ (old : Files). HasFirst (k + 1) old (files_of (disk.image e))) now refused.0.1),
            subst (λ (d : D). HasNoRoom (length (disk.image d)) (form_of (disk.image d)) (disk.image e)) opening refused.1,
            refused.2 ∙ same,
          )
      one_unwritten from c d c' p o e NoMemory refused same opening = refused
      one_unwritten from c d c' p o e Disk refused same opening =
          subst (λ (n : ℕ). Rose n (from.fault_count c') ⊎ Rose (disk.fault_count o) (disk.fault_count e)) same
          (subst (λ (q : D). Rose (from.fault_count c) (from.fault_count c') ⊎ Rose (disk.fault_count q) (disk.fault_count e)) opening refused)

      pub one_written : (m : Plain D) → Holds disk (call_count l + 21935) (appended (files_on disk.image l) (k + 1) file.bytes) m → Holds disk (most + 21935) (listed (length files) (written_at files (k + 1))) m
      one_written m written =
          let few = before.few in
          holds_as (call_count l + 21935) (most + 21935) m written (omega arith)
          (ap (λ (now : Files). appended now (k + 1) file.bytes) before.held ∙ written_next files k room file is)

    pub none_written : file_in files (k + 1) ≡ None → Holds disk (most + 21935) (listed (length files) (written_at files (k + 1))) l
    none_written none = holds_as most (most + 21935) l before (omega arith) (written_none files k none)

-- ---- the old image

-- the most bytes that a file has, in any form
pub most_bytes : (form : Form) → greatest_size form ≤ 67382272
most_bytes One = omega arith
most_bytes Two = omega arith

module _ (x : Image) (source : Source) (is : IsSourceOf x source) where
  pub count_source : inode_count_of (recovered x) ≡ inode_count_of x
  count_source = count_recovered x is.image.geometry is.image.header.lawful

  pub few_numbers : inode_count_of x ≤ 1024
  few_numbers = (lawful_geometry x is.image.geometry).few

  pub small_file : (i : ℕ) (d : Dinode) → IsWholeInode (recovered x) (inode_of (recovered x) i) → d ≡ inode_of (recovered x) i → d.size ≤ greatest_size source.form
  small_file i d whole here =
      let size = whole.size in
      let fits = is.fits in
      let form = ap greatest_size (form_recovered x is.image.geometry is.image.header.lawful) in
      subst (λ (e : Dinode). e.size ≤ greatest_size source.form) (sym here) (omega (arith, size, fits, form))

  pub low_kinds : All (λ kind. kind ≤ 3) source.kinds.items
  low_kinds =
      All-from_get_or (λ kind. kind ≤ 3) source.kinds.items 0
      (λ k low.
      ⊎_elim (λ (free : get_or source.kinds.items k 0 ≡ 0). subst (λ (n : ℕ). n ≤ 3) (sym free) (omega arith))
      (λ (used : get_or source.kinds.items k 0 ≢ 0). subst (λ (n : ℕ). n ≤ 3) (sym (is.each k low used)) (is.whole k low used).kind)
      (cases_eq (get_or source.kinds.items k 0) 0))

  -- a file that is copied may be read
  pub readable : (y : Image) (i : ℕ) (d : Dinode) → y ≡ x → IsWholeInode (recovered x) (inode_of (recovered x) i) → d ≡ inode_of (recovered x) i → MayReadFile (recovered y) d
  readable y i d same whole here =
      subst (λ (z : Image). MayReadFile (recovered z) d) (sym same)
      (subst (MayReadFile (recovered x)) (sym here) whole.reads)

  -- a piece that was read of it is a part of its bytes
  pub piece_read : (y : Image) (d : Dinode) (at count n : ℕ) (bytes : List ℕ) → y ≡ x → n ≡ count → bytes ≡ part_of (bytes_in (recovered y) d) at n → bytes ≡ take count (drop at (bytes_in (recovered x) d))
  piece_read y d at count n bytes same long read =
      read ∙ ap (λ (k : ℕ). take k (drop at (bytes_in (recovered y) d))) long
      ∙ ap (λ (z : Image). take count (drop at (bytes_in (recovered z) d))) same

  -- ---- its files that are copied

  abbrev chosen : Files
  chosen = chosen_files (recovered x) source.kinds.items

  pub long_chosen : length chosen ≡ inode_count_of x
  long_chosen = length-listed (inode_count_of (recovered x)) (chosen_at (recovered x) source.kinds.items) ∙ count_source

  -- what stands there once the free numbers are removed
  pub kept_chosen : listed (inode_count_of (recovered x)) (kept_at source.kinds.items (length source.kinds.items)) ≡ map without_bytes chosen
  kept_chosen =
      let y = recovered x in
      let kinds = source.kinds.items in
      kept_end kinds (inode_count_of y) (chosen_at y kinds) (chosen_zero y kinds) (λ i free. chosen_free y kinds i free)
      (λ i some low used.
      let inside : i - 1 < length kinds = omega arith in
      let at : i - 1 + 1 ≡ i = omega arith in
      let kind : kind_at kinds i ≡ (inode_of y i).kind = is.each (i - 1) inside used ∙ ap (λ (j : ℕ). (inode_of y j).kind) at in
      ap without_bytes (chosen_used y kinds i some used kind) ∙ ap empty_file (sym kind))

  pub none_chosen : file_in chosen 0 ≡ None
  none_chosen =
      let few = is.few in
      in_listed (inode_count_of (recovered x)) (chosen_at (recovered x) source.kinds.items) 0 (omega (arith, count_source, few)) ∙ chosen_zero (recovered x) source.kinds.items

  pub start_chosen : map without_bytes chosen ≡ listed (length chosen) (written_at chosen 0)
  start_chosen = written_start chosen none_chosen

  module _ (k : ℕ) (low : k < length source.kinds.items) where
    pub number_within : k + 1 < inode_count_of x
    number_within = let few = is.few in omega arith

    pub number_listed : k + 1 < length chosen
    number_listed = let few = is.few in omega (arith, long_chosen)

    chosen_here : file_in chosen (k + 1) ≡ chosen_at (recovered x) source.kinds.items (k + 1)
    chosen_here =
        let few = is.few in
        in_listed (inode_count_of (recovered x)) (chosen_at (recovered x) source.kinds.items) (k + 1) (omega (arith, count_source, few))

    kind_here : kind_at source.kinds.items (k + 1) ≡ get_or source.kinds.items k 0
    kind_here =
        let at : (k + 1) - 1 ≡ k = omega arith in
        ap (λ (n : ℕ). get_or source.kinds.items n 0) at

    pub file_listed : get_or source.kinds.items k 0 ≢ 0 → file_in chosen (k + 1) ≡ Some (record { kind = (inode_of (recovered x) (k + 1)).kind; links = 1; bytes = bytes_in (recovered x) (inode_of (recovered x) (k + 1)) })
    file_listed used =
        chosen_here ∙ chosen_used (recovered x) source.kinds.items (k + 1) (omega arith) (λ free. used (sym kind_here ∙ free)) (kind_here ∙ is.each k low used)

    pub none_listed : get_or source.kinds.items k 0 ≡ 0 → file_in chosen (k + 1) ≡ None
    none_listed free = chosen_here ∙ chosen_free (recovered x) source.kinds.items (k + 1) (kind_here ∙ free)

  -- the last of them has the last file
  pub all_written : listed (length chosen) (written_at chosen (length source.kinds.items)) ≡ chosen
  all_written =
      written_end chosen (length source.kinds.items)
      (λ i past low.
      let within : i < inode_count_of (recovered x) = omega (arith, low, length-listed (inode_count_of (recovered x)) (chosen_at (recovered x) source.kinds.items)) in
      in_listed (inode_count_of (recovered x)) (chosen_at (recovered x) source.kinds.items) i within
      ∙ chosen_free (recovered x) source.kinds.items i (get_or_past source.kinds.items (i - 1) 0 (omega arith)))
