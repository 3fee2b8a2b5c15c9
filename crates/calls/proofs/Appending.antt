-- Two writes of a transaction at the end of a file, one behind the other.
use Rattle.std.proofs.Common.{arith, ◌≡◌, ◌≢◌, ◌∙◌, ℕ, ◌+◌, ◌<◌, ◌≤◌, Bool, true, false, eqb, List, ◌++◌, length, set, take, drop, Option, Some, None, refl, sym, ap, subst, inl, inr, ⊎_elim}
use Rattle.std.proofs.Math.Seq.{take-add}
use Rattle.std.proofs.lemmas.Bool.{cases_eq, eq-eqb, ne_eqb}
use Rattle.std.proofs.lemmas.List.{append_assoc, get_or-set_same, length-append, length-drop, length-take, set-set, take-take, take_all}
use Rattle.blocks.specs.Disk.{Image, LeavesOnly}
use Rattle.blocks.specs.declared.disk.Disk.{Ghosts}
use Rattle.history.specs.Lemmas.Leaving.{leaves_wider}
use Rattle.model.specs.Files.{Files, file_in, files_of}
use Rattle.model.specs.Journal.{is_making}
use Rattle.model.specs.Layout.{form_of}
use Rattle.model.specs.Lemmas.FileNumbers.{below_there}
use Rattle.model.specs.Operations.{after, transfer_limit, with_bytes}
use Rattle.model.specs.declared.types.image.File.{File}
use Rattle.model.specs.declared.types.operations.Entry.{Entry}
use Rattle.model.specs.declared.types.operations.Op.{Op}
use Rattle.model.specs.declared.types.operations.Op.TheVariants.{Write}
use Rattle.model.specs.declared.types.operations.Reply.{Reply}
use Rattle.model.specs.declared.types.operations.Reply.TheVariants.{Wrote}
use Rattle.calls.specs.Answered.{IsCommitted}
use Rattle.calls.specs.Calls.{KeepsFiles, call_count, image_on}
use Rattle.calls.specs.Files.{Appends, AppendsPart, IsFull, MayAppend, MayAppendTwo, appended, files_on, size_of, with_more}
use Rattle.calls.specs.Lemmas.After.{HasWritten, after_write}
use Rattle.calls.specs.Lemmas.Sizes.{there_of_size}
use Rattle.calls.specs.Stepping.{Plain}
use Rattle.calls.specs.Stopped.{AppendsFirst, KeepsChange}
use Rattle.calls.specs.Transactions.{Adds, Begins, Commits, HasFiles, KeepsEither, Rests, image_seen, labels_made}
use Rattle.calls.proofs.Grouped.{IsGroup, KeepsMade, done, group_begun, group_committed, group_files, group_full, group_leaves, group_more}

-- ---- bytes behind bytes

more_again : (o : Option File) (a b : List ℕ) → with_more (with_more o a) b ≡ with_more o (a ++ b)
more_again None a b = refl
more_again (Some file) a b = ap (with_bytes file) (append_assoc file.bytes a b)

more_size : (o : Option File) (a : List ℕ) (n : ℕ) → size_of o ≡ Some n → size_of (with_more o a) ≡ Some (n + length a)
more_size None a n is = absurd (cc is)
more_size (Some file) a n is = let long : length file.bytes ≡ n = cc is in ap Some (length-append file.bytes a ∙ ap (λ (k : ℕ). k + length a) long)

appended_in : (files : Files) (i : ℕ) (a : List ℕ) → i < length files → file_in (appended files i a) i ≡ with_more (file_in files i) a
appended_in files i a below = get_or-set_same files i (with_more (file_in files i) a) None below

appended_again : (files : Files) (i : ℕ) (a b : List ℕ) → i < length files → appended (appended files i a) i b ≡ appended files i (a ++ b)
appended_again files i a b below =
    ap (λ (o : Option File). set (appended files i a) i (with_more o b)) (appended_in files i a below)
    ∙ ap (set (appended files i a) i) (more_again (file_in files i) a b)
    ∙ set-set files i _ _

-- ---- what a stop leaves

pub unchanged_leaves : {D N : Type 0} (disk : Ghosts D N) (change : Files → Files → Type 0) (k m : Plain D) → LeavesOnly disk.moment disk.leaves k.store.volume.device m.store.volume.device (KeepsFiles (image_on disk.image k))
    → LeavesOnly disk.moment disk.leaves k.store.volume.device m.store.volume.device (KeepsChange change (image_on disk.image k))
unchanged_leaves disk change k m only =
    let x = image_on disk.image k in
    leaves_wider disk.moment disk.leaves k.store.volume.device m.store.volume.device (KeepsFiles x) (KeepsChange change x)
    (λ z kept. record { log = kept.log; sound = kept.sound; files = inl kept.files; unshown = kept.unshown }) only

-- a write makes no number
no_number : {A : Type 0} (r : Reply) (count i : ℕ) → r ≡ Wrote count → is_making i (Some r) ≡ true → A
no_number r count i so making = let no : true ≡ false = sym making ∙ ap (λ (p : Reply). is_making i (Some p)) so in absurd (cc no)

module _ {D N : Type 0} (disk : Ghosts D N) (k : Plain D) (i off : ℕ) (bytes : List ℕ) (more : transfer_limit < length bytes) (room : MayAppendTwo (form_of (image_on disk.image k)) (file_in (files_on disk.image k) i) off (length bytes)) where
  abbrev x : Image
  x = image_on disk.image k

  abbrev files : Files
  files = files_of (image_on disk.image k)

  abbrev first : List ℕ
  first = take 3072 bytes

  abbrev second : List ℕ
  second = drop 3072 bytes

  below : i < length files
  below = below_there files i (there_of_size (file_in files i) off room.size)

  first_long : length first ≡ 3072
  first_long = omega (arith, length-take 3072 bytes, more)

  -- so many of the bytes
  abbrev Has : ℕ → Files → Type 0
  Has count g = g ≡ appended files i (take count bytes)

  first_part : (count : ℕ) (g : Files) → HasWritten files i first count g → Has count g
  first_part count g has = has.made ∙ ap (appended files i) (take-take count 3072 bytes (let few = has.few in omega (arith, few, first_long)))

  first_room : MayAppend (form_of x) (file_in files i) off (length first)
  first_room = record {
    size = room.size;
    few = omega (arith, first_long);
    short = let short = room.short in omega (arith, short, more, first_long);
  }

  second_part : (count : ℕ) (g h : Files) → Has 3072 g → HasWritten g i second count h → Has (3072 + count) h
  second_part count g h is has =
      has.made ∙ ap (λ (f : Files). appended f i (take count second)) is ∙ appended_again files i first (take count second) below ∙ ap (appended files i) (sym (take-add 3072 count bytes))

  second_room : (g : Files) → Has 3072 g → MayAppend (form_of x) (file_in g i) (off + 3072) (length second)
  second_room g is =
      let few = room.few in
      let short = room.short in
      let long = length-drop 3072 bytes in
      record {
        size = ap (λ (f : Files). size_of (file_in f i)) is ∙ ap size_of (appended_in files i first below) ∙ more_size (file_in files i) first off room.size ∙ ap (λ (n : ℕ). Some (off + n)) first_long;
        few = omega (arith, few, long, more);
        short = omega (arith, short, long, more);
      }

  -- a stop leaves none of them, or the first
  first_leaves : (count : ℕ) (g : Files) → count ≤ length bytes → Has count g → (m : Plain D) → LeavesOnly disk.moment disk.leaves k.store.volume.device m.store.volume.device (KeepsMade (image_on disk.image k) g)
      → LeavesOnly disk.moment disk.leaves k.store.volume.device m.store.volume.device (KeepsChange (AppendsFirst i bytes) (image_on disk.image k))
  first_leaves count g few is m only =
      leaves_wider disk.moment disk.leaves k.store.volume.device m.store.volume.device (KeepsMade x g) (KeepsChange (AppendsFirst i bytes) x)
      (λ z kept. record {
        log = kept.log;
        sound = kept.sound;
        files = ⊎_elim (λ none. inl none) (λ all. inr (record { count = count; few = few; files = all ∙ is })) kept.files;
        unshown = kept.unshown;
      }) only

  -- ---- the first write

  module _ (a b : Plain D) (r : Reply) (one : List ℕ) (same_one : one ≡ take 3072 bytes) (begins : Begins disk.image k a) (adds : Adds disk.image (Write i off one) a b r) (opening_a : a.opening ≡ k.opening) (opening_b : b.opening ≡ a.opening)
      (leaves_a : LeavesOnly disk.moment disk.leaves k.store.volume.device a.store.volume.device (KeepsFiles (image_on disk.image k))) (leaves_b : LeavesOnly disk.moment disk.leaves a.store.volume.device b.store.volume.device (KeepsFiles (image_on disk.image a))) where
    abbrev adds_first : Adds disk.image (Write i off first) a b r
    adds_first = subst (λ (w : List ℕ). Adds disk.image (Write i off w) a b r) same_one adds

    abbrev begun : IsGroup disk k a files
    begun = group_begun disk k a begins opening_a leaves_a

    abbrev made : (g : Files) × (after (form_of x) files (Write i off first) r ≡ Some g) × HasFiles disk.image b g
    made = done disk k a b files (Write i off first) r begun adds_first opening_b leaves_b

    pub wrote_first : (count : ℕ) × (r ≡ Wrote count) × HasWritten files i first count made.0
    wrote_first = after_write (form_of x) files i off first r made.0 first_room made.1

    pub grouped : IsGroup disk k b made.0
    grouped = group_more disk k a b files (Write i off first) r begun adds_first opening_b leaves_b (λ j making. no_number r wrote_first.0 j wrote_first.1 making)

    counted : (count : ℕ) → r ≡ Wrote count → HasWritten files i first count made.0
    counted count so = let same : wrote_first.0 ≡ count = cc (wrote_first.1, so) in subst (λ (n : ℕ). HasWritten files i first n made.0) same wrote_first.2

    call_more : call_count b ≡ call_count k + 1
    call_more =
        let none_more : call_count a ≡ call_count k = ap (λ (es : List Entry). length es) begins.list in
        let one_more = adds.one_more in
        omega (arith, none_more, one_more)

    -- where it is committed, whether it was short or not
    module _ (m : Plain D) (leaves : (f : Files) → HasFiles disk.image b f → LeavesOnly disk.moment disk.leaves b.store.volume.device m.store.volume.device (KeepsEither (image_on disk.image b) f (labels_made disk.image b))) where
      pub short_leaves : LeavesOnly disk.moment disk.leaves k.store.volume.device m.store.volume.device (KeepsChange (AppendsFirst i bytes) (image_on disk.image k))
      short_leaves =
          let few = wrote_first.2.few in
          first_leaves wrote_first.0 made.0 (omega (arith, few, first_long, more)) (first_part wrote_first.0 made.0 wrote_first.2) m (group_leaves disk k b made.0 grouped m leaves)

    module _ (count : ℕ) (so : r ≡ Wrote count) (m : Plain D) (commits : Commits disk.image b m) where
      pub short_committed : Rests disk.fault_count m → IsCommitted disk 3 k m
      short_committed rests = group_committed disk k b made.0 grouped m commits 3 rests (omega (arith, call_more))

      pub short_appends : count < 3072 → AppendsPart i bytes (image_on disk.image k) (image_on disk.image m)
      short_appends short = record {
        count = count;
        fewer = omega (arith, short, more);
        files = group_files disk k b made.0 grouped m commits ∙ first_part count made.0 (counted count so);
        full = group_full disk k b made.0 grouped m commits (adds_first.short i off count first refl so (omega (arith, short, first_long)));
      }

    -- ---- and the second

    module _ (count : ℕ) (so : r ≡ Wrote count) (all : 3072 ≤ count) (d : Plain D) (s : Reply) (two : List ℕ) (same_two : two ≡ drop 3072 bytes) (adds_two : Adds disk.image (Write i (off + 3072) two) b d s) (opening_d : d.opening ≡ b.opening)
        (leaves_d : LeavesOnly disk.moment disk.leaves b.store.volume.device d.store.volume.device (KeepsFiles (image_on disk.image b))) where
      abbrev adds_second : Adds disk.image (Write i (off + 3072) second) b d s
      adds_second = subst (λ (w : List ℕ). Adds disk.image (Write i (off + 3072) w) b d s) same_two adds_two

      has_first : Has 3072 made.0
      has_first =
          let has = counted count so in
          let few = has.few in
          let same : count ≡ 3072 = omega (arith, few, first_long, all) in
          subst (λ (n : ℕ). Has n made.0) same (first_part count made.0 has)

      abbrev both : (g : Files) × (after (form_of x) made.0 (Write i (off + 3072) second) s ≡ Some g) × HasFiles disk.image d g
      both = done disk k b d made.0 (Write i (off + 3072) second) s grouped adds_second opening_d leaves_d

      pub wrote_second : (n : ℕ) × (s ≡ Wrote n) × HasWritten made.0 i second n both.0
      wrote_second = after_write (form_of x) made.0 i (off + 3072) second s both.0 (second_room made.0 has_first) both.1

      grouped_both : IsGroup disk k d both.0
      grouped_both = group_more disk k b d made.0 (Write i (off + 3072) second) s grouped adds_second opening_d leaves_d (λ j making. no_number s wrote_second.0 j wrote_second.1 making)

      pub both_leave : (m : Plain D) → ((f : Files) → HasFiles disk.image d f → LeavesOnly disk.moment disk.leaves d.store.volume.device m.store.volume.device (KeepsEither (image_on disk.image d) f (labels_made disk.image d)))
          → LeavesOnly disk.moment disk.leaves k.store.volume.device m.store.volume.device (KeepsChange (AppendsFirst i bytes) (image_on disk.image k))
      both_leave m leaves =
          let few = wrote_second.2.few in
          let long = length-drop 3072 bytes in
          first_leaves (3072 + wrote_second.0) both.0 (omega (arith, few, long, more)) (second_part wrote_second.0 made.0 both.0 has_first wrote_second.2) m (group_leaves disk k d both.0 grouped_both m leaves)

      module _ (m : Plain D) (commits : Commits disk.image d m) where
        pub both_committed : Rests disk.fault_count m → IsCommitted disk 3 k m
        both_committed rests = group_committed disk k d both.0 grouped_both m commits 3 rests (let second_more = adds_two.one_more in omega (arith, call_more, second_more))

        append_by : (n : ℕ) → s ≡ Wrote n → Appends (eqb n (length (drop 3072 bytes))) i bytes (image_on disk.image k) (image_on disk.image m)
        append_by n wrote =
            let same : wrote_second.0 ≡ n = cc (wrote_second.1, wrote) in
            let has : HasWritten made.0 i second n both.0 = subst (λ (c : ℕ). HasWritten made.0 i second c both.0) same wrote_second.2 in
            let few = has.few in
            let long = length-drop 3072 bytes in
            let here : files_on disk.image m ≡ appended files i (take (3072 + n) bytes) = group_files disk k d both.0 grouped_both m commits ∙ second_part n made.0 both.0 has_first has in
            ⊎_elim
            (λ (whole : n ≡ length second).
            subst (λ b. Appends b i bytes x (image_on disk.image m)) (sym (eq-eqb n (length second) whole))
            (here ∙ ap (appended files i) (take_all (3072 + n) bytes (omega (arith, whole, long, more)))))
            (λ (fewer : n ≢ length second).
            subst (λ b. Appends b i bytes x (image_on disk.image m)) (sym (ne_eqb n (length second) fewer))
            (record {
              count = 3072 + n;
              fewer = omega (arith, few, fewer, long, more);
              files = here;
              full = group_full disk k d both.0 grouped_both m commits (adds_second.short i (off + 3072) n second refl wrote (omega (arith, few, fewer)));
            }))
            (cases_eq n (length second))

        pub both_append : (rest : List ℕ) → rest ≡ drop 3072 bytes → (n : ℕ) → s ≡ Wrote n → Appends (eqb n (length rest)) i bytes (image_on disk.image k) (image_on disk.image m)
        both_append rest same n wrote = subst (λ (w : List ℕ). Appends (eqb n (length w)) i bytes x (image_on disk.image m)) (sym same) (append_by n wrote)
