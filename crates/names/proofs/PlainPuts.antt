-- What an emptying, and then the write of a file's first bytes, make of the files.
use Rattle.std.proofs.Common.{◌≡◌, ◌≢◌, ◌⊎◌, ℕ, ◌+◌, ◌<◌, ◌≤◌, Bool, true, false, cond, eqb, leb, ltb, ◌&&◌, ◌||◌, ◌%◌, List, [], ◌++◌, length, take, set, Option, Some, None, Result, Ok, Err, refl, sym, ap, subst, ◌∙◌, inl, inr, ⊎_elim, arith}
use Rattle.std.specs.Prelude.{⊤, IsSome}
use Rattle.std.proofs.lemmas.Bool.{and_parts, eq-eqb, leb-true, both_ways}
use Rattle.std.proofs.lemmas.List.{append-nil, drop_all, set-set}
use Rattle.blocks.specs.Block.{overwritten}
use Rattle.blocks.specs.declared.disk.Disk.{Ghosts}
use Rattle.model.specs.declared.types.image.File.{File}
use Rattle.model.specs.declared.types.image.Form.{Form}
use Rattle.model.specs.declared.types.operations.Op.TheVariants.{Trunc, Write}
use Rattle.model.specs.declared.types.operations.Reply.{Reply}
use Rattle.model.specs.declared.types.operations.Reply.TheVariants.{Wrote, NoFile, BadOffset, TooBig, TooLong, BadType}
use Rattle.model.specs.Files.{Files, file_in}
use Rattle.model.specs.Layout.{greatest_size}
use Rattle.model.specs.Lemmas.FileNumbers.{below_file}
use Rattle.model.specs.Lemmas.Replies.{after_cases}
use Rattle.model.specs.Lemmas.Runs.{where_true_some}
use Rattle.model.specs.Operations.{after, after_at, after_done, after_refusal, is_refusal, may_have_written, no_file_refusal, refusal_of, with_bytes, write_refusal}
use Rattle.calls.specs.Calls.{ShortIsFull}
use Rattle.calls.specs.Files.{IsFull}
use Rattle.calls.specs.Stepping.{Plain}
use Rattle.calls.specs.Transactions.{image_seen}
use Rattle.directories.specs.declared.refusal.Refusal.{Refusal}
use Rattle.directories.specs.declared.refusal.Refusal.TheVariants.{NotFound, NotADirectory, IsRoot, Exists, Full, NoNumber, NoBlock, IsADirectory, NotEmpty, IsInside, NotDown, TooManyLinks}
use Rattle.names.specs.Contents.{HasOnly, IsNoPlain}
use Rattle.directories.specs.Counts.{StaysCounted}
use Rattle.names.specs.Inside.{files_seen, form_seen, Answers, AnswersFull, FallsShort}
use Rattle.names.specs.Making.{HasCreated, HasCreatedNew, IsUnmadeOr, Uncreates}
use Rattle.names.specs.Putting.{file_of, told, IsUnputIn, PutsIn}
use Rattle.names.specs.Ready.{Happens}
use Rattle.directories.specs.TreeChanges.{empty_file, AddsName, IsUnnamed}
use Rattle.directories.specs.Trees.{kind_of, number_of, IsDirectory, IsFile, IsTree}
use Rattle.names.specs.declared.writing.Unwritten.{Unwritten}
use Rattle.names.specs.Writing.{is_whole, reply_of, written, HasWritten, Outcome, WritesAs}
use Rattle.directories.specs.Lemmas.Answered.{done_where, some_by, write_allowed, wrote_on}
use Rattle.directories.specs.Lemmas.FileMaps.{set_there, unnamed_by}
use Rattle.directories.specs.Lemmas.Keeping.{at_cases, trunc_on, write_on}
use Rattle.names.proofs.PlainFiles.{plain_by}
use Rattle.names.proofs.PlainWrites.{told_writes, writes_tree}
use Rattle.names.proofs.Staying.{stays_from, stays_on, truncs_stay}

-- ---- emptied

truncs : (form : Form) (files new : Files) (i : ℕ) (file : File) (reply : Reply) → file_in files i ≡ Some file → after form files (Trunc i) reply ≡ Some new →
    new ≡ set files i (with_bytes file [])
truncs form files new i file reply is h =
    let done = done_where form files new (Trunc i) reply (ap no_file_refusal is) h in
    trunc_on files new i file i reply (subst (λ (o : Option File). after_at files i o (Trunc i) reply ≡ Some new) is done)

only_there : (files new : Files) (i : ℕ) (bytes : List ℕ) (only : HasOnly i bytes files new) → file_in new i ≡ Some (record only.file { bytes = bytes })
only_there files new i bytes only =
    set_there files new i (with_bytes only.file bytes) (below_file files i only.file only.plain.there) only.is

only_plain : (files new : Files) (i : ℕ) (bytes : List ℕ) → HasOnly i bytes files new → IsDirectory new i → ⊥
only_plain files new i bytes only is = only.plain.plain (sym (ap kind_of (only_there files new i bytes only)) ∙ is)

-- ---- filled

first_bytes : (bytes : List ℕ) → overwritten [] 0 bytes ≡ bytes
first_bytes bytes = ap (λ (l : List ℕ). bytes ++ l) (drop_all (0 + length bytes) [] (omega arith)) ∙ append-nil bytes

module _ (form : Form) (files between new : Files) (i : ℕ) (bytes : List ℕ) (emptied : HasOnly i [] files between) (few : length bytes ≤ 3072) where
  abbrev bare : File
  bare = record emptied.file { bytes = [] }

  filled_by : (done : Outcome) → WritesAs form i 0 bytes bare done between new → HasOnly i bytes files new
  filled_by (Ok done) writes = record {
    file = emptied.file;
    plain = emptied.plain;
    is = writes.1 ∙ ap (λ (b : List ℕ). set between i (with_bytes bare b)) (first_bytes bytes)
        ∙ ap (λ (l : Files). set l i (with_bytes emptied.file bytes)) emptied.is
        ∙ set-set files i (with_bytes emptied.file []) (with_bytes emptied.file bytes);
  }
  filled_by (Err cause) writes =
      let allowed = write_allowed form between i bare 0 bytes (only_there files between i [] emptied) (omega arith) (omega arith) in
      let both : None ≡ Some (reply_of cause) = sym allowed ∙ writes.1 in absurd (cc both)

-- ---- short

-- where it told nothing, there was nothing to tell
pub none_by : {T : Type 0} (o : Option T) → ((t : T) → o ≡ Some t → ⊥) → o ≡ None
none_by None not = refl
none_by (Some t) not = absurd (not t refl)

refusal_same : (refusal reply : Reply) → is_refusal refusal reply ≡ true → refusal ≡ reply
refusal_same NoFile NoFile h = refl
refusal_same BadOffset BadOffset h = refl
refusal_same TooBig TooBig h = refl
refusal_same TooLong TooLong h = refl
refusal_same BadType BadType h = refl
refusal_same refusal reply h = absurd (cc h)

-- a reply that told that fewer bytes were written
pub record IsShort (bytes : List ℕ) (reply : Reply) : Type 0 where
  pub count : ℕ
  pub is : reply ≡ Wrote count
  pub fewer : count < length bytes

fewer_by : (old off n k : ℕ) → may_have_written old off n k ≡ true → k ≢ n → k < n
fewer_by old off n k may other =
    let parts = and_parts (leb k n) (eqb k n || (eqb ((off + k) % 1024) 0 && leb old (off + k))) may in
    let few : k ≤ n = leb-true k n parts.0 in omega arith

not_all : (b : Bool) (done : Outcome) → None ≡ cond b (Some done) None → b ≡ false
not_all true done h = absurd (cc h)
not_all false done h = refl

one_of : (a b c : Bool) (reply : Reply) → cond a (Some TooLong) (cond b (Some BadOffset) (cond c (Some TooBig) None)) ≡ Some reply →
    (reply ≡ TooLong) ⊎ ((reply ≡ BadOffset) ⊎ (reply ≡ TooBig))
one_of true b c reply h = let e : TooLong ≡ reply = cc h in inl (sym e)
one_of false true c reply h = let e : BadOffset ≡ reply = cc h in inr (inl (sym e))
one_of false false true reply h = let e : TooBig ≡ reply = cc h in inr (inr (sym e))
one_of false false false reply h = absurd (cc h)

module _ (form : Form) (files new : Files) (i off : ℕ) (bytes : List ℕ) (file : File) (there : file_in files i ≡ Some file) (reply : Reply)
    (h : after form files (Write i off bytes) reply ≡ Some new) (told : None ≡ written reply (length bytes)) where
  done_short : after_done files (Write i off bytes) reply ≡ Some new → IsShort bytes reply
  done_short done =
      let at : after_at files i (Some file) (Write i off bytes) reply ≡ Some new =
      subst (λ (o : Option File). after_at files i o (Write i off bytes) reply ≡ Some new) there done in
      let wrote = wrote_on files new i file i off bytes reply at in
      let none : None ≡ written (Wrote wrote.count) (length bytes) = subst (λ (r : Reply). None ≡ written r (length bytes)) wrote.is told in
      record {
        count = wrote.count;
        is = wrote.is;
        fewer = fewer_by (length file.bytes) off (length bytes) wrote.count wrote.may
            (λ same. both_ways (eqb wrote.count (length bytes)) (not_all (eqb wrote.count (length bytes)) (Ok tt) none) (eq-eqb wrote.count (length bytes) same));
      }

  refused_short : (refusal : Reply) → refusal_of form files (Write i off bytes) ≡ Some refusal → refusal ≡ reply → IsShort bytes reply
  refused_short refusal is same =
      let any : cond (ltb 3072 (length bytes)) (Some TooLong) (write_refusal form (Some file) off (length bytes)) ≡ Some reply =
      ap (λ (o : Option File). cond (ltb 3072 (length bytes)) (Some TooLong) (write_refusal form o off (length bytes))) (sym there)
      ∙ is ∙ ap (λ (r : Reply). Some r) same in
      ⊎_elim
      (λ (long : reply ≡ TooLong). let both = told ∙ ap (λ (r : Reply). written r (length bytes)) long in absurd (cc both))
      (λ (others : (reply ≡ BadOffset) ⊎ (reply ≡ TooBig)).
      ⊎_elim
      (λ (offset : reply ≡ BadOffset). let both = told ∙ ap (λ (r : Reply). written r (length bytes)) offset in absurd (cc both))
      (λ (big : reply ≡ TooBig). let both = told ∙ ap (λ (r : Reply). written r (length bytes)) big in absurd (cc both)) others)
      (one_of (ltb 3072 (length bytes)) (ltb (length file.bytes) off) (ltb (greatest_size form) (off + length bytes)) reply any)

  short_by : (refusal : Option Reply) → refusal_of form files (Write i off bytes) ≡ refusal → after_refusal refusal files (Write i off bytes) reply ≡ Some new →
      IsShort bytes reply
  short_by None is by = done_short by
  short_by (Some refusal) is by = refused_short refusal is (refusal_same refusal reply (where_true_some (is_refusal refusal reply) files new by).0)

  pub short : IsShort bytes reply
  unfolding after
  short = short_by (refusal_of form files (Write i off bytes)) refl h

-- ---- a new file

module _ (form : Form) (files made new : Files) (i : ℕ) (bytes : List ℕ) (reply : Reply) (unnamed : IsUnnamed files made i (empty_file 2))
    (h : after form made (Write i 0 bytes) reply ≡ Some new) where
  set_again : (file : File) → new ≡ set made i (Some file) → IsUnnamed files new i file
  set_again file is =
      unnamed_by files new i file unnamed.inside unnamed.free
      (is ∙ ap (λ (l : Files). set l i (Some file)) unnamed.is ∙ set-set files i (Some (empty_file 2)) (Some file))

  pub filled_new : (one : Unit {0}) → Some (Ok one) ≡ written reply (length bytes) → IsUnnamed files new i (file_of bytes)
  filled_new one told =
      let writes = told_writes form made new i 0 bytes (empty_file 2) unnamed.there reply (Ok one) h told in
      set_again (file_of bytes) (writes.1 ∙ ap (λ (b : List ℕ). set made i (with_bytes (empty_file 2) b)) (first_bytes bytes))

  -- whatever it was answered, it has no name
  pub kept_new : (file : File) × IsUnnamed files new i file
  kept_new =
      ⊎_elim (λ (same : new ≡ made). (empty_file 2, subst (λ (f : Files). IsUnnamed files f i (empty_file 2)) (sym same) unnamed))
      (λ (done : (refusal_of form made (Write i 0 bytes) ≡ None) × (after_done made (Write i 0 bytes) reply ≡ Some new)).
      let on = at_cases made new i (file_in made i) (Write i 0 bytes) reply done.1 in
      let wrote = write_on made new i on.0 i 0 bytes reply on.2 in
      let file : File = record on.0 { bytes = overwritten on.0.bytes 0 (take wrote.0 bytes) } in
      (file, set_again file wrote.2))
      (after_cases form made new (Write i 0 bytes) reply h)

-- ---- in a transaction

-- a write that was whole
whole_is : (told : Option Outcome) → is_whole told ≡ true → (one : Unit {0}) × (told ≡ Some (Ok one))
whole_is None whole = absurd (cc whole)
whole_is (Some (Ok one)) whole = (one, refl)
whole_is (Some (Err cause)) whole = absurd (cc whole)

module _ {D N : Type 0} (disk : Ghosts D N) where
  pub empties_plain : (k a b : Plain D) (i : ℕ) (reply : Reply) → files_seen disk.image a ≡ files_seen disk.image k → Answers disk.image (Trunc i) a b reply →
      IsFile (files_seen disk.image k) i → (IsDirectory (files_seen disk.image k) i → ⊥) → HasOnly i [] (files_seen disk.image k) (files_seen disk.image b)
  empties_plain k a b i reply same answers there plain =
      let has = plain_by (files_seen disk.image k) i there plain in
      let here : file_in (files_seen disk.image a) i ≡ Some has.0 = ap (λ (f : Files). file_in f i) same ∙ has.1.there in
      record {
        file = has.0;
        plain = has.1;
        is = truncs (form_seen disk.image a) (files_seen disk.image a) (files_seen disk.image b) i has.0 reply here answers
            ∙ ap (λ (f : Files). set f i (with_bytes has.0 [])) same;
      }

  pub empties_tree : (k a b : Plain D) (i : ℕ) (reply : Reply) → files_seen disk.image a ≡ files_seen disk.image k → Answers disk.image (Trunc i) a b reply →
      IsTree (files_seen disk.image k) → (IsDirectory (files_seen disk.image k) i → ⊥) →
      StaysCounted (files_seen disk.image k) (files_seen disk.image b)
  empties_tree k a b i reply same answers tree plain =
      stays_from (files_seen disk.image k) (files_seen disk.image a) (files_seen disk.image b) same
      (truncs_stay (form_seen disk.image a) (files_seen disk.image a) (files_seen disk.image b) i reply (subst (λ (f : Files). IsTree f) (sym same) tree)
      (λ is. plain (subst (λ (f : Files). IsDirectory f i) same is)) answers)

  module _ (k b c : Plain D) (i : ℕ) (bytes : List ℕ) (told : Option Outcome) (emptied : HasOnly i [] (files_seen disk.image k) (files_seen disk.image b))
      (has : HasWritten disk.image i 0 bytes b c told) where
    pub refills : (done : Outcome) → told ≡ Some done → length bytes ≤ 3072 → HasOnly i bytes (files_seen disk.image k) (files_seen disk.image c)
    refills done is few =
        filled_by (form_seen disk.image b) (files_seen disk.image k) (files_seen disk.image b) (files_seen disk.image c) i bytes emptied few done
        (told_writes (form_seen disk.image b) (files_seen disk.image b) (files_seen disk.image c) i 0 bytes (record emptied.file { bytes = [] })
        (only_there (files_seen disk.image k) (files_seen disk.image b) i [] emptied) has.reply done has.answers (sym is ∙ has.is))

    pub refills_tree : StaysCounted (files_seen disk.image k) (files_seen disk.image b) → StaysCounted (files_seen disk.image k) (files_seen disk.image c)
    refills_tree stays =
        stays_on (files_seen disk.image k) (files_seen disk.image b) (files_seen disk.image c) stays
        (writes_tree disk b b c i 0 bytes told refl has stays.tree (only_plain (files_seen disk.image k) (files_seen disk.image b) i [] emptied))

    pub emptied_there : IsFile (files_seen disk.image b) i
    emptied_there none =
        let both = sym none ∙ only_there (files_seen disk.image k) (files_seen disk.image b) i [] emptied in absurd (cc both)

  pub wrote_as : (k m : Plain D) (i off : ℕ) (content bytes : List ℕ) (reply : Reply) (told : Option Outcome) → content ≡ bytes →
      Answers disk.image (Write i off content) k m reply → ShortIsFull (image_seen disk.image m) (Write i off content) reply → told ≡ written reply (length bytes) →
      HasWritten disk.image i off bytes k m told
  wrote_as k m i off content bytes reply told same answers full is = record {
    reply = reply;
    answers = subst (λ (l : List ℕ). Answers disk.image (Write i off l) k m reply) same answers;
    is = is;
    short = subst (λ (l : List ℕ). ShortIsFull (image_seen disk.image m) (Write i off l) reply) same full;
  }

  -- where only some bytes were written, no block is free
  pub short_full : (a b : Plain D) (i off : ℕ) (bytes : List ℕ) (told : Option Outcome) → HasWritten disk.image i off bytes a b told → told ≡ None →
      IsFile (files_seen disk.image a) i → IsFull (image_seen disk.image b)
  short_full a b i off bytes told has none there =
      let file = some_by (file_in (files_seen disk.image a) i) there in
      let few = short (form_seen disk.image a) (files_seen disk.image a) (files_seen disk.image b) i off bytes file.0 file.1 has.reply has.answers (sym none ∙ has.is) in
      has.short i off few.count bytes refl few.is few.fewer

  pub write_short : (a b : Plain D) (i off : ℕ) (bytes : List ℕ) (told : Option Outcome) → HasWritten disk.image i off bytes a b told → told ≡ None →
      IsFile (files_seen disk.image a) i → FallsShort disk.image a b
  write_short a b i off bytes told has none there =
      let file = some_by (file_in (files_seen disk.image a) i) there in
      let few = short (form_seen disk.image a) (files_seen disk.image a) (files_seen disk.image b) i off bytes file.0 file.1 has.reply has.answers (sym none ∙ has.is) in
      record {
        number = i;
        offset = off;
        count = few.count;
        bytes = bytes;
        fewer = few.fewer;
        answers = subst (λ (r : Reply). Answers disk.image (Write i off bytes) a b r) few.is has.answers;
        full = has.short i off few.count bytes refl few.is few.fewer;
      }

  -- a file was made, and bytes written into it
  module _ (k a b : Plain D) (number j parent : ℕ) (bytes : List ℕ) (made : Option ℕ) (told : Option Outcome) (made_is : made ≡ Some number) (same : j ≡ number)
      (created : HasCreated 2 (files_seen disk.image k) (files_seen disk.image a) made) (has : HasWritten disk.image j 0 bytes a b told) where
    some : IsUnnamed (files_seen disk.image k) (files_seen disk.image a) number (empty_file 2) × (0 < number)
    some = subst (λ (o : Option ℕ). HasCreated 2 (files_seen disk.image k) (files_seen disk.image a) o) made_is created

    writing : HasWritten disk.image number 0 bytes a b told
    writing = subst (λ (n : ℕ). HasWritten disk.image n 0 bytes a b told) same has

    pub new_made : is_whole told ≡ true →
        HasCreatedNew ⊤ (λ number parent. file_of bytes) parent (files_seen disk.image k) (files_seen disk.image b) (Ok number)
    new_made whole =
        let all = whole_is told whole in (
          filled_new (form_seen disk.image a) (files_seen disk.image k) (files_seen disk.image a) (files_seen disk.image b) number bytes writing.reply some.0 writing.answers
              all.0 (sym all.1 ∙ writing.is),
          (λ e. absurd (omega (arith, e))),
          some.1,
        )

    -- where few bytes were not all written, no block was free
    pub new_short : length bytes ≤ 3072 → is_whole told ≡ false → FallsShort disk.image a b
    new_short few short_of = write_short a b number 0 bytes told writing (nothing_told told refl) there
      where
        unnamed : IsUnnamed (files_seen disk.image k) (files_seen disk.image a) number (empty_file 2)
        unnamed = some.0

        there : IsFile (files_seen disk.image a) number
        there none = let both = sym none ∙ unnamed.there in absurd (cc both)

        nothing_told : (t : Option Outcome) → told ≡ t → told ≡ None
        nothing_told None is = is
        nothing_told (Some (Ok one)) is = let both : true ≡ false = sym (ap is_whole is) ∙ short_of in absurd (cc both)
        nothing_told (Some (Err cause)) is =
            let writes = told_writes (form_seen disk.image a) (files_seen disk.image a) (files_seen disk.image b) number 0 bytes (empty_file 2) unnamed.there writing.reply
            (Err cause) writing.answers (sym is ∙ writing.is) in
            let allowed = write_allowed (form_seen disk.image a) (files_seen disk.image a) number (empty_file 2) 0 bytes unnamed.there (omega arith) (omega arith) in
            let both : None ≡ Some (reply_of cause) = sym allowed ∙ writes.1 in absurd (cc both)

    -- and it was removed again
    pub new_undone : (u : Plain D) (i : ℕ) → i ≡ number → Uncreates i (files_seen disk.image b) (files_seen disk.image u) →
        files_seen disk.image u ≡ files_seen disk.image k
    new_undone u i at undoes =
        let kept = kept_new (form_seen disk.image a) (files_seen disk.image k) (files_seen disk.image a) (files_seen disk.image b) number bytes writing.reply some.0 writing.answers in
        undoes (files_seen disk.image k) kept.0 (subst (λ (n : ℕ). IsUnnamed (files_seen disk.image k) (files_seen disk.image b) n kept.0) (sym at) kept.1)

-- why a file of bytes was not made under a new name, as a put tells it
unput_by : (files : Files) (from : ℕ) (name : List ℕ) (cause : Refusal) → number_of files from name ≡ None → IsUnmadeOr ⊥ ⊤ files from name cause →
    IsUnputIn files from name cause
unput_by files from name Exists absent why = let some = subst (λ (o : Option ℕ). IsSome o) absent why.1 in absurd (cc some)
unput_by files from name TooManyLinks absent why = absurd why.0
unput_by files from name NotADirectory absent why = why
unput_by files from name Full absent why = why
unput_by files from name NoNumber absent why = why
unput_by files from name NoBlock absent why = why
unput_by files from name NotFound absent why = absurd why
unput_by files from name IsRoot absent why = absurd why
unput_by files from name IsADirectory absent why = absurd why
unput_by files from name NotEmpty absent why = absurd why
unput_by files from name IsInside absent why = absurd why
unput_by files from name NotDown absent why = absurd why

-- so what became of it is what became of the put
pub put_new : (bytes name : List ℕ) (from : ℕ) (files new : Files) (made : Result ℕ Refusal) → length bytes ≤ 3072 → number_of files from name ≡ None →
    Happens (λ number f g. AddsName f g from name number (file_of bytes)) (λ f. IsUnmadeOr ⊥ ⊤ f from name) files new made →
    Happens (PutsIn bytes from name) (λ f. IsUnputIn f from name) files new (told made)
put_new bytes name from files new (Ok number) few absent happens = (few, inl happens)
put_new bytes name from files new (Err cause) few absent happens = (happens.0, unput_by files from name cause absent happens.1)

-- what was emptied has no bytes
pub emptied_only : (files new : Files) (j number : ℕ) (r : Result (Unit {0}) Refusal) (one : Unit {0}) → j ≡ number → r ≡ Ok one →
    Happens (λ done. HasOnly j []) (IsNoPlain j) files new r → HasOnly number [] files new
emptied_only files new j number r one same is happens =
    subst (λ (n : ℕ). HasOnly n [] files new) same (subst (λ (s : Result (Unit {0}) Refusal). Happens (λ done. HasOnly j []) (IsNoPlain j) files new s) is happens)

-- where a put tells NoBlock, so did what it did
pub told_full : {D N : Type 0} (disk : Ghosts D N) (k m : Plain D) (made : Result ℕ Refusal) (r : Result (Result ℕ Unwritten) Refusal) → r ≡ told made → AnswersFull disk k m made →
    AnswersFull disk k m r
told_full disk k m (Ok number) r same full = subst (λ (t : Result (Result ℕ Unwritten) Refusal). AnswersFull disk k m t) (sym same) tt
told_full disk k m (Err cause) r same full = subst (λ (t : Result (Result ℕ Unwritten) Refusal). AnswersFull disk k m t) (sym same) full
