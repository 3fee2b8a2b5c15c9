-- Bytes put over a file by way of a new one, and what a stop leaves of that.
use Rattle.std.proofs.Common.{◌≡◌, ◌≢◌, ◌∙◌, ℕ, ◌<◌, Bool, true, false, List, length, take, set, Option, Some, None, refl, sym, ap, subst, inl, inr, arith}
use Rattle.std.specs.Prelude.{◌⊎◌, ⊤, IsTrue}
use Rattle.std.proofs.lemmas.List.{get_or-set_other, set-get_or, set-set, set_comm, take_all}
use Rattle.blocks.specs.Disk.{Image}
use Rattle.blocks.specs.Lemmas.Moments.{joined}
use Rattle.blocks.specs.declared.disk.Disk.{Ghosts}
use Rattle.model.specs.Files.{Files, file_in, files_of}
use Rattle.model.specs.Lemmas.FileNumbers.{below_there}
use Rattle.model.specs.Log.{is_lawful_log, recovered}
use Rattle.model.specs.Soundness.{IsSound}
use Rattle.model.specs.declared.types.image.File.{File}
use Rattle.history.specs.Lemmas.Leaving.{leaves_wider}
use Rattle.calls.specs.Calls.{image_on}
use Rattle.calls.specs.Files.{files_on}
use Rattle.calls.specs.Lemmas.Reaching.{reached_then}
use Rattle.calls.specs.Stepping.{IsReached, Plain}
use Rattle.calls.specs.Transactions.{Rests}
use Rattle.calls.specs.Unshown.{KeepsUnshown}
use Rattle.calls.specs.Stopped.{KeepsChange, LeavesChange, Removes, StaysOver}
use Rattle.calls.specs.declared.transactions.fault.TransactionFault.{TransactionFault}
use Rattle.calls.specs.declared.transactions.fault.TransactionFault.TheVariants as fault
use Rattle.transfer.specs.Places.{HasNoFree, MayPut, PutsAll, put_at, put_file}
use Rattle.transfer.specs.PutWriting.{AreAnswered, Comes, FillsUp, IsCutOff, IsPutCutOff, PutComes}
use Rattle.transfer.specs.Rounds.{Goes, GoesRound, HasBytes, HasFree, HasOldOrNew, HasSpare, IsNeverNeither}
use Rattle.transfer.specs.Stopped.{KeepsPlace, KeepsPut, MayLeave, MayStop, StaysPlace, StaysPut}
use Rattle.transfer.specs.declared.writing.Outcome.{Outcome}
use Rattle.transfer.specs.declared.writing.Outcome.TheVariants as outcome
use Rattle.transfer.proofs.CallLemmas.{Leads, failed_after, faults_same, leads_answered, leads_on, whole_then}
use Rattle.transfer.proofs.PlaceLemmas.{file_beside, file_put, put_stands}

-- ---- two files

-- a free number is not that of a file
apart : (files : Files) (spare inum : ℕ) → file_in files spare ≡ None → file_in files inum ≢ None → inum ≢ spare
apart files spare inum free there same = there (ap (file_in files) same ∙ free)

put_has : (o : Option File) (bytes : List ℕ) → HasBytes (put_file o bytes) bytes
put_has None bytes = refl
put_has (Some file) bytes = refl

has_put : (files : Files) (i : ℕ) (bytes : List ℕ) → i < length files → HasBytes (file_in (put_at files i bytes) i) bytes
has_put files i bytes below = subst (λ (o : Option File). HasBytes o bytes) (sym (file_put files i bytes below)) (put_has (file_in files i) bytes)

module _ (files mid : Files) (spare inum : ℕ) (bytes : List ℕ) (free : file_in files spare ≡ None) (there : file_in files inum ≢ None) (put : mid ≡ put_at files spare bytes) where
  other : inum ≢ spare
  other = apart files spare inum free there

  -- the old file stays
  pub old_beside : file_in mid inum ≢ None
  old_beside none = there (sym (file_beside files spare inum bytes other) ∙ sym (ap (λ (f : Files). file_in f inum) put) ∙ none)

  -- the new one is there, also once bytes were put into the old one
  pub spare_there : spare < length files → (new : Files) (more : List ℕ) → new ≡ put_at mid inum more → file_in new spare ≢ None
  spare_there below new more is none =
      put_stands files spare bytes below
      (sym (ap (λ (f : Files). file_in f spare) put)
      ∙ sym (file_beside mid inum spare more (λ same. other (sym same))) ∙ sym (ap (λ (f : Files). file_in f spare) is) ∙ none)

  -- and once it is removed, only the old one has changed
  pub spare_removed : (new : Files) (more : List ℕ) → new ≡ put_at mid inum more → set new spare None ≡ put_at files inum more
  spare_removed new more is =
      let was = put_file (file_in files spare) bytes in
      let now = put_file (file_in files inum) more in
      let old : put_at mid inum more ≡ set (set files spare was) inum now =
      ap (λ (f : Files). put_at f inum more) put
      ∙ ap (λ (o : Option File). set (set files spare was) inum (put_file o more)) (file_beside files spare inum bytes other) in
      let turned : set (set files spare was) inum now ≡ set (set files inum now) spare was = set_comm files spare inum was now (λ same. other (sym same)) in
      let none : file_in (set files inum now) spare ≡ None = get_or-set_other files inum spare now None (λ same. other (sym same)) ∙ free in
      ap (λ (f : Files). set f spare None) (is ∙ old ∙ turned) ∙ set-set (set files inum now) spare was None
      ∙ ap (set (set files inum now) spare) (sym none) ∙ set-get_or (set files inum now) spare None

-- ---- the old bytes or the new ones

either_new : (old : Files) (inum : ℕ) (bytes : List ℕ) (new : Files) → file_in old inum ≢ None → MayLeave old None bytes new → HasOldOrNew old inum bytes new
either_new old inum bytes new there (inl same) = inl (ap (λ (f : Files). file_in f inum) same)
either_new old inum bytes new there (inr first) =
    inl (ap (λ (f : Files). file_in f inum) first.files ∙ file_beside old first.number inum (take first.count bytes) (apart old first.number inum first.spot.2 there))

either_beside : (old mid : Files) (inum spare : ℕ) (bytes : List ℕ) (new : Files) → file_in old inum ≢ None → PutsAll old None bytes mid spare → MayLeave mid (Some inum) bytes new → HasOldOrNew old inum bytes new
either_beside old mid inum spare bytes new there put (inl same) =
    inr (spare, subst (λ (f : Files). HasBytes (file_in f spare) bytes) (sym (same ∙ put.files)) (has_put old spare bytes put.place.below))
either_beside old mid inum spare bytes new there put (inr first) =
    let stays : file_in new spare ≡ file_in (put_at old spare bytes) spare =
    ap (λ (f : Files). file_in f spare) first.files
    ∙ file_beside mid first.number spare (take first.count bytes) (λ same. apart old spare inum put.place.free there (sym (same ∙ first.spot.0)))
    ∙ ap (λ (f : Files). file_in f spare) put.files in
    inr (spare, subst (λ (o : Option File). HasBytes o bytes) (sym stays) (has_put old spare bytes put.place.below))

either_round : (x : Image) (inum : ℕ) (bytes : List ℕ) (y : Image) → file_in (files_of x) inum ≢ None → MayStop true x (Some inum) bytes y → HasFree (files_of x) → HasOldOrNew (files_of x) inum bytes (files_of y)
either_round x inum bytes y there (inl (inl may)) free = either_new (files_of x) inum bytes (files_of y) there may
either_round x inum bytes y there (inl (inr (inl round))) free =
    either_beside (files_of x) (files_of round.0) inum round.1.number bytes (files_of y) there round.1.put round.2
either_round x inum bytes y there (inl (inr (inr alone))) free = absurd (alone.0 free.number free.some free.below free.free)
either_round x inum bytes y there (inr all) free =
    inr (
      inum,
      subst (λ (f : Files). HasBytes (file_in f inum) bytes)
          (sym (all.1.files ∙ ap (λ (i : ℕ). put_at (files_of x) i bytes) all.1.place.0))
          (has_put (files_of x) inum bytes (below_there (files_of x) inum there)),
    )

-- all of the bytes are a first part of them
all_may : (old : Files) (inum : ℕ) (bytes : List ℕ) (new : Files) → new ≡ put_at old inum bytes → new ≡ put_at old inum (take (length bytes) bytes)
all_may old inum bytes new is = is ∙ ap (put_at old inum) (sym (take_all (length bytes) bytes (omega arith)))

pub all_first : (old : Files) (inum : ℕ) (bytes : List ℕ) (new : Files) → file_in old inum ≢ None → new ≡ put_at old inum bytes → MayPut old (Some inum) bytes new
all_first old inum bytes new there is = inr (record { number = inum; place = (refl, there); count = length bytes; files = all_may old inum bytes new is })

-- ---- what the calls come to

fills_same : (x m : Image) (inum : ℕ) (bytes : List ℕ) (y : Image) → files_of m ≡ files_of x → FillsUp m (Some inum) bytes y → FillsUp x (Some inum) bytes y
fills_same x m inum bytes y same fills = record {
  number = fills.number;
  place = (fills.place.0, subst (λ (f : Files). file_in f inum ≢ None) same fills.place.1);
  full = fills.full;
  part = record {
    count = fills.part.count;
    fewer = fills.part.fewer;
    files = fills.part.files ∙ ap (λ (f : Files). put_at f fills.number (take fills.part.count bytes)) same;
    full = fills.part.full;
  };
  left = fills.left;
}

-- no number is free, and the old file alone was written
pub comes_alone : (x m : Image) (inum : ℕ) (bytes : List ℕ) (y : Image) → files_of m ≡ files_of x → HasNoFree (files_of x) → (o : Outcome) → Comes m (Some inum) bytes y o → PutComes true x (Some inum) bytes y o
comes_alone x m inum bytes y same none (outcome.Put i) put = record {
  place = (put.place.0, subst (λ (f : Files). file_in f inum ≢ None) same put.place.1);
  files = put.files ∙ ap (λ (f : Files). put_at f i bytes) same;
}
comes_alone x m inum bytes y same none outcome.NoInode finds = absurd (cc finds.new)
comes_alone x m inum bytes y same none outcome.Full fills = inr (inr (none, fills_same x m inum bytes y same fills))

module _ {D N : Type 0} (disk : Ghosts D N) (inum : ℕ) (bytes : List ℕ) where
  -- a call that is not answered, behind others
  pub cut_round : (k l : Plain D) (place : Option ℕ) (e : Plain D) → Rests disk.fault_count k → AreAnswered disk k l
      → ((y : Image) → MayPut (files_on disk.image l) place bytes (files_of y) → GoesRound (λ w at. MayPut (files_of w) at bytes (files_of y)) (image_on disk.image k) inum bytes)
      → (cause : TransactionFault) → IsCutOff disk place bytes l e cause → IsPutCutOff true disk (Some inum) bytes k e cause
  cut_round k l place e rests before goes (fault.Disk cause) why = failed_after disk k l e cause rests before why
  cut_round k l place e rests before goes fault.NoMemory why = (
    why.0 ∙ faults_same disk k l rests before,
    record {
      whole = whole_then (image_on disk.image k) (image_on disk.image l) (image_on disk.image e) before.whole why.1.whole;
      unshown = leads_on (image_on disk.image k) (image_on disk.image l) (image_on disk.image e) (leads_answered disk k l before) why.1.unshown;
      files = goes (image_on disk.image e) why.1.files;
    },
  )
  cut_round k l place e rests before goes fault.NoRoom why = absurd why

  -- ---- what a stop leaves

  module _ (x : Image) (there : file_in (files_of x) inum ≢ None) where
    keeps_round : (z : Image) → IsTrue (is_lawful_log z) → IsSound (recovered z) → MayStop true x (Some inum) bytes (recovered z) → KeepsUnshown x (recovered z) → KeepsPut true x (Some inum) bytes z
    keeps_round z log sound files unshown = record { log = log; sound = sound; files = files; either = either_round x inum bytes (recovered z) there files; unshown = unshown }

    -- of a put at one place
    pub round_place : (w : Image) (place : Option ℕ) (l m : Plain D) → Leads x w
        → ((y : Image) → MayLeave (files_of w) place bytes (files_of y) → GoesRound (λ v at. MayLeave (files_of v) at bytes (files_of y)) x inum bytes)
        → StaysPlace disk w place bytes l m → StaysPut disk true x (Some inum) bytes l m
    round_place w place l m behind goes stays = record {
      leaves = leaves_wider disk.moment disk.leaves l.store.volume.device m.store.volume.device (KeepsPlace w place bytes) (KeepsPut true x (Some inum) bytes)
          (λ z kept. keeps_round z kept.log kept.sound (inl (goes (recovered z) kept.files)) (leads_on x w (recovered z) behind kept.unshown)) stays.leaves;
      name = stays.name;
      reached = stays.reached;
    }

    -- of calls behind calls
    pub round_then : (k l m : Plain D) → StaysPut disk true x (Some inum) bytes k l → StaysPut disk true x (Some inum) bytes l m → StaysPut disk true x (Some inum) bytes k m
    round_then k l m first second = record {
      leaves = joined disk.moment disk.leaves k.store.volume.device l.store.volume.device m.store.volume.device (KeepsPut true x (Some inum) bytes) first.leaves second.leaves;
      name = second.name ∙ first.name;
      reached = reached_then disk k l m first.reached second.reached;
    }

    -- of the removal of the new file, once the old one has all bytes
    module _ (mid : Image) (spare : HasSpare x bytes mid) (m n : Plain D) (filled : files_on disk.image m ≡ put_at (files_of mid) inum bytes) where
      stops_removed : (y : Image) → (files_of y ≡ files_on disk.image m) ⊎ Removes spare.number (files_on disk.image m) (files_of y) → MayStop true x (Some inum) bytes y
      stops_removed y (inl same) =
          let still : file_in (files_of mid) inum ≢ None = old_beside (files_of x) (files_of mid) spare.number inum bytes spare.put.place.free there spare.put.files in
          inl (inr (inl (
            mid,
            spare,
            inr (record {
              number = inum;
              spot = (refl, still);
              count = length bytes;
              files = all_may (files_of mid) inum bytes (files_of y) (same ∙ filled);
            }),
          )))
      stops_removed y (inr gone) =
          inr (
            inum,
            record {
              place = (refl, there);
              files = gone ∙ spare_removed (files_of x) (files_of mid) spare.number inum bytes spare.put.place.free there spare.put.files (files_on disk.image m) bytes filled;
            },
          )

      pub round_removed : LeavesChange disk (Removes spare.number) m n → StaysOver disk m n → IsReached disk m n → Leads x (image_on disk.image m) → StaysPut disk true x (Some inum) bytes m n
      round_removed only over reached behind = record {
        leaves = leaves_wider disk.moment disk.leaves m.store.volume.device n.store.volume.device (KeepsChange (Removes spare.number) (image_on disk.image m)) (KeepsPut true x (Some inum) bytes)
            (λ z kept. keeps_round z kept.log kept.sound (stops_removed (recovered z) kept.files) (leads_on x (image_on disk.image m) (recovered z) behind kept.unshown)) only;
        name = over.name;
        reached = reached;
      }

-- ---- a put that goes no way round

abbrev pub IsStraight : Option ℕ → Bool → Type 0
IsStraight None twice = ⊤
IsStraight (Some inum) twice = twice ≡ false

goes_straight : (inum : Option ℕ) (twice : Bool) (P : Image → Option ℕ → Type 0) (x : Image) (bytes : List ℕ) → IsStraight inum twice → P x inum → Goes inum twice P x bytes
goes_straight None twice P x bytes straight so = so
goes_straight (Some inum) false P x bytes straight so = so
goes_straight (Some inum) true P x bytes straight so = absurd (cc straight)

never_straight : (inum : Option ℕ) (twice : Bool) (old : Files) (bytes : List ℕ) (new : Files) → IsStraight inum twice → IsNeverNeither inum twice old bytes new
never_straight None twice old bytes new straight = tt
never_straight (Some inum) false old bytes new straight = tt
never_straight (Some inum) true old bytes new straight = absurd (cc straight)

module _ (inum : Option ℕ) (twice : Bool) (straight : IsStraight inum twice) (bytes : List ℕ) where
  pub comes_straight : (x y : Image) (o : Outcome) → Comes x inum bytes y o → PutComes twice x inum bytes y o
  comes_straight x y (outcome.Put i) comes = comes
  comes_straight x y outcome.NoInode comes = comes
  comes_straight x y outcome.Full comes = goes_straight inum twice (λ w place. FillsUp w place bytes y) x bytes straight comes

  pub cut_straight : {D N : Type 0} (disk : Ghosts D N) (d e : Plain D) (cause : TransactionFault) → IsCutOff disk inum bytes d e cause → IsPutCutOff twice disk inum bytes d e cause
  cut_straight disk d e (fault.Disk cause) why = why
  cut_straight disk d e fault.NoMemory why = (
    why.0,
    record {
      whole = why.1.whole;
      unshown = why.1.unshown;
      files = goes_straight inum twice (λ w place. MayPut (files_of w) place bytes (files_of (image_on disk.image e))) (image_on disk.image d) bytes straight why.1.files;
    },
  )
  cut_straight disk d e fault.NoRoom why = absurd why

  pub stays_straight : {D N : Type 0} (disk : Ghosts D N) (x : Image) (k m : Plain D) → StaysPlace disk x inum bytes k m → StaysPut disk twice x inum bytes k m
  stays_straight disk x k m stays = record {
    leaves = leaves_wider disk.moment disk.leaves k.store.volume.device m.store.volume.device (KeepsPlace x inum bytes) (KeepsPut twice x inum bytes)
        (λ z kept. record {
          log = kept.log;
          sound = kept.sound;
          files = inl (goes_straight inum twice (λ w place. MayLeave (files_of w) place bytes (files_of (recovered z))) x bytes straight kept.files);
          either = never_straight inum twice (files_of x) bytes (files_of (recovered z)) straight;
          unshown = kept.unshown;
        })
        stays.leaves;
    name = stays.name;
    reached = stays.reached;
  }

-- ---- before anything was put

pub stops_same : (inum : Option ℕ) (twice : Bool) (x : Image) (bytes : List ℕ) (y : Image) → files_of y ≡ files_of x → MayStop twice x inum bytes y
stops_same None twice x bytes y same = inl (inl same)
stops_same (Some inum) false x bytes y same = inl (inl same)
stops_same (Some inum) true x bytes y same = inl (inl (inl same))

pub never_same : (inum : Option ℕ) (twice : Bool) (old : Files) (bytes : List ℕ) (new : Files) → new ≡ old → IsNeverNeither inum twice old bytes new
never_same None twice old bytes new same = tt
never_same (Some inum) false old bytes new same = tt
never_same (Some inum) true old bytes new same = λ free. inl (ap (λ (f : Files). file_in f inum) same)
