-- Noting pointers and inodes one after the other.
use Rattle.std.proofs.Common.{◌≡◌, ◌≢◌, ◌∙◌, ℕ, zero, suc, ◌+◌, ◌-◌, ◌<◌, ◌≤◌, Bool, true, false, cond, not, ltb, List, [], ◌∷◌, ◌++◌, length, Option, Some, None, Result, Ok, Err, inl, inr, refl, sym, ap, subst, arith}
use Rattle.std.specs.Prelude.{is_none, is_some, take, OnErr, OnOk}
use Rattle.std.specs.List.{flat_map, range_with_len}
use Rattle.std.proofs.lemmas.List.{take_at}
use Rattle.std.specs.Result.{IsErrAnd}
use Rattle.offline.specs.Common.{addresses_in, addresses_in-append, append-nil, append_assoc, BadGeometry, BadLog, BadMagic, BadSize, BadType, BreaksOff, CheckFault, Dinode, Disk, early_fault, flat_mapped_next, Form, form_of, geometry_fault, GoesThrough, greatest_size, has_known_magic, HasNoted, HearsFirst, Image, inode_of, inodes_faults, is_lawful_log, is_lawful_super, IsBreak, IsCause, judged_faults, listed, log_fault, marks_faults, ne_eqb, NoMemory, NotesPointers, one_more, or_else, Owners, places_below, places_below_next, Pointer, pointer_fault, pointer_faults, pointers_of, recovered, Rose, Stand, super_of, TellsAll, TellsAlone}
use Rattle.model.specs.Faults.{inode_faults, faults}
use Rattle.model.specs.Places.{pointers_in}
use Rattle.model.specs.Lemmas.Faults.{pointer_faults-append}
use Rattle.offline.specs.declared.notes.Owner.{Owner}

-- ---- how a walk ends

-- behind calls that kept the count of the disk's faults
pub broken_on : {T : Type 0} (r : Result T CheckFault) (e : CheckFault) (old mid new : ℕ) → IsErrAnd r (λ f. f ≡ e) → mid ≡ old → IsBreak mid new e → GoesThrough r old new
broken_on (Ok _) e old mid new is same cause = absurd is
broken_on (Err f) e old mid new is same cause = subst (λ (g : CheckFault). IsBreak old new g) (sym is) (subst (λ (c : ℕ). IsBreak c new e) same cause)

-- a read that failed
pub failed_on : {T : Type 0} (r : Result T CheckFault) (old mid new : ℕ) → IsErrAnd r (λ f. f ≡ Disk) → mid ≡ old → new ≡ one_more mid → GoesThrough r old new
failed_on r old mid new is same more = broken_on r Disk old mid new is same (rose mid new more)
  where
    rose : (a b : ℕ) → b ≡ one_more a → Rose a b
    rose a b e = omega (arith, e)

-- ---- pointers

judged_faults-append : (y : Image) (owner : Owner) (earlier : List ℕ) (front back : List Pointer) →
    judged_faults y owner earlier (front ++ back) ≡ judged_faults y owner earlier front ++ judged_faults y owner (earlier ++ addresses_in front) back
judged_faults-append y owner earlier front back =
    elim owner.is_judged as (λ v. cond v (pointer_faults y owner.number earlier (front ++ back)) []
    ≡ cond v (pointer_faults y owner.number earlier front) [] ++ cond v (pointer_faults y owner.number (earlier ++ addresses_in front) back) [])
    [ true ↦ pointer_faults-append y owner.number earlier front back | false ↦ refl ]

-- of the pointers `whole`, `rest` are still to be noted
pub record IsNoting {H : Type 0} (hears : H → List CheckFault → H → Type 0) (y : Image) (owner : Owner) (earlier : List ℕ) (whole rest : List Pointer) (owners : Owners) (before now : H) : Type 0 where
  pub front : List Pointer
  pub split : whole ≡ front ++ rest
  pub noted : HasNoted hears y owner earlier front owners before now

module _ {H : Type 0} (hears : H → List CheckFault → H → Type 0) (none : (a : H) → hears a [] a) (more : (a b c : H) (front back : List CheckFault) → hears a front b → hears b back c → hears a (front ++ back) c) where
  -- none were noted
  noted_none : (y : Image) (owner : Owner) (earlier : List ℕ) (owners : Owners) (a : H) → Stand owners y earlier →
      HasNoted hears y owner earlier [] owners a a
  noted_none y owner earlier owners a stand = record {
    stand = subst (Stand owners y) (sym (append-nil earlier)) stand;
    heard = subst (λ (l : List CheckFault). hears a l a) (sym (nothing owner.is_judged)) (none a);
  }
    where
      nothing : (b : Bool) → cond b (pointer_faults y owner.number earlier []) [] ≡ []
      nothing true = refl
      nothing false = refl

  -- two lists were noted, one after the other
  noted_both : (y : Image) (owner : Owner) (earlier : List ℕ) (front back : List Pointer) (mid new : Owners) (before between after : H) →
      HasNoted hears y owner earlier front mid before between → HasNoted hears y owner (earlier ++ addresses_in front) back new between after →
      HasNoted hears y owner earlier (front ++ back) new before after
  noted_both y owner earlier front back mid new before between after first second =
      let one = judged_faults y owner earlier front in
      let two = judged_faults y owner (earlier ++ addresses_in front) back in
      let joined : (earlier ++ addresses_in front) ++ addresses_in back ≡ earlier ++ addresses_in (front ++ back)
      = append_assoc earlier (addresses_in front) (addresses_in back) ∙ ap (λ r. earlier ++ r) (sym (addresses_in-append front back)) in
      record {
        stand = subst (Stand new y) joined second.stand;
        heard = subst (λ (l : List CheckFault). hears before l after) (sym (judged_faults-append y owner earlier front back))
            (more before between after one two first.heard second.heard);
      }

  -- one pointer was noted, whose fault was told where its owner is judged
  pub noted_one : (y : Image) (owner : Owner) (earlier : List ℕ) (p : Pointer) (new : Owners) (fault : Option CheckFault) (before after : H) →
      fault ≡ pointer_fault y owner.number earlier p → Stand new y (earlier ++ addresses_in (p ∷ [])) →
      hears before (cond owner.is_judged (listed fault) []) after → HasNoted hears y owner earlier (p ∷ []) new before after
  noted_one y owner earlier p new fault before after is stand told = record {
    stand = stand;
    heard = subst (λ (l : List CheckFault). hears before l after) (ap (λ f. cond owner.is_judged (listed f) []) is ∙ one owner.is_judged) told;
  }
    where
      one : (b : Bool) → cond b (listed (pointer_fault y owner.number earlier p)) [] ≡ cond b (pointer_faults y owner.number earlier (p ∷ [])) []
      one true = sym (append-nil (listed (pointer_fault y owner.number earlier p)))
      one false = refl

  -- all are still to be noted, at first
  pub noting_first : (y : Image) (owner : Owner) (earlier : List ℕ) (whole : List Pointer) (owners : Owners) (a : H) →
      Stand owners y earlier → IsNoting hears y owner earlier whole whole owners a a
  noting_first y owner earlier whole owners a stand = record {
    front = [];
    split = refl;
    noted = noted_none y owner earlier owners a stand;
  }

  -- the next of them were noted
  pub noting_next : (y : Image) (owner : Owner) (earlier : List ℕ) (whole rest here next : List Pointer) (owners new : Owners) (before now after : H) →
      IsNoting hears y owner earlier whole rest owners before now → rest ≡ here ++ next → NotesPointers hears y owner here owners new now after →
      IsNoting hears y owner earlier whole next new before after
  noting_next y owner earlier whole rest here next owners new before now after had cut notes = record {
    front = had.front ++ here;
    split = had.split ∙ ap (λ r. had.front ++ r) cut ∙ sym (append_assoc had.front here next);
    noted = noted_both y owner earlier had.front here owners new before now after had.noted (notes (earlier ++ addresses_in had.front) had.noted.stand);
  }

-- none are, at last
pub noting_last : {H : Type 0} (hears : H → List CheckFault → H → Type 0) (y : Image) (owner : Owner) (earlier : List ℕ) (whole rest : List Pointer) (owners : Owners) (before now : H) →
    IsNoting hears y owner earlier whole rest owners before now → rest ≡ [] → HasNoted hears y owner earlier whole owners before now
noting_last hears y owner earlier whole rest owners before now had none =
    rw (had.split ∙ ap (λ r. had.front ++ r) none ∙ append-nil had.front) had.noted

-- ---- inodes

faults_free : (y : Image) (i : ℕ) → (inode_of y i).kind ≡ 0 → inode_faults y i ≡ []
unfolding inode_faults
faults_free y i free = rw free refl

pub noted_free : {H : Type 0} (hears : H → List CheckFault → H → Type 0) (y : Image) (i : ℕ) (owners : Owners) (a : H) → hears a [] a → 1 ≤ i → (inode_of y i).kind ≡ 0 → Stand owners y (places_below y i) →
    Stand owners y (places_below y (i + 1)) × hears a (inode_faults y i) a
unfolding pointers_in
noted_free hears y i owners a none some free stand = (
  subst (Stand owners y) (sym (places_below_next y i some ∙ rw free (append-nil (places_below y i)))) stand,
  subst (λ (l : List CheckFault). hears a l a) (sym (faults_free y i free)) none,
)

-- what stands before the pointers of a used inode, and then these
faults_used : (y : Image) (i : ℕ) (form : Form) → form_of y ≡ form → (inode_of y i).kind ≢ 0 →
    inode_faults y i
    ≡ listed (early_fault i (inode_of y i) form)
    ++ cond (is_none (early_fault i (inode_of y i) form)) (pointer_faults y i (places_below y i) (pointers_of y i)) []
unfolding inode_faults
faults_used y i form is used =
    rw (ne_eqb (inode_of y i).kind 0 used, is) (by_cases (ltb 3 (inode_of y i).kind) (ltb (greatest_size form) (inode_of y i).size))
  where
    by_cases : (typed sized : Bool) →
        cond typed (BadType i ∷ []) (cond sized (BadSize i ∷ []) (pointer_faults y i (places_below y i) (pointers_of y i)))
        ≡ listed (cond typed (Some (BadType i)) (cond sized (Some (BadSize i)) None))
        ++ cond (is_none (cond typed (Some (BadType i)) (cond sized (Some (BadSize i)) None))) (pointer_faults y i (places_below y i) (pointers_of y i)) []
    by_cases true sized = refl
    by_cases false true = refl
    by_cases false false = refl

-- the same, of the inode as it was read
faults_read : (y : Image) (i : ℕ) (d : Dinode) (form : Form) (fault : Option CheckFault) → d ≡ inode_of y i → form_of y ≡ form → d.kind ≢ 0 → fault ≡ early_fault i d form →
    inode_faults y i ≡ listed fault ++ cond (is_none fault) (pointer_faults y i (places_below y i) (pointers_in y d)) []
faults_read y i d form fault read is used early =
    let same : pointers_in y d ≡ pointers_of y i = ap (pointers_in y) read in
    let kind : (inode_of y i).kind ≢ 0 = subst (λ (e : Dinode). e.kind ≢ 0) read used in
    let found : fault ≡ early_fault i (inode_of y i) form = early ∙ ap (λ (e : Dinode). early_fault i e form) read in
    faults_used y i form is kind
    ∙ sym (ap (λ f. listed f ++ cond (is_none f) (pointer_faults y i (places_below y i) (pointers_of y i)) []) found)
    ∙ sym (ap (λ ps. listed fault ++ cond (is_none fault) (pointer_faults y i (places_below y i) ps) []) same)

pub noted_used : {H : Type 0} (hears : H → List CheckFault → H → Type 0) (y : Image) (i : ℕ) (d : Dinode) (form : Form) (new : Owners) (fault : Option CheckFault) (before mid after : H) →
    ((a b c : H) (front back : List CheckFault) → hears a front b → hears b back c → hears a (front ++ back) c) → 1 ≤ i →
    d ≡ inode_of y i → form_of y ≡ form → d.kind ≢ 0 → fault ≡ early_fault i d form → hears before (listed fault) mid →
    HasNoted hears y (record { number = i; is_judged = is_none fault }) (places_below y i) (pointers_in y d) new mid after →
    Stand new y (places_below y (i + 1)) × hears before (inode_faults y i) after
noted_used hears y i d form new fault before mid after more some read is used early told noted =
    let same : pointers_in y d ≡ pointers_of y i = ap (pointers_in y) read in
    let owed = cond (is_none fault) (pointer_faults y i (places_below y i) (pointers_in y d)) [] in (
      subst (Stand new y) (ap (λ ps. places_below y i ++ addresses_in ps) same ∙ sym (places_below_next y i some)) noted.stand,
      subst (λ (l : List CheckFault). hears before l after) (sym (faults_read y i d form fault read is used early))
          (more before mid after (listed fault) owed told noted.heard),
    )

-- what is told of an inode whose pointers could not be read
pub noted_early : {H : Type 0} (hears : H → List CheckFault → H → Type 0) (y : Image) (i : ℕ) (d : Dinode) (form : Form) (fault : Option CheckFault) (before mid : H) →
    d ≡ inode_of y i → form_of y ≡ form → d.kind ≢ 0 → fault ≡ early_fault i d form → hears before (listed fault) mid → BreaksOff hears (inode_faults y i) before mid
noted_early hears y i d form fault before mid read is used early told = record {
  front = listed fault;
  rest = cond (is_none fault) (pointer_faults y i (places_below y i) (pointers_in y d)) [];
  split = faults_read y i d form fault read is used early;
  heard = told;
}

-- ---- what is told

-- what numbers from 1 on have, up to one of them, and then the rest
numbered_rest : {X : Type 0} (f : ℕ → List X) (i m : ℕ) → 1 ≤ i → (rest : List X) × (flat_map f (range_with_len 1 (i + m - 1)) ≡ flat_map f (range_with_len 1 (i - 1)) ++ rest)
numbered_rest f i zero some = ([], ap (λ n. flat_map f (range_with_len 1 n)) (omega arith) ∙ sym (append-nil (flat_map f (range_with_len 1 (i - 1)))))
numbered_rest f i (suc m) some =
    let had = numbered_rest f i m some in
    let here : i + suc m - 1 ≡ i + m + 1 - 1 = omega arith in
    let low : 1 ≤ i + m = omega arith in (
      had.0 ++ f (i + m),
      ap (λ n. flat_map f (range_with_len 1 n)) here ∙ flat_mapped_next f (i + m) low ∙ ap (λ l. l ++ f (i + m)) had.1
          ∙ append_assoc (flat_map f (range_with_len 1 (i - 1))) had.0 (f (i + m)),
    )

module _ {H : Type 0} (hears : H → List CheckFault → H → Type 0) where
  -- it broke off before anything was told
  pub breaks_first : (faults : List CheckFault) (a : H) → hears a [] a → BreaksOff hears faults a a
  breaks_first faults a none = record { front = []; rest = faults; split = refl; heard = none }

  -- or whatever comes behind
  pub breaks_early : (front back : List CheckFault) (a b : H) → BreaksOff hears front a b → BreaksOff hears (front ++ back) a b
  breaks_early front back a b broke = record {
    front = broke.front;
    rest = broke.rest ++ back;
    split = ap (λ l. l ++ back) broke.split ∙ append_assoc broke.front broke.rest back;
    heard = broke.heard;
  }

  pub hears_first : (faults : List CheckFault) (a b : H) → BreaksOff hears faults a b → HearsFirst hears faults a b
  hears_first faults a b broke = (
    length broke.front,
    subst (λ (l : List CheckFault). hears a l b) (sym (ap (take (length broke.front)) broke.split ∙ take_at broke.front broke.rest (length broke.front) refl)) broke.heard,
  )

  module _ (more : (a b c : H) (front back : List CheckFault) → hears a front b → hears b back c → hears a (front ++ back) c) where
    -- what was told so far, and what was told here
    pub heard_next : (before now after : H) (front here next : List CheckFault) → hears before front now → hears now here after → next ≡ front ++ here → hears before next after
    heard_next before now after front here next so_far told whole =
        subst (λ (l : List CheckFault). hears before l after) (sym whole) (more before now after front here so_far told)

    -- it broke off behind others that were all told
    pub breaks_behind : (front back : List CheckFault) (a b c : H) → hears a front b → BreaksOff hears back b c → BreaksOff hears (front ++ back) a c
    breaks_behind front back a b c told broke = record {
      front = front ++ broke.front;
      rest = broke.rest;
      split = ap (λ l. front ++ l) broke.split ∙ sym (append_assoc front broke.front broke.rest);
      heard = more a b c front broke.front told broke.heard;
    }

    -- it broke off among the faults of number i
    pub breaks_at : (f : ℕ → List CheckFault) (i n : ℕ) (before now after : H) → 1 ≤ i → i < n → hears before (flat_map f (range_with_len 1 (i - 1))) now → BreaksOff hears (f i) now after →
        BreaksOff hears (flat_map f (range_with_len 1 (n - 1))) before after
    breaks_at f i n before now after some below told broke =
        let last : 1 ≤ i + 1 = omega arith in
        let others = numbered_rest f (i + 1) (n - (i + 1)) last in
        let all : i + 1 + (n - (i + 1)) ≡ n = omega arith in
        let whole : flat_map f (range_with_len 1 (n - 1)) ≡ (flat_map f (range_with_len 1 (i - 1)) ++ f i) ++ others.0
        = ap (λ k. flat_map f (range_with_len 1 (k - 1))) (sym all) ∙ others.1 ∙ ap (λ l. l ++ others.0) (flat_mapped_next f i some) in
        subst (λ (l : List CheckFault). BreaksOff hears l before after) (sym whole)
        (breaks_early (flat_map f (range_with_len 1 (i - 1)) ++ f i) others.0 before after
        (breaks_behind (flat_map f (range_with_len 1 (i - 1))) (f i) before now after told broke))

-- a fault of the superblock or of the log stands alone
pub faults_alone : (x : Image) (fault : CheckFault) → or_else (geometry_fault x) (log_fault x) ≡ Some fault → faults x ≡ fault ∷ []
unfolding faults
faults_alone x fault h = rw h refl

pub faults_contents : (x : Image) → geometry_fault x ≡ None → is_lawful_log x ≡ true →
    faults x ≡ inodes_faults (recovered x) ++ marks_faults (recovered x)
unfolding faults
faults_contents x none lawful = rw (none, lawful) refl

-- and none of them is of the disk
pub never_disk : (x : Image) → or_else (geometry_fault x) (log_fault x) ≡ Some Disk → ⊥
never_disk x h = by_cases (ltb (length x) 2) (has_known_magic x) (is_lawful_super (super_of x) (length x)) (is_lawful_log x) h
  where
    by_cases : (short known lawful logged : Bool) →
        or_else (cond short (Some BadGeometry) (cond (not known) (Some BadMagic) (cond (not lawful) (Some BadGeometry) None))) (cond logged None (Some BadLog)) ≡ Some Disk → ⊥
    by_cases true known lawful logged e = cc e
    by_cases false false lawful logged e = cc e
    by_cases false true false logged e = cc e
    by_cases false true true true e = cc e
    by_cases false true true false e = cc e

-- why an image was not opened, where it isn't the disk
pub opening_fault : (x : Image) (old new : ℕ) (fault : CheckFault) → IsCause (or_else (geometry_fault x) (log_fault x)) old new fault → fault ≢ Disk → fault ≢ NoMemory →
    faults x ≡ fault ∷ []
opening_fault x old new fault (inl here) other more = faults_alone x fault here
opening_fault x old new fault (inr (inl disk)) other more = absurd (other disk.0)
opening_fault x old new fault (inr (inr memory)) other more = absurd (more memory)

-- where it is
pub opening_disk : (x : Image) (old new : ℕ) → IsCause (or_else (geometry_fault x) (log_fault x)) old new Disk → Rose old new
opening_disk x old new (inl here) = absurd (never_disk x here)
opening_disk x old new (inr (inl disk)) = disk.1
opening_disk x old new (inr (inr memory)) = absurd (cc memory)

module _ {H : Type 0} (hears : H → List CheckFault → H → Type 0) (x : Image) (a b : H) where
  -- how a check ends that opened no image
  pub unopened : (r : Result (Unit {0}) CheckFault) (fault : CheckFault) (old new : ℕ) → IsCause (or_else (geometry_fault x) (log_fault x)) old new fault →
      (fault ≢ Disk → new ≡ old) → TellsAlone hears fault a b r → GoesThrough r old new
  unopened (Ok v) fault old new cause kept told = kept told.0
  unopened (Err f) fault old new cause kept why =
      subst (λ (e : CheckFault). IsBreak old new e) (sym why.0) (opening_disk x old new (subst (λ (e : CheckFault). IsCause (or_else (geometry_fault x) (log_fault x)) old new e) why.1 cause))

  pub alone_heard : (r : Result (Unit {0}) CheckFault) (fault : CheckFault) (old new : ℕ) → IsCause (or_else (geometry_fault x) (log_fault x)) old new fault →
      fault ≢ NoMemory → TellsAlone hears fault a b r → OnOk r (hears a (faults x) b)
  alone_heard (Ok v) fault old new cause memory told =
      subst (λ (l : List CheckFault). hears a l b) (sym (opening_fault x old new fault cause told.0 memory)) told.1
  alone_heard (Err f) fault old new cause memory why = tt

  pub alone_broken : (r : Result (Unit {0}) CheckFault) (fault : CheckFault) → hears a [] a → TellsAlone hears fault a b r → OnErr r (HearsFirst hears (faults x) a b)
  alone_broken (Ok v) fault none told = tt
  alone_broken (Err f) fault none why =
      subst (HearsFirst hears (faults x) a) (sym why.2) (hears_first hears (faults x) a a (breaks_first hears (faults x) a none))

  -- how one ends that opened it
  pub contents_heard : (r : Result (Unit {0}) CheckFault) (whole : List CheckFault) → whole ≡ faults x → TellsAll hears whole a b r → OnOk r (hears a (faults x) b)
  contents_heard (Ok v) whole is told = subst (λ (l : List CheckFault). hears a l b) is told
  contents_heard (Err f) whole is broke = tt

  pub contents_broken : (r : Result (Unit {0}) CheckFault) (whole : List CheckFault) → whole ≡ faults x → TellsAll hears whole a b r → OnErr r (HearsFirst hears (faults x) a b)
  contents_broken (Ok v) whole is told = tt
  contents_broken (Err f) whole is broke = hears_first hears (faults x) a b (subst (λ (l : List CheckFault). BreaksOff hears l a b) is broke)

pub on_err_anyway : {T E P : Type 0} (r : Result T E) → P → OnErr r P
on_err_anyway (Ok v) p = tt
on_err_anyway (Err e) p = p

pub is_none_where : {A : Type 0} (o : Option A) (r : Bool) → is_some o ≡ not r → r ≡ is_none o
is_none_where None true h = refl
is_none_where None false h = absurd (cc h)
is_none_where (Some a) true h = absurd (cc h)
is_none_where (Some a) false h = refl
