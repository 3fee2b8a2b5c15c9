-- An attribute of a file is set: the turn, what is answered, and the end.
use Rattle.std.proofs.Common.{replicate, ap₂, ◌≡◌, ◌≢◌, ℕ, ◌*◌, ◌/◌, ◌%◌, ◌<◌, ◌≤◌, ◌^◌, set, get_or, take, length, Option, Some, None, refl, sym, ap, subst, ◌∙◌, arith, length-set, get_or-set_same, get_or-set_other, get_or-take, ◌+◌, List, ◌++◌, append-nil, ◌-◌, take_all, true}
use Rattle.std.proofs.lemmas.List.{length-replicate, take-replicate, set-get_or, drop_all}
use Rattle.in_flight.specs.Common.{addresses_in, block_at, Claim, Claims, count_of, data_at, Dinode, ext_get_or, file_in, Files, FitsHeld, FitsThen, form_of, grows, Image, IsFine, IsFit, IsFullAt, IsGrowing, le-ltb, length-take-le, lt-ltb, names_claimed, with_inode, le-leb, Form, transfer_limit, overwritten, greatest_size, may_have_written}
use Rattle.model.specs.declared.types.image.File.{File}
use Rattle.model.specs.declared.types.operations.Attribute.{Attribute}
use Rattle.model.specs.declared.types.operations.Attribute.TheVariants.{Links, Size}
use Rattle.model.specs.declared.types.operations.Op.TheVariants.{SetAttribute}
use Rattle.model.specs.declared.types.operations.Reply.TheVariants.{Wrote}
use Rattle.model.specs.Files.{bytes_in}
use Rattle.model.specs.Layout.{inode_of}
use Rattle.model.specs.Lemmas.Bytes.{byte_at, length-bytes_in}
use Rattle.model.specs.Operations.{after, with_attribute, with_bytes}
use Rattle.model.specs.Places.{address_in, pointers_in}
use Rattle.in_flight.specs.AttributeLaws.{file_said, files_set, IsAllowed, SetAnswers, SetRefuses, SetRests, TurnSets, unwritten, with_value, AdditionAnswers}
use Rattle.in_flight.specs.GrowthLaws.{files_grown}
use Rattle.in_flight.specs.Looks.{IsUsed}
use Rattle.in_flight.specs.Lemmas.BlocksTaken.{overwritten_none}
use Rattle.in_flight.specs.Lemmas.GrowthBlocks.{same_file_there}
use Rattle.in_flight.specs.Lemmas.GrowthEnds.{growth_rests, has_written_so_many}
use Rattle.in_flight.specs.Lemmas.HeldFrames.{growing_of, whole_names}
use Rattle.in_flight.specs.Lemmas.HeldLooks.{resting, resting_tells}
use Rattle.in_flight.specs.Lemmas.Looks.{between, full_blocks}
use Rattle.in_flight.specs.Lemmas.SameBytes.{bytes_alike}
use Rattle.in_flight.specs.Lemmas.Turns.{changes_claim}

-- ---- an attribute has no part in where an inode leads

leads_alike : (x : Image) (d : Dinode) (attribute : Attribute) (k : ℕ) → address_in x (with_value d attribute) k ≡ address_in x d k
unfolding address_in
leads_alike x d (Links n) k = refl
leads_alike x d (Size n) k = refl

names_alike : (x : Image) (d : Dinode) (attribute : Attribute) → d.kind ≢ 0 →
    addresses_in (pointers_in x (with_value d attribute)) ≡ addresses_in (pointers_in x d)
names_alike x d (Links n) used = whole_names x (with_value d (Links n)) used ∙ sym (whole_names x d used)
names_alike x d (Size n) used = whole_names x (with_value d (Size n)) used ∙ sym (whole_names x d used)

bytes_counted : (x : Image) (d : Dinode) (n : ℕ) → bytes_in x (with_value d (Links n)) ≡ bytes_in x d
bytes_counted x d n = bytes_alike x x d (with_value d (Links n)) refl (λ k need. ap (data_at x) (leads_alike x d (Links n) k))

-- an inode with a length within its file has the bytes up to it
bytes_cut : (x : Image) (d : Dinode) (n : ℕ) → n ≤ d.size → ((k : ℕ) → k * 1024 < d.size → IsFullAt x (address_in x d k)) →
    bytes_in x (with_value d (Size n)) ≡ take n (bytes_in x d)
bytes_cut x d n few there =
    let cut = with_value d (Size n) in
    let full : (k : ℕ) → k * 1024 < n → IsFullAt x (address_in x cut k) =
    λ k low. subst (IsFullAt x) (sym (leads_alike x d (Size n) k)) (there k (omega (arith, low, few))) in
    let long = length-bytes_in x cut full in
    ext_get_or 0 (bytes_in x cut) (take n (bytes_in x d))
    (long ∙ sym (length-take-le n (bytes_in x d) (omega (arith, few, length-bytes_in x d there))))
    (λ j h.
    let low : j < n = omega (arith, h, long) in
    byte_at x cut full j low
    ∙ ap (λ b. get_or (block_at x b) (j % 1024) 0) (leads_alike x d (Size n) (j / 1024))
    ∙ sym (get_or-take n (bytes_in x d) j 0 low ∙ byte_at x d there j (omega (arith, low, few))))

fit_alike : (x : Image) (d : Dinode) (attribute : Attribute) → IsAllowed d attribute → IsFit x d → IsFit x (with_value d attribute)
fit_alike x d (Links n) few fit = record {
  fields = record {
    kind = fit.fields.kind;
    major = fit.fields.major;
    minor = fit.fields.minor;
    nlink = few;
    size = fit.fields.size;
    count = fit.fields.count;
    addrs = fit.fields.addrs;
  };
  used = fit.used;
  kind = fit.kind;
  size = fit.size;
  whole = λ k need z. fit.whole k need (sym (leads_alike x d (Links n) k) ∙ z);
}
fit_alike x d (Size n) few fit = record {
  fields = record {
    kind = fit.fields.kind;
    major = fit.fields.major;
    minor = fit.fields.minor;
    nlink = fit.fields.nlink;
    size = omega (arith, few, fit.fields.size);
    count = fit.fields.count;
    addrs = fit.fields.addrs;
  };
  used = fit.used;
  kind = fit.kind;
  size = omega (arith, few, fit.size);
  whole = λ k need z. fit.whole k (omega (arith, need, few)) (sym (leads_alike x d (Size n) k) ∙ z);
}

-- ---- the turn

-- the copy has what is left of the file
growing_set : (m : Files) (x : Image) (claims : Claims) (i : ℕ) (attribute : Attribute) → FitsHeld m x claims → IsUsed x i →
    claims i ≡ None → IsAllowed (inode_of x i) attribute → (file : Option File) → file ≡ Some (with_attribute (file_said x i) attribute) →
    IsGrowing x i (unwritten (with_value (inode_of x i) attribute)) file
growing_set m x claims i (Links n) f used none few file was =
    let d = inode_of x i in
    record {
      fit = fit_alike x d (Links n) few (resting_tells m x claims i f used none).its.fit;
      same_kind = refl;
      labels = refl;
      old = with_attribute (file_said x i) (Links n);
      was = was;
      kind = refl;
      links = refl;
      reaches = omega arith;
      ends = λ no. absurd (cc no);
      bytes = bytes_counted x d n ∙ sym (overwritten_none (bytes_in x d) 0 (omega arith));
    }
growing_set m x claims i (Size n) f used none few file was =
    let d = inode_of x i in
    record {
      fit = fit_alike x d (Size n) few (resting_tells m x claims i f used none).its.fit;
      same_kind = refl;
      labels = refl;
      old = with_attribute (file_said x i) (Size n);
      was = was;
      kind = refl;
      links = refl;
      reaches = omega arith;
      ends = λ no. absurd (cc no);
      bytes = bytes_cut x d n few (full_blocks m x i (resting m x claims i f used none) used)
          ∙ sym (overwritten_none (take n (bytes_in x d)) 0 (omega arith));
    }

pub turn_sets : TurnSets
turn_sets m x claims new i attribute f used none allowed now =
    let d = inode_of x i in
    let at = between x i used.0 in
    let high = at.high in
    let file = with_attribute (file_said x i) attribute in
    changes_claim m x claims i (set m i (Some file)) new (record {
      fits = f;
      low = at.low;
      high = at.high;
      claims_same = now.others;
      count = length-set m i (Some file);
      files = λ j ne. get_or-set_other m i j (Some file) None ne;
      alike = λ c.
          ap (λ (o : Option Claim). count_of c (names_claimed x i o)) now.own
          ∙ ap (count_of c) (names_alike x d attribute used.1)
          ∙ sym (ap (λ (o : Option Claim). count_of c (names_claimed x i o)) none);
      fine = subst (λ (o : Option Claim). IsFine x i o (file_in (set m i (Some file)) i)) (sym now.own)
          (growing_set m x claims i attribute f used none allowed _ (get_or-set_same m i (Some file) None (omega (arith, high, f.count))));
    })

pub set_answers : SetAnswers
unfolding after
set_answers m x claims i (Links n) f used none allowed =
    let file = (resting_tells m x claims i f used none).its.file in
    rw (file, file) refl
set_answers m x claims i (Size n) f used none allowed =
    let its = (resting_tells m x claims i f used none).its in
    let within : n ≤ length (bytes_in x (inode_of x i)) = omega (arith, allowed, its.length) in
    rw (its.file, le-ltb (length (bytes_in x (inode_of x i))) n within, its.file, le-leb n (length (bytes_in x (inode_of x i))) within) refl

pub set_refuses : SetRefuses
unfolding after
set_refuses m x claims i n f used none less =
    let its = (resting_tells m x claims i f used none).its in
    let old = length (bytes_in x (inode_of x i)) in
    let longer = lt-ltb old n (omega (arith, less, its.length)) in (
      (λ many. rw (its.file, longer, lt-ltb (old + transfer_limit) n (omega (arith, many, its.length))) refl),
      (λ few big.
          rw (its.file, longer, le-ltb (old + transfer_limit) n (omega (arith, few, its.length)), lt-ltb (greatest_size (form_of x)) n big) refl),
    )

-- ---- zeroes are added

-- bytes that begin where the old ones end stand behind them
overwritten_at_end : (old new : List ℕ) → overwritten old (length old) new ≡ old ++ new
overwritten_at_end old new =
    ap (λ (l : List ℕ). (take (length old) old ++ new) ++ l) (drop_all (length old + length new) old (omega arith))
    ∙ append-nil (take (length old) old ++ new) ∙ ap (λ (l : List ℕ). l ++ new) (take_all (length old) old (omega arith))

-- an extension that is not refused answers how many zeroes it added
added_answers : (form : Form) (m : Files) (i n k : ℕ) (old : File) → file_in m i ≡ Some old → length old.bytes < n →
    n ≤ length old.bytes + transfer_limit → n ≤ greatest_size form → may_have_written (length old.bytes) (length old.bytes) (n - length old.bytes) k ≡ true →
    after form m (SetAttribute i (Size n)) (Wrote k) ≡ Some (set m i (with_bytes old (old.bytes ++ replicate k 0)))
unfolding after
added_answers form m i n k old is longer few fits may =
    let long = lt-ltb (length old.bytes) n longer in
    rw (is, long, le-ltb (length old.bytes + transfer_limit) n few, le-ltb (greatest_size form) n fits, is, long, may) refl

pub addition_answers : AdditionAnswers
addition_answers m x claims i g old n k h ends longer w is =
    let growing = growing_of m x claims i g h in
    let same = same_file_there growing.old old (sym growing.was ∙ is) in
    let long = ap (λ (f : File). length f.bytes) same in
    let off : g.offset ≡ length old.bytes = (let reaches = growing.reaches in let past = growing.ends ends in omega (arith, reaches, past, long)) in
    let count : length (replicate (n - g.offset) 0) ≡ n - g.offset = length-replicate (n - g.offset) 0 in
    let few = w.few in
    let fits = w.fits in
    let most = w.most in
    let may : may_have_written (length old.bytes) (length old.bytes) (n - length old.bytes) k ≡ true =
    subst (λ (o : ℕ). may_have_written (length old.bytes) o (n - o) k ≡ true) off
    (subst (λ (c : ℕ). may_have_written (length old.bytes) g.offset c k ≡ true) count
    (has_written_so_many m x claims i g old g.offset k (replicate (n - g.offset) 0) h w is)) in
    let bytes : overwritten old.bytes g.offset g.written ≡ old.bytes ++ replicate k 0 =
    ap₂ (overwritten old.bytes) off (w.written ∙ take-replicate k (n - g.offset) 0 (omega (arith, most, count)))
    ∙ overwritten_at_end old.bytes (replicate k 0) in
    added_answers (form_of x) m i n k old is (omega (arith, longer, off)) (omega (arith, few, count, off)) (omega (arith, fits, count, longer)) may
    ∙ ap (λ (l : List ℕ). Some (set m i (with_bytes old l))) (sym bytes)

-- ---- the end

pub set_rests : SetRests
set_rests m x claims new i d h now =
    let growing = growing_of m x claims i (unwritten d) h in
    let at = between x i h.number in
    let high = at.high in
    let old = growing.old in
    let same : files_grown m i old (unwritten d) ≡ m =
    ap (λ l. set m i (Some (record old { bytes = l }))) (overwritten_none old.bytes 0 (omega arith))
    ∙ ap (set m i) (sym growing.was) ∙ set-get_or m i None in
    subst (λ (n : Files). FitsThen n x claims i (with_inode x i d) new) same
    (growth_rests m x claims new i (unwritten d) old h refl growing.was now)
