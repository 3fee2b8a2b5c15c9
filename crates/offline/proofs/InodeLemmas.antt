-- Judging one inode after the other.
use Rattle.std.proofs.Common.{◌≡◌, ◌≢◌, ℕ, ◌+◌, ◌-◌, ◌<◌, ◌≤◌, Bool, true, false, cond, List, [], ◌∷◌, ◌++◌, map, Option, Some, None, Ok, Err, inl, inr, refl, sym, ap, subst, ◌∙◌, arith}
use Rattle.std.specs.Prelude.{is_some, count_by}
use Rattle.std.specs.List.{range_with_len}
use Rattle.std.proofs.lemmas.List.Recursion.{is_count_by}
use Rattle.offline.specs.Common.{addresses_in, append-nil, BadSize, BadType, CheckFault, depths, Dinode, file_at, file_count, first_here, first_later, first_none, first_of, first_pointer_fault, Form, form_of, greatest_size, Image, inode_count_of, inode_of, inodes_fault, IsCause, JudgesInode, JudgesInodes, le-ltb, lt-ltb, mapped_more, ne_eqb, Owners, places_below, places_below_next, pointers_along, pointers_of, Stand}
use Rattle.offline.specs.Taking.{Claims, TakesAll}
use Rattle.model.specs.Places.{pointers_in}
use Rattle.model.specs.Files.{file_of}
use Rattle.model.specs.Verdict.{inode_fault}

-- the pointers of a used inode
pub pointers_used : (y : Image) (d : Dinode) (form : Form) → form_of y ≡ form → d.kind ≢ 0 →
    pointers_in y d ≡ pointers_along y d.size 0 (depths form) d.addrs
unfolding pointers_in
pointers_used y d form is used = rw (ne_eqb d.kind 0 used, is) refl

pub bad_type : (y : Image) (i : ℕ) → 3 < (inode_of y i).kind → inode_fault y i ≡ Some (BadType i)
unfolding inode_fault
bad_type y i h = rw (lt-ltb 3 (inode_of y i).kind h) refl

pub bad_size : (y : Image) (i : ℕ) (form : Form) → form_of y ≡ form → (inode_of y i).kind ≤ 3 → (inode_of y i).kind ≢ 0 → greatest_size form < (inode_of y i).size → inode_fault y i ≡ Some (BadSize i)
unfolding inode_fault
bad_size y i form is kind used h =
    rw (le-ltb 3 (inode_of y i).kind kind, ne_eqb (inode_of y i).kind 0 used, is, lt-ltb (greatest_size form) (inode_of y i).size h) refl

-- a free inode has no fault, no places and no file
pub judged_free : (y : Image) (i old new : ℕ) (owners : Owners) → 1 ≤ i → (inode_of y i).kind ≡ 0 → Stand owners y (places_below y i) →
    JudgesInode y i old new owners (Ok false)
unfolding inode_fault pointers_in file_of
judged_free y i old new owners some free stand = (
  rw free refl,
  subst (Stand owners y) (sym (places_below_next y i some ∙ rw free (append-nil (places_below y i)))) stand,
  rw (ne_eqb i 0 (omega arith), free) refl,
)

-- what an inode of a form is that has no fault before its pointers
pub record IsUsed (y : Image) (i : ℕ) (form : Form) : Type 0 where
  pub is_form : form_of y ≡ form
  pub kind : (inode_of y i).kind ≤ 3
  pub used : (inode_of y i).kind ≢ 0
  pub size : (inode_of y i).size ≤ greatest_size form

-- it is judged by its pointers
pub used_fault : (y : Image) (i : ℕ) (form : Form) → IsUsed y i form →
    inode_fault y i ≡ first_pointer_fault y i (places_below y i) (pointers_of y i)
unfolding inode_fault
used_fault y i form is =
    rw (le-ltb 3 (inode_of y i).kind is.kind, ne_eqb (inode_of y i).kind 0 is.used, is.is_form, le-ltb (greatest_size form) (inode_of y i).size is.size) refl

pub file_there : (y : Image) (i : ℕ) → 1 ≤ i → (inode_of y i).kind ≢ 0 → true ≡ is_some (file_at y i)
unfolding file_of
file_there y i some used = rw (ne_eqb i 0 (omega arith), ne_eqb (inode_of y i).kind 0 used) refl

-- how many of them are there
some_count : {A : Type 0} → List (Option A) → ℕ
some_count [] = 0
some_count (x ∷ xs) = cond (is_some x) (1 + some_count xs) (some_count xs)

some_count-more : {A : Type 0} (xs : List (Option A)) (x : Option A) → some_count (xs ++ x ∷ []) ≡ some_count xs + cond (is_some x) 1 0
unfolding some_count
some_count-more [] None = refl
some_count-more [] (Some a) = refl
some_count-more (None ∷ xs) x = some_count-more xs x
some_count-more (Some b ∷ xs) x =
    let one = cond (is_some x) 1 0 in
    let e : 1 + (some_count xs + one) ≡ (1 + some_count xs) + one = omega arith in
    ap (λ n. 1 + n) (some_count-more xs x) ∙ e

some_count-is : {A : Type 0} (xs : List (Option A)) → some_count xs ≡ count_by (λ x. is_some x) xs
unfolding some_count
some_count-is {A} xs = is_count_by (λ ys. some_count {A = A} ys) (λ x. is_some x) refl (λ x ys. refl) xs

-- one number more
pub file_count_next : (y : Image) (i : ℕ) →
    file_count (map (file_at y) (range_with_len 0 (i + 1))) ≡ file_count (map (file_at y) (range_with_len 0 i)) + cond (is_some (file_at y i)) 1 0
file_count_next y i =
    let before = map (file_at y) (range_with_len 0 i) in
    ap file_count (mapped_more (file_at y) i)
    ∙ sym (some_count-is (before ++ file_at y i ∷ [])) ∙ some_count-more before (file_at y i)
    ∙ ap (λ n. n + cond (is_some (file_at y i)) 1 0) (some_count-is before)

-- what is said of a used inode once its pointers are judged
pub judged_used : (y : Image) (i : ℕ) (form : Form) (old new : ℕ) (before owners : Owners) → 1 ≤ i → IsUsed y i form →
    TakesAll Claims i (pointers_along y (inode_of y i).size 0 (depths form) (inode_of y i).addrs) old new before owners (Ok tt) →
    Stand before y (places_below y i) → JudgesInode y i old new owners (Ok true)
judged_used y i form old new before owners some is (inl taken) stand =
    let d = inode_of y i in
    let h = taken.0.judged y (places_below y i) stand in
    let same : pointers_of y i ≡ pointers_along y d.size 0 (depths form) d.addrs = pointers_used y d form is.is_form is.used in (
      used_fault y i form is ∙ ap (first_pointer_fault y i (places_below y i)) same ∙ h.0,
      subst (Stand owners y) (sym (places_below_next y i some ∙ ap (λ ps. places_below y i ++ addresses_in ps) same)) h.1,
      file_there y i some is.used,
    )
judged_used y i form old new before owners some is (inr ended) stand = absurd (cc ended.0.0)

pub cause_used : (y : Image) (i : ℕ) (form : Form) (old new : ℕ) (before owners : Owners) (fault : CheckFault) → IsUsed y i form →
    TakesAll Claims i (pointers_along y (inode_of y i).size 0 (depths form) (inode_of y i).addrs) old new before owners (Err fault) →
    Stand before y (places_below y i) → IsCause (inode_fault y i) old new fault
cause_used y i form old new before owners fault is (inl taken) stand =
    inl
    (used_fault y i form is ∙ ap (first_pointer_fault y i (places_below y i)) (pointers_used y (inode_of y i) form is.is_form is.used)
    ∙ taken.0.judged y (places_below y i) stand)
cause_used y i form old new before owners fault is (inr ended) stand = inr (inl (cc ended.0.0, ended.1))

-- what is known of the inodes below i, once the first i - 1 are judged without a fault
pub record AreJudged (y : Image) (i count : ℕ) (owners : Owners) : Type 0 where
  pub faults : first_of (inode_fault y) (range_with_len i (inode_count_of y - i)) ≡ inodes_fault y
  pub stand : Stand owners y (places_below y i)
  pub files : count ≡ file_count (map (file_at y) (range_with_len 0 i))

-- one inode more
pub judged_next : (y : Image) (i files more : ℕ) (used : Bool) (owners new : Owners) → i < inode_count_of y → AreJudged y i files owners →
    more ≡ files + cond used 1 0 →
    (inode_fault y i ≡ None) × Stand new y (places_below y (i + 1)) × (used ≡ is_some (file_at y i)) → AreJudged y (i + 1) more new
judged_next y i files more used owners new below before count here = record {
  faults = sym (first_later (inode_fault y) i (inode_count_of y) below here.0) ∙ before.faults;
  stand = here.1;
  files = count ∙ ap (λ n. n + cond used 1 0) before.files ∙ ap (λ b. file_count (map (file_at y) (range_with_len 0 i)) + cond b 1 0) here.2
      ∙ sym (file_count_next y i);
}

-- a fault of inode i is the first
pub cause_next : (y : Image) (i files old new : ℕ) (owners : Owners) (fault : CheckFault) → i < inode_count_of y → AreJudged y i files owners →
    IsCause (inode_fault y i) old new fault → IsCause (inodes_fault y) old new fault
cause_next y i files old new owners fault below before (inl here) =
    inl (sym before.faults ∙ first_here (inode_fault y) i (inode_count_of y) fault below here)
cause_next y i files old new owners fault below before (inr other) = inr other

-- with all of them
pub judged_all : (y : Image) (i files old new : ℕ) (owners : Owners) → i ≡ inode_count_of y → 1 ≤ i → AreJudged y i files owners →
    JudgesInodes y old new owners (Ok files)
judged_all y i files old new owners e some h = (
  sym h.faults ∙ first_none (inode_fault y) i (inode_count_of y) (omega arith),
  subst (λ (n : ℕ). Stand owners y (places_below y n)) e h.stand,
  h.files ∙ ap (λ n. file_count (map (file_at y) (range_with_len 0 n))) e,
)
