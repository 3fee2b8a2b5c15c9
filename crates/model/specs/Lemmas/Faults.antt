-- The faults of an image, and the first of them.
use Rattle.std.proofs.Common.{◌≡◌, ◌∙◌, ℕ, Bool, true, false, cond, eqb, ltb, List, [], ◌∷◌, ◌++◌, Option, Some, None, refl, ap, ap₂, sym}
use Rattle.std.specs.List.{flat_map, range_with_len}
use Rattle.model.specs.Common.{addresses_in, append-nil, append_assoc, BadSize, BadType, CheckFault, form_of, greatest_size, Image, numbers_of, Pointer, pointers_of, VerdictIsFirst}
use Rattle.model.specs.Faults.{listed, alone_or, first_in, pointer_faults, inode_faults, inodes_faults, marks_faults, faults}
use Rattle.model.specs.Layout.{inode_of}
use Rattle.model.specs.Log.{recovered}
use Rattle.model.specs.Verdict.{or_else, first_of, geometry_fault, log_fault, places_below, pointer_fault, first_pointer_fault, inode_fault, inodes_fault, mark_fault, marks_fault, verdict}
use Rattle.model.specs.Lemmas.Names.{addresses_in-append}
use Rattle.model.specs.Lemmas.Verdict.{or_else-assoc}

-- the faults of two lists of pointers, one list after the other
pub pointer_faults-append : (y : Image) (i : ℕ) (earlier : List ℕ) (front back : List Pointer) →
    pointer_faults y i earlier (front ++ back)
    ≡ pointer_faults y i earlier front ++ pointer_faults y i (earlier ++ addresses_in front) back
pointer_faults-append y i earlier [] back = rw (append-nil earlier) refl
pointer_faults-append y i earlier (p ∷ front) back =
    let here = earlier ++ addresses_in (p ∷ []) in
    let one = listed (pointer_fault y i earlier p) in
    let joined : here ++ addresses_in front ≡ earlier ++ addresses_in (p ∷ front)
    = append_assoc earlier (addresses_in (p ∷ [])) (addresses_in front) ∙ ap (λ r. earlier ++ r) (sym (addresses_in-append (p ∷ []) front)) in
    ap (λ r. one ++ r)
    (pointer_faults-append y i here front back
    ∙ ap (λ e. pointer_faults y i here front ++ pointer_faults y i e back) joined)
    ∙ sym (append_assoc one (pointer_faults y i here front) (pointer_faults y i (earlier ++ addresses_in (p ∷ front)) back))

-- the first of two lists
first_in-append : {A : Type 0} (front back : List A) → first_in (front ++ back) ≡ or_else (first_in front) (first_in back)
first_in-append [] back = refl
first_in-append (a ∷ front) back = refl

first_in-listed : {A : Type 0} (o : Option A) → first_in (listed o) ≡ o
first_in-listed None = refl
first_in-listed (Some a) = refl

first_in-alone : {A : Type 0} (o : Option A) (others : List A) → first_in (alone_or o others) ≡ or_else o (first_in others)
first_in-alone None others = refl
first_in-alone (Some a) others = refl

-- the first of what numbers have
first_in-flat : {A : Type 0} (fault : ℕ → Option A) (all : ℕ → List A) (is : List ℕ) →
    ((i : ℕ) → first_in (all i) ≡ fault i) → first_in (flat_map all is) ≡ first_of fault is
first_in-flat fault all [] each = refl
first_in-flat fault all (i ∷ is) each =
    first_in-append (all i) (flat_map all is) ∙ ap₂ or_else (each i) (first_in-flat fault all is each)

first_of_pointers : (y : Image) (i : ℕ) (earlier : List ℕ) (pointers : List Pointer) →
    first_in (pointer_faults y i earlier pointers) ≡ first_pointer_fault y i earlier pointers
first_of_pointers y i earlier [] = refl
first_of_pointers y i earlier (p ∷ pointers) =
    let here = earlier ++ addresses_in (p ∷ []) in
    first_in-append (listed (pointer_fault y i earlier p)) (pointer_faults y i here pointers)
    ∙ ap₂ or_else (first_in-listed (pointer_fault y i earlier p)) (first_of_pointers y i here pointers)

first_of_inode : (y : Image) (i : ℕ) → first_in (inode_faults y i) ≡ inode_fault y i
unfolding inode_faults inode_fault
first_of_inode y i =
    by_cases (ltb 3 (inode_of y i).kind) (eqb (inode_of y i).kind 0) (ltb (greatest_size (form_of y)) (inode_of y i).size)
  where
    by_cases : (typed free sized : Bool) →
        first_in (cond typed (BadType i ∷ []) (cond free [] (cond sized (BadSize i ∷ []) (pointer_faults y i (places_below y i) (pointers_of y i)))))
        ≡ cond typed (Some (BadType i)) (cond free None (cond sized (Some (BadSize i)) (first_pointer_fault y i (places_below y i) (pointers_of y i))))
    by_cases true free sized = refl
    by_cases false true sized = refl
    by_cases false false true = refl
    by_cases false false false = first_of_pointers y i (places_below y i) (pointers_of y i)

first_is_verdict : (x : Image) → first_in (faults x) ≡ verdict x
unfolding faults verdict
first_is_verdict x =
    let y = recovered x in
    let opening = or_else (geometry_fault x) (log_fault x) in
    let inodes : first_in (inodes_faults y) ≡ inodes_fault y = first_in-flat (inode_fault y) (inode_faults y) (numbers_of y) (first_of_inode y) in
    let marks : first_in (marks_faults y) ≡ marks_fault y
    = first_in-flat (mark_fault y) (λ b. listed (mark_fault y b)) _ (λ b. first_in-listed (mark_fault y b)) in
    first_in-alone opening (inodes_faults y ++ marks_faults y)
    ∙ ap (or_else opening) (first_in-append (inodes_faults y) (marks_faults y) ∙ ap₂ or_else inodes marks)
    ∙ sym (or_else-assoc (geometry_fault x) (log_fault x) (or_else (inodes_fault y) (marks_fault y)))

none_in : {A : Type 0} (list : List A) → first_in list ≡ None → list ≡ []
none_in [] h = refl
none_in (a ∷ list) h = absurd (cc h)

pub verdict_is_first : VerdictIsFirst
verdict_is_first x = record {
  first = sym (first_is_verdict x);
  none = (λ h. none_in (faults x) (first_is_verdict x ∙ h), λ h. sym (first_is_verdict x) ∙ ap first_in h);
}
