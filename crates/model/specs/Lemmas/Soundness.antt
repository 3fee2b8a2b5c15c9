-- A check finds no fault exactly where recovery leaves a sound image.
use Rattle.std.proofs.Common.{◌≡◌, ◌≢◌, ℕ, zero, suc, ◌+◌, ◌-◌, ◌<◌, ◌≤◌, Bool, true, false, cond, not, ◌&&◌, ◌||◌, eqb, ltb, List, [], ◌∷◌, ◌++◌, length, get_or, Option, Some, None, refl, sym, ap, subst, ◌∙◌, ⊎_elim, arith}
use Rattle.std.specs.Prelude.{All}
use Rattle.std.specs.List.{list_any, AllByRecursion, range_with_len}
use Rattle.model.specs.Common.{addresses_in, All-from_recursion, append-nil, append_assoc, BadAddress, BadGeometry, BadMagic, BadSize, BadType, both_ways, cases_Bool, cases_eq, cases_lt, CheckFault, eq-eqb, first_data_block, form_of, greatest_size, has_known_magic, Image, inode_count_of, is_known_magic, is_lawful_log, is_lawful_super, is_marked, le-ltb, logged_count, LostBlock, lt-ltb, ltb-false, ltb-true, ne_eqb, not-false, or_parts, places_of, Pointer, pointers_of, recursion_from_All, super_of, TwiceUsed, UsedButFree, VerdictIsSound}
use Rattle.model.specs.Fields.{u32_at}
use Rattle.model.specs.Layout.{inode_of}
use Rattle.model.specs.Log.{recovered}
use Rattle.model.specs.Soundness.{count_of, place_count, IsFilled, IsSound, IsLawfulInode, IsLawfulGeometry}
use Rattle.model.specs.Verdict.{first_of, or_else, inode_fault, inodes_fault, mark_fault, marks_fault, places_below, verdict, geometry_fault, log_fault, pointer_fault, address_fault, first_pointer_fault}
use Rattle.model.specs.Lemmas.Steps.{flat_mapped_next}
use Rattle.model.specs.Lemmas.Super.{guard_none, or_else_none, super_of-recovered, super_facts, SuperFacts, verdict_none}
use Rattle.model.specs.Lemmas.Log.{recovered_low, length-recovered}
use Rattle.model.specs.Lemmas.Recovery.{logged_count-left}
use Rattle.model.specs.Lemmas.Frames.{pointers_free}
use Rattle.model.specs.Lemmas.Counts.{count_of-append, count_of-one, count_of-get_or, count_of-All, list_any-uncounted, list_any-counted, count_front, AllByRecursion-append, AllByRecursion-flat, All-range, All-range_at}

-- a data block that the bitmap has
abbrev pub IsInData : Image → ℕ → Type 0
IsInData y a = (first_data_block y ≤ a) × (a < length y) × (is_marked y a ≡ true)

-- what pointers without a fault have
pub record IsFaultless (y : Image) (earlier : List ℕ) (pointers : List Pointer) : Type 0 where
  pub filled : AllByRecursion IsFilled pointers
  pub in_data : AllByRecursion (IsInData y) (addresses_in pointers)
  pub once : (b : ℕ) → count_of b earlier ≤ 1 → count_of b (earlier ++ addresses_in pointers) ≤ 1

-- an address without a fault
record IsFaultlessAddress (y : Image) (earlier : List ℕ) (a : ℕ) : Type 0 where
  in_data : IsInData y a
  absent : list_any (λ e. eqb e a) earlier ≡ false

faultless_address : (y : Image) (i : ℕ) (earlier : List ℕ) (a : ℕ) → address_fault y i earlier a ≡ None → IsFaultlessAddress y earlier a
faultless_address y i earlier a h =
    let outside = guard_none (ltb a (first_data_block y) || not (ltb a (length y))) (BadAddress i) _ h in
    let twice = guard_none (list_any (λ e. eqb e a) earlier) (TwiceUsed a) _ outside.1 in
    let free = guard_none (not (is_marked y a)) (UsedButFree a) None twice.1 in
    let sides = or_parts (ltb a (first_data_block y)) (not (ltb a (length y))) outside.0 in
    record {
      in_data = (ltb-false a (first_data_block y) sides.0, ltb-true a (length y) (not-false (ltb a (length y)) sides.1), not-false (is_marked y a) free.0);
      absent = twice.0;
    }

address_fault-none : (y : Image) (i : ℕ) (earlier : List ℕ) (a : ℕ) → IsFaultlessAddress y earlier a → address_fault y i earlier a ≡ None
address_fault-none y i earlier a h =
    let there = h.in_data in
    rw (le-ltb a (first_data_block y) there.0, lt-ltb a (length y) there.1, h.absent, there.2) refl

-- the pointer's address, where there is one, in a list
pub no_address : (p : Pointer) (pointers : List Pointer) → p.address ≡ 0 → addresses_in (p ∷ pointers) ≡ addresses_in pointers
no_address p pointers e = rw e refl

pub one_address : (p : Pointer) (pointers : List Pointer) → p.address ≢ 0 → addresses_in (p ∷ pointers) ≡ p.address ∷ addresses_in pointers
one_address p pointers some = rw (ne_eqb p.address 0 some) refl

pub faultless_pointers : (y : Image) (i : ℕ) (earlier : List ℕ) (pointers : List Pointer) → first_pointer_fault y i earlier pointers ≡ None →
    IsFaultless y earlier pointers
faultless_pointers y i earlier [] h = record {
  filled = tt;
  in_data = tt;
  once = λ b o. rw (append-nil earlier) o;
}
faultless_pointers y i earlier (p ∷ pointers) h =
    let both = or_else_none (pointer_fault y i earlier p) _ h in
    let rest = faultless_pointers y i (earlier ++ addresses_in (p ∷ [])) pointers both.1 in
    ⊎_elim
    (λ (e : p.address ≡ 0).
    let here : cond p.needed (Some (BadAddress i)) None ≡ None = rw e at both.0 in
    let skip = no_address p pointers e in
    let same : earlier ++ addresses_in (p ∷ []) ≡ earlier = rw (no_address p [] e) (append-nil earlier) in
    record {
      filled = ((λ needed. absurd (both_ways p.needed (guard_none p.needed (BadAddress i) None here).0 needed)), rest.filled);
      in_data = rw skip rest.in_data;
      once = λ b o. rw (skip, ← same) (rest.once b (rw same o));
    })
    (λ (some : p.address ≢ 0).
    let one = faultless_address y i earlier p.address (rw (ne_eqb p.address 0 some) at both.0) in
    let added = one_address p pointers some in
    let single = one_address p [] some in
    record {
      filled = ((λ needed. some), rest.filled);
      in_data = rw added (one.in_data, rest.in_data);
      once = λ b o. rw (added) (rw (append_assoc earlier (p.address ∷ []) (addresses_in pointers)) at
          (rw single at (rest.once b (rw single (count_of-one b p.address earlier one.absent o)))));
    })
    (cases_eq p.address 0)

-- the other way round: filled pointers to data blocks, of which none stands twice among these and the earlier ones
pub first_pointer_fault-none : (y : Image) (i : ℕ) (earlier : List ℕ) (pointers : List Pointer) → AllByRecursion IsFilled pointers →
    AllByRecursion (IsInData y) (addresses_in pointers) → ((b : ℕ) → count_of b (earlier ++ addresses_in pointers) ≤ 1) →
    first_pointer_fault y i earlier pointers ≡ None
first_pointer_fault-none y i earlier [] filled all once = refl
first_pointer_fault-none y i earlier (p ∷ pointers) filled all once =
    ⊎_elim
    (λ (e : p.address ≡ 0).
    let skip = no_address p pointers e in
    let same : earlier ++ addresses_in (p ∷ []) ≡ earlier = rw (no_address p [] e) (append-nil earlier) in
    let here : pointer_fault y i earlier p ≡ None
    = ⊎_elim (λ (t : p.needed ≡ true). absurd (filled.0 t e)) (λ (f : p.needed ≡ false). rw (e, f) refl) (cases_Bool p.needed) in
    let rest = first_pointer_fault-none y i earlier pointers filled.1 (rw skip at all) (rw skip at once) in
    ap (λ o. or_else o (first_pointer_fault y i (earlier ++ addresses_in (p ∷ [])) pointers)) here
    ∙ ap (λ l. first_pointer_fault y i l pointers) same ∙ rest)
    (λ (some : p.address ≢ 0).
    let added = one_address p pointers some in
    let single = one_address p [] some in
    let parts : AllByRecursion (IsInData y) (p.address ∷ addresses_in pointers) = rw added at all in
    let each : (b : ℕ) → count_of b (earlier ++ p.address ∷ addresses_in pointers) ≤ 1 = rw added at once in
    let sum = count_of-append p.address earlier (p.address ∷ addresses_in pointers) in
    let single_sum : count_of p.address (p.address ∷ addresses_in pointers) ≡ 1 + count_of p.address (addresses_in pointers)
    = rw (eq-eqb p.address p.address refl) refl in
    let bound = each p.address in
    let absent = list_any-uncounted p.address earlier (omega arith) in
    let here : pointer_fault y i earlier p ≡ None
    = rw (ne_eqb p.address 0 some) (address_fault-none y i earlier p.address (record { in_data = parts.0; absent = absent })) in
    let rest = first_pointer_fault-none y i (earlier ++ p.address ∷ []) pointers filled.1 parts.1
    (λ b. subst (λ (l : List ℕ). count_of b l ≤ 1) (sym (append_assoc earlier (p.address ∷ []) (addresses_in pointers))) (each b)) in
    ap (λ o. or_else o (first_pointer_fault y i (earlier ++ addresses_in (p ∷ [])) pointers)) here
    ∙ ap (λ l. first_pointer_fault y i (earlier ++ l) pointers) single ∙ rest)
    (cases_eq p.address 0)

-- none of the numbers has a fault
first_of_none_at : (f : ℕ → Option CheckFault) (a n i : ℕ) → first_of f (range_with_len a n) ≡ None → a ≤ i → i < a + n → f i ≡ None
first_of_none_at f a zero i h low high = absurd (omega arith)
first_of_none_at f a (suc n) i h low high =
    let both = or_else_none (f a) _ h in
    ⊎_elim (λ (e : a ≡ i). rw e at both.0)
    (λ (ne : a ≢ i). first_of_none_at f (a + 1) n i both.1 (omega arith) (omega arith)) (cases_eq a i)

first_of-none : (f : ℕ → Option CheckFault) (a n : ℕ) → ((i : ℕ) → a ≤ i → i < a + n → f i ≡ None) → first_of f (range_with_len a n) ≡ None
first_of-none f a zero each = refl
first_of-none f a (suc n) each =
    rw (each a (omega arith) (omega arith)) (first_of-none f (a + 1) n (λ i low high. each i (omega arith) (omega arith)))

-- an inode without a fault
record InodeFacts (y : Image) (i : ℕ) : Type 0 where
  lawful : IsLawfulInode (form_of y) (inode_of y i)
  pointers : IsFaultless y (places_below y i) (pointers_of y i)

faultless_inode : (y : Image) (i : ℕ) → inode_fault y i ≡ None → InodeFacts y i
unfolding inode_fault
faultless_inode y i h =
    let kind = guard_none (ltb 3 (inode_of y i).kind) (BadType i) _ h in
    let few = ltb-false 3 (inode_of y i).kind kind.0 in
    ⊎_elim
    (λ (e : (inode_of y i).kind ≡ 0).
    record {
      lawful = record { kind = few; size = λ some. absurd (some e) };
      pointers = rw (pointers_free y (inode_of y i) e) (faultless_pointers y i (places_below y i) [] refl);
    })
    (λ (some : (inode_of y i).kind ≢ 0).
    let size = guard_none (ltb (greatest_size (form_of y)) (inode_of y i).size) (BadSize i) _ (rw (ne_eqb (inode_of y i).kind 0 some) at kind.1) in
    record {
      lawful = record { kind = few; size = λ _. ltb-false (greatest_size (form_of y)) (inode_of y i).size size.0 };
      pointers = faultless_pointers y i (places_below y i) (pointers_of y i) size.1;
    })
    (cases_eq (inode_of y i).kind 0)

inode_fault-none : (y : Image) (i : ℕ) → IsLawfulInode (form_of y) (inode_of y i) →
    first_pointer_fault y i (places_below y i) (pointers_of y i) ≡ None → inode_fault y i ≡ None
unfolding inode_fault
inode_fault-none y i lawful none =
    ⊎_elim
    (λ (e : (inode_of y i).kind ≡ 0). rw e refl)
    (λ (some : (inode_of y i).kind ≢ 0).
    rw (le-ltb 3 (inode_of y i).kind lawful.kind, ne_eqb (inode_of y i).kind 0 some, le-ltb (greatest_size (form_of y)) (inode_of y i).size (lawful.size some))
    none)
    (cases_eq (inode_of y i).kind 0)

-- the places of one inode more
pub places_below_next : (y : Image) (i : ℕ) → 1 ≤ i → places_below y (i + 1) ≡ places_below y i ++ addresses_in (pointers_of y i)
places_below_next y i h = flat_mapped_next (λ j. addresses_in (pointers_of y j)) i h

-- the places of the inodes below an end
record PlaceFacts (y : Image) (end : ℕ) : Type 0 where
  in_data : AllByRecursion (IsInData y) (places_below y end)
  once : (b : ℕ) → count_of b (places_below y end) ≤ 1

places_facts : (y : Image) (n : ℕ) → ((i : ℕ) → 1 ≤ i → i < 1 + n → IsFaultless y (places_below y i) (pointers_of y i)) → PlaceFacts y (n + 1)
places_facts y zero each = record { in_data = tt; once = λ b. omega arith }
places_facts y (suc n) each =
    let before = places_facts y n (λ i low high. each i low (omega arith)) in
    let here = each (n + 1) (omega arith) (omega arith) in
    let next : places_below y (suc n + 1) ≡ places_below y (n + 1) ++ addresses_in (pointers_of y (n + 1))
    = let same : suc n + 1 ≡ n + 1 + 1 = omega arith in rw same (places_below_next y (n + 1) (omega arith)) in
    record {
      in_data = rw next (AllByRecursion-append (IsInData y) (places_below y (n + 1)) (addresses_in (pointers_of y (n + 1))) before.in_data here.in_data);
      once = λ b. rw next (here.once b (before.once b));
    }

-- what the bitmap has at a block
abbrev IsMarkedRight : Image → ℕ → Type 0
IsMarkedRight y b = is_marked y b ≡ (ltb b (first_data_block y) || ltb 0 (place_count y b))

faultless_mark : (y : Image) (b : ℕ) → AllByRecursion (IsInData y) (places_of y) → mark_fault y b ≡ None → IsMarkedRight y b
unfolding mark_fault
faultless_mark y b all h = by_cases (ltb b (first_data_block y)) refl h
  where
    by_cases : (v : Bool) → ltb b (first_data_block y) ≡ v →
        cond v (cond (is_marked y b) None (Some (UsedButFree b)))
        (cond (is_marked y b && not (list_any (λ a. eqb a b) (places_of y))) (Some (LostBlock b)) None) ≡ None →
        is_marked y b ≡ (v || ltb 0 (place_count y b))
    by_cases true e f = marked (is_marked y b) f
      where
        marked : (m : Bool) → cond m None (Some (UsedButFree b)) ≡ None → m ≡ true
        marked true g = refl
        marked false g = absurd (cc g)
    by_cases false e f = data_block (is_marked y b) refl (guard_none (is_marked y b && not (list_any (λ a. eqb a b) (places_of y))) (LostBlock b) None f).0
      where
        data_block : (m : Bool) → is_marked y b ≡ m → (m && not (list_any (λ a. eqb a b) (places_of y))) ≡ false → m ≡ ltb 0 (place_count y b)
        data_block true g k =
            ⊎_elim (λ (z : place_count y b ≡ 0). absurd (both_ways (list_any (λ a. eqb a b) (places_of y)) (list_any-uncounted b (places_of y) z)
            (not-false (list_any (λ a. eqb a b) (places_of y)) k)))
            (λ (some : place_count y b ≢ 0). sym (lt-ltb 0 (place_count y b) (omega arith))) (cases_eq (place_count y b) 0)
        data_block false g k =
            ⊎_elim (λ (z : place_count y b ≡ 0). rw z refl)
            (λ (some : place_count y b ≢ 0). absurd (both_ways (is_marked y b) g (count_of-All (IsInData y) b (places_of y) all some).2))
            (cases_eq (place_count y b) 0)

mark_fault-none : (y : Image) (b : ℕ) → IsMarkedRight y b → mark_fault y b ≡ None
unfolding mark_fault
mark_fault-none y b h =
    ⊎_elim
    (λ (low : b < first_data_block y). let t = lt-ltb b (first_data_block y) low in rw (h, t) refl)
    (λ (high : first_data_block y ≤ b).
    let f = le-ltb b (first_data_block y) high in
    ⊎_elim (λ (z : place_count y b ≡ 0). rw (h, f, z) refl)
    (λ (some : place_count y b ≢ 0). rw (h, f, lt-ltb 0 (place_count y b) (omega arith), list_any-counted b (places_of y) some) refl)
    (cases_eq (place_count y b) 0))
    (cases_lt b (first_data_block y))

-- the contents of an image without a fault there
record ContentFacts (y : Image) : Type 0 where
  inodes : (i : ℕ) → 1 ≤ i → i < inode_count_of y → inode_fault y i ≡ None
  marks : (b : ℕ) → b < length y → mark_fault y b ≡ None

faultless_content : (y : Image) → inodes_fault y ≡ None → marks_fault y ≡ None → ContentFacts y
faultless_content y inodes marks = record {
  inodes = λ i low high. first_of_none_at (inode_fault y) 1 (inode_count_of y - 1) i inodes low (omega arith);
  marks = λ b low. first_of_none_at (mark_fault y) 0 (length y) b marks (omega arith) (omega arith);
}

-- an image with contents without a fault, a lawful superblock and an empty log is sound
sound_content : (y : Image) → IsLawfulGeometry y → logged_count y ≡ 0 → 1 ≤ inode_count_of y → ContentFacts y → IsSound y
sound_content y geometry empty some facts =
    let n = inode_count_of y - 1 in
    let each : (i : ℕ) → 1 ≤ i → i < 1 + n → InodeFacts y i = λ i low high. faultless_inode y i (facts.inodes i low (omega arith)) in
    let count : n + 1 - 1 ≡ n = omega arith in
    let same : places_below y (n + 1) ≡ places_of y = rw count refl in
    let places = places_facts y n (λ i low high. (each i low high).pointers) in
    let in_data : AllByRecursion (IsInData y) (places_of y) = rw same at places.in_data in
    record {
      geometry = geometry;
      empty_log = empty;
      inodes = All-range (λ i. IsLawfulInode (form_of y) (inode_of y i)) 1 n (λ i low high. (each i low high).lawful);
      filled = All-range (λ i. All IsFilled (pointers_of y i)) 1 n (λ i low high. All-from_recursion IsFilled (pointers_of y i) (each i low high).pointers.filled);
      in_data = λ k d h. let all = All-from_recursion (IsInData y) (places_of y) in_data in ((all k d h).0, (all k d h).1);
      once = λ b. rw same at (places.once b);
      marked = λ b h. faultless_mark y b in_data (facts.marks b h);
    }

-- the places of a sound image lie among its data blocks, and the bitmap has them
pub places_in_data : (y : Image) → IsSound y → All (IsInData y) (places_of y)
places_in_data y sound k d h =
    let a = get_or (places_of y) k d in
    let in_data = sound.in_data k d h in
    let there = count_of-get_or (places_of y) k d h in
    (in_data.0, in_data.1, sound.marked a in_data.1 ∙ rw ((le-ltb a (first_data_block y) in_data.0), lt-ltb 0 (place_count y a) (omega arith)) refl)

-- those of one inode
pub inode_in_data : (y : Image) (i : ℕ) → IsSound y → 1 ≤ i → i < inode_count_of y → AllByRecursion (IsInData y) (addresses_in (pointers_of y i))
inode_in_data y i sound low high =
    AllByRecursion-flat (IsInData y) (λ j. addresses_in (pointers_of y j)) 1 (inode_count_of y - 1) i
    (recursion_from_All (IsInData y) (places_of y) (places_in_data y sound)) low (omega arith)

faultless_where_sound : (y : Image) → IsSound y → ContentFacts y
faultless_where_sound y sound = record {
  inodes = λ i low high.
      let inside : i < 1 + (inode_count_of y - 1) = omega arith in
      inode_fault-none y i (All-range_at (λ j. IsLawfulInode (form_of y) (inode_of y j)) 1 (inode_count_of y - 1) i sound.inodes low inside)
      (first_pointer_fault-none y i (places_below y i) (pointers_of y i)
      (recursion_from_All IsFilled (pointers_of y i) (All-range_at (λ j. All IsFilled (pointers_of y j)) 1 (inode_count_of y - 1) i sound.filled low inside))
      (inode_in_data y i sound low high)
      (λ b.
      let front = count_front (λ j. addresses_in (pointers_of y j)) b 1 (i + 1 - 1) (inode_count_of y - 1) (omega arith) in
      let all = sound.once b in
      let few : count_of b (places_below y (i + 1)) ≤ 1 = omega arith in
      rw (places_below_next y i low) at few));
  marks = λ b h. mark_fault-none y b (sound.marked b h);
}

faultless_geometry : (x : Image) → geometry_fault x ≡ None → IsLawfulGeometry x
faultless_geometry x h =
    let known = guard_none (not (has_known_magic x)) BadMagic _ (guard_none (ltb (length x) 2) BadGeometry _ h).1 in
    let fields = guard_none (not (is_lawful_super (super_of x) (length x))) BadGeometry None known.1 in
    record {
      magic = not-false (has_known_magic x) known.0;
      fields = not-false (is_lawful_super (super_of x) (length x)) fields.0;
    }

pub facts_of : (x : Image) → IsLawfulGeometry x → SuperFacts (super_of x) (length x)
facts_of x g = super_facts (super_of x) (length x) g.fields

-- an image of lawful geometry is no shorter than what stands before its data
pub long_geometry : (x : Image) → IsLawfulGeometry x → 33 ≤ length x
long_geometry x g =
    let f = facts_of x g in
    let room = f.room in
    let size = f.size in
    omega arith

geometry_fault-none : (x : Image) → IsLawfulGeometry x → geometry_fault x ≡ None
geometry_fault-none x g =
    let long = long_geometry x g in
    rw (le-ltb (length x) 2 (omega arith), g.magic, g.fields) refl

-- recovery leaves the geometry
pub IsLawfulGeometry-recovered : (x : Image) → is_lawful_log x ≡ true → IsLawfulGeometry x → IsLawfulGeometry (recovered x)
IsLawfulGeometry-recovered x lawful g =
    let long = long_geometry x g in
    let one = recovered_low x 1 lawful (omega arith) (omega arith) (omega arith) in
    record {
      magic = ap (λ b. is_known_magic (u32_at b 0)) one ∙ g.magic;
      fields = ap (λ s. is_lawful_super s (length (recovered x))) (super_of-recovered x lawful (omega arith))
          ∙ ap (is_lawful_super (super_of x)) (length-recovered x) ∙ g.fields;
    }

-- what a check without a fault says
pub verdict_sound : (x : Image) → verdict x ≡ None → IsLawfulGeometry x × (is_lawful_log x ≡ true) × IsSound (recovered x)
unfolding verdict
verdict_sound x h =
    let first = or_else_none (geometry_fault x) _ h in
    let third = or_else_none (inodes_fault (recovered x)) (marks_fault (recovered x)) (or_else_none (log_fault x) _ first.1).1 in
    let g = faultless_geometry x first.0 in
    let lawful = (verdict_none x h).1 in
    let after = IsLawfulGeometry-recovered x lawful g in
    let some = (facts_of (recovered x) after).some in
    (g, lawful, sound_content (recovered x) after (logged_count-left x) (omega arith) (faultless_content (recovered x) third.0 third.1))

pub sound_verdict : (x : Image) → IsLawfulGeometry x × (is_lawful_log x ≡ true) × IsSound (recovered x) → verdict x ≡ None
unfolding verdict
sound_verdict x (g, lawful, sound) =
    let content = faultless_where_sound (recovered x) sound in
    let some = (facts_of (recovered x) sound.geometry).some in
    let inodes : inodes_fault (recovered x) ≡ None
    = first_of-none (inode_fault (recovered x)) 1 (inode_count_of (recovered x) - 1) (λ i low high. content.inodes i low (omega arith)) in
    let marks : marks_fault (recovered x) ≡ None
    = first_of-none (mark_fault (recovered x)) 0 (length (recovered x)) (λ b low high. content.marks b (omega arith)) in
    let log : log_fault x ≡ None = rw lawful refl in
    ap (λ o. or_else o (or_else (log_fault x) (or_else (inodes_fault (recovered x)) (marks_fault (recovered x))))) (geometry_fault-none x g)
    ∙ ap (λ o. or_else o (or_else (inodes_fault (recovered x)) (marks_fault (recovered x)))) log
    ∙ ap (λ o. or_else o (marks_fault (recovered x))) inodes ∙ marks

pub verdict_is_sound : VerdictIsSound
verdict_is_sound x = (verdict_sound x, sound_verdict x)
