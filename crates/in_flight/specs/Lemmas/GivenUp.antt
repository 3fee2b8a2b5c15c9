-- What a cleared bit makes of the bitmap, and of an image in which tasks hold files.
use Rattle.std.proofs.Common.{◌≡◌, ◌≢◌, ℕ, zero, suc, ◌+◌, ◌^◌, ◌<◌, ◌≤◌, false, ◌||◌, cond, eqb, ltb, List, [], ◌∷◌, length, get_or, set, Option, Some, refl, sym, ap, subst, ◌∙◌, ⊎_elim, zero-add, arith}
use Rattle.in_flight.specs.Common.{block_at, BlockGivenUp, blocks_left, cases_eq, cases_lt, Claim, Claims, count_of, count_of-append, depth_of, depths, Dinode, direct_count, DirectGivenUp, entry_of, eq-eqb, File, file_in, Files, first_data_block, FitsThen, form_of, frees, get_or-set_other, get_or-set_same, has_bit-without_bit_other, has_bit-without_bit_same, Held, Image, inode_count_of, is_marked, IsClaimedNow, IsFine, IsFirstTree, IsGivenUp, IsHeld, IsHeldIn, IsLoose, le-ltb, LeavesAlike, LeavesAsMany, led_to, left_along, left_under, length-set, length-without_bit, length-words_of-block, names_claimed, names_left, ne_eqb, or_from, owned, set_past, super_of, thirteen_depths, TreeGivenUp, unmarked, without_address, without_bit, words_of}
use Rattle.model.specs.Layout.{inode_of}
use Rattle.in_flight.specs.Lemmas.Lengths.{as_many}
use Rattle.in_flight.specs.Lemmas.LeftInTrees.{MovesOn, left_parts, passed, given, alone, without_along, direct_along}
use Rattle.in_flight.specs.Lemmas.Ways.{IsAhead, ahead_root, led_left}
use Rattle.in_flight.specs.Lemmas.Wholes.{direct_depth, direct_few}
use Rattle.in_flight.specs.Lemmas.Claims.{apart}
use Rattle.in_flight.specs.Lemmas.HeldFrames.{ChangesOne, loose_alike, names_same, fine_same, owned_kept, fits_then, claimed_in_data, at_data, Passes, data_passes}
use Rattle.in_flight.specs.Lemmas.Looks.{between}
use Rattle.in_flight.specs.Lemmas.Remapped.{IsMapped, inode_same, marks, size_same, mapped, agrees, full_after, start_same, test}

pub counted_here : (b : ℕ) (names : List ℕ) → count_of b (b ∷ names) ≡ 1 + count_of b names
counted_here b names = rw (eq-eqb b b refl) refl

pub counted_other : (b c : ℕ) (names : List ℕ) → c ≢ b → count_of c (b ∷ names) ≡ count_of c names
counted_other b c names ne = rw (ne_eqb b c (λ e. ne (sym e))) (zero-add (count_of c names))

-- what holds of b and of each other number
pub at_each : (P : ℕ → Type 0) (b : ℕ) → P b → ((c : ℕ) → c ≢ b → P c) → (c : ℕ) → P c
at_each P b here other c = ⊎_elim (λ (e : c ≡ b). subst P (sym e) here) (λ (ne : c ≢ b). other c ne) (cases_eq c b)

module _ (x : Image) (b : ℕ) (map : IsMapped x) where
  abbrev y : Image
  y = unmarked x b

  -- the bitmap with that bit cleared
  abbrev pub bits : List ℕ
  bits = without_bit (block_at x (super_of x).bmapstart) b

  cleared : b < length x → is_marked y b ≡ false
  cleared low =
      let room = map.room in
      let full = map.full in
      marks x bits map b ∙ has_bit-without_bit_same (block_at x (super_of x).bmapstart) b (omega arith)

  pub others_marked : (c : ℕ) → c ≢ b → is_marked y c ≡ is_marked x c
  others_marked c ne = marks x bits map c ∙ has_bit-without_bit_other (block_at x (super_of x).bmapstart) b c ne

  pub whole : length bits ≡ 1024
  whole = length-without_bit (block_at x (super_of x).bmapstart) b ∙ map.full

  -- a block that is no longer owned is no longer marked
  loose_freed : (owned : List ℕ) → IsLoose x (b ∷ owned) → IsLoose y owned
  loose_freed owned l =
      let size = size_same x bits map in
      let start = start_same x bits map in
      let one = counted_here b owned in
      let here = l.in_data b (λ z. omega arith) in
      let once = l.once b in
      let gone : count_of b owned ≡ 0 = omega arith in
      record {
        in_data = λ c n. ⊎_elim
            (λ (e : c ≡ b). absurd (n (ap (λ q. count_of q owned) e ∙ gone)))
            (λ (ne : c ≢ b). let o = l.in_data c (λ z. n (sym (counted_other b c owned ne) ∙ z)) in (omega arith, omega arith))
            (cases_eq c b);
        once = at_each (λ c. count_of c owned ≤ 1) b (omega arith)
            (λ c ne. let s = counted_other b c owned ne in let o = l.once c in omega arith);
        marked = at_each
            (λ c. c < length y → is_marked y c ≡ (ltb c (first_data_block y) || ltb 0 (count_of c owned))) b
            (λ k. cleared here.1
            ∙ sym (or_from (ltb b (first_data_block y)) (ltb 0 (count_of b owned))
            (le-ltb b (first_data_block y) (let from = here.0 in omega arith)) (le-ltb 0 (count_of b owned) (omega arith))))
            (λ c ne k. others_marked c ne ∙ l.marked c (omega arith)
            ∙ ap (λ n. ltb c n || ltb 0 (count_of c (b ∷ owned))) (sym start)
            ∙ ap (λ n. ltb c (first_data_block y) || ltb 0 n) (counted_other b c owned ne));
      }

-- ---- a task gives up one of its blocks

record GivesUp (m : Files) (x : Image) (claims new : Claims) (i b : ℕ) (h t : Held) : Type 0 where
  held : IsHeldIn m x claims i (frees h)
  now : IsClaimedNow claims i (Some (frees t)) new
  fine : IsHeld x i t (file_in m i)
  gone : (c : ℕ) → count_of c (names_left x h.copy h.cursor) ≡ count_of c (b ∷ names_left x t.copy t.cursor)

module _ (m : Files) (x : Image) (claims new : Claims) (i b : ℕ) (h t : Held) (g : GivesUp m x claims new i b h t) where
  map : IsMapped x
  map = mapped x g.held.fits.geometry g.held.fits.full

  abbrev z : Image
  z = unmarked x b

  inode_kept : (j : ℕ) → j < inode_count_of x → inode_of z j ≡ inode_of x j
  inode_kept j low = inode_same x (bits x b map) map j (apart x j g.held.fits.geometry low).before_map

  low : 1 ≤ i
  low = (between x i g.held.number).low

  high : i < inode_count_of x
  high = (between x i g.held.number).high

  change : ChangesOne (test x (bits x b map) map) m x claims i m z new
  change =
      let some = low in
      record {
        fits = g.held.fits;
        agree = at_data (test x (bits x b map) map) x z (agrees x (bits x b map) map);
        passes = λ j first last ne. data_passes (test x (bits x b map) map) m x z claims g.held.fits (agrees x (bits x b map) map) j first last;
        size = size_same x (bits x b map) map;
        inodes = λ j inside ne. inode_kept j inside;
        claims_same = g.now.others;
        count = refl;
        files = λ j ne. refl;
        some = λ e. omega arith;
      }

  more : (c : ℕ) → count_of c (names_left x t.copy t.cursor) ≤ count_of c (names_claimed x i (claims i))
  more c =
      let was : count_of c (names_claimed x i (claims i)) ≡ count_of c (names_left x h.copy h.cursor)
      = ap (λ (o : Option Claim). count_of c (names_claimed x i o)) g.held.holds in
      let gone = g.gone c in
      let sum : count_of c (b ∷ names_left x t.copy t.cursor) ≡ cond (eqb b c) 1 0 + count_of c (names_left x t.copy t.cursor) = refl in
      omega arith

  still_passes : Passes (test x (bits x b map) map) (names_claimed x i (Some (frees t)))
  still_passes c some =
      let few = more c in
      (agrees x (bits x b map) map).from_data c (claimed_in_data m x claims i c g.held.fits low high (omega arith)).0

  own_names : names_claimed z i (new i) ≡ names_left x t.copy t.cursor
  own_names =
      ap (names_claimed z i) g.now.own
      ∙ names_same (test x (bits x b map) map) x z i (Some (frees t)) change.agree (inode_kept i high) still_passes

  owned_less : (c : ℕ) → count_of c (owned x claims) ≡ count_of c (b ∷ owned z new)
  owned_less c =
      let was : count_of c (names_claimed x i (claims i)) ≡ count_of c (names_left x h.copy h.cursor)
      = ap (λ (o : Option Claim). count_of c (names_claimed x i o)) g.held.holds in
      let gone = g.gone c in
      let own = ap (count_of c) own_names in
      let kept = owned_kept (test x (bits x b map) map) m x claims i m z new change c low high in
      let one : count_of c (b ∷ names_left x t.copy t.cursor) ≡ cond (eqb b c) 1 0 + count_of c (names_left x t.copy t.cursor) = refl in
      let two : count_of c (b ∷ owned z new) ≡ cond (eqb b c) 1 0 + count_of c (owned z new) = refl in
      omega arith

  gives_fits : FitsThen m x claims i z new
  gives_fits =
      fits_then (test x (bits x b map) map) m x claims i m z new change
      (full_after x (bits x b map) map (whole x b map) g.held.fits.full)
      (loose_freed x b map (owned z new) (loose_alike x (owned x claims) (b ∷ owned z new) owned_less g.held.fits.loose))
      (subst (λ (c : Option Claim). IsFine z i c (file_in m i)) (sym g.now.own)
      (fine_same (test x (bits x b map) map) x z i (Some (frees t)) (file_in m i) change.agree (inode_kept i high) still_passes g.fine))

  -- what is left is left in the new image as in the old one
  one_less : blocks_left x h ≡ blocks_left z t + 1
  one_less =
      let same : blocks_left z t ≡ blocks_left x t
      = ap length (names_same (test x (bits x b map) map) x z i (Some (frees t)) change.agree (inode_kept i high) still_passes) in
      omega (arith, same, (as_many (names_left x h.copy h.cursor) (b ∷ names_left x t.copy t.cursor) g.gone))

  gives_up : IsGivenUp m x claims i b h t new
  gives_up = record { then = gives_fits; fewer = one_less }

-- ---- what a task names, with one block less

pub held_of : (m : Files) (x : Image) (claims : Claims) (i : ℕ) (h : Held) → IsHeldIn m x claims i (frees h) → IsHeld x i h (file_in m i)
held_of m x claims i h g =
    let at = between x i g.number in
    subst (λ (c : Option Claim). IsFine x i c (file_in m i)) g.holds (g.fits.each i at.low at.high)

pub set_below : (xs : List ℕ) (k v : ℕ) → v < 2 ^ 32 → ((j : ℕ) → get_or xs j 0 < 2 ^ 32) → (j : ℕ) → get_or (set xs k v) j 0 < 2 ^ 32
set_below xs k v small each j =
    ⊎_elim
    (λ (e : j ≡ k).
    ⊎_elim
    (λ (within : k < length xs). rw (e, get_or-set_same xs k v 0 within) small)
    (λ (past : length xs ≤ k). rw (set_past xs k v past) (each j))
    (cases_lt k (length xs)))
    (λ (ne : j ≢ k). rw (get_or-set_other xs k j v 0 ne) (each j))
    (cases_eq j k)

held_as : (x : Image) (i : ℕ) (addrs cursor : List ℕ) (h : Held) (file : Option File) → IsHeld x i h file → length addrs ≡ 13 → ((k : ℕ) → get_or addrs k 0 < 2 ^ 32) →
    IsHeld x i (record h { copy = record h.copy { addrs = addrs }; cursor = cursor }) file
held_as x i addrs cursor h file held count small = record {
  fields = record {
    kind = held.fields.kind;
    major = held.fields.major;
    minor = held.fields.minor;
    nlink = held.fields.nlink;
    size = held.fields.size;
    count = count;
    addrs = small;
  };
  used = held.used;
  kind = held.kind;
  same_kind = held.same_kind;
  labels = held.labels;
  last = held.last;
  told = held.told;
}

held_without : (x : Image) (i k : ℕ) (h : Held) (file : Option File) → IsHeld x i h file → IsHeld x i (without_address h k) file
held_without x i k h file held =
    held_as x i (set h.copy.addrs k 0) h.cursor h file held (length-set h.copy.addrs k 0 ∙ held.fields.count) (set_below h.copy.addrs k 0 (omega arith) held.fields.addrs)

pub held_further : (x : Image) (i : ℕ) (cursor : List ℕ) (h : Held) (file : Option File) → IsHeld x i h file →
    IsHeld x i (record h { cursor = cursor }) file
held_further x i cursor h file held = held_as x i h.copy.addrs cursor h file held held.fields.count held.fields.addrs

-- ---- the kinds of block

direct_parts : (x : Image) (d : Dinode) (cursor : List ℕ) (k c : ℕ) → k < direct_count (form_of x) → get_or d.addrs k 0 ≢ 0 →
    count_of c (names_left x d cursor) ≡ count_of c (get_or d.addrs k 0 ∷ left_along x cursor (depths (form_of x)) (set d.addrs k 0))
direct_parts x d cursor k c low some =
    direct_along x cursor (depths (form_of x)) d.addrs k c (omega (arith, low, (thirteen_depths (form_of x)), (direct_few (form_of x)))) some
    (λ j before. direct_depth (form_of x) j (omega (arith, before, low)))

pub direct_given_up : DirectGivenUp
direct_given_up m x claims new i k h g low some now =
    gives_up m x claims new i (get_or h.copy.addrs k 0) h (without_address h k) (record {
      held = g;
      now = now;
      fine = held_without x i k h (file_in m i) (held_of m x claims i h g);
      gone = λ c. direct_parts x h.copy h.cursor k c low some;
    })

-- what is under the first block of addresses, and the rest
pub first_parts : (x : Image) (d : Dinode) (slot c : ℕ) (cursor : List ℕ) → IsFirstTree x d slot →
    count_of c (names_left x d cursor)
    ≡ count_of c (left_under x (depth_of x slot) cursor (get_or d.addrs slot 0))
    + count_of c (left_along x [] (depths (form_of x)) (set d.addrs slot 0))
first_parts x d slot c cursor first = without_along x cursor (depths (form_of x)) d.addrs slot c first.tree first.there first.before

-- where the cursor leaves a way there, what it leads to is left
pub first_left : (x : Image) (d : Dinode) (slot : ℕ) (cursor way : List ℕ) (n : ℕ) → IsFirstTree x d slot → length way ≤ depth_of x slot →
    led_to x way (get_or d.addrs slot 0) ≡ n → n ≢ 0 → IsAhead cursor way → 1 ≤ count_of n (names_left x d cursor)
first_left x d slot cursor way n first short led some ahead =
    omega (arith, (first_parts x d slot n cursor first), (led_left x (depth_of x slot) cursor way (get_or d.addrs slot 0) n short led some ahead))

-- a data block that the copy itself names is left
pub direct_left : (x : Image) (d : Dinode) (cursor : List ℕ) (k : ℕ) → k < direct_count (form_of x) → get_or d.addrs k 0 ≢ 0 →
    1 ≤ count_of (get_or d.addrs k 0) (names_left x d cursor)
direct_left x d cursor k low some =
    let b = get_or d.addrs k 0 in
    omega (arith, (direct_parts x d cursor k b low some), (counted_here b (left_along x cursor (depths (form_of x)) (set d.addrs k 0))))

pub block_given_up : BlockGivenUp
block_given_up m x claims new i slot b behind cursor h g first gives alike now =
    let a = get_or h.copy.addrs slot 0 in
    let depth = depth_of x slot in
    gives_up m x claims new i b h (record h { cursor = cursor }) (record {
      held = g;
      now = now;
      fine = held_further x i cursor h (file_in m i) (held_of m x claims i h g);
      gone = λ c.
          let one = given x depth h.cursor a b behind gives c in
          let p = count_of-append c (b ∷ []) (left_under x depth behind a) in
          let q = count_of-append c (b ∷ []) (names_left x h.copy cursor) in
          omega (arith, (first_parts x h.copy slot c h.cursor first), (first_parts x h.copy slot c behind first), one, (alike c), p, q);
    })

-- no entry of it names the block of addresses itself: that would be left twice
pub first_twice : (x : Image) (d : Dinode) (slot e below : ℕ) (rest : List ℕ) → IsFirstTree x d slot → depth_of x slot ≡ suc below →
    entry_of x (get_or d.addrs slot 0) e ≡ get_or d.addrs slot 0 → 2 ≤ count_of (get_or d.addrs slot 0) (names_left x d (e ∷ rest))
first_twice x d slot e below rest first deep same =
    let a = get_or d.addrs slot 0 in
    let one = led_left x below rest [] (entry_of x a e) a (omega arith) same first.there (ahead_root rest) in
    let depth = ap (λ (n : ℕ). count_of a (left_under x n (e ∷ rest) a)) deep in
    omega (arith, (first_parts x d slot a (e ∷ rest) first), (left_parts x below e a a rest first.there), (counted_here a []), one, depth)

pub leaves_as_many : LeavesAsMany
leaves_as_many x cursor h alike = as_many (names_left x h.copy cursor) (names_left x h.copy h.cursor) alike

-- where the cursor goes on under the first block of addresses, the same is left
pub passes_first : (x : Image) (d : Dinode) (slot : ℕ) (these others : List ℕ) → IsFirstTree x d slot →
    MovesOn x (depth_of x slot) these (get_or d.addrs slot 0) others → LeavesAlike x d others these
passes_first x d slot these others first passes c =
    omega (arith, (first_parts x d slot c these first), (first_parts x d slot c others first), (passed x (depth_of x slot) these (get_or d.addrs slot 0) others passes c))

-- a block of addresses that is there has 256 entries
pub first_words : (m : Files) (x : Image) (claims : Claims) (i slot : ℕ) (h : Held) → IsHeldIn m x claims i (frees h) → IsFirstTree x h.copy slot →
    length (words_of (block_at x (get_or h.copy.addrs slot 0))) ≡ 256
first_words m x claims i slot h g first =
    let a = get_or h.copy.addrs slot 0 in
    let at = between x i g.number in
    let there = claimed_in_data m x claims i a g.fits at.low at.high
    (subst (λ (o : Option Claim). 1 ≤ count_of a (names_claimed x i o)) (sym g.holds)
    (first_left x h.copy slot h.cursor [] a first (omega arith) refl first.there (ahead_root h.cursor))) in
    let map = mapped x g.fits.geometry g.fits.full in
    length-words_of-block (block_at x a) (g.fits.full a (omega (arith, there.0, map.behind, map.before_data)) there.1)

-- behind the last of its entries it is left alone
pub first_alone : (m : Files) (x : Image) (claims : Claims) (i slot e : ℕ) (rest : List ℕ) (h : Held) → IsHeldIn m x claims i (frees h) →
    IsFirstTree x h.copy slot → 256 ≤ e →
    left_under x (depth_of x slot) (e ∷ rest) (get_or h.copy.addrs slot 0) ≡ get_or h.copy.addrs slot 0 ∷ []
first_alone m x claims i slot e rest h g first past =
    by_depth (get_or h.copy.addrs slot 0) (depth_of x slot) first.tree first.there (omega (arith, (first_words m x claims i slot h g first), past))
  where
    by_depth : (a depth : ℕ) → depth ≢ 0 → a ≢ 0 → length (words_of (block_at x a)) ≤ e → left_under x depth (e ∷ rest) a ≡ a ∷ []
    by_depth a zero tree some few = absurd (tree refl)
    by_depth a (suc depth) tree some few = alone x depth e a rest some few

pub tree_given_up : TreeGivenUp
tree_given_up m x claims new i slot cursor h g first itself alike now =
    let a = get_or h.copy.addrs slot 0 in
    let t = record (without_address h slot) { cursor = cursor } in
    gives_up m x claims new i a h t (record {
      held = g;
      now = now;
      fine = held_further x i cursor (without_address h slot) (file_in m i)
          (held_without x i slot h (file_in m i) (held_of m x claims i h g));
      gone = λ c.
          omega (arith, (first_parts x h.copy slot c h.cursor first), (ap (count_of c) itself), (alike c), (count_of-append c (a ∷ []) (names_left x t.copy t.cursor)));
    })
