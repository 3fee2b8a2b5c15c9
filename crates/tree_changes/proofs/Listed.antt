-- Lists that are made piece by piece, and the names of directories in them.
use Rattle.std.proofs.Common.{◌≡◌, ◌∙◌, ℕ, ◌+◌, ◌<◌, ◌≤◌, Bool, true, false, not, ◌||◌, ◌==◌, eqb, List, [], ◌∷◌, ◌++◌, length, get_or, take, slice_range, Contains, flat_map, append_assoc, ap, refl, sym, subst, arith}
use Rattle.std.proofs.lemmas.Bool.{cond-false, cond-true, eq-eqb, ne_eqb}
use Rattle.std.proofs.lemmas.List.{append-nil, get_or-take, length-append, length-take, take-append-le, take_all, take_more}
use Rattle.std.proofs.lemmas.List.Concat.{flat_map-append}
use Rattle.std.proofs.lemmas.List.Elements.{Contains-append_left}
use Rattle.std.proofs.lemmas.List.Sums.{fails_before_first}
use Rattle.std.specs.List.{position_or_len}
use Rattle.std.specs.Str.{bytes_eq}
use Rattle.directories.specs.Entries.{entries_of, is_free, name_in, padded, text_in, text_of, AreNamed, IsProper}
use Rattle.directories.specs.Lemmas.TreeMeaning.{directories_are_tidy}
use Rattle.directories.specs.Names.{IsNameCause}
use Rattle.directories.specs.Trees.{directory_in, directory_kind, kind_of, leads_down, parent_name, self_name, IsDirectory, IsTree}
use Rattle.directories.specs.declared.name.NameFault.{NameFault}
use Rattle.directories.specs.declared.name.NameFault.TheVariants.{Empty, TooLong, ZeroByte, Slash}
use Rattle.model.specs.Files.{Files, file_in}
use Rattle.tree_changes.specs.Removing.{AreNamesBelow, name_of_entry, names_in}
use Rattle.tree_changes.specs.declared.removing.Below.{Below}

module _ {X Y : Type 0} (f : X → List Y) (xs : List X) (old : List Y) where
  -- what one element more brings
  pub added_more : (k : ℕ) (d : X) (mid new : List Y) → k < length xs → mid ≡ old ++ flat_map f (take k xs) → new ≡ mid ++ f (get_or xs k d) → new ≡ old ++ flat_map f (take (k + 1) xs)
  added_more k d mid new low before piece =
      let x = get_or xs k d in
      let more : flat_map f (take (k + 1) xs) ≡ flat_map f (take k xs) ++ f x
      = ap (flat_map f) (take_more xs k d low) ∙ flat_map-append f (take k xs) (x ∷ []) ∙ ap (λ l. flat_map f (take k xs) ++ l) (append-nil (f x)) in
      piece ∙ ap (λ l. l ++ f x) before ∙ append_assoc old (flat_map f (take k xs)) (f x) ∙ ap (λ l. old ++ l) (sym more)

  pub added_none : old ≡ old ++ flat_map f (take 0 xs)
  added_none = sym (append-nil old)

  pub added_all : (k : ℕ) (new : List Y) → length xs ≤ k → new ≡ old ++ flat_map f (take k xs) → new ≡ old ++ flat_map f xs
  added_all k new past is = is ∙ ap (λ l. old ++ flat_map f l) (take_all k xs past)

-- a list that grows by what its own elements bring
pub grown_more : {X : Type 0} (f : X → List X) (base xs new : List X) (k : ℕ) (d : X) → k < length xs → xs ≡ base ++ flat_map f (take k xs) → new ≡ xs ++ f (get_or xs k d)
    → new ≡ base ++ flat_map f (take (k + 1) new)
grown_more f base xs new k d low before piece =
    let same : take (k + 1) new ≡ take (k + 1) xs = ap (take (k + 1)) piece ∙ take-append-le (k + 1) xs (f (get_or xs k d)) (omega (arith, low)) in
    added_more f xs base k d xs new low before piece ∙ ap (λ l. base ++ flat_map f l) (sym same)

-- ---- names

-- a file that is no directory has no names, and a directory those of its entries
pub no_names : (files : Files) (number : ℕ) → (IsDirectory files number → ⊥) → names_in files number ≡ []
no_names files number other = cond-false (eqb (kind_of (file_in files number)) directory_kind) (flat_map (name_of_entry number) (entries_of (directory_in files number))) [] (ne_eqb (kind_of (file_in files number)) directory_kind other)

pub names_are : (files : Files) (number : ℕ) → IsDirectory files number → names_in files number ≡ flat_map (name_of_entry number) (entries_of (directory_in files number))
names_are files number is = cond-true (eqb (kind_of (file_in files number)) directory_kind) (flat_map (name_of_entry number) (entries_of (directory_in files number))) [] (eq-eqb (kind_of (file_in files number)) directory_kind is)

-- each entry of a directory that is used has a name
pub entries_named : (files : Files) (number : ℕ) → IsTree files → IsDirectory files number → AreNamed (entries_of (directory_in files number))
entries_named files number tree is = (directories_are_tidy files number tree is).0.named

-- the text of a name has no zero
text_whole : (name : List ℕ) → Contains (text_of name) 0 → ⊥
text_whole name has =
    let p : ℕ → Bool = λ byte. byte == 0 in
    let k = has.0 in
    let n : ℕ = position_or_len p name in
    let inside : k < length (take n name) = has.1 in
    let low : k < n = omega (arith, inside, length-take n name) in
    let zero : get_or name k 0 ≡ 0 = sym (get_or-take n name k 0 low) ∙ has.2 in
    let not_so : true ≡ false = sym (ap p zero) ∙ fails_before_first p name k 0 low in
    absurd (cc not_so)

-- it is a name's where that is proper
pub proper_named : (entry : List ℕ) (cause : NameFault) → IsProper (name_in entry) → length (text_in entry) ≤ 14 → IsNameCause (text_in entry) cause → ⊥
unfolding name_in
proper_named entry Empty proper few none = proper.some (ap (λ (text : List ℕ). get_or (padded text) 0 0) none)
proper_named entry TooLong proper few long = absurd (omega (arith, few, long))
proper_named entry ZeroByte proper few zero = text_whole (slice_range entry 2 16) zero
proper_named entry Slash proper few slash = proper.no_slash (Contains-append_left (text_in entry) _ 47 slash)

-- an entry that leads down is used
pub down_used : (entry : List ℕ) → leads_down entry ≡ true → is_free entry ≡ false
down_used entry down = used (is_free entry) (bytes_eq (name_in entry) self_name) (bytes_eq (name_in entry) parent_name) down
  where
    used : (free a b : Bool) → not (free || a || b) ≡ true → free ≡ false
    used false a b down = refl
    used true a b down = absurd (cc down)

-- ---- the names below a directory, of files that stay the same

pub begun_names : (files now : Files) (number : ℕ) (old items : List Below) → old ≡ [] → items ≡ old ++ names_in files number → now ≡ files
    → items ≡ names_in now number ++ flat_map (λ (one : Below). names_in now one.number) (take 0 items)
begun_names files now number old items none adds same =
    let base : items ≡ names_in files number = adds ∙ ap (λ (l : List Below). l ++ names_in files number) none in
    subst (λ (f : Files). items ≡ names_in f number) (sym same) base ∙ sym (append-nil (names_in now number))

pub grown_names : (files now : Files) (number next place : ℕ) (below new : List Below) (one : Below) → place < length below → one ≡ get_or below place one → next ≡ one.number
    → below ≡ names_in files number ++ flat_map (λ (other : Below). names_in files other.number) (take place below) → new ≡ below ++ names_in files next → now ≡ files
    → new ≡ names_in now number ++ flat_map (λ (other : Below). names_in now other.number) (take (place + 1) new)
grown_names files now number next place below new one low is next_is before adds same =
    let more : new ≡ below ++ names_in files (get_or below place one).number = adds ∙ ap (λ (n : ℕ). below ++ names_in files n) (next_is ∙ ap (λ (o : Below). o.number) is) in
    subst (λ (f : Files). new ≡ names_in f number ++ flat_map (λ (other : Below). names_in f other.number) (take (place + 1) new)) (sym same)
    (grown_more (λ (other : Below). names_in files other.number) (names_in files number) below new place one low before more)

pub grown_length : (place : ℕ) (below more new : List Below) → place < length below → new ≡ below ++ more → place + 1 ≤ length new
grown_length place below more new low adds = let all : length new ≡ length below + length more = ap length adds ∙ length-append below more in omega (arith, low, all)

pub all_names : (files now : Files) (number place : ℕ) (below : List Below) → length below ≤ place → below ≡ names_in now number ++ flat_map (λ (one : Below). names_in now one.number) (take place below) → now ≡ files
    → AreNamesBelow files number below
all_names files now number place below past is same =
    subst (λ (f : Files). AreNamesBelow f number below) same (added_all (λ (one : Below). names_in now one.number) below (names_in now number) place below past is)
