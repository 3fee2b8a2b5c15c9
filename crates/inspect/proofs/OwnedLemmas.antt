-- The blocks under addresses, step by step.
use Rattle.std.proofs.Common.{◌≡◌, ◌≢◌, ◌∙◌, ℕ, zero, suc, ◌-◌, ◌+◌, ◌<◌, ◌≤◌, List, [], ◌∷◌, ◌++◌, length, get_or, map, drop, refl, ap, sym, ⊎_elim, arith}
use Rattle.std.specs.List.{flat_map}
use Rattle.std.proofs.lemmas.Bool.{ne_eqb, cases_eq}
use Rattle.std.proofs.lemmas.List.{append_assoc, at_drop_more, at_drop_all, drop_more, drop_all, length-map, map-append}
use Rattle.std.proofs.Math.Numerals.{sub-one}
use Rattle.blocks.specs.Disk.{Image, block_at}
use Rattle.model.specs.declared.types.image.Dinode.{Dinode}
use Rattle.model.specs.Fields.{words_of}
use Rattle.model.specs.Layout.{depths, form_of}
use Rattle.model.specs.Places.{addresses_in, pointers_in}
use Rattle.model.specs.Names.{names_under, names_along, names_of}
use Rattle.model.specs.Lemmas.Counts.{AllByRecursion-parts, flat_at}
use Rattle.model.specs.Lemmas.Names.{pointers_named}
use Rattle.offline.specs.Recovered.{LiesBehindLog}
use Rattle.inspect.specs.declared.owned.Owned.{Owned}
use Rattle.inspect.specs.Gathering.{LieBehindLog}
use Rattle.inspect.specs.Laws.{OwnsWhatIsPointedAt}
use Rattle.inspect.specs.Lemmas.Gathered.{all_done}
use Rattle.inspect.specs.Owned.{owned_block, owned_under, owned_along, owned_in}

-- ---- the blocks are those that the inode names

pub map-flat_map : (f : ℕ → List Owned) (g : ℕ → List ℕ) (xs : List ℕ) → ((x : ℕ) → map (λ o. o.block) (f x) ≡ g x) →
    map (λ o. o.block) (flat_map f xs) ≡ flat_map g xs
map-flat_map f g [] each = refl
map-flat_map f g (x ∷ xs) each =
    map-append (λ (o : Owned). o.block) (f x) (flat_map f xs)
    ∙ ap (λ l. l ++ map (λ (o : Owned). o.block) (flat_map f xs)) (each x)
    ∙ ap (λ l. g x ++ l) (map-flat_map f g xs each)

under_blocks : (y : Image) (file depth address : ℕ) → map (λ o. o.block) (owned_under y file depth address) ≡ names_under y depth address
under_blocks y file zero address = ⊎_elim (λ (e : address ≡ 0). rw e refl) (λ (n : address ≢ 0). rw (ne_eqb address 0 n) refl) (cases_eq address 0)
under_blocks y file (suc depth) address =
    ⊎_elim (λ (e : address ≡ 0). rw e refl)
    (λ (n : address ≢ 0). rw (ne_eqb address 0 n)
    (ap (λ l. address ∷ l) (map-flat_map (λ a. owned_under y file depth a) (λ a. names_under y depth a) (words_of (block_at y address)) (under_blocks y file depth))))
    (cases_eq address 0)

along_blocks : (y : Image) (file : ℕ) (ds addresses : List ℕ) → map (λ o. o.block) (owned_along y file ds addresses) ≡ names_along y ds addresses
along_blocks y file [] addresses = refl
along_blocks y file (d ∷ ds) [] = refl
along_blocks y file (d ∷ ds) (a ∷ addresses) =
    map-append (λ (o : Owned). o.block) (owned_under y file d a) (owned_along y file ds addresses)
    ∙ ap (λ l. l ++ map (λ (o : Owned). o.block) (owned_along y file ds addresses)) (under_blocks y file d a)
    ∙ ap (λ l. names_under y d a ++ l) (along_blocks y file ds addresses)

pub owned_blocks : (y : Image) (file : ℕ) (d : Dinode) → map (λ o. o.block) (owned_in y file d) ≡ names_of y d
unfolding owned_in names_of
owned_blocks y file d =
    ⊎_elim (λ (e : d.kind ≡ 0). rw e refl)
    (λ (n : d.kind ≢ 0). rw (ne_eqb d.kind 0 n) (along_blocks y file (depths (form_of y)) d.addrs))
    (cases_eq d.kind 0)

pub owns_what_is_pointed_at : OwnsWhatIsPointedAt
owns_what_is_pointed_at x i = owned_blocks x i _ ∙ sym (pointers_named x _)

-- ---- down from an address

pub under_none : (y : Image) (file depth address : ℕ) → address ≡ 0 → owned_under y file depth address ≡ []
under_none y file zero address none = rw none refl
under_none y file (suc depth) address none = rw none refl

pub under_data : (y : Image) (file depth address : ℕ) → address ≢ 0 → depth ≡ 0 →
    owned_under y file depth address ≡ owned_block file depth address ∷ []
under_data y file depth address some leaf = rw (leaf, ne_eqb address 0 some) refl

pub under_block : (y : Image) (file depth address : ℕ) → address ≢ 0 → depth ≢ 0 →
    owned_under y file depth address
    ≡ owned_block file depth address ∷ flat_map (λ a. owned_under y file (depth - 1) a) (words_of (block_at y address))
under_block y file zero address some deep = absurd (deep refl)
under_block y file (suc depth) address some deep = rw (ne_eqb address 0 some, sub-one) refl

-- the block itself lies behind the log
pub names_here : (y : Image) (depth address : ℕ) → address ≢ 0 → LieBehindLog y (names_under y depth address) → LiesBehindLog y address
names_here y zero address some all = (let one : LieBehindLog y (address ∷ []) = rw (ne_eqb address 0 some) at all in one.0)
names_here y (suc depth) address some all =
    (let parts : LieBehindLog y (address ∷ flat_map (λ a. names_under y depth a) (words_of (block_at y address))) = rw (ne_eqb address 0 some) at all in parts.0)

-- and so do those under its entries
pub names_entry : (y : Image) (depth address k : ℕ) → address ≢ 0 → depth ≢ 0 → LieBehindLog y (names_under y depth address) →
    k < length (words_of (block_at y address)) → LieBehindLog y (names_under y (depth - 1) (get_or (words_of (block_at y address)) k 0))
names_entry y zero address k some deep all low = absurd (deep refl)
names_entry y (suc depth) address k some deep all low =
    let parts : LieBehindLog y (address ∷ flat_map (λ a. names_under y depth a) (words_of (block_at y address))) = rw (ne_eqb address 0 some) at all in
    rw sub-one (flat_at (LiesBehindLog y) (λ a. names_under y depth a) (words_of (block_at y address)) k parts.1 low)

-- ---- along the addresses of an inode

pub along_whole : (y : Image) (file : ℕ) (d : Dinode) (ds : List ℕ) → d.kind ≢ 0 → ds ≡ depths (form_of y) → owned_in y file d ≡ owned_along y file ds d.addrs
unfolding owned_in
along_whole y file d ds used same = rw (ne_eqb d.kind 0 used, same) refl

pub along_free : (y : Image) (file : ℕ) (d : Dinode) → d.kind ≡ 0 → owned_in y file d ≡ []
unfolding owned_in
along_free y file d free = rw free refl

pub names_whole : (y : Image) (d : Dinode) (ds : List ℕ) → d.kind ≢ 0 → ds ≡ depths (form_of y) → names_of y d ≡ names_along y ds d.addrs
unfolding names_of
names_whole y d ds used same = rw (ne_eqb d.kind 0 used, same) refl

pub names_one : (y : Image) (ds addresses : List ℕ) (k : ℕ) → LieBehindLog y (names_along y ds addresses) → k < length ds → k < length addresses →
    LieBehindLog y (names_under y (get_or ds k 0) (get_or addresses k 0))
names_one y [] addresses k all in_depths in_addresses = absurd (omega (arith, in_depths))
names_one y (d ∷ ds) [] k all in_depths in_addresses = absurd (omega (arith, in_addresses))
names_one y (d ∷ ds) (a ∷ addresses) zero all in_depths in_addresses =
    (AllByRecursion-parts (LiesBehindLog y) (names_under y d a) (names_along y ds addresses) all).0
names_one y (d ∷ ds) (a ∷ addresses) (suc k) all in_depths in_addresses =
    names_one y ds addresses k (AllByRecursion-parts (LiesBehindLog y) (names_under y d a) (names_along y ds addresses) all).1
    (omega (arith, in_depths)) (omega (arith, in_addresses))

pub along_more : (y : Image) (file : ℕ) (ds addresses : List ℕ) (k : ℕ) → k < length ds → k < length addresses →
    owned_along y file (drop k ds) (drop k addresses)
    ≡ owned_under y file (get_or ds k 0) (get_or addresses k 0) ++ owned_along y file (drop (k + 1) ds) (drop (k + 1) addresses)
along_more y file ds addresses k in_depths in_addresses =
    rw (drop_more ds k 0 in_depths, drop_more addresses k 0 in_addresses) refl

pub along_all : (y : Image) (file : ℕ) (ds addresses : List ℕ) (k : ℕ) → length ds ≤ k → owned_along y file (drop k ds) addresses ≡ []
along_all y file ds addresses k high = rw (drop_all k ds high) refl

-- ---- what was gathered so far, and what is left

-- one entry of a block of addresses more
pub entry_more : (y : Image) (file depth : ℕ) (words : List ℕ) (k : ℕ) → k < length words →
    flat_map (λ a. owned_under y file depth a) (drop k words)
    ≡ owned_under y file depth (get_or words k 0) ++ flat_map (λ a. owned_under y file depth a) (drop (k + 1) words)
entry_more y file depth words k low = at_drop_more (flat_map (λ a. owned_under y file depth a)) words k 0 low

pub entry_all : (y : Image) (file depth : ℕ) (words : List ℕ) (k : ℕ) → length words ≤ k → flat_map (λ a. owned_under y file depth a) (drop k words) ≡ []
entry_all y file depth words k high = at_drop_all (flat_map (λ a. owned_under y file depth a)) words k high

-- a block of addresses, and what is under its entries, were added
pub under_done : (y : Image) (top : Owned) (words : List ℕ) (before pushed after left : List Owned) → top.block ≢ 0 → top.depth ≢ 0 →
    words ≡ words_of (block_at y top.block) → pushed ≡ before ++ top ∷ [] →
    after ++ left ≡ pushed ++ flat_map (λ a. owned_under y top.file (top.depth - 1) a) words → left ≡ [] →
    after ≡ before ++ owned_under y top.file top.depth top.block
under_done y top words before pushed after left some deep read push all none =
    let under = flat_map (λ a. owned_under y top.file (top.depth - 1) a) words in
    let whole : owned_under y top.file top.depth top.block ≡ top ∷ under
    = under_block y top.file top.depth top.block some deep ∙ ap (λ ws. top ∷ flat_map (λ a. owned_under y top.file (top.depth - 1) a) ws) (sym read) in
    all_done after left (pushed ++ under) all none
    ∙ ap (λ l. l ++ under) push ∙ append_assoc before (top ∷ []) under ∙ ap (λ l. before ++ l) (sym whole)

-- how many blocks an inode owns
pub owned_count : (y : Image) (file : ℕ) (d : Dinode) → length (owned_in y file d) ≡ length (addresses_in (pointers_in y d))
owned_count y file d = sym (length-map (owned_in y file d) (λ (o : Owned). o.block)) ∙ ap length (owned_blocks y file d ∙ sym (pointers_named y d))
