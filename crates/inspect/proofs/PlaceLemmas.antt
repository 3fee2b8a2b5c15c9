-- What a check without a fault says of the blocks that files own.
use Rattle.std.proofs.Common.{◌≡◌, ◌∙◌, ℕ, ◌<◌, ◌≤◌, List, length, get_or, map, None, ap, sym, subst, arith}
use Rattle.std.proofs.lemmas.List.{get_or-map, length-map}
use Rattle.std.proofs.lemmas.List.FromFn.{fill_by_all}
use Rattle.blocks.specs.Disk.{Image}
use Rattle.model.specs.Layout.{inode_of, inode_count_of}
use Rattle.model.specs.Log.{homes_of, recovered}
use Rattle.model.specs.Names.{names_of}
use Rattle.model.specs.Places.{addresses_in, numbers_of, places_of, pointers_of}
use Rattle.model.specs.Soundness.{count_of}
use Rattle.model.specs.declared.types.image.Dinode.{Dinode}
use Rattle.model.specs.Verdict.{verdict}
use Rattle.model.specs.declared.types.image.Super.{Super}
use Rattle.model.specs.Lemmas.Log.{length-recovered}
use Rattle.model.specs.Lemmas.Names.{pointers_named}
use Rattle.model.specs.Lemmas.Soundness.{verdict_sound, IsInData, inode_in_data}
use Rattle.model.specs.Lemmas.Super.{lawful_geometry}
use Rattle.model.specs.Lemmas.Counts.{all_weaker}
use Rattle.offline.specs.Recovered.{LiesBehindLog, IsRecoveredOf}
use Rattle.offline.specs.declared.recovered.Recovered.{Recovered}
use Rattle.inspect.specs.Gathering.{LieBehindLog}
use Rattle.inspect.specs.Owned.{owned_by_all, owned_of}
use Rattle.inspect.specs.Signs.{owner_among, owner_sign, sign_among, sign_of, signs_of}
use Rattle.inspect.specs.declared.owned.Owned.{Owned}
use Rattle.inspect.proofs.OwnedLemmas.{map-flat_map, owns_what_is_pointed_at}

-- ---- the inodes of an image without a fault name blocks behind the log

pub names_behind : (x : Image) (i : ℕ) → verdict x ≡ None → 1 ≤ i → i < inode_count_of (recovered x) →
    LieBehindLog (recovered x) (names_of (recovered x) (inode_of (recovered x) i))
names_behind x i sound low high =
    let y = recovered x in
    let is = (verdict_sound x sound).2 in
    subst (λ (l : List ℕ). LieBehindLog y l) (pointers_named y (inode_of y i))
    (all_weaker (IsInData y) (LiesBehindLog y) (addresses_in (pointers_of y i)) (λ a there. (let from = there.0 in omega (arith, from), there.1))
    (inode_in_data y i is low high))

-- the same as a walk over the inodes knows it
pub names_at : (x z : Image) (i : ℕ) (d : Dinode) → verdict x ≡ None → z ≡ x → d ≡ inode_of (recovered x) i → 1 ≤ i → i < inode_count_of (recovered x) →
    LieBehindLog (recovered z) (names_of (recovered z) d)
names_at x z i d sound same is low high = rw (same, is) (names_behind x i sound low high)

-- ---- the blocks of all files

numbers_by_all : (y : Image) → map (λ o. o.block) (owned_by_all y) ≡ places_of y
numbers_by_all y = map-flat_map (owned_of y) (λ i. addresses_in (pointers_of y i)) (numbers_of y) (owns_what_is_pointed_at y)

module _ (x : Image) (owned : List Owned) (sound : verdict x ≡ None) (is : owned ≡ owned_by_all (recovered x)) where
  same : map (λ (o : Owned). o.block) owned ≡ places_of (recovered x)
  same = ap (map (λ (o : Owned). o.block)) is ∙ numbers_by_all (recovered x)

  pub all_inside : (k : ℕ) (d : Owned) → k < length owned → (get_or owned k d).block < length x
  all_inside k d low =
      let y = recovered x in
      let within : k < length (places_of y) = subst (λ (l : List ℕ). k < length l) same (omega (arith, low, length-map owned (λ (o : Owned). o.block))) in
      let there = ((verdict_sound x sound).2.in_data k 0 within).1 in
      let at : get_or (places_of y) k 0 ≡ (get_or owned k d).block = ap (λ l. get_or l k 0) (sym same) ∙ get_or-map (λ (o : Owned). o.block) owned k d 0 low in
      omega (arith, there, at, length-recovered x)

  pub all_once : (b : ℕ) → count_of b (map (λ (o : Owned). o.block) owned) ≤ 1
  all_once b = subst (λ (l : List ℕ). count_of b l ≤ 1) (sym same) ((verdict_sound x sound).2.once b)

-- ---- the signs of all blocks

pub size_is : (x : Image) (image : Recovered) → IsRecoveredOf x image → image.sup.size ≡ length x
size_is x image is = ap (λ (s : Super). s.size) is.sup ∙ (lawful_geometry x is.geometry).size

pub signs_whole : (x : Image) (image : Recovered) (owned : List Owned) (signs after : List ℕ) → IsRecoveredOf x image → owned ≡ owned_by_all (recovered x) →
    length signs ≡ length x → length after ≡ length x →
    ((b : ℕ) → b < length signs → get_or signs b 0 ≡ owner_sign (owner_among owned b)) →
    ((b : ℕ) → b < length signs → get_or after b 0 ≡ sign_among image.header.homes.items image.sup b (get_or signs b 0)) →
    after ≡ signs_of x
signs_whole x image owned signs after is all size long signed drawn =
    fill_by_all (sign_of x) after (length x) 0 long
    (λ b low.
    let inside : b < length signs = omega (arith, low, size) in
    let owner = signed b inside ∙ ap (λ (l : List Owned). owner_sign (owner_among l b)) all in
    drawn b inside ∙ ap (λ (s : ℕ). sign_among image.header.homes.items image.sup b s) owner
    ∙ ap (λ (hs : List ℕ). sign_among hs image.sup b (owner_sign (owner_among (owned_by_all (recovered x)) b))) is.header.homes
    ∙ ap (λ (s : Super). sign_among (homes_of x) s b (owner_sign (owner_among (owned_by_all (recovered x)) b))) is.sup)
