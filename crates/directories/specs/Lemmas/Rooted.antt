-- Files of which each directory has one parent, one name there, and lies deeper; and changes that keep it so.
use Rattle.std.proofs.Common.{◌≡◌, ◌≢◌, ◌⊎◌, ℕ, suc, ◌<◌, cond, eqb, List, sym, ap, subst, ◌∙◌, ⊎_elim, arith}
use Rattle.std.proofs.lemmas.Bool.{cases_eq, cond-true, cond-false, eq-eqb, ne_eqb}
use Rattle.directories.specs.Trees.{root}

-- Each file but the root has a name, and each that is one of those has one parent and one name there, and lies deeper than its parent.
pub record IsRooted (Down : ℕ → List ℕ → ℕ → Type 0) (IsThere IsOne : ℕ → Type 0) (depth : ℕ → ℕ) : Type 0 where
  pub above : (from number : ℕ) (name : List ℕ) → Down from name number → IsThere from
  pub lead : (from number : ℕ) (name : List ℕ) → Down from name number → IsThere number × (number ≢ root)
  pub named : (number : ℕ) → number ≢ root → IsThere number → (from : ℕ) × (name : List ℕ) × Down from name number
  pub parent : (a b number : ℕ) (x y : List ℕ) → IsOne number → Down a x number → Down b y number → a ≡ b
  pub name : (a number : ℕ) (x y : List ℕ) → IsOne number → Down a x number → Down a y number → x ≡ y
  pub deeper : (from number : ℕ) (name : List ℕ) → IsOne number → Down from name number → depth from < depth number

-- a file is there that was not, under one name in a directory
pub record AddsDown (Down New : ℕ → List ℕ → ℕ → Type 0) (Was Is WasOne IsOne : ℕ → Type 0) (parent : ℕ) (name : List ℕ) (number : ℕ) : Type 0 where
  pub in_parent : Was parent
  pub fresh : Was number → ⊥
  pub there : Is number
  pub apart : number ≢ root
  pub is : New parent name number
  pub still : (from to : ℕ) (other : List ℕ) → Down from other to → New from other to
  pub were : (from to : ℕ) (other : List ℕ) → New from other to → ((to ≡ number) × (from ≡ parent) × (other ≡ name)) ⊎ Down from other to
  pub stay : (i : ℕ) → Was i → Is i
  pub was : (i : ℕ) → i ≢ number → Is i → Was i
  pub one : (i : ℕ) → i ≢ number → IsOne i → WasOne i

-- a file that nothing is in is gone, and its name
pub record DropsDown (Down New : ℕ → List ℕ → ℕ → Type 0) (Was Is WasOne IsOne : ℕ → Type 0) (number : ℕ) : Type 0 where
  pub empty : (to : ℕ) (other : List ℕ) → Down number other to → ⊥
  pub still : (from to : ℕ) (other : List ℕ) → to ≢ number → Down from other to → New from other to
  pub were : (from to : ℕ) (other : List ℕ) → New from other to → (to ≢ number) × Down from other to
  pub stay : (i : ℕ) → i ≢ number → Was i → Is i
  pub was : (i : ℕ) → Is i → (i ≢ number) × Was i
  pub one : (i : ℕ) → i ≢ number → IsOne i → WasOne i

-- A file has a new name, in the same directory or another one, in place of its old one, at depths
-- where it is still below its directory, and all else below theirs.
pub record MovesDown (Down New : ℕ → List ℕ → ℕ → Type 0) (IsThere IsOne : ℕ → Type 0) (deep : ℕ → ℕ) (parent : ℕ) (name : List ℕ)
    (number : ℕ) : Type 0 where
  pub in_parent : IsThere parent
  pub apart : number ≢ root
  pub there : IsThere number
  pub is : New parent name number
  pub still : (from to : ℕ) (other : List ℕ) → to ≢ number → Down from other to → New from other to
  pub were : (from to : ℕ) (other : List ℕ) → New from other to →
      ((to ≡ number) × (from ≡ parent) × (other ≡ name)) ⊎ ((IsOne to → to ≢ number) × Down from other to)
  pub here : IsOne number → deep parent < deep number
  pub deeper : (from to : ℕ) (other : List ℕ) → IsOne to → to ≢ number → Down from other to → deep from < deep to

-- the depths, where a file is put below another
pub depth_with : (ℕ → ℕ) → ℕ → ℕ → ℕ → ℕ
depth_with depth parent number i = cond (eqb i number) (suc (depth parent)) (depth i)

pub depth_there : (depth : ℕ → ℕ) (parent number i : ℕ) → i ≡ number → depth_with depth parent number i ≡ suc (depth parent)
unfolding depth_with
depth_there depth parent number i e = cond-true (eqb i number) (suc (depth parent)) (depth i) (eq-eqb i number e)

pub depth_other : (depth : ℕ → ℕ) (parent number i : ℕ) → i ≢ number → depth_with depth parent number i ≡ depth i
unfolding depth_with
depth_other depth parent number i ne = cond-false (eqb i number) (suc (depth parent)) (depth i) (ne_eqb i number ne)

-- a directory that is new in its place has one parent and one name still, and so has each other
module _ (Down New : ℕ → List ℕ → ℕ → Type 0) (IsThere WasOne IsOne : ℕ → Type 0) (depth : ℕ → ℕ) (parent : ℕ) (name : List ℕ) (number : ℕ)
    (tree : IsRooted Down IsThere WasOne depth) (one : (i : ℕ) → i ≢ number → IsOne i → WasOne i)
    (old : (from to : ℕ) (other : List ℕ) → IsOne to → to ≢ number → New from other to → Down from other to)
    (this : (from to : ℕ) (other : List ℕ) → IsOne to → to ≡ number → New from other to → (from ≡ parent) × (other ≡ name)) where
  one_parent : (a b i : ℕ) (x y : List ℕ) → IsOne i → New a x i → New b y i → a ≡ b
  one_parent a b i x y is at_a at_b =
      ⊎_elim (λ (e : i ≡ number). (this a i x is e at_a).0 ∙ sym (this b i y is e at_b).0)
      (λ (ne : i ≢ number). tree.parent a b i x y (one i ne is) (old a i x is ne at_a) (old b i y is ne at_b)) (cases_eq i number)

  one_name : (a i : ℕ) (x y : List ℕ) → IsOne i → New a x i → New a y i → x ≡ y
  one_name a i x y is at_x at_y =
      ⊎_elim (λ (e : i ≡ number). (this a i x is e at_x).1 ∙ sym (this a i y is e at_y).1)
      (λ (ne : i ≢ number). tree.name a i x y (one i ne is) (old a i x is ne at_x) (old a i y is ne at_y)) (cases_eq i number)

pub rooted_added : (Down New : ℕ → List ℕ → ℕ → Type 0) (Was Is WasOne IsOne : ℕ → Type 0) (depth : ℕ → ℕ) (parent : ℕ) (name : List ℕ) (number : ℕ) →
    IsRooted Down Was WasOne depth → AddsDown Down New Was Is WasOne IsOne parent name number → IsRooted New Is IsOne (depth_with depth parent number)
rooted_added Down New Was Is WasOne IsOne depth parent name number tree adds =
    let not_to : (from to : ℕ) (other : List ℕ) → Down from other to → to ≢ number =
    λ from to other d same. adds.fresh (subst (λ (k : ℕ). Was k) same (tree.lead from to other d).0) in
    let not_from : (i : ℕ) → Was i → i ≢ number = λ i was same. adds.fresh (subst (λ (k : ℕ). Was k) same was) in
    let old : (from to : ℕ) (other : List ℕ) → IsOne to → to ≢ number → New from other to → Down from other to =
    λ from to other is ne d.
    ⊎_elim (λ (this : (to ≡ number) × (from ≡ parent) × (other ≡ name)). absurd (ne this.0)) (λ (o : Down from other to). o)
    (adds.were from to other d) in
    let this : (from to : ℕ) (other : List ℕ) → IsOne to → to ≡ number → New from other to → (from ≡ parent) × (other ≡ name) =
    λ from to other is e d.
    ⊎_elim (λ (t : (to ≡ number) × (from ≡ parent) × (other ≡ name)). (t.1, t.2))
    (λ (o : Down from other to). absurd (not_to from to other o e)) (adds.were from to other d) in
    record {
      above = λ from to other d.
          ⊎_elim (λ (t : (to ≡ number) × (from ≡ parent) × (other ≡ name)). subst (λ (k : ℕ). Is k) (sym t.1) (adds.stay parent adds.in_parent))
          (λ (o : Down from other to). adds.stay from (tree.above from to other o)) (adds.were from to other d);
      lead = λ from to other d.
          ⊎_elim
          (λ (t : (to ≡ number) × (from ≡ parent) × (other ≡ name)).
          (subst (λ (k : ℕ). Is k) (sym t.0) adds.there, λ is_root. adds.apart (sym t.0 ∙ is_root)))
          (λ (o : Down from other to). let led = tree.lead from to other o in (adds.stay to led.0, led.1)) (adds.were from to other d);
      named = λ i ne is.
          ⊎_elim
          (λ (e : i ≡ number). (parent, name, subst (λ (k : ℕ). New parent name k) (sym e) adds.is))
          (λ (other : i ≢ number). let n = tree.named i ne (adds.was i other is) in (n.0, n.1, adds.still n.0 i n.1 n.2)) (cases_eq i number);
      parent = one_parent Down New Was WasOne IsOne depth parent name number tree adds.one old this;
      name = one_name Down New Was WasOne IsOne depth parent name number tree adds.one old this;
      deeper = λ from to other is d.
          ⊎_elim
          (λ (t : (to ≡ number) × (from ≡ parent) × (other ≡ name)).
          let here = depth_there depth parent number to t.0 in
          let up = depth_other depth parent number parent (not_from parent adds.in_parent) in
          let same = ap (depth_with depth parent number) t.1 in omega arith)
          (λ (o : Down from other to).
          let here = depth_other depth parent number to (not_to from to other o) in
          let up = depth_other depth parent number from (not_from from (tree.above from to other o)) in
          let deep = tree.deeper from to other (adds.one to (not_to from to other o) is) o in omega arith)
          (adds.were from to other d);
    }

pub rooted_dropped : (Down New : ℕ → List ℕ → ℕ → Type 0) (Was Is WasOne IsOne : ℕ → Type 0) (depth : ℕ → ℕ) (number : ℕ) →
    IsRooted Down Was WasOne depth → DropsDown Down New Was Is WasOne IsOne number → IsRooted New Is IsOne depth
rooted_dropped Down New Was Is WasOne IsOne depth number tree drops = record {
  above = λ from to other d.
      let o = (drops.were from to other d).1 in
      drops.stay from (λ same. drops.empty to other (subst (λ (k : ℕ). Down k other to) same o)) (tree.above from to other o);
  lead = λ from to other d. let o = drops.were from to other d in let led = tree.lead from to other o.1 in (drops.stay to o.0 led.0, led.1);
  named = λ i ne is. let was = drops.was i is in let n = tree.named i ne was.1 in (n.0, n.1, drops.still n.0 i n.1 was.0 n.2);
  parent = λ a b i x y is at_a at_b.
      let o = drops.were a i x at_a in tree.parent a b i x y (drops.one i o.0 is) o.1 (drops.were b i y at_b).1;
  name = λ a i x y is at_x at_y.
      let o = drops.were a i x at_x in tree.name a i x y (drops.one i o.0 is) o.1 (drops.were a i y at_y).1;
  deeper = λ from to other is d. let o = drops.were from to other d in tree.deeper from to other (drops.one to o.0 is) o.1;
}

pub rooted_moved : (Down New : ℕ → List ℕ → ℕ → Type 0) (IsThere IsOne : ℕ → Type 0) (depth deep : ℕ → ℕ) (parent : ℕ) (name : List ℕ) (number : ℕ) →
    IsRooted Down IsThere IsOne depth → MovesDown Down New IsThere IsOne deep parent name number → IsRooted New IsThere IsOne deep
rooted_moved Down New IsThere IsOne depth deep parent name number tree moves =
    let old : (from to : ℕ) (other : List ℕ) → IsOne to → to ≢ number → New from other to → Down from other to =
    λ from to other is ne d.
    ⊎_elim (λ (this : (to ≡ number) × (from ≡ parent) × (other ≡ name)). absurd (ne this.0))
    (λ (o : (IsOne to → to ≢ number) × Down from other to). o.1) (moves.were from to other d) in
    let this : (from to : ℕ) (other : List ℕ) → IsOne to → to ≡ number → New from other to → (from ≡ parent) × (other ≡ name) =
    λ from to other is e d.
    ⊎_elim (λ (t : (to ≡ number) × (from ≡ parent) × (other ≡ name)). (t.1, t.2))
    (λ (o : (IsOne to → to ≢ number) × Down from other to). absurd (o.0 is e)) (moves.were from to other d) in
    record {
      above = λ from to other d.
          ⊎_elim (λ (t : (to ≡ number) × (from ≡ parent) × (other ≡ name)). subst (λ (k : ℕ). IsThere k) (sym t.1) moves.in_parent)
          (λ (o : (IsOne to → to ≢ number) × Down from other to). tree.above from to other o.1) (moves.were from to other d);
      lead = λ from to other d.
          ⊎_elim
          (λ (t : (to ≡ number) × (from ≡ parent) × (other ≡ name)).
          (subst (λ (k : ℕ). IsThere k) (sym t.0) moves.there, λ is_root. moves.apart (sym t.0 ∙ is_root)))
          (λ (o : (IsOne to → to ≢ number) × Down from other to). tree.lead from to other o.1) (moves.were from to other d);
      named = λ i ne is.
          ⊎_elim (λ (e : i ≡ number). (parent, name, subst (λ (k : ℕ). New parent name k) (sym e) moves.is))
          (λ (other : i ≢ number). let n = tree.named i ne is in (n.0, n.1, moves.still n.0 i n.1 other n.2)) (cases_eq i number);
      parent = one_parent Down New IsThere IsOne IsOne depth parent name number tree (λ i ne is. is) old this;
      name = one_name Down New IsThere IsOne IsOne depth parent name number tree (λ i ne is. is) old this;
      deeper = λ from to other is d.
          ⊎_elim
          (λ (t : (to ≡ number) × (from ≡ parent) × (other ≡ name)).
          let here = moves.here (subst (λ (k : ℕ). IsOne k) t.0 is) in let a = ap deep t.0 in let b = ap deep t.1 in omega arith)
          (λ (o : (IsOne to → to ≢ number) × Down from other to). moves.deeper from to other is (o.0 is) o.1)
          (moves.were from to other d);
    }
