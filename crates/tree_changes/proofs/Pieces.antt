-- Bytes that are put, in one call or piece by piece.
use Rattle.names.specs.Lemmas.Midst.{leaves_more, leaves_behind, leaves_on}
use Rattle.std.proofs.Common.{◌≡◌, ◌∙◌, ℕ, ◌+◌, ◌-◌, ◌*◌, ◌<◌, ◌≤◌, List, [], ◌∷◌, length, take, drop, Option, ⊎_elim, add-one, refl, sym, ap, subst, inl, inr, arith}
use Rattle.std.specs.Prelude.{min, Result, Ok, Err, IfOk}
use Rattle.std.proofs.lemmas.Bool.{cases_lt}
use Rattle.std.proofs.lemmas.List.{length-drop, take_all}
use Rattle.std.proofs.lemmas.Result.{IfOk-weaker}
use Rattle.blocks.specs.Disk.{LeavesOnly}
use Rattle.blocks.specs.declared.disk.Disk.{Ghosts}
use Rattle.calls.specs.Calls.{image_on}
use Rattle.calls.specs.Stepping.{Plain}
use Rattle.calls.specs.Stopped.{StaysOver}
use Rattle.model.specs.Files.{Files, files_of}
use Rattle.model.specs.declared.types.image.Form.{Form}
use Rattle.names.specs.Inside.{form_seen}
use Rattle.names.specs.Lemmas.Over.{form_stays}
use Rattle.directories.specs.Paths.{names_of}
use Rattle.names.specs.Ready.{KeepsTree, AnyOf, LeavesMidst, LeavesIfDone}
use Rattle.names.specs.Writing.{Outcome, Writes}
use Rattle.tree_changes.specs.Puts.{HasAppendedNone, HasNotAppended, Puts, PutsAny, PutsFew, PutsSome, WritesPieces, WritesSome, piece_count, piece_of}
use Rattle.tree_changes.specs.declared.faults.ChangeRefusal.{ChangeRefusal}
use Rattle.tree_changes.specs.declared.faults.ChangeRefusal.TheVariants as change
use Rattle.names.specs.declared.refusal.TreeFault.TheVariants as tree
use Rattle.names.specs.declared.writing.Unwritten.TheVariants as unwritten

-- a piece up to the next one, or to the end
pub piece_is : (bytes : List ℕ) (from to : ℕ) → to ≡ min (from + 3072) (length bytes) → take (to - from) (drop from bytes) ≡ take 3072 (drop from bytes)
piece_is bytes from to is =
    let rest : length (drop from bytes) ≡ length bytes - from = length-drop from bytes in
    ⊎_elim
    (λ (more : from + 3072 < length bytes). let e : to - from ≡ 3072 = omega (arith, is, more) in ap (λ (k : ℕ). take k (drop from bytes)) e)
    (λ (last : length bytes ≤ from + 3072). take_all (to - from) (drop from bytes) (omega (arith, is, last, rest)) ∙ sym (take_all 3072 (drop from bytes) (omega (arith, last, rest))))
    (cases_lt (from + 3072) (length bytes))

-- one piece more was written
pub piece_written : {D N : Type 0} (disk : Ghosts D N) (k m : Plain D) (path bytes : List ℕ) (i to : ℕ) → StaysOver disk k m → to ≡ min (i * 3072 + 3072) (length bytes) → (files new : Files) → WritesPieces (form_seen disk.image k) path bytes i files (files_of (image_on disk.image m))
    → Writes (form_seen disk.image m) (names_of path) (i * 3072) (take (to - i * 3072) (drop (i * 3072) bytes)) (Ok tt) (files_of (image_on disk.image m)) new → WritesPieces (form_seen disk.image k) path bytes (i + 1) files new
piece_written disk k m path bytes i to stays is files new before write =
    let seen = files_of (image_on disk.image m) in
    let as_piece = subst (λ (piece : List ℕ). Writes (form_seen disk.image m) (names_of path) (i * 3072) piece (Ok tt) seen new) (piece_is bytes (i * 3072) to is) write in
    let in_form = subst (λ (form : Form). Writes form (names_of path) (i * 3072) (piece_of bytes i) (Ok tt) seen new) (form_stays disk k m stays) as_piece in
    subst (λ (n : ℕ). WritesPieces (form_seen disk.image k) path bytes n files new) (sym (add-one i)) (seen, before, in_form)

-- where no call was left for the first piece, none is appended
pub first_unappended : {T : Type 0} (bytes : List ℕ) (from : ℕ) (t s u : T) (r : ChangeRefusal) → from ≡ 0 → s ≡ t → HasNotAppended from s u (Err r) → HasAppendedNone bytes t u (Err r)
first_unappended bytes from t s u (change.Tree tree.NoCall) first same none = none ∙ same
first_unappended bytes from t s u (change.Tree (tree.Path cause)) first same none = absurd none
first_unappended bytes from t s u (change.Tree (tree.Refused cause)) first same none = absurd none
first_unappended bytes from t s u (change.Tree (tree.Call cause)) first same none = absurd none
first_unappended bytes from t s u (change.Tree tree.NoSpace) first same none = absurd none
first_unappended bytes from t s u (change.Unwritten unwritten.TooBig) first same none = let far = none.0 in absurd (omega (arith, far, first))
first_unappended bytes from t s u (change.Unwritten unwritten.TooLong) first same none = absurd none
first_unappended bytes from t s u (change.Unwritten unwritten.BadOffset) first same none = absurd none
first_unappended bytes from t s u (change.Unopened cause) first same none = absurd none
first_unappended bytes from t s u (change.Disk cause) first same none = absurd none
first_unappended bytes from t s u change.Output first same none = absurd none

-- no piece is none of them
pub no_pieces : (bytes : List ℕ) (pieces : ℕ) → pieces ≡ piece_count bytes → pieces ≡ 0 → bytes ≡ []
no_pieces [] pieces all none = refl
no_pieces (byte ∷ bytes) pieces all none = absurd (omega (arith, all, none))

-- no more than one call writes
pub few_put : (r : Result (Option ℕ) ChangeRefusal) (path bytes : List ℕ) (form : Form) (files new : Files) → length bytes ≤ 3072 → IfOk r (λ told. PutsFew path bytes told files new) → IfOk r (λ told. Puts path bytes form told files new)
few_put r path bytes form files new few = IfOk-weaker r _ _ (λ told put. inl (few, put))

-- one piece more may have been written, or is refused
pub piece_left : {D N : Type 0} (disk : Ghosts D N) (k m e : Plain D) (path bytes : List ℕ) (i to : ℕ) → StaysOver disk k m → to ≡ min (i * 3072 + 3072) (length bytes)
    → WritesPieces (form_seen disk.image k) path bytes i (files_of (image_on disk.image k)) (files_of (image_on disk.image m))
    → LeavesIfDone disk (WritesSome (form_seen disk.image k) path bytes i) k m
    → LeavesIfDone disk (AnyOf (Writes (form_seen disk.image m) (names_of path) (i * 3072) (take (to - i * 3072) (drop (i * 3072) bytes)))) m e
    → LeavesIfDone disk (WritesSome (form_seen disk.image k) path bytes (i + 1)) k e
piece_left {D = D} disk k m e path bytes i to stays is before left behind = on left behind
  where
    form : Form
    form = form_seen disk.image k

    all : Files → Files → Type 0
    all = WritesSome form path bytes (i + 1)

    one : Files → Files → Type 0
    one = AnyOf (Writes (form_seen disk.image m) (names_of path) (i * 3072) (take (to - i * 3072) (drop (i * 3072) bytes)))

    more : (x z : Files) → WritesSome form path bytes i x z → all x z
    more x z some = (some.0, omega (arith, some.1), some.2)

    here : all (files_of (image_on disk.image k)) (files_of (image_on disk.image m))
    here = (i, omega arith, before)

    then_on : (z : Files) → one (files_of (image_on disk.image m)) z → all (files_of (image_on disk.image k)) z
    then_on z made = written made.0 made.1
      where
        written : (r : Outcome) → Writes (form_seen disk.image m) (names_of path) (i * 3072) (take (to - i * 3072) (drop (i * 3072) bytes)) r (files_of (image_on disk.image m)) z → all (files_of (image_on disk.image k)) z
        written (Ok _) write = (i + 1, omega arith, piece_written disk k m path bytes i to stays is (files_of (image_on disk.image k)) z before write)
        written (Err cause) write = subst (all (files_of (image_on disk.image k))) (sym write.wrote.writes.0) here

    behind_none : m ≡ k → LeavesMidst disk one m e → LeavesIfDone disk all k e
    behind_none same leaves =
        inr (subst (λ (o : Plain D). LeavesOnly disk.moment disk.leaves o.store.volume.device e.store.volume.device (KeepsTree (λ (made : Unit {0}). all) (image_on disk.image k))) same
        (leaves_behind disk one all k m e leaves here then_on))

    on : LeavesIfDone disk (WritesSome form path bytes i) k m → LeavesIfDone disk one m e → LeavesIfDone disk all k e
    on so_far last =
        ⊎_elim
        (λ (still : e ≡ m). ⊎_elim (λ (same : m ≡ k). inl (still ∙ same)) (λ (leaves : LeavesMidst disk (WritesSome form path bytes i) k m). inr (subst (LeavesMidst disk all k) (sym still) (leaves_more disk _ all k m more leaves))) so_far)
        (λ (leaves : LeavesMidst disk one m e). ⊎_elim (λ (same : m ≡ k). behind_none same leaves) (λ (first : LeavesMidst disk (WritesSome form path bytes i) k m). inr (leaves_on disk _ one all k m e first leaves more here then_on)) so_far)
        last

-- at most so many pieces are at most more
pub left_by : {D N : Type 0} (disk : Ghosts D N) (k m : Plain D) (form : Form) (path bytes : List ℕ) (i count : ℕ) → i ≤ count → LeavesIfDone disk (WritesSome form path bytes i) k m → LeavesIfDone disk (WritesSome form path bytes count) k m
left_by disk k m form path bytes i count low left =
    ⊎_elim (λ (still : m ≡ k). inl still)
    (λ (leaves : LeavesMidst disk (WritesSome form path bytes i) k m). inr (leaves_more disk (WritesSome form path bytes i) (WritesSome form path bytes count) k m (λ x z some. (some.0, omega (arith, some.1, low), some.2)) leaves)) left

module _ {D N : Type 0} (disk : Ghosts D N) (k m : Plain D) (path bytes : List ℕ) (form : Form) where
  -- what a stop leaves of a put of few bytes
  pub few_left : length bytes ≤ 3072 → LeavesMidst disk (PutsAny path bytes) k m → LeavesMidst disk (PutsSome path bytes form) k m
  few_left few leaves = leaves_more disk (PutsAny path bytes) (PutsSome path bytes form) k m (λ x z any. inl (few, any)) leaves

  -- of a file that loses its bytes for more, or is made without
  emptied : 3072 < length bytes → (x z : Files) → PutsAny path [] x z → PutsSome path bytes form x z
  emptied many x z any = inr (many, (z, any, (0, omega arith, refl)))

  pub emptied_left : 3072 < length bytes → LeavesMidst disk (PutsAny path []) k m → LeavesMidst disk (PutsSome path bytes form) k m
  emptied_left many leaves = leaves_more disk (PutsAny path []) (PutsSome path bytes form) k m (emptied many) leaves

  -- and then gets these, piece by piece
  pub filled_left : (told : Option ℕ) (e : Plain D) → 3072 < length bytes → PutsFew path [] told (files_of (image_on disk.image k)) (files_of (image_on disk.image m)) → LeavesMidst disk (PutsAny path []) k m
      → LeavesIfDone disk (WritesSome form path bytes (piece_count bytes)) m e → LeavesMidst disk (PutsSome path bytes form) k e
  filled_left told e many put first left =
      let any : PutsAny path [] (files_of (image_on disk.image k)) (files_of (image_on disk.image m)) = (Ok put.0, put.2) in
      ⊎_elim (λ (still : e ≡ m). subst (LeavesMidst disk (PutsSome path bytes form) k) (sym still) (emptied_left many first))
      (λ (leaves : LeavesMidst disk (WritesSome form path bytes (piece_count bytes)) m e).
      leaves_on disk (PutsAny path []) (WritesSome form path bytes (piece_count bytes)) (PutsSome path bytes form) k m e first leaves (emptied many) (emptied many _ _ any)
      (λ z some. inr (many, (files_of (image_on disk.image m), any, some)))) left

-- the same of equal paths and bytes
pub left_as_given : {D N : Type 0} (disk : Ghosts D N) (k m : Plain D) (form : Form) (p path b bytes : List ℕ) → p ≡ path → b ≡ bytes → LeavesMidst disk (PutsSome p b form) k m → LeavesMidst disk (PutsSome path bytes form) k m
left_as_given disk k m form p path b bytes same_path same_bytes leaves =
    subst (λ (q : List ℕ). LeavesMidst disk (PutsSome q bytes form) k m) same_path
    (subst (λ (c : List ℕ). LeavesMidst disk (PutsSome p c form) k m) same_bytes leaves)

-- all of that, from the call on
pub put_left : {D N : Type 0} (disk : Ghosts D N) (k m e : Plain D) (p path b bytes : List ℕ) (told : Option ℕ) → p ≡ path → b ≡ bytes → 3072 < length b → StaysOver disk k m → PutsFew p [] told (files_of (image_on disk.image k)) (files_of (image_on disk.image m))
    → LeavesMidst disk (PutsAny p []) k m → LeavesIfDone disk (WritesSome (form_seen disk.image m) p b (piece_count b)) m e → LeavesMidst disk (PutsSome path bytes (form_seen disk.image k)) k e
put_left disk k m e p path b bytes told same_path same_bytes many stays put first left =
    let form = form_seen disk.image k in
    let pieces = subst (λ (f : Form). LeavesIfDone disk (WritesSome f p b (piece_count b)) m e) (form_stays disk k m stays) left in
    left_as_given disk k e form p path b bytes same_path same_bytes (filled_left disk k m p b form told e many put first pieces)
