-- Where the path of a copy leads once its bytes were put.
use Rattle.std.proofs.Common.{◌≡◌, ◌≢◌, ◌∙◌, ℕ, zero, suc, ◌+◌, ◌*◌, ◌<◌, ◌≤◌, List, [], ◌∷◌, ◌++◌, length, take, drop, Option, Some, None, Result, Ok, Err, refl, sym, ap, subst, ⊎_elim, arith}
use Rattle.std.proofs.Math.Seq.{take-add}
use Rattle.std.proofs.lemmas.Bool.{cases_eq}
use Rattle.std.proofs.lemmas.List.{append-nil, drop_all, length-take, take-take, take_all}
use Rattle.std.specs.Prelude.{slice_set}
use Rattle.blocks.specs.Block.{overwritten}
use Rattle.directories.specs.Lemmas.Adding.{same_name, step_same}
use Rattle.directories.specs.Lemmas.FileMaps.{set_others, set_there}
use Rattle.directories.specs.Lemmas.PathLaws.{step_from, step_to}
use Rattle.directories.specs.Lemmas.Unnamed.{apart_from}
use Rattle.directories.specs.Paths.{names_of}
use Rattle.directories.specs.TreeChanges.{AddsName}
use Rattle.directories.specs.Trees.{bytes_of, kind_of, root, IsDirectory, Steps}
use Rattle.directories.specs.Walks.{and_on, stepped, walked}
use Rattle.directories.specs.declared.refusal.Refusal.{Refusal}
use Rattle.model.specs.Files.{Files, file_in}
use Rattle.model.specs.Lemmas.FileNumbers.{below_file}
use Rattle.model.specs.Operations.{with_bytes}
use Rattle.model.specs.declared.types.image.File.{File}
use Rattle.model.specs.declared.types.image.Form.{Form}
use Rattle.names.specs.Contents.{HasOnly, IsPlainFile}
use Rattle.names.specs.Putting.{PutsAt, file_of}
use Rattle.names.specs.Writing.{Writes}
use Rattle.tree_looks.specs.Copies.{MayTake}
use Rattle.tree_changes.specs.CopyLaws.{CopiesHold, IsPut, KeepsSteps}
use Rattle.tree_changes.specs.Puts.{PutsFew, WritesPieces, piece_count, piece_of}

-- ---- walks where each step stays

first_step : (r : Result ℕ Refusal) (on : ℕ → Result ℕ Refusal) (i : ℕ) → and_on r on ≡ Ok i → (next : ℕ) × (r ≡ Ok next) × (on next ≡ Ok i)
first_step (Ok next) on i h = (next, refl, h)
first_step (Err cause) on i h = absurd (cc h)

on_from : (r : Result ℕ Refusal) (on : ℕ → Result ℕ Refusal) (next i : ℕ) → r ≡ Ok next → on next ≡ Ok i → and_on r on ≡ Ok i
on_from r on next i is h = ap (λ (s : Result ℕ Refusal). and_on s on) is ∙ h

walk_stays : (files new : Files) → KeepsSteps files new → (from : ℕ) (names : List (List ℕ)) (i : ℕ) → walked files from names ≡ Ok i → walked new from names ≡ Ok i
walk_stays files new keeps from [] i h = h
walk_stays files new keeps from (name ∷ names) i h =
    let first = first_step (stepped files from name) (λ n. walked files n names) i h in
    on_from (stepped new from name) (λ n. walked new n names) first.0 i (step_to new from name first.0 (keeps from first.0 name (step_from files from name first.0 first.1)))
    (walk_stays files new keeps first.0 names i first.2)

walk_last : (files : Files) (from : ℕ) (names : List (List ℕ)) (name : List ℕ) (up i : ℕ) → walked files from names ≡ Ok up → Steps files up name i → walked files from (names ++ name ∷ []) ≡ Ok i
walk_last files from [] name up i h step =
    let here : from ≡ up = cc h in
    on_from (stepped files from name) (λ n. Ok n) i i (step_to files from name i (subst (λ (k : ℕ). Steps files k name i) (sym here) step)) refl
walk_last files from (x ∷ names) name up i h step =
    let first = first_step (stepped files from x) (λ n. walked files n names) up h in
    on_from (stepped files from x) (λ n. walked files n (names ++ name ∷ [])) first.0 i first.1 (walk_last files first.0 names name up i first.2 step)

-- a file under a new name
adds_keep : (files new : Files) (from number : ℕ) (name : List ℕ) (file : File) → AddsName files new from name number file → KeepsSteps files new
adds_keep files new from number name file adds at to other step =
    ⊎_elim
    (λ (here : at ≡ from).
    let there : Steps files from other to = subst (λ (k : ℕ). Steps files k other to) here step in
    let on : Steps new from other to = ⊎_elim
    (λ (same : other ≡ name). let both : None ≡ Some to = sym adds.absent ∙ (subst (λ (x : List ℕ). Steps files from x to) same there).1 in absurd (cc both))
    (λ (differ : other ≢ name). (adds.changes.directory, adds.changes.others other differ ∙ there.1))
    (same_name other name) in
    subst (λ (k : ℕ). Steps new k other to) (sym here) on)
    (λ (elsewhere : at ≢ from). step_same files new at to other (adds.rest at elsewhere (apart_from files number at adds.free step.0)) step)
    (cases_eq at from)

-- other bytes in a file that is no directory
set_keeps : (files new : Files) (number : ℕ) (o : Option File) → (IsDirectory files number → ⊥) → new ≡ slice_set files number o → KeepsSteps files new
set_keeps files new number o plain is at to other step =
    ⊎_elim (λ (here : at ≡ number). absurd (plain (subst (λ (k : ℕ). IsDirectory files k) here step.0)))
    (λ (elsewhere : at ≢ number). step_same files new at to other (set_others files new number o is at elsewhere) step)
    (cases_eq at number)

no_directory : (files : Files) (number : ℕ) (file : File) → IsPlainFile files number file → IsDirectory files number → ⊥
no_directory files number file plain is = plain.plain (sym (ap kind_of plain.there) ∙ is)

-- ---- the file at the path

-- from some files on
record Stands (files new : Files) (names : List (List ℕ)) (number : ℕ) (bytes : List ℕ) : Type 0 where
  keeps : KeepsSteps files new
  led : walked new root names ≡ Ok number
  kind : kind_of (file_in new number) ≡ 2
  bytes_are : bytes_of (file_in new number) ≡ bytes

few_stand : (files new : Files) (names : List (List ℕ)) (bytes : List ℕ) (number : ℕ) → ((other : ℕ) → walked files root names ≡ Ok other → kind_of (file_in files other) ≡ 2) → PutsAt bytes names (Ok number) files new
    → Stands files new names number bytes
few_stand files new names bytes number kinds put = ⊎_elim added filled put.made_is.1
  where
    parents : List (List ℕ)
    parents = put.led.parents

    whole : (seen : Files) → walked seen root parents ≡ Ok put.from → Steps seen put.from put.name number → walked seen root names ≡ Ok number
    whole seen led step = subst (λ (l : List (List ℕ)). walked seen root l ≡ Ok number) (sym put.led.split) (walk_last seen root parents put.name put.from number led step)

    added : AddsName files new put.from put.name number (file_of bytes) → Stands files new names number bytes
    added adds =
        let keeps = adds_keep files new put.from number put.name (file_of bytes) adds in
        record { keeps = keeps; led = whole new (walk_stays files new keeps root parents put.from put.led.led) (adds.changes.directory, adds.leads); kind = ap kind_of adds.there; bytes_are = ap bytes_of adds.there }

    filled : Steps files put.from put.name number × HasOnly number bytes files new → Stands files new names number bytes
    filled both =
        let only = both.1 in
        let keeps = set_keeps files new number (with_bytes only.file bytes) (no_directory files number only.file only.plain) only.is in
        let there : file_in new number ≡ with_bytes only.file bytes = set_there files new number (with_bytes only.file bytes) (below_file files number only.file only.plain.there) only.is in
        record {
          keeps = keeps;
          led = whole new (walk_stays files new keeps root parents put.from put.led.led) (keeps put.from number put.name both.0);
          kind = ap kind_of there ∙ sym (ap kind_of only.plain.there) ∙ kinds number (whole files put.led.led both.0);
          bytes_are = ap bytes_of there;
        }

-- a piece behind those that were written
piece_behind : (bytes old : List ℕ) (j : ℕ) → old ≡ take (j * 3072) bytes → overwritten old (j * 3072) (piece_of bytes j) ≡ take (suc j * 3072) bytes
piece_behind bytes old j is =
    let k = j * 3072 in
    let front : take k old ≡ take k bytes = ap (take k) is ∙ take-take k k bytes (omega arith) in
    let low = length-take k bytes in
    let short : length old ≡ length (take k bytes) = ap length is in
    let none : drop (k + length (piece_of bytes j)) old ≡ [] = drop_all (k + length (piece_of bytes j)) old (omega (arith, low, short)) in
    let next : suc j * 3072 ≡ k + 3072 = omega arith in
    ap (λ (l : List ℕ). l ++ piece_of bytes j ++ drop (k + length (piece_of bytes j)) old) front
    ∙ ap (λ (l : List ℕ). take k bytes ++ piece_of bytes j ++ l) none
    ∙ append-nil (take k bytes ++ piece_of bytes j)
    ∙ sym (take-add k 3072 bytes) ∙ ap (λ (n : ℕ). take n bytes) (sym next)

pieces_stand : (form : Form) (files empty new : Files) (path bytes : List ℕ) (number i : ℕ) → Stands files empty (names_of path) number [] → WritesPieces form path bytes i empty new → Stands files new (names_of path) number (take (i * 3072) bytes)
pieces_stand form files empty new path bytes number zero before same = subst (λ (f : Files). Stands files f (names_of path) number []) (sym same) before
pieces_stand form files empty new path bytes number (suc j) before written = on (pieces_stand form files empty mid path bytes number j before written.1) written.2
  where
    mid : Files
    mid = written.0

    on : Stands files mid (names_of path) number (take (j * 3072) bytes) → Writes form (names_of path) (j * 3072) (piece_of bytes j) (Ok tt) mid new → Stands files new (names_of path) number (take (suc j * 3072) bytes)
    on so_far write =
        let at = write.number in
        let file = write.wrote.file in
        let plain = write.wrote.plain in
        let twice : Ok at ≡ Ok number = sym write.led ∙ so_far.led in
        let same : at ≡ number = cc twice in
        let all = overwritten file.bytes (j * 3072) (piece_of bytes j) in
        let keeps = set_keeps mid new at (with_bytes file all) (no_directory mid at file plain) write.wrote.writes.1 in
        let there : file_in new number ≡ with_bytes file all = ap (file_in new) (sym same) ∙ set_there mid new at (with_bytes file all) (below_file mid at file plain.there) write.wrote.writes.1 in
        let was : file_in mid number ≡ Some file = ap (file_in mid) (sym same) ∙ plain.there in
        record {
          keeps = λ from to name step. keeps from to name (so_far.keeps from to name step);
          led = walk_stays mid new keeps root (names_of path) number so_far.led;
          kind = ap kind_of there ∙ sym (ap kind_of was) ∙ so_far.kind;
          bytes_are = ap bytes_of there ∙ piece_behind bytes file.bytes j (sym (ap bytes_of was) ∙ so_far.bytes_are);
        }

put_by : (files new : Files) (path bytes : List ℕ) (number : ℕ) → Stands files new (names_of path) number bytes → IsPut files new path bytes
put_by files new path bytes number stands = record { number = number; led = stands.led; kind = stands.kind; bytes_are = stands.bytes_are; keeps = stands.keeps }

pub copies_hold : CopiesHold
copies_hold form told files new from to path bytes copy put = ⊎_elim few many put
  where
    kinds : (other : ℕ) → walked files root (names_of path) ≡ Ok other → kind_of (file_in files other) ≡ 2
    kinds other led = (subst (λ (r : Result ℕ Refusal). MayTake files copy.number r) led copy.may_take).1

    few : (length bytes ≤ 3072) × PutsFew path bytes told files new → IsPut files new path bytes
    few puts = put_by files new path bytes puts.1.0 (few_stand files new (names_of path) bytes puts.1.0 kinds puts.1.2)

    many : (3072 < length bytes) × ((empty : Files) × PutsFew path [] told files empty × WritesPieces form path bytes (piece_count bytes) empty new) → IsPut files new path bytes
    many puts =
        let empty = puts.1.0 in
        let number = puts.1.1.0 in
        let begun = few_stand files empty (names_of path) [] number kinds puts.1.1.2 in
        let all : take (piece_count bytes * 3072) bytes ≡ bytes = take_all (piece_count bytes * 3072) bytes (omega arith) in
        put_by files new path bytes number (subst (Stands files new (names_of path) number) all (pieces_stand form files empty new path bytes number (piece_count bytes) begun puts.1.2))
