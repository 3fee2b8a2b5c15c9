-- What a replay that nobody printed left, and the files that stops leave.
use Rattle.std.proofs.Common.{◌≡◌, ◌∙◌, ℕ, ◌+◌, ◌<◌, ◌≤◌, Bool, true, false, List, [], ◌∷◌, ◌++◌, length, get_or, drop, Option, Some, Ok, Err, None, inl, inr, refl, sym, ap, subst}
use Rattle.std.specs.Prelude.{IfOk, IsOk, OnOk, Result, unwrap_or}
use Rattle.std.proofs.lemmas.List.{append-nil, append_assoc, at_drop_more, drop_all, drop_more}
use Rattle.blocks.specs.Disk.{Image}
use Rattle.blocks.specs.declared.disk.Disk.{Ghosts}
use Rattle.json_lines.specs.declared.written.Written.{Written}
use Rattle.model.specs.Log.{recovered}
use Rattle.model.specs.Verdict.{verdict}
use Rattle.opening.specs.Recoveries.{IsUnrecovered}
use Rattle.opening.specs.declared.recovering.RecoverRefusal.{RecoverRefusal}
use Rattle.opening.specs.declared.recovering.RecoverRefusal.TheVariants.{Check, Recover}
use Rattle.pictures.specs.Along.{left_along}
use Rattle.pictures.specs.declared.types.FileLine.{FileLine}
use Rattle.pictures.specs.declared.types.FilesThen.{FilesThen}
use Rattle.pictures.specs.declared.types.Moment.{Moment}
use Rattle.player.specs.Disks.{faulty}
use Rattle.player.specs.Opening.{Replays}
use Rattle.player.specs.Told.{HearsTurns, Told, writes_in}
use Rattle.player.specs.declared.replaying.Scenario.{Scenario}
use Rattle.scripts.specs.declared.schedule.Word.{Word}
use Rattle.scripts.specs.declared.script.Task.{Task}
use Rattle.commands_runs.proofs.Recording.{all_heard}
use Rattle.commands_runs.specs.Explored.{stops_from, stops_with}
use Rattle.commands_runs.specs.FileLines.{lines_of}
use Rattle.commands_runs.specs.Filed.{AreFiled, LeavesLines, mute, stops_along, stops_at, wants_then}
use Rattle.commands_runs.specs.Writes.{AreItsWrites, AreWrites, IsOfImage, Kept, MakesWrites, keeping}
use Rattle.commands_runs.specs.declared.changes.Stop.{Stop}
use Rattle.commands_runs.specs.declared.mute.Mute.{Mute}

abbrev hears : Word → Told → Mute → Mute → Type 0
hears word told old new = new.refused ≡ wants_then old.refused told

-- a replay was made, heard of so, and its files read
pub left_so : {D N : Type 0} (below : Ghosts D N) (start left : D) (tasks : List Task) (processes : ℕ) (words : List Word) (write : ℕ) (old new : Option (List ℕ)) (t u : Mute) (lines : List FileLine) →
    t.refused ≡ false → HearsTurns hears words t u (Replays below (faulty below) start left tasks processes words write mute None old new) → u.refused ≡ false →
    lines ≡ lines_of (recovered (below.image left)) → LeavesLines below (below.image start) tasks processes words write lines
left_so below start left tasks processes words write old new t u lines first told served has = record {
  start = start;
  left = left;
  tolds = told.tolds;
  text = old;
  printed = new;
  same = refl;
  replays = told.told;
  served = ap (λ (b : Bool). left_along wants_then b told.tolds) (sym first) ∙ sym (all_heard hears (λ (m : Mute). m.refused) wants_then (λ w one a b h. h) words told.tolds t u told.heard) ∙ served;
  has = has;
}

-- where they were read behind it
pub left_lines : {D N T E V W : Type 0} (items_of : V → List FileLine) (ran : Result T E) (r : Result V W) (below : Ghosts D N) (start left : D) (tasks : List Task) (processes : ℕ) (words : List Word) (write : ℕ) (old new : Option (List ℕ)) (t u : Mute) →
    t.refused ≡ false → OnOk ran (HearsTurns hears words t u (Replays below (faulty below) start left tasks processes words write mute None old new)) → OnOk r (IsOk ran) → OnOk r (u.refused ≡ false) →
    IfOk r (λ v. items_of v ≡ lines_of (recovered (below.image left))) → IfOk r (λ v. LeavesLines below (below.image start) tasks processes words write (items_of v))
left_lines items_of (Ok done) (Ok v) below start left tasks processes words write old new t u first told is_ok served has =
    left_so below start left tasks processes words write old new t u (items_of v) first told served has
left_lines items_of (Err e) (Ok v) below start left tasks processes words write old new t u first told is_ok served has =
    let no : false ≡ true = is_ok in absurd (cc no)
left_lines items_of ran (Err e) below start left tasks processes words write old new t u first told is_ok served has = tt

-- the same of what a scenario has
pub left_of : {D N V W : Type 0} (items_of : V → List FileLine) (r : Result V W) (below : Ghosts D N) (x y : Image) (s : Scenario) (tasks : List Task) (processes : ℕ) (words : List Word) (write : ℕ) →
    x ≡ y → s.tasks.items ≡ tasks → s.processes ≡ processes → s.words.items ≡ words → s.stop ≡ Some write →
    IfOk r (λ v. LeavesLines below x s.tasks.items s.processes s.words.items (unwrap_or s.stop 0) (items_of v)) → IfOk r (λ v. LeavesLines below y tasks processes words write (items_of v))
left_of items_of r below x y s tasks processes words write image ops count turns stop left =
    subst (λ (z : Image). IfOk r (λ v. LeavesLines below z tasks processes words write (items_of v))) image
    (subst (λ (ts : List Task). IfOk r (λ v. LeavesLines below x ts processes words write (items_of v))) ops
    (subst (λ (n : ℕ). IfOk r (λ v. LeavesLines below x s.tasks.items n words write (items_of v))) count
    (subst (λ (ws : List Word). IfOk r (λ v. LeavesLines below x s.tasks.items s.processes ws write (items_of v))) turns
    (subst (λ (o : Option ℕ). IfOk r (λ v. LeavesLines below x s.tasks.items s.processes s.words.items (unwrap_or o 0) (items_of v))) stop left))))

-- ---- the stops, step by step

pub stops_more : (committed : ℕ) (ms : List Moment) (k : ℕ) (d : Moment) (old new whole : List Stop) → k < length ms →
    old ++ stops_along committed (drop k ms) ≡ whole → new ≡ old ++ stops_at committed (get_or ms k d) →
    new ++ stops_along (get_or ms k d).note.committed (drop (k + 1) ms) ≡ whole
stops_more committed ms k d old new whole low before add =
    let m = get_or ms k d in
    let rest = stops_along m.note.committed (drop (k + 1) ms) in
    ap (λ l. l ++ rest) add ∙ append_assoc old (stops_at committed m) rest
    ∙ ap (λ l. old ++ l) (sym (at_drop_more (stops_along committed) ms k d low)) ∙ before

pub stops_all : (committed : ℕ) (ms : List Moment) (k : ℕ) (old whole : List Stop) → length ms ≤ k → old ++ stops_along committed (drop k ms) ≡ whole → old ≡ whole
stops_all committed ms k old whole high before =
    sym (append-nil old) ∙ ap (λ l. old ++ stops_along committed l) (sym (drop_all k ms high)) ∙ before

-- ---- the stops, write by write

pub stops_more_among : (ws : List Written) (k : ℕ) (d : Written) (number : ℕ) (old new whole : List Stop) → k < length ws → number ≡ k + 1 →
    old ++ stops_from (k + 1) (drop k ws) ≡ whole → new ≡ old ++ stops_with number (get_or ws k d) →
    new ++ stops_from ((k + 1) + 1) (drop (k + 1) ws) ≡ whole
stops_more_among ws k d number old new whole low is before add =
    let w = get_or ws k d in
    let rest = stops_from ((k + 1) + 1) (drop (k + 1) ws) in
    ap (λ l. l ++ rest) (add ∙ ap (λ (n : ℕ). old ++ stops_with n w) is) ∙ append_assoc old (stops_with (k + 1) w) rest
    ∙ ap (λ l. old ++ l) (sym (ap (stops_from (k + 1)) (drop_more ws k d low))) ∙ before

pub stops_all_among : (ws : List Written) (k : ℕ) (old whole : List Stop) → length ws ≤ k → old ++ stops_from (k + 1) (drop k ws) ≡ whole → old ≡ whole
stops_all_among ws k old whole high before =
    sym (append-nil old) ∙ ap (λ l. old ++ stops_from (k + 1) l) (sym (drop_all k ws high)) ∙ before

-- ---- the files, stop by stop

pub filed_more : (P : Stop → FilesThen → Type 0) (stops : List Stop) (k : ℕ) (d : Stop) (old new : List FilesThen) (f : FilesThen) → k < length stops →
    ((rest : List FilesThen) → AreFiled P (drop k stops) rest → AreFiled P stops (old ++ rest)) → P (get_or stops k d) f → new ≡ old ++ f ∷ [] →
    (rest : List FilesThen) → AreFiled P (drop (k + 1) stops) rest → AreFiled P stops (new ++ rest)
filed_more P stops k d old new f low before one add rest more =
    subst (λ (l : List FilesThen). AreFiled P stops l) (sym (append_assoc old (f ∷ []) rest) ∙ sym (ap (λ l. l ++ rest) add))
    (before (f ∷ rest) (subst (λ (ss : List Stop). AreFiled P ss (f ∷ rest)) (sym (drop_more stops k d low)) (one, more)))

pub filed_all : (P : Stop → FilesThen → Type 0) (stops : List Stop) (k : ℕ) (files : List FilesThen) → length stops ≤ k →
    ((rest : List FilesThen) → AreFiled P (drop k stops) rest → AreFiled P stops (files ++ rest)) → AreFiled P stops files
filed_all P stops k files high before =
    subst (λ (l : List FilesThen). AreFiled P stops l) (append-nil files)
    (before [] (subst (λ (ss : List Stop). AreFiled P ss []) (sym (drop_all k stops high)) tt))

-- ---- what a replay wrote

-- its writes were had behind it
pub left_writes : {D N T E V W : Type 0} (items_of : V → List Written) (ran : Result T E) (r : Result V W) (below : Ghosts D N) (x : Image) (start left : Kept D) (tasks : List Task) (processes : ℕ) (words : List Word) (stop : ℕ) (old new : Option (List ℕ)) (t u : Mute) →
    t.refused ≡ false → start.first ≡ start.disk → below.image start.disk ≡ x → left.first ≡ start.first →
    OnOk ran (HearsTurns hears words t u (Replays (keeping below) (faulty (keeping below)) start left tasks processes words stop mute None old new)) → OnOk r (IsOk ran) → OnOk r (u.refused ≡ false) →
    IfOk r (λ v. AreWrites below left.first left.disk (items_of v)) → IfOk r (λ v. MakesWrites below x tasks processes words stop (items_of v))
left_writes items_of (Ok done) (Ok v) below x start left tasks processes words stop old new t u first begun same kept told is_ok served has = record {
  start = start;
  left = left;
  tolds = told.tolds;
  text = old;
  printed = new;
  begun = begun;
  same = same;
  replays = told.told;
  served = ap (λ (b : Bool). left_along wants_then b told.tolds) (sym first) ∙ sym (all_heard hears (λ (m : Mute). m.refused) wants_then (λ w one a b h. h) words told.tolds t u told.heard) ∙ served;
  has = subst (λ d. AreWrites below d left.disk (items_of v)) (kept ∙ begun) has;
}
left_writes items_of (Err e) (Ok v) below x start left tasks processes words stop old new t u first begun same kept told is_ok served has =
    let no : false ≡ true = is_ok in absurd (cc no)
left_writes items_of ran (Err e) below x start left tasks processes words stop old new t u first begun same kept told is_ok served has = tt

-- of the image it is that it isn't recovered, only where that has a fault
pub faulty_image : {D N : Type 0} (disk : Ghosts D N) (d e : D) (refusal : RecoverRefusal) → IsUnrecovered disk d e refusal → IsOfImage refusal → verdict (disk.image d) ≡ None → ⊥
faulty_image disk d e (Check fault) (inl why, same) of none = let no : Some fault ≡ None = sym why ∙ none in absurd (cc no)
faulty_image disk d e (Check fault) (inr (inl why), same) of none = absurd (subst (λ f. IsOfImage (Check f)) why.0 of)
faulty_image disk d e (Check fault) (inr (inr why), same) of none = absurd (subst (λ f. IsOfImage (Check f)) why of)
faulty_image disk d e (Recover fault) why of none = of

-- where it isn't recovered for that, nothing is said of what it writes
pub none_made : {D N V W : Type 0} (r : Result V W) (disk : Ghosts D N) (d e : D) (refusal : RecoverRefusal) (P : V → Type 0) → IsUnrecovered disk d e refusal → OnOk r (IsOfImage refusal) → IfOk r (λ v. verdict (disk.image d) ≡ None → P v)
none_made (Ok v) disk d e refusal P why of = λ none. absurd (faulty_image disk d e refusal why of none)
none_made (Err refused) disk d e refusal P why of = tt

-- what is so of its writes over one image is so over the same, where that has no fault
pub made_so : {V W : Type 0} (r : Result V W) (Q : Type 0) (P : Image → V → Type 0) (x y : Image) → x ≡ y → IfOk r (P x) → IfOk r (λ v. Q → P y v)
made_so (Ok v) Q P x y same so = λ q. subst (λ (z : Image). P z v) same so
made_so (Err refused) Q P x y same so = tt

-- the same of what a scenario has
pub writes_of_scenario : {D N V W : Type 0} (items_of : V → List Written) (r : Result V W) (below : Ghosts D N) (x y : Image) (s : Scenario) (tasks : List Task) (processes : ℕ) (words : List Word) (stop : Option ℕ) →
    x ≡ y → s.tasks.items ≡ tasks → s.processes ≡ processes → s.words.items ≡ words → s.stop ≡ stop →
    IfOk r (λ v. verdict x ≡ None → MakesWrites below (recovered x) s.tasks.items s.processes s.words.items (unwrap_or s.stop 0) (items_of v)) →
    IfOk r (λ v. verdict y ≡ None → MakesWrites below (recovered y) tasks processes words (unwrap_or stop 0) (items_of v))
writes_of_scenario items_of r below x y s tasks processes words stop image ops count turns stops made =
    subst (λ (z : Image). IfOk r (λ v. verdict z ≡ None → MakesWrites below (recovered z) tasks processes words (unwrap_or stop 0) (items_of v))) image
    (subst (λ (ts : List Task). IfOk r (λ v. verdict x ≡ None → MakesWrites below (recovered x) ts processes words (unwrap_or stop 0) (items_of v))) ops
    (subst (λ (n : ℕ). IfOk r (λ v. verdict x ≡ None → MakesWrites below (recovered x) s.tasks.items n words (unwrap_or stop 0) (items_of v))) count
    (subst (λ (ws : List Word). IfOk r (λ v. verdict x ≡ None → MakesWrites below (recovered x) s.tasks.items s.processes ws (unwrap_or stop 0) (items_of v))) turns
    (subst (λ (o : Option ℕ). IfOk r (λ v. verdict x ≡ None → MakesWrites below (recovered x) s.tasks.items s.processes s.words.items (unwrap_or o 0) (items_of v))) stops made))))

-- where they were had, what is so of them is so of those that are there
pub writes_had : {V E : Type 0} (r : Result V E) (items_of : V → List Written) (P : List Written → Type 0) → IsOk r → IfOk r (λ v. P (items_of v)) → P (writes_in r items_of)
writes_had (Ok v) items_of P is_ok so = so
writes_had (Err e) items_of P is_ok so = let no : false ≡ true = is_ok in absurd (cc no)

-- The same of writes over an image that is another's, and of a stop that is another: they are those that
-- were asked for.
pub writes_asked : {V E : Type 0} (r : Result V E) (items_of : V → List Written) (holds : Bool) (x y : Image) (tasks : List Task) (processes : ℕ) (words : List Word) (stop asked : Option ℕ) →
    x ≡ y → stop ≡ asked → IsOk r → IfOk r (λ v. AreItsWrites holds x tasks processes words (unwrap_or stop 0) (items_of v)) →
    AreItsWrites holds y tasks processes words (unwrap_or asked 0) (writes_in r items_of)
writes_asked r items_of holds x y tasks processes words stop asked same stops is_ok so =
    subst (λ (z : Image). AreItsWrites holds z tasks processes words (unwrap_or asked 0) (writes_in r items_of)) same
    (subst (λ (o : Option ℕ). AreItsWrites holds x tasks processes words (unwrap_or o 0) (writes_in r items_of)) stops
    (writes_had r items_of (AreItsWrites holds x tasks processes words (unwrap_or stop 0)) is_ok so))
