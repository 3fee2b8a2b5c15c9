-- Turns whose steps are noted, and who hears of them.
use Rattle.std.proofs.Common.{◌≡◌, ℕ, ◌<◌, zero, suc, true, false, Bool, ◌||◌, List, [], ◌∷◌, ◌++◌, length, take, append-nil, refl, sym, ◌∙◌, ap, subst, Option, arith}
use Rattle.std.specs.Prelude.{flat_map}
use Rattle.blocks.specs.declared.disk.Disk.{Ghosts}
use Rattle.blocks.specs.declared.faulty.Trap.{Trap}
use Rattle.blocks.specs.declared.faulty.FaultyDisk.{FaultyDisk}
use Rattle.model.specs.Layout.{form_of}
use Rattle.model.specs.declared.types.operations.Step.{Step}
use Rattle.kernel.specs.Moves.{Moves, MakesSteps}
use Rattle.kernel.specs.Lemmas.Moves.{most_bound, moves_few, stops}
use Rattle.kernel.specs.Steps.{MakesStep}
use Rattle.scripts.specs.declared.schedule.Word.{Word}
use Rattle.scripts.specs.declared.schedule.Word.TheVariants as word
use Rattle.messages.specs.declared.deeds.Detail.{Detail}
use Rattle.messages.specs.declared.deeds.StepNote.{StepNote}
use Rattle.messages.specs.declared.events.Event.{Event}
use Rattle.messages.specs.Deeds.{note_text}
use Rattle.messages.specs.Events.{event_line, is_last}
use Rattle.player.specs.declared.noting.Base.{Base}
use Rattle.player.specs.declared.player.Player.{Player}
use Rattle.player.specs.Stepping.{BreaksOff, MakesRingedStep, MakesTurn, MakesTurnOf, MakesTurns, Ringed, board_herald, ring_ends}
use Rattle.player.specs.Told.{HearsTurns, NotesAll, NotesMoves, NotesOne, PlaysTo, TellsTurn, TellsTurns, Told, is_last_told, no_detail, note_of, tells_steps, told_text}
use Rattle.player.specs.Turns.{IfLast, Turns}
use Rattle.player.proofs.Plays.{Part, Played, turns_seen}
use Rattle.player.proofs.Steps.{one_turn}

-- ---- the steps of a turn

module _ {D N : Type 0} (disk : Ghosts D N) (base : Base) (p : ℕ) where
  -- one step more that moves
  pub noted_more : (notes : List StepNote) (note : StepNote) (k m next : Ringed D) → NotesMoves disk base p notes k m → MakesRingedStep disk p Step.Moved m next → note ≡ note_of disk base p Step.Moved m next
      → NotesMoves disk base p (notes ++ note ∷ []) k next
  noted_more [] note k m next is made same =
      subst (λ (o : Ringed D). NotesMoves disk base p (note ∷ []) o next) is (next, made, same, refl)
  noted_more (first ∷ notes) note k m next (mid, was, told, moves) made same = (mid, was, told, noted_more notes note mid m next moves made same)

  -- as many steps as there are notes
  pub noted_count : (notes : List StepNote) (k m : Ringed D) → NotesMoves disk base p notes k m → (n : ℕ) × (n ≡ length notes) × Moves (MakesStep disk ring_ends board_herald p) n k m
  unfolding Moves
  noted_count [] k m is = (0, refl, is)
  noted_count (first ∷ notes) k m (mid, was, told, moves) =
      let rest = noted_count notes mid m moves in
      (suc rest.0, ap suc rest.1, (mid, was, rest.2))

  -- which are fewer than an operation may have
  pub noted_few : (notes : List StepNote) (k m : Ringed D) → NotesMoves disk base p notes k m → length notes < 40000
  noted_few notes k m moves =
      let all = noted_count notes k m moves in
      let few = moves_few disk ring_ends board_herald p all.0 k m all.2 in
      let most = most_bound (form_of (disk.image k.opening)) in
      omega (arith, few, most, all.1)

  -- steps up to one that doesn't move
  pub all_made : (notes : List StepNote) (r : Step) (k m : Ringed D) → NotesAll disk base p notes r k m → MakesSteps disk ring_ends board_herald p r k m
  all_made notes r k m all =
      let count = noted_count all.before k all.mid all.moves in
      stops disk ring_ends board_herald p count.0 r k all.mid m count.2 all.made all.last

  -- steps that move, as they would be noted
  pub moves_noted : (count : ℕ) (k m : Ringed D) → Moves (MakesStep disk ring_ends board_herald p) count k m → (notes : List StepNote) × NotesMoves disk base p notes k m
  unfolding Moves
  moves_noted zero k m is = ([], is)
  moves_noted (suc count) k m (mid, was, moves) =
      let rest = moves_noted count mid m moves in
      (note_of disk base p Step.Moved k mid ∷ rest.0, (mid, was, refl, rest.1))

-- ---- the turns

pub events_of : List Told → List Event
events_of [] = []
events_of (told ∷ tolds) = told.event ∷ events_of tolds

module _ {D N : Type 0} (disk : Ghosts (FaultyDisk D) (N × Trap)) (base : Base) (stop : ℕ) where
  turn_as : (makes does : Step → Ringed (FaultyDisk D) → Ringed (FaultyDisk D) → Type 0) (p : ℕ) (event : Event) (old new : Player D N) (turn : MakesTurnOf makes stop p event old new) → does turn.answer turn.handed turn.stepped → MakesTurnOf does stop p event old new
  turn_as makes does p event old new turn steps =
      one_turn does stop p event old new turn.handed turn.stepped turn.feeders turn.answer turn.polled turn.hands_in steps turn.polls turn.tells turn.watch

  -- a turn that is told is a turn
  pub turn_made : (w : Word) (told : Told) (old new : Player D N) → TellsTurn disk base stop w told old new → MakesTurn disk stop w told.event old new
  turn_made (word.Step p) told old new turn = turn_as _ (MakesRingedStep disk p) p told.event old new turn turn.steps.made
  turn_made (word.Steps p) told old new turn = turn_as _ (MakesSteps disk ring_ends board_herald p) p told.event old new turn (all_made disk base p told.notes turn.answer turn.handed turn.stepped turn.steps)
  turn_made word.Shutdown told old new turn = turn.1

  -- and a turn may be told
  pub turn_noted : (w : Word) (event : Event) (old new : Player D N) → MakesTurn disk stop w event old new → (notes : List StepNote) × TellsTurn disk base stop w (record { event = event; notes = notes }) old new
  turn_noted (word.Step p) event old new turn =
      let notes = note_of disk base p turn.answer turn.handed turn.stepped ∷ [] in
      (notes, turn_as _ (NotesOne disk base p notes) p event old new turn (record { made = turn.steps; note = refl }))
  turn_noted (word.Steps p) event old new turn =
      let before = moves_noted disk base p turn.steps.moved turn.handed turn.steps.mid turn.steps.moves in
      let notes = before.0 ++ note_of disk base p turn.answer turn.steps.mid turn.stepped ∷ [] in
      (notes, turn_as _ (NotesAll disk base p notes) p event old new turn (record { before = before.0; mid = turn.steps.mid; moves = before.1; made = turn.steps.made; last = turn.steps.last; all = refl }))
  turn_noted word.Shutdown event old new turn = ([], (refl, turn))

  -- and so are turns
  pub turns_made : (words : List Word) (tolds : List Told) (old new : Player D N) → TellsTurns disk base stop words tolds old new → MakesTurns disk stop words (events_of tolds) old new
  unfolding events_of
  turns_made [] tolds old new makes = subst (λ (ts : List Told). (events_of ts ≡ []) × (new ≡ old)) (sym makes.0) (refl, makes.1)
  turns_made (w ∷ words) [] old new makes = absurd makes
  turns_made (w ∷ words) (told ∷ tolds) old new (mid, turn, rest) = (mid, turn_made w told old mid turn, on (is_last told.event) (λ more. turns_made words tolds mid new more) rest)
    where
      on : (b : Bool) → (TellsTurns disk base stop words tolds mid new → MakesTurns disk stop words (events_of tolds) mid new) → IfLast b ((tolds ≡ []) × (new ≡ mid)) (TellsTurns disk base stop words tolds mid new) → IfLast b ((events_of tolds ≡ []) × (new ≡ mid)) (MakesTurns disk stop words (events_of tolds) mid new)
      on true go ends = (ap events_of ends.0, ends.1)
      on false go more = go more

-- ---- who hears of turns

-- the line of a turn alone is what is told of it with no detail
pub line_alone : (n : ℕ) (told : Told) → told_text no_detail n told ≡ event_line told.event
line_alone n told = ap (λ (xs : List ℕ). event_line told.event ++ xs) (no_notes told.notes) ∙ append-nil (event_line told.event)
  where
    no_notes : (notes : List StepNote) → flat_map (note_text no_detail n) notes ≡ []
    no_notes [] = refl
    no_notes (note ∷ notes) = no_notes notes

-- where nothing is told of steps
pub none_told : (detail : Detail) → tells_steps detail ≡ false → no_detail ≡ detail
none_told detail = by_flags detail.steps detail.writes
  where
    by_flags : (steps writes : Bool) → (steps || writes) ≡ false → no_detail ≡ record { steps = steps; writes = writes }
    by_flags false false none = refl
    by_flags false true none = absurd (cc none)
    by_flags true writes none = absurd (cc none)

module _ {D N T : Type 0} (disk : Ghosts (FaultyDisk D) (N × Trap)) (base : Base) (stop : ℕ) (hears : Word → Told → T → T → Type 0) where
  -- the turn of a word, which is heard of
  abbrev pub Both : Word → Told → (Player D N × T) → (Player D N × T) → Type 0
  Both w told old new = TellsTurn disk base stop w told old.0 new.0 × hears w told old.1 new.1

  module _ (words : List Word) (old new : Player D N) (t u : T) where
    tells : (ws : List Word) (tolds : List Told) → Turns is_last_told Both ws tolds (old, t) (new, u) → TellsTurns disk base stop ws tolds old new
    tells ws tolds makes = turns_seen is_last_told Both (TellsTurn disk base stop) (λ s. s.0) (λ w told a b both. both.0) ws tolds (old, t) (new, u) makes

    pub all_heard : (says : Told → List ℕ) (text printed : Option (List ℕ)) → Played is_last_told Both says words (old, t) (new, u) text printed → HearsTurns hears words t u (PlaysTo disk base stop says words old new text printed)
    all_heard says text printed played = record {
      tolds = played.came;
      told = record { makes = tells words played.came played.makes; lines = played.lines };
      heard = turns_seen is_last_told Both hears (λ s. s.1) (λ w told a b both. both.1) words played.came (old, t) (new, u) played.makes;
    }

    pub part_made : Part is_last_told Both words (old, t) (new, u) → BreaksOff disk stop words old new
    part_made part = record {
      count = part.count;
      events = events_of part.came;
      makes = turns_made disk base stop (take part.count words) part.came old new (tells (take part.count words) part.came part.makes);
    }
