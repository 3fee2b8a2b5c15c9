-- A caller's ends as contracts see them, and what settling shows.
use Rattle.std.specs.Prelude.{◌≡◌, ◌≤◌, ℕ, List, [], ◌∷◌, ◌++◌, Option, Some, length}
use mathlib.Core.List.{IsPrefix}
use Rattle.rtrb.specs.Ring.{sent, received, known_free, known_items, all_sent}
use Rattle.model.specs.declared.types.operations.Op.{Op}
use Rattle.model.specs.declared.types.operations.Answer.{Answer}
use Rattle.ports.specs.History.{Side, History, nothing_yet}
use Rattle.rings.specs.declared.name.Names.{Names}
use Rattle.rings.specs.declared.caller.Caller.{Caller}
use Rattle.rings.specs.declared.caller.Finished.{Finished}
use Rattle.rings.specs.declared.intake.RingIntake.{RingIntake}
use Rattle.rings.specs.declared.ends.Ends.{Ends}
use Rattle.rings.specs.Rings.{ring_name, ring_names, ring_side, ring_answer_places, RingFits, names_at, ends_history}

-- all operations that the caller submitted, and all answers that it polled
abbrev pub submitted : Caller → List Op
submitted c = sent c.operations

abbrev pub polled : Caller → List Answer
polled c = received c.answers

-- how many places and answers the caller's ends know
abbrev pub places : Caller → ℕ
places c = known_free c.operations

-- the answers that the caller's end knows and has not polled
abbrev pub unpolled : Caller → List Answer
unpolled c = known_items c.answers

abbrev pub answers_known : Caller → ℕ
answers_known c = length (known_items c.answers)

abbrev pub caller_names : Caller → Names
caller_names c = record {
  operations = ring_name c.operations.end;
  answers = ring_name c.answers.end;
}

abbrev pub all_submitted : Finished → List Op
all_submitted f = all_sent f.operations

abbrev pub all_polled : Finished → List Answer
all_polled f = received f.answers

abbrev pub finished_names : Finished → Names
finished_names f = record {
  operations = ring_name f.operations.end;
  answers = ring_name f.answers.end;
}

-- which rings a process of the intake has
abbrev pub intake_names : RingIntake → ℕ → Option Names
intake_names r p = ring_names r.ends.items p

-- how many processes it serves
abbrev pub intake_count : RingIntake → ℕ
intake_count r = length r.ends.items

abbrev pub intake_side : RingIntake → ℕ → Side
intake_side r p = ring_side r.ends.items p

-- how many places the kernel knows to be free for a process's answers
abbrev pub answer_places : RingIntake → ℕ → ℕ
answer_places r p = ring_answer_places r.ends.items p

abbrev pub IntakeFits : RingIntake → ℕ → History → Type 0
IntakeFits r p h = RingFits r.ends.items p h

-- a caller that has done nothing, of this process's rings
pub record IsNewCaller (names : ℕ → Option Names) (p : ℕ) (c : Caller) : Type 0 where
  pub rings : names p ≡ Some (caller_names c)
  pub nothing_submitted : submitted c ≡ []
  pub nothing_polled : polled c ≡ []
  pub all_free : places c ≡ 16

-- Both ends of process p's rings met, where the kernel's were i and are j, and the caller's were c
-- and are d: what was submitted is what was taken and then what is known to wait, and what was given
-- is what was polled and then what the caller knows.
pub record Reconciles (i : RingIntake) (p : ℕ) (c : Caller) (j : RingIntake) (d : Caller) : Type 0 where
  pub taken : (h : History) → IntakeFits i p h → h.taken ++ (intake_side j p).ahead ≡ submitted d
  pub given : (h : History) → IntakeFits i p h → polled d ++ unpolled d ≡ h.given
  pub submitted_stay : submitted d ≡ submitted c
  pub polled_stay : polled d ≡ polled c
  pub places_stay : places c ≤ places d
  pub rings : caller_names d ≡ caller_names c

-- What was submitted is what was taken and then what is left, in order, and what was polled is a
-- beginning of what was given.
pub record Settles (ops : List Op) (answers : List Answer) (left : ℕ) (h : History) : Type 0 where
  pub rest : List Op
  pub order : ops ≡ h.taken ++ rest
  pub count : length rest ≡ left
  pub given : IsPrefix answers h.given

-- the kernel's ends and a caller's of the same rings, through which nothing went
pub record IsNewPair (e : Ends) (c : Caller) : Type 0 where
  pub caller : IsNewCaller (λ _. names_at (Some e)) 0 c
  pub history : ends_history e ≡ nothing_yet
  pub room : known_free e.answers ≡ 16

-- each of the kernel's ends has its new caller
abbrev pub PairUp : List Ends → List Caller → Type 0
PairUp [] [] = Unit {0}
PairUp (e ∷ es) (c ∷ cs) = IsNewPair e c × PairUp es cs
PairUp [] (c ∷ cs) = ⊥
PairUp (e ∷ es) [] = ⊥
