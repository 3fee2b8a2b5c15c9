-- A text of which no more was read than its limit and one byte.
use Rattle.std.proofs.Common.{◌≡◌, ◌⊎◌, ◌∙◌, ℕ, ◌+◌, true, List, take, length, sym, ap, subst, inl, inr, ⊎_elim, arith, nat_lt, Option, Some, None, Ok, Err}
use Rattle.std.specs.Prelude.{Result, IfErr, IfOk, IfSome, min, if◌then◌else◌}
use Rattle.std.proofs.lemmas.Bool.{cases_lt}
use Rattle.std.proofs.lemmas.Bool.Decides.{nat_tests}
use Rattle.std.proofs.lemmas.List.{length-take, take_all}
use Rattle.scripts.specs.declared.script.Task.{Task}
use Rattle.scripts.specs.declared.script.ScriptFault.{ScriptFault}
use Rattle.scripts.specs.declared.script.ScriptFault.TheVariants as script_is
use Rattle.scripts.specs.declared.schedule.ScheduleFault.{ScheduleFault}
use Rattle.scripts.specs.declared.schedule.ScheduleFault.TheVariants as schedule_is
use Rattle.scripts.specs.declared.schedule.Word.{Word}
use Rattle.scripts.specs.Script.{fault_in_lines, fault_of, tasks_of}
use Rattle.scripts.specs.Schedule.{fault_of as fault_of_schedule, fault_in_words, schedule_of}
use Rattle.scripts.specs.Readers.{GivesNoSchedule, GivesNoScript, GivesSchedule, GivesScript, IsUnread, IsUnreadScript}

-- what was read is all, or it and all are over the limit
within_or_over : (text : List ℕ) (limit n : ℕ) → n ≡ limit + 1 → (take n text ≡ text) ⊎ ((nat_lt limit (length (take n text)) ≡ true) × (nat_lt limit (length text) ≡ true))
within_or_over text limit n more =
    let size : length (take n text) ≡ min n (length text) = length-take n text in
    ⊎_elim (λ over. inr (grind (arith, nat_tests, size, more, over), grind (arith, nat_tests, over))) (λ low. inl (take_all n text (omega (arith, low, more)))) (cases_lt limit (length text))

-- a text that has no fault, of which a text over the limit has one, is all
whole : {F : Type 0} (f : List ℕ → Option F) (large : F) (limit n : ℕ) (left : Option (List ℕ)) (text : List ℕ) → ((t : List ℕ) → nat_lt limit (length t) ≡ true → f t ≡ Some large) → n ≡ limit + 1
    → IfSome left (λ all. text ≡ take n all) → f text ≡ None → IfSome left (λ all. all ≡ text)
whole f large limit n None text over more read sound = tt
whole f large limit n (Some all) text over more read sound =
    ⊎_elim (λ same. sym (read ∙ same)) (λ beyond. let large_text : f text ≡ Some large = ap f read ∙ over (take n all) beyond.0 in cc) (within_or_over all limit n more)

-- the fault of a text is that of all
same_fault : {F : Type 0} (f : List ℕ → Option F) (large fault : F) (limit n : ℕ) (left : Option (List ℕ)) (text : List ℕ) → ((t : List ℕ) → nat_lt limit (length t) ≡ true → f t ≡ Some large) → n ≡ limit + 1
    → IfSome left (λ all. text ≡ take n all) → f text ≡ Some fault → IfSome left (λ all. f all ≡ Some fault)
same_fault f large fault limit n None text over more read found = tt
same_fault f large fault limit n (Some all) text over more read found =
    ⊎_elim (λ same. sym (ap f (read ∙ same)) ∙ found) (λ beyond. over all beyond.1 ∙ sym (over (take n all) beyond.0) ∙ sym (ap f read) ∙ found) (within_or_over all limit n more)

over_script : (text : List ℕ) → nat_lt 4194304 (length text) ≡ true → fault_of text ≡ Some script_is.TooLarge
over_script text over =
    ap (λ b. if b then Some script_is.TooLarge else fault_in_lines text) over

over_schedule : (processes : ℕ) (text : List ℕ) → nat_lt 1048576 (length text) ≡ true → fault_of_schedule processes text ≡ Some schedule_is.TooLarge
over_schedule processes text over = ap (λ b. if b then Some schedule_is.TooLarge else fault_in_words processes text) over

pub script_read : {T : Type 0} (items : T → List Task) (r : Result T ScriptFault) (left : Option (List ℕ)) (text : List ℕ) (n : ℕ) → n ≡ 4194304 + 1 → IfSome left (λ all. text ≡ take n all)
    → IfOk r (λ tasks. items tasks ≡ tasks_of text) → IfOk r (λ tasks. fault_of text ≡ None) → IfOk r (λ tasks. GivesScript left (items tasks))
script_read items (Ok tasks) left text n more read are sound = (text, (sound, are), whole fault_of script_is.TooLarge 4194304 n left text over_script more read sound)
script_read items (Err fault) left text n more read are sound = tt

pub script_refused : {T : Type 0} (r : Result T ScriptFault) (left : Option (List ℕ)) (text : List ℕ) (n : ℕ) → n ≡ 4194304 + 1 → IfSome left (λ all. text ≡ take n all)
    → IfErr r (λ fault. (fault ≡ script_is.NoMemory) ⊎ (fault_of text ≡ Some fault)) → IfErr r (GivesNoScript left)
script_refused (Ok tasks) left text n more read why = tt
script_refused (Err fault) left text n more read why =
    ⊎_elim (λ memory. inl (subst IsUnreadScript (sym memory) tt)) (λ found. inr (text, found, same_fault fault_of script_is.TooLarge fault 4194304 n left text over_script more read found)) why

pub schedule_read : {T : Type 0} (items : T → List Word) (processes : ℕ) (r : Result T ScheduleFault) (left : Option (List ℕ)) (text : List ℕ) (n : ℕ) → n ≡ 1048576 + 1 → IfSome left (λ all. text ≡ take n all)
    → IfOk r (λ words. items words ≡ schedule_of processes text) → IfOk r (λ words. fault_of_schedule processes text ≡ None) → IfOk r (λ words. GivesSchedule processes left (items words))
schedule_read items processes (Ok words) left text n more read are sound = (text, (sound, are), whole (fault_of_schedule processes) schedule_is.TooLarge 1048576 n left text (over_schedule processes) more read sound)
schedule_read items processes (Err fault) left text n more read are sound = tt

pub schedule_refused : {T : Type 0} (processes : ℕ) (r : Result T ScheduleFault) (left : Option (List ℕ)) (text : List ℕ) (n : ℕ) → n ≡ 1048576 + 1 → IfSome left (λ all. text ≡ take n all)
    → IfErr r (λ fault. (fault ≡ schedule_is.NoMemory) ⊎ (fault_of_schedule processes text ≡ Some fault)) → IfErr r (GivesNoSchedule processes left)
schedule_refused processes (Ok words) left text n more read why = tt
schedule_refused processes (Err fault) left text n more read why =
    ⊎_elim (λ memory. inl (subst IsUnread (sym memory) tt)) (λ found. inr (text, found, same_fault (fault_of_schedule processes) schedule_is.TooLarge fault 1048576 n left text (over_schedule processes) more read found)) why
