-- How it is told that the check of a script's stops ended.
use Rattle.std.specs.Prelude.{◌+◌, ◌%◌, ◌/◌, ◌==◌, if◌then◌else◌, ℕ, zero, suc, List, [], ◌++◌, Option, Some, None, codes, decimal}
use Rattle.messages.specs.Telling.{Telling, plain}
use Rattle.crash_check.specs.declared.fault.StopsFault.{StopsFault}
use Rattle.crash_check.specs.declared.fault.StopsFault.TheVariants.{Mismatch, NoMemory}
use Rattle.crash_check.specs.declared.mismatch.Cause.{Cause}
use Rattle.crash_check.specs.declared.mismatch.Cause.TheVariants.{File, Unrecovered, Undue, Unopened, OtherRun}
use Rattle.crash_check.specs.declared.mismatch.Choice.{Choice}
use Rattle.crash_check.specs.declared.mismatch.Mismatch.{Mismatch as SomeMismatch}
use Rattle.crash_check.specs.declared.mismatch.Stop.{Stop}
use Rattle.crash_check.specs.declared.mismatch.Stop.TheVariants.{End, Write, Sync}

abbrev pub stops_telling : StopsFault → Telling
stops_telling (Mismatch m) = plain (codes "stops") 1 (codes "Mismatch")
stops_telling NoMemory = plain (codes "stops") 2 (codes "NoMemory")

-- where a run was stopped
abbrev pub stop_text : Stop → List ℕ
stop_text End = codes "in the whole run"
stop_text (Write n) = codes "stopped before write " ++ decimal n
stop_text (Sync n) = codes "stopped at sync " ++ decimal n

-- a held write behind n others, where it got through, which is the lowest bit
abbrev pub mark_text : ℕ → ℕ → List ℕ
mark_text n bits = if bits % 2 == 1 then codes " " ++ decimal (n + 1) else []

-- so many held writes behind n others, of which each bit says whether it got through
abbrev pub marks_text : ℕ → ℕ → ℕ → List ℕ
marks_text n zero bits = []
marks_text n (suc held) bits = mark_text n bits ++ marks_text (n + 1) held (bits / 2)

-- the same, or that there are none
abbrev pub through_text : Choice → List ℕ
through_text c = if c.kept == 0 then codes " none" else marks_text 0 c.held c.kept

-- which of the held writes got through
abbrev pub choice_text : Choice → List ℕ
choice_text c = if c.held == 0 then codes ", no write held"
    else codes ", of " ++ decimal c.held ++ codes " held writes" ++ through_text c
    ++ codes " got through"

-- the same, where writes are held back
abbrev pub held_text : Option Choice → List ℕ
held_text None = []
held_text (Some c) = choice_text c

-- what is not as it has to be
abbrev pub cause_text : Cause → List ℕ
cause_text (File n) = codes "file " ++ decimal n ++ codes " differs from the one that is due"
cause_text Unrecovered = codes "the image can't be recovered"
cause_text Undue = codes "no files are due: a plain run can't give these replies"
cause_text Unopened = codes "the new image can't be opened"
cause_text OtherRun = codes "other writes or syncs were made before that than in the whole run"

-- where a mismatch was met, and what is not as it has to be
abbrev pub mismatch_text : SomeMismatch → List ℕ
mismatch_text m = stop_text m.stop ++ held_text m.choice ++ codes ": " ++ cause_text m.cause
