-- What gets a block for another machine, of which it is one more step, gets it for that one.
use Rattle.std.proofs.Common.{◌≡◌, ℕ, refl, sym, ap, ◌∙◌, Option, Some, None}
use Rattle.inodes.specs.Common.{Get, GetsFor, Ghosts, one_more, Progress, progress_of, VolumeState}
use Rattle.wal.specs.Volume.{slot_of}
use Rattle.wal.specs.Get as get

more_get : (a : Get) → (let q : Progress (Option ℕ) = progress_of a in one_more q) ≡ progress_of a
more_get (get.Got i) = refl
more_get (get.Sleeping cause) = refl
more_get (get.Fault fault) = refl

pub gets_more : {D N : Type 0} {disk : Ghosts D N} {v w : VolumeState D} {p b : ℕ} {r : Progress (Option ℕ)} {q : Progress (Unit {0})} {slot : Option ℕ} → q ≡ one_more r → GetsFor disk v p b r slot w → GetsFor disk v p b q slot w
gets_more more gets = record {
  answer = gets.answer;
  gives = more ∙ ap one_more gets.gives ∙ more_get gets.answer;
  slot = gets.slot;
  gets = gets.gets;
  reads = gets.reads;
  locks = gets.locks;
}

-- with a slot it moved
pub got_moves : {D N T : Type 0} {disk : Ghosts D N} {v w : VolumeState D} {p b : ℕ} {r : Progress T} {slot : Option ℕ} → GetsFor disk v p b r slot w → (i : ℕ) → slot ≡ Some i → r ≡ Progress.Moved
got_moves {D} {N} {T} {disk} {v} {w} {p} {b} {r} {slot} gets i is = by_answer gets.answer gets.gives gets.slot
  where
    by_answer : (a : Get) → r ≡ progress_of a → slot ≡ slot_of a → r ≡ Progress.Moved
    by_answer (get.Got j) gives at = gives
    by_answer (get.Sleeping cause) gives at = absurd (let e : None ≡ Some i = sym at ∙ is in cc e)
    by_answer (get.Fault fault) gives at = absurd (let e : None ≡ Some i = sym at ∙ is in cc e)
