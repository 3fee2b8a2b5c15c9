-- The laws of a session's disk.
use Rattle.std.specs.Prelude.{◌≡◌, ◌<◌, ℕ, Bool, true, false, List, [], ◌∷◌, length, refl}
use Rattle.std.proofs.Common.{suc, inl, inr, ⊎_elim, subst, sym, arith}
use Rattle.std.proofs.lemmas.List.{ext_get_or}
use Rattle.blocks.specs.Block.{IsBlock}
use Rattle.blocks.specs.Disk.{Image, IsImage, IsSettled, block_at}
use Rattle.sessions.specs.Held.{HaveBlock, IsMix, IsWhole, LeftSince, MayLeave, WereWhole, since_sync}
use Rattle.sessions.specs.Track.{Call, moment_of}

-- each call takes time
pub takes_time : (call : Call) (cs : List Call) → moment_of cs < moment_of (call ∷ cs)
takes_time (z, true) cs = omega arith
takes_time (z, false) cs = omega arith

-- what a stop may leave from now on it may leave now
pub only_left : (holds : Bool) (y : Image) (cs : List Call) (x : Image) → LeftSince holds y cs (moment_of cs) x → MayLeave holds y cs x
only_left holds y [] x left = left
only_left holds y (call ∷ cs) x (inl may) = may
only_left holds y (call ∷ cs) x (inr was) = let later = takes_time call cs in absurd (omega (arith, later, was.0))

pub now_left : (holds : Bool) (y : Image) (cs : List Call) (t : ℕ) (x : Image) → MayLeave holds y cs x → LeftSince holds y cs t x
now_left holds y [] t x may = may
now_left holds y (call ∷ cs) t x may = inl may

pub left_later : (holds : Bool) (y : Image) (cs : List Call) (t : ℕ) (x : Image) → LeftSince holds y cs (moment_of cs) x → LeftSince holds y cs t x
left_later holds y cs t x left = now_left holds y cs t x (only_left holds y cs x left)

-- it may leave the image of now
pub mix_itself : (y : Image) (older : List Image) → IsMix y older y
mix_itself y older = record { size = refl; each = λ b. inl refl }

pub left_now : (holds : Bool) (y : Image) (cs : List Call) → LeftSince holds y cs (moment_of cs) y
left_now holds y cs = now_left holds y cs (moment_of cs) y (mix_itself y (since_sync holds cs))

-- and nothing else where there was no other since the last sync
pub mix_alone : (y x : Image) → IsMix y [] x → x ≡ y
mix_alone y x mix = ext_get_or [] x y mix.size (λ b lt. ⊎_elim (λ same. same) (λ none. absurd none) (mix.each b))

pub left_alone : (holds : Bool) (y : Image) (cs : List Call) → holds ≡ false → IsSettled y (LeftSince holds y cs (moment_of cs))
left_alone holds y cs free x left =
    mix_alone y x (subst (λ (h : Bool). MayLeave h y cs x) free (only_left holds y cs x left))

-- each image that a stop may leave has whole blocks
were_older : (size : ℕ) (call : Call) (cs : List Call) → WereWhole size (call ∷ cs) → WereWhole size cs
were_older size call cs were k lt = were (suc k) (omega (arith, lt))

was_first : (size : ℕ) (call : Call) (cs : List Call) → WereWhole size (call ∷ cs) → IsWhole size call.0
was_first size call cs were = were 0 (omega arith)

older_block : (size : ℕ) (cs : List Call) (b : ℕ) (bytes : List ℕ) → WereWhole size cs → b < size → HaveBlock (since_sync true cs) b bytes → IsBlock bytes
older_block size [] b bytes were lt has = absurd has
older_block size ((z, true) ∷ cs) b bytes were lt has = absurd has
older_block size ((z, false) ∷ cs) b bytes were lt (inl is) =
    let whole = was_first size (z, false) cs were in
    subst IsBlock (sym is) (whole.image b (omega (arith, lt, whole.size_is)))
older_block size ((z, false) ∷ cs) b bytes were lt (inr older) = older_block size cs b bytes (were_older size (z, false) cs were) lt older

held_block : (holds : Bool) (size : ℕ) (cs : List Call) (b : ℕ) (bytes : List ℕ) → WereWhole size cs → b < size → HaveBlock (since_sync holds cs) b bytes → IsBlock bytes
held_block false size cs b bytes were lt has = absurd has
held_block true size cs b bytes were lt has = older_block size cs b bytes were lt has

may_whole : (holds : Bool) (y : Image) (cs : List Call) → IsImage y → WereWhole (length y) cs → (x : Image) → MayLeave holds y cs x → IsImage x
may_whole holds y cs image were x may b lt =
    let inside : b < length y = omega (arith, lt, may.size) in
    ⊎_elim (λ same. subst IsBlock (sym same) (image b inside)) (λ older. held_block holds (length y) cs b (block_at x b) were inside older) (may.each b)

pub left_whole : (holds : Bool) (y : Image) (cs : List Call) → IsImage y → WereWhole (length y) cs → (t : ℕ) (x : Image) → LeftSince holds y cs t x → IsImage x
left_whole holds y [] image were t x left = may_whole holds y [] image were x left
left_whole holds y (call ∷ cs) image were t x (inl may) = may_whole holds y (call ∷ cs) image were x may
left_whole holds y (call ∷ cs) image were t x (inr was) =
    let first = was_first (length y) call cs were in
    left_whole holds call.0 cs first.image (subst (λ (n : ℕ). WereWhole n cs) (sym first.size_is) (were_older (length y) call cs were)) t x was.1
