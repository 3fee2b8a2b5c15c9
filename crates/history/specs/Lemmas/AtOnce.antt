-- What is answered at once changes nothing, and depends on nobody's file.
use Rattle.std.proofs.Common.{◌≡◌, ℕ, Bool, true, false, not, cond, ◌||◌, eqb, ltb, List, length, Option, Some, None, refl, sym, ap, ◌∙◌, arith}
use Rattle.history.specs.Common.{after_refusal, answered, both_of, count_stays, Create, Entry, file_in, Files, Follows, Form, Held, is_at_once, is_making, is_number, SetAttribute, ltb-true, ne_eqb, no_file_at, no_file_refusal, NoFile, not-true, number_of, Op, Read, Remove, Stat, TooLong, touches, Trunc, Write, write_refusal, zero_stays}
use Rattle.model.specs.Operations.{after}
use Rattle.history.specs.AtOnce.{at_once_reply}

-- its reply leaves the files
pub at_once_after : (form : Form) (m : Files) (op : Op) → file_in m 0 ≡ None → is_at_once (length m) op ≡ true → after form m op (at_once_reply op) ≡ Some m
unfolding after
at_once_after form m (Create kind) zero h = rw (not-true _ h) refl
at_once_after form m (Write i off bytes) zero h = by_length (ltb 3072 (length bytes)) h
  where
    by_length : (b : Bool) → (b || not (is_number (length m) i)) ≡ true → after_refusal (cond b (Some TooLong) (write_refusal form (file_in m i) off (length bytes))) m (Write i off bytes) (cond b TooLong NoFile) ≡ Some m
    by_length true h = refl
    by_length false h = rw (no_file_at m i zero (not-true _ h)) refl
at_once_after form m (Read i off n) zero h = by_length (ltb 3072 n) h
  where
    by_length : (b : Bool) → (b || not (is_number (length m) i)) ≡ true → after_refusal (cond b (Some TooLong) (no_file_refusal (file_in m i))) m (Read i off n) (cond b TooLong NoFile) ≡ Some m
    by_length true h = refl
    by_length false h = rw (no_file_at m i zero (not-true _ h)) refl
at_once_after form m (Trunc i) zero h = rw (no_file_at m i zero (not-true _ h)) refl
at_once_after form m (Remove i) zero h = rw (no_file_at m i zero (not-true _ h)) refl
at_once_after form m (Stat i) zero h = rw (no_file_at m i zero (not-true _ h)) refl
at_once_after form m (SetAttribute i attribute) zero h = rw (no_file_at m i zero (not-true _ h)) refl

not_that : (n i j : ℕ) → not (is_number n j) ≡ true → is_number n i ≡ true → eqb j i ≡ false
not_that n i j out is = ne_eqb j i (λ same. let t : false ≡ true = sym (not-true (is_number n j) out) ∙ ap (is_number n) same ∙ is in cc t)

not_zero : (n i : ℕ) → is_number n i ≡ true → eqb 0 i ≡ false
not_zero n i is = ne_eqb 0 i (λ same. let low = ltb-true 0 i (both_of (ltb 0 i) (ltb i n) is).0 in omega (arith, same, low))

number_apart : (n i : ℕ) (op : Op) → is_at_once n op ≡ true → is_number n i ≡ true → eqb (number_of op) i ≡ false
number_apart n i (Create kind) h is = not_zero n i is
number_apart n i (Write j off bytes) h is = by_length (ltb 3072 (length bytes)) h
  where
    by_length : (b : Bool) → (b || not (is_number n j)) ≡ true → eqb (cond b 0 j) i ≡ false
    by_length true h = not_zero n i is
    by_length false h = not_that n i j h is
number_apart n i (Read j off k) h is = by_length (ltb 3072 k) h
  where
    by_length : (b : Bool) → (b || not (is_number n j)) ≡ true → eqb (cond b 0 j) i ≡ false
    by_length true h = not_zero n i is
    by_length false h = not_that n i j h is
number_apart n i (Trunc j) h is = not_that n i j h is
number_apart n i (Remove j) h is = not_that n i j h is
number_apart n i (Stat j) h is = not_that n i j h is
number_apart n i (SetAttribute j attribute) h is = not_that n i j h is

-- and makes no number
pub unmade : (i : ℕ) (op : Op) → is_making i (Some (at_once_reply op)) ≡ false
unmade i (Create kind) = refl
unmade i (Write j off bytes) = by_length (ltb 3072 (length bytes))
  where
    by_length : (b : Bool) → is_making i (Some (cond b TooLong NoFile)) ≡ false
    by_length true = refl
    by_length false = refl
unmade i (Read j off k) = by_length (ltb 3072 k)
  where
    by_length : (b : Bool) → is_making i (Some (cond b TooLong NoFile)) ≡ false
    by_length true = refl
    by_length false = refl
unmade i (Trunc j) = refl
unmade i (Remove j) = refl
unmade i (Stat j) = refl
unmade i (SetAttribute j attribute) = refl

-- it has nothing to do with any number that is held
pub at_once_apart : (n i : ℕ) (e : Entry) → is_at_once n e.op ≡ true → e.reply ≡ Some (at_once_reply e.op) → is_number n i ≡ true → touches i e ≡ false
at_once_apart n i e h has is = rw (number_apart n i e.op h is) (ap (is_making i) has ∙ unmade i e.op)

-- and it is a turn that leaves the files
pub at_once_takes : (form : Form) (start : Files) (holds : ℕ → Option Held) (fit : Files → Type 0) (es : List Entry) (f : Follows form start holds fit es) (op : Op) → file_in start 0 ≡ None → is_at_once (length start) op ≡ true
    → after form f.files op (at_once_reply op) ≡ Some f.files
at_once_takes form start holds fit es f op zero h =
    at_once_after form f.files op (zero_stays form start f.files (answered es) zero f.run) (ap (λ (n : ℕ). is_at_once n op) (count_stays form start f.files (answered es) f.run) ∙ h)
