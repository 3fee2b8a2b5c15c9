-- The words of a schedule name processes that there are.
use Rattle.std.proofs.Common.{◌≡◌, ℕ, ◌-◌, length, take, codes, Bool, true, false, List, [], ◌∷◌, Option, Some, None, nat_lt, ◌&&◌, if◌then◌else◌, option_map, refl, sym, ap, ap₂, ◌∙◌}
use Rattle.std.specs.List.{cons_option, filter_map, list_all}
use Rattle.std.specs.Str.{bytes_eq}
use Rattle.scripts.specs.declared.schedule.Word.{Word}
use Rattle.scripts.specs.declared.schedule.Word.TheVariants.{Step, Steps, Shutdown}
use Rattle.scripts.specs.Number.{number_of}
use Rattle.scripts.specs.Schedule.{ends_marked, if_below, is_word_of, schedule_of, word_of, words_of}

chosen : (of : ℕ → Word) (b : Bool) (processes pid : ℕ) (word : Word) → is_word_of processes (of pid) ≡ b → option_map of (if b then Some pid else None) ≡ Some word → is_word_of processes word ≡ true
chosen of true processes pid word names e =
    let same : of pid ≡ word = cc in
    ap (is_word_of processes) (sym same) ∙ names
chosen of false processes pid word names e = cc

below : (of : ℕ → Word) (processes : ℕ) (o : Option ℕ) (word : Word) → ((p : ℕ) → is_word_of processes (of p) ≡ nat_lt p processes) → option_map of (if_below processes o) ≡ Some word → is_word_of processes word ≡ true
below of processes None word names e = cc
below of processes (Some pid) word names e = chosen of (nat_lt pid processes) processes pid word (names pid) e

shut : (processes : ℕ) (word : Word) → Some Shutdown ≡ Some word → is_word_of processes word ≡ true
shut processes word e =
    let same : Shutdown ≡ word = cc in
    ap (is_word_of processes) (sym same)

by_tests : (s marked : Bool) (processes : ℕ) (one many : Option ℕ) (word : Word) → (if s then Some Shutdown else if marked then option_map Steps (if_below processes many) else option_map Step (if_below processes one)) ≡ Some word
    → is_word_of processes word ≡ true
by_tests true marked processes one many word e = shut processes word e
by_tests false true processes one many word e = below Steps processes many word (λ p. refl) e
by_tests false false processes one many word e = below Step processes one word (λ p. refl) e

word_of-names : (processes : ℕ) (text : List ℕ) (word : Word) → word_of processes text ≡ Some word → is_word_of processes word ≡ true
unfolding word_of
word_of-names processes text word e =
    by_tests (bytes_eq text (codes "S")) (ends_marked text) processes (number_of text) (number_of (take (length text - 1) text)) word e

one_more : (p : Word → Bool) (o : Option Word) (words : List Word) → ((word : Word) → o ≡ Some word → p word ≡ true) → list_all p words ≡ true → list_all p (cons_option o words) ≡ true
one_more p None words one all = all
one_more p (Some word) words one all = ap₂ (λ (a b : Bool). a && b) (one word refl) all

all_named : (processes : ℕ) (texts : List (List ℕ)) → list_all (is_word_of processes) (filter_map (word_of processes) texts) ≡ true
all_named processes [] = refl
all_named processes (text ∷ texts) = one_more (is_word_of processes) (word_of processes text) _ (word_of-names processes text) (all_named processes texts)

-- each word of a schedule names a process that there is, if it names one
pub named : (processes : ℕ) (text : List ℕ) (words : List Word) → words ≡ schedule_of processes text → list_all (is_word_of processes) words ≡ true
named processes text words is = ap (list_all (is_word_of processes)) is ∙ all_named processes (words_of text)
