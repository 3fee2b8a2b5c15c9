-- What clap says of the values of a command.
use Rattle.std.proofs.Common.{◌≡◌, ◌∙◌, ◌<◌, ◌^◌, ℕ, List, Bool, true, false, Option, Some, None, Result, refl, sym, ap, subst}
use Rattle.std.specs.Prelude.{⊤, codes, MatchOption}
use Rattle.std.specs.Str.Parse.{ExplainsUnsignedError, HasUnsignedDigitsIfOk, ParsesUnsigned, digits_value, without_leading_plus}
use Rattle.std.specs.declared.num.ParseIntError.{ParseIntError}
use Rattle.clap.specs.Words.{ReadsOne, Row, one_text, first_of, first_value, rows_of}
use Rattle.clap.specs.declared.parser.matches.Found.{Found}
use Rattle.clap.proofs.WalkLemmas.{first_value-rows, one_text-rows}
use Rattle.cli.specs.Asking.{HasChoice, HasFlag, HasNumber}

pub some_is_not_none : {A : Type 0} (x : A) → Some x ≡ None → ⊥
some_is_not_none x same = subst (λ o. MatchOption o ⊥ (λ _. ⊤)) same tt

-- the first value of a word
pub value_read : (f : Found) (id text : List ℕ) → Some text ≡ first_value f id
    → first_of id (rows_of f) ≡ Some text
value_read f id text gives = sym (gives ∙ first_value-rows f id)

-- the first value of a word that may be left out
pub path_read : (f : Found) (id : List ℕ) (given : Option (List ℕ)) → given ≡ first_value f id
    → given ≡ first_of id (rows_of f)
path_read f id given gives = gives ∙ first_value-rows f id

-- what clap says of a word that may be given
pub flag_read : (f : Found) (id : List ℕ) (given : Bool) → (one_text f id ≡ None → given ≡ false)
    → (one_text f id ≡ Some (codes "true") → given ≡ true)
    → (one_text f id ≡ Some (codes "false") → given ≡ false) → HasFlag id (rows_of f) given
flag_read f id given none set unset = record {
  set = λ is. set (one_text-rows f id ∙ is);
  unset = λ is. unset (one_text-rows f id ∙ is);
  none = λ is. none (one_text-rows f id ∙ is);
}

-- what clap says of a number that may be left out
abbrev Reads : ℕ → List ℕ → Result ℕ ParseIntError → Type 0
Reads bits t r =
    ParsesUnsigned bits 10 t r × ExplainsUnsignedError 10 t r × HasUnsignedDigitsIfOk t r

module _ (bits : ℕ) (f : Found) (id : List ℕ) where
  read_at : (o : Option (List ℕ)) → one_text f id ≡ o → (n : ℕ) → (o ≡ None → Some n ≡ None)
      → ((t : List ℕ) → o ≡ Some t → ReadsOne (Reads bits) t (Some n)) → HasNumber bits id (rows_of f) n
  read_at None is n none value = absurd (some_is_not_none n (none refl))
  read_at (Some t) is n none value =
      let parsed = (value t refl).0 in
      record {
        text = t;
        word = sym (one_text-rows f id) ∙ is;
        number = record {
          numeral = parsed.0.0;
          value = parsed.1;
          fits = subst (λ (m : ℕ). m < 2 ^ bits) (sym parsed.1) parsed.0.1;
        };
      }

  -- one that was read
  pub number_read : (n : ℕ) → (one_text f id ≡ None → Some n ≡ None)
      → ((t : List ℕ) → one_text f id ≡ Some t → ReadsOne (Reads bits) t (Some n))
      → HasNumber bits id (rows_of f) n
  number_read n none value = read_at (one_text f id) refl n none value

  not_read : ((t : List ℕ) → one_text f id ≡ Some t → ReadsOne (Reads bits) t None) → (n : ℕ)
      → HasNumber bits id (rows_of f) n → ⊥
  not_read value n has =
      let failed = value has.text (one_text-rows f id ∙ has.word) in
      failed.1.0
      (has.number.numeral, subst (λ (m : ℕ). m < 2 ^ bits) has.number.value has.number.fits)

  pub choice_read : (given : Option ℕ) → (one_text f id ≡ None → given ≡ None)
      → ((t : List ℕ) → one_text f id ≡ Some t → ReadsOne (Reads bits) t given)
      → HasChoice bits id (rows_of f) given
  choice_read (Some n) none value = number_read n none value
  choice_read None none value = not_read value

-- a word writes one number
pub number_one : (bits : ℕ) (id : List ℕ) (rows : List Row) (n m : ℕ) → HasNumber bits id rows n
    → HasNumber bits id rows m → n ≡ m
number_one bits id rows n m one two =
    let same : one.text ≡ two.text = cc (sym one.word ∙ two.word) in
    one.number.value ∙ ap (λ (t : List ℕ). digits_value 10 (without_leading_plus t)) same
    ∙ sym two.number.value
