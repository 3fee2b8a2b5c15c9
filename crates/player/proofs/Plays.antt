-- The turns of a schedule's first words, with what is printed of each.
use Rattle.std.proofs.Common.{◌≡◌, ℕ, ◌+◌, ◌<◌, true, false, Bool, List, [], ◌∷◌, ◌++◌, length, take, drop, refl, arith, sym, ◌∙◌, ap, subst, append_assoc, append-nil, drop-cons, add-one, get_or, Option}
use Rattle.std.specs.Prelude.{flat_map}
use Rattle.std.specs.Io.KnownBytes.{Appends}
use Rattle.std.proofs.lemmas.List.{flat_map_more, take_more, take-append-drop, take_all}
use Rattle.std.proofs.KnownBytes.{Appends-nil, Appends-trans}
use Rattle.scripts.specs.declared.schedule.Word.{Word}
use Rattle.player.specs.Turns.{IfLast, Turns}

-- the next word
pub next_word : (words : List Word) (k : ℕ) (default : Word) → k < length words → drop k words ≡ get_or words k default ∷ drop (k + 1) words
next_word words k default within = drop-cons words k default within ∙ ap (λ n. get_or words k default ∷ drop n words) (sym (add-one k))

-- one word more
pub one_more : (words : List Word) (k : ℕ) (word : Word) → k < length words → drop k words ≡ word ∷ drop (k + 1) words → take (k + 1) words ≡ take k words ++ word ∷ []
one_more words k word within left =
    take_more words k word within ∙ ap (λ (w : Word). take k words ++ w ∷ []) (first_of (get_or words k word) word (drop (k + 1) words) (sym (next_word words k word within) ∙ left))
  where
    first_of : (v w : Word) (rest : List Word) → v ∷ rest ≡ w ∷ rest → v ≡ w
    first_of v w rest is = cc is

module _ {S E : Type 0} (last : E → Bool) (does : Word → E → S → S → Type 0) where
  -- one turn, which may be the last
  turn_alone : (word : Word) (one : E) (now next : S) → does word one now next → Turns last does (word ∷ []) (one ∷ []) now next
  turn_alone word one now next turn = (next, turn, on (last one))
    where
      none : List E
      none = []

      on : (b : Bool) → IfLast b ((none ≡ []) × (next ≡ next)) (Turns last does [] none next next)
      on true = (refl, refl)
      on false = (refl, refl)

-- the turns of the first of these words made new of old
pub record Part {S E : Type 0} (last : E → Bool) (does : Word → E → S → S → Type 0) (words : List Word) (old new : S) : Type 0 where
  pub count : ℕ
  pub came : List E
  pub makes : Turns last does (take count words) came old new

-- the turns of these words made new of old, and a line was printed for each
pub record Played {S E : Type 0} (last : E → Bool) (does : Word → E → S → S → Type 0) (line : E → List ℕ) (words : List Word) (old new : S) (text printed : Option (List ℕ)) : Type 0 where
  pub came : List E
  pub makes : Turns last does words came old new
  pub lines : Appends text printed (flat_map line came)

-- the first k words had their turns, which made now of old, and none was the last
pub record PlayedSo {S E : Type 0} (last : E → Bool) (does : Word → E → S → S → Type 0) (line : E → List ℕ) (words : List Word) (k : ℕ) (old now : S) (text printed : Option (List ℕ)) : Type 0 where
  pub came : List E
  pub lines : Appends text printed (flat_map line came)
  pub joins : (more : List Word) (rest : List E) (new : S) → Turns last does more rest now new → Turns last does (take k words ++ more) (came ++ rest) old new

module _ {S E : Type 0} (last : E → Bool) (does : Word → E → S → S → Type 0) (line : E → List ℕ) (words : List Word) where
  -- no word had its turn yet
  pub none_played : (old : S) (text : Option (List ℕ)) → PlayedSo last does line words 0 old old text text
  none_played old text = record { came = []; lines = Appends-nil text; joins = λ more rest new makes. makes }

  -- one line more
  more_printed : (text mid printed : Option (List ℕ)) (came : List E) (one : E) → Appends text mid (flat_map line came) → Appends mid printed (line one) → Appends text printed (flat_map line (came ++ one ∷ []))
  more_printed text mid printed came one before now = subst (Appends text printed) (flat_map_more line [] came one) (Appends-trans text mid printed _ _ before now)

  -- all words had their turns
  pub all_played : (k : ℕ) (old now : S) (text printed : Option (List ℕ)) → PlayedSo last does line words k old now text printed → drop k words ≡ [] → Played last does line words old now text printed
  all_played k old now text printed so none =
      let nothing : List E = [] in
      let ends : (nothing ≡ []) × (now ≡ now) = (refl, refl) in
      record {
        came = so.came;
        makes = subst (λ came. Turns last does words came old now) (append-nil so.came)
            (subst (λ ws. Turns last does ws (so.came ++ []) old now) (ap (λ (ws : List Word). take k words ++ ws) (sym none) ∙ take-append-drop k words) (so.joins [] [] now ends));
        lines = so.lines;
      }

  pub all_broken : (old new : S) (text printed : Option (List ℕ)) → Played last does line words old new text printed → Part last does words old new
  all_broken old new text printed plays = record {
    count = length words;
    came = plays.came;
    makes = subst (λ ws. Turns last does ws plays.came old new) (sym (take_all (length words) words (omega arith))) plays.makes;
  }

  module _ (k : ℕ) (old now next : S) (text mid : Option (List ℕ)) (word : Word) (one : E)
      (so : PlayedSo last does line words k old now text mid) (within : k < length words) (left : drop k words ≡ word ∷ drop (k + 1) words) (turn : does word one now next) where
    -- one turn more
    pub one_played : (printed : Option (List ℕ)) → last one ≡ false → Appends mid printed (line one) → PlayedSo last does line words (k + 1) old next text printed
    one_played printed more now_printed = record {
      came = so.came ++ one ∷ [];
      lines = more_printed text mid printed so.came one so.lines now_printed;
      joins = λ others rest new makes.
          let here : Turns last does (word ∷ others) (one ∷ rest) now new =
          (next, turn, subst (λ b. IfLast b ((rest ≡ []) × (new ≡ next)) (Turns last does others rest next new)) (sym more) makes) in
          let count : take k words ++ word ∷ others ≡ take (k + 1) words ++ others = sym (append_assoc (take k words) (word ∷ []) others) ∙ ap (λ (ws : List Word). ws ++ others) (sym (one_more words k word within left)) in
          subst (λ came. Turns last does (take (k + 1) words ++ others) came old new) (sym (append_assoc so.came (one ∷ []) rest))
          (subst (λ ws. Turns last does ws (so.came ++ one ∷ rest) old new) count (so.joins (word ∷ others) (one ∷ rest) new here));
    }

    -- the last turn
    pub last_played : (printed : Option (List ℕ)) → last one ≡ true → Appends mid printed (line one) → Played last does line words old next text printed
    last_played printed is_last now_printed =
        let none : List E = [] in
        let ends : (none ≡ []) × (next ≡ next) = (refl, refl) in
        let here : Turns last does (word ∷ drop (k + 1) words) (one ∷ []) now next =
        (next, turn, subst (λ b. IfLast b ((none ≡ []) × (next ≡ next)) (Turns last does (drop (k + 1) words) [] next next)) (sym is_last) ends) in
        record {
          came = so.came ++ one ∷ [];
          makes = subst (λ ws. Turns last does ws (so.came ++ one ∷ []) old next) (ap (λ (ws : List Word). take k words ++ ws) (sym left) ∙ take-append-drop k words) (so.joins (word ∷ drop (k + 1) words) (one ∷ []) next here);
          lines = more_printed text mid printed so.came one so.lines now_printed;
        }

    -- the last of which something was printed, or was to be
    pub breaks_here : Part last does words old next
    breaks_here = record {
      count = k + 1;
      came = so.came ++ one ∷ [];
      makes = subst (λ ws. Turns last does ws (so.came ++ one ∷ []) old next) (sym (one_more words k word within left)) (so.joins (word ∷ []) (one ∷ []) next (turn_alone last does word one now next turn));
    }

-- turns, as a part of what they change is seen
pub turns_seen : {S V E : Type 0} (last : E → Bool) (does : Word → E → S → S → Type 0) (sees : Word → E → V → V → Type 0) (v : S → V) → ((w : Word) (one : E) (old new : S) → does w one old new → sees w one (v old) (v new))
    → (words : List Word) (came : List E) (old new : S) → Turns last does words came old new → Turns last sees words came (v old) (v new)
turns_seen last does sees v each [] came old new makes = (makes.0, ap v makes.1)
turns_seen last does sees v each (w ∷ words) [] old new makes = absurd makes
turns_seen {S} {V} {E} last does sees v each (w ∷ words) (one ∷ came) old new (mid, turn, rest) =
    (v mid, each w one old mid turn, on (last one) (λ more. turns_seen last does sees v each words came mid new more) rest)
  where
    on : (b : Bool) → (Turns last does words came mid new → Turns last sees words came (v mid) (v new)) → IfLast b ((came ≡ []) × (new ≡ mid)) (Turns last does words came mid new) → IfLast b ((came ≡ []) × (v new ≡ v mid)) (Turns last sees words came (v mid) (v new))
    on true go ends = (ends.0, ap v ends.1)
    on false go more = go more
