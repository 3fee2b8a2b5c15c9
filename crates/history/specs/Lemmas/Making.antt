-- What the entries of a journal made.
use Rattle.std.proofs.Common.{◌≡◌, ℕ, zero, suc, Bool, true, false, not, cond, ◌&&◌, ◌||◌, leb, List, [], ◌∷◌, ◌++◌, set, Option, Some, None, refl, sym, ap, ◌∙◌}
use Rattle.std.specs.Prelude.{is_some}
use Rattle.std.specs.List.{list_all, list_any}
use Rattle.history.specs.Common.{after_answer, after_at, after_refusal, and_then_some, answered, AreUpTo, BadOffset, BadType, both_of, Bytes, Create, Done, due_labels, Entry, File, file_in, Files, files_of, Form, form_of, Image, inode_count_of, is_changing, is_kind, is_making, is_refusal, IsEntry, kept, labels_of, SetAttribute, list_any-append, Made, NoFile, NoInode, Op, Read, refusal_of, Remove, replay, Reply, Stat, StatOf, told, TooBig, TooLong, Trunc, where_true, Write, Wrote}
use Rattle.model.specs.Operations.{after}
use Rattle.history.specs.Lemmas.Lists.{entry_next}

-- only a creation is answered by a number
no_number : (j : ℕ) (refusal : Reply) → is_refusal refusal (Made j) ≡ false
no_number j (Made i) = refl
no_number j NoInode = refl
no_number j (Wrote k) = refl
no_number j (Bytes bytes) = refl
no_number j Done = refl
no_number j (StatOf kind links size) = refl
no_number j NoFile = refl
no_number j BadOffset = refl
no_number j TooBig = refl
no_number j TooLong = refl
no_number j BadType = refl

made_kind : (files new : Files) (kind j : ℕ) (b : Bool) → is_kind kind ≡ b → after_refusal (cond b None (Some BadType)) files (Create kind) (Made j) ≡ Some new → is_kind kind ≡ true
made_kind files new kind j true is h = is
made_kind files new kind j false is h = absurd (cc h)

at_none : (files : Files) (i j : ℕ) (f : Option File) (op : Op) → after_at files i f op (Made j) ≡ None
at_none files i j None op = refl
at_none files i j (Some file) (Create kind) = refl
at_none files i j (Some file) (Write k off bytes) = refl
at_none files i j (Some file) (Read k off n) = refl
at_none files i j (Some file) (Trunc k) = refl
at_none files i j (Some file) (Remove k) = refl
at_none files i j (Some file) (Stat k) = refl
at_none files i j (Some file) (SetAttribute k attribute) = refl

not_made : (files new : Files) (i j : ℕ) (op : Op) (o : Option Reply) → after_refusal o files op (Made j) ≡ Some new → after_refusal None files op (Made j) ≡ after_at files i (file_in files i) op (Made j) → ⊥
not_made files new i j op (Some s) h done = let t = sym (ap (λ (b : Bool). where_true b files) (no_number j s)) ∙ h in cc t
not_made files new i j op None h done = let t = sym (at_none files i j (file_in files i) op) ∙ sym done ∙ h in cc t

made_changing : (form : Form) (files new : Files) (n j : ℕ) (op : Op) → after form files op (Made j) ≡ Some new → is_changing n op ≡ true
unfolding after
made_changing form files new n j (Create kind) h = made_kind files new kind j (is_kind kind) refl h
made_changing form files new n j (Write i off bytes) h = absurd (not_made files new i j (Write i off bytes) (refusal_of form files (Write i off bytes)) h refl)
made_changing form files new n j (Read i off k) h = absurd (not_made files new i j (Read i off k) (refusal_of form files (Read i off k)) h refl)
made_changing form files new n j (Trunc i) h = absurd (not_made files new i j (Trunc i) (refusal_of form files (Trunc i)) h refl)
made_changing form files new n j (Remove i) h = absurd (not_made files new i j (Remove i) (refusal_of form files (Remove i)) h refl)
made_changing form files new n j (Stat i) h = absurd (not_made files new i j (Stat i) (refusal_of form files (Stat i)) h refl)
made_changing form files new n j (SetAttribute i attribute) h = absurd (not_made files new i j (SetAttribute i attribute) (refusal_of form files (SetAttribute i attribute)) h refl)

making_changing : (form : Form) (files new : Files) (n i : ℕ) (op : Op) (r : Reply) → is_making i (Some r) ≡ true → after form files op r ≡ Some new → is_changing n op ≡ true
making_changing form files new n i op (Made j) is h = made_changing form files new n j op h
making_changing form files new n i op NoInode is h = absurd (cc is)
making_changing form files new n i op (Wrote k) is h = absurd (cc is)
making_changing form files new n i op (Bytes bytes) is h = absurd (cc is)
making_changing form files new n i op Done is h = absurd (cc is)
making_changing form files new n i op (StatOf kind links size) is h = absurd (cc is)
making_changing form files new n i op NoFile is h = absurd (cc is)
making_changing form files new n i op BadOffset is h = absurd (cc is)
making_changing form files new n i op TooBig is h = absurd (cc is)
making_changing form files new n i op TooLong is h = absurd (cc is)
making_changing form files new n i op BadType is h = absurd (cc is)

-- some entry made number i
abbrev pub makes : ℕ → List Entry → Bool
makes i es = list_any (λ (e : Entry). is_making i e.reply) es

-- what made a number is kept of all groups
pub makes_kept : (form : Form) (start files : Files) (n o i : ℕ) (es : List Entry) → AreUpTo o es → replay form start (answered es) ≡ Some files → makes i (kept n es o) ≡ makes i es
makes_kept form start files n o i [] all run = refl
makes_kept form start files n o i (e ∷ es) all run =
    let both = both_of (leb e.group o) (list_all (λ (f : Entry). leb f.group o) es) all in by_reply e.reply refl both.0 run (λ mid rest. makes_kept form mid files n o i es both.1 rest)
  where
    unmade : (b : Bool) → is_making i e.reply ≡ false → makes i (kept n es o) ≡ makes i es → makes i (cond b (e ∷ kept n es o) (kept n es o)) ≡ (is_making i e.reply || makes i es)
    unmade true none rest = ap (λ (t : Bool). is_making i e.reply || t) rest
    unmade false none rest = rest ∙ sym (ap (λ (t : Bool). t || makes i es) none)

    made : (b : Bool) → b ≡ true → makes i (kept n es o) ≡ makes i es → makes i (cond b (e ∷ kept n es o) (kept n es o)) ≡ (is_making i e.reply || makes i es)
    made true is rest = ap (λ (t : Bool). is_making i e.reply || t) rest
    made false is rest = absurd (cc is)

    by_making : (b : Bool) → is_making i e.reply ≡ b → (b ≡ true → is_changing n e.op ≡ true) → leb e.group o ≡ true → makes i (kept n es o) ≡ makes i es → makes i (kept n (e ∷ es) o) ≡ makes i (e ∷ es)
    by_making false is changing low rest = unmade (is_changing n e.op && leb e.group o) is rest
    by_making true is changing low rest = made (is_changing n e.op && leb e.group o) (rw (changing refl, low) refl) rest

    by_reply : (r : Option Reply) → e.reply ≡ r → leb e.group o ≡ true → replay form start (cond (is_some r) (e ∷ answered es) (answered es)) ≡ Some files → ((mid : Files) → replay form mid (answered es) ≡ Some files → makes i (kept n es o) ≡ makes i es)
        → makes i (kept n (e ∷ es) o) ≡ makes i (e ∷ es)
    by_reply None is low run goes = by_making false (ap (is_making i) is) (λ t. absurd (cc t)) low (goes start run)
    by_reply (Some r) is low run goes =
        let first = and_then_some (after_answer form start e.op e.reply) (λ f. replay form f (answered es)) files run in
        by_making (is_making i (Some r)) (ap (is_making i) is) (λ t. making_changing form start first.0 n i e.op r t (sym (ap (after_answer form start e.op) is) ∙ first.1)) low (goes first.0 first.2)

-- so the labels that are due after what is kept are those after all of the journal
pub due_kept : (opening : Image) (files : Files) (o i : ℕ) (es : List Entry) → AreUpTo o es → replay (form_of opening) (files_of opening) (answered es) ≡ Some files → due_labels opening (kept (inode_count_of opening) es o) i ≡ due_labels opening es i
due_kept opening files o i es all run = ap (λ (b : Bool). cond b (0, 0) (labels_of opening i)) (makes_kept (form_of opening) (files_of opening) files (inode_count_of opening) o i es all run)

-- an entry more makes what its reply says, and what a told one made
or_comm : (a b : Bool) → (b || (a || false)) ≡ (a || b)
or_comm true true = refl
or_comm true false = refl
or_comm false true = refl
or_comm false false = refl

-- an entry more
pub makes_more : (i : ℕ) (es : List Entry) (e : Entry) → makes i (es ++ e ∷ []) ≡ (is_making i e.reply || makes i es)
makes_more i es e = list_any-append (λ (f : Entry). is_making i f.reply) es (e ∷ []) ∙ or_comm (is_making i e.reply) (makes i es)

-- a reply that makes no number
pub makes_told : (i : ℕ) (es : List Entry) (k : ℕ) (e : Entry) (r : Reply) → IsEntry es k e → e.reply ≡ None → is_making i (Some r) ≡ false → makes i (set es k (told e r)) ≡ makes i es
makes_told i [] k e r at none not = refl
makes_told i (d ∷ es) zero e r at none not = ap (λ (b : Bool). b || makes i es) (not ∙ sym (ap (is_making i) (ap (λ (f : Entry). f.reply) at.is ∙ none)))
makes_told i (d ∷ es) (suc k) e r at none not = ap (λ (b : Bool). is_making i d.reply || b) (makes_told i es k e r (entry_next d es k e at) none not)
