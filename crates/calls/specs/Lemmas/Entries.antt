-- Entries, their answers, and what stands before the first of them.
use Rattle.std.proofs.Common.{◌≡◌, ◌∙◌, ◌+◌, List, [], ◌∷◌, ◌++◌, length, Option, Some, None, refl, sym, ap, subst, arith}
use Rattle.std.specs.Prelude.{option_map}
use Rattle.std.proofs.lemmas.List.{length-append}
use Rattle.blocks.specs.Disk.{Image}
use Rattle.model.specs.declared.types.image.Form.{Form}
use Rattle.model.specs.declared.types.operations.Answer.{Answer}
use Rattle.model.specs.declared.types.operations.Entry.{Entry}
use Rattle.model.specs.declared.types.operations.Reply.{Reply}
use Rattle.model.specs.Files.{Files}
use Rattle.model.specs.Journal.{after_answer, and_then, replay}
use Rattle.model.specs.Log.{recovered}
use Rattle.model.specs.Operations.{after}
use Rattle.model.specs.Verdict.{verdict}
use Rattle.model.specs.Lemmas.Log.{length-recovered, recovered_low}
use Rattle.model.specs.Lemmas.Runs.{and_then_some, replays_in_parts}
use Rattle.model.specs.Lemmas.Soundness.{long_geometry, verdict_sound}
use Rattle.ports.specs.History.{nothing_yet}
use Rattle.ports.specs.Queues.{FitsAt, polled_at}
use Rattle.ports.specs.declared.lane.Lane.{Lane}
use Rattle.history.specs.Histories.{entry_answer}
use Rattle.calls.specs.Calls.{IsWhole}

-- the last of a list
last_of : {A : Type 0} → List A → A → A
last_of [] d = d
last_of (x ∷ xs) d = last_of xs x

last_of_snoc : {A : Type 0} (xs : List A) (x d : A) → last_of (xs ++ x ∷ []) d ≡ x
unfolding last_of
last_of_snoc [] x d = refl
last_of_snoc (y ∷ xs) x d = last_of_snoc xs x y

-- lists that are the same end with the same one
pub last_same : {A : Type 0} (xs ys : List A) (x y : A) → xs ++ x ∷ [] ≡ ys ++ y ∷ [] → x ≡ y
last_same xs ys x y is = sym (last_of_snoc xs x x) ∙ ap (λ (l : List _). last_of l x) is ∙ last_of_snoc ys y x

-- an entry tells the reply of its answer
pub replied : (e : Entry) (a : Answer) → Some a ≡ entry_answer e → e.reply ≡ Some a.reply
replied e a is = by_reply e.reply is
  where
    by_reply : (o : Option Reply) → Some a ≡ option_map (λ (r : Reply). record { seq = e.seq; reply = r; group = e.group }) o → o ≡ Some a.reply
    by_reply None is = absurd (cc is)
    by_reply (Some r) is = let same : a ≡ record { seq = e.seq; reply = r; group = e.group } = cc is in sym (ap (λ (b : Answer). Some b.reply) same)

-- one entry more of a replay
pub one_entry : (form : Form) (start mid last : Files) (es : List Entry) (e : Entry) (r : Reply) → replay form start es ≡ Some mid → e.reply ≡ Some r → replay form start (es ++ e ∷ []) ≡ Some last → after form mid e.op r ≡ Some last
one_entry form start mid last es e r before replied run =
    let both = sym (replays_in_parts form start es (e ∷ [])) ∙ run in
    let one : and_then (after_answer form mid e.op e.reply) (λ f. Some f) ≡ Some last = subst (λ (o : Option Files). and_then o (λ f. replay form f (e ∷ [])) ≡ Some last) before both in
    let found = and_then_some (after_answer form mid e.op (Some r)) (λ f. Some f) last (subst (λ (o : Option Reply). and_then (after_answer form mid e.op o) (λ f. Some f) ≡ Some last) replied one) in
    found.1 ∙ found.2

-- recovery gives a sound image of the same size and with the same superblock
pub recovers_whole : (x y : Image) → verdict x ≡ None → y ≡ recovered x → IsWhole x y
recovers_whole x y none is =
    let sound = verdict_sound x none in
    let long = long_geometry x sound.0 in
    subst (IsWhole x) (sym is) (record {
      sound = sound.2;
      size = length-recovered x;
      super = recovered_low x 1 sound.1 (omega arith) (omega arith) (omega (arith, long));
    })

-- of an end at which nothing was handed in nothing was polled
pub none_polled : (o : Option Lane) → FitsAt o nothing_yet → polled_at o ≡ 0
none_polled None fits = refl
none_polled (Some l) fits =
    let given = fits.given in
    let none : length given.0 + length l.answers.items ≡ 0 = sym (length-append given.0 l.answers.items) ∙ ap (λ (xs : List Answer). length xs) (sym given.1) in
    let count = given.2 in
    grind (arith, none, count)
