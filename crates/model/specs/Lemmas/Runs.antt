-- Runs in parts, what operations keep, and what a creation makes of files.
use Rattle.std.proofs.Common.{◌≡◌, ℕ, Bool, true, false, cond, not, ◌&&◌, ◌||◌, ltb, leb, ◌<◌, List, [], ◌∷◌, length, set, Option, Some, None, refl, sym, ap, subst, ◌∙◌, inl, inr, ⊎_elim, ◌⊎◌, arith, ◌≢◌, ◌++◌, ◌+◌}
use Rattle.std.specs.Prelude.{IsSome, is_none}
use Rattle.model.specs.Common.{and_cases, and_parts, AtOnceIsNotChanging, AtOnceIsRefused, BadOffset, Bytes, cases_lt, CountStays, Done, File, file_in, Files, Form, get_or-set_other, get_or_past, greatest_size, is_still, le-leb, le-ltb, length-set, lt-leb, lt-ltb, ltb-false, ltb-true, Made, NoFile, NoInode, not-true, Op, RefusalsFirst, RefusalsKeep, ReplaysInParts, Reply, StatOf, TooBig, TooLong, Wrote}
use Rattle.model.specs.declared.types.operations.Entry.{Entry}
use Rattle.model.specs.declared.types.operations.Attribute.{Attribute}
use Rattle.model.specs.declared.types.operations.Attribute.TheVariants.{Links, Size}
use Rattle.model.specs.declared.types.operations.Op.TheVariants.{Create, Write, Read, Trunc, Remove, Stat, SetAttribute}
use Rattle.model.specs.declared.types.operations.Reply.TheVariants.{BadType}
use Rattle.model.specs.Operations.{after, after_refusal, after_done, after_create, after_at, after_on, refusal_of, write_refusal, attribute_refusal, extension_refusal, no_file_refusal, is_refusal, where_true, is_kind, transfer_limit}
use Rattle.model.specs.Journal.{replay, and_then, after_answer, is_number}

and_then-and_then : {A B C : Type 0} (o : Option A) (f : A → Option B) (g : B → Option C) →
    and_then o (λ a. and_then (f a) g) ≡ and_then (and_then o f) g
and_then-and_then None f g = refl
and_then-and_then (Some a) f g = refl

pub replays_in_parts : ReplaysInParts
replays_in_parts form files [] second = refl
replays_in_parts form files (e ∷ es) second =
    ap (λ k. and_then (after_answer form files e.op e.reply) k) (λ i f. replays_in_parts form f es second i)
    ∙ and_then-and_then (after_answer form files e.op e.reply) (λ f. replay form f es) (λ mid. replay form mid second)

-- one entry more
pub replay_more : (form : Form) (old files new : Files) (before : List Entry) (e : Entry) →
    replay form old before ≡ Some files → after_answer form files e.op e.reply ≡ Some new →
    replay form old (before ++ e ∷ []) ≡ Some new
replay_more form old files new before e run here = replays_in_parts form old before (e ∷ []) ∙ rw (run, here)

-- what a test gives where it is passed
pub where_true_some : {A : Type 0} (b : Bool) (a c : A) → where_true b a ≡ Some c → (b ≡ true) × (c ≡ a)
where_true_some true a c h = (refl, cc h)
where_true_some false a c h = absurd (cc h)

-- new is files, or files with one place changed
abbrev pub ChangesOne : Files → Files → Type 0
ChangesOne files new = (new ≡ files) ⊎ ((i : ℕ) × (f : Option File) × (new ≡ set files i f))

-- the same, and files itself where the reply is still. Number 0 stays without a file
record Changes (files new : Files) (reply : Reply) : Type 0 where
  one : ChangesOne files new
  still : is_still reply ≡ true → new ≡ files
  zero_stays : file_in files 0 ≡ None → file_in new 0 ≡ None

changes_none : (files new : Files) (reply : Reply) → new ≡ files → Changes files new reply
changes_none files new reply e = record {
  one = inl e;
  still = λ s. e;
  zero_stays = λ none. ap (λ f. file_in f 0) e ∙ none;
}

changes_place : (files new : Files) (reply : Reply) (i : ℕ) (f : Option File) → new ≡ set files i f → is_still reply ≡ false →
    (file_in files 0 ≡ None → 0 ≢ i) → Changes files new reply
changes_place files new reply i f e moves other = record {
  one = inr (i, f, e);
  still = λ s. absurd (cc (sym s ∙ moves));
  zero_stays = λ none. ap (λ l. file_in l 0) e ∙ get_or-set_other files i 0 f None (other none) ∙ none;
}

-- a number that has a file isn't one that has none
not_this : (files : Files) (i : ℕ) (file : File) → file_in files i ≡ Some file → file_in files 0 ≡ None → 0 ≢ i
not_this files i file some none same = let both : Some file ≡ None = sym some ∙ ap (file_in files) (sym same) ∙ none in cc both

on_changes : (files new : Files) (i : ℕ) (file : File) (op : Op) (reply : Reply) → file_in files i ≡ Some file →
    after_on files i file op reply ≡ Some new → Changes files new reply
on_changes files new i file (Write j off bytes) (Wrote k) e h =
    changes_place files new (Wrote k) i _ (where_true_some _ _ new h).1 refl (not_this files i file e)
on_changes files new i file (Read j off n) (Bytes bytes) e h = changes_none files new (Bytes bytes) (where_true_some _ files new h).1
on_changes files new i file (Trunc j) Done e h = changes_place files new Done i _ (where_true_some true _ new h).1 refl (not_this files i file e)
on_changes files new i file (Remove j) Done e h = changes_place files new Done i _ (where_true_some true _ new h).1 refl (not_this files i file e)
on_changes files new i file (Stat j) (StatOf kind links size) e h = changes_none files new (StatOf kind links size) (where_true_some _ files new h).1
on_changes files new i file (SetAttribute j attribute) Done e h =
    changes_place files new Done i _ (where_true_some _ _ new h).1 refl (not_this files i file e)
on_changes files new i file (SetAttribute j attribute) (Wrote k) e h =
    changes_place files new (Wrote k) i _ (where_true_some _ _ new h).1 refl (not_this files i file e)
on_changes files new i file op reply e h = absurd (cc h)

at_changes : (files new : Files) (i : ℕ) (o : Option File) (op : Op) (reply : Reply) → file_in files i ≡ o →
    after_at files i o op reply ≡ Some new → Changes files new reply
at_changes files new i None op reply e h = absurd (cc h)
at_changes files new i (Some file) op reply e h = on_changes files new i file op reply e h

create_changes : (files new : Files) (kind : ℕ) (reply : Reply) → after_create files kind reply ≡ Some new → Changes files new reply
create_changes files new kind (Made i) h =
    let made = where_true_some (ltb 0 i && ltb i (length files) && is_none (file_in files i)) _ new h in
    let low = ltb-true 0 i (and_parts (ltb 0 i) (ltb i (length files)) (and_parts (ltb 0 i && ltb i (length files)) (is_none (file_in files i)) made.0).0).0 in
    changes_place files new (Made i) i _ made.1 refl (λ none same. omega arith)
create_changes files new kind NoInode h = changes_none files new NoInode (cc h)
create_changes files new kind reply h = absurd (cc h)

done_changes : (files new : Files) (op : Op) (reply : Reply) → after_done files op reply ≡ Some new → Changes files new reply
done_changes files new (Create kind) reply h = create_changes files new kind reply h
done_changes files new (Write i off bytes) reply h = at_changes files new i (file_in files i) (Write i off bytes) reply refl h
done_changes files new (Read i off n) reply h = at_changes files new i (file_in files i) (Read i off n) reply refl h
done_changes files new (Trunc i) reply h = at_changes files new i (file_in files i) (Trunc i) reply refl h
done_changes files new (Remove i) reply h = at_changes files new i (file_in files i) (Remove i) reply refl h
done_changes files new (Stat i) reply h = at_changes files new i (file_in files i) (Stat i) reply refl h
done_changes files new (SetAttribute i attribute) reply h = at_changes files new i (file_in files i) (SetAttribute i attribute) reply refl h

refused_or_done : (files new : Files) (refusal : Option Reply) (op : Op) (reply : Reply) →
    after_refusal refusal files op reply ≡ Some new → Changes files new reply
refused_or_done files new (Some refusal) op reply h = changes_none files new reply (where_true_some _ files new h).1
refused_or_done files new None op reply h = done_changes files new op reply h

after_changes : (form : Form) (files new : Files) (op : Op) (reply : Reply) → after form files op reply ≡ Some new → Changes files new reply
unfolding after
after_changes form files new op reply h = refused_or_done files new (refusal_of form files op) op reply h

-- an operation changes one file at most
pub changes_one : (form : Form) (files new : Files) (op : Op) (reply : Reply) → after form files op reply ≡ Some new → ChangesOne files new
changes_one form files new op reply h = (after_changes form files new op reply h).one

pub refusals_keep : RefusalsKeep
refusals_keep form files new op reply s h = (after_changes form files new op reply h).still s

pub length-after : (form : Form) (files new : Files) (op : Op) (reply : Reply) → after form files op reply ≡ Some new → length new ≡ length files
length-after form files new op reply h =
    ⊎_elim (λ e. ap length e) (λ (i, f, e). ap length e ∙ length-set files i f) (changes_one form files new op reply h)

pub and_then_some : {A B : Type 0} (o : Option A) (f : A → Option B) (c : B) → and_then o f ≡ Some c → (a : A) × (o ≡ Some a) × (f a ≡ Some c)
and_then_some None f c h = absurd (cc h)
and_then_some (Some a) f c h = (a, refl, h)

answer_some : (form : Form) (files new : Files) (op : Op) (reply : Option Reply) → after_answer form files op reply ≡ Some new → length new ≡ length files
answer_some form files new op None h = absurd (cc h)
answer_some form files new op (Some reply) h = length-after form files new op reply h

pub count_stays : CountStays
count_stays form files new [] h = ap length (cc h)
count_stays form files new (e ∷ es) h =
    let first = and_then_some (after_answer form files e.op e.reply) (λ f. replay form f es) new h in
    count_stays form first.0 new es first.2 ∙ answer_some form files first.0 e.op e.reply first.1

-- no run gives number 0 a file
zero_answered : (form : Form) (files new : Files) (op : Op) (reply : Option Reply) → file_in files 0 ≡ None →
    after_answer form files op reply ≡ Some new → file_in new 0 ≡ None
zero_answered form files new op None none h = absurd (cc h)
zero_answered form files new op (Some reply) none h = (after_changes form files new op reply h).zero_stays none

pub zero_stays : (form : Form) (files new : Files) (entries : List Entry) → file_in files 0 ≡ None →
    replay form files entries ≡ Some new → file_in new 0 ≡ None
zero_stays form files new [] none h = let e : files ≡ new = cc h in ap (λ f. file_in f 0) (sym e) ∙ none
zero_stays form files new (e ∷ es) none h =
    let first = and_then_some (after_answer form files e.op e.reply) (λ f. replay form f es) new h in
    zero_stays form first.0 new es (zero_answered form files first.0 e.op e.reply none first.1) first.2

-- the same refusal is the same reply
refusal_same : (refusal reply : Reply) → is_refusal refusal reply ≡ true → reply ≡ refusal
refusal_same NoFile NoFile h = refl
refusal_same BadOffset BadOffset h = refl
refusal_same TooBig TooBig h = refl
refusal_same TooLong TooLong h = refl
refusal_same BadType BadType h = refl
refusal_same refusal reply h = absurd (cc h)

refused_first : (b : Bool) (first refusal : Reply) (rest : Option Reply) → is_refusal first first ≡ true →
    (rest ≡ Some refusal → is_refusal refusal refusal ≡ true) → cond b (Some first) rest ≡ Some refusal → is_refusal refusal refusal ≡ true
refused_first true first refusal rest is later h = let e : first ≡ refusal = cc h in subst (λ (r : Reply). is_refusal r r ≡ true) e is
refused_first false first refusal rest is later h = later h

refused_kind : (b : Bool) (refusal : Reply) → cond b None (Some BadType) ≡ Some refusal → is_refusal refusal refusal ≡ true
refused_kind true refusal h = absurd (cc h)
refused_kind false refusal h = let e : BadType ≡ refusal = cc h in subst (λ (r : Reply). is_refusal r r ≡ true) e refl

refused_file : (o : Option File) (refusal : Reply) → no_file_refusal o ≡ Some refusal → is_refusal refusal refusal ≡ true
refused_file None refusal h = let e : NoFile ≡ refusal = cc h in subst (λ (r : Reply). is_refusal r r ≡ true) e refl
refused_file (Some file) refusal h = absurd (cc h)

refused_write : (form : Form) (o : Option File) (off n : ℕ) (refusal : Reply) → write_refusal form o off n ≡ Some refusal → is_refusal refusal refusal ≡ true
refused_write form None off n refusal h = let e : NoFile ≡ refusal = cc h in subst (λ (r : Reply). is_refusal r r ≡ true) e refl
refused_write form (Some file) off n refusal h =
    refused_first (ltb (length file.bytes) off) BadOffset refusal _ refl
    (λ later. refused_first (ltb (greatest_size form) _) TooBig refusal None refl (λ none. absurd (cc none)) later) h

refused_extension : (form : Form) (old n : ℕ) (refusal : Reply) → extension_refusal form old n ≡ Some refusal → is_refusal refusal refusal ≡ true
refused_extension form old n refusal h =
    refused_first (ltb (old + transfer_limit) n) TooLong refusal _ refl
    (λ later. refused_first (ltb (greatest_size form) n) TooBig refusal None refl (λ none. absurd (cc none)) later) h

refused_longer : (b : Bool) (form : Form) (old n : ℕ) (refusal : Reply) → cond b (extension_refusal form old n) None ≡ Some refusal →
    is_refusal refusal refusal ≡ true
refused_longer true form old n refusal h = refused_extension form old n refusal h
refused_longer false form old n refusal h = absurd (cc h)

refused_attribute : (form : Form) (o : Option File) (attribute : Attribute) (refusal : Reply) → attribute_refusal form o attribute ≡ Some refusal →
    is_refusal refusal refusal ≡ true
refused_attribute form None attribute refusal h = let e : NoFile ≡ refusal = cc h in subst (λ (r : Reply). is_refusal r r ≡ true) e refl
refused_attribute form (Some file) (Links n) refusal h = absurd (cc h)
refused_attribute form (Some file) (Size n) refusal h =
    refused_longer (ltb (length file.bytes) n) form (length file.bytes) n refusal h

-- what an operation is refused by is a refusal
refused_itself : (form : Form) (files : Files) (op : Op) (refusal : Reply) → refusal_of form files op ≡ Some refusal → is_refusal refusal refusal ≡ true
refused_itself form files (Create kind) refusal h = refused_kind (is_kind kind) refusal h
refused_itself form files (Write i off bytes) refusal h =
    refused_first (ltb transfer_limit (length bytes)) TooLong refusal _ refl (refused_write form (file_in files i) off (length bytes) refusal) h
refused_itself form files (Read i off n) refusal h =
    refused_first (ltb transfer_limit n) TooLong refusal _ refl (refused_file (file_in files i) refusal) h
refused_itself form files (Trunc i) refusal h = refused_file (file_in files i) refusal h
refused_itself form files (Remove i) refusal h = refused_file (file_in files i) refusal h
refused_itself form files (Stat i) refusal h = refused_file (file_in files i) refusal h
refused_itself form files (SetAttribute i attribute) refusal h = refused_attribute form (file_in files i) attribute refusal h

pub refusals_first : RefusalsFirst
unfolding after
refusals_first form files op refusal h = (
  rw h (ap (λ b. where_true b files) (refused_itself form files op refusal h)),
  (λ reply new done.
      let answer = where_true_some (is_refusal refusal reply) files new (rw h at done) in
      (refusal_same refusal reply answer.0, answer.1)),
)

not_not : (b : Bool) → b ≡ not (not b)
not_not true = refl
not_not false = refl

not_either : (a b : Bool) → (not a && b) ≡ not (a || not b)
not_either true b = refl
not_either false b = not_not b

leb-not_ltb : (m n : ℕ) → leb m n ≡ not (ltb n m)
leb-not_ltb m n =
    ⊎_elim (λ lt. rw (lt-ltb n m lt) (lt-leb m n lt)) (λ le. rw (le-ltb n m le) (le-leb m n le)) (cases_lt n m)

pub at_once_is_not_changing : AtOnceIsNotChanging
at_once_is_not_changing inode_count (Create kind) = not_not (is_kind kind)
at_once_is_not_changing inode_count (Write i off bytes) =
    ap (λ b. b && is_number inode_count i) (leb-not_ltb (length bytes) transfer_limit)
    ∙ not_either (ltb transfer_limit (length bytes)) (is_number inode_count i)
at_once_is_not_changing inode_count (Read i off n) = refl
at_once_is_not_changing inode_count (Trunc i) = not_not (is_number inode_count i)
at_once_is_not_changing inode_count (Remove i) = not_not (is_number inode_count i)
at_once_is_not_changing inode_count (Stat i) = refl
at_once_is_not_changing inode_count (SetAttribute i attribute) = not_not (is_number inode_count i)

-- no file has a number that operations may not name
pub no_file_at : (files : Files) (i : ℕ) → file_in files 0 ≡ None → is_number (length files) i ≡ false → file_in files i ≡ None
no_file_at files i none h =
    ⊎_elim
    (λ (z : ltb 0 i ≡ false). let low = ltb-false 0 i z in let e : 0 ≡ i = omega arith in subst (λ (j : ℕ). file_in files j ≡ None) e none)
    (λ (p : ltb i (length files) ≡ false). get_or_past files i None (ltb-false i (length files) p))
    (and_cases (ltb 0 i) (ltb i (length files)) h)

refuses_no_file : (o : Option File) → o ≡ None → IsSome (no_file_refusal o)
refuses_no_file o e = rw e refl

refuses_first : (b : Bool) (first : Reply) (rest : Option Reply) (late : Bool) → (b || late) ≡ true → (late ≡ true → IsSome rest) →
    IsSome (cond b (Some first) rest)
refuses_first true first rest late h later = refl
refuses_first false first rest late h later = later h

pub at_once_is_refused : AtOnceIsRefused
at_once_is_refused form files (Create kind) none h = rw (not-true (is_kind kind) h) refl
at_once_is_refused form files (Write i off bytes) none h =
    refuses_first (ltb transfer_limit (length bytes)) TooLong _ (not (is_number (length files) i)) h
    (λ n. rw (no_file_at files i none (not-true (is_number (length files) i) n)) refl)
at_once_is_refused form files (Read i off n) none h =
    refuses_first (ltb transfer_limit n) TooLong _ (not (is_number (length files) i)) h
    (λ m. refuses_no_file (file_in files i) (no_file_at files i none (not-true (is_number (length files) i) m)))
at_once_is_refused form files (Trunc i) none h =
    refuses_no_file (file_in files i) (no_file_at files i none (not-true (is_number (length files) i) h))
at_once_is_refused form files (Remove i) none h =
    refuses_no_file (file_in files i) (no_file_at files i none (not-true (is_number (length files) i) h))
at_once_is_refused form files (Stat i) none h =
    refuses_no_file (file_in files i) (no_file_at files i none (not-true (is_number (length files) i) h))
at_once_is_refused form files (SetAttribute i attribute) none h =
    rw (no_file_at files i none (not-true (is_number (length files) i) h)) refl

-- a creation that made a number gives it an empty file
pub after-made : (form : Form) (files : Files) (kind i : ℕ) → is_kind kind ≡ true → 0 < i → i < length files → file_in files i ≡ None →
    after form files (Create kind) (Made i) ≡ Some (set files i (Some (record { kind = kind; links = 1; bytes = [] })))
unfolding after
after-made form files kind i is some below free = rw (is, lt-ltb 0 i some, lt-ltb i (length files) below, free) refl

-- one that found no number changes no file
pub after-no_inode : (form : Form) (files : Files) (kind : ℕ) → is_kind kind ≡ true → after form files (Create kind) NoInode ≡ Some files
unfolding after
after-no_inode form files kind is = rw is refl
