-- The answers that are given tell what the journal does.
use Rattle.std.proofs.Common.{◌≡◌, ℕ, zero, suc, ◌<◌, ◌≤◌, Bool, true, false, cond, ltb, List, [], ◌∷◌, length, take, drop, refl, sym, ◌∙◌, ap, subst, arith, Option, Some, None}
use Rattle.std.specs.Option.{option_map}
use Rattle.std.specs.Prelude.{All, IsSome, IfSome, is_some}
use Rattle.std.specs.Str.{bytes_eq}
use Rattle.std.proofs.Math.Nat.{min-le_left}
use Rattle.std.proofs.lemmas.Slice.Eq.{bytes_eq-Decides}
use Rattle.history.specs.Common.{after_answer, after_at, after_done, after_refusal, All-get_or, and_then_some, Answer, answered, BadOffset, BadType, Bytes, Create, Done, Entry, false≢true, File, file_in, Files, Form, GatheredBytes, gives, HasEntry, HasItsGroup, History, is_changing, is_refusal, IsEntry, IsLogAt, length-take, SetAttribute, lt-ltb, Made, NoFile, NoInode, Op, part_of, Phase, Read, refusal_of, Remove, replay, Reply, StandsAt, Stat, StatOf, TooBig, TooLong, Trunc, View, where_true, where_true_some, Write, Wrote}
use Rattle.model.specs.Operations.{after}
use Rattle.history.specs.Histories.{pending_at, Owes, Owed, IsHistory}
use Rattle.history.specs.Journal.{entry_in, plain_reply, answer_with, answer_of, HasRoom, FitsRoom, IsItsRoom}
use Rattle.history.specs.Processes.{World, process, answer_in, last_answer}
use Rattle.history.specs.Lemmas.Groups.{in_later}
use Rattle.history.specs.Lemmas.Histories.{history_answered}
use Rattle.history.specs.Lemmas.Lists.{entry_next}

-- an entry within the list is the same, whatever stands behind the last
pub entry_inside : (es : List Entry) (k : ℕ) (e : Entry) → IsEntry es k e → entry_in es k ≡ e
entry_inside [] k e at = let lt = at.inside in absurd (omega (arith, lt))
entry_inside (d ∷ es) zero e at = at.is
entry_inside (d ∷ es) (suc k) e at = let lt = at.inside in entry_inside es k e (record { inside = omega (arith, lt); is = at.is })

-- the answer at an index is that of its entry
pub answer_inside : (es : List Entry) (k : ℕ) (e : Entry) → IsEntry es k e → answer_in es k ≡ answer_of e
answer_inside es k e at =
    ap (λ (b : Bool). cond b (answer_of (entry_in es k)) None) (lt-ltb k (length es) at.inside) ∙ ap answer_of (entry_inside es k e at)

-- so it is where an entry's answer is still to be given
owed_given : (w : World) (p k begun : ℕ) (a : Phase) (answer : Answer) (h : History) → Owed a p w.journal.list ≡ (λ (given : List Entry). Owes p k w.journal.list given) → pending_at a ≡ [] → answer_in w.journal.list k ≡ Some answer
    → IsHistory w.journal.list a begun p h → IsHistory w.journal.list Phase.Idle begun p (gives answer h)
owed_given w p k begun a answer h shape none tells is =
    let o : Owes p k w.journal.list is.answered = subst (λ (P : List Entry → Type 0). P is.answered) shape is.owed in
    history_answered w.journal.list k begun p a o.entry answer h shape none o.at (sym (answer_inside w.journal.list k o.entry o.at) ∙ tells) is

-- who is given the last answer owes none any more
pub history_given : (w : World) (p begun : ℕ) (a : Phase) (answer : Answer) (h : History) → last_answer w a ≡ Some answer → IsHistory w.journal.list a begun p h → IsHistory w.journal.list Phase.Idle begun p (gives answer h)
history_given w p begun Phase.Idle answer h tells is = absurd (cc tells)
history_given w p begun (Phase.BeforeTurn group op) answer h tells is = absurd (cc tells)
history_given w p begun (Phase.AfterTurn group k) answer h tells is = owed_given w p k begun (Phase.AfterTurn group k) answer h refl refl tells is
history_given w p begun (Phase.Ending group k) answer h tells is = owed_given w p k begun (Phase.Ending group k) answer h refl refl tells is
history_given w p begun (Phase.Committing group k) answer h tells is = owed_given w p k begun (Phase.Committing group k) answer h refl refl tells is

-- only a read is answered with bytes
abbrev pub is_read : Op → Bool
is_read (Create kind) = false
is_read (Write i off bytes) = false
is_read (Read i off n) = true
is_read (Trunc i) = false
is_read (Remove i) = false
is_read (Stat i) = false
is_read (SetAttribute i attribute) = false

-- no refusal is one with bytes
no_bytes_refused : (refusal : Reply) (bytes : List ℕ) → is_refusal refusal (Bytes bytes) ≡ false
no_bytes_refused (Made i) bytes = refl
no_bytes_refused NoInode bytes = refl
no_bytes_refused (Wrote k) bytes = refl
no_bytes_refused (Bytes others) bytes = refl
no_bytes_refused Done bytes = refl
no_bytes_refused (StatOf kind links size) bytes = refl
no_bytes_refused NoFile bytes = refl
no_bytes_refused BadOffset bytes = refl
no_bytes_refused TooBig bytes = refl
no_bytes_refused TooLong bytes = refl
no_bytes_refused BadType bytes = refl

-- a file's operation that reads nothing isn't answered with bytes
no_bytes_on : (m : Files) (i : ℕ) (o : Option File) (op : Op) (bytes : List ℕ) → is_read op ≡ false → after_at m i o op (Bytes bytes) ≡ None
no_bytes_on m i None op bytes not = refl
no_bytes_on m i (Some file) (Create kind) bytes not = refl
no_bytes_on m i (Some file) (Write j off data_of) bytes not = refl
no_bytes_on m i (Some file) (Read j off n) bytes not = absurd (false≢true (sym not))
no_bytes_on m i (Some file) (Trunc j) bytes not = refl
no_bytes_on m i (Some file) (Remove j) bytes not = refl
no_bytes_on m i (Some file) (Stat j) bytes not = refl
no_bytes_on m i (Some file) (SetAttribute j attribute) bytes not = refl

-- nor is one that isn't refused
no_bytes_done : (m : Files) (op : Op) (bytes : List ℕ) → is_read op ≡ false → after_done m op (Bytes bytes) ≡ None
no_bytes_done m (Create kind) bytes not = refl
no_bytes_done m (Write i off data_of) bytes not = no_bytes_on m i (file_in m i) (Write i off data_of) bytes not
no_bytes_done m (Read i off n) bytes not = no_bytes_on m i (file_in m i) (Read i off n) bytes not
no_bytes_done m (Trunc i) bytes not = no_bytes_on m i (file_in m i) (Trunc i) bytes not
no_bytes_done m (Remove i) bytes not = no_bytes_on m i (file_in m i) (Remove i) bytes not
no_bytes_done m (Stat i) bytes not = no_bytes_on m i (file_in m i) (Stat i) bytes not
no_bytes_done m (SetAttribute i attribute) bytes not = no_bytes_on m i (file_in m i) (SetAttribute i attribute) bytes not

-- nor any
no_bytes : (form : Form) (m : Files) (op : Op) (bytes : List ℕ) → is_read op ≡ false → after form m op (Bytes bytes) ≡ None
unfolding after
no_bytes form m op bytes not = by_refusal (refusal_of form m op)
  where
    by_refusal : (o : Option Reply) → after_refusal o m op (Bytes bytes) ≡ None
    by_refusal None = no_bytes_done m op bytes not
    by_refusal (Some refusal) = ap (λ (b : Bool). where_true b m) (no_bytes_refused refusal bytes)

-- a read is answered with as many bytes as it asks for at most
bytes_few : (form : Form) (m new : Files) (i off n : ℕ) (bytes : List ℕ) → after form m (Read i off n) (Bytes bytes) ≡ Some new → length bytes ≤ n
unfolding after
bytes_few form m new i off n bytes h = by_refusal (refusal_of form m (Read i off n)) h
  where
    by_file : (o : Option File) → after_at m i o (Read i off n) (Bytes bytes) ≡ Some new → length bytes ≤ n
    by_file None h = absurd (cc h)
    by_file (Some file) h =
        let part : bytes ≡ take n (drop off file.bytes) = (bytes_eq-Decides bytes (part_of file.bytes off n)).0 (where_true_some (bytes_eq bytes (part_of file.bytes off n)) m new h).0 in
        let least = min-le_left n (length (drop off file.bytes)) in
        omega (arith, (ap (λ (l : List ℕ). length l) part ∙ length-take n (drop off file.bytes)), least)

    by_refusal : (o : Option Reply) → after_refusal o m (Read i off n) (Bytes bytes) ≡ Some new → length bytes ≤ n
    by_refusal None h = by_file (file_in m i) h
    by_refusal (Some refusal) h = let no = ap (λ (b : Bool). where_true b m) (sym (no_bytes_refused refusal bytes)) ∙ h in absurd (cc no)

-- a reply without bytes needs no room
pub plain_fits : (room : Option GatheredBytes) (r : Reply) → plain_reply (Some r) ≡ Some r → FitsRoom room r
plain_fits room (Made i) plain = tt
plain_fits room NoInode plain = tt
plain_fits room (Wrote k) plain = tt
plain_fits room (Bytes bytes) plain = absurd (cc plain)
plain_fits room Done plain = tt
plain_fits room (StatOf kind links size) plain = tt
plain_fits room NoFile plain = tt
plain_fits room BadOffset plain = tt
plain_fits room TooBig plain = tt
plain_fits room TooLong plain = tt
plain_fits room BadType plain = tt

-- an operation's bytes fit its room
bytes_fit : (form : Form) (m new : Files) (op : Op) (bytes : List ℕ) (room : Option GatheredBytes) → IsItsRoom (Some op) room → after form m op (Bytes bytes) ≡ Some new → HasRoom room bytes
bytes_fit form m new (Create kind) bytes room its h = let no = sym (no_bytes form m (Create kind) bytes refl) ∙ h in absurd (cc no)
bytes_fit form m new (Write i off others) bytes room its h = let no = sym (no_bytes form m (Write i off others) bytes refl) ∙ h in absurd (cc no)
bytes_fit form m new (Read i off n) bytes room its h = subst (λ (o : Option GatheredBytes). HasRoom o bytes) (sym its) (refl, bytes_few form m new i off n bytes h)
bytes_fit form m new (Trunc i) bytes room its h = let no = sym (no_bytes form m (Trunc i) bytes refl) ∙ h in absurd (cc no)
bytes_fit form m new (Remove i) bytes room its h = let no = sym (no_bytes form m (Remove i) bytes refl) ∙ h in absurd (cc no)
bytes_fit form m new (Stat i) bytes room its h = let no = sym (no_bytes form m (Stat i) bytes refl) ∙ h in absurd (cc no)
bytes_fit form m new (SetAttribute i attribute) bytes room its h = let no = sym (no_bytes form m (SetAttribute i attribute) bytes refl) ∙ h in absurd (cc no)

-- so does its reply
pub fits_after : (form : Form) (m new : Files) (op : Op) (r : Reply) (room : Option GatheredBytes) → IsItsRoom (Some op) room → after form m op r ≡ Some new → FitsRoom room r
fits_after form m new op (Made i) room its h = tt
fits_after form m new op NoInode room its h = tt
fits_after form m new op (Wrote k) room its h = tt
fits_after form m new op (Bytes bytes) room its h = bytes_fit form m new op bytes room its h
fits_after form m new op Done room its h = tt
fits_after form m new op (StatOf kind links size) room its h = tt
fits_after form m new op NoFile room its h = tt
fits_after form m new op BadOffset room its h = tt
fits_after form m new op TooBig room its h = tt
fits_after form m new op TooLong room its h = tt
fits_after form m new op BadType room its h = tt

-- a run's first entry, and what comes behind it
record Starts (form : Form) (start files : Files) (d : Entry) (es : List Entry) : Type 0 where
  next : Files
  rest : replay form next (answered es) ≡ Some files
  first : (r : Reply) → d.reply ≡ Some r → after form start d.op r ≡ Some next

-- each run starts so
starts : (form : Form) (start files : Files) (d : Entry) (es : List Entry) → replay form start (answered (d ∷ es)) ≡ Some files → Starts form start files d es
starts form start files d es run = by_reply d.reply refl
  where
    by_reply : (o : Option Reply) → d.reply ≡ o → Starts form start files d es
    by_reply None is = record {
      next = start;
      rest = sym (ap (λ (o : Option Reply). replay form start (cond (is_some o) (d ∷ answered es) (answered es))) is) ∙ run;
      first = λ r told. let none = sym is ∙ told in absurd (cc none);
    }
    by_reply (Some t) is =
        let goes = and_then_some (after_answer form start d.op d.reply) (λ f. replay form f (answered es)) files (sym (ap (λ (o : Option Reply). replay form start (cond (is_some o) (d ∷ answered es) (answered es))) is) ∙ run) in
        record { next = goes.0; rest = goes.2; first = λ r told. ap (after_answer form start d.op) (sym told) ∙ goes.1 }

-- the reply of each entry of a run fits its operation's room
pub fits_of_run : (form : Form) (start files : Files) (es : List Entry) (k : ℕ) (e : Entry) (r : Reply) (room : Option GatheredBytes) → replay form start (answered es) ≡ Some files → IsEntry es k e → e.reply ≡ Some r → IsItsRoom (Some e.op) room → FitsRoom room r
fits_of_run form start files [] k e r room run at told its = let lt = at.inside in absurd (omega (arith, lt))
fits_of_run form start files (d ∷ es) zero e r room run at told its =
    let s = starts form start files d es run in
    fits_after form start s.next e.op r room its (ap (λ (f : Entry). after form start f.op r) (sym at.is) ∙ s.first r (ap (λ (f : Entry). f.reply) at.is ∙ told))
fits_of_run form start files (d ∷ es) (suc k) e r room run at told its =
    let s = starts form start files d es run in
    fits_of_run form s.next files es k e r room s.rest (entry_next d es k e at) told its

-- what may change a file needs no room
pub change_fits : (n : ℕ) (op : Op) (room : Option GatheredBytes) → is_changing n op ≡ true → IsItsRoom (Some op) room
change_fits n (Create kind) room is = tt
change_fits n (Write i off bytes) room is = tt
change_fits n (Read i off k) room is = absurd (false≢true is)
change_fits n (Trunc i) room is = tt
change_fits n (Remove i) room is = tt
change_fits n (Stat i) room is = tt
change_fits n (SetAttribute i attribute) room is = tt

-- an entry's group tells whether its operation changes files
pub group_tells : (n group k : ℕ) (es : List Entry) (e : Entry) → All (HasItsGroup n) es → IsEntry es k e → e.group ≡ group → is_changing n e.op ≡ ltb 0 group
group_tells n group k es e all at same =
    sym (subst (HasItsGroup n) at.is (All-get_or (HasItsGroup n) es k e at.inside all)) ∙ ap (ltb 0) same

-- an entry of a group is of a changing operation
pub changing_in_group : (n group k : ℕ) (es : List Entry) (e : Entry) → All (HasItsGroup n) es → IsEntry es k e → e.group ≡ group → 0 < group → is_changing n e.op ≡ true
changing_in_group n group k es e all at same some = group_tells n group k es e all at same ∙ lt-ltb 0 group some

-- the answer at an index is there, and fits the room
abbrev pub CanAnswer : Option Answer → Option GatheredBytes → Type 0
CanAnswer o room = IsSome o × IfSome o (λ (a : Answer). FitsRoom room a.reply)

-- an entry that has its reply can be answered
pub answer_there : (form : Form) (start files : Files) (es : List Entry) (k : ℕ) (e : Entry) (room : Option GatheredBytes) → replay form start (answered es) ≡ Some files → IsEntry es k e → IsSome e.reply → IsItsRoom (Some e.op) room
    → CanAnswer (answer_in es k) room
answer_there form start files es k e room run at some its = by_reply e.reply refl some
  where
    by_reply : (o : Option Reply) → e.reply ≡ o → IsSome o → CanAnswer (answer_in es k) room
    by_reply None is some = absurd (false≢true some)
    by_reply (Some r) is some =
        let there : answer_in es k ≡ Some (answer_with e r) = answer_inside es k e at ∙ ap (λ (o : Option Reply). option_map (answer_with e) o) is in
        subst (λ (o : Option Answer). CanAnswer o room) (sym there) (refl, fits_of_run form start files es k e r room run at is its)

-- an operation that ends next is open in the log, so its group has a number
pub group_there : (n p group k : ℕ) (s : View) (es : List Entry) → IsLogAt s.log.commit s.log → StandsAt n s es p (Phase.Ending group k) → 0 < group
group_there n p group k s es log stands = let low = in_later s.log p group log stands.1 in omega (arith, low)

-- who is at an end, or commits, can be answered
module _ (n : ℕ) (s : View) (form : Form) (start files : Files) (w : World) (p group k : ℕ) (run : replay form start (answered w.journal.list) ≡ Some files) (all : All (HasItsGroup n) w.journal.list) where
  -- the entry of a group's operation has its answer there
  told_there : (e : Entry) → HasEntry w.journal.list p k group e → IsSome e.reply → 0 < group → CanAnswer (answer_in w.journal.list k) (process w p).room
  told_there e has some later = answer_there form start files w.journal.list k e (process w p).room run has.at some
      (change_fits n e.op (process w p).room (changing_in_group n group k w.journal.list e all has.at has.same later))

  pub answer_at_end : (process w p).at ≡ Phase.Ending group k → IsLogAt s.log.commit s.log → StandsAt n s w.journal.list p (process w p).at → CanAnswer (last_answer w (process w p).at) (process w p).room
  answer_at_end stands log is =
      let mine : StandsAt n s w.journal.list p (Phase.Ending group k) = subst (λ (a : Phase). StandsAt n s w.journal.list p a) stands is in
      subst (λ (a : Phase). CanAnswer (last_answer w a) (process w p).room) (sym stands) (told_there mine.2.0 mine.2.1 mine.2.2 (group_there n p group k s w.journal.list log mine))

  -- behind its end the log doesn't say that its group has a number
  pub answer_at_commit : (process w p).at ≡ Phase.Committing group k → 0 < group → StandsAt n s w.journal.list p (process w p).at → CanAnswer (last_answer w (process w p).at) (process w p).room
  answer_at_commit stands later is =
      let mine : StandsAt n s w.journal.list p (Phase.Committing group k) = subst (λ (a : Phase). StandsAt n s w.journal.list p a) stands is in
      subst (λ (a : Phase). CanAnswer (last_answer w a) (process w p).room) (sym stands) (told_there mine.2.0 mine.2.1 mine.2.2 later)
