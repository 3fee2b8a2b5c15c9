-- The files that a journal tells.
use Rattle.std.proofs.Common.{◌≡◌, ◌∙◌, suc, ℕ, Bool, true, false, cond, ◌||◌, List, [], ◌∷◌, ◌++◌, length, Option, Some, None, refl, sym, ap, subst, arith}
use Rattle.std.specs.Prelude.{IfNone, is_some}
use Rattle.blocks.specs.Disk.{Image}
use Rattle.blocks.specs.declared.disk.Disk.{Ghosts}
use Rattle.model.specs.declared.types.operations.Entry.{Entry}
use Rattle.model.specs.declared.types.operations.Op.{Op}
use Rattle.model.specs.declared.types.operations.Reply.{Reply}
use Rattle.model.specs.Crash.{due_labels, labels_of}
use Rattle.model.specs.Files.{Files, files_of}
use Rattle.model.specs.Journal.{answered, is_making, replay}
use Rattle.model.specs.Layout.{form_of}
use Rattle.model.specs.Lemmas.FileNumbers.{length-files_of}
use Rattle.model.specs.Lemmas.Runs.{count_stays}
use Rattle.model.specs.Operations.{after}
use Rattle.wal.specs.declared.types.DeviceFault.{DeviceFault}
use Rattle.inodes.specs.Store.{FitsFiles}
use Rattle.history.specs.declared.types.Phase.TheVariants as at
use Rattle.history.specs.Lemmas.Making.{makes, makes_more}
use Rattle.history.specs.Open.{IsEntry}
use Rattle.history.specs.Processes.{World, process}
use Rattle.kernel.specs.Known.{IsCurrent, Known}
use Rattle.calls.specs.Lemmas.Entries.{one_entry}
use Rattle.calls.specs.Stepping.{Plain, plain_herald, plain_queues}
use Rattle.calls.specs.Transactions.{HasFiles, labels_after, labels_made}
use Rattle.calls.proofs.Counting.{IsFree}

none_behind : (w : World) (q group place : ℕ) → IsFree (process w q).at → (process w q).at ≡ at.AfterTurn group place → ⊥
none_behind w q group place free behind = let there : IsFree (at.AfterTurn group place) = subst IsFree behind free in there

all_replied : (es : List Entry) → ((k : ℕ) (e : Entry) → IsEntry es k e → e.reply ≡ None → ⊥) → answered es ≡ es
all_replied [] none = refl
all_replied (e ∷ es) none = by_reply e.reply refl (all_replied es (λ k f there is. none (suc k) f (record { inside = (let lt = there.inside in omega (arith, lt)); is = there.is }) is))
  where
    by_reply : (o : Option Reply) → e.reply ≡ o → answered es ≡ es → answered (e ∷ es) ≡ e ∷ es
    by_reply None is rest = absurd (none 0 e (record { inside = omega arith; is = refl }) is)
    by_reply (Some r) is rest = ap (λ (o : Option Reply). cond (is_some o) (e ∷ answered es) (answered es)) is ∙ ap (λ (l : List Entry). e ∷ l) rest

-- where no operation is behind its turn, each entry has its reply
pub all_told : {D N : Type 0} (disk : Ghosts D N) (k : Plain D) → Known disk plain_queues plain_herald k → ((p : ℕ) → IsFree (process k.world p).at) → answered k.world.journal.list ≡ k.world.journal.list
all_told disk k known free = all_replied k.world.journal.list (λ j e there none. (let under = known.unanswered j e there none in none_behind k.world e.pid under.group j (free e.pid) under.behind))

-- and the journal tells the files
pub told_files : {D N : Type 0} (disk : Ghosts D N) (k : Plain D) → Known disk plain_queues plain_herald k → ((p : ℕ) → IsFree (process k.world p).at) → (f : Files) × HasFiles disk.image k f
told_files disk k known free = (
  known.replays.files,
  record { run = ap (λ (l : List Entry). replay (form_of (disk.image k.opening)) (files_of (disk.image k.opening)) l) (sym (all_told disk k known free)) ∙ known.replays.run },
)

-- the current image stands for them
pub stands_for : {D N : Type 0} (disk : Ghosts D N) (k : Plain D) → Known disk plain_queues plain_herald k → ((p : ℕ) → IsFree (process k.world p).at) → k.store.volume.fault ≡ None → (f : Files) → HasFiles disk.image k f → FitsFiles disk.image k.store f
stands_for disk k known free well f has =
    let current : IsCurrent disk.image k = subst (λ (o : Option DeviceFault). IfNone o (IsCurrent disk.image k)) well known.current in
    current.stands f (ap (λ (l : List Entry). replay (form_of (disk.image k.opening)) (files_of (disk.image k.opening)) l) (all_told disk k known free) ∙ has.run)

-- and there are as many as numbers
pub counts_files : {D N : Type 0} (disk : Ghosts D N) (k : Plain D) → Known disk plain_queues plain_herald k → (f : Files) → HasFiles disk.image k f → k.store.table.inode_count ≡ length f
counts_files disk k known f has =
    let o = disk.image k.opening in
    known.numbers ∙ sym (length-files_of o) ∙ sym (count_stays (form_of o) (files_of o) f k.world.journal.list has.run)

-- the files with one operation more
pub files_then : {D N : Type 0} (disk : Ghosts D N) (k m : Plain D) (e : Entry) (op : Op) (r : Reply) → m.opening ≡ k.opening → m.world.journal.list ≡ k.world.journal.list ++ e ∷ [] → e.op ≡ op → e.reply ≡ Some r → (f g : Files) → HasFiles disk.image k f → HasFiles disk.image m g → after (form_of (disk.image k.opening)) f op r ≡ Some g
files_then {D} disk k m e op r opening list same replied f g was now =
    let form = form_of (disk.image k.opening) in
    let start = files_of (disk.image k.opening) in
    let es = k.world.journal.list in
    let run : replay form start (es ++ e ∷ []) ≡ Some g
    = subst (λ (d : D). replay (form_of (disk.image d)) (files_of (disk.image d)) (es ++ e ∷ []) ≡ Some g) opening
    (subst (λ (l : List Entry). replay (form_of (disk.image m.opening)) (files_of (disk.image m.opening)) l ≡ Some g) list now.run) in
    subst (λ (o : Op). after form f o r ≡ Some g) same (one_entry form start f g es e r was.run replied run)

-- and the labels
pub labels_then_made : {D : Type 0} (image : D → Image) (k m : Plain D) (e : Entry) (r : Reply) → m.opening ≡ k.opening → m.world.journal.list ≡ k.world.journal.list ++ e ∷ [] → e.reply ≡ Some r → (i : ℕ) → labels_made image m i ≡ labels_after r i (labels_made image k i)
labels_then_made {D} image k m e r opening list replied i =
    let es = k.world.journal.list in
    ap (λ (d : D). due_labels (image d) m.world.journal.list i) opening ∙ ap (λ (l : List Entry). due_labels (image k.opening) l i) list
    ∙ ap (λ (b : Bool). cond b (0, 0) (labels_of (image k.opening) i)) (makes_more i es e ∙ ap (λ (o : Option Reply). is_making i o || makes i es) replied)
    ∙ by (is_making i (Some r)) (makes i es)
  where
    by : (a b : Bool) → cond (a || b) (0, 0) (labels_of (image k.opening) i) ≡ cond a (0, 0) (cond b (0, 0) (labels_of (image k.opening) i))
    by true b = refl
    by false b = refl
