-- What an answered operation makes of the files, reply by reply.
use Rattle.std.proofs.Common.{◌≡◌, ◌≢◌, ℕ, ◌+◌, ◌≤◌, ◌⊎◌, Bool, true, false, cond, ltb, leb, List, [], ◌++◌, length, take, drop, set, Option, Some, None, refl, ap, subst, ◌∙◌, inl, inr, arith}
use Rattle.std.proofs.lemmas.Bool.{le-ltb, leb-true, ltb-true, and_parts}
use Rattle.std.proofs.lemmas.List.{take_all, append-nil}
use Rattle.std.proofs.Math.ListN.{drop_of_length-le}
use Rattle.blocks.specs.Block.{overwritten}
use Rattle.model.specs.declared.types.image.Form.{Form}
use Rattle.model.specs.declared.types.image.File.{File}
use Rattle.model.specs.declared.types.operations.Attribute.{Attribute}
use Rattle.model.specs.declared.types.operations.Attribute.TheVariants.{Links, Size}
use Rattle.model.specs.declared.types.operations.Op.{Op}
use Rattle.model.specs.declared.types.operations.Op.TheVariants.{Create, Write, Trunc, Remove, SetAttribute}
use Rattle.model.specs.declared.types.operations.Reply.{Reply}
use Rattle.model.specs.declared.types.operations.Reply.TheVariants.{Made, NoInode, Wrote, Done, BadOffset, TooBig, TooLong, BadType}
use Rattle.model.specs.Files.{Files, file_in}
use Rattle.model.specs.Layout.{greatest_size}
use Rattle.model.specs.Operations.{after, after_refusal, after_done, after_at, after_on, attribute_refusal, extension_refusal, is_within, may_have_added, write_refusal, no_file_refusal, is_kind, transfer_limit, may_have_written, with_attribute, with_bytes}
use Rattle.model.specs.Lemmas.Runs.{where_true_some}
use Rattle.calls.specs.Lemmas.Creations.{HasMade, done_makes}
use Rattle.calls.specs.Files.{without_bytes, with_value, with_more, emptied, files_set, appended, CanSet, MayAppend}

-- ---- a creation

created : (files : Files) (kind : ℕ) (reply : Reply) (new : Files) → after_done files (Create kind) reply ≡ Some new →
    ((i : ℕ) × (reply ≡ Made i) × HasMade files kind i new) ⊎ ((reply ≡ NoInode) × (new ≡ files))
created files kind (Made i) new h = inl (i, refl, done_makes files kind i new h)
created files kind NoInode new h = inr (refl, cc h)
created files kind reply new h = absurd (cc h)

pub after_creation : (form : Form) (files : Files) (kind : ℕ) (reply : Reply) (new : Files) → is_kind kind ≡ true →
    after form files (Create kind) reply ≡ Some new →
    ((i : ℕ) × (reply ≡ Made i) × HasMade files kind i new) ⊎ ((reply ≡ NoInode) × (new ≡ files))
unfolding after
after_creation form files kind reply new is h =
    created files kind reply new
    (subst (λ (b : Bool). after_refusal (cond b None (Some BadType)) files (Create kind) reply ≡ Some new) is h)

-- ---- what is done to a file that is there

-- it isn't refused
allowed : (files : Files) (o : Option File) (op : Op) (reply : Reply) (new : Files) → o ≢ None →
    after_refusal (no_file_refusal o) files op reply ≡ Some new → after_done files op reply ≡ Some new
allowed files None op reply new there h = absurd (there refl)
allowed files (Some file) op reply new there h = h

removed_on : (files : Files) (i : ℕ) (file : File) (reply : Reply) (new : Files) →
    after_on files i file (Remove i) reply ≡ Some new → (reply ≡ Done) × (new ≡ set files i None)
removed_on files i file Done new h = (refl, cc h)
removed_on files i file reply new h = absurd (cc h)

removed : (files : Files) (i : ℕ) (o : Option File) (reply : Reply) (new : Files) →
    after_at files i o (Remove i) reply ≡ Some new → (reply ≡ Done) × (new ≡ set files i None)
removed files i None reply new h = absurd (cc h)
removed files i (Some file) reply new h = removed_on files i file reply new h

pub after_removal : (form : Form) (files : Files) (i : ℕ) (reply : Reply) (new : Files) → file_in files i ≢ None →
    after form files (Remove i) reply ≡ Some new → (reply ≡ Done) × (new ≡ set files i None)
unfolding after
after_removal form files i reply new there h =
    removed files i (file_in files i) reply new (allowed files (file_in files i) (Remove i) reply new there h)

emptied_on : (files : Files) (i : ℕ) (file : File) (reply : Reply) (new : Files) →
    after_on files i file (Trunc i) reply ≡ Some new → (reply ≡ Done) × (new ≡ set files i (with_bytes file []))
emptied_on files i file Done new h = (refl, cc h)
emptied_on files i file reply new h = absurd (cc h)

emptied_at : (files : Files) (i : ℕ) (o : Option File) (reply : Reply) (new : Files) →
    after_at files i o (Trunc i) reply ≡ Some new → (reply ≡ Done) × (new ≡ set files i (without_bytes o))
emptied_at files i None reply new h = absurd (cc h)
emptied_at files i (Some file) reply new h = emptied_on files i file reply new h

pub after_emptying : (form : Form) (files : Files) (i : ℕ) (reply : Reply) (new : Files) → file_in files i ≢ None →
    after form files (Trunc i) reply ≡ Some new → (reply ≡ Done) × (new ≡ emptied files i)
unfolding after
after_emptying form files i reply new there h =
    emptied_at files i (file_in files i) reply new (allowed files (file_in files i) (Trunc i) reply new there h)

-- no zeroes are added to a file that gets no longer
none_added : (k : ℕ) (a : Attribute) (file : File) → CanSet (Some file) a → may_have_added (length file.bytes) a k ≡ true → ⊥
none_added k (Links n) file can may = absurd (cc may)
none_added k (Size n) file can may =
    let longer = ltb-true (length file.bytes) n (and_parts (ltb (length file.bytes) n) _ may).0 in omega (arith, longer, can)

set_on : (files : Files) (i : ℕ) (a : Attribute) (file : File) (reply : Reply) (new : Files) → CanSet (Some file) a →
    after_on files i file (SetAttribute i a) reply ≡ Some new → (reply ≡ Done) × (new ≡ set files i (Some (with_attribute file a)))
set_on files i a file Done new can h = (refl, (where_true_some (is_within (length file.bytes) a) _ new h).1)
set_on files i a file (Wrote k) new can h = absurd (none_added k a file can (where_true_some (may_have_added (length file.bytes) a k) _ new h).0)
set_on files i a file reply new can h = absurd (cc h)

set_at : (files : Files) (i : ℕ) (a : Attribute) (o : Option File) (reply : Reply) (new : Files) → CanSet o a →
    after_at files i o (SetAttribute i a) reply ≡ Some new → (reply ≡ Done) × (new ≡ set files i (with_value o a))
set_at files i a None reply new can h = absurd can
set_at files i a (Some file) reply new can h = set_on files i a file reply new can h

-- a value that can be set isn't refused
not_refused : (form : Form) (files : Files) (i : ℕ) (o : Option File) (a : Attribute) (reply : Reply) (new : Files) → CanSet o a →
    after_refusal (attribute_refusal form o a) files (SetAttribute i a) reply ≡ Some new → after_done files (SetAttribute i a) reply ≡ Some new
not_refused form files i None a reply new can h = absurd can
not_refused form files i (Some file) (Links n) reply new can h = h
not_refused form files i (Some file) (Size n) reply new can h =
    subst (λ (b : Bool). after_refusal (cond b (extension_refusal form (length file.bytes) n) None) files (SetAttribute i (Size n)) reply ≡ Some new)
    (le-ltb (length file.bytes) n can) h

-- links can be set of any file
pub can_links : (o : Option File) (n : ℕ) → o ≢ None → CanSet o (Links n)
can_links None n there = absurd (there refl)
can_links (Some file) n there = tt

pub after_setting : (form : Form) (files : Files) (i : ℕ) (a : Attribute) (reply : Reply) (new : Files) → CanSet (file_in files i) a →
    after form files (SetAttribute i a) reply ≡ Some new → (reply ≡ Done) × (new ≡ files_set files i a)
unfolding after
after_setting form files i a reply new can h =
    set_at files i a (file_in files i) reply new can (not_refused form files i (file_in files i) a reply new can h)

-- ---- a write at a file's end

-- the first of these bytes were written, at the end of the file of number i
pub record HasWritten (files : Files) (i : ℕ) (bytes : List ℕ) (count : ℕ) (new : Files) : Type 0 where
  pub few : count ≤ length bytes
  pub made : new ≡ appended files i (take count bytes)

-- bytes that are written over the end of others come behind them
overwritten-end : (old : List ℕ) (off : ℕ) (bytes : List ℕ) → length old ≡ off → overwritten old off bytes ≡ old ++ bytes
overwritten-end old off bytes end =
    let kept : take off old ≡ old = take_all off old (omega arith) in
    let none : drop (off + length bytes) old ≡ [] = drop_of_length-le old (omega arith) in
    rw (kept, none, append-nil) refl

written_on : (files : Files) (i off : ℕ) (bytes : List ℕ) (file : File) (reply : Reply) (new : Files) → length file.bytes ≡ off →
    after_on files i file (Write i off bytes) reply ≡ Some new →
    (k : ℕ) × (reply ≡ Wrote k) × (k ≤ length bytes) × (new ≡ set files i (with_bytes file (file.bytes ++ take k bytes)))
written_on files i off bytes file (Wrote k) new end h =
    let done = where_true_some (may_have_written (length file.bytes) off (length bytes) k) _ new h in
    let few = (and_parts (leb k (length bytes)) _ done.0).0 in (
      k,
      refl,
      leb-true k (length bytes) few,
      done.1 ∙ ap (λ (b : List ℕ). set files i (with_bytes file b)) (overwritten-end file.bytes off (take k bytes) end),
    )
written_on files i off bytes file reply new end h = absurd (cc h)

written : (form : Form) (files : Files) (i off : ℕ) (bytes : List ℕ) (o : Option File) (reply : Reply) (new : Files) →
    file_in files i ≡ o → MayAppend form o off (length bytes) →
    after_refusal (write_refusal form o off (length bytes)) files (Write i off bytes) reply ≡ Some new →
    (k : ℕ) × (reply ≡ Wrote k) × (k ≤ length bytes) × (new ≡ set files i (with_more o (take k bytes)))
written form files i off bytes None reply new is room h = absurd (cc room.size)
written form files i off bytes (Some file) reply new is room h =
    let end : length file.bytes ≡ off = cc room.size in
    let short = room.short in
    let inside : ltb (length file.bytes) off ≡ false = le-ltb (length file.bytes) off (omega arith) in
    let small : ltb (greatest_size form) (off + length bytes) ≡ false = le-ltb (greatest_size form) (off + length bytes) short in
    let first = subst (λ (b : Bool). after_refusal (cond b (Some BadOffset) (cond (ltb (greatest_size form) (off + length bytes)) (Some TooBig) None)) files (Write i off bytes) reply ≡ Some new) inside h in
    let second = subst (λ (b : Bool). after_refusal (cond b (Some TooBig) None) files (Write i off bytes) reply ≡ Some new) small first in
    written_on files i off bytes file reply new end
    (subst (λ (f : Option File). after_at files i f (Write i off bytes) reply ≡ Some new) is second)

pub after_write : (form : Form) (files : Files) (i off : ℕ) (bytes : List ℕ) (reply : Reply) (new : Files) →
    MayAppend form (file_in files i) off (length bytes) → after form files (Write i off bytes) reply ≡ Some new →
    (k : ℕ) × (reply ≡ Wrote k) × HasWritten files i bytes k new
unfolding after
after_write form files i off bytes reply new room h =
    let few : ltb transfer_limit (length bytes) ≡ false = le-ltb transfer_limit (length bytes) room.few in
    let allowed = subst (λ (b : Bool). after_refusal (cond b (Some TooLong) (write_refusal form (file_in files i) off (length bytes))) files (Write i off bytes) reply ≡ Some new) few h in
    let (k, is, below, made) = written form files i off bytes (file_in files i) reply new refl room allowed in
    (k, is, record { few = below; made = made })
