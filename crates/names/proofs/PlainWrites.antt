-- What the write of a file that is no directory makes of the files.
use Rattle.std.proofs.Common.{◌≡◌, ℕ, true, eqb, List, length, take, set, Option, Some, None, Ok, Err, refl, sym, ap, subst, ◌∙◌, arith}
use Rattle.std.proofs.lemmas.Bool.{eqb-true}
use Rattle.std.proofs.lemmas.List.{take_all}
use Rattle.blocks.specs.Block.{overwritten}
use Rattle.blocks.specs.declared.disk.Disk.{Ghosts}
use Rattle.model.specs.declared.types.image.File.{File}
use Rattle.model.specs.declared.types.image.Form.{Form}
use Rattle.model.specs.declared.types.operations.Op.{Op}
use Rattle.model.specs.declared.types.operations.Op.TheVariants.{Write}
use Rattle.model.specs.declared.types.operations.Reply.{Reply}
use Rattle.model.specs.declared.types.operations.Reply.TheVariants.{Made, NoInode, Wrote, Bytes, Done, StatOf, NoFile, BadOffset, TooBig, TooLong, BadType}
use Rattle.model.specs.Files.{Files, file_in}
use Rattle.model.specs.Layout.{form_of}
use Rattle.model.specs.Lemmas.Replies.{wrote_done}
use Rattle.model.specs.Lemmas.Runs.{where_true_some}
use Rattle.model.specs.Operations.{after, after_refusal, after_at, is_refusal, may_have_written, refusal_of, with_bytes}
use Rattle.calls.specs.Stepping.{Plain}
use Rattle.names.specs.declared.writing.Unwritten.{Unwritten}
use Rattle.names.specs.declared.writing.Unwritten.TheVariants as unwritten
use Rattle.directories.specs.Counts.{StaysCounted}
use Rattle.names.specs.Inside.{files_seen, form_seen}
use Rattle.directories.specs.Trees.{IsDirectory, IsFile, IsTree}
use Rattle.names.specs.Writing.{reply_of, written, HasWritten, Outcome, WritesAs, WritesOf}
use Rattle.names.proofs.PlainFiles.{plain_by}
use Rattle.names.proofs.Staying.{stays_from, writes_stay}

-- ---- one that wrote was not refused

never_refused : (refusal : Reply) (k : ℕ) → is_refusal refusal (Wrote k) ≡ true → ⊥
never_refused (Made i) k h = absurd (cc h)
never_refused NoInode k h = absurd (cc h)
never_refused (Wrote j) k h = absurd (cc h)
never_refused (Bytes bytes) k h = absurd (cc h)
never_refused Done k h = absurd (cc h)
never_refused (StatOf kind links size) k h = absurd (cc h)
never_refused NoFile k h = absurd (cc h)
never_refused BadOffset k h = absurd (cc h)
never_refused TooBig k h = absurd (cc h)
never_refused TooLong k h = absurd (cc h)
never_refused BadType k h = absurd (cc h)

allowed_by : (files new : Files) (refusal : Option Reply) (op : Op) (k : ℕ) → after_refusal refusal files op (Wrote k) ≡ Some new → refusal ≡ None
allowed_by files new None op k h = refl
allowed_by files new (Some refusal) op k h = absurd (never_refused refusal k (where_true_some (is_refusal refusal (Wrote k)) files new h).0)

allowed : (form : Form) (files new : Files) (op : Op) (k : ℕ) → after form files op (Wrote k) ≡ Some new → refusal_of form files op ≡ None
unfolding after
allowed form files new op k h = allowed_by files new (refusal_of form files op) op k h

-- ---- one that told a cause was refused

never_done : (files new : Files) (i : ℕ) (o : Option File) (off : ℕ) (bytes : List ℕ) (cause : Unwritten) →
    after_at files i o (Write i off bytes) (reply_of cause) ≡ Some new → ⊥
never_done files new i None off bytes cause h = absurd (cc h)
never_done files new i (Some file) off bytes unwritten.TooLong h = absurd (cc h)
never_done files new i (Some file) off bytes unwritten.BadOffset h = absurd (cc h)
never_done files new i (Some file) off bytes unwritten.TooBig h = absurd (cc h)

long_is : (refusal : Reply) → is_refusal refusal TooLong ≡ true → refusal ≡ TooLong
long_is TooLong h = refl
long_is refusal h = absurd (cc h)

offset_is : (refusal : Reply) → is_refusal refusal BadOffset ≡ true → refusal ≡ BadOffset
offset_is BadOffset h = refl
offset_is refusal h = absurd (cc h)

big_is : (refusal : Reply) → is_refusal refusal TooBig ≡ true → refusal ≡ TooBig
big_is TooBig h = refl
big_is refusal h = absurd (cc h)

cause_is : (refusal : Reply) (cause : Unwritten) → is_refusal refusal (reply_of cause) ≡ true → refusal ≡ reply_of cause
cause_is refusal unwritten.TooLong h = long_is refusal h
cause_is refusal unwritten.BadOffset h = offset_is refusal h
cause_is refusal unwritten.TooBig h = big_is refusal h

refused_by : (files new : Files) (refusal : Option Reply) (i off : ℕ) (bytes : List ℕ) (cause : Unwritten) →
    after_refusal refusal files (Write i off bytes) (reply_of cause) ≡ Some new → (new ≡ files) × (refusal ≡ Some (reply_of cause))
refused_by files new None i off bytes cause h = absurd (never_done files new i (file_in files i) off bytes cause h)
refused_by files new (Some refusal) i off bytes cause h =
    let both = where_true_some (is_refusal refusal (reply_of cause)) files new h in
    (both.1, ap (λ (r : Reply). Some r) (cause_is refusal cause both.0))

refused : (form : Form) (files new : Files) (i off : ℕ) (bytes : List ℕ) (cause : Unwritten) →
    after form files (Write i off bytes) (reply_of cause) ≡ Some new → (new ≡ files) × (refusal_of form files (Write i off bytes) ≡ Some (reply_of cause))
unfolding after
refused form files new i off bytes cause h = refused_by files new (refusal_of form files (Write i off bytes)) i off bytes cause h

-- ---- what a reply tells

module _ (form : Form) (files new : Files) (i off : ℕ) (bytes : List ℕ) (file : File) (there : file_in files i ≡ Some file) where
  abbrev As : Outcome → Type 0
  As done = WritesAs form i off bytes file done files new

  whole : (k : ℕ) → k ≡ length bytes → after form files (Write i off bytes) (Wrote k) ≡ Some new → As (Ok tt)
  whole k all h =
      let done = wrote_done form files new (Write i off bytes) k h in
      let at : after_at files i (Some file) (Write i off bytes) (Wrote k) ≡ Some new =
      subst (λ (o : Option File). after_at files i o (Write i off bytes) (Wrote k) ≡ Some new) there done in
      let both = where_true_some (may_have_written (length file.bytes) off (length bytes) k) (set files i (with_bytes file (overwritten file.bytes off (take k bytes)))) new at in
      let cut : take k bytes ≡ bytes = take_all k bytes (omega (arith, all)) in (
        allowed form files new (Write i off bytes) k h,
        both.1 ∙ ap (λ (l : List ℕ). set files i (with_bytes file (overwritten file.bytes off l))) cut,
      )

  some_is : (a b : Outcome) → Some a ≡ Some b → a ≡ b
  some_is a b e = cc e

  pub told_writes : (reply : Reply) (done : Outcome) → after form files (Write i off bytes) reply ≡ Some new → Some done ≡ written reply (length bytes) → As done
  told_writes (Wrote k) done h told =
      let both = where_true_some (eqb k (length bytes)) (Ok tt) done (sym told) in
      subst As (sym both.1) (whole k (eqb-true k (length bytes) both.0) h)
  told_writes TooLong done h told = subst As (sym (some_is done (Err unwritten.TooLong) told)) (refused form files new i off bytes unwritten.TooLong h)
  told_writes BadOffset done h told = subst As (sym (some_is done (Err unwritten.BadOffset) told)) (refused form files new i off bytes unwritten.BadOffset h)
  told_writes TooBig done h told = subst As (sym (some_is done (Err unwritten.TooBig) told)) (refused form files new i off bytes unwritten.TooBig h)
  told_writes reply done h told = absurd (cc told)

-- ---- in a transaction

module _ {D N : Type 0} (disk : Ghosts D N) where
  pub writes_tree : (k a b : Plain D) (i off : ℕ) (bytes : List ℕ) (told : Option Outcome) → files_seen disk.image a ≡ files_seen disk.image k →
      HasWritten disk.image i off bytes a b told → IsTree (files_seen disk.image k) → (IsDirectory (files_seen disk.image k) i → ⊥) →
      StaysCounted (files_seen disk.image k) (files_seen disk.image b)
  writes_tree k a b i off bytes told same has tree plain =
      stays_from (files_seen disk.image k) (files_seen disk.image a) (files_seen disk.image b) same
      (writes_stay (form_seen disk.image a) (files_seen disk.image a) (files_seen disk.image b) i off bytes has.reply (subst (λ (f : Files). IsTree f) (sym same) tree)
      (λ is. plain (subst (λ (f : Files). IsDirectory f i) same is)) has.answers)

  pub writes_plain : (k a b : Plain D) (i off : ℕ) (bytes : List ℕ) (told : Option Outcome) (done : Outcome) → files_seen disk.image a ≡ files_seen disk.image k →
      a.opening ≡ k.opening → HasWritten disk.image i off bytes a b told → told ≡ Some done → IsFile (files_seen disk.image k) i →
      (IsDirectory (files_seen disk.image k) i → ⊥) →
      WritesOf (form_seen disk.image k) i off bytes done (files_seen disk.image k) (files_seen disk.image b)
  writes_plain k a b i off bytes told done same opening has is there plain =
      let fs : Files = files_seen disk.image k in
      let found = plain_by fs i there plain in
      let forms : form_seen disk.image a ≡ form_seen disk.image k = ap (λ (d : D). form_of (disk.image d)) opening in
      let h : after (form_seen disk.image k) fs (Write i off bytes) has.reply ≡ Some (files_seen disk.image b) =
      subst (λ (f : Form). after f fs (Write i off bytes) has.reply ≡ Some (files_seen disk.image b)) forms
      (subst (λ (f : Files). after (form_seen disk.image a) f (Write i off bytes) has.reply ≡ Some (files_seen disk.image b)) same has.answers) in
      record {
        file = found.0;
        plain = found.1;
        writes = told_writes (form_seen disk.image k) fs (files_seen disk.image b) i off bytes found.0 found.1.there has.reply done h (sym is ∙ has.is);
      }
