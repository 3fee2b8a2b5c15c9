-- A name that was linked stays, whatever later operations are kept that spare its entry.
use Rattle.std.proofs.Common.{replicate, leb, inl, inr, ◌-◌, ◌≡◌, ◌≢◌, ◌⊎◌, ℕ, ◌+◌, ◌*◌, ◌<◌, ◌≤◌, Bool, true, false, cond, ◌&&◌, ltb, List, [], ◌∷◌, ◌++◌, length, take, get_or, set, Option, Some, None, refl, sym, ap, subst, ◌∙◌, ⊎_elim, arith}
use Rattle.std.specs.Prelude.{is_none}
use Rattle.std.proofs.lemmas.Bool.{leb-true, ltb-false, ltb-true, and_parts, both_ways}
use Rattle.std.proofs.lemmas.List.{get_or-set_same, get_or-set_other, length-append, length-replicate, length-take, take_all}
use Rattle.blocks.specs.Block.{overwritten}
use Rattle.model.specs.declared.types.image.File.{File}
use Rattle.model.specs.declared.types.image.Form.{Form}
use Rattle.model.specs.declared.types.operations.Entry.{Entry}
use Rattle.model.specs.declared.types.operations.Attribute.{Attribute}
use Rattle.model.specs.declared.types.operations.Op.{Op}
use Rattle.model.specs.declared.types.operations.Op.TheVariants.{Create, Write, Read, Trunc, Remove, Stat}
use Rattle.model.specs.declared.types.operations.Reply.{Reply}
use Rattle.model.specs.declared.types.operations.Reply.TheVariants.{Made, NoInode, Wrote, Bytes, Done, StatOf, BadOffset, TooBig, TooLong}
use Rattle.model.specs.Files.{Files, file_in, files_of}
use Rattle.model.specs.Journal.{replay, and_then, after_answer}
use Rattle.model.specs.Layout.{form_of, greatest_size}
use Rattle.model.specs.Lemmas.Runs.{where_true_some, and_then_some, replays_in_parts}
use Rattle.model.specs.Lemmas.Replies.{after_cases, wrote_done}
use Rattle.model.specs.Lemmas.FileNumbers.{below_file}
use Rattle.model.specs.Log.{recovered}
use Rattle.model.specs.Operations.{after, after_done, after_create, after_at, after_on, refusal_of, write_refusal, may_have_written, with_bytes}
use Rattle.directories.specs.declared.entries.EntryWrite.{EntryWrite}
use Rattle.directories.specs.Entries.{entries_of, number_in, is_for}
use Rattle.directories.specs.Writes.{written, Links}
use Rattle.directories.specs.Laws.{IsElsewhere, WritesOther, AreSparing, CommittedNamesLead}
use Rattle.directories.specs.Lemmas.Standing.{StandsAt, puts_keeps, lookup_at}
use Rattle.directories.specs.Lemmas.Chunks.{puts_entry}
use Rattle.directories.specs.Lemmas.EntryBytes.{length-entry_bytes}
use Rattle.directories.specs.Lemmas.Changes.{link_stands, link_number}
use Rattle.directories.specs.Lemmas.EntryWrites.{nothing_written, whole_entry}

-- ---- what an operation makes of the files

pub at_cases : (files new : Files) (i : ℕ) (o : Option File) (op : Op) (reply : Reply) → after_at files i o op reply ≡ Some new →
    (file : File) × (o ≡ Some file) × (after_on files i file op reply ≡ Some new)
at_cases files new i None op reply h = absurd (cc h)
at_cases files new i (Some file) op reply h = (file, refl, h)

pub write_on : (files new : Files) (i : ℕ) (file : File) (j off : ℕ) (bytes : List ℕ) (reply : Reply) →
    after_on files i file (Write j off bytes) reply ≡ Some new →
    (k : ℕ) × (may_have_written (length file.bytes) off (length bytes) k ≡ true)
    × (new ≡ set files i (with_bytes file (overwritten file.bytes off (take k bytes))))
write_on files new i file j off bytes (Wrote k) h =
    let both = where_true_some (may_have_written (length file.bytes) off (length bytes) k)
    (set files i (with_bytes file (overwritten file.bytes off (take k bytes)))) new h in
    (k, both.0, both.1)
write_on files new i file j off bytes reply h = absurd (cc h)

pub read_on : (files new : Files) (i : ℕ) (file : File) (j off n : ℕ) (reply : Reply) → after_on files i file (Read j off n) reply ≡ Some new →
    new ≡ files
read_on files new i file j off n (Bytes bytes) h = (where_true_some _ files new h).1
read_on files new i file j off n reply h = absurd (cc h)

pub trunc_on : (files new : Files) (i : ℕ) (file : File) (j : ℕ) (reply : Reply) → after_on files i file (Trunc j) reply ≡ Some new →
    new ≡ set files i (with_bytes file [])
trunc_on files new i file j Done h = (where_true_some true (set files i (with_bytes file [])) new h).1
trunc_on files new i file j reply h = absurd (cc h)

pub remove_on : (files new : Files) (i : ℕ) (file : File) (j : ℕ) (reply : Reply) → after_on files i file (Remove j) reply ≡ Some new →
    new ≡ set files i None
remove_on files new i file j Done h = (where_true_some true (set files i None) new h).1
remove_on files new i file j reply h = absurd (cc h)

pub stat_on : (files new : Files) (i : ℕ) (file : File) (j : ℕ) (reply : Reply) → after_on files i file (Stat j) reply ≡ Some new →
    new ≡ files
stat_on files new i file j (StatOf kind links size) h = (where_true_some _ files new h).1
stat_on files new i file j reply h = absurd (cc h)

pub links_on : (files new : Files) (i : ℕ) (file : File) (j n : ℕ) (reply : Reply) → after_on files i file (Op.SetAttribute j (Attribute.Links n)) reply ≡ Some new →
    new ≡ set files i (Some (record file { links = n }))
links_on files new i file j n Done h = (where_true_some true (set files i (Some (record file { links = n }))) new h).1
links_on files new i file j n (Wrote k) h = absurd (cc h)
links_on files new i file j n reply h = absurd (cc h)

-- a file that was set to n bytes: it has no more of them, or it got longer
pub record IsSized (file : File) (n : ℕ) (bytes : List ℕ) : Type 0 where
  pub size : (length bytes ≤ length file.bytes) ⊎ ((length file.bytes < n) × (length bytes ≤ n))

pub size_on : (files new : Files) (i : ℕ) (file : File) (j n : ℕ) (reply : Reply) → after_on files i file (Op.SetAttribute j (Attribute.Size n)) reply ≡ Some new →
    (bytes : List ℕ) × (new ≡ set files i (with_bytes file bytes)) × IsSized file n bytes
size_on files new i file j n Done h =
    let done = where_true_some (leb n (length file.bytes)) (set files i (with_bytes file (take n file.bytes))) new h in
    (take n file.bytes, done.1, record { size = inl (omega (arith, (length-take n file.bytes))) })
size_on files new i file j n (Wrote k) h =
    let done = where_true_some (ltb (length file.bytes) n && may_have_written (length file.bytes) (length file.bytes) (n - length file.bytes) k) (set files i (with_bytes file (file.bytes ++ replicate k 0))) new h in
    let both = and_parts (ltb (length file.bytes) n) (may_have_written (length file.bytes) (length file.bytes) (n - length file.bytes) k) done.0 in
    let longer : length file.bytes < n = ltb-true (length file.bytes) n both.0 in
    let few : k ≤ n - length file.bytes = leb-true k (n - length file.bytes) (and_parts (leb k (n - length file.bytes)) _ both.1).0 in (
      file.bytes ++ replicate k 0,
      done.1,
      record { size = inr (longer, omega (arith, longer, few, (length-append file.bytes (replicate k 0)), (length-replicate {A = ℕ} k 0))) },
    )
size_on files new i file j n reply h = absurd (cc h)

-- ---- operations elsewhere leave the directory

elsewhere : (files new : Files) (i : ℕ) (f : Option File) → i ≢ 1 → new ≡ set files i f → file_in new 1 ≡ file_in files 1
elsewhere files new i f ne e = ap (λ (l : Files). file_in l 1) e ∙ get_or-set_other files i 1 f None (λ same. ne (sym same))

create_elsewhere : (files new : Files) (d : File) (kind : ℕ) (reply : Reply) → file_in files 1 ≡ Some d →
    after_create files kind reply ≡ Some new → file_in new 1 ≡ file_in files 1
create_elsewhere files new d kind (Made i) is h =
    let made = where_true_some (ltb 0 i && ltb i (length files) && is_none (file_in files i))
    (set files i (Some (record { kind = kind; links = 1; bytes = [] }))) new h in
    let free = (and_parts (ltb 0 i && ltb i (length files)) (is_none (file_in files i)) made.0).1 in
    elsewhere files new i (Some (record { kind = kind; links = 1; bytes = [] }))
    (λ same. both_ways (is_none (file_in files i)) (ap (λ (j : ℕ). is_none (file_in files j)) same ∙ ap (λ (o : Option File). is_none o) is) free)
    made.1
create_elsewhere files new d kind NoInode is h = let e : files ≡ new = cc h in ap (λ (l : Files). file_in l 1) (sym e)
create_elsewhere files new d kind reply is h = absurd (cc h)

done_elsewhere : (files new : Files) (d : File) (op : Op) (reply : Reply) → file_in files 1 ≡ Some d → IsElsewhere op →
    after_done files op reply ≡ Some new → file_in new 1 ≡ file_in files 1
done_elsewhere files new d (Create kind) reply is apart h = create_elsewhere files new d kind reply is h
done_elsewhere files new d (Write i off bytes) reply is apart h =
    let on = at_cases files new i (file_in files i) (Write i off bytes) reply h in
    elsewhere files new i _ apart (write_on files new i on.0 i off bytes reply on.2).2
done_elsewhere files new d (Read i off n) reply is apart h =
    let on = at_cases files new i (file_in files i) (Read i off n) reply h in
    ap (λ (l : Files). file_in l 1) (read_on files new i on.0 i off n reply on.2)
done_elsewhere files new d (Trunc i) reply is apart h =
    let on = at_cases files new i (file_in files i) (Trunc i) reply h in
    elsewhere files new i _ apart (trunc_on files new i on.0 i reply on.2)
done_elsewhere files new d (Remove i) reply is apart h =
    let on = at_cases files new i (file_in files i) (Remove i) reply h in
    elsewhere files new i None apart (remove_on files new i on.0 i reply on.2)
done_elsewhere files new d (Stat i) reply is apart h =
    let on = at_cases files new i (file_in files i) (Stat i) reply h in
    ap (λ (l : Files). file_in l 1) (stat_on files new i on.0 i reply on.2)
done_elsewhere files new d (Op.SetAttribute i (Attribute.Links n)) reply is apart h =
    let on = at_cases files new i (file_in files i) (Op.SetAttribute i (Attribute.Links n)) reply h in
    elsewhere files new i _ apart (links_on files new i on.0 i n reply on.2)
done_elsewhere files new d (Op.SetAttribute i (Attribute.Size n)) reply is apart h =
    let on = at_cases files new i (file_in files i) (Op.SetAttribute i (Attribute.Size n)) reply h in
    elsewhere files new i _ apart (size_on files new i on.0 i n reply on.2).1

-- ---- writes of entries

pub not_refused : (b : Bool) (refusal : Reply) (rest : Option Reply) → cond b (Some refusal) rest ≡ None → (b ≡ false) × (rest ≡ None)
not_refused true refusal rest h = absurd (cc h)
not_refused false refusal rest h = (refl, h)

-- a write that isn't refused begins in the file
begins_within : (form : Form) (files : Files) (d : File) (off : ℕ) (bytes : List ℕ) → file_in files 1 ≡ Some d →
    refusal_of form files (Write 1 off bytes) ≡ None → off ≤ length d.bytes
begins_within form files d off bytes is h =
    let later = not_refused (ltb 3072 (length bytes)) TooLong (write_refusal form (file_in files 1) off (length bytes)) h in
    let here = not_refused (ltb (length d.bytes) off) BadOffset (cond (ltb (greatest_size form) (off + length bytes)) (Some TooBig) None)
    (subst (λ (o : Option File). write_refusal form o off (length bytes) ≡ None) is later.1) in
    ltb-false (length d.bytes) off here.0

pub all_written : (old : List ℕ) (at k : ℕ) (entry : List ℕ) → length entry ≡ 16 → k ≡ 16 → overwritten old at (take k entry) ≡ overwritten old at entry
all_written old at k entry size all =
    ap (λ (l : List ℕ). overwritten old at l) (ap (λ (i : ℕ). take i entry) all ∙ take_all 16 entry (omega arith))

-- ---- what stays

-- There is a directory, in which the first entry of the name is at a place, and has that number.
record Holds (files : Files) (name : List ℕ) (number place : ℕ) : Type 0 where
  directory : File
  is : file_in files 1 ≡ Some directory
  stands : StandsAt (is_for name) (entries_of directory.bytes) place
  number_is : number_in (get_or (entries_of directory.bytes) place []) ≡ number

holds_same : (files new : Files) (name : List ℕ) (number place : ℕ) → Holds files name number place →
    file_in new 1 ≡ file_in files 1 → Holds new name number place
holds_same files new name number place holds e = record {
  directory = holds.directory;
  is = e ∙ holds.is;
  stands = holds.stands;
  number_is = holds.number_is;
}

holds_bytes : (files new : Files) (name : List ℕ) (number place : ℕ) (d : File) (bytes : List ℕ) → 1 < length files →
    new ≡ set files 1 (with_bytes d bytes) → StandsAt (is_for name) (entries_of bytes) place →
    number_in (get_or (entries_of bytes) place []) ≡ number → Holds new name number place
holds_bytes files new name number place d bytes inside e stands number_is = record {
  directory = record d { bytes = bytes };
  is = ap (λ (l : Files). file_in l 1) e ∙ get_or-set_same files 1 (with_bytes d bytes) None inside;
  stands = stands;
  number_is = number_is;
}

-- another entry was written, which hasn't the name
holds_written : (files new : Files) (name : List ℕ) (number place other : ℕ) (entry : List ℕ) → (holds : Holds files name number place) →
    other ≢ place → length entry ≡ 16 → is_for name entry ≡ false → 16 * other ≤ length holds.directory.bytes →
    new ≡ set files 1 (with_bytes holds.directory (overwritten holds.directory.bytes (16 * other) entry)) → Holds new name number place
holds_written files new name number place other entry holds apart size fails fits e =
    let puts = puts_entry holds.directory.bytes other entry fits size in
    let apart_from : place ≢ other = λ same. apart (sym same) in
    holds_bytes files new name number place holds.directory (overwritten holds.directory.bytes (16 * other) entry)
    (below_file files 1 holds.directory holds.is) e
    (puts_keeps (is_for name) (entries_of holds.directory.bytes) (entries_of (overwritten holds.directory.bytes (16 * other) entry))
    other entry puts fails place apart_from holds.stands)
    (ap number_in (puts.others place holds.stands.within apart_from) ∙ holds.number_is)

holds_other : (form : Form) (files new : Files) (name : List ℕ) (number place other : ℕ) (entry : List ℕ) (reply : Reply) →
    (holds : Holds files name number place) → other ≢ place → length entry ≡ 16 → is_for name entry ≡ false →
    refusal_of form files (Write 1 (16 * other) entry) ≡ None →
    after_done files (Write 1 (16 * other) entry) reply ≡ Some new → Holds new name number place
holds_other form files new name number place other entry reply holds apart size fails allowed h =
    let d : File = holds.directory in
    let wrote = write_on files new 1 d 1 (16 * other) entry reply
    (subst (λ (o : Option File). after_at files 1 o (Write 1 (16 * other) entry) reply ≡ Some new) holds.is h) in
    let fits = begins_within form files d (16 * other) entry holds.is allowed in
    ⊎_elim
    (λ (none : wrote.0 ≡ 0).
    holds_bytes files new name number place d d.bytes (below_file files 1 d holds.is)
    (wrote.2 ∙ ap (λ (b : List ℕ). set files 1 (with_bytes d b)) (nothing_written d.bytes (16 * other) wrote.0 entry none))
    holds.stands holds.number_is)
    (λ (all : wrote.0 ≡ 16).
    holds_written files new name number place other entry holds apart size fails fits
    (wrote.2 ∙ ap (λ (b : List ℕ). set files 1 (with_bytes d b)) (all_written d.bytes (16 * other) wrote.0 entry size all)))
    (whole_entry (length d.bytes) other (length entry) wrote.0 size wrote.1)

holds_done : (form : Form) (files new : Files) (name : List ℕ) (number place : ℕ) (op : Op) (reply : Reply) → Holds files name number place →
    (IsElsewhere op ⊎ WritesOther place name op) → refusal_of form files op ≡ None → after_done files op reply ≡ Some new →
    Holds new name number place
holds_done form files new name number place op reply holds spares allowed h =
    ⊎_elim
    (λ (away : IsElsewhere op). holds_same files new name number place holds (done_elsewhere files new holds.directory op reply holds.is away h))
    (λ (w : WritesOther place name op).
    holds_other form files new name number place w.other w.entry reply holds w.apart w.size w.unnamed
    (subst (λ (o : Op). refusal_of form files o ≡ None) w.op_is allowed)
    (subst (λ (o : Op). after_done files o reply ≡ Some new) w.op_is h)) spares

holds_step : (form : Form) (files new : Files) (name : List ℕ) (number place : ℕ) (op : Op) (reply : Option Reply) →
    Holds files name number place → (IsElsewhere op ⊎ WritesOther place name op) → after_answer form files op reply ≡ Some new →
    Holds new name number place
holds_step form files new name number place op None holds spares h = absurd (cc h)
holds_step form files new name number place op (Some reply) holds spares h =
    ⊎_elim
    (λ (same : new ≡ files). holds_same files new name number place holds (ap (λ (l : Files). file_in l 1) same))
    (λ (done : (refusal_of form files op ≡ None) × (after_done files op reply ≡ Some new)).
    holds_done form files new name number place op reply holds spares done.0 done.1)
    (after_cases form files new op reply h)

holds_along : (form : Form) (files new : Files) (name : List ℕ) (number place : ℕ) (later : List Entry) → Holds files name number place →
    AreSparing place name later → replay form files later ≡ Some new → Holds new name number place
holds_along form files new name number place [] holds spared h =
    let e : files ≡ new = cc h in subst (λ (f : Files). Holds f name number place) e holds
holds_along form files new name number place (e ∷ es) holds spared h =
    let first = and_then_some (after_answer form files e.op e.reply) (λ f. replay form f es) new h in
    holds_along form first.0 new name number place es
    (holds_step form files first.0 name number place e.op e.reply holds spared.0 first.1) spared.1 first.2

-- ---- the link

holds_linked : (form : Form) (files new : Files) (name : List ℕ) (number : ℕ) (d : File) (write : EntryWrite) → file_in files 1 ≡ Some d →
    Links d.bytes name number write → after form files (Write 1 (16 * write.place) write.entry) (Wrote 16) ≡ Some new →
    Holds new name number write.place
holds_linked form files new name number d write is links h =
    let done = wrote_done form files new (Write 1 (16 * write.place) write.entry) 16 h in
    let there = where_true_some (may_have_written (length d.bytes) (16 * write.place) (length write.entry) 16)
    (set files 1 (with_bytes d (overwritten d.bytes (16 * write.place) (take 16 write.entry)))) new
    (subst (λ (o : Option File). after_at files 1 o (Write 1 (16 * write.place) write.entry) (Wrote 16) ≡ Some new) is done) in
    let size : length write.entry ≡ 16 = ap length links.entry ∙ length-entry_bytes number name links.stored in
    holds_bytes files new name number write.place d (written d.bytes write) (below_file files 1 d is)
    (there.1 ∙ ap (λ (b : List ℕ). set files 1 (with_bytes d b)) (all_written d.bytes (16 * write.place) 16 write.entry size refl))
    (link_stands d.bytes name number write links) (link_number d.bytes name number write links)

leads_at_end : (form : Form) (start final files : Files) (before later : List Entry) (link : Entry) (name : List ℕ) (number : ℕ) (d : File)
    (write : EntryWrite) → replay form start (before ++ link ∷ later) ≡ Some final → replay form start before ≡ Some files →
    file_in files 1 ≡ Some d → Links d.bytes name number write → link.op ≡ Write 1 (16 * write.place) write.entry →
    link.reply ≡ Some (Wrote 16) → AreSparing write.place name later → Holds final name number write.place
leads_at_end form start final files before later link name number d write run at_turn is links op reply spared =
    let parts : and_then (replay form start before) (λ mid. replay form mid (link ∷ later)) ≡ Some final =
    sym (replays_in_parts form start before (link ∷ later)) ∙ run in
    let from_turn : replay form files (link ∷ later) ≡ Some final =
    subst (λ (o : Option Files). and_then o (λ mid. replay form mid (link ∷ later)) ≡ Some final) at_turn parts in
    let first = and_then_some (after_answer form files link.op link.reply) (λ f. replay form f later) final from_turn in
    let as_op : after_answer form files (Write 1 (16 * write.place) write.entry) link.reply ≡ Some first.0 =
    subst (λ (o : Op). after_answer form files o link.reply ≡ Some first.0) op first.1 in
    let as_reply : after form files (Write 1 (16 * write.place) write.entry) (Wrote 16) ≡ Some first.0 =
    subst (λ (r : Option Reply). after_answer form files (Write 1 (16 * write.place) write.entry) r ≡ Some first.0) reply as_op in
    holds_along form first.0 final name number write.place later
    (holds_linked form files first.0 name number d write is links as_reply) spared first.2

pub committed_names_lead : CommittedNamesLead
committed_names_lead opening x journal c name number keeps linked =
    let last = leads_at_end (form_of opening) (files_of opening) (files_of (recovered x)) linked.files linked.before linked.later linked.link
    name number linked.directory linked.write
    (subst (λ (es : List Entry). replay (form_of opening) (files_of opening) es ≡ Some (files_of (recovered x))) linked.kept_are keeps.files)
    linked.at_turn linked.directory_is linked.links linked.op linked.reply linked.spared in
    record {
      directory = last.directory;
      is = last.is;
      leads = lookup_at last.directory.bytes name linked.write.place last.stands ∙ ap (λ (n : ℕ). Some n) last.number_is;
    }
