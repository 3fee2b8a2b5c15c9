-- What single operations on a directory make of where its names lead.
use Rattle.std.proofs.Common.{◌≡◌, inl, inr, ℕ, ◌+◌, ◌*◌, ◌%◌, ◌<◌, ◌≤◌, true, List, [], length, take, set, get_or, Option, Some, None, refl, sym, ap, subst, ◌∙◌, ⊎_elim, arith}
use Rattle.std.specs.List.{position}
use Rattle.std.specs.Option.{unwrap_or}
use Rattle.std.specs.Str.{bytes_eq}
use Rattle.std.proofs.lemmas.Bool.{both_ways}
use Rattle.std.proofs.lemmas.List.{set-get_or}
use Rattle.std.proofs.lemmas.Slice.Eq.{bytes_eq-Decides}
use Rattle.blocks.specs.Block.{overwritten}
use Rattle.model.specs.declared.types.image.File.{File}
use Rattle.model.specs.declared.types.image.Form.{Form}
use Rattle.model.specs.declared.types.operations.Op.TheVariants.{Read, Write}
use Rattle.model.specs.declared.types.operations.Reply.{Reply}
use Rattle.model.specs.declared.types.operations.Reply.TheVariants.{Wrote, Bytes}
use Rattle.model.specs.Files.{Files, file_in}
use Rattle.model.specs.Layout.{greatest_size}
use Rattle.model.specs.Lemmas.Replies.{wrote_done}
use Rattle.model.specs.Lemmas.Runs.{where_true_some}
use Rattle.model.specs.Operations.{after, after_at, after_on, no_file_refusal, may_have_written, part_of, with_bytes}
use Rattle.directories.specs.declared.entries.EntryWrite.{EntryWrite}
use Rattle.directories.specs.Entries.{entries_of, is_free, lookup}
use Rattle.directories.specs.Sizes.{AreSized}
use Rattle.directories.specs.Writes.{free_place, written, operation_of, KeepsOthers, Links, MayHold, NeedsBlock, Unlinks}
use Rattle.directories.specs.Lemmas.EntryWrites.{nothing_written}
use Rattle.directories.specs.Trees.{bytes_of, directory_in, IsDirectory, IsTidy}
use Rattle.directories.specs.TreeChanges.{LeadsTo}
use Rattle.directories.specs.TreeLaws.{LinkLeads, ReadsPart, UnlinkLeads}
use Rattle.directories.specs.Lemmas.Standing.{Puts, stands_at, none_stands}
use Rattle.directories.specs.Lemmas.Chunks.{length-entries_of, length-written}
use Rattle.directories.specs.Lemmas.EntryBytes.{length-entry_bytes, zeroes_free}
use Rattle.directories.specs.Lemmas.Changes.{link_room, link_leads, link_keeps, unlink_stands, unlink_puts, unlink_gone, unlink_keeps}
use Rattle.directories.specs.Lemmas.Keeping.{at_cases, read_on}
use Rattle.directories.specs.Lemmas.Answered.{done_where, entry_answered, file_by}
use Rattle.directories.specs.Lemmas.FileMaps.{IsWritten, writes}
use Rattle.directories.specs.Lemmas.Sizes.{entry_fits}

-- ---- sizes

pub link_size : (bytes name : List ℕ) (number : ℕ) (write : EntryWrite) → Links bytes name number write → length write.entry ≡ 16
link_size bytes name number write links = ap length links.entry ∙ length-entry_bytes number name links.stored

pub unlink_size : (bytes name : List ℕ) (write : EntryWrite) → Unlinks bytes name write → length write.entry ≡ 16
unlink_size bytes name write unlinks = ap length unlinks.entry

pub link_at : (bytes name : List ℕ) (number : ℕ) (write : EntryWrite) → Links bytes name number write → 16 * write.place ≤ length bytes
link_at bytes name number write links =
    let low : write.place ≤ length (entries_of bytes) = (link_room bytes name number write links).low in
    let count = length-entries_of bytes in omega arith

pub unlink_at : (bytes name : List ℕ) (write : EntryWrite) → Unlinks bytes name write → 16 * write.place + 16 ≤ length bytes
unlink_at bytes name write unlinks =
    let inside : write.place < length (entries_of bytes) = (unlink_stands bytes name write unlinks).within in
    let count = length-entries_of bytes in omega arith

-- ---- one entry

pub tidy_written : (bytes name : List ℕ) (write : EntryWrite) → length write.entry ≡ 16 → 16 * write.place ≤ length bytes →
    KeepsOthers name bytes (written bytes write) → IsTidy bytes → IsTidy (written bytes write)
tidy_written bytes name write size at keeps tidy =
    let whole : length bytes % 16 ≡ 0 = tidy.whole in
    let long = length-written bytes (16 * write.place) write.entry at size in
    record { whole = omega arith; named = keeps.named tidy.named; once = λ any. keeps.once any (tidy.once any) }

-- an entry was written, by which one name leads elsewhere
pub leads_by : (form : Form) (files new : Files) (from : ℕ) (name : List ℕ) (number : Option ℕ) (write : EntryWrite) → IsDirectory files from →
    IsTidy (directory_in files from) → length write.entry ≡ 16 → 16 * write.place ≤ length (directory_in files from) →
    KeepsOthers name (directory_in files from) (written (directory_in files from) write) →
    lookup (written (directory_in files from) write) name ≡ number → IsWritten form files from write new → LeadsTo files new from name number
leads_by form files new from name number write is tidy size at keeps leads h =
    let bytes : List ℕ = directory_in files from in
    let w = writes form files new from write size h in
    record {
      changes = record {
        directory = w.kind ∙ is;
        tidy = subst (λ (b : List ℕ). IsTidy b) (sym w.bytes) (tidy_written bytes name write size at keeps tidy);
        others = λ other ne. ap (λ (b : List ℕ). lookup b other) w.bytes ∙ keeps.others other ne;
      };
      leads = ap (λ (b : List ℕ). lookup b name) w.bytes ∙ leads;
      rest = w.others;
    }

pub nothing_wrote : (form : Form) (files new : Files) (from : ℕ) (write : EntryWrite) → after form files (operation_of from write) (Wrote 0) ≡ Some new →
    new ≡ files
nothing_wrote form files new from write h =
    let done = wrote_done form files new (Write from (16 * write.place) write.entry) 0 h in
    let on = at_cases files new from (file_in files from) (Write from (16 * write.place) write.entry) (Wrote 0) done in
    let d : File = on.0 in
    let wrote = where_true_some (may_have_written (length d.bytes) (16 * write.place) (length write.entry) 0)
    (set files from (with_bytes d (overwritten d.bytes (16 * write.place) (take 0 write.entry)))) new on.2 in
    wrote.1 ∙ ap (λ (b : List ℕ). set files from (with_bytes d b)) (nothing_written d.bytes (16 * write.place) 0 write.entry refl)
    ∙ ap (λ (o : Option File). set files from o) (sym on.1) ∙ set-get_or files from None

pub links_to : (form : Form) (files new : Files) (from number : ℕ) (name : List ℕ) (write : EntryWrite) → IsDirectory files from →
    IsTidy (directory_in files from) → Links (directory_in files from) name number write →
    IsWritten form files from write new → LeadsTo files new from name (Some number)
links_to form files new from number name write is tidy links h =
    let bytes : List ℕ = directory_in files from in
    leads_by form files new from name (Some number) write is tidy (link_size bytes name number write links) (link_at bytes name number write links)
    (link_keeps bytes name number write links) (link_leads bytes name number write links) h

-- what has room lies in what a file may have
room_fits : (form : Form) (files : Files) (from place : ℕ) → AreSized form files → MayHold (directory_in files from) place → 16 * place + 16 ≤ greatest_size form
room_fits form files from place sized room =
    ⊎_elim (λ (below : place < 17152). entry_fits form place below)
    (λ (inside : place < length (entries_of (directory_in files from))).
    let count = length-entries_of (directory_in files from) in
    let fits : length (directory_in files from) ≤ greatest_size form = sized from in omega arith) room

pub link_leads_there : LinkLeads
link_leads_there form files new from number name write reply sized is tidy links room h =
    let bytes : List ℕ = directory_in files from in
    let answered = entry_answered form files new from write reply is (link_size bytes name number write links)
    (link_at bytes name number write links) (room_fits form files from write.place sized room) h in
    ⊎_elim
    (λ (all : reply ≡ Wrote 16).
    inl (
      all,
      links_to form files new from number name write is tidy links
          (subst (λ (r : Reply). after form files (operation_of from write) r ≡ Some new) all h),
    ))
    (λ (none : reply ≡ Wrote 0).
    inr (none, nothing_wrote form files new from write (subst (λ (r : Reply). after form files (operation_of from write) r ≡ Some new) none h)))
    answered.either

-- where nothing was written, the entry would have begun another block
pub link_needs : (form : Form) (files new : Files) (from number : ℕ) (name : List ℕ) (write : EntryWrite) (reply : Reply) → AreSized form files →
    IsDirectory files from → Links (directory_in files from) name number write → MayHold (directory_in files from) write.place →
    after form files (operation_of from write) reply ≡ Some new → reply ≡ Wrote 0 → NeedsBlock (directory_in files from)
link_needs form files new from number name write reply sized is links room h none =
    let bytes : List ℕ = directory_in files from in
    let past = (entry_answered form files new from write reply is (link_size bytes name number write links)
    (link_at bytes name number write links) (room_fits form files from write.place sized room) h).none none in
    record {
      begins = subst (λ (place : ℕ). (16 * place) % 1024 ≡ 0) links.place past.0;
      behind = subst (λ (place : ℕ). length bytes ≤ 16 * place) links.place past.1;
    }

pub unlink_leads_nowhere : UnlinkLeads
unlink_leads_nowhere form files new from name write reply sized is tidy unlinks h =
    let bytes : List ℕ = directory_in files from in
    let fits : length bytes ≤ greatest_size form = sized from in
    let inside : 16 * write.place + 16 ≤ length bytes = unlink_at bytes name write unlinks in
    let size = unlink_size bytes name write unlinks in
    let whole = (entry_answered form files new from write reply is size (omega arith) (omega (arith, inside, fits)) h).there inside in (
      whole,
      leads_by form files new from name None write is tidy size (omega arith) (unlink_keeps bytes name write unlinks)
          (unlink_gone bytes name write unlinks (tidy.once name))
          (subst (λ (r : Reply). after form files (operation_of from write) r ≡ Some new) whole h),
    )

-- ---- a freed entry

free_inside : (es : List (List ℕ)) (o : Option ℕ) (k : ℕ) → position is_free es ≡ o → k < length es → is_free (get_or es k []) ≡ true →
    (place : ℕ) → place ≡ unwrap_or o (length es) → place < length es
free_inside es None k e inside free place is = absurd (both_ways (is_free (get_or es k [])) (none_stands is_free es e k inside) free)
free_inside es (Some j) k e inside free place is = let at : j < length es = (stands_at is_free es j e).within in omega arith

-- an entry was freed, so there is a free one
pub freed_room : (bytes new old : List ℕ) (unlink : EntryWrite) → Unlinks bytes old unlink → new ≡ written bytes unlink →
    free_place new < length (entries_of new)
freed_room bytes new old unlink unlinks e =
    let puts = subst (λ (b : List ℕ). Puts (entries_of bytes) (entries_of b) unlink.place unlink.entry) (sym e) (unlink_puts bytes old unlink unlinks) in
    let free : is_free (get_or (entries_of new) unlink.place []) ≡ true = ap is_free (puts.there ∙ unlinks.entry) ∙ zeroes_free in
    free_inside (entries_of new) (position is_free (entries_of new)) unlink.place refl puts.within free (free_place new) refl

pub link_inside : (bytes new from name : List ℕ) (i : ℕ) (unlink link : EntryWrite) → Unlinks bytes from unlink → new ≡ written bytes unlink →
    Links new name i link → link.place < length (entries_of new)
link_inside bytes new from name i unlink link unlinks e links =
    subst (λ (n : ℕ). n < length (entries_of new)) (sym links.place) (freed_room bytes new from unlink unlinks e)

-- ---- a read

read_bytes : (files new : Files) (i : ℕ) (file : File) (j off n : ℕ) (bytes : List ℕ) →
    after_on files i file (Read j off n) (Bytes bytes) ≡ Some new → bytes ≡ part_of file.bytes off n
read_bytes files new i file j off n bytes h =
    (bytes_eq-Decides bytes (part_of file.bytes off n)).0 (where_true_some (bytes_eq bytes (part_of file.bytes off n)) files new h).0

pub reads_part : ReadsPart
reads_part form files new from offset bytes is h =
    let has = file_by (file_in files from) is in
    let d : File = has.0 in
    let same : directory_in files from ≡ d.bytes = ap bytes_of has.1 in
    let done = done_where form files new (Read from offset 3072) (Bytes bytes) (ap no_file_refusal has.1) h in
    let on : after_on files from d (Read from offset 3072) (Bytes bytes) ≡ Some new =
    subst (λ (o : Option File). after_at files from o (Read from offset 3072) (Bytes bytes) ≡ Some new) has.1 done in (
      read_bytes files new from d from offset 3072 bytes on ∙ ap (λ (b : List ℕ). part_of b offset 3072) (sym same),
      read_on files new from d from offset 3072 (Bytes bytes) on,
    )
