-- What links and unlinks make of where names lead.
use Rattle.std.proofs.Common.{◌≡◌, ◌≢◌, ℕ, ◌<◌, ◌≤◌, true, false, List, [], length, get_or, replicate, Option, Some, None, refl, sym, ap, subst, ◌∙◌, ⊎_elim, arith}
use Rattle.std.specs.Prelude.{IfNone}
use Rattle.std.specs.List.{position}
use Rattle.std.specs.Option.{option_map, unwrap_or}
use Rattle.std.specs.Str.{bytes_eq}
use Rattle.std.proofs.lemmas.Bool.{cases_Bool, both_ways}
use Rattle.std.proofs.lemmas.Slice.Eq.{bytes_eq-Decides}
use Rattle.directories.specs.declared.entries.EntryWrite.{EntryWrite}
use Rattle.directories.specs.Entries.{entries_of, name_in, number_in, is_free, is_for, place_of, lookup, HasOnce, IsProper}
use Rattle.directories.specs.Writes.{written, Links, Unlinks, KeepsOthers}
use Rattle.directories.specs.Lemmas.Standing.{StandsAt, Puts, stands_at, puts_first, lookup_at, lookup_none, none_from_lookup, lookup_same, named_keeps, once_keeps, once_first, once_gone}
use Rattle.directories.specs.Lemmas.Chunks.{length-entries_of, puts_entry}
use Rattle.directories.specs.Lemmas.EntryBytes.{length-entry_bytes, name_in-entry_bytes, proper-entry_bytes, number_in-entry_bytes, is_for-entry_bytes, is_for-other, name_of_entry, is_for-free, zeroes_free}

-- a place for a new entry: it is free, or behind the last
pub record HasRoom (es : List (List ℕ)) (place : ℕ) : Type 0 where
  pub low : place ≤ length es
  pub free : place < length es → is_free (get_or es place []) ≡ true

room_by : (es : List (List ℕ)) (o : Option ℕ) → position is_free es ≡ o → HasRoom es (unwrap_or o (length es))
room_by es None e = record { low = omega arith; free = λ h. absurd (omega arith) }
room_by es (Some k) e =
    let at = stands_at is_free es k e in
    let within : k < length es = at.within in
    record { low = omega arith; free = λ h. at.passes }

pub link_room : (bytes name : List ℕ) (number : ℕ) (write : EntryWrite) → Links bytes name number write → HasRoom (entries_of bytes) write.place
link_room bytes name number write links =
    subst (λ (k : ℕ). HasRoom (entries_of bytes) k) (sym links.place) (room_by (entries_of bytes) (position is_free (entries_of bytes)) refl)

pub link_puts : (bytes name : List ℕ) (number : ℕ) (write : EntryWrite) → Links bytes name number write →
    Puts (entries_of bytes) (entries_of (written bytes write)) write.place write.entry
link_puts bytes name number write links =
    let low : write.place ≤ length (entries_of bytes) = (link_room bytes name number write links).low in
    let count = length-entries_of bytes in
    puts_entry bytes write.place write.entry (omega arith) (ap length links.entry ∙ length-entry_bytes number name links.stored)

link_for : (bytes name : List ℕ) (number : ℕ) (write : EntryWrite) → Links bytes name number write → is_for name write.entry ≡ true
link_for bytes name number write links = ap (is_for name) links.entry ∙ is_for-entry_bytes number name links.stored links.used links.fits

link_not_for : (bytes name : List ℕ) (number : ℕ) (write : EntryWrite) → Links bytes name number write →
    (other : List ℕ) → other ≢ name → is_for other write.entry ≡ false
link_not_for bytes name number write links other differs =
    ap (is_for other) links.entry ∙ is_for-other other name _ differs (name_in-entry_bytes number name links.stored)

link_proper : (bytes name : List ℕ) (number : ℕ) (write : EntryWrite) → Links bytes name number write → IsProper (name_in write.entry)
link_proper bytes name number write links =
    subst (λ (l : List ℕ). IsProper (name_in l)) (sym links.entry) (proper-entry_bytes number name links.stored)

pub link_stands : (bytes name : List ℕ) (number : ℕ) (write : EntryWrite) → Links bytes name number write →
    StandsAt (is_for name) (entries_of (written bytes write)) write.place
link_stands bytes name number write links =
    puts_first (is_for name) (entries_of bytes) (entries_of (written bytes write)) write.place write.entry
    (link_puts bytes name number write links) (link_for bytes name number write links) (none_from_lookup bytes name links.absent)

pub link_number : (bytes name : List ℕ) (number : ℕ) (write : EntryWrite) → Links bytes name number write →
    number_in (get_or (entries_of (written bytes write)) write.place []) ≡ number
link_number bytes name number write links =
    ap number_in ((link_puts bytes name number write links).there ∙ links.entry) ∙ number_in-entry_bytes number name links.fits

pub link_leads : (bytes name : List ℕ) (number : ℕ) (write : EntryWrite) → Links bytes name number write →
    lookup (written bytes write) name ≡ Some number
link_leads bytes name number write links =
    lookup_at (written bytes write) name write.place (link_stands bytes name number write links)
    ∙ ap (λ (n : ℕ). Some n) (link_number bytes name number write links)

pub link_keeps : (bytes name : List ℕ) (number : ℕ) (write : EntryWrite) → Links bytes name number write →
    KeepsOthers name bytes (written bytes write)
link_keeps bytes name number write links =
    let puts = link_puts bytes name number write links in
    let room = link_room bytes name number write links in
    record {
      others = λ other differs.
          lookup_same bytes (written bytes write) other write.place write.entry puts (link_not_for bytes name number write links other differs)
          (λ h. is_for-free other (get_or (entries_of bytes) write.place []) (room.free h));
      once = λ any once.
          ⊎_elim
          (λ (same : bytes_eq any name ≡ true).
          subst (λ (n : List ℕ). HasOnce (written bytes write) n) (sym ((bytes_eq-Decides any name).0 same))
          (once_first bytes (written bytes write) name write.place write.entry puts (none_from_lookup bytes name links.absent)))
          (λ (differ : bytes_eq any name ≡ false).
          once_keeps bytes (written bytes write) any write.place write.entry puts
          (link_not_for bytes name number write links any (λ e. both_ways (bytes_eq any name) differ ((bytes_eq-Decides any name).1 e))) once)
          (cases_Bool (bytes_eq any name));
      named = named_keeps (entries_of bytes) (entries_of (written bytes write)) write.place write.entry puts (λ used. link_proper bytes name number write links);
    }

-- ---- unlinks

pub lookup_absent : (bytes name : List ℕ) → place_of bytes name ≡ None → lookup bytes name ≡ None
unfolding lookup
lookup_absent bytes name none = ap (λ (o : Option ℕ). option_map (λ (i : ℕ). number_in (get_or (entries_of bytes) i [])) o) none

pub told_absent : {X : Type 0} (o : Option X) (bytes name : List ℕ) → place_of bytes name ≡ None → IfNone o (lookup bytes name ≡ None)
told_absent None bytes name none = lookup_absent bytes name none
told_absent (Some x) bytes name none = tt

pub unlink_stands : (bytes name : List ℕ) (write : EntryWrite) → Unlinks bytes name write → StandsAt (is_for name) (entries_of bytes) write.place
unlink_stands bytes name write unlinks = stands_at (is_for name) (entries_of bytes) write.place unlinks.place

pub unlink_puts : (bytes name : List ℕ) (write : EntryWrite) → Unlinks bytes name write →
    Puts (entries_of bytes) (entries_of (written bytes write)) write.place write.entry
unlink_puts bytes name write unlinks =
    let within : write.place < length (entries_of bytes) = (unlink_stands bytes name write unlinks).within in
    let count = length-entries_of bytes in
    puts_entry bytes write.place write.entry (omega arith) (ap length unlinks.entry)

unlink_for : (bytes name : List ℕ) (write : EntryWrite) → Unlinks bytes name write → (any : List ℕ) → is_for any write.entry ≡ false
unlink_for bytes name write unlinks any = ap (is_for any) unlinks.entry ∙ is_for-free any (replicate 16 0) zeroes_free

pub unlink_gone : (bytes name : List ℕ) (write : EntryWrite) → Unlinks bytes name write → HasOnce bytes name →
    lookup (written bytes write) name ≡ None
unlink_gone bytes name write unlinks once =
    lookup_none (written bytes write) name
    (once_gone bytes (written bytes write) name write.place write.entry (unlink_puts bytes name write unlinks)
    (unlink_for bytes name write unlinks name) once (unlink_stands bytes name write unlinks))

pub unlink_keeps : (bytes name : List ℕ) (write : EntryWrite) → Unlinks bytes name write → KeepsOthers name bytes (written bytes write)
unlink_keeps bytes name write unlinks =
    let puts = unlink_puts bytes name write unlinks in
    let old = name_of_entry name (get_or (entries_of bytes) write.place []) (unlink_stands bytes name write unlinks).passes in
    record {
      others = λ other differs.
          lookup_same bytes (written bytes write) other write.place write.entry puts (unlink_for bytes name write unlinks other)
          (λ h. is_for-other other name (get_or (entries_of bytes) write.place []) differs old);
      once = λ any once. once_keeps bytes (written bytes write) any write.place write.entry puts (unlink_for bytes name write unlinks any) once;
      named = named_keeps (entries_of bytes) (entries_of (written bytes write)) write.place write.entry puts
          (λ used. absurd (both_ways (is_free write.entry) used (ap is_free unlinks.entry ∙ zeroes_free)));
    }
