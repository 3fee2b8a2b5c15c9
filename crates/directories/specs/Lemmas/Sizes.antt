-- No operation makes a file larger than its image may have it.
use Rattle.std.proofs.Common.{◌≡◌, ◌≢◌, ℕ, ◌+◌, ◌-◌, ◌*◌, ◌%◌, ◌<◌, ◌≤◌, cond, ◌&&◌, ◌||◌, eqb, ltb, leb, Bool, true, false, List, [], ◌++◌, length, take, drop, set, Option, Some, None, refl, sym, ap, subst, ◌∙◌, ⊎_elim, arith}
use Rattle.std.specs.Prelude.{is_none}
use Rattle.std.proofs.lemmas.Bool.{and_parts, cases_eq, cases_lt, eq-eqb, leb-true, lt-ltb, ltb-false, ne_eqb}
use Rattle.std.proofs.lemmas.List.{get_or-set_other, get_or-set_same, get_or_past, length-append, length-drop, length-set, length-take, length-take-le}
use Rattle.blocks.specs.Block.{overwritten}
use Rattle.blocks.specs.Disk.{Image}
use Rattle.model.specs.declared.types.image.Dinode.{Dinode}
use Rattle.model.specs.declared.types.image.File.{File}
use Rattle.model.specs.declared.types.image.Form.{Form}
use Rattle.model.specs.declared.types.image.Form.TheVariants.{One, Two}
use Rattle.model.specs.declared.types.operations.Attribute.{Attribute}
use Rattle.model.specs.declared.types.operations.Op.{Op}
use Rattle.model.specs.declared.types.operations.Op.TheVariants.{Create, Write, Read, Trunc, Remove, Stat}
use Rattle.model.specs.declared.types.operations.Reply.{Reply}
use Rattle.model.specs.declared.types.operations.Reply.TheVariants.{Made, NoInode, BadOffset, TooBig, TooLong}
use Rattle.model.specs.Files.{Files, bytes_in, file_at, file_in, file_of, files_of, joined, blocks_for}
use Rattle.model.specs.Layout.{form_of, greatest_size, inode_count_of, inode_of}
use Rattle.model.specs.Lemmas.Counts.{All-range_at}
use Rattle.model.specs.Lemmas.FileNumbers.{file_in-files_of, file_in-files_of_past}
use Rattle.model.specs.Lemmas.Replies.{after_cases}
use Rattle.model.specs.Lemmas.Runs.{where_true_some}
use Rattle.model.specs.Operations.{after, after_create, after_done, attribute_refusal, extension_refusal, refusal_of, transfer_limit, write_refusal, with_bytes}
use Rattle.model.specs.Soundness.{IsLawfulInode, IsSound}
use Rattle.directories.specs.Sizes.{AreSized}
use Rattle.directories.specs.Trees.{bytes_of}
use Rattle.directories.specs.Lemmas.Keeping.{at_cases, links_on, not_refused, read_on, remove_on, size_on, stat_on, trunc_on, write_on}

-- ---- what any form has room for

-- an entry below the most of them lies in what a file may have
pub entry_fits : (form : Form) (place : ℕ) → place < 17152 → 16 * place + 16 ≤ greatest_size form
entry_fits One place below = omega arith
entry_fits Two place below = omega arith

pub few_fit : (form : Form) (n : ℕ) → n ≤ 3072 → n ≤ greatest_size form
few_fit One n h = omega arith
few_fit Two n h = omega arith

-- four bytes have its length
pub size_small : (form : Form) (n : ℕ) → n ≤ greatest_size form → n < 4294967296
size_small One n h = omega arith
size_small Two n h = omega arith

-- ---- the file that an operation changes

-- a file was put in place of another
put_sized : (form : Form) (files new : Files) (i : ℕ) (o : Option File) → AreSized form files → length (bytes_of o) ≤ greatest_size form → new ≡ set files i o →
    AreSized form new
put_sized form files new i o sized fits is j =
    ⊎_elim
    (λ (same : j ≡ i).
    ⊎_elim
    (λ (inside : i < length files).
    let there : file_in new j ≡ o = ap (λ (l : Files). file_in l j) is ∙ ap (λ (k : ℕ). file_in (set files i o) k) same ∙ get_or-set_same files i o None inside in
    subst (λ (f : Option File). length (bytes_of f) ≤ greatest_size form) (sym there) fits)
    (λ (past : length files ≤ i).
    let long : length (set files i o) ≡ length files = length-set files i o in
    let none : file_in new j ≡ None = ap (λ (l : Files). file_in l j) is ∙ get_or_past (set files i o) j None (omega (arith, same, past, long)) in
    subst (λ (f : Option File). length (bytes_of f) ≤ greatest_size form) (sym none) (omega arith))
    (cases_lt i (length files)))
    (λ (differ : j ≢ i).
    subst (λ (f : Option File). length (bytes_of f) ≤ greatest_size form) (sym (ap (λ (l : Files). file_in l j) is ∙ get_or-set_other files i j o None differ)) (sized j))
    (cases_eq j i)

same_sized : (form : Form) (files new : Files) → AreSized form files → new ≡ files → AreSized form new
same_sized form files new sized is = subst (λ (f : Files). AreSized form f) (sym is) sized

create_sized : (form : Form) (files new : Files) (kind : ℕ) (reply : Reply) → AreSized form files → after_create files kind reply ≡ Some new → AreSized form new
create_sized form files new kind (Made i) sized h =
    let file : Option File = Some (record { kind = kind; links = 1; bytes = [] }) in
    let made = where_true_some (ltb 0 i && ltb i (length files) && is_none (file_in files i)) (set files i file) new h in
    put_sized form files new i file sized (omega arith) made.1
create_sized form files new kind NoInode sized h = let e : files ≡ new = cc h in same_sized form files new sized (sym e)
create_sized form files new kind reply sized h = absurd (cc h)

-- a write that isn't refused begins in the file, and ends where one may end
write_within : (form : Form) (files : Files) (i : ℕ) (d : File) (off : ℕ) (bytes : List ℕ) → file_in files i ≡ Some d →
    refusal_of form files (Write i off bytes) ≡ None → (off ≤ length d.bytes) × (off + length bytes ≤ greatest_size form)
write_within form files i d off bytes is h =
    let later = not_refused (ltb 3072 (length bytes)) TooLong (write_refusal form (file_in files i) off (length bytes)) h in
    let here = not_refused (ltb (length d.bytes) off) BadOffset (cond (ltb (greatest_size form) (off + length bytes)) (Some TooBig) None)
    (subst (λ (o : Option File). write_refusal form o off (length bytes) ≡ None) is later.1) in
    let end = not_refused (ltb (greatest_size form) (off + length bytes)) TooBig None here.1 in
    (ltb-false (length d.bytes) off here.0, ltb-false (greatest_size form) (off + length bytes) end.0)

write_long : (old : List ℕ) (off k most : ℕ) (bytes : List ℕ) → off ≤ length old → k ≤ length bytes → off + length bytes ≤ most → length old ≤ most →
    length (overwritten old off (take k bytes)) ≤ most
write_long old off k most bytes begins few fits small =
    let taken : length (take k bytes) ≡ k = length-take-le k bytes few in
    omega (
      arith,
      taken,
      length-append (take off old ++ take k bytes) (drop (off + length (take k bytes)) old),
      length-append (take off old) (take k bytes),
      length-take-le off old begins,
      length-drop (off + length (take k bytes)) old,
    )

bytes_at : (form : Form) (files : Files) (i : ℕ) (d : File) → AreSized form files → file_in files i ≡ Some d → length d.bytes ≤ greatest_size form
bytes_at form files i d sized is = subst (λ (o : Option File). length (bytes_of o) ≤ greatest_size form) is (sized i)

-- an extension that is not refused keeps to the greatest size
extension_fits : (form : Form) (d : File) (n : ℕ) → length d.bytes < n → attribute_refusal form (Some d) (Attribute.Size n) ≡ None → n ≤ greatest_size form
extension_fits form d n longer allowed =
    by_size (ltb (length d.bytes + transfer_limit) n) (ltb (greatest_size form) n) refl (subst (λ (b : Bool). cond b (extension_refusal form (length d.bytes) n) None ≡ None) (lt-ltb (length d.bytes) n longer) allowed)
  where
    by_size : (a b : Bool) → ltb (greatest_size form) n ≡ b → cond a (Some TooLong) (cond b (Some TooBig) None) ≡ None → n ≤ greatest_size form
    by_size true b is none = absurd (cc none)
    by_size false true is none = absurd (cc none)
    by_size false false is none = ltb-false (greatest_size form) n is

done_sized : (form : Form) (files new : Files) (op : Op) (reply : Reply) → AreSized form files → refusal_of form files op ≡ None →
    after_done files op reply ≡ Some new → AreSized form new
done_sized form files new (Create kind) reply sized allowed h = create_sized form files new kind reply sized h
done_sized form files new (Write i off bytes) reply sized allowed h =
    let on = at_cases files new i (file_in files i) (Write i off bytes) reply h in
    let d : File = on.0 in
    let wrote = write_on files new i d i off bytes reply on.2 in
    let k : ℕ = wrote.0 in
    let few : k ≤ length bytes = leb-true k (length bytes)
    (and_parts (leb k (length bytes)) (eqb k (length bytes) || (eqb ((off + k) % 1024) 0 && leb (length d.bytes) (off + k))) wrote.1).0 in
    let within = write_within form files i d off bytes on.1 allowed in
    put_sized form files new i (with_bytes d (overwritten d.bytes off (take k bytes))) sized
    (write_long d.bytes off k (greatest_size form) bytes within.0 few within.1 (bytes_at form files i d sized on.1)) wrote.2
done_sized form files new (Read i off n) reply sized allowed h =
    let on = at_cases files new i (file_in files i) (Read i off n) reply h in
    same_sized form files new sized (read_on files new i on.0 i off n reply on.2)
done_sized form files new (Trunc i) reply sized allowed h =
    let on = at_cases files new i (file_in files i) (Trunc i) reply h in
    put_sized form files new i (with_bytes on.0 []) sized (omega arith) (trunc_on files new i on.0 i reply on.2)
done_sized form files new (Remove i) reply sized allowed h =
    let on = at_cases files new i (file_in files i) (Remove i) reply h in
    put_sized form files new i None sized (omega arith) (remove_on files new i on.0 i reply on.2)
done_sized form files new (Stat i) reply sized allowed h =
    let on = at_cases files new i (file_in files i) (Stat i) reply h in
    same_sized form files new sized (stat_on files new i on.0 i reply on.2)
done_sized form files new (Op.SetAttribute i (Attribute.Links n)) reply sized allowed h =
    let on = at_cases files new i (file_in files i) (Op.SetAttribute i (Attribute.Links n)) reply h in
    put_sized form files new i _ sized (bytes_at form files i on.0 sized on.1) (links_on files new i on.0 i n reply on.2)
done_sized form files new (Op.SetAttribute i (Attribute.Size n)) reply sized allowed h =
    let on = at_cases files new i (file_in files i) (Op.SetAttribute i (Attribute.Size n)) reply h in
    let most = bytes_at form files i on.0 sized on.1 in
    let made = size_on files new i on.0 i n reply on.2 in
    put_sized form files new i _ sized
    (⊎_elim
    (λ (less : length made.0 ≤ length on.0.bytes). omega (arith, most, less))
    (λ (more : (length on.0.bytes < n) × (length made.0 ≤ n)).
    let fits = extension_fits form on.0 n more.0 (subst (λ (o : Option File). attribute_refusal form o (Attribute.Size n) ≡ None) on.1 allowed) in
    omega (arith, more.1, fits))
    made.2.size)
    made.1

pub after_sized : (form : Form) (files new : Files) (op : Op) (reply : Reply) → AreSized form files → after form files op reply ≡ Some new → AreSized form new
after_sized form files new op reply sized h =
    ⊎_elim (λ (same : new ≡ files). same_sized form files new sized same)
    (λ (done : (refusal_of form files op ≡ None) × (after_done files op reply ≡ Some new)). done_sized form files new op reply sized done.0 done.1)
    (after_cases form files new op reply h)

-- ---- the files of a sound image

inode_sized : (x : Image) (form : Form) (d : Dinode) → IsLawfulInode form d → length (bytes_of (file_of x d)) ≤ greatest_size form
unfolding file_of bytes_in
inode_sized x form d lawful =
    ⊎_elim
    (λ (none : d.kind ≡ 0). rw (eq-eqb d.kind 0 none) (omega arith))
    (λ (some : d.kind ≢ 0).
    let few = lawful.size some in let long = length-take d.size (joined x d (blocks_for d.size)) in rw (ne_eqb d.kind 0 some) (omega (arith, few, long)))
    (cases_eq d.kind 0)

file_at_sized : (x : Image) (i : ℕ) → IsSound x → i < inode_count_of x → length (bytes_of (file_at x i)) ≤ greatest_size (form_of x)
file_at_sized x i sound low =
    ⊎_elim (λ (none : i ≡ 0). rw (eq-eqb i 0 none) (omega arith))
    (λ (some : i ≢ 0).
    rw (ne_eqb i 0 some)
    (inode_sized x (form_of x) (inode_of x i)
    (All-range_at (λ j. IsLawfulInode (form_of x) (inode_of x j)) 1 (inode_count_of x - 1) i sound.inodes (omega (arith, some)) (omega (arith, some, low)))))
    (cases_eq i 0)

pub sound_sized : (x : Image) → IsSound x → AreSized (form_of x) (files_of x)
sound_sized x sound i =
    ⊎_elim
    (λ (low : i < inode_count_of x).
    subst (λ (o : Option File). length (bytes_of o) ≤ greatest_size (form_of x)) (sym (file_in-files_of x i low)) (file_at_sized x i sound low))
    (λ (past : inode_count_of x ≤ i).
    subst (λ (o : Option File). length (bytes_of o) ≤ greatest_size (form_of x)) (sym (file_in-files_of_past x i past)) (omega arith))
    (cases_lt i (inode_count_of x))
