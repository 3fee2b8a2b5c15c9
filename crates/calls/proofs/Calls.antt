-- What a call makes of the files, by its reply.
use Rattle.std.proofs.Common.{◌≡◌, ◌≢◌, ℕ, ◌<◌, ◌≤◌, true, eqb, List, length, take, set, None, refl, sym, ap, subst, ◌∙◌, ⊎_elim, arith}
use Rattle.std.proofs.lemmas.Bool.{cases_eq, eq-eqb, ne_eqb}
use Rattle.std.proofs.lemmas.List.{take_all}
use Rattle.blocks.specs.Disk.{Image}
use Rattle.model.specs.declared.types.operations.Attribute.{Attribute}
use Rattle.model.specs.declared.types.operations.Op.TheVariants.{Create, Write, Trunc, Remove, SetAttribute}
use Rattle.model.specs.declared.types.operations.Reply.{Reply}
use Rattle.model.specs.declared.types.operations.Reply.TheVariants.{Made, NoInode, Wrote, Done}
use Rattle.model.specs.Files.{file_in}
use Rattle.model.specs.Layout.{form_of}
use Rattle.model.specs.Lemmas.FileNumbers.{length-files_of}
use Rattle.model.specs.Operations.{is_kind}
use Rattle.calls.specs.Calls.{Makes, image_on}
use Rattle.calls.specs.Stepping.{Plain}
use Rattle.calls.specs.Files.{Appends, CanSet, MakesFile, MakesNone, MayAppend, appended, emptied, empty_file, files_on, files_set}
use Rattle.calls.specs.Lemmas.After.{after_creation, after_emptying, after_setting, after_removal, after_write, HasWritten}

-- ---- a creation

pub made_file : {D : Type 0} {more : ℕ} (image : D → Image) (k m : Plain D) (kind i : ℕ) (reply : Reply) → is_kind kind ≡ true →
    Makes more image (Create kind) k m reply → reply ≡ Made i → MakesFile kind i (files_on image k) (files_on image m)
made_file image k m kind i reply is calls made =
    ⊎_elim
    (λ (j, here, has). let same : j ≡ i = cc (here, made) in record {
      some = omega (arith, has.some);
      below = subst (λ (n : ℕ). n < length (files_on image k)) same has.below;
      free = ap (file_in (files_on image k)) (sym same) ∙ has.free;
      lowest = λ n low high. calls.lowest kind i n refl made low high;
      files = has.made ∙ ap (λ (n : ℕ). set (files_on image k) n (empty_file kind)) same;
    })
    (λ (none, same). absurd (cc (none, made)))
    (after_creation (form_of (image_on image k)) (files_on image k) kind reply (files_on image m) is calls.files)

pub made_none : {D : Type 0} {more : ℕ} (image : D → Image) (k m : Plain D) (kind : ℕ) (reply : Reply) → is_kind kind ≡ true →
    Makes more image (Create kind) k m reply → reply ≡ NoInode → MakesNone (files_on image k) (files_on image m)
made_none image k m kind reply is calls none =
    ⊎_elim (λ (j, here, has). absurd (cc (here, none)))
    (λ (is_none, same). record {
      full = λ j low high. calls.none kind j refl none low
          (subst (λ (n : ℕ). j < n) (length-files_of (image_on image k)) high);
      files = same;
    })
    (after_creation (form_of (image_on image k)) (files_on image k) kind reply (files_on image m) is calls.files)

-- a creation has no other reply
pub made_or_none : {D : Type 0} {more : ℕ} (image : D → Image) (k m : Plain D) (kind : ℕ) (reply : Reply) → is_kind kind ≡ true →
    Makes more image (Create kind) k m reply → ((i : ℕ) → reply ≢ Made i) → reply ≢ NoInode → ⊥
made_or_none image k m kind reply is calls not_made not_none =
    ⊎_elim (λ (i, made, has). not_made i made) (λ (none, same). not_none none)
    (after_creation (form_of (image_on image k)) (files_on image k) kind reply (files_on image m) is calls.files)

-- ---- a removal, a truncation and a new attribute

pub removes : {D : Type 0} {more : ℕ} (image : D → Image) (k m : Plain D) (i : ℕ) (reply : Reply) → file_in (files_on image k) i ≢ None →
    Makes more image (Remove i) k m reply → (reply ≡ Done) × (files_on image m ≡ set (files_on image k) i None)
removes image k m i reply there calls =
    after_removal (form_of (image_on image k)) (files_on image k) i reply (files_on image m) there calls.files

pub empties : {D : Type 0} {more : ℕ} (image : D → Image) (k m : Plain D) (i : ℕ) (reply : Reply) → file_in (files_on image k) i ≢ None →
    Makes more image (Trunc i) k m reply → (reply ≡ Done) × (files_on image m ≡ emptied (files_on image k) i)
empties image k m i reply there calls =
    after_emptying (form_of (image_on image k)) (files_on image k) i reply (files_on image m) there calls.files

pub sets : {D : Type 0} {more : ℕ} (image : D → Image) (k m : Plain D) (i : ℕ) (a : Attribute) (reply : Reply) → CanSet (file_in (files_on image k) i) a →
    Makes more image (SetAttribute i a) k m reply → (reply ≡ Done) × (files_on image m ≡ files_set (files_on image k) i a)
sets image k m i a reply can calls =
    after_setting (form_of (image_on image k)) (files_on image k) i a reply (files_on image m) can calls.files

-- ---- a write at the end

pub writes : {D : Type 0} {more : ℕ} (image : D → Image) (k m : Plain D) (i off : ℕ) (bytes : List ℕ) (reply : Reply) →
    MayAppend (form_of (image_on image k)) (file_in (files_on image k) i) off (length bytes) →
    Makes more image (Write i off bytes) k m reply → (count : ℕ) × (reply ≡ Wrote count) × HasWritten (files_on image k) i bytes count (files_on image m)
writes image k m i off bytes reply room calls =
    after_write (form_of (image_on image k)) (files_on image k) i off bytes reply (files_on image m) room calls.files

pub appends : {D : Type 0} {more : ℕ} (image : D → Image) (k m : Plain D) (i off count : ℕ) (bytes : List ℕ) (reply : Reply) →
    MayAppend (form_of (image_on image k)) (file_in (files_on image k) i) off (length bytes) →
    Makes more image (Write i off bytes) k m reply → reply ≡ Wrote count →
    Appends (eqb count (length bytes)) i bytes (image_on image k) (image_on image m)
appends image k m i off count bytes reply room calls is =
    let (done, wrote, has) = writes image k m i off bytes reply room calls in
    let same : done ≡ count = cc (wrote, is) in
    let few : count ≤ length bytes = omega (arith, has.few) in
    let made : files_on image m ≡ appended (files_on image k) i (take count bytes)
    = has.made ∙ ap (λ (n : ℕ). appended (files_on image k) i (take n bytes)) same in
    ⊎_elim
    (λ (all : count ≡ length bytes).
    subst (λ b. Appends b i bytes (image_on image k) (image_on image m)) (sym (eq-eqb count (length bytes) all))
    (made ∙ ap (appended (files_on image k) i) (take_all count bytes (omega arith))))
    (λ (fewer : count ≢ length bytes).
    subst (λ b. Appends b i bytes (image_on image k) (image_on image m)) (sym (ne_eqb count (length bytes) fewer))
    (record {
      count = count;
      fewer = omega arith;
      files = made;
      full = calls.short i off count bytes refl is (omega arith);
    }))
    (cases_eq count (length bytes))

-- a write of a copy of the bytes is one of the bytes
pub of_copy : {D : Type 0} {more : ℕ} (image : D → Image) (k m : Plain D) (i off : ℕ) (copy bytes : List ℕ) (reply : Reply) → copy ≡ bytes →
    Makes more image (Write i off copy) k m reply → Makes more image (Write i off bytes) k m reply
of_copy {more = more} image k m i off copy bytes reply same calls =
    subst (λ (b : List ℕ). Makes more image (Write i off b) k m reply) same calls
