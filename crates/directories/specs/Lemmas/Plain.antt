-- Operations that make and remove no file, and write no directory, leave each name as it was.
use Rattle.std.proofs.Common.{◌≡◌, ◌≢◌, ℕ, [], take, set, Some, None, refl, sym, ap, subst, ◌∙◌, ⊎_elim}
use Rattle.std.proofs.lemmas.Bool.{cases_eq}
use Rattle.blocks.specs.Block.{overwritten}
use Rattle.model.specs.declared.types.image.File.{File}
use Rattle.model.specs.declared.types.operations.Attribute.{Attribute}
use Rattle.model.specs.declared.types.operations.Op.{Op}
use Rattle.model.specs.declared.types.operations.Op.TheVariants.{Create, Write, Read, Trunc, Remove, Stat}
use Rattle.model.specs.declared.types.operations.Reply.{Reply}
use Rattle.model.specs.Files.{Files, file_in}
use Rattle.model.specs.Lemmas.FileNumbers.{below_file}
use Rattle.model.specs.Lemmas.Replies.{after_cases}
use Rattle.model.specs.Operations.{after_done, refusal_of}
use Rattle.directories.specs.Trees.{kind_of, IsDirectory, IsFile}
use Rattle.directories.specs.TreeChanges.{KeepsNames}
use Rattle.directories.specs.TreeLaws.{IsPlain, PlainKeeps}
use Rattle.directories.specs.Lemmas.FileMaps.{set_others, set_there}
use Rattle.directories.specs.Lemmas.Keeping.{at_cases, links_on, read_on, size_on, stat_on, trunc_on, write_on}
use Rattle.directories.specs.Lemmas.Unnamed.{some_ne_none}

same_files : (files new : Files) → new ≡ files → KeepsNames files new
same_files files new e = record {
  still = λ i there. subst (λ (l : Files). IsFile l i) (sym e) there;
  was = λ i there. subst (λ (l : Files). IsFile l i) e there;
  kinds = λ i. ap (λ (l : Files). kind_of (file_in l i)) e;
  directories = λ i is. ap (λ (l : Files). file_in l i) e;
}

-- a file of the same type is in the place of one that is no directory
one_file : (files new : Files) (i : ℕ) (old file : File) → file_in files i ≡ Some old → (IsDirectory files i → ⊥) → file.kind ≡ old.kind →
    new ≡ set files i (Some file) → KeepsNames files new
one_file files new i old file was plain kind e =
    let is : file_in new i ≡ Some file = set_there files new i (Some file) (below_file files i old was) e in
    let others = set_others files new i (Some file) e in
    record {
      still = λ j there none.
          ⊎_elim (λ (same : j ≡ i). some_ne_none file (sym is ∙ ap (file_in new) (sym same) ∙ none))
          (λ (apart : j ≢ i). there (sym (others j apart) ∙ none)) (cases_eq j i);
      was = λ j there none.
          ⊎_elim (λ (same : j ≡ i). some_ne_none old (sym was ∙ ap (file_in files) (sym same) ∙ none))
          (λ (apart : j ≢ i). there (others j apart ∙ none)) (cases_eq j i);
      kinds = λ j.
          ⊎_elim
          (λ (same : j ≡ i).
          ap (λ (k : ℕ). kind_of (file_in new k)) same ∙ ap kind_of is ∙ kind ∙ sym (ap (λ (k : ℕ). kind_of (file_in files k)) same ∙ ap kind_of was))
          (λ (apart : j ≢ i). ap kind_of (others j apart)) (cases_eq j i);
      directories = λ j directory.
          others j (λ same. plain (ap (λ (k : ℕ). kind_of (file_in files k)) (sym same) ∙ directory));
    }

done_keeps : (files new : Files) (op : Op) (reply : Reply) → IsPlain files op → after_done files op reply ≡ Some new → KeepsNames files new
done_keeps files new (Create kind) reply plain h = absurd plain
done_keeps files new (Write i off bytes) reply plain h =
    let on = at_cases files new i (file_in files i) (Write i off bytes) reply h in
    let wrote = write_on files new i on.0 i off bytes reply on.2 in
    one_file files new i on.0 (record on.0 { bytes = overwritten on.0.bytes off (take wrote.0 bytes) }) on.1 plain refl wrote.2
done_keeps files new (Read i off n) reply plain h =
    let on = at_cases files new i (file_in files i) (Read i off n) reply h in same_files files new (read_on files new i on.0 i off n reply on.2)
done_keeps files new (Trunc i) reply plain h =
    let on = at_cases files new i (file_in files i) (Trunc i) reply h in
    one_file files new i on.0 (record on.0 { bytes = [] }) on.1 plain refl (trunc_on files new i on.0 i reply on.2)
done_keeps files new (Remove i) reply plain h = absurd plain
done_keeps files new (Stat i) reply plain h =
    let on = at_cases files new i (file_in files i) (Stat i) reply h in same_files files new (stat_on files new i on.0 i reply on.2)
done_keeps files new (Op.SetAttribute i (Attribute.Links n)) reply plain h =
    let on = at_cases files new i (file_in files i) (Op.SetAttribute i (Attribute.Links n)) reply h in
    one_file files new i on.0 (record on.0 { links = n }) on.1 plain refl (links_on files new i on.0 i n reply on.2)
done_keeps files new (Op.SetAttribute i (Attribute.Size n)) reply plain h =
    let on = at_cases files new i (file_in files i) (Op.SetAttribute i (Attribute.Size n)) reply h in
    let made = size_on files new i on.0 i n reply on.2 in
    one_file files new i on.0 (record on.0 { bytes = made.0 }) on.1 plain refl made.1

pub plain_keeps : PlainKeeps
plain_keeps form files new op reply plain h =
    ⊎_elim (λ (same : new ≡ files). same_files files new same)
    (λ (done : (refusal_of form files op ≡ None) × (after_done files op reply ≡ Some new)). done_keeps files new op reply plain done.1)
    (after_cases form files new op reply h)
