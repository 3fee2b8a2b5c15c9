-- What a file is that was cut to a length.
use Rattle.std.proofs.Common.{◌≡◌, ◌≤◌, ℕ, true, length, set, Option, Some, sym, ap, subst, ◌∙◌}
use Rattle.blocks.specs.declared.disk.Disk.{Ghosts}
use Rattle.model.specs.declared.types.image.File.{File}
use Rattle.model.specs.declared.types.image.Form.{Form}
use Rattle.model.specs.declared.types.operations.Attribute.TheVariants.{Size}
use Rattle.model.specs.declared.types.operations.Op.TheVariants.{SetAttribute}
use Rattle.model.specs.declared.types.operations.Reply.{Reply}
use Rattle.model.specs.Files.{Files, file_in}
use Rattle.model.specs.Operations.{after}
use Rattle.calls.specs.Files.{with_value, CanSet}
use Rattle.calls.specs.Lemmas.After.{after_setting}
use Rattle.calls.specs.Stepping.{Plain}
use Rattle.directories.specs.Counts.{StaysCounted}
use Rattle.directories.specs.Trees.{kind_of, IsDirectory, IsTree}
use Rattle.names.specs.declared.asking.Found.{Found}
use Rattle.names.specs.Inside.{files_seen, form_seen, Answers}
use Rattle.names.specs.Looks.{IsFound}
use Rattle.names.specs.Numbered.{CutsAs, CutsAt}
use Rattle.names.proofs.Staying.{cuts_stay, stays_from}

module _ (form : Form) (files new : Files) (i n : ℕ) (file : File) (there : file_in files i ≡ Some file) where
  pub cuts : (reply : Reply) → n ≤ length file.bytes → after form files (SetAttribute i (Size n)) reply ≡ Some new → CutsAs i n file true files new
  cuts reply within h =
      let can = subst (λ (o : Option File). CanSet o (Size n)) (sym there) within in
      let made = after_setting form files i (Size n) reply new can h in
      (within, made.1 ∙ ap (λ (o : Option File). set files i (with_value o (Size n))) there)

-- what a look told of a file
module _ (files : Files) (i : ℕ) (found : Found) (is : IsFound files i found) where
  pub no_directory : (found.kind ≡ 1 → ⊥) → IsDirectory files i → ⊥
  no_directory other is_one = other (is.kind ∙ sym (ap kind_of is.there) ∙ is_one)

module _ {D N : Type 0} (disk : Ghosts D N) where
  pub cuts_tree : (k a b : Plain D) (i n : ℕ) (reply : Reply) → files_seen disk.image a ≡ files_seen disk.image k →
      Answers disk.image (SetAttribute i (Size n)) a b reply → IsTree (files_seen disk.image k) → (IsDirectory (files_seen disk.image k) i → ⊥) →
      StaysCounted (files_seen disk.image k) (files_seen disk.image b)
  cuts_tree k a b i n reply same answers tree plain =
      stays_from (files_seen disk.image k) (files_seen disk.image a) (files_seen disk.image b) same
      (cuts_stay (form_seen disk.image a) (files_seen disk.image a) (files_seen disk.image b) i n reply (subst (λ (f : Files). IsTree f) (sym same) tree)
      (λ is. plain (subst (λ (f : Files). IsDirectory f i) same is)) answers)

  -- it has so many bytes
  pub cuts_plain : (k a b : Plain D) (i n : ℕ) (reply : Reply) (found : Found) → files_seen disk.image a ≡ files_seen disk.image k →
      Answers disk.image (SetAttribute i (Size n)) a b reply → IsFound (files_seen disk.image k) i found → (found.kind ≡ 1 → ⊥) → n ≤ found.size →
      CutsAt i n true (files_seen disk.image k) (files_seen disk.image b)
  cuts_plain k a b i n reply found same answers is other within =
      let fs : Files = files_seen disk.image k in
      record {
        file = is.file;
        plain = record { there = is.there; plain = λ one. other (is.kind ∙ one) };
        cuts = cuts (form_seen disk.image a) fs (files_seen disk.image b) i n is.file is.there reply (subst (λ (size : ℕ). n ≤ size) is.size within)
            (subst (λ (f : Files). after (form_seen disk.image a) f (SetAttribute i (Size n)) reply ≡ Some (files_seen disk.image b)) same answers);
      }
