-- A directory is made, and its two entries are written, or none where no block is free.
use Rattle.std.proofs.Common.{◌≡◌, ◌⊎◌, ℕ, ◌<◌, ◌^◌, Bool, true, false, length, Option, Some, Ok, refl, sym, ap, subst, ◌∙◌, ⊎_elim, arith}
use Rattle.std.specs.Prelude.{⊤}
use Rattle.blocks.specs.declared.disk.Disk.{Ghosts}
use Rattle.model.specs.declared.types.operations.Op.TheVariants.{Write}
use Rattle.model.specs.declared.types.operations.Reply.{Reply}
use Rattle.model.specs.declared.types.operations.Reply.TheVariants.{Wrote}
use Rattle.model.specs.Files.{Files}
use Rattle.calls.specs.Stepping.{Plain}
use Rattle.names.specs.Inside.{files_seen, form_seen, Answers, FallsShort}
use Rattle.names.specs.Making.{HasCreated, HasCreatedNew, HasFilledFor, Uncreates}
use Rattle.names.specs.Ready.{is_filled}
use Rattle.directories.specs.TreeChanges.{directory_file, empty_file, IsUnnamed}
use Rattle.directories.specs.Lemmas.NewDirectory.{files_are_new}
use Rattle.directories.specs.Trees.{new_directory}
use Rattle.directories.specs.Lemmas.Unnamed.{write_fills}

module _ {D N : Type 0} (disk : Ghosts D N) (k a b : Plain D) (parent number up : ℕ) (made : Option ℕ) (whole : Bool) (up_is : up ≡ parent)
    (made_is : made ≡ Some number) (created : HasCreated 1 (files_seen disk.image k) (files_seen disk.image a) made)
    (filled : HasFilledFor disk.image number up a b whole) where
  some : IsUnnamed (files_seen disk.image k) (files_seen disk.image a) number (empty_file 1) × (0 < number)
  some = subst (λ (o : Option ℕ). HasCreated 1 (files_seen disk.image k) (files_seen disk.image a) o) made_is created

  either : ((filled.reply ≡ Wrote 32) × IsUnnamed (files_seen disk.image k) (files_seen disk.image b) number (directory_file number up))
      ⊎ ((filled.reply ≡ Wrote 0) × (files_seen disk.image b ≡ files_seen disk.image a))
  either =
      write_fills (form_seen disk.image a) (files_seen disk.image k) (files_seen disk.image a) (files_seen disk.image b) number up filled.reply some.0 filled.answers

  pub filled_made : whole ≡ true → 0 < up → number < 2 ^ 16 → up < 2 ^ 16 →
      HasCreatedNew ⊤ directory_file parent (files_seen disk.image k) (files_seen disk.image b) (Ok number)
  filled_made holds positive fits up_fits =
      let unnamed : IsUnnamed (files_seen disk.image k) (files_seen disk.image b) number (directory_file number up) =
      ⊎_elim (λ (done : (filled.reply ≡ Wrote 32) × IsUnnamed (files_seen disk.image k) (files_seen disk.image b) number (directory_file number up)). done.1)
      (λ (none : (filled.reply ≡ Wrote 0) × (files_seen disk.image b ≡ files_seen disk.image a)).
      let both : true ≡ false = sym holds ∙ filled.told ∙ ap is_filled none.0 in absurd (cc both)) either in
      subst (λ (p : ℕ). HasCreatedNew ⊤ directory_file p (files_seen disk.image k) (files_seen disk.image b) (Ok number)) up_is
      (unnamed, files_are_new.1 number up some.1 fits positive up_fits, some.1)

  pub filled_undone : (u : Plain D) (i : ℕ) → i ≡ number → whole ≡ false → Uncreates i (files_seen disk.image b) (files_seen disk.image u) →
      files_seen disk.image u ≡ files_seen disk.image k
  filled_undone u i same fails undoes =
      let none : files_seen disk.image b ≡ files_seen disk.image a =
      ⊎_elim (λ (done : (filled.reply ≡ Wrote 32) × IsUnnamed (files_seen disk.image k) (files_seen disk.image b) number (directory_file number up)).
      let both : false ≡ true = sym fails ∙ filled.told ∙ ap is_filled done.0 in absurd (cc both))
      (λ (none : (filled.reply ≡ Wrote 0) × (files_seen disk.image b ≡ files_seen disk.image a)). none.1) either in
      undoes (files_seen disk.image k) (empty_file 1)
      (subst (λ (j : ℕ). IsUnnamed (files_seen disk.image k) (files_seen disk.image b) j (empty_file 1)) (sym same)
      (subst (λ (f : Files). IsUnnamed (files_seen disk.image k) f number (empty_file 1)) (sym none) some.0))

  -- no block was free for the entries
  pub filled_short : whole ≡ false → FallsShort disk.image a b
  filled_short fails =
      let none : filled.reply ≡ Wrote 0 =
      ⊎_elim (λ (done : (filled.reply ≡ Wrote 32) × IsUnnamed (files_seen disk.image k) (files_seen disk.image b) number (directory_file number up)).
      let both : false ≡ true = sym fails ∙ filled.told ∙ ap is_filled done.0 in absurd (cc both))
      (λ (none : (filled.reply ≡ Wrote 0) × (files_seen disk.image b ≡ files_seen disk.image a)). none.0) either in
      let size : length (new_directory number up) ≡ 32 = refl in
      let fewer : 0 < length (new_directory number up) = omega (arith, size) in
      record {
        number = number;
        offset = 0;
        count = 0;
        bytes = new_directory number up;
        fewer = fewer;
        answers = subst (λ (r : Reply). Answers disk.image (Write number 0 (new_directory number up)) a b r) none filled.answers;
        full = filled.short number 0 0 (new_directory number up) refl none fewer;
      }
