-- A sound image of ours has its files, and stays sound, with a shorter log.
use Rattle.std.proofs.Common.{◌≡◌, ℕ, true, length, None, refl, sym, ap, ◌∙◌, subst, arith}
use Rattle.std.specs.Prelude.{Option, Result, Ok, Err, IfErr, IfOk, OnOk}
use Rattle.blocks.specs.Disk.{Image, IsImage}
use Rattle.model.specs.Common.{super_of}
use Rattle.model.specs.declared.types.image.Dinode.{Dinode}
use Rattle.model.specs.Verdict.{verdict}
use Rattle.conversion.specs.Common.{chosen_size, is_log_length}
use Rattle.conversion.specs.Converted.{conversion_fault, IsUnmoved}
use Rattle.conversion.specs.declared.fault.ConversionFault.{ConversionFault}
use Rattle.conversion.specs.declared.fault.ConversionFault.TheVariants.{BadGeometry, BadMagic, Disk, Logged, NoMemory, SizeRange, Unsound}
use Rattle.conversion.specs.Moving.{moved_image}
use Rattle.conversion.specs.Shortened.{IsNotShortened, IsShortened}
use Rattle.conversion.proofs.FitLemmas.{fit_of}
use Rattle.conversion.proofs.MovedLemmas.{boot-moved, fields-moved, inode-moved, length-moved_image}
use Rattle.conversion.proofs.OlderSoundLemmas.{files_same, sound_moved}
use Rattle.conversion.proofs.OverLemmas.{own_files, own_inode, sound_where_judged}
use Rattle.conversion.proofs.OwnLemmas.{older_of_lawful, older_of_sound, our_log}

pub shortened : (x : Image) (to : ℕ) (asked : Option ℕ) → is_log_length to ≡ true → IsImage x → verdict x ≡ None → conversion_fault x to asked ≡ None →
    IsShortened x to (chosen_size x to asked) (moved_image x to (chosen_size x to asked))
shortened x to asked log is judged none =
    let size = chosen_size x to asked in
    let fit = fit_of x to asked log none in
    let sound = sound_where_judged x fit.empty judged in
    let own = our_log (super_of x) (length x) sound.geometry.fields in
    let start : (super_of x).inodestart ≡ 33 = omega (arith, own, fit.inodes) in
    let older = older_of_sound x own (older_of_lawful (super_of x) (length x) sound.geometry.fields) fit.magic sound in
    record {
      blocks = refl;
      sound = sound_moved x to size is fit older log;
      fields = fields-moved x to size fit;
      long = length-moved_image x to size fit;
      files = files_same x to size is fit older ∙ sym (own_files x start);
      labels = λ i low high.
          ap (λ (d : Dinode). (d.major, d.minor)) (inode-moved x to size fit is i high)
          ∙ ap (λ (d : Dinode). (d.major, d.minor)) (sym (own_inode x start i));
      boot = boot-moved x to size fit;
    }

-- the same of what a call hands out
pub shortened_all : {T E : Type 0} (image : T → Image) (x : Image) (to : ℕ) (asked : Option ℕ) (result : Result T E) → is_log_length to ≡ true → IsImage x →
    verdict x ≡ None → IfOk result (λ new. image new ≡ moved_image x to (chosen_size x to asked)) → OnOk result (conversion_fault x to asked ≡ None) →
    IfOk result (λ new. IsShortened x to (chosen_size x to asked) (image new))
shortened_all image x to asked (Ok new) log is judged moved none =
    subst (IsShortened x to (chosen_size x to asked)) (sym moved) (shortened x to asked log is judged none)
shortened_all image x to asked (Err fault) log is judged moved none = tt

-- why what has no fault was not moved
not_moved : (x : Image) (to : ℕ) (asked : Option ℕ) (was is : ℕ) (fault : ConversionFault) → verdict x ≡ None → IsUnmoved x to asked was is fault →
    IsNotShortened x to asked was is fault
not_moved x to asked was is (Unsound fault) judged why = absurd why
not_moved x to asked was is (Disk b) judged why = (judged, why)
not_moved x to asked was is NoMemory judged why = (judged, why)
not_moved x to asked was is BadMagic judged why = (judged, why)
not_moved x to asked was is BadGeometry judged why = (judged, why)
not_moved x to asked was is (Logged n) judged why = (judged, why)
not_moved x to asked was is SizeRange judged why = (judged, why)

pub refused_all : {T : Type 0} (x : Image) (to : ℕ) (asked : Option ℕ) (was is : ℕ) (result : Result T ConversionFault) → verdict x ≡ None →
    IfErr result (IsUnmoved x to asked was is) → IfErr result (IsNotShortened x to asked was is)
refused_all x to asked was is (Ok new) judged why = tt
refused_all x to asked was is (Err fault) judged why = not_moved x to asked was is fault judged why
