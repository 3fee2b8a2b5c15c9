-- A kernel over a new image, and why there is none.
use Rattle.std.proofs.Common.{◌≡◌, ◌≢◌, ◌∙◌, ◌⊎◌, ℕ, ◌<◌, Bool, true, false, ◌&&◌, length, None, refl, sym, ap, subst, inl, inr, arith}
use Rattle.blocks.specs.Disk.{Image, Rose}
use Rattle.blocks.specs.declared.disk.Disk.{Ghosts}
use Rattle.model.specs.declared.types.fault.CheckFault.{CheckFault}
use Rattle.model.specs.declared.types.fault.CheckFault.TheVariants as check
use Rattle.model.specs.declared.types.image.Form.{Form}
use Rattle.model.specs.declared.types.image.Form.TheVariants.{One, Two}
use Rattle.model.specs.Codec.{made_image}
use Rattle.model.specs.Files.{files_of}
use Rattle.model.specs.Layout.{form_of, is_inode_count, is_size}
use Rattle.model.specs.Log.{recovered}
use Rattle.model.specs.Soundness.{IsSound}
use Rattle.model.specs.Verdict.{verdict}
use Rattle.model.specs.Lemmas.Log.{recovered_empty}
use Rattle.model.specs.Lemmas.MadeImages.{is_within, length-made_image, magic-made_image}
use Rattle.model.specs.Lemmas.Soundness.{sound_verdict}
use Rattle.offline.specs.Cause.{IsCause}
use Rattle.offline.specs.Laws.{IsWithoutFiles}
use Rattle.offline.specs.Making.{MakesAs}
use Rattle.wal.specs.Lemmas.Commits.{empty_lawful}
use Rattle.wal.specs.declared.faults.RecoverFault.TheVariants as recover
use Rattle.kernel.specs.Opening.{RefusesToOpen}
use Rattle.kernel.specs.declared.types.OpenFault.{OpenFault}
use Rattle.kernel.specs.declared.types.OpenFault.TheVariants.{Check, Recover, NoMemory, ProcRange}
use Rattle.calls.specs.Calls.{image_on}
use Rattle.calls.specs.Opening.{IsNotOpenedSole, IsOpenedSole}
use Rattle.calls.specs.Stepping.{Plain}
use Rattle.transfer.specs.Copies.{IsNewKernel, IsUnmade}
use Rattle.transfer.specs.Faults.{fault_of_opening}

-- a sound image has no fault
pub verdict_where_sound : (x : Image) → IsSound x → verdict x ≡ None
verdict_where_sound x sound =
    sound_verdict x (sound.geometry, empty_lawful x sound.empty_log, subst IsSound (sym (recovered_empty x sound.empty_log)) sound)

-- a new image is of its form
pub form-made_image : (form : Form) (size n : ℕ) → is_inode_count n ≡ true → is_size size n ≡ true → form_of (made_image form size n) ≡ form
form-made_image One size n count fits =
    let room = (is_within size n count fits).room in
    rw (magic-made_image One size n (omega arith)) refl
form-made_image Two size n count fits =
    let room = (is_within size n count fits).room in
    rw (magic-made_image Two size n (omega arith)) refl

-- the size was not refused
pub size_fits : (a b : Bool) → ((a && b) ≡ false → ⊥) → a ≡ true
size_fits true b not = refl
size_fits false b not = absurd (not refl)

-- a kernel may have one process
one_process : (1 < 1) ⊎ (32 < 1) → ⊥
one_process (inl none) = omega arith
one_process (inr many) = omega arith

module _ {E N : Type 0} (new : Ghosts E N) (size n : ℕ) where
  -- the kernel that was opened over a new image
  pub new_kernel : (form : Form) (d e : E) (k : Plain E) → is_inode_count n ≡ true → is_size size n ≡ true →
      MakesAs new form size n d e → new.name e ≡ new.name d → IsWithoutFiles (made_image form size n) n →
      IsOpenedSole new e k → IsNewKernel new size n form d k
  new_kernel form d e k count fits made name without opened =
      let x = made_image form size n in
      let same : image_on new.image k ≡ x = opened.image ∙ ap recovered made.image ∙ recovered_empty x without.sound.empty_log in
      let long : length (image_on new.image k) ≡ length (new.image k.opening) = ap (λ o. length (new.image o)) opened.device in
      record {
        holds = record {
          rests = opened.rests;
          few = omega (arith, opened.none_called);
          sound = opened.whole.sound;
          form = ap (λ o. form_of (new.image o)) opened.device;
          size = long;
          held = ap files_of same ∙ without.files;
        };
        device = opened.device;
        long = sym long ∙ ap length same ∙ length-made_image form size n;
        form = ap (λ o. form_of (new.image o)) (sym opened.device) ∙ ap form_of same ∙ form-made_image form size n count fits;
        name = opened.name ∙ name;
        faults = opened.faults ∙ made.faults;
      }

  -- an image without a fault over which none was opened: the disk failed, or memory was refused
  module _ (d m e : E) (sound : verdict (new.image m) ≡ None) (same : new.fault_count m ≡ new.fault_count d) where
    since : Rose (new.fault_count m) (new.fault_count e) → Rose (new.fault_count d) (new.fault_count e)
    since rose = subst (λ (count : ℕ). Rose count (new.fault_count e)) same rose

    check_failed : (fault : CheckFault) → fault ≢ check.NoMemory → IsCause (verdict (new.image m)) (new.fault_count m) (new.fault_count e) fault →
        Rose (new.fault_count d) (new.fault_count e)
    check_failed fault other (inl found) = absurd (cc (sound, found))
    check_failed fault other (inr (inl failed)) = since failed.1
    check_failed fault other (inr (inr refused)) = absurd (other refused)

    refused : (fault : OpenFault) → RefusesToOpen new m e 1 fault → IsUnmade new size n d e (fault_of_opening fault)
    refused NoMemory h = tt
    refused (Check check.NoMemory) h = tt
    refused (Check fault) h = check_failed fault (λ other. cc other) h.cause.2
    refused (Recover recover.NoMemory) h = tt
    refused (Recover recover.Disk) h = since h.cause.3
    refused (Recover recover.BadLog) h = absurd h.cause.3
    refused (Recover recover.Sync) h = since h.cause.3.0
    refused ProcRange h = absurd (one_process h.cause.0)

    pub unopened : (fault : OpenFault) → IsNotOpenedSole new m e fault → IsUnmade new size n d e (fault_of_opening fault)
    unopened fault (inl queues) = rw queues.0 tt
    unopened fault (inr refuses) = refused fault refuses
