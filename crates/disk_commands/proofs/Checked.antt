-- Why a check that tells all faults was refused.
use Rattle.std.proofs.Common.{◌≡◌, ◌∙◌, ℕ, Bool, true, false, not, List, length, take, Option, Some, None, inl, inr, refl, sym, ap, subst, zero-add}
use Rattle.std.specs.List.{flat_map}
use Rattle.std.specs.Io.KnownBytes.{Appends}
use Rattle.std.proofs.KnownBytes.{Appends-nil, Appends-trans}
use Rattle.blocks.specs.Disk.{Image}
use Rattle.blocks.specs.declared.disk.Disk.{Ghosts}
use Rattle.model.specs.Faults.{faults}
use Rattle.model.specs.Lemmas.Faults.{verdict_is_first}
use Rattle.model.specs.Verdict.{verdict}
use Rattle.model.specs.declared.types.fault.CheckFault.{CheckFault}
use Rattle.model.specs.declared.types.fault.CheckFault.TheVariants.{BadMagic, BadGeometry, BadLog, BadType, BadSize, BadAddress, TwiceUsed, UsedButFree, LostBlock, Disk, NoMemory}
use Rattle.messages.specs.Output.{fault_count_text, fault_line}
use Rattle.messages.specs.declared.printed.Printed.{Printed}
use Rattle.messages.specs.declared.printed.Printed.TheVariants as printed
use Rattle.offline.specs.Cause.{IsBreak, IsCause}
use Rattle.disk_commands.specs.Causes.{HasFaultsTold, IsToldWith, IsUnchecked, TellsFirst}
use Rattle.disk_commands.specs.FaultLines.{nothing_heard, PrintsFaults}
use Rattle.disk_commands.specs.declared.fault_lines.Heard.{Heard}

-- a walk that broke off
pub break_is_cause : (old new : ℕ) (fault : CheckFault) → IsBreak old new fault → IsCause None old new fault
break_is_cause old new BadMagic h = absurd h
break_is_cause old new BadGeometry h = absurd h
break_is_cause old new BadLog h = absurd h
break_is_cause old new (BadType i) h = absurd h
break_is_cause old new (BadSize i) h = absurd h
break_is_cause old new (BadAddress i) h = absurd h
break_is_cause old new (TwiceUsed b) h = absurd h
break_is_cause old new (UsedButFree b) h = absurd h
break_is_cause old new (LostBlock b) h = absurd h
break_is_cause old new Disk h = inr (inl (refl, h))
break_is_cause old new NoMemory h = inr (inr refl)

pub not_false : (b : Bool) → not b ≡ false → b ≡ true
not_false true h = refl
not_false false h = absurd (cc h)

module _ {O : Type 0} (contents : O → Option (List ℕ)) where
  -- an image of which no fault was heard has none, and nothing was printed
  pub none_found : (x : Image) (old new : O) (heard : Heard) → PrintsFaults contents false (faults x) old nothing_heard new heard → heard.first ≡ None → (verdict x ≡ None) × (new ≡ old)
  none_found x old new heard prints none =
      let sound : verdict x ≡ None = (verdict_is_first x).first ∙ sym prints.first ∙ none in
      (sound, prints.none ((verdict_is_first x).none.0 sound))

  -- where none was told
  tells_none : (list : List CheckFault) (old new : O) → new ≡ old → TellsFirst list (contents old) (contents new) (new ≡ old)
  tells_none list old new same =
      (0, (λ _. same), subst (λ (o : O). Appends (contents old) (contents o) (flat_map fault_line (take 0 list))) (sym same) (Appends-nil (contents old)))

  -- those that were told by then
  pub tells_first : (list : List CheckFault) (old new : O) (heard : Heard) (count : ℕ) → heard.is_printed ≡ true → PrintsFaults contents false (take count list) old nothing_heard new heard →
      TellsFirst list (contents old) (contents new) (new ≡ old)
  tells_first list old new heard count all prints = (count, prints.none, (prints.printed all).lines)

  module _ {D N : Type 0} (disk : Ghosts D N) where
    -- its faults were told
    pub faults_told : (d e : D) (old mid new : O) (heard : Heard) (first : CheckFault) (r : Printed CheckFault) → heard.is_printed ≡ true →
        PrintsFaults contents false (faults (disk.image d)) old nothing_heard mid heard → heard.first ≡ Some first → IsToldWith (contents mid) (contents new) heard.count first r →
        HasFaultsTold disk d e (contents old) (contents new) (new ≡ old) r
    faults_told d e old mid new heard first (printed.Fault fault) all prints is told =
        let x = disk.image d in
        let lines = prints.printed all in
        inl (
          (verdict_is_first x).first ∙ sym prints.first ∙ is ∙ ap Some (sym told.0),
          Appends-trans (contents old) (contents mid) (contents new) (flat_map fault_line (faults x)) (fault_count_text (length (faults x))) lines.lines
              (subst (λ n. Appends (contents mid) (contents new) (fault_count_text n)) (lines.count ∙ zero-add (length (faults x))) told.1),
        )
    faults_told d e old mid new heard first printed.Output all prints is told = tt

    -- what a check of a sound image tells, where it was read before
    pub unchecked_told : (d mid e : D) (old new : O) (r : Printed CheckFault) → verdict (disk.image d) ≡ None →
        disk.image mid ≡ disk.image d → disk.fault_count mid ≡ disk.fault_count d → IsUnchecked disk mid e (new ≡ old) r →
        HasFaultsTold disk d e (contents old) (contents new) (new ≡ old) r
    unchecked_told d mid e old new (printed.Fault fault) sound image count why =
        inr (
          subst (λ (n : ℕ). IsCause None n (disk.fault_count e) fault) count
              (subst (λ (o : Option CheckFault). IsCause o (disk.fault_count mid) (disk.fault_count e) fault) (ap verdict image ∙ sound) why.0),
          tells_none (faults (disk.image d)) old new why.1,
        )
    unchecked_told d mid e old new printed.Output sound image count why = tt
