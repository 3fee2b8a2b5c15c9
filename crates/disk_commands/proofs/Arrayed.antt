-- What a check that prints an array of all faults came to.
use Rattle.std.proofs.Common.{◌≡◌, ◌∙◌, ℕ, true, List, ◌++◌, codes, take, Option, None, Ok, Err, inl, inr, sym, subst}
use Rattle.std.specs.Prelude.{IfErr, OnOk, Result}
use Rattle.std.specs.Io.KnownBytes.{Appends}
use Rattle.std.proofs.KnownBytes.{Appends-trans}
use Rattle.blocks.specs.declared.disk.Disk.{Ghosts}
use Rattle.json_lines.specs.Arrays.{array_text, elements_behind}
use Rattle.json_lines.specs.Faults.{fault_object}
use Rattle.model.specs.Faults.{faults}
use Rattle.model.specs.Lemmas.Faults.{verdict_is_first}
use Rattle.model.specs.Verdict.{verdict}
use Rattle.model.specs.declared.types.fault.CheckFault.{CheckFault}
use Rattle.messages.specs.declared.printed.Printed.{Printed}
use Rattle.messages.specs.declared.printed.Printed.TheVariants as printed
use Rattle.offline.specs.Cause.{IsBreak}
use Rattle.disk_commands.specs.Causes.{EndsWith, HasArrayTold}
use Rattle.disk_commands.specs.FaultLines.{nothing_heard, PrintsFaults}
use Rattle.disk_commands.specs.Looks.{HasReported}
use Rattle.disk_commands.specs.declared.fault_lines.Heard.{Heard}
use Rattle.disk_commands.proofs.Checked.{break_is_cause}

-- faults that were printed behind the beginning of an array
module _ {O : Type 0} (contents : O → Option (List ℕ)) (list : List CheckFault) (old begun mid : O) (heard : Heard)
    (first : Appends (contents old) (contents begun) (codes "[")) (all : heard.is_printed ≡ true)
    (prints : PrintsFaults contents true list begun nothing_heard mid heard) where
  pub array_begun : Appends (contents old) (contents mid) (codes "[" ++ elements_behind fault_object 0 list)
  array_begun = Appends-trans (contents old) (contents begun) (contents mid) (codes "[") (elements_behind fault_object 0 list) first (prints.printed all).lines

  pub array_ended : (new : O) → Appends (contents mid) (contents new) (codes "]\n") → Appends (contents old) (contents new) (array_text fault_object list)
  array_ended new last =
      Appends-trans (contents old) (contents begun) (contents new) (codes "[") (elements_behind fault_object 0 list ++ codes "]\n") first
      (Appends-trans (contents begun) (contents mid) (contents new) (elements_behind fault_object 0 list) (codes "]\n") (prints.printed all).lines last)

-- those of the image of the disk d, now e
module _ {O D N : Type 0} (contents : O → Option (List ℕ)) (disk : Ghosts D N) (d e : D) (old begun mid new : O) (heard : Heard)
    (first : Appends (contents old) (contents begun) (codes "[")) (all : heard.is_printed ≡ true) where
  module _ (prints : PrintsFaults contents true (faults (disk.image d)) begun nothing_heard mid heard) where
    pub array_reported : disk.image e ≡ disk.image d → (r : Result (Unit {0}) (Printed CheckFault)) → EndsWith (contents mid) (contents new) heard.first r → OnOk r (HasReported disk true true d e (contents old) (contents new))
    array_reported image (Ok done) ends =
        let x = disk.image d in
        let sound : verdict x ≡ None = (verdict_is_first x).first ∙ sym prints.first ∙ ends.0 in
        let whole = array_ended contents (faults x) old begun mid heard first all prints new ends.1 in
        (image, sound, subst (λ (list : List CheckFault). Appends (contents old) (contents new) (array_text fault_object list)) ((verdict_is_first x).none.0 sound) whole)
    array_reported image (Err refusal) ends = tt

    pub array_refused : (r : Result (Unit {0}) (Printed CheckFault)) → EndsWith (contents mid) (contents new) heard.first r → IfErr r (HasArrayTold disk d e (contents old) (contents new))
    array_refused (Ok done) ends = tt
    array_refused (Err (printed.Fault fault)) ends =
        let x = disk.image d in
        inl ((verdict_is_first x).first ∙ sym prints.first ∙ ends.0, array_ended contents (faults x) old begun mid heard first all prints new ends.1)
    array_refused (Err printed.Output) ends = tt

  -- a walk that broke off
  pub array_broken : (fault : CheckFault) (count : ℕ) → PrintsFaults contents true (take count (faults (disk.image d))) begun nothing_heard mid heard →
      IsBreak (disk.fault_count d) (disk.fault_count e) fault → HasArrayTold disk d e (contents old) (contents mid) (printed.Fault fault)
  array_broken fault count prints breaks =
      inr (break_is_cause (disk.fault_count d) (disk.fault_count e) fault breaks, (count, array_begun contents (take count (faults (disk.image d))) old begun mid heard first all prints))
