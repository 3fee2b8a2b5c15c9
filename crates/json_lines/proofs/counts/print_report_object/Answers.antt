use Rattle.std.proofs.Common.{codes}
use Rattle.std.proofs.KnownBytes.{Appends-trans}
use Rattle.std.proofs.lemmas.Result.{on_ok_weaker}
use Rattle.json_lines.specs.Counts.{found_fields, report_object}
use Rattle.json_lines.proofs.counts.print_report_object.Goals as goal

pub returns : goal.returns
unfolding report_object
returns g c =
    let fields = found_fields c.args.logged c.args.files in
    record { ok = on_ok_weaker c.print_last.result (λ last. Appends-trans _ _ _ (codes "{\"sound\":true") _ c.in_ok-print.ensures.ok (Appends-trans _ _ _ fields (codes "}\n") c.in_ok-print_found.ensures.ok last)) c.print_last.ensures.ok }
