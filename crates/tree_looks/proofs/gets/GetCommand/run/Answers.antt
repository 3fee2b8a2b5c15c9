use Rattle.std.proofs.Common.{◌≡◌, List, ℕ, Some, refl, subst}
use Rattle.std.proofs.lemmas.Result.{IfErr-weaker, on_ok_weaker}
use Rattle.cmd.specs.Lemmas.Disks.{file_disk}
use Rattle.cmd.specs.Opened.{OpensDisk}
use Rattle.std.specs.Prelude.{false}
use Rattle.tree_looks.specs.Gets.{HasWrittenNew, IsOfNew, IsUngot}
use Rattle.tree_looks.specs.Looks.{HasLooked, Shows}
use Rattle.tree_looks.proofs.Ungot.{not_made, not_read}
use Rattle.tree_looks.proofs.gets.GetCommand.run.Goals as goal

pub returns-in-Ok-clause-done : goal.returns-in-Ok-clause-done
returns-in-Ok-clause-done g c =
    on_ok_weaker c.write_new.result
    (λ written. record {
      bytes = c.run.new.out.items;
      read = subst (λ (none : List ℕ). OpensDisk g.R.File.Read.remaining file_disk false (λ d e. HasLooked file_disk (Shows c.args.self.path.now) d e (Some none) (Some c.run.new.out.items))) c.new-bytes.ensures.items c.in-Ok.ensures.done;
      written = subst (λ (bytes : List ℕ). HasWrittenNew g.R.File.Write.contents bytes) c.as_slice.ensures.value written;
      silent = refl;
    })
    c.write_new.ensures.written

pub returns-in-Ok-clause-refused : goal.returns-in-Ok-clause-refused
returns-in-Ok-clause-refused g c =
    let path = c.args.self.path.now in
    IfErr-weaker c.write_new.result IsOfNew (IsUngot g.R.File.Read.remaining path (c.args._out.now ≡ c.args._out.now)) (not_made g.R.File.Read.remaining path (c.args._out.now ≡ c.args._out.now) refl) c.write_new.ensures.cause

pub returns-clause-refused : goal.returns-clause-refused
returns-clause-refused g c =
    not_read g.R.File.Read.remaining c.args.self.path.now (c.args._out.now ≡ c.args._out.now) refl (c.run.new.out ≡ c.new-bytes.result) c.in-Err.refusal c.in-Err.ensures.refused
