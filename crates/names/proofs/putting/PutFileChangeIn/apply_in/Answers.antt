use Rattle.std.proofs.Common.{◌≡◌, ◌≤◌, List, length, None, Result, ℕ, ◌∙◌, sym, ap, subst, rules, arith}
use Rattle.std.specs.Prelude.{⊤}
use Rattle.std.proofs.lemmas.Grind.{common_steps}
use Rattle.model.specs.Files.{Files}
use Rattle.directories.specs.Entries.{lookup}
use Rattle.names.specs.Inside.{files_seen}
use Rattle.names.specs.Making.{IsUnmadeOr}
use Rattle.names.specs.Putting.{file_of, IsUnputIn, PutsIn, Refills}
use Rattle.names.specs.Ready.{Happens}
use Rattle.directories.specs.TreeChanges.{AddsName}
use Rattle.directories.specs.declared.refusal.Refusal.{Refusal}
use Rattle.names.specs.declared.writing.Unwritten.{Unwritten}
use Rattle.directories.specs.Trees.{number_of, IsFile}
use Rattle.names.specs.Contents.{IsNoPlain}
use Rattle.names.proofs.Blocked.{answered_not, answered_on}
use Rattle.names.proofs.Entering.{found_bytes}
use Rattle.directories.specs.Lemmas.PathLaws.{step_leads}
use Rattle.names.proofs.PlainPuts.{none_by, put_new, told_full}
use Rattle.names.proofs.putting.PutFileChangeIn.apply_in.Goals as goal

pub refilled-requires-clause-there : goal.refilled-requires-clause-there
refilled-requires-clause-there g c =
    let files : Files = files_seen g.D.Disk.image c.args.tree.now.kernel in
    let there = found_bytes files c.args.from c.in_ok-bytes.field-0 c.in-Some.bytes c.in-Some.is c.in_ok-bytes.ensures.found in
    subst (λ (f : Files). IsFile f c.in-Some-lookup.number) (sym c.in_ok-bytes.ensures.same)
    (step_leads files c.requires.tree c.args.from c.in-Some-lookup.number c.args.name.now
    (there.0, ap (λ (l : List ℕ). lookup l c.args.name.now) (sym (c.as_slice.ensures ∙ there.1)) ∙ sym c.in-Some-lookup.ensures))

pub returns-in_default-lookup-clause-made : goal.returns-in_default-lookup-clause-made
returns-in_default-lookup-clause-made g c =
    let files : Files = files_seen g.D.Disk.image c.args.tree.now.kernel in
    let new : Files = files_seen g.D.Disk.image c.apply_in.new.tree.kernel in
    let bytes : List ℕ = c.args.self.now.bytes.now in
    let name : List ℕ = c.args.name.now in
    let there = found_bytes files c.args.from c.in_ok-bytes.field-0 c.in-Some.bytes c.in-Some.is c.in_ok-bytes.ensures.found in
    let absent : number_of files c.args.from name ≡ None =
    ap (λ (l : List ℕ). lookup l name) (sym (c.as_slice.ensures ∙ there.1)) ∙ sym c.lookup.ensures ∙ none_by c.lookup.result c.in_default-lookup.not-Some in
    let few : length bytes ≤ 3072 = first_of (search rules, grind (arith, common_steps)) in
    subst (λ (r : Result (Result ℕ Unwritten) Refusal). Happens (PutsIn bytes c.args.from name) (λ f. IsUnputIn f c.args.from name) files new r) (sym c.told.ensures)
    (put_new bytes name c.args.from files new c.in_ok-made.made few absent
    (subst (λ (f : Files). Happens (λ number old made. AddsName old made c.args.from name number (file_of bytes))
    (λ old. IsUnmadeOr ⊥ ⊤ old c.args.from name) f new c.in_ok-made.made) c.in_ok-bytes.ensures.same c.in_ok-made.ensures.made))

pub returns-in_default-lookup-clause-no_block : goal.returns-in_default-lookup-clause-no_block
returns-in_default-lookup-clause-no_block g c = λ tells.
    let few : length c.args.self.now.bytes.now ≤ 3072 = first_of (search rules, grind (arith, common_steps)) in
    answered_on g.D.Disk c.args.tree.now.kernel c.directory.new.self.kernel c.apply_in.new.tree.kernel c.directory.new.self.calls_left c.told.result c.in_ok-bytes.ensures.goes.on
    (told_full g.D.Disk c.directory.new.self.kernel c.apply_in.new.tree.kernel c.in_ok-made.made c.told.result c.told.ensures (c.in_ok-made.ensures.no_block few))

pub returns-clause-no_block : goal.returns-clause-no_block
returns-clause-no_block g c = λ tells.
    told_full g.D.Disk c.args.tree.now.kernel c.refilled.new.self.kernel c.in_ok-put.put c.told-2.result c.told-2.ensures
    (answered_not g.D.Disk (Refills c.in-Some-lookup.number c.args.self.now.bytes.now) (IsNoPlain c.in-Some-lookup.number) (files_seen g.D.Disk.image c.directory.new.self.kernel)
    (files_seen g.D.Disk.image c.refilled.new.self.kernel) c.args.tree.now.kernel c.refilled.new.self.kernel c.in_ok-put.put (λ why. cc (why.0)) c.in_ok-put.ensures.filled)
