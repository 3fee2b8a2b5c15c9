use Rattle.std.proofs.Common.{◌≡◌, ◌∙◌, ℕ, ◌+◌, Bool, true, false, None, Result, Err, refl, sym, subst, rules, arith}
use Rattle.model.specs.Files.{Files, file_in}
use Rattle.directories.specs.declared.refusal.Refusal.{Refusal}
use Rattle.names.specs.Inside.{files_seen, FallsShort}
use Rattle.names.specs.Linking.{HasMore}
use Rattle.directories.specs.Trees.{directory_in, links_of, number_of, IsDirectory, IsFile}
use Rattle.directories.specs.Writes.{NeedsBlock}
use Rattle.names.proofs.Going.{goes_on}
use Rattle.names.proofs.Blocked.{answers_err, unlinked_no, was_short}
use Rattle.names.proofs.Named.{file_is_used}
use Rattle.names.proofs.NewNames.{named_links, named_needs, named_not, named_short, named_stays, named_there}
use Rattle.names.proofs.Staying.{stays_same}
use Rattle.names.proofs.tree.Tree.linked.Given.{Over}
use Rattle.names.proofs.tree.Tree.linked.Goals.{In_ok-entered}
use Rattle.names.proofs.tree.Tree.linked.Goals as goal

pub link-requires-clause-used : goal.link-requires-clause-used
link-requires-clause-used g c =
    let same = c.in-Ok.ensures.1 in
    let used = file_is_used (files_seen g.D.Disk.image c.args.self.now.kernel) c.args.number c.requires.tree c.requires.there in omega arith

not_true : (b : Bool) → b ≡ false → b ≡ true → ⊥
not_true b fails holds = let both : true ≡ false = sym holds ∙ fails in cc both

-- the entry was written, or nothing
module _ (g : Over) (c : In_ok-entered g) where
  abbrev fs : Files
  fs = files_seen g.D.Disk.image c.args.self.now.kernel

  looked : files_seen g.D.Disk.image c.one_more.new.self.kernel ≡ fs
  looked = c.in_ok-count.ensures.same ∙ c.in_ok-bytes.ensures.same ∙ c.in_ok-is_directory.ensures.same

  not_written : c.in_ok-entered.field-0 ≡ false → files_seen g.D.Disk.image c.entered.new.self.kernel ≡ fs
  not_written fails =
      named_not g.D.Disk c.args.self.now.kernel c.one_more.new.self.kernel c.entered.new.self.kernel c.args.to c.args.number c.in-Ok.short c.args.name.now
      c.in-Some.bytes c.as_slice.result.now c.in_ok-bytes.field-0 (files_seen g.D.Disk.image c.is_directory.new.self.kernel) c.in-Ok-link.write c.in_ok-entered.field-0
      c.requires.tree looked c.in_ok-is_directory.ensures.same c.in_ok-bytes.ensures.found c.in-Some.is c.as_slice.ensures c.in-Ok.ensures.1 c.in-Ok-link.ensures.links
      c.in-Ok-link.ensures.room c.in_ok-entered.ensures.entered fails

  needs : c.in_ok-entered.field-0 ≡ false →
      IsDirectory fs c.args.to × (number_of fs c.args.to c.args.name.now ≡ None) × NeedsBlock (directory_in fs c.args.to)
  needs fails =
      named_needs g.D.Disk c.args.self.now.kernel c.one_more.new.self.kernel c.entered.new.self.kernel c.args.to c.args.number c.in-Ok.short c.args.name.now
      c.in-Some.bytes c.as_slice.result.now c.in_ok-bytes.field-0 (files_seen g.D.Disk.image c.is_directory.new.self.kernel) c.in-Ok-link.write c.in_ok-entered.field-0
      c.requires.tree looked c.in_ok-is_directory.ensures.same c.in_ok-bytes.ensures.found c.in-Some.is c.as_slice.ensures c.in-Ok.ensures.1 c.in-Ok-link.ensures.links
      c.in-Ok-link.ensures.room c.in_ok-entered.ensures.entered fails

  fell_short : c.in_ok-entered.field-0 ≡ false → FallsShort g.D.Disk.image c.one_more.new.self.kernel c.entered.new.self.kernel
  fell_short fails =
      named_short g.D.Disk c.args.self.now.kernel c.one_more.new.self.kernel c.entered.new.self.kernel c.args.to c.args.number c.in-Ok.short c.args.name.now
      c.in-Some.bytes c.as_slice.result.now c.in_ok-bytes.field-0 (files_seen g.D.Disk.image c.is_directory.new.self.kernel) c.in-Ok-link.write c.in_ok-entered.field-0
      c.requires.tree looked c.in_ok-is_directory.ensures.same c.in_ok-bytes.ensures.found c.in-Some.is c.as_slice.ensures c.in-Ok.ensures.1 c.in-Ok-link.ensures.links
      c.in-Ok-link.ensures.room c.in_ok-entered.ensures.entered fails

  plain : IsDirectory fs c.args.number → ⊥
  plain is =
      let fails : c.in_ok-is_directory.field-0 ≡ false = search rules in
      not_true c.in_ok-is_directory.field-0 fails (c.in_ok-is_directory.ensures.told.1 is)

  there_still : c.in_ok-entered.field-0 ≡ true → IsFile (files_seen g.D.Disk.image c.entered.new.self.kernel) c.args.number
  there_still holds =
      named_there g.D.Disk c.args.self.now.kernel c.one_more.new.self.kernel c.entered.new.self.kernel c.args.to c.args.number c.in-Ok.short c.args.name.now
      c.in-Some.bytes c.as_slice.result.now c.in_ok-bytes.field-0 (files_seen g.D.Disk.image c.is_directory.new.self.kernel) c.in-Ok-link.write c.in_ok-entered.field-0
      c.requires.tree looked c.in_ok-is_directory.ensures.same c.in_ok-bytes.ensures.found c.in-Some.is c.as_slice.ensures c.in-Ok.ensures.1 c.in-Ok-link.ensures.links
      c.in-Ok-link.ensures.room c.in_ok-entered.ensures.entered holds c.requires.there plain

  more : c.in-Ok-2.count ≡ links_of (file_in fs c.args.number) + 1
  more =
      subst (λ (f : Files). c.in-Ok-2.count ≡ links_of (file_in f c.args.number) + 1) (c.in_ok-bytes.ensures.same ∙ c.in_ok-is_directory.ensures.same)
      (subst (λ (r : Result ℕ Refusal). HasMore (files_seen g.D.Disk.image c.directory.new.self.kernel) c.args.number r) c.in-Ok-2.is c.in_ok-count.ensures.more)

pub returns-then-not-branch-clause-tree : goal.returns-then-not-branch-clause-tree
returns-then-not-branch-clause-tree g c =
    let fails : c.in_ok-entered.field-0 ≡ false = search rules in
    let a = (goal.at.returns-then-not-branch-clause-tree g c).In_ok-entered in
    stays_same (fs g a) (files_seen g.D.Disk.image c.entered.new.self.kernel) (not_written g a fails) c.requires.tree

pub returns-then-not-branch-clause-linked : goal.returns-then-not-branch-clause-linked
returns-then-not-branch-clause-linked g c =
    let fails : c.in_ok-entered.field-0 ≡ false = search rules in
    let a = (goal.at.returns-then-not-branch-clause-linked g c).In_ok-entered in (not_written g a fails, needs g a fails)

pub relinked-requires-clause-there : goal.relinked-requires-clause-there
relinked-requires-clause-there g c =
    let holds : c.in_ok-entered.field-0 ≡ true = search rules in
    there_still g (goal.at.relinked-requires-clause-there g c).In_ok-entered holds

pub returns-clause-tree : goal.returns-clause-tree
returns-clause-tree g c =
    let holds : c.in_ok-entered.field-0 ≡ true = search rules in
    let a = (goal.at.returns-clause-tree g c).In_ok-entered in
    named_stays g.D.Disk c.args.self.now.kernel c.one_more.new.self.kernel c.entered.new.self.kernel c.args.to c.args.number c.in-Ok.short c.args.name.now
    c.in-Some.bytes c.as_slice.result.now c.in_ok-bytes.field-0 (files_seen g.D.Disk.image c.is_directory.new.self.kernel) c.in-Ok-link.write c.in_ok-entered.field-0
    c.requires.tree (looked g a) c.in_ok-is_directory.ensures.same c.in_ok-bytes.ensures.found c.in-Some.is c.as_slice.ensures c.in-Ok.ensures.1 c.in-Ok-link.ensures.links
    c.in-Ok-link.ensures.room c.in_ok-entered.ensures.entered holds c.requires.there (plain g a)
    c.relinked.new.self.kernel c.in-Ok-2.count (more g a) c.in_ok-relinked.ensures.relinks

pub returns-clause-linked : goal.returns-clause-linked
returns-clause-linked g c =
    let holds : c.in_ok-entered.field-0 ≡ true = search rules in
    let a = (goal.at.returns-clause-linked g c).In_ok-entered in
    named_links g.D.Disk c.args.self.now.kernel c.one_more.new.self.kernel c.entered.new.self.kernel c.args.to c.args.number c.in-Ok.short c.args.name.now
    c.in-Some.bytes c.as_slice.result.now c.in_ok-bytes.field-0 (files_seen g.D.Disk.image c.is_directory.new.self.kernel) c.in-Ok-link.write c.in_ok-entered.field-0
    c.requires.tree (looked g a) c.in_ok-is_directory.ensures.same c.in_ok-bytes.ensures.found c.in-Some.is c.as_slice.ensures c.in-Ok.ensures.1 c.in-Ok-link.ensures.links
    c.in-Ok-link.ensures.room c.in_ok-entered.ensures.entered holds c.requires.there (plain g a)
    c.relinked.new.self.kernel c.in-Ok-2.count (more g a) c.in_ok-relinked.ensures.relinks

pub returns-in-Err-clause-no_block : goal.returns-in-Err-clause-no_block
returns-in-Err-clause-no_block g c =
    answers_err g.D.Disk c.args.self.now.kernel c.directory.new.self.kernel c.unlinked.result (λ is. unlinked_no c.in-Err.fault (sym c.unlinked.ensures ∙ is))

pub returns-in-Err-2-clause-no_block : goal.returns-in-Err-2-clause-no_block
returns-in-Err-2-clause-no_block g c =
    let more = subst (λ (r : Result ℕ Refusal). HasMore (files_seen g.D.Disk.image c.directory.new.self.kernel) c.args.number r) c.in-Err-2.is c.in_ok-count.ensures.more in
    answers_err g.D.Disk c.args.self.now.kernel c.one_more.new.self.kernel c.in-Err-2.refusal (λ is. let both = sym more.0 ∙ is in cc both)

pub returns-then-not-branch-clause-no_block : goal.returns-then-not-branch-clause-no_block
returns-then-not-branch-clause-no_block g c =
    let d = g.D.Disk in
    let k = c.args.self.now.kernel in
    let fails : c.in_ok-entered.field-0 ≡ false = search rules in
    let two = goes_on d k c.is_directory.new.self.kernel c.directory.new.self.kernel c.is_directory.new.self.calls_left c.directory.new.self.calls_left c.in_ok-is_directory.ensures.goes.on c.in_ok-bytes.ensures.goes.on in
    let three = goes_on d k c.directory.new.self.kernel c.one_more.new.self.kernel c.directory.new.self.calls_left c.one_more.new.self.calls_left two c.in_ok-count.ensures.goes.on in
    was_short d k c.one_more.new.self.kernel c.entered.new.self.kernel c.one_more.new.self.calls_left c.entered.new.self.calls_left three c.in_ok-entered.ensures.goes.on
    (fell_short g (goal.at.returns-then-not-branch-clause-no_block g c).In_ok-entered fails)
