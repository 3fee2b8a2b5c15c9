use Rattle.std.proofs.Common.{◌≡◌, ◌∙◌, Bool, false, Result, Ok, Err, refl, sym, ap, subst, inl, inr, rules, arith}
use Rattle.std.proofs.lemmas.Grind.{common_steps}
use Rattle.model.specs.Files.{Files}
use Rattle.directories.specs.declared.refusal.Refusal.{Refusal}
use Rattle.directories.specs.Counts.{AreCounted}
use Rattle.names.specs.Inside.{files_seen}
use Rattle.names.specs.Replacing.{Clears, IsReplaceable, IsUncleared, IsUnpaired}
use Rattle.names.specs.Ready.{Happens}
use Rattle.names.specs.Renaming.{IsUnrenamed, Renames}
use Rattle.names.proofs.Blocked.{answers_err, refused_on, unpaired_no}
use Rattle.names.proofs.Going.{goes_on, same_faults, stays_on}
use Rattle.names.proofs.Staying.{stays_from, stays_on as stays_counted}
use Rattle.names.proofs.replacing.ReplaceChange.apply.Goals as goal

-- what was not refused was made
happened : (change : Unit {0} → Files → Files → Type 0) (why : Files → Refusal → Type 0) (files new : Files) (r : Result (Unit {0}) Refusal) →
    ((cause : Refusal) → r ≡ Err cause → ⊥) → Happens change why files new r → change tt files new
happened change why files new (Ok done) not h = h
happened change why files new (Err cause) not h = absurd (not cause refl)

-- why what was refused was
hindered : (change : Unit {0} → Files → Files → Type 0) (why : Files → Refusal → Type 0) (files new : Files) (r : Result (Unit {0}) Refusal) →
    ((done : Unit {0}) → r ≡ Ok done → ⊥) → Happens change why files new r → (cause : Refusal) × why files cause
hindered change why files new (Ok done) not h = absurd (not done refl)
hindered change why files new (Err cause) not h = (cause, h.1)

made_so : (change : Unit {0} → Files → Files → Type 0) (why : Files → Refusal → Type 0) (files new : Files) (r : Result (Unit {0}) Refusal) →
    r ≡ Ok tt → Happens change why files new r → change tt files new
made_so change why files new r is h = subst (λ (s : Result (Unit {0}) Refusal). Happens change why files new s) is h

pub returns-in-Ok-clause-made : goal.returns-in-Ok-clause-made
returns-in-Ok-clause-made g c =
    let self = c.args.self.now in
    let files : Files = files_seen g.D.Disk.image c.args.tree.now.kernel in
    let no : c.in-Ok-false.field-0 ≡ false = first_of (search rules, grind (arith, common_steps)) in
    let apart : c.in_ok-refusal.field-0 ≡ Ok false = c.in-Ok-false.is ∙ ap (λ (b : Bool). Ok b) no in
    let cleared : Clears self.to self.name.now self.aside.now self.keeps tt (files_seen g.D.Disk.image c.replaceable.new.self.kernel) (files_seen g.D.Disk.image c.cleared.new.self.kernel) =
    happened (Clears self.to self.name.now self.aside.now self.keeps) (IsUncleared self.to self.name.now self.aside.now self.keeps) (files_seen g.D.Disk.image c.replaceable.new.self.kernel)
    (files_seen g.D.Disk.image c.cleared.new.self.kernel) c.in_ok-refusal-in-Ok-false.field-0 c.in_default.not-Err c.in_ok-refusal-in-Ok-false.ensures.cleared in
    inr (record {
      two = subst (λ (r : Result Bool Refusal). IsReplaceable self.from self.old.now self.to self.name.now files r) apart c.in_ok-refusal.ensures.told;
      between = files_seen g.D.Disk.image c.cleared.new.self.kernel;
      clears = subst (λ (f : Files). Clears self.to self.name.now self.aside.now self.keeps tt f (files_seen g.D.Disk.image c.cleared.new.self.kernel)) c.in_ok-refusal.ensures.same cleared;
      renames = made_so (Renames self.from self.old.now self.to self.name.now) (λ files. IsUnrenamed files self.from self.old.now self.to self.name.now)
          (files_seen g.D.Disk.image c.cleared.new.self.kernel) (files_seen g.D.Disk.image c.renamed_in.new.self.kernel) c.in_ok-renamed_in-in-Ok-false.field-0 c.in-Ok.is
          c.in_ok-renamed_in-in-Ok-false.ensures.renamed;
    })

pub returns-in-Err-clause-made : goal.returns-in-Err-clause-made
returns-in-Err-clause-made g c =
    let self = c.args.self.now in
    let files : Files = files_seen g.D.Disk.image c.args.tree.now.kernel in (
      c.in_ok-refusal.ensures.same,
      inl (subst (λ (r : Result Bool Refusal). IsReplaceable self.from self.old.now self.to self.name.now files r) c.in-Err.is c.in_ok-refusal.ensures.told),
    )

pub renamed_in-requires-clause-counted : goal.renamed_in-requires-clause-counted
renamed_in-requires-clause-counted g c =
    c.in_ok-refusal-in-Ok-false.ensures.tree.counted (subst (λ (f : Files). AreCounted f) (sym c.in_ok-refusal.ensures.same) c.requires.counted)

pub returns-in-Ok-clause-tree : goal.returns-in-Ok-clause-tree
returns-in-Ok-clause-tree g c =
    stays_from (files_seen g.D.Disk.image c.args.tree.now.kernel) (files_seen g.D.Disk.image c.replaceable.new.self.kernel)
    (files_seen g.D.Disk.image c.renamed_in.new.self.kernel) c.in_ok-refusal.ensures.same
    (stays_counted (files_seen g.D.Disk.image c.replaceable.new.self.kernel) (files_seen g.D.Disk.image c.cleared.new.self.kernel)
    (files_seen g.D.Disk.image c.renamed_in.new.self.kernel) c.in_ok-refusal-in-Ok-false.ensures.tree c.in_ok-renamed_in-in-Ok-false.ensures.tree)

-- the name was taken from its file, and the other one does not get it
pub returns-in_default-2-clause-goes : goal.returns-in_default-2-clause-goes
returns-in_default-2-clause-goes g c =
    let d = g.D.Disk in
    let self = c.args.self.now in
    let k = c.args.tree.now.kernel in
    let a = c.replaceable.new.self.kernel in
    let b = c.cleared.new.self.kernel in
    let m = c.renamed_in.new.self.kernel in
    let one = goes_on d k a b c.replaceable.new.self.calls_left c.cleared.new.self.calls_left c.in_ok-refusal.ensures.goes.on c.in_ok-refusal-in-Ok-false.ensures.goes.on in
    let two = goes_on d k b m c.cleared.new.self.calls_left c.renamed_in.new.self.calls_left one c.in_ok-renamed_in-in-Ok-false.ensures.goes.on in
    let first = stays_on d k a b c.replaceable.new.self.calls_left c.in_ok-refusal.ensures.goes.on c.replaceable.ensures.goes.stays c.cleared.ensures.goes.stays in
    let cleared : Clears self.to self.name.now self.aside.now self.keeps tt (files_seen d.image a) (files_seen d.image b) =
    happened (Clears self.to self.name.now self.aside.now self.keeps) (IsUncleared self.to self.name.now self.aside.now self.keeps) (files_seen d.image a) (files_seen d.image b)
    c.in_ok-refusal-in-Ok-false.field-0 c.in_default.not-Err c.in_ok-refusal-in-Ok-false.ensures.cleared in
    let cause = hindered (Renames self.from self.old.now self.to self.name.now) (λ files. IsUnrenamed files self.from self.old.now self.to self.name.now)
    (files_seen d.image b) (files_seen d.image m) c.in_ok-renamed_in-in-Ok-false.field-0 c.in_default-2.not-Ok c.in_ok-renamed_in-in-Ok-false.ensures.renamed in
    record {
      on = tt;
      stays = stays_on d k b m c.cleared.new.self.calls_left one first c.renamed_in.ensures.goes.stays;
      ends = record {
        none = refl;
        broken = (
          record { image = two.same; faults = same_faults d k m c.args.tree.now.calls_left c.renamed_in.new.self.calls_left c.requires.way two },
          inl (record {
            between = files_seen d.image b;
            clears = subst (λ (f : Files). Clears self.to self.name.now self.aside.now self.keeps tt f (files_seen d.image b)) c.in_ok-refusal.ensures.same cleared;
            cause = cause.0;
            why = cause.1;
          }),
        );
      };
    }

pub returns-in-Err-clause-no_block : goal.returns-in-Err-clause-no_block
returns-in-Err-clause-no_block g c = λ tells.
    let self = c.args.self.now in
    let files : Files = files_seen g.D.Disk.image c.args.tree.now.kernel in
    let why = subst (λ (r : Result Bool Refusal). IsReplaceable self.from self.old.now self.to self.name.now files r) c.in-Err.is c.in_ok-refusal.ensures.told in
    answers_err g.D.Disk c.args.tree.now.kernel c.replaceable.new.self.kernel c.in-Err.refusal
    (λ is. unpaired_no self.from self.old.now self.to self.name.now files (subst (λ (cause : Refusal). IsUnpaired self.from self.old.now self.to self.name.now files cause) is why))

pub returns-in-Err-2-clause-no_block : goal.returns-in-Err-2-clause-no_block
returns-in-Err-2-clause-no_block g c = λ tells.
    refused_on g.D.Disk c.args.tree.now.kernel c.replaceable.new.self.kernel c.cleared.new.self.kernel c.replaceable.new.self.calls_left c.in_ok-refusal-in-Ok-false.field-0 c.in-Err-2.refusal
    c.in_ok-refusal.ensures.goes.on c.in-Err-2.is c.in_ok-refusal-in-Ok-false.ensures.no_block
