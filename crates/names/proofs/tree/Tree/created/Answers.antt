use Rattle.std.proofs.Common.{◌≡◌, ℕ, ◌≤◌, ◌^◌, true, Some, sym, subst, rules, arith}
use Rattle.std.proofs.lemmas.Grind.{common_steps}
use Rattle.calls.specs.Calls.{MakesLowestOf}
use Rattle.model.specs.Operations.{is_kind}
use Rattle.blocks.specs.declared.disk.Disk.{Ghosts}
use Rattle.calls.specs.Stepping.{Plain}
use Rattle.model.specs.declared.types.operations.Op.TheVariants.{Create}
use Rattle.model.specs.declared.types.operations.Reply.{Reply}
use Rattle.model.specs.declared.types.operations.Reply.TheVariants.{Made}
use Rattle.names.specs.Inside.{files_seen, form_seen, Answers}
use Rattle.names.specs.Making.{HasCreated}
use Rattle.names.proofs.FileMakes.{create_none, create_past, create_some}
use Rattle.names.proofs.tree.Tree.created.Goals as goal

pub returns-in_default : goal.returns-in_default
returns-in_default g c = record {
  goes = record { on = c.in_ok-number.ensures.goes.on; stays = c.called.ensures.goes.stays; ends = tt };
  made = create_none (form_seen g.D.Disk.image c.args.self.now.kernel) (files_seen g.D.Disk.image c.args.self.now.kernel)
      (files_seen g.D.Disk.image c.called.new.self.kernel) c.args.kind c.in_ok-number.field-0 c.requires.kind c.in_ok-number.ensures.answers
      c.in_ok-number.ensures.cause.none c.in_default.not-Made;
}

module _ {D N : Type 0} (disk : Ghosts D N) where
  made : (k m : Plain D) (kind : ℕ) (reply : Reply) (i : ℕ) → is_kind kind ≡ true → reply ≡ Made i → Answers disk.image (Create kind) k m reply →
      HasCreated kind (files_seen disk.image k) (files_seen disk.image m) (Some i)
  made k m kind reply i of is answers =
      create_some (form_seen disk.image k) (files_seen disk.image k) (files_seen disk.image m) kind i of
      (subst (λ (r : Reply). Answers disk.image (Create kind) k m r) is answers)

pub returns-in-Ok-clause-made : goal.returns-in-Ok-clause-made
returns-in-Ok-clause-made g c =
    subst (λ (i : ℕ). HasCreated c.args.kind (files_seen g.D.Disk.image c.args.self.now.kernel) (files_seen g.D.Disk.image c.called.new.self.kernel) (Some i))
    (sym c.in-Ok.ensures.1)
    (made g.D.Disk c.args.self.now.kernel c.called.new.self.kernel c.args.kind c.in_ok-number.field-0 c.in-Made.number c.requires.kind c.in-Made.is c.in_ok-number.ensures.answers)

pub returns-in_ok-uncreated-in-Err-clause-made : goal.returns-in_ok-uncreated-in-Err-clause-made
returns-in_ok-uncreated-in-Err-clause-made g c =
    let past : 2 ^ 16 ≤ c.in-Made.number = first_of (search rules, grind (arith, common_steps)) in (
      c.in_ok-uncreated-in-Err.ensures.undoes (files_seen g.D.Disk.image c.args.self.now.kernel) _
          (made g.D.Disk c.args.self.now.kernel c.called.new.self.kernel c.args.kind c.in_ok-number.field-0 c.in-Made.number c.requires.kind c.in-Made.is
          c.in_ok-number.ensures.answers).0,
      create_past (files_seen g.D.Disk.image c.args.self.now.kernel) c.args.kind c.in-Made.number
          (subst (λ (r : Reply). MakesLowestOf (files_seen g.D.Disk.image c.args.self.now.kernel) (Create c.args.kind) r) c.in-Made.is c.in_ok-number.ensures.cause.lowest)
          past,
    )
