-- Where no operation is under way, the next step of a process begins what waits for it.
use Rattle.std.proofs.Common.{◌≡◌, ◌≢◌, inl, inr, ◌+◌, ℕ, Bool, true, false, List, [], ◌∷◌, set, Option, Some, None, refl, sym, ◌∙◌, ap, subst}
use Rattle.std.specs.Option.{option_map}
use Rattle.std.specs.Prelude.{IfNone, IsSome}
use mathlib.Core.List.{IsPrefix}
use Rattle.blocks.specs.declared.disk.Disk as disk_trait
use Rattle.model.specs.declared.types.operations.Op.{Op}
use Rattle.model.specs.declared.types.operations.Step.{Step}
use Rattle.ports.specs.History.{first_in}
use Rattle.ports.specs.declared.herald.Herald as herald_trait
use Rattle.ports.specs.declared.intake.Intake as intake_trait
use Rattle.wal.specs.Machine.{LogState, begin_cause}
use Rattle.wal.specs.declared.types.DeviceFault.{DeviceFault}
use Rattle.history.specs.Lemmas.Phases.{there_now}
use Rattle.history.specs.Processes.{World, process}
use Rattle.history.specs.declared.types.Phase.{Phase}
use Rattle.history.specs.declared.types.Process.{Process}
use Rattle.kernel.specs.Awake.{IsAwake}
use Rattle.kernel.specs.Next.{BeginsNext, BeginsWith, HasNoMemory, HasNoRoom, IsKeptOut, IsNotTaken, NextAt, NextIf}
use Rattle.kernel.specs.State.{class_of}
use Rattle.kernel.specs.declared.class.OpClass.{OpClass}
use Rattle.durability.specs.Beginning.{NoneIsKeptOut}

-- what waits first still does where more waits behind it
still_first : (before ahead : List Op) → IsPrefix before ahead → IsSome (first_in before) → IsSome (first_in ahead)
still_first [] ahead prefix some = absurd (cc some)
still_first (op ∷ ops) [] prefix some = let unlike = prefix.1 in absurd (cc unlike)
still_first (op ∷ ops) (o ∷ rest) prefix some = refl

module _ (l : LogState) (room : Bool) (r : Step) (free : begin_cause l ≡ None) (has_room : room ≡ true) (granted : r ≢ Step.NoMemory) where
  no_room : HasNoRoom room r → ⊥
  no_room none = let unlike : true ≡ false = sym has_room ∙ none.1 in cc unlike

  no_memory : HasNoMemory room r → ⊥
  no_memory none = granted none.0

  kept_out : IsKeptOut l room r → ⊥
  kept_out (cause, is, keeps, roomy) = let unlike : None ≡ Some cause = sym free ∙ keeps in cc unlike

  -- so what waits is taken
  taken : (what : Option OpClass) → IsSome what → IsNotTaken what l room r → ⊥
  taken None some none = cc some
  taken (Some OpClass.Refused) some (inl none) = no_room none
  taken (Some OpClass.Refused) some (inr none) = no_memory none
  taken (Some (OpClass.Look count)) some (inl none) = no_room none
  taken (Some (OpClass.Look count)) some (inr none) = no_memory none
  taken (Some OpClass.Change) some (inl none) = no_room none
  taken (Some OpClass.Change) some (inr (inl none)) = kept_out none
  taken (Some OpClass.Change) some (inr (inr none)) = no_memory none.0

class_some : (count : ℕ) (o : Option Op) → IsSome o → IsSome (option_map (class_of count) o)
class_some count None some = absurd (cc some)
class_some count (Some op) some = refl

module _ {D N I M H : Type 0} (disk : disk_trait.Ghosts D N) (intake : intake_trait.Ghosts I M) (herald : herald_trait.Ghosts H) where
  pub none_is_kept_out : NoneIsKeptOut disk intake herald
  none_is_kept_out p r k m known works idle inside makes has = by next
    where
      before : List Op
      before = (intake.side k.intake p).ahead

      next : BeginsNext k.store k.world p before (intake.side m.intake p) (herald.told m.herald) r m.store m.world
      next = subst (λ (a : Phase). NextAt disk a k.store k.world p before (intake.side m.intake p) (herald.told m.herald) r m.store m.world) (idle p)
          (subst (λ (o : Option DeviceFault). NextIf disk o k.store k.world p before (intake.side m.intake p) (herald.told m.herald) r m.store m.world) works makes.acts.next)

      free : begin_cause k.store.volume.log ≡ None
      free =
          let awake : IsAwake disk.image k = subst (λ (o : Option DeviceFault). IfNone o (IsAwake disk.image k)) works known.awake in
          awake.begins idle

      one_more : (t : Process) → m.world.processes ≡ set k.world.processes p t → t.begun ≡ (process k.world p).begun + 1 → (process m.world p).begun ≡ (process k.world p).begun + 1
      one_more t is more = ap (λ (u : Process). u.begun) (there_now k.world m.world p t is inside) ∙ more

      begins : (what : Option OpClass) (ahead : List Op) → IsSome what → BeginsWith what k.store k.world p ahead (intake.side m.intake p) r m.store m.world → (process m.world p).begun ≡ (process k.world p).begun + 1
      begins what ahead some (inl change) = one_more _ (ap (λ (w : World). w.processes) change.world) refl
      begins what ahead some (inr (inl look)) = one_more _ (ap (λ (w : World). w.processes) look.world) refl
      begins what ahead some (inr (inr (inl refused))) = one_more _ (ap (λ (w : World). w.processes) refused.world) refl
      begins what ahead some (inr (inr (inr none))) = absurd (taken k.store.volume.log (intake.side m.intake p).has_room r free has.room has.granted what some none.answer)

      by : BeginsNext k.store k.world p before (intake.side m.intake p) (herald.told m.herald) r m.store m.world → (process m.world p).begun ≡ (process k.world p).begun + 1
      by (inl shut) = absurd (has.unshut shut.answer)
      by (inr hears) = begins (option_map (class_of k.store.table.inode_count) (first_in hears.ahead)) hears.ahead (class_some k.store.table.inode_count (first_in hears.ahead) (still_first before hears.ahead hears.prefix has.waits)) hears.begins
