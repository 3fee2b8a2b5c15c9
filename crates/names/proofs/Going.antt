-- Calls of a transaction, one after the other.
use Rattle.std.proofs.Common.{◌≡◌, ℕ, ◌+◌, ◌≤◌, ◌^◌, List, [], length, Option, Some, Result, refl, sym, ap, subst, ◌∙◌, inl, inr, ⊎_elim, arith}
use Rattle.std.specs.Prelude.{⊤, unwrap_or}
use Rattle.std.proofs.lemmas.Result.{on_ok_weaker, IfErr-weaker}
use Rattle.blocks.specs.Disk.{Image, LeavesOnly, Rose}
use Rattle.blocks.specs.Lemmas.Moments.{joined}
use Rattle.blocks.specs.declared.disk.Disk.{Ghosts}
use Rattle.model.specs.declared.types.image.Form.{Form}
use Rattle.model.specs.Files.{Files, files_of}
use Rattle.model.specs.Layout.{form_of}
use Rattle.model.specs.declared.types.operations.Op.{Op}
use Rattle.model.specs.declared.types.operations.Reply.{Reply}
use Rattle.calls.specs.Calls.{call_count, faults_on, image_on}
use Rattle.calls.specs.Files.{IsFull}
use Rattle.calls.specs.Lemmas.Both.{keeps_nothing}
use Rattle.calls.specs.Lemmas.Reaching.{reached_then}
use Rattle.calls.specs.Stepping.{IsReached, Plain}
use Rattle.calls.specs.Transactions.{Adds, Begins, Commits, HasFiles, IsInside, IsUnbegun, IsUncalled, IsUncommitted, KeepsEither, KeepsFiles, Rests, image_seen, labels_made}
use Rattle.names.specs.Ready.{EndsOn, HasBegun, HasCommitted}
use Rattle.directories.specs.Trees.{IsTree}
use Rattle.model.specs.declared.types.operations.Entry.{Entry}
use Rattle.calls.specs.declared.transactions.fault.TransactionFault.{TransactionFault}
use Rattle.calls.specs.declared.transactions.fault.TransactionFault.TheVariants as fault
use Rattle.names.specs.declared.refusal.TreeFault.{TreeFault}
use Rattle.names.specs.declared.refusal.TreeFault.TheVariants.{Path, Refused, Call, NoSpace, NoCall}
use Rattle.directories.specs.Lemmas.Sizes.{after_sized, sound_sized}
use Rattle.directories.specs.Sizes.{AreSized}
use Rattle.names.specs.Inside.{files_seen, form_seen, Answers, Ends, EndsOr, Fills, Goes, HasCause, IsBroken, IsBrokenOr, IsCrowded, IsSpent, IsUnderWay, Never, Proceeds, ProceedsOr, StaysOn}
use Rattle.directories.specs.Counts.{AreCounted}

module _ {D N : Type 0} (disk : Ghosts D N) where
  -- a transaction sees the files that its kernel has
  pub seen : (k : Plain D) (f : Files) → HasFiles disk.image k f → files_seen disk.image k ≡ f
  seen k f has = ap (λ (o : Option Files). unwrap_or o []) has.run

  pub has_seen : (k : Plain D) (f : Files) → HasFiles disk.image k f → HasFiles disk.image k (files_seen disk.image k)
  has_seen k f has = subst (λ (g : Files). HasFiles disk.image k g) (sym (seen k f has)) has

  pub call_answers : (op : Op) (k m : Plain D) (reply : Reply) (left : ℕ) → IsUnderWay disk k left → Adds disk.image op k m reply → Answers disk.image op k m reply
  call_answers op k m reply left way adds =
      let made = adds.files (files_seen disk.image k) way.files in
      made.1 ∙ ap (λ (f : Files). Some f) (sym (seen m made.0 made.2))

  -- a call goes on
  pub call_goes : (op : Op) (k m : Plain D) (reply : Reply) (left less : ℕ) → less + 1 ≡ left → IsUnderWay disk k left → IsInside disk.fault_count m →
      m.opening ≡ k.opening → Adds disk.image op k m reply → IsReached disk k m → Goes disk k m less
  call_goes op k m reply left less one way inside opening adds reached =
      let made = adds.files (files_seen disk.image k) way.files in
      let answered = call_answers op k m reply left way adds in
      let same_form : form_seen disk.image k ≡ form_seen disk.image m = ap (λ (o : D). form_of (disk.image o)) (sym opening) in
      record {
        way = record {
          inside = inside;
          few = omega (arith, adds.one_more, way.few);
          many = omega (arith, adds.one_more, one, way.many);
          files = has_seen m made.0 made.2;
          sized = subst (λ (form : Form). AreSized form (files_seen disk.image m)) same_form
              (after_sized (form_seen disk.image k) (files_seen disk.image k) (files_seen disk.image m) op reply way.sized answered);
        };
        same = adds.same;
        opening = opening;
        later = omega (arith, adds.one_more);
        reached = λ o so_far. reached_then disk o k m so_far reached;
      }

  pub call_cause : (op : Op) (k m : Plain D) (reply : Reply) (left : ℕ) → IsUnderWay disk k left → Adds disk.image op k m reply → HasCause disk.image op k m reply
  call_cause op k m reply left way adds = record {
    lowest = adds.lowest (files_seen disk.image k) way.files;
    none = adds.none (files_seen disk.image k) way.files;
    short = adds.short;
    answered = adds.one_more;
  }

  -- no call is left, since as many were answered as a tree makes
  pub none_left : (k : Plain D) (left : ℕ) → IsUnderWay disk k left → left ≡ 0 → Ends disk k k left NoCall
  none_left k left way none = record { none = none; broken = (record { image = refl; faults = refl }, inr (omega (arith, way.many, none))) }

  -- what a stop leaves
  pub stays_here : (k : Plain D) → StaysOn disk k k
  stays_here k = record { on = λ o same so_far. so_far }

  pub leaves_on : (k m : Plain D) → m.opening ≡ k.opening → disk.name m.store.volume.device ≡ disk.name k.store.volume.device →
      LeavesOnly disk.moment disk.leaves k.store.volume.device m.store.volume.device (KeepsFiles (image_on disk.image k)) → StaysOn disk k m
  leaves_on k m opening name leaves = record {
    on = λ o same so_far. record {
      opening = opening ∙ so_far.opening;
      name = name ∙ so_far.name;
      leaves = joined disk.moment disk.leaves o.store.volume.device k.store.volume.device m.store.volume.device (KeepsFiles (image_on disk.image o)) so_far.leaves
          (subst (λ (x : Image). LeavesOnly disk.moment disk.leaves k.store.volume.device m.store.volume.device (KeepsFiles x)) same leaves);
    };
  }

  pub stays_on : (k a m : Plain D) (left : ℕ) → Goes disk k a left → StaysOn disk k a → StaysOn disk a m → StaysOn disk k m
  stays_on k a m left goes first then_on = record { on = λ o same so_far. then_on.on o (goes.same ∙ same) (first.on o same so_far) }

  pub goes_on : (k a m : Plain D) (left less : ℕ) → Goes disk k a left → Goes disk a m less → Goes disk k m less
  goes_on k a m left less first then_on = record {
    way = then_on.way;
    same = then_on.same ∙ first.same;
    opening = then_on.opening ∙ first.opening;
    later = omega (arith, first.later, then_on.later);
    reached = λ o so_far. then_on.reached o (first.reached o so_far);
  }

  -- why a later call ended the transaction
  pub same_faults : (k a : Plain D) (left less : ℕ) → IsUnderWay disk k left → Goes disk k a less → faults_on disk.fault_count a ≡ faults_on disk.fault_count k
  same_faults k a left less way goes = goes.way.inside.pair.faultless ∙ ap disk.fault_count goes.opening ∙ sym way.inside.pair.faultless

  pub broken_on : (hinders : TreeFault → Type 0) (k a m : Plain D) (cause : TreeFault) → image_on disk.image a ≡ image_on disk.image k →
      faults_on disk.fault_count a ≡ faults_on disk.fault_count k → IsBrokenOr hinders disk a m cause → IsBrokenOr hinders disk k m cause
  broken_on hinders k a m (Path cause) same faults why = why
  broken_on hinders k a m (Refused cause) same faults why = why
  broken_on hinders k a m (Call (fault.Disk cause)) same faults why = record { is = why.is; rose = subst (λ (n : ℕ). Rose n (faults_on disk.fault_count m)) faults why.rose }
  broken_on hinders k a m (Call fault.NoMemory) same faults why = record { image = why.image ∙ same; faults = why.faults ∙ faults }
  broken_on hinders k a m (Call fault.NoRoom) same faults why = (record { image = why.0.image ∙ same; faults = why.0.faults ∙ faults }, why.1)
  broken_on hinders k a m NoSpace same faults why = (why.0, record { image = why.1.image ∙ same; faults = why.1.faults ∙ faults }, why.2)
  broken_on hinders k a m NoCall same faults why = (record { image = why.0.image ∙ same; faults = why.0.faults ∙ faults }, why.1)

  pub ends_or : (hinders : TreeFault → Type 0) (k a m : Plain D) (left less none : ℕ) (cause : TreeFault) → IsUnderWay disk k left → Goes disk k a less →
      EndsOr hinders disk a m none cause → EndsOr hinders disk k m none cause
  ends_or hinders k a m left less none cause way goes ends = record {
    none = ends.none;
    broken = broken_on hinders k a m cause goes.same (same_faults k a left less way goes) ends.broken;
  }

  pub ends_on : (k a m : Plain D) (left less none : ℕ) (cause : TreeFault) → IsUnderWay disk k left → Goes disk k a less → Ends disk a m none cause →
      Ends disk k m none cause
  ends_on k a m left less none cause way goes ends = ends_or Never k a m left less none cause way goes ends

  -- what a later call made of it
  pub proceeds_or : {T : Type 0} (hinders : TreeFault → Type 0) (k a m : Plain D) (r : Result T TreeFault) (left less rest : ℕ) → IsUnderWay disk k left → Goes disk k a less →
      StaysOn disk k a → ProceedsOr hinders disk r a m rest → ProceedsOr hinders disk r k m rest
  proceeds_or hinders k a m r left less rest way goes stays then_on = record {
    on = on_ok_weaker r (λ (on : Goes disk a m rest). goes_on k a m less rest goes on) then_on.on;
    stays = stays_on k a m less goes stays then_on.stays;
    ends = IfErr-weaker r (EndsOr hinders disk a m rest) (EndsOr hinders disk k m rest) (λ cause ends. ends_or hinders k a m left less rest cause way goes ends) then_on.ends;
  }

  pub proceeds_on : {T : Type 0} (k a m : Plain D) (r : Result T TreeFault) (left less rest : ℕ) → IsUnderWay disk k left → Goes disk k a less →
      StaysOn disk k a → Proceeds disk r a m rest → Proceeds disk r k m rest
  proceeds_on k a m r left less rest way goes stays then_on = proceeds_or Never k a m r left less rest way goes stays then_on

  -- where the disk may be filled, it need not be
  pub broken_in : (hinders : TreeFault → Type 0) (k m : Plain D) (cause : TreeFault) → IsBroken disk k m cause → IsBrokenOr hinders disk k m cause
  broken_in hinders k m (Path cause) why = why
  broken_in hinders k m (Refused cause) why = why
  broken_in hinders k m (Call (fault.Disk cause)) why = why
  broken_in hinders k m (Call fault.NoMemory) why = why
  broken_in hinders k m (Call fault.NoRoom) why = why
  broken_in hinders k m NoSpace why = absurd why.0
  broken_in hinders k m NoCall why = (why.0, ⊎_elim (λ (none : ⊥). absurd none) (λ (spent : IsSpent m). inr spent) why.1)

  pub ends_in : (hinders : TreeFault → Type 0) (k m : Plain D) (none : ℕ) (cause : TreeFault) → Ends disk k m none cause → EndsOr hinders disk k m none cause
  ends_in hinders k m none cause ends = record { none = ends.none; broken = broken_in hinders k m cause ends.broken }

  -- the disk was filled
  pub full_ends : (k m : Plain D) (left less : ℕ) → IsUnderWay disk k left → Goes disk k m less → IsFull (image_seen disk.image m) →
      EndsOr Fills disk k m 0 NoSpace
  full_ends k m left less way goes full = record {
    none = refl;
    broken = (tt, record { image = goes.same; faults = same_faults k m left less way goes }, full);
  }

  -- a call ended it
  pub call_broken : (op : Op) (k m : Plain D) (cause : TransactionFault) → IsUncalled disk op k m cause → IsBroken disk k m (Call cause)
  call_broken op k m (fault.Disk cause) why = why
  call_broken op k m fault.NoMemory why = record { image = why.0.image; faults = why.1 }
  call_broken op k m fault.NoRoom why = (
    record { image = ap (image_on disk.image) why.same; faults = ap (faults_on disk.fault_count) why.same },
    subst (λ (n : Plain D). IsCrowded n) (sym why.same) why.full,
  )

  -- ---- the beginning and the end

  pub begin_goes : (k m : Plain D) (left : ℕ) → call_count k + left ≤ 2 ^ 63 → 2 ^ 62 ≤ call_count k + left → IsInside disk.fault_count m → m.opening ≡ k.opening → Begins disk.image k m →
      IsReached disk k m → HasBegun disk k m left
  begin_goes k m left few many inside opening begins reached =
      let count : call_count m ≡ call_count k = ap (λ (es : List Entry). length es) begins.list in
      record {
        goes = record {
          way = record {
            inside = inside;
            few = omega (arith, count, few);
            many = omega (arith, count, many);
            files = has_seen m (files_of (image_on disk.image k)) begins.files;
            sized = subst (λ (form : Form). AreSized form (files_seen disk.image m)) (begins.form ∙ ap (λ (o : D). form_of (disk.image o)) (sym opening))
                (subst (λ (f : Files). AreSized (form_of (image_on disk.image k)) f) (sym (seen m (files_of (image_on disk.image k)) begins.files))
                (sound_sized (image_on disk.image k) begins.sound));
          };
          same = begins.same;
          opening = opening;
          later = omega (arith, count);
          reached = λ o so_far. reached_then disk o k m so_far reached;
        };
        files = seen m (files_of (image_on disk.image k)) begins.files;
        size = ap (λ (y : Image). length y) begins.same ∙ begins.size ∙ ap (λ (o : D). length (disk.image o)) (sym opening);
      }

  pub begin_broken : (k m : Plain D) (cause : TransactionFault) → IsUnbegun disk k m cause → IsBroken disk k m (Call cause)
  begin_broken k m (fault.Disk cause) why = why
  begin_broken k m fault.NoMemory why = record { image = why.0.image; faults = why.1 }
  begin_broken k m fault.NoRoom why = absurd why

  pub commit_broken : (k m : Plain D) (cause : TransactionFault) → IsUncommitted disk k m cause → IsBroken disk k m (Call cause)
  commit_broken k m (fault.Disk cause) why = why
  commit_broken k m fault.NoMemory why = absurd why
  commit_broken k m fault.NoRoom why = absurd why

  pub commit_ends : (k m : Plain D) (left less : ℕ) → less + 1 ≡ left → IsUnderWay disk k left → IsTree (files_seen disk.image k) → AreCounted (files_seen disk.image k) → Rests disk.fault_count m →
      Commits disk.image k m → IsReached disk k m → HasCommitted disk k m less
  commit_ends k m left less one way tree counted rests commits reached =
      let same : files_of (image_on disk.image m) ≡ files_seen disk.image k = commits.files (files_seen disk.image k) way.files in
      record {
        ready = record { rests = rests; few = omega (arith, commits.one_more, way.few); many = omega (arith, commits.one_more, one, way.many); sound = commits.sound; tree = subst (λ (f : Files). IsTree f) (sym same) tree; counted = subst (λ (f : Files). AreCounted f) (sym same) counted };
        files = same;
        size = commits.size;
        marks = commits.marks;
        reached = λ o so_far. reached_then disk o k m so_far reached;
      }

  pub wider : (a b : D) (P Q : Image → Type 0) → ((z : Image) → P z → Q z) → LeavesOnly disk.moment disk.leaves a b P → LeavesOnly disk.moment disk.leaves a b Q
  wider a b P Q less all = record {
    later = all.later;
    each = λ z left. less z (all.each z left);
    before = λ t z le left. ⊎_elim (λ was. inl was) (λ p. inr (less z p)) (all.before t z le left);
    keeps = all.keeps;
  }

  -- the end was refused before it began
  pub ends_here : (k : Plain D) → EndsOn disk k k
  ends_here k = record {
    on = λ o same so_far. record {
      opening = so_far.opening;
      name = so_far.name;
      leaves = wider o.store.volume.device k.store.volume.device (KeepsFiles (image_on disk.image o)) (KeepsEither (image_on disk.image o) (files_seen disk.image k) (labels_made disk.image k))
          (keeps_nothing (image_on disk.image o) (files_seen disk.image k) (labels_made disk.image k)) so_far.leaves;
    };
  }

  pub commit_leaves : (k m : Plain D) → m.opening ≡ k.opening → disk.name m.store.volume.device ≡ disk.name k.store.volume.device →
      LeavesOnly disk.moment disk.leaves k.store.volume.device m.store.volume.device (KeepsEither (image_on disk.image k) (files_seen disk.image k) (labels_made disk.image k)) → EndsOn disk k m
  commit_leaves k m opening name leaves =
      let made : Files = files_seen disk.image k in
      record {
        on = λ o same so_far. record {
          opening = opening ∙ so_far.opening;
          name = name ∙ so_far.name;
          leaves = joined disk.moment disk.leaves o.store.volume.device k.store.volume.device m.store.volume.device (KeepsEither (image_on disk.image o) made (labels_made disk.image k))
              (wider o.store.volume.device k.store.volume.device (KeepsFiles (image_on disk.image o)) (KeepsEither (image_on disk.image o) made (labels_made disk.image k))
              (keeps_nothing (image_on disk.image o) made (labels_made disk.image k)) so_far.leaves)
              (subst (λ (x : Image). LeavesOnly disk.moment disk.leaves k.store.volume.device m.store.volume.device (KeepsEither x made (labels_made disk.image k))) same leaves);
        };
      }
