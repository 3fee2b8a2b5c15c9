-- A store makes a step of a creation's search, and what its contract speaks of is the same store.
use Rattle.std.proofs.Common.{◌≡◌, ◌<◌, ◌≤◌, ℕ, leb, length, List, refl, sym, ◌∙◌, ap, subst, arith, Option, Some, None}
use Rattle.inodes.specs.Store.{FitsFiles}
use Rattle.std.specs.Prelude.{IfNone}
use Rattle.inodes.specs.Common.{Agrees, AreLooking, block_at_stage, both_of, claims_of, Create, current_of, DeviceFault, fault_of_task, faults_after, get_or-set_same, Ghosts, Goes, GoesFrom, Grip, grips_of, Image, IsHeldByAnother, IsImage, IsSearching, IsStore, Joint, LeavesLate, leb-true, LoggedAt, LogState, MayStep, no_task, Op, Progress, progress_of_search, SameGroups, SearchState, SearchSteps, shown_of, Stage, Steps, steps_left, StoreState, TableIs, task, TaskState, VolumeState, LogsAtMost, most_logged}
use Rattle.inodes.specs.Lemmas.Faults.{where_none}
use Rattle.inodes.specs.Lemmas.Grips.{kept_by_image}
use Rattle.inodes.proofs.Gripping.{grips_same, grips_set}
use Rattle.inodes.proofs.Looking.{IsNow, Stepped, steps_stepped, store_stepped}
use Rattle.inodes.proofs.LooksKept.{KeepsUsed}
use Rattle.inodes.proofs.Searching.{ready_of, search as searching}
use Rattle.inodes.proofs.StoreKeeps.{geometry_then, task_then}
use Rattle.inodes.proofs.StoreSteps.{apart_then, asleep_then, claims_then, fault_then, falls_then, files_then, goes_now, groups_after, held_then, keeps_now, looks_at_then, marks_now, no_inode_held, stage_then, same_op, set_then, store_then, unclaimed_then, ungripped_then, logs_after}
use Rattle.inodes.proofs.Taking.{none_of_zero}

-- the files that a store stands for
files_fit : {D : Type 0} (image : D → Image) (s : StoreState D) (looks : AreLooking (current_of image s.volume) s.table s.tasks) → FitsFiles image s looks.files.0
unfolding FitsFiles
files_fit image s looks = looks.files.1

-- what a step of process p's search is asked of the store `now`, which is s
module _ {D N : Type 0} (disk : Ghosts D N) (s now : StoreState D) (p : ℕ) (m : SearchState) (is : IsStore disk.image s) (view : s ≡ now)
    (no_fault : now.volume.fault ≡ None) (within : p < length now.tasks) (at : (task now.tasks p).stage ≡ Stage.Creating m)
    (known : IfNone s.volume.fault (Joint (disk.image s.volume.device) s.volume.buffers s.volume.log)) where
  well : s.volume.fault ≡ None
  well = subst (λ (o : StoreState D). o.volume.fault ≡ None) (sym view) no_fault

  lt : p < length s.tasks
  lt = subst (λ (o : StoreState D). p < length o.tasks) (sym view) within

  stood : (task s.tasks p).stage ≡ Stage.Creating m
  stood = subst (λ (o : StoreState D). (task o.tasks p).stage ≡ Stage.Creating m) (sym view) at

  joint : Joint (disk.image s.volume.device) s.volume.buffers s.volume.log
  joint = where_none s.volume.fault well known

  -- the search may make the step
  pub ready_now : MayStep disk.image s.volume p m
  ready_now = ready_of (disk.image s.volume.device) s.volume.buffers s.volume.log s.table.inode_count p s.tasks m (where_none s.volume.fault well is.agrees) lt stood joint is.geometry is.numbers

  looks : AreLooking (current_of disk.image s.volume) s.table s.tasks
  looks = where_none s.volume.fault well is.looks

  agrees : Agrees s.volume.buffers s.volume.log s.table.inode_count s.tasks
  agrees = where_none s.volume.fault well is.agrees

  module _ (full : IfNone s.volume.fault (IsImage (current_of disk.image s.volume))) (u : VolumeState D) (new : SearchState) (r : Progress (Option ℕ)) (steps : SearchSteps disk m.slot s.volume u p m new r) where
    abbrev t : StoreState D
    t = store_then s u p new r

    abbrev its : TaskState
    its = record (task s.tasks p) { stage = stage_then r m new }

    mine : IsSearching s.volume.buffers s.volume.log s.table.inode_count p (task s.tasks p).op m
    mine = searching s.volume.buffers s.volume.buffers s.volume.log s.table.inode_count p s.tasks m agrees lt stood

    few : m.kind ≤ 3
    few = leb-true m.kind 3 (both_of (leb 1 m.kind) (leb m.kind 3) mine.kind).1

    filled : IsImage (current_of disk.image s.volume)
    filled = where_none s.volume.fault well full

    pid : p < length s.volume.log.used
    pid =
        omega (arith, lt, is.few, joint.log.pids)

    module _ (op : Op) (is_op : (task s.tasks p).op ≡ Some op) where
      creates : Create m.kind ≡ op
      creates = let both : Some (Create m.kind) ≡ Some op = sym mine.op ∙ is_op in cc both

      claimed_same : (j : ℕ) → claims_of t.tasks j ≡ claims_of s.tasks j
      claimed_same j = claims_then s.tasks p m new r stood j

      keeps : KeepsUsed s.table.inode_count 0 (claims_of s.tasks) (current_of disk.image s.volume) (current_of disk.image u)
      keeps = keeps_now disk.image s t p m new op r agrees is.numbers lt stood is_op steps.current claimed_same is.geometry filled few m.slot looks.files.0 (files_fit disk.image s looks) steps.goes

      -- a search is no write
      logged_by : (q : Progress (Option ℕ)) → LoggedAt (current_of disk.image u) u.log p (stage_then q m new)
      logged_by Progress.Moved = tt
      logged_by (Progress.Sleeping cause) = tt
      logged_by (Progress.Over found) = tt
      logged_by (Progress.Fault fault) = tt

      here : fault_of_task (progress_of_search r) ≡ None → IsNow disk.image s t p its
      here fine =
          let now = task_then disk s.volume u s.table.inode_count p s.tasks m new r agrees lt stood steps (sym (fault_then r) ∙ fine) in
          record {
            others = now.others;
            locks = now.locks;
            stands = now.stands;
            table = record {
              table = subst (λ (gs : List (Option Grip)). TableIs s.table gs (current_of disk.image u))
                  (sym (sym (grips_set s.tasks p its) ∙ grips_same s.tasks p its (ungripped_then (task s.tasks p) m new r stood)))
                  (kept_by_image s.table (grips_of s.tasks) (current_of disk.image s.volume) (current_of disk.image u) looks.table keeps.inodes);
              others = λ q k i apart has. record { number = λ j. refl; holder = refl; copy = refl };
            };
            looks = looks_at_then (current_of disk.image u) s.table its m new r;
            logged = logged_by r;
          }

      stepped : Stepped disk s p 0 op (progress_of_search r) t its
      stepped = record {
        tasks = set_then s.tasks p m new r stood;
        op = refl;
        count = refl;
        form = refl;
        numbers = (geometry_then (current_of disk.image s.volume) (current_of disk.image u) s.volume.buffers m r new m.slot is.geometry filled (mine.count ∙ is.numbers) few steps.goes steps.current).1;
        reads = record {
          device = steps.device;
          fault = steps.fault ∙ sym (fault_then r);
          faults = steps.faults ∙ ap (λ (o : Option DeviceFault). faults_after o (disk.fault_count s.volume.device)) (sym (fault_then r));
        };
        groups = subst (λ (l : LogState). SameGroups s.volume.log l) (sym steps.log) (groups_after s.volume.log p m.block r pid);
        logs = subst (λ (most : ℕ). LogsAtMost most s.volume.log p u.log) (ap (most_logged s.table.form) creates) (subst (LogsAtMost 1 s.volume.log p) (sym steps.log) (logs_after s.volume.log p m.block r mine.used));
        marks = marks_now disk.image s t p m new op r agrees is.numbers lt stood is_op steps.current claimed_same is.geometry filled few m.slot steps.goes;
        files = files_then disk.image s t p m new op r agrees is.numbers lt stood is_op steps.current claimed_same m.slot steps.goes;
        alone = λ q k apart has. none_of_zero (current_of disk.image s.volume) s.table s.tasks looks q k has;
        claims = λ j other. unclaimed_then s.tasks p m new r stood j;
        keeps = keeps;
        now = here;
      }

      store_searched : IsStore disk.image t
      store_searched = store_stepped disk s p 0 op (progress_of_search r) t its is well lt stepped

      search_steps : Steps disk s p op (progress_of_search r) t
      search_steps = steps_stepped disk s p 0 op (progress_of_search r) t its is well lt stepped
          (subst (λ (a : Stage). Goes disk a s p op (progress_of_search r) t) (sym stood) (
            subst (λ (a : Stage). GoesFrom m.slot s.table.inode_count p m s.volume.buffers (progress_of_search r) a (shown_of disk.image s.volume) (shown_of disk.image u)) (sym placed)
                (goes_now disk.image s t p m new op r agrees is.numbers lt stood is_op steps.current claimed_same is.geometry filled few m.slot steps.log steps.buffers steps.goes),
            refl,
            record { answer = r; gives = refl; buffers = steps.buffers },
          ))
          (record {
            sleeping = λ cause waits. asleep_then s u p new r steps.asleep cause waits;
            held = λ waits. subst (λ (a : Stage). IsHeldByAnother s p (block_at_stage a)) (sym stood) (held_then s p m r agrees stood u.buffers new.slot steps.locks waits);
            inode = λ waits. absurd (no_inode_held m.slot s.volume.buffers u.buffers p m.block new.slot r steps.locks waits);
          })
          (subst (λ (q : Op). LeavesLate s p q (progress_of_search r)) (sym (same_op disk.image s t p m new op r agrees is.numbers lt stood is_op steps.current claimed_same)) (apart_then disk.image s p m new s.volume.buffers m.slot r looks is.numbers steps.goes))
          (λ made unfinished. subst (λ (a : Stage). steps_left (current_of disk.image u) (stage_then r m new) s.table.inode_count < steps_left (current_of disk.image s.volume) a s.table.inode_count) (sym stood)
          (falls_then s.table.inode_count m new (current_of disk.image s.volume) (current_of disk.image u) s.volume.buffers r mine.count mine.last steps.goes made))
        where
          placed : (task t.tasks p).stage ≡ stage_then r m new
          placed = ap (λ (ts : List TaskState). (task ts p).stage) (set_then s.tasks p m new r stood) ∙ ap (λ (o : TaskState). o.stage) (get_or-set_same s.tasks p its no_task lt)

    pub store_now : IsStore disk.image t
    store_now = store_searched (Create m.kind) mine.op

    pub steps_now : (op : Op) → (task now.tasks p).op ≡ Some op → Steps disk now p op (progress_of_search r) t
    steps_now op asks =
        let same = subst (λ (o : StoreState D). (task o.tasks p).op ≡ Some op) (sym view) asks in
        subst (λ (o : StoreState D). Steps disk o p op (progress_of_search r) t) view (search_steps op same)
