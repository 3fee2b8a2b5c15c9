-- A store that was just opened has what is true of every kernel.
use Rattle.std.proofs.Common.{◌≡◌, ◌≤◌, ℕ, zero, suc, true, false, List, [], replicate, ◌∙◌, sym, refl, ap, subst, Option, None}
use Rattle.kernel.proofs.Openings.{idle_at, paired_new, counted_new, same_at}
use Rattle.kernel.proofs.Right.{right_well}
use Rattle.std.specs.Prelude.{is_some, IsTrue, slice_index_or}
use Rattle.kernel.specs.Common.{at_same, ats_of, CommitsAlone, current_of, false≢true, files_of, fresh_seen, fresh_volume, fresh_world, Ghosts, Image, inode_count_of, inv_new, is_committing_at, is_lawful_log, is_over, is_quiet, IsRight, IsSound, KernelFacts, LogState, no_task, Phase, Process, StoreState, Survives, task, TaskState, used_by, View, view_of, VolumeState, World}
use Rattle.inodes.specs.Store.{FitsFiles}
use Rattle.history.specs.Lemmas.Stops.{recovers_opened}
use Rattle.kernel.proofs.Valid.{HasAgreed, over_unread, unread_holds, valid_joint}

none_used : (k q : ℕ) → slice_index_or (replicate k None) q None ≡ (let none : Option ℕ = None in none)
none_used zero q = refl
none_used (suc k) zero = refl
none_used (suc k) (suc q) = none_used k q

module _ {D : Type 0} (image : D → Image) (s : StoreState D) (fresh : s.volume ≡ fresh_volume image s.volume.device) where
  -- the current image is the disk's
  shown : current_of image s.volume ≡ image s.volume.device
  shown = ap (λ (v : VolumeState D). current_of image v) fresh ∙ fresh_seen (image s.volume.device)

  -- no operation is open in the log
  none_open : (q : ℕ) → is_some (used_by s.volume.log q) ≡ false
  none_open q = ap (λ (v : VolumeState D). is_some (used_by v.log q)) fresh ∙ ap is_some (none_used 32 q)

  pub facts_at_open : IsSound (image s.volume.device) → IsTrue (is_lawful_log (image s.volume.device)) → s.table.inode_count ≡ inode_count_of (image s.volume.device) → ((q : ℕ) → is_over (task s.tasks q).stage ≡ true) → HasAgreed image s → FitsFiles image s (files_of (image s.volume.device))
      → KernelFacts (image s.volume.device) (view_of image s) [] (λ q. Phase.Idle)
  facts_at_open sound lawful numbers over agreed fits =
      let opening = image s.volume.device in
      inv_new opening (view_of image s) (valid_joint image s (inode_count_of opening) numbers agreed) (λ q. unread_holds (task s.tasks q) (over_unread (task s.tasks q).stage (over q))) none_open fits
      (subst (λ (x : Image). Survives opening opening x s.volume.log []) (sym shown) (recovers_opened opening s.volume.log sound lawful sound.empty_log (ap (λ (v : VolumeState D). v.log.commit) fresh)))

-- where each process is idle, it is so by either name
facts_idle : (opening : Image) (s : View) (w : World) → ((q : ℕ) → ats_of w q ≡ Phase.Idle) → KernelFacts opening s [] (λ q. Phase.Idle) → KernelFacts opening s [] (ats_of w)
facts_idle opening s w idle facts = at_same opening s [] (λ q. Phase.Idle) (ats_of w) idle facts

alone_idle : (l : LogState) (w : World) → ((q : ℕ) → ats_of w q ≡ Phase.Idle) → is_quiet l.commit ≡ true → CommitsAlone (ats_of w) l
alone_idle l w idle quiet = record {
  sole = λ p q mine other. absurd (false≢true (sym (ap is_committing_at (idle p)) ∙ mine));
  busy = λ p mine. absurd (false≢true (sym (ap is_committing_at (idle p)) ∙ mine));
  none_open = λ p mine. absurd (false≢true (sym (ap is_committing_at (idle p)) ∙ mine));
  quiet = λ nobody. quiet;
}

-- what is true of store and processes of a kernel that was just opened
pub right_new : {D N : Type 0} (disk : Ghosts D N) (opening : D) (s : StoreState D) (n : ℕ) → s.volume ≡ fresh_volume disk.image s.volume.device → opening ≡ s.volume.device → s.tasks ≡ replicate n no_task
    → s.table.inode_count ≡ inode_count_of (disk.image s.volume.device) → 1 ≤ n → n ≤ 32 → IsSound (disk.image s.volume.device) → is_lawful_log (disk.image s.volume.device) ≡ true
    → HasAgreed disk.image s → FitsFiles disk.image s (files_of (disk.image s.volume.device)) → IsRight disk opening s (fresh_world n)
right_new disk opening s n fresh same tasks numbers some few sound lawful agreed fits =
    let d = s.volume.device in
    let idle_all : (q : ℕ) → ats_of (fresh_world n) q ≡ Phase.Idle = λ q. ap (λ (p : Process). p.at) (idle_at n q) in
    let none : s.volume.log.opened ≡ 0 = ap (λ (v : VolumeState _). v.log.opened) fresh in
    subst (λ (o : _). IsRight disk o s (fresh_world n)) (sym same)
    (right_well disk d s (fresh_world n) (ap (λ (v : VolumeState _). v.fault) fresh) numbers (paired_new s n tasks some few) (counted_new s.volume.log.opened n none)
    (record {
      facts = facts_idle (disk.image d) (view_of disk.image s) (fresh_world n) idle_all (facts_at_open disk.image s fresh sound lawful numbers (λ q. ap (λ (u : TaskState). is_over u.stage) (ap (λ (ts : List TaskState). task ts q) tasks ∙ same_at n q no_task)) agreed fits);
      alone = alone_idle s.volume.log (fresh_world n) idle_all (ap (λ (v : VolumeState _). is_quiet v.log.commit) fresh);
    }) refl)
