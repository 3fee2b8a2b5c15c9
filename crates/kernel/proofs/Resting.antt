-- The current image and the log, while the disk has not failed.
use Rattle.std.proofs.Common.{◌≡◌, ◌∙◌, ℕ, true, List, [], ◌∷◌, length, refl, sym, ap, subst, Option, Some, None}
use Rattle.std.specs.Prelude.{IfNone}
use Rattle.kernel.specs.Common.{ats_of, Buffers, Commit, DeviceFault, Files, files_of, form_of, HasFacts, idle_used, Image, inode_count_of, is_committing_at, is_quiet, JointAt, logged_count, LogState, outstanding_none, quiet_is_current, recovered_empty, replay, seen, StoreState, view_of, World}
use Rattle.model.specs.Journal.{answered}
use Rattle.inodes.specs.Store.{FitsFiles}
use Rattle.kernel.specs.Awake.{AreIdle}
use Rattle.kernel.specs.Known.{IsAtRest}

pub if_both : {R S T : Type 0} (o : Option DeviceFault) → (R → S → T) → IfNone o R → IfNone o S → IfNone o T
if_both None f r s = f r s
if_both (Some fault) f r s = tt

module _ {D : Type 0} (image : D → Image) (opening : Image) (s : StoreState D) (w : World) (has : HasFacts image opening s w) where
  -- where all are idle, no operation is open and no commit under way
  pub at_rest : AreIdle w → IsAtRest s.volume.log
  at_rest all = record {
    none = outstanding_none s.volume.log.commit s.volume.log has.facts.valid.log (λ q. idle_used opening (view_of image s) w.journal.list (ats_of w) has.facts (inode_count_of opening) q (ats_of w q) (all q) (has.facts.stands q));
    quiet = has.alone.quiet (λ q. ap is_committing_at (all q));
  }

  -- the current image stands for the files after the entries that have a reply
  pub stands_for : (m : Files) → replay (form_of opening) (files_of opening) (answered w.journal.list) ≡ Some m → FitsFiles image s m
  stands_for m run =
      subst (FitsFiles image s) (cc (sym has.facts.follows.run ∙ run)) has.facts.follows.fits

-- between two commits nothing is logged on the disk
pub none_logged : (k : Commit) (x : Image) (c : Buffers) (l : LogState) → JointAt k x c l → is_quiet k ≡ true → logged_count x ≡ 0
none_logged Commit.Quiet x c l joint quiet = joint.phase
none_logged (Commit.Logging n) x c l joint quiet = cc quiet
none_logged Commit.Heading x c l joint quiet = cc quiet
none_logged (Commit.Homing n) x c l joint quiet = cc quiet
none_logged Commit.Clearing x c l joint quiet = cc quiet
none_logged (Commit.Syncing p) x c l joint quiet = cc quiet

-- where no operation is open either, the buffers show what the disk has
pub shows_disk : (k : Commit) (x : Image) (c : Buffers) (l : LogState) → JointAt k x c l → is_quiet k ≡ true → l.outstanding ≡ 0 → seen x c ≡ x
shows_disk Commit.Quiet x c l joint quiet none = sym (quiet_is_current x c l joint (by_length l.homes (joint.log.idle none))) ∙ recovered_empty x joint.phase
  where
    by_length : (hs : List ℕ) → length hs ≡ 0 → hs ≡ []
    by_length [] empty = refl
    by_length (h ∷ hs) empty = cc empty
shows_disk (Commit.Logging n) x c l joint quiet none = cc quiet
shows_disk Commit.Heading x c l joint quiet none = cc quiet
shows_disk (Commit.Homing n) x c l joint quiet none = cc quiet
shows_disk Commit.Clearing x c l joint quiet none = cc quiet
shows_disk (Commit.Syncing p) x c l joint quiet none = cc quiet
