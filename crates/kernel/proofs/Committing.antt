-- A step of a store's commit, as a journal sees it.
use Rattle.std.proofs.Common.{◌≡◌, ap, Bool, true, List, None}
use Rattle.kernel.specs.Common.{commit_makes, CommitMakes, Commits, Committed, fault_of_step, Ghosts, held_at, is_lawful_log, Joint, StoreState, task, TaskState, view_of, Writes}

module _ {D N : Type 0} (disk : Ghosts D N) (s t : StoreState D) where
  abbrev pub holds_back : Bool
  holds_back = disk.holding (disk.name s.volume.device)

  -- what it makes that does not fail
  abbrev pub Makes : Committed → Type 0
  Makes r = CommitMakes disk s.volume.device s.volume.buffers s.volume.log r t.volume.device t.volume.buffers t.volume.log

  pub makes_of : (r : Committed) → fault_of_step r ≡ None → Commits disk s r t → Makes r
  makes_of r well c = commit_makes disk s.volume.device s.volume.buffers s.volume.log t.volume.device t.volume.buffers t.volume.log r well c.volume.write

  pub writes_of : (r : Committed) → fault_of_step r ≡ None → Joint (disk.image s.volume.device) s.volume.buffers s.volume.log → is_lawful_log (disk.image t.volume.device) ≡ true → Commits disk s r t → Writes holds_back (view_of disk.image s) (view_of disk.image t)
  writes_of r well joint lawful c =
      let made = makes_of r well c in
      record {
        log = made.log;
        lawful = lawful;
        keeps = made.keeps;
        unheaded = made.unheaded joint;
        same = c.volume.current;
        holds = λ q. ap (λ (ts : List TaskState). held_at (task ts q)) c.tasks;
        files = c.files;
      }
