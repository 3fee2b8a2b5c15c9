-- What a run answered, as an answer of the session that began with the kernel that was opened.
use Rattle.std.proofs.Common.{◌≡◌, ◌∙◌, ◌<◌, ◌≤◌, ℕ, length, replicate, sym, ap, subst, arith, ⊎_elim}
use Rattle.std.specs.Prelude.{IsTrue}
use Rattle.std.proofs.lemmas.Bool.{cases_lt}
use Rattle.std.proofs.lemmas.List.{get_or-replicate, get_or_past, length-replicate}
use Rattle.blocks.specs.declared.disk.Disk.{Ghosts}
use Rattle.model.specs.Journal.{is_number}
use Rattle.model.specs.Layout.{inode_count_of}
use Rattle.model.specs.declared.types.operations.Op.{Op}
use Rattle.model.specs.declared.types.operations.Reply.{Reply}
use Rattle.history.specs.Processes.{World, fresh_world, idle}
use Rattle.history.specs.declared.types.Phase.{Phase}
use Rattle.kernel.specs.Causes.{IsAnswered}
use Rattle.kernel.specs.State.{ats_of}
use Rattle.inodes.specs.Store.{StoreState}
use Rattle.runner.specs.Causes.{HasAnswered}
use Rattle.runner.specs.Running.{Ringed}
use Rattle.runner.specs.Sessions.{ComesBySession}

-- a process of a fresh world has no operation under way
fresh_at : (count p : ℕ) → ats_of (fresh_world count) p ≡ Phase.Idle
fresh_at count p =
    ap (λ q. q.at) (⊎_elim
    (λ (low : p < count). get_or-replicate count p idle idle low)
    (λ (high : count ≤ p). get_or_past (replicate count idle) p idle (subst (λ (n : ℕ). n ≤ p) (sym (length-replicate count idle)) high))
    (cases_lt p count))

module _ {D N : Type 0} (disk : Ghosts D N) (d e : D) (processes : ℕ) (last : Ringed D) (comes : ComesBySession disk d e processes last) where
  pub answered : (p : ℕ) (op : Op) (reply : Reply) → HasAnswered last p op reply → IsAnswered comes.first last p op reply
  answered p op reply has = record {
    idle = ap (λ (w : World). ats_of w p) comes.opened.world ∙ fresh_at processes p;
    index = has.index;
    entry = has.entry;
    later = let none : length comes.first.world.journal.list ≡ 0 = ap (λ (w : World). length w.journal.list) comes.opened.world in omega (arith, none);
    stands = has.stands;
    mine = has.mine;
    same = has.same;
    told = has.told;
  }

  -- the kernel has the numbers of the image
  pub number_first : (i : ℕ) → IsTrue (is_number (inode_count_of (disk.image d)) i) → IsTrue (is_number comes.first.store.table.inode_count i)
  number_first i number =
      let count : comes.first.store.table.inode_count ≡ inode_count_of (disk.image d) = ap (λ (s : StoreState D). s.table.inode_count) comes.opened.store in
      subst (λ (n : ℕ). IsTrue (is_number n i)) (sym count) number
