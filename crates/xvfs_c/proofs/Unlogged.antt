-- A session whose recovery made no write has the image that it was opened over.
use Rattle.std.proofs.Common.{◌≡◌, ◌∙◌, ℕ, zero, suc, ◌+◌, Bool, true, false, cond, eqb, List, refl, sym, ap, arith}
use Rattle.std.proofs.lemmas.Bool.{eqb-true}
use Rattle.blocks.specs.Disk.{counted}
use Rattle.model.specs.Lemmas.Log.{recovered_empty}
use Rattle.model.specs.Log.{logged_count}
use Rattle.sessions.specs.Session.{OpensOver, disk_of, writes_of}
use Rattle.sessions.specs.Telling.{Covers, fresh_ledger}
use Rattle.sessions.specs.contracts.disk.HostDiskDisk.TheImpl.{ghosts}
use Rattle.sessions.specs.declared.disk.HostDisk.{HostDisk}
use Rattle.sessions.specs.declared.session.Session.{Session}
use Rattle.wal.specs.Recovery.{writes_to_recover}
use Rattle.xvfs_c.specs.Images.{OpensUnlogged}

-- a count that stayed at none counted none
counted_none : (n : ℕ) → counted 0 n ≡ 0 → n ≡ 0
counted_none zero same = refl
counted_none (suc n) same = absurd (omega (arith, same))

none_by : (b : Bool) (n : ℕ) → eqb n 0 ≡ b → cond b 0 (n + 1) ≡ 0 → n ≡ 0
none_by true n is none = eqb-true n 0 is
none_by false n is none = absurd (omega (arith, none))

unlogged : (n : ℕ) → writes_to_recover n ≡ 0 → n ≡ 0
unlogged n none = none_by (eqb n 0) n refl none

module _ (bytes : List ℕ) (processes : ℕ) (holds : Bool) (s : Session) (opens : OpensOver ghosts bytes processes holds s) (none : writes_of s ≡ 0) where
  device_is : disk_of s ≡ s.kernel.opening
  device_is = ap (λ store. store.volume.device) opens.opened.store

  nothing_logged : logged_count opens.device.copy.blocks.items ≡ 0
  nothing_logged =
      let n : ℕ = logged_count opens.device.copy.blocks.items in
      unlogged n (counted_none (writes_to_recover n)
      (ap (λ (m : ℕ). counted m (writes_to_recover n)) (sym opens.unwritten) ∙ sym opens.opened.writes
      ∙ ap (λ (d : HostDisk). d.copy.writes) (sym device_is) ∙ none))

  pub opens_unlogged : Covers ghosts s (fresh_ledger s) → OpensUnlogged ghosts bytes processes holds s
  opens_unlogged covers = record {
    opens = opens;
    unwritten = none;
    shows = ap (λ (d : HostDisk). d.copy.blocks.items) device_is ∙ opens.opened.opening
        ∙ recovered_empty opens.device.copy.blocks.items nothing_logged ∙ opens.blocks;
    covers = covers;
  }
