-- What a stop leaves in the time of a step, and of a run of steps, keeps what it has to.
use Rattle.std.proofs.Common.{◌≡◌, ◌∙◌, ◌≤◌, inl, inr, ⊎_elim, ℕ, true, List, sym, ap, subst, arith, Some, None}
use Rattle.std.specs.Prelude.{IsTrue, ◌≢◌}
use Rattle.history.specs.Common.{AddsNone, due_labels, Elapses, Entry, files_of, form_of, Image, inode_count_of, is_lawful_log, is_number, IsSound, IsUntouched, Keeps, KeepsBetween, KeepsNow, kept, labels_of, LeavesOnly, most_of, recovered, recovers_once, replay, verdict_sound, VolumeState}
use Rattle.blocks.specs.Lemmas.Moments.{started, goes_on, joined}
use Rattle.blocks.specs.declared.disk.Disk.{Ghosts}
use Rattle.model.specs.Layout.{inode_of}
use Rattle.model.specs.Verdict.{verdict}
use Rattle.wal.specs.Recovery.{LeavesIfCalm, RecoversAs}
use Rattle.history.specs.Grows.{Grows}
use Rattle.history.specs.Lemmas.Growing.{keeps_later}

module _ {D : Type 0} (opening : Image) (v u : VolumeState D) (es fs : List Entry) (grows : Grows (inode_count_of opening) v es u fs) where
  -- a step's images: those before it, and those after it
  pub leaves_between : (moment : D → ℕ) (leaves : D → ℕ → Image → Type 0) → ((x : Image) → leaves v.device (moment v.device) x → KeepsNow v.log.committed (most_of v) opening es x) → ((x : Image) → leaves u.device (moment u.device) x → KeepsNow u.log.committed (most_of u) opening fs x)
      → Elapses (moment v.device) (moment u.device) (leaves v.device) (leaves u.device) → LeavesOnly moment leaves v.device u.device (KeepsBetween v.log.committed (most_of u) opening fs)
  leaves_between moment leaves before after time =
      let P : Image → Type 0 = KeepsBetween v.log.committed (most_of u) opening fs in
      goes_on moment leaves v.device v.device u.device P (started moment leaves v.device P (λ x left. keeps_later opening v u es fs grows v.log.committed x (before x left).between)) time
      (λ x left. let k = (after x left).between in record { groups = k.groups; low = omega (arith, k.low, grows.committed); high = k.high; keeps = k.keeps })

-- what leaves only images of one kind leaves only those of a wider one
pub leaves_wider : {D : Type 0} (moment : D → ℕ) (leaves : D → ℕ → Image → Type 0) (old new : D) (P Q : Image → Type 0) → ((x : Image) → P x → Q x) → LeavesOnly moment leaves old new P → LeavesOnly moment leaves old new Q
leaves_wider moment leaves old new P Q wider only = record {
  later = only.later;
  each = λ x left. wider x (only.each x left);
  before = λ t x le left. ⊎_elim (λ was. inl was) (λ p. inr (wider x p)) (only.before t x le left);
  keeps = only.keeps;
}

-- what keeps so many groups keeps at least fewer
pub keeps_fewer : (fewer least most : ℕ) (opening : Image) (es : List Entry) (x : Image) → fewer ≤ least → KeepsBetween least most opening es x → KeepsBetween fewer most opening es x
keeps_fewer fewer least most opening es x le k = record { groups = k.groups; low = omega (arith, k.low, le); high = k.high; keeps = k.keeps }

module _ {D : Type 0} (opening : Image) (moment : D → ℕ) (leaves : D → ℕ → Image → Type 0) where
  -- a run since the disk was d that keeps at least so many groups, and then a step
  pub leaves_on : (d : D) (least : ℕ) (b c : VolumeState D) (fs gs : List Entry) → least ≤ b.log.committed → Grows (inode_count_of opening) b fs c gs → LeavesOnly moment leaves d b.device (KeepsBetween least (most_of b) opening fs)
      → LeavesOnly moment leaves b.device c.device (KeepsBetween b.log.committed (most_of c) opening gs) → LeavesOnly moment leaves d c.device (KeepsBetween least (most_of c) opening gs)
  leaves_on d least b c fs gs low grows run step =
      let P : Image → Type 0 = KeepsBetween least (most_of c) opening gs in
      joined moment leaves d b.device c.device P
      (leaves_wider moment leaves d b.device (KeepsBetween least (most_of b) opening fs) P (keeps_later opening b c fs gs grows least) run)
      (leaves_wider moment leaves b.device c.device (KeepsBetween b.log.committed (most_of c) opening gs) P (λ x kept. keeps_fewer least b.log.committed (most_of c) opening gs x low kept) step)

  -- a run, and then a step
  pub leaves_then : (a b c : VolumeState D) (es fs gs : List Entry) → Grows (inode_count_of opening) a es b fs → Grows (inode_count_of opening) b fs c gs → LeavesOnly moment leaves a.device b.device (KeepsBetween a.log.committed (most_of b) opening fs)
      → LeavesOnly moment leaves b.device c.device (KeepsBetween b.log.committed (most_of c) opening gs) → LeavesOnly moment leaves a.device c.device (KeepsBetween a.log.committed (most_of c) opening gs)
  leaves_then a b c es fs gs first second run step = leaves_on a.device a.log.committed b c fs gs first.committed second run step

-- recovery keeps of an image what it keeps of another that it gives the same image for
keeps_alike : (opening x y : Image) (es : List Entry) (c : ℕ) → recovered x ≡ recovered y → is_lawful_log x ≡ true → Keeps opening es y c → Keeps opening es x c
keeps_alike opening x y es c same lawful k = record {
  log = lawful;
  sound = subst IsSound (sym same) k.sound;
  files = subst (λ z. replay (form_of opening) (files_of opening) (kept (inode_count_of opening) es c) ≡ Some (files_of z)) (sym same) k.files;
  untouched = subst (IsUntouched opening) (sym same) k.untouched;
  labels = subst (λ z. (i : ℕ) → (inode_of z i).kind ≢ 0 → IsTrue (is_number (inode_count_of opening) i) → labels_of z i ≡ due_labels opening (kept (inode_count_of opening) es c) i) (sym same) k.labels;
}

-- what an opening left behind keeps of a journal, all images keep that are recovered as the image
-- before it
recovers_kept : (least most : ℕ) (opening old new x : Image) (es : List Entry) → verdict old ≡ None → new ≡ recovered old → RecoversAs old x → KeepsBetween least most opening es new → KeepsBetween least most opening es x
recovers_kept least most opening old new x es sound is alike k = record {
  groups = k.groups;
  low = k.low;
  high = k.high;
  keeps = keeps_alike opening x new es k.groups (alike.image ∙ sym (ap recovered is ∙ recovers_once old)) (alike.lawful ∙ (verdict_sound old sound).1) k.keeps;
}

-- A run since a disk was `first`, which an opening made of d, keeps groups; so it does since the
-- opening began.
module _ {D N : Type 0} (disk : Ghosts D N) (has_now : (d : D) → disk.leaves d (disk.moment d) (disk.image d)) (d first now : D) (most : ℕ) (opening : Image) (es : List Entry)
    (sound : verdict (disk.image d) ≡ None) (is : disk.image first ≡ recovered (disk.image d)) (run : LeavesOnly disk.moment disk.leaves first now (KeepsBetween 0 most opening es)) where
  -- all images that are recovered as the one before it keep some
  pub kept_alike : (x : Image) → RecoversAs (disk.image d) x → KeepsBetween 0 most opening es x
  kept_alike x alike = recovers_kept 0 most opening (disk.image d) (disk.image first) x es sound is alike
      (run.each (disk.image first) (run.keeps (disk.moment first) (disk.image first) (omega arith) (has_now first)))

  pub kept_whole : LeavesIfCalm disk d first (RecoversAs (disk.image d)) → LeavesIfCalm disk d now (KeepsBetween 0 most opening es)
  kept_whole before calm =
      let P : Image → Type 0 = KeepsBetween 0 most opening es in
      joined disk.moment disk.leaves d first now P (leaves_wider disk.moment disk.leaves d first (RecoversAs (disk.image d)) P kept_alike (before calm)) run

-- time that adds nothing goes on, too
pub elapses_none : {before now : ℕ} {old new : ℕ → Image → Type 0} → AddsNone before now old new → Elapses before now old new
elapses_none a = record { later = a.later; adds = λ t x le left. inl (a.adds t x le left); keeps = a.keeps }

-- a disk that is as it was
pub elapses_same : {D : Type 0} (moment : D → ℕ) (leaves : D → ℕ → Image → Type 0) (d e : D) → e ≡ d → Elapses (moment d) (moment e) (leaves d) (leaves e)
elapses_same moment leaves d e is = subst (λ o. Elapses (moment d) (moment o) (leaves d) (leaves o)) (sym is) (record { later = omega arith; adds = λ t x le left. inl left; keeps = λ t x le left. left })
