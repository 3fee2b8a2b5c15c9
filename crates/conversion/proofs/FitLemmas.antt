-- What it says that an image may get a log of another length.
use Rattle.std.proofs.Common.{◌≡◌, ◌≢◌, ℕ, ◌<◌, ◌≤◌, Bool, true, false, cond, not, ◌&&◌, eqb, leb, ltb, length, Option, Some, None, refl, sym, ap, ◌∙◌, subst, arith}
use Rattle.std.specs.Prelude.{unwrap_or}
use Rattle.blocks.specs.Disk.{Image}
use Rattle.model.specs.Common.{are_alike, eq-eqb, eqb-true, is_inode_count, le-ltb, leb-true, logged_count, lt-ltb, ltb-true, ne_eqb, magic_at, magic_of, not-false, super_of}
use Rattle.model.specs.declared.types.image.Form.TheVariants.{One}
use Rattle.model.specs.declared.types.image.Super.{Super}
use Rattle.model.specs.Lemmas.Log.{both_of}
use Rattle.model.specs.Lemmas.Super.{guard_none}
use Rattle.conversion.specs.Common.{behind_log, bitmap_behind, chosen_size, goal_in, is_log_length, is_older_super, is_room, is_size_with, IsPlanOf, IsUnmoved, meta_with, super_with}
use Rattle.conversion.specs.Converted.{conversion_fault}
use Rattle.conversion.specs.Prepared.{IsNotOlder}
use Rattle.conversion.specs.declared.fault.ConversionFault.{ConversionFault}
use Rattle.conversion.specs.declared.fault.ConversionFault.TheVariants.{BadGeometry, BadMagic, Disk, Logged, NoMemory, SizeRange, Unsound}
use Rattle.conversion.specs.declared.plan.Plan.{Plan}

-- the superblock, the log and the size that the new image has room in
pub record IsFit (x : Image) (to size : ℕ) : Type 0 where
  pub magic : magic_at x ≡ magic_of One
  pub sized : (super_of x).size ≡ length x
  pub some : 2 ≤ (super_of x).ninodes
  pub few : (super_of x).ninodes ≤ 1024
  pub from_least : 11 ≤ (super_of x).nlog
  pub from_most : (super_of x).nlog ≤ 31
  pub to_least : 11 ≤ to
  pub to_most : to ≤ 31
  pub room : meta_with (super_of x).nlog (super_of x).size (super_of x).ninodes < (super_of x).size
  pub small : (super_of x).size ≤ 8191
  pub inodes : (super_of x).inodestart ≡ behind_log (super_of x).nlog
  pub bitmap : (super_of x).bmapstart ≡ bitmap_behind (super_of x).nlog (super_of x).ninodes
  pub empty : logged_count x ≡ 0
  pub least : goal_in (super_of x) to (super_of x).size ≤ size
  pub most : size ≤ 8191

-- what the test of the superblock stands for
pub record OlderFacts (x : Image) : Type 0 where
  pub size : (super_of x).size ≡ length x
  pub some : 2 ≤ (super_of x).ninodes
  pub few : (super_of x).ninodes ≤ 1024
  pub least : 11 ≤ (super_of x).nlog
  pub most : (super_of x).nlog ≤ 31
  pub room : meta_with (super_of x).nlog (super_of x).size (super_of x).ninodes < (super_of x).size
  pub small : (super_of x).size ≤ 8191
  pub inodes : (super_of x).inodestart ≡ behind_log (super_of x).nlog
  pub bitmap : (super_of x).bmapstart ≡ bitmap_behind (super_of x).nlog (super_of x).ninodes

pub older_facts : (x : Image) → is_older_super (super_of x) (length x) ≡ true → OlderFacts x
older_facts x h =
    let s = super_of x in
    let p = super_with s.nlog s.size s.ninodes in
    let all = both_of (eqb s.size (length x) && is_inode_count s.ninodes && is_log_length s.nlog && is_size_with s.nlog s.size s.ninodes) (are_alike s p) h in
    let four = both_of (eqb s.size (length x) && is_inode_count s.ninodes && is_log_length s.nlog) (is_size_with s.nlog s.size s.ninodes) all.0 in
    let three = both_of (eqb s.size (length x) && is_inode_count s.ninodes) (is_log_length s.nlog) four.0 in
    let two = both_of (eqb s.size (length x)) (is_inode_count s.ninodes) three.0 in
    let count = both_of (leb 2 s.ninodes) (leb s.ninodes 1024) two.1 in
    let log = both_of (leb 11 s.nlog) (leb s.nlog 31) three.1 in
    let size = both_of (ltb (meta_with s.nlog s.size s.ninodes) s.size) (leb s.size 8191) four.1 in
    let alike = both_of (eqb s.size p.size && eqb s.nblocks p.nblocks && eqb s.ninodes p.ninodes && eqb s.nlog p.nlog && eqb s.logstart p.logstart && eqb s.inodestart p.inodestart) (eqb s.bmapstart p.bmapstart) all.1 in
    let inodes = both_of (eqb s.size p.size && eqb s.nblocks p.nblocks && eqb s.ninodes p.ninodes && eqb s.nlog p.nlog && eqb s.logstart p.logstart) (eqb s.inodestart p.inodestart) alike.0 in
    record {
      size = eqb-true s.size (length x) two.0;
      some = leb-true 2 s.ninodes count.0;
      few = leb-true s.ninodes 1024 count.1;
      least = leb-true 11 s.nlog log.0;
      most = leb-true s.nlog 31 log.1;
      room = ltb-true (meta_with s.nlog s.size s.ninodes) s.size size.0;
      small = leb-true s.size 8191 size.1;
      inodes = eqb-true s.inodestart p.inodestart inodes.1;
      bitmap = eqb-true s.bmapstart p.bmapstart alike.1;
    }

pub fit_of : (x : Image) (to : ℕ) (asked : Option ℕ) → is_log_length to ≡ true → conversion_fault x to asked ≡ None → IsFit x to (chosen_size x to asked)
unfolding conversion_fault
fit_of x to asked log h =
    let long = guard_none (ltb (length x) 2) BadGeometry _ h in
    let magic = guard_none (not (eqb (magic_at x) (magic_of One))) BadMagic _ long.1 in
    let fields = guard_none (not (is_older_super (super_of x) (length x))) BadGeometry _ magic.1 in
    let logged = guard_none (not (eqb (logged_count x) 0)) (Logged (logged_count x)) _ fields.1 in
    let size = guard_none (not (is_room x to (chosen_size x to asked))) SizeRange None logged.1 in
    let facts = older_facts x (not-false (is_older_super (super_of x) (length x)) fields.0) in
    let goal = both_of (leb 11 to) (leb to 31) log in
    let s = super_of x in
    let room = both_of (leb (goal_in s to s.size) (chosen_size x to asked)) (leb (chosen_size x to asked) 8191) (not-false (is_room x to (chosen_size x to asked)) size.0) in
    record {
      magic = eqb-true (magic_at x) (magic_of One) (not-false (eqb (magic_at x) (magic_of One)) magic.0);
      sized = facts.size;
      some = facts.some;
      few = facts.few;
      from_least = facts.least;
      from_most = facts.most;
      to_least = leb-true 11 to goal.0;
      to_most = leb-true to 31 goal.1;
      room = facts.room;
      small = facts.small;
      inodes = facts.inodes;
      bitmap = facts.bitmap;
      empty = eqb-true (logged_count x) 0 (not-false (eqb (logged_count x) 0) logged.0);
      least = leb-true (goal_in s to s.size) (chosen_size x to asked) room.0;
      most = leb-true (chosen_size x to asked) 8191 room.1;
    }

-- ---- what is refused, in its order

module _ (x : Image) (to : ℕ) (asked : Option ℕ) where
  pub short_refused : length x < 2 → conversion_fault x to asked ≡ Some BadGeometry
  unfolding conversion_fault
  short_refused short = rw (lt-ltb (length x) 2 short) refl

  pub magic_refused : 2 ≤ length x → magic_at x ≢ magic_of One → conversion_fault x to asked ≡ Some BadMagic
  unfolding conversion_fault
  magic_refused long other = rw (le-ltb (length x) 2 long, ne_eqb (magic_at x) (magic_of One) other) refl

  pub fields_refused : 2 ≤ length x → magic_at x ≡ magic_of One → is_older_super (super_of x) (length x) ≡ false →
      conversion_fault x to asked ≡ Some BadGeometry
  unfolding conversion_fault
  fields_refused long magic fields = rw (le-ltb (length x) 2 long, eq-eqb (magic_at x) (magic_of One) magic, fields) refl

  pub log_refused : 2 ≤ length x → magic_at x ≡ magic_of One → is_older_super (super_of x) (length x) ≡ true → logged_count x ≢ 0 →
      conversion_fault x to asked ≡ Some (Logged (logged_count x))
  unfolding conversion_fault
  log_refused long magic fields some =
      rw (le-ltb (length x) 2 long, eq-eqb (magic_at x) (magic_of One) magic, fields, ne_eqb (logged_count x) 0 some) refl

  by_room : 2 ≤ length x → magic_at x ≡ magic_of One → is_older_super (super_of x) (length x) ≡ true → logged_count x ≡ 0 →
      (v : Bool) → is_room x to (chosen_size x to asked) ≡ v → conversion_fault x to asked ≡ cond v None (Some SizeRange)
  unfolding conversion_fault
  by_room long magic fields empty true room =
      rw (le-ltb (length x) 2 long, eq-eqb (magic_at x) (magic_of One) magic, fields, eq-eqb (logged_count x) 0 empty, room) refl
  by_room long magic fields empty false room =
      rw (le-ltb (length x) 2 long, eq-eqb (magic_at x) (magic_of One) magic, fields, eq-eqb (logged_count x) 0 empty, room) refl

  pub size_refused : 2 ≤ length x → magic_at x ≡ magic_of One → is_older_super (super_of x) (length x) ≡ true → logged_count x ≡ 0 →
      is_room x to (chosen_size x to asked) ≡ false → conversion_fault x to asked ≡ Some SizeRange
  size_refused long magic fields empty room = by_room long magic fields empty false room

  pub none_refused : 2 ≤ length x → magic_at x ≡ magic_of One → is_older_super (super_of x) (length x) ≡ true → logged_count x ≡ 0 →
      is_room x to (chosen_size x to asked) ≡ true → conversion_fault x to asked ≡ None
  none_refused long magic fields empty room = by_room long magic fields empty true room

  -- no superblock of an image to be moved
  pub not_older : (was is : ℕ) (fault : ConversionFault) → 2 ≤ length x → IsNotOlder x was is fault → IsUnmoved x to asked was is fault
  not_older was is BadMagic long why = (magic_refused long why.0, why.1)
  not_older was is BadGeometry long why = (fields_refused long why.0 why.1, why.2)
  not_older was is (Logged n) long why = absurd why
  not_older was is SizeRange long why = absurd why
  not_older was is (Unsound fault) long why = absurd why
  not_older was is (Disk b) long why = why
  not_older was is NoMemory long why = absurd why

-- what is planned where nothing is refused
pub planned : (x : Image) (to : ℕ) (asked : Option ℕ) (plan : Plan) → is_log_length to ≡ true → conversion_fault x to asked ≡ None → plan.sup ≡ super_of x → plan.to ≡ to →
    plan.size ≡ chosen_size x to asked → IsPlanOf x to asked plan
planned x to asked plan log none same goal size =
    let fit = fit_of x to asked log none in
    let s : (P : Super → Type 0) → P (super_of x) → P plan.sup = λ P p. subst P (sym same) p in
    record {
      none = none;
      planned = record {
        sup = same;
        size = s (λ t. t.size ≡ length x) fit.sized;
        some = s (λ t. 2 ≤ t.ninodes) fit.some;
        few = s (λ t. t.ninodes ≤ 1024) fit.few;
        from_least = s (λ t. 11 ≤ t.nlog) fit.from_least;
        from_most = s (λ t. t.nlog ≤ 31) fit.from_most;
        to_least = omega (arith, goal, fit.to_least);
        to_most = omega (arith, goal, fit.to_most);
        room = s (λ t. meta_with t.nlog t.size t.ninodes < t.size) fit.room;
        inodes = s (λ t. t.inodestart ≡ behind_log t.nlog) fit.inodes;
        bitmap = s (λ t. t.bmapstart ≡ bitmap_behind t.nlog t.ninodes) fit.bitmap;
        least = rw (goal, size) (s (λ t. goal_in t to t.size ≤ chosen_size x to asked) fit.least);
        most = omega (arith, size, fit.most);
        small = s (λ t. t.size ≤ 8191) fit.small;
      };
      log = goal;
      chosen = size;
    }

-- the size is judged by the superblock that was read
pub chosen_by : (x : Image) (to : ℕ) (asked : Option ℕ) (s : Super) (size : ℕ) → s ≡ super_of x → size ≡ unwrap_or asked (goal_in s to s.size) →
    size ≡ chosen_size x to asked
chosen_by x to asked s size same is = is ∙ ap (λ (t : Super). unwrap_or asked (goal_in t to t.size)) same

pub room_by : (x : Image) (to : ℕ) (asked : Option ℕ) (s : Super) (size : ℕ) (v : Bool) → s ≡ super_of x → size ≡ unwrap_or asked (goal_in s to s.size) →
    v ≡ (leb (goal_in s to s.size) size && leb size 8191) → is_room x to (chosen_size x to asked) ≡ v
room_by x to asked s size v same is judged =
    ap (is_room x to) (sym (chosen_by x to asked s size same is))
    ∙ ap (λ (t : Super). leb (goal_in t to t.size) size && leb size 8191) (sym same) ∙ sym judged
