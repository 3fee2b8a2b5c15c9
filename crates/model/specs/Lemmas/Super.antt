-- What a lawful superblock gives.
use Rattle.std.proofs.Common.{◌≡◌, ℕ, ◌+◌, ◌/◌, ◌<◌, ◌≤◌, Bool, true, false, cond, not, ◌&&◌, eqb, leb, ltb, length, Option, Some, None, refl, ap, arith}
use Rattle.model.specs.Common.{are_alike, BadGeometry, BadLog, BadMagic, eqb-true, has_known_magic, Image, is_inode_count, is_lawful_log, is_lawful_super, is_size, leb-true, ltb-true, meta_count, not-false, planned_super, Super, super_of}
use Rattle.model.specs.Layout.{super_in}
use Rattle.model.specs.Log.{recovered}
use Rattle.model.specs.Readable.{IsReadable}
use Rattle.model.specs.Verdict.{geometry_fault, log_fault, or_else, verdict}
use Rattle.model.specs.Lemmas.Log.{both_of, length-recovered, recovered_low}

pub guard_none : {A : Type 0} (b : Bool) (e : A) (r : Option A) → cond b (Some e) r ≡ None → (b ≡ false) × (r ≡ None)
guard_none true e r h = absurd (cc h)
guard_none false e r h = (refl, h)

-- the facts that a lawful superblock's test stands for
pub record SuperFacts (s : Super) (n : ℕ) : Type 0 where
  pub size : s.size ≡ n
  pub some : 2 ≤ s.ninodes
  pub few : s.ninodes ≤ 1024
  pub room : meta_count s.size s.ninodes < s.size
  pub small : s.size ≤ 8191
  pub map : s.bmapstart ≡ 33 + s.ninodes / 16 + 1

pub super_facts : (s : Super) (n : ℕ) → is_lawful_super s n ≡ true → SuperFacts s n
super_facts s n h =
    let p = planned_super s.size s.ninodes in
    let all = both_of (eqb s.size n && is_inode_count s.ninodes && is_size s.size s.ninodes) (are_alike s p) h in
    let three = both_of (eqb s.size n && is_inode_count s.ninodes) (is_size s.size s.ninodes) all.0 in
    let two = both_of (eqb s.size n) (is_inode_count s.ninodes) three.0 in
    let count = both_of (leb 2 s.ninodes) (leb s.ninodes 1024) two.1 in
    let size = both_of (ltb (meta_count s.size s.ninodes) s.size) (leb s.size 8191) three.1 in
    let alike = both_of (eqb s.size p.size && eqb s.nblocks p.nblocks && eqb s.ninodes p.ninodes && eqb s.nlog p.nlog && eqb s.logstart p.logstart && eqb s.inodestart p.inodestart) (eqb s.bmapstart p.bmapstart) all.1 in
    record {
      size = eqb-true s.size n two.0;
      some = leb-true 2 s.ninodes count.0;
      few = leb-true s.ninodes 1024 count.1;
      room = ltb-true (meta_count s.size s.ninodes) s.size size.0;
      small = leb-true s.size 8191 size.1;
      map = eqb-true s.bmapstart p.bmapstart alike.1;
    }

pub lawful_geometry : (x : Image) → geometry_fault x ≡ None → SuperFacts (super_of x) (length x)
lawful_geometry x h =
    let known = guard_none (not (has_known_magic x)) BadMagic _ (guard_none (ltb (length x) 2) BadGeometry _ h).1 in
    let lawful = guard_none (not (is_lawful_super (super_of x) (length x))) BadGeometry None known.1 in
    super_facts (super_of x) (length x) (not-false (is_lawful_super (super_of x) (length x)) lawful.0)

-- an image with a lawful superblock can be read
pub readable : (x : Image) → SuperFacts (super_of x) (length x) → IsReadable x
readable x f = record {
  size = omega (arith, f.size, f.small);
  inodes = f.some;
  inode_blocks = omega (arith, f.map);
  bitmap = omega (arith, f.map, f.room, f.size);
  inode_limit = f.few;
  size_limit = f.small;
}

-- and so can what recovery leaves
pub super_of-recovered : (x : Image) → is_lawful_log x ≡ true → 1 < length x → super_of (recovered x) ≡ super_of x
super_of-recovered x lawful h = ap super_in (recovered_low x 1 lawful (omega arith) (omega arith) h)

pub readable_recovered : (x : Image) → geometry_fault x ≡ None → is_lawful_log x ≡ true → IsReadable (recovered x)
readable_recovered x g lawful =
    let f = lawful_geometry x g in
    let room = f.room in
    let size = f.size in
    readable (recovered x) (rw (super_of-recovered x lawful (omega arith), length-recovered x) f)

pub or_else_none : {A : Type 0} (a b : Option A) → or_else a b ≡ None → (a ≡ None) × (b ≡ None)
or_else_none None b h = (refl, h)
or_else_none (Some x) b h = absurd (cc h)

-- an image without fault has a lawful superblock and log
pub verdict_none : (x : Image) → verdict x ≡ None → (geometry_fault x ≡ None) × (is_lawful_log x ≡ true)
unfolding verdict
verdict_none x h =
    let first = or_else_none (geometry_fault x) _ h in
    (first.0, lawful (is_lawful_log x) (or_else_none (log_fault x) _ first.1).0)
  where
    lawful : (b : Bool) → cond b None (Some BadLog) ≡ None → b ≡ true
    lawful true e = refl
    lawful false e = absurd (cc e)

pub readable_where_sound : (x : Image) → verdict x ≡ None → IsReadable (recovered x)
readable_where_sound x h = let v = verdict_none x h in readable_recovered x v.0 v.1

pub long_where_sound : (x : Image) → verdict x ≡ None → 33 ≤ length x
long_where_sound x h =
    let f = lawful_geometry x (verdict_none x h).0 in
    let room = f.room in
    let size = f.size in
    omega arith
