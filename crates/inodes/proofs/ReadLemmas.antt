-- What a step of a reading makes of it.
use Rattle.std.proofs.Common.{◌≡◌, ◌≢◌, ℕ, ◌+◌, ◌-◌, ◌*◌, ◌/◌, ◌%◌, ◌<◌, ◌≤◌, ◌++◌, List, length, min, refl, sym, ap, subst, ◌∙◌, Option, Some, None, false, arith}
use Rattle.std.specs.Prelude.{IfNone}
use Rattle.inodes.specs.Common.{address_in, append-nil, buffer, bytes_in, Dinode, eq-eqb, few_at, first_read, Form, form_of, gathered_with, GatheredBytes, Gathers, Ghosts, got_slot, Holds, HoldsWhereGot, Image, is_done, IsMade, IsReading, IsSought, Joint, leads_for, LeadsTo, length-bytes, length-current, length-part, MayRead, ne_eqb, needed_within, OnMore, part_in_block, part_of, Progress, ReadState, ReadSteps, Releases, Seeks, seen, steps_at, steps_enough, steps_for, steps_grow, steps_more, Target, target_for, VolumeState, Works}
use Rattle.blockmap.specs.Lemmas.Seeking.{SeeksOn, seeks_on}
use Rattle.inodes.specs.Lemmas.ReadRuns.{Begins, begins}
use Rattle.inodes.specs.ReadRuns.{BegunMayStep}

-- the log knows the size of the current image
pub size_of_log : {D : Type 0} (image : D → Image) (v : VolumeState D) → v.fault ≡ None
    → IfNone v.fault (Joint (image v.device) v.buffers v.log) → v.log.size ≡ length (seen (image v.device) v.buffers)
size_of_log image v well known =
    sym (length-current (image v.device) v.buffers ∙ (subst (λ (o : Option _). IfNone o (Joint (image v.device) v.buffers v.log)) well known).size)

sought_at : {D : Type 0} (image : D → Image) (v : VolumeState D) (p k : ℕ) (d : Dinode) (t : Target) → LeadsTo image v p d k t → got_slot t ≡ None →
    33 ≤ address_in (seen (image v.device) v.buffers) d k → address_in (seen (image v.device) v.buffers) d k < v.log.size → IsSought image v p t
sought_at image v p k d (Target.Entry entry) leads none low high = leads.holds
sought_at image v p k d (Target.Block b slot) leads none low high = let is = leads.block in (none, omega (arith, is, low), omega (arith, is, high))

-- the next byte's block is one that the inode's size needs
next_needed : {D : Type 0} (image : D → Image) (v : VolumeState D) (p : ℕ) (m : ReadState) → IsReading image v p m → m.next / 1024 * 1024 < m.inode.size
next_needed image v p m ready = let some = ready.some in let inside = ready.inside in omega (arith, some, inside)

-- the block of a reading's next byte may be sought, where it was not got
pub sought : {D : Type 0} (image : D → Image) (v : VolumeState D) (p : ℕ) (m : ReadState) → IsReading image v p m
    → got_slot m.target ≡ None → v.log.size ≡ length (seen (image v.device) v.buffers) → IsSought image v p m.target
sought image v p m ready none size =
    let lies = ready.may.blocks (m.next / 1024) (next_needed image v p m ready) in
    sought_at image v p (m.next / 1024) m.inode m.target ready.leads none lies.0 (omega (arith, lies.1, size))

-- what the inode says leads to the next one
lead_next : {D : Type 0} (image : D → Image) (v : VolumeState D) (p : ℕ) (m : ReadState) → MayRead (seen (image v.device) v.buffers) m.inode →
    v.log.size ≡ length (seen (image v.device) v.buffers) → m.next / 1024 * 1024 < m.inode.size → m.form ≡ form_of (seen (image v.device) v.buffers) →
    m.target ≡ target_for m.form m.inode (m.next / 1024) → LeadsTo image v p m.inode (m.next / 1024) m.target
lead_next image v p m may size low form is =
    subst (λ (t : Target). LeadsTo image v p m.inode (m.next / 1024) t) (sym (is ∙ ap (λ (f : Form). target_for f m.inode (m.next / 1024)) form))
    (leads_for image v p (m.next / 1024) m.inode may size low)

got_at : {D : Type 0} (image : D → Image) (v : VolumeState D) (p k i : ℕ) (d : Dinode) (t : Target) → LeadsTo image v p d k t → got_slot t ≡ Some i →
    (t ≡ Target.Block (address_in (seen (image v.device) v.buffers) d k) (Some i))
    × Holds (seen (image v.device) v.buffers) v.buffers p (address_in (seen (image v.device) v.buffers) d k) i
got_at image v p k i d (Target.Entry entry) leads got = absurd (cc got)
got_at image v p k i d (Target.Block b slot) leads got =
    let x = seen (image v.device) v.buffers in
    let a = address_in x d k in (
      ap (λ n. Target.Block n slot) leads.block ∙ ap (λ (o : Option ℕ). Target.Block a o) got,
      subst (λ (n : ℕ). Holds x v.buffers p n i) leads.block (subst (λ (o : Option ℕ). HoldsWhereGot x v.buffers p b o) got leads.holds),
    )

-- what a use of the block is made of: so many bytes of it are gathered, and it is released
pub record Uses {D : Type 0} (image : D → Image) (v : VolumeState D) (p i count : ℕ) (bytes : List ℕ) (m : ReadState) (g : GatheredBytes)
    (w : VolumeState D) (h : GatheredBytes) : Type 0 where
  pub ready : IsReading image v p m
  pub got : got_slot m.target ≡ Some i
  pub size : v.log.size ≡ length (seen (image v.device) v.buffers)
  pub shown : bytes ≡ (buffer v.buffers i).bytes
  pub most : count ≡ min (1024 - m.next % 1024) (m.end - m.next)
  pub gathers : h ≡ gathered_with g (part_of bytes (m.next % 1024) (m.next % 1024 + count - m.next % 1024))
  pub releases : Releases image v p i w

module _ {D N : Type 0} (disk : Ghosts D N) (v : VolumeState D) (p i count : ℕ) (bytes : List ℕ) (m : ReadState) (g : GatheredBytes)
    (w : VolumeState D) (h : GatheredBytes) (u : Uses disk.image v p i count bytes m g w h) where
  block : (m.target ≡ Target.Block (address_in (seen (disk.image v.device) v.buffers) m.inode (m.next / 1024)) (Some i))
      × Holds (seen (disk.image v.device) v.buffers) v.buffers p (address_in (seen (disk.image v.device) v.buffers) m.inode (m.next / 1024)) i
  block = got_at disk.image v p (m.next / 1024) i m.inode m.target u.ready.leads u.got

  gathered : (n : ReadState) → n.next ≡ m.next + count → Gathers (bytes_in (seen (disk.image v.device) v.buffers) m.inode) m n g h
  gathered n next =
      let x = seen (disk.image v.device) v.buffers in
      let d = m.inode in
      let may = u.ready.may in
      let is = u.most in
      let fits : m.next + count ≤ d.size = omega (arith, is, u.ready.inside, u.ready.some) in
      let less : m.next % 1024 + count - m.next % 1024 ≡ count = omega arith in
      let moved : count ≡ n.next - m.next = omega (arith, next) in
      let piece : part_of bytes (m.next % 1024) (m.next % 1024 + count - m.next % 1024) ≡ part_of (bytes_in x d) m.next (n.next - m.next) =
      ap (λ k. part_of bytes (m.next % 1024) k) less
      ∙ ap (λ l. part_of l (m.next % 1024) count) (u.shown ∙ block.1.bytes)
      ∙ sym (part_in_block x d may m.next count fits (omega (arith, is)))
      ∙ ap (λ k. part_of (bytes_in x d) m.next k) moved in
      let long : length (part_of (bytes_in x d) m.next (n.next - m.next)) ≡ n.next - m.next =
      length-part (bytes_in x d) m.next (n.next - m.next) (omega (arith, length-bytes x d may, fits, next)) in
      record {
        later = omega (arith, next);
        bytes = ap (λ (o : GatheredBytes). o.bytes) u.gathers ∙ ap (λ l. g.bytes ++ l) piece;
        room = ap (λ (o : GatheredBytes). o.room) u.gathers ∙ ap (λ k. g.room - k) (ap length piece ∙ long);
      }

  works : (n : ReadState) (r : Progress (Unit {0})) → n.next ≡ m.next + count → IsMade r → OnMore r (n.target ≡ target_for m.form m.inode (n.next / 1024))
      → Works disk m.target v p m r w n
  works n r next made goes =
      subst (λ (t : Target). Works disk t v p m r w n) (sym block.0) ((next ∙ ap (λ (k : ℕ). m.next + k) u.most, made, u.releases, goes))

  -- the last bytes
  pub uses_last : (n : ReadState) → n.inode ≡ m.inode → n.form ≡ m.form → n.end ≡ m.end → n.next ≡ m.next + count → n.next ≡ n.end
      → ReadSteps disk v p m g (Progress.Over tt) w n h
  uses_last n inode form end next last = record {
    inode = inode;
    form = form;
    end = end;
    gathers = gathered n next;
    works = works n (Progress.Over tt) next tt tt;
    over = sym (eq-eqb n.next n.end last);
    asleep = λ cause no. absurd (cc no);
    more = tt;
    left = λ no. absurd (cc no);
  }

  -- more are behind them
  pub uses_some : (n : ReadState) → n.inode ≡ m.inode → n.form ≡ m.form → n.end ≡ m.end → n.next ≡ m.next + count → n.next ≢ n.end
      → n.target ≡ target_for m.form m.inode (n.next / 1024) → ReadSteps disk v p m g Progress.Moved w n h
  uses_some n inode form end next more leads =
      let is = u.most in
      let inside = u.ready.inside in
      let some = u.ready.some in
      let current = u.releases.current in
      let y = seen (disk.image w.device) w.buffers in
      let below : n.next < m.end = omega (arith, is, some, next, end, more) in
      let long : n.inode.size ≡ m.inode.size = ap (λ (d : Dinode). d.size) inode in
      let may : MayRead y n.inode = subst (λ (x : Image). MayRead x n.inode) (sym current) (subst (λ (d : Dinode). MayRead (seen (disk.image v.device) v.buffers) d) (sym inode) u.ready.may) in
      let same : n.form ≡ form_of y = form ∙ u.ready.form ∙ ap form_of (sym current) in
      let first : n.target ≡ target_for n.form n.inode (n.next / 1024) = leads ∙ ap (λ (f : Form). target_for f m.inode (n.next / 1024)) (sym form) ∙ ap (λ (d : Dinode). target_for n.form d (n.next / 1024)) (sym inode) in
      let lead = lead_next disk.image w p n may (ap (λ (o : VolumeState D). o.log.size) u.releases.volume ∙ u.size ∙ ap length (sym current)) (omega (arith, below, inside, long)) same first in
      let few = few_at y n.inode (n.next / 1024) n.target lead.block in
      let one : steps_at m.target ≡ 1 = ap steps_at block.0 in
      let ahead = (n.end - 1) / 1024 - n.next / 1024 in
      let enough = steps_enough (form_of y) (n.next / 1024) (needed_within y n.inode (n.next / 1024) may.fit (omega (arith, below, inside, long))) in
      let here : steps_for (form_of y) 1 ≡ steps_for m.form 1 = ap (λ (f : Form). steps_for f 1) (sym same ∙ form) in
      let behind : steps_for n.form ahead ≡ steps_for m.form ahead = ap (λ (f : Form). steps_for f ahead) form in
      let one_more = steps_more m.form ahead in
      let fewer = steps_grow m.form (ahead + 1) ((m.end - 1) / 1024 - m.next / 1024) (omega (arith, is, some, next, end, more, below)) in
      record {
        inode = inode;
        form = form;
        end = end;
        gathers = gathered n next;
        works = works n Progress.Moved next tt leads;
        over = sym (ne_eqb n.next n.end more);
        asleep = λ cause no. absurd (cc no);
        more = record { may = may; form = same; some = omega (arith, below, end); inside = omega (arith, inside, end, long); leads = lead };
        left = λ moved. omega (arith, few, one, enough, here, behind, one_more, fewer);
      }

-- a reading that was begun may make a step
pub begun_reads : {D : Type 0} (image : D → Image) (v : VolumeState D) (p offset count : ℕ) (d : Dinode) (m : ReadState) → MayRead (seen (image v.device) v.buffers) d →
    v.log.size ≡ length (seen (image v.device) v.buffers) → first_read (form_of (seen (image v.device) v.buffers)) d offset count ≡ Some m → IsReading image v p m × (m.end - m.next ≤ count)
begun_reads image v p offset count d m may size is =
    let cur = seen (image v.device) v.buffers in
    let b : Begins (form_of cur) d offset count m = begins (form_of cur) d offset count m is in
    let next = b.next in
    let end = b.end in
    let before = b.before in
    let some = b.some in
    let long : m.inode.size ≡ d.size = ap (λ (o : Dinode). o.size) b.inode in
    let its : MayRead cur m.inode = subst (λ (o : Dinode). MayRead cur o) (sym b.inode) may in
    let first : m.target ≡ target_for m.form m.inode (m.next / 1024) =
    b.target ∙ ap (λ (k : ℕ). target_for (form_of cur) d (k / 1024)) (sym next) ∙ ap (λ (f : Form). target_for f d (m.next / 1024)) (sym b.form)
    ∙ ap (λ (o : Dinode). target_for m.form o (m.next / 1024)) (sym b.inode) in (
      record {
        may = its;
        form = b.form;
        some = omega (arith, next, end, before, some);
        inside = omega (arith, end, long);
        leads = lead_next image v p m its size (omega (arith, next, before, long)) b.form first;
      },
      omega (arith, next, end),
    )

pub begun_may_step : {D N : Type 0} (disk : Ghosts D N) → BegunMayStep disk
begun_may_step disk = begun_reads disk.image

-- a step to the block gathers nothing
module _ {D N : Type 0} (disk : Ghosts D N) (v w : VolumeState D) (p : ℕ) (m : ReadState) (g : GatheredBytes) (r : Progress (Unit {0})) (t : Target)
    (ready : IsReading disk.image v p m) (none : got_slot m.target ≡ None) (size : v.log.size ≡ length (seen (disk.image v.device) v.buffers))
    (seeks : Seeks disk m.target v p r t w) where
  abbrev cur : Image
  cur = seen (disk.image v.device) v.buffers

  on : SeeksOn disk v p m.inode (m.next / 1024) m.target r t w
  on = seeks_on disk v w p (m.next / 1024) m.inode r t ready.may size (next_needed disk.image v p m ready) m.target ready.leads none seeks

  nothing : 0 ≡ m.next - m.next
  nothing = omega arith

  works_then : (a : Target) → got_slot a ≡ None → Seeks disk a v p r t w → Works disk a v p m r w (record m { target = t })
  works_then (Target.Entry e) free does = (refl, does)
  works_then (Target.Block b None) free does = (refl, does)
  works_then (Target.Block b (Some i)) free does = absurd (cc free)

  over_at : (q : Progress (Unit {0})) → q ≢ Progress.Over tt → is_done q ≡ false
  over_at Progress.Moved unfinished = refl
  over_at (Progress.Sleeping why) unfinished = refl
  over_at (Progress.Over tt) unfinished = absurd (unfinished refl)
  over_at (Progress.Fault fault) unfinished = refl

  more_at : (q : Progress (Unit {0})) → r ≡ q → OnMore q (IsReading disk.image w p (record m { target = t }))
  more_at Progress.Moved is =
      let current = on.current is in
      record {
        may = subst (λ (x : Image). MayRead x m.inode) (sym current) ready.may;
        form = ready.form ∙ ap form_of (sym current);
        some = ready.some;
        inside = ready.inside;
        leads = on.leads is;
      }
  more_at (Progress.Sleeping why) is =
      let stays = on.asleep why is in
      subst (λ (u : VolumeState D). IsReading disk.image u p (record m { target = t })) (sym stays.0)
      (subst (λ (o : Target). IsReading disk.image v p (record m { target = o })) (sym stays.1) ready)
  more_at (Progress.Over tt) is = tt
  more_at (Progress.Fault fault) is = tt

  pub read_sought : ReadSteps disk v p m g r w (record m { target = t }) g
  read_sought = record {
    inode = refl;
    form = refl;
    end = refl;
    gathers = record {
      later = omega arith;
      bytes = sym (append-nil g.bytes) ∙ ap (λ (n : ℕ). g.bytes ++ part_of (bytes_in cur m.inode) m.next n) nothing;
      room = omega arith;
    };
    works = works_then m.target none seeks;
    over = over_at r on.unfinished ∙ sym (ne_eqb m.next m.end (let some = ready.some in λ same. omega (arith, same, some)));
    asleep = λ cause waits. record {
      volume = (on.asleep cause waits).0;
      reading = ap (λ (o : Target). record m { target = o }) (on.asleep cause waits).1;
      gathered = refl;
    };
    more = more_at r refl;
    left = λ moved. let nearer = on.nearer moved in omega (arith, nearer);
  }
