-- What each step of a truncation makes of the current image and the table: it gets a block, clears a bit, gives the
-- block of addresses back, or writes the inode.
use Rattle.std.proofs.Common.{◌≡◌, ◌≢◌, inr, ℕ, suc, ◌+◌, ◌*◌, ◌<◌, ◌≤◌, Bool, true, false, cond, get_or, length, List, [], ◌∷◌, ◌++◌, refl, sym, ◌∙◌, ap, subst, ⊎_elim, arith, Option, Some, None}
use Rattle.std.specs.Prelude.{IsTrue}
use Rattle.inodes.specs.Common.{above_by, above_hand, address_left, after_trunc, alone, answer_by, apart, AreGivenUp, at_block, at_branches, at_entries, begun_left, between, bits, block_at, block_by, block_given_up, block_next, block_of_got, cases_Bool, Changes, Claim, Claims, claims_of, cleared_bit_keeps, current_of, depth_of, depths, Dinode, direct_count, direct_given_up, entries_kept, entry_of, entry_passed, false≢true, file_in, Files, first_alone, FitsHeld, Form, form_agree, form_of, Freeing, frees, FreesOn, GetsNext, Ghosts, Gives, gives_on_way, Got, got_in, Grip, grips_of, hand_in, HasGivenUp, HasLogged, Held, held_of, Image, image_by, inode_block, inode_left, inode_of-with_inode, inode_same, inode_without, is_among, is_number, IsAtDirect, IsAtEntry, IsBelow, IsClaimedNow, IsCopy, IsGivenUp, IsHeldIn, IsInHand, IsMapped, IsStore, IsTruncating, Itrunc, Joint, Keeps, KeepsTable, KeepsUsedInodes, Kept, kept_then, last_fields, last_inode, last_inode_of, leaves_as_many, LeavesAlike, led_to, left_by, left_under, LiesInData, listed, LogState, made_so_far, Marks, ne_eqb, noted, noted_among, noted_home, now_by, now_of, one_for, Progress, Releases, renewed, root_of, Stage, stage_left, StoreState, table_of_trunc, TableState, taken, task, test, tree_given_up, TruncAt, truncs_left, unmarked, used_by, used_noted_new, UsesBlock, VolumeState, way_of, when_got, with_inode, without_address, words_of, write_back_keeps, write_back_rests, WritesBlock}
use Rattle.in_flight.specs.Held.{blocks_left}
use Rattle.model.specs.Layout.{inode_of}
use Rattle.in_flight.specs.Lemmas.Remapped.{agrees}
use Rattle.in_flight.specs.Lemmas.Frames.{AgreesAtData}
use Rattle.blockmap.specs.Bfree.{with_freed}
use Rattle.inodes.specs.Lemmas.Grips.{kept_by_image, kept_by_renew}
use Rattle.inodes.proofs.Frames.{marks_same}
use Rattle.inodes.proofs.InHand.{first_tree, hand_kept, in_hand_kept, root_there, two_deep}
use Rattle.inodes.proofs.LooksKept.{KeepsUsed, keeps_freed, keeps_same, keeps_written}
use Rattle.inodes.proofs.TruncFiles.{fits_still, with_claim, with_claim_is}
use Rattle.inodes.proofs.TruncNext.{ComesTo, address_cursor, address_left_comes, block_comes, branches_come, entries_come, few_for, few_made}
use Rattle.inodes.proofs.TruncSlots.{Gains, gains}
use Rattle.inodes.proofs.Truncating as of

-- the bitmap's block counts once
logged_noted : (l : LogState) (p b : ℕ) → p < length l.used → HasLogged l p b → HasLogged (noted l p b) p b
logged_noted l p b lt had = ⊎_elim
    (λ (home : is_among b l.homes ≡ true). subst (λ (o : LogState). HasLogged o p b) (sym (noted_home l p b home)) had)
    (λ (new : is_among b l.homes ≡ false). ⊎_elim
    (λ (none : used_by l p ≡ Some 0). inr (used_noted_new l p b 0 lt none new, noted_among l p b))
    (λ one. absurd (false≢true (sym new ∙ one.1)))
    had)
    (cases_Bool (is_among b l.homes))

not_got : (b : ℕ) (o : Option ℕ) → got_in b o ≡ None → o ≡ None
not_got b None none = refl
not_got b (Some i) none = absurd (cc none)

-- nothing is kept, and nothing is used next
pub record HasNone (n : Freeing) : Type 0 where
  pub inner : block_of_got n.kept.inner ≡ None
  pub outer : block_of_got n.kept.outer ≡ None
  pub now : now_of n ≡ None

-- process p, whose task frees a file's blocks, makes a step
module _ {D N : Type 0} (disk : Ghosts D N) (s : StoreState D) (p k : ℕ) (m : Freeing) (is : IsStore disk.image s) (well : s.volume.fault ≡ None)
    (stood : (task s.tasks p).stage ≡ Stage.Truncating k m) (inside : p < length s.tasks) (joint : Joint (disk.image s.volume.device) s.volume.buffers s.volume.log)
    (q : Progress (Unit {0})) (n : Freeing) (w : VolumeState D) where
  abbrev cur : Image
  cur = current_of disk.image s.volume

  abbrev now : Image
  now = current_of disk.image w

  abbrev claims : Claims
  claims = claims_of s.tasks

  abbrev mm : Itrunc
  mm = m.machine

  abbrev gs : List (Option Grip)
  gs = grips_of s.tasks

  abbrev count : ℕ
  count = s.table.inode_count

  -- The truncation goes on: it stands so in this image, with that log.
  pub record GoesOn (x : Image) (u : Freeing) (l : LogState) : Type 0 where
    pub same : u.machine ≡ record mm { inode = u.machine.inode; slot = u.machine.slot; upper = u.machine.upper; given_up = u.machine.given_up; at = u.machine.at }
    pub slot : u.machine.slot < 13
    pub given : HasGivenUp x u.machine u.machine.at
    pub keeps : Keeps x u.kept u.machine u.machine.at
    pub less : truncs_left x u < truncs_left cur m
    pub logged : HasLogged l p mm.bitmap
    -- with its new claim the image stands for the same files
    pub fits : (new : Claims) → IsClaimedNow claims mm.number (Some (frees (held_of u.machine))) new → (files : Files) → FitsHeld files cur claims → FitsHeld files x new

  goes_so : (x : Image) (u : Freeing) → now ≡ x → n ≡ u → GoesOn x u w.log → GoesOn now n w.log
  goes_so x u shown to on = subst (λ (y : Image). GoesOn y n w.log) (sym shown) (subst (λ (o : Freeing). GoesOn x o w.log) (sym to) on)

  -- What the step makes of image and table, by what it answers.
  pub record Makes : Type 0 where
    pub marks : Marks None cur now
    pub keeps : KeepsUsed count mm.number claims cur now
    pub table : KeepsTable s.table (table_of_trunc s.table k m q) p gs gs now
    pub on : q ≡ Progress.Moved → GoesOn now n w.log
    -- nothing is kept at the end, and the number is at rest
    pub over : q ≡ Progress.Over tt → HasNone n × (1 ≤ truncs_left cur m)
    pub rests : q ≡ Progress.Over tt → (new : Claims) → IsClaimedNow claims mm.number None new → (files : Files) → FitsHeld files cur claims → FitsHeld files now new

  abbrev files_now : Files
  files_now = (of.looking disk s p k m is well stood).files.0

  fits_now : FitsHeld files_now cur claims
  fits_now = (of.looking disk s p k m is well stood).files.1

  held_in : (files : Files) → FitsHeld files cur claims → IsHeldIn files cur claims mm.number (frees (held_of mm))
  held_in files fits = of.held_in disk s p k m is well stood files fits

  map : IsMapped cur
  map = of.map disk s p k m is well stood

  work : IsTruncating cur count (task s.tasks p) m
  work = of.work disk s p k m is well stood

  logged : HasLogged s.volume.log p mm.bitmap
  logged = (of.holds disk s p k m is well stood).logged

  logs : p < length s.volume.log.used
  logs =
      omega (arith, is.few, joint.log.pids, inside)

  -- the table stays but with the last step
  same_table : (r : Progress (Unit {0})) → r ≢ Progress.Over tt → table_of_trunc s.table k m r ≡ s.table
  same_table Progress.Moved going = refl
  same_table (Progress.Sleeping cause) going = refl
  same_table (Progress.Over out) going = absurd (going refl)
  same_table (Progress.Fault fault) going = refl

  -- ---- the image stays

  module _ (stays : now ≡ cur) (going : q ≢ Progress.Over tt) where
    still_makes : (q ≡ Progress.Moved → GoesOn now n w.log) → Makes
    still_makes on = record {
      marks = subst (Marks None cur) (sym stays) (marks_same None cur (λ i makes. absurd (false≢true makes)));
      keeps = subst (KeepsUsed count mm.number claims cur) (sym stays) (keeps_same count mm.number claims cur);
      table = subst (λ (x : Image). KeepsTable s.table (table_of_trunc s.table k m q) p gs gs x) (sym stays)
          (subst (λ (u : TableState). KeepsTable s.table u p gs gs cur) (sym (same_table q going))
          (record { table = (of.looking disk s p k m is well stood).table; others = λ q j i other locks. record { number = λ e. refl; holder = refl; copy = refl } }));
      on = on;
      over = λ over. absurd (going over);
      rests = λ over. absurd (going over);
    }

  -- a block was got that is used next
  to_use : (i : ℕ) (a : TruncAt) → mm.at ≡ a → m.used ≡ None → made_so_far mm.upper None a < made_so_far mm.upper (Some i) a → GoesOn cur (record m { used = Some i }) s.volume.log
  to_use i a at none more =
      let blocks : ℕ = blocks_left cur (held_of mm) in
      let few = few_made mm.upper (Some i) a in
      record {
        same = refl;
        slot = work.slot;
        given = work.given;
        keeps = work.keeps;
        less = subst (λ (u : Option ℕ). 4 * blocks + stage_left mm.upper (Some i) mm.at < 4 * blocks + stage_left mm.upper u mm.at) (sym none)
            (subst (λ (o : TruncAt). 4 * blocks + stage_left mm.upper (Some i) o < 4 * blocks + stage_left mm.upper None o) (sym at) (omega (arith, more, few)));
        logged = logged;
        fits = λ new claimed files fits. fits_still files cur claims new mm.number (held_of mm) (held_in files fits) claimed;
      }

  -- the block of addresses in hand was got, and is kept
  to_block : (i b : ℕ) → mm.at ≡ TruncAt.Loading b → GoesOn cur (taken (block_at cur b) i (TruncAt.Loading b) m) s.volume.log
  to_block i b at = record {
    same = comes.same ∙ ap (λ (d : Dinode). record mm { inode = d; slot = after.slot; upper = after.upper; given_up = after.given_up; at = after.at }) (sym (ap (λ (o : Itrunc). o.inode) comes.same));
    slot = comes.slot;
    given = comes.given;
    keeps = comes.keeps (taken (block_at cur b) i (TruncAt.Loading b) m).kept (ap Some (sym given.2)) keeps.inner;
    less = subst (λ (o : TruncAt). 4 * (blocks_left cur (held_of after)) + stage_left after.upper None after.at < 4 * (blocks_left cur (held_of mm)) + stage_left mm.upper m.used o) (sym at)
        (omega (arith, comes.made, few_for mm.upper, as_many));
    logged = logged;
    fits = λ new claimed files fits. entry_passed files cur claims new mm.number (held_of after).cursor (held_of mm) (held_in files fits) alike
        (subst (λ (c : Option Claim). IsClaimedNow claims mm.number c new) (ap (λ (h : Held). Some (frees h)) claim) claimed);
  }
    where
      given : HasGivenUp cur mm (TruncAt.Loading b)
      given = subst (HasGivenUp cur mm) at work.given

      keeps : Keeps cur m.kept mm (TruncAt.Loading b)
      keeps = subst (Keeps cur m.kept mm) at work.keeps

      after : Itrunc
      after = at_block mm (words_of (block_at cur b))

      comes : ComesTo cur mm after (way_of mm ++ 0 ∷ []) (Some (hand_in cur mm)) (above_hand mm) (1 + one_for mm.upper)
      comes = subst (λ (c : ℕ). ComesTo cur mm (at_block mm (words_of (block_at cur c))) (way_of mm ++ 0 ∷ []) (Some (hand_in cur mm)) (above_hand mm) (1 + one_for mm.upper)) given.2 (block_comes cur mm given.0 work.form)

      claim : held_of after ≡ (let h : Held = record (held_of mm) { cursor = (held_of after).cursor } in h)
      claim = ap held_of comes.same

      alike : LeavesAlike cur mm.inode (held_of after).cursor (held_of mm).cursor
      alike = subst (λ (g : ℕ). LeavesAlike cur mm.inode (held_of after).cursor (way_of mm ++ g ∷ [])) (sym given.1) comes.alike

      as_many : blocks_left cur (held_of after) ≡ blocks_left cur (held_of mm)
      as_many = ap (blocks_left cur) claim ∙ leaves_as_many cur (held_of after).cursor (held_of mm) alike

  gets_makes : (a : TruncAt) → mm.at ≡ a → HasGivenUp cur mm a → Keeps cur m.kept mm a → now_by m a ≡ None → GetsNext disk s.volume p m q n w → Makes
  gets_makes a at given keeps none gets = still_makes gets.gets.reads.current never on
    where
      b : ℕ
      b = block_next m

      then_at : StoreState D
      then_at = record s { volume = w }

      never : q ≢ Progress.Over tt
      never over = Rattle.inodes.proofs.TruncSlots.never_over disk s then_at p b q gets.slot gets.gets tt over

      on : q ≡ Progress.Moved → GoesOn now n w.log
      on moved = goes_so cur (taken (block_at cur (block_by mm a)) gain.at a m) gets.gets.reads.current
          (gets.next ∙ ap (λ (o : Option ℕ). when_got cur o m) gain.is ∙ ap (λ (o : TruncAt). taken (block_at cur (block_by mm o)) gain.at o m) at)
          (subst (GoesOn cur (taken (block_at cur (block_by mm a)) gain.at a m)) (sym gets.gets.reads.log) (by_at gain.at a at keeps none))
        where
          gain : Gains disk s then_at p b q gets.slot gets.gets
          gain = gains disk s then_at p b q gets.slot gets.gets moved

          by_at : (i : ℕ) (a : TruncAt) → mm.at ≡ a → Keeps cur m.kept mm a → now_by m a ≡ None → GoesOn cur (taken (block_at cur (block_by mm a)) i a m) s.volume.log
          by_at i TruncAt.Direct at keeps none = to_use i TruncAt.Direct at (not_got mm.bitmap m.used none) (omega arith)
          by_at i (TruncAt.Loading c) at keeps none = to_block i c at
          by_at i TruncAt.Entry at keeps none = to_use i TruncAt.Entry at (not_got mm.bitmap m.used none) (omega arith)
          by_at i TruncAt.Unloading at keeps none = absurd (let e : None ≡ Some (hand_in cur mm) = sym (ap block_of_got none) ∙ keeps.inner in cc e)
          by_at i TruncAt.Freeing at keeps none = to_use i TruncAt.Freeing at (not_got mm.bitmap m.used none) (omega arith)
          by_at i TruncAt.Updating at keeps none = to_use i TruncAt.Updating at (not_got (inode_block mm.number) m.used none) (omega arith)

  -- ---- a block is used

  module _ (g : Got) (uses : UsesBlock disk g s.volume p m q n w) where
    abbrev entries : List ℕ
    entries = entries_kept cur m g

    machine_at : (a : TruncAt) → mm.at ≡ a → n.machine ≡ after_trunc mm entries a
    machine_at a at = ap (λ (o : Freeing). o.machine) uses.next ∙ ap (after_trunc mm entries) at

    kept_at : (a : TruncAt) → mm.at ≡ a → n.kept ≡ kept_then m.kept a
    kept_at a at = ap (λ (o : Freeing). o.kept) uses.next ∙ ap (kept_then m.kept) at

    used_none : n.used ≡ None
    used_none = ap (λ (o : Freeing). o.used) uses.next

    -- what is freed next, with what is kept
    abbrev with_kept : Itrunc → Freeing
    with_kept u = record { machine = u; kept = n.kept; used = None }

    to_kept : (u : Itrunc) → n.machine ≡ u → n ≡ with_kept u
    to_kept u to = ap (λ (o : Option ℕ). record n { used = o }) used_none ∙ ap with_kept to

    answer_at : (a : TruncAt) → mm.at ≡ a → q ≡ answer_by a
    answer_at a at = uses.answer ∙ ap answer_by at

    changes_at : (a : TruncAt) → mm.at ≡ a → Changes disk s.volume p g.slot (block_by mm a) (image_by cur mm entries a) w
    changes_at a at = subst (λ (o : TruncAt). Changes disk s.volume p g.slot (block_by mm o) (image_by cur mm entries o) w) at uses.changes

    -- ---- a bit is cleared

    -- what holds of a block that is given up so, and of what comes behind it
    record Frees (b : ℕ) (u : Itrunc) : Type 0 where
      moved : q ≡ Progress.Moved
      to : n.machine ≡ u
      lies : LiesInData cur b
      event : (files : Files) → FitsHeld files cur claims → (new : Claims) → IsClaimedNow claims mm.number (Some (frees (held_of u))) new → IsGivenUp files cur claims mm.number b (held_of mm) (held_of u) new
      same : u ≡ record mm { inode = u.inode; slot = u.slot; upper = u.upper; given_up = u.given_up; at = u.at }
      slot : u.slot < 13
      given : HasGivenUp (unmarked cur b) u u.at
      keeps : Keeps (unmarked cur b) n.kept u u.at
      made : made_so_far mm.upper m.used mm.at < made_so_far u.upper None u.at + 4

    module _ (b : ℕ) (u : Itrunc) (f : Frees b u) (writes : WritesBlock disk s.volume p g.slot mm.bitmap (with_freed cur mm.bitmap b) w) where
      shown : now ≡ unmarked cur b
      shown = writes.current ∙ ap (λ (c : ℕ). with_freed cur c b) (of.bitmap disk s p k m is well stood)

      abbrev mid : Claims
      mid = with_claim claims mm.number (Some (frees (held_of u)))

      used_still : (i : ℕ) → KeepsUsedInodes count i cur (unmarked cur b)
      used_still i j names other used = inode_same cur (bits cur b map) map j
          (apart cur j is.geometry (between cur j (subst (λ (n : ℕ). IsTrue (is_number n j)) is.numbers names)).high).before_map

      then_now : IsGivenUp files_now cur claims mm.number b (held_of mm) (held_of u) mid
      then_now = f.event files_now fits_now mid (with_claim_is claims mm.number (Some (frees (held_of u))))

      less_then : 4 * (blocks_left (unmarked cur b) (held_of u)) + stage_left u.upper None u.at < truncs_left cur m
      less_then = omega (arith, then_now.fewer, f.made, few_made mm.upper m.used mm.at, few_made u.upper None u.at)

      frees_makes : Makes
      frees_makes = record {
        marks = subst (Marks None cur) (sym shown) (cleared_bit_keeps files_now cur claims b fits_now f.lies.1);
        keeps = subst (KeepsUsed count mm.number claims cur) (sym shown) (subst (λ (c : ℕ). KeepsUsed c mm.number claims cur (unmarked cur b)) (sym is.numbers)
            (keeps_freed files_now files_now cur claims mid mm.number b fits_now then_now.then));
        table = subst (λ (r : Progress (Unit {0})). KeepsTable s.table (table_of_trunc s.table k m r) p gs gs now) (sym f.moved)
            (subst (λ (x : Image). KeepsTable s.table s.table p gs gs x) (sym shown) (record {
              table = kept_by_image s.table gs cur (unmarked cur b) (of.looking disk s p k m is well stood).table (used_still 0);
              others = λ q j i other locks. record { number = λ e. refl; holder = refl; copy = refl };
            }));
        on = λ moved. goes_so (unmarked cur b) (with_kept u) shown (to_kept u f.to) (record {
          same = f.same;
          slot = f.slot;
          given = f.given;
          keeps = f.keeps;
          less = less_then;
          logged = subst (λ (l : LogState). HasLogged l p mm.bitmap) (sym writes.log) (logged_noted s.volume.log p mm.bitmap logs logged);
          fits = λ new claimed files fits. (f.event files fits new claimed).then.fits;
        });
        over = λ over. absurd (cc (sym f.moved ∙ over));
        rests = λ over. absurd (cc (sym f.moved ∙ over));
      }

    -- an image without a block's bit has the same data
    module _ (b : ℕ) where
      agreeing : AgreesAtData (test cur (bits cur b map) map) cur (unmarked cur b)
      agreeing = agrees cur (bits cur b map) map

      same_data : (c : ℕ) → LiesInData cur c → block_at (unmarked cur b) c ≡ block_at cur c
      same_data c lies = agreeing.agree c (agreeing.from_data c lies.0)

      form_then : form_of (unmarked cur b) ≡ form_of cur
      form_then = form_agree (test cur (bits cur b map) map) cur (unmarked cur b) agreeing.agree agreeing.one

      root_same : (h : IsInHand cur mm) → block_at (unmarked cur b) (root_of mm) ≡ block_at cur (root_of mm)
      root_same h = same_data (root_of mm) (of.root_marked disk s p k m is well stood h).0

      hand_then : (h : IsInHand cur mm) → IsInHand (unmarked cur b) mm
      hand_then h = in_hand_kept cur (unmarked cur b) mm form_then (λ e upper. root_same h) h

      hand_same : (h : IsInHand cur mm) → hand_in (unmarked cur b) mm ≡ hand_in cur mm
      hand_same h = hand_kept cur (unmarked cur b) mm form_then (λ e upper. root_same h)

      depth_then : depth_of (unmarked cur b) mm.slot ≡ depth_of cur mm.slot
      depth_then = ap (λ (f : Form). get_or (depths f) mm.slot 0) form_then

    -- an address of the inode is given up: of a data block, or of a block of addresses
    module _ (b : ℕ) (before : AreGivenUp mm mm.slot) where
      abbrev behind_address : Itrunc
      behind_address = address_left mm

      address_comes : (let w : Itrunc = record mm { inode = inode_without mm.inode mm.slot } in ComesTo (unmarked cur b) w behind_address (0 ∷ []) None None 0)
      address_comes = address_left_comes (unmarked cur b) mm (work.form ∙ sym (form_then b)) (of.long disk s p k m is well stood) work.slot before

      address_claim : held_of behind_address ≡ (let h : Held = record (without_address (held_of mm) mm.slot) { cursor = (held_of behind_address).cursor } in h)
      address_claim = ap held_of address_comes.same

      begins : (held_of behind_address).cursor ≡ 0 ∷ []
      begins = address_cursor (record mm { inode = inode_without mm.inode mm.slot }) (mm.slot + 1)

      address_same : behind_address ≡ (let o : Itrunc = behind_address in record mm { inode = o.inode; slot = o.slot; upper = o.upper; given_up = o.given_up; at = o.at })
      address_same = address_comes.same ∙ ap (λ (d : Dinode). record mm { inode = d; slot = behind_address.slot; upper = behind_address.upper; given_up = behind_address.given_up; at = behind_address.at })
          (sym (ap (λ (o : Itrunc). o.inode) address_comes.same))

    direct_freed : mm.at ≡ TruncAt.Direct → IsAtDirect mm → Keeps cur m.kept mm TruncAt.Direct → Frees (root_of mm) (address_left mm)
    direct_freed at given keeps = record {
      moved = answer_at TruncAt.Direct at;
      to = machine_at TruncAt.Direct at;
      lies = (of.direct_marked disk s p k m is well stood given).0;
      event = λ files fits new claimed. subst (λ (t : Held). IsGivenUp files cur claims mm.number (root_of mm) (held_of mm) t new) (sym claim)
          (direct_given_up files cur claims new mm.number mm.slot (held_of mm) (held_in files fits) (subst (λ (f : Form). mm.slot < direct_count f) work.form given.direct) given.there
          (subst (λ (t : Held). IsClaimedNow claims mm.number (Some (frees t)) new) claim claimed));
      same = address_same (root_of mm) given.before;
      slot = comes.slot;
      given = comes.given;
      keeps = comes.keeps n.kept (subst (λ (o : Kept). block_of_got o.inner ≡ None) (sym (kept_at TruncAt.Direct at)) keeps.inner) (subst (λ (o : Kept). block_of_got o.outer ≡ None) (sym (kept_at TruncAt.Direct at)) keeps.outer);
      made = subst (λ (a : TruncAt). made_so_far mm.upper m.used a < made_so_far (address_left mm).upper None (address_left mm).at + 4) (sym at) (omega (arith, comes.made, few_for m.used));
    }
      where
        comes : (let w : Itrunc = record mm { inode = inode_without mm.inode mm.slot } in ComesTo (unmarked cur (root_of mm)) w (address_left mm) (0 ∷ []) None None 0)
        comes = address_comes (root_of mm) given.before

        cursor : (held_of mm).cursor ≡ 0 ∷ []
        cursor = ap (λ (o : Option ℕ). listed o ++ mm.given_up ∷ []) given.upper ∙ ap (λ (g : ℕ). g ∷ []) given.given_up

        claim : held_of (address_left mm) ≡ without_address (held_of mm) mm.slot
        claim = address_claim (root_of mm) given.before ∙ ap (λ (l : List ℕ). let h : Held = record (without_address (held_of mm) mm.slot) { cursor = l } in h) (begins (root_of mm) given.before ∙ sym cursor)

    -- an entry of the block in hand is
    module _ (at : mm.at ≡ TruncAt.Entry) (given : IsAtEntry cur mm) (keeps : Keeps cur m.kept mm TruncAt.Entry) where
      abbrev freed : ℕ
      freed = entry_of cur (hand_in cur mm) mm.given_up

      abbrev own_entries : List ℕ
      own_entries = words_of (block_at cur (hand_in cur mm))

      abbrev behind : Itrunc
      behind = at_entries mm own_entries (mm.given_up + 1)

      entries_are : entries ≡ own_entries
      entries_are = of.kept_words disk s p k m is well stood g (hand_in cur mm) keeps.inner

      within : mm.given_up + 1 ≤ 256
      within = let low = given.within in omega (arith, low)

      entry_comes : ComesTo cur mm behind (way_of mm ++ (mm.given_up + 1) ∷ []) (Some (hand_in cur mm)) (above_hand mm) (1 + one_for mm.upper)
      entry_comes = entries_come cur mm given.hand own_entries (mm.given_up + 1) within given.names_data refl

      comes_then : ComesTo (unmarked cur freed) mm behind (way_of mm ++ (mm.given_up + 1) ∷ []) (Some (hand_in (unmarked cur freed) mm)) (above_hand mm) (1 + one_for mm.upper)
      comes_then = entries_come (unmarked cur freed) mm (hand_then freed given.hand) own_entries (mm.given_up + 1) within (depth_then freed ∙ given.names_data)
          (ap words_of (sym (ap (block_at (unmarked cur freed)) (hand_same freed given.hand) ∙ same_data freed (hand_in cur mm) (of.hand_marked disk s p k m is well stood given.hand).0)))

      entry_claim : held_of behind ≡ (let h : Held = record (held_of mm) { cursor = (held_of behind).cursor } in h)
      entry_claim = ap held_of entry_comes.same

      entry_gives : Gives cur (depth_of cur mm.slot) (held_of mm).cursor (root_of mm) freed (way_of mm ++ (mm.given_up + 1) ∷ [])
      entry_gives =
          let next : suc mm.given_up ≡ mm.given_up + 1 = omega arith in
          let deep = given.names_data in
          subst (λ (e : ℕ). Gives cur (depth_of cur mm.slot) (held_of mm).cursor (root_of mm) freed (way_of mm ++ e ∷ [])) next
          (gives_on_way cur (way_of mm) (depth_of cur mm.slot) 0 (root_of mm) (hand_in cur mm) mm.given_up freed [] (omega (arith, deep)) refl given.hand.there (rw (ne_eqb freed 0 given.there) refl))

      entry_freed : Frees freed behind
      entry_freed = record {
        moved = answer_at TruncAt.Entry at;
        to = machine_at TruncAt.Entry at ∙ ap (λ (l : List ℕ). at_entries mm l (mm.given_up + 1)) entries_are;
        lies = (of.entry_marked disk s p k m is well stood given).0;
        event = λ files fits new claimed. subst (λ (t : Held). IsGivenUp files cur claims mm.number freed (held_of mm) t new) (sym entry_claim)
            (block_given_up files cur claims new mm.number mm.slot freed (way_of mm ++ (mm.given_up + 1) ∷ []) (held_of behind).cursor (held_of mm) (held_in files fits) (first_tree cur mm given.hand) entry_gives entry_comes.alike
            (subst (λ (t : Held). IsClaimedNow claims mm.number (Some (frees t)) new) entry_claim claimed));
        same = entry_comes.same ∙ ap (λ (d : Dinode). record mm { inode = d; slot = behind.slot; upper = behind.upper; given_up = behind.given_up; at = behind.at }) (sym (ap (λ (o : Itrunc). o.inode) entry_comes.same));
        slot = entry_comes.slot;
        given = comes_then.given;
        keeps = comes_then.keeps n.kept
            (subst (λ (o : Kept). block_of_got o.inner ≡ Some (hand_in (unmarked cur freed) mm)) (sym (kept_at TruncAt.Entry at)) (keeps.inner ∙ ap Some (sym (hand_same freed given.hand))))
            (subst (λ (o : Kept). block_of_got o.outer ≡ above_hand mm) (sym (kept_at TruncAt.Entry at)) keeps.outer);
        made = subst (λ (a : TruncAt). made_so_far mm.upper m.used a < made_so_far behind.upper None behind.at + 4) (sym at) (omega (arith, entry_comes.made, few_for m.used));
      }

    -- the block in hand is, which the inode names
    module _ (at : mm.at ≡ TruncAt.Freeing) (hand : IsInHand cur mm) (all : mm.given_up ≡ 256) (keeps : Keeps cur m.kept mm TruncAt.Freeing) where
      abbrev block : ℕ
      block = hand_in cur mm

      tree_freed : mm.upper ≡ None → Frees block (address_left mm)
      tree_freed upper = record {
        moved = answer_at TruncAt.Freeing at;
        to = machine_at TruncAt.Freeing at ∙ ap (λ (o : Option ℕ). left_by o mm entries) upper;
        lies = (of.hand_marked disk s p k m is well stood hand).0;
        event = λ files fits new claimed. subst (λ (c : ℕ). IsGivenUp files cur claims mm.number c (held_of mm) (held_of (address_left mm)) new) (sym own)
            (subst (λ (t : Held). IsGivenUp files cur claims mm.number (root_of mm) (held_of mm) t new) (sym (address_claim block hand.before))
            (tree_given_up files cur claims new mm.number mm.slot (held_of (address_left mm)).cursor (held_of mm) (held_in files fits) (first_tree cur mm hand)
            (subst (λ (l : List ℕ). left_under cur (depth_of cur mm.slot) l (root_of mm) ≡ root_of mm ∷ []) (sym cursor)
            (first_alone files cur claims mm.number mm.slot 256 [] (held_of mm) (held_in files fits) (first_tree cur mm hand) (omega arith)))
            (subst (λ (l : List ℕ). LeavesAlike cur (without_address (held_of mm) mm.slot).copy l []) (sym (begins block hand.before)) (begun_left cur (without_address (held_of mm) mm.slot).copy))
            (subst (λ (t : Held). IsClaimedNow claims mm.number (Some (frees t)) new) (address_claim block hand.before) claimed)));
        same = address_same block hand.before;
        slot = comes.slot;
        given = comes.given;
        keeps = comes.keeps n.kept
            (subst (λ (o : Kept). block_of_got o.inner ≡ None) (sym (kept_at TruncAt.Freeing at)) (keeps.inner ∙ ap (λ (o : Option ℕ). above_by o (root_of mm)) upper))
            (subst (λ (o : Kept). block_of_got o.outer ≡ None) (sym (kept_at TruncAt.Freeing at)) keeps.outer);
        made = subst (λ (a : TruncAt). made_so_far mm.upper m.used a < made_so_far (address_left mm).upper None (address_left mm).at + 4) (sym at)
            (let none = ap one_for upper in omega (arith, comes.made, few_for m.used, none));
      }
        where
          comes : (let w : Itrunc = record mm { inode = inode_without mm.inode mm.slot } in ComesTo (unmarked cur block) w (address_left mm) (0 ∷ []) None None 0)
          comes = address_comes block hand.before

          own : block ≡ root_of mm
          own = ap (λ (o : Option ℕ). led_to cur (listed o) (root_of mm)) upper

          cursor : (held_of mm).cursor ≡ 256 ∷ []
          cursor = ap (λ (o : Option ℕ). listed o ++ mm.given_up ∷ []) upper ∙ ap (λ (g : ℕ). g ∷ []) all

      -- or an entry of the doubly indirect block
      module _ (e : ℕ) (upper : mm.upper ≡ Some e) where
        abbrev above : List ℕ
        above = words_of (block_at cur (root_of mm))

        abbrev behind_second : Itrunc
        behind_second = at_branches mm above (e + 1)

        within_above : e + 1 ≤ 256
        within_above = let low : e < 256 = subst (λ (o : Option ℕ). IsBelow o 256) upper (of.upper_within disk s p k m is well stood hand) in omega (arith, low)

        two : depth_of cur mm.slot ≡ 2
        two = two_deep cur mm hand work.form e upper

        kept_root : block_of_got m.kept.inner ≡ Some (root_of mm)
        kept_root = keeps.inner ∙ ap (λ (o : Option ℕ). above_by o (root_of mm)) upper

        second_comes : ComesTo cur mm behind_second ((e + 1) ∷ []) (Some (root_of mm)) None 1
        second_comes = branches_come cur mm hand above (e + 1) within_above two refl

        second_then : ComesTo (unmarked cur block) mm behind_second ((e + 1) ∷ []) (Some (root_of mm)) None 1
        second_then = branches_come (unmarked cur block) mm (hand_then block hand) above (e + 1) within_above (depth_then block ∙ two) (ap words_of (sym (root_same block hand)))

        second_claim : held_of behind_second ≡ (let h : Held = record (held_of mm) { cursor = (held_of behind_second).cursor } in h)
        second_claim = ap held_of second_comes.same

        second_is : block ≡ entry_of cur (root_of mm) e
        second_is = ap (λ (o : Option ℕ). led_to cur (listed o) (root_of mm)) upper ∙ rw (ne_eqb (root_of mm) 0 (root_there cur mm hand)) refl

        cursor_is : (held_of mm).cursor ≡ e ∷ 256 ∷ []
        cursor_is = ap (λ (o : Option ℕ). listed o ++ mm.given_up ∷ []) upper ∙ ap (λ (g : ℕ). e ∷ g ∷ []) all

        -- nothing is left under it but itself
        second_alone : left_under cur 1 (256 ∷ []) (entry_of cur (root_of mm) e) ≡ block ∷ []
        second_alone =
            let few = of.words disk s p k m is well stood block (of.hand_marked disk s p k m is well stood hand).0 in
            subst (λ (a : ℕ). left_under cur 1 (256 ∷ []) a ≡ block ∷ []) second_is (alone cur 0 256 block [] hand.there (omega (arith, few)))

        second_gives : Gives cur (depth_of cur mm.slot) (held_of mm).cursor (root_of mm) block ((e + 1) ∷ [])
        second_gives =
            let next : suc e ≡ e + 1 = omega arith in
            subst (λ (l : List ℕ). Gives cur (depth_of cur mm.slot) l (root_of mm) block ((e + 1) ∷ [])) (sym cursor_is)
            (subst (λ (f : ℕ). Gives cur (depth_of cur mm.slot) (e ∷ 256 ∷ []) (root_of mm) block (f ∷ [])) next
            (gives_on_way cur [] (depth_of cur mm.slot) 1 (root_of mm) (root_of mm) e block (256 ∷ []) two refl (root_there cur mm hand) second_alone))

        second_freed : Frees block behind_second
        second_freed = record {
          moved = answer_at TruncAt.Freeing at;
          to = machine_at TruncAt.Freeing at ∙ ap (λ (o : Option ℕ). left_by o mm entries) upper
              ∙ ap (λ (l : List ℕ). at_branches mm l (e + 1)) (of.kept_words disk s p k m is well stood g (root_of mm) kept_root);
          lies = (of.hand_marked disk s p k m is well stood hand).0;
          event = λ files fits new claimed. subst (λ (t : Held). IsGivenUp files cur claims mm.number block (held_of mm) t new) (sym second_claim)
              (block_given_up files cur claims new mm.number mm.slot block ((e + 1) ∷ []) (held_of behind_second).cursor (held_of mm) (held_in files fits) (first_tree cur mm hand) second_gives second_comes.alike
              (subst (λ (t : Held). IsClaimedNow claims mm.number (Some (frees t)) new) second_claim claimed));
          same = second_comes.same ∙ ap (λ (d : Dinode). record mm { inode = d; slot = behind_second.slot; upper = behind_second.upper; given_up = behind_second.given_up; at = behind_second.at })
              (sym (ap (λ (o : Itrunc). o.inode) second_comes.same));
          slot = second_comes.slot;
          given = second_then.given;
          keeps = second_then.keeps n.kept
              (subst (λ (o : Kept). block_of_got o.inner ≡ Some (root_of mm)) (sym (kept_at TruncAt.Freeing at)) kept_root)
              (subst (λ (o : Kept). block_of_got o.outer ≡ None) (sym (kept_at TruncAt.Freeing at)) keeps.outer);
          made = subst (λ (a : TruncAt). made_so_far mm.upper m.used a < made_so_far behind_second.upper None behind_second.at + 4) (sym at)
              (let one = ap one_for upper in omega (arith, second_comes.made, few_for m.used, one));
        }

    -- ---- the block of addresses is given back

    releases_makes : mm.at ≡ TruncAt.Unloading → HasGivenUp cur mm TruncAt.Unloading → Keeps cur m.kept mm TruncAt.Unloading → Makes
    releases_makes at given keeps = still_makes does.current (λ over. cc (sym (answer_at TruncAt.Unloading at) ∙ over)) (λ moved. goes_so cur (with_kept freed) does.current (to_kept freed to) (record {
      same = refl;
      slot = work.slot;
      given = (record { tree = given.0.tree; slot = given.0.slot; before = given.0.before; there = given.0.there; level = given.0.level }, given.1);
      keeps = subst (λ (o : Kept). Keeps cur o freed TruncAt.Freeing) (sym (kept_at TruncAt.Unloading at)) (record { inner = keeps.outer; outer = refl });
      less = subst (λ (a : TruncAt). 4 * blocks + stage_left mm.upper None TruncAt.Freeing < 4 * blocks + stage_left mm.upper m.used a) (sym at) (omega (arith, few_for mm.upper));
      logged = subst (λ (l : LogState). HasLogged l p mm.bitmap) (sym (ap (λ (v : VolumeState D). v.log) does.volume)) logged;
      fits = λ new claimed files fits. fits_still files cur claims new mm.number (held_of mm) (held_in files fits) claimed;
    }))
      where
        does : Releases disk.image s.volume p g.slot w
        does = changes_at TruncAt.Unloading at

        freed : Itrunc
        freed = record mm { at = TruncAt.Freeing }

        blocks : ℕ
        blocks = blocks_left cur (held_of mm)

        to : n.machine ≡ freed
        to = machine_at TruncAt.Unloading at

    -- ---- the inode is written back

    -- the inode of a removed file is free, and its place has no copy; another's is what was written
    copy_left : (removes : Bool) → mm.removes ≡ removes → inode_of (with_inode cur mm.number (last_inode (held_of mm))) mm.number ≡ last_inode (held_of mm)
        → IsCopy (with_inode cur mm.number (last_inode (held_of mm))) mm.number (cond removes None (Some (last_inode_of mm)))
    copy_left true is_removed written d has = absurd (cc has)
    copy_left false stays written d has =
        let same : last_inode_of mm ≡ d = cc has in (
          written ∙ same,
          λ free. (of.is_held disk s p k m is well stood).used (sym (ap (λ (t : Bool). cond t 0 mm.inode.kind) stays) ∙ ap (λ (e : Dinode). e.kind) same ∙ free),
        )

    writes_makes : mm.at ≡ TruncAt.Updating → HasGivenUp cur mm TruncAt.Updating → Keeps cur m.kept mm TruncAt.Updating → Makes
    writes_makes at bare keeps = record {
      marks = subst (Marks None cur) (sym shown) (write_back_keeps files_now cur claims mm.number (held_of mm) (held_in files_now fits_now));
      keeps = subst (KeepsUsed count mm.number claims cur) (sym shown) written_keeps;
      table = subst (λ (r : Progress (Unit {0})). KeepsTable s.table (table_of_trunc s.table k m r) p gs gs now) (sym over)
          (subst (λ (x : Image). KeepsTable s.table (renewed s.table k (inode_left mm)) p gs gs x) (sym shown)
          (kept_by_renew s.table gs cur written p k mm.number (inode_left mm) (of.looking disk s p k m is well stood).table (of.has disk s p k m is well stood)
          written_keeps.inodes (copy_left mm.removes refl own_written)));
      on = λ moved. absurd (cc (sym over ∙ moved));
      over = λ ends. (
        record {
          inner = subst (λ (o : Kept). block_of_got o.inner ≡ None) (sym (kept_at TruncAt.Updating at)) keeps.inner;
          outer = subst (λ (o : Kept). block_of_got o.outer ≡ None) (sym (kept_at TruncAt.Updating at)) keeps.outer;
          now = ap (λ (o : Itrunc). now_by n o.at) (machine_at TruncAt.Updating at) ∙ ap (now_by n) at ∙ ap (got_in (inode_block n.machine.number)) used_none;
        },
        subst (λ (a : TruncAt). 1 ≤ 4 * blocks_left cur (held_of mm) + stage_left mm.upper m.used a) (sym at) (omega (arith, few_for m.used)),
      );
      rests = λ ends new claimed files fits. subst (λ (x : Image). FitsHeld files x new) (sym shown) (write_back_rests files cur claims new mm.number (held_of mm) (held_in files fits) bare claimed).fits;
    }
      where
        written : Image
        written = with_inode cur mm.number (last_inode (held_of mm))

        over : q ≡ Progress.Over tt
        over = answer_at TruncAt.Updating at

        shown : now ≡ written
        shown = (changes_at TruncAt.Updating at).current

        written_keeps : KeepsUsed count mm.number claims cur written
        written_keeps = subst (λ (c : ℕ). KeepsUsed c mm.number claims cur written) (sym is.numbers)
            (keeps_written files_now cur claims (with_claim claims mm.number None) mm.number (held_of mm) (held_in files_now fits_now) bare (with_claim_is claims mm.number None))

        own_written : inode_of written mm.number ≡ last_inode (held_of mm)
        own_written =
            let a = of.inode_apart disk s p k m is well stood in
            inode_of-with_inode cur mm.number (last_inode (held_of mm)) (record { within = a.within; full = fits_now.full (inode_block mm.number) a.behind a.within })
            (last_fields (held_of mm) cur mm.number (file_in files_now mm.number) (of.is_held disk s p k m is well stood))

    uses_makes : (a : TruncAt) → mm.at ≡ a → HasGivenUp cur mm a → Keeps cur m.kept mm a → now_by m a ≡ Some g → Makes
    uses_makes TruncAt.Direct at given keeps got = frees_makes (root_of mm) (address_left mm) (direct_freed at given keeps) (changes_at TruncAt.Direct at)
    uses_makes (TruncAt.Loading b) at given keeps got = absurd (cc got)
    uses_makes TruncAt.Entry at given keeps got =
        frees_makes (entry_of cur (hand_in cur mm) mm.given_up) (at_entries mm (words_of (block_at cur (hand_in cur mm))) (mm.given_up + 1)) (entry_freed at given keeps)
        (subst (λ (l : List ℕ). Changes disk s.volume p g.slot mm.bitmap (image_by cur mm l TruncAt.Entry) w) (entries_are at given keeps) (changes_at TruncAt.Entry at))
    uses_makes TruncAt.Unloading at given keeps got = releases_makes at given keeps
    uses_makes TruncAt.Freeing at given keeps got = by_upper mm.upper refl
      where
        writes : WritesBlock disk s.volume p g.slot mm.bitmap (with_freed cur mm.bitmap (hand_in cur mm)) w
        writes = subst (λ (c : ℕ). WritesBlock disk s.volume p g.slot mm.bitmap (with_freed cur mm.bitmap c) w) (of.hand_is disk s p k m is well stood g given.0 keeps) (changes_at TruncAt.Freeing at)

        by_upper : (o : Option ℕ) → mm.upper ≡ o → Makes
        by_upper None upper = frees_makes (hand_in cur mm) (address_left mm) (tree_freed at given.0 given.1 keeps upper) writes
        by_upper (Some e) upper = frees_makes (hand_in cur mm) (at_branches mm (words_of (block_at cur (root_of mm))) (e + 1)) (second_freed at given.0 given.1 keeps e upper) writes
    uses_makes TruncAt.Updating at given keeps got = writes_makes at given keeps

  makes_by : (o : Option Got) → now_of m ≡ o → FreesOn disk o s.volume p m q n w → Makes
  makes_by None none steps = gets_makes mm.at refl work.given work.keeps none steps
  makes_by (Some g) got steps = uses_makes g steps mm.at refl work.given work.keeps got

  -- WHAT A STEP MAKES
  pub makes : FreesOn disk (now_of m) s.volume p m q n w → Makes
  makes steps = makes_by (now_of m) refl steps
