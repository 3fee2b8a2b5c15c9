-- What a step does at a block of addresses: it is got, its entry is looked up, or set.
use Rattle.std.proofs.Common.{◌≡◌, ◌≢◌, ℕ, ◌+◌, ◌<◌, Bool, true, false, cond, eqb, List, append_assoc, refl, sym, ◌∙◌, ap, subst, arith, Option, Some, None, [], ◌∷◌, ◌++◌}
use Rattle.std.specs.Prelude.{slice_index}
use Rattle.std.specs.List.{AllByRecursion}
use Rattle.inodes.specs.Common.{at_hand, block_at, block_of_write, Branch, branch_of, Claims, counted, data_keeps, depth_of, Dinode, entries_way_to, entry_placed, entry_under, eqb-false, eqb-true, Files, FindsEntry, first_alloc, first_branch, FitsHeld, FitsThen, GetsFor, GetsLock, Ghosts, grows, Growth, growth_of, HasComeTo, Image, is_branch, IsBranchOf, IsClaimedNow, KeepsBehind, kept_by_write, last_branch, LeadsToNone, led_behind, led_further, lies_behind, lies_last, lies_next, lies_none, lies_short, LiesInData, LiesOnWay, LogState, MapAt, MapsOn, MapState, named_by, ne_eqb, next_block, Node, node_at, noted, one_more, Progress, reach, rest_under, routes_of, SetsEntry, some_address, Stage, StoreState, taken_by, TaskState, used_by_write, VolumeState, way_to, with_entry, with_entry_under, write_mapped, WriteAt, WriteState, zero_block}
use Rattle.model.specs.Lemmas.Counts.{AllByRecursion-parts}
use Rattle.in_flight.specs.Lemmas.PlacedInTrees.{IsPlaced, entries_kept, entry_now}
use Rattle.inodes.proofs.MoreGets.{gets_more, got_moves}
use Rattle.inodes.proofs.Standing.{StandsAt}
use Rattle.inodes.proofs.TruncSlots.{Slots, slots_kept, slots_left, slots_none}
use Rattle.inodes.proofs.WriteLogged.{KeepsWays, counts_on, new_gains, node_gains, on_routes}
use Rattle.inodes.proofs.WriteMoves.{DoesSo, GoesOn, does_get, does_nothing, does_put, does_release}
use Rattle.inodes.proofs.Routes.{IsRouteIn, route}
use Rattle.inodes.proofs.Writing as of
use Rattle.inodes.proofs.WriteAny.{at_way, down, ended, found, slots_any, some_found, some_none, some_way}
use Rattle.inodes.proofs.WriteAny as on

-- in a store whose process p writes a file's bytes
module _ {D N : Type 0} {disk : Ghosts D N} {s : StoreState D} {p k : ℕ} {m : WriteState} (h : StandsAt disk s p (Stage.Writing k m)) where
  module _ (n : WriteState) (w : VolumeState D) (ts : List TaskState) where
    -- ---- a block of addresses

    module _ (way : MapState) (c : Node) (q : Progress (Unit {0})) (maps : MapsOn disk s.volume p m way q n w) where
      abbrev entering : Option ℕ → WriteState
      entering o = record m { at = at_way way (MapAt.Entry c o) }

      -- it is got
      pub does_entry : m.at ≡ at_way way (MapAt.Entry c None) → HasComeTo (of.cur h) m (at_way way (MapAt.Entry c None))
          → (slot : Option ℕ) → GetsFor disk s.volume p c.block maps.answer slot w → maps.now ≡ record way { at = MapAt.Entry c slot } → maps.inode ≡ m.inode → DoesSo h n w ts q
      does_entry at come slot gets now_is inode_is =
          does_get h n w ts q c.block slot (gets_more maps.gives gets) (ap block_of_write at) (ap used_by_write at) (λ j kept. absurd (let e : None ≡ Some j = sym (ap kept_by_write at) ∙ kept in cc e)) got
        where
          next_is : n ≡ write_mapped m (record way { at = MapAt.Entry c slot }) m.inode maps.answer
          next_is = maps.next ∙ ap (λ (o : MapState). write_mapped m o maps.inode maps.answer) now_is ∙ ap (λ (d : Dinode). write_mapped m (record way { at = MapAt.Entry c slot }) d maps.answer) inode_is

          got : (i : ℕ) → slot ≡ Some i → q ≡ Progress.Moved → GetsLock s.volume.buffers w.buffers p c.block i → GoesOn h n w ts (of.cur h)
          got i at_slot moved locks = subst (λ (o : WriteState). GoesOn h o w ts (of.cur h)) (sym (next_is ∙ ap (write_mapped m (record way { at = MapAt.Entry c slot }) m.inode) (got_moves gets i at_slot) ∙ ap entering at_slot))
              (on.goes_still h n w ts (at_way way (MapAt.Entry c None)) (at_way way (MapAt.Entry c (Some i))) at refl gets.reads.log
              (slots_kept s.volume.buffers w.buffers p c.block c.block c.block i c.block (on.slots_of h (at_way way (MapAt.Entry c None)) at) locks) (omega arith)
              (come.0, on.maps_at (of.cur h) (of.cur h) m m.inode way (MapAt.Entry c None) (MapAt.Entry c (Some i)) come.1 come.1.at) (omega arith))

      moved_by : (r : Progress (Option ℕ)) → maps.answer ≡ r → one_more r ≡ Progress.Moved → q ≡ Progress.Moved
      moved_by r answer moved = maps.gives ∙ ap one_more answer ∙ moved

      becomes : (r : Progress (Option ℕ)) (now : MapState) → maps.answer ≡ r → maps.now ≡ now → maps.inode ≡ m.inode → n ≡ write_mapped m now m.inode r
      becomes r now answer now_is inode_is = maps.next ∙ ap (λ (o : MapState). write_mapped m o maps.inode maps.answer) now_is ∙ ap (λ (d : Dinode). write_mapped m now d maps.answer) inode_is ∙ ap (write_mapped m now m.inode) answer

      -- a block that its entry names was come to
      abbrev below : ℕ → Node
      below a = node_at c.level (rest_under c) a

      come_moved : (e : Bool) (a : ℕ) → one_more (cond e (Progress.Over (Some a)) Progress.Moved) ≡ Progress.Moved
      come_moved true a = refl
      come_moved false a = refl

      come_next : (e : Bool) (a : ℕ) → write_mapped m (record way { at = cond e way.at (MapAt.Entry (below a) None) }) m.inode (cond e (Progress.Over (Some a)) Progress.Moved) ≡ cond e (found m a) (down m way (below a))
      come_next true a = refl
      come_next false a = refl

      -- its entry is looked up
      module _ (i : ℕ) (at : m.at ≡ at_way way (MapAt.Entry c (Some i))) (come : HasComeTo (of.cur h) m (at_way way (MapAt.Entry c (Some i)))) where
        abbrev was_at : WriteAt
        was_at = at_way way (MapAt.Entry c (Some i))

        abbrev behind : WriteState
        behind = record m { at = at_way way (MapAt.Behind c i (first_alloc way.bitmap way.size)) }

        -- with what it names it goes on
        module _ (a : ℕ) (named : named_by (of.cur h) c ≡ a) (some : a ≢ 0) (leaves : w.log ≡ s.volume.log) (slots : Slots w.buffers p 0 None 0 None) where
          found_on : eqb c.level 0 ≡ true → GoesOn h (found m a) w ts (of.cur h)
          found_on flat = on.goes_still h n w ts was_at (WriteAt.Block a None) at refl leaves (slots_none w.buffers p 0 0 0 a slots) (omega arith)
              (come.0, on.stands_at h (of.cur h) (on.form_here h) way.branch come.1.branch come.0 m.inode (of.long h) ∙ lies_last (of.cur h) m.inode way.branch c come.1.at (eqb-true c.level 0 flat) ∙ named, some) (omega arith)

          down_on : eqb c.level 0 ≡ false → GoesOn h (down m way (below a)) w ts (of.cur h)
          down_on deep =
              let more = eqb-false c.level 0 deep in
              on.goes_still h n w ts was_at (at_way way (MapAt.Entry (below a) None)) at refl leaves (slots_none w.buffers p 0 0 a a slots) (omega arith) (
                come.0,
                on.maps_at (of.cur h) (of.cur h) m m.inode way (MapAt.Entry c (Some i)) (MapAt.Entry (below a) None) come.1
                    (subst (λ (e : ℕ). LiesOnWay (of.cur h) m.inode way.branch (below e)) named (lies_next (of.cur h) m.inode way.branch c come.1.at more (λ none. some (sym named ∙ none)))),
              ) (omega (arith, more))

          on_by : (e : Bool) → eqb c.level 0 ≡ e → GoesOn h (cond e (found m a) (down m way (below a))) w ts (of.cur h)
          on_by true flat = found_on flat
          on_by false deep = down_on deep

        pub does_look : (o : Option ℕ) → some_address (named_by (of.cur h) c) ≡ o → FindsEntry disk o s.volume p c i way maps.answer maps.now w → maps.inode ≡ m.inode → DoesSo h n w ts q
        does_look None none finds inode_is =
            subst (DoesSo h n w ts) (sym (moved_by Progress.Moved finds.0 refl)) (subst (λ (o : WriteState). DoesSo h o w ts Progress.Moved)
            (sym (becomes Progress.Moved (record way { at = MapAt.Behind c i (first_alloc way.bitmap way.size) }) finds.0 finds.1 inode_is))
            (does_nothing h behind w ts finds.2 (on.goes_still h n w ts was_at (at_way way (MapAt.Behind c i (first_alloc way.bitmap way.size))) at refl (ap (λ (v : VolumeState D). v.log) finds.2)
            (subst (λ (v : VolumeState D). Slots v.buffers p c.block (Some i) way.bitmap None) (sym finds.2) (slots_any s.volume.buffers p c.block c.block way.bitmap (Some i) (on.slots_of h was_at at))) (omega arith) (
              come.0,
              on.maps_at (of.cur h) (of.cur h) m m.inode way (MapAt.Entry c (Some i)) (MapAt.Behind c i (first_alloc way.bitmap way.size)) come.1
                  ((come.1.at, some_none (named_by (of.cur h) c) none), record { bitmap = come.1.bitmap; size = come.1.size }),
            ) (omega arith))))
        does_look (Some a) found_it finds inode_is =
            let there = some_found (named_by (of.cur h) c) a found_it in
            let e = eqb c.level 0 in
            subst (DoesSo h n w ts) (sym (moved_by (cond e (Progress.Over (Some a)) Progress.Moved) finds.0.0 (come_moved e a))) (subst (λ (o : WriteState). DoesSo h o w ts Progress.Moved)
            (sym (becomes (cond e (Progress.Over (Some a)) Progress.Moved) (record way { at = cond e way.at (MapAt.Entry (below a) None) }) finds.0.0 finds.0.1 inode_is ∙ come_next e a))
            (does_release h (cond e (found m a) (down m way (below a))) w ts i finds.1
            (on_by a there.0 there.1 (ap (λ (v : VolumeState D). v.log) finds.1.volume)
            (slots_left s.volume.buffers w.buffers p c.block c.block i 0 0 (on.slots_of h was_at at) finds.1.locks) e refl)))

      -- its entry is set
      module _ (i : ℕ) (o : Option ℕ) (at : m.at ≡ at_way way (MapAt.Setting c i o)) (come : HasComeTo (of.cur h) m (at_way way (MapAt.Setting c i o))) where
        abbrev set_at : WriteAt
        set_at = at_way way (MapAt.Setting c i o)

        on_way : LiesOnWay (of.cur h) m.inode way.branch c
        on_way = come.1.at.0.0

        none_yet : named_by (of.cur h) c ≡ 0
        none_yet = come.1.at.0.1

        own_named : of.Named h c.block
        own_named = of.node_named h way.branch c come.1.branch on_way

        own_lies : LiesInData (of.cur h) c.block
        own_lies = (of.named_marked h c.block own_named).0

        its_branch : IsBranchOf (of.cur h) (next_block m) way.branch
        its_branch = on.stands_at h (of.cur h) (on.form_here h) way.branch come.1.branch come.0

        -- the entries that lead to it are those of blocks of addresses
        entries : AllByRecursion (λ (f : ℕ). f < 256) (on_way.before ++ entry_under c ∷ way_to c.level (rest_under c))
        entries = subst (AllByRecursion (λ (f : ℕ). f < 256)) on_way.way
            (entries_way_to way.branch.depth way.branch.rest
            (subst (λ (b : Branch). b.rest < reach b.depth) (sym come.1.branch) (is_branch (next_block m) m.extent.form (of.next_low h come.0)).rest))

        entries_split : AllByRecursion (λ (f : ℕ). f < 256) on_way.before × AllByRecursion (λ (f : ℕ). f < 256) (entry_under c ∷ way_to c.level (rest_under c))
        entries_split = AllByRecursion-parts (λ (f : ℕ). f < 256) on_way.before (entry_under c ∷ way_to c.level (rest_under c)) entries

        deep_enough : depth_of (of.cur h) way.branch.index ≡ way.branch.depth
        deep_enough = subst (λ (b : Branch). depth_of (of.cur h) b.index ≡ b.depth) (sym come.1.branch)
            (of.branch_deep h (next_block m) (of.next_low h come.0))

        -- where a block was taken, the entry names it from now on
        module _ (a : ℕ) (taken : (of.grown h).taken ≡ Some a) (fresh : block_at (of.cur h) a ≡ zero_block) where
          lies : LiesInData (of.cur h) a
          lies = of.taken_lies h a taken

          some : a ≢ 0
          some = on.some_block h a lies

          abbrev y : Image
          y = with_entry_under (of.cur h) c a

          abbrev l : LogState
          l = noted s.volume.log p c.block

          leads : LeadsToNone (of.cur h) m.inode way.branch.index on_way.before c.block (entry_under c) c.level
          leads = record {
            below = lies_short (of.cur h) m.inode way.branch c on_way ∙ sym deep_enough;
            entries = entries_split.0;
            led = on_way.led;
            there = on_way.there;
            entry = entries_split.1.0;
            none = none_yet;
          }

          placed : IsPlaced (of.cur h) c.block (entry_under c) a 0
          placed = record {
            full = of.full_block h c.block own_lies;
            inside = own_lies.1;
            there = on_way.there;
            low = entries_split.1.0;
            none = none_yet;
            small = let low = of.few_blocks h a lies in omega (arith, low);
            fresh = rw (ne_eqb a 0 some) refl;
          }

          entry_is : named_by y c ≡ a
          entry_is = entry_now (of.cur h) c.block (entry_under c) a 0 placed

          entries_stay : (depth b : ℕ) → KeepsBehind (of.cur h) y depth b
          entries_stay depth b v f e short led there entry = entries_kept (of.cur h) c.block (entry_under c) a 0 placed f e entry

          ways_then : KeepsWays (of.cur h) y m m.inode
          ways_then = record {
            first = record { address = λ there. refl; behind = entries_stay (first_branch m).depth (slice_index m.inode.addrs (first_branch m).index) };
            last = record { address = λ there. refl; behind = entries_stay (last_branch m).depth (slice_index m.inode.addrs (last_branch m).index) };
          }

          lies_then : LiesOnWay y m.inode way.branch c
          lies_then = lies_behind (of.cur h) m.inode way.branch c on_way y (entries_stay way.branch.depth (slice_index m.inode.addrs way.branch.index))

          set_event : (n1 : WriteState) → growth_of n1 (of.op h) ≡ record (of.grown h) { taken = None } → (files : Files) → FitsHeld files (of.cur h) (of.claims h) → (new : Claims)
              → IsClaimedNow (of.claims h) m.number (Some (grows (growth_of n1 (of.op h)))) new → FitsThen files (of.cur h) (of.claims h) m.number y new
          set_event n1 same files fits new claimed =
              (entry_placed files (of.cur h) (of.claims h) new m.number way.branch.index c.block (entry_under c) a c.level on_way.before (of.grown h) (of.held_in h files fits) taken leads (λ deep. fresh)
              (subst (λ (g : Growth). IsClaimedNow (of.claims h) m.number (Some (grows g)) new) same claimed)).0

          home : counted l c.block ≡ 1
          home = (on.adds h c.block on_way.there).one

          way_is : way_to (branch_of m.extent.form (next_block m)).depth (branch_of m.extent.form (next_block m)).rest ≡ on_way.before ++ entry_under c ∷ way_to c.level (rest_under c)
          way_is = ap (λ (b : Branch). way_to b.depth b.rest) (sym come.1.branch) ∙ on_way.way

          index_is : way.branch.index ≡ (branch_of m.extent.form (next_block m)).index
          index_is = ap (λ (b : Branch). b.index) come.1.branch

          -- the routes to it, and on by its entry, are among those that may be logged
          its_route : IsRouteIn (route way.branch.index on_way.before) (routes_of m)
          its_route =
              subst (λ (j : ℕ). IsRouteIn (route j on_way.before) (routes_of m)) (sym index_is)
              (on_routes m come.0 (on.few_bytes h) (of.work h).fits on_way.before (entry_under c) (way_to c.level (rest_under c)) way_is)

          found_then : eqb c.level 0 ≡ true → at_hand set_at ≡ a → taken_by set_at ≡ Some a → w.log ≡ l → Slots w.buffers p 0 None 0 None → GoesOn h (found m a) w ts y
          found_then flat hand mine log slots =
              let gains = node_gains (of.cur h) y s.volume.log l (counts_on s.volume.log p c.block) m m.inode ways_then (route way.branch.index on_way.before) its_route c.block on_way.led home in
              record {
                same = refl;
                slots_now = slots_none w.buffers p 0 0 0 a slots;
                logged = on.log_one h set_at at c.block on_way.there y (found m a) 1 (counted s.volume.log c.block)
                    gains
                    (let still = counts_on s.volume.log p c.block a in let here = ap (counted s.volume.log) hand in omega (arith, still, here)) w.log log;
                done = (of.work h).done;
                come = (
                  come.0,
                  on.stands_at h y (on.form_set h c.block (with_entry (block_at (of.cur h) c.block) (entry_under c) a) own_lies) way.branch come.1.branch come.0 m.inode (of.long h)
                      ∙ lies_last y m.inode way.branch c lies_then (eqb-true c.level 0 flat) ∙ entry_is,
                  some,
                );
                less = let was = on.left_of h set_at at in omega (arith, was);
                passes = λ new claimed files fits. (set_event (found m a) refl files fits new claimed).fits;
              }

          down_then : eqb c.level 0 ≡ false → at_hand set_at ≡ a → taken_by set_at ≡ Some a → w.log ≡ l → Slots w.buffers p 0 None 0 None → GoesOn h (down m way (below a)) w ts y
          down_then deep hand mine log slots =
              let more = eqb-false c.level 0 deep in
              let next = some_way c.level (rest_under c) more in
              let address = slice_index m.inode.addrs way.branch.index in
              let further = on_way.before ++ entry_under c ∷ [] in
              let led_then = led_behind (of.cur h) y way.branch.depth on_way.before address c.block (omega (arith, lies_short (of.cur h) m.inode way.branch c on_way)) (entries_stay way.branch.depth address) on_way.led on_way.there in
              let on_its = on_routes m come.0 (on.few_bytes h) (of.work h).fits further next.0 next.1
              (way_is ∙ ap (λ (rest : List ℕ). on_way.before ++ entry_under c ∷ rest) next.2 ∙ sym (append_assoc on_way.before (entry_under c ∷ []) (next.0 ∷ next.1))) in
              let gains = new_gains (of.cur h) y s.volume.log l (counts_on s.volume.log p c.block) m m.inode ways_then (route way.branch.index on_way.before) its_route c.block on_way.led home
              (route way.branch.index further) (subst (λ (j : ℕ). IsRouteIn (route j further) (routes_of m)) (sym index_is) on_its)
              (led_further (of.cur h) on_way.before address (entry_under c) c.block on_way.led on_way.there ∙ none_yet)
              a (led_further y on_way.before address (entry_under c) c.block led_then on_way.there ∙ entry_is) in
              record {
                same = refl;
                slots_now = slots_none w.buffers p 0 0 a a slots;
                logged = on.log_one h set_at at c.block on_way.there y (down m way (below a)) (counted l a + 1) (counted s.volume.log c.block)
                    gains
                    (let still = counts_on s.volume.log p c.block a in let here = ap (counted s.volume.log) hand in omega (arith, still, here)) w.log log;
                done = (of.work h).done;
                come = (
                  come.0,
                  on.maps_at (of.cur h) y m m.inode way (MapAt.Setting c i o) (MapAt.Entry (below a) None) come.1
                      (subst (λ (e : ℕ). LiesOnWay y m.inode way.branch (below e)) entry_is (lies_next y m.inode way.branch c lies_then more (λ none. some (sym entry_is ∙ none)))),
                );
                less = let was = on.left_of h set_at at in omega (arith, was, more);
                passes = λ new claimed files fits. (set_event (down m way (below a)) refl files fits new claimed).fits;
              }

          then_by : (e : Bool) → eqb c.level 0 ≡ e → at_hand set_at ≡ a → taken_by set_at ≡ Some a → w.log ≡ l → Slots w.buffers p 0 None 0 None → GoesOn h (cond e (found m a) (down m way (below a))) w ts y
          then_by true flat hand mine log slots = found_then flat hand mine log slots
          then_by false deep hand mine log slots = down_then deep hand mine log slots

          event_by : (e : Bool) → (files : Files) → FitsHeld files (of.cur h) (of.claims h) → (new : Claims)
              → IsClaimedNow (of.claims h) m.number (Some (grows (growth_of (cond e (found m a) (down m way (below a))) (of.op h)))) new → FitsThen files (of.cur h) (of.claims h) m.number y new
          event_by true = set_event (found m a) refl
          event_by false = set_event (down m way (below a)) refl

      pub does_setting : (i : ℕ) (o : Option ℕ) (at : m.at ≡ at_way way (MapAt.Setting c i o)) → HasComeTo (of.cur h) m (at_way way (MapAt.Setting c i o))
          → SetsEntry disk o s.volume p c i way maps.answer maps.now w → maps.inode ≡ m.inode → DoesSo h n w ts q
      does_setting i None at come sets inode_is =
          subst (DoesSo h n w ts) (sym (moved_by (Progress.Over None) sets.0 refl)) (subst (λ (o : WriteState). DoesSo h o w ts Progress.Moved)
          (sym (becomes (Progress.Over None) way sets.0 sets.1 inode_is))
          (does_release h (ended m) w ts i sets.2
          (on.ends_so h n w ts (at_way way (MapAt.Setting c i None)) 0 0 at refl (omega arith) (omega arith)
          (its_branch i None at come m.inode (of.long h) ∙ lies_none (of.cur h) m.inode way.branch c come.1.at.0.0 come.1.at.0.1)
          (ap (λ (v : VolumeState D). v.log) sets.2.volume)
          (slots_left s.volume.buffers w.buffers p c.block c.block i 0 0 (on.slots_of h (at_way way (MapAt.Setting c i None)) at) sets.2.locks))))
      does_setting i (Some a) at come sets inode_is =
          let e = eqb c.level 0 in
          let taken : (of.grown h).taken ≡ Some a = ap taken_by at in
          let lies = own_lies i (Some a) at come in
          let files = (of.looking h).files in
          subst (DoesSo h n w ts) (sym (moved_by (cond e (Progress.Over (Some a)) Progress.Moved) sets.0.0 (come_moved e a))) (subst (λ (o : WriteState). DoesSo h o w ts Progress.Moved)
          (sym (becomes (cond e (Progress.Over (Some a)) Progress.Moved) (record way { at = cond e way.at (MapAt.Entry (below a) None) }) sets.0.0 sets.0.1 inode_is ∙ come_next e a))
          (does_put h (cond e (found m a) (down m way (below a))) w ts i c.block (with_entry (block_at (of.cur h) c.block) (entry_under c) a) sets.1 (on.behind_map h c.block lies)
          (data_keeps files.0 (of.cur h) (of.claims h) c.block (with_entry (block_at (of.cur h) c.block) (entry_under c) a) files.1 lies)
          (then_by i (Some a) at come a taken come.1.at.1 e refl refl refl sets.1.log
          (slots_left s.volume.buffers w.buffers p c.block c.block i 0 0 (on.slots_of h (at_way way (MapAt.Setting c i (Some a))) at) sets.1.locks))
          (event_by i (Some a) at come a taken come.1.at.1 e)))
