-- What a stop leaves, at each event of a store.
use Rattle.std.proofs.Common.{◌≡◌, ◌≢◌, ◌⊎◌, inl, inr, ⊎_elim, ℕ, ◌+◌, ◌*◌, ◌/◌, ◌<◌, ◌≤◌, Bool, true, false, cond, eqb, ◌||◌, List, [], ◌∷◌, ◌++◌, length, set, Option, Some, None, refl, sym, ap, subst, ◌∙◌, arith}
use Rattle.history.specs.Common.{AreUpTo, AwaitsHeader, cleared, cleared_outside, Commit, Counts, CrashKeeps, DeviceFault, due_labels, Entry, eq-eqb, FailsAt, file_in-files_of_zero, Files, files_of, Follows, form_of, HasFilesAfter, HasMarks, Held, Image, in_reads, inode_count_of, is_changing, is_lawful_log, is_making, is_number, IsEntry, IsLogAt, IsSameOutsideLog, IsSound, IsUntouched, Keeps, KeepsCommitted, KeepsNow, kept, labels_of, length-files_of, logged_count, logged_count-left, LogState, Marks, most_headed, most_kept, most_of, most_synced, ne_eqb, none_cleared, Part, place_at, recovered, recovered_empty, replay, Reply, SameButLog, stepped_at, StoreLaws, super_in, Survives, synced_at, TellsHeader, TellsSynced, TellsWritten, told, VolumeState}
use Rattle.model.specs.Layout.{inode_of}
use Rattle.wal.specs.declared.types.DeviceFault.TheVariants.{Block, Sync}
use Rattle.wal.specs.Floats.{IsUnheaded}
use Rattle.wal.specs.Floats.{Survives as SurvivesAt}
use Rattle.wal.specs.Lemmas.Commits.{empty_lawful, outside_log}
use Rattle.wal.specs.Machine.{is_writing}
use Rattle.history.specs.Lemmas.Elsewhere.{map_alike, map_behind, marks_elsewhere, marks_of, after_elsewhere, unclear, after_none, long_enough}
use Rattle.history.specs.Lemmas.Groups.{open_now, none_waits, reads_quiet}
use Rattle.history.specs.Lemmas.Kept.{kept_still}
use Rattle.history.specs.Lemmas.Making.{makes, makes_more, makes_told, due_kept}
use Rattle.history.specs.Lemmas.Quiet.{NobodyWrites, quiet_replays}
use Rattle.history.specs.Lemmas.Shapes.{kept_told_later, kept_told_still, kept_one_later}

-- marks
pub untouched_same : (x : Image) → IsUntouched x x
untouched_same x = record { boot = refl; super = refl; inode_zero = refl; inodes_past = λ i low high. refl; bits_past = λ b low high. refl }

-- one step after the other
pub untouched_then : (opening x y : Image) → length x ≡ length opening → IsUntouched opening x → IsUntouched x y → IsUntouched opening y
untouched_then opening x y size u v =
    let count : inode_count_of x ≡ inode_count_of opening = ap (λ (b : List ℕ). (super_in b).ninodes) u.super in
    record {
      boot = v.boot ∙ u.boot;
      super = v.super ∙ u.super;
      inode_zero = v.inode_zero ∙ u.inode_zero;
      inodes_past = λ j low high. v.inodes_past j (omega (arith, low, count)) (subst (λ (m : ℕ). j < 16 * (m / 16 + 1)) (sym count) high) ∙ u.inodes_past j low high;
      bits_past = λ b low high. v.bits_past b (omega (arith, low, size)) high ∙ u.bits_past b low high;
    }

making_cases : (b : Bool) → (b ≡ true) ⊎ (b ≡ false)
making_cases true = inl refl
making_cases false = inr refl

-- a step that made what the journal says that it made
pub marks_go : (opening : Image) (es fs : List Entry) (made : Option Reply) (x y : Image) → HasMarks opening es x → Marks made x y → ((i : ℕ) → makes i fs ≡ (is_making i made || makes i es)) → HasMarks opening fs y
marks_go opening es fs made x y h m goes = record {
  size = m.size ∙ h.size;
  untouched = untouched_then opening x y h.size h.untouched m.untouched;
  labels = λ i used number. by_making i used number (making_cases (is_making i made));
}
  where
    here : (i : ℕ) → is_number (inode_count_of opening) i ≡ true → is_number (inode_count_of x) i ≡ true
    here i number = ap (λ (b : List ℕ). is_number (super_in b).ninodes i) h.untouched.super ∙ number

    by_making : (i : ℕ) → (inode_of y i).kind ≢ 0 → is_number (inode_count_of opening) i ≡ true → (is_making i made ≡ true) ⊎ (is_making i made ≡ false) → labels_of y i ≡ due_labels opening fs i
    by_making i used number (inl is) = m.fresh i (here i number) is ∙ sym (ap (λ (b : Bool). cond b (0, 0) (labels_of opening i)) (goes i ∙ ap (λ (b : Bool). b || makes i es) is))
    by_making i used number (inr not) =
        let o = m.others i (here i number) (λ t. let q : true ≡ false = sym t ∙ not in cc q) used in
        o.1 ∙ h.labels i o.0 number ∙ sym (ap (λ (b : Bool). cond b (0, 0) (labels_of opening i)) (goes i ∙ ap (λ (b : Bool). b || makes i es) not))

-- what is kept of the committed groups stays, at a turn and at a reply
pub kept_turned : (n c : ℕ) (es : List Entry) (e : Entry) → (is_changing n e.op ≡ true → c < e.group) → kept n (es ++ e ∷ []) c ≡ kept n es c
kept_turned n c es e later = by_op (is_changing n e.op) refl
  where
    by_op : (b : Bool) → is_changing n e.op ≡ b → kept n (es ++ e ∷ []) c ≡ kept n es c
    by_op true is = kept_one_later n c es e (later is)
    by_op false is = kept_still n c es e is

-- and at a reply
pub kept_told : (n c : ℕ) (es : List Entry) (k : ℕ) (e : Entry) (r : Reply) → IsEntry es k e → (is_changing n e.op ≡ true → c < e.group) → kept n (set es k (told e r)) c ≡ kept n es c
kept_told n c es k e r at later = by_op (is_changing n e.op) refl
  where
    by_op : (b : Bool) → is_changing n e.op ≡ b → kept n (set es k (told e r)) c ≡ kept n es c
    by_op true is = kept_told_later n c es k e r at (later is)
    by_op false is = kept_told_still n c es k e r at is

-- recovery may keep the committed groups, at most or more
least_synced : (p : Part) (c : ℕ) → c ≤ most_synced p c
least_synced Part.Log c = omega arith
least_synced Part.Header c = omega arith
least_synced Part.Homes c = omega arith
least_synced Part.Clear c = omega arith

least_headed : (o : Option DeviceFault) (c : ℕ) → c ≤ most_headed o c
least_headed None c = omega arith
least_headed (Some (Block fault)) c = by_block (eqb fault.0 2)
  where
    by_block : (b : Bool) → c ≤ cond b (c + 1) c
    by_block true = omega arith
    by_block false = omega arith
least_headed (Some (Sync fault)) c = omega arith

pub least_most : (o : Option DeviceFault) (k : Commit) (c : ℕ) → c ≤ most_kept o k c
least_most o Commit.Quiet c = omega arith
least_most o (Commit.Logging j) c = omega arith
least_most o Commit.Heading c = least_headed o c
least_most o (Commit.Homing j) c = omega arith
least_most o Commit.Clearing c = omega arith
least_most o (Commit.Syncing p) c = least_synced p c

-- with a fault no fewer than without
pub most_more : (o : Option DeviceFault) (k : Commit) (c : ℕ) → most_kept None k c ≤ most_kept o k c
most_more o Commit.Quiet c = omega arith
most_more o (Commit.Logging j) c = omega arith
most_more o Commit.Heading c = least_headed o c
most_more o (Commit.Homing j) c = omega arith
most_more o Commit.Clearing c = omega arith
most_more o (Commit.Syncing p) c = omega arith

least_reads : (k : Commit) (c : ℕ) → c ≤ most_kept None k c
least_reads k c = least_most None k c

-- what two logs tell of a disk is the same
pub record SameReads (l m : LogState) : Type 0 where
  pub committed : m.committed ≡ l.committed
  pub reads : in_reads m ≡ in_reads l
  pub waits : AwaitsHeader m → AwaitsHeader l

-- so it is with as many groups committed and the same step of a commit next
pub reads_same : (l m : LogState) → m.committed ≡ l.committed → m.commit ≡ l.commit → SameReads l m
reads_same l m committed commit = record {
  committed = committed;
  reads = ap (λ (k : Commit). most_kept None k m.committed) commit ∙ ap (λ (c : ℕ). most_kept None l.commit c) committed;
  waits = λ w. sym commit ∙ w;
}

-- or where neither log has a header that waits for its sync, and reads give the committed groups alone
pub reads_calm : (l m : LogState) → l.commit ≡ Commit.Quiet → m.committed ≡ l.committed → in_reads m ≡ m.committed → (AwaitsHeader m → ⊥) → SameReads l m
reads_calm l m quiet committed reads calm = record {
  committed = committed;
  reads = reads ∙ committed ∙ sym (reads_quiet l quiet);
  waits = λ w. absurd (calm w);
}

module _ (opening x current : Image) (l : LogState) (es : List Entry) (r : Survives opening x current l es) where
  abbrev n : ℕ
  n = inode_count_of opening

  recovers_by : (now : Image) (m : LogState) (fs : List Entry) (made : Option Reply) → SameReads l m → kept n fs l.committed ≡ kept n es l.committed → kept n fs (in_reads l) ≡ kept n es (in_reads l) → Marks made current now
      → ((i : ℕ) → makes i fs ≡ (is_making i made || makes i es)) → Survives opening x now m fs
  recovers_by now m fs made same kept_same read_same marks goes = record {
    marks = marks_go opening es fs made current now r.marks marks goes;
    lawful = r.lawful;
    committed = subst (λ (k : ℕ). HasFilesAfter opening (kept n fs k) (recovered x)) (sym same.reads) (subst (λ (gs : List Entry). HasFilesAfter opening gs (recovered x)) (sym read_same) r.committed);
    unheaded = λ w. subst (λ (k : ℕ). HasFilesAfter opening (kept n fs k) (cleared x)) (sym same.committed) (subst (λ (gs : List Entry). HasFilesAfter opening gs (cleared x)) (sym kept_same) (r.unheaded (same.waits w)));
  }

  -- a step that makes no entry, and tells none its reply
  pub recovers_moved : (now : Image) (m : LogState) → SameReads l m → Marks None current now → Survives opening x now m es
  recovers_moved now m same marks = recovers_by now m es None same refl refl marks (λ i. refl)

  -- a turn
  pub recovers_turned : (now : Image) (m : LogState) (e : Entry) → SameReads l m → (is_changing n e.op ≡ true → in_reads l < e.group) → Marks e.reply current now → Survives opening x now m (es ++ e ∷ [])
  recovers_turned now m e same later marks = recovers_by now m (es ++ e ∷ []) e.reply same (kept_turned n l.committed es e (λ c. committed_less (later c))) (kept_turned n (in_reads l) es e later) marks (λ i. makes_more i es e)
    where
      committed_less : in_reads l < e.group → l.committed < e.group
      committed_less lt = let low = least_reads l.commit l.committed in omega (arith, lt, low)

  -- a reply
  pub recovers_told : (now : Image) (m : LogState) (k : ℕ) (e : Entry) (t : Reply) → IsEntry es k e → e.reply ≡ None → ((i : ℕ) → is_making i (Some t) ≡ false) → SameReads l m → (is_changing n e.op ≡ true → in_reads l < e.group) → Marks None current now
      → Survives opening x now m (set es k (told e t))
  recovers_told now m k e t at none not same later marks = recovers_by now m (set es k (told e t)) None same (kept_told n l.committed es k e t at (λ c. committed_less (later c))) (kept_told n (in_reads l) es k e t at later) marks (λ i. makes_told i es k e t at none (not i))
    where
      committed_less : in_reads l < e.group → l.committed < e.group
      committed_less lt = let low = least_reads l.commit l.committed in omega (arith, lt, low)

-- where no operation is open in the log, nobody writes
pub nobody_writes : (current : Image) (l : LogState) (holds : ℕ → Option Held) (fit : Files → Type 0) → StoreLaws current l holds fit → IsLogAt l.commit l → l.outstanding ≡ 0 → NobodyWrites holds
nobody_writes current l holds fit s is none q h held = by_writes h.writes refl
  where
    by_writes : (b : Bool) → h.writes ≡ b → b ≡ false
    by_writes false is_it = refl
    by_writes true is_it = let some = open_now l l.commit q is (s.logged q h held is_it) in absurd (omega (arith, none, some))

-- while no changing operation is under way, the current image has the files after all of the journal
pub quiet_files : (opening current : Image) (l : LogState) (holds : ℕ → Option Held) (fit : Files → Type 0) (es : List Entry) → Follows (form_of opening) (files_of opening) holds fit es → AreUpTo l.opened es
    → HasMarks opening es current → StoreLaws current l holds fit → IsLogAt l.commit l → l.outstanding ≡ 0 → HasFilesAfter opening (kept (inode_count_of opening) es l.opened) (cleared current)
quiet_files opening current l holds fit es f all marks store is none =
    let q = store.quiet none f.files f.fits in
    let run : replay (form_of opening) (files_of opening) (kept (inode_count_of opening) es l.opened) ≡ Some f.files
    = ap (λ (k : ℕ). replay (form_of opening) (files_of opening) (kept k es l.opened)) (sym (length-files_of opening))
    ∙ quiet_replays (form_of opening) (files_of opening) holds fit l.opened es f (nobody_writes current l holds fit store is none) (file_in-files_of_zero opening) all in
    let m = marks_elsewhere opening es current (cleared current) (cleared_outside current) (map_alike current (cleared current) (cleared_outside current) (map_behind (cleared current) q.0)) marks in
    record {
      size = m.size;
      sound = q.0;
      files = run ∙ ap (λ (g : Files). Some g) q.1;
      untouched = m.untouched;
      labels = λ i used number. m.labels i used number ∙ sym (due_kept opening f.files l.opened i es all f.run);
    }

-- a disk that was just opened
pub recovers_opened : (opening : Image) (l : LogState) → IsSound opening → is_lawful_log opening ≡ true → logged_count opening ≡ 0 → l.commit ≡ Commit.Quiet → Survives opening opening opening l []
recovers_opened opening l sound lawful empty quiet =
    let h = after_none opening sound in
    record {
      marks = marks_of opening [] opening h;
      lawful = lawful;
      committed = subst (λ (x : Image). HasFilesAfter opening [] x) (sym (recovered_empty opening empty)) h;
      unheaded = λ w. absurd (none_waits l quiet w);
    }

-- what has the files of some groups keeps them
pub keeps_count : (opening : Image) (es : List Entry) (x : Image) (c : ℕ) → is_lawful_log x ≡ true → HasFilesAfter opening (kept (inode_count_of opening) es c) (recovered x) → Keeps opening es x c
keeps_count opening es x c lawful h = record { log = lawful; sound = h.sound; files = h.files; untouched = h.untouched; labels = h.labels }

-- the same either way
either : (b : Bool) (c : ℕ) → c ≡ cond b c c
either true c = refl
either false c = refl

-- what reads give is what a header tells
told_synced : (p : Part) (c : ℕ) (z : Image) → TellsSynced p z → most_synced p c ≡ cond (eqb (logged_count z) 0) c (most_synced p c)
told_synced Part.Log c z tells = either (eqb (logged_count z) 0) c
told_synced Part.Header c z tells = sym (ap (λ (b : Bool). cond b c (c + 1)) (ne_eqb (logged_count z) 0 tells))
told_synced Part.Homes c z tells = either (eqb (logged_count z) 0) c
told_synced Part.Clear c z tells = either (eqb (logged_count z) 0) c

told_reads : (fault : Option DeviceFault) (k : Commit) (c : ℕ) (z : Image) → TellsHeader k z → most_kept None k c ≡ cond (eqb (logged_count z) 0) c (most_kept fault k c)
told_reads fault Commit.Quiet c z tells = either (eqb (logged_count z) 0) c
told_reads fault (Commit.Logging j) c z tells = either (eqb (logged_count z) 0) c
told_reads fault Commit.Heading c z tells = sym (ap (λ (b : Bool). cond b c (most_headed fault c)) (eq-eqb (logged_count z) 0 tells))
told_reads fault (Commit.Homing j) c z tells = either (eqb (logged_count z) 0) c
told_reads fault Commit.Clearing c z tells = either (eqb (logged_count z) 0) c
told_reads fault (Commit.Syncing p) c z tells = told_synced p c z tells

-- what is kept of the images that may be left
module _ (opening x current : Image) (l : LogState) (es : List Entry) (r : Survives opening x current l es) where
  -- as recovery of another image gives it
  alike : (y : Image) (c : ℕ) → SameButLog (recovered x) (recovered y) → HasFilesAfter opening (kept (inode_count_of opening) es c) (recovered x) → HasFilesAfter opening (kept (inode_count_of opening) es c) (recovered y)
  alike y c same h = after_elsewhere opening (kept (inode_count_of opening) es c) (recovered x) (recovered y) same.outside (logged_count-left y) h

  -- without its header, the image has the files of the committed groups
  unheaded_files : (z : Image) → AwaitsHeader l → IsUnheaded x z → HasFilesAfter opening (kept (inode_count_of opening) es l.committed) (recovered z)
  unheaded_files z waits without =
      let outside : IsSameOutsideLog (cleared x) z = record {
        size = without.size ∙ sym (cleared_outside x).size;
        agree = λ b out. without.agree b (λ two. outside_log b 2 out (omega arith) (omega arith) two) ∙ sym ((cleared_outside x).agree b out);
      } in
      subst (λ (y : Image). HasFilesAfter opening (kept (inode_count_of opening) es l.committed) y) (sym (recovered_empty z without.none)) (after_elsewhere opening (kept (inode_count_of opening) es l.committed) (cleared x) z outside without.none (r.unheaded waits))

  -- what is kept of an image, as its header tells
  module _ {D : Type 0} (u : VolumeState D) (committed : u.log.committed ≡ l.committed) (commits : u.log.commit ≡ l.commit) (z : Image) where
    keeps_exactly : (g : ℕ) → Keeps opening es z g → l.committed ≤ g → g ≡ cond (eqb (logged_count z) 0) l.committed (most_kept u.fault l.commit l.committed) → KeepsNow u.log.committed (most_of u) opening es z
    keeps_exactly g keeps low told =
        let most : most_of u ≡ most_kept u.fault l.commit l.committed = ap (λ (k : Commit). most_kept u.fault k u.log.committed) commits ∙ ap (λ (c : ℕ). most_kept u.fault l.commit c) committed in
        let high : g ≤ most_kept u.fault l.commit l.committed = by_header (eqb (logged_count z) 0) told in
        record {
          between = record { groups = g; low = omega (arith, low, committed); high = omega (arith, high, most); keeps = keeps };
          told = told ∙ ap (λ (c : ℕ). cond (eqb (logged_count z) 0) c (most_kept u.fault l.commit l.committed)) (sym committed) ∙ ap (λ (c : ℕ). cond (eqb (logged_count z) 0) u.log.committed c) (sym most);
        }
      where
        by_header : (b : Bool) → g ≡ cond b l.committed (most_kept u.fault l.commit l.committed) → g ≤ most_kept u.fault l.commit l.committed
        by_header true same = let low = least_most u.fault l.commit l.committed in omega (arith, same, low)
        by_header false same = omega (arith, same)

    -- what may be left between any two steps, also after a fault of a read or of a sync
    pub left_keeps : SurvivesAt l.commit x z → KeepsNow u.log.committed (most_of u) opening es z
    left_keeps (inl alike_now) = keeps_exactly (in_reads l) (keeps_count opening es z (in_reads l) alike_now.0.lawful (alike z (in_reads l) alike_now.0.same r.committed)) (least_reads l.commit l.committed) (told_reads u.fault l.commit l.committed z alike_now.1)
    left_keeps (inr without) = keeps_exactly l.committed (keeps_count opening es z l.committed (empty_lawful z without.1.none) (unheaded_files z without.0 without.1)) (omega arith)
        (sym (ap (λ (b : Bool). cond b l.committed (most_kept u.fault l.commit l.committed)) (eq-eqb (logged_count z) 0 without.1.none)))

-- a commit, whose group has its files in the current image
module _ (opening x current : Image) (l : LogState) (es : List Entry) (r : Survives opening x current l es) (now : HasFilesAfter opening (kept (inode_count_of opening) es l.opened) (cleared current)) where
  abbrev entries : ℕ → List Entry
  entries c = kept (inode_count_of opening) es c

  -- a group that logged nothing is committed
  pub closes_empty : (m : LogState) → recovered x ≡ current → m.committed ≡ l.opened → m.commit ≡ Commit.Quiet → Survives opening x current m es
  closes_empty m same committed quiet =
      let empty : logged_count current ≡ 0 = ap logged_count (sym same) ∙ logged_count-left x in
      record {
        marks = r.marks;
        lawful = r.lawful;
        committed = subst (λ (k : ℕ). HasFilesAfter opening (entries k) (recovered x)) (sym (reads_quiet m quiet ∙ committed))
            (subst (λ (z : Image). HasFilesAfter opening (entries l.opened) z) (sym same) (unclear opening (entries l.opened) current empty now));
        unheaded = λ w. absurd (none_waits m quiet w);
      }

  -- what recovery gives after a write that got through
  after_write : (h : Bool) (k : Commit) → k ≡ l.commit → Counts k l → (y : Image) → KeepsCommitted k x current y → HasFilesAfter opening (entries (in_reads (stepped_at h k l))) (recovered y)
  after_write h Commit.Quiet is counts y keeps = alike opening x current l es r y (in_reads l) keeps r.committed
  after_write h (Commit.Logging j) is counts y keeps = by_last (eqb (j + 1) (length l.homes)) h
    where
      before : HasFilesAfter opening (entries l.committed) (recovered y)
      before = alike opening x current l es r y l.committed keeps (subst (λ (k : Commit). HasFilesAfter opening (entries (most_kept None k l.committed)) (recovered x)) (sym is) r.committed)

      by_last : (b h : Bool) → HasFilesAfter opening (entries (most_kept None (cond b (cond h (Commit.Syncing Part.Log) Commit.Heading) (Commit.Logging (j + 1))) l.committed)) (recovered y)
      by_last true true = before
      by_last true false = before
      by_last false h = before
  after_write h Commit.Heading is counts y keeps = by_kind h
    where
      group : HasFilesAfter opening (entries l.opened) (recovered y)
      group = after_elsewhere opening (entries l.opened) (cleared current) (recovered y) keeps.outside (logged_count-left y) now

      by_kind : (h : Bool) → HasFilesAfter opening (entries (most_kept None (cond h (Commit.Syncing Part.Header) (Commit.Homing 0)) (cond h l.committed l.opened))) (recovered y)
      by_kind true = subst (λ (c : ℕ). HasFilesAfter opening (entries c) (recovered y)) (sym counts) group
      by_kind false = group
  after_write h (Commit.Homing j) is counts y keeps = by_last (eqb (j + 1) (length l.homes)) h
    where
      before : HasFilesAfter opening (entries l.committed) (recovered y)
      before = alike opening x current l es r y l.committed keeps (subst (λ (k : Commit). HasFilesAfter opening (entries (most_kept None k l.committed)) (recovered x)) (sym is) r.committed)

      by_last : (b h : Bool) → HasFilesAfter opening (entries (most_kept None (cond b (cond h (Commit.Syncing Part.Homes) Commit.Clearing) (Commit.Homing (j + 1))) l.committed)) (recovered y)
      by_last true true = before
      by_last true false = before
      by_last false h = before
  after_write h Commit.Clearing is counts y keeps = by_kind h
    where
      before : HasFilesAfter opening (entries l.committed) (recovered y)
      before = alike opening x current l es r y l.committed keeps (subst (λ (k : Commit). HasFilesAfter opening (entries (most_kept None k l.committed)) (recovered x)) (sym is) r.committed)

      by_kind : (h : Bool) → HasFilesAfter opening (entries (most_kept None (cond h (Commit.Syncing Part.Clear) Commit.Quiet) l.committed)) (recovered y)
      by_kind true = before
      by_kind false = before
  after_write h (Commit.Syncing p) is counts y keeps = by_part p is counts
    where
      before : (q : Part) → Commit.Syncing q ≡ l.commit → HasFilesAfter opening (entries (most_synced q l.committed)) (recovered y)
      before q at = alike opening x current l es r y (most_synced q l.committed) keeps (subst (λ (k : Commit). HasFilesAfter opening (entries (most_kept None k l.committed)) (recovered x)) (sym at) r.committed)

      by_part : (q : Part) → Commit.Syncing q ≡ l.commit → Counts (Commit.Syncing q) l → HasFilesAfter opening (entries (in_reads (synced_at q l))) (recovered y)
      by_part Part.Log at same = before Part.Log at
      by_part Part.Header at same = subst (λ (c : ℕ). HasFilesAfter opening (entries c) (recovered y)) same (before Part.Header at)
      by_part Part.Homes at same = before Part.Homes at
      by_part Part.Clear at same = before Part.Clear at

  -- only the header's write, over a disk that holds writes back, leaves one that waits for its sync
  waits_now : (h : Bool) (k : Commit) → k ≡ l.commit → AwaitsHeader (stepped_at h k l) → (k ≡ Commit.Heading) × ((stepped_at h k l).committed ≡ l.committed)
  waits_now h Commit.Quiet is w = absurd (cc (is ∙ w))
  waits_now h (Commit.Logging j) is w = by_last (eqb (j + 1) (length l.homes)) h w
    where
      by_last : (b h : Bool) → cond b (cond h (Commit.Syncing Part.Log) Commit.Heading) (Commit.Logging (j + 1)) ≡ Commit.Syncing Part.Header → (Commit.Logging j ≡ Commit.Heading) × (l.committed ≡ l.committed)
      by_last true true w = absurd (cc w)
      by_last true false w = absurd (cc w)
      by_last false h w = absurd (cc w)
  waits_now h Commit.Heading is w = (refl, by_kind h w)
    where
      by_kind : (h : Bool) → cond h (Commit.Syncing Part.Header) (Commit.Homing 0) ≡ Commit.Syncing Part.Header → cond h l.committed l.opened ≡ l.committed
      by_kind true w = refl
      by_kind false w = absurd (cc w)
  waits_now h (Commit.Homing j) is w = by_last (eqb (j + 1) (length l.homes)) h w
    where
      by_last : (b h : Bool) → cond b (cond h (Commit.Syncing Part.Homes) Commit.Clearing) (Commit.Homing (j + 1)) ≡ Commit.Syncing Part.Header → (Commit.Homing j ≡ Commit.Heading) × (l.committed ≡ l.committed)
      by_last true true w = absurd (cc w)
      by_last true false w = absurd (cc w)
      by_last false h w = absurd (cc w)
  waits_now h Commit.Clearing is w = by_kind h w
    where
      by_kind : (h : Bool) → cond h (Commit.Syncing Part.Clear) Commit.Quiet ≡ Commit.Syncing Part.Header → (Commit.Clearing ≡ Commit.Heading) × (l.committed ≡ l.committed)
      by_kind true w = absurd (cc w)
      by_kind false w = absurd (cc w)
  waits_now h (Commit.Syncing Part.Log) is w = absurd (cc w)
  waits_now h (Commit.Syncing Part.Header) is w = absurd (cc w)
  waits_now h (Commit.Syncing Part.Homes) is w = absurd (cc w)
  waits_now h (Commit.Syncing Part.Clear) is w = absurd (cc w)

  -- before the header is written, reads give the committed groups alone
  committed_before : l.commit ≡ Commit.Heading → HasFilesAfter opening (entries l.committed) (recovered x)
  committed_before heading = subst (λ (k : Commit). HasFilesAfter opening (entries (most_kept None k l.committed)) (recovered x)) heading r.committed

  -- a step
  pub commit_goes : (h : Bool) (y next : Image) (m : LogState) → m ≡ stepped_at h l.commit l → Counts l.commit l → KeepsCommitted l.commit x current y → (l.commit ≡ Commit.Heading → IsSameOutsideLog (recovered x) (cleared y))
      → IsSameOutsideLog current next → is_lawful_log y ≡ true → Survives opening y next m es
  commit_goes h y next m is counts keeps without same lawful = record {
    marks = marks_elsewhere opening es current next same (map_alike current (cleared current) (cleared_outside current) (map_behind (cleared current) now.sound)) r.marks;
    lawful = lawful;
    committed = subst (λ (o : LogState). HasFilesAfter opening (entries (in_reads o)) (recovered y)) (sym is) (after_write h l.commit refl counts y keeps);
    unheaded = λ w.
        let at : (l.commit ≡ Commit.Heading) × ((stepped_at h l.commit l).committed ≡ l.committed) = waits_now h l.commit refl (subst AwaitsHeader is w) in
        let before = committed_before at.0 in
        let outside = without at.0 in
        subst (λ (c : ℕ). HasFilesAfter opening (entries c) (cleared y)) (sym (ap (λ (o : LogState). o.committed) is ∙ at.1))
        (after_elsewhere opening (entries l.committed) (recovered x) (cleared y) outside (none_cleared y (let long = long_enough opening (entries l.committed) (recovered x) before in let size = outside.size ∙ refl in let set = (cleared_outside y).size in omega (arith, long, size, set))) before);
  }

  module _ {D : Type 0} (u : VolumeState D) (committed : u.log.committed ≡ l.committed) (commits : u.log.commit ≡ l.commit) (z : Image) where
    -- and after a write that failed, at the place where the commit writes next
    pub write_fails : (fault : DeviceFault) → u.fault ≡ Some fault → FailsAt (place_at l.commit l.homes) fault → is_writing l.commit ≡ true → Counts l.commit l → CrashKeeps l.commit x current z → is_lawful_log z ≡ true → KeepsNow u.log.committed (most_of u) opening es z
    write_fails fault fails place writing counts keeps lawful = ⊎_elim
        (λ (same : (recovered z ≡ recovered x) × TellsHeader l.commit z). keeps_exactly opening x current l es r u committed commits z (in_reads l) (keeps_count opening es z (in_reads l) lawful (subst (λ (y : Image). HasFilesAfter opening (entries (in_reads l)) y) (sym same.0) r.committed))
        (least_reads l.commit l.committed) (told_reads u.fault l.commit l.committed z same.1))
        (λ (made : KeepsCommitted l.commit x current z × TellsWritten l.commit z). by_phase l.commit refl place writing counts made.0 made.1)
        keeps
      where
        stays : (k : Commit) → k ≡ l.commit → most_kept None k l.committed ≡ l.committed → ((o : Option DeviceFault) → most_kept o k l.committed ≡ l.committed) → SameButLog (recovered x) (recovered z) → KeepsNow u.log.committed (most_of u) opening es z
        stays k is_k reads most same = keeps_exactly opening x current l es r u committed commits z l.committed
            (keeps_count opening es z l.committed lawful (subst (λ (c : ℕ). HasFilesAfter opening (entries c) (recovered z)) (ap (λ (j : Commit). most_kept None j l.committed) (sym is_k) ∙ reads) (alike opening x current l es r z (in_reads l) same r.committed))) (omega arith)
            (sym (ap (λ (c : ℕ). cond (eqb (logged_count z) 0) l.committed c) (ap (λ (j : Commit). most_kept u.fault j l.committed) (sym is_k) ∙ most u.fault) ∙ sym (either (eqb (logged_count z) 0) l.committed)))

        headed : (f : DeviceFault) → FailsAt 2 f → l.committed + 1 ≡ most_headed (Some f) l.committed
        headed (Block f) at_two = sym (ap (λ (b : Bool). cond b (l.committed + 1) l.committed) (eq-eqb f.0 2 at_two))
        headed (Sync f) at_two = absurd at_two

        by_phase : (k : Commit) → k ≡ l.commit → FailsAt (place_at k l.homes) fault → is_writing k ≡ true → Counts k l → KeepsCommitted k x current z → TellsWritten k z → KeepsNow u.log.committed (most_of u) opening es z
        by_phase Commit.Quiet is_k place writing counts keeps written = absurd (cc writing)
        by_phase (Commit.Logging j) is_k place writing counts keeps written = stays (Commit.Logging j) is_k refl (λ o. refl) keeps
        by_phase Commit.Heading is_k place writing counts keeps written = keeps_exactly opening x current l es r u committed commits z (l.committed + 1)
            (keeps_count opening es z (l.committed + 1) lawful (subst (λ (c : ℕ). HasFilesAfter opening (entries c) (recovered z)) (sym counts) (after_elsewhere opening (entries l.opened) (cleared current) (recovered z) keeps.outside (logged_count-left z) now)))
            (omega arith)
            (headed fault place ∙ ap (λ (o : Option DeviceFault). most_headed o l.committed) (sym fails) ∙ ap (λ (j : Commit). most_kept u.fault j l.committed) is_k
            ∙ sym (ap (λ (b : Bool). cond b l.committed (most_kept u.fault l.commit l.committed)) (ne_eqb (logged_count z) 0 written)))
        by_phase (Commit.Homing j) is_k place writing counts keeps written = stays (Commit.Homing j) is_k refl (λ o. refl) keeps
        by_phase Commit.Clearing is_k place writing counts keeps written = stays Commit.Clearing is_k refl (λ o. refl) keeps
        by_phase (Commit.Syncing p) is_k place writing counts keeps written = absurd (cc writing)
