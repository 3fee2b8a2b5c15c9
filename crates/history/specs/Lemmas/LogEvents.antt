-- Each call of the log keeps what is true of every kernel.
use Rattle.std.proofs.Common.{◌≡◌, ◌≢◌, ◌⊎◌, ⊎_elim, ℕ, zero, suc, ◌+◌, ◌<◌, ◌≤◌, Bool, true, false, cond, not, ◌&&◌, eqb, ltb, List, length, get_or, refl, sym, ◌∙◌, ap, subst, arith, Option, Some, None}
use Rattle.std.specs.Prelude.{IsSome, is_some}
use Rattle.history.specs.Common.{at_once_is_not_changing, begun, CallsLog, cases_eq, cleared, closed, Commit, end_answer, Ended, ended, Entry, eq-eqb, Files, files_of, Follows, form_of, get_or-set_other, get_or-set_same, HasFilesAfter, HasMarks, Image, InGroup, inode_count_of, is_at_once, is_changing, IsIn, IsLogAt, IsValidView, kept, KernelFacts, left_by, LogState, lt-ltb, most_kept, ne_eqb, not-true, Op, Part, Phase, recovered, StandsAt, Survives, used_by, View, Writes}
use Rattle.model.specs.Laws.{is_writing as is_writing_op}
use Rattle.history.specs.Lemmas.Following.{follows_moved}
use Rattle.history.specs.Lemmas.Groups.{end_leaves, end_commits, open_now, open_of, ended_opened, SameOpen, stepped_same}
use Rattle.history.specs.Lemmas.Shapes.{journal_later}
use Rattle.history.specs.Lemmas.Stops.{quiet_files, SameReads, reads_same, reads_calm, closes_empty, commit_goes}

-- what a call of the log by p leaves the other processes
record KeepsOthers (l m : LogState) (p : ℕ) : Type 0 where
  used : (q : ℕ) → q ≢ p → is_some (used_by m q) ≡ is_some (used_by l q)
  newest : (q : ℕ) → q ≢ p → is_some (used_by l q) ≡ true → m.opened ≡ l.opened

in_kept : (l m : LogState) (p q g : ℕ) → KeepsOthers l m p → q ≢ p → IsIn l q g → IsIn m q g
in_kept l m p q g k other is = (k.used q other ∙ is.0, is.1 ∙ sym (k.newest q other is.0))

group_kept : (l m : LogState) (p q g : ℕ) → KeepsOthers l m p → q ≢ p → InGroup l q g → InGroup m q g
group_kept l m p q zero k other is = k.used q other ∙ is
group_kept l m p q (suc g) k other is = in_kept l m p q (suc g) k other is

stands_kept : (n : ℕ) (s t : View) (es : List Entry) (p q : ℕ) (a : Phase) → KeepsOthers s.log t.log p → t.holds q ≡ s.holds q → q ≢ p → StandsAt n s es q a → StandsAt n t es q a
stands_kept n s t es p q Phase.Idle k same other is = (same ∙ is.0, group_kept s.log t.log p q 0 k other is.1)
stands_kept n s t es p q (Phase.BeforeTurn group op) k same other is = (same ∙ is.0, group_kept s.log t.log p q group k other is.1, is.2, is.3)
stands_kept n s t es p q (Phase.AfterTurn group j) k same other is = (group_kept s.log t.log p q group k other is.0, is.1)
stands_kept n s t es p q (Phase.Ending group j) k same other is = (same ∙ is.0, in_kept s.log t.log p q group k other is.1, is.2)
stands_kept n s t es p q (Phase.Committing group j) k same other is = (same ∙ is.0, group_kept s.log t.log p q 0 k other is.1, is.2)

keeps_begun : (l : LogState) (p : ℕ) → IsLogAt l.commit l → KeepsOthers l (begun l p) p
keeps_begun l p is = record {
  used = λ q other. ap is_some (get_or-set_other l.used p q (Some 0) None other);
  newest = λ q other has.
      let some = open_now l l.commit q is has in
      ap (λ (b : Bool). cond b (l.opened + 1) l.opened) (ne_eqb l.outstanding 0 (λ none. omega (arith, none, some)));
}

keeps_left : (l : LogState) (p : ℕ) → KeepsOthers l (left_by l p) p
keeps_left l p = record { used = λ q other. ap is_some (get_or-set_other l.used p q None None other); newest = λ q other has. refl }

keeps_ended : (l : LogState) (p : ℕ) → KeepsOthers l (ended l p) p
keeps_ended l p = by_last (eqb l.outstanding 1) (eqb (length l.homes) 0)
  where
    by_last : (b c : Bool) → KeepsOthers l (cond b (cond c (record (left_by l p) { committed = l.opened }) (record (left_by l p) { commit = Commit.Logging 0 })) (left_by l p)) p
    by_last true true = record { used = (keeps_left l p).used; newest = (keeps_left l p).newest }
    by_last true false = record { used = (keeps_left l p).used; newest = (keeps_left l p).newest }
    by_last false c = keeps_left l p

none_after_end : (l : LogState) (p : ℕ) → p < length l.used → is_some (used_by (ended l p) p) ≡ false
none_after_end l p lt = by_last (eqb l.outstanding 1) (eqb (length l.homes) 0)
  where
    left : is_some (used_by (left_by l p) p) ≡ false
    left = ap is_some (get_or-set_same l.used p None None lt)

    by_last : (b c : Bool) → is_some (used_by (cond b (cond c (record (left_by l p) { committed = l.opened }) (record (left_by l p) { commit = Commit.Logging 0 })) (left_by l p)) p) ≡ false
    by_last true true = left
    by_last true false = left
    by_last false c = left

module _ (opening : Image) (s t : View) (es : List Entry) (ats : ℕ → Phase) (i : KernelFacts opening s es ats) (v : IsValidView (inode_count_of opening) t) (p : ℕ) (new : ℕ → Phase) (others_at : (q : ℕ) → q ≢ p → new q ≡ ats q) where
  abbrev n : ℕ
  n = inode_count_of opening

  stands_by : KeepsOthers s.log t.log p → ((q : ℕ) → t.holds q ≡ s.holds q) → StandsAt n t es p (new p) → (q : ℕ) → StandsAt n t es q (new q)
  stands_by k holds mine q = ⊎_elim
      (λ (e : q ≡ p). subst (λ (x : ℕ). StandsAt n t es x (new x)) (sym e) mine)
      (λ (e : q ≢ p). subst (λ (a : Phase). StandsAt n t es q a) (sym (others_at q e)) (stands_kept n s t es p q (ats q) k (holds q) e (i.stands q)))
      (cases_eq q p)

  -- disk and current image stay
  recovers_same : t.disk ≡ s.disk → t.current ≡ s.current → Survives opening s.disk s.current t.log es → Survives opening t.disk t.current t.log es
  recovers_same disk current r = subst (λ (x : Image). Survives opening x t.current t.log es) (sym disk) (subst (λ (x : Image). Survives opening s.disk x t.log es) (sym current) r)

  -- where no operation is open, the current image has the files of all groups
  now_has : s.log.outstanding ≡ 0 → HasFilesAfter opening (kept n es s.log.opened) (cleared s.current)
  now_has none = quiet_files opening s.current s.log s.holds s.fits es i.follows i.journal.groups i.recovers.marks i.valid.store i.valid.log none

  module _ (l : LogState) (c : CallsLog l s t) where
    follows_log : Follows (form_of opening) (files_of opening) t.holds t.fits es
    follows_log = follows_moved (form_of opening) (files_of opening) s.holds s.fits es i.follows t.holds t.fits (λ q h held. c.holds q ∙ held) c.files

    -- where the log tells the same of the disk
    recovers_log : SameReads s.log t.log → Survives opening t.disk t.current t.log es
    recovers_log same = recovers_same c.disk c.current (record {
      marks = i.recovers.marks;
      lawful = i.recovers.lawful;
      committed = subst (λ (k : ℕ). HasFilesAfter opening (kept n es k) (recovered s.disk)) (sym same.reads) i.recovers.committed;
      unheaded = λ w. subst (λ (k : ℕ). HasFilesAfter opening (kept n es k) (cleared s.disk)) (sym same.committed) (i.recovers.unheaded (same.waits w));
    })

  -- a changing operation begins
  pub inv_begun : (op : Op) → CallsLog (begun s.log p) s t → ats p ≡ Phase.Idle → new p ≡ Phase.BeforeTurn (begun s.log p).opened op → is_changing n op ≡ true → p < length s.log.used → KernelFacts opening t es new
  inv_begun op c stood now changing lt =
      let up : s.log.opened ≤ (begun s.log p).opened = by_first (eqb s.log.outstanding 0) in
      record {
        valid = v;
        journal = journal_later n s.log.opened es i.journal t.log.opened (subst (λ (l : LogState). s.log.opened ≤ l.opened) (sym c.log) up);
        follows = follows_log (begun s.log p) c;
        recovers = recovers_log (begun s.log p) c (reads_same s.log t.log (ap (λ (l : LogState). l.committed) c.log) (ap (λ (l : LogState). l.commit) c.log));
        stands = stands_by (subst (λ (l : LogState). KeepsOthers s.log l p) (sym c.log) (keeps_begun s.log p i.valid.log)) c.holds
            (subst (λ (a : Phase). StandsAt n t es p a) (sym now) (
              c.holds p ∙ (subst (λ (a : Phase). StandsAt n s es p a) stood (i.stands p)).0,
              subst (λ (l : LogState). InGroup l p (begun s.log p).opened) (sym c.log) (newest_own (begun s.log p).opened counted refl),
              (counted_some ∙ sym changing),
              not_at_once,
            ));
      }
    where
      by_first : (b : Bool) → s.log.opened ≤ cond b (s.log.opened + 1) s.log.opened
      by_first true = omega arith
      by_first false = omega arith

      newest_own : (g : ℕ) → 0 < g → g ≡ (begun s.log p).opened → InGroup (begun s.log p) p g
      newest_own zero low same = absurd (omega (arith, low))
      newest_own (suc g) low same = (ap is_some (get_or-set_same s.log.used p (Some 0) None lt), same)

      counted : 0 < (begun s.log p).opened
      counted =
          let used : IsSome (used_by t.log p) = subst (λ (l : LogState). is_some (used_by l p) ≡ true) (sym c.log) (ap is_some (get_or-set_same s.log.used p (Some 0) None lt)) in
          omega (arith, ((open_of t.log p v.log used).later), (ap (λ (l : LogState). l.opened) c.log))

      counted_some : ltb 0 (begun s.log p).opened ≡ true
      counted_some = lt-ltb 0 (begun s.log p).opened counted

      not_at_once : is_at_once n op ≡ false
      not_at_once = by_writing (is_writing_op op) (is_at_once n op) (sym (at_once_is_not_changing n op) ∙ changing)
        where
          by_writing : (a b : Bool) → (a && not b) ≡ true → b ≡ false
          by_writing true b h = not-true b h
          by_writing false b h = absurd (cc h)

  module _ (group k : ℕ) (e : Entry) (stood : ats p ≡ Phase.Ending group k) where
    ends : StandsAt n s es p (Phase.Ending group k)
    ends = subst (λ (a : Phase). StandsAt n s es p a) stood (i.stands p)

    -- no commit is under way
    quiet_now : s.log.commit ≡ Commit.Quiet
    quiet_now = (open_of s.log p i.valid.log ends.1.0).quiet

    idle_now : (c : CallsLog (ended s.log p) s t) → p < length s.log.used → new p ≡ Phase.Idle → StandsAt n t es p (new p)
    idle_now c lt now = subst (λ (a : Phase). StandsAt n t es p a) (sym now) (c.holds p ∙ ends.0, subst (λ (l : LogState). is_some (used_by l p) ≡ false) (sym c.log) (none_after_end s.log p lt))

    ended_with : (c : CallsLog (ended s.log p) s t) → Survives opening t.disk t.current t.log es → StandsAt n t es p (new p) → KernelFacts opening t es new
    ended_with c r mine = record {
      valid = v;
      journal = journal_later n s.log.opened es i.journal t.log.opened (let o = ended_opened s.log p in let same : t.log.opened ≡ (ended s.log p).opened = ap (λ (l : LogState). l.opened) c.log in omega (arith, o, same));
      follows = follows_log (ended s.log p) c;
      recovers = r;
      stands = stands_by (subst (λ (l : LogState). KeepsOthers s.log l p) (sym c.log) (keeps_ended s.log p)) c.holds mine;
    }

    -- it ends, and others of its group go on
    pub inv_ended : CallsLog (ended s.log p) s t → p < length s.log.used → s.log.outstanding ≢ 1 → new p ≡ Phase.Idle → KernelFacts opening t es new
    inv_ended c lt more now =
        let same : ended s.log p ≡ left_by s.log p = ap (λ (b : Bool). cond b (closed (left_by s.log p)) (left_by s.log p)) (ne_eqb s.log.outstanding 1 more) in
        ended_with c (recovers_log (ended s.log p) c (reads_same s.log t.log (ap (λ (l : LogState). l.committed) (c.log ∙ same)) (ap (λ (l : LogState). l.commit) (c.log ∙ same)))) (idle_now c lt now)

    -- it was the last of its group, and makes the group's commit
    pub inv_closed : CallsLog (ended s.log p) s t → p < length s.log.used → s.log.outstanding ≡ 1 → length s.log.homes ≢ 0 → new p ≡ Phase.Committing group k → KernelFacts opening t es new
    inv_closed c lt last some now =
        let same : ended s.log p ≡ record (left_by s.log p) { commit = Commit.Logging 0 } = rw (eq-eqb s.log.outstanding 1 last, ne_eqb (length s.log.homes) 0 some) refl in
        let commits : t.log.commit ≡ Commit.Logging 0 = ap (λ (l : LogState). l.commit) (c.log ∙ same) in
        ended_with c (recovers_log (ended s.log p) c (reads_calm s.log t.log quiet_now (ap (λ (l : LogState). l.committed) (c.log ∙ same)) (ap (λ (k : Commit). most_kept None k t.log.committed) commits)
        (λ w. let never : Commit.Logging 0 ≡ Commit.Syncing Part.Header = sym commits ∙ w in absurd (cc never))))
        (subst (λ (a : Phase). StandsAt n t es p a) (sym now) (c.holds p ∙ ends.0, subst (λ (l : LogState). is_some (used_by l p) ≡ false) (sym c.log) (none_after_end s.log p lt), ends.2))

    -- it was the last of a group without homes, which is committed
    pub inv_ended_empty : CallsLog (ended s.log p) s t → p < length s.log.used → s.log.outstanding ≡ 1 → length s.log.homes ≡ 0 → recovered s.disk ≡ s.current → new p ≡ Phase.Idle → KernelFacts opening t es new
    inv_ended_empty c lt last none shown now =
        let m : LogState = record (left_by s.log p) { committed = s.log.opened } in
        let same : t.log ≡ m = c.log ∙ rw (eq-eqb s.log.outstanding 1 last, eq-eqb (length s.log.homes) 0 none) refl in
        let opened : t.log.opened ≡ s.log.opened = ap (λ (l : LogState). l.opened) same in
        let quiet : t.log.outstanding ≡ 0 = let o = ap (λ (l : LogState). l.outstanding) same in omega (arith, o, last) in
        let j = journal_later n s.log.opened es i.journal t.log.opened (omega (arith, opened)) in
        let marks = subst (λ (x : Image). HasMarks opening es x) (sym c.current) i.recovers.marks in
        let has = quiet_files opening t.current t.log t.holds t.fits es (follows_log (ended s.log p) c) j.groups marks v.store v.log quiet in
        let before : HasFilesAfter opening (kept n es s.log.opened) (cleared s.current) = subst (λ (x : Image). HasFilesAfter opening (kept n es s.log.opened) (cleared x)) c.current (subst (λ (k : ℕ). HasFilesAfter opening (kept n es k) (cleared t.current)) opened has) in
        ended_with c (recovers_same c.disk c.current (closes_empty opening s.disk s.current s.log es i.recovers before t.log shown (ap (λ (l : LogState). l.committed) same) (ap (λ (l : LogState). l.commit) same ∙ quiet_now))) (idle_now c lt now)

    -- it ends, as the log answers: nothing is to be done, or its process makes the commit
    pub inv_end_leaves : CallsLog (ended s.log p) s t → p < length s.log.used → end_answer s.log ≡ Ended.Left → (length s.log.homes ≡ 0 → recovered s.disk ≡ s.current) → new p ≡ Phase.Idle → KernelFacts opening t es new
    inv_end_leaves c lt left shown now = ⊎_elim
        (λ (more : s.log.outstanding ≢ 1). inv_ended c lt more now)
        (λ (last : (s.log.outstanding ≡ 1) × (length s.log.homes ≡ 0)). inv_ended_empty c lt last.0 last.1 (shown last.1) now)
        (end_leaves s.log left)

    pub inv_end_commits : CallsLog (ended s.log p) s t → p < length s.log.used → end_answer s.log ≡ Ended.Commit → new p ≡ Phase.Committing group k → KernelFacts opening t es new
    inv_end_commits c lt last now = let is = end_commits s.log last in inv_closed c lt is.0 is.1 now

  -- a step of a commit, which opens no operation and no group, and ends none
  commit_with : (group k : ℕ) → SameOpen s.log t.log → ((q : ℕ) → t.holds q ≡ s.holds q) → ((m : Files) → s.fits m → t.fits m) → Survives opening t.disk t.current t.log es
      → ats p ≡ Phase.Committing group k → (new p ≡ Phase.Committing group k) ⊎ (new p ≡ Phase.Idle) → KernelFacts opening t es new
  commit_with group k same holds files r stood now =
      let opened : t.log.opened ≡ s.log.opened = same.opened in
      let used : (q : ℕ) → is_some (used_by t.log q) ≡ is_some (used_by s.log q) = λ q. ap (λ (us : List (Option ℕ)). is_some (get_or us q None)) same.used in
      let mine : StandsAt n s es p (Phase.Committing group k) = subst (λ (a : Phase). StandsAt n s es p a) stood (i.stands p) in
      record {
        valid = v;
        journal = journal_later n s.log.opened es i.journal t.log.opened (omega (arith, opened));
        follows = follows_moved (form_of opening) (files_of opening) s.holds s.fits es i.follows t.holds t.fits (λ q h held. holds q ∙ held) files;
        recovers = r;
        stands = stands_by (record { used = λ q other. used q; newest = λ q other has. opened }) holds (⊎_elim
            (λ (e : new p ≡ Phase.Committing group k). subst (λ (a : Phase). StandsAt n t es p a) (sym e) (holds p ∙ mine.0, used p ∙ mine.1, mine.2))
            (λ (e : new p ≡ Phase.Idle). subst (λ (a : Phase). StandsAt n t es p a) (sym e) (holds p ∙ mine.0, used p ∙ mine.1))
            now);
      }

  -- a step of a commit; with the header's, or the sync behind it, the group is committed
  pub inv_written : (h : Bool) (group k : ℕ) → Writes h s t → ats p ≡ Phase.Committing group k → s.log.outstanding ≡ 0 → (new p ≡ Phase.Committing group k) ⊎ (new p ≡ Phase.Idle) → KernelFacts opening t es new
  inv_written h group k w stood none now =
      commit_with group k (subst (λ (l : LogState). SameOpen s.log l) (sym w.log) (stepped_same h s.log.commit s.log)) w.holds w.files
      (commit_goes opening s.disk s.current s.log es i.recovers (now_has none) h t.disk t.current t.log w.log i.valid.log.counts w.keeps w.unheaded w.same w.lawful) stood now

  -- another operation is taken: it is none of the log's
  pub inv_taken : (op : Op) → CallsLog s.log s t → ats p ≡ Phase.Idle → new p ≡ Phase.BeforeTurn 0 op → is_changing n op ≡ false → is_at_once n op ≡ false → KernelFacts opening t es new
  inv_taken op c stood now still later =
      let was : StandsAt n s es p Phase.Idle = subst (λ (a : Phase). StandsAt n s es p a) stood (i.stands p) in
      record {
        valid = v;
        journal = journal_later n s.log.opened es i.journal t.log.opened (let same : t.log.opened ≡ s.log.opened = ap (λ (l : LogState). l.opened) c.log in omega (arith, same));
        follows = follows_log s.log c;
        recovers = recovers_log s.log c (reads_same s.log t.log (ap (λ (l : LogState). l.committed) c.log) (ap (λ (l : LogState). l.commit) c.log));
        stands = stands_by (subst (λ (l : LogState). KeepsOthers s.log l p) (sym c.log) (record { used = λ q other. refl; newest = λ q other has. refl })) c.holds
            (subst (λ (a : Phase). StandsAt n t es p a) (sym now) (c.holds p ∙ was.0, subst (λ (l : LogState). is_some (used_by l p) ≡ false) (sym c.log) was.1, sym still, later));
      }
