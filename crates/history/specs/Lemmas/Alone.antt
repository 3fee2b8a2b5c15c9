-- Each event keeps that who commits does so alone.
use Rattle.std.proofs.Common.{◌≡◌, ◌≢◌, ◌⊎◌, inl, inr, ⊎_elim, ℕ, ◌+◌, Bool, true, false, cond, eqb, length, refl, sym, ◌∙◌, ap, subst, arith, None}
use Rattle.std.specs.Prelude.{IsSome}
use Rattle.history.specs.Common.{answer_at, begin_cause, begun, cases_eq, closed, Commit, end_answer, Ended, ended, eq-eqb, false_from_ne_true, false≢true, is_quiet, IsLogAt, left_by, let_in, LogState, ne_eqb, Part, Phase, SameGroups, stepped_at, used_by}
use Rattle.wal.specs.declared.types.Committed.{Committed}
use Rattle.history.specs.Alone.{is_committing_at, CommitsAlone}
use Rattle.history.specs.Lemmas.Groups.{end_leaves, end_commits, open_of}

-- while the log has no commit under way, nobody commits
pub none_commits : (ats : ℕ → Phase) (l : LogState) → CommitsAlone ats l → is_quiet l.commit ≡ true → (q : ℕ) → is_committing_at (ats q) ≡ false
none_commits ats l alone quiet q = false_from_ne_true (is_committing_at (ats q)) (λ mine. false≢true (sym (alone.busy q mine) ∙ quiet))

-- so it is where an operation is open
pub quiet_if_open : (l : LogState) (q : ℕ) → IsLogAt l.commit l → IsSome (used_by l q) → is_quiet l.commit ≡ true
quiet_if_open l q is used = ap is_quiet (open_of l q is used).quiet

module _ (ats new : ℕ → Phase) (l : LogState) (alone : CommitsAlone ats l) (p : ℕ) (others : (q : ℕ) → q ≢ p → new q ≡ ats q) where
  -- process p doesn't commit: then neither does who didn't
  nobody : is_committing_at (new p) ≡ false → is_quiet l.commit ≡ true → (q : ℕ) → is_committing_at (new q) ≡ false
  nobody mine quiet q = ⊎_elim
      (λ (e : q ≡ p). ap (λ (r : ℕ). is_committing_at (new r)) e ∙ mine)
      (λ (e : q ≢ p). ap is_committing_at (others q e) ∙ none_commits ats l alone quiet q)
      (cases_eq q p)

  -- no commit is under way before the event, and none behind it
  pub alone_quiet : (m : LogState) → is_quiet l.commit ≡ true → is_quiet m.commit ≡ true → is_committing_at (new p) ≡ false → CommitsAlone new m
  alone_quiet m quiet still mine =
      let none = nobody mine quiet in
      record {
        sole = λ q r first second. absurd (false≢true (sym (none q) ∙ first));
        busy = λ q first. absurd (false≢true (sym (none q) ∙ first));
        none_open = λ q first. absurd (false≢true (sym (none q) ∙ first));
        quiet = λ n. still;
      }

  -- the log's commit and the count of open operations stay, and process p commits neither before nor behind
  pub alone_same : (m : LogState) → m.commit ≡ l.commit → m.outstanding ≡ l.outstanding → is_committing_at (ats p) ≡ false → is_committing_at (new p) ≡ false → CommitsAlone new m
  alone_same m commit open_ones was mine = record {
    sole = λ q r first second. alone.sole q r (sym (same q) ∙ first) (sym (same r) ∙ second);
    busy = λ q first. ap is_quiet commit ∙ alone.busy q (sym (same q) ∙ first);
    none_open = λ q first. open_ones ∙ alone.none_open q (sym (same q) ∙ first);
    quiet = λ none. ap is_quiet commit ∙ alone.quiet (λ q. sym (same q) ∙ none q);
  }
    where
      same : (q : ℕ) → is_committing_at (new q) ≡ is_committing_at (ats q)
      same q = ⊎_elim
          (λ (e : q ≡ p). ap (λ (r : ℕ). is_committing_at (new r)) e ∙ mine ∙ sym was ∙ ap (λ (r : ℕ). is_committing_at (ats r)) (sym e))
          (λ (e : q ≢ p). ap is_committing_at (others q e))
          (cases_eq q p)

  -- a step of a task: it moved, had its turn, was told its reply, or is over
  pub alone_stepped : (m : LogState) → SameGroups l m → is_committing_at (ats p) ≡ false → is_committing_at (new p) ≡ false → CommitsAlone new m
  alone_stepped m same was mine = alone_same m same.commit same.outstanding was mine

  -- an operation that is none of the log's is taken, or answered at once
  pub alone_taken : is_committing_at (ats p) ≡ false → is_committing_at (new p) ≡ false → CommitsAlone new l
  alone_taken was mine = alone_same l refl refl was mine

  -- one begins in the log
  pub alone_begun : begin_cause l ≡ None → is_committing_at (new p) ≡ false → CommitsAlone new (begun l p)
  alone_begun free mine = let quiet = ap is_quiet (let_in l.commit (length l.homes) l.outstanding free).0 in alone_quiet (begun l p) quiet quiet mine

  -- it ends there, and others of its group go on, or the group has no homes
  pub alone_ended : IsLogAt l.commit l → IsSome (used_by l p) → (l.outstanding ≢ 1) ⊎ (length l.homes ≡ 0) → is_committing_at (new p) ≡ false → CommitsAlone new (ended l p)
  alone_ended is used left mine =
      let quiet = quiet_if_open l p is used in
      alone_quiet (ended l p) quiet (by_case left ∙ quiet) mine
    where
      by_homes : (b : Bool) → is_quiet (cond b (cond true (record (left_by l p) { committed = l.opened }) (record (left_by l p) { commit = Commit.Logging 0 })) (left_by l p)).commit ≡ is_quiet l.commit
      by_homes true = refl
      by_homes false = refl

      by_case : (l.outstanding ≢ 1) ⊎ (length l.homes ≡ 0) → is_quiet (ended l p).commit ≡ is_quiet l.commit
      by_case (inl more) = ap (λ (b : Bool). is_quiet (cond b (closed (left_by l p)) (left_by l p)).commit) (ne_eqb l.outstanding 1 more)
      by_case (inr none) = rw (eq-eqb (length l.homes) 0 none) (by_homes (eqb l.outstanding 1))

  -- it was the last of a group with homes: its process commits
  pub alone_closed : IsLogAt l.commit l → IsSome (used_by l p) → l.outstanding ≡ 1 → length l.homes ≢ 0 → is_committing_at (new p) ≡ true → CommitsAlone new (ended l p)
  alone_closed is used last some mine =
      let now : ended l p ≡ record (left_by l p) { commit = Commit.Logging 0 } = rw (eq-eqb l.outstanding 1 last, ne_eqb (length l.homes) 0 some) refl in
      let none = none_commits ats l alone (quiet_if_open l p is used) in
      let own : (q : ℕ) → is_committing_at (new q) ≡ true → q ≡ p = λ q is. ⊎_elim (λ (e : q ≡ p). e) (λ (e : q ≢ p). absurd (false≢true (sym (none q) ∙ ap is_committing_at (sym (others q e)) ∙ is))) (cases_eq q p) in
      subst (λ (m : LogState). CommitsAlone new m) (sym now) (record {
        sole = λ q r first second. own q first ∙ sym (own r second);
        busy = λ q first. refl;
        none_open = λ q first. omega (arith, last);
        quiet = λ nobody. absurd (false≢true (sym (nobody p) ∙ mine));
      })

  -- it ends, as the log answers
  pub alone_end_leaves : IsLogAt l.commit l → IsSome (used_by l p) → end_answer l ≡ Ended.Left → is_committing_at (new p) ≡ false → CommitsAlone new (ended l p)
  alone_end_leaves is used left mine = alone_ended is used (⊎_elim (λ (more : l.outstanding ≢ 1). inl more) (λ (last : (l.outstanding ≡ 1) × (length l.homes ≡ 0)). inr last.1) (end_leaves l left)) mine

  pub alone_end_commits : IsLogAt l.commit l → IsSome (used_by l p) → end_answer l ≡ Ended.Commit → is_committing_at (new p) ≡ true → CommitsAlone new (ended l p)
  alone_end_commits is used last mine = let at = end_commits l last in alone_closed is used at.0 at.1 mine

  -- a step of a commit, after which more are to come
  pub alone_written : (m : LogState) → m.outstanding ≡ l.outstanding → is_committing_at (ats p) ≡ true → is_committing_at (new p) ≡ true → is_quiet m.commit ≡ false → CommitsAlone new m
  alone_written m open_ones was mine more = record {
    sole = λ q r first second. own q first ∙ sym (own r second);
    busy = λ q first. more;
    none_open = λ q first. open_ones ∙ alone.none_open p was;
    quiet = λ nobody. absurd (false≢true (sym (nobody p) ∙ mine));
  }
    where
      own : (q : ℕ) → is_committing_at (new q) ≡ true → q ≡ p
      own q is = ⊎_elim (λ (e : q ≡ p). e) (λ (e : q ≢ p). alone.sole q p (ap is_committing_at (sym (others q e)) ∙ is) was) (cases_eq q p)

  -- its last step
  pub alone_done : (m : LogState) → is_committing_at (ats p) ≡ true → is_committing_at (new p) ≡ false → is_quiet m.commit ≡ true → CommitsAlone new m
  alone_done m was mine over = record {
    sole = λ q r first second. absurd (nobody_else q first);
    busy = λ q first. absurd (nobody_else q first);
    none_open = λ q first. absurd (nobody_else q first);
    quiet = λ none. over;
  }
    where
      nobody_else : (q : ℕ) → is_committing_at (new q) ≡ true → ⊥
      nobody_else q is = ⊎_elim
          (λ (e : q ≡ p). false≢true (sym mine ∙ ap (λ (r : ℕ). is_committing_at (new r)) (sym e) ∙ is))
          (λ (e : q ≢ p). e (alone.sole q p (ap is_committing_at (sym (others q e)) ∙ is) was))
          (cases_eq q p)

-- A step that is not the last leaves the commit under way; the last one ends it.
pub goes_on : (h : Bool) (k : Commit) (l : LogState) (g : ℕ) → is_quiet k ≡ false → (answer_at h k g ≡ Committed.Done → ⊥) → is_quiet (stepped_at h k l).commit ≡ false
goes_on h Commit.Quiet l g busy more = absurd (false≢true (sym busy))
goes_on h (Commit.Logging j) l g busy more = by_last (eqb (j + 1) (length l.homes)) h
  where
    by_last : (t h : Bool) → is_quiet (cond t (cond h (Commit.Syncing Part.Log) Commit.Heading) (Commit.Logging (j + 1))) ≡ false
    by_last true true = refl
    by_last true false = refl
    by_last false h = refl
goes_on true Commit.Heading l g busy more = refl
goes_on false Commit.Heading l g busy more = refl
goes_on h (Commit.Homing j) l g busy more = by_last (eqb (j + 1) (length l.homes)) h
  where
    by_last : (t h : Bool) → is_quiet (cond t (cond h (Commit.Syncing Part.Homes) Commit.Clearing) (Commit.Homing (j + 1))) ≡ false
    by_last true true = refl
    by_last true false = refl
    by_last false h = refl
goes_on true Commit.Clearing l g busy more = refl
goes_on false Commit.Clearing l g busy more = absurd (more refl)
goes_on h (Commit.Syncing Part.Log) l g busy more = refl
goes_on h (Commit.Syncing Part.Header) l g busy more = refl
goes_on h (Commit.Syncing Part.Homes) l g busy more = refl
goes_on h (Commit.Syncing Part.Clear) l g busy more = absurd (more refl)

-- the last one ends it
pub over_now : (h : Bool) (k : Commit) (l : LogState) (g : ℕ) → answer_at h k g ≡ Committed.Done → is_quiet (stepped_at h k l).commit ≡ true
over_now h Commit.Quiet l g done = absurd (cc done)
over_now h (Commit.Logging j) l g done = absurd (cc done)
over_now true Commit.Heading l g done = absurd (cc done)
over_now false Commit.Heading l g done = absurd (cc done)
over_now h (Commit.Homing j) l g done = absurd (cc done)
over_now true Commit.Clearing l g done = absurd (cc done)
over_now false Commit.Clearing l g done = refl
over_now h (Commit.Syncing Part.Log) l g done = absurd (cc done)
over_now h (Commit.Syncing Part.Header) l g done = absurd (cc done)
over_now h (Commit.Syncing Part.Homes) l g done = absurd (cc done)
over_now h (Commit.Syncing Part.Clear) l g done = refl

-- only the step that answers so changes how many groups are committed
pub same_committed : (h : Bool) (k : Commit) (l : LogState) (g : ℕ) → ((n : ℕ) → answer_at h k g ≡ Committed.Durable n → ⊥) → (stepped_at h k l).committed ≡ l.committed
same_committed h Commit.Quiet l g other = refl
same_committed h (Commit.Logging j) l g other = refl
same_committed true Commit.Heading l g other = refl
same_committed false Commit.Heading l g other = absurd (other g refl)
same_committed h (Commit.Homing j) l g other = refl
same_committed h Commit.Clearing l g other = refl
same_committed h (Commit.Syncing Part.Log) l g other = refl
same_committed h (Commit.Syncing Part.Header) l g other = absurd (other g refl)
same_committed h (Commit.Syncing Part.Homes) l g other = refl
same_committed h (Commit.Syncing Part.Clear) l g other = refl

-- it commits the group that it answers
pub durable_count : (h : Bool) (l m : LogState) (n : ℕ) → answer_at h l.commit l.opened ≡ Committed.Durable n → m ≡ stepped_at h l.commit l → n ≡ m.committed
durable_count h l m n answer is = by_phase h l.commit answer ∙ sym (ap (λ (o : LogState). o.committed) is)
  where
    by_phase : (h : Bool) (k : Commit) → answer_at h k l.opened ≡ Committed.Durable n → n ≡ (stepped_at h k l).committed
    by_phase h Commit.Quiet e = absurd (cc e)
    by_phase h (Commit.Logging j) e = absurd (cc e)
    by_phase true Commit.Heading e = absurd (cc e)
    by_phase false Commit.Heading e = sym (cc e)
    by_phase h (Commit.Homing j) e = absurd (cc e)
    by_phase true Commit.Clearing e = absurd (cc e)
    by_phase false Commit.Clearing e = absurd (cc e)
    by_phase h (Commit.Syncing Part.Log) e = absurd (cc e)
    by_phase h (Commit.Syncing Part.Header) e = sym (cc e)
    by_phase h (Commit.Syncing Part.Homes) e = absurd (cc e)
    by_phase h (Commit.Syncing Part.Clear) e = absurd (cc e)
