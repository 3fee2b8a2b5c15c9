-- What is true of the ports stays true with each event of the processes.
use Rattle.std.proofs.Common.{◌≡◌, ◌≢◌, ℕ, ◌+◌, ◌<◌, ◌≤◌, Bool, true, false, List, [], ◌∷◌, ◌++◌, length, get_or, set, refl, sym, ◌∙◌, ap, subst, ⊎_elim, Option, Some, None}
use Rattle.std.specs.Prelude.{IsSome, replicate}
use Rattle.kernel.specs.Common.{AllFit, Answer, answered, ArePorts, as_many, at_phase, cases_eq, cases_lt, committing, committing_at, decided, Entry, entry_inside, entry_of, entry_index, false≢true, FitWith, fresh_world, GatheredBytes, get_or-replicate, get_or_past, gives, HasHistory, History, history_given, idle, is_busy_at, IsEntry, IsHistory, last_answer, length-replicate, LogState, nothing_yet, Op, others_stay, OthersStay, over, over_at, Phase, phase_behind, Process, process, refusal, refusal_answer, refused, Reply, Rooms, set-get_or, Side, Step, taken, takes, there_now, told, told_at, turned, turned_from, OpClass, with_more_room, World}
use Rattle.ports.specs.declared.herald.Herald as herald_trait
use Rattle.ports.specs.declared.intake.Intake as intake_trait
use Rattle.history.specs.Lemmas.Histories.{history_new, history_more, history_taken, history_turned, history_turned_over, history_ending, history_committing, history_at_once, history_told, history_replied}
use Rattle.kernel.specs.Begins.{TakesFirst, LeavesFirst}
use Rattle.kernel.specs.Ports.{Gives}

-- a room of another process stays where its side does
other_room : (old new : ℕ → Side) (p q : ℕ) → OthersStay old new p → q ≢ p → (old q).has_room ≡ true → (new q).has_room ≡ true
other_room old new p q others apart room = subst (λ (s : Side). s.has_room ≡ true) (sym (others q apart)) room

-- process p becomes t: the intake serves as many, the others' rooms and histories stay, and p has a history that fits
pub record GoesOn {I M : Type 0} (intake : intake_trait.Ghosts I M) (i j : I) (w z : World) (p : ℕ) (t : Process) : Type 0 where
  pub inside : p < length w.processes
  pub processes : z.processes ≡ set w.processes p t
  pub served : intake.process_count j ≡ intake.process_count i
  pub rooms : (q : ℕ) → q ≢ p → (intake.side i q).has_room ≡ true → (intake.side j q).has_room ≡ true
  pub room : is_busy_at t.at ≡ true → (intake.side j p).has_room ≡ true
  pub journal : (q begun : ℕ) (a : Phase) (f : History) → q ≢ p → IsHistory w.journal.list a begun q f → IsHistory z.journal.list a begun q f
  pub fits : (q : ℕ) (f : History) → q ≢ p → intake.fits i q f → intake.fits j q f
  pub mine : (f : History) → IsHistory w.journal.list (process w p).at (process w p).begun p f → intake.fits i p f
      → (g : History) × IsHistory z.journal.list t.at t.begun p g × intake.fits j p g

-- each process of fresh ones is idle
fresh_idle : (count p : ℕ) → process (fresh_world count) p ≡ idle
fresh_idle count p = ⊎_elim
    (λ (low : p < count). get_or-replicate count p idle idle low)
    (λ (high : count ≤ p). get_or_past (replicate count idle) p idle (subst (λ (n : ℕ). n ≤ p) (sym (length-replicate count idle)) high))
    (cases_lt p count)

module _ {I M H : Type 0} (intake : intake_trait.Ghosts I M) (herald : herald_trait.Ghosts H) where
  -- only the ports went on
  pub ports_stay : (i j : I) (h g : H) (c d : ℕ) (w z : World) → ArePorts intake herald i h c w → intake.process_count j ≡ intake.process_count i → z.processes ≡ w.processes → z.journal.list ≡ w.journal.list
      → ((p : ℕ) → is_busy_at (process w p).at ≡ true → (intake.side j p).has_room ≡ true) → AllFit (intake.fits i) (intake.fits j) → herald.count g ≡ d → ArePorts intake herald j g d z
  ports_stay i j h g c d w z had many same list room fit told = record {
    served = many ∙ had.served ∙ ap (λ (ps : List Process). length ps) (sym same);
    room = λ p busy. room p (ap (λ (ps : List Process). is_busy_at (get_or ps p idle).at) (sym same) ∙ busy);
    told = told;
    histories = λ p lt.
        let was = had.histories p (subst (λ (ps : List Process). p < length ps) same lt) in
        record {
          history = was.history;
          is = subst (λ (es : List Entry). IsHistory es (process z p).at (process z p).begun p was.history) (sym list)
              (subst (λ (ps : List Process). IsHistory w.journal.list (get_or ps p idle).at (get_or ps p idle).begun p was.history) (sym same) was.is);
          fit = fit p was.history was.fit;
        };
  }

  -- the intake was asked for process p, or room for its answer was kept
  pub ports_asked : (i j : I) (h : H) (c : ℕ) (w z : World) (p : ℕ) → ArePorts intake herald i h c w → intake.process_count j ≡ intake.process_count i → z.processes ≡ w.processes → z.journal.list ≡ w.journal.list
      → OthersStay (intake.side i) (intake.side j) p → ((intake.side i p).has_room ≡ true → (intake.side j p).has_room ≡ true) → AllFit (intake.fits i) (intake.fits j) → ArePorts intake herald j h c z
  ports_asked i j h c w z p had many same list others room fit = ports_stay i j h h c c w z had many same list (λ q busy. rooms q (had.room q busy)) fit had.told
    where
      rooms : (q : ℕ) → (intake.side i q).has_room ≡ true → (intake.side j q).has_room ≡ true
      rooms q kept = ⊎_elim
          (λ (same : q ≡ p). subst (λ (r : ℕ). (intake.side j r).has_room ≡ true) (sym same) (room (subst (λ (r : ℕ). (intake.side i r).has_room ≡ true) same kept)))
          (λ (apart : q ≢ p). other_room (intake.side i) (intake.side j) p q others apart kept)
          (cases_eq q p)

  -- as many groups are committed
  pub ports_counted : (i : I) (h : H) (c d : ℕ) (w : World) → ArePorts intake herald i h c w → d ≡ c → ArePorts intake herald i h d w
  ports_counted i h c d w had same = subst (λ (n : ℕ). ArePorts intake herald i h n w) (sym same) had

  -- before anything was taken
  pub ports_new : (i : I) (h : H) (c count : ℕ) → intake.process_count i ≡ count → herald.count h ≡ c → ((p : ℕ) → p < count → intake.fits i p nothing_yet) → ArePorts intake herald i h c (fresh_world count)
  ports_new i h c count many told fits = record {
    served = many ∙ sym (length-replicate count idle);
    room = λ p busy. absurd (false≢true (ap (λ (s : Process). is_busy_at s.at) (sym (fresh_idle count p)) ∙ busy));
    told = told;
    histories = λ p lt. record {
      history = nothing_yet;
      is = subst (λ (s : Process). IsHistory [] s.at s.begun p nothing_yet) (sym (fresh_idle count p)) (history_new p);
      fit = fits p (subst (λ (n : ℕ). p < n) (length-replicate count idle) lt);
    };
  }

  pub ports_go : (i j : I) (h g : H) (c d : ℕ) (w z : World) (p : ℕ) (t : Process) → ArePorts intake herald i h c w → GoesOn intake i j w z p t → herald.count g ≡ d → ArePorts intake herald j g d z
  ports_go i j h g c d w z p t had goes told = record {
    served = goes.served ∙ had.served ∙ sym (as_many w z p t goes.processes);
    room = λ q busy. ⊎_elim
        (λ (same : q ≡ p). subst (λ (r : ℕ). (intake.side j r).has_room ≡ true) (sym same)
        (goes.room (ap (λ (s : Process). is_busy_at s.at) (sym (ap (process z) same ∙ there_now w z p t goes.processes goes.inside)) ∙ busy)))
        (λ (apart : q ≢ p). goes.rooms q apart (had.room q (ap (λ (s : Process). is_busy_at s.at) (sym (others_stay w z p t goes.processes q apart)) ∙ busy)))
        (cases_eq q p);
    told = told;
    histories = λ q lt. ⊎_elim
        (λ (same : q ≡ p). subst (λ (r : ℕ). HasHistory (intake.fits j) z r) (sym same) own)
        (λ (apart : q ≢ p). other q apart (had.histories q (subst (λ (n : ℕ). q < n) (as_many w z p t goes.processes) lt)))
        (cases_eq q p);
  }
    where
      own : HasHistory (intake.fits j) z p
      own =
          let was = had.histories p goes.inside in
          let now = goes.mine was.history was.is was.fit in
          record { history = now.0; is = subst (λ (s : Process). IsHistory z.journal.list s.at s.begun p now.0) (sym (there_now w z p t goes.processes goes.inside)) now.1; fit = now.2 }

      other : (q : ℕ) → q ≢ p → HasHistory (intake.fits i) w q → HasHistory (intake.fits j) z q
      other q apart was = record {
        history = was.history;
        is = subst (λ (s : Process). IsHistory z.journal.list s.at s.begun q was.history) (sym (others_stay w z p t goes.processes q apart))
            (goes.journal q (process w q).begun (process w q).at was.history apart was.is);
        fit = goes.fits q was.history apart was.fit;
      }

  -- what waits was left
  pub ports_left : (i j : I) (h : H) (c : ℕ) (w z : World) (p : ℕ) (what : OpClass) (l : LogState) (r : Step) → ArePorts intake herald i h c w → LeavesFirst intake what l p r i j w z → ArePorts intake herald j h c z
  ports_left i j h c w z p what l r had leaves = ports_asked i j h c w z p had leaves.served (ap (λ (o : World). o.processes) leaves.world) (ap (λ (o : World). o.journal.list) leaves.world) leaves.sides.others leaves.room leaves.fits

  module _ (i n : I) (h : H) (c : ℕ) (w y z : World) (p : ℕ) (what : OpClass) (l : LogState) (op : Op) (rooms : Rooms) (had : ArePorts intake herald i h c w) (lt : p < length w.processes) (stands : (process w p).at ≡ Phase.Idle)
      (takes_it : TakesFirst intake what l p op rooms i n w y) where
    -- an operation was taken
    pub ports_taken : (group : ℕ) (kept : Option GatheredBytes) → z ≡ taken (with_more_room w) p group op kept → ArePorts intake herald n h c z
    ports_taken group kept is = ports_go i n h h c c w z p (record { begun = (process w p).begun + 1; at = Phase.BeforeTurn group op; room = kept }) had
        (record {
          inside = lt;
          processes = ap (λ (o : World). o.processes) is;
          served = takes_it.served;
          rooms = λ q other kept. other_room (intake.side i) (intake.side n) p q takes_it.sides.others other kept;
          room = λ busy. takes_it.room;
          journal = λ q begun a f other history. subst (λ (o : World). IsHistory o.journal.list a begun q f) (sym is) history;
          fits = takes_it.fits.others;
          mine = λ f history fits. (
            takes (Some op) f,
            subst (λ (o : World). IsHistory o.journal.list (Phase.BeforeTurn group op) ((process w p).begun + 1) p (takes (Some op) f)) (sym is)
                (history_taken w.journal.list (process w p).begun group p op f (subst (λ (a : Phase). IsHistory w.journal.list a (process w p).begun p f) stands history)),
            takes_it.fits.own f fits,
          );
        }) had.told

    -- one was taken, and answered at once
    pub ports_refused : (j : I) (reply : Reply) → z ≡ refused (with_more_room w) p op reply
        → intake.process_count j ≡ intake.process_count n → OthersStay (intake.side n) (intake.side j) p → FitWith (intake.fits n) (intake.fits j) p (gives (refusal_answer (with_more_room w) p reply)) → ArePorts intake herald j h c z
    ports_refused j reply is as_before others_there gives_it = ports_go i j h h c c w z p (record (process w p) { begun = (process w p).begun + 1 }) had
        (record {
          inside = lt;
          processes = ap (λ (o : World). o.processes) is;
          served = as_before ∙ takes_it.served;
          rooms = λ q other kept. other_room (intake.side n) (intake.side j) p q others_there other (other_room (intake.side i) (intake.side n) p q takes_it.sides.others other kept);
          room = λ busy. absurd (false≢true (ap is_busy_at (sym stands) ∙ busy));
          journal = λ q begun a f other history. subst (λ (o : World). IsHistory o.journal.list a begun q f) (sym is)
              (history_more w.journal.list (refusal w p op reply) a begun q f (λ same. other (sym same)) history);
          fits = λ q f other fits. gives_it.others q f other (takes_it.fits.others q f other fits);
          mine = λ f history fits. (
            gives (refusal_answer w p reply) (takes (Some op) f),
            subst (λ (o : World). IsHistory o.journal.list (process w p).at ((process w p).begun + 1) p (gives (refusal_answer w p reply) (takes (Some op) f))) (sym is)
                (subst (λ (a : Phase). IsHistory (w.journal.list ++ refusal w p op reply ∷ []) a ((process w p).begun + 1) p (gives (refusal_answer w p reply) (takes (Some op) f))) (sym stands)
                (history_at_once w.journal.list (process w p).begun p (refusal w p op reply) (refusal_answer w p reply) f refl refl refl (subst (λ (a : Phase). IsHistory w.journal.list a (process w p).begun p f) stands history))),
            gives_it.own (takes (Some op) f) (takes_it.fits.own f fits),
          );
        }) had.told

  -- an operation had its turn
  pub ports_turned : (i : I) (h : H) (c : ℕ) (w z : World) (p group : ℕ) (op : Op) (reply : Option Reply) (over : Bool) → ArePorts intake herald i h c w → p < length w.processes → (process w p).at ≡ Phase.BeforeTurn group op → z ≡ turned w p reply over
      → ArePorts intake herald i h c z
  ports_turned i h c w z p group op reply over had lt stands turn =
      let is : z ≡ turned_from (Phase.BeforeTurn group op) w p reply over = turn ∙ ap (λ (a : Phase). turned_from a w p reply over) stands in
      ports_go i i h h c c w z p (record (process w p) { at = phase_behind over group (length w.journal.list) }) had
      (record {
        inside = lt;
        processes = ap (λ (o : World). o.processes) is;
        served = refl;
        rooms = λ q other kept. kept;
        room = λ busy. had.room p (ap is_busy_at stands);
        journal = λ q begun a f other history. subst (λ (o : World). IsHistory o.journal.list a begun q f) (sym is)
            (history_more w.journal.list (entry_of p (process w p).begun op group reply) a begun q f (λ same. other (sym same)) history);
        fits = λ q f other fits. fits;
        mine = λ f history fits. (
          f,
          subst (λ (o : World). IsHistory o.journal.list (phase_behind over group (length w.journal.list)) (process w p).begun p f) (sym is)
              (behind over f (subst (λ (a : Phase). IsHistory w.journal.list a (process w p).begun p f) stands history)),
          fits,
        );
      }) had.told
    where
      behind : (b : Bool) (f : History) → IsHistory w.journal.list (Phase.BeforeTurn group op) (process w p).begun p f → IsHistory (w.journal.list ++ entry_of p (process w p).begun op group reply ∷ []) (phase_behind b group (length w.journal.list)) (process w p).begun p f
      behind true f history = history_turned_over w.journal.list (process w p).begun group p (entry_of p (process w p).begun op group reply) f refl refl history
      behind false f history = history_turned w.journal.list (process w p).begun group p (entry_of p (process w p).begun op group reply) f refl refl history

  -- one under way goes on to another phase, with the same history
  ports_placed : (i : I) (h : H) (c : ℕ) (w z : World) (p : ℕ) (a b : Phase) → ArePorts intake herald i h c w → p < length w.processes → (process w p).at ≡ a → is_busy_at a ≡ true → z ≡ at_phase w p b
      → ((f : History) → IsHistory w.journal.list a (process w p).begun p f → IsHistory w.journal.list b (process w p).begun p f) → ArePorts intake herald i h c z
  ports_placed i h c w z p a b had lt stands busy is goes = ports_go i i h h c c w z p (record (process w p) { at = b }) had
      (record {
        inside = lt;
        processes = ap (λ (o : World). o.processes) is;
        served = refl;
        rooms = λ q other kept. kept;
        room = λ under. had.room p (ap is_busy_at stands ∙ busy);
        journal = λ q begun a f other history. subst (λ (o : World). IsHistory o.journal.list a begun q f) (sym is) history;
        fits = λ q f other fits. fits;
        mine = λ f history fits. (
          f,
          subst (λ (o : World). IsHistory o.journal.list b (process w p).begun p f) (sym is) (goes f (subst (λ (o : Phase). IsHistory w.journal.list o (process w p).begun p f) stands history)),
          fits,
        );
      }) had.told

  -- one whose task is over ends in the log next
  pub ports_ending : (i : I) (h : H) (c : ℕ) (w z : World) (p group k : ℕ) → ArePorts intake herald i h c w → p < length w.processes → (process w p).at ≡ Phase.AfterTurn group k → z ≡ over w p → ArePorts intake herald i h c z
  ports_ending i h c w z p group k had lt stands is = ports_placed i h c w z p (Phase.AfterTurn group k) (Phase.Ending group k) had lt stands refl (is ∙ ap (λ (a : Phase). at_phase w p (over_at a)) stands)
      (λ f history. history_ending w.journal.list k (process w p).begun group p f history)

  -- and goes on from its end to its group's commit
  pub ports_committing : (i : I) (h : H) (c : ℕ) (w z : World) (p group k : ℕ) → ArePorts intake herald i h c w → p < length w.processes → (process w p).at ≡ Phase.Ending group k → z ≡ committing w p → ArePorts intake herald i h c z
  ports_committing i h c w z p group k had lt stands is = ports_placed i h c w z p (Phase.Ending group k) (Phase.Committing group k) had lt stands refl (is ∙ ap (λ (a : Phase). at_phase w p (committing_at a)) stands)
      (λ f history. history_committing w.journal.list k (process w p).begun group p f history)

  -- one's entry was told its reply
  pub ports_decided : (i : I) (h : H) (c : ℕ) (w : World) (p group k : ℕ) (e : Entry) (reply : Reply) → ArePorts intake herald i h c w → p < length w.processes → (process w p).at ≡ Phase.AfterTurn group k → IsEntry w.journal.list k e → e.pid ≡ p
      → ArePorts intake herald i h c (decided w p reply)
  ports_decided i h c w p group k e reply had lt stands there mine =
      let z = told_at (Some k) w reply in
      let same : decided w p reply ≡ z = ap (λ (a : Phase). told_at (entry_index a) w reply) stands in
      let list : z.journal.list ≡ set w.journal.list k (told e reply) = ap (λ (f : Entry). set w.journal.list k (told f reply)) (entry_inside w.journal.list k e there) in
      subst (λ (o : World). ArePorts intake herald i h c o) (sym same) (ports_go i i h h c c w z p (process w p) had
      (record {
        inside = lt;
        processes = sym (set-get_or w.processes p idle);
        served = refl;
        rooms = λ q other kept. kept;
        room = λ busy. had.room p busy;
        journal = λ q begun a f other history. subst (λ (l : List Entry). IsHistory l a begun q f) (sym list) (history_told w.journal.list k e reply a begun q f there (λ own. other (sym own ∙ mine)) history);
        fits = λ q f other fits. fits;
        mine = λ f history fits. (
          f,
          subst (λ (l : List Entry). IsHistory l (process w p).at (process w p).begun p f) (sym list)
              (subst (λ (a : Phase). IsHistory (set w.journal.list k (told e reply)) a (process w p).begun p f) (sym stands)
              (history_replied w.journal.list k (process w p).begun group p e reply f there (subst (λ (a : Phase). IsHistory w.journal.list a (process w p).begun p f) stands history))),
          fits,
        );
      }) had.told)

  -- one was answered, which the herald may have heard of
  pub ports_answered : (i j : I) (h g : H) (c d : ℕ) (w z : World) (p : ℕ) (answer : Answer) → ArePorts intake herald i h c w → p < length w.processes → last_answer w (process w p).at ≡ Some answer → z ≡ answered w p → Gives intake w p i j → herald.count g ≡ d
      → ArePorts intake herald j g d z
  ports_answered i j h g c d w z p answer had lt tells is given told = ports_go i j h g c d w z p (record (process w p) { at = Phase.Idle; room = None }) had
      (record {
        inside = lt;
        processes = ap (λ (o : World). o.processes) is;
        served = given.served;
        rooms = λ q other kept. other_room (intake.side i) (intake.side j) p q given.keeps.others other kept;
        room = λ busy. absurd (false≢true busy);
        journal = λ q begun a f other history. subst (λ (o : World). IsHistory o.journal.list a begun q f) (sym is) history;
        fits = λ q f other fits. (given.fits answer tells).others q f other fits;
        mine = λ f history fits. (
          gives answer f,
          subst (λ (o : World). IsHistory o.journal.list Phase.Idle (process w p).begun p (gives answer f)) (sym is)
              (history_given w p (process w p).begun (process w p).at answer f tells history),
          (given.fits answer tells).own f fits,
        );
      }) told

  -- the same, where there is an answer
  pub ports_given : (i j : I) (h g : H) (c d : ℕ) (w z : World) (p : ℕ) → ArePorts intake herald i h c w → p < length w.processes → IsSome (last_answer w (process w p).at) → z ≡ answered w p → Gives intake w p i j → herald.count g ≡ d
      → ArePorts intake herald j g d z
  ports_given i j h g c d w z p had lt some is given told = by_answer (last_answer w (process w p).at) refl some
    where
      by_answer : (o : Option Answer) → last_answer w (process w p).at ≡ o → IsSome o → ArePorts intake herald j g d z
      by_answer None tells some = absurd (false≢true some)
      by_answer (Some answer) tells some = ports_answered i j h g c d w z p answer had lt tells is given told
