-- The next file that was found is a directory: what it leads down to is found behind the others, or again.
use Rattle.std.proofs.Common.{◌≡◌, ◌≢◌, ◌⊎◌, inl, inr, ℕ, ◌+◌, ◌-◌, ◌<◌, ◌≤◌, true, List, [], ◌++◌, length, get_or, replicate, refl, sym, ap, subst, ◌∙◌, ⊎_elim, arith}
use Rattle.std.proofs.lemmas.Bool.{cases_eq, cases_lt}
use Rattle.std.proofs.lemmas.List.{get_or_append_left, get_or-replicate, length-append, length-replicate}
use Rattle.model.specs.Files.{Files}
use Rattle.directories.specs.Checks.{AddsChildren, AreApart, HasFound, HasName, HasTwice, WasFound, IsAmong, IsNamedAgain, LeadsAt}
use Rattle.directories.specs.Entries.{entries_of, entry_at, is_for, name_in}
use Rattle.directories.specs.Trees.{directory_in, IsDirectory, IsDirectoryOf, IsFile, StepsDown}
use Rattle.directories.specs.Lemmas.Apart.{among_left}
use Rattle.directories.specs.Lemmas.EntryBytes.{name_of_entry}
use Rattle.directories.proofs.EntryPaths.{entry_of_step, for_its_name, step_of_entry}
use Rattle.directories.specs.Lemmas.FoundNext.{at_last, found_more, is_behind, name_later}
use Rattle.directories.specs.Lemmas.TreeBy.{directory_is_file}

-- a name that was there is there where more are found
old_name : (files : Files) (numbers parents more up : List ℕ) (k m : ℕ) → length parents ≡ length numbers → k ≤ length numbers → m < length numbers →
    HasName files k numbers parents m → HasName files k (numbers ++ more) (parents ++ up) m
old_name files numbers parents more up k m few low inside has =
    let seen : has.from < k = has.seen in
    let at_from : get_or (numbers ++ more) has.from 0 ≡ get_or numbers has.from 0 = get_or_append_left numbers more 0 has.from (omega arith) in
    let at_m : get_or (numbers ++ more) m 0 ≡ get_or numbers m 0 = get_or_append_left numbers more 0 m inside in
    record {
      from = has.from;
      before = has.before;
      seen = has.seen;
      parent = at_from ∙ has.parent ∙ sym (get_or_append_left parents up 0 m (omega arith));
      name = has.name;
      step = subst (λ (i : ℕ). StepsDown files i has.name (get_or (numbers ++ more) m 0)) (sym at_from)
          (subst (λ (i : ℕ). StepsDown files (get_or numbers has.from 0) has.name i) (sym at_m) has.step);
    }

-- The directory is looked into, at the place k of the numbers: `more` of what it leads down to is new.
module _ (files : Files) (k from : ℕ) (numbers parents again new up rest : List ℕ) (found : HasFound files k numbers parents again)
    (inside : k < length numbers) (is : get_or numbers k 0 ≡ from) (directory : IsDirectory files from)
    (of : IsDirectoryOf (directory_in files from) from (get_or parents k 0))
    (added : AddsChildren (entries_of (directory_in files from)) from numbers parents again new up rest) where
  abbrev es : List (List ℕ)
  es = entries_of (directory_in files from)

  abbrev more : List ℕ
  more = added.more

  abbrev ups : List ℕ
  ups = replicate (length added.more) from

  -- an entry that leads down is a step
  entry_step : (j n : ℕ) → j < length es → LeadsAt es j n → StepsDown files from (name_in (entry_at (directory_in files from) j)) n
  entry_step j n low leads =
      subst (λ (i : ℕ). StepsDown files from (name_in (entry_at (directory_in files from) j)) i) leads.1
      (step_of_entry files from j directory of.tidy low leads.0)

  -- what it leads down to is behind the others, or was found again
  new_found : (number : ℕ) (name : List ℕ) → StepsDown files from name number → WasFound (numbers ++ more) (parents ++ ups) k number ⊎ IsAmong rest number
  new_found number name step =
      let few : length parents ≡ length numbers = found.few in
      let long : length (numbers ++ more) ≡ length numbers + length more = length-append numbers more in
      let entry = entry_of_step files from number name step in
      ⊎_elim
      (λ (s : IsAmong more number).
      let s_inside : s.place < length more = s.inside in
      let b = is_behind numbers parents more ups (length numbers + s.place) s.place few refl in
      inl (record {
        place = length numbers + s.place;
        behind = omega arith;
        inside = omega arith;
        is = b.number ∙ s.is;
        parent = b.parent ∙ get_or-replicate (length more) s.place from 0 s_inside ∙ sym is ∙ sym (get_or_append_left numbers more 0 k inside);
      }))
      (λ (s : IsAmong rest number). inr s)
      (added.each entry.place number entry.inside (entry.down, entry.is))

  -- and has its name there
  new_name : (m : ℕ) → length numbers ≤ m → m < length (numbers ++ more) → HasName files (k + 1) (numbers ++ more) (parents ++ ups) m
  new_name m low high =
      let few : length parents ≡ length numbers = found.few in
      let long : length (numbers ++ more) ≡ length numbers + length more = length-append numbers more in
      let p : ℕ = m - length numbers in
      let b = is_behind numbers parents more ups m p few (omega arith) in
      let entry = added.lead (get_or more p 0) (record { place = p; inside = omega arith; is = refl }) in
      let name : List ℕ = name_in (entry_at (directory_in files from) entry.place) in
      let step = entry_step entry.place (get_or more p 0) entry.inside entry.leads in
      let here : get_or (numbers ++ more) k 0 ≡ from = get_or_append_left numbers more 0 k inside ∙ is in
      record {
        from = k;
        before = omega arith;
        seen = omega arith;
        parent = here ∙ sym (b.parent ∙ get_or-replicate (length more) p from 0 (omega arith));
        name = name;
        step = subst (λ (i : ℕ). StepsDown files i name (get_or (numbers ++ more) m 0)) (sym here)
            (subst (λ (i : ℕ). StepsDown files from name i) (sym b.number) step);
      }

  -- by one name, or it was found again
  one_name : (number : ℕ) (x y : List ℕ) → StepsDown files from x number → StepsDown files from y number → (x ≡ y) ⊎ IsAmong rest number
  one_name number x y to_x to_y =
      let a = entry_of_step files from number x to_x in
      let b = entry_of_step files from number y to_y in
      ⊎_elim
      (λ (same : a.place ≡ b.place).
      inl (sym (name_of_entry x (get_or es a.place []) a.is_for) ∙ ap (λ (i : ℕ). name_in (get_or es i [])) same
      ∙ name_of_entry y (get_or es b.place []) b.is_for))
      (λ (s : IsAmong rest number). inr s)
      (added.pairs a.place b.place number a.inside b.inside (a.down, a.is) (b.down, b.is))

  -- what it leads down to again
  again_before : (number : ℕ) (name : List ℕ) → StepsDown files from name number → IsAmong numbers number → IsNamedAgain files number
  again_before number name step before =
      ⊎_elim
      (λ (at_root : before.place ≡ 0).
      record { from = from; name = name; leads = step; again = inl (sym before.is ∙ ap (λ (i : ℕ). get_or numbers i 0) at_root ∙ found.first) })
      (λ (behind : before.place ≢ 0).
      let has = found.up before.place (omega (arith, behind)) before.inside in
      let seen : has.from < k = has.seen in
      record {
        from = from;
        name = name;
        leads = step;
        again = inr (record {
          other = get_or numbers has.from 0;
          second = has.name;
          apart = inl (λ same. let one : has.from ≡ k = found.apart.same has.from k (omega arith) inside (same ∙ sym is) in absurd (omega arith));
          leads = subst (λ (i : ℕ). StepsDown files (get_or numbers has.from 0) has.name i) before.is has.step;
        });
      })
      (cases_eq before.place 0)

  named_again : (number : ℕ) → HasTwice es (length es) numbers number → IsNamedAgain files number
  named_again number has =
      let name : List ℕ = name_in (entry_at (directory_in files from) has.place) in
      let step = entry_step has.place number has.inside has.leads in
      ⊎_elim (λ (before : IsAmong numbers number). again_before number name step before)
      (λ (o : (other : ℕ) × (other < length es) × (other ≢ has.place) × LeadsAt es other number).
      let second : List ℕ = name_in (entry_at (directory_in files from) o.0) in
      record {
        from = from;
        name = name;
        leads = step;
        again = inr (record {
          other = from;
          second = second;
          apart = inr (λ same.
              o.2 ((of.tidy.once name).same o.0 has.place
              (o.1, subst (λ (l : List ℕ). is_for l (get_or es o.0 []) ≡ true) same (for_its_name (get_or es o.0 []) o.3.0))
              (has.inside, for_its_name (get_or es has.place []) has.leads.0)));
          leads = entry_step o.0 number o.1 o.3;
        });
      })
      has.again

  found_again : (number : ℕ) → IsAmong rest number → IsAmong (numbers ++ more) number × IsNamedAgain files number
  found_again number s =
      ⊎_elim
      (λ (before : IsAmong again number). let was = found.twice number before in (among_left numbers more number was.0, was.1))
      (λ (t : IsAmong new number × HasTwice es (length es) numbers number).
      (subst (λ (l : List ℕ). IsAmong l number) added.numbers_are t.0, named_again number t.1))
      (added.twice number s)

  pub next_directory : HasFound files (k + 1) new up rest
  next_directory =
      let few : length parents ≡ length numbers = found.few in
      let long : length (numbers ++ more) ≡ length numbers + length more = length-append numbers more in
      let some : 0 < length numbers = found.some in
      let long_up : length (parents ++ ups) ≡ length parents + length ups = length-append parents ups in
      let count : length ups ≡ length more = length-replicate (length more) from in
      let at : (j : ℕ) → j < length numbers → get_or (numbers ++ more) j 0 ≡ get_or numbers j 0 = λ j low. get_or_append_left numbers more 0 j low in
      let at_up : (j : ℕ) → j < length numbers → get_or (parents ++ ups) j 0 ≡ get_or parents j 0 =
      λ j low. get_or_append_left parents ups 0 j (omega arith) in
      let at_k : (j : ℕ) → j ≡ k → get_or (numbers ++ more) j 0 ≡ from =
      λ j same. ap (λ (i : ℕ). get_or (numbers ++ more) i 0) same ∙ at k inside ∙ is in
      let all : HasFound files (k + 1) (numbers ++ more) (parents ++ ups) rest = record {
        few = omega arith;
        some = omega arith;
        low = omega arith;
        first = at 0 some ∙ found.first;
        top = at_up 0 some ∙ found.top;
        apart = subst (λ (l : List ℕ). AreApart l) added.numbers_are added.apart;
        there = λ j seen.
            ⊎_elim (λ (before : j < k). subst (λ (i : ℕ). IsFile files i) (sym (at j (omega arith))) (found.there j before))
            (λ (same : j ≡ k). subst (λ (i : ℕ). IsFile files i) (sym (at_k j same)) (directory_is_file files from directory)) (at_last j k seen);
        directories = λ j seen now.
            ⊎_elim
            (λ (before : j < k).
            subst (λ (i : ℕ). IsDirectoryOf (directory_in files (get_or (numbers ++ more) j 0)) (get_or (numbers ++ more) j 0) i) (sym (at_up j (omega arith)))
            (subst (λ (i : ℕ). IsDirectoryOf (directory_in files i) i (get_or parents j 0)) (sym (at j (omega arith)))
            (found.directories j before (subst (λ (i : ℕ). IsDirectory files i) (at j (omega arith)) now))))
            (λ (same : j ≡ k).
            let parent : get_or (parents ++ ups) j 0 ≡ get_or parents k 0 = ap (λ (i : ℕ). get_or (parents ++ ups) i 0) same ∙ at_up k inside in
            subst (λ (i : ℕ). IsDirectoryOf (directory_in files (get_or (numbers ++ more) j 0)) (get_or (numbers ++ more) j 0) i) (sym parent)
            (subst (λ (i : ℕ). IsDirectoryOf (directory_in files i) i (get_or parents k 0)) (sym (at_k j same)) of)) (at_last j k seen);
        down = λ j number name seen step.
            ⊎_elim
            (λ (before : j < k).
            ⊎_elim (λ (w : WasFound numbers parents j number). inl (found_more numbers parents more ups j number (omega arith) few w))
            (λ (s : IsAmong again number). inr (added.kept number s))
            (found.down j number name before (subst (λ (i : ℕ). StepsDown files i name number) (at j (omega arith)) step)))
            (λ (same : j ≡ k).
            subst (λ (i : ℕ). WasFound (numbers ++ more) (parents ++ ups) i number ⊎ IsAmong rest number) (sym same)
            (new_found number name (subst (λ (i : ℕ). StepsDown files i name number) (at_k j same) step))) (at_last j k seen);
        names = λ j number x y seen to_x to_y.
            ⊎_elim
            (λ (before : j < k).
            ⊎_elim (λ (same : x ≡ y). inl same) (λ (s : IsAmong again number). inr (added.kept number s))
            (found.names j number x y before (subst (λ (i : ℕ). StepsDown files i x number) (at j (omega arith)) to_x)
            (subst (λ (i : ℕ). StepsDown files i y number) (at j (omega arith)) to_y)))
            (λ (same : j ≡ k).
            one_name number x y (subst (λ (i : ℕ). StepsDown files i x number) (at_k j same) to_x)
            (subst (λ (i : ℕ). StepsDown files i y number) (at_k j same) to_y)) (at_last j k seen);
        up = λ m behind high.
            ⊎_elim
            (λ (low : m < length numbers).
            name_later files k (numbers ++ more) (parents ++ ups) m (old_name files numbers parents more ups k m few found.low low (found.up m behind low)))
            (λ (past : length numbers ≤ m). new_name m past high)
            (cases_lt m (length numbers));
        twice = found_again;
      } in
      subst (λ (l : List ℕ). HasFound files (k + 1) l up rest) (sym added.numbers_are)
      (subst (λ (l : List ℕ). HasFound files (k + 1) (numbers ++ more) l rest) (sym added.parents_are) all)
