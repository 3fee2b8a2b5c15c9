-- What a whole run of a reading gathers.
use Rattle.std.proofs.Common.{◌≡◌, ◌≢◌, ℕ, ◌+◌, ◌-◌, ◌/◌, ◌<◌, ◌++◌, Bool, true, false, List, [], ◌∷◌, length, min, refl, sym, ap, ◌∙◌, append_assoc, Some, arith}
use Rattle.std.specs.Prelude.{◌||◌, nat_le, ◌==◌}
use Rattle.inodes.specs.Common.{Dinode, eqb-false, eqb-true, first_read, Form, GatheredBytes, Ghosts, leb-false, length-bytes, or_parts, part_cut, part_in_two, part_of, ReadState, target_for}
use Rattle.inodes.specs.ReadRuns.{ReadMade, IsReadRun, EndsWithBytes, ReadsPart}

-- the bytes that a run gathers behind those that were there
rest_of_run : {D N : Type 0} (disk : Ghosts D N) (p : ℕ) (file bytes : List ℕ) (m : ReadState) (g : GatheredBytes) (steps : List (ReadMade D)) →
    IsReadRun disk p file m g steps → EndsWithBytes steps bytes → bytes ≡ g.bytes ++ part_of file m.next (m.end - m.next)
rest_of_run disk p file bytes m g [] run ends = absurd ends
rest_of_run disk p file bytes m g (step ∷ []) run ends =
    let s = run.2 in
    let last : step.reading.next ≡ step.reading.end = eqb-true step.reading.next step.reading.end (sym s.over ∙ ends.0) in
    let same : step.reading.next - m.next ≡ m.end - m.next = ap (λ k. k - m.next) (last ∙ s.end) in
    sym ends.1 ∙ s.gathers.bytes
    ∙ ap (λ l. g.bytes ++ part_of l m.next (step.reading.next - m.next)) run.1
    ∙ ap (λ k. g.bytes ++ part_of file m.next k) same
rest_of_run disk p file bytes m g (step ∷ next ∷ rest) run ends =
    let s = run.2 in
    let n = step.reading in
    let later = s.gathers.later in
    let end = s.end in
    let at : m.next + (n.next - m.next) ≡ n.next = omega (arith, later) in
    let first = part_of file m.next (n.next - m.next) in
    rest_of_run disk p file bytes n step.gathered (next ∷ rest) run.3 ends
    ∙ ap (λ l. l ++ part_of file n.next (n.end - n.next)) (s.gathers.bytes ∙ ap (λ l. g.bytes ++ part_of l m.next (n.next - m.next)) run.1)
    ∙ append_assoc g.bytes first (part_of file n.next (n.end - n.next))
    ∙ ap (λ l. g.bytes ++ l)
    (ap (λ k. first ++ part_of file k (n.end - n.next)) (sym at)
    ∙ sym (part_in_two file m.next (n.next - m.next) (n.end - n.next))
    ∙ ap (part_of file m.next) (omega (arith, later, run.3.0.some, end)))

-- where a reading begins, which there is where the offset lies before the end and some bytes are asked for
pub record Begins (its : Form) (d : Dinode) (offset count : ℕ) (m : ReadState) : Type 0 where
  pub inode : m.inode ≡ d
  pub form : m.form ≡ its
  pub next : m.next ≡ offset
  pub end : m.end ≡ min d.size (offset + count)
  pub target : m.target ≡ target_for its d (offset / 1024)
  pub before : offset < d.size
  pub some : count ≢ 0

pub begins : (form : Form) (d : Dinode) (offset count : ℕ) (m : ReadState) → first_read form d offset count ≡ Some m → Begins form d offset count m
begins form d offset count m is = by_none (nat_le d.size offset || (count == 0)) refl
  where
    by_none : (b : Bool) → (nat_le d.size offset || (count == 0)) ≡ b → Begins form d offset count m
    by_none true none = absurd (cc (is, none))
    by_none false some =
        let first : ReadState = record { inode = d; form = form; next = offset; end = min d.size (offset + count); target = target_for form d (offset / 1024) } in
        let same : m ≡ first = sym (cc (rw some at is)) in
        record {
          inode = ap (λ (o : ReadState). o.inode) same;
          form = ap (λ (o : ReadState). o.form) same;
          next = ap (λ (o : ReadState). o.next) same;
          end = ap (λ (o : ReadState). o.end) same;
          target = ap (λ (o : ReadState). o.target) same;
          before = leb-false d.size offset (or_parts (nat_le d.size offset) (count == 0) some).0;
          some = eqb-false count 0 (or_parts (nat_le d.size offset) (count == 0) some).1;
        }

pub reads_part : {D N : Type 0} (disk : Ghosts D N) → ReadsPart disk
reads_part disk form d offset count p file bytes m g steps first none run ends = by_steps steps run ends
  where
    b : Begins form d offset count m
    b = begins form d offset count m first

    by_steps : (all : List (ReadMade _)) → IsReadRun disk p file m g all → EndsWithBytes all bytes → bytes ≡ part_of file offset count
    by_steps [] run ends = absurd ends
    by_steps (step ∷ rest) run ends =
        let long : length file ≡ d.size = ap length (sym run.1) ∙ length-bytes _ m.inode run.0.may ∙ ap (λ (o : Dinode). o.size) b.inode in
        let next = b.next in
        let end = b.end in
        rest_of_run disk p file bytes m g (step ∷ rest) run ends
        ∙ ap (λ l. l ++ part_of file m.next (m.end - m.next)) none
        ∙ ap (λ k. part_of file k (m.end - m.next)) next
        ∙ ap (part_of file offset) (omega (arith, long, next, end))
        ∙ sym (part_cut file offset count (omega (arith, long, run.0.some, run.0.inside, next, (ap (λ (o : Dinode). o.size) b.inode))))
