use Rattle.std.proofs.Common.{◌≡◌, ◌+◌, ◌≤◌, ◌++◌, ◌∙◌, ℕ, List, ap, append_assoc, arith, drop, length, sym, take}
use Rattle.std.proofs.lemmas.List.{drop-drop}
use Rattle.std.specs.Prelude.{Some}
use Rattle.blocks.specs.Common.{length-drop, length-take-le, overwritten, take-append-drop}
use Rattle.test_disks.proofs.known_file.KnownFilePlaced.write_at.Goals as goal

-- what stands at a place, written there again
same_again : (xs : List ℕ) (at n : ℕ) → at + n ≤ length xs → overwritten xs at (take n (drop at xs)) ≡ xs
same_again xs at n inside =
    let there : List ℕ = take n (drop at xs) in
    let size : length there ≡ n = length-take-le n (drop at xs) (omega (arith, length-drop at xs)) in
    let behind : drop (at + length there) xs ≡ drop n (drop at xs) = ap (λ (k : ℕ). drop (at + k) xs) size ∙ sym (drop-drop n at xs) in
    ap (λ (l : List ℕ). (take at xs ++ there) ++ l) behind ∙ append_assoc (take at xs) there (drop n (drop at xs))
    ∙ ap (λ (l : List ℕ). take at xs ++ l) (take-append-drop n (drop at xs)) ∙ take-append-drop at xs

pub returns-then-self-clause-bytes : goal.returns-then-self-clause-bytes
returns-then-self-clause-bytes c inside =
    let xs = c.args.self.now.bytes.items in
    let n = length c.args.from.now in
    record {
      torn = take n (drop c.args.place xs);
      size = length-take-le n (drop c.args.place xs) (omega (arith, inside, length-drop c.args.place xs));
      there = ap (λ (l : List ℕ). Some l) (sym (same_again xs c.args.place n inside));
    }
