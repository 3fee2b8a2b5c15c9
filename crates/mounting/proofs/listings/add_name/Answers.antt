use Rattle.fuse.specs.Answers.{directory_entry_bytes}
use Rattle.directories.specs.Entries.{number_in, text_in}
use Rattle.std.proofs.lemmas.List.{append_assoc, take-replicate}
use Rattle.std.proofs.Common.{◌≡◌, ◌∙◌, ◌++◌, ℕ, List, length, replicate, ap, arith, take}
use Rattle.mounting.proofs.listings.add_name.Goals as goal

pub returns-clause-tells : goal.returns-clause-tells
returns-clause-tells g =
    let text : List ℕ = text_in g.args.entry.now in
    let z = g.padding_of.result in
    let few = g.padding_of.ensures.few in
    let same : g.text_in-name.result.now ≡ text = g.text_in-name.ensures.text in
    let size : length g.text_in-name.result.now ≡ length text = ap (λ (l : List ℕ). length l) same in
    let old = g.args.out.now.items in
    let head = g.directory_entry.result in
    let rest : List ℕ = replicate z 0 in
    let head_is : head ≡ directory_entry_bytes (number_in g.args.entry.now) g.args.next (length text) g.args.kind = g.directory_entry.ensures.value ∙ ap (λ (n : ℕ). directory_entry_bytes n g.args.next (length g.text_in-name.result.now) g.args.kind) (g.from-file.ensures ∙ g.number_in.ensures) ∙ ap (λ (n : ℕ). directory_entry_bytes (number_in g.args.entry.now) g.args.next n g.args.kind) size in
    let zeroes : take z (replicate 8 0) ≡ rest = take-replicate z 8 0 (omega (arith, few)) in
    record {
      zeroes = z;
      few = few;
      whole = let whole = g.padding_of.ensures.whole in omega (arith, whole, size);
      is = g.in_ok-extend_from_slice-3.ensures.items
          ∙ ap (λ (l : List ℕ). g.extend_from_slice-2.new.self.items ++ l) zeroes
          ∙ ap (λ (l : List ℕ). l ++ rest) (g.in_ok-extend_from_slice-2.ensures.items ∙ ap (λ (l : List ℕ). g.extend_from_slice.new.self.items ++ l) same ∙ ap (λ (l : List ℕ). l ++ text) g.in_ok-extend_from_slice.ensures.items)
          ∙ append_assoc (old ++ head) text rest
          ∙ append_assoc old head (text ++ rest)
          ∙ ap (λ (l : List ℕ). old ++ (l ++ (text ++ rest))) head_is;
    }
