-- Where an image stands for files, that of each used number which no task holds may be read.
use Rattle.std.proofs.Common.{ℕ, ◌≤◌, Option, sym, subst, arith, List}
use Rattle.blockmap.specs.Common.{Claim, count_of, depths, form_of, Image, inode_of, LiesInData, names_along, names_claimed}
use Rattle.model.specs.Places.{address_in}
use Rattle.in_flight.specs.Lemmas.HeldFrames.{claimed_in_data, whole_names}
use Rattle.in_flight.specs.Lemmas.HeldLooks.{resting_tells}
use Rattle.in_flight.specs.Lemmas.Looks.{between}
use Rattle.blockmap.specs.Lemmas.Targets.{lies_named, needed_within}
use Rattle.blockmap.specs.Reading.{LiesBehindLog, RestingMayBeRead}

behind_log : (x : Image) (b : ℕ) → LiesInData x b → LiesBehindLog x b
behind_log x b there = let from = there.0 in (omega arith, there.1)

pub resting_may_be_read : RestingMayBeRead
resting_may_be_read m x claims i f used rests =
    let d = inode_of x i in
    let tells = resting_tells m x claims i f used rests in
    let fit = tells.its.fit in
    let at = between x i used.0 in
    let named : (b : ℕ) → 1 ≤ count_of b (names_along x (depths (form_of x)) d.addrs) → LiesInData x b = λ b some.
    claimed_in_data m x claims i b f at.low at.high
    (subst (λ (o : Option Claim). 1 ≤ count_of b (names_claimed x i o)) (sym rests)
    (subst (λ (l : List ℕ). 1 ≤ count_of b l) (sym (whole_names x d fit.used)) some)) in
    record {
      full = f.full;
      fit = fit;
      blocks = λ k needed. behind_log x (address_in x d k) (tells.blocks.needed k needed);
      ways = λ k n needed lies. behind_log x n.block (named n.block (lies_named x d k n lies (needed_within x d k fit needed)));
    }
