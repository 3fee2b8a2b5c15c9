use Rattle.std.proofs.Common.{◌≡◌, ◌∙◌, ◌++◌, ℕ, List, length, get_or, drop, take, ap, subst, arith}
use Rattle.blocks.specs.Disk.{Image}
use Rattle.model.specs.Log.{recovered}
use Rattle.inspect.specs.Owned.{owned_by_all}
use Rattle.inspect.specs.Signs.{sign_among}
use Rattle.inspect.proofs.PlaceLemmas.{all_inside, all_once, signs_whole, size_is}
use Rattle.inspect.proofs.TextLemmas.{written_whole}
use Rattle.inspect.proofs.signs.gather_signs.Goals as goal

pub sign_owned-requires-clause-inside : goal.sign_owned-requires-clause-inside
sign_owned-requires-clause-inside g c = λ k d low.
    let x = g.D.Disk.image c.args.disk.now in
    let all = c.as_slice.ensures.value ∙ c.in_ok-owned.ensures.all ∙ ap (λ (z : Image). owned_by_all (recovered z)) c.open_checked.ensures.reads.image in
    let there = all_inside x c.as_slice.result.now c.in_ok-image.ensures.ok.sound all k d low in
    let size = size_is x c.in_ok-image.image c.in_ok-image.ensures.ok.recovered in
    omega (arith, there, size, c.deref_mut.ensures.len, c.in_ok-signs.ensures.len)

pub sign_owned-requires-clause-once : goal.sign_owned-requires-clause-once
sign_owned-requires-clause-once g c =
    let x = g.D.Disk.image c.args.disk.now in
    let all = c.as_slice.ensures.value ∙ c.in_ok-owned.ensures.all ∙ ap (λ (z : Image). owned_by_all (recovered z)) c.open_checked.ensures.reads.image in
    all_once x c.as_slice.result.now c.in_ok-image.ensures.ok.sound all

pub returns-clause-signs : goal.returns-clause-signs
returns-clause-signs g c =
    let x = g.D.Disk.image c.args.disk.now in
    let image = c.in_ok-image.image in
    let opened = c.in_ok-image.ensures.ok in
    let items = c.in_ok-signs.signs.items in
    let len = c.in_ok-signs.signs.len in
    let first = c.sign_owned.new.signs in
    let last = c.sign_others.new.signs in
    let size = size_is x image opened.recovered in
    let count : length items ≡ length x = omega (arith, size, ap length c.deref_mut.ensures.value, c.deref_mut.ensures.len, c.in_ok-signs.ensures.len) in
    let whole : len ≡ length items = omega (arith, count, size, c.in_ok-signs.ensures.len) in
    let first_long : length first ≡ length items = omega (arith, c.sign_owned.auto.signs, ap length c.deref_mut.ensures.value) in
    let written = written_whole first items len first_long whole in
    let mid : c.deref_mut-2.result.now ≡ first = c.deref_mut-2.ensures.value ∙ written in
    let last_long : length last ≡ length first = omega (arith, c.sign_others.auto.signs, ap length mid) in
    let all = c.as_slice.ensures.value ∙ c.in_ok-owned.ensures.all ∙ ap (λ (z : Image). owned_by_all (recovered z)) c.open_checked.ensures.reads.image in
    ap (λ (l : List ℕ). take len (last ++ drop (length last) l)) written
    ∙ written_whole last first len last_long (omega (arith, whole, first_long))
    ∙ signs_whole x image c.as_slice.result.now first last opened.recovered all (omega (arith, first_long, count)) (omega (arith, last_long, first_long, count))
    (λ b low. c.sign_owned.ensures.signed b (omega (arith, low, c.sign_owned.auto.signs)))
    (λ b low.
    subst (λ (l : List ℕ). get_or last b 0 ≡ sign_among image.header.homes.items image.sup b (get_or l b 0)) mid
    (c.sign_others.ensures.signed b (omega (arith, low, ap length mid))))
