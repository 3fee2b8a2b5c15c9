use Rattle.std.proofs.Common.{◌≡◌, ◌∙◌, ◌<◌, ◌*◌, ◌/◌, ℕ, List, length, inl, refl, sym, ap, subst, arith}
use Rattle.std.specs.Simd.{first_chunks}
use Rattle.blocks.specs.Disk.{Image, block_at}
use Rattle.model.specs.Log.{recovered}
use Rattle.model.specs.Verdict.{verdict}
use Rattle.sessions.specs.declared.session.Told.{Told}
use Rattle.xvfs_c.proofs.Chunks.{chunk_size, length-first_chunks}
use Rattle.xvfs_c.proofs.Homing.{alike_at, done_at, told_inside}
use Rattle.xvfs_c.proofs.recovering.xvfs_recover_step.Goals as goal
use Rattle.xvfs_c.proofs.recovering.xvfs_recover_step.Goals.{then-place-eq0+in_default-check_bytes, else-place-eq0}
use Rattle.xvfs_c.specs.Numbers.{told_number}
use Rattle.xvfs_c.specs.Recovering.{laid_bytes}

pub returns-in-Err-clause-refused : goal.returns-in-Err-clause-refused
returns-in-Err-clause-refused c = λ _ _ _. (
  first_chunks 1024 c.in-Some.count c.args.image.now,
  record { count = c.in-Some.count; blocks = c.in-Some.ensures.some; is = refl },
  inl (c.if-place-eq0.true, (c.in-Err.fault, c.in-Err.ensures.fault, ap (λ (p : ℕ × ℕ). p.0) c.check_number.ensures)),
)

-- the blocks of whole bytes
sized : (bytes : List ℕ) (count : ℕ) (x : Image) → length bytes ≡ count * 1024 → x ≡ first_chunks 1024 count bytes → (b : ℕ) → b < length x → length (block_at x b) ≡ 1024
sized bytes count x whole is b lt =
    ap (λ (y : Image). length (block_at y b)) is ∙ chunk_size count bytes b whole (omega (arith, lt, ap (λ (y : Image). length y) is, length-first_chunks count bytes))

pub lawful_header-requires-clause-sizes : goal.lawful_header-requires-clause-sizes
lawful_header-requires-clause-sizes c =
    let bytes = c.args.image.now in
    let count : length bytes / 1024 ≡ c.in-Some.count = omega (arith, c.in-Some.ensures.some.whole) in
    sized bytes c.in-Some.count c.as_chunks.result.0.now c.in-Some.ensures.some.whole (c.as_chunks.ensures.front ∙ ap (λ (n : ℕ). first_chunks 1024 n bytes) count)

pub tell_at-told-requires-clause-sizes : goal.tell_at-told-requires-clause-sizes
tell_at-told-requires-clause-sizes c =
    let bytes = c.args.image.now in
    let count : length bytes / 1024 ≡ c.in-Some.count = omega (arith, c.in-Some.ensures.some.whole) in
    sized bytes c.in-Some.count c.as_chunks.result.0.now c.in-Some.ensures.some.whole (c.as_chunks.ensures.front ∙ ap (λ (n : ℕ). first_chunks 1024 n bytes) count)

pub returns-clause-done : goal.returns-clause-done
returns-clause-done c = λ _.
    let bytes = c.args.image.now in
    let x : Image = c.as_chunks.result.0.now in
    let count : length bytes / 1024 ≡ c.in-Some.count = omega (arith, c.in-Some.ensures.some.whole) in
    let is : x ≡ first_chunks 1024 c.in-Some.count bytes = c.as_chunks.ensures.front ∙ ap (λ (n : ℕ). first_chunks 1024 n bytes) count in
    let lawful = c.in-Some-lawful_header.ensures.lawful in
    let long : 2 < length x = let l = c.in-Some-lawful_header.ensures.long in omega (arith, l) in
    let tells : c.told_number-wrote.result ≡ told_number _ = c.told_number-wrote.ensures ∙ ap told_number c.tell_at-told.ensures.told in
    record {
      image = x;
      has = record { count = c.in-Some.count; blocks = c.in-Some.ensures.some; is = is };
      sound = λ first. elim c.if-place-eq0.branch [
        | then-place-eq0+in_default-check_bytes w ↦ ap (λ (y : Image). verdict y) is ∙ w.in_default-check_bytes.ensures.sound
        | else-place-eq0 w ↦ absurd (w.if-place-eq0.false first)
      ];
      lawful = lawful;
      tells = tells;
      inside = λ wrote.
          subst (λ (p : ℕ × ℕ × ℕ). p.1 < length x) (sym tells)
          (told_inside x lawful long c.args.place (subst (λ (p : ℕ × ℕ × ℕ). p.0 ≡ 1) tells wrote));
      laid = c.tell_at-told.ensures.laid ∙ ap (λ (t : Told). laid_bytes t (recovered x) c.args.block.now) c.tell_at-told.ensures.told;
      alike = alike_at x lawful long;
      done = done_at x lawful long c.args.place;
    }
