-- What was shortened converts back.
use Rattle.std.proofs.Common.{◌≡◌, ℕ, true, length, None, refl, ap, ◌∙◌, subst, le-leb, arith}
use Rattle.model.specs.Common.{files_of, super_of}
use Rattle.model.specs.declared.types.image.Super.{Super}
use Rattle.model.specs.Lemmas.Soundness.{facts_of}
use Rattle.model.specs.Verdict.{verdict}
use Rattle.conversion.specs.Common.{chosen_size, goal_in, is_room, least_size}
use Rattle.conversion.specs.Moving.{moved_image}
use Rattle.conversion.specs.Shortened.{ShortenedOnesConvert}
use Rattle.conversion.proofs.FitLemmas.{none_refused, older_facts}
use Rattle.conversion.proofs.OverLemmas.{files_come_over, sound_where_judged}
use Rattle.conversion.proofs.OwnLemmas.{our_log, sound_ones_convert}

pub shortened_ones_convert : ShortenedOnesConvert
shortened_ones_convert x y to log is judged empty done =
    let sound = sound_where_judged x empty judged in
    let facts = facts_of x sound.geometry in
    let own = our_log (super_of x) (length x) sound.geometry.fields in
    let older = older_facts y done.sound.fields in
    let nlog : (super_of y).nlog ≡ to = ap (λ (t : Super). t.nlog) done.fields in
    let small : (super_of y).size ≡ goal_in (super_of x) to (super_of x).size = ap (λ (t : Super). t.size) done.fields in
    let size : least_size y 31 ≡ length x = omega (arith, nlog, small, own, facts.size, facts.room, older.most) in
    let low = le-leb (least_size y 31) (least_size y 31) (omega arith) in
    let high = le-leb (least_size y 31) 8191 (omega (arith, size, facts.size, facts.small)) in
    let room : is_room y 31 (chosen_size y 31 None) ≡ true = rw (low, high) refl in
    let none = none_refused y 31 None (omega (arith, older.size, older.room)) done.sound.magic done.sound.fields done.sound.empty_log room in
    let there = sound_ones_convert y None is done.sound none in
    let whole : chosen_size y 31 None ≡ length x = size in
    record {
      taken = none;
      size = whole;
      judged = subst (λ (n : ℕ). verdict (moved_image y 31 n) ≡ None) whole there;
      files = subst (λ (n : ℕ). files_of (moved_image y 31 n) ≡ files_of x) whole ((files_come_over y None is none there).files ∙ done.files);
    }
