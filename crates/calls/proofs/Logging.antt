-- What an operation adds to the homes of the log: no more than it may log.
use Rattle.std.proofs.Common.{◌≡◌, ◌∙◌, ◌+◌, ◌<◌, ◌≤◌, inl, inr, ℕ, Bool, true, false, [], ◌∷◌, length, Some, None, refl, sym, ap, subst, arith}
use Rattle.std.proofs.lemmas.Bool.{cases_lt}
use Rattle.std.proofs.lemmas.List.{get_or_past, length-append, length-set}
use Rattle.model.specs.declared.types.image.Form.{Form}
use Rattle.model.specs.declared.types.operations.Op.{Op}
use Rattle.model.specs.declared.types.operations.Op.TheVariants.{Create, Write, Read, Trunc, Remove, Stat, SetAttribute}
use Rattle.wal.specs.Lemmas.Rooms.{homes_ended, noted_home, noted_new, used_first, used_noted_new}
use Rattle.wal.specs.Machine.{LogState, added_by, begun, ended, is_among, noted, used_by}
use Rattle.inodes.specs.Steps.{LogsAtMost, LogsBlock}
use Rattle.inodes.specs.Writing.{most_logged}
use Rattle.calls.specs.Calls.{is_look}

-- beside so many homes of before, the log has those that process p's operation added, which are few
pub record Grown (most h p : ℕ) (l : LogState) : Type 0 where
  pub homes : length l.homes ≤ h + added_by (used_by l p)
  pub few : added_by (used_by l p) ≤ most

added_begun : (l : LogState) (p : ℕ) → added_by (used_by (begun l p) p) ≡ 0
added_begun l p = elim (cases_lt p (length l.used)) [
  | inl lt ↦ ap added_by (used_first l p lt)
  | inr past ↦
      let many : length (begun l p).used ≡ length l.used = length-set l.used p (Some 0) in
      ap added_by (get_or_past (begun l p).used p None (omega (arith, many, past)))
]

-- an operation that begins has added none
pub grown_begun : (most h p : ℕ) (l : LogState) → length l.homes ≤ h → Grown most h p (begun l p)
grown_begun most h p l few = let none = added_begun l p in record { homes = omega (arith, none, few); few = omega (arith, none) }

-- and one that ends leaves what it added
pub grown_ended : (most h p : ℕ) (l : LogState) → Grown most h p l → length (ended l p).homes ≤ h + most
grown_ended most h p l grown = let same = ap length (homes_ended l p) in omega (arith, same, grown.homes, grown.few)

block_grown : (most h p : ℕ) (l m : LogState) → Grown most h p l → LogsBlock most l p m → Grown most h p m
block_grown most h p l m grown one = subst (Grown most h p) (sym one.is) (by (is_among one.block l.homes) refl)
  where
    inside : p < length l.used
    inside = elim (cases_lt p (length l.used)) [
      | inl lt ↦ lt
      | inr past ↦ let none : None ≡ Some one.added = sym (get_or_past l.used p None past) ∙ one.used in absurd (cc none)
    ]

    by : (t : Bool) → is_among one.block l.homes ≡ t → Grown most h p (noted l p one.block)
    by true home = subst (Grown most h p) (sym (noted_home l p one.block home)) grown
    by false other =
        let homes : length (noted l p one.block).homes ≡ length l.homes + 1 = ap (λ (n : LogState). length n.homes) (noted_new l p one.block other) ∙ length-append l.homes (one.block ∷ []) in
        let now : added_by (used_by (noted l p one.block) p) ≡ one.added + 1 = ap added_by (used_noted_new l p one.block one.added inside one.used other) in
        let was : added_by (used_by l p) ≡ one.added = ap added_by one.used in
        record { homes = omega (arith, homes, now, was, grown.homes); few = omega (arith, now, one.few) }

pub grown_on : (most h p : ℕ) (l m : LogState) → LogsAtMost most l p m → Grown most h p l → Grown most h p m
grown_on most h p l m (inl same) grown = subst (Grown most h p) (sym same) grown
grown_on most h p l m (inr one) grown = block_grown most h p l m grown one

-- who looks logs nothing
look_logs_none : (form : Form) (op : Op) → is_look op ≡ true → most_logged form op ≡ 0
look_logs_none form (Create kind) look = absurd (cc look)
look_logs_none form (Write i off bytes) look = absurd (cc look)
look_logs_none form (Read i off n) look = refl
look_logs_none form (Trunc i) look = absurd (cc look)
look_logs_none form (Remove i) look = absurd (cc look)
look_logs_none form (Stat i) look = refl
look_logs_none form (SetAttribute i a) look = absurd (cc look)

pub look_leaves : (form : Form) (op : Op) (h p : ℕ) (l m : LogState) → is_look op ≡ true → LogsAtMost (most_logged form op) l p m → length l.homes ≤ h → length m.homes ≤ h
look_leaves form op h p l m look (inl same) few = let homes = ap (λ (n : LogState). length n.homes) same in omega (arith, homes, few)
look_leaves form op h p l m look (inr one) few = let none = look_logs_none form op look in absurd (omega (arith, none, one.few))
