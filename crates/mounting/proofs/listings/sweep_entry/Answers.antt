use Rattle.std.proofs.Common.{◌∙◌, ℕ, List, subst, sym}
use Rattle.directories.specs.Trees.{root}
use Rattle.mounting.specs.Asides.{IsAside}
use Rattle.mounting.specs.Changes.{RemovesName}
use Rattle.names.specs.Inside.{form_seen}
use Rattle.mounting.proofs.listings.sweep_entry.Goals as goal

pub returns-in-Err : goal.returns-in-Err
returns-in-Err g c = record { ready = c.remove_in.ensures.ready; makes = λ task o first within before. (c.remove_in.ensures.makes task o first (λ x z is. within x z (c.text_in-2.result.now, (subst IsAside (c.text_in.ensures.text ∙ sym c.text_in-2.ensures.text) (sym c.if-not-is_aside.ensures), subst (λ (name : List ℕ). RemovesName root name (form_seen g.D.Disk.image o) x z) c.in_ok-name.ensures.name is))) before) }

pub returns-in-Ok-clause-makes : goal.returns-in-Ok-clause-makes
returns-in-Ok-clause-makes g c = λ task o first within before. (c.remove_in.ensures.makes task o first (λ x z is. within x z (c.text_in-2.result.now, (subst IsAside (c.text_in.ensures.text ∙ sym c.text_in-2.ensures.text) (sym c.if-not-is_aside.ensures), subst (λ (name : List ℕ). RemovesName root name (form_seen g.D.Disk.image o) x z) c.in_ok-name.ensures.name is))) before)

pub returns-in-Ok-2-clause-makes : goal.returns-in-Ok-2-clause-makes
returns-in-Ok-2-clause-makes g c = λ task o first within before. (c.remove_in.ensures.makes task o first (λ x z is. within x z (c.text_in-2.result.now, (subst IsAside (c.text_in.ensures.text ∙ sym c.text_in-2.ensures.text) (sym c.if-not-is_aside.ensures), subst (λ (name : List ℕ). RemovesName root name (form_seen g.D.Disk.image o) x z) c.in_ok-name.ensures.name is))) before)
