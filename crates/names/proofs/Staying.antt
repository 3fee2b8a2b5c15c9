-- Trees that came of trees, and whose counts are right where those of these were.
use Rattle.std.proofs.Common.{◌≡◌, ℕ, List, Some, sym, subst}
use Rattle.model.specs.declared.types.image.Form.{Form}
use Rattle.model.specs.declared.types.operations.Attribute.TheVariants.{Size}
use Rattle.model.specs.declared.types.operations.Op.TheVariants.{SetAttribute, Trunc, Write}
use Rattle.model.specs.declared.types.operations.Reply.{Reply}
use Rattle.model.specs.Files.{Files}
use Rattle.model.specs.Operations.{after}
use Rattle.directories.specs.Counts.{AreCounted, StaysCounted}
use Rattle.directories.specs.Trees.{IsDirectory, IsTree}
use Rattle.directories.specs.Lemmas.CountedChanges.{counted_kept}
use Rattle.directories.specs.Lemmas.Dropping.{keeping_keeps}
use Rattle.directories.specs.Lemmas.Plain.{plain_keeps}
use Rattle.names.proofs.Relinking.{cuts_links, truncs_links, writes_links}

-- the files are the same
pub stays_same : (files new : Files) → new ≡ files → IsTree files → StaysCounted files new
stays_same files new same tree = record {
  tree = subst (λ (f : Files). IsTree f) (sym same) tree;
  counted = λ counted. subst (λ (f : Files). AreCounted f) (sym same) counted;
}

-- the first are the same
pub stays_from : (files seen new : Files) → seen ≡ files → StaysCounted seen new → StaysCounted files new
stays_from files seen new same stays = subst (λ (f : Files). StaysCounted f new) same stays

-- one came of another
pub stays_on : (files mid new : Files) → StaysCounted files mid → StaysCounted mid new → StaysCounted files new
stays_on files mid new first then_on = record { tree = then_on.tree; counted = λ counted. then_on.counted (first.counted counted) }

-- a file that is no directory was written
pub writes_stay : (form : Form) (files new : Files) (i off : ℕ) (bytes : List ℕ) (reply : Reply) → IsTree files → (IsDirectory files i → ⊥) →
    after form files (Write i off bytes) reply ≡ Some new → StaysCounted files new
writes_stay form files new i off bytes reply tree plain h =
    let keeps = plain_keeps form files new (Write i off bytes) reply plain h in
    record {
      tree = (keeping_keeps files new tree keeps).tree;
      counted = λ counted. counted_kept files new counted (writes_links form files new i off bytes reply h) keeps;
    }

-- or its bytes were taken from it
pub truncs_stay : (form : Form) (files new : Files) (i : ℕ) (reply : Reply) → IsTree files → (IsDirectory files i → ⊥) →
    after form files (Trunc i) reply ≡ Some new → StaysCounted files new
truncs_stay form files new i reply tree plain h =
    let keeps = plain_keeps form files new (Trunc i) reply plain h in
    record {
      tree = (keeping_keeps files new tree keeps).tree;
      counted = λ counted. counted_kept files new counted (truncs_links form files new i reply h) keeps;
    }

-- or it was cut to a length
pub cuts_stay : (form : Form) (files new : Files) (i n : ℕ) (reply : Reply) → IsTree files → (IsDirectory files i → ⊥) →
    after form files (SetAttribute i (Size n)) reply ≡ Some new → StaysCounted files new
cuts_stay form files new i n reply tree plain h =
    let keeps = plain_keeps form files new (SetAttribute i (Size n)) reply plain h in
    record {
      tree = (keeping_keeps files new tree keeps).tree;
      counted = λ counted. counted_kept files new counted (cuts_links form files new i n reply h) keeps;
    }
