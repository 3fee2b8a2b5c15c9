-- Whether what was found is a directory.
use Rattle.std.proofs.Common.{◌≡◌, ◌≢◌, ℕ, List, Ok, refl, sym, ap, subst, ◌∙◌}
use Rattle.directories.specs.Trees.{kind_of}
use Rattle.model.specs.Files.{Files}
use Rattle.mounting.specs.Causes.{LeadsTo, LeadsToDirectory, LeadsToOther}
use Rattle.mounting.specs.Changes.{DropsName, Unlinked}
use Rattle.names.specs.declared.asking.Found.{Found}
use Rattle.directories.specs.Walks.{stepped}
use Rattle.names.specs.Looks.{IsFound}
use Rattle.names.specs.Numbered.{LooksIn}

pub is_directory : (files : Files) (from : ℕ) (name : List ℕ) (found : Found) → found.kind ≡ 1 → LooksIn from name found files files → LeadsToDirectory files from name
is_directory files from name found is looks = (looks.number, (looks.led, ap kind_of looks.found_is.there ∙ sym looks.found_is.kind ∙ is))

pub is_other : (files : Files) (from : ℕ) (name : List ℕ) (found : Found) → found.kind ≢ 1 → LooksIn from name found files files → LeadsToOther files from name
is_other files from name found not looks = (looks.number, (looks.led, λ directory. not (looks.found_is.kind ∙ sym (ap kind_of looks.found_is.there) ∙ directory)))

-- of files that are the same
pub looks_same : (files new : Files) (from : ℕ) (name : List ℕ) (found : Found) → LooksIn from name found files new → LooksIn from name found new new
looks_same files new from name found looks = record {
  same = refl;
  number = looks.number;
  led = subst (λ (f : Files). stepped f from name ≡ Ok looks.number) (sym looks.same) looks.led;
  found_is = subst (λ (f : Files). IsFound f looks.number found) (sym looks.same) looks.found_is;
}

pub is_directory_there : (files new : Files) (from : ℕ) (name : List ℕ) (found : Found) → found.kind ≡ 1 → LooksIn from name found files new → LeadsToDirectory new from name
is_directory_there files new from name found is looks = is_directory new from name found is (looks_same files new from name found looks)

pub leads_there : (files new : Files) (from : ℕ) (name : List ℕ) (found : Found) → LooksIn from name found files new → LeadsTo new from name found.number
leads_there files new from name found looks =
    let there = looks_same files new from name found looks in
    subst (λ (n : ℕ). LeadsTo new from name n) (sym there.found_is.is) there.led

-- a name that led to a file which is no directory goes
pub unlinked : (files mid new : Files) (from : ℕ) (name n : List ℕ) (found : Found) → name ≡ n → found.kind ≢ 1 → LooksIn from name found files mid → DropsName from name found.number mid new → Unlinked from n files new
unlinked files mid new from name n found same not looks drops =
    let is = looks.found_is in
    subst (λ (m : List ℕ). Unlinked from m files new) same (
      looks.number,
      looks.led,
      (λ directory. not (is.kind ∙ sym (ap kind_of is.there) ∙ directory)),
      subst (λ (i : ℕ). DropsName from name i files new) is.is (subst (λ (f : Files). DropsName from name found.number f new) looks.same drops),
    )
