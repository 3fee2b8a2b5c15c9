use Rattle.std.proofs.Common.{◌≡◌, ◌∙◌, ℕ, List, Option, Some, None, codes, refl, rules, subst, sym}
use Rattle.std.specs.Prelude.{IfSome}
use Rattle.clap.proofs.WalkLemmas.{first_value-rows}
use Rattle.clap.specs.Words.{first_of, first_value, found_of, rows_of}
use Rattle.clap.specs.declared.parser.matches.Found.{Found}
use Rattle.cli.specs.Asking.{HasFlag}
use Rattle.xvfs_words.specs.CommandLine.{AsksBy, HasPart}
use Rattle.cli.specs.Lemmas.Parses.{flag_read, path_read, value_read}
use Rattle.xvfs_words.specs.declared.words.Request.{Request}
use Rattle.xvfs_words.specs.declared.words.Part.{Part}
use Rattle.xvfs_words.proofs.words.show_request.Goals as goal

part_read : (found : Found) (word : Option (List ℕ)) (given part : Part) → word ≡ first_value found (codes "INUM") → HasPart word given → given ≡ part → HasPart (first_of (codes "INUM") (rows_of found)) part
part_read found word given part gives has is =
    subst (λ (part : Part). HasPart (first_of (codes "INUM") (rows_of found)) part) is (subst (λ (word : Option (List ℕ)). HasPart word given) (gives ∙ first_value-rows found (codes "INUM")) has)

pub returns-in-Whole : goal.returns-in-Whole
returns-in-Whole c =
    let found = found_of c.args.values.now in
    (search rules, value_read found (codes "IMAGE") _ c.in_ok-image.ensures, part_read found _ _ _ c.get_str-2.ensures c.in_ok-part.ensures c.in-Whole.is, sym (path_read found (codes "picture") None c.in_default.ensures), flag_read found (codes "json") c.get_flag-json.result c.get_flag-json.ensures.none c.get_flag-json.ensures.value c.get_flag-json.ensures.other)

pub returns-in-File : goal.returns-in-File
returns-in-File c =
    let found = found_of c.args.values.now in
    (search rules, value_read found (codes "IMAGE") _ c.in_ok-image.ensures, part_read found _ _ _ c.get_str-2.ensures c.in_ok-part.ensures c.in-File.is, sym (path_read found (codes "picture") None c.in_default.ensures), flag_read found (codes "json") c.get_flag-json.result c.get_flag-json.ensures.none c.get_flag-json.ensures.value c.get_flag-json.ensures.other)

pub returns-in-Log : goal.returns-in-Log
returns-in-Log c =
    let found = found_of c.args.values.now in
    (search rules, value_read found (codes "IMAGE") _ c.in_ok-image.ensures, part_read found _ _ _ c.get_str-2.ensures c.in_ok-part.ensures c.in-Log.is, sym (path_read found (codes "picture") None c.in_default.ensures), flag_read found (codes "json") c.get_flag-json.result c.get_flag-json.ensures.none c.get_flag-json.ensures.value c.get_flag-json.ensures.other)

shown_so : (r : Option Request) (P Q : Request → Type 0) → ((request : Request) → P request → Q request) → IfSome r P → IfSome r Q
shown_so None P Q follows is = tt
shown_so (Some request) P Q follows is = follows request is

pub returns-in-Some : goal.returns-in-Some
returns-in-Some c =
    let found = found_of c.args.values.now in
    shown_so c.drawn.result _ _
    (λ request so. subst (AsksBy (codes "show") (rows_of found)) (sym so.2) (
      refl,
      value_read found (codes "IMAGE") _ c.in_ok-image.ensures,
      part_read found _ _ _ c.get_str-2.ensures c.in_ok-part.ensures so.0,
      value_read found (codes "picture") _ c.in-Some.ensures,
      subst (HasFlag (codes "json") (rows_of found)) so.1 (flag_read found (codes "json") c.get_flag-json.result c.get_flag-json.ensures.none c.get_flag-json.ensures.value c.get_flag-json.ensures.other),
    ))
    c.drawn.ensures
