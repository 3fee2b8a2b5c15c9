use Rattle.std.proofs.Common.{◌∙◌, ℕ, List, [], Option, codes, map, ap}
use Rattle.std.specs.Prelude.{unwrap_or}
use Rattle.std.specs.Borrow.{Bor}
use Rattle.std.proofs.lemmas.Result.{IfOk-weaker}
use Rattle.clap.specs.Words.{found_of}
use Rattle.clap.proofs.WalkLemmas.{raw_values-rows}
use Rattle.names_words.proofs.words.files_in.Goals as goal

pub returns-in-Some : goal.returns-in-Some
returns-in-Some c =
    IfOk-weaker c.from_slice.result _ _ (λ v items. ap (map (λ (file : Bor (List ℕ)). file.now)) items ∙ ap (λ (o : Option (List (List ℕ))). unwrap_or o []) (c.in-Some.ensures ∙ raw_values-rows (found_of c.args.values.now) (codes "FILE"))) c.from_slice.ensures.items

pub returns-in-None : goal.returns-in-None
returns-in-None c =
    ap (map (λ (file : Bor (List ℕ)). file.now)) c.new.ensures.items ∙ ap (λ (o : Option (List (List ℕ))). unwrap_or o []) (c.in-None.ensures ∙ raw_values-rows (found_of c.args.values.now) (codes "FILE"))
