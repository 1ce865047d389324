use Rattle.std.proofs.Common.{not, string_bytes, rules, tests}
use Rattle.std.proofs.lemmas.Iterator.Consumers.{YieldsList-from_rest}
use Rattle.std.proofs.lemmas.Iterator.Search.{find_from_yields_List}
use Rattle.rv_list_errors.specs.Explanation.{is_key_of_owner}
use Rattle.rv_list_errors.proofs.UnknownKeys.{unknown_found}
use Rattle.rv_list_errors.proofs.keys.first_unknown_key.Goals as goal

pub returns : goal.returns
returns c =
    unknown_found (is_key_of_owner c.args.owner) c.args.table.now.entries _
    (find_from_yields_List (λ k. not (is_key_of_owner c.args.owner (string_bytes k))) _ _ _ c.find.ensures.ran
    (YieldsList-from_rest _ c.keys.ensures.rest) (λ x b q k. search (rules, tests)))
