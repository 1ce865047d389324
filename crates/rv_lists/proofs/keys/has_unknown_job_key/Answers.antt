use Rattle.std.proofs.Common.{◌∙◌, not, string_bytes, rules, tests}
use Rattle.std.proofs.lemmas.Iterator.Consumers.{YieldsList-from_rest}
use Rattle.std.proofs.lemmas.Iterator.Search.{any_from_yields_List}
use Rattle.rv_lists.specs.Keys.{is_job_key}
use Rattle.rv_lists.proofs.Entries.{unknown_key_entries}
use Rattle.rv_lists.proofs.keys.has_unknown_job_key.Goals as goal

pub returns : goal.returns
returns c =
    any_from_yields_List (λ k. not (is_job_key (string_bytes k))) _ _ _ c.any.ensures.ran
    (YieldsList-from_rest _ c.keys.ensures.rest) (λ x b q k. search (rules, tests))
    ∙ unknown_key_entries is_job_key c.args.table.now.entries
