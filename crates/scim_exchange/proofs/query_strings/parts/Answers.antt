use Rattle.std.proofs.Common.{rules, not, Ok, ℕ, lit<}
use Rattle.std.proofs.lemmas.Iterator.Consumers.{map_from_collect, YieldsList-from_filter, YieldsList-at}
use Rattle.std.proofs.lemmas.Iterator.Splits.{YieldsList-from_str_split}
use Rattle.scim_exchange.specs.Searches.{is_blank}
use Rattle.scim_exchange.specs.QueryStrings.{parts}
use Rattle.scim_exchange.proofs.query_strings.parts.Goals as goal

pub returns : goal.returns
unfolding parts
returns c =
    let pieces = YieldsList-at c.filter.ensures.source (YieldsList-from_str_split 44 c.args.text.now (lit< tt) c.split.ensures.text c.split.ensures.has_more c.split.ensures.pattern) in
    map_from_collect {E = ℕ} (Ok c.in_ok-collect.field-0) c.in_ok-collect.ensures.ran (YieldsList-from_filter _ (λ part. not (is_blank part)) pieces c.filter.ensures.closure (λ x b q k. search rules))
