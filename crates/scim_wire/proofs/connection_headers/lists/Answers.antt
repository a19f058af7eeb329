use Rattle.std.proofs.Common.{rules, tests, ◌==◌}
use Rattle.std.proofs.lemmas.Iterator.Splits.{YieldsList-from_slice_split}
use Rattle.std.proofs.lemmas.Iterator.Search.{any_from_yields_List}
use Rattle.httparse.specs.Grammar.{trim_ows}
use Rattle.scim_wire.specs.Headers.{same_name}
use Rattle.scim_wire.proofs.connection_headers.lists.Goals as goal

pub returns : goal.returns
returns c =
    any_from_yields_List (λ part. same_name (trim_ows part) c.args.option.now) _ _ _ c.any.ensures.ran
    (YieldsList-from_slice_split _ (λ b. b == 44) _ c.split.ensures.rest c.split.ensures.done c.split.ensures.closure (λ x b q k. search (rules, tests)))
    (λ x b q k. search (rules, tests))
