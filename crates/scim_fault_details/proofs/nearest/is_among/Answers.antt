use Rattle.std.proofs.Common.{rules, tests, ◌∙◌, ℕ, Bool, List, Bor}
use Rattle.std.proofs.lemmas.Iterator.{YieldsList-from_slice}
use Rattle.std.proofs.lemmas.Iterator.Search.{any_from_yields_List}
use Rattle.scim_schema.specs.Lookup.{is_same_text}
use Rattle.scim_fault_details.proofs.WordLemmas.{any_text}
use Rattle.scim_fault_details.proofs.nearest.is_among.Goals as goal

pub returns : goal.returns
returns c =
    let same : Bor (List ℕ) → Bool = λ name. is_same_text c.args.word.now name.now in
    any_from_yields_List same _ _ c.any.result c.any.ensures.ran (YieldsList-from_slice c.args.names.now cc) (λ x b q k. search (rules, tests))
    ∙ any_text (is_same_text c.args.word.now) c.args.names.now
