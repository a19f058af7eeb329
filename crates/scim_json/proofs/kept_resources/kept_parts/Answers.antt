use Rattle.std.proofs.Common.{None, Some, sym, ap, ◌∙◌}
use Rattle.scim_cell.specs.Content.{Content}
use Rattle.scim_json.specs.PartData.{stored_data}
use Rattle.scim_json.specs.Stored.{stored_text}
use Rattle.scim_json.proofs.KeptParts.{kept_of, kept_whole}
use Rattle.scim_json.proofs.kept_resources.kept_parts.Goals as goal

pub returns-in_ok-stored_text-in-None-clause-text : goal.returns-in_ok-stored_text-in-None-clause-text
returns-in_ok-stored_text-in-None-clause-text c =
    c.in_ok-stored_text-in-None.ensures.text ∙ ap stored_text (sym (kept_whole c.args.resource.now c.in-None.ensures.valid (sym c.in-None.ensures.code)))

pub returns-in_ok-stored_text-in-None-clause-kept : goal.returns-in_ok-stored_text-in-None-clause-kept
returns-in_ok-stored_text-in-None-clause-kept c = λ base has.
    kept_of base _ None c.args.resource.now (c.in-None.ensures.valid, has)
    (c.in_ok-stored_text-in-None.ensures.reads ∙ ap (λ (r : Content). Some (stored_data r)) (sym (kept_whole c.args.resource.now c.in-None.ensures.valid (sym c.in-None.ensures.code))))
    c.in-None.ensures.code

pub returns-in_ok-stored_text-in-Some-clause-kept : goal.returns-in_ok-stored_text-in-Some-clause-kept
returns-in_ok-stored_text-in-Some-clause-kept c = λ base has.
    kept_of base _ _ c.args.resource.now (c.in-Some.ensures.valid, has)
    (c.in_ok-stored_text-in-Some.ensures.reads ∙ ap (λ (r : Content). Some (stored_data r)) c.in_ok-rest-in-Some.ensures.rest)
    (ap Some c.in_ok-code-in-Some.ensures.ok ∙ c.in-Some.ensures.code)
