use Rattle.std.proofs.Common.{rules, ◌≡◌, ◌++◌, sym, ◌∙◌, string_bytes}
use Rattle.scim_json.specs.Stored.{stored_text}
use Rattle.scim_admin_streams.proofs.export_jobs.add_document.Goals as goal

pub returns-clause-document : goal.returns-clause-document
returns-clause-document g c = λ store stands honest.
    let text : string_bytes c.push_str.new.self ≡ string_bytes c.args.text.now ++ stored_text c.in-Some.resource = search rules in
    (c.in-Some.resource, sym (c.in_ok-resource.ensures.answer store stands honest) ∙ c.in-Some.is, text)
