use Rattle.std.proofs.Common.{◌≡◌, ◌∙◌, ap, subst, List, ℕ, IfOk, map, lit<}
use Rattle.std.proofs.lemmas.Iterator.{items_from_drains}
use Rattle.std.proofs.lemmas.Iterator.Splits.{YieldsList-from_str_split}
use Rattle.scim_text.specs.Failures.{IfFault}
use Rattle.scim_hub.specs.HubStates.{owned_event_of}
use Rattle.scim_command.specs.EventFiles.{AreEventLines, IsFaultyAt, file_lines, without_empty_last}
use Rattle.scim_command.proofs.event_files.read_events.Goals as goal

pub returns-clause-events : goal.returns-clause-events
returns-clause-events c =
    let ran = c.in_ok-lines.ensures.ran in
    let pieces = YieldsList-from_str_split 10 c.args.text.now (lit< tt) c.split.ensures.text c.split.ensures.has_more c.split.ensures.pattern in
    let all : map (λ x. x.now) c.before_empty_last.result.now ≡ file_lines c.args.text.now =
    c.before_empty_last.ensures ∙ ap without_empty_last (ap (map (λ x. x.now)) (c.as_slice.ensures.value ∙ ran.2.0) ∙ items_from_drains ran.0 ran.1 pieces) in
    subst (λ (ls : List (List ℕ)). IfOk c.events_of_lines.result (λ events. AreEventLines ls (map owned_event_of events.items))) all c.events_of_lines.ensures.events

pub returns-clause-faulty : goal.returns-clause-faulty
returns-clause-faulty c =
    let ran = c.in_ok-lines.ensures.ran in
    let pieces = YieldsList-from_str_split 10 c.args.text.now (lit< tt) c.split.ensures.text c.split.ensures.has_more c.split.ensures.pattern in
    let all : map (λ x. x.now) c.before_empty_last.result.now ≡ file_lines c.args.text.now =
    c.before_empty_last.ensures ∙ ap without_empty_last (ap (map (λ x. x.now)) (c.as_slice.ensures.value ∙ ran.2.0) ∙ items_from_drains ran.0 ran.1 pieces) in
    subst (λ (ls : List (List ℕ)). IfFault c.events_of_lines.result (λ fault. IsFaultyAt ls fault.0)) all c.events_of_lines.ensures.faulty
