-- The parts of a plan make the plan.
use Rattle.std.proofs.Common.{◌≡◌, sym, ◌∙◌, ap, true, ℕ, List}
use Rattle.std.specs.Prelude.{None, Some}
use Rattle.serde_json.specs.Written.{compact_text}
use Rattle.scim_schema.specs.declared.Kind.TheVariants.{Group}
use Rattle.scim_schema.specs.declared.Attribute.TheVariants.{Id}
use Rattle.scim_schema.specs.declared.Leaf.{Leaf}
use Rattle.scim_schema.specs.Units.{simple}
use Rattle.scim_cell.specs.Content.{Content}
use Rattle.scim_cell.specs.Kinds.{of_kind}
use Rattle.scim_audit.specs.declared.audit_rows.AuditRow.{AuditRow}
use Rattle.scim_audit.specs.declared.audit_rows.Decided.TheVariants as decided
use Rattle.scim_json.specs.PartData.{part_data}
use Rattle.scim_policy.specs.declared.patterns.Patterns.{Patterns}
use Rattle.scim_policy.specs.declared.rules.Decision.{Decision}
use Rattle.scim_policy.specs.Decide.{decide}
use Rattle.scim_policy.specs.Patterns.{PatternRule, decisions_of, whole_decision}
use Rattle.scim_policy.specs.PatternTable.{rules_in}
use Rattle.scim_view.specs.declared.projection.Wanted.{Wanted}
use Rattle.scim_view.specs.View.{Viewer, read_decision, read_rules}
use Rattle.scim_view.specs.Groups.{with_groups}
use Rattle.scim_view.specs.Shown.{shown}
use Rattle.scim_query.specs.declared.queries.Query.{Query}
use Rattle.scim_shelf.specs.declared.changes.Change.TheVariants.{Nothing}
use Rattle.scim_service.specs.declared.requests.Turn.{Turn}
use Rattle.scim_service.specs.declared.replies.Reply.TheVariants.{Shown}
use Rattle.scim_service.specs.Step.{row_of, allowed_row, resource_text, get_plan, list_text, view_of_kind, search_plan, plan_for_seen}

-- patterns for reading a resource decide on a leaf in all its values as the policy does
pub whole_read : (ps : Patterns) (v : Viewer) (c : Content) (l : Leaf) → rules_in ps l ≡ read_rules v c l → whole_decision (decisions_of (rules_in ps l)) ≡ read_decision v c l
unfolding decide
whole_read ps v c l same = ap (λ (rs : List PatternRule). whole_decision (decisions_of rs)) same

-- so they do on the leaf `id`
pub id_read : (ps : Patterns) (v : Viewer) (c : Content) (l : Leaf) (d : Decision)
    → d ≡ whole_decision (decisions_of (rules_in ps l)) → l ≡ simple Id → ((m : Leaf) → rules_in ps m ≡ read_rules v c m) → d ≡ read_decision v c (simple Id)
id_read ps v c l d decides own same = decides ∙ ap (λ (m : Leaf). whole_decision (decisions_of (rules_in ps m))) own ∙ whole_read ps v c (simple Id) (same (simple Id))

-- a resource that is seen the same with two lists of groups is told the same
pub text_with : (v : Viewer) (gs hs : List Content) (wanted : Wanted) (c : Content) → with_groups v gs c ≡ with_groups v hs c → resource_text v gs wanted c ≡ resource_text v hs wanted c
unfolding resource_text
text_with v gs hs wanted c same = ap (λ (w : Content). compact_text (part_data (shown wanted w))) same

-- nor with groups that aren't shown
pub text_without : (v : Viewer) (gs hs : List Content) (wanted : Wanted) (c : Content) → shown wanted (with_groups v gs c) ≡ shown wanted (with_groups v hs c) → resource_text v gs wanted c ≡ resource_text v hs wanted c
unfolding resource_text
text_without v gs hs wanted c same = ap (λ (w : Content). compact_text (part_data w)) same

pub got_is : (v : Viewer) (turn : Turn) (cs : List Content) (wanted : Wanted) (c : Content) (text : List ℕ) (row : AuditRow) (d : Decision)
    → text ≡ resource_text v (of_kind Group cs) wanted c → row ≡ allowed_row turn d.rule → d ≡ read_decision v c (simple Id) → d.allow ≡ true
    → record { reply = Shown text; change = Nothing; row = row } ≡ plan_for_seen v turn (get_plan v turn cs wanted) (Some c)
unfolding get_plan
got_is v turn cs wanted c text row d text_is row_is decides allows =
    let seen : (read_decision v c (simple Id)).allow ≡ true = ap (λ (e : Decision). e.allow) (sym decides) ∙ allows in
    let noted = row_is ∙ ap (λ (e : Decision). allowed_row turn e.rule) decides in
    rw seen (λ i. record { reply = Shown (text_is i); change = Nothing; row = noted i })

pub listed_is : (v : Viewer) (turn : Turn) (cs : List Content) (query : Query) (text : List ℕ) (row : AuditRow)
    → text ≡ list_text query (view_of_kind v turn cs) → row ≡ row_of turn None decided.Allow None None None
    → record { reply = Shown text; change = Nothing; row = row } ≡ search_plan v turn cs query
unfolding search_plan
listed_is v turn cs query text row text_is row_is = λ i. record { reply = Shown (text_is i); change = Nothing; row = row_is i }
