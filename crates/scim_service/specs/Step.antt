-- The plan for one request: the reply, the change to the store and the audit row (RFC 7644 section 3).
use Rattle.std.specs.Prelude.{ℕ, Bool, true, false, not, ◌&&◌, ◌||◌, List, [], ◌∷◌, filter, find, Option, None, Some, is_none, option_and_then, Result, Ok, Err, if◌then◌else◌}
use Rattle.std.specs.List.{list_any}
use denote.Enum.Bare.{sameb}
use Rattle.serde_json.specs.Written.{compact_text}
use Rattle.scim_schema.specs.declared.Kind.{Kind}
use Rattle.scim_schema.specs.declared.Kind.TheVariants.{Group}
use Rattle.scim_schema.specs.declared.Op.{Op}
use Rattle.scim_schema.specs.declared.Op.TheVariants.{Create, Delete}
use Rattle.scim_schema.specs.declared.Unit.{Unit as AttributeUnit}
use Rattle.scim_schema.specs.declared.Leaf.{Leaf}
use Rattle.scim_schema.specs.declared.Attribute.TheVariants.{Id}
use Rattle.scim_schema.specs.contracts.Kind.{the_type as the_kind}
use Rattle.scim_schema.specs.contracts.Op.{the_type as the_op}
use Rattle.scim_schema.specs.Table.{leaves}
use Rattle.scim_schema.specs.Mutability.{is_fixed}
use Rattle.scim_schema.specs.Units.{simple, unit_of, units, is_same_leaf, is_same_unit}
use Rattle.scim_cell.specs.Content.{Content}
use Rattle.scim_cell.specs.Kinds.{of_kind}
use Rattle.scim_cell.specs.Rows.{rows}
use Rattle.scim_audit.specs.declared.refusals.Refusal.{Refusal}
use Rattle.scim_audit.specs.declared.refusals.Refusal.TheVariants.{MessageValue, NotFound, Denied, Mutability, NoTarget, ResultValue, Taken, Widens, IdInUse}
use Rattle.scim_audit.specs.declared.audit_rows.Decided.{Decided}
use Rattle.scim_audit.specs.declared.audit_rows.Decided.TheVariants as decided
use Rattle.scim_audit.specs.declared.audit_rows.AuditRow.{AuditRow}
use Rattle.scim_value.specs.Resource.{location}
use Rattle.scim_body.specs.declared.drafts.UseFor.TheVariants.{Creating}
use Rattle.scim_body.specs.contracts.drafts.UseFor.{the_type as the_use_for}
use Rattle.scim_change.specs.Agreement.{agrees}
use Rattle.scim_body.specs.Drafts.{Draft, gives}
use Rattle.scim_json.specs.PartData.{part_data}
use Rattle.scim_json.specs.ListData.{list_data}
use Rattle.scim_change.specs.Create.{created}
use Rattle.scim_change.specs.Replace.{changes, replaced}
use Rattle.scim_patch_steps.specs.declared.steps.StepFault.{StepFault}
use Rattle.scim_patch_steps.specs.declared.steps.StepFault.TheVariants as fault
use Rattle.scim_patch_steps.specs.Patch.{Patch, touched, applied}
use Rattle.scim_patch_steps.specs.Kept.{patch_of}
use Rattle.scim_policy.specs.Rules.{Rule}
use Rattle.scim_policy.specs.declared.rules.Decision.{Decision}
use Rattle.scim_policy.specs.Access.{Access, access, forbidding, widening}
use Rattle.scim_policy.specs.Decide.{decide}
use Rattle.scim_policy.specs.Table.{or_else}
use Rattle.scim_view.specs.declared.projection.Wanted.{Wanted}
use Rattle.scim_view.specs.View.{Viewer, read_decision, visible}
use Rattle.scim_view.specs.Groups.{with_groups, views}
use Rattle.scim_view.specs.Shown.{shown}
use Rattle.scim_query.specs.declared.queries.Query.{Query}
use Rattle.scim_query.specs.Pages.{first_position}
use Rattle.scim_query.specs.Arranged.{total_of, shown_items}
use Rattle.scim_shelf.specs.declared.changes.Change.{Change}
use Rattle.scim_shelf.specs.declared.changes.Change.TheVariants.{Nothing, Keep, Remove as TakeOut}
use Rattle.scim_shelf.specs.Stores.{Store, is_at, is_taken, is_used, keep, without, after}
use Rattle.scim_service.specs.declared.requests.Ask.{Ask}
use Rattle.scim_service.specs.declared.requests.Ask.TheVariants.{Get, Search, Create as MakeOne, Replace, Patch as PatchOne, Remove}
use Rattle.scim_service.specs.declared.requests.Turn.{Turn}
use Rattle.scim_service.specs.declared.replies.Reply.{Reply}
use Rattle.scim_service.specs.declared.replies.Reply.TheVariants.{Shown, Created, Done, Refused}
use Rattle.scim_service.specs.declared.plans.Plan.{Plan}

-- The audit row for a request: the request's moment, client, operation and kind, with this id, decision,
-- rule, leaf and refusal.
abbrev pub row_of : Turn → Option (List ℕ) → Decided → Option ℕ → Option Leaf → Option Refusal → AuditRow
row_of turn id decided rule leaf refusal = record {
  moment = turn.moment;
  client = turn.request.client;
  op = turn.request.op;
  kind = turn.request.kind;
  id = id;
  decided = decided;
  rule = rule;
  leaf = leaf;
  refusal = refusal;
}

-- ---- refusals: they change nothing

-- Whether a request is for the one resource that its id names, and not a create or a search. A request that
-- can't be read is for one resource unless its operation is `Create`.
abbrev pub is_for_one : Op → Result Ask Refusal → Bool
is_for_one op (Ok (Search query)) = false
is_for_one op (Ok (MakeOne draft wanted)) = false
is_for_one op (Ok _) = true
is_for_one op (Err refusal) = not (sameb the_op op Create)

-- The id of a request, if `is_for_one` says that the request is for one resource; otherwise `None`, even if
-- the request has an id.
unfoldable pub named_id : Turn → Option (List ℕ)
named_id turn = if is_for_one turn.request.op turn.request.ask then turn.request.id else None

-- The plan that refuses a request. Its audit row has the id of the resource that the request is for, and this
-- decision, rule and leaf.
abbrev pub refusal_plan : Turn → Decided → Option ℕ → Option Leaf → Refusal → Plan
refusal_plan turn how rule leaf refusal = record { reply = Refused refusal; change = Nothing; row = row_of turn (named_id turn) how rule leaf (Some refusal) }

-- The plan that refuses a request for a reason other than a decision of the policy. Its audit row names no
-- rule.
unfoldable pub rejection_plan : Turn → Refusal → Plan
rejection_plan turn refusal = refusal_plan turn decided.Refused None None refusal

-- The plan of a request for a resource that doesn't exist.
unfoldable pub absence_plan : Turn → Plan
absence_plan turn = refusal_plan turn decided.Absent None None NotFound

-- The plan of a request for a resource whose `id` the client may not read, by the decision `d`. The reply is
-- the refusal `NotFound`, as if the resource didn't exist.
unfoldable pub hidden_plan : Turn → Decision → Plan
hidden_plan turn d = refusal_plan turn decided.Hidden (Some d.rule) (Some (simple Id)) NotFound

-- The plan that refuses a request because of the policy's decision `d` on the leaf `l`: either `d` denies the
-- request, or `d` is a decision after the change that would allow what was denied before.
unfoldable pub denial_plan : Turn → Decision → Leaf → Refusal → Plan
denial_plan turn d l refusal = refusal_plan turn decided.Deny (Some d.rule) (Some l) refusal

-- ---- GET, search and DELETE

-- The audit row of a request that a rule allows.
abbrev pub allowed_row : Turn → ℕ → AuditRow
allowed_row turn rule = row_of turn turn.request.id decided.Allow (Some rule) None None

-- The JSON of a resource as the client sees it, with its groups (found among `groups`), projected to the
-- wanted attributes (RFC 7644 section 3.4.1).
unfoldable pub resource_text : Viewer → List Content → Wanted → Content → List ℕ
resource_text v groups wanted c = compact_text (part_data (shown wanted (with_groups v groups c)))

-- The plan of a GET of a resource that the client sees.
unfoldable pub get_plan : Viewer → Turn → List Content → Wanted → Content → Plan
get_plan v turn cs wanted c = record { reply = Shown (resource_text v (of_kind Group cs) wanted c); change = Nothing; row = allowed_row turn (read_decision v c (simple Id)).rule }

-- The resources of the request's kind that the client sees, each with only the values that the client sees.
abbrev pub view_of_kind : Viewer → Turn → List Content → List Content
view_of_kind v turn cs = views v (of_kind Group cs) (of_kind turn.request.kind cs)

-- The JSON of the page that a query selects from `view`, the resources as the client sees them (RFC 7644
-- section 3.4.2).
abbrev pub list_text : Query → List Content → List ℕ
list_text query view = compact_text (list_data (total_of query view) (first_position query.start) (shown_items query view))

-- The plan of a search. Its audit row names no rule, since no single rule decides the search.
unfoldable pub search_plan : Viewer → Turn → List Content → Query → Plan
search_plan v turn cs query = record { reply = Shown (list_text query (view_of_kind v turn cs)); change = Nothing; row = row_of turn None decided.Allow None None None }

-- The policy's decision on deleting a resource, for the leaf `id`.
abbrev pub delete_decision : Viewer → Content → Decision
delete_decision v c = decide v.policy v.client Delete c (simple Id)

-- The plan of a DELETE of a resource that the client sees: it is removed if the policy lets the client delete
-- it (RFC 7644 section 3.6).
unfoldable pub removal_plan : Viewer → Turn → Content → Plan
removal_plan v turn c =
    if (delete_decision v c).allow
    then record { reply = Done; change = TakeOut c.kind c.id; row = allowed_row turn (delete_decision v c).rule }
    else denial_plan turn (delete_decision v c) (simple Id) Denied

-- ---- create (RFC 7644 section 3.3)

-- The new resource created from a draft, with the turn's id and moment.
abbrev pub new_resource : Viewer → Turn → Draft → Content
new_resource v turn d = created d turn.fresh turn.moment v.base

-- The policy's decision on creating a resource, for one leaf. The targets of rules are tested on the new
-- resource.
abbrev pub create_decision : Viewer → Content → Leaf → Decision
create_decision v c l = decide v.policy v.client Create c l

-- Whether a create from a draft needs the policy's permission at a leaf: the leaf is `id`, or it belongs to a
-- unit that the body gives.
abbrev pub is_decided : Draft → Leaf → Bool
is_decided d l = is_same_leaf l (simple Id) || list_any (is_same_unit (unit_of l)) d.given

-- The first leaf, in leaf order, for which a create of `c` from the draft needs permission and the policy
-- denies it.
abbrev pub first_denied : Viewer → Draft → Content → Option Leaf
first_denied v d c = find (λ l. is_decided d l && not (create_decision v c l).allow) (leaves d.kind)

-- The JSON of a resource as the client sees it once it is stored among the resources `cs`; `None` if the
-- client doesn't see it.
abbrev pub kept_text : Viewer → List Content → Wanted → Content → Option (List ℕ)
kept_text v cs wanted c = if (read_decision v c (simple Id)).allow then Some (resource_text v (of_kind Group (keep c cs)) wanted c) else None

-- The plan that stores a new resource, with this rule in its audit row and this text in its reply.
abbrev pub creation_plan_with : Viewer → Turn → Content → ℕ → Option (List ℕ) → Plan
creation_plan_with v turn c rule text = record {
  reply = Created (location v.base c.kind c.id) text;
  change = Keep c;
  row = row_of turn (Some c.id) decided.Allow (Some rule) None None;
}

-- The plan that stores a new resource. Its reply has the JSON of the resource as the client sees it.
abbrev pub kept_creation_plan : Viewer → Turn → List Content → Wanted → Content → Plan
kept_creation_plan v turn cs wanted c = creation_plan_with v turn c (create_decision v c (simple Id)).rule (kept_text v cs wanted c)

-- The plan of a create that the policy allows. The create is refused if a resource, visible to the client or
-- not, has the id or a unique name of the new resource; otherwise the new resource is stored.
abbrev pub unique_creation_plan : Viewer → Turn → List Content → Wanted → Content → Plan
unique_creation_plan v turn cs wanted c =
    if is_taken cs c then rejection_plan turn Taken else (if is_used cs c.id then rejection_plan turn IdInUse else kept_creation_plan v turn cs wanted c)

-- The plan of a create. If a leaf is given, the policy denies the create at that leaf; otherwise the policy
-- allows the create.
abbrev pub decided_creation_plan : Viewer → Turn → List Content → Wanted → Content → Option Leaf → Plan
decided_creation_plan v turn cs wanted c None = unique_creation_plan v turn cs wanted c
decided_creation_plan v turn cs wanted c (Some l) = denial_plan turn (create_decision v c l) l Denied

-- Whether a draft is of the request's kind and was read to create a resource.
abbrev pub is_for : Turn → Draft → Bool
is_for turn d = sameb the_kind d.kind turn.request.kind && sameb the_use_for d.use_for Creating

-- The plan of a create from a draft. A draft that isn't one for this request is refused.
unfoldable pub creation_plan : Viewer → Turn → List Content → Draft → Wanted → Plan
creation_plan v turn cs d wanted =
    if is_for turn d then decided_creation_plan v turn cs wanted (new_resource v turn d) (first_denied v d (new_resource v turn d)) else rejection_plan turn MessageValue

-- ---- PUT (RFC 7644 section 3.5.1)

-- The client's access to a stored resource, by the policy.
abbrev pub access_to : Viewer → Content → Access
access_to v c = access v.policy v.client c

-- The denied leaf and the decision on that leaf if a PUT is denied because of a unit; otherwise `None`. The
-- PUT is denied if the unit isn't readOnly, the client may not write the unit, and the body gives the unit
-- other values than the client sees.
abbrev pub unit_denial : Access → Draft → Content → AttributeUnit → Option (Leaf × Decision)
unit_denial a d seen u = if is_fixed d.kind u || (not (gives d u) || agrees d u seen) then None else forbidding d.kind a u

-- The first result of `unit_denial` on these units that isn't `None`; `None` if no unit is denied.
abbrev pub first_unit_denial : Access → Draft → Content → List AttributeUnit → Option (Leaf × Decision)
first_unit_denial a d seen [] = None
first_unit_denial a d seen (u ∷ us) = or_else (unit_denial a d seen u) (first_unit_denial a d seen us)

-- Whether the client may write a unit: it isn't readOnly, and no leaf of it is forbidden.
abbrev pub is_writable : Kind → Access → AttributeUnit → Bool
is_writable kind a u = not (is_fixed kind u) && is_none (forbidding kind a u)

-- The units that the client may write, in order.
abbrev pub writable : Kind → Access → List AttributeUnit
writable kind a = filter (is_writable kind a) (units kind)

-- The reply to a change: 200 with the text, or 204 if there is no text.
abbrev pub shown_or_done : Option (List ℕ) → Reply
shown_or_done None = Done
shown_or_done (Some text) = Shown text

-- The change that stores a resource, or `Nothing` if the resource didn't change.
abbrev pub change_keeping : Bool → Content → Change
change_keeping changed c = if changed then Keep c else Nothing

-- The plan that stores a changed resource, with this rule in its audit row and this text in its reply.
abbrev pub kept_plan : Turn → ℕ → Bool → Content → Option (List ℕ) → Plan
kept_plan turn rule changed c text = record { reply = shown_or_done text; change = change_keeping changed c; row = allowed_row turn rule }

-- The plan that stores a changed resource. Its reply has the JSON of the resource as the client sees it after
-- the change. `a` is the client's access before the change; the audit row has the rule that let the client
-- read `id`.
abbrev pub kept_change_plan : Viewer → Turn → List Content → Wanted → Access → Bool → Content → Plan
kept_change_plan v turn cs wanted a changed c = kept_plan turn (a.read (simple Id)).rule changed c (kept_text v cs wanted c)

-- The plan of a change. If a leaf is given, the change widens the client's access at that leaf and is denied;
-- otherwise the changed resource is stored.
abbrev pub narrow_change_plan : Viewer → Turn → List Content → Wanted → Access → Bool → Content → Option (Op × Leaf × Decision) → Plan
narrow_change_plan v turn cs wanted a changed c None = kept_change_plan v turn cs wanted a changed c
narrow_change_plan v turn cs wanted a changed c (Some (op, l, d)) = denial_plan turn d l Widens

-- The plan of a change. The change is refused if another resource, visible to the client or not, has a unique
-- name of the changed resource. Otherwise it is denied if it widens the client's access. Otherwise the
-- changed resource is stored.
abbrev pub unique_change_plan : Viewer → Turn → List Content → Wanted → Access → Bool → Content → Plan
unique_change_plan v turn cs wanted a changed c =
    if is_taken (without c.id cs) c then rejection_plan turn Taken else narrow_change_plan v turn cs wanted a changed c (widening c.kind a (access_to v c))

-- The plan of a change that results in the given resource, or in `None` if a required attribute would be
-- missing. With `None` the change is refused.
abbrev pub complete_change_plan : Viewer → Turn → List Content → Wanted → Access → Bool → Option Content → Plan
complete_change_plan v turn cs wanted a changed None = rejection_plan turn ResultValue
complete_change_plan v turn cs wanted a changed (Some c) = unique_change_plan v turn cs wanted a changed c

-- The plan of a PUT that writes the draft's values to the units `us`.
abbrev pub writable_replacement_plan : Viewer → Turn → List Content → Draft → Wanted → Content → List AttributeUnit → Plan
writable_replacement_plan v turn cs d wanted c us = complete_change_plan v turn cs wanted (access_to v c) (changes d us (rows c)) (replaced d us turn.moment c)

-- The plan of a PUT. If a leaf is given, the PUT is denied at that leaf; otherwise it writes all units that
-- the client may write.
abbrev pub decided_replacement_plan : Viewer → Turn → List Content → Draft → Wanted → Content → Option (Leaf × Decision) → Plan
decided_replacement_plan v turn cs d wanted c (Some (l, decision)) = denial_plan turn decision l Denied
decided_replacement_plan v turn cs d wanted c None = writable_replacement_plan v turn cs d wanted c (writable c.kind (access_to v c))

-- The plan of a PUT to a resource that the client sees. A draft of another kind is refused.
unfoldable pub replacement_plan : Viewer → Turn → List Content → Draft → Wanted → Content → Plan
replacement_plan v turn cs d wanted c =
    if sameb the_kind d.kind c.kind
    then decided_replacement_plan v turn cs d wanted c (first_unit_denial (access_to v c) d (visible v c) (units d.kind))
    else rejection_plan turn MessageValue

-- ---- PATCH (RFC 7644 section 3.5.2)

-- For the first of these units that the client may not write: the denied leaf and the decision on that leaf.
-- `None` if the client may write all of these units.
abbrev pub first_forbidden : Kind → Access → List AttributeUnit → Option (Leaf × Decision)
first_forbidden kind a [] = None
first_forbidden kind a (u ∷ us) = or_else (forbidding kind a u) (first_forbidden kind a us)

-- The refusal that reports the fault of a PATCH step.
abbrev pub step_refusal : StepFault → Refusal
step_refusal fault.Mutability = Mutability
step_refusal fault.NoTarget = NoTarget
step_refusal fault.Value = ResultValue

-- The plan of a PATCH whose steps have this result: a refusal if a step failed, and otherwise the change to
-- the resulting resource.
abbrev pub applied_patch_plan : Viewer → Turn → List Content → Wanted → Content → Result (Content × Bool) StepFault → Plan
applied_patch_plan v turn cs wanted c (Err e) = rejection_plan turn (step_refusal e)
applied_patch_plan v turn cs wanted c (Ok (x, changed)) = unique_change_plan v turn cs wanted (access_to v c) changed x

-- The plan of a PATCH. If a leaf is given, the PATCH is denied at that leaf. Otherwise its steps are applied
-- to the whole stored resource, including the values that the client doesn't see.
abbrev pub decided_patch_plan : Viewer → Turn → List Content → Patch → Wanted → Content → Option (Leaf × Decision) → Plan
decided_patch_plan v turn cs p wanted c (Some (l, d)) = denial_plan turn d l Denied
decided_patch_plan v turn cs p wanted c None = applied_patch_plan v turn cs wanted c (applied p turn.moment c)

-- The plan of a PATCH to a resource that the client sees. A patch of another kind is refused.
unfoldable pub patch_plan : Viewer → Turn → List Content → Patch → Wanted → Content → Plan
patch_plan v turn cs p wanted c =
    if sameb the_kind p.kind c.kind
    then decided_patch_plan v turn cs p wanted c (first_forbidden p.kind (access_to v c) (touched p))
    else rejection_plan turn MessageValue

-- ---- all requests

-- The resource that a request names, if it exists.
abbrev pub sought_resource : Turn → List Content → Option Content
sought_resource turn cs = option_and_then (λ id. find (is_at turn.request.kind id) cs) turn.request.id

-- The plan of a request for a resource: `absence_plan` if the resource doesn't exist, `hidden_plan` if the
-- client doesn't see it, and otherwise the result of `plan` on the resource.
abbrev pub plan_for_seen : Viewer → Turn → (Content → Plan) → Option Content → Plan
plan_for_seen v turn plan None = absence_plan turn
plan_for_seen v turn plan (Some c) = if (read_decision v c (simple Id)).allow then plan c else hidden_plan turn (read_decision v c (simple Id))

-- The plan of a request, by what the request asks for. `cs` are the stored resources.
abbrev pub request_plan : Viewer → Turn → List Content → Result Ask Refusal → Plan
request_plan v turn cs (Err refusal) = rejection_plan turn refusal
request_plan v turn cs (Ok (Get wanted)) = plan_for_seen v turn (get_plan v turn cs wanted) (sought_resource turn cs)
request_plan v turn cs (Ok (Search query)) = search_plan v turn cs query
request_plan v turn cs (Ok (MakeOne draft wanted)) = creation_plan v turn cs draft wanted
request_plan v turn cs (Ok (Replace draft wanted)) = plan_for_seen v turn (replacement_plan v turn cs draft wanted) (sought_resource turn cs)
request_plan v turn cs (Ok (PatchOne patch wanted)) = plan_for_seen v turn (patch_plan v turn cs (patch_of patch) wanted) (sought_resource turn cs)
request_plan v turn cs (Ok Remove) = plan_for_seen v turn (removal_plan v turn) (sought_resource turn cs)

-- The viewer of a request: the request's client, with this policy and this base URI.
abbrev pub viewer_at : List Rule → List ℕ → Turn → Viewer
viewer_at policy base turn = record { policy = policy; client = turn.request.client; base = base }

-- The plan for a request: the reply, the change to the store and the audit row.
abbrev pub plan : List Rule → List ℕ → Turn → Store → Plan
plan policy base turn store = request_plan (viewer_at policy base turn) turn store.resources turn.request.ask

-- The store after a request.
abbrev pub next_store : List Rule → List ℕ → Turn → Store → Store
next_store policy base turn store = after (plan policy base turn store).change (plan policy base turn store).row store
