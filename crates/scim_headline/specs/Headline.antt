-- The server's promise for a list of requests: what each reply shows, what changes, what a denial does and what its
-- audit row names; and that a client can't tell apart two stores that are alike for it.
use Rattle.std.specs.Prelude.{◌≡◌, ◌≢◌, ◌⊎◌, ⊤, ℕ, suc, Bool, true, false, ◌&&◌, List, [], ◌∷◌, ◌++◌, length, Option, None, Some, is_none, Result, Ok, All, Contains, if◌then◌else◌}
use Rattle.std.specs.List.{list_any}
use Rattle.std.specs.FinMap.{entries}
use Rattle.serde_json.specs.Written.{compact_text}
use Rattle.scim_schema.specs.declared.Kind.{Kind}
use Rattle.scim_schema.specs.declared.Kind.TheVariants.{Group}
use Rattle.scim_schema.specs.declared.Op.{Op}
use Rattle.scim_schema.specs.declared.Op.TheVariants.{Read, Create as CreateOp}
use Rattle.scim_schema.specs.declared.Leaf.{Leaf}
use Rattle.scim_cell.specs.Content.{Content}
use Rattle.scim_cell.specs.Kinds.{of_kind}
use Rattle.scim_cell.specs.Rows.{Test, rows, restricted}
use Rattle.scim_audit.specs.declared.audit_rows.AuditRow.{AuditRow}
use Rattle.scim_audit.specs.declared.audit_rows.Decided.TheVariants.{Deny, Hidden}
use Rattle.scim_audit.specs.declared.refusals.Refusal.{Refusal}
use Rattle.scim_audit.specs.declared.refusals.Refusal.TheVariants.{Store as NoStore, IdInUse}
use Rattle.scim_json.specs.PartData.{part_data}
use Rattle.scim_json.specs.ListData.{list_data}
use Rattle.scim_json.specs.Found.{found_cells}
use Rattle.scim_policy.specs.declared.rules.Decision.{Decision}
use Rattle.scim_policy.specs.Rules.{Rule}
use Rattle.scim_policy.specs.Access.{access, widening}
use Rattle.scim_policy.specs.Decide.{decide}
use Rattle.scim_policy.specs.Fits.{fits}
use Rattle.scim_policy.specs.PatternLaws.{is_plain}
use Rattle.scim_view.specs.declared.projection.Wanted.{Wanted}
use Rattle.scim_view.specs.View.{Viewer, read_in, may_be_seen, sees}
use Rattle.scim_view.specs.Groups.{memberships, rows_with, seen, views}
use Rattle.scim_view.specs.Shown.{shows}
use Rattle.scim_query.specs.declared.queries.Query.{Query}
use Rattle.scim_query.specs.Pages.{first_position}
use Rattle.scim_query.specs.Arranged.{total_of, shown_items}
use Rattle.scim_shelf.specs.Stores.{Store, IsStore}
use Rattle.scim_service.specs.declared.requests.Ask.{Ask}
use Rattle.scim_service.specs.declared.requests.Ask.TheVariants.{Get, Search, Create, Replace, Patch}
use Rattle.scim_service.specs.declared.requests.Turn.{Turn}
use Rattle.scim_service.specs.declared.replies.Reply.{Reply}
use Rattle.scim_service.specs.declared.replies.Reply.TheVariants.{Shown, Created}
use Rattle.scim_service.specs.Replies.{refusal_of}
use Rattle.scim_service.specs.Requests.{IsTurn}
use Rattle.scim_service.specs.Answers.{Runs}
use Rattle.scim_service.specs.Step.{viewer_at}
use Rattle.scim_noninterference.specs.Alike.{IsAlike}
use Rattle.scim_noninterference.specs.Lists.{Round, is_of, run}

-- ---- a reply shows exactly what the policy grants and `returned` admits

-- Whether a leaf of a resource is shown in one of its values: the policy lets the client read it there, it isn't
-- writeOnly, and its `returned` and the request's attribute lists admit it (RFC 7643 section 7).
-- Example: a client that may read `emails[type eq "work"]` is shown `emails.value` of a work address alone.
abbrev pub is_shown : Viewer → Wanted → Content → Test
is_shown v wanted c value leaf = may_be_seen (read_in v c) c.kind value leaf && shows wanted c.kind leaf

-- `part` is what a reply shows of a resource: its values, and for a user a value of `groups` for each of these groups
-- that lists it and that the client sees; of each value exactly the cells that are shown. A value without cells is
-- left out, and the values behind it move up. The JSON of the part has these cells and no other.
-- Example: of a user without emails that may be shown, a part without `emails`.
pub record IsShown (v : Viewer) (groups : List Content) (wanted : Wanted) (c part : Content) : Type 0 where
  pub is_seen : sees v c ≡ true
  pub kind : part.kind ≡ c.kind
  pub id : part.id ≡ c.id
  pub cells : rows part ≡ restricted (is_shown v wanted c) (rows_with (memberships v.base (seen v groups) c.id) c)
  pub json : found_cells part.kind (part_data part) ≡ entries part.cells

-- The text is what a reply shows of the resource of this kind that has the id.
pub record ShowsOne (v : Viewer) (cs : List Content) (kind : Kind) (id : Option (List ℕ)) (wanted : Wanted) (text : List ℕ) : Type 0 where
  pub resource : Content
  pub stored : Contains cs resource
  pub kind_is : resource.kind ≡ kind
  pub id_is : Some resource.id ≡ id
  pub part : Content
  pub shown : IsShown v (of_kind Group cs) wanted resource part
  pub text_is : text ≡ compact_text (part_data part)

-- The text is the page that a query selects from the client's view of the resources of this kind: filter, order and
-- total are those of the view (RFC 7644 section 3.4.2).
-- Example: a filter on an attribute that the client may not read finds nothing, and the total is 0.
pub record ShowsPage (v : Viewer) (cs : List Content) (kind : Kind) (query : Query) (text : List ℕ) : Type 0 where
  pub view : List Content
  pub view_is : view ≡ views v (of_kind Group cs) (of_kind kind cs)
  pub each : All (λ part. (c : Content) × Contains cs c × IsShown v (of_kind Group cs) query.wanted c part) (shown_items query view)
  pub text_is : text ≡ compact_text (list_data (total_of query view) (first_position query.start) (shown_items query view))

-- The text shows what the request asks for, of the resources after the request.
abbrev pub ShowsText : Viewer → List Content → Turn → Result Ask Refusal → List ℕ → Type 0
ShowsText v cs turn (Ok (Search query)) text = ShowsPage v cs turn.request.kind query text
ShowsText v cs turn (Ok (Get wanted)) text = ShowsOne v cs turn.request.kind turn.request.id wanted text
ShowsText v cs turn (Ok (Create draft wanted)) text = ShowsOne v cs turn.request.kind (Some turn.fresh) wanted text
ShowsText v cs turn (Ok (Replace draft wanted)) text = ShowsOne v cs turn.request.kind turn.request.id wanted text
ShowsText v cs turn (Ok (Patch patch wanted)) text = ShowsOne v cs turn.request.kind turn.request.id wanted text
ShowsText v cs turn _ text = ⊥

-- The reply shows exactly what the client is granted; a reply without a resource shows none.
abbrev pub Shows : Viewer → List Content → Turn → Reply → Type 0
Shows v cs turn (Shown text) = ShowsText v cs turn turn.request.ask text
Shows v cs turn (Created location (Some text)) = ShowsText v cs turn turn.request.ask text
Shows v cs turn _ = ⊤

-- ---- a denial changes nothing, and its audit row names the deciding rule

-- The decision is that of the least rule that passes the test, counted from 1; if no rule does, rule 0 denies.
-- Example: rule 1 denies `hr` to modify `title`, rule 2 allows it `*`: a PATCH of a title is decided by rule 1.
abbrev pub IsOfLeast : (Rule → Bool) → List Rule → Decision → Type 0
IsOfLeast test policy decision =
    ((before : List Rule) × (rule : Rule) × (behind : List Rule)
    × (policy ≡ before ++ rule ∷ behind) × (list_any test before ≡ false) × (test rule ≡ true)
    × (decision ≡ record { rule = suc (length before); allow = rule.allow }))
    ⊎ ((list_any test policy ≡ false) × (decision ≡ record { rule = 0; allow = false }))

-- The least rule that fits the client, the operation, the resource and the leaf decides; on reading, if no rule of the
-- policy has a value filter. With value filters the pattern of the leaf decides (`Patterns.antt` of `scim_policy`).
abbrev pub LeastRulesDecide : Type 0
LeastRulesDecide =
    (policy : List Rule) (client : List ℕ) (op : Op) (c : Content) (leaf : Leaf)
    → (op ≢ Read) ⊎ (is_plain policy ≡ true) → IsOfLeast (fits client op c leaf) policy (decide policy client op c leaf)

-- The resource is stored, and is the one that the request names.
pub record IsNamed (turn : Turn) (cs : List Content) (c : Content) : Type 0 where
  pub there : Contains cs c
  pub kind_is : c.kind ≡ turn.request.kind
  pub id_is : Some c.id ≡ turn.request.id

-- The policy denies an operation on a leaf of a resource by this decision. The resource is the one that the request
-- names, or the one that it would create.
pub record IsDenied (policy : List Rule) (client : List ℕ) (turn : Turn) (cs : List Content) (leaf : Leaf) (decision : Decision) : Type 0 where
  pub op : Op
  pub resource : Content
  pub is_own : IsNamed turn cs resource ⊎ ((op ≡ CreateOp) × (resource.kind ≡ turn.request.kind) × (resource.id ≡ turn.fresh))
  pub decides : decision ≡ decide policy client op resource leaf
  pub denies : decision.allow ≡ false

-- A change of the resource that the request names would widen what the policy allows its client, by this decision on a
-- leaf of the changed resource.
-- Example: rule 1 lets a client read users whose `userType` is `Seen`, and a PATCH sets that of another user.
pub record IsWidened (policy : List Rule) (client : List ℕ) (turn : Turn) (cs : List Content) (leaf : Leaf) (decision : Decision) : Type 0 where
  pub op : Op
  pub before : Content
  pub after : Content
  pub is_own : IsNamed turn cs before
  pub kind : after.kind ≡ before.kind
  pub id : after.id ≡ before.id
  pub widens : widening after.kind (access policy client before) (access policy client after) ≡ Some (op, leaf, decision)

-- The request is denied: no resource changes, and the row names the leaf and the rule of the deciding decision.
pub record IsDenial (policy : List Rule) (client : List ℕ) (turn : Turn) (old new : List Content) (row : AuditRow) : Type 0 where
  pub unchanged : new ≡ old
  pub leaf : Leaf
  pub decision : Decision
  pub decides : IsDenied policy client turn old leaf decision ⊎ IsWidened policy client turn old leaf decision
  pub rule_is : row.rule ≡ Some decision.rule
  pub leaf_is : row.leaf ≡ Some leaf

-- ---- one request, and a list of them

-- The promise for one request: `store` before it, its reply, and `next` after it. The row that it leaves in the audit
-- says `deny` for a denial, and `hidden` for a resource whose existence the client may not know of.
pub record IsKept (policy : List Rule) (base : List ℕ) (turn : Turn) (store : Store) (reply : Reply) (next : Store) : Type 0 where
  pub shows : Shows (viewer_at policy base turn) next.resources turn reply
  pub refused : refusal_of reply ≢ None → next.resources ≡ store.resources
  pub denied : (row : AuditRow) → next.audit ≡ store.audit ++ row ∷ [] → (row.decided ≡ Deny) ⊎ (row.decided ≡ Hidden)
      → IsDenial policy turn.request.client turn store.resources next.resources row

-- The promise for each request of a list, in order.
abbrev pub AreKept : List Rule → List ℕ → Store → List Turn → List Reply → Store → Type 0
AreKept policy base store [] replies next = (replies ≡ []) × (next ≡ store)
AreKept policy base store (turn ∷ turns) replies next =
    (reply : Reply) × (rest : List Reply) × (mid : Store)
    × (replies ≡ reply ∷ rest) × IsKept policy base turn store reply mid × AreKept policy base mid turns rest next

-- The requests that were granted: those whose reply is no refusal.
abbrev pub granted : List Turn → List Reply → List Turn
granted (turn ∷ turns) (reply ∷ replies) = (if is_none (refusal_of reply) then turn ∷ [] else []) ++ granted turns replies
granted _ _ = []

-- Whatever the policy, the store and the requests: the promise is kept for each request that the service runs, and
-- the resources afterwards are those of the granted requests alone.
abbrev pub PromisesAreKept : Type 0
PromisesAreKept =
    (policy : List Rule) (base : List ℕ) (before now : ℕ) (store next : Store) (turns : List Turn) (replies : List Reply)
    → IsStore base store → All IsTurn turns → Runs policy base before store turns replies now next
    → AreKept policy base store turns replies next × (next.resources ≡ (run policy base store (granted turns replies)).resources)

-- ---- two stores that are alike for a client

-- The service runs the requests in order, whatever the device's counts of failures.
abbrev pub RunTo : Viewer → Store → List Turn → List Reply → Store → Type 0
RunTo v store turns replies next = (before : ℕ) × (now : ℕ) × Runs v.policy v.base before store turns replies now next

-- The reply tells neither that the request failed (500), nor that the id drawn for a new resource is in use (503).
pub record IsUnfailed (reply : Reply) : Type 0 where
  pub stored : refusal_of reply ≢ Some NoStore
  pub free : refusal_of reply ≢ Some IdInUse

-- A round over two stores: requests of other clients, which may differ and lead from alike to alike; then the same
-- request of the client over both.
-- Example: `hr` changes a title in one store and asks for a page in the other; then `mail`, which may not read titles,
-- asks for the same user in both.
pub record IsRound (v : Viewer) (s t : Store) (r : Round) : Type 0 where
  pub own : is_of v.client r.own ≡ true
  pub valid : IsTurn r.own × All IsTurn r.first × All IsTurn r.second
  pub others : List Reply
  pub others_too : List Reply
  pub s_mid : Store
  pub t_mid : Store
  pub runs : RunTo v s r.first others s_mid
  pub runs_too : RunTo v t r.second others_too t_mid
  pub lead : IsAlike v s.resources t.resources → IsAlike v s_mid.resources t_mid.resources
  pub reply : Reply
  pub reply_too : Reply
  pub s_next : Store
  pub t_next : Store
  pub answers : RunTo v s_mid (r.own ∷ []) (reply ∷ []) s_next
  pub answers_too : RunTo v t_mid (r.own ∷ []) (reply_too ∷ []) t_next
  pub unfailed : IsUnfailed reply × IsUnfailed reply_too

-- Two runs of the service, round by round; `replies` and `replies_too` are those to the client.
abbrev pub RunBeside : Viewer → Store → Store → List Round → List Reply → List Reply → Store → Store → Type 0
RunBeside v s t [] replies replies_too s_end t_end = (replies ≡ []) × (replies_too ≡ []) × (s_end ≡ s) × (t_end ≡ t)
RunBeside v s t (r ∷ rounds) replies replies_too s_end t_end =
    (round : IsRound v s t r) × (rest : List Reply) × (rest_too : List Reply)
    × (replies ≡ round.reply ∷ rest) × (replies_too ≡ round.reply_too ∷ rest_too)
    × RunBeside v round.s_next round.t_next rounds rest rest_too s_end t_end

-- From two stores that are alike for a client, it gets equal replies, and the stores are alike afterwards.
abbrev pub ClientsCanNotTell : Type 0
ClientsCanNotTell =
    (v : Viewer) (s t s_end t_end : Store) (rounds : List Round) (replies replies_too : List Reply)
    → IsStore v.base s → IsStore v.base t → IsAlike v s.resources t.resources
    → RunBeside v s t rounds replies replies_too s_end t_end
    → (replies ≡ replies_too) × IsAlike v s_end.resources t_end.resources
