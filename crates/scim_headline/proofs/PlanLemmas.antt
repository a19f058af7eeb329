-- What holds of plans: what they show, what a refusal changes, and what a denial names.
use Rattle.std.proofs.Common.{◌≡◌, ◌≢◌, ◌⊎◌, refl, sym, ◌∙◌, ap, ℕ, Bool, true, false, List, inl, inr}
use Rattle.std.specs.Prelude.{⊤, Contains, find, Option, None, Some, option_and_then, Result, Ok, if◌then◌else◌}
use Rattle.std.proofs.lemmas.List.Elements.{All-contains}
use Rattle.scim_schema.specs.declared.Kind.{Kind}
use Rattle.scim_schema.specs.declared.Kind.TheVariants.{Group}
use Rattle.scim_schema.specs.declared.Op.TheVariants.{Read, Delete}
use Rattle.scim_schema.specs.declared.Attribute.TheVariants.{Id}
use Rattle.scim_schema.specs.declared.Leaf.{Leaf}
use Rattle.scim_schema.specs.Units.{simple}
use Rattle.scim_cell.specs.Content.{Content, IsPart}
use Rattle.scim_cell.specs.Kinds.{of_kind}
use Rattle.scim_audit.specs.declared.audit_rows.Decided.{Decided}
use Rattle.scim_audit.specs.declared.audit_rows.Decided.TheVariants as decided
use Rattle.scim_audit.specs.declared.refusals.Refusal.{Refusal}
use Rattle.scim_audit.specs.declared.refusals.Refusal.TheVariants.{NotFound, Denied}
use Rattle.scim_policy.specs.declared.rules.Decision.{Decision}
use Rattle.scim_view.specs.declared.projection.Wanted.{Wanted}
use Rattle.scim_view.specs.View.{Viewer, read_decision, sees}
use Rattle.scim_view.specs.Groups.{with_groups}
use Rattle.scim_view.specs.Shown.{shown}
use Rattle.scim_query.specs.declared.queries.Query.{Query}
use Rattle.scim_shelf.specs.declared.changes.Change.TheVariants.{Nothing}
use Rattle.scim_shelf.specs.Stores.{is_at, changed as after_change}
use Rattle.scim_service.specs.declared.requests.Ask.{Ask}
use Rattle.scim_service.specs.declared.requests.Ask.TheVariants.{Get, Search}
use Rattle.scim_service.specs.declared.requests.Turn.{Turn}
use Rattle.scim_service.specs.declared.replies.Reply.{Reply}
use Rattle.scim_service.specs.declared.replies.Reply.TheVariants.{Shown, Created}
use Rattle.scim_service.specs.Replies.{refusal_of}
use Rattle.scim_service.specs.Step.{row_of, named_id, refusal_plan, rejection_plan, absence_plan, hidden_plan, denial_plan, resource_text, get_plan, search_plan, delete_decision, removal_plan, sought_resource, plan_for_seen}
use Rattle.scim_service.proofs.Facts.{Plan}
use Rattle.scim_headline.specs.Headline.{ShowsOne, ShowsText, IsNamed, IsDenied, IsWidened, IsDenial}
use Rattle.scim_headline.proofs.ShownLemmas.{AreParts, shows_part, shows_page}
use Rattle.scim_headline.proofs.StoredLemmas.{found_own}

-- ---- what holds of a plan

-- The reply shows what is asked for, of these resources.
abbrev pub ShowsReply : Viewer → List Content → Turn → Result Ask Refusal → Reply → Type 0
ShowsReply v cs turn ask (Shown text) = ShowsText v cs turn ask text
ShowsReply v cs turn ask (Created location (Some text)) = ShowsText v cs turn ask text
ShowsReply v cs turn ask _ = ⊤

-- If the resources are parts after the change, the reply shows what is asked for, of these. A refusal changes nothing.
-- The row of a denial names what decides.
pub record IsGood (v : Viewer) (turn : Turn) (cs : List Content) (ask : Result Ask Refusal) (p : Plan) : Type 0 where
  pub shows : AreParts (after_change p.change cs) → ShowsReply v (after_change p.change cs) turn ask p.reply
  pub refused : refusal_of p.reply ≢ None → p.change ≡ Nothing
  pub denied : (p.row.decided ≡ decided.Deny) ⊎ (p.row.decided ≡ decided.Hidden) → IsDenial v.policy v.client turn cs (after_change p.change cs) p.row

-- what is refused for another reason, absent or allowed is neither denied nor hidden
no_refused : {G : Type 0} → (decided.Refused ≡ decided.Deny) ⊎ (decided.Refused ≡ decided.Hidden) → G
no_refused (inl e) = cc
no_refused (inr e) = cc

no_absent : {G : Type 0} → (decided.Absent ≡ decided.Deny) ⊎ (decided.Absent ≡ decided.Hidden) → G
no_absent (inl e) = cc
no_absent (inr e) = cc

no_allowed : {G : Type 0} → (how : Decided) → how ≡ decided.Allow → (how ≡ decided.Deny) ⊎ (how ≡ decided.Hidden) → G
no_allowed how is (inl e) = cc
no_allowed how is (inr e) = cc

-- ---- the resource that a request names

-- it is the one that is found
sought : (turn : Turn) (cs : List Content) (c : Content) → sought_resource turn cs ≡ Some c → IsNamed turn cs c
sought turn cs c found = by_id turn.request.id refl found
  where
    by_id : (o : Option (List ℕ)) → turn.request.id ≡ o → option_and_then (λ (id : List ℕ). find (is_at turn.request.kind id) cs) o ≡ Some c → IsNamed turn cs c
    by_id None is e = cc
    by_id (Some id) is e =
        let own = found_own turn.request.kind id cs c e in
        record { there = own.0; kind_is = own.1; id_is = ap (λ (x : List ℕ). Some x) own.2 ∙ sym is }

-- the text of a stored resource that the client sees shows it
pub shows_one : (v : Viewer) (cs : List Content) (kind : Kind) (id : Option (List ℕ)) (wanted : Wanted) (c : Content)
    → AreParts cs → Contains cs c → c.kind ≡ kind → Some c.id ≡ id → sees v c ≡ true → ShowsOne v cs kind id wanted (resource_text v (of_kind Group cs) wanted c)
unfolding resource_text
shows_one v cs kind id wanted c parts there kind_is id_is t = record {
  resource = c;
  stored = there;
  kind_is = kind_is;
  id_is = id_is;
  part = shown wanted (with_groups v (of_kind Group cs) c);
  shown = shows_part v (of_kind Group cs) wanted c (All-contains IsPart cs c parts there) t;
  text_is = refl;
}

module _ (v : Viewer) (turn : Turn) (cs : List Content) (ask : Result Ask Refusal) where
  abbrev pub Good : Plan → Type 0
  Good p = IsGood v turn cs ask p

  -- ---- refusals

  -- a refusal changes nothing and shows nothing; its row is that of a denial if it says so
  refusing : (how : Decided) (rule : Option ℕ) (leaf : Option Leaf) (refusal : Refusal)
      → ((how ≡ decided.Deny) ⊎ (how ≡ decided.Hidden) → IsDenial v.policy v.client turn cs cs (row_of turn (named_id turn) how rule leaf (Some refusal)))
      → Good (refusal_plan turn how rule leaf refusal)
  refusing how rule leaf refusal denied = record { shows = λ parts. tt; refused = λ some. refl; denied = denied }

  pub rejected : (refusal : Refusal) → Good (rejection_plan turn refusal)
  unfolding rejection_plan
  rejected refusal = refusing decided.Refused None None refusal no_refused

  absent : Good (absence_plan turn)
  unfolding absence_plan
  absent = refusing decided.Absent None None NotFound no_absent

  denying : (how : Decided) (d : Decision) (l : Leaf) (refusal : Refusal) → IsDenied v.policy v.client turn cs l d ⊎ IsWidened v.policy v.client turn cs l d
      → Good (refusal_plan turn how (Some d.rule) (Some l) refusal)
  denying how d l refusal decides =
      refusing how (Some d.rule) (Some l) refusal (λ e. record { unchanged = refl; leaf = l; decision = d; decides = decides; rule_is = refl; leaf_is = refl })

  pub denied : (d : Decision) (l : Leaf) (refusal : Refusal) → IsDenied v.policy v.client turn cs l d ⊎ IsWidened v.policy v.client turn cs l d → Good (denial_plan turn d l refusal)
  unfolding denial_plan
  denied d l refusal decides = denying decided.Deny d l refusal decides

  hidden : (c : Content) → IsNamed turn cs c → (read_decision v c (simple Id)).allow ≡ false → Good (hidden_plan turn (read_decision v c (simple Id)))
  unfolding hidden_plan
  hidden c is f = denying decided.Hidden (read_decision v c (simple Id)) (simple Id) NotFound (inl (record { op = Read; resource = c; is_own = inl is; decides = refl; denies = f }))

  -- ---- what is allowed

  -- a plan whose row says `allow`, and whose reply is no refusal and shows what is asked for
  pub allowed : (p : Plan) → p.row.decided ≡ decided.Allow → refusal_of p.reply ≡ None
      → (AreParts (after_change p.change cs) → ShowsReply v (after_change p.change cs) turn ask p.reply) → Good p
  allowed p row reply shows = record { shows = shows; refused = λ some. absurd (some reply); denied = no_allowed p.row.decided row }

  pub either_plan : (b : Bool) (p q : Plan) → (b ≡ true → Good p) → (b ≡ false → Good q) → Good (if b then p else q)
  either_plan true p q one two = one refl
  either_plan false p q one two = two refl

  -- ---- the resource that is sought

  -- a plan for a resource, if the client sees it
  at_seen : (plan : Content → Plan) (o : Option Content) → ((c : Content) → o ≡ Some c → IsNamed turn cs c) → ((c : Content) → o ≡ Some c → sees v c ≡ true → Good (plan c)) → Good (plan_for_seen v turn plan o)
  unfolding sees
  at_seen plan None named each = absent
  at_seen plan (Some c) named each =
      either_plan (read_decision v c (simple Id)).allow (plan c) (hidden_plan turn (read_decision v c (simple Id))) (λ t. each c refl t) (λ f. hidden c (named c refl) f)

  pub at_sought : (plan : Content → Plan) → ((c : Content) → IsNamed turn cs c → sees v c ≡ true → Good (plan c)) → Good (plan_for_seen v turn plan (sought_resource turn cs))
  at_sought plan each = at_seen plan (sought_resource turn cs) (sought turn cs) (λ c found t. each c (sought turn cs c found) t)

  -- ---- DELETE

  pub removed : (c : Content) → IsNamed turn cs c → Good (removal_plan v turn c)
  unfolding removal_plan
  removed c is =
      either_plan (delete_decision v c).allow _ (denial_plan turn (delete_decision v c) (simple Id) Denied)
      (λ t. allowed _ refl refl (λ parts. tt))
      (λ f. denied (delete_decision v c) (simple Id) Denied (inl (record { op = Delete; resource = c; is_own = inl is; decides = refl; denies = f })))

-- ---- GET and search

pub got : (v : Viewer) (turn : Turn) (cs : List Content) (wanted : Wanted) (c : Content) → IsNamed turn cs c → sees v c ≡ true
    → IsGood v turn cs (Ok (Get wanted)) (get_plan v turn cs wanted c)
unfolding get_plan
got v turn cs wanted c is t =
    allowed v turn cs (Ok (Get wanted)) _ refl refl (λ parts. shows_one v cs turn.request.kind turn.request.id wanted c parts is.there is.kind_is is.id_is t)

pub listed : (v : Viewer) (turn : Turn) (cs : List Content) (query : Query) → IsGood v turn cs (Ok (Search query)) (search_plan v turn cs query)
unfolding search_plan
listed v turn cs query = allowed v turn cs (Ok (Search query)) _ refl refl (λ parts. shows_page v cs turn.request.kind query parts)
