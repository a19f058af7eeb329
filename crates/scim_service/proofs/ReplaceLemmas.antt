-- What is planned where a resource is replaced.
use Rattle.std.proofs.Common.{◌≡◌, refl, sym, ◌∙◌, ap, ℕ, Bool, true, false, List, [], ◌∷◌, inl, inr, is_some, All, filter}
use Rattle.std.specs.Prelude.{Option, None, Some, if◌then◌else◌}
use Rattle.std.specs.List.{list_any}
use Rattle.std.proofs.lemmas.Bool.{cases_Bool}
use Rattle.std.proofs.lemmas.List.Elements.{All-weaker, filter_passes}
use denote.Enum.Bare.{sameb}
use Rattle.scim_schema.specs.contracts.Kind.{the_type as the_kind}
use Rattle.scim_schema.specs.declared.Kind.{Kind}
use Rattle.scim_schema.specs.declared.Op.{Op}
use Rattle.scim_schema.specs.declared.Leaf.{Leaf}
use Rattle.scim_schema.specs.declared.Unit.{Unit as AttributeUnit}
use Rattle.scim_schema.specs.declared.Attribute.TheVariants.{Id}
use Rattle.scim_schema.specs.Mutability.{is_fixed}
use Rattle.scim_schema.specs.Units.{simple, units}
use Rattle.scim_cell.specs.Content.{Content}
use Rattle.scim_cell.specs.Rows.{rows}
use Rattle.scim_audit.specs.declared.refusals.Refusal.TheVariants.{Taken, Widens}
use Rattle.scim_change.specs.Agreement.{agrees}
use Rattle.scim_body.specs.Drafts.{Draft, gives}
use Rattle.scim_change.specs.Replace.{changes, replaced}
use Rattle.scim_policy.specs.declared.rules.Decision.{Decision}
use Rattle.scim_policy.specs.Access.{Access, forbidding, widening}
use Rattle.scim_view.specs.declared.projection.Wanted.{Wanted}
use Rattle.scim_view.specs.View.{Viewer, read_decision, visible}
use Rattle.scim_shelf.specs.Stores.{is_taken, without}
use Rattle.scim_service.specs.declared.requests.Turn.{Turn}
use Rattle.scim_service.specs.declared.plans.Plan.{Plan}
use Rattle.scim_service.specs.code.Questions.{is_in_question}
use Rattle.scim_service.specs.Step.{rejection_plan, absence_plan, hidden_plan, denial_plan, access_to, unit_denial, first_unit_denial, kept_text, kept_plan, unique_change_plan, is_writable, writable_replacement_plan, decided_replacement_plan, replacement_plan, sought_resource, plan_for_seen}

-- a unit that isn't in question isn't denied
unit_passes : (a : Access) (d : Draft) (seen : Content) (u : AttributeUnit) → is_in_question a d u ≡ false → unit_denial a d seen u ≡ None
unit_passes a d seen u h = elim (cases_Bool (is_fixed d.kind u)) [
  | inl fixed ↦ rw fixed refl
  | inr free ↦ elim (cases_Bool (gives d u)) [
    | inr lacks ↦ rw (free, lacks) refl
    | inl given ↦ elim (cases_Bool (agrees d u seen)) [
      | inl agree ↦ rw (free, given, agree) refl
      | inr differ ↦ (let none : is_some (forbidding d.kind a u) ≡ false = rw (free, given) at h in rw (free, given, differ) (nothing (forbidding d.kind a u) none))
    ]
  ]
]
  where
    nothing : (o : Option (Leaf × Decision)) → is_some o ≡ false → o ≡ None
    nothing None e = refl
    nothing (Some x) e = cc

-- so where none is in question, none is denied
pub none_questioned : (a : Access) (d : Draft) (seen : Content) (us : List AttributeUnit) → list_any (is_in_question a d) us ≡ false → first_unit_denial a d seen us ≡ None
none_questioned a d seen [] h = refl
none_questioned a d seen (u ∷ us) h = elim (cases_Bool (is_in_question a d u)) [
  | inl t ↦ (let yes : list_any (is_in_question a d) (u ∷ us) ≡ true = rw t refl in cc)
  | inr f ↦ rw (unit_passes a d seen u f) (none_questioned a d seen us (rw f at h))
]

-- what a unit in question is denied by
pub unit_questioned : (a : Access) (d : Draft) (seen : Content) (u : AttributeUnit) → is_in_question a d u ≡ true → agrees d u seen ≡ false → forbidding d.kind a u ≡ unit_denial a d seen u
unit_questioned a d seen u h differ = elim (cases_Bool (is_fixed d.kind u)) [
  | inl fixed ↦ (let no : is_in_question a d u ≡ false = rw fixed refl in cc)
  | inr free ↦ elim (cases_Bool (gives d u)) [
    | inr lacks ↦ (let no : is_in_question a d u ≡ false = rw (free, lacks) refl in cc)
    | inl given ↦ rw (free, given, differ) refl
  ]
]

-- one that agrees isn't denied
pub unit_agrees : (a : Access) (d : Draft) (seen : Content) (u : AttributeUnit) → agrees d u seen ≡ true → None ≡ unit_denial a d seen u
unit_agrees a d seen u agree = elim (cases_Bool (is_fixed d.kind u)) [
  | inl fixed ↦ rw fixed refl
  | inr free ↦ elim (cases_Bool (gives d u)) [ inl given ↦ rw (free, given, agree) refl | inr lacks ↦ rw (free, lacks) refl ]
]

-- ---- the change

module _ (v : Viewer) (turn : Turn) (cs : List Content) (wanted : Wanted) (a : Access) (changed : Bool) (c : Content) where
  pub taken_is : is_taken (without c.id cs) c ≡ true → rejection_plan turn Taken ≡ unique_change_plan v turn cs wanted a changed c
  taken_is t = rw t refl

  pub widened_is : (op : Op) (l : Leaf) (d : Decision) → is_taken (without c.id cs) c ≡ false → widening c.kind a (access_to v c) ≡ Some (op, l, d) → denial_plan turn d l Widens ≡ unique_change_plan v turn cs wanted a changed c
  widened_is op l d free wide = rw (free, wide) refl

  pub changed_is : (rule : ℕ) (text : Option (List ℕ)) → is_taken (without c.id cs) c ≡ false → widening c.kind a (access_to v c) ≡ None
      → rule ≡ (a.read (simple Id)).rule → text ≡ kept_text v cs wanted c → kept_plan turn rule changed c text ≡ unique_change_plan v turn cs wanted a changed c
  changed_is rule text free narrow rule_is text_is = rw (free, narrow) (λ i. kept_plan turn (rule_is i) changed c (text_is i))

-- what may be written isn't readOnly
pub writable_free : (kind : Kind) (a : Access) (us : List AttributeUnit) → All (λ u. is_fixed kind u ≡ false) (filter (is_writable kind a) us)
writable_free kind a us = All-weaker (λ u. is_writable kind a u ≡ true) (λ u. is_fixed kind u ≡ false) free (filter (is_writable kind a) us) (filter_passes (is_writable kind a) us)
  where
    free : (u : AttributeUnit) → is_writable kind a u ≡ true → is_fixed kind u ≡ false
    free u passes = elim (cases_Bool (is_fixed kind u)) [
      | inl fixed ↦ absurd (let no : is_writable kind a u ≡ false = rw fixed refl in cc)
      | inr plain ↦ plain
    ]

-- ---- the resource that a request names, once it is there and seen

module _ (v : Viewer) (turn : Turn) (cs : List Content) (d : Draft) (wanted : Wanted) (c : Content) where
  -- what becomes of it is planned
  pub written_is : (us : List AttributeUnit) (changed : Bool) (x : Content) → replaced d us turn.moment c ≡ Some x → changed ≡ changes d us (rows c)
      → unique_change_plan v turn cs wanted (access_to v c) changed x ≡ writable_replacement_plan v turn cs d wanted c us
  written_is us changed x e same = rw e (ap (λ (b : Bool). unique_change_plan v turn cs wanted (access_to v c) b x) same)

  pub replacing_is : sameb the_kind d.kind c.kind ≡ true → first_unit_denial (access_to v c) d (visible v c) (units d.kind) ≡ None
      → decided_replacement_plan v turn cs d wanted c None ≡ replacement_plan v turn cs d wanted c
  unfolding replacement_plan
  replacing_is own none = rw (own, none) refl

-- what is planned of a resource that isn't there, and of one that isn't seen
pub absent_is : (v : Viewer) (turn : Turn) (cs : List Content) (next : Content → Plan) → None ≡ sought_resource turn cs → absence_plan turn ≡ plan_for_seen v turn next (sought_resource turn cs)
absent_is v turn cs next none = rw (← none) refl

pub hidden_is : (v : Viewer) (turn : Turn) (next : Content → Plan) (c : Content) (o : Option Content) (d : Decision)
    → d ≡ read_decision v c (simple Id) → d.allow ≡ false → Some c ≡ o → hidden_plan turn d ≡ plan_for_seen v turn next o
hidden_is v turn next c o d decides denies found =
    let unseen : (read_decision v c (simple Id)).allow ≡ false = ap (λ (e : Decision). e.allow) (sym decides) ∙ denies in
    rw (← found) (ap (hidden_plan turn) decides ∙ otherwise (read_decision v c (simple Id)).allow (next c) (hidden_plan turn (read_decision v c (simple Id))) unseen)
  where
    otherwise : (b : Bool) (x y : Plan) → b ≡ false → y ≡ (if b then x else y)
    otherwise false x y e = refl
    otherwise true x y e = cc

pub seen_is : (v : Viewer) (turn : Turn) (cs : List Content) (next : Content → Plan) (c : Content) (plan : Plan)
    → plan ≡ next c → (read_decision v c (simple Id)).allow ≡ true → Some c ≡ sought_resource turn cs → plan ≡ plan_for_seen v turn next (sought_resource turn cs)
seen_is v turn cs next c plan made allows found = rw (← found) (rw allows made)
