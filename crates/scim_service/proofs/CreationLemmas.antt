-- Names and ids in use, and what a client is shown of what is made.
use Rattle.std.proofs.Common.{◌≡◌, refl, sym, ◌∙◌, ap, subst, ℕ, Bool, true, false, ◌&&◌, ◌||◌, List, [], ◌∷◌, ◌++◌, is_some, inl, inr}
use Rattle.std.specs.Prelude.{find, not, Option, None, Some}
use Rattle.std.specs.List.{list_any}
use Rattle.std.proofs.lemmas.Bool.{cases_Bool}
use Rattle.std.proofs.lemmas.List.Elements.{filter-append}
use Rattle.serde_json.specs.Written.{compact_text}
use denote.Enum.Bare.{sameb}
use Rattle.scim_schema.specs.declared.Kind.{Kind}
use Rattle.scim_schema.specs.declared.Kind.TheVariants.{User, Group}
use Rattle.scim_schema.specs.contracts.Kind.{the_type as the_kind}
use Rattle.scim_schema.specs.declared.Attribute.TheVariants.{Id}
use Rattle.scim_schema.specs.declared.Leaf.{Leaf}
use Rattle.scim_schema.specs.Table.{leaves}
use Rattle.scim_schema.specs.Units.{simple}
use Rattle.scim_cell.specs.Content.{Content}
use Rattle.scim_cell.specs.Kinds.{is_of, of_kind}
use Rattle.scim_value.specs.Uniqueness.{Name}
use Rattle.scim_body.specs.Drafts.{Draft}
use Rattle.scim_json.specs.PartData.{part_data}
use Rattle.scim_policy.specs.declared.rules.Decision.{Decision}
use Rattle.scim_view.specs.declared.projection.Wanted.{Wanted}
use Rattle.scim_view.specs.View.{Viewer, read_decision}
use Rattle.scim_view.specs.Groups.{with_groups}
use Rattle.scim_view.specs.Shown.{shown}
use Rattle.scim_shelf.specs.Stores.{Store, IsStore, AreKeyed, AreOf, is_at, has_name, is_taken, is_used, below, above, keep, without}
use Rattle.scim_shelf.proofs.Facts.{found_any, groups_without, is_other, named_beside, used_by_kind}
use Rattle.scim_service.specs.code.Others.{beside, is_another}
use Rattle.scim_service.specs.declared.requests.Turn.{Turn}
use Rattle.scim_service.specs.declared.plans.Plan.{Plan}
use Rattle.scim_audit.specs.declared.refusals.Refusal.TheVariants.{Taken, IdInUse}
use Rattle.scim_service.specs.Step.{rejection_plan, resource_text, kept_text, create_decision, is_decided, first_denied, new_resource, creation_plan_with, unique_creation_plan, is_for, creation_plan}
use Rattle.scim_search.proofs.Facts.{none_of_group}

-- ---- names

-- whether another has a name, by the one who is found to have it
pub owner_other : (own : Option (List ℕ)) (n : Name) (cs : List Content) (owner : Option Content) → AreKeyed cs → owner ≡ find (has_name n) cs
    → is_another own owner ≡ list_any (has_name n) (beside own cs)
owner_other None n cs owner keyed is = somebody owner ∙ ap is_some is ∙ found_any (has_name n) cs
  where
    somebody : (o : Option Content) → is_another None o ≡ is_some o
    somebody None = refl
    somebody (Some c) = refl
owner_other (Some id) n cs owner keyed is = somebody owner ∙ named_beside n id cs owner keyed is
  where
    somebody : (o : Option Content) → is_another (Some id) o ≡ is_other id o
    somebody None = refl
    somebody (Some c) = refl

-- a name that one has is taken
pub taken_first : (n : Name) (ns : List Name) (cs : List Content) → list_any (has_name n) cs ≡ true → true ≡ list_any (λ m. list_any (has_name m) cs) (n ∷ ns)
taken_first n ns cs t = rw t refl

-- of a name that none has, the others decide
pub taken_later : (n : Name) (ns : List Name) (cs : List Content) (b : Bool) → list_any (has_name n) cs ≡ false
    → b ≡ list_any (λ m. list_any (has_name m) cs) ns → b ≡ list_any (λ m. list_any (has_name m) cs) (n ∷ ns)
taken_later n ns cs b f rest = rw f rest

-- ---- ids

pub used_by_user : (id : List ℕ) (cs : List Content) (user : Option Content) → user ≡ find (is_at User id) cs → is_some user ≡ true → true ≡ is_used cs id
used_by_user id cs user e h =
    let t : is_some (find (is_at User id) cs) ≡ true = ap is_some (sym e) ∙ h in
    sym (used_by_kind id cs ∙ ap (λ b. b || is_some (find (is_at Group id) cs)) t)

pub used_by_group : (id : List ℕ) (cs : List Content) (user group : Option Content) → user ≡ find (is_at User id) cs → is_some user ≡ false → group ≡ find (is_at Group id) cs → is_some group ≡ is_used cs id
used_by_group id cs user group e h g =
    let f : is_some (find (is_at User id) cs) ≡ false = ap is_some (sym e) ∙ h in
    ap is_some g ∙ sym (used_by_kind id cs ∙ ap (λ b. b || is_some (find (is_at Group id) cs)) f)

-- ---- what is shown

-- a user among others changes nothing of the groups
groups_beside_user : (c : Content) (cs : List Content) → is_of Group c ≡ false → of_kind Group (keep c cs) ≡ of_kind Group (without c.id cs)
groups_beside_user c cs other =
    filter-append (is_of Group) (below c.id cs) (c ∷ above c.id cs)
    ∙ ap (λ gs. of_kind Group (below c.id cs) ++ gs) (skipped other)
    ∙ sym (filter-append (is_of Group) (below c.id cs) (above c.id cs))
  where
    skipped : is_of Group c ≡ false → of_kind Group (c ∷ above c.id cs) ≡ of_kind Group (above c.id cs)
    skipped f = rw f refl

by_kind : {G : Type 0} (k : Kind) → (k ≡ User → G) → (k ≡ Group → G) → G
by_kind User user group = user refl
by_kind Group user group = group refl

-- a resource has the groups that it has before it is kept: it is new, or takes the place of one of its kind
pub kept_groups : (v : Viewer) (base : List ℕ) (store : Store) (c : Content) → IsStore base store → AreOf c.kind c.id store.resources
    → with_groups v (of_kind Group store.resources) c ≡ with_groups v (of_kind Group (keep c store.resources)) c
kept_groups v base store c is own = by_kind c.kind
    (λ user. (let other : is_of Group c ≡ false = ap (λ k. sameb the_kind k Group) user in
    let users : AreOf User c.id store.resources = subst (λ (k : Kind). AreOf k c.id store.resources) user own in
    ap (λ gs. with_groups v gs c) (sym (groups_beside_user c store.resources other ∙ groups_without c.id store.resources is.keyed users))))
    (λ group. none_of_group v (of_kind Group store.resources) (of_kind Group (keep c store.resources)) c group)

-- what is told of a resource that is kept and seen, and of one that isn't
pub text_seen : (v : Viewer) (cs : List Content) (wanted : Wanted) (c : Content) (groups : List Content) (text : List ℕ) (d : Decision)
    → text ≡ resource_text v groups wanted c → with_groups v groups c ≡ with_groups v (of_kind Group (keep c cs)) c
    → d ≡ read_decision v c (simple Id) → d.allow ≡ true → Some text ≡ kept_text v cs wanted c
unfolding resource_text
text_seen v cs wanted c groups text d text_is groups_are decides allows =
    let seen : (read_decision v c (simple Id)).allow ≡ true = ap (λ (e : Decision). e.allow) (sym decides) ∙ allows in
    let told = text_is ∙ ap (λ (w : Content). compact_text (part_data (shown wanted w))) groups_are in
    rw seen (ap (λ (t : List ℕ). Some t) told)

pub text_unseen : (v : Viewer) (cs : List Content) (wanted : Wanted) (c : Content) (d : Decision)
    → d ≡ read_decision v c (simple Id) → d.allow ≡ false → None ≡ kept_text v cs wanted c
text_unseen v cs wanted c d decides denies =
    let unseen : (read_decision v c (simple Id)).allow ≡ false = ap (λ (e : Decision). e.allow) (sym decides) ∙ denies in rw unseen refl

-- ---- what is planned

find_agree : (p q : Leaf → Bool) → ((l : Leaf) → p l ≡ q l) → (ls : List Leaf) → find p ls ≡ find q ls
find_agree p q same [] = refl
find_agree p q same (l ∷ ls) = elim (cases_Bool (p l)) [
  | inl t ↦ (let u : q l ≡ true = sym (same l) ∙ t in rw (t, u) refl)
  | inr f ↦ (let u : q l ≡ false = sym (same l) ∙ f in rw (f, u) (find_agree p q same ls))
]

pub none_found : {X : Type 0} (o : Option X) → ((x : X) → o ≡ Some x → ⊥) → o ≡ None
none_found None never = refl
none_found (Some x) never = absurd (never x refl)

-- where these decisions deny nothing, the policy denies nothing
pub none_denied : (v : Viewer) (d : Draft) (c : Content) (decides : Leaf → Decision) (o : Option Leaf) → ((l : Leaf) → decides l ≡ create_decision v c l)
    → o ≡ find (λ l. is_decided d l && not (decides l).allow) (leaves d.kind) → ((l : Leaf) → o ≡ Some l → ⊥) → first_denied v d c ≡ None
none_denied v d c decides o same is never =
    sym (find_agree (λ l. is_decided d l && not (decides l).allow) (λ l. is_decided d l && not (create_decision v c l).allow) (λ l. ap (λ (e : Decision). is_decided d l && not e.allow) (same l)) (leaves d.kind))
    ∙ sym is ∙ none_found o never

-- one with a name or an id that is another's is refused
pub taken_refused : (v : Viewer) (turn : Turn) (cs : List Content) (wanted : Wanted) (c : Content) → is_taken cs c ≡ true → rejection_plan turn Taken ≡ unique_creation_plan v turn cs wanted c
taken_refused v turn cs wanted c taken = rw taken refl

pub used_refused : (v : Viewer) (turn : Turn) (cs : List Content) (wanted : Wanted) (c : Content) → is_taken cs c ≡ false → is_used cs c.id ≡ true → rejection_plan turn IdInUse ≡ unique_creation_plan v turn cs wanted c
used_refused v turn cs wanted c free used = rw (free, used) refl

-- a resource with names and an id of its own is kept
pub made_is : (v : Viewer) (turn : Turn) (cs : List Content) (wanted : Wanted) (c : Content) (rule : ℕ) (text : Option (List ℕ)) (plan : Plan)
    → is_taken cs c ≡ false → is_used cs c.id ≡ false → rule ≡ (create_decision v c (simple Id)).rule → text ≡ kept_text v cs wanted c
    → plan ≡ creation_plan_with v turn c rule text → plan ≡ unique_creation_plan v turn cs wanted c
made_is v turn cs wanted c rule text plan free fresh rule_is text_is plan_is =
    rw (free, fresh) (plan_is ∙ (λ i. creation_plan_with v turn c (rule_is i) (text_is i)))

-- so is one that the policy allows
pub creating_is : (v : Viewer) (turn : Turn) (cs : List Content) (d : Draft) (wanted : Wanted) (c : Content) → is_for turn d ≡ true → c ≡ new_resource v turn d → first_denied v d c ≡ None
    → unique_creation_plan v turn cs wanted c ≡ creation_plan v turn cs d wanted
unfolding creation_plan
creating_is v turn cs d wanted c for same none =
    let allowed : first_denied v d (new_resource v turn d) ≡ None = ap (first_denied v d) (sym same) ∙ none in
    rw (for, allowed) (ap (unique_creation_plan v turn cs wanted) same)
