-- What holds of the plans that change resources: create, PUT and PATCH.
use Rattle.std.proofs.Common.{◌≡◌, refl, sym, ◌∙◌, ap, subst, ℕ, Bool, true, false, List, [], ◌∷◌, inl, inr}
use Rattle.std.specs.Prelude.{not, ◌&&◌, ◌||◌, Contains, Option, None, Some, Result, Ok, Err, if◌then◌else◌}
use Rattle.std.specs.List.Sorted.{IsStrictlySortedBy}
use Rattle.std.proofs.lemmas.Bool.{and_parts, not-true}
use denote.Enum.Bare.{sameb, same_true}
use Rattle.scim_schema.specs.declared.Kind.TheVariants.{Group}
use Rattle.scim_schema.specs.contracts.Kind.{the_type as the_kind}
use Rattle.scim_schema.specs.declared.Op.{Op}
use Rattle.scim_schema.specs.declared.Op.TheVariants.{Create}
use Rattle.scim_schema.specs.declared.Attribute.TheVariants.{Id}
use Rattle.scim_schema.specs.declared.Leaf.{Leaf}
use Rattle.scim_schema.specs.declared.Unit.{Unit as AttributeUnit}
use Rattle.scim_schema.specs.Mutability.{is_fixed}
use Rattle.scim_schema.specs.Table.{leaves}
use Rattle.scim_schema.specs.Units.{simple, units}
use Rattle.scim_cell.specs.Content.{Content}
use Rattle.scim_cell.specs.Kinds.{of_kind}
use Rattle.scim_cell.specs.Order.{id_cmp}
use Rattle.scim_cell.specs.Rows.{Row, rows}
use Rattle.scim_audit.specs.declared.refusals.Refusal.{Refusal}
use Rattle.scim_audit.specs.declared.refusals.Refusal.TheVariants.{MessageValue, Denied, ResultValue, Taken, Widens, IdInUse}
use Rattle.scim_value.specs.Resource.{location}
use Rattle.scim_body.specs.declared.drafts.UseFor.TheVariants.{Creating}
use Rattle.scim_body.specs.contracts.drafts.UseFor.{the_type as the_use_for}
use Rattle.scim_body.specs.Drafts.{Draft, gives}
use Rattle.scim_change.specs.Agreement.{agrees}
use Rattle.scim_change.specs.Create.{created}
use Rattle.scim_change.specs.Replace.{changes, replaced}
use Rattle.scim_patch_steps.specs.declared.steps.StepFault.{StepFault}
use Rattle.scim_patch_steps.specs.Kept.{patch_of}
use Rattle.scim_patch_steps.specs.Patch.{Patch, touched, patched, changes as changes_by, finished, if_stepped, applied}
use Rattle.scim_policy.specs.declared.rules.Decision.{Decision}
use Rattle.scim_policy.specs.Access.{forbidding, widening}
use Rattle.scim_policy.specs.Table.{or_else}
use Rattle.scim_view.specs.declared.projection.Wanted.{Wanted}
use Rattle.scim_view.specs.View.{Viewer, read_decision, sees, visible}
use Rattle.scim_shelf.specs.Stores.{is_taken, is_used, keep, without, changed as after_change}
use Rattle.scim_service.specs.declared.requests.Ask.{Ask}
use Rattle.scim_service.specs.declared.requests.Ask.TheVariants.{Get, Search, Create as MakeOne, Replace, Patch as PatchOne, Remove}
use Rattle.scim_service.specs.declared.requests.Turn.{Turn}
use Rattle.scim_service.specs.declared.replies.Reply.TheVariants.{Created}
use Rattle.scim_service.specs.Replies.{refusal_of}
use Rattle.scim_service.specs.Step.{rejection_plan, resource_text, get_plan, removal_plan, new_resource, create_decision, is_decided, first_denied, kept_text, kept_creation_plan, unique_creation_plan, decided_creation_plan, is_for, creation_plan, access_to, first_unit_denial, writable, shown_or_done, change_keeping, kept_plan, narrow_change_plan, unique_change_plan, complete_change_plan, decided_replacement_plan, replacement_plan, first_forbidden, step_refusal, applied_patch_plan, decided_patch_plan, patch_plan, request_plan}
use Rattle.scim_service.proofs.Facts.{Plan}
use Rattle.scim_service.proofs.StepLemmas.{replaced_kind, patched_kind}
use Rattle.scim_headline.specs.Headline.{ShowsOne, ShowsText, IsNamed, IsDenied}
use Rattle.scim_headline.proofs.ShownLemmas.{AreParts}
use Rattle.scim_headline.proofs.StoredLemmas.{found, kept_there, kept_again}
use Rattle.scim_headline.proofs.DeniedLemmas.{forbidden}
use Rattle.scim_headline.proofs.PlanLemmas.{ShowsReply, IsGood, shows_one, rejected, denied, allowed, either_plan, at_sought, removed, got, listed}

-- ---- what comes of a resource

-- a PUT that changes nothing leaves the resource as it is
replaced_same : (d : Draft) (us : List AttributeUnit) (moment : ℕ) (c x : Content) → replaced d us moment c ≡ Some x → changes d us (rows c) ≡ false → c ≡ x
unfolding replaced
replaced_same d us moment c x e f = let same : Some c ≡ Some x = rw f at e in cc

-- the resource that comes of a patch, and whether it changed
abbrev outcome_of : Content → Result (Content × Bool) StepFault → Content × Bool
outcome_of c (Ok y) = y
outcome_of c (Err e) = (c, true)

-- so does a PATCH that changes nothing
patched_same : (p : Patch) (moment : ℕ) (c x : Content) (changed : Bool) → applied p moment c ≡ Ok (x, changed) → changed ≡ false → c ≡ x
unfolding applied
patched_same p moment c x changed e f = by_steps (patched p (rows c)) e
  where
    by_steps : (r : Result (List Row) StepFault) → if_stepped p moment c r ≡ Ok (x, changed) → c ≡ x
    by_steps (Err fault) h = cc
    by_steps (Ok rs) h =
        let same : finished p moment c rs ≡ x = ap (λ r. (outcome_of c r).0) h in
        let changes' : changes_by p (rows c) rs ≡ changed = ap (λ r. (outcome_of c r).1) h in
        let none : changes_by p (rows c) rs ≡ false = changes' ∙ f in
        let left : finished p moment c rs ≡ c = rw none refl in
        sym left ∙ same

-- what holds where the first option has a value, and where the second has it, holds where one of them has it
of_either : {X : Type 0} (G : Type 0) (o p : Option X) (x : X) → or_else o p ≡ Some x → (o ≡ Some x → G) → (p ≡ Some x → G) → G
of_either G None p x e first second = second e
of_either G (Some y) p x e first second = first e

module _ (v : Viewer) (turn : Turn) (cs : List Content) where
  -- ---- the reply's text of a stored resource

  -- what holds of no text, and of the resource's text where the client sees the resource, holds of the text of a reply
  by_text : (P : Option (List ℕ) → Type 0) (wanted : Wanted) (x : Content) → P None → (sees v x ≡ true → P (Some (resource_text v (of_kind Group (keep x cs)) wanted x))) → P (kept_text v cs wanted x)
  unfolding sees
  by_text P wanted x none some = by_sight (read_decision v x (simple Id)).allow some
    where
      by_sight : (b : Bool) → (b ≡ true → P (Some (resource_text v (of_kind Group (keep x cs)) wanted x)))
          → P (if b then Some (resource_text v (of_kind Group (keep x cs)) wanted x) else None)
      by_sight true some = some refl
      by_sight false some = none

  -- the text of a resource that is kept shows it, among the resources afterwards
  kept_one : (id : Option (List ℕ)) (wanted : Wanted) (x : Content) → AreParts (keep x cs) → x.kind ≡ turn.request.kind → Some x.id ≡ id → sees v x ≡ true
      → ShowsOne v (keep x cs) turn.request.kind id wanted (resource_text v (of_kind Group (keep x cs)) wanted x)
  kept_one id wanted x parts kind_is id_is t = shows_one v (keep x cs) turn.request.kind id wanted x parts (kept_there x cs) kind_is id_is t

  -- ---- create

  module _ (d : Draft) (wanted : Wanted) where
    abbrev GoodMade : Plan → Type 0
    GoodMade p = IsGood v turn cs (Ok (MakeOne d wanted)) p

    abbrev new : Content
    new = new_resource v turn d

    new_id : new.id ≡ turn.fresh
    unfolding created
    new_id = refl

    new_kind : new.kind ≡ d.kind
    unfolding created
    new_kind = refl

    own_kind : is_for turn d ≡ true → new.kind ≡ turn.request.kind
    own_kind own =
        new_kind ∙ same_true the_kind tt d.kind turn.request.kind (and_parts (sameb the_kind d.kind turn.request.kind) (sameb the_use_for d.use_for Creating) own).0

    kept_new : is_for turn d ≡ true → GoodMade (kept_creation_plan v turn cs wanted new)
    kept_new own =
        allowed v turn cs (Ok (MakeOne d wanted)) _ refl refl
        (λ parts. by_text (λ text. ShowsReply v (keep new cs) turn (Ok (MakeOne d wanted)) (Created (location v.base new.kind new.id) text)) wanted new tt
        (λ t. kept_one (Some turn.fresh) wanted new parts (own_kind own) (ap (λ (id : List ℕ). Some id) new_id) t))

    unique_new : is_for turn d ≡ true → GoodMade (unique_creation_plan v turn cs wanted new)
    unique_new own =
        either_plan v turn cs (Ok (MakeOne d wanted)) (is_taken cs new) (rejection_plan turn Taken) _ (λ t. rejected v turn cs (Ok (MakeOne d wanted)) Taken)
        (λ f. either_plan v turn cs (Ok (MakeOne d wanted)) (is_used cs new.id) (rejection_plan turn IdInUse) (kept_creation_plan v turn cs wanted new)
        (λ t. rejected v turn cs (Ok (MakeOne d wanted)) IdInUse) (λ g. kept_new own))

    -- the policy denies the create at the first denied leaf
    denied_new : (l : Leaf) → first_denied v d new ≡ Some l → (create_decision v new l).allow ≡ false
    denied_new l e =
        let is = found (λ (m : Leaf). Unit {0}) (λ m. is_decided d m && not (create_decision v new m).allow) (leaves d.kind) l (λ k m h. tt) e in
        not-true (create_decision v new l).allow (and_parts (is_decided d l) (not (create_decision v new l).allow) is.1).1

    decided_new : is_for turn d ≡ true → (o : Option Leaf) → first_denied v d new ≡ o → GoodMade (decided_creation_plan v turn cs wanted new o)
    decided_new own None e = unique_new own
    decided_new own (Some l) e =
        denied v turn cs (Ok (MakeOne d wanted)) (create_decision v new l) l Denied (inl (record { op = Create; resource = new; is_own = inr (refl, own_kind own, new_id); decides = refl; denies = denied_new l e }))

    made : GoodMade (creation_plan v turn cs d wanted)
    unfolding creation_plan
    made =
        either_plan v turn cs (Ok (MakeOne d wanted)) (is_for turn d) (decided_creation_plan v turn cs wanted new (first_denied v d new)) (rejection_plan turn MessageValue)
        (λ own. decided_new own (first_denied v d new) refl) (λ f. rejected v turn cs (Ok (MakeOne d wanted)) MessageValue)

  -- ---- what is changed

  module _ (sorted : IsStrictlySortedBy id_cmp cs) (ask : Result Ask Refusal) (wanted : Wanted)
      (asks : (ds : List Content) (text : List ℕ) → ShowsOne v ds turn.request.kind turn.request.id wanted text → ShowsText v ds turn ask text)
      (c : Content) (is : IsNamed turn cs c) where
    abbrev GoodChange : Plan → Type 0
    GoodChange p = IsGood v turn cs ask p

    -- what comes of the resource is of its kind and has its id; where it isn't changed, it is the one that is stored
    record IsLeft (changed : Bool) (x : Content) : Type 0 where
      kinds : x.kind ≡ c.kind
      ids : x.id ≡ c.id
      stays : changed ≡ false → c ≡ x

    -- either way, the resources afterwards are those with it kept among them
    after_kept : (changed : Bool) (x : Content) → IsLeft changed x → keep x cs ≡ after_change (change_keeping changed x) cs
    after_kept true x left = refl
    after_kept false x left = kept_again x cs sorted (subst (Contains cs) (left.stays refl) is.there)

    no_refusal : (text : Option (List ℕ)) → refusal_of (shown_or_done text) ≡ None
    no_refusal None = refl
    no_refusal (Some text) = refl

    kept_changed : (rule : ℕ) (changed : Bool) (x : Content) → IsLeft changed x → GoodChange (kept_plan turn rule changed x (kept_text v cs wanted x))
    kept_changed rule changed x left =
        let e = after_kept changed x left in
        allowed v turn cs ask _ refl (no_refusal (kept_text v cs wanted x))
        (λ parts. subst (λ ds. ShowsReply v ds turn ask (shown_or_done (kept_text v cs wanted x))) e
        (by_text (λ text. ShowsReply v (keep x cs) turn ask (shown_or_done text)) wanted x tt
        (λ t. asks (keep x cs) (resource_text v (of_kind Group (keep x cs)) wanted x)
        (kept_one turn.request.id wanted x (subst AreParts (sym e) parts) (left.kinds ∙ is.kind_is) (ap (λ (id : List ℕ). Some id) left.ids ∙ is.id_is) t))))

    narrow : (changed : Bool) (x : Content) → IsLeft changed x → (o : Option (Op × Leaf × Decision)) → widening x.kind (access_to v c) (access_to v x) ≡ o
        → GoodChange (narrow_change_plan v turn cs wanted (access_to v c) changed x o)
    narrow changed x left None e = kept_changed ((access_to v c).read (simple Id)).rule changed x left
    narrow changed x left (Some (op, l, d)) e = denied v turn cs ask d l Widens (inr (record { op = op; before = c; after = x; is_own = is; kind = left.kinds; id = left.ids; widens = e }))

    unique_changed : (changed : Bool) (x : Content) → IsLeft changed x → GoodChange (unique_change_plan v turn cs wanted (access_to v c) changed x)
    unique_changed changed x left =
        either_plan v turn cs ask (is_taken (without x.id cs) x) (rejection_plan turn Taken) _ (λ t. rejected v turn cs ask Taken)
        (λ f. narrow changed x left (widening x.kind (access_to v c) (access_to v x)) refl)

    -- ---- PUT

    module _ (d : Draft) where
      completed : (us : List AttributeUnit) (o : Option Content) → replaced d us turn.moment c ≡ o → GoodChange (complete_change_plan v turn cs wanted (access_to v c) (changes d us (rows c)) o)
      completed us None e = rejected v turn cs ask ResultValue
      completed us (Some x) e =
          let same = replaced_kind d us turn.moment c x e in
          unique_changed (changes d us (rows c)) x (record { kinds = same.0; ids = same.1; stays = replaced_same d us turn.moment c x e })

      -- the first unit that the client may not write names a decision that denies
      unit_denied : (us : List AttributeUnit) (l : Leaf) (decision : Decision) → first_unit_denial (access_to v c) d (visible v c) us ≡ Some (l, decision) → IsDenied v.policy v.client turn cs l decision
      unit_denied [] l decision e = cc
      unit_denied (u ∷ us) l decision e =
          let rest = unit_denied us l decision in
          of_either (IsDenied v.policy v.client turn cs l decision) _ (first_unit_denial (access_to v c) d (visible v c) us) (l, decision) e
          (by_test (is_fixed d.kind u || (not (gives d u) || agrees d u (visible v c)))) rest
        where
          by_test : (b : Bool) → (if b then None else forbidding d.kind (access_to v c) u) ≡ Some (l, decision) → IsDenied v.policy v.client turn cs l decision
          by_test true h = cc
          by_test false h = forbidden v.policy v.client c turn cs is d.kind u l decision h

      decided_put : (o : Option (Leaf × Decision)) → first_unit_denial (access_to v c) d (visible v c) (units d.kind) ≡ o → GoodChange (decided_replacement_plan v turn cs d wanted c o)
      decided_put None e = completed (writable c.kind (access_to v c)) (replaced d (writable c.kind (access_to v c)) turn.moment c) refl
      decided_put (Some (l, decision)) e = denied v turn cs ask decision l Denied (inl (unit_denied (units d.kind) l decision e))

      put : GoodChange (replacement_plan v turn cs d wanted c)
      unfolding replacement_plan
      put =
          either_plan v turn cs ask (sameb the_kind d.kind c.kind) _ (rejection_plan turn MessageValue)
          (λ t. decided_put (first_unit_denial (access_to v c) d (visible v c) (units d.kind)) refl) (λ f. rejected v turn cs ask MessageValue)

    -- ---- PATCH

    module _ (p : Patch) where
      stepped : (r : Result (Content × Bool) StepFault) → applied p turn.moment c ≡ r → GoodChange (applied_patch_plan v turn cs wanted c r)
      stepped (Err e) left = rejected v turn cs ask (step_refusal e)
      stepped (Ok (x, changed)) left =
          let same = patched_kind p turn.moment c x changed left in
          unique_changed changed x (record { kinds = same.0; ids = same.1; stays = patched_same p turn.moment c x changed left })

      -- the first unit of a step that the client may not write names a decision that denies
      touch_denied : (us : List AttributeUnit) (l : Leaf) (decision : Decision) → first_forbidden p.kind (access_to v c) us ≡ Some (l, decision) → IsDenied v.policy v.client turn cs l decision
      touch_denied [] l decision e = cc
      touch_denied (u ∷ us) l decision e =
          of_either (IsDenied v.policy v.client turn cs l decision) (forbidding p.kind (access_to v c) u) (first_forbidden p.kind (access_to v c) us) (l, decision) e
          (forbidden v.policy v.client c turn cs is p.kind u l decision) (touch_denied us l decision)

      decided_patch : (o : Option (Leaf × Decision)) → first_forbidden p.kind (access_to v c) (touched p) ≡ o → GoodChange (decided_patch_plan v turn cs p wanted c o)
      decided_patch None e = stepped (applied p turn.moment c) refl
      decided_patch (Some (l, decision)) e = denied v turn cs ask decision l Denied (inl (touch_denied (touched p) l decision e))

      patch : GoodChange (patch_plan v turn cs p wanted c)
      unfolding patch_plan
      patch =
          either_plan v turn cs ask (sameb the_kind p.kind c.kind) _ (rejection_plan turn MessageValue)
          (λ t. decided_patch (first_forbidden p.kind (access_to v c) (touched p)) refl) (λ f. rejected v turn cs ask MessageValue)

  -- ---- whatever is asked

  pub planned : IsStrictlySortedBy id_cmp cs → (ask : Result Ask Refusal) → IsGood v turn cs ask (request_plan v turn cs ask)
  planned sorted (Err refusal) = rejected v turn cs (Err refusal) refusal
  planned sorted (Ok (Get wanted)) = at_sought v turn cs (Ok (Get wanted)) (get_plan v turn cs wanted) (got v turn cs wanted)
  planned sorted (Ok (Search query)) = listed v turn cs query
  planned sorted (Ok (MakeOne d wanted)) = made d wanted
  planned sorted (Ok (Replace d wanted)) =
      at_sought v turn cs (Ok (Replace d wanted)) (replacement_plan v turn cs d wanted) (λ c is t. put sorted (Ok (Replace d wanted)) wanted (λ ds text h. h) c is d)
  planned sorted (Ok (PatchOne patch' wanted)) =
      at_sought v turn cs (Ok (PatchOne patch' wanted)) (patch_plan v turn cs (patch_of patch') wanted)
      (λ c is t. patch sorted (Ok (PatchOne patch' wanted)) wanted (λ ds text h. h) c is (patch_of patch'))
  planned sorted (Ok Remove) = at_sought v turn cs (Ok Remove) (removal_plan v turn) (λ c is t. removed v turn cs (Ok Remove) c is)
