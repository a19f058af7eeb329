-- One request, over resources that its client can't tell apart.
use Rattle.std.proofs.Common.{◌≡◌, refl, sym, ◌∙◌, ap, subst, subst₂, ℕ, Bool, true, false, List, inl, inr}
use Rattle.std.specs.Prelude.{All, ◌≤◌, not, find, Option, None, Some, is_none, option_and_then, Result, Ok, Err, if◌then◌else◌}
use Rattle.std.proofs.lemmas.Bool.{cases_Bool, and_parts, not-true}
use Rattle.std.proofs.lemmas.List.Elements.{All-weaker}
use denote.Enum.Bare.{sameb, same_true}
use Rattle.serde_json.specs.Written.{compact_text}
use Rattle.scim_text.specs.Moments.{last_moment}
use Rattle.scim_schema.specs.declared.Kind.{Kind}
use Rattle.scim_schema.specs.declared.Kind.TheVariants.{Group}
use Rattle.scim_schema.specs.declared.Op.{Op}
use Rattle.scim_schema.specs.declared.Op.TheVariants.{Read, Delete}
use Rattle.scim_schema.specs.declared.Attribute.TheVariants.{Id}
use Rattle.scim_schema.specs.declared.Leaf.{Leaf}
use Rattle.scim_schema.specs.declared.Unit.{Unit as AttributeUnit}
use Rattle.scim_schema.specs.contracts.Kind.{the_type as the_kind}
use Rattle.scim_schema.specs.Mutability.{is_fixed}
use Rattle.scim_schema.specs.Units.{simple, units}
use Rattle.scim_cell.specs.Content.{Content}
use Rattle.scim_cell.specs.Kinds.{of_kind}
use Rattle.scim_cell.specs.Rows.{rows}
use Rattle.scim_audit.specs.declared.refusals.Refusal.{Refusal}
use Rattle.scim_audit.specs.declared.refusals.Refusal.TheVariants.{NotFound}
use Rattle.scim_value.specs.Resource.{location}
use Rattle.scim_value.specs.Uniqueness.{Name, unique_names}
use Rattle.scim_body.specs.Drafts.{Draft, IsDraft}
use Rattle.scim_json.specs.PartData.{part_data}
use Rattle.scim_change.specs.Create.{created}
use Rattle.scim_change.specs.Replace.{changes, replaced}
use Rattle.scim_change.specs.Laws.{AgreeAt, AgreeAtOpen, EndsAlike, IsLeft, AreAlike as AreReplacedAlike}
use Rattle.scim_change.proofs.Facts.{IsSound, replaced_sound, replacing_rests_on_its_units}
use Rattle.scim_patch_steps.specs.declared.steps.StepFault.{StepFault}
use Rattle.scim_patch_steps.specs.Patch.{Patch, IsPatch, touched, applied}
use Rattle.scim_patch_steps.specs.Laws.{AreAlike as ArePatchedAlike}
use Rattle.scim_patch_steps.specs.Kept.{patch_of}
use Rattle.scim_patch_steps.proofs.Facts.{applied_sound, patching_rests_on_its_units}
use Rattle.scim_policy.specs.declared.rules.Decision.{Decision}
use Rattle.scim_policy.specs.Access.{forbidding, widening}
use Rattle.scim_view.specs.declared.projection.Wanted.{Wanted}
use Rattle.scim_view.specs.View.{Viewer, read_decision, sees, visible}
use Rattle.scim_view.specs.Shown.{shown}
use Rattle.scim_query.specs.declared.queries.Query.{Query}
use Rattle.scim_shelf.specs.declared.changes.Change.{Change}
use Rattle.scim_shelf.specs.declared.changes.Change.TheVariants.{Nothing}
use Rattle.scim_shelf.specs.Stores.{AreKeyed, is_at, is_taken, is_used, keep, without, changed as after_change}
use Rattle.scim_service.specs.declared.requests.Ask.{Ask}
use Rattle.scim_service.specs.declared.requests.Ask.TheVariants.{Get, Search, Create, Replace, Patch as PatchOne, Remove}
use Rattle.scim_service.specs.declared.requests.Turn.{Turn}
use Rattle.scim_service.specs.declared.replies.Reply.TheVariants.{Shown, Created, Refused}
use Rattle.scim_service.specs.Step.{rejection_plan, absence_plan, hidden_plan, denial_plan, resource_text, get_plan, list_text, search_plan, delete_decision, removal_plan, new_resource, first_denied, kept_text, unique_creation_plan, decided_creation_plan, is_for, creation_plan, access_to, first_unit_denial, is_writable, writable, shown_or_done, narrow_change_plan, unique_change_plan, complete_change_plan, decided_replacement_plan, replacement_plan, first_forbidden, step_refusal, applied_patch_plan, decided_patch_plan, patch_plan, sought_resource, plan_for_seen, request_plan}
use Rattle.scim_noninterference.specs.Alike.{is_in_use}
use Rattle.scim_service.specs.Requests.{IsAsk, FindsFree}
use Rattle.scim_service.proofs.Facts.{Plan, found_holds}
use Rattle.scim_view.proofs.Facts.{passing, none_denied}
use Rattle.scim_noninterference.proofs.StoreLemmas.{Traits, AreFound, IsUnseen, traits, seen_traits, access_same, decision_same, found_same, traits_keep, traits_without, views_same, visible_same, with_groups_same}
use Rattle.scim_noninterference.proofs.NameLemmas.{in_use_absent, in_use_keep_same, names_same, others_same, taken_same}
use Rattle.scim_noninterference.proofs.UnitLemmas.{settled}
use Rattle.scim_noninterference.proofs.ChangeLemmas.{access_of, access_after, agree_at, control_after, kinds_after, traits_after}

-- a client can't tell these resources apart
pub record AreLike (v : Viewer) (s t : List Content) : Type 0 where
  pub same : seen_traits v s ≡ seen_traits v t
  pub names : (name : Name) → is_in_use s name ≡ is_in_use t name

-- two plans that are answered alike, and leave what is alike
pub record AreAnswers (v : Viewer) (s t : List Content) (p q : Plan) : Type 0 where
  pub reply : p.reply ≡ q.reply
  pub like : AreLike v (after_change p.change s) (after_change q.change t)

module _ (v : Viewer) (turn : Turn) (s t : List Content) (like : AreLike v s t) where
  -- ---- what is refused

  -- plans that change nothing
  unchanged : (p q : Plan) → p.reply ≡ q.reply → p.change ≡ Nothing → q.change ≡ Nothing → AreAnswers v s t p q
  unchanged p q e f g = record { reply = e; like = subst₂ (λ (x y : Change). AreLike v (after_change x s) (after_change y t)) (sym f) (sym g) like }

  unseen : (plan : Content → Plan) (o : Option Content) → IsUnseen v o → ((plan_for_seen v turn plan o).reply ≡ Refused NotFound) × ((plan_for_seen v turn plan o).change ≡ Nothing)
  unfolding absence_plan hidden_plan sees
  unseen plan None no' = (refl, refl)
  unseen plan (Some c) no' = rw no' (refl, refl)

  seen_plan : (plan : Content → Plan) (o : Option Content) (c : Content) → o ≡ Some c → sees v c ≡ true → plan_for_seen v turn plan o ≡ plan c
  unfolding sees
  seen_plan plan o c e t = rw (e, t) refl

  at_seen_same : (f g : Content → Plan) (o p : Option Content) → AreFound v o p
      → ((a b : Content) → o ≡ Some a → p ≡ Some b → traits v a ≡ traits v b → AreAnswers v s t (f a) (g b)) → AreAnswers v s t (plan_for_seen v turn f o) (plan_for_seen v turn g p)
  at_seen_same f g o p (inr none) each =
      let first = unseen f o none.0 in
      let second = unseen g p none.1 in
      unchanged (plan_for_seen v turn f o) (plan_for_seen v turn g p) (first.0 ∙ sym second.0) first.1 second.1
  at_seen_same f g o p (inl found) each =
      subst₂ (AreAnswers v s t) (sym (seen_plan f o found.0 found.2 found.4)) (sym (seen_plan g p found.1 found.3 found.5)) (each found.0 found.1 found.2 found.3 found.6)

  -- ---- what is shown

  text_same : (a b : Content) → traits v a ≡ traits v b → (wanted : Wanted) → resource_text v (of_kind Group s) wanted a ≡ resource_text v (of_kind Group t) wanted b
  unfolding resource_text
  text_same a b e wanted = ap (λ (c : Content). compact_text (part_data (shown wanted c))) (with_groups_same v s t like.same a b e)

  got_same : (wanted : Wanted) (a b : Content) → traits v a ≡ traits v b → AreAnswers v s t (get_plan v turn s wanted a) (get_plan v turn t wanted b)
  unfolding get_plan
  got_same wanted a b e = record { reply = ap (λ text. Shown text) (text_same a b e wanted); like = like }

  listed_same : (query : Query) → AreAnswers v s t (search_plan v turn s query) (search_plan v turn t query)
  unfolding search_plan
  listed_same query = record { reply = ap (λ (view : List Content). Shown (list_text query view)) (views_same v turn.request.kind s t like.same); like = like }

  -- ---- what is removed, and what is kept

  without_like : (a b : Content) → a.id ≡ b.id → ((name : Name) → is_in_use (without a.id s) name ≡ is_in_use (without b.id t) name) → AreLike v (without a.id s) (without b.id t)
  without_like a b ids others = record { same = traits_without v a.id b.id ids s t like.same; names = others }

  keep_like : (x y : Content) → traits v x ≡ traits v y → unique_names x ≡ unique_names y → ((name : Name) → is_in_use (without x.id s) name ≡ is_in_use (without y.id t) name)
      → AreLike v (keep x s) (keep y t)
  keep_like x y e names others = record { same = traits_keep v x y e s t like.same; names = λ name. in_use_keep_same x y s t names name (others name) }

  removed_same : (a b : Content) → traits v a ≡ traits v b → ((name : Name) → is_in_use (without a.id s) name ≡ is_in_use (without b.id t) name) → AreAnswers v s t (removal_plan v turn a) (removal_plan v turn b)
  unfolding removal_plan denial_plan
  removed_same a b e others =
      let decided : (delete_decision v a).allow ≡ (delete_decision v b).allow = ap (λ (d : Leaf → Decision). (d (simple Id)).allow) (decision_same v Delete a b e) in
      elim (cases_Bool (delete_decision v b).allow) [
        | inl may ↦ rw (decided, may) (record { reply = refl; like = without_like a b (ap (λ (x : Traits). x.id) e) others })
        | inr not' ↦ rw (decided, not') (record { reply = refl; like = like })
      ]

-- what is shown of a resource that is kept
kept_text_same : (v : Viewer) (s t : List Content) (x y : Content) → AreLike v (keep x s) (keep y t) → traits v x ≡ traits v y → (wanted : Wanted) → kept_text v s wanted x ≡ kept_text v t wanted y
unfolding resource_text
kept_text_same v s t x y kept e wanted =
    let decided : (read_decision v x (simple Id)).allow ≡ (read_decision v y (simple Id)).allow = ap (λ (d : Leaf → Decision). (d (simple Id)).allow) (decision_same v Read x y e) in
    λ i. if decided i then Some (text i) else None
  where
    text : resource_text v (of_kind Group (keep x s)) wanted x ≡ resource_text v (of_kind Group (keep y t)) wanted y
    text = ap (λ (c : Content). compact_text (part_data (shown wanted c))) (with_groups_same v (keep x s) (keep y t) kept.same x y e)

module _ (v : Viewer) (turn : Turn) (s t : List Content) (like : AreLike v s t) where
  -- ---- what is made

  module _ (x : Content) (first : is_used s x.id ≡ false) (second : is_used t x.id ≡ false) where
    made_like : AreLike v (keep x s) (keep x t)
    made_like = keep_like v turn s t like x x refl refl (λ name. in_use_absent x.id s name first ∙ like.names name ∙ sym (in_use_absent x.id t name second))

    free_same : (wanted : Wanted) → AreAnswers v s t (unique_creation_plan v turn s wanted x) (unique_creation_plan v turn t wanted x)
    unfolding rejection_plan
    free_same wanted =
        let taken : is_taken s x ≡ is_taken t x = taken_same x x s t refl like.names in
        elim (cases_Bool (is_taken t x)) [
          | inl holds ↦ rw (taken, holds) (record { reply = refl; like = like })
          | inr no' ↦ rw (taken, no', first, second) (record { reply = ap (λ text. Created (location v.base x.kind x.id) text) (kept_text_same v s t x x made_like refl wanted); like = made_like })
        ]

    allowed_same : (wanted : Wanted) (o : Option Leaf) → AreAnswers v s t (decided_creation_plan v turn s wanted x o) (decided_creation_plan v turn t wanted x o)
    unfolding denial_plan
    allowed_same wanted None = free_same wanted
    allowed_same wanted (Some l) = record { reply = refl; like = like }

  creating_same : (d : Draft) (wanted : Wanted) → is_used s (new_resource v turn d).id ≡ false → is_used t (new_resource v turn d).id ≡ false
      → AreAnswers v s t (creation_plan v turn s d wanted) (creation_plan v turn t d wanted)
  unfolding creation_plan rejection_plan
  creating_same d wanted first second = elim (cases_Bool (is_for turn d)) [
    | inl holds ↦ rw holds (allowed_same (new_resource v turn d) first second wanted (first_denied v d (new_resource v turn d)))
    | inr no' ↦ rw no' (record { reply = refl; like = like })
  ]

  -- ---- what is changed

  module _ (a b x y : Content) (changed : Bool) (wanted : Wanted) (names : unique_names x ≡ unique_names y)
      (others : (name : Name) → is_in_use (without x.id s) name ≡ is_in_use (without y.id t) name) where
    narrow_same : (o p : Option (Op × Leaf × Decision)) → o ≡ p → (o ≡ None → traits v x ≡ traits v y)
        → AreAnswers v s t (narrow_change_plan v turn s wanted (access_to v a) changed x o) (narrow_change_plan v turn t wanted (access_to v b) changed y p)
    unfolding denial_plan
    narrow_same None None e same =
        let kept = keep_like v turn s t like x y (same refl) names others in
        let text = kept_text_same v s t x y kept (same refl) wanted in
        elim (cases_Bool changed) [
          | inl holds ↦ rw holds (record { reply = ap shown_or_done text; like = kept })
          | inr no' ↦ rw no' (record { reply = ap shown_or_done text; like = like })
        ]
    narrow_same None (Some q) e same = cc
    narrow_same (Some p) None e same = cc
    narrow_same (Some p) (Some q) e same = record { reply = refl; like = like }

    changed_same : widening x.kind (access_to v a) (access_to v x) ≡ widening y.kind (access_to v b) (access_to v y)
        → (widening x.kind (access_to v a) (access_to v x) ≡ None → traits v x ≡ traits v y)
        → AreAnswers v s t (unique_change_plan v turn s wanted (access_to v a) changed x) (unique_change_plan v turn t wanted (access_to v b) changed y)
    unfolding rejection_plan
    changed_same wider same =
        let taken : is_taken (without x.id s) x ≡ is_taken (without y.id t) y = taken_same x y (without x.id s) (without y.id t) names others in
        elim (cases_Bool (is_taken (without y.id t) y)) [
          | inl holds ↦ rw (taken, holds) (record { reply = refl; like = like })
          | inr no' ↦ rw (taken, no') (narrow_same (widening x.kind (access_to v a) (access_to v x)) (widening y.kind (access_to v b) (access_to v y)) wider same)
        ]

-- what is named by nothing isn't there
none_is : {X : Type 0} (o : Option X) → is_none o ≡ true → o ≡ None
none_is None e = refl
none_is (Some x) e = cc

module _ (v : Viewer) (turn : Turn) (s t : List Content) (like : AreLike v s t) (keyed_s : AreKeyed s) (keyed_t : AreKeyed t)
    (sound_s : All (IsSound v.base) s) (sound_t : All (IsSound v.base) t) (there : turn.moment ≤ last_moment) where
  -- ---- the resource that is sought in each

  record AreSought (a b : Content) : Type 0 where
    one : IsSound v.base a
    two : IsSound v.base b
    same : traits v a ≡ traits v b
    others : (name : Name) → is_in_use (without a.id s) name ≡ is_in_use (without b.id t) name

  found_by : (o : Option (List ℕ)) → AreFound v (option_and_then (λ (id : List ℕ). find (is_at turn.request.kind id) s) o) (option_and_then (λ (id : List ℕ). find (is_at turn.request.kind id) t) o)
  found_by None = inr (tt, tt)
  found_by (Some id) = found_same v turn.request.kind id s t keyed_s keyed_t like.same

  sought_by : (o : Option (List ℕ)) (a b : Content) → option_and_then (λ (id : List ℕ). find (is_at turn.request.kind id) s) o ≡ Some a
      → option_and_then (λ (id : List ℕ). find (is_at turn.request.kind id) t) o ≡ Some b → traits v a ≡ traits v b → AreSought a b
  sought_by None a b e f same = cc
  sought_by (Some id) a b e f same =
      let one = found_holds (IsSound v.base) (is_at turn.request.kind id) s a sound_s e in
      let two = found_holds (IsSound v.base) (is_at turn.request.kind id) t b sound_t f in
      record {
        one = one;
        two = two;
        same = same;
        others = others_same turn.request.kind id s t a b v.policy keyed_s keyed_t one.0 two.0 e f
            (ap (λ (x : Traits). x.kind) same) (ap (λ (x : Traits). x.id) same) (ap (λ (x : Traits). x.control) same) like.names;
      }

  sought_same : (f g : Content → Plan) → ((a b : Content) → AreSought a b → AreAnswers v s t (f a) (g b)) → AreAnswers v s t (plan_for_seen v turn f (sought_resource turn s)) (plan_for_seen v turn g (sought_resource turn t))
  sought_same f g each =
      at_seen_same v turn s t like f g (sought_resource turn s) (sought_resource turn t) (found_by turn.request.id) (λ a b e h same. each a b (sought_by turn.request.id a b e h same))

  -- ---- what comes of it

  agreed_same : (us : List AttributeUnit) (changed : Bool) (a b x y : Content) → AreSought a b → IsSound v.base x → IsSound v.base y
      → AgreeAt us x y → IsLeft us changed turn.moment a x → IsLeft us changed turn.moment b y → (wanted : Wanted)
      → AreAnswers v s t (unique_change_plan v turn s wanted (access_to v a) changed x) (unique_change_plan v turn t wanted (access_to v b) changed y)
  agreed_same us changed a b x y are three four agree first second wanted =
      let kinds = kinds_after v us changed turn.moment a b x y are.one.0 are.two.0 three.0 four.0 are.same agree first second in
      let decides = control_after v us changed turn.moment a b x y are.one.0 are.two.0 three.0 four.0 are.same agree first second in
      let may = access_after v us changed turn.moment a b x y are.one.0 are.two.0 three.0 four.0 are.same agree first second in
      let others : (name : Name) → is_in_use (without x.id s) name ≡ is_in_use (without y.id t) name
      = λ name. ap (λ i. is_in_use (without i s) name) first.id ∙ are.others name ∙ sym (ap (λ i. is_in_use (without i t) name) second.id) in
      changed_same v turn s t like a b x y changed wanted (names_same v.policy x y three.0 four.0 kinds decides) others
      (λ i. widening (kinds i) (access_same v a b are.same i) (may i))
      (traits_after v us changed turn.moment a b x y are.one.0 are.two.0 three.0 four.0 are.same agree first second)

  outcome_same : (kind : Kind) (us : List AttributeUnit) (changed : Bool) (a b x y : Content) → AreSought a b → IsSound v.base x → IsSound v.base y
      → All (λ u. EndsAlike kind u a b x y) us → IsLeft us changed turn.moment a x → IsLeft us changed turn.moment b y → (wanted : Wanted)
      → AreAnswers v s t (unique_change_plan v turn s wanted (access_to v a) changed x) (unique_change_plan v turn t wanted (access_to v b) changed y)
  outcome_same kind us changed a b x y are three four ends first second wanted =
      let is = settled kind us changed turn.moment a b x y ends first second in
      agreed_same is.units changed a b x y are three four is.agree is.first is.second wanted

  -- ---- what is replaced

  module _ (d : Draft) (is : IsDraft d) (wanted : Wanted) (a b : Content) (are : AreSought a b) (kind : d.kind ≡ a.kind) where
    kinds_same : a.kind ≡ b.kind
    kinds_same = ap (λ (x : Traits). x.kind) are.same

    replaced_same : (us : List AttributeUnit) → All (λ u. forbidding a.kind (access_of v a) u ≡ None) us → All (λ u. is_fixed a.kind u ≡ false) us
        → AreAnswers v s t (complete_change_plan v turn s wanted (access_to v a) (changes d us (rows a)) (replaced d us turn.moment a))
        (complete_change_plan v turn t wanted (access_to v b) (changes d us (rows b)) (replaced d us turn.moment b))
    unfolding rejection_plan
    replaced_same us free open' =
        let law = replacing_rests_on_its_units d us turn.moment a b is are.one.0 are.two.0 (sym kind) (sym kinds_same ∙ sym kind) (subst (λ (x : Kind). AgreeAtOpen x us a b) (sym kind) (agree_at v us a b are.one.0 are.two.0 are.same free)) in
        subst (λ (c : Bool). AreAnswers v s t (complete_change_plan v turn s wanted (access_to v a) (changes d us (rows a)) (replaced d us turn.moment a))
        (complete_change_plan v turn t wanted (access_to v b) c (replaced d us turn.moment b))) law.0
        (go (changes d us (rows a)) (replaced d us turn.moment a) (replaced d us turn.moment b) refl refl law.1)
      where
        go : (c : Bool) (o p : Option Content) → replaced d us turn.moment a ≡ o → replaced d us turn.moment b ≡ p → AreReplacedAlike d.kind us c turn.moment a b o p
            → AreAnswers v s t (complete_change_plan v turn s wanted (access_to v a) c o) (complete_change_plan v turn t wanted (access_to v b) c p)
        go c None None e f h = record { reply = refl; like = like }
        go c (Some x) (Some y) e f h =
            outcome_same d.kind us c a b x y are (replaced_sound d is us a kind open' turn.moment there v.base are.one x e)
            (replaced_sound d is us b (kind ∙ kinds_same) (subst (λ (k : Kind). All (λ u. is_fixed k u ≡ false) us) kinds_same open') turn.moment there v.base are.two y f)
            h.0 h.1 h.2 wanted
        go c None (Some y) e f h = absurd h
        go c (Some x) None e f h = absurd h

    written_same : (o : Option (Leaf × Decision)) → AreAnswers v s t (decided_replacement_plan v turn s d wanted a o) (decided_replacement_plan v turn t d wanted b o)
    unfolding denial_plan
    written_same (Some (l, decision)) = record { reply = refl; like = like }
    written_same None =
        let us = writable a.kind (access_to v a) in
        let all = passing (is_writable a.kind (access_to v a)) (units a.kind) in
        let free = All-weaker (λ u. is_writable a.kind (access_to v a) u ≡ true) (λ u. forbidding a.kind (access_of v a) u ≡ None)
        (λ u h. none_is (forbidding a.kind (access_of v a) u) (and_parts (not (is_fixed a.kind u)) (is_none (forbidding a.kind (access_to v a) u)) h).1) us all in
        let open' = All-weaker (λ u. is_writable a.kind (access_to v a) u ≡ true) (λ u. is_fixed a.kind u ≡ false)
        (λ u h. not-true (is_fixed a.kind u) (and_parts (not (is_fixed a.kind u)) (is_none (forbidding a.kind (access_to v a) u)) h).0) us all in
        let same_units : us ≡ writable b.kind (access_to v b) = λ i. writable (kinds_same i) (access_same v a b are.same i) in
        subst (λ (vs : List AttributeUnit). AreAnswers v s t (complete_change_plan v turn s wanted (access_to v a) (changes d us (rows a)) (replaced d us turn.moment a))
        (complete_change_plan v turn t wanted (access_to v b) (changes d vs (rows b)) (replaced d vs turn.moment b))) same_units (replaced_same us free open')

  replacing_same : (d : Draft) → IsDraft d → (wanted : Wanted) (a b : Content) → AreSought a b → AreAnswers v s t (replacement_plan v turn s d wanted a) (replacement_plan v turn t d wanted b)
  unfolding replacement_plan rejection_plan
  replacing_same d is wanted a b are =
      let kinds : sameb the_kind d.kind a.kind ≡ sameb the_kind d.kind b.kind = ap (λ (x : Traits). sameb the_kind d.kind x.kind) are.same in
      elim (cases_Bool (sameb the_kind d.kind b.kind)) [
        | inl holds ↦
            let kind : d.kind ≡ a.kind = same_true the_kind tt d.kind a.kind (kinds ∙ holds) in
            let reasons : first_unit_denial (access_to v a) d (visible v a) (units d.kind) ≡ first_unit_denial (access_to v b) d (visible v b) (units d.kind)
            = λ i. first_unit_denial (access_same v a b are.same i) d (visible_same v a b are.same i) (units d.kind) in
            rw (kinds, holds, reasons) (written_same d is wanted a b are kind (first_unit_denial (access_to v b) d (visible v b) (units d.kind)))
        | inr no' ↦ rw (kinds, no') (record { reply = refl; like = like })
      ]

  -- ---- what is patched

  module _ (p : Patch) (is : IsPatch p) (wanted : Wanted) (a b : Content) (are : AreSought a b) (kind : p.kind ≡ a.kind) where
    applied_same : (o q : Result (Content × Bool) StepFault) → applied p turn.moment a ≡ o → applied p turn.moment b ≡ q → ArePatchedAlike p.kind (touched p) turn.moment a b o q
        → AreAnswers v s t (applied_patch_plan v turn s wanted a o) (applied_patch_plan v turn t wanted b q)
    unfolding rejection_plan
    applied_same (Err e) (Err f) made made_too h = record { reply = ap (λ fault. Refused (step_refusal fault)) h; like = like }
    applied_same (Ok (x, changed)) (Ok (y, other)) made made_too h =
        let two : IsLeft (touched p) changed turn.moment b y = subst (λ (c : Bool). IsLeft (touched p) c turn.moment b y) (sym h.0) h.3 in
        subst (λ (c : Bool). AreAnswers v s t (unique_change_plan v turn s wanted (access_to v a) changed x) (unique_change_plan v turn t wanted (access_to v b) c y)) h.0
        (outcome_same p.kind (touched p) changed a b x y are (applied_sound p is turn.moment there v.base a (sym kind) are.one x changed made)
        (applied_sound p is turn.moment there v.base b (sym (kind ∙ ap (λ (z : Traits). z.kind) are.same)) are.two y other made_too) h.1 h.2 two wanted)
    applied_same (Err e) (Ok y) made made_too h = absurd h
    applied_same (Ok x) (Err f) made made_too h = absurd h

    permitted_same : (o : Option (Leaf × Decision)) → first_forbidden p.kind (access_to v a) (touched p) ≡ o
        → AreAnswers v s t (decided_patch_plan v turn s p wanted a o) (decided_patch_plan v turn t p wanted b o)
    unfolding denial_plan
    permitted_same (Some (l, decision)) e = record { reply = refl; like = like }
    permitted_same None e =
        let none = none_denied p.kind (access_to v a) (touched p) (first_forbidden p.kind (access_to v a)) refl (λ u us. refl) e in
        let free = subst (λ (k : Kind). All (λ u. forbidding k (access_of v a) u ≡ None) (touched p)) kind none in
        applied_same (applied p turn.moment a) (applied p turn.moment b) refl refl
        (patching_rests_on_its_units p turn.moment a b is are.one.0 are.two.0 (sym kind) (sym (kind ∙ ap (λ (z : Traits). z.kind) are.same))
        (subst (λ (x : Kind). AgreeAtOpen x (touched p) a b) (sym kind) (agree_at v (touched p) a b are.one.0 are.two.0 are.same free)))

  patching_same : (p : Patch) → IsPatch p → (wanted : Wanted) (a b : Content) → AreSought a b → AreAnswers v s t (patch_plan v turn s p wanted a) (patch_plan v turn t p wanted b)
  unfolding patch_plan rejection_plan
  patching_same p is wanted a b are =
      let kinds : sameb the_kind p.kind a.kind ≡ sameb the_kind p.kind b.kind = ap (λ (x : Traits). sameb the_kind p.kind x.kind) are.same in
      elim (cases_Bool (sameb the_kind p.kind b.kind)) [
        | inl holds ↦
            let kind : p.kind ≡ a.kind = same_true the_kind tt p.kind a.kind (kinds ∙ holds) in
            let reasons : first_forbidden p.kind (access_to v a) (touched p) ≡ first_forbidden p.kind (access_to v b) (touched p)
            = λ i. first_forbidden p.kind (access_same v a b are.same i) (touched p) in
            rw (kinds, holds, reasons) (permitted_same p is wanted a b are kind (first_forbidden p.kind (access_to v b) (touched p)) reasons)
        | inr no' ↦ rw (kinds, no') (record { reply = refl; like = like })
      ]

  -- ---- whatever is asked

  new_id : (d : Draft) → (new_resource v turn d).id ≡ turn.fresh
  unfolding created
  new_id d = refl

  pub planned_same : (ask : Result Ask Refusal) → IsAsk ask → FindsFree s turn.fresh ask → FindsFree t turn.fresh ask → AreAnswers v s t (request_plan v turn s ask) (request_plan v turn t ask)
  unfolding rejection_plan
  planned_same (Err refusal) is first second = record { reply = refl; like = like }
  planned_same (Ok (Get wanted)) is first second = sought_same (get_plan v turn s wanted) (get_plan v turn t wanted) (λ a b are. got_same v turn s t like wanted a b are.same)
  planned_same (Ok (Search query)) is first second = listed_same v turn s t like query
  planned_same (Ok (Create draft wanted)) is first second =
      creating_same v turn s t like draft wanted (ap (is_used s) (new_id draft) ∙ first) (ap (is_used t) (new_id draft) ∙ second)
  planned_same (Ok (Replace draft wanted)) is first second =
      sought_same (replacement_plan v turn s draft wanted) (replacement_plan v turn t draft wanted) (λ a b are. replacing_same draft is wanted a b are)
  planned_same (Ok (PatchOne patch wanted)) is first second =
      sought_same (patch_plan v turn s (patch_of patch) wanted) (patch_plan v turn t (patch_of patch) wanted) (λ a b are. patching_same (patch_of patch) is wanted a b are)
  planned_same (Ok Remove) is first second =
      sought_same (removal_plan v turn) (removal_plan v turn) (λ a b are. removed_same v turn s t like a b are.same are.others)
