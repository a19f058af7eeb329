-- What a plan may change.
use Rattle.std.proofs.Common.{◌≡◌, refl, sym, ap, ◌∙◌, subst, subst₂, ℕ, Bool, true, List, false, inl, inr}
use Rattle.std.specs.Prelude.{⊤, find, option_and_then, Option, None, Some, Result, Ok, Err}
use Rattle.std.proofs.lemmas.Bool.{cases_Bool}
use Rattle.scim_schema.specs.declared.Kind.{Kind}
use Rattle.scim_schema.specs.declared.Op.{Op}
use Rattle.scim_schema.specs.declared.Leaf.{Leaf}
use Rattle.scim_schema.specs.declared.Unit.{Unit as AttributeUnit}
use denote.Enum.Bare.{sameb, same_true}
use Rattle.scim_schema.specs.contracts.Kind.{the_type as the_kind}
use Rattle.scim_schema.specs.declared.Attribute.TheVariants.{Id}
use Rattle.scim_schema.specs.Units.{simple, units}
use Rattle.scim_cell.specs.Content.{Content}
use Rattle.scim_cell.specs.Rows.{Row, rows, content}
use Rattle.scim_value.specs.Resource.{IsResource, HasBase}
use Rattle.scim_audit.specs.declared.refusals.Refusal.{Refusal}
use Rattle.scim_audit.specs.declared.audit_rows.AuditRow.{AuditRow}
use Rattle.scim_body.specs.Drafts.{Draft, lacks_required}
use Rattle.scim_change.specs.Replace.{changes, taken, with_units, modified_at, if_complete, replaced}
use Rattle.scim_patch_steps.specs.declared.steps.StepFault.{StepFault}
use Rattle.scim_patch_steps.specs.Patch.{Patch, touched, patched, changes as changes_by, finished, if_stepped, applied}
use Rattle.scim_patch_steps.specs.Kept.{patch_of}
use Rattle.scim_policy.specs.declared.rules.Decision.{Decision}
use Rattle.scim_policy.specs.Access.{Access, widening}
use Rattle.scim_view.specs.declared.projection.Wanted.{Wanted}
use Rattle.scim_view.specs.View.{Viewer, read_decision, visible}
use Rattle.scim_shelf.specs.declared.changes.Change.{Change}
use Rattle.scim_shelf.specs.declared.changes.Change.TheVariants.{Nothing, Keep, Remove as TakeOut}
use Rattle.scim_shelf.specs.Stores.{Store, IsStore, AreKeyed, AreOf, CanKeep, HasPlace, is_at, is_taken, is_used, without, after}
use Rattle.scim_shelf.proofs.Facts.{changed_place, found_own, free_place, IsStore-keep, IsStore-without}
use Rattle.scim_service.specs.declared.requests.Ask.{Ask}
use Rattle.scim_service.specs.declared.requests.Ask.TheVariants.{Get, Search, Create, Replace, Patch as PatchOne, Remove}
use Rattle.scim_service.specs.declared.requests.Turn.{Turn}
use Rattle.scim_service.specs.declared.plans.Plan.{Plan}
use Rattle.scim_service.specs.Step.{rejection_plan, absence_plan, hidden_plan, denial_plan, get_plan, search_plan, delete_decision, removal_plan, new_resource, first_denied, unique_creation_plan, decided_creation_plan, is_for, creation_plan, access_to, first_unit_denial, writable, narrow_change_plan, unique_change_plan, complete_change_plan, decided_replacement_plan, replacement_plan, first_forbidden, applied_patch_plan, decided_patch_plan, patch_plan, sought_resource, plan_for_seen, request_plan}

-- what a resource becomes is of its kind, and has its id, where it is replaced
pub replaced_kind : (d : Draft) (us : List AttributeUnit) (moment : ℕ) (c x : Content) → replaced d us moment c ≡ Some x → (x.kind ≡ c.kind) × (x.id ≡ c.id)
unfolding replaced
replaced_kind d us moment c x e = elim (cases_Bool (changes d us (rows c))) [
  | inl t ↦ complete (lacks_required c.kind (with_units d (taken d us) (rows c))) refl (rw t at e)
  | inr f ↦ (let same : Some c ≡ Some x = rw f at e in (cc, cc))
]
  where
    complete : (lacks : Bool) → lacks_required c.kind (with_units d (taken d us) (rows c)) ≡ lacks → if_complete moment c (with_units d (taken d us) (rows c)) ≡ Some x → (x.kind ≡ c.kind) × (x.id ≡ c.id)
    complete true l h = absurd (let none : if_complete moment c (with_units d (taken d us) (rows c)) ≡ None = rw l refl in cc)
    complete false l h = (let some : if_complete moment c (with_units d (taken d us) (rows c)) ≡ Some (content c.kind c.id (modified_at moment (with_units d (taken d us) (rows c)))) = rw l refl in
        let same : Some (content c.kind c.id (modified_at moment (with_units d (taken d us) (rows c)))) ≡ Some x = sym some ∙ h in (cc, cc))

-- the resource that comes of a patch, or this one where none does
abbrev left_by : Content → Result (Content × Bool) StepFault → Content
left_by c (Ok x) = x.0
left_by c (Err e) = c

-- and where it is patched
pub patched_kind : (p : Patch) (moment : ℕ) (c x : Content) (changed : Bool) → applied p moment c ≡ Ok (x, changed) → (x.kind ≡ c.kind) × (x.id ≡ c.id)
unfolding applied
patched_kind p moment c x changed e = by_steps (patched p (rows c)) e
  where
    finished_kind : (rs : List Row) → ((finished p moment c rs).kind ≡ c.kind) × ((finished p moment c rs).id ≡ c.id)
    finished_kind rs = elim (cases_Bool (changes_by p (rows c) rs)) [ inl t ↦ rw t (refl, refl) | inr f ↦ rw f (refl, refl) ]

    by_steps : (r : Result (List Row) StepFault) → if_stepped p moment c r ≡ Ok (x, changed) → (x.kind ≡ c.kind) × (x.id ≡ c.id)
    by_steps (Err fault) h = cc
    by_steps (Ok rs) h = (let same : finished p moment c rs ≡ x = ap (left_by c) h in subst (λ (y : Content). (y.kind ≡ c.kind) × (y.id ≡ c.id)) same (finished_kind rs))

module _ (P : Change → Type 0) (none : P Nothing) (out : (kind : Kind) (id : List ℕ) → P (TakeOut kind id)) (v : Viewer) (turn : Turn) (cs : List Content) where
  at_seen_change : (plan : Content → Plan) (o : Option Content) → ((c : Content) → Some c ≡ o → P (plan c).change) → P (plan_for_seen v turn plan o).change
  unfolding absence_plan hidden_plan
  at_seen_change plan None each = none
  at_seen_change plan (Some c) each = elim (cases_Bool (read_decision v c (simple Id)).allow) [ inl t ↦ rw t (each c refl) | inr f ↦ rw f none ]

  removed_change : (c : Content) → P (removal_plan v turn c).change
  unfolding removal_plan denial_plan
  removed_change c = elim (cases_Bool (delete_decision v c).allow) [ inl t ↦ rw t (out c.kind c.id) | inr f ↦ rw f none ]

  free_change : (wanted : Wanted) (c : Content) → (is_taken cs c ≡ false → is_used cs c.id ≡ false → P (Keep c)) → P (unique_creation_plan v turn cs wanted c).change
  unfolding rejection_plan
  free_change wanted c keeps = elim (cases_Bool (is_taken cs c)) [
    | inl t ↦ rw t none
    | inr f ↦ elim (cases_Bool (is_used cs c.id)) [ inl u ↦ rw (f, u) none | inr g ↦ rw (f, g) (keeps f g) ]
  ]

  allowed_change : (wanted : Wanted) (c : Content) (o : Option Leaf) → (is_taken cs c ≡ false → is_used cs c.id ≡ false → P (Keep c)) → P (decided_creation_plan v turn cs wanted c o).change
  unfolding denial_plan
  allowed_change wanted c None keeps = free_change wanted c keeps
  allowed_change wanted c (Some l) keeps = none

  -- what a plan may keep: what a draft makes, whose names and id no other has
  abbrev KeepsMade : Draft → Type 0
  KeepsMade d =
      is_for turn d ≡ true → is_taken cs (new_resource v turn d) ≡ false → is_used cs (new_resource v turn d).id ≡ false → P (Keep (new_resource v turn d))

  creating_change : (d : Draft) (wanted : Wanted) → KeepsMade d → P (creation_plan v turn cs d wanted).change
  unfolding creation_plan rejection_plan
  creating_change d wanted keeps = elim (cases_Bool (is_for turn d)) [
    | inl t ↦ rw t (allowed_change wanted (new_resource v turn d) (first_denied v d (new_resource v turn d)) (keeps t))
    | inr f ↦ rw f none
  ]

  narrow_change : (wanted : Wanted) (a : Access) (changed : Bool) (c : Content) (o : Option (Op × Leaf × Decision)) → P (Keep c) → P (narrow_change_plan v turn cs wanted a changed c o).change
  unfolding denial_plan
  narrow_change wanted a true c None keeps = keeps
  narrow_change wanted a false c None keeps = none
  narrow_change wanted a changed c (Some (op, l, d)) keeps = none

  changed_change : (wanted : Wanted) (a : Access) (changed : Bool) (x : Content) → (is_taken (without x.id cs) x ≡ false → P (Keep x)) → P (unique_change_plan v turn cs wanted a changed x).change
  unfolding rejection_plan
  changed_change wanted a changed x keeps = elim (cases_Bool (is_taken (without x.id cs) x)) [
    | inl t ↦ rw t none
    | inr f ↦ rw f (narrow_change wanted a changed x (widening x.kind a (access_to v x)) (keeps f))
  ]

  written_change : (d : Draft) (wanted : Wanted) (c : Content) (us : List AttributeUnit) (e : Option Content)
      → ((x : Content) → e ≡ Some x → is_taken (without x.id cs) x ≡ false → P (Keep x)) → P (complete_change_plan v turn cs wanted (access_to v c) (changes d us (rows c)) e).change
  unfolding rejection_plan
  written_change d wanted c us None keeps = none
  written_change d wanted c us (Some x) keeps = changed_change wanted (access_to v c) (changes d us (rows c)) x (keeps x refl)

  -- what the units of a draft that may be written make of a resource of its kind, whose names no other has
  abbrev KeepsReplaced : Draft → Content → Type 0
  KeepsReplaced d c =
      (x : Content) → d.kind ≡ c.kind → replaced d (writable c.kind (access_to v c)) turn.moment c ≡ Some x → is_taken (without x.id cs) x ≡ false → P (Keep x)

  replacing_change : (d : Draft) (wanted : Wanted) (c : Content) → KeepsReplaced d c → P (replacement_plan v turn cs d wanted c).change
  unfolding replacement_plan rejection_plan denial_plan
  replacing_change d wanted c keeps = elim (cases_Bool (sameb the_kind d.kind c.kind)) [
    | inl t ↦ rw t (by_denial (same_true the_kind tt d.kind c.kind t) (first_unit_denial (access_to v c) d (visible v c) (units d.kind)))
    | inr f ↦ rw f none
  ]
    where
      by_denial : d.kind ≡ c.kind → (o : Option (Leaf × Decision)) → P (decided_replacement_plan v turn cs d wanted c o).change
      by_denial kinds None = written_change d wanted c (writable c.kind (access_to v c)) (replaced d (writable c.kind (access_to v c)) turn.moment c) (λ x. keeps x kinds)
      by_denial kinds (Some (l, decision)) = none

  patched_change : (wanted : Wanted) (c : Content) (r : Result (Content × Bool) StepFault)
      → ((x : Content) (changed : Bool) → r ≡ Ok (x, changed) → is_taken (without x.id cs) x ≡ false → P (Keep x)) → P (applied_patch_plan v turn cs wanted c r).change
  unfolding rejection_plan
  patched_change wanted c (Err e) keeps = none
  patched_change wanted c (Ok (x, changed)) keeps = changed_change wanted (access_to v c) changed x (keeps x changed refl)

  -- what the steps of a patch make of a resource of its kind, whose names no other has
  abbrev KeepsPatched : Patch → Content → Type 0
  KeepsPatched p c = (x : Content) (changed : Bool) → p.kind ≡ c.kind → applied p turn.moment c ≡ Ok (x, changed) → is_taken (without x.id cs) x ≡ false → P (Keep x)

  patching_change : (p : Patch) (wanted : Wanted) (c : Content) → KeepsPatched p c → P (patch_plan v turn cs p wanted c).change
  unfolding patch_plan rejection_plan denial_plan
  patching_change p wanted c keeps = elim (cases_Bool (sameb the_kind p.kind c.kind)) [
    | inl t ↦ rw t (by_denial (same_true the_kind tt p.kind c.kind t) (first_forbidden p.kind (access_to v c) (touched p)))
    | inr f ↦ rw f none
  ]
    where
      by_denial : p.kind ≡ c.kind → (o : Option (Leaf × Decision)) → P (decided_patch_plan v turn cs p wanted c o).change
      by_denial kinds None = patched_change wanted c (applied p turn.moment c) (λ x changed. keeps x changed kinds)
      by_denial kinds (Some (l, decision)) = none

  -- whatever is asked of the resource that is sought
  abbrev pub Keeps : Result Ask Refusal → Type 0
  Keeps (Ok (Create draft wanted)) = KeepsMade draft
  Keeps (Ok (Replace draft wanted)) = (c : Content) → Some c ≡ sought_resource turn cs → KeepsReplaced draft c
  Keeps (Ok (PatchOne patch wanted)) = (c : Content) → Some c ≡ sought_resource turn cs → KeepsPatched (patch_of patch) c
  Keeps _ = ⊤

  -- a plan changes nothing, takes a resource out, or keeps what it may
  pub planned_change : (ask : Result Ask Refusal) → Keeps ask → P (request_plan v turn cs ask).change
  unfolding rejection_plan get_plan search_plan
  planned_change (Err refusal) keeps = none
  planned_change (Ok (Get wanted)) keeps = at_seen_change (get_plan v turn cs wanted) (sought_resource turn cs) (λ c found. none)
  planned_change (Ok (Search query)) keeps = none
  planned_change (Ok (Create draft wanted)) keeps = creating_change draft wanted keeps
  planned_change (Ok (Replace draft wanted)) keeps = at_seen_change (replacement_plan v turn cs draft wanted) (sought_resource turn cs) (λ c found. replacing_change draft wanted c (keeps c found))
  planned_change (Ok (PatchOne patch wanted)) keeps =
      at_seen_change (patch_plan v turn cs (patch_of patch) wanted) (sought_resource turn cs) (λ c found. patching_change (patch_of patch) wanted c (keeps c found))
  planned_change (Ok Remove) keeps = at_seen_change (removal_plan v turn) (sought_resource turn cs) (λ c found. removed_change c)

-- the one that is sought is the one of its kind and id
pub sought_own : (turn : Turn) (cs : List Content) (c : Content) → AreKeyed cs → Some c ≡ sought_resource turn cs → AreOf c.kind c.id cs
sought_own turn cs c keyed found = by_id turn.request.id found
  where
    by_id : (id : Option (List ℕ)) → Some c ≡ option_and_then (λ (i : List ℕ). find (is_at turn.request.kind i) cs) id → AreOf c.kind c.id cs
    by_id None e = cc
    by_id (Some id) e = found_own turn.request.kind id cs c keyed e

-- what becomes of a resource in its place has a place
place_of : (turn : Turn) (cs : List Content) (c x : Content) → AreKeyed cs → Some c ≡ sought_resource turn cs → (x.kind ≡ c.kind) × (x.id ≡ c.id) → is_taken (without x.id cs) x ≡ false → HasPlace cs x
place_of turn cs c x keyed found same free =
    changed_place cs x (subst₂ (λ (k : Kind) (i : List ℕ). AreOf k i cs) (sym same.0) (sym same.1) (sought_own turn cs c keyed found)) free

-- a plan's change may be made
pub can_keep : (v : Viewer) (turn : Turn) (store : Store) (ask : Result Ask Refusal) → AreKeyed store.resources → CanKeep store (request_plan v turn store.resources ask).change
can_keep v turn store ask keyed = planned_change (CanKeep store) tt (λ kind id. tt) v turn store.resources ask (keeps ask)
  where
    keeps : (ask : Result Ask Refusal) → Keeps (CanKeep store) tt (λ kind id. tt) v turn store.resources ask
    keeps (Ok (Create draft wanted)) = λ own free fresh. free_place store.resources (new_resource v turn draft) free fresh
    keeps (Ok (Replace draft wanted)) = λ c found x kinds e free.
        place_of turn store.resources c x keyed found (replaced_kind draft (writable c.kind (access_to v c)) turn.moment c x e) free
    keeps (Ok (PatchOne patch wanted)) = λ c found x changed kinds e free. place_of turn store.resources c x keyed found (patched_kind (patch_of patch) turn.moment c x changed e) free
    keeps (Ok (Get wanted)) = tt
    keeps (Ok (Search query)) = tt
    keeps (Ok Remove) = tt
    keeps (Err refusal) = tt

-- what a change keeps is a resource below the base
abbrev pub KeepsSound : List ℕ → Change → Type 0
KeepsSound base (Keep c) = IsResource c × HasBase base c
KeepsSound base _ = ⊤

-- a store stays one where a change may be made and what it keeps is sound
pub stays_store : (base : List ℕ) (store : Store) (change : Change) (row : AuditRow) → IsStore base store → KeepsSound base change → CanKeep store change → IsStore base (after change row store)
stays_store base store Nothing row is sound may = record { sound = is.sound; keyed = is.keyed }
stays_store base store (Keep c) row is sound may = IsStore-keep base c row store is sound may
stays_store base store (TakeOut kind id) row is sound may = IsStore-without base kind id row store is
