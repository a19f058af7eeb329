-- Asks that stand for one request, and what is planned for them.
use Rattle.std.proofs.Common.{◌≡◌, refl, sym, subst, subst₂, Bool, true, false, List}
use Rattle.std.specs.Prelude.{Option, None, Some, Result, Ok, Err, if◌then◌else◌}
use Rattle.serde_json.specs.Written.{compact_text}
use Rattle.scim_schema.specs.declared.Kind.TheVariants.{Group}
use Rattle.scim_schema.specs.declared.Op.{Op}
use Rattle.scim_schema.specs.declared.Leaf.{Leaf}
use Rattle.scim_schema.specs.declared.Attribute.TheVariants.{Id}
use Rattle.scim_schema.specs.contracts.Kind.{the_type as the_kind}
use Rattle.scim_schema.specs.Units.{simple, units}
use denote.Enum.Bare.{sameb}
use Rattle.scim_cell.specs.Content.{Content}
use Rattle.scim_cell.specs.Kinds.{of_kind}
use Rattle.scim_cell.specs.Rows.{rows}
use Rattle.scim_audit.specs.declared.refusals.Refusal.{Refusal}
use Rattle.scim_value.specs.Resource.{location}
use Rattle.scim_body.specs.Drafts.{Draft}
use Rattle.scim_json.specs.PartData.{part_data}
use Rattle.scim_change.specs.Replace.{changes, replaced as replaced_content}
use Rattle.scim_patch_steps.specs.declared.steps.StepFault.{StepFault}
use Rattle.scim_patch_steps.specs.Patch.{Patch, touched, applied}
use Rattle.scim_patch_steps.specs.Kept.{Kept, patch_of}
use Rattle.scim_policy.specs.declared.rules.Decision.{Decision}
use Rattle.scim_policy.specs.Access.{Access, widening}
use Rattle.scim_view.specs.declared.projection.Wanted.{Wanted}
use Rattle.scim_view.specs.View.{Viewer, read_decision, visible}
use Rattle.scim_view.specs.Groups.{with_groups}
use Rattle.scim_query.specs.declared.queries.Query.{Query}
use Rattle.scim_shelf.specs.Stores.{is_taken, is_used, keep, without}
use Rattle.scim_service.specs.declared.requests.Ask.{Ask}
use Rattle.scim_service.specs.declared.requests.Ask.TheVariants.{Get, Search, Create, Replace, Patch as PatchOne, Remove}
use Rattle.scim_service.specs.declared.requests.Turn.{Turn}
use Rattle.scim_service.specs.declared.replies.Reply.TheVariants.{Shown, Created}
use Rattle.scim_service.specs.Step.{rejection_plan, absence_plan, hidden_plan, denial_plan, resource_text, get_plan, search_plan, view_of_kind, removal_plan, delete_decision, new_resource, first_denied, kept_text, decided_creation_plan, is_for, creation_plan, access_to, first_unit_denial, writable, shown_or_done, narrow_change_plan, unique_change_plan, complete_change_plan, decided_replacement_plan, replacement_plan, first_forbidden, applied_patch_plan, decided_patch_plan, patch_plan, sought_resource, plan_for_seen, request_plan}
use Rattle.scim_service.proofs.Facts.{Plan}
use Rattle.scim_headline.proofs.WantedLemmas.{AreWanted, shown_same, AreQueries, list_same}

-- asks that stand for one request, or one refusal
pub data AreSame (a b : Result Ask Refusal) : Type 0 where
  refused : (r : Refusal) → a ≡ Err r → b ≡ Err r → AreSame a b
  shown : (w x : Wanted) → a ≡ Ok (Get w) → b ≡ Ok (Get x) → AreWanted w x → AreSame a b
  searched : (q r : Query) → a ≡ Ok (Search q) → b ≡ Ok (Search r) → AreQueries q r → AreSame a b
  created : (d : Draft) (w x : Wanted) → a ≡ Ok (Create d w) → b ≡ Ok (Create d x) → AreWanted w x → AreSame a b
  replaced : (d : Draft) (w x : Wanted) → a ≡ Ok (Replace d w) → b ≡ Ok (Replace d x) → AreWanted w x → AreSame a b
  patched : (p q : Kept) (w x : Wanted) → a ≡ Ok (PatchOne p w) → b ≡ Ok (PatchOne q x) → patch_of p ≡ patch_of q → AreWanted w x → AreSame a b
  removed : a ≡ Ok Remove → b ≡ Ok Remove → AreSame a b

pub ask_itself : (a : Result Ask Refusal) → AreSame a a
ask_itself (Err r) = refused r refl refl
ask_itself (Ok (Get w)) = shown w w refl refl (λ kind l. refl)
ask_itself (Ok (Search q)) =
    searched q q refl refl (record { filter = refl; sort_by = refl; descending = refl; start = refl; count = refl; wanted = λ kind l. refl })
ask_itself (Ok (Create d w)) = created d w w refl refl (λ kind l. refl)
ask_itself (Ok (Replace d w)) = replaced d w w refl refl (λ kind l. refl)
ask_itself (Ok (PatchOne p w)) = patched p p w w refl refl refl (λ kind l. refl)
ask_itself (Ok Remove) = removed refl refl

-- the turn with this ask in place of its own
abbrev pub with_ask : Turn → Result Ask Refusal → Turn
with_ask turn ask = record turn { request = record turn.request { ask = ask } }

-- plans with the same reply and the same change
pub record ArePlans (p q : Plan) : Type 0 where
  pub reply : p.reply ≡ q.reply
  pub change : p.change ≡ q.change

plans_if : (b : Bool) (p q x y : Plan) → ArePlans p x → ArePlans q y → ArePlans (if b then p else q) (if b then x else y)
plans_if true p q x y first second = first
plans_if false p q x y first second = second

module _ (v : Viewer) (cs : List Content) (turn : Turn) (a b : Result Ask Refusal) where
  abbrev one : Turn
  one = with_ask turn a

  abbrev two : Turn
  two = with_ask turn b

  rejected : (r : Refusal) → ArePlans (rejection_plan one r) (rejection_plan two r)
  unfolding rejection_plan
  rejected r = record { reply = refl; change = refl }

  denied : (d : Decision) (l : Leaf) (r : Refusal) → ArePlans (denial_plan one d l r) (denial_plan two d l r)
  unfolding denial_plan
  denied d l r = record { reply = refl; change = refl }

  for_seen : (f g : Content → Plan) → ((c : Content) → ArePlans (f c) (g c)) → (o : Option Content) → ArePlans (plan_for_seen v one f o) (plan_for_seen v two g o)
  unfolding absence_plan hidden_plan
  for_seen f g each None = record { reply = refl; change = refl }
  for_seen f g each (Some c) = plans_if (read_decision v c (simple Id)).allow (f c) _ (g c) _ (each c) (record { reply = refl; change = refl })

  taken_out : (c : Content) → ArePlans (removal_plan v one c) (removal_plan v two c)
  unfolding removal_plan
  taken_out c = plans_if (delete_decision v c).allow _ _ _ _ (record { reply = refl; change = refl }) (denied (delete_decision v c) (simple Id) _)

  found : (q r : Query) → AreQueries q r → ArePlans (search_plan v one cs q) (search_plan v two cs r)
  unfolding search_plan
  found q r same = record { reply = λ i. Shown (list_same q r same (view_of_kind v one cs) i); change = refl }

  module _ (w x : Wanted) (same : AreWanted w x) where
    text_same : (gs : List Content) (c : Content) → resource_text v gs w c ≡ resource_text v gs x c
    unfolding resource_text
    text_same gs c = λ i. compact_text (part_data (shown_same w x same (with_groups v gs c) i))

    kept_same : (c : Content) → kept_text v cs w c ≡ kept_text v cs x c
    kept_same c = λ i. if (read_decision v c (simple Id)).allow then Some (text_same (of_kind Group (keep c cs)) c i) else None

    got : (c : Content) → ArePlans (get_plan v one cs w c) (get_plan v two cs x c)
    unfolding get_plan
    got c = record { reply = λ i. Shown (text_same (of_kind Group cs) c i); change = refl }

    -- ---- create

    made : (c : Content) (o : Option Leaf) → ArePlans (decided_creation_plan v one cs w c o) (decided_creation_plan v two cs x c o)
    made c None =
        plans_if (is_taken cs c) _ _ _ _ (rejected _)
        (plans_if (is_used cs c.id) _ _ _ _ (rejected _) (record { reply = λ i. Created (location v.base c.kind c.id) (kept_same c i); change = refl }))
    made c (Some l) = denied _ l _

    made_alike : (d : Draft) → ArePlans (creation_plan v one cs d w) (creation_plan v two cs d x)
    unfolding creation_plan
    made_alike d = plans_if (is_for one d) _ _ _ _ (made (new_resource v one d) (first_denied v d (new_resource v one d))) (rejected _)

    -- ---- PUT and PATCH

    narrow : (access : Access) (changed : Bool) (c : Content) (o : Option (Op × Leaf × Decision))
        → ArePlans (narrow_change_plan v one cs w access changed c o) (narrow_change_plan v two cs x access changed c o)
    narrow access changed c None = record { reply = λ i. shown_or_done (kept_same c i); change = refl }
    narrow access changed c (Some (op, l, d)) = denied d l _

    unique : (access : Access) (changed : Bool) (c : Content) → ArePlans (unique_change_plan v one cs w access changed c) (unique_change_plan v two cs x access changed c)
    unique access changed c = plans_if (is_taken (without c.id cs) c) _ _ _ _ (rejected _) (narrow access changed c (widening c.kind access (access_to v c)))

    complete : (access : Access) (changed : Bool) (o : Option Content) → ArePlans (complete_change_plan v one cs w access changed o) (complete_change_plan v two cs x access changed o)
    complete access changed None = rejected _
    complete access changed (Some c) = unique access changed c

    written : (d : Draft) (c : Content) (o : Option (Leaf × Decision)) → ArePlans (decided_replacement_plan v one cs d w c o) (decided_replacement_plan v two cs d x c o)
    written d c (Some (l, decision)) = denied decision l _
    written d c None =
        let us = writable c.kind (access_to v c) in complete (access_to v c) (changes d us (rows c)) (replaced_content d us turn.moment c)

    put : (d : Draft) (c : Content) → ArePlans (replacement_plan v one cs d w c) (replacement_plan v two cs d x c)
    unfolding replacement_plan
    put d c = plans_if (sameb the_kind d.kind c.kind) _ _ _ _ (written d c (first_unit_denial (access_to v c) d (visible v c) (units d.kind))) (rejected _)

    stepped : (c : Content) (o : Result (Content × Bool) StepFault) → ArePlans (applied_patch_plan v one cs w c o) (applied_patch_plan v two cs x c o)
    stepped c (Err e) = rejected _
    stepped c (Ok (y, changed)) = unique (access_to v c) changed y

    permitted : (p : Patch) (c : Content) (o : Option (Leaf × Decision)) → ArePlans (decided_patch_plan v one cs p w c o) (decided_patch_plan v two cs p x c o)
    permitted p c (Some (l, d)) = denied d l _
    permitted p c None = stepped c (applied p turn.moment c)

    patched_alike : (p : Patch) (c : Content) → ArePlans (patch_plan v one cs p w c) (patch_plan v two cs p x c)
    unfolding patch_plan
    patched_alike p c = plans_if (sameb the_kind p.kind c.kind) _ _ _ _ (permitted p c (first_forbidden p.kind (access_to v c) (touched p))) (rejected _)

-- the same is planned for asks that stand for one request
module _ (v : Viewer) (cs : List Content) (turn : Turn) where
  abbrev Same : Result Ask Refusal → Result Ask Refusal → Type 0
  Same a b = ArePlans (request_plan v (with_ask turn a) cs a) (request_plan v (with_ask turn b) cs b)

  abbrev sought : Option Content
  sought = sought_resource turn cs

  by_ask : (a b c d : Result Ask Refusal) → a ≡ c → b ≡ d → Same c d → Same a b
  by_ask a b c d e f same = subst₂ Same (sym e) (sym f) same

  patch_same : (p q : Kept) (w x : Wanted) → patch_of p ≡ patch_of q → AreWanted w x → Same (Ok (PatchOne p w)) (Ok (PatchOne q x))
  patch_same p q w x patch same =
      let a = Ok (PatchOne p w) in
      let b = Ok (PatchOne q x) in
      for_seen v cs turn a b (patch_plan v (with_ask turn a) cs (patch_of p) w) (patch_plan v (with_ask turn b) cs (patch_of q) x)
      (λ c. subst (λ (f : Patch). ArePlans (patch_plan v (with_ask turn a) cs (patch_of p) w c) (patch_plan v (with_ask turn b) cs f x c)) patch
      (patched_alike v cs turn a b w x same (patch_of p) c)) sought

  pub plans_same : (a b : Result Ask Refusal) → AreSame a b → Same a b
  plans_same a b (refused r e f) = by_ask a b _ _ e f (rejected v cs turn (Err r) (Err r) r)
  plans_same a b (shown w x e f same) = by_ask a b _ _ e f (for_seen v cs turn _ _ _ _ (got v cs turn (Ok (Get w)) (Ok (Get x)) w x same) sought)
  plans_same a b (searched q r e f same) = by_ask a b _ _ e f (found v cs turn (Ok (Search q)) (Ok (Search r)) q r same)
  plans_same a b (created d w x e f same) = by_ask a b _ _ e f (made_alike v cs turn (Ok (Create d w)) (Ok (Create d x)) w x same d)
  plans_same a b (replaced d w x e f same) =
      by_ask a b _ _ e f (for_seen v cs turn _ _ _ _ (put v cs turn (Ok (Replace d w)) (Ok (Replace d x)) w x same d) sought)
  plans_same a b (patched p q w x e f patch same) = by_ask a b _ _ e f (patch_same p q w x patch same)
  plans_same a b (removed e f) = by_ask a b _ _ e f (for_seen v cs turn (Ok Remove) (Ok Remove) _ _ (taken_out v cs turn (Ok Remove) (Ok Remove)) sought)
