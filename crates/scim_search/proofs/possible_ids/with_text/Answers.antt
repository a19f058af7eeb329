use Rattle.std.proofs.Common.{◌≡◌, sym, ◌∙◌, ap, subst, false, ℕ, List}
use Rattle.std.specs.List.{list_any}
use Rattle.std.proofs.lemmas.Result.{IfOk-weaker}
use Rattle.scim_schema.specs.declared.Kind.{Kind}
use Rattle.scim_schema.specs.declared.Kind.TheVariants.{User}
use Rattle.scim_schema.specs.declared.Leaf.{Leaf}
use Rattle.scim_schema.specs.Units.{is_same_leaf}
use Rattle.scim_schema.proofs.Facts.{leaf_one}
use Rattle.scim_search.specs.PossibleIds.{group_leaf, is_indexed, Gathers}
use Rattle.scim_search.proofs.PossibleIdLemmas.{by_id_text, by_no_other, by_other, other_leaf}
use Rattle.scim_search.proofs.possible_ids.with_text.Goals as goal

pub returns-then-is_among-clause-ids : goal.returns-then-is_among-clause-ids
returns-then-is_among-clause-ids g c store stands honest base is =
    by_no_other c.args.kind store.resources c.args.needed c.args.ids
    (ap (list_any (is_same_leaf c.args.needed.leaf)) (sym c.indexed_leaves.ensures) ∙ sym c.is_among.ensures ∙ c.if-is_among.true)

pub returns-then-eq-clause-ids : goal.returns-then-eq-clause-ids
returns-then-eq-clause-ids g c store stands honest base is =
    let needed = c.args.needed in
    let text = needed.text.now in
    let new = c.in_ok-with_id_text.field-0 in
    let other : is_indexed c.args.kind needed ≡ false = ap (list_any (is_same_leaf needed.leaf)) (sym c.indexed_leaves.ensures) ∙ sym c.is_among.ensures ∙ c.if-is_among.false in
    by_other c.args.kind store.resources needed c.args.ids new other
    (subst (λ (l : Leaf). Gathers c.args.kind store.resources l text c.args.ids new) (sym (leaf_one needed.leaf c.simple.result (sym c.eq.ensures ∙ c.if-eq.true) ∙ c.simple.ensures))
    (by_id_text base store is c.args.kind text c.args.ids new c.in_ok-with_id_text.ensures.kept (λ id valid same. c.in_ok-with_id_text.ensures.own id valid (c.as_str.ensures ∙ same))))

pub returns-then-is_among-2-clause-ids : goal.returns-then-is_among-2-clause-ids
returns-then-is_among-2-clause-ids g c =
    IfOk-weaker c.with_owner.result _ _
    (λ new answer store stands honest base is.
    let needed = c.args.needed in
    let other : is_indexed c.args.kind needed ≡ false = ap (list_any (is_same_leaf needed.leaf)) (sym c.indexed_leaves.ensures) ∙ sym c.is_among.ensures ∙ c.if-is_among.false in
    by_other c.args.kind store.resources needed c.args.ids new other (answer store stands honest base is))
    c.with_owner.ensures.ids

pub returns-clause-ids : goal.returns-clause-ids
returns-clause-ids g c =
    IfOk-weaker c.with_members.result _ _
    (λ new answer store stands honest base is.
    let kind = c.args.kind in
    let needed = c.args.needed in
    let leaf = needed.leaf in
    let among = list_any (is_same_leaf leaf) in
    let other : is_indexed kind needed ≡ false = ap among (sym c.indexed_leaves.ensures) ∙ sym c.is_among.ensures ∙ c.if-is_among.false in
    let at = other_leaf kind leaf c.requires (ap (is_same_leaf leaf) (sym c.simple.ensures) ∙ sym c.eq.ensures ∙ c.if-eq.false)
    (ap among (sym c.unique_leaves.ensures) ∙ sym c.is_among-2.ensures ∙ c.if-is_among-2.false) other in
    by_other kind store.resources needed c.args.ids new other
    (subst (λ (k : Kind). Gathers k store.resources leaf needed.text.now c.args.ids new) (sym at.0)
    (subst (λ (l : Leaf). Gathers User store.resources l needed.text.now c.args.ids new) (sym at.1)
    (subst (λ (t : List ℕ). Gathers User store.resources group_leaf t c.args.ids new) c.as_str-2.ensures (answer store stands honest base is)))))
    c.with_members.ensures.ids
