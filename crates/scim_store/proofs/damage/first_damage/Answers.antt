use Rattle.std.proofs.Common.{rules, ◌≡◌, ℕ, List, [], ◌∷◌, subst, ◌++◌, sym, ◌∙◌, ap}
use Rattle.std.specs.Ordering.{nat_cmp, is_eq}
use Rattle.std.specs.List.{list_any}
use Rattle.std.specs.Prelude.{All}
use Rattle.std.specs.Cmp.Lexicographic.{slice_cmp}
use Rattle.std.specs.BTreeSet.{contains}
use Rattle.std.specs.List.Sorted.{IsStrictlySortedBy}
use Rattle.std.specs.Map.Iter.{deref}
use Rattle.std.proofs.lemmas.List.{append-nil, append_assoc}
use Rattle.std.proofs.lemmas.List.Elements.{All-nil, All-cons, All-append, All-weaker}
use Rattle.std.proofs.lemmas.Map.Iter.{rest_all}
use Rattle.scim_shelf.proofs.Facts.{by_bool}
use Rattle.scim_cell.specs.Ids.{IsId}
use Rattle.scim_store.specs.Damage.{AreOrdered, HoldsAt}
use Rattle.scim_store.proofs.LeastLemmas.{among_all, below_least}
use Rattle.scim_store.proofs.damage.first_damage.Goals as goal

pub returns-then-not-branch-clause-some : goal.returns-then-not-branch-clause-some
returns-then-not-branch-clause-some c = λ ordered.
    (let P : List ℕ → Type 0 = λ id. IsId id × (AreOrdered c.args.tables.now → HoldsAt c.args.version c.args.base.now c.args.tables.now id) in
    let keys = c.args.ids.now.keys in
    let id = c.in-Some.id.now in
    let so = c.loop-id.invariant in
    let front : c.loop-id.id-iterator ≡ id ∷ c.next.new.self = search rules in
    let up : IsStrictlySortedBy (slice_cmp nat_cmp) keys = search rules in
    record {
      is_id = c.in_ok-holds_at.ensures.id;
      here = c.in_ok-holds_at.ensures.no ordered c.if-not-branch.true;
      before = λ x is low. by_bool (contains (slice_cmp nat_cmp) c.args.ids.now x)
          (λ t. (below_least P keys so.0 c.next.new.self id x (so.1 ∙ ap (λ (ks : List (List ℕ)). so.0 ++ ks) front) up so.2 low t).1 ordered)
          (λ f. c.requires.others x is f);
    })

pub loop-id-preserved : goal.loop-id-preserved
loop-id-preserved c =
    let P : List ℕ → Type 0 = λ id. IsId id × (AreOrdered c.args.tables.now → HoldsAt c.args.version c.args.base.now c.args.tables.now id) in
    let id = c.in-Some.id.now in
    let so = c.loop-id.invariant in
    let front : c.loop-id.id-iterator ≡ id ∷ c.next.new.self = search rules in
    (so.0 ++ id ∷ [], so.1 ∙ ap (λ (ks : List (List ℕ)). so.0 ++ ks) front ∙ sym (append_assoc so.0 (id ∷ []) c.next.new.self), All-append P so.0 (id ∷ []) so.2 (All-cons P id [] (c.in_ok-holds_at.ensures.id, λ ordered. c.in_ok-holds_at.ensures.yes ordered c.if-not-branch.false) (All-nil P)))

pub returns-clause-none : goal.returns-clause-none
returns-clause-none c = λ ordered _ x is.
    (let P : List ℕ → Type 0 = λ id. IsId id × (AreOrdered c.args.tables.now → HoldsAt c.args.version c.args.base.now c.args.tables.now id) in
    let keys = c.args.ids.now.keys in
    let so = c.loop-id.invariant in
    let none : c.loop-id.id-iterator ≡ [] = rest_all deref c.loop-id.id-iterator c.next.new.self c.next.result c.in-None.is c.next.ensures.steps in
    let all : so.0 ≡ keys = sym (append-nil so.0) ∙ ap (λ (ks : List (List ℕ)). so.0 ++ ks) (sym none) ∙ sym so.1 in
    by_bool (contains (slice_cmp nat_cmp) c.args.ids.now x)
    (λ t. (among_all P x so.0 so.2 (ap (λ ks. list_any (λ k. is_eq (slice_cmp nat_cmp x k)) ks) all ∙ t)).1 ordered)
    (λ f. c.requires.others x is f))

pub returns-clause-ids : goal.returns-clause-ids
returns-clause-ids c = λ _.
    (let P : List ℕ → Type 0 = λ id. IsId id × (AreOrdered c.args.tables.now → HoldsAt c.args.version c.args.base.now c.args.tables.now id) in
    let so = c.loop-id.invariant in
    let none : c.loop-id.id-iterator ≡ [] = rest_all deref c.loop-id.id-iterator c.next.new.self c.next.result c.in-None.is c.next.ensures.steps in
    let all : so.0 ≡ c.args.ids.now.keys = sym (append-nil so.0) ∙ ap (λ (ks : List (List ℕ)). so.0 ++ ks) (sym none) ∙ sym so.1 in
    subst (All IsId) all (All-weaker P IsId (λ id h. h.0) so.0 so.2))
