use Rattle.std.proofs.Common.{◌≡◌, refl, ◌∙◌, ap, sym, cond, true, false, ◌&&◌, not, Bool}
use Rattle.std.specs.Prelude.{None, Some, find, is_none}
use Rattle.std.specs.BTreeMap.{insert_entry}
use Rattle.std.specs.BTreeSet.{insert_key}
use Rattle.std.specs.Option.{option_map}
use Rattle.std.specs.Ordering.{nat_cmp}
use Rattle.std.specs.Cmp.Lexicographic.{slice_cmp}
use Rattle.scim_shelf.specs.declared.collections.Collection.{Collection}
use Rattle.scim_cell.specs.Kinds.{is_of}
use Rattle.scim_value.specs.declared.uniqueness.UniqueName.{UniqueName}
use Rattle.scim_value.specs.Uniqueness.{name_of}
use Rattle.scim_shelf.specs.Stores.{has_name}
use Rattle.scim_shelf.specs.Owners.{owner, is_among, AreUnowned}
use Rattle.scim_shelf.specs.Indexed.{has_id, has_in}
use Rattle.scim_shelf.specs.TextIndex.{is_same, is_noted}
use Rattle.scim_shelf.proofs.StoreLemmas.{keep_keyed}
use Rattle.scim_shelf.proofs.CollectionLemmas.{insert_keyed}
use Rattle.scim_shelf.proofs.KindLemmas.{ids_keep}
use Rattle.scim_shelf.proofs.NameLemmas.{owner_keep}
use Rattle.scim_shelf.proofs.NotedLemmas.{noted_keep, come_unnoted}
use Rattle.scim_shelf.proofs.OwnerLemmas.{among_names, chosen_unowned, on_err, owner_changed, owners_back, own_name, same_collection}
use Rattle.scim_shelf.proofs.collections.Collection.keep.Goals as goal

pub returns-clause-ok : goal.returns-clause-ok
returns-clause-ok c = λ cs h place.
    let kept = c.args.resource in
    let id = c.id-id.result in
    let same : id ≡ kept.id = c.id-id.ensures in
    let names = c.in_ok-names.names.items in
    let named = λ (q : UniqueName). among_names q names kept c.in_ok-names.ensures in
    let was = λ (q : UniqueName). option_map (λ d. d.id) (find (has_name (name_of q)) cs) in
    let come = λ (q : UniqueName).
    ap (is_among q) c.as_slice-2.ensures.value ∙ c.unowned-names_come.ensures q ∙ (λ i. named q i && is_none (h.owners q i)) in
    let gone = λ (q : UniqueName).
    ap (is_among q) c.as_slice-4.ensures.value ∙ c.in_ok-names_gone.ensures cs h q
    ∙ (λ i. has_in (name_of q) (find (has_id (same i)) cs) && not ((ap (is_among q) c.as_slice.ensures.value ∙ named q) i)) in
    let old = c.args.self.now.texts in
    let mid = c.insert.new.self.texts in
    record {
      resources =
          c.in_default.ensures.resources
          ∙ (λ i. insert_entry (slice_cmp nat_cmp) (h.resources i) kept.id kept)
          ∙ insert_keyed kept cs h.keyed_apart;
      keyed_apart = keep_keyed kept cs h.keyed_apart place.names;
      kinds = λ k.
          c.in_default.ensures.kinds k
          ∙ (λ i. cond (is_of k kept) (insert_key (slice_cmp nat_cmp) (h.kinds k i) kept.id) (h.kinds k i))
          ∙ sym (ids_keep k kept cs h.keyed_apart place.kinds);
      owners = λ q.
          c.forget-2.ensures q
          ∙ (λ i. cond (gone q i) None (owner (c.insert.ensures.owners i) q))
          ∙ ap (cond (has_in (name_of q) (find (has_id kept.id) cs) && not (has_name (name_of q) kept)) None) (c.in_ok-note.ensures.ok q)
          ∙ (λ i. cond (has_in (name_of q) (find (has_id kept.id) cs) && not (has_name (name_of q) kept)) None (cond (come q i) (Some (same i)) (h.owners q i)))
          ∙ owner_changed (has_name (name_of q) kept) (has_in (name_of q) (find (has_id kept.id) cs)) kept.id (was q) (own_name (name_of q) kept cs place.names)
          ∙ sym (owner_keep (name_of q) kept cs h.keyed_apart place.names);
      noted = λ q i.
          noted_keep old mid c.forget-3.new.self q i kept cs h.keyed_apart (h.noted q)
          (c.in_default.ensures.noted q i
          ∙ (λ j. cond ((ap (is_among q) c.as_slice-3.ensures.value ∙ c.in_ok-come.ensures cs h q) j && is_same kept.id i) true (is_noted old q i)))
          (c.forget-3.ensures q i
          ∙ (λ j. cond ((ap (is_among q) c.as_slice-5.ensures.value ∙ c.in_ok-gone.ensures cs h q) j && is_same (same j) i) false (is_noted mid q i)));
    }

-- the names came from those that no resource had
pub returns-in_err-note-clause-err : goal.returns-in_err-note-clause-err
returns-in_err-note-clause-err c = on_err c.from_residual-in_err-note.result (λ cs h.
    let old = c.args.self.now in
    let new : Collection = record { by_id = old.by_id; owners = c.note.new.self; texts = old.texts; kinds = old.kinds } in
    let come = c.unowned-names_come.result.items in
    let unowned : AreUnowned old.owners come = chosen_unowned old.owners c.in_ok-names.names.items come c.unowned-names_come.ensures in
    same_collection cs old new refl (λ k. refl)
    (c.in_err-note.ensures.err (λ q among. unowned q (sym (ap (is_among q) c.as_slice-2.ensures.value) ∙ among))) (λ q i. refl) h)

-- the names that came go again
pub returns-in-Err-clause-err : goal.returns-in-Err-clause-err
returns-in-Err-clause-err c = λ cs h.
    let old = c.args.self.now in
    let kept = c.args.resource in
    let stored = c.insert.new.self in
    let new : Collection = record { by_id = stored.by_id; owners = c.forget.new.self; texts = stored.texts; kinds = stored.kinds } in
    let come = c.unowned-names_come.result.items in
    let unowned : AreUnowned old.owners come = chosen_unowned old.owners c.in_ok-names.names.items come c.unowned-names_come.ensures in
    let others = λ (q : UniqueName) (none : is_among q come ≡ false).
    c.in_ok-note.ensures.ok q
    ∙ ap (λ (b : Bool). cond b (Some c.id-id.result) (owner old.owners q)) (ap (is_among q) c.as_slice-2.ensures.value ∙ none) in
    let left = λ (q : UniqueName).
    c.forget.ensures q ∙ (λ i. cond (is_among q (c.as_slice-in-Err.ensures.value i)) None (owner (c.insert.ensures.owners i) q)) in
    let unnoted = come_unnoted old.texts c.as_slice-3.result.now kept cs h.noted
    (λ q. ap (is_among q) c.as_slice-3.ensures.value ∙ c.in_ok-come.ensures cs h q) in
    same_collection cs old new c.in-Err.ensures.err_resources c.in-Err.ensures.err_kinds
    (owners_back old.owners c.note.new.self c.forget.new.self come unowned others left) (c.in-Err.ensures.err_noted unnoted) h
