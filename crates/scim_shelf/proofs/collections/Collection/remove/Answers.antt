use Rattle.std.proofs.Common.{◌≡◌, ◌∙◌, ap, sym, cond, false, ◌&&◌, List, ℕ, Bool, map}
use Rattle.std.specs.Prelude.{Option, None, find}
use Rattle.std.specs.Map.{remove_entry}
use Rattle.std.specs.Set.{remove_key}
use Rattle.std.specs.BTreeMap.{is_at}
use Rattle.std.specs.Ordering.{nat_cmp}
use Rattle.std.specs.Cmp.Lexicographic.{slice_cmp}
use Rattle.scim_cell.specs.Content.{Content}
use Rattle.scim_value.specs.declared.uniqueness.UniqueName.{UniqueName}
use Rattle.scim_value.specs.Uniqueness.{name_of}
use Rattle.scim_shelf.specs.declared.collections.Collection.{Collection}
use Rattle.scim_shelf.specs.Stores.{without}
use Rattle.scim_shelf.specs.KindIds.{IsRemoved}
use Rattle.scim_shelf.specs.Owners.{owner, is_among}
use Rattle.scim_shelf.specs.IndexedTexts.{is_under_in}
use Rattle.scim_shelf.specs.TextIndex.{is_same, is_noted}
use Rattle.scim_shelf.specs.Collections.{IsCollection}
use Rattle.scim_shelf.specs.Indexed.{has_id, has_in, names_of}
use Rattle.scim_shelf.proofs.StoreLemmas.{without_keyed}
use Rattle.scim_shelf.proofs.CollectionLemmas.{remove_keyed}
use Rattle.scim_shelf.proofs.KindLemmas.{ids_without}
use Rattle.scim_shelf.proofs.NameLemmas.{owner_without}
use Rattle.scim_shelf.proofs.NotedLemmas.{noted_without}
use Rattle.scim_shelf.proofs.OwnerLemmas.{among_found}
use Rattle.scim_shelf.proofs.collections.Collection.remove.Goals as goal

-- what is left where the resource of an id goes, with its names and its notes
left : (id : List ℕ) (names : List UniqueName) (cs : List Content) (old new : Collection) → IsCollection cs old
    → new.by_id.entries ≡ remove_entry (is_at (slice_cmp nat_cmp id)) old.by_id.entries
    → ((q : UniqueName) → owner new.owners q ≡ cond (is_among q names) None (owner old.owners q)) → map name_of names ≡ names_of (find (has_id id) cs)
    → ((q : UniqueName) (i : List ℕ) → is_noted new.texts q i ≡ cond (is_under_in q (find (has_id id) cs) && is_same id i) false (is_noted old.texts q i))
    → IsRemoved id old.kinds new.kinds → IsCollection (without id cs) new
left id names cs old new h entries owned named gone removed = record {
  resources = entries ∙ ap (λ (es : List (List ℕ × Content)). remove_entry (is_at (slice_cmp nat_cmp id)) es) h.resources ∙ remove_keyed id cs h.keyed_apart;
  keyed_apart = without_keyed id cs h.keyed_apart;
  kinds = λ k. removed k ∙ ap (λ (ks : List (List ℕ)). remove_key (is_at (slice_cmp nat_cmp id)) ks) (h.kinds k) ∙ sym (ids_without k id cs h.keyed_apart);
  owners = λ q.
      owned q
      ∙ ap (λ (b : Bool). cond b None (owner old.owners q)) (among_found q names (find (has_id id) cs) named)
      ∙ ap (λ (o : Option (List ℕ)). cond (has_in (name_of q) (find (has_id id) cs)) None o) (h.owners q)
      ∙ sym (owner_without (name_of q) id cs h.keyed_apart);
  noted = λ q i. noted_without old.texts new.texts q i id cs h.keyed_apart (h.noted q i) (gone q i);
}

pub returns-clause-ok : goal.returns-clause-ok
returns-clause-ok c = λ cs h.
    let id = c.args.id in
    let old = c.args.self.now in
    let new : Collection = record { by_id = c.remove.new.self; owners = c.forget.new.self; texts = c.forget-2.new.self; kinds = c.remove-2.new.self } in
    left id c.in_ok-names.names.items cs old new h c.remove.ensures.entries (rw c.as_slice.ensures.value at c.forget.ensures) (c.in_ok-names.ensures cs h)
    (λ q i.
    c.forget-2.ensures q i
    ∙ (λ j. cond ((ap (is_among q) c.as_slice-2.ensures.value ∙ c.in_ok-texts.ensures cs h q) j && is_same id i) false (is_noted old.texts q i)))
    c.remove-2.ensures
