-- What a cached shelf represents in a round and outside it.
use Rattle.std.proofs.Common.{◌≡◌, refl, sym, ◌∙◌, ap, subst, true, false, List, [], ◌∷◌, ◌++◌}
use Rattle.std.specs.Global.{Vec}
use Rattle.std.specs.Option.{option_copied}
use Rattle.scim_audit.specs.declared.audit_rows.AuditRow.{AuditRow}
use Rattle.scim_shelf.specs.declared.changes.Change.{Change}
use Rattle.scim_shelf.specs.declared.collections.Collection.{Collection}
use Rattle.scim_shelf.specs.declared.commits.Commit.{Commit}
use Rattle.scim_shelf.specs.Collections.{IsCollection}
use Rattle.scim_shelf.specs.Commits.{AreOld, CanKeepAll, after_all, after_each, committed}
use Rattle.scim_shelf.specs.Shelves.{KeepsRound, Round, settled, since}
use Rattle.scim_shelf.specs.Stores.{Store, CanKeep, IsOld, after, changed}
use Rattle.scim_shelf.proofs.Facts.{after_more, in_turn_and}
use Rattle.scim_shelf_cache.specs.declared.caches.Cache.{Cache}
use Rattle.scim_shelf_cache.specs.declared.caches.Cache.TheVariants.{Empty, Filled, Ahead}
use Rattle.scim_shelf_cache.specs.declared.caches.CachedShelf.{CachedShelf}
use Rattle.scim_shelf_cache.specs.declared.rounds.RoundCommit.{RoundCommit}
use Rattle.scim_shelf_cache.specs.Caches.{AreThose, CanMakeAll, IsCached, IsCommitOf, IsInRound, WereOld, collection_in, commits_in, is_ahead, is_in_round, lower_of, made, with_lower}
use Rattle.scim_shelf_cache.specs.code.Rounds.{AreCommitsOf, IsNoted}

-- ---- the commits as they are handed to the shelf below

made_same : (own : RoundCommit) (c : Commit) (store : Store) → IsCommitOf own c → committed c store ≡ made own store
made_same own c store is = λ i. after (is.change i) (is.row i) store

pub handed_after : (owns : List RoundCommit) (cs : List Commit) (store : Store) → AreCommitsOf owns cs → after_all cs store ≡ after_each made owns store
handed_after [] [] store are = refl
handed_after [] (c ∷ cs) store are = absurd are
handed_after (own ∷ owns) [] store are = absurd are
handed_after (own ∷ owns) (c ∷ cs) store are = handed_after owns cs (committed c store) are.1 ∙ ap (after_each made owns) (made_same own c store are.0)

handed_can : (owns : List RoundCommit) (cs : List Commit) (store : Store) → AreCommitsOf owns cs → CanMakeAll owns store → CanKeepAll cs store
handed_can [] [] store are can = tt
handed_can [] (c ∷ cs) store are can = absurd are
handed_can (own ∷ owns) [] store are can = absurd are
handed_can (own ∷ owns) (c ∷ cs) store are can = (
  subst (CanKeep store) (sym are.0.change) can.0,
  handed_can owns cs (committed c store) are.1 (subst (CanMakeAll owns) (sym (made_same own c store are.0)) can.1),
)

handed_old : (owns : List RoundCommit) (cs : List Commit) (store : Store) → AreCommitsOf owns cs → WereOld owns store → AreOld cs store
handed_old [] [] store are were = tt
handed_old [] (c ∷ cs) store are were = absurd are
handed_old (own ∷ owns) [] store are were = absurd are
handed_old (own ∷ owns) (c ∷ cs) store are were = (
  subst (λ change. IsOld store.resources change (option_copied c.old)) (sym are.0.change) (subst (IsOld store.resources own.change) (sym are.0.old) were.0),
  handed_old owns cs (committed c store) are.1 (subst (WereOld owns) (sym (made_same own c store are.0)) were.1),
)

pub handed_more : (owns : List RoundCommit) (own : RoundCommit) (cs : List Commit) (c : Commit) → AreCommitsOf owns cs → IsCommitOf own c → AreCommitsOf (owns ++ own ∷ []) (cs ++ c ∷ [])
handed_more [] own [] c are is = (is, tt)
handed_more [] own (d ∷ ds) c are is = absurd are
handed_more (other ∷ others) own [] c are is = absurd are
handed_more (other ∷ others) own (d ∷ ds) c are is = (are.0, handed_more others own ds c are.1 is)

-- ---- the states of a cached shelf

pub not_ahead : (cache : Cache) → is_ahead cache ≡ false → commits_in cache ≡ []
not_ahead Empty is = refl
not_ahead (Filled resources) is = refl
not_ahead (Ahead resources own) is = (let no : true ≡ false = is in cc)

-- the shelf below has no round of its own
pub lower_settled : {S : Type 0} (Stands : S → Store → Type 0) (HasRound : S → Round → Type 0) (shelf : CachedShelf S) (round : Round) → IsInRound Stands HasRound shelf round
    → HasRound shelf.lower settled
lower_settled Stands HasRound shelf settled has = has.1
lower_settled Stands HasRound shelf (since store) has = has.2

-- outside a round, where the shelf below keeps its round
pub none_kept : {S : Type 0} (Stands : S → Store → Type 0) (HasRound : S → Round → Type 0) (shelf : CachedShelf S) (cache : Cache) (lower : S) → is_ahead shelf.cache ≡ false
    → is_ahead cache ≡ false → KeepsRound HasRound shelf.lower lower → KeepsRound (IsInRound Stands HasRound) shelf (record { cache = cache; lower = lower })
none_kept Stands HasRound shelf cache lower was is keeps settled has = (is, keeps settled has.1)
none_kept Stands HasRound shelf cache lower was is keeps (since store) has = (let no : false ≡ true = sym was ∙ has.0 in cc)

pub round_looked : {S : Type 0} (Stands : S → Store → Type 0) (HasRound : S → Round → Type 0) (shelf : CachedShelf S) (lower : S) → is_in_round shelf ≡ false
    → KeepsRound HasRound (lower_of shelf) lower → KeepsRound (IsInRound Stands HasRound) shelf (with_lower shelf lower)
round_looked Stands HasRound shelf lower outside keeps = none_kept Stands HasRound shelf shelf.cache lower outside outside keeps

module _ {S : Type 0} (Stands : S → Store → Type 0) (IsHonest : S → Type 0) where
  -- outside a round the shelf below represents the store too
  pub below_same : (shelf : CachedShelf S) (store : Store) → commits_in shelf.cache ≡ [] → IsCached Stands IsHonest shelf store → Stands shelf.lower store
  below_same shelf store none is = subst (Stands shelf.lower) (sym (is.store_is ∙ ap (λ (owns : List RoundCommit). after_each made owns is.below) none)) is.lower

  pub alone : (cache : Cache) (lower : S) (store : Store) → commits_in cache ≡ [] → Stands lower store → (IsHonest lower → AreThose store.resources (collection_in cache))
      → IsCached Stands IsHonest (record { cache = cache; lower = lower }) store
  alone cache lower store none stands memory = record {
    below = store;
    lower = stands;
    can = subst (λ (owns : List RoundCommit). CanMakeAll owns store) (sym none) tt;
    were = λ _. subst (λ (owns : List RoundCommit). WereOld owns store) (sym none) tt;
    store_is = ap (λ (owns : List RoundCommit). after_each made owns store) (sym none);
    memory = memory;
  }

  pub filled : (shelf : CachedShelf S) (resources : Collection) (store : Store) → shelf.cache ≡ Filled resources → IsCached Stands IsHonest shelf store
      → Stands shelf.lower store × (IsHonest shelf.lower → IsCollection store.resources resources)
  filled shelf resources store cache is = (
    below_same shelf store (ap commits_in cache) is,
    λ honest. subst (λ k. AreThose store.resources (collection_in k)) cache (is.memory honest),
  )

  -- one more commit in a round
  pub one_ahead : (shelf : CachedShelf S) (resources next : Collection) (own more : Vec RoundCommit) (change : Change) (row : AuditRow) (store : Store)
      → shelf.cache ≡ Ahead resources own → IsNoted change row resources own.items more.items
      → ((before : Store) → IsCollection before.resources resources → CanKeep before change → IsCollection (changed change before.resources) next)
      → CanKeep store change → IsCached Stands IsHonest shelf store
      → IsCached Stands IsHonest (record { cache = Ahead next more; lower = shelf.lower }) (after change row store)
  one_ahead shelf resources next own more change row store cache noted makes can is =
      let one : RoundCommit = record { old = noted.old; change = change; row = row } in
      let store_is : store ≡ after_each made own.items is.below = is.store_is ∙ ap (λ k. after_each made (commits_in k) is.below) cache in
      let memory : IsHonest shelf.lower → IsCollection store.resources resources = λ honest. subst (λ k. AreThose store.resources (collection_in k)) cache (is.memory honest) in
      record {
        below = is.below;
        lower = is.lower;
        can = subst (λ (owns : List RoundCommit). CanMakeAll owns is.below) (sym noted.added)
            (in_turn_and made (λ s (c : RoundCommit). CanKeep s c.change) own.items one is.below (subst (λ k. CanMakeAll (commits_in k) is.below) cache is.can) (subst (λ s. CanKeep s change) store_is can));
        were = λ honest. subst (λ (owns : List RoundCommit). WereOld owns is.below) (sym noted.added)
            (in_turn_and made (λ s (c : RoundCommit). IsOld s.resources c.change c.old) own.items one is.below (subst (λ k. WereOld (commits_in k) is.below) cache (is.were honest))
            (subst (λ (s : Store). IsOld s.resources change noted.old) store_is (noted.were store.resources (memory honest))));
        store_is = ap (after change row) store_is ∙ sym (after_more made own.items one is.below) ∙ ap (λ (owns : List RoundCommit). after_each made owns is.below) (sym noted.added);
        memory = λ honest. makes store (memory honest) can;
      }

  -- the commits of a round, made by the shelf below
  pub round_made : (shelf : CachedShelf S) (lower : S) (resources : Collection) (own : Vec RoundCommit) (cs : List Commit) (store : Store)
      → shelf.cache ≡ Ahead resources own → AreCommitsOf own.items cs
      → ((below : Store) → Stands shelf.lower below → CanKeepAll cs below → (IsHonest lower → AreOld cs below) → Stands lower (after_all cs below))
      → (IsHonest lower → IsHonest shelf.lower) → IsCached Stands IsHonest shelf store
      → IsCached Stands IsHonest (record { cache = Filled resources; lower = lower }) store
  round_made shelf lower resources own cs store cache handed commits honest is =
      let can : CanMakeAll own.items is.below = subst (λ k. CanMakeAll (commits_in k) is.below) cache is.can in
      let were : IsHonest lower → WereOld own.items is.below = λ h. subst (λ k. WereOld (commits_in k) is.below) cache (is.were (honest h)) in
      let store_is : store ≡ after_each made own.items is.below = is.store_is ∙ ap (λ k. after_each made (commits_in k) is.below) cache in
      let stands = commits is.below is.lower (handed_can own.items cs is.below handed can) (λ h. handed_old own.items cs is.below handed (were h)) in
      alone (Filled resources) lower store refl (subst (Stands lower) (handed_after own.items cs is.below handed ∙ sym store_is) stands)
      (λ h. subst (λ k. AreThose store.resources (collection_in k)) cache (is.memory (honest h)))

  -- outside a round the shelf below represents the store
  pub lower_store : (shelf : CachedShelf S) (store : Store) → is_in_round shelf ≡ false → IsCached Stands IsHonest shelf store → Stands (lower_of shelf) store
  lower_store shelf store outside is = below_same shelf store (not_ahead shelf.cache outside) is

  -- outside a round, where the new shelf below represents the store too, and is honest only if it was
  pub lower_looked : (shelf : CachedShelf S) (lower : S) (store : Store) → is_in_round shelf ≡ false → (IsHonest lower → IsHonest (lower_of shelf))
      → (Stands (lower_of shelf) store → Stands lower store) → IsCached Stands IsHonest shelf store → IsCached Stands IsHonest (with_lower shelf lower) store
  lower_looked shelf lower store outside honest keeps is =
      alone shelf.cache lower store (not_ahead shelf.cache outside) (keeps (lower_store shelf store outside is)) (λ h. is.memory (honest h))
