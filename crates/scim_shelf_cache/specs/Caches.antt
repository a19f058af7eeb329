-- The state of a shelf that caches the resources of another.
use Rattle.std.specs.Prelude.{◌≡◌, Bool, true, false, List, [], Option, None, Some, IfSome, IsSome}
use Rattle.std.specs.Option.{option_copied}
use Rattle.scim_cell.specs.Content.{Content}
use Rattle.scim_shelf.specs.declared.collections.Collection.{Collection}
use Rattle.scim_shelf.specs.declared.commits.Commit.{Commit}
use Rattle.scim_shelf.specs.Stores.{Store, AreKeyed, CanKeep, HasPlace, IsOld, after, keep}
use Rattle.scim_shelf.specs.Collections.{IsCollection}
use Rattle.scim_shelf.specs.Commits.{InTurn, after_each}
use Rattle.scim_shelf.specs.Shelves.{Round, settled, since}
use Rattle.scim_shelf_cache.specs.declared.caches.Cache.{Cache}
use Rattle.scim_shelf_cache.specs.declared.caches.Cache.TheVariants.{Empty, Filled, Ahead}
use Rattle.scim_shelf_cache.specs.declared.caches.CachedShelf.{CachedShelf}
use Rattle.scim_shelf_cache.specs.declared.contents.CacheContents.{CacheContents}
use Rattle.scim_shelf_cache.specs.declared.rounds.RoundCommit.{RoundCommit}

-- The collection, if there is one, holds the resources `cs`.
abbrev pub AreThose : List Content → Option Collection → Type 0
AreThose cs resources = IfSome resources (IsCollection cs)

-- The collection of a cache, if it is filled.
abbrev pub collection_in : Cache → Option Collection
collection_in Empty = None
collection_in (Filled resources) = Some resources
collection_in (Ahead resources commits) = Some resources

-- The commits of the round under way, in order; none outside a round.
abbrev pub commits_in : Cache → List RoundCommit
commits_in (Ahead resources commits) = commits.items
commits_in _ = []

-- Whether a round is under way.
abbrev pub is_ahead : Cache → Bool
is_ahead (Ahead resources commits) = true
is_ahead _ = false

-- The store after a commit of a round: after its change, with its audit row.
abbrev pub made : RoundCommit → Store → Store
made c store = after c.change c.row store

-- Each change of a round may be made.
abbrev pub CanMakeAll : List RoundCommit → Store → Type 0
CanMakeAll = InTurn made (λ store c. CanKeep store c.change)

-- Each `old` of a round is the user or group that has the id of its change, if any.
abbrev pub WereOld : List RoundCommit → Store → Type 0
WereOld = InTurn made (λ store c. IsOld store.resources c.change c.old)

-- The cached shelf represents the store after the commits of the round under way, if any. The shelf below
-- represents the store before them. If it is honest, the cache holds the resources of the store after them.
pub record IsCached {S : Type 0} (Stands : S → Store → Type 0) (IsHonest : S → Type 0) (shelf : CachedShelf S) (store : Store) : Type 0 where
  pub below : Store
  pub lower : Stands shelf.lower below
  pub can : CanMakeAll (commits_in shelf.cache) below
  pub were : IsHonest shelf.lower → WereOld (commits_in shelf.cache) below
  pub store_is : store ≡ after_each made (commits_in shelf.cache) below
  pub memory : IsHonest shelf.lower → AreThose store.resources (collection_in shelf.cache)

-- The cached shelf has this round: none is under way; or one is, and the shelf below represents the store before
-- it. The shelf below has no round of its own.
abbrev pub IsInRound : {S : Type 0} → (S → Store → Type 0) → (S → Round → Type 0) → CachedShelf S → Round → Type 0
IsInRound Stands HasRound shelf settled = (is_ahead shelf.cache ≡ false) × HasRound shelf.lower settled
IsInRound Stands HasRound shelf (since store) =
    (is_ahead shelf.cache ≡ true) × Stands shelf.lower store × HasRound shelf.lower settled

-- Whether a cached shelf is in a round.
abbrev pub is_in_round : {S : Type 0} → CachedShelf S → Bool
is_in_round shelf = is_ahead shelf.cache

-- A shelf represents a store whose resources are in order of id and share no unique name.
abbrev pub HasKeyed : {H : Type 0} → (H → Store → Type 0) → H → Store → Type 0
HasKeyed Stands shelf store = Stands shelf store × AreKeyed store.resources

-- The cache is filled.
abbrev pub IsFilled : {S : Type 0} → CachedShelf S → Type 0
IsFilled shelf = IsSome (collection_in shelf.cache)

-- The cache of a shelf, if it is filled, holds the resources `cs`.
abbrev pub HoldsInCache : {S : Type 0} → List Content → CachedShelf S → Type 0
HoldsInCache cs shelf = AreThose cs (collection_in shelf.cache)

-- The shelf below the cache.
abbrev pub lower_of : {S : Type 0} → CachedShelf S → S
lower_of shelf = shelf.lower

-- The cached shelf with the shelf below it replaced by `lower`.
abbrev pub with_lower : {S : Type 0} → CachedShelf S → S → CachedShelf S
with_lower shelf lower = record shelf { lower = lower }

-- The two shelves have the same cache.
abbrev pub KeepsCache : {S : Type 0} → CachedShelf S → CachedShelf S → Type 0
KeepsCache old new = new.cache ≡ old.cache

-- The copies, unless memory ran out, are those of the resources `cs`.
abbrev pub HasCached : List Content → CacheContents → Type 0
HasCached cs contents = AreThose cs contents.resources

-- The visitor has its copies: memory didn't run out.
abbrev pub IsWhole : CacheContents → Type 0
IsWhole contents = IsSome contents.resources

-- The visitor has copied the resource, unless memory ran out.
abbrev pub Caches : CacheContents → Content → CacheContents → Type 0
Caches old c new = (cs : List Content) → HasCached cs old → HasPlace cs c → HasCached (keep c cs) new

-- The commit has the parts of a commit of a round.
pub record IsCommitOf (own : RoundCommit) (commit : Commit) : Type 0 where
  pub old : option_copied commit.old ≡ own.old
  pub change : commit.change.now ≡ own.change
  pub row : commit.row.now ≡ own.row
