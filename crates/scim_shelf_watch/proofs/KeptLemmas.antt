-- What a shelf represents after a change of one of its parts.
use Rattle.std.proofs.Common.{List}
use Rattle.scim_shelf.specs.Shelves.{Round, settled, since}
use Rattle.scim_shelf.specs.Stores.{Store}
use Rattle.scim_shelf_watch.specs.declared.watched.WatchedShelf.{WatchedShelf}
use Rattle.scim_shelf_watch.specs.Watched.{IsInRound, NumberedRow, Represents, lower_of, watcher_of, with_lower, with_watcher}

-- where the new shelf below represents the store too
pub lower_kept : {S W : Type 0} (Stands : S → Store → Type 0) (Told : W → List NumberedRow → List NumberedRow → Type 0) (shelf : WatchedShelf S W) (lower : S) (store : Store)
    → (Stands (lower_of shelf) store → Stands lower store) → Represents Stands Told shelf store → Represents Stands Told (with_lower shelf lower) store
lower_kept Stands Told shelf lower store keeps was = (keeps was.0, was.1)

-- where the new watcher was told the same
pub watcher_kept : {S W : Type 0} (Stands : S → Store → Type 0) (Told : W → List NumberedRow → List NumberedRow → Type 0) (shelf : WatchedShelf S W) (watcher : W) (store : Store)
    → ((rows begun : List NumberedRow) → Told (watcher_of shelf) rows begun → Told watcher rows begun) → Represents Stands Told shelf store → Represents Stands Told (with_watcher shelf watcher) store
watcher_kept Stands Told shelf watcher store keeps was = (was.0, λ few. let is = was.1 few in record { count = is.count; part = is.part; within = is.within; alone = is.alone; told = keeps _ _ is.told })

-- where the round of the shelf below is settled
pub lower_settles : {S W : Type 0} (HasRound : S → Round → Type 0) (Told : W → List NumberedRow → List NumberedRow → Type 0) (shelf : WatchedShelf S W) (lower : S)
    → ((round : Round) → HasRound (lower_of shelf) round → HasRound lower settled) → (round : Round) → IsInRound HasRound Told shelf round → HasRound lower settled
lower_settles HasRound Told shelf lower settles settled has = settles settled has.1
lower_settles HasRound Told shelf lower settles (since store) has = settles (since store) has.1
