-- What a read of a shelf returns.
use Rattle.std.specs.Prelude.{List, Result, IfOk}
use Rattle.scim_cell.specs.Content.{Content}
use Rattle.scim_shelf.specs.Shelves.{Answers}
use Rattle.scim_shelf.specs.Stores.{Store, AreKeyed}

-- If the shelf is honest after a read, the value that the read returns satisfies `Fits` for the resources of
-- the store, provided that these have different ids and share no unique name.
abbrev pub IsReadKeyed : {H T E : Type 0} → (H → Store → Type 0) → (H → Type 0) → H → H → Result T E → (List Content → T → Type 0) → Type 0
IsReadKeyed Stands IsHonest old new result Fits =
    IfOk result (Answers Stands IsHonest old new (λ store x. AreKeyed store.resources → Fits store.resources x))
