-- Tables with no rows stand for a store that has nothing.
use Rattle.std.proofs.Common.{ℕ, List, [], refl}
use Rattle.std.proofs.lemmas.List.Elements.{All-nil}
use Rattle.sqlite.specs.Effect.{Database}
use Rattle.sqlite.specs.State.{State}
use Rattle.sqlite.specs.Tree.{Trees}
use Rattle.scim_shelf.proofs.Facts.{keyed_nil}
use Rattle.scim_store_tables.specs.Lists.{Are, no_rows}
use Rattle.scim_store_tables.specs.Opening.{MakesTables}
use Rattle.scim_store_tables.specs.Steps.{Became, Leaves}
use Rattle.scim_store.specs.Beginning.{Begins, no_store}
use Rattle.scim_store_rows.specs.Stands.{StandsFor, IsEntry, MayHave}
use Rattle.scim_store_tables.specs.declared.versions.Version.TheVariants.{Two}

stands_none : (base : List ℕ) (db : Database) → Are db no_rows → StandsFor base db no_store
stands_none base db are = record { entries = []; resources = refl; sound = All-nil (IsEntry base); keyed = keyed_nil; tables = are; may = All-nil (MayHave Two) }

begins : (old new : Database) → MakesTables old new → Begins old new
begins old new made none base = stands_none base new (made none)

pub became_begun : (old new : State) → Became old new MakesTables → Became old new Begins
became_begun old new became = record { was_open = became.was_open; is_open = became.is_open; settled = became.settled; changed = begins old.now new.now became.changed }

pub leaves_begun : (old : Database) (trees : Trees) → Leaves MakesTables old trees → Leaves Begins old trees
leaves_begun old trees leaves = (leaves.0, leaves.1, begins old leaves.0 leaves.2)
