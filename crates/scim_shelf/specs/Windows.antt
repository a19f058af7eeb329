-- What a visitor that passes on the resources of a window has done.
use Rattle.std.specs.Prelude.{◌≡◌, ◌+◌, ◌<◌, ◌≤◌}
use Rattle.scim_cell.specs.Content.{Content}
use Rattle.scim_shelf.specs.declared.windows.Window.{Window}

-- The window keeps its bounds and its visitor, and counts the resource. The visitor has taken the resource if the
-- number of resources before it lies within the bounds, and is unchanged otherwise.
pub record PassesWindow {V : Type 0} (Takes : V → Content → V → Type 0) (old : Window V) (c : Content) (new : Window V) : Type 0 where
  pub same_reference : new.visitor.ghost_name ≡ old.visitor.ghost_name
  pub skipped : new.skipped ≡ old.skipped
  pub count : new.count ≡ old.count
  pub shown : new.shown ≡ old.shown + 1
  pub taken : old.skipped ≤ old.shown → old.shown < old.skipped + old.count → Takes old.visitor.now c new.visitor.now
  pub before : old.shown < old.skipped → new.visitor.now ≡ old.visitor.now
  pub past : old.skipped + old.count ≤ old.shown → new.visitor.now ≡ old.visitor.now
