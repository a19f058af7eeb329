-- What a visitor that passes on the resources with one of several texts has done.
use Rattle.std.specs.Prelude.{◌≡◌, true, false}
use Rattle.scim_cell.specs.Content.{Content}
use Rattle.scim_shelf.specs.declared.text_filters.TextFilter.{TextFilter}
use Rattle.scim_shelf.specs.Stores.{has_some_text}

-- The filter keeps its texts and its visitor. The visitor has taken the resource if the resource has one of the
-- texts, and is unchanged otherwise.
pub record PassesOn {V : Type 0} (Takes : V → Content → V → Type 0) (old : TextFilter V) (c : Content) (new : TextFilter V) : Type 0 where
  pub same_reference : new.visitor.ghost_name ≡ old.visitor.ghost_name
  pub texts : new.texts ≡ old.texts
  pub taken : has_some_text old.texts.now c ≡ true → Takes old.visitor.now c new.visitor.now
  pub skipped : has_some_text old.texts.now c ≡ false → new.visitor.now ≡ old.visitor.now
