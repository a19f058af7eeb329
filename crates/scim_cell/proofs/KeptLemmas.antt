-- Of fields whose leaves a test doesn't keep, none is left.
use Rattle.std.proofs.Common.{◌≡◌, refl, Bool, false, List, [], ◌∷◌, filter}
use Rattle.scim_schema.specs.declared.Leaf.{Leaf}
use Rattle.scim_cell.specs.declared.rows.Field.{Field}

pub none_kept : (test : Leaf → Bool) (fs : List Field) → ((l : Leaf) → test l ≡ false) → filter (λ (f : Field). test f.leaf) fs ≡ []
none_kept test [] h = refl
none_kept test (f ∷ fs) h = rw (h f.leaf) (none_kept test fs h)
