-- Equality of an optional list in code and an optional list in the specification.
use Rattle.std.specs.Prelude.{◌≡◌, List, Option, None, Some}
use Rattle.std.specs.Global.{Vec}

-- the optional list in code is equal to the optional list in the specification
abbrev pub Is : {X : Type 0} → Option (Vec X) → Option (List X) → Type 0
Is None meant = meant ≡ None
Is (Some v) meant = meant ≡ Some v.items
