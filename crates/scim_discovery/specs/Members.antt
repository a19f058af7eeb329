-- Members of JSON objects that may be missing.
use Rattle.std.specs.Prelude.{ℕ, List, Option, None, Some}
use Rattle.serde_json.specs.Data.{Data, Members, member}

-- the members, with one more member if its value is given
abbrev pub with_member : List ℕ → Option Data → Members → Members
with_member key None members = members
with_member key (Some d) members = member key d members
