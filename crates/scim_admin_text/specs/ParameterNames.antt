-- The names of the parameters of requests.
use Rattle.std.specs.Prelude.{ℕ, List, codes}
use Rattle.scim_admin_text.specs.declared.refusals.Parameter.{Parameter}
use Rattle.scim_admin_text.specs.declared.refusals.Parameter.TheVariants as parameter

-- the name of a parameter
abbrev pub name_of : Parameter → List ℕ
name_of parameter.From = codes "from"
name_of parameter.Count = codes "count"
name_of parameter.Last = codes "last"
name_of parameter.Client = codes "client"
name_of parameter.Since = codes "since"
name_of parameter.Refusal = codes "refusal"
name_of parameter.Format = codes "format"
name_of parameter.Op = codes "op"
name_of parameter.Kind = codes "kind"
name_of parameter.Id = codes "id"
name_of parameter.Path = codes "path"
