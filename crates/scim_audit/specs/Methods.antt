-- The methods that endpoints allow (RFC 7644 section 3.2).
use Rattle.std.specs.Prelude.{ℕ, List, codes}
use Rattle.scim_audit.specs.declared.allowed_methods.Methods.{Methods}
use Rattle.scim_audit.specs.declared.allowed_methods.Methods.TheVariants.{Collection, Search, Resource, Discovery}

-- the methods as the header `Allow` lists them (RFC 9110 section 10.2.1)
abbrev pub allow_text : Methods → List ℕ
allow_text Collection = codes "GET, POST"
allow_text Search = codes "POST"
allow_text Resource = codes "GET, PUT, PATCH, DELETE"
allow_text Discovery = codes "GET"
