-- The names of characteristics, as the schema resources print them (RFC 7643 section 7).
use Rattle.std.specs.Prelude.{ℕ, List, codes}
use Rattle.scim_schema.specs.declared.characteristics.AttributeType.{AttributeType}
use Rattle.scim_schema.specs.declared.characteristics.AttributeType.TheVariants.{String, Boolean, DateTime, Reference, Binary, Complex}
use Rattle.scim_schema.specs.declared.characteristics.Mutability.{Mutability}
use Rattle.scim_schema.specs.declared.characteristics.Mutability.TheVariants.{ReadOnly, ReadWrite, Immutable, WriteOnly}
use Rattle.scim_schema.specs.declared.characteristics.Returned.{Returned}
use Rattle.scim_schema.specs.declared.characteristics.Returned.TheVariants.{Always, Never, Default, Request}
use Rattle.scim_schema.specs.declared.characteristics.Uniqueness.{Uniqueness}
use Rattle.scim_schema.specs.declared.characteristics.Uniqueness.TheVariants.{NotUnique, Server}

-- the name of an attribute type
abbrev pub type_name : AttributeType → List ℕ
type_name String = codes "string"
type_name Boolean = codes "boolean"
type_name DateTime = codes "dateTime"
type_name Reference = codes "reference"
type_name Binary = codes "binary"
type_name Complex = codes "complex"

-- the name of a value of the characteristic `mutability`
abbrev pub mutability_name : Mutability → List ℕ
mutability_name ReadOnly = codes "readOnly"
mutability_name ReadWrite = codes "readWrite"
mutability_name Immutable = codes "immutable"
mutability_name WriteOnly = codes "writeOnly"

-- the name of a value of the characteristic `returned`
abbrev pub returned_name : Returned → List ℕ
returned_name Always = codes "always"
returned_name Never = codes "never"
returned_name Default = codes "default"
returned_name Request = codes "request"

-- the name of a value of the characteristic `uniqueness`
abbrev pub uniqueness_name : Uniqueness → List ℕ
uniqueness_name NotUnique = codes "none"
uniqueness_name Server = codes "server"
