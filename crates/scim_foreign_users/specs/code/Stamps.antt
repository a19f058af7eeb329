-- What a resource keeps of its item beside the attributes of a body, and how the body is read.
use Rattle.std.specs.Prelude.{◌≡◌, ℕ, List, Option, None, Some, Result, Ok, Err, option_and_then, codes}
use Rattle.serde_json.specs.Data.{Data, Members}
use Rattle.serde_json.specs.Find.{as_object}
use Rattle.scim_schema.specs.declared.Kind.{Kind}
use Rattle.scim_cell.specs.Ids.{IsId}
use Rattle.scim_body.specs.declared.drafts.UseFor.TheVariants.{Creating}
use Rattle.scim_body.specs.declared.bodies.BodyFault.TheVariants as fault
use Rattle.scim_body.specs.Bodies as bodies
use Rattle.scim_body.specs.Drafts.{Draft}
use Rattle.scim_foreign_users.specs.declared.faults.ItemFault.{ItemFault}
use Rattle.scim_foreign_users.specs.declared.faults.ItemFault.TheVariants.{NotAnObject, NoKind, Body, Invalid}
use Rattle.scim_foreign_users.specs.declared.resources.Stamp.{Stamp}
use Rattle.scim_foreign_users.specs.Items.{TakesId, kind_of, moment_named, text_named}

-- the stamp is that of the item
pub record IsStampOf (now : ℕ) (fresh : List ℕ) (item : Option Data) (s : Stamp) : Type 0 where
  pub members : Members
  pub object : option_and_then as_object item ≡ Some members
  pub kind : kind_of members ≡ Some s.kind
  pub id : TakesId (text_named (codes "id") members) fresh s.id
  pub id_valid : IsId s.id
  pub created : s.created ≡ moment_named (codes "created") now members
  pub modified : s.modified ≡ moment_named (codes "lastModified") now members

-- the item has no stamp, since it isn't an object or has no kind
abbrev pub HasNoStamp : Option Data → ItemFault → Type 0
HasNoStamp item NotAnObject = option_and_then as_object item ≡ None
HasNoStamp item NoKind = (ms : Members) × (option_and_then as_object item ≡ Some ms) × (kind_of ms ≡ None)
HasNoStamp item (Body f) = ⊥
HasNoStamp item Invalid = ⊥

-- the draft of the item as the body of a create, or the fault of the body
abbrev pub IsBodyOf : Kind → Option Data → Result Draft ItemFault → Type 0
IsBodyOf kind item (Ok d) = bodies.body_of kind Creating item ≡ bodies.drafted d
IsBodyOf kind item (Err (Body fault.Syntax)) = bodies.body_of kind Creating item ≡ bodies.malformed
IsBodyOf kind item (Err (Body fault.Value)) = bodies.body_of kind Creating item ≡ bodies.wrong
IsBodyOf kind item (Err NotAnObject) = ⊥
IsBodyOf kind item (Err NoKind) = ⊥
IsBodyOf kind item (Err Invalid) = ⊥
