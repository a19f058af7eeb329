-- The resource that is made of an item of an export.
use Rattle.std.specs.Prelude.{◌≡◌, ℕ, List, Option, None, Some, Result, Ok, Err, option_and_then, codes}
use Rattle.serde_json.specs.Data.{Data, Members}
use Rattle.serde_json.specs.Find.{as_object}
use Rattle.scim_schema.specs.declared.Kind.{Kind}
use Rattle.scim_schema.specs.declared.Attribute.TheVariants.{Meta}
use Rattle.scim_schema.specs.declared.SubAttribute.TheVariants.{LastModified}
use Rattle.scim_schema.specs.Units.{leaf_at}
use Rattle.scim_cell.specs.declared.atoms.Atom.TheVariants.{Moment}
use Rattle.scim_cell.specs.Content.{Content}
use Rattle.scim_value.specs.Changes.{with_cell}
use Rattle.scim_value.specs.Resource.{IsResource}
use Rattle.scim_json.specs.Stored.{IsResourceBelow}
use Rattle.scim_body.specs.declared.drafts.UseFor.TheVariants.{Creating}
use Rattle.scim_body.specs.declared.bodies.BodyFault.TheVariants as fault
use Rattle.scim_body.specs.Bodies as bodies
use Rattle.scim_body.specs.Drafts.{Draft}
use Rattle.scim_change.specs.Create.{created}
use Rattle.scim_foreign_users.specs.declared.faults.ItemFault.{ItemFault}
use Rattle.scim_foreign_users.specs.declared.faults.ItemFault.TheVariants.{NotAnObject, NoKind, Body, Invalid}
use Rattle.scim_foreign_users.specs.Items.{TakesId, kind_of, moment_named, text_named}

-- the resource that a create makes of the draft of an item with these members (RFC 7644 section 3.3), with the
-- moments of the item
abbrev pub made_of : List ℕ → ℕ → List ℕ → Members → Draft → Content
made_of base now id ms d =
    with_cell (leaf_at Meta LastModified) 0 (Moment (moment_named (codes "lastModified") now ms)) (created d id (moment_named (codes "created") now ms) base)

-- the resource of the item whose body is read so, or the fault of the body
abbrev pub of_body : List ℕ → ℕ → List ℕ → Members → bodies.Body → Result Content ItemFault
of_body base now id ms bodies.malformed = Err (Body fault.Syntax)
of_body base now id ms bodies.wrong = Err (Body fault.Value)
of_body base now id ms (bodies.drafted d) = Ok (made_of base now id ms d)

-- the resource of the item of this kind; without a kind there is none
abbrev pub of_kind : List ℕ → ℕ → List ℕ → Option Data → Members → Option Kind → Result Content ItemFault
of_kind base now id item ms None = Err NoKind
of_kind base now id item ms (Some kind) = of_body base now id ms (bodies.body_of kind Creating item)

-- the resource of the item with these members; None if it isn't an object
abbrev pub of_members : List ℕ → ℕ → List ℕ → Option Data → Option Members → Result Content ItemFault
of_members base now id item None = Err NotAnObject
of_members base now id item (Some ms) = of_kind base now id item ms (kind_of ms)

-- the resource, with this id, that is made of the item with this JSON value, or the reason why there is none
abbrev pub resource_of : List ℕ → ℕ → List ℕ → Option Data → Result Content ItemFault
resource_of base now id item = of_members base now id item (option_and_then as_object item)

-- the text of the item's `id`, if there is one
abbrev pub own_id : Option Data → Option (List ℕ)
own_id item = option_and_then (text_named (codes "id")) (option_and_then as_object item)

-- no resource is made of the item, for this reason
abbrev pub IsRefused : List ℕ → ℕ → Option Data → ItemFault → Type 0
IsRefused base now item fault = (id : List ℕ) → resource_of base now id item ≡ Err fault

-- the answer is the resource of the item, with its own id or the fresh one, or the reason why there is none; it is
-- `Invalid` if what is made isn't a resource
abbrev pub GivesResource : List ℕ → ℕ → List ℕ → Option Data → Result Content ItemFault → Type 0
GivesResource base now fresh item (Ok c) =
    (id : List ℕ) × TakesId (own_id item) fresh id × (resource_of base now id item ≡ Ok c) × IsResourceBelow base c
GivesResource base now fresh item (Err Invalid) =
    (id : List ℕ) × TakesId (own_id item) fresh id × ((c : Content) × (resource_of base now id item ≡ Ok c) × (¬ IsResource c))
GivesResource base now fresh item (Err NotAnObject) = IsRefused base now item NotAnObject
GivesResource base now fresh item (Err NoKind) = IsRefused base now item NoKind
GivesResource base now fresh item (Err (Body f)) = IsRefused base now item (Body f)
