-- The resource of an item, by what is kept of the item and its body.
use Rattle.std.proofs.Common.{◌≡◌, sym, ◌∙◌, ap, subst, ℕ, List}
use Rattle.std.specs.Prelude.{Option, Some, Result, Ok, Err, IsErrAnd, option_and_then, codes}
use Rattle.serde_json.specs.Data.{Data, Members}
use Rattle.serde_json.specs.Find.{as_object}
use Rattle.scim_text.specs.Failures.{IfBecause, UnlessMemory}
use Rattle.scim_text.specs.declared.memory.Failed.{Failed}
use Rattle.scim_text.specs.declared.memory.Failed.TheVariants as failed
use Rattle.scim_schema.specs.declared.Kind.{Kind}
use Rattle.scim_schema.specs.declared.Leaf.{Leaf}
use Rattle.scim_schema.specs.declared.Attribute.TheVariants.{Meta}
use Rattle.scim_schema.specs.declared.SubAttribute.TheVariants.{LastModified}
use Rattle.scim_schema.specs.Units.{leaf_at}
use Rattle.scim_cell.specs.declared.atoms.Atom.TheVariants.{Moment}
use Rattle.scim_cell.specs.Content.{Content}
use Rattle.scim_value.specs.Changes.{with_cell}
use Rattle.scim_body.specs.declared.drafts.UseFor.TheVariants.{Creating}
use Rattle.scim_body.specs.declared.bodies.BodyFault.TheVariants as fault
use Rattle.scim_body.specs.Bodies as bodies
use Rattle.scim_body.specs.Drafts.{Draft}
use Rattle.scim_change.specs.Create.{created}
use Rattle.scim_foreign_users.specs.declared.faults.ItemFault.{ItemFault}
use Rattle.scim_foreign_users.specs.declared.faults.ItemFault.TheVariants.{NotAnObject, NoKind, Body, Invalid}
use Rattle.scim_foreign_users.specs.declared.resources.Stamp.{Stamp}
use Rattle.scim_foreign_users.specs.Items.{TakesId, kind_of, text_named}
use Rattle.scim_foreign_users.specs.Resources.{GivesResource, of_body, of_kind, of_members, own_id, resource_of}
use Rattle.scim_foreign_users.specs.code.Stamps.{IsStampOf, HasNoStamp, IsBodyOf}

-- what holds of an error holds of the result that gives it
pub err_given : {X E : Type 0} (P : Result X E → Type 0) (r : Result X E) (e : E) → IsErrAnd r (λ f. f ≡ e) → P (Err e) → P r
err_given P (Ok x) e given h = absurd given
err_given P (Err f) e given h = subst (λ g. P (Err g)) (sym given) h

-- the resource of an item with members and a kind is told by its body
of_item : (base : List ℕ) (now : ℕ) (id : List ℕ) (item : Option Data) (ms : Members) (kind : Kind) → option_and_then as_object item ≡ Some ms → kind_of ms ≡ Some kind
    → resource_of base now id item ≡ of_body base now id ms (bodies.body_of kind Creating item)
of_item base now id item ms kind object is = ap (of_members base now id item) object ∙ ap (of_kind base now id item ms) is

-- an item without a stamp is refused
pub no_stamp : (base : List ℕ) (now : ℕ) (fresh : List ℕ) (item : Option Data) (f : Failed ItemFault) → IfBecause (HasNoStamp item) f → UnlessMemory (GivesResource base now fresh item) (Err f)
no_stamp base now fresh item failed.NoMemory none = tt
no_stamp base now fresh item (failed.Because NotAnObject) none = λ id. ap (of_members base now id item) none
no_stamp base now fresh item (failed.Because NoKind) none = λ id. ap (of_members base now id item) none.1 ∙ ap (of_kind base now id item none.0) none.2
no_stamp base now fresh item (failed.Because (Body f)) none = absurd none
no_stamp base now fresh item (failed.Because Invalid) none = absurd none

module _ (base : List ℕ) (now : ℕ) (fresh : List ℕ) (item : Option Data) (s : Stamp) (is : IsStampOf now fresh item s) where
  -- an item whose body is refused is refused
  pub no_body : (f : Failed ItemFault) → IfBecause (λ e. IsBodyOf s.kind item (Err e)) f → UnlessMemory (GivesResource base now fresh item) (Err f)
  no_body failed.NoMemory body = tt
  no_body (failed.Because NotAnObject) body = absurd body
  no_body (failed.Because NoKind) body = absurd body
  no_body (failed.Because Invalid) body = absurd body
  no_body (failed.Because (Body fault.Syntax)) body = λ id. of_item base now id item is.members s.kind is.object is.kind ∙ ap (of_body base now id is.members) body
  no_body (failed.Because (Body fault.Value)) body = λ id. of_item base now id item is.members s.kind is.object is.kind ∙ ap (of_body base now id is.members) body

  -- the id is the item's own or the fresh one
  pub takes_id : TakesId (own_id item) fresh s.id
  takes_id = subst (λ (o : Option Members). TakesId (option_and_then (text_named (codes "id")) o) fresh s.id) (sym is.object) is.id

  -- the resource of an item whose body is read
  pub made_is : (d : Draft) (leaf : Leaf) (c : Content) → bodies.body_of s.kind Creating item ≡ bodies.drafted d → leaf ≡ leaf_at Meta LastModified → c ≡ created d s.id s.created base
      → resource_of base now s.id item ≡ Ok (with_cell leaf 0 (Moment s.modified) c)
  made_is d leaf c body at value =
      of_item base now s.id item is.members s.kind is.object is.kind ∙ ap (of_body base now s.id is.members) body
      ∙ (λ i. Ok (with_cell (sym at i) 0 (Moment (sym is.modified i)) ((ap (λ (m : ℕ). created d s.id m base) (sym is.created) ∙ sym value) i)))
