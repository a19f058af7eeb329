use Rattle.std.proofs.Common.{List, ℕ, Bor, Option, sym, ap, subst, ◌∙◌}
use Rattle.std.specs.Prelude.{option_map}
use Rattle.std.specs.FinMap.{get}
use Rattle.scim_schema.specs.declared.Leaf.{Leaf}
use Rattle.scim_schema.specs.declared.Attribute.TheVariants.{DoorCode}
use Rattle.scim_schema.specs.Units.{simple}
use Rattle.scim_cell.specs.Place.{place_at}
use Rattle.scim_text.specs.Failures.{UnlessMemory}
use Rattle.scim_value.specs.Resource.{first_at}
use Rattle.scim_json.specs.Kept.{IsKept, GivesKept}
use Rattle.scim_json.proofs.KeptParts.{has_code, is_there, is_absent, joined_gives, plain_kept}
use Rattle.scim_json.proofs.kept_resources.read_kept.Goals as goal

pub returns-then-is_some : goal.returns-then-is_some
returns-then-is_some c =
    let there = is_there c.get.result (first_at (simple DoorCode) c.in_ok-rest.rest) (c.get.ensures ∙ ap (λ (l : Leaf). get c.in_ok-rest.rest.cells (place_at l 0)) c.simple.ensures) c.if-is_some.ensures in
    has_code c.args.base.now c.args.text.now _ c.in_ok-rest.rest there.0 c.in_ok-rest.ensures there.1

pub returns-in-Some : goal.returns-in-Some
returns-in-Some c =
    let absent = is_absent c.get.result (first_at (simple DoorCode) c.in_ok-rest.rest) (c.get.ensures ∙ ap (λ (l : Leaf). get c.in_ok-rest.rest.cells (place_at l 0)) c.simple.ensures) c.if-is_some.ensures in
    subst (λ (o : Option (Bor (List ℕ))). UnlessMemory (GivesKept c.args.base.now c.args.text.now (option_map (λ (code : Bor (List ℕ)). code.now) o)) c.joined.result) (sym c.in-Some.is)
    (joined_gives c.args.base.now c.args.text.now c.in_ok-rest.rest c.in_ok-rest.ensures absent c.in-Some.code.now c.joined.result
    c.in_ok-rest.ensures.0.1 c.joined.ensures.ok c.joined.ensures.valid c.joined.ensures.base c.joined.ensures.damaged)

pub returns-in-None : goal.returns-in-None
returns-in-None c =
    let absent = is_absent c.get.result (first_at (simple DoorCode) c.in_ok-rest.rest) (c.get.ensures ∙ ap (λ (l : Leaf). get c.in_ok-rest.rest.cells (place_at l 0)) c.simple.ensures) c.if-is_some.ensures in
    subst (λ (o : Option (Bor (List ℕ))). IsKept c.args.base.now c.args.text.now (option_map (λ (code : Bor (List ℕ)). code.now) o) c.in_ok-rest.rest) (sym c.in-None.is)
    (plain_kept c.args.base.now c.args.text.now c.in_ok-rest.rest c.in_ok-rest.ensures absent)
