-- The operations of a list.
use Rattle.std.proofs.Common.{◌≡◌, ◌==◌, ◌<◌, ◌≤◌, suc, false, List, [], ◌∷◌, length, map, Err, refl, sym, ap, ◌∙◌, true≢false}
use Rattle.std.proofs.lemmas.Bool.{lt-ltb, le-ltb}
use Rattle.scim_body.specs.declared.trees.Tree.{Tree}
use Rattle.scim_body.specs.View.{items_view}
use Rattle.scim_schema.specs.declared.Kind.{Kind}
use Rattle.scim_body.specs.BodyNames.{items_list}
use Rattle.scim_patch_message.specs.declared.faults.PatchFault.TheVariants as fault
use Rattle.scim_patch_message.specs.Readings.{Read, both, joined}
use Rattle.scim_patch_message.specs.Messages.{operation_steps, if_few, list_steps}
use Rattle.scim_patch_message.proofs.BothLemmas.{both_assoc, both_nil}

items_length : (vs : List Tree) → length (items_list (items_view vs)) ≡ length vs
items_length [] = refl
items_length (v ∷ vs) = ap suc (items_length vs)

-- too many are refused
pub many_refused : (vs : List Tree) (old : Read) → 1000 < length vs → both old (Err fault.Value) ≡ both old (if_few (items_list (items_view vs)))
many_refused vs old many = rw (items_length vs, lt-ltb 1000 (length vs) many) refl

-- and others not
pub few_pass : (vs : List Tree) (old : Read) → length vs ≤ 1000 → old ≡ both old (if_few (items_list (items_view vs)))
few_pass vs old few = rw (items_length vs, le-ltb 1000 (length vs) few) (sym (both_nil old))

-- then each is read
pub list_read : (kind : Kind) (vs : List Tree) (old new last : Read) → (length vs == 0) ≡ false → new ≡ both old (if_few (items_list (items_view vs)))
    → last ≡ both new (joined (map (operation_steps kind) (items_list (items_view vs)))) → last ≡ both old (list_steps kind (items_list (items_view vs)))
list_read kind [] old new last some e f = absurd (true≢false some)
list_read kind (v ∷ vs) old new last some e f =
    let ds = items_list (items_view (v ∷ vs)) in
    let rest = joined (map (operation_steps kind) ds) in
    f ∙ ap (λ r. both r rest) e ∙ both_assoc old (if_few ds) rest
