-- What copies of all that is shown are.
use Rattle.std.proofs.Common.{◌≡◌, sym, ◌∙◌, ap, List, [], ◌∷◌, ◌++◌, append_assoc}
use Rattle.std.specs.List.{FoldsTo}
use Rattle.std.proofs.lemmas.List.{append-nil}
use Rattle.scim_cell.specs.Content.{Content}
use Rattle.scim_shelf.specs.declared.copies.Copies.{Copies}
use Rattle.scim_shelf.specs.code.Copies.{Takes}

pub all_taken : (cs : List Content) (old new : Copies) → FoldsTo Takes old cs new → new.resources.items ≡ old.resources.items ++ cs
all_taken [] old new h = ap (λ (x : Copies). x.resources.items) (sym h) ∙ sym (append-nil old.resources.items)
all_taken (c ∷ cs) old new h =
    all_taken cs h.0 new h.2 ∙ ap (λ (xs : List Content). xs ++ cs) h.1 ∙ append_assoc old.resources.items (c ∷ []) cs
