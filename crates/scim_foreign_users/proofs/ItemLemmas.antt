-- URNs in lists, and the numbers of moments.
use Rattle.std.proofs.Common.{◌≡◌, refl, sym, ◌∙◌, ap, ℕ, suc, ◌+◌, ◌<◌, true, false, List, ◌∷◌, length, get_or, drop, add-one}
use Rattle.std.proofs.Math.Seq.{drop-cons}
use Rattle.scim_body.specs.declared.trees.Tree.{Tree}
use Rattle.scim_body.specs.View.{view, items_view}
use Rattle.scim_foreign_users.specs.Items.{is_urn, has_urn}

-- the values from an index on: the one there, and the later ones
pub later_values : (ts : List Tree) (i : ℕ) (t : Tree) → i < length ts → t ≡ get_or ts i t → drop i ts ≡ t ∷ drop (i + 1) ts
later_values ts i t low is = rw add-one (drop-cons ts i t low ∙ ap (λ (u : Tree). u ∷ drop (suc i) ts) (sym is))

-- the URN is the first value
pub urn_here : (name : List ℕ) (t : Tree) (ts : List Tree) → is_urn name (view t) ≡ true → has_urn name (items_view (t ∷ ts)) ≡ true
urn_here name t ts h = rw h refl

-- the first value is another
pub urn_later : (name : List ℕ) (t : Tree) (ts : List Tree) → is_urn name (view t) ≡ false → has_urn name (items_view (t ∷ ts)) ≡ has_urn name (items_view ts)
urn_later name t ts h = rw h refl
