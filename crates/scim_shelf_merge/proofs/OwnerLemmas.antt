-- Names of which a look-up tells whether another resource has them.
use Rattle.std.proofs.Common.{◌≡◌, ◌∙◌, refl, sym, ap, ℕ, suc, ◌+◌, ◌<◌, true, false, List, ◌∷◌, get_or, length, drop, map, add-one}
use Rattle.std.specs.List.{list_any}
use Rattle.std.proofs.Math.Seq.{drop-cons}
use Rattle.scim_cell.specs.Content.{Content}
use Rattle.scim_value.specs.declared.uniqueness.UniqueName.{UniqueName}
use Rattle.scim_value.specs.Uniqueness.{Name, name_of}
use Rattle.scim_shelf.specs.Stores.{has_name}

-- the names from an index on: the one there, and the later ones
pub later_names : (names : List UniqueName) (i : ℕ) (name : UniqueName) → i < length names → name ≡ get_or names i name
    → map name_of (drop i names) ≡ name_of name ∷ map name_of (drop (i + 1) names)
later_names names i name low is =
    let split : drop i names ≡ name ∷ drop (i + 1) names = rw add-one (drop-cons names i name low ∙ ap (λ (n : UniqueName). n ∷ drop (suc i) names) (sym is)) in
    ap (map name_of) split

-- where one has the first name, one has some name
pub taken_here : (n : Name) (ns : List Name) (cs : List Content) → list_any (has_name n) cs ≡ true → list_any (λ m. list_any (has_name m) cs) (n ∷ ns) ≡ true
taken_here n ns cs t = rw t refl

-- where none has the first name, the later names tell
pub taken_later : (n : Name) (ns : List Name) (cs : List Content) → list_any (has_name n) cs ≡ false
    → list_any (λ m. list_any (has_name m) cs) (n ∷ ns) ≡ list_any (λ m. list_any (has_name m) cs) ns
taken_later n ns cs f = rw f refl
