-- The index of resources by text, as the code stores it.
use Rattle.std.specs.Prelude.{◌≡◌, ℕ, Bool, true, false, List, Option, None, Some}
use Rattle.std.specs.Ordering.{nat_cmp, is_eq}
use Rattle.std.specs.Cmp.Lexicographic.{slice_cmp}
use Rattle.std.specs.BTreeMap.{get}
use Rattle.std.specs.BTreeSet.{contains}
use Rattle.scim_value.specs.declared.uniqueness.UniqueName.{UniqueName}
use Rattle.scim_value.specs.contracts.uniqueness.UniqueNameOrd.TheImpl as name_ord
use Rattle.scim_shelf.specs.declared.text_index.TextIndex.{TextIndex}
use Rattle.scim_shelf.specs.declared.text_index.Holders.{Holders}
use Rattle.scim_shelf.specs.declared.text_index.Holders.TheVariants.{One, Several}
use Rattle.scim_shelf.specs.Owners.{is_among}

-- Whether two ids are the same.
abbrev pub is_same : List ℕ → List ℕ → Bool
is_same id i = is_eq (slice_cmp nat_cmp id i)

-- Whether an id is in the set of ids of one text.
abbrev pub is_holder : List ℕ → Holders → Bool
is_holder id (One other) = is_same other id
is_holder id (Several ids) = contains (slice_cmp nat_cmp) ids id

-- The ids that are indexed under a text, if any.
abbrev pub holders_at : TextIndex → UniqueName → Option Holders
holders_at index q = get (name_ord.ghosts).cmp index.by_text q

-- Whether a look-up found a set that contains the id.
abbrev pub has_in : List ℕ → Option Holders → Bool
has_in id None = false
has_in id (Some holders) = is_holder id holders

-- Whether an id is indexed under a text.
abbrev pub is_noted : TextIndex → UniqueName → List ℕ → Bool
is_noted index q id = has_in id (holders_at index q)

-- The id isn't indexed under any of these texts.
abbrev pub IsUnnoted : TextIndex → List UniqueName → List ℕ → Type 0
IsUnnoted index texts id = (q : UniqueName) → is_among q texts ≡ true → is_noted index q id ≡ false

-- Two indexes have the same ids under each text.
abbrev pub HasSameNotes : TextIndex → TextIndex → Type 0
HasSameNotes old new = (q : UniqueName) (i : List ℕ) → is_noted new q i ≡ is_noted old q i
