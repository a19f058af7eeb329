-- What a text names is of the kind.
use Rattle.std.proofs.Common.{◌≡◌, ℕ, zero, suc, Bool, true, false, cond, List, [], ◌∷◌, Option, None, Some, Result, Ok, Err, refl, sym, subst, arith}
use Rattle.std.specs.Prelude.{Contains, find, MatchOption, option_and_then, if◌then◌else◌}
use Rattle.scim_schema.specs.declared.Kind.{Kind}
use Rattle.scim_schema.specs.declared.Attribute.{Attribute}
use Rattle.scim_schema.specs.declared.SubAttribute.{SubAttribute}
use Rattle.scim_schema.specs.declared.schema_urns.Schema.{Schema}
use Rattle.scim_schema.specs.Characteristics.{is_multi_valued}
use Rattle.scim_schema.specs.Lookup.{attribute_named_in, sub_attribute_named, schema_named}
use Rattle.scim_schema.specs.Table.{attributes, sub_attributes}
use Rattle.scim_filter_grammar.specs.declared.tree.Meant.{Meant}
use Rattle.scim_filter_grammar.specs.declared.tree.Meant.TheVariants as meant
use Rattle.scim_filter_grammar.specs.declared.tree.AttributePath.{AttributePath}
use Rattle.scim_filter_grammar.specs.Names.{attribute_by, sub_meant, meant_in}
use Rattle.scim_filter_grammar.specs.Tree.{Tree, Values}
use Rattle.scim_filter_grammar.specs.Types.{fits}
use Rattle.scim_filter_grammar.specs.WrittenPaths.{Written, SpellsPath, plain, filtered}
use Rattle.scim_path.specs.declared.faults.PathFault.{PathFault}
use Rattle.scim_path.specs.declared.faults.PathFault.TheVariants as fault
use Rattle.scim_path.specs.Paths.{PathTarget, OfExtension, OfAttribute, OfSubAttribute, OfValues, knows, extension_named, names_target, chosen_at, chosen, filtered_target, written_target, Reads, spelled, unspelled}
use Rattle.scim_path.specs.Targets.{target_in}
use Rattle.scim_path.proofs.Facts.{targets_are_named}

-- what is found is in the list
pub found_in : {X : Type 0} (test : X → Bool) (xs : List X) (x : X) → find test xs ≡ Some x → Contains xs x
found_in test [] x e = absurd (cc e)
found_in {X} test (y ∷ xs) x e = go (test y) (λ h. found_in test xs x h) e
  where
    go : (b : Bool) → (find test xs ≡ Some x → Contains xs x) → cond b (Some y) (find test xs) ≡ Some x → Contains (y ∷ xs) x
    go true later h = (zero, omega arith, (let same : y ≡ x = cc in same))
    go false later h = let c = later h in (suc c.0, omega (arith, c.1), c.2)

-- ---- names

-- what a name means is of the kind
abbrev IsMeant : Kind → Meant → Type 0
IsMeant kind meant.Nothing = Unit {0}
IsMeant kind (meant.Attribute a) = Contains (attributes kind) a
IsMeant kind (meant.SubAttribute a b) = Contains (attributes kind) a × Contains (sub_attributes a) b

attribute_in : (kind : Kind) (urn : Option (List ℕ)) (name : List ℕ) (a : Attribute) → attribute_by kind urn name ≡ Some a → Contains (attributes kind) a
attribute_in kind None name a e = found_in _ (attributes kind) a e
attribute_in kind (Some urn) name a e = under (schema_named urn) e
  where
    under : (o : Option Schema) → option_and_then (λ s. attribute_named_in kind s name) o ≡ Some a → Contains (attributes kind) a
    under None h = absurd (cc h)
    under (Some s) h = found_in _ (attributes kind) a h

sub_known : (kind : Kind) (a : Attribute) (o : Option SubAttribute) → Contains (attributes kind) a → ((b : SubAttribute) → o ≡ Some b → Contains (sub_attributes a) b) → IsMeant kind (sub_meant a o)
sub_known kind a None c d = tt
sub_known kind a (Some b) c d = (c, d b refl)

meant_known : (kind : Kind) (o : Option Attribute) (sub : Option (List ℕ)) → ((a : Attribute) → o ≡ Some a → Contains (attributes kind) a) → IsMeant kind (meant_in o sub)
meant_known kind None sub h = tt
meant_known kind (Some a) None h = h a refl
meant_known kind (Some a) (Some name) h = sub_known kind a (sub_attribute_named a name) (h a refl) (λ b e. found_in _ (sub_attributes a) b e)

path_known : (kind : Kind) (path : AttributePath) → path.meant ≡ meant_in (attribute_by kind path.urn path.name) path.sub_name → IsMeant kind path.meant
path_known kind path leads =
    subst (IsMeant kind) (sym leads) (meant_known kind (attribute_by kind path.urn path.name) path.sub_name (λ a e. attribute_in kind path.urn path.name a e))

-- ---- targets

-- a target is of the kind, and its filter stands behind a multi-valued attribute
abbrev pub IsTarget : Kind → PathTarget → Type 0
IsTarget kind (OfExtension s) = Unit {0}
IsTarget kind (OfAttribute a) = Contains (attributes kind) a
IsTarget kind (OfSubAttribute a b) = Contains (attributes kind) a × Contains (sub_attributes a) b
IsTarget kind (OfValues a t None) = Contains (attributes kind) a × (is_multi_valued a ≡ true)
IsTarget kind (OfValues a t (Some b)) = Contains (attributes kind) a × (is_multi_valued a ≡ true) × Contains (sub_attributes a) b

abbrev pub IsKnown : Kind → Result PathTarget PathFault → Type 0
IsKnown kind (Ok target) = IsTarget kind target
IsKnown kind (Err f) = Unit {0}

names_known : (kind : Kind) (m : Meant) → IsMeant kind m → IsKnown kind (names_target m)
names_known kind meant.Nothing h = tt
names_known kind (meant.Attribute a) h = h
names_known kind (meant.SubAttribute a b) h = h

chosen_known : (kind : Kind) (a : Attribute) (t : Tree) (sub : Option (List ℕ)) → Contains (attributes kind) a → is_multi_valued a ≡ true → IsKnown kind (chosen a t sub)
chosen_known kind a t None c many = (c, many)
chosen_known kind a t (Some name) c many = by_sub (sub_attribute_named a name) (λ b e. found_in _ (sub_attributes a) b e)
  where
    by_sub : (o : Option SubAttribute) → ((b : SubAttribute) → o ≡ Some b → Contains (sub_attributes a) b) → IsKnown kind (chosen_at a t o)
    by_sub None d = tt
    by_sub (Some b) d = (c, many, d b refl)

filtered_known : (kind : Kind) (m : Meant) (t : Tree) (sub : Option (List ℕ)) → IsMeant kind m → IsKnown kind (filtered_target m t sub)
filtered_known kind meant.Nothing t sub h = tt
filtered_known kind (meant.SubAttribute a b) t sub h = tt
filtered_known kind (meant.Attribute a) t sub h = go (is_multi_valued a) refl (fits t) (knows t)
  where
    go : (b : Bool) → is_multi_valued a ≡ b → (c d : Bool)
        → IsKnown kind (if b then (if c then (if d then chosen a t sub else Err fault.Unknown) else Err fault.Syntax) else Err fault.Syntax)
    go false many c d = tt
    go true many false d = tt
    go true many true false = tt
    go true many true true = chosen_known kind a t sub h many

spelled_known : (kind : Kind) {n : ℕ} {text : List ℕ} {w : Written} → SpellsPath kind n text w → IsKnown kind (written_target w)
spelled_known kind (plain {n} {text} {path} is) = names_known kind path.meant (path_known kind path is.leads)
spelled_known kind (filtered {n} {a} {enclosed} {path} {t} {sub} p is inner encloses passed) = filtered_known kind path.meant (Values path t) sub (path_known kind path is.leads)

reads_known : (kind : Kind) (text : List ℕ) (r : Result PathTarget PathFault) → Reads kind text r → IsKnown kind r
reads_known kind text _ (spelled w short is) = spelled_known kind is.spells
reads_known kind text _ (unspelled none) = tt

with_known : (kind : Kind) (text : List ℕ) (o : Option Schema) (r : Result PathTarget PathFault) → MatchOption o (Reads kind text r) (λ schema. r ≡ Ok (OfExtension schema)) → IsKnown kind r
with_known kind text None r h = reads_known kind text r h
with_known kind text (Some schema) r h = subst (IsKnown kind) (sym h) tt

-- what a text names is of the kind
pub target_known : (kind : Kind) (text : List ℕ) → IsKnown kind (target_in kind text)
target_known kind text = with_known kind text (extension_named kind text) (target_in kind text) (targets_are_named kind text)
