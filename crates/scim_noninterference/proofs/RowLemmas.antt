-- Rows restricted to what may be seen.
use Rattle.std.proofs.Common.{◌≡◌, refl, sym, ◌∙◌, ap, ap₂, Bool, true, false, ◌&&◌, List, [], ◌∷◌, ◌++◌, filter, inl, inr, arith}
use Rattle.std.specs.Prelude.{All}
use Rattle.std.specs.Ordering.{is_lt, is_eq, is_gt}
use Rattle.std.proofs.lemmas.Bool.{cases_Bool}
use Rattle.std.proofs.lemmas.List.Elements.{All-head, All-tail, All-weaker}
use Rattle.scim_schema.specs.declared.Kind.{Kind}
use Rattle.scim_schema.specs.declared.Attribute.{Attribute}
use Rattle.scim_schema.specs.declared.Leaf.{Leaf}
use Rattle.scim_schema.specs.declared.Unit.{Unit as AttributeUnit}
use Rattle.scim_cell.specs.declared.rows.Field.{Field}
use Rattle.scim_cell.specs.Place.{unit_cmp}
use Rattle.scim_cell.specs.Rows.{Row, Test, by_leaf, values, put_values, has_fields, restricted, IsSoundField, IsSoundRow}
use Rattle.scim_cell.proofs.Facts.{AreAlike, restricted_alike, restricted_further}

pub filter_implied : {X : Type 0} (p q : X → Bool) → ((x : X) → q x ≡ true → p x ≡ true) → (xs : List X) → filter q (filter p xs) ≡ filter q xs
filter_implied p q implied [] = refl
filter_implied p q implied (x ∷ xs) = grind (arith, filter_implied p q implied xs, implied x)

-- where a test is an earlier test and a test of leaves, it leaves what the test of leaves leaves of the rows restricted before
pub restricted_narrower : (before after : Test) (q : Leaf → Bool) (rs : List Row) → All (AreAlike after (λ r l. before r l && q l)) rs
    → restricted after rs ≡ restricted (by_leaf q) (restricted before rs)
restricted_narrower before after q rs alike = restricted_alike after (λ r l. before r l && q l) rs alike ∙ sym (restricted_further before q rs)

module _ (keep : Test) where
  pub restricted_append : (xs ys : List Row) → restricted keep (xs ++ ys) ≡ restricted keep xs ++ restricted keep ys
  restricted_append [] ys = refl
  restricted_append (r ∷ xs) ys = grind (arith, restricted_append xs ys)

  -- a test of the unit alone
  pub filter_restricted : (test : AttributeUnit → Bool) (rs : List Row)
      → filter (λ (r : Row). test r.unit) (restricted keep rs) ≡ restricted keep (filter (λ (r : Row). test r.unit) rs)
  filter_restricted test [] = refl
  filter_restricted test (r ∷ rs) = grind (arith, filter_restricted test rs)

  pub values_restricted : (u : AttributeUnit) (rs : List Row) → values u (restricted keep rs) ≡ restricted keep (values u rs)
  values_restricted u rs = filter_restricted (λ v. is_eq (unit_cmp v u)) rs

  pub restricted_put : (u : AttributeUnit) (vs rs : List Row)
      → restricted keep (put_values u vs rs) ≡ put_values u (restricted keep vs) (restricted keep rs)
  restricted_put u vs rs =
      restricted_append (filter (λ (r : Row). is_lt (unit_cmp r.unit u)) rs) (vs ++ filter (λ (r : Row). is_gt (unit_cmp r.unit u)) rs)
      ∙ ap₂ ◌++◌ (sym (filter_restricted (λ v. is_lt (unit_cmp v u)) rs))
      (restricted_append vs (filter (λ (r : Row). is_gt (unit_cmp r.unit u)) rs)
      ∙ ap (λ xs. restricted keep vs ++ xs) (sym (filter_restricted (λ v. is_gt (unit_cmp v u)) rs)))

-- of rows whose fields are all kept nothing goes
kept_fields : (keep : Leaf → Bool) (fs : List Field) → All (λ (f : Field). keep f.leaf ≡ true) fs → filter (λ (f : Field). keep f.leaf) fs ≡ fs
kept_fields keep [] all = refl
kept_fields keep (f ∷ fs) all =
    rw (All-head (λ (g : Field). keep g.leaf ≡ true) f fs all) (ap (λ gs. f ∷ gs) (kept_fields keep fs (All-tail (λ (g : Field). keep g.leaf ≡ true) f fs all)))

-- the test keeps each field of a row
abbrev pub KeepsAll : Test → Row → Type 0
KeepsAll keep r = All (λ (f : Field). keep r f.leaf ≡ true) r.fields

pub restricted_kept : (keep : Test) (rs : List Row) → All (λ r. has_fields r ≡ true) rs → All (KeepsAll keep) rs → restricted keep rs ≡ rs
restricted_kept keep [] full all = refl
restricted_kept keep (r ∷ rs) full all =
    rw (kept_fields (keep r) r.fields (All-head (KeepsAll keep) r rs all), All-head (λ s. has_fields s ≡ true) r rs full)
    (ap (λ xs. r ∷ xs) (restricted_kept keep rs (All-tail (λ s. has_fields s ≡ true) r rs full) (All-tail (KeepsAll keep) r rs all)))

-- of rows none of whose fields is kept nothing is left
lost_fields : (keep : Leaf → Bool) (fs : List Field) → All (λ (f : Field). keep f.leaf ≡ false) fs → filter (λ (f : Field). keep f.leaf) fs ≡ []
lost_fields keep [] none = refl
lost_fields keep (f ∷ fs) none =
    rw (All-head (λ (g : Field). keep g.leaf ≡ false) f fs none) (lost_fields keep fs (All-tail (λ (g : Field). keep g.leaf ≡ false) f fs none))

-- rows by their attribute: the same as their fields by that of their leaves
all_at : (test : Attribute → Bool) (b : Bool) (u : AttributeUnit) (kind : Kind) (fs : List Field) → test u.attribute ≡ b → All (IsSoundField kind u) fs → All (λ (f : Field). test f.leaf.attribute ≡ b) fs
all_at test b u kind fs e own = All-weaker (IsSoundField kind u) (λ (f : Field). test f.leaf.attribute ≡ b) (λ f is. ap (λ (v : AttributeUnit). test v.attribute) is.0 ∙ e) fs own

pub attributes_kept : (kind : Kind) (test : Attribute → Bool) (rs : List Row) → All (λ r. has_fields r ≡ true) rs → All (IsSoundRow kind) rs
    → restricted (by_leaf (λ l. test l.attribute)) rs ≡ filter (λ (r : Row). test r.unit.attribute) rs
attributes_kept kind test [] full own = refl
attributes_kept kind test (r ∷ rs) full own =
    let rest = attributes_kept kind test rs (All-tail (λ s. has_fields s ≡ true) r rs full) (All-tail (IsSoundRow kind) r rs own) in
    let fields = (All-head (IsSoundRow kind) r rs own).own in
    elim (cases_Bool (test r.unit.attribute)) [
      | inl t ↦
          rw (t, kept_fields (λ l. test l.attribute) r.fields (all_at test true r.unit kind r.fields t fields), All-head (λ s. has_fields s ≡ true) r rs full) (ap (λ xs. r ∷ xs) rest)
      | inr n ↦ rw (n, lost_fields (λ l. test l.attribute) r.fields (all_at test false r.unit kind r.fields n fields)) rest
    ]
