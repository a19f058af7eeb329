-- Which resources a group lists, and shows.
use Rattle.std.proofs.Common.{◌≡◌, refl, sym, ◌∙◌, ap, subst, ℕ, Bool, true, false, ◌&&◌, List, [], ◌∷◌, inl, inr}
use Rattle.std.specs.Prelude.{not, Option, None, Some, IsSome, ◌↔◌, IfSome, nat_eq}
use Rattle.std.specs.List.{list_any}
use Rattle.std.specs.Cmp.Lexicographic.{pointwise}
use Rattle.std.proofs.lemmas.Bool.{cases_Bool, false≢true, or_parts}
use Rattle.std.proofs.lemmas.Bool.Decides.{same_from_decides, Decides-like}
use Rattle.std.proofs.lemmas.Slice.Eq.{bytes_eq-Decides}
use Rattle.std.proofs.Math.Bool.{and-false, and-true}
use Rattle.std.proofs.Math.Path.{fun_ext}
use Rattle.scim_schema.specs.declared.Kind.{Kind}
use Rattle.scim_schema.specs.declared.Kind.TheVariants.{User, Group}
use Rattle.scim_schema.specs.declared.Leaf.{Leaf}
use Rattle.scim_schema.specs.declared.Attribute.TheVariants.{Members}
use Rattle.scim_schema.specs.declared.SubAttribute.TheVariants.{Value}
use Rattle.scim_schema.specs.Units.{leaf_at, whole}
use Rattle.scim_schema.specs.Mutability.{is_write_only}
use Rattle.scim_cell.specs.declared.atoms.Atom.TheVariants.{Text}
use Rattle.scim_cell.specs.Content.{Content, IsPart}
use Rattle.scim_cell.specs.Rows.{Row, rows, values}
use Rattle.scim_cell.specs.Ids.{IsId, IsIdText, id_text}
use Rattle.scim_cell.proofs.Facts.{IsIdText-id_text, id_text-injective}
use Rattle.scim_policy.specs.declared.rules.Decision.{Decision}
use Rattle.scim_view.specs.View.{may_be_seen, visible_by}
use Rattle.scim_value.specs.Members.{is_text, lists}
use Rattle.scim_cell.specs.Equality.{is_same_id}
use Rattle.scim_view.specs.code.Index.{is_found, names_shown}
use Rattle.scim_view.specs.code.Memberships.{lists_shown, names_id}
use Rattle.scim_view.proofs.GroupLemmas.{lists_visible}

-- the text of an id is that of the id which it reads as
pub text_of_found : (id other text : List ℕ) → IsId id → IsId other → text ≡ id_text other → is_text (id_text id) (Some (Text text)) ≡ is_found id (Some other)
text_of_found id other text valid read is =
    same_from_decides (pointwise nat_eq (id_text id) text) (is_same_id other id)
    (Decides-like (pointwise nat_eq (id_text id) text) (λ e. id_text-injective other id read valid (sym (e ∙ is))) (λ e. ap id_text (sym e) ∙ sym is) (bytes_eq-Decides (id_text id) text))
    (bytes_eq-Decides other id)

-- a text that is none of an id
pub text_of_none : (id text : List ℕ) → (IsIdText text → ⊥) → is_text (id_text id) (Some (Text text)) ≡ false
text_of_none id text none =
    elim (cases_Bool (pointwise nat_eq (id_text id) text)) [
      | inl t ↦ absurd (none (subst (λ (u : List ℕ). IsIdText u) ((bytes_eq-Decides (id_text id) text).0 t) (IsIdText-id_text id)))
      | inr f ↦ f
    ]

-- ---- which members are shown

none_any : (ms : List Row) → list_any (λ (m : Row). false) ms ≡ false
none_any [] = refl
none_any (m ∷ ms) = none_any ms

-- a condition on all rows beside a test of each
any_with : (b : Bool) (p : Row → Bool) (ms : List Row) → list_any (λ (m : Row). p m && b) ms ≡ list_any p ms && b
any_with true p ms = ap (λ (q : Row → Bool). list_any q ms) (fun_ext (λ m. and-true (p m))) ∙ sym (and-true (list_any p ms))
any_with false p ms = ap (λ (q : Row → Bool). list_any q ms) (fun_ext (λ m. and-false (p m))) ∙ none_any ms ∙ sym (and-false (list_any p ms))

-- members' values may be seen where reading them is allowed
pub members_open : (d : Row → Leaf → Decision) (id : List ℕ) (kind : Kind) (ms : List Row)
    → list_any (λ (m : Row). names_id id m && may_be_seen d kind m (leaf_at Members Value)) ms ≡ list_any (names_shown d id) ms
members_open d id User ms = refl
members_open d id Group ms = refl

-- the members that a group shows are those whose `value` may be read
pub shown_member : (d : Row → Leaf → Decision) (id : List ℕ) (g : Content) → IsPart g → lists id (visible_by d g) ≡ list_any (names_shown d id) (values (whole Members) (rows g))
shown_member d id g valid = lists_visible d id g valid ∙ members_open d id g.kind (values (whole Members) (rows g))

-- where the decision is the same in each value, it is on all members or none
pub named_alike : (d : Row → Leaf → Decision) (one : Decision) (id : List ℕ) (ms : List Row) → ((m : Row) → d m (leaf_at Members Value) ≡ one)
    → list_any (names_shown d id) ms ≡ list_any (names_id id) ms && one.allow
named_alike d one id ms same =
    ap (λ (allowed : Row → Bool). list_any (λ (m : Row). names_id id m && allowed m) ms) (fun_ext (λ m. ap (λ (e : Decision). e.allow) (same m)))
    ∙ any_with one.allow (names_id id) ms

pub shown_alike : (d : Row → Leaf → Decision) (one : Decision) (id : List ℕ) (g : Content) → ((m : Row) → d m (leaf_at Members Value) ≡ one)
    → lists_shown d id g ≡ lists id g && (not (is_write_only g.kind (leaf_at Members Value)) && one.allow)
shown_alike d one id g same =
    ap (λ (allowed : Row → Bool). list_any (λ (m : Row). names_id id m && (not (is_write_only g.kind (leaf_at Members Value)) && allowed m)) (values (whole Members) (rows g))) (fun_ext (λ m. ap (λ (e : Decision). e.allow) (same m)))
    ∙ any_with (not (is_write_only g.kind (leaf_at Members Value)) && one.allow) (names_id id) (values (whole Members) (rows g))

-- a group that doesn't list an id isn't seen to list it
pub unlisted_shown : (d : Row → Leaf → Decision) (id : List ℕ) (g : Content) → lists id g ≡ false → lists_shown d id g ≡ false
unlisted_shown d id g none = none_named (λ (m : Row). may_be_seen d g.kind m (leaf_at Members Value)) id (values (whole Members) (rows g)) none
  where
    none_named : (allowed : Row → Bool) (id : List ℕ) (ms : List Row) → list_any (names_id id) ms ≡ false → list_any (λ (m : Row). names_id id m && allowed m) ms ≡ false
    none_named allowed id [] none = refl
    none_named allowed id (m ∷ ms) none =
        let parts = or_parts (names_id id m) (list_any (names_id id) ms) none in
        rw (parts.0) (none_named allowed id ms parts.1)

-- what the text of a member reads as
pub text_read : (id text : List ℕ) (read : Option (List ℕ)) → IsId id → (IsSome read ↔ IsIdText text) → IfSome read (λ found. text ≡ id_text found) → IfSome read IsId
    → is_text (id_text id) (Some (Text text)) ≡ is_found id read
text_read id text None valid form value own = text_of_none id text (λ h. false≢true (form.1 h))
text_read id text (Some other) valid form value own = text_of_found id other text valid own value
