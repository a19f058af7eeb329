-- The texts of one more value at a leaf.
use Rattle.std.proofs.Common.{◌≡◌, refl, sym, ◌∙◌, ap, ℕ, ◌+◌, ◌<◌, Bool, true, false, ◌&&◌, ◌||◌, not, List, [], ◌∷◌, ◌++◌, map, length, take, get_or}
use Rattle.std.specs.Prelude.{nat_eq, Option, None, Some, String, string_bytes}
use Rattle.std.specs.declared.alloc.Global.{Global}
use Rattle.std.specs.Ordering.{nat_cmp, is_eq}
use Rattle.std.specs.Cmp.Lexicographic.{pointwise, slice_cmp, nat_list_eq_equiv}
use Rattle.std.specs.List.{list_any}
use Rattle.std.specs.BTreeMap.{is_at}
use Rattle.std.proofs.lemmas.Map.Text.{is_eq-slice_cmp}
use Rattle.std.proofs.lemmas.List.Folds.{list_any-append, list_any_more}
use Rattle.scim_schema.specs.declared.Leaf.{Leaf}
use Rattle.scim_schema.specs.Units.{is_same_leaf}
use Rattle.scim_cell.specs.Rows.{Row, atom_in}
use Rattle.scim_value.specs.declared.uniqueness.UniqueName.{UniqueName}
use Rattle.scim_shelf.specs.Stores.{is_compared, compared_text, has_text_in}
use Rattle.scim_shelf.specs.Owners.{is_alike, is_among}
use Rattle.scim_shelf.specs.IndexedTexts.{is_found}
use Rattle.scim_shelf.proofs.ValueLemmas.{or_false}

-- the text at the leaf
abbrev pub text_of : Leaf → String Global → UniqueName
text_of leaf text = record { leaf = leaf; text = text }

pushed : (o l h e t : Bool) → ((l && e) ≡ true → t ≡ false) → ((o || (l && (h && not t))) || ((l && e) || false)) ≡ (o || (l && ((h || e) && not t)))
pushed true l h e t apart = refl
pushed false false h e t apart = refl
pushed false true true true true apart = let nothing : true ≡ false = apart refl in cc
pushed false true true true false apart = refl
pushed false true true false true apart = refl
pushed false true true false false apart = refl
pushed false true false true true apart = let nothing : true ≡ false = apart refl in cc
pushed false true false true false apart = refl
pushed false true false false true apart = refl
pushed false true false false false apart = refl

skipped : (o l h e t : Bool) → ((l && e) ≡ true → t ≡ true) → (o || (l && (h && not t))) ≡ (o || (l && ((h || e) && not t)))
skipped true l h e t passes = refl
skipped false false h e t passes = refl
skipped false true true e t passes = refl
skipped false true false true true passes = refl
skipped false true false true false passes = let nothing : false ≡ true = passes refl in cc
skipped false true false false t passes = refl

added : (o l h e : Bool) → ((o || (l && h)) || ((l && e) || false)) ≡ (o || (l && (h || e)))
added true l h e = refl
added false false h e = refl
added false true true e = refl
added false true false true = refl
added false true false false = refl

-- a text as it is compared is alike to those that are found to be it
alike_found : (q : UniqueName) (leaf : Leaf) (text : String Global) (own : List ℕ) → string_bytes text ≡ compared_text leaf own
    → is_alike (text_of leaf text) q ≡ (is_same_leaf leaf q.leaf && is_found leaf (string_bytes q.text) (Some own))
alike_found q leaf text own is =
    ap (λ (b : Bool). is_same_leaf leaf q.leaf && b)
    (ap (λ (t : List ℕ). pointwise nat_eq t (string_bytes q.text)) is ∙ nat_list_eq_equiv.symm (compared_text leaf own) (string_bytes q.text))

and_false : (b : Bool) → false ≡ (b && false)
and_false true = refl
and_false false = refl

both_at : (l a b : Bool) → ((l && a) || (l && b)) ≡ (l && (a || b))
both_at true a b = refl
both_at false a b = refl

-- a text is among those at the leaf
pub among_at : (leaf : Leaf) (q : UniqueName) (texts : List (String Global)) → is_among q (map (text_of leaf) texts)
    ≡ (is_same_leaf leaf q.leaf && list_any (is_at (λ (text : String Global). slice_cmp nat_cmp (string_bytes q.text) (string_bytes text))) texts)
among_at leaf q [] = and_false (is_same_leaf leaf q.leaf)
among_at leaf q (text ∷ texts) =
    let here = is_same_leaf leaf q.leaf in
    let same : pointwise nat_eq (string_bytes text) (string_bytes q.text) ≡ is_eq (slice_cmp nat_cmp (string_bytes q.text) (string_bytes text)) =
    nat_list_eq_equiv.symm (string_bytes text) (string_bytes q.text) ∙ sym (is_eq-slice_cmp (string_bytes q.text) (string_bytes text)) in
    (λ i. (here && same i) || among_at leaf q texts i)
    ∙ both_at here _ _

module _ (leaf : Leaf) (values : List Row) (k : ℕ) (value : Row) (inside : k < length values) (is : value ≡ get_or values k value) where
  -- the texts of values with one more, whose text was found, if it has one
  pub text_more : (t : List ℕ) (found : Option (List ℕ)) → is_compared leaf t (atom_in leaf value.fields) ≡ is_found leaf t found
      → has_text_in leaf t (take (k + 1) values) ≡ (has_text_in leaf t (take k values) || is_found leaf t found)
  text_more t found text =
      list_any_more (λ (r : Row). is_compared leaf t (atom_in leaf r.fields)) values k value inside
      ∙ ap (λ (r : Row). has_text_in leaf t (take k values) || is_compared leaf t (atom_in leaf r.fields)) (sym is)
      ∙ ap (λ (b : Bool). has_text_in leaf t (take k values) || b) text

  -- one more value has no text
  pub none_more : (t : List ℕ) → is_compared leaf t (atom_in leaf value.fields) ≡ is_found leaf t None
      → has_text_in leaf t (take k values) ≡ has_text_in leaf t (take (k + 1) values)
  none_more t none = sym (or_false (has_text_in leaf t (take k values))) ∙ sym (text_more t None none)

  -- the text of one more value is pushed
  pub one_added : (q : UniqueName) (names : List UniqueName) (text : String Global) (own : List ℕ) (before : Bool)
      → string_bytes text ≡ compared_text leaf own
      → is_compared leaf (string_bytes q.text) (atom_in leaf value.fields) ≡ is_found leaf (string_bytes q.text) (Some own)
      → is_among q names ≡ (before || (is_same_leaf leaf q.leaf && has_text_in leaf (string_bytes q.text) (take k values)))
      → is_among q (names ++ text_of leaf text ∷ []) ≡ (before || (is_same_leaf leaf q.leaf && has_text_in leaf (string_bytes q.text) (take (k + 1) values)))
  one_added q names text own before came found among =
      let t = string_bytes q.text in
      let here = is_same_leaf leaf q.leaf in
      list_any-append (λ (n : UniqueName). is_alike n q) names (text_of leaf text ∷ [])
      ∙ (λ i. among i || (alike_found q leaf text own came i || false))
      ∙ added before here (has_text_in leaf t (take k values)) (is_found leaf t (Some own))
      ∙ ap (λ (b : Bool). before || (here && b)) (sym (text_more t (Some own) found))

  -- the text of one more value is pushed, since it fails a test
  pub one_pushed : (q : UniqueName) (names : List UniqueName) (text : String Global) (own : List ℕ) (before test : Bool)
      → string_bytes text ≡ compared_text leaf own
      → is_compared leaf (string_bytes q.text) (atom_in leaf value.fields) ≡ is_found leaf (string_bytes q.text) (Some own)
      → is_among q names ≡ (before || (is_same_leaf leaf q.leaf && (has_text_in leaf (string_bytes q.text) (take k values) && not test)))
      → (is_alike (text_of leaf text) q ≡ true → test ≡ false)
      → is_among q (names ++ text_of leaf text ∷ [])
      ≡ (before || (is_same_leaf leaf q.leaf && (has_text_in leaf (string_bytes q.text) (take (k + 1) values) && not test)))
  one_pushed q names text own before test came found among fails =
      let t = string_bytes q.text in
      let here = is_same_leaf leaf q.leaf in
      list_any-append (λ (n : UniqueName). is_alike n q) names (text_of leaf text ∷ [])
      ∙ (λ i. among i || (alike_found q leaf text own came i || false))
      ∙ pushed before here (has_text_in leaf t (take k values)) (is_found leaf t (Some own)) test (λ h. fails (alike_found q leaf text own came ∙ h))
      ∙ ap (λ (b : Bool). before || (here && (b && not test))) (sym (text_more t (Some own) found))

  -- or isn't, since it passes
  pub one_skipped : (q : UniqueName) (names : List UniqueName) (text : String Global) (own : List ℕ) (before test : Bool)
      → string_bytes text ≡ compared_text leaf own
      → is_compared leaf (string_bytes q.text) (atom_in leaf value.fields) ≡ is_found leaf (string_bytes q.text) (Some own)
      → is_among q names ≡ (before || (is_same_leaf leaf q.leaf && (has_text_in leaf (string_bytes q.text) (take k values) && not test)))
      → (is_alike (text_of leaf text) q ≡ true → test ≡ true)
      → is_among q names ≡ (before || (is_same_leaf leaf q.leaf && (has_text_in leaf (string_bytes q.text) (take (k + 1) values) && not test)))
  one_skipped q names text own before test came found among passes =
      let t = string_bytes q.text in
      let here = is_same_leaf leaf q.leaf in
      among
      ∙ skipped before here (has_text_in leaf t (take k values)) (is_found leaf t (Some own)) test (λ h. passes (alike_found q leaf text own came ∙ h))
      ∙ ap (λ (b : Bool). before || (here && (b && not test))) (sym (text_more t (Some own) found))
