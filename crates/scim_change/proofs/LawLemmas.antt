-- What the outcome of a replacing rests on: the values of the units that are replaced and that a client may read.
use Rattle.std.proofs.Common.{◌≡◌, ◌≢◌, ◌<◌, ℕ, zero, suc, refl, sym, ◌∙◌, ap, subst, Bool, true, false, ◌||◌, arith, inl, inr, List, [], ◌∷◌, length, get_or, if◌then◌else◌}
use Rattle.std.specs.Prelude.{Option, None, Some, IsSome, All, filter, not}
use Rattle.std.specs.List.{list_any}
use Rattle.std.proofs.lemmas.Bool.{cases_Bool, or_parts}
use Rattle.std.proofs.lemmas.List.Elements.{All-head, All-tail, All-weaker, All-filter}
use Rattle.scim_schema.specs.declared.Kind.{Kind}
use Rattle.scim_schema.specs.declared.Kind.TheVariants.{User, Group}
use Rattle.scim_schema.specs.declared.Attribute.{Attribute}
use Rattle.scim_schema.specs.declared.Attribute.TheVariants.{UserName, DisplayName}
use Rattle.scim_schema.specs.declared.Unit.{Unit as AttributeUnit}
use Rattle.scim_schema.specs.Mutability.{is_secret}
use Rattle.scim_schema.specs.Units.{simple, whole, is_same_unit}
use Rattle.scim_schema.proofs.Facts.{is_same_unit-Decides}
use Rattle.scim_cell.specs.declared.atoms.Atom.{Atom}
use Rattle.scim_cell.specs.Content.{Content}
use Rattle.scim_cell.specs.Rows.{Row, rows, content, values}
use Rattle.scim_value.specs.Resource.{IsFilled, IsNamedAs, IsResource}
use Rattle.scim_value.proofs.Facts.{get_cell, sound_part}
use Rattle.scim_change.specs.Agreement.{are_same_values}
use Rattle.scim_body.specs.Drafts.{Draft, IsDraft, gives, lacks_required}
use Rattle.scim_change.specs.Replace.{changes, changes_unit, if_complete, modified_at, replaced, takes, taken, with_units}
use Rattle.scim_change.specs.Laws.{AgreeAtOpen, AreAlike, EndsAlike, IsLeft, Stays, ReplacingRestsOnItsUnits}
use Rattle.scim_change.proofs.AtomLemmas.{rows_modified}
use Rattle.scim_change.proofs.NameLemmas.{IsSimple, cell_there, has_row, user_name, display_name}
use Rattle.scim_change.proofs.PutLemmas.{is_listed, values_listed, values_unlisted}
use Rattle.scim_change.proofs.ReplaceLemmas.{given_sound, stamp, stamps, stamp_apart, stamp_own, there_if_given, there_if_kept}

-- ---- units that are listed

at_listed : (us : List AttributeUnit) (k : ℕ) (u : AttributeUnit) → k < length us → is_listed (get_or us k u) us ≡ true
at_listed [] k u l = absurd (omega (arith, l))
at_listed (v ∷ us) zero u l = rw ((is_same_unit-Decides v v).1 refl) refl
at_listed (v ∷ us) (suc k) u l = elim (cases_Bool (is_same_unit (get_or us k u) v)) [
  | inl t ↦ rw t refl
  | inr n ↦ rw n (at_listed us k u (omega (arith, l)))
]

none_listed : (us : List AttributeUnit) (v : AttributeUnit) → All (λ u. u ≢ v) us → is_listed v us ≡ false
none_listed [] v h = refl
none_listed (u ∷ us) v h = elim (cases_Bool (is_same_unit v u)) [
  | inl t ↦ absurd (All-head (λ w. w ≢ v) u us h (sym ((is_same_unit-Decides v u).0 t)))
  | inr n ↦ rw n (none_listed us v (All-tail (λ w. w ≢ v) u us h))
]

-- ---- units that pass a test

-- one of some that passes is one of those that do
passing_listed : (p : AttributeUnit → Bool) (us : List AttributeUnit) (u : AttributeUnit) → is_listed u us ≡ true → p u ≡ true → is_listed u (filter p us) ≡ true
passing_listed p [] u t h = absurd (cc t)
passing_listed p (v ∷ us) u t h = elim (cases_Bool (is_same_unit u v)) [
  | inl s ↦ (let own : p v ≡ true = ap p (sym ((is_same_unit-Decides u v).0 s)) ∙ h in rw (own, s) refl)
  | inr n ↦ (let rest = passing_listed p us u (rw n at t) h in elim (cases_Bool (p v)) [ inl k ↦ rw (k, n, rest) refl | inr m ↦ rw m rest ])
]

-- one that doesn't is none of them
failing_unlisted : (p : AttributeUnit → Bool) (us : List AttributeUnit) (u : AttributeUnit) → p u ≡ false → is_listed u (filter p us) ≡ false
failing_unlisted p [] u h = refl
failing_unlisted p (v ∷ us) u h = (let rest = failing_unlisted p us u h in elim (cases_Bool (p v)) [
  | inl k ↦ elim (cases_Bool (is_same_unit u v)) [
    | inl s ↦ absurd (let own : p u ≡ true = ap p ((is_same_unit-Decides u v).0 s) ∙ k in cc)
    | inr n ↦ rw (k, n) rest
  ]
  | inr m ↦ rw m rest
])

-- ---- what changes

same_any : (p q : AttributeUnit → Bool) (us : List AttributeUnit) → All (λ u. p u ≡ q u) us → list_any p us ≡ list_any q us
same_any p q [] h = refl
same_any p q (u ∷ us) h =
    let first = All-head (λ v. p v ≡ q v) u us h in
    let rest = same_any p q us (All-tail (λ v. p v ≡ q v) u us h) in
    λ i. first i || rest i

same_change : (d : Draft) (u : AttributeUnit) (a b : Content) → (is_secret d.kind u ≡ false → values u (rows a) ≡ values u (rows b)) → changes_unit d (rows a) u ≡ changes_unit d (rows b) u
same_change d u a b same = elim (cases_Bool (is_secret d.kind u)) [
  | inl t ↦ rw t refl
  | inr n ↦ rw n (ap (λ vs. not (are_same_values vs (values u d.rows))) (same n))
]

same_changes : (d : Draft) (us : List AttributeUnit) (a b : Content) → AgreeAtOpen d.kind us a b → changes d us (rows a) ≡ changes d us (rows b)
same_changes d us a b agree =
    same_any (changes_unit d (rows a)) (changes_unit d (rows b)) us
    (All-weaker (λ u. is_secret d.kind u ≡ false → values u (rows a) ≡ values u (rows b)) (λ u. changes_unit d (rows a) u ≡ changes_unit d (rows b) u)
    (λ u same. same_change d u a b same) us agree)

-- ---- what is required

-- the attribute that a kind requires
abbrev name_of : Kind → Attribute
name_of User = UserName
name_of Group = DisplayName

simple_name : (kind : Kind) → IsSimple (name_of kind)
simple_name User = user_name
simple_name Group = display_name

-- rows are without what is required where they are without that
lacks_name : (kind : Kind) (rs : List Row) → lacks_required kind rs ≡ not (has_row (name_of kind) rs) || false
unfolding lacks_required
lacks_name User rs = refl
lacks_name Group rs = refl

some_atom : (o : Option Atom) → IsSome o → o ≢ None
some_atom None some e = cc
some_atom (Some atom) some e = cc

some_text : (o : Option Atom) → IsFilled o → o ≢ None
some_text None some e = absurd some
some_text (Some atom) some e = cc

-- a resource has it
has_name : (kind : Kind) (c : Content) → IsResource c → IsNamedAs kind c → has_row (name_of kind) (rows c) ≡ true
has_name User c own named = cell_there UserName user_name (rows c) (some_text _ (subst IsFilled (get_cell c own.part (sound_part c own.part) (simple UserName) 0) named))
has_name Group c own named = cell_there DisplayName display_name (rows c) (some_atom _ (subst IsSome (get_cell c own.part (sound_part c own.part) (simple DisplayName) 0) named))

module _ (d : Draft) (is : IsDraft d) (us : List AttributeUnit) (moment : ℕ) where
  -- of a unit that is listed the values come from the draft, or are the moment
  abbrev of_draft : AttributeUnit → List Row
  of_draft u = if is_same_unit stamp u then stamps moment else values u d.rows

  module _ (c : Content) (own : IsResource c) (kinds : c.kind ≡ d.kind) where
    abbrev given : List Row
    given = with_units d us (rows c)

    abbrev outcome : Content
    outcome = content c.kind c.id (modified_at moment given)

    -- whether the row that is required is there rests on the draft alone
    there : has_row (name_of d.kind) given ≡ (if is_listed (whole (name_of d.kind)) us then has_row (name_of d.kind) d.rows else true)
    there = elim (cases_Bool (is_listed (whole (name_of d.kind)) us)) [
      | inl t ↦ rw t (there_if_given d is us c own (sym kinds) (name_of d.kind) (simple_name d.kind) t)
      | inr n ↦ rw n (there_if_kept d is us c own (sym kinds) (name_of d.kind) (simple_name d.kind) n ∙ has_name d.kind c own (subst (λ k. IsNamedAs k c) kinds own.named))
    ]

    lacks : lacks_required c.kind given ≡ not (if is_listed (whole (name_of d.kind)) us then has_row (name_of d.kind) d.rows else true) || false
    lacks = ap (λ k. lacks_required k given) kinds ∙ lacks_name d.kind given ∙ ap (λ b. not b || false) there

    rows_outcome : rows outcome ≡ modified_at moment given
    rows_outcome = rows_modified c.kind c.id moment given (given_sound d is us c own (sym kinds))

    listed : (u : AttributeUnit) → is_listed u us ≡ true → values u (rows outcome) ≡ of_draft u
    listed u t = ap (values u) rows_outcome ∙ elim (cases_Bool (is_same_unit stamp u)) [
      | inl s ↦ rw s (subst (λ v. values v (modified_at moment given) ≡ stamps moment) ((is_same_unit-Decides stamp u).0 s) (stamp_own moment given))
      | inr n ↦
          let other : stamp ≢ u = λ e. (let s : is_same_unit stamp u ≡ true = (is_same_unit-Decides stamp u).1 e in cc) in
          rw n (stamp_apart moment given u other ∙ values_listed d us u (rows c) t)
    ]

    unlisted : (u : AttributeUnit) → stamp ≢ u → is_listed u us ≡ false → values u (rows outcome) ≡ values u (rows c)
    unlisted u other n = ap (values u) rows_outcome ∙ stamp_apart moment given u other ∙ values_unlisted d us u (rows c) n

    stays : Stays us c outcome
    stays v apart = unlisted v apart.unstamped (none_listed us v apart.none)

    left : IsLeft us true moment c outcome
    left = record { kind = refl; id = refl; stays = stays; modified = ap (values stamp) rows_outcome ∙ stamp_own moment given }

-- ---- units that the draft doesn't take

flipped : (b : Bool) → not b ≡ false → b ≡ true
flipped true h = refl
flipped false h = cc

untaken_secret : (d : Draft) (u : AttributeUnit) → takes d u ≡ false → is_secret d.kind u ≡ true
untaken_secret d u h = flipped (is_secret d.kind u) (or_parts (gives d u) (not (is_secret d.kind u)) h).1

stamp_open : (kind : Kind) → is_secret kind stamp ≡ false
stamp_open User = refl
stamp_open Group = refl

pub secret_unstamped : (kind : Kind) (u : AttributeUnit) → is_secret kind u ≡ true → stamp ≢ u
secret_unstamped kind u secret e = (let t : is_secret kind stamp ≡ true = ap (is_secret kind) e ∙ secret in let n = stamp_open kind in cc)

-- a change that leaves all values outside some of these units alone leaves all values outside these units alone
left_but_all : (p : AttributeUnit → Bool) (us : List AttributeUnit) (changed : Bool) (moment : ℕ) (c x : Content) → IsLeft (filter p us) changed moment c x → IsLeft us changed moment c x
left_but_all p us changed moment c x h = record {
  kind = h.kind;
  id = h.id;
  stays = λ v apart. h.stays v (record { none = All-filter p (λ u. u ≢ v) us apart.none; unstamped = apart.unstamped });
  modified = h.modified;
}

-- ---- the outcomes of two resources

-- what isn't changed is left
as_it_was : (us : List AttributeUnit) (moment : ℕ) (c : Content) → IsLeft us false moment c c
as_it_was us moment c = record { kind = refl; id = refl; stays = λ v apart. refl; modified = refl }

-- and a unit of it ends alike
unchanged : (kind : Kind) (u : AttributeUnit) (a b : Content) → (is_secret kind u ≡ false → values u (rows a) ≡ values u (rows b)) → EndsAlike kind u a b a b
unchanged kind u a b same = elim (cases_Bool (is_secret kind u)) [ inl t ↦ inr (t, refl, refl) | inr n ↦ inl (same n) ]

module _ (d : Draft) (is : IsDraft d) (us : List AttributeUnit) (moment : ℕ) (a b : Content) (one : IsResource a) (other : IsResource b) (k : a.kind ≡ d.kind) (l : b.kind ≡ d.kind) where
  abbrev own : List AttributeUnit
  own = taken d us

  abbrev first : Content
  first = outcome d is own moment a one k

  abbrev second : Content
  second = outcome d is own moment b other l

  ends : (u : AttributeUnit) → is_listed u us ≡ true → EndsAlike d.kind u a b first second
  ends u t = elim (cases_Bool (takes d u)) [
    | inl h ↦ (let s = passing_listed (takes d) us u t h in inl (listed d is own moment a one k u s ∙ sym (listed d is own moment b other l u s)))
    | inr n ↦
        let s = failing_unlisted (takes d) us u n in
        let secret = untaken_secret d u n in
        let apart = secret_unstamped d.kind u secret in
        inr (secret, unlisted d is own moment a one k u apart s, unlisted d is own moment b other l u apart s)
  ]

  completed : (x y : Bool) → lacks_required a.kind (given d is own moment a one k) ≡ x → lacks_required b.kind (given d is own moment b other l) ≡ y → x ≡ y
      → AreAlike d.kind us true moment a b (if_complete moment a (given d is own moment a one k)) (if_complete moment b (given d is own moment b other l))
  completed true true e f same = rw (e, f) tt
  completed false false e f same =
      rw (e, f)
      (λ n u m. ends (get_or us n u) (at_listed us n u m), left_but_all (takes d) us true moment a first (left d is own moment a one k), left_but_all (takes d) us true moment b second (left d is own moment b other l))
  completed true false e f same = cc
  completed false true e f same = cc

  alike : (x y : Bool) → changes d us (rows a) ≡ x → changes d us (rows b) ≡ y → x ≡ y → AgreeAtOpen d.kind us a b
      → AreAlike d.kind us x moment a b (replaced d us moment a) (replaced d us moment b)
  unfolding replaced
  alike true true e f same same_values = rw (e, f) (completed _ _ refl refl (lacks d is own moment a one k ∙ sym (lacks d is own moment b other l)))
  alike false false e f same same_values = rw (e, f) (
    All-weaker (λ u. is_secret d.kind u ≡ false → values u (rows a) ≡ values u (rows b)) (λ u. EndsAlike d.kind u a b a b) (λ u h. unchanged d.kind u a b h) us same_values,
    as_it_was us moment a,
    as_it_was us moment b,
  )
  alike true false e f same same_values = cc
  alike false true e f same same_values = cc

pub replacing_rests_on_its_units : ReplacingRestsOnItsUnits
replacing_rests_on_its_units d us moment a b is one other k l same_values =
    let same = same_changes d us a b same_values in
    (same, alike d is us moment a b one other k l _ _ refl refl same same_values)
