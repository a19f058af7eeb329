-- What comes of a draft is a resource.
use Rattle.std.proofs.Common.{◌≡◌, ◌≤◌, ℕ, false, sym, ◌∙◌, subst, inl, inr, List}
use Rattle.std.specs.Prelude.{Some, All}
use Rattle.std.proofs.lemmas.Bool.{cases_Bool}
use Rattle.std.proofs.lemmas.List.Elements.{All-filter}
use Rattle.scim_text.specs.Moments.{last_moment}
use Rattle.scim_schema.specs.declared.Unit.{Unit as AttributeUnit}
use Rattle.scim_schema.specs.Mutability.{is_fixed}
use Rattle.scim_cell.specs.Ids.{IsId}
use Rattle.scim_cell.specs.Content.{Content}
use Rattle.scim_cell.specs.Rows.{rows}
use Rattle.scim_value.specs.Resource.{IsResource, HasBase}
use Rattle.scim_body.specs.declared.drafts.UseFor.TheVariants.{Creating}
use Rattle.scim_body.specs.Drafts.{Draft, IsDraft, lacks_required}
use Rattle.scim_change.specs.Create.{created}
use Rattle.scim_change.specs.Replace.{changes, replaced, takes, taken, with_units}
use Rattle.scim_change.proofs.CreateLemmas as making
use Rattle.scim_change.proofs.ReplaceLemmas as replacing

-- a resource below this base
abbrev pub IsSound : List ℕ → Content → Type 0
IsSound base c = IsResource c × HasBase base c

-- a draft that was read to make a resource makes one, below the base
pub created_sound : (d : Draft) → IsDraft d → d.use_for ≡ Creating → (id : List ℕ) → IsId id → (moment : ℕ) → moment ≤ last_moment → (base : List ℕ)
    → IsSound base (created d id moment base)
unfolding created
created_sound d is making_one id own moment there base = (making.is_resource d is id moment base there own making_one, making.has_base d is id moment base there)

-- what a draft makes of a resource is one, below the base
pub replaced_sound : (d : Draft) → IsDraft d → (us : List AttributeUnit) (c : Content) → d.kind ≡ c.kind → All (λ u. is_fixed c.kind u ≡ false) us
    → (moment : ℕ) → moment ≤ last_moment → (base : List ℕ) → IsSound base c → (x : Content) → replaced d us moment c ≡ Some x → IsSound base x
replaced_sound d is us c kinds writable moment there base sound x e =
    elim (cases_Bool (changes d us (rows c))) [
      | inr n ↦ let same : Some c ≡ Some x = sym (replacing.as_it_was d us moment c n) ∙ e in (let own : c ≡ x = cc in subst (IsSound base) own sound)
      | inl t ↦ elim (cases_Bool (lacks_required c.kind (with_units d (taken d us) (rows c)))) [
        | inl lacks ↦ absurd (let none = sym (replacing.refused d us moment c t lacks) ∙ e in cc)
        | inr all ↦
            let same = sym (replacing.complete d us moment c t all) ∙ e in
            let own : replacing.whole_part d is (taken d us) c sound.0 kinds moment there ≡ x = cc in
            let free = All-filter (takes d) (λ u. is_fixed c.kind u ≡ false) us writable in
            subst (IsSound base) own
            (replacing.is_resource d is (taken d us) c sound.0 kinds moment there free all, replacing.base_kept d is (taken d us) c sound.0 kinds moment there free base sound.1)
      ]
    ]
