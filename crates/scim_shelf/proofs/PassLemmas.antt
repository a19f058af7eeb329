-- What a visitor has taken behind a filter that passes on the resources with one of several texts.
use Rattle.std.proofs.Common.{◌≡◌, sym, ◌∙◌, ap, subst, List, [], ◌∷◌, filter}
use Rattle.std.specs.List.{FoldsTo}
use Rattle.std.proofs.lemmas.List.Elements.{filter-append}
use Rattle.scim_cell.specs.Content.{Content}
use Rattle.scim_shelf.specs.declared.leaf_texts.LeafText.{LeafText}
use Rattle.scim_shelf.specs.declared.text_filters.TextFilter.{TextFilter}
use Rattle.scim_shelf.specs.Shelves.{TookPrefix}
use Rattle.scim_shelf.specs.Stores.{has_some_text}
use Rattle.scim_shelf.specs.TextFilters.{PassesOn}
use Rattle.scim_shelf.proofs.NameLemmas.{by_bool}

-- the resources of a list that have one of the texts
abbrev having : List LeafText → List Content → List Content
having texts cs = filter (has_some_text texts) cs

module _ {V : Type 0} (Takes : V → Content → V → Type 0) where
  -- the filter keeps its reference, and its visitor has taken the resources that have one of the texts
  pub passed : (old : TextFilter V) (cs : List Content) (new : TextFilter V) → FoldsTo (PassesOn Takes) old cs new
      → (new.visitor.ghost_name ≡ old.visitor.ghost_name) × FoldsTo Takes old.visitor.now (having old.texts.now cs) new.visitor.now
  passed old [] new same = (ap (λ (f : TextFilter V). f.visitor.ghost_name) (sym same), ap (λ (f : TextFilter V). f.visitor.now) same)
  passed old (c ∷ cs) new folds =
      let mid = folds.0 in
      let step : PassesOn Takes old c mid = folds.1 in
      let rest = passed mid cs new folds.2 in
      let later : FoldsTo Takes mid.visitor.now (having old.texts.now cs) new.visitor.now
      = subst (λ (ts : List LeafText). FoldsTo Takes mid.visitor.now (having ts cs) new.visitor.now) (ap (λ ts. ts.now) step.texts) rest.1 in (
        rest.0 ∙ step.same_reference,
        by_bool (has_some_text old.texts.now c)
            (λ has. rw has (mid.visitor.now, step.taken has, later))
            (λ lacks. rw lacks (subst (λ (v : V). FoldsTo Takes v (having old.texts.now cs) new.visitor.now) (step.skipped lacks) later)),
      )

  -- a filter that took a prefix passed on a prefix
  pub passed_prefix : (old : TextFilter V) (cs : List Content) (new : TextFilter V) → TookPrefix (PassesOn Takes) old cs new
      → (new.visitor.ghost_name ≡ old.visitor.ghost_name) × TookPrefix Takes old.visitor.now (having old.texts.now cs) new.visitor.now
  passed_prefix old cs new took =
      let has = has_some_text old.texts.now in
      let all = passed old took.taken new took.took in (
        all.0,
        record {
          taken = filter has took.taken;
          left = filter has took.left;
          whole = sym (filter-append has took.taken took.left) ∙ ap (filter has) took.whole;
          took = all.1;
        },
      )
