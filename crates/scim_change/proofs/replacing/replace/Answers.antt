use Rattle.std.proofs.Common.{◌≡◌, ℕ, false, sym, ◌∙◌, ap, subst, Bool, List, rules}
use Rattle.std.specs.Prelude.{Some}
use Rattle.std.proofs.lemmas.List.Elements.{All-filter}
use Rattle.scim_schema.specs.declared.Kind.{Kind}
use Rattle.scim_schema.specs.declared.Unit.{Unit as AttributeUnit}
use Rattle.scim_schema.specs.Mutability.{is_fixed}
use Rattle.scim_cell.specs.Content.{Content}
use Rattle.scim_cell.specs.Rows.{Row, rows, content}
use Rattle.scim_value.specs.Resource.{IsResource, HasBase}
use Rattle.scim_body.specs.Drafts.{Draft, lacks_required}
use Rattle.scim_change.specs.Replace.{changes, takes, taken, with_units, modified_at}
use Rattle.scim_change.proofs.ReplaceLemmas.{is_resource, base_kept, as_it_was, refused, complete}
use Rattle.scim_change.proofs.replacing.replace.Goals as goal

-- what the draft changes of the resource, it changes of its part
of_resource : (d : Draft) (us : List AttributeUnit) (part own : Content) (b c : Bool) → part ≡ own → b ≡ changes d us (rows part) → b ≡ c → changes d us (rows own) ≡ c
of_resource d us part own b c e is was = ap (λ (r : Content). changes d us (rows r)) (sym e) ∙ sym is ∙ was

-- the part after the draft's values were put into that of the resource
record IsGiven (d : Draft) (us : List AttributeUnit) (own part : Content) : Type 0 where
  pub rows : rows part ≡ with_units d (taken d us) (rows own)
  pub kind : part.kind ≡ own.kind
  pub id : part.id ≡ own.id

given : (d : Draft) (us : List AttributeUnit) (before own part : Content) → before ≡ own → rows part ≡ with_units d (taken d us) (rows before) → part.kind ≡ before.kind → part.id ≡ before.id → IsGiven d us own part
given d us before own part e same kind id = record {
  rows = same ∙ ap (λ (r : Content). with_units d (taken d us) (rows r)) e;
  kind = kind ∙ ap (λ (r : Content). r.kind) e;
  id = id ∙ ap (λ (r : Content). r.id) e;
}

-- it lacks something where what was looked at does
lacks : (d : Draft) (us : List AttributeUnit) (own part : Content) (kind : Kind) (rs : List Row) (b c : Bool) → IsGiven d us own part → kind ≡ part.kind → rs ≡ rows part → b ≡ lacks_required kind rs → b ≡ c
    → lacks_required own.kind (with_units d (taken d us) (rows own)) ≡ c
lacks d us own part kind rs b c g k r is was = sym (λ i. lacks_required ((k ∙ g.kind) i) ((r ∙ g.rows) i)) ∙ sym is ∙ was

-- and then it is as it was modified last
modified : (d : Draft) (us : List AttributeUnit) (own part last : Content) (moment : ℕ) → IsGiven d us own part → last ≡ content part.kind part.id (modified_at moment (rows part))
    → last ≡ content own.kind own.id (modified_at moment (with_units d (taken d us) (rows own)))
modified d us own part last moment g e = e ∙ (λ i. content (g.kind i) (g.id i) (modified_at moment (g.rows i)))

pub returns-then-not-changes-clause-value : goal.returns-then-not-changes-clause-value
returns-then-not-changes-clause-value c =
    let d = c.args.draft.now in
    let us = c.args.units.now in
    let own = c.args.resource in
    as_it_was d us c.args.moment own (of_resource d us c.part.result.now own _ _ c.part.ensures.value c.changes.ensures c.if-not-changes.true)

pub returns-then-lacks_required-clause-missing : goal.returns-then-lacks_required-clause-missing
returns-then-lacks_required-clause-missing c =
    let d = c.args.draft.now in
    let us = c.args.units.now in
    let own = c.args.resource in
    let part = c.in_ok-part.part in
    let is = given d us c.into_part.result own part c.into_part.ensures.value c.in_ok-part.ensures.rows c.in_ok-part.ensures.kind c.in_ok-part.ensures.id in
    refused d us c.args.moment own (of_resource d us c.part.result.now own _ _ c.part.ensures.value c.changes.ensures c.if-not-changes.false)
    (lacks d us own part c.kind.result c.rows.result.now _ _ is c.kind.ensures c.rows.ensures.rows c.lacks_required.ensures c.if-lacks_required.true)

pub of_whole-requires : goal.of_whole-requires
of_whole-requires c =
    let d = c.args.draft.now in
    let us = c.args.units.now in
    let own = c.args.resource in
    let part = c.in_ok-part.part in
    let is = given d us c.into_part.result own part c.into_part.ensures.value c.in_ok-part.ensures.rows c.in_ok-part.ensures.kind c.in_ok-part.ensures.id in
    subst IsResource (sym (modified d us own part c.in_ok-part-2.part c.args.moment is c.in_ok-part-2.ensures.whole))
    (is_resource d c.in_ok-part.ensures.valid (taken d us) own c.into_part.ensures.valid c.requires.kind c.args.moment c.in_ok-part-2.ensures.bound (All-filter (takes d) (λ u. is_fixed own.kind u ≡ false) us c.requires.writable)
    (lacks d us own part c.kind.result c.rows.result.now _ _ is c.kind.ensures c.rows.ensures.rows c.lacks_required.ensures c.if-lacks_required.false))

pub returns-clause-value : goal.returns-clause-value
returns-clause-value c =
    let d = c.args.draft.now in
    let us = c.args.units.now in
    let own = c.args.resource in
    let part = c.in_ok-part.part in
    let is = given d us c.into_part.result own part c.into_part.ensures.value c.in_ok-part.ensures.rows c.in_ok-part.ensures.kind c.in_ok-part.ensures.id in
    complete d us c.args.moment own (of_resource d us c.part.result.now own _ _ c.part.ensures.value c.changes.ensures c.if-not-changes.false)
    (lacks d us own part c.kind.result c.rows.result.now _ _ is c.kind.ensures c.rows.ensures.rows c.lacks_required.ensures c.if-lacks_required.false)
    ∙ ap Some (sym (c.of_whole.ensures ∙ modified d us own part c.in_ok-part-2.part c.args.moment is c.in_ok-part-2.ensures.whole))

pub returns-clause-base : goal.returns-clause-base
returns-clause-base c base h =
    let d = c.args.draft.now in
    let us = c.args.units.now in
    let own = c.args.resource in
    let part = c.in_ok-part.part in
    let is = given d us c.into_part.result own part c.into_part.ensures.value c.in_ok-part.ensures.rows c.in_ok-part.ensures.kind c.in_ok-part.ensures.id in
    subst (HasBase base) (sym (c.of_whole.ensures ∙ modified d us own part c.in_ok-part-2.part c.args.moment is c.in_ok-part-2.ensures.whole))
    (base_kept d c.in_ok-part.ensures.valid (taken d us) own c.into_part.ensures.valid c.requires.kind c.args.moment c.in_ok-part-2.ensures.bound
    (All-filter (takes d) (λ u. is_fixed own.kind u ≡ false) us c.requires.writable) base h)

-- by name, so that a body that breaks it is refused at once
pub returns-clause-changed : goal.returns-clause-changed
returns-clause-changed c = search rules
