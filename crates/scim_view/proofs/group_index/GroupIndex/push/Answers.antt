use Rattle.std.proofs.Common.{sym, ◌∙◌, subst, List}
use Rattle.scim_cell.specs.Content.{Content}
use Rattle.scim_policy.specs.PatternTable.{rules_in}
use Rattle.scim_view.specs.Groups.{seen}
use Rattle.scim_view.specs.code.Index.{IsMadeOf}
use Rattle.scim_view.proofs.ListLemmas.{seen_one, seen_none}
use Rattle.scim_view.proofs.group_index.GroupIndex.push.Goals as goal

pub returns-then-not-shows_id : goal.returns-then-not-shows_id
returns-then-not-shows_id c viewer groups same made =
    let denied = sym c.shows_id.ensures ∙ c.if-not-shows_id.true in
    subst (λ (xs : List Content). IsMadeOf xs c.args.self.now) (sym (seen_none (rules_in c.args.patterns.now) viewer groups c.args.group.now same denied)) made

pub returns : goal.returns
returns c viewer groups same made =
    let allowed = sym c.shows_id.ensures ∙ c.if-not-shows_id.false in
    subst (λ (xs : List Content). IsMadeOf xs c.add.new.self) (sym (seen_one (rules_in c.args.patterns.now) viewer groups c.args.group.now same allowed)) (c.in_ok-add.ensures (seen viewer groups) made)
