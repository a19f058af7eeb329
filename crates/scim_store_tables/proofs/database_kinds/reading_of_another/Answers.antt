use Rattle.std.proofs.Common.{rules, ◌≡◌, true, false, inl}
use Rattle.scim_store_tables.proofs.WholeLemmas.{version_named, version_lacking}
use Rattle.scim_store_tables.proofs.database_kinds.reading_of_another.Goals as goal

pub returns-then-branch : goal.returns-then-branch
returns-then-branch c v db same lacks =
    let names : c.in_ok-names_any_version.field-0 ≡ true = search rules in
    let named = c.in_ok-names_any_version.ensures.yes names in
    inl (lacks, named.0, version_named named.0 db c.args.settings.now same named.1)

pub returns-else-branch : goal.returns-else-branch
returns-else-branch c v db same lacks =
    let none : c.in_ok-names_any_version.field-0 ≡ false = search rules in
    λ w. version_lacking w db c.args.settings.now same (c.in_ok-names_any_version.ensures.no none w)
