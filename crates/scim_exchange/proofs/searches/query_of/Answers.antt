use Rattle.std.proofs.Common.{refl, option_map}
use Rattle.scim_filter_grammar.specs.Tree.{tree_of}
use Rattle.scim_exchange.specs.code.Views.{settings_in}
use Rattle.scim_exchange.proofs.WantedLemmas.{sought_wanted}
use Rattle.scim_exchange.proofs.searches.query_of.Goals as goal

pub returns : goal.returns
returns c =
    let filter = option_map tree_of c.args.filter in
    let settings = settings_in c.args.settings.now in
    let t = sought_wanted c.args.kind filter settings c.in_ok-wanted.wanted c.in_ok-wanted.ensures in
    (record { filter = filter; settings = settings }, t.0, record { filter = refl; sort_by = refl; descending = refl; start = refl; count = refl; wanted = t.1 })
