use Rattle.std.specs.Option.{option_copied}
use Rattle.scim_exchange.proofs.AskLemmas as lemma
use Rattle.scim_exchange.proofs.asks.ask.Goals as goal

pub returns-in_ok-wanted_by_query-in-Get : goal.returns-in_ok-wanted_by_query-in-Get
returns-in_ok-wanted_by_query-in-Get c =
    let route = c.args.route.now in lemma.shows route.form route.kind (option_copied route.query) c.args.body.now _ c.in-Get.is c.in_ok-wanted_by_query-in-Get.ensures

pub returns-in_ok-listed-in-ListGet : goal.returns-in_ok-listed-in-ListGet
returns-in_ok-listed-in-ListGet c =
    let route = c.args.route.now in lemma.lists route.form route.kind (option_copied route.query) c.args.body.now _ c.in-ListGet.is c.in_ok-listed-in-ListGet.ensures

pub returns-in_ok-search_by_body-in-SearchPost : goal.returns-in_ok-search_by_body-in-SearchPost
returns-in_ok-search_by_body-in-SearchPost c =
    let route = c.args.route.now in lemma.searches route.form route.kind (option_copied route.query) c.args.body.now _ c.in-SearchPost.is c.in_ok-search_by_body-in-SearchPost.ensures
