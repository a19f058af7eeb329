use Rattle.std.proofs.Common.{◌∙◌, ap, sym, arith, option_map, None}
use Rattle.std.proofs.lemmas.Str.Pattern.{strip_prefix_char}
use Rattle.scim_route.specs.code.Places.{place_at}
use Rattle.scim_route.proofs.SlashLemmas.{no_place}
use Rattle.scim_route.proofs.endpoints.endpoint_of.Goals as goal

pub returns-in_err-rest : goal.returns-in_err-rest
returns-in_err-rest c =
    let none = no_place c.args.path.now (strip_prefix_char 47 c.args.path.now None c.in_err-rest.ensures.cases (omega arith)) in
    ap (option_map place_at) c.from_residual.ensures ∙ sym none
