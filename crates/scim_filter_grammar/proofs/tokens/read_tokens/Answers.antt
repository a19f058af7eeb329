use Rattle.std.proofs.Common.{◌≡◌, ◌<◌, ◌-◌, [], ◌∷◌, ◌++◌, length, drop, Some, None, sym, subst, append_assoc, arith, rules}
use Rattle.std.specs.Prelude.{slice_index, ◌≢◌}
use Rattle.std.proofs.lemmas.Grind.{common_steps}
use Rattle.std.proofs.lemmas.List.{map_push, append-nil}
use Rattle.scim_filter_grammar.specs.Tokens.{past_token, Span, spans, Unclosed}
use Rattle.scim_filter_grammar.proofs.TokenLemmas.{space_at, token_at, after_space, after_token, no_token, done_at, unclosed_behind_space, unclosed_behind_token, unclosed_here}
use Rattle.scim_filter_grammar.proofs.BorderLemmas.{rest_boundary, rest_behind_space, rest_behind_token}
use Rattle.scim_filter_grammar.proofs.tokens.read_tokens.Goals as goal

pub loop-rest-preserved-then-first-eq32 : goal.loop-rest-preserved-then-first-eq32
loop-rest-preserved-then-first-eq32 c =
    let rest = c.loop-rest.rest.now in
    let total = length c.args.text.now in
    let lt : 0 < length rest = search rules in
    let is_space : slice_index rest 0 ≡ 32 = c.if-first-eq32.true in
    let e = c.skip_one-others.ensures.rest in
    record {
      left = rw e (rest_behind_space c.args.text.now rest c.loop-rest.invariant.left lt is_space);
      in_range = search rules;
      found = λ ts t. c.loop-rest.invariant.found ts (space_at total rest ts lt is_space (rw e at t));
      unclosed = λ at u. c.loop-rest.invariant.unclosed at (unclosed_behind_space total rest at lt is_space (rw e at u));
      slices = c.loop-rest.invariant.slices;
      only = λ ts t. let m = c.loop-rest.invariant.only ts t in rw e (after_space total rest m.0 lt is_space m.1);
    }

pub returns-in_default-clause-syntax : goal.returns-in_default-clause-syntax
returns-in_default-clause-syntax c =
    let rest = c.loop-rest.rest.now in
    let total = length c.args.text.now in
    let lt : 0 < length rest = search rules in
    let no_space : slice_index rest 0 ≢ 32 = c.if-first-eq32.false in
    let none : past_token (slice_index rest 0) (drop 1 rest) ≡ None = rw c.skip_one-others.ensures.rest at (sym c.in_default.ensures.rest) in
    λ at same. (let s : total - length rest ≡ at = cc in omega (arith, c.loop-rest.invariant.in_range, lt, s), λ ts t. let m = c.loop-rest.invariant.only ts t in no_token total rest m.0 lt no_space none m.1)

pub returns-in_default-clause-unclosed : goal.returns-in_default-clause-unclosed
returns-in_default-clause-unclosed c =
    let rest = c.loop-rest.rest.now in
    let total = length c.args.text.now in
    let lt : 0 < length rest = search rules in
    let none : past_token (slice_index rest 0) (drop 1 rest) ≡ None = rw c.skip_one-others.ensures.rest at (sym c.in_default.ensures.rest) in
    λ at same. let s : total - length rest ≡ at = cc in subst (Unclosed total c.args.text.now) s (c.loop-rest.invariant.unclosed (total - length rest) (unclosed_here total rest lt none))

pub range-requires-clause-start_boundary : goal.range-requires-clause-start_boundary
range-requires-clause-start_boundary c = λ lt. rest_boundary c.args.text.now c.loop-rest.rest.now c.loop-rest.invariant.left

pub range-requires-clause-end_boundary : goal.range-requires-clause-end_boundary
range-requires-clause-end_boundary c =
    let rest = c.loop-rest.rest.now in
    let lt : 0 < length rest = search rules in
    let some : past_token (slice_index rest 0) (drop 1 rest) ≡ Some c.in-Some.behind.now = rw c.skip_one-others.ensures.rest at (sym c.in-Some.ensures.rest) in
    rest_boundary c.args.text.now c.in-Some.behind.now (rest_behind_token c.args.text.now rest c.in-Some.behind.now c.loop-rest.invariant.left lt some)

pub loop-rest-preserved : goal.loop-rest-preserved
loop-rest-preserved c =
    let rest = c.loop-rest.rest.now in
    let after = c.in-Some.behind.now in
    let total = length c.args.text.now in
    let lt : 0 < length rest = search rules in
    let no_space : slice_index rest 0 ≢ 32 = c.if-first-eq32.false in
    let some : past_token (slice_index rest 0) (drop 1 rest) ≡ Some after = rw c.skip_one-others.ensures.rest at (sym c.in-Some.ensures.rest) in
    let before = spans c.loop-rest.tokens.items in
    let span : Span = (total - length rest, total - length after) in
    let pushed : spans c.push.new.values.items ≡ before ++ span ∷ [] = rw c.in_ok-push.ensures.items (map_push _ c.loop-rest.tokens.items _) in
    record {
      left = rest_behind_token c.args.text.now rest after c.loop-rest.invariant.left lt some;
      in_range = search rules;
      found = λ ts t. rw (pushed, append_assoc) (c.loop-rest.invariant.found (span ∷ ts) (token_at total rest after ts lt no_space some t));
      unclosed = λ at u. c.loop-rest.invariant.unclosed at (unclosed_behind_token total rest after at lt no_space some u);
      slices = grind (arith, common_steps);
      only = λ ts t. let m = c.loop-rest.invariant.only ts t in after_token total rest after m.0 lt no_space some m.1;
    }

pub returns-clause-found : goal.returns-clause-found
returns-clause-found c =
    let ended : length c.loop-rest.rest.now ≡ 0 = search rules in
    (search rules, rw (append-nil) at (c.loop-rest.invariant.found [] (done_at (length c.args.text.now) c.loop-rest.rest.now ended)))
