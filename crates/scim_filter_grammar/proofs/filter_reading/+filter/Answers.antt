use Rattle.std.proofs.Common.{rules, arith, ◌<◌, ◌≡◌}
use Rattle.scim_filter_grammar.proofs.StepLemmas.{conjunction-step, disjunction-step, filter-none, filter-step}
use Rattle.scim_filter_grammar.proofs.filter_reading.+filter.Goals as goal

pub conjunction-returns-in_err-first-clause-gives : goal.conjunction-returns-in_err-first-clause-gives
conjunction-returns-in_err-first-clause-gives t c = rw (conjunction-step c.args.depth c.args.scope c.args.bytes.now) (search rules)

pub conjunction-returns-in_err-second-in-Some-clause-gives : goal.conjunction-returns-in_err-second-in-Some-clause-gives
conjunction-returns-in_err-second-in-Some-clause-gives t c = rw (conjunction-step c.args.depth c.args.scope c.args.bytes.now) (search rules)

pub conjunction-returns-in-None-clause-gives : goal.conjunction-returns-in-None-clause-gives
conjunction-returns-in-None-clause-gives t c = rw (conjunction-step c.args.depth c.args.scope c.args.bytes.now) (search rules)

pub conjunction-returns-in_ok-both-in-Some-clause-gives : goal.conjunction-returns-in_ok-both-in-Some-clause-gives
conjunction-returns-in_ok-both-in-Some-clause-gives t c = rw (conjunction-step c.args.depth c.args.scope c.args.bytes.now) (search rules)

pub disjunction-returns-in_err-first-clause-gives : goal.disjunction-returns-in_err-first-clause-gives
disjunction-returns-in_err-first-clause-gives t c = rw (disjunction-step c.args.depth c.args.scope c.args.bytes.now) (search rules)

pub disjunction-returns-in_err-second-in-Some-clause-gives : goal.disjunction-returns-in_err-second-in-Some-clause-gives
disjunction-returns-in_err-second-in-Some-clause-gives t c = rw (disjunction-step c.args.depth c.args.scope c.args.bytes.now) (search rules)

pub disjunction-returns-in-None-clause-gives : goal.disjunction-returns-in-None-clause-gives
disjunction-returns-in-None-clause-gives t c = rw (disjunction-step c.args.depth c.args.scope c.args.bytes.now) (search rules)

pub disjunction-returns-in_ok-either-in-Some-clause-gives : goal.disjunction-returns-in_ok-either-in-Some-clause-gives
disjunction-returns-in_ok-either-in-Some-clause-gives t c = rw (disjunction-step c.args.depth c.args.scope c.args.bytes.now) (search rules)

pub filter-returns-then-depth-eq0-clause-gives : goal.filter-returns-then-depth-eq0-clause-gives
filter-returns-then-depth-eq0-clause-gives t c = let h : c.args.depth ≡ 0 = omega arith in filter-none c.args.depth c.args.scope c.args.bytes.now h

pub filter-returns-clause-gives : goal.filter-returns-clause-gives
filter-returns-clause-gives t c = let h : 0 < c.args.depth = omega arith in rw (filter-step c.args.depth c.args.scope c.args.bytes.now h) (search rules)
