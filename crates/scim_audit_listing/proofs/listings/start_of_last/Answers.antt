use Rattle.std.proofs.Common.{◌≡◌, ◌<◌, ℕ, ◌+◌, ◌-◌, ◌∙◌, sym, ap, arith, true, false, length, drop, subst}
use Rattle.scim_audit_listing.specs.Listings.{fitting_rows}
use Rattle.scim_audit_listing.proofs.FilteredLemmas.{counted, few_from, last_from}
use Rattle.scim_audit_listing.proofs.listings.start_of_last.Goals as goal

pub returns-then-found-wanted-clause-start : goal.returns-then-found-wanted-clause-start
returns-then-found-wanted-clause-start c = λ first.
    let i = c.loop-index.index in
    let same : i - 1 + 1 ≡ i = omega (arith, c.loop-index-test.true) in
    let long = sym (c.loop-index.invariant.count first) ∙ c.if-found-wanted.true in
    ap (λ (k : ℕ). fitting_rows c.args.filter.now (first + k) (drop k c.args.rows.now)) same
    ∙ last_from c.args.filter.now c.args.wanted first i c.args.rows.now long

pub returns-then-found-wanted-clause-count : goal.returns-then-found-wanted-clause-count
returns-then-found-wanted-clause-count c = λ first.
    let i = c.loop-index.index in
    let few = few_from c.args.filter.now first i c.args.rows.now in
    omega (arith, few, c.loop-index.invariant.count first, c.if-found-wanted.true)

pub loop-index-preserved-then-fits : goal.loop-index-preserved-then-fits
loop-index-preserved-then-fits c =
    let i = c.loop-index.index in
    let low : i - 1 < length c.args.rows.now = omega (arith, c.loop-index.invariant.few, c.loop-index-test.true) in
    let same : i - 1 + 1 ≡ i = omega (arith, c.loop-index-test.true) in
    record {
      within = omega (arith, c.loop-index.invariant.within, c.if-found-wanted.false);
      few = omega (arith, c.loop-index.invariant.few, c.loop-index-test.true);
      count = λ first.
          let more = counted c.args.filter.now true first (i - 1) c.args.rows.now c.index-rows-index.result (sym c.fits.ensures ∙ c.if-fits.true) low c.index-rows-index.is in
          let here = subst (λ (k : ℕ). length (fitting_rows c.args.filter.now (first + (i - 1)) (drop (i - 1) c.args.rows.now)) ≡ 1 + length (fitting_rows c.args.filter.now (first + k) (drop k c.args.rows.now))) same more in
          omega (arith, here, c.loop-index.invariant.count first);
    }

pub loop-index-preserved : goal.loop-index-preserved
loop-index-preserved c =
    let i = c.loop-index.index in
    let low : i - 1 < length c.args.rows.now = omega (arith, c.loop-index.invariant.few, c.loop-index-test.true) in
    let same : i - 1 + 1 ≡ i = omega (arith, c.loop-index-test.true) in
    record {
      within = c.loop-index.invariant.within;
      few = omega (arith, c.loop-index.invariant.few, c.loop-index-test.true);
      count = λ first.
          let more = counted c.args.filter.now false first (i - 1) c.args.rows.now c.index-rows-index.result (sym c.fits.ensures ∙ c.if-fits.false) low c.index-rows-index.is in
          let here = subst (λ (k : ℕ). length (fitting_rows c.args.filter.now (first + (i - 1)) (drop (i - 1) c.args.rows.now)) ≡ 0 + length (fitting_rows c.args.filter.now (first + k) (drop k c.args.rows.now))) same more in
          omega (arith, here, c.loop-index.invariant.count first);
    }

pub returns-clause-count : goal.returns-clause-count
returns-clause-count c = λ first.
    let i = c.loop-index.index in
    let zero : i ≡ 0 = omega (arith, c.loop-index-test.false) in
    let all = subst (λ (k : ℕ). c.loop-index.found ≡ length (fitting_rows c.args.filter.now (first + k) (drop k c.args.rows.now))) zero (c.loop-index.invariant.count first) in
    let start : first + 0 ≡ first = omega arith in
    let whole = subst (λ (n : ℕ). c.loop-index.found ≡ length (fitting_rows c.args.filter.now n c.args.rows.now)) start all in
    omega (arith, whole, c.loop-index.invariant.within)
