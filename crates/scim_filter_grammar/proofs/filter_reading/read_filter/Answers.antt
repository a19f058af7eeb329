use Rattle.std.proofs.Common.{◌≡◌, ◌≤◌, ◌<◌, ℕ, Some, inr, true, false, List, length, Ok, Err, sym, ap, subst, ◌∙◌, arith}
use Rattle.scim_filter_grammar.specs.Tree.{Tree, view}
use Rattle.scim_filter_grammar.specs.Types.{fits}
use Rattle.scim_schema.specs.declared.limits.TheConstants.{LONGEST_FILTER}
use Rattle.scim_filter_grammar.specs.Reading.{Syntax, TooDeep, all_of}
use Rattle.scim_filter_grammar.specs.Grammar.{IsFilter}
use Rattle.scim_schema.specs.declared.Kind.{Kind}
use Rattle.scim_filter_grammar.specs.declared.tree.Scope.TheVariants.{Attributes}
use Rattle.scim_filter_grammar.proofs.TakeLemmas.{ok_is}
use Rattle.scim_filter_grammar.proofs.AgainLemmas.{all_takes, is_read, no_filter, not_within}
use Rattle.scim_filter_grammar.proofs.FunctionLemmas.{spelled-filter_in, none_spelled}
use Rattle.scim_filter_grammar.proofs.filter_reading.read_filter.Goals as goal

-- what was read is spelled by the text, and nothing else is
spelled : (kind : Kind) (text bytes : List ℕ) (read : Tree) → bytes ≡ text → all_of (Attributes kind) bytes ≡ Ok read → IsFilter kind 32 text read
spelled kind text bytes read e f = all_takes kind text read (ap (all_of (Attributes kind)) (sym e) ∙ f)

same_tree : (kind : Kind) (text bytes : List ℕ) (read tree : Tree) → bytes ≡ text → all_of (Attributes kind) bytes ≡ Ok read → IsFilter kind 32 text tree → read ≡ tree
same_tree kind text bytes read tree e f h = ok_is read tree (sym f ∙ ap (all_of (Attributes kind)) e ∙ is_read kind text tree h)

pub returns-then-fits-clause-found : goal.returns-then-fits-clause-found
returns-then-fits-clause-found c =
    let e : c.as_bytes-bytes.result.now ≡ c.args.text.now = c.as_bytes-bytes.ensures.value in
    let short : length c.args.text.now ≤ LONGEST_FILTER = subst (λ (b : List ℕ). length b ≤ LONGEST_FILTER) e c.if-bytes-gt-LONGEST_FILTER.false in
    let typed : fits (view c.in-Ok.node) ≡ true = sym c.fits.ensures ∙ c.if-fits.true in
    (short, rw c.of.ensures (spelled c.args.kind c.args.text.now c.as_bytes-bytes.result.now (view c.in-Ok.node) e c.in-Ok.ensures), rw c.of.ensures typed)

pub returns-then-fits-clause-only : goal.returns-then-fits-clause-only
returns-then-fits-clause-only c =
    λ tree short h typed. c.of.ensures ∙ same_tree c.args.kind c.args.text.now c.as_bytes-bytes.result.now (view c.in-Ok.node) tree c.as_bytes-bytes.ensures.value c.in-Ok.ensures h

pub returns-else-fits-clause-only : goal.returns-else-fits-clause-only
returns-else-fits-clause-only c =
    let untyped : fits (view c.in-Ok.node) ≡ false = sym c.fits.ensures ∙ c.if-fits.false in
    λ tree short h typed.
    let same : view c.in-Ok.node ≡ tree = same_tree c.args.kind c.args.text.now c.as_bytes-bytes.result.now (view c.in-Ok.node) tree c.as_bytes-bytes.ensures.value c.in-Ok.ensures h in
    absurd (let no : fits (view c.in-Ok.node) ≡ true = ap fits same ∙ typed in cc)

pub returns-else-fits-clause-wrong_type : goal.returns-else-fits-clause-wrong_type
returns-else-fits-clause-wrong_type c =
    λ is. (view c.in-Ok.node, spelled c.args.kind c.args.text.now c.as_bytes-bytes.result.now (view c.in-Ok.node) c.as_bytes-bytes.ensures.value c.in-Ok.ensures, sym c.fits.ensures ∙ c.if-fits.false)

pub returns-in-Err-Because-Syntax-clause-only : goal.returns-in-Err-Because-Syntax-clause-only
returns-in-Err-Because-Syntax-clause-only c =
    let e : c.as_bytes-bytes.result.now ≡ c.args.text.now = c.as_bytes-bytes.ensures.value in
    let failed : all_of (Attributes c.args.kind) c.as_bytes-bytes.result.now ≡ Err Syntax = rw (c.in-Err-Because-Syntax.field-0-is, c.in-Err-Because-Syntax.field-0-0-is) at c.in-Err-Because-Syntax.ensures in
    λ tree short h typed. absurd (no_filter c.args.kind 32 c.args.text.now tree (ap (all_of (Attributes c.args.kind)) (sym e) ∙ failed) h)

pub returns-in-Err-Because-Syntax-clause-syntax : goal.returns-in-Err-Because-Syntax-clause-syntax
returns-in-Err-Because-Syntax-clause-syntax c =
    let e : c.as_bytes-bytes.result.now ≡ c.args.text.now = c.as_bytes-bytes.ensures.value in
    let failed : all_of (Attributes c.args.kind) c.as_bytes-bytes.result.now ≡ Err Syntax = rw (c.in-Err-Because-Syntax.field-0-is, c.in-Err-Because-Syntax.field-0-0-is) at c.in-Err-Because-Syntax.ensures in
    λ at is. (
      let same : c.saturating_sub-at.result ≡ at = cc in let n = ap length e in let d = c.saturating_sub-at.ensures in omega (arith, same, n, d),
      λ n tree h. no_filter c.args.kind n c.args.text.now tree (ap (all_of (Attributes c.args.kind)) (sym e) ∙ failed) h,
    )

pub returns-in-Err-Because-TooDeep-clause-only : goal.returns-in-Err-Because-TooDeep-clause-only
returns-in-Err-Because-TooDeep-clause-only c =
    let e : c.as_bytes-bytes.result.now ≡ c.args.text.now = c.as_bytes-bytes.ensures.value in
    let failed : all_of (Attributes c.args.kind) c.as_bytes-bytes.result.now ≡ Err TooDeep = rw (c.in-Err-Because-TooDeep.field-0-is, c.in-Err-Because-TooDeep.field-0-0-is) at c.in-Err-Because-TooDeep.ensures in
    λ tree short h typed. absurd (not_within c.args.kind c.args.text.now tree (ap (all_of (Attributes c.args.kind)) (sym e) ∙ failed) h)

pub returns-in-Err-Because-TooDeep-clause-too_deep : goal.returns-in-Err-Because-TooDeep-clause-too_deep
returns-in-Err-Because-TooDeep-clause-too_deep c =
    let e : c.as_bytes-bytes.result.now ≡ c.args.text.now = c.as_bytes-bytes.ensures.value in
    let failed : all_of (Attributes c.args.kind) c.as_bytes-bytes.result.now ≡ Err TooDeep = rw (c.in-Err-Because-TooDeep.field-0-is, c.in-Err-Because-TooDeep.field-0-0-is) at c.in-Err-Because-TooDeep.ensures in
    λ is tree h. not_within c.args.kind c.args.text.now tree (ap (all_of (Attributes c.args.kind)) (sym e) ∙ failed) h

pub returns-then-bytes-gt-LONGEST_FILTER-clause-same : goal.returns-then-bytes-gt-LONGEST_FILTER-clause-same
returns-then-bytes-gt-LONGEST_FILTER-clause-same c =
    let e : c.as_bytes-bytes.result.now ≡ c.args.text.now = c.as_bytes-bytes.ensures.value in
    let long : LONGEST_FILTER < length c.args.text.now = subst (λ (b : List ℕ). LONGEST_FILTER < length b) e c.if-bytes-gt-LONGEST_FILTER.true in
    inr (none_spelled c.args.kind c.args.text.now (λ tree short h typed. absurd (omega (arith, long, short))))

pub returns-then-fits-clause-same : goal.returns-then-fits-clause-same
returns-then-fits-clause-same c =
    let e : c.as_bytes-bytes.result.now ≡ c.args.text.now = c.as_bytes-bytes.ensures.value in
    let short : length c.args.text.now ≤ LONGEST_FILTER = subst (λ (b : List ℕ). length b ≤ LONGEST_FILTER) e c.if-bytes-gt-LONGEST_FILTER.false in
    let h = spelled c.args.kind c.args.text.now c.as_bytes-bytes.result.now (view c.in-Ok.node) e c.in-Ok.ensures in
    spelled-filter_in c.args.kind c.args.text.now (view c.in-Ok.node) short h (sym c.fits.ensures ∙ c.if-fits.true) ∙ ap Some (sym c.of.ensures)

pub returns-else-fits-clause-same : goal.returns-else-fits-clause-same
returns-else-fits-clause-same c =
    let untyped : fits (view c.in-Ok.node) ≡ false = sym c.fits.ensures ∙ c.if-fits.false in
    inr (none_spelled c.args.kind c.args.text.now (λ tree short h typed.
    let same : view c.in-Ok.node ≡ tree = same_tree c.args.kind c.args.text.now c.as_bytes-bytes.result.now (view c.in-Ok.node) tree c.as_bytes-bytes.ensures.value c.in-Ok.ensures h in
    absurd (let no : true ≡ false = sym typed ∙ ap fits (sym same) ∙ untyped in cc)))

pub returns-in-Err-Because-Syntax-clause-same : goal.returns-in-Err-Because-Syntax-clause-same
returns-in-Err-Because-Syntax-clause-same c =
    let e : c.as_bytes-bytes.result.now ≡ c.args.text.now = c.as_bytes-bytes.ensures.value in
    let failed : all_of (Attributes c.args.kind) c.as_bytes-bytes.result.now ≡ Err Syntax = rw (c.in-Err-Because-Syntax.field-0-is, c.in-Err-Because-Syntax.field-0-0-is) at c.in-Err-Because-Syntax.ensures in
    inr (none_spelled c.args.kind c.args.text.now (λ tree short h typed. no_filter c.args.kind 32 c.args.text.now tree (ap (all_of (Attributes c.args.kind)) (sym e) ∙ failed) h))

pub returns-in-Err-Because-TooDeep-clause-same : goal.returns-in-Err-Because-TooDeep-clause-same
returns-in-Err-Because-TooDeep-clause-same c =
    let e : c.as_bytes-bytes.result.now ≡ c.args.text.now = c.as_bytes-bytes.ensures.value in
    let failed : all_of (Attributes c.args.kind) c.as_bytes-bytes.result.now ≡ Err TooDeep = rw (c.in-Err-Because-TooDeep.field-0-is, c.in-Err-Because-TooDeep.field-0-0-is) at c.in-Err-Because-TooDeep.ensures in
    inr (none_spelled c.args.kind c.args.text.now (λ tree short h typed. not_within c.args.kind c.args.text.now tree (ap (all_of (Attributes c.args.kind)) (sym e) ∙ failed) h))
