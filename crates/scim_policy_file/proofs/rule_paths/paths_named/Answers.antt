use Rattle.std.proofs.Common.{◌≡◌, ◌∙◌, sym, ap, List, ◌++◌, map, Vec, Some, None, Ok}
use Rattle.std.specs.declared.alloc.Global.{Global}
use Rattle.scim_policy_file.specs.declared.rule_paths.Standing.{Standing}
use Rattle.scim_policy.specs.Rules.{KindPaths}
use Rattle.scim_policy_file.specs.Paths.{fault_in}
use Rattle.std.specs.Prelude.{filter_map}
use Rattle.scim_policy_file.specs.code.Standings.{columns_on, faults_from, first_of}
use Rattle.scim_policy_file.specs.code.Written.{text_at}
use Rattle.scim_policy_file.proofs.PathLemmas.{faults_are, first_tells, none_tells}
use Rattle.scim_policy_file.proofs.rule_paths.paths_named.Goals as goal

pub returns-in-Some : goal.returns-in-Some
returns-in-Some c =
    let version = c.args.version in
    let ops = c.args.ops.now in
    let kinds = c.args.kinds.now in
    let texts = map text_at c.args.texts.now in
    let columns : map (λ (v : Vec Standing Global). v.items) c.deref.result.now ≡ columns_on version ops kinds texts =
    ap (map (λ (v : Vec Standing Global). v.items)) c.deref.ensures.value ∙ c.in_ok-paths.ensures.columns
    ∙ ap (λ (vs : List (Vec Standing Global)). map (λ (v : Vec Standing Global). v.items) vs ++ columns_on version ops kinds texts) c.new-columns.ensures.items in
    let told : first_of (filter_map (fault_in version ops kinds) texts) ≡ Some c.in-Some.cause =
    ap first_of (sym (faults_are version ops kinds texts)) ∙ ap (λ (cs : List (List Standing)). first_of (faults_from 0 cs texts)) (sym columns) ∙ sym c.first_fault.ensures ∙ c.in-Some.is in
    first_tells _ _ c.in-Some.cause told

pub returns : goal.returns
returns c =
    let version = c.args.version in
    let ops = c.args.ops.now in
    let kinds = c.args.kinds.now in
    let texts = map text_at c.args.texts.now in
    let columns : map (λ (v : Vec Standing Global). v.items) c.deref.result.now ≡ columns_on version ops kinds texts =
    ap (map (λ (v : Vec Standing Global). v.items)) c.deref.ensures.value ∙ c.in_ok-paths.ensures.columns
    ∙ ap (λ (vs : List (Vec Standing Global)). map (λ (v : Vec Standing Global). v.items) vs ++ columns_on version ops kinds texts) c.new-columns.ensures.items in
    let told : first_of (filter_map (fault_in version ops kinds) texts) ≡ None =
    ap first_of (sym (faults_are version ops kinds texts)) ∙ ap (λ (cs : List (List Standing)). first_of (faults_from 0 cs texts)) (sym columns) ∙ sym c.first_fault.ensures ∙ c.in-None.is in
    none_tells _ _ told ∙ ap (λ (ps : List KindPaths). Ok ps) (sym c.in_ok-paths.ensures.paths)
