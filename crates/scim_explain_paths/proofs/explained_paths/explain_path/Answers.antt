use Rattle.std.proofs.Common.{rules, ◌≡◌, ◌∙◌, ap, ℕ, List, length, nat_lt}
use Rattle.std.specs.List.{flat_map}
use Rattle.std.proofs.lemmas.Result.{IfOk-weaker}
use Rattle.scim_schema.specs.declared.Leaf.{Leaf}
use Rattle.scim_explain_paths.specs.Paths as spec
use Rattle.scim_explain_paths.proofs.explained_paths.explain_path.Goals as goal

pub returns : goal.returns
returns c =
    let covered = spec.covered c.args.resource.now.kind c.args.path in
    let slice : c.as_slice.result.now ≡ covered = search rules in
    let count : c.len.result ≡ length covered = search rules in
    let text = λ (n : ℕ) (ls : List Leaf).
    flat_map (spec.leaf_text c.args.policy.now c.args.client.now c.args.op c.args.resource.now (nat_lt 1 n)) ls in
    IfOk-weaker c.texts.result _ _ (λ t e. e ∙ ap (λ n. text n c.as_slice.result.now) count ∙ ap (text (length covered)) slice) c.texts.ensures
