use Rattle.std.proofs.Common.{◌≡◌, sym, ◌∙◌, ap, ◌||◌, ◌++◌, List, [], map}
use Rattle.std.specs.declared.alloc.Global.{Global}
use Rattle.std.specs.Prelude.{String}
use Rattle.std.proofs.lemmas.List.{append-nil}
use Rattle.std.proofs.lemmas.List.Folds.{list_any-append}
use Rattle.scim_value.specs.declared.uniqueness.UniqueName.{UniqueName}
use Rattle.scim_shelf.specs.Owners.{is_alike, is_among}
use Rattle.scim_shelf.proofs.TextLemmas.{text_of, among_at}
use Rattle.scim_shelf.proofs.indexed_texts.push_all.Goals as goal

pub returns : goal.returns
returns c = λ q.
    let leaf = c.args.leaf in
    let names = c.loop-text.names.items in
    let old = c.args.names.now.items in
    let texts = c.args.texts.keys in
    let none : c.loop-text.text-iterator ≡ [] = c.in-None.ensures.steps.0 in
    let all : names ≡ old ++ map (text_of leaf) texts =
    sym (append-nil names) ∙ ap (λ (ts : List (String Global)). names ++ map (text_of leaf) ts) (sym none) ∙ c.loop-text.invariant in
    ap (is_among q) all
    ∙ list_any-append (λ (n : UniqueName). is_alike n q) old (map (text_of leaf) texts)
    ∙ ap (λ b. is_among q old || b) (among_at leaf q texts)
