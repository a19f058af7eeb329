use Rattle.std.proofs.Common.{◌≡◌, ap, ◌∙◌}
use Rattle.std.specs.Prelude.{◌||◌}
use Rattle.std.proofs.lemmas.Result.{on_ok_weaker}
use Rattle.scim_schema.specs.declared.Leaf.{Leaf}
use Rattle.scim_path.specs.Paths.{extension_named}
use Rattle.scim_view.specs.Names.{includes, is_there, belongs_to, is_meant, meaning_of}
use Rattle.scim_view.proofs.NamesLemmas.{both_more}
use Rattle.scim_view.proofs.attribute_lists.Names.add.Goals as goal

pub returns : goal.returns
returns c = on_ok_weaker c.add_meant.result (λ (h : (l : Leaf) → includes c.add_meant.new.self l ≡ (includes c.add_extension.new.self l || is_meant c.meant.result l)) (l : Leaf).
    let urn = is_there (λ s. belongs_to s l) (extension_named c.args.kind c.args.text.now) in
    let path = is_meant (meaning_of c.args.kind c.args.text.now) l in
    let first : includes c.add_extension.new.self l ≡ (includes c.args.self.now l || urn) = rw c.extension_named.ensures at (c.in_ok-add_extension.ensures l) in
    let second : includes c.add_meant.new.self l ≡ (includes c.add_extension.new.self l || path) = rw c.meant.ensures at (h l) in
    both_more (includes c.args.self.now l) urn path _ (second ∙ ap (λ b. b || path) first)) c.add_meant.ensures
