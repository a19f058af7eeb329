use Rattle.std.specs.Prelude.{string_bytes}
use Rattle.std.specs.declared.alloc.Global.{Global}
use Rattle.std.specs.declared.string.String.{String}
use Rattle.std.specs.Ordering.{nat_cmp}
use Rattle.std.specs.Cmp.Lexicographic.{slice_cmp}
use Rattle.std.specs.BTreeSet.{contains_text}
use Rattle.scim_cell.specs.Rows.{Row, atom_in}
use Rattle.scim_shelf.specs.Stores.{is_compared}
use Rattle.scim_shelf.proofs.ValueLemmas.{emptied}
use Rattle.scim_shelf.proofs.indexed_texts.remove_texts.Goals as goal

pub returns-then-is_empty : goal.returns-then-is_empty
returns-then-is_empty c = λ t.
    emptied (λ (r : Row). is_compared c.args.leaf t (atom_in c.args.leaf r.fields)) c.args.values.now c.loop-value.value-index
    (λ (u : String Global). slice_cmp nat_cmp t (string_bytes u)) c.loop-value.texts (contains_text c.args.texts.now t)
    (c.is_empty.ensures.0 c.if-is_empty.true) (c.loop-value.invariant t)
