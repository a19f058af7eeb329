use Rattle.std.proofs.Common.{◌≡◌, ◌++◌, drop, string_bytes}
use Rattle.std.specs.List.{flat_map}
use Rattle.scim_explain_paths.specs.code.Asked.{leaf_text_of}
use Rattle.scim_explain_paths.proofs.explained_paths.Asked.texts.Given as goal

-- the texts so far, and those of the leaves from this one on, are those of all
abbrev pub invariant-loop-leaf : goal.invariant-loop-leaf
invariant-loop-leaf l = string_bytes l.text ++ flat_map (leaf_text_of l.self) (drop l.leaf-index l.leaves) ≡ flat_map (leaf_text_of l.self) l.leaves
