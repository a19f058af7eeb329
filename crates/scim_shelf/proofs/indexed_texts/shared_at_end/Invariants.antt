use Rattle.std.proofs.Common.{◌≡◌, ◌≤◌, ◌-◌, ℕ, List, length, drop}
use Rattle.scim_shelf.specs.Stores.{has_text_in}
use Rattle.scim_shelf.proofs.indexed_texts.shared_at_end.Given as goal

-- the values so far have the same texts in both
abbrev pub invariant-loop-shared : goal.invariant-loop-shared
invariant-loop-shared l = record {
  some : l.shared ≤ length l.some;
  others : l.shared ≤ length l.others;
  same : (t : List ℕ) → has_text_in l.leaf t (drop (length l.some - l.shared) l.some) ≡ has_text_in l.leaf t (drop (length l.others - l.shared) l.others);
}

abbrev pub decreases-loop-shared : goal.decreases-loop-shared
decreases-loop-shared l = length l.some - l.shared
