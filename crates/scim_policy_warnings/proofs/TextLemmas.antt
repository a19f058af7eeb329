-- Texts of several parts.
use Rattle.std.proofs.Common.{◌≡◌, sym, ◌∙◌, ℕ, List, ◌++◌, append_assoc}

pub five_parts : (a b c d e : List ℕ) → a ++ (b ++ (c ++ (d ++ e))) ≡ (((a ++ b) ++ c) ++ d) ++ e
five_parts a b c d e = sym (append_assoc ((a ++ b) ++ c) d e ∙ append_assoc (a ++ b) c (d ++ e) ∙ append_assoc a b (c ++ (d ++ e)))
