-- Texts that are found.
use Rattle.std.proofs.Common.{◌≡◌, ◌∙◌, refl, ap, ℕ, Bool, true, false, List, [], ◌∷◌, map, Option, Some, cond, ◌||◌, Bor}
use Rattle.std.specs.Prelude.{find, option_map}
use Rattle.std.specs.List.{list_any}
use Rattle.scim_fault_details.specs.code.Borrowed.{text_at}

found_first : (test : List ℕ → Bool) (b : Bool) (t : Bor (List ℕ)) (o : Option (Bor (List ℕ))) (p : Option (List ℕ)) → option_map text_at o ≡ p → option_map text_at (cond b (Some t) o) ≡ cond b (Some t.now) p
found_first test true t o p h = refl
found_first test false t o p h = h

-- the text that is found among borrowed ones is that which is found among the texts
pub found_text : (test : List ℕ → Bool) (texts : List (Bor (List ℕ))) → option_map text_at (find (λ t. test t.now) texts) ≡ find test (map text_at texts)
found_text test [] = refl
found_text test (t ∷ ts) = found_first test (test t.now) t (find (λ u. test u.now) ts) (find test (map text_at ts)) (found_text test ts)

-- the same, where the texts are known by other names
pub found_under : (test : List ℕ → Bool) (found : Option (Bor (List ℕ))) (borrowed items : List (Bor (List ℕ))) (texts : List (List ℕ)) → found ≡ find (λ t. test t.now) borrowed → borrowed ≡ items → map text_at items ≡ texts → option_map text_at found ≡ find test texts
found_under test found borrowed items texts is same all =
    ap (option_map text_at) is ∙ found_text test borrowed ∙ ap (find test) (ap (map text_at) same ∙ all)

-- whether one of the borrowed texts passes is whether one of the texts does
pub any_text : (test : List ℕ → Bool) (texts : List (Bor (List ℕ))) → list_any (λ t. test t.now) texts ≡ list_any test (map text_at texts)
any_text test [] = refl
any_text test (t ∷ ts) = ap (λ (b : Bool). test t.now || b) (any_text test ts)
