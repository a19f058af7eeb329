-- What comparisons of pieces tell.
use Rattle.std.proofs.Common.{◌≡◌, sym, ◌∙◌, ap, Bool, true, ◌&&◌}
use Rattle.std.specs.Bool.{Decides}
use Rattle.std.proofs.lemmas.Bool.Decides.{Decides-at}

-- of two comparisons of which the first holds, the second decides
pub second_decides : {P : Type 0} (a p r q : Bool) → a ≡ p → a ≡ true → r ≡ q → Decides (p && q) P → Decides r P
second_decides a p r q first holds second d = Decides-at r (p && q) (second ∙ ap (λ (b : Bool). b && q) (sym holds ∙ first)) d
