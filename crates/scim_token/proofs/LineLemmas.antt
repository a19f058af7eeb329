-- The lines of a file, from one of them on.
use Rattle.std.proofs.Common.{◌≡◌, refl, ap, ℕ, ◌+◌, zero, suc, ◌<◌, ◌≤◌, List, [], ◌∷◌, length, get_or, drop, map, arith}
use Rattle.std.specs.Prelude.{Ok}
use Rattle.std.proofs.lemmas.List.{drop_more}
use denote.Ref.{Bor}
use Rattle.scim_token.specs.TokenFile.{Entry, after_line, if_well, entries_from}

-- the line comes first, and then those behind it
pub line_next : (n i : ℕ) (known : List Entry) (xs : List (Bor (List ℕ))) (d : Bor (List ℕ)) → i < length xs
    → entries_from n known (map (λ x. x.now) (drop i xs)) ≡ if_well n (after_line known (get_or xs i d).now) (λ next. entries_from (n + 1) next (map (λ x. x.now) (drop (i + 1) xs)))
unfolding entries_from
line_next n i known xs d inside = ap (λ (ys : List (Bor (List ℕ))). entries_from n known (map (λ x. x.now) ys)) (drop_more xs i d inside)

-- behind the last there are none
pub lines_end : (n i : ℕ) (known : List Entry) (xs : List (Bor (List ℕ))) → length xs ≤ i → entries_from n known (map (λ x. x.now) (drop i xs)) ≡ Ok known
unfolding entries_from
lines_end n zero known [] past = refl
lines_end n (suc i) known [] past = refl
lines_end n zero known (x ∷ xs) past = absurd (omega (arith, past))
lines_end n (suc i) known (x ∷ xs) past = lines_end n i known xs (omega (arith, past))
