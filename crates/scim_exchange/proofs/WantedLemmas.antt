-- What is wanted by attribute lists.
use Rattle.std.proofs.Common.{◌≡◌, ◌==◌, refl, sym, ap, subst, ◌∙◌, ℕ, Bool, true, false, cond, List, [], ◌∷◌, length, map, arith}
use Rattle.std.specs.Prelude.{◌&&◌, Option, Result, Ok, Err}
use Rattle.std.proofs.lemmas.Bool.{eqb-true, false≢true}
use denote.Ref.{Bor}
use Rattle.scim_schema.specs.declared.Kind.{Kind}
use Rattle.scim_audit.specs.declared.refusals.Refusal.{Refusal}
use Rattle.scim_audit.specs.declared.refusals.Refusal.TheVariants.{MessageValue}
use Rattle.scim_filter_grammar.specs.Tree.{Tree}
use Rattle.scim_view.specs.declared.projection.Wanted.{Wanted}
use Rattle.scim_exchange.specs.Refused.{◌>>=◌}
use Rattle.scim_exchange.specs.AttributeLists.{Lists, is_given, one_of, Wants}
use Rattle.scim_exchange.specs.Searches.{Settings, sought_with}

-- a list without a text isn't given
pub not_given : (texts : List (Bor (List ℕ))) (b : Bool) → b ≡ (length texts == 0) → b ≡ true → is_given (map (λ t. t.now) texts) ≡ false
not_given [] b is e = refl
not_given (t ∷ ts) b is e = let n : length (t ∷ ts) ≡ 0 = eqb-true _ _ (sym is ∙ e) in absurd (omega arith)

-- and another is
pub given : (texts : List (Bor (List ℕ))) (b : Bool) → b ≡ (length texts == 0) → b ≡ false → is_given (map (λ t. t.now) texts) ≡ true
given [] b is e = absurd (false≢true (sym e ∙ is))
given (t ∷ ts) b is e = refl

-- one list at most may be given
pub no_attributes : (lists : Lists) → is_given lists.attributes ≡ false → one_of lists ≡ Ok lists
no_attributes lists h = rw h refl

pub no_excluded : (lists : Lists) → is_given lists.attributes ≡ true → is_given lists.excluded ≡ false → one_of lists ≡ Ok lists
no_excluded lists h k = rw (h, k) refl

chosen : (b : Bool) (lists more : Lists) → cond b (Err MessageValue) (Ok lists) ≡ Ok more → more ≡ lists
chosen true lists more h = absurd (cc h)
chosen false lists more h = cc h

-- then the lists are as they are given
pub one_same : (lists more : Lists) → one_of lists ≡ Ok more → more ≡ lists
one_same lists more h = chosen (is_given lists.attributes && is_given lists.excluded) lists more h

-- a search with what is wanted by its lists is what is sought
pub sought_wanted : (kind : Kind) (f : Option Tree) (s : Settings) (w : Wanted) → ((y : Lists) × (one_of s.lists ≡ Ok y) × Wants kind y w)
    → (sought_with f s ≡ Ok (record { filter = f; settings = s })) × Wants kind s.lists w
sought_wanted kind f s w r = (
  ap (λ (lists : Result Lists Refusal). lists >>= λ _. Ok (record { filter = f; settings = s })) r.1,
  subst (λ (lists : Lists). Wants kind lists w) (one_same s.lists r.0 r.1) r.2,
)
