-- A body is read in one way.
use Rattle.std.proofs.Common.{◌≡◌, ℕ, List, [], ◌∷◌, ◌++◌, length, refl, sym, ap, ◌∙◌, subst, arith}
use Rattle.std.proofs.lemmas.List.{length-append, append_assoc}
use Rattle.scim_audit.specs.declared.refusals.Refusal.{Refusal}
use Rattle.scim_wire.specs.Chunked.{IsChunkedPart}
use Rattle.scim_wire.proofs.ChunkLawLemmas as chunked
use Rattle.scim_wire.specs.declared.body_framing.Framing.{Framing}
use Rattle.scim_wire.specs.declared.body_framing.Framing.TheVariants.{Sized, Chunked}
use Rattle.scim_wire.specs.Bodies.{IsBody, IsBodyPart, IsBadBody, refusal_of}

-- fronts of one length of one list are the same
same_len_fronts : (a x b y : List ℕ) → length a ≡ length b → a ++ x ≡ b ++ y → a ≡ b
same_len_fronts [] x [] y n e = refl
same_len_fronts [] x (d ∷ b) y n e = absurd (omega arith)
same_len_fronts (c ∷ a) x [] y n e = absurd (omega arith)
same_len_fronts (c ∷ a) x (d ∷ b) y n e =
    let rest = same_len_fronts a x b y (omega arith) cc in
    let first : c ≡ d = cc in
    λ i. first i ∷ rest i

-- of two whole bodies at one place, there is one
pub bodies_unique : (f : Framing) (a x b y p q : List ℕ) → IsBody f a p → IsBody f b q → a ++ x ≡ b ++ y → (a ≡ b) × (p ≡ q)
bodies_unique (Sized n) a x b y p q is at e =
    let same = same_len_fronts a x b y (ap length is.0 ∙ is.1 ∙ sym at.1 ∙ sym (ap length at.0)) e in
    (same, sym is.0 ∙ same ∙ at.0)
bodies_unique Chunked a x b y p q is at e = chunked.one_body a b x y p q is at e

-- a whole body with what follows is no beginning of one
pub body_not_part : (f : Framing) (a x p : List ℕ) → IsBody f a p → IsBodyPart f (a ++ x) → ⊥
body_not_part (Sized n) a x p is part = omega (arith, is.1, ap length is.0, length-append a x, part)
body_not_part Chunked a x p is part = chunked.body_not_part a x p is part

pub body_not_bad : (f : Framing) (a x p : List ℕ) (r : Refusal) → IsBody f a p → IsBadBody f (a ++ x) r → ⊥
body_not_bad (Sized n) a x p r is bad = bad
body_not_bad Chunked a x p r is (front, back, fault, split, bad, _) = chunked.body_not_bad a front x back p fault is bad split

pub part_not_bad : (f : Framing) (a : List ℕ) (r : Refusal) → IsBodyPart f a → IsBadBody f a r → ⊥
part_not_bad (Sized n) a r part bad = bad
part_not_bad Chunked a r part (front, back, fault, split, bad, _) = chunked.bad_not_part front back fault bad (subst IsChunkedPart split part)

-- a body is refused for one cause
pub bad_unique : (f : Framing) (a : List ℕ) (r s : Refusal) → IsBadBody f a r → IsBadBody f a s → r ≡ s
bad_unique (Sized n) a r s bad also = absurd bad
bad_unique Chunked a r s (front, back, fault, split, bad, is) (other, rest, cause, cut, also, at) =
    is ∙ ap refusal_of (chunked.one_fault front other back rest fault cause bad also (sym split ∙ cut)).1 ∙ sym at

-- a body that is refused is so whatever follows
pub bad_more : (f : Framing) (a more : List ℕ) (r : Refusal) → IsBadBody f a r → IsBadBody f (a ++ more) r
bad_more (Sized n) a more r bad = bad
bad_more Chunked a more r (front, back, fault, split, bad, is) =
    (front, back ++ more, fault, ap (λ x. x ++ more) split ∙ append_assoc front back more, bad, is)
