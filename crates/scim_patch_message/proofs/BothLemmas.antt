-- Reading one part after another.
use Rattle.std.proofs.Common.{◌≡◌, ◌<◌, ◌+◌, ℕ, zero, suc, List, [], ◌∷◌, append_assoc, append-nil, map, drop, get_or, length, Ok, Err, refl, sym, ap, subst, ◌∙◌, arith}
use Rattle.scim_patch_message.specs.declared.faults.PatchFault.{PatchFault}
use Rattle.scim_patch_message.specs.declared.faults.PatchFault.TheVariants.{Syntax, Path, Value}
use Rattle.scim_patch_message.specs.Readings.{Read, first_of, both, joined}

first_assoc : (e f g : PatchFault) → first_of (first_of e f) g ≡ first_of e (first_of f g)
first_assoc Syntax f g = refl
first_assoc Path Syntax g = refl
first_assoc Path Path Syntax = refl
first_assoc Path Path Path = refl
first_assoc Path Path Value = refl
first_assoc Path Value Syntax = refl
first_assoc Path Value Path = refl
first_assoc Path Value Value = refl
first_assoc Value f g = refl

pub both_assoc : (a b c : Read) → both (both a b) c ≡ both a (both b c)
both_assoc (Ok xs) (Ok ys) (Ok zs) = ap Ok (append_assoc xs ys zs)
both_assoc (Ok xs) (Ok ys) (Err g) = refl
both_assoc (Ok xs) (Err f) (Ok zs) = refl
both_assoc (Ok xs) (Err f) (Err g) = refl
both_assoc (Err e) (Ok ys) (Ok zs) = refl
both_assoc (Err e) (Ok ys) (Err g) = refl
both_assoc (Err e) (Err f) (Ok zs) = refl
both_assoc (Err e) (Err f) (Err g) = ap Err (first_assoc e f g)

pub both_nil : (a : Read) → both a (Ok []) ≡ a
both_nil (Ok xs) = ap Ok (append-nil xs)
both_nil (Err e) = refl

pub nil_both : (a : Read) → both (Ok []) a ≡ a
nil_both (Ok xs) = refl
nil_both (Err e) = refl

-- what is read with the part at a place, and the parts behind it
read_at : {K : Type 0} (read : K → Read) (ks : List K) (i : ℕ) (k : K) → i < length ks → (old new : Read) → new ≡ both old (read (get_or ks i k))
    → both old (joined (map read (drop i ks))) ≡ both new (joined (map read (drop (suc i) ks)))
read_at read [] i k l old new e = absurd (omega (arith, l))
read_at read (x ∷ ks) zero k l old new e = sym (both_assoc old (read x) (joined (map read ks))) ∙ ap (λ r. both r (joined (map read ks))) (sym e)
read_at read (x ∷ ks) (suc i) k l old new e = read_at read ks i k (omega (arith, l)) old new e

one_more : (i : ℕ) → suc i ≡ i + 1
one_more i = omega arith

-- the same, as a loop counts
pub read_next : {K : Type 0} (read : K → Read) (ks : List K) (i : ℕ) (k : K) → i < length ks → (old new : Read) → new ≡ both old (read (get_or ks i k))
    → both old (joined (map read (drop i ks))) ≡ both new (joined (map read (drop (i + 1) ks)))
read_next read ks i k l old new e =
    subst (λ (n : ℕ). both old (joined (map read (drop i ks))) ≡ both new (joined (map read (drop n ks)))) (one_more i) (read_at read ks i k l old new e)
