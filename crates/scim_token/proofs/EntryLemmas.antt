-- Entries that are known, and one more.
use Rattle.std.proofs.Common.{◌≡◌, ◌≢◌, refl, sym, ◌∙◌, ap, ℕ, Bool, true, false, cond, List, [], ◌∷◌, ◌++◌, length}
use Rattle.std.specs.Prelude.{nat_eq, Option, None, Some, is_some, Ok, Err}
use Rattle.std.specs.List.{list_any}
use Rattle.std.proofs.lemmas.Bool.{ne_eqb}
use Rattle.std.specs.Cmp.Lexicographic.{pointwise, bytes_decides, nat_list_eq_equiv}
use Rattle.scim_token.specs.declared.faults.LineFault.TheVariants.{Twice, TooMany}
use Rattle.scim_token.specs.TokenFile.{Entry, has_digest, added, client_with}

by_bool : {P : Type 0} (b : Bool) → (b ≡ true → P) → (b ≡ false → P) → P
by_bool true t f = t refl
by_bool false t f = f refl

is_none : {X : Type 0} (o : Option X) → is_some o ≡ false → o ≡ None
is_none None h = refl
is_none (Some x) h = cc

-- a client is found by a digest exactly where an entry has it
pub found_client : (digest : List ℕ) (known : List Entry) → is_some (client_with known digest) ≡ list_any (has_digest digest) known
found_client digest [] = refl
found_client digest (e ∷ known) = by_bool (has_digest digest e) (λ t. rw t refl) (λ f. rw f (found_client digest known))

pub added_twice : (known : List Entry) (e : Entry) → list_any (has_digest e.digest) known ≡ true → added known e ≡ Err Twice
added_twice known e h = rw h refl

pub added_full : (known : List Entry) (e : Entry) → list_any (has_digest e.digest) known ≡ false → length known ≡ 10000 → added known e ≡ Err TooMany
added_full known e h full = rw (h, full) refl

-- one more entry behind those that are known
client_behind : (digest : List ℕ) (known : List Entry) (e : Entry)
    → client_with (known ++ e ∷ []) digest ≡ cond (is_some (client_with known digest)) (client_with known digest) (cond (has_digest digest e) (Some e.client) None)
client_behind digest [] e = by_bool (has_digest digest e) (λ t. rw t refl) (λ f. rw f refl)
client_behind digest (d ∷ known) e = by_bool (has_digest digest d) (λ t. rw t refl) (λ f. rw f (client_behind digest known e))

-- its client has its digest, and the others have theirs as before
pub client_added : (known : List Entry) (e : Entry) (digest : List ℕ) → list_any (has_digest e.digest) known ≡ false
    → cond (pointwise nat_eq e.digest digest) (Some e.client) (client_with known digest) ≡ client_with (known ++ e ∷ []) digest
client_added known e digest absent =
    by_bool (pointwise nat_eq e.digest digest)
    (λ t. (let same : digest ≡ e.digest = sym ((bytes_decides e.digest digest).0 t) in
    let before : is_some (client_with known digest) ≡ false = ap (λ (d : List ℕ). is_some (client_with known d)) same ∙ found_client e.digest known ∙ absent in
    let own : has_digest digest e ≡ true = nat_list_eq_equiv.symm digest e.digest ∙ t in
    rw t (sym (client_behind digest known e ∙ rw (before, own) refl))))
    (λ f. (let other : has_digest digest e ≡ false = nat_list_eq_equiv.symm digest e.digest ∙ f in
    rw f (by_bool (is_some (client_with known digest))
    (λ found. sym (client_behind digest known e ∙ rw found refl))
    (λ none. is_none (client_with known digest) none ∙ sym (client_behind digest known e ∙ rw (none, other) refl)))))

-- one more is added where its digest is new, and there is room
pub added_new : (known : List Entry) (e : Entry) → list_any (has_digest e.digest) known ≡ false → length known ≢ 10000 → added known e ≡ Ok (known ++ e ∷ [])
added_new known e h room = rw (h, ne_eqb (length known) 10000 room) refl
