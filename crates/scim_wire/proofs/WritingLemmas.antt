-- What has been written of bytes.
use Rattle.std.proofs.Common.{◌≡◌, ◌∙◌, ℕ, ◌+◌, ◌-◌, ◌≤◌, List, ◌++◌, Option, length, take, drop, sym, ap, subst, arith, length-take, length-drop, take-append-drop}
use lib.Seq.{take-add, take-take}
use Rattle.std.specs.Io.KnownBytes.{Appends}
use Rattle.std.proofs.KnownBytes.{Appends-trans}
use Rattle.scim_wire.specs.Streams.{AppendsFront}

-- what has been written so far is a front
pub written_front : (old new : Option (List ℕ)) (bytes text : List ℕ) (written : ℕ) → bytes ≡ text → Appends old new (take written bytes) → AppendsFront old new text
written_front old new bytes text written same appended = (take written bytes, (drop written bytes, sym same ∙ sym (take-append-drop written bytes)), appended)

-- the writer took some more
pub written_more : (old mid new : Option (List ℕ)) (bytes : List ℕ) (written count : ℕ)
    → (written ≤ length bytes) × Appends old mid (take written bytes)
    → count ≤ length (take (length bytes - written) (drop written bytes)) → Appends mid new (take count (take (length bytes - written) (drop written bytes)))
    → (written + count ≤ length bytes) × Appends old new (take (written + count) bytes)
written_more old mid new bytes written count before fits after =
    let most : count ≤ length bytes - written = omega (arith, fits, length-take (length bytes - written) (drop written bytes), length-drop written bytes) in
    let within = before.0 in
    let joined = ap (λ l. take written bytes ++ l) (take-take count (length bytes - written) (drop written bytes) most) ∙ sym (take-add written count bytes) in
    (omega arith, subst (Appends old new) joined (Appends-trans old mid new _ _ before.1 after))
