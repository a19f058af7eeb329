-- What pieces of an input show of the whole.
use Rattle.std.proofs.Common.{◌≡◌, sym, ◌∙◌, ap, subst, ℕ, List, [], ◌∷◌, ◌++◌, append_assoc, Result, Option, Some, None, IfSome, All}
use Rattle.std.specs.Io.KnownBytes.{Consumes, IsAtEnd}
use Rattle.std.specs.Vec.Iter.{into_iter_items, into_iter_steps}
use Rattle.std.specs.declared.vec.IntoIter.{IntoIter}
use Rattle.std.specs.Iterator.{Yields}
use Rattle.std.proofs.KnownBytes.{Consumes-trans}
use Rattle.std.proofs.lemmas.List.{append-nil}
use Rattle.std.proofs.lemmas.List.Elements.{All-append}
use Rattle.scim_audit.specs.declared.refusals.Refusal.{Refusal}
use Rattle.scim_wire.specs.declared.messages.Message.{Message}
use Rattle.scim_wire.specs.declared.messages.Item.{Item}
use Rattle.scim_wire.specs.Messages.{HasItems}
use Rattle.scim_command.specs.Inputs.{IsContinue, item_of, IsFirstOf, OpensWith, IsUnended}

-- the first of further items, behind some that aren't answered
first_behind : (waits items : List Item) (first : Result Message Refusal) → All IsContinue waits → IsFirstOf items first → IsFirstOf (waits ++ items) first
first_behind waits items first waited is = record {
  waits = waits ++ is.waits;
  rest = is.rest;
  split = ap (λ (xs : List Item). waits ++ xs) is.split ∙ sym (append_assoc waits is.waits (item_of first ∷ is.rest));
  waited = All-append IsContinue waits is.waits waited is.waited;
}

-- what was read from an input, and gave the first item that is answered, is a front of it
pub input_opens : (old new : Option (List ℕ)) (front : List ℕ) (waits items : List Item) (first : Result Message Refusal) → Consumes old new front
    → HasItems front (waits ++ items) → All IsContinue waits → IsFirstOf items first → IfSome old (λ input. OpensWith input first)
input_opens None new front waits items first consumes gives waited is = tt
input_opens (Some input) None front waits items first consumes gives waited is = absurd consumes
input_opens (Some input) (Some after) front waits items first consumes gives waited is = record {
  front = front;
  after = after;
  items = waits ++ items;
  split = consumes;
  gives = gives;
  is_first = first_behind waits items first waited is;
}

ended : (old new : Option (List ℕ)) (bytes : List ℕ) (waits : List Item) → Consumes old new bytes → IsAtEnd new → HasItems bytes waits
    → All IsContinue waits → IfSome old IsUnended
ended None new bytes waits consumes ends gives waited = tt
ended (Some input) None bytes waits consumes ends gives waited = absurd consumes
ended (Some input) (Some after) bytes waits consumes ends gives waited = record {
  items = waits;
  gives = subst (λ (xs : List ℕ). HasItems xs waits) (sym (consumes ∙ ap (λ (xs : List ℕ). bytes ++ xs) ends ∙ append-nil bytes)) gives;
  waited = waited;
}

-- an input of which a read gave nothing more was read whole
pub input_ends : (old mid new : Option (List ℕ)) (bytes piece : List ℕ) (waits : List Item) → Consumes old mid bytes → Consumes mid new piece
    → piece ≡ [] → IsAtEnd new → HasItems bytes waits → All IsContinue waits → IfSome old IsUnended
input_ends old mid new bytes piece waits before last none ends gives waited =
    ended old new (bytes ++ piece) waits (Consumes-trans old mid new bytes piece before last) ends
    (subst (λ (xs : List ℕ). HasItems xs waits) (sym (ap (λ (xs : List ℕ). bytes ++ xs) none ∙ append-nil bytes)) gives) waited

-- the first that is answered stands behind those that aren't
pub first_at : (items seen : List Item) (item : Item) (rest : List Item) (first : Result Message Refusal)
    → items ≡ (seen ++ item ∷ []) ++ rest → item ≡ item_of first → All IsContinue seen → IsFirstOf items first
first_at items seen item rest first split is waited = record {
  waits = seen;
  rest = rest;
  split = split ∙ append_assoc seen (item ∷ []) rest ∙ ap (λ (x : Item). seen ++ x ∷ rest) is;
  waited = waited;
}

-- what the iterator of a vector has given is a front of its items
pub taken_front : {X A : Type 0} (s : IntoIter X A) (xs : List X) (t : IntoIter X A) → Yields into_iter_steps s xs t → into_iter_items s ≡ xs ++ into_iter_items t
taken_front s [] t y = ap into_iter_items y
taken_front s (x ∷ xs) t y = y.1.0 ∙ ap (λ ys. x ∷ ys) (taken_front y.0 xs t y.2)
