-- The first message or refusal of an input (RFC 9112).
use Rattle.std.specs.Prelude.{◌≡◌, ℕ, List, ◌∷◌, ◌++◌, Result, Ok, Err, All}
use Rattle.scim_audit.specs.declared.refusals.Refusal.{Refusal}
use Rattle.scim_wire.specs.declared.messages.Message.{Message}
use Rattle.scim_wire.specs.declared.messages.Item.{Item}
use Rattle.scim_wire.specs.declared.messages.Item.TheVariants.{Continue, Whole, Refused}
use Rattle.scim_wire.specs.Messages.{HasItems}

-- the item is 100 (Continue), which isn't answered (RFC 9110 section 10.1.1)
abbrev pub IsContinue : Item → Type 0
IsContinue item = item ≡ Continue

-- the item of a whole message or of a refusal
abbrev pub item_of : Result Message Refusal → Item
item_of (Ok message) = Whole message
item_of (Err refusal) = Refused refusal

-- `first` is the message or refusal in the first item other than 100 (Continue)
pub record IsFirstOf (items : List Item) (first : Result Message Refusal) : Type 0 where
  pub waits : List Item
  pub rest : List Item
  pub split : items ≡ waits ++ item_of first ∷ rest
  pub waited : All IsContinue waits

-- `first` is the first message or refusal that is read from the input
pub record OpensWith (input : List ℕ) (first : Result Message Refusal) : Type 0 where
  pub front : List ℕ
  pub after : List ℕ
  pub items : List Item
  pub split : input ≡ front ++ after
  pub gives : HasItems front items
  pub is_first : IsFirstOf items first

-- the input ends before a message or a refusal could be read from it
pub record IsUnended (input : List ℕ) : Type 0 where
  pub items : List Item
  pub gives : HasItems input items
  pub waited : All IsContinue items
