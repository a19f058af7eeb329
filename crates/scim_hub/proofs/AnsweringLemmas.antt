-- Items that are answered one after another.
use Rattle.std.proofs.Common.{◌≡◌, refl, sym, ◌∙◌, ap, subst, ℕ, ◌+◌, ◌≤◌, arith, Bool, true, false, List, [], ◌∷◌, ◌++◌, map, append_assoc, take, drop}
use Rattle.std.specs.Prelude.{String, string_bytes, Result, Ok}
use Rattle.std.specs.declared.alloc.Global.{Global}
use Rattle.std.proofs.lemmas.List.{append-nil, map-append, take-append-drop}
use Rattle.scim_policy.specs.Rules.{Rule}
use Rattle.scim_shelf.specs.Stores.{Store, IsStore}
use Rattle.scim_wire.specs.declared.messages.Item.{Item}
use Rattle.scim_token.specs.TokenFile.{Entry}
use Rattle.scim_text.specs.declared.memory.NoMemory.{NoMemory}
use Rattle.scim_wire.specs.declared.messages.Item.TheVariants as item
use Rattle.scim_hub.specs.declared.answering.Reply.{Reply}
use Rattle.scim_hub.specs.declared.events.Stamp.{Stamp}
use Rattle.scim_hub.specs.declared.events.Output.{Output}
use Rattle.scim_hub.specs.declared.events.Output.TheVariants.{Write, Shut}
use Rattle.scim_hub.specs.Answering.{IsAnswered, AreAnswered, whole_count}
use Rattle.scim_hub.specs.Events.{hub_outputs, HubOutput, writing, shutting}
use Rattle.scim_hub.specs.HubStates.{output_of}
use Rattle.scim_hub.specs.code.Replies.{GoesBefore, IsReplyToItem, IsReached, IsNextAnswered, IsFrontAnswered, AreAllAnswered}

module _ (policy : List Rule) (base : List ℕ) (entries : List Entry) (stamp : Stamp) where
  -- before the first item nothing was answered
  pub nothing_before : (store : Store) → GoesBefore policy base entries stamp [] store [] 0 store
  nothing_before store tail rest closed next h = h

  one_alone : (k : ℕ) (item : Item) (store : Store) (text : List ℕ) (closing : Bool) (next : Store)
      → IsAnswered policy base entries stamp k item store text closing next → AreAnswered policy base entries stamp k (item ∷ []) store (text ∷ []) closing next
  one_alone k item store text true next is = (text, true, next, is, (refl, refl, refl))
  one_alone k item store text false next is = (text, false, next, is, ([], refl, (refl, refl, refl)))

  -- all items are answered, and none closed the connection
  pub all_answered : (items : List Item) (store : Store) (texts : List (List ℕ)) (k : ℕ) (mid : Store)
      → GoesBefore policy base entries stamp items store texts k mid → AreAnswered policy base entries stamp 0 items store texts false mid
  all_answered items store texts k mid before =
      subst (λ (xs : List Item). AreAnswered policy base entries stamp 0 xs store texts false mid) (append-nil items)
      (subst (λ (ts : List (List ℕ)). AreAnswered policy base entries stamp 0 (items ++ []) store ts false mid) (append-nil texts)
      (before [] [] false mid (refl, refl, refl)))

  -- one item more is answered
  pub one_answered : (front : List Item) (store : Store) (texts : List (List ℕ)) (k : ℕ) (mid : Store) (item : Item) (text : List ℕ) (closing : Bool) (next : Store)
      → GoesBefore policy base entries stamp front store texts k mid → IsAnswered policy base entries stamp k item mid text closing next
      → AreAnswered policy base entries stamp 0 (front ++ item ∷ []) store (texts ++ text ∷ []) closing next
  one_answered front store texts k mid item text closing next before is =
      before (item ∷ []) (text ∷ []) closing next (one_alone k item mid text closing next is)

  -- one that closes the connection, and those behind it are dropped
  pub last_answered : (front : List Item) (store : Store) (texts : List (List ℕ)) (k : ℕ) (mid : Store) (item : Item) (back : List Item) (text : List ℕ) (next : Store)
      → GoesBefore policy base entries stamp front store texts k mid → IsAnswered policy base entries stamp k item mid text true next
      → AreAnswered policy base entries stamp 0 (front ++ item ∷ back) store (texts ++ text ∷ []) true next
  last_answered front store texts k mid item back text next before is =
      before (item ∷ back) (text ∷ []) true next (text, true, next, is, (refl, refl, refl))

  -- after one that doesn't close it
  pub goes_on : (front : List Item) (store : Store) (texts : List (List ℕ)) (k : ℕ) (mid : Store) (item : Item) (text : List ℕ) (next : Store)
      → GoesBefore policy base entries stamp front store texts k mid → IsAnswered policy base entries stamp k item mid text false next
      → GoesBefore policy base entries stamp (front ++ item ∷ []) store (texts ++ text ∷ []) (k + whole_count item) next
  goes_on front store texts k mid item text next before is tail rest closed after h =
      subst (λ (xs : List Item). AreAnswered policy base entries stamp 0 xs store ((texts ++ text ∷ []) ++ rest) closed after) (sym (append_assoc front (item ∷ []) tail))
      (subst (λ (ts : List (List ℕ)). AreAnswered policy base entries stamp 0 (front ++ item ∷ tail) store ts closed after) (sym (append_assoc texts (text ∷ []) rest))
      (before (item ∷ tail) (text ∷ rest) closed after (text, false, next, is, (rest, refl, h))))

-- the items up to one, that one, and those behind it
pub items_around : (items : List Item) (i : ℕ) (item : Item) → take (i + 1) items ≡ take i items ++ item ∷ [] → items ≡ take i items ++ item ∷ drop (i + 1) items
items_around items i item more =
    sym (take-append-drop (i + 1) items)
    ∙ ap (λ (xs : List Item). xs ++ drop (i + 1) items) more
    ∙ append_assoc (take i items) (item ∷ []) (drop (i + 1) items)

-- one text more is to be written
pub deeds_more : (n : ℕ) (outputs : List Output) (texts : List (List ℕ)) (s : String Global) (text : List ℕ)
    → map output_of outputs ≡ map (writing n) texts → string_bytes s ≡ text → map output_of (outputs ++ Write n s ∷ []) ≡ map (writing n) (texts ++ text ∷ [])
deeds_more n outputs texts s text same is =
    map-append output_of outputs (Write n s ∷ [])
    ∙ ap (λ (ds : List HubOutput). ds ++ writing n (string_bytes s) ∷ []) same
    ∙ ap (λ (t : List ℕ). map (writing n) texts ++ writing n t ∷ []) is
    ∙ sym (map-append (writing n) texts (text ∷ []))

-- the connection is to be shut after them
pub deeds_shut : (n : ℕ) (outputs : List Output) (texts : List (List ℕ)) → map output_of outputs ≡ map (writing n) texts → map output_of (outputs ++ Shut n ∷ []) ≡ hub_outputs n texts true
deeds_shut n outputs texts same = map-append output_of outputs (Shut n ∷ []) ∙ ap (λ (ds : List HubOutput). ds ++ shutting n ∷ []) same

-- or not
pub deeds_open : (n : ℕ) (outputs : List Output) (texts : List (List ℕ)) → map output_of outputs ≡ map (writing n) texts → map output_of outputs ≡ hub_outputs n texts false
deeds_open n outputs texts same = same ∙ sym (append-nil (map (writing n) texts))

-- the same policy and base
pub same_answer : (p q : List Rule) (a b : List ℕ) (entries : List Entry) (stamp : Stamp) (k : ℕ) (item : Item) (store : Store) (text : List ℕ) (c d : Bool) (next : Store)
    → p ≡ q → a ≡ b → c ≡ d → IsAnswered p a entries stamp k item store text c next → IsAnswered q b entries stamp k item store text d next
same_answer p q a b entries stamp k item store text c d next policy base closing is =
    subst (λ (x : List Rule). IsAnswered x b entries stamp k item store text d next) policy
    (subst (λ (x : List ℕ). IsAnswered p x entries stamp k item store text d next) base
    (subst (λ (x : Bool). IsAnswered p a entries stamp k item store text x next) closing is))

-- the next item was answered, after those before it
pub next_answered : {H : Type 0} (Stands : H → Store → Type 0) (old new : H) (p q : List Rule) (a b : List ℕ) (entries : List Entry) (stamp : Stamp) (n : ℕ)
    (front : List Item) (store : Store) (k : ℕ) (outputs : List Output) (item : Item) (result : Result Reply NoMemory)
    → p ≡ q → a ≡ b → IsReached Stands old q b entries stamp n front store k outputs
    → ((mid : Store) → Stands old mid → IsStore a mid → (next : Store) × Stands new next × IsStore a next × IsReplyToItem p a entries stamp k item mid result next)
    → IsNextAnswered Stands new q b entries stamp n front store k outputs item result
next_answered Stands old new p q a b entries stamp n front store k outputs item result policy base (mid, texts, stands, is, before, told) answer =
    let step = answer mid stands (subst (λ (x : List ℕ). IsStore x mid) (sym base) is) in
    let reply = step.3 in (
      step.0,
      mid,
      texts,
      reply.0,
      reply.1,
      step.1,
      subst (λ (x : List ℕ). IsStore x step.0) base step.2,
      before,
      told,
      same_answer p q a b entries stamp k item mid reply.0 reply.1 reply.1 step.0 policy base refl reply.2,
      reply.3,
    )

-- the items up to the one that was answered are a front of them
pub front_answered : (policy : List Rule) (base : List ℕ) (entries : List Entry) (stamp : Stamp) (items : List Item) (i : ℕ) (item : Item) (store : Store) (texts : List (List ℕ)) (k : ℕ)
    (mid : Store) (text : List ℕ) (closing : Bool) (next : Store)
    → take (i + 1) items ≡ take i items ++ item ∷ []
    → GoesBefore policy base entries stamp (take i items) store texts k mid → IsAnswered policy base entries stamp k item mid text closing next
    → IsFrontAnswered policy base entries stamp items store next
front_answered policy base entries stamp items i item store texts k mid text closing next more before is = (
  take i items ++ item ∷ [],
  drop (i + 1) items,
  texts ++ text ∷ [],
  closing,
  sym (take-append-drop (i + 1) items) ∙ ap (λ (xs : List Item). xs ++ drop (i + 1) items) more,
  one_answered policy base entries stamp (take i items) store texts k mid item text closing next before is,
)

-- all items were answered, as the last closes the connection
pub closed_by : (policy : List Rule) (base : List ℕ) (entries : List Entry) (stamp : Stamp) (n : ℕ) (items : List Item) (i : ℕ) (item : Item) (store : Store) (texts : List (List ℕ)) (k : ℕ)
    (mid : Store) (text : List ℕ) (closing : Bool) (next : Store) (outputs between after : List Output) (s : String Global)
    → between ≡ outputs ++ Write n s ∷ [] → after ≡ between ++ Shut n ∷ []
    → take (i + 1) items ≡ take i items ++ item ∷ []
    → GoesBefore policy base entries stamp (take i items) store texts k mid → IsAnswered policy base entries stamp k item mid text closing next
    → map output_of outputs ≡ map (writing n) texts → string_bytes s ≡ text → closing ≡ true
    → AreAllAnswered policy base entries stamp n items store after true next
closed_by policy base entries stamp n items i item store texts k mid text closing next outputs between after s pushed shut more before is told said closes = (
  texts ++ text ∷ [],
  subst (λ (xs : List Item). AreAnswered policy base entries stamp 0 xs store (texts ++ text ∷ []) true next) (sym (items_around items i item more))
      (last_answered policy base entries stamp (take i items) store texts k mid item (drop (i + 1) items) text next before
      (same_answer policy policy base base entries stamp k item mid text closing true next refl refl closes is)),
  ap (map output_of) (shut ∙ ap (λ (xs : List Output). xs ++ Shut n ∷ []) pushed) ∙ deeds_shut n (outputs ++ Write n s ∷ []) (texts ++ text ∷ []) (deeds_more n outputs texts s text told said),
)

-- the items and one more
pub reached_more : {H : Type 0} (Stands : H → Store → Type 0) (shelf : H) (policy : List Rule) (base : List ℕ) (entries : List Entry) (stamp : Stamp) (n : ℕ) (items : List Item) (i : ℕ)
    (item : Item) (store : Store) (k l : ℕ) (outputs after : List Output) (reply : Reply)
    → after ≡ outputs ++ Write n reply.text ∷ []
    → take (i + 1) items ≡ take i items ++ item ∷ [] → l ≡ k + whole_count item → reply.closes ≡ false
    → IsNextAnswered Stands shelf policy base entries stamp n (take i items) store k outputs item (Ok reply)
    → IsReached Stands shelf policy base entries stamp n (take (i + 1) items) store l after
reached_more Stands shelf policy base entries stamp n items i item store k l outputs after reply pushed more count open_ (next, mid, texts, text, closing, stands, is_store, before, told, is, says) = (
  next,
  texts ++ text ∷ [],
  stands,
  is_store,
  subst (λ (xs : List Item). GoesBefore policy base entries stamp xs store (texts ++ text ∷ []) l next) (sym more)
      (subst (λ (m : ℕ). GoesBefore policy base entries stamp (take i items ++ item ∷ []) store (texts ++ text ∷ []) m next) (sym count)
      (goes_on policy base entries stamp (take i items) store texts k mid item text next before
      (same_answer policy policy base base entries stamp k item mid text closing false next refl refl (sym says.1 ∙ open_) is))),
  ap (map output_of) pushed ∙ deeds_more n outputs texts reply.text text told says.0,
)

-- an item is one whole message, or none
pub at_most_one : (item : Item) → whole_count item ≤ 1
at_most_one item.Continue = omega arith
at_most_one (item.Whole message) = omega arith
at_most_one (item.Refused refusal) = omega arith
