-- A stream gives its items in one way.
use Rattle.std.proofs.Common.{◌≡◌, ℕ, List, [], ◌∷◌, ◌++◌, refl, sym, ap, ◌∙◌, subst, arith, inl, inr, Result, Ok, Err, Bool, true, false, cond}
use Rattle.std.proofs.lemmas.List.{append-nil, append_assoc, append_cancel_left}
use Rattle.std.specs.List.{flat_map, AllByRecursion}
use Rattle.std.proofs.lemmas.List.Elements.{recursion_from_All}
use Rattle.httparse.proofs.GrammarLemmas.{request_unique}
use Rattle.scim_audit.specs.declared.refusals.Refusal.{Refusal}
use Rattle.scim_wire.proofs.ChunkLawLemmas.{part_of_standing}
use Rattle.scim_wire.specs.declared.body_framing.Framing.{Framing}
use Rattle.scim_wire.specs.declared.message_heads.MessageHead.{MessageHead}
use Rattle.scim_wire.specs.declared.messages.Message.{Message}
use Rattle.scim_wire.specs.declared.messages.Item.{Item}
use Rattle.scim_wire.specs.declared.messages.Item.TheVariants.{Continue, Whole, Refused}
use Rattle.scim_wire.specs.declared.states.State.{State}
use Rattle.scim_wire.specs.declared.states.State.TheVariants as state
use Rattle.scim_wire.specs.declared.wires.Wire.{Wire}
use Rattle.scim_wire.specs.Bodies.{IsBody, IsBodyPart, IsBadBody}
use Rattle.scim_wire.specs.MessageHeads.{ReadsMessage, message_head_of}
use Rattle.scim_wire.specs.Messages.{Says, OpensSaying, announced, message_of, IsMessage, LeavesUnfinished, LeavesRefused, Leaves, Turn, IsTurn, turn_items, HasItems}
use Rattle.scim_wire.specs.Streams.{IsUnended}
use Rattle.scim_wire.specs.Wires.{StandsFor}
use Rattle.scim_wire.specs.code.Wires.{StandsAt}
use Rattle.scim_wire.proofs.BodyLemmas.{bodies_unique, body_not_part, body_not_bad, part_not_bad, bad_unique}
use Rattle.scim_wire.proofs.LawLemmas.{IsBegun, blank_unique, text_begun, overlong_begun, texts_unique, overlongs_unique, text_not_overlong, not_both, text_not_unended, overlong_not_unended}
use Rattle.scim_wire.proofs.StepLemmas.{then_more}

-- what a wire stands for has its items
stood_leaves : (current : State) (rest : List ℕ) (last : List Item) → StandsAt current rest last → Leaves rest last
stood_leaves (state.Opening part) rest last stands = inl (inl ((_, stands.0.0), stands.1))
stood_leaves (state.InBody part) rest last stands =
    let more = stands.0.more in
    let is_part : IsBodyPart part.head.framing part.body.items =
    subst (λ (f : Framing). IsBodyPart f part.body.items) (sym stands.0.sized) (omega (arith, more)) in
    inl (inr (part.head, part.body.items, stands.0.opens, is_part, stands.1))
stood_leaves (state.InChunks part) rest last stands =
    let is_part : IsBodyPart part.head.framing stands.0.after =
    subst (λ (f : Framing). IsBodyPart f stands.0.after) (sym stands.0.chunked) (part_of_standing part.chunks stands.0.after stands.0.stands) in
    inl (inr (part.head, stands.0.after, stands.0.opens, is_part, stands.1))
stood_leaves state.Shut rest last stands = inr stands

pub items_from_stands : (wire : Wire) (stream : List ℕ) (items : List Item) → StandsFor wire stream items → HasItems stream items
items_from_stands wire stream items s = (s.turns, s.rest, s.last, s.splits, stood_leaves wire.state s.rest s.last s.stands, s.gave)

-- a head's text says one thing of its message
reads_unique : (text : List ℕ) (a b : Result MessageHead Refusal) → ReadsMessage text a → ReadsMessage text b → a ≡ b
reads_unique text a b (inl (h, is, e)) (inl (k, at, f)) = e ∙ ap message_head_of (request_unique text h k [] [] is.0 at.0).0 ∙ sym f
reads_unique text a b (inl (h, is, e)) (inr (none, f)) = absurd (none h is)
reads_unique text a b (inr (none, e)) (inl (k, at, f)) = absurd (none k at)
reads_unique text a b (inr (none, e)) (inr (also, f)) = e ∙ sym f

says_unique : (text : List ℕ) (a b : Result MessageHead Refusal) → Says text a → Says text b → a ≡ b
says_unique text a b (inl x) (inl y) = reads_unique text a b x.1 y.1
says_unique text a b (inl x) (inr y) = absurd (not_both text x.0 y.0)
says_unique text a b (inr x) (inl y) = absurd (not_both text y.0 x.0)
says_unique text a b (inr x) (inr y) = x.1 ∙ sym y.1

says_begun : (text after : List ℕ) (read : Result MessageHead Refusal) → Says text read → IsBegun (text ++ after)
says_begun text after read (inl says) = text_begun text after says.0
says_begun text after read (inr says) = overlong_begun text after says.0

one_text : (t a u b : List ℕ) (r q : Result MessageHead Refusal) → Says t r → Says u q → t ++ a ≡ u ++ b → t ≡ u
one_text t a u b r q (inl x) (inl y) e = texts_unique t a u b x.0 y.0 e
one_text t a u b r q (inl x) (inr y) e = absurd (text_not_overlong t a u b x.0 y.0 e)
one_text t a u b r q (inr x) (inl y) e = absurd (text_not_overlong u b t a y.0 x.0 (sym e))
one_text t a u b r q (inr x) (inr y) e = overlongs_unique t a u b x.0 y.0 e

opens_unique : (s : List ℕ) (r q : Result MessageHead Refusal) (a b : List ℕ) → OpensSaying s r a → OpensSaying s q b → (r ≡ q) × (a ≡ b)
opens_unique s r q a b x y =
    let e : x.text ++ a ≡ y.text ++ b =
    blank_unique x.blank y.blank _ _ (says_begun x.text a r x.is_text) (says_begun y.text b q y.is_text) (sym x.split ∙ y.split) in
    let same : x.text ≡ y.text = one_text x.text a y.text b r q x.is_text y.is_text e in
    let says : Says y.text r = subst (λ (t : List ℕ). Says t r) same x.is_text in
    (says_unique y.text r q says y.is_text, append_cancel_left y.text a b (sym (ap (λ t. t ++ a) same) ∙ e))

opens_not_unended : (s : List ℕ) (r : Result MessageHead Refusal) (a : List ℕ) → OpensSaying s r a → IsUnended s → ⊥
opens_not_unended s r a x y = by_text x.is_text
  where
    by_text : Says x.text r → ⊥
    by_text (inl says) = text_not_unended _ s a y.0 x says.0 y.1
    by_text (inr says) = overlong_not_unended _ s a y.0 x says.0 y.1

message_opens : (bytes x : List ℕ) (head : MessageHead) (m : Message) (is : IsMessage bytes head m) → OpensSaying (bytes ++ x) (Ok head) (is.after ++ x)
message_opens bytes x head m is = then_more _ bytes is.after x is.opens

-- a whole message with what follows leaves nothing
message_not_leaves : (bytes x : List ℕ) (head : MessageHead) (m : Message) (last : List Item) → IsMessage bytes head m → Leaves (bytes ++ x) last → ⊥
message_not_leaves bytes x head m last is (inl (inl (unended, _))) = opens_not_unended _ _ _ (message_opens bytes x head m is) unended
message_not_leaves bytes x head m last is (inl (inr (k, after, opens, part, _))) =
    let same = opens_unique _ _ _ _ _ (message_opens bytes x head m is) opens in
    let heads : head ≡ k = cc (same.0) in
    let here : IsBodyPart head.framing after = subst (λ (h : MessageHead). IsBodyPart h.framing after) (sym heads) part in
    body_not_part head.framing is.after x m.body is.is_body (subst (IsBodyPart head.framing) (sym same.1) here)
message_not_leaves bytes x head m last is (inr (Err r, after, opens, gives)) =
    let same : Ok head ≡ Err r = (opens_unique _ _ _ _ _ (message_opens bytes x head m is) opens).0 in cc
message_not_leaves bytes x head m last is (inr (Ok k, after, opens, (r, bad, _))) =
    let same = opens_unique _ _ _ _ _ (message_opens bytes x head m is) opens in
    let heads : head ≡ k = cc (same.0) in
    let here : IsBadBody head.framing after r = subst (λ (h : MessageHead). IsBadBody h.framing after r) (sym heads) bad in
    body_not_bad head.framing is.after x m.body r is.is_body (subst (λ (b : List ℕ). IsBadBody head.framing b r) (sym same.1) here)

messages_unique : (a x b y : List ℕ) (h k : MessageHead) (m n : Message) → IsMessage a h m → IsMessage b k n → a ++ x ≡ b ++ y
    → (h ≡ k) × (m ≡ n) × (x ≡ y)
messages_unique a x b y h k m n is at e =
    let P : List ℕ → Type 0 = λ s. OpensSaying s (Ok k) (at.after ++ y) in
    let same = opens_unique _ _ _ _ _ (message_opens a x h m is) (subst P (sym e) (message_opens b y k n at)) in
    let heads : h ≡ k = cc (same.0) in
    let here : IsBody k.framing is.after m.body = subst (λ (g : MessageHead). IsBody g.framing is.after m.body) heads is.is_body in
    let bodies = bodies_unique k.framing is.after x at.after y m.body n.body here at.is_body same.1 in (
      heads,
      is.made_of ∙ (λ i. message_of (heads i) (bodies.1 i)) ∙ sym at.made_of,
      append_cancel_left at.after x y (sym (ap (λ t. t ++ x) bodies.0) ∙ same.1),
    )

-- what is no whole message gives one list of items
unfinished_unique : (s : List ℕ) (a b : List Item) → LeavesUnfinished s a → LeavesUnfinished s b → a ≡ b
unfinished_unique s a b (inl (x, e)) (inl (y, d)) = e ∙ sym d
unfinished_unique s a b (inl (x, e)) (inr (k, after, opens, _, _)) = absurd (opens_not_unended _ _ _ opens x)
unfinished_unique s a b (inr (h, after, opens, _, _)) (inl (y, d)) = absurd (opens_not_unended _ _ _ opens y)
unfinished_unique s a b (inr (h, t, x, _, e)) (inr (k, u, y, _, d)) =
    let heads : h ≡ k = cc ((opens_unique _ _ _ _ _ x y).0) in e ∙ ap announced heads ∙ sym d

unfinished_not_refused : (s : List ℕ) (a b : List Item) → LeavesUnfinished s a → LeavesRefused s b → ⊥
unfinished_not_refused s a b (inl (x, _)) (read, after, opens, _) = opens_not_unended _ _ _ opens x
unfinished_not_refused s a b (inr (h, t, x, _, _)) (Err r, u, y, _) = let same : Ok h ≡ Err r = (opens_unique _ _ _ _ _ x y).0 in cc
unfinished_not_refused s a b (inr (h, t, x, part, _)) (Ok k, u, y, (r, bad, _)) =
    let same = opens_unique _ _ _ _ _ x y in
    let heads : h ≡ k = cc (same.0) in
    let here : IsBadBody h.framing u r = subst (λ (g : MessageHead). IsBadBody g.framing u r) (sym heads) bad in
    part_not_bad h.framing u r (subst (IsBodyPart h.framing) same.1 part) here

refused_unique : (s : List ℕ) (a b : List Item) → LeavesRefused s a → LeavesRefused s b → a ≡ b
refused_unique s a b (Err r, t, x, e) (Err q, u, y, d) =
    let one : r ≡ q = cc ((opens_unique _ _ _ _ _ x y).0) in e ∙ ap (λ f. Refused f ∷ []) one ∙ sym d
refused_unique s a b (Err r, t, x, _) (Ok k, u, y, _) = let same : Err r ≡ Ok k = (opens_unique _ _ _ _ _ x y).0 in cc
refused_unique s a b (Ok h, t, x, _) (Err q, u, y, _) = let same : Ok h ≡ Err q = (opens_unique _ _ _ _ _ x y).0 in cc
refused_unique s a b (Ok h, t, x, (r, bad, e)) (Ok k, u, y, (q, also, d)) =
    let same = opens_unique _ _ _ _ _ x y in
    let heads : h ≡ k = cc (same.0) in
    let here : IsBadBody h.framing u q = subst (λ (g : MessageHead). IsBadBody g.framing u q) (sym heads) also in
    let one : r ≡ q = bad_unique h.framing u r q (subst (λ (v : List ℕ). IsBadBody h.framing v r) same.1 bad) here in
    e ∙ (λ i. announced (heads i) ++ Refused (one i) ∷ []) ∙ sym d

leaves_unique : (s : List ℕ) (a b : List Item) → Leaves s a → Leaves s b → a ≡ b
leaves_unique s a b (inl x) (inl y) = unfinished_unique s a b x y
leaves_unique s a b (inl x) (inr y) = absurd (unfinished_not_refused s a b x y)
leaves_unique s a b (inr x) (inl y) = absurd (unfinished_not_refused s b a y x)
leaves_unique s a b (inr x) (inr y) = refused_unique s a b x y

abbrev turn_bytes : List Turn → List ℕ
turn_bytes turns = flat_map (λ (t : Turn). t.bytes) turns

turns_unique : (ts us : List Turn) (p q : List ℕ) (a b : List Item) → AllByRecursion IsTurn ts → AllByRecursion IsTurn us
    → turn_bytes ts ++ p ≡ turn_bytes us ++ q → Leaves p a → Leaves q b → flat_map turn_items ts ++ a ≡ flat_map turn_items us ++ b
turns_unique [] [] p q a b x y e end_p end_q = leaves_unique q a b (let P : List ℕ → Type 0 = λ s. Leaves s a in subst P e end_p) end_q
turns_unique [] (u ∷ us) p q a b x y e end_p end_q =
    let P : List ℕ → Type 0 = λ s. Leaves s a in
    absurd (message_not_leaves u.bytes (turn_bytes us ++ q) u.head u.message a y.0 (subst P (e ∙ append_assoc u.bytes (turn_bytes us) q) end_p))
turns_unique (t ∷ ts) [] p q a b x y e end_p end_q =
    let P : List ℕ → Type 0 = λ s. Leaves s b in
    absurd (message_not_leaves t.bytes (turn_bytes ts ++ p) t.head t.message b x.0 (subst P (sym e ∙ append_assoc t.bytes (turn_bytes ts) p) end_q))
turns_unique (t ∷ ts) (u ∷ us) p q a b x y e end_p end_q =
    let same = messages_unique t.bytes (turn_bytes ts ++ p) u.bytes (turn_bytes us ++ q) t.head u.head t.message u.message x.0 y.0
    (sym (append_assoc t.bytes (turn_bytes ts) p) ∙ e ∙ append_assoc u.bytes (turn_bytes us) q) in
    let rest = turns_unique ts us p q a b x.1 y.1 same.2 end_p end_q in
    append_assoc (turn_items t) (flat_map turn_items ts) a
    ∙ (λ i. (announced (same.0 i) ++ Whole (same.1 i) ∷ []) ++ rest i)
    ∙ sym (append_assoc (turn_items u) (flat_map turn_items us) b)

pub items_unique : (stream : List ℕ) (a b : List Item) → HasItems stream a → HasItems stream b → a ≡ b
items_unique stream a b (ts, p, c, x, u, e) (us, q, d, y, v, f) =
    e ∙ turns_unique ts us p q c d (recursion_from_All IsTurn ts x.each) (recursion_from_All IsTurn us y.each) (sym x.split ∙ y.split) u v ∙ sym f

-- the item is no refusal
abbrev IsNoRefusal : Item → Type 0
IsNoRefusal item = (refusal : Refusal) → item ≡ Refused refusal → ⊥

-- the last item of a list of which none is a refusal is none
last_no_refusal : (items all : List Item) (refusal : Refusal) → AllByRecursion IsNoRefusal all → items ++ Refused refusal ∷ [] ≡ all → ⊥
last_no_refusal [] [] refusal each e = cc
last_no_refusal [] (item ∷ all) refusal each e = each.0 refusal cc
last_no_refusal (i ∷ items) [] refusal each e = cc
last_no_refusal (i ∷ items) (item ∷ all) refusal each e = last_no_refusal items all refusal each.1 cc

-- what a message announces, before other items
announced_first : (b : Bool) (items : List Item) → AllByRecursion IsNoRefusal items → AllByRecursion IsNoRefusal (cond b (Continue ∷ []) [] ++ items)
announced_first true items each = (λ refusal e. cc, each)
announced_first false items each = each

turns_first : (turns : List Turn) (last : List Item) → AllByRecursion IsNoRefusal last → AllByRecursion IsNoRefusal (flat_map turn_items turns ++ last)
turns_first [] last each = each
turns_first (t ∷ turns) last each =
    let rest = turns_first turns last each in
    let here = announced_first _ (Whole t.message ∷ (flat_map turn_items turns ++ last)) (λ refusal e. cc, rest) in
    subst (AllByRecursion IsNoRefusal)
    (sym (append_assoc (turn_items t) (flat_map turn_items turns) last ∙ append_assoc (announced t.head) (Whole t.message ∷ []) (flat_map turn_items turns ++ last)))
    here

-- where a wire isn't shut, what it gave last was no refusal
pub shut_by_refusal : (current : State) (rest : List ℕ) (last : List Item) (turns : List Turn) (items : List Item) (refusal : Refusal)
    → StandsAt current rest last → items ++ Refused refusal ∷ [] ≡ flat_map turn_items turns ++ last → current ≡ state.Shut
shut_by_refusal (state.Opening part) rest last turns items refusal stands e =
    absurd (last_no_refusal items _ refusal (turns_first turns last (subst (AllByRecursion IsNoRefusal) (sym stands.1) tt)) e)
shut_by_refusal (state.InBody part) rest last turns items refusal stands e =
    let none = announced_first _ [] tt in
    absurd (last_no_refusal items _ refusal (turns_first turns last (subst (AllByRecursion IsNoRefusal) (append-nil _ ∙ sym stands.1) none)) e)
shut_by_refusal (state.InChunks part) rest last turns items refusal stands e =
    let none = announced_first _ [] tt in
    absurd (last_no_refusal items _ refusal (turns_first turns last (subst (AllByRecursion IsNoRefusal) (append-nil _ ∙ sym stands.1) none)) e)
shut_by_refusal state.Shut rest last turns items refusal stands e = refl

pub shut_after : (wire : Wire) (stream : List ℕ) (items : List Item) (refusal : Refusal) → StandsFor wire stream (items ++ Refused refusal ∷ [])
    → wire.state ≡ state.Shut
shut_after wire stream items refusal s = shut_by_refusal wire.state s.rest s.last s.turns items refusal s.stands s.gave
