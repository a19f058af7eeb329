-- One byte more of a head.
use Rattle.std.proofs.Common.{◌≡◌, ◌<◌, ◌+◌, ◌++◌, ◌∷◌, [], length, inl, inr, ap, arith}
use Rattle.std.proofs.lemmas.List.{length-append}
use Rattle.scim_wire.specs.Parts.{EndsHead, IsEmptyLine, feeds}
use Rattle.scim_wire.proofs.StepLemmas.{opening_push, opening_empty, opening_overlong, opening_ended, feeds_is}
use Rattle.scim_wire.proofs.head_parts.HeadPart.take.Goals as goal

pub returns-then-is_empty_line : goal.returns-then-is_empty_line
returns-then-is_empty_line c bytes holds =
    let is : c.push.new.self.items ≡ c.args.self.bytes.items ++ c.args.byte ∷ [] = c.in_ok-push.ensures.items in
    let line : IsEmptyLine c.push.new.self.items = rw c.as_slice.ensures.value at (c.is_empty_line.ensures.0 c.if-is_empty_line.true) in
    let found = opening_empty bytes _ _ c.args.byte holds.0 is line in
    rw found.1 (c.new.ensures found.0)

pub returns-then-feeds-gt-MAX_FEEDS : goal.returns-then-feeds-gt-MAX_FEEDS
returns-then-feeds-gt-MAX_FEEDS c bytes holds =
    let is : c.push.new.self.items ≡ c.args.self.bytes.items ++ c.args.byte ∷ [] = c.in_ok-push.ensures.items in
    let count : c.args.self.feeds + c.from.result ≡ feeds c.push.new.self.items = feeds_is _ _ c.args.byte _ _ is holds.1 c.from.ensures in
    opening_overlong bytes _ _ c.args.byte holds.0 is (inl (omega (arith, count, c.if-feeds-gt-MAX_FEEDS.true)))

pub returns-then-ends_head : goal.returns-then-ends_head
returns-then-ends_head c bytes holds =
    let is : c.push.new.self.items ≡ c.args.self.bytes.items ++ c.args.byte ∷ [] = c.in_ok-push.ensures.items in
    let count : c.args.self.feeds + c.from.result ≡ feeds c.push.new.self.items = feeds_is _ _ c.args.byte _ _ is holds.1 c.from.ensures in
    let ends : EndsHead c.push.new.self.items = rw c.as_slice-2.ensures.value at (c.ends_head.ensures.0 c.if-ends_head.true) in
    opening_ended bytes _ _ c.args.byte holds.0 is ends (omega (arith, count, c.if-feeds-gt-MAX_FEEDS.false))

pub returns-then-len-ge-MAX_BYTES : goal.returns-then-len-ge-MAX_BYTES
returns-then-len-ge-MAX_BYTES c bytes holds =
    let is : c.push.new.self.items ≡ c.args.self.bytes.items ++ c.args.byte ∷ [] = c.in_ok-push.ensures.items in
    let full : length c.push.new.self.items ≡ 16384 = omega (arith, ap length is, length-append c.args.self.bytes.items (c.args.byte ∷ []), holds.0.is_part.short, c.len.ensures, c.if-len-ge-MAX_BYTES.true) in
    let not_ended : EndsHead c.push.new.self.items → ⊥ = λ ends. let t = c.ends_head.ensures.1 (rw c.as_slice-2.ensures.value ends) in cc in
    opening_overlong bytes _ _ c.args.byte holds.0 is (inr (full, not_ended))

pub returns : goal.returns
returns c bytes holds =
    let is : c.push.new.self.items ≡ c.args.self.bytes.items ++ c.args.byte ∷ [] = c.in_ok-push.ensures.items in
    let count : c.args.self.feeds + c.from.result ≡ feeds c.push.new.self.items = feeds_is _ _ c.args.byte _ _ is holds.1 c.from.ensures in
    let not_empty : IsEmptyLine c.push.new.self.items → ⊥ = λ line. let t = c.is_empty_line.ensures.1 (rw c.as_slice.ensures.value line) in cc in
    let not_ended : EndsHead c.push.new.self.items → ⊥ = λ ends. let t = c.ends_head.ensures.1 (rw c.as_slice-2.ensures.value ends) in cc in
    let short : length c.push.new.self.items < 16384 = omega (arith, c.len.ensures, c.if-len-ge-MAX_BYTES.false) in
    (opening_push bytes _ _ c.args.byte holds.0 is not_empty not_ended short (omega (arith, count, c.if-feeds-gt-MAX_FEEDS.false)), count)
