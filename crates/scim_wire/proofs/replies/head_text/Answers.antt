use Rattle.std.proofs.Common.{refl}
use Rattle.scim_wire.specs.Replies.{head_text}
use Rattle.scim_wire.proofs.ReplyLemmas.{is_some-copied}
use Rattle.scim_wire.proofs.replies.head_text.Goals as goal

pub returns : goal.returns
unfolding head_text
returns c =
    rw (
      c.in_ok-push_str.ensures.bytes,
      c.in_ok-push_if-4.ensures,
      c.in_ok-push_if-3.ensures,
      c.in_ok-push_option-2.ensures,
      c.in_ok-push_option.ensures,
      c.in_ok-push_if-2.ensures,
      c.in_ok-push_if.ensures,
      c.in_ok-text.ensures,
      c.is_some.ensures,
      is_some-copied,
      c.as_str.ensures.value,
      c.in_ok-length.ensures.ok,
      c.or_empty.ensures,
    ) refl
