use Rattle.std.proofs.Common.{refl}
use Rattle.scim_admin_text.specs.Replies.{head_text}
use Rattle.scim_admin_text.proofs.replies.head_text.Goals as goal

pub returns : goal.returns
unfolding head_text
returns c =
    rw (
      c.in_ok-push_str-3.ensures.bytes,
      c.in_ok-add_if-2.ensures,
      c.in_ok-add_if.ensures,
      c.in_ok-add_option.ensures,
      c.in_ok-add_framing.ensures,
      c.in_ok-add_line.ensures,
      c.in_ok-push_str-2.ensures.bytes,
      c.in_ok-push_str.ensures.bytes,
      c.in_ok-text.ensures.ok,
      c.text.ensures,
    ) refl
