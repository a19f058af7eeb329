-- The texts of HTTP replies (RFC 7644 sections 3.4.1 and 3.12).
use Rattle.std.specs.Prelude.{ℕ, ◌||◌, false, List, Option, None, Some}
use Rattle.scim_wire.specs.declared.replies.ReplyForm.{ReplyForm}
use Rattle.scim_wire.specs.Replies.{text_of}
use Rattle.scim_audit.specs.declared.refusals.Refusal.{Refusal}
use Rattle.scim_audit.specs.Refusals.{status_of, body_of, allow_of, asks_for_token, closes}
use Rattle.scim_service.specs.declared.replies.Reply.{Reply}
use Rattle.scim_service.specs.Replies as replies
use Rattle.scim_exchange.specs.declared.answers.Answer.{Answer}
use Rattle.scim_exchange.specs.declared.answers.Answer.TheVariants.{Refused, Page, Served}

-- the text of the reply for a refusal; it has the header `Connection: close` if the form or the refusal
-- closes the connection
unfoldable pub refusal_text : Refusal → ReplyForm → List ℕ
refusal_text r form =
    text_of
    (record { status = status_of r; body = Some (body_of r); location = None; allow = allow_of r; asks_for_token = asks_for_token r })
    (record { closes = closes r || form.closes; omits_body = form.omits_body })

-- the text of a successful reply of the service
unfoldable pub success_text : Reply → ReplyForm → List ℕ
success_text reply form =
    text_of (record { status = replies.status_of reply; body = replies.body_of reply; location = replies.location_of reply; allow = None; asks_for_token = false }) form

-- the text of the refusal if there is one, else of the successful reply
abbrev pub text_or : Option Refusal → Reply → ReplyForm → List ℕ
text_or (Some r) reply form = refusal_text r form
text_or None reply form = success_text reply form

-- the text of a reply of the service; a failure is printed as the refusal `Store`
abbrev pub reply_text : Reply → ReplyForm → List ℕ
reply_text reply form = text_or (replies.refusal_of reply) reply form

-- the text of a reply with a discovery page
unfoldable pub page_text : List ℕ → ReplyForm → List ℕ
page_text page form =
    text_of (record { status = 200; body = Some page; location = None; allow = None; asks_for_token = false }) form

-- the text of an answer
abbrev pub answer_text : Answer → ReplyForm → List ℕ
answer_text (Refused refusal) form = refusal_text refusal form
answer_text (Page page) form = page_text page form
answer_text (Served reply) form = reply_text reply form
