use Rattle.std.proofs.Common.{◌≡◌, sym, subst, Bool, true, false}
use Rattle.std.specs.Prelude.{⊤, MatchBool}
use Rattle.scim_cell.specs.Ids.{IsIdText}
use Rattle.scim_cell.proofs.Facts.{IsIdText-id_text}
use Rattle.scim_command.proofs.event_lines.stamp_in.Goals as goal

never : false ≡ true → ⊥
never same = subst (λ (b : Bool). MatchBool b ⊥ ⊤) same tt

pub returns-in-None : goal.returns-in-None
returns-in-None c stamp is =
    let first = is.first_is in
    never (c.in-None.ensures.form.1 (subst IsIdText (sym first.text_is) (IsIdText-id_text stamp.first)))
