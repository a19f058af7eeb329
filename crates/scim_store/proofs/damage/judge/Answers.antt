use Rattle.std.proofs.Common.{sym, ◌∙◌}
use Rattle.scim_store.proofs.JudgeLemmas.{none_holds, judged_sound}
use Rattle.scim_store.proofs.damage.judge.Goals as goal

pub first_damage-requires : goal.first_damage-requires
first_damage-requires c = record { others = λ id is out. none_holds c.args.version c.args.base.now c.args.tables.now id (sym (c.in_ok-ids.ensures id is) ∙ out) }

pub returns-then-branch : goal.returns-then-branch
returns-then-branch c = record {
  judged = λ ordered.
      judged_sound c.args.version c.args.base.now c.args.tables.now c.in_ok-ids.ids.keys c.first_damage.ensures.rising (c.in_ok-id.ensures.ids c.in_default.is) (λ id is. c.in_ok-ids.ensures id is)
      (c.in_ok-id.ensures.none ordered c.in_default.is) (c.in_ok-are_sound.ensures.owned c.if-branch.true) (c.in_ok-are_sound.ensures.apart c.if-branch.true);
}

pub returns : goal.returns
returns c = record {
  judged = λ ordered. record {
    holds = c.in_ok-id.ensures.none ordered c.in_default.is;
    unsound = λ s. c.in_ok-are_sound.ensures.no c.if-branch.false c.args.version c.args.base.now s;
  };
}
