use Rattle.std.proofs.Common.{◌≡◌, ◌∙◌, refl, sym, ap, subst, ℕ, ◌+◌, List, [], ◌∷◌, ◌++◌, map, length, arith, append_assoc, length-append}
use Rattle.std.specs.Prelude.{Result}
use Rattle.std.specs.Vec.Iter.{into_iter_items, into_iter_len}
use Rattle.std.proofs.lemmas.List.{map-append, nil_from_length, append-nil}
use Rattle.scim_shelf.specs.Stores.{Store}
use Rattle.scim_token.specs.Tokens.{Knows}
use Rattle.scim_token.specs.declared.token_table.Tokens.{Tokens}
use Rattle.scim_hub.specs.declared.events.EventAnswer.{EventAnswer}
use Rattle.scim_hub.specs.declared.events.HubFault.{HubFault}
use Rattle.scim_hub.specs.declared.rounds.Member.{Member}
use Rattle.scim_hub.specs.Events.{HubEvent, HubState, HubOutput, Hears, Runs}
use Rattle.scim_hub.specs.HubStates.{result_of}
use Rattle.scim_hub.specs.code.Rounds.{member_event, AreGathered, ComesTo, AllComeTo}
use Rattle.scim_hub.proofs.RunLemmas.{runs_more}
use Rattle.scim_hub.proofs.hubs.Hub.conclude_all.Goals as goal

pub loop-member-init : goal.loop-member-init
loop-member-init g c =
    let gives = c.into_iter-member-iterator.ensures.into_iter_gives in
    let hub = c.args.self.now in
    record {
      left = gives.0;
      len = omega (arith, gives.1, ap length gives.0, c.args.members.ok.0);
      size = c.requires.len;
      room = c.requires.room;
      service = refl;
      tokens = refl;
      refused = omega arith;
      ran = λ entries state next knows honest gathered all. (
        state,
        subst (λ (ms : List Member). AreGathered ms state.connections hub.connections) (sym gives.0) gathered,
        subst (λ (ms : List Member). AllComeTo hub.service.policy hub.service.base entries c.args.made ms state.store next) (sym gives.0) all,
        (ap (map result_of) c.requires.empty, refl),
      );
    }

pub loop-member-preserved : goal.loop-member-preserved
loop-member-preserved g c =
    let inv = c.loop-member.invariant in
    let hub = c.loop-member.self in
    let old = c.args.self.now in
    let policy = old.service.policy in
    let base = old.service.base in
    let member = c.in-Some.member in
    let seen = c.loop-member.yielded in
    let behind = into_iter_items c.next.new.self in
    let answers = c.loop-member.answers.items in
    let answer = c.conclude-answer.result in
    let steps = c.in-Some.ensures.steps in
    let pushed = rw c.unwrap.ensures at c.push.ensures.items in
    let longer = rw c.unwrap.ensures at c.push.ensures.len in
    record {
      left = append_assoc seen (member ∷ []) behind ∙ ap (λ (ms : List Member). seen ++ ms) (sym steps.0) ∙ inv.left;
      len = let more = inv.len ∙ ap length steps.0 in omega (arith, more, steps.1);
      size = omega (arith, longer, inv.size, length-append seen (member ∷ []));
      room = omega (arith, inv.room, c.push.ensures.capacity);
      service = c.conclude-answer.ensures.service.service ∙ inv.service;
      tokens = c.conclude-answer.ensures.service.tokens ∙ inv.tokens;
      refused = omega (arith, inv.refused, c.conclude-answer.ensures.refused);
      ran = λ entries state next knows honest gathered all.
          let before = inv.ran entries state next knows honest gathered all in
          let here = subst (λ (ms : List Member). AreGathered ms before.0.connections hub.connections) steps.0 before.1 in
          let come = subst (λ (ms : List Member). AllComeTo policy base entries c.args.made ms before.0.store next) steps.0 before.2 in
          let honest_now : g.S.Shelf.is_honest hub.service.shelf = rw inv.service honest in
          let come_now : ComesTo hub.service.policy hub.service.base entries c.args.made member.piece.stamp member.piece.connection member.taken before.0.store come.0 = rw inv.service come.1 in
          let step = c.conclude-answer.ensures.heard entries before.0 behind come.0 (subst (λ (t : Tokens). Knows entries t) (sym inv.tokens) knows) honest_now here come_now in
          let after : HubState = record { connections = step.0; store = come.0 } in
          let heard : Hears policy base entries (member_event member) before.0 (result_of answer) after = rw inv.service at step.2 in
          let runs = runs_more policy base entries (member_event member) (result_of answer) after state before.0 (map member_event seen) (map result_of answers) before.3 heard in (
            after,
            step.1,
            come.2,
            subst (λ (es : List HubEvent). Runs policy base entries state es (map result_of c.push.new.self.items) after) (sym (map-append member_event seen (member ∷ [])))
                (subst (λ (rs : List (Result (List HubOutput) HubFault)). Runs policy base entries state (map member_event seen ++ member_event member ∷ []) rs after)
                (sym (ap (map result_of) pushed ∙ map-append result_of answers (answer ∷ []))) runs),
          );
    }

pub returns : goal.returns
returns g c =
    let inv = c.loop-member.invariant in
    let hub = c.args.self.now in
    let policy = hub.service.policy in
    let base = hub.service.base in
    let seen = c.loop-member.yielded in
    let none : into_iter_items c.loop-member.member-iterator ≡ [] = nil_from_length _ (sym inv.len ∙ c.in-None.ensures.steps.0) in
    let all : seen ≡ c.args.members.items = sym (append-nil seen) ∙ ap (λ (ms : List Member). seen ++ ms) (sym none) ∙ inv.left in
    record {
      len = omega (arith, inv.size, ap length all, c.loop-member.answers.ok.0);
      ran = λ entries state next knows honest gathered come.
          let before = inv.ran entries state next knows honest gathered come in
          let same = subst (λ (ms : List Member). AllComeTo policy base entries c.args.made ms before.0.store next) none before.2 in
          let are = subst (λ (ms : List Member). AreGathered ms before.0.connections c.loop-member.self.connections) none before.1 in (
            before.0.connections,
            are.are,
            subst (λ (s : Store). Runs policy base entries state (map member_event c.args.members.items) (map result_of c.loop-member.answers.items) (record { connections = before.0.connections; store = s })) (sym same)
                (subst (λ (ms : List Member). Runs policy base entries state (map member_event ms) (map result_of c.loop-member.answers.items) before.0) all before.3),
          );
      service = record { service = inv.service; tokens = inv.tokens };
      refused = inv.refused;
    }
