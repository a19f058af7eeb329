use Rattle.std.proofs.Common.{rules, ◌∙◌, refl, sym, ap, subst, ℕ, ◌+◌, List, [], ◌++◌, take, arith}
use Rattle.std.specs.Prelude.{Ok, Err}
use Rattle.std.proofs.KnownBytes.{Consumes-nil, Consumes-trans}
use Rattle.std.proofs.lemmas.Result.{err_from_is_err_and}
use Rattle.scim_policy.specs.Rules.{Rule}
use Rattle.scim_token.specs.Tokens.{Knows}
use Rattle.scim_token.specs.declared.token_table.Tokens.{Tokens}
use Rattle.scim_hub.specs.code.Servings.{IsPieceServed}
use Rattle.scim_hub.proofs.StreamLemmas.{piece_some, none_read, stay_after, length_after, none_served, served_well, stream_unread, stream_endless, stream_ended, stream_failed, stream_shut, replies_more}
use Rattle.scim_hub.proofs.streams.serve_pieces.Goals as goal

pub loop-init : goal.loop-init
loop-init g c = record {
  policy = refl;
  base = refl;
  tokens = refl;
  served = λ entries state knows is honest. (
    state,
    [],
    [],
    is,
    Consumes-nil (g.R.Read.remaining c.args.reader.now),
    none_served c.args.hub.now.service.policy c.args.hub.now.service.base entries c.args.connection state (g.T.Stamps.given c.args.stamps.now) (g.W.Write.contents c.args.writer.now),
    omega arith,
    none_read.stay,
    refl,
  );
  honest = λ h. h;
}

pub returns-in_default-clause-served : goal.returns-in_default-clause-served
returns-in_default-clause-served g c entries state knows is honest =
    let s = c.loop.invariant.served entries state knows is honest in
    (s.0, s.3, stream_unread _ _ entries _ state s.0 s.1 s.2 _ _ _ _ _ _ _ s.4 c.in_default.ensures.bytes s.5 (record { stay = s.7; few = omega (arith, s.8, c.loop-test.true) }))

pub returns-then-count-eq0-clause-served : goal.returns-then-count-eq0-clause-served
returns-then-count-eq0-clause-served g c entries state knows is honest =
    let s = c.loop.invariant.served entries state knows is honest in
    let none = c.if-count-eq0.true in (
      s.0,
      s.3,
      stream_ended _ _ entries _ state s.0 s.1 s.2 _ _ _ _ _ _ _ _ (record { replies = c.loop.replies }) s.4 c.in-Ok.ensures.bytes.0 (ap (λ (n : ℕ). take n c.read.new.buf) none)
          (c.in-Ok.ensures.bytes.1 none (search rules)) s.5 (record { stay = s.7; few = omega (arith, s.8, c.loop-test.true) }) s.6,
    )

pub returns-in_err-written-clause-served : goal.returns-in_err-written-clause-served
returns-in_err-written-clause-served g c entries state knows is honest =
    let inv = c.loop.invariant in
    let some = piece_some c.in-Ok.count c.read.new.buf c.if-count-eq0.false c.in-Ok.ensures.bound.0 in
    let s = inv.served entries state knows is (c.in_err-written.ensures.honest honest) in
    let l = c.in_err-written.ensures.served entries s.0 (subst (λ (t : Tokens). Knows entries t) (sym inv.tokens) knows) s.3 honest some in
    let p = err_from_is_err_and c.from_residual.result c.from_residual.ensures.1 in
    let n = c.args.connection in
    let piece = take c.in-Ok.count c.read.new.buf in
    let h = g.T.Stamps.given c.loop.stamps in
    let i = g.T.Stamps.given c.serve_piece.new.stamps in
    let a = g.W.Write.contents c.loop.writer in
    let b = g.W.Write.contents c.serve_piece.new.writer in
    let fault = c.in_err-written.field-0.0 in
    let last = subst (λ (q : List Rule). IsPieceServed q c.args.hub.now.service.base entries n s.0 l.0 piece h i a b (Err fault)) inv.policy
    (subst (λ (x : List ℕ). IsPieceServed c.loop.hub.service.policy x entries n s.0 l.0 piece h i a b (Err fault)) inv.base l.2) in
    (l.0, l.1, rw (p.1, p.2) (stream_failed c.args.hub.now.service.policy c.args.hub.now.service.base entries n state s.0 l.0 s.1 s.2 piece _ _ _ _ h i _ a b fault s.4 c.in-Ok.ensures.bytes.0 s.5 (record { stay = s.7; few = omega (arith, s.8, c.loop-test.true) }) last))

pub returns-then-written-clause-served : goal.returns-then-written-clause-served
returns-then-written-clause-served g c entries state knows is honest =
    let inv = c.loop.invariant in
    let some = piece_some c.in-Ok.count c.read.new.buf c.if-count-eq0.false c.in-Ok.ensures.bound.0 in
    let s = inv.served entries state knows is (c.in_ok-written.ensures.honest honest) in
    let l = c.in_ok-written.ensures.served entries s.0 (subst (λ (t : Tokens). Knows entries t) (sym inv.tokens) knows) s.3 honest some in
    let n = c.args.connection in
    let piece = take c.in-Ok.count c.read.new.buf in
    let h = g.T.Stamps.given c.loop.stamps in
    let i = g.T.Stamps.given c.serve_piece.new.stamps in
    let a = g.W.Write.contents c.loop.writer in
    let b = g.W.Write.contents c.serve_piece.new.writer in
    let w = c.in_ok-written.written in
    let last = subst (λ (q : List Rule). IsPieceServed q c.args.hub.now.service.base entries n s.0 l.0 piece h i a b (Ok w)) inv.policy
    (subst (λ (x : List ℕ). IsPieceServed c.loop.hub.service.policy x entries n s.0 l.0 piece h i a b (Ok w)) inv.base l.2) in (
      l.0,
      l.1,
      stream_shut c.args.hub.now.service.policy c.args.hub.now.service.base entries n state s.0 l.0 s.1 s.2 piece _ _ _ _ h i _ a b w c.loop.replies
          (record { replies = c.saturating_add-replies.result }) s.4 c.in-Ok.ensures.bytes.0 s.5 (record { stay = s.7; few = omega (arith, s.8, c.loop-test.true) }) last c.if-written.true s.6 c.saturating_add-replies.ensures,
    )

pub loop-preserved : goal.loop-preserved
loop-preserved g c =
    let inv = c.loop.invariant in
    let some = piece_some c.in-Ok.count c.read.new.buf c.if-count-eq0.false c.in-Ok.ensures.bound.0 in
    let n = c.args.connection in
    let piece = take c.in-Ok.count c.read.new.buf in
    let h = g.T.Stamps.given c.loop.stamps in
    let i = g.T.Stamps.given c.serve_piece.new.stamps in
    let a = g.W.Write.contents c.loop.writer in
    let b = g.W.Write.contents c.serve_piece.new.writer in
    let w = c.in_ok-written.written in
    let policy = c.args.hub.now.service.policy in
    let base = c.args.hub.now.service.base in
    record {
      policy = c.in_ok-written.ensures.keeps.policy ∙ inv.policy;
      base = c.in_ok-written.ensures.keeps.base ∙ inv.base;
      tokens = c.in_ok-written.ensures.keeps.tokens ∙ inv.tokens;
      served = λ entries state knows is honest.
          let s = inv.served entries state knows is (c.in_ok-written.ensures.honest honest) in
          let l = c.in_ok-written.ensures.served entries s.0 (subst (λ (t : Tokens). Knows entries t) (sym inv.tokens) knows) s.3 honest some in
          let last = subst (λ (q : List Rule). IsPieceServed q base entries n s.0 l.0 piece h i a b (Ok w)) inv.policy
          (subst (λ (x : List ℕ). IsPieceServed c.loop.hub.service.policy x entries n s.0 l.0 piece h i a b (Ok w)) inv.base l.2) in (
            l.0,
            s.1 ++ last.turns,
            s.2 ++ piece,
            l.1,
            Consumes-trans _ _ _ s.2 piece s.4 c.in-Ok.ensures.bytes.0,
            served_well policy base entries n state s.0 l.0 s.1 last.turns s.2 piece _ h i _ a b w s.5 last.served,
            replies_more policy base entries n s.1 s.0 l.0 piece h i a b w c.loop.replies c.saturating_add-replies.result last s.6 c.saturating_add-replies.ensures,
            stay_after s.1 last.turns w s.7 last.told c.if-written.false,
            length_after s.1 last.turns w last.told ∙ ap (λ (k : ℕ). k + 1) s.8,
          );
      honest = λ h. inv.honest (c.in_ok-written.ensures.honest h);
    }

pub returns-clause-served : goal.returns-clause-served
returns-clause-served g c entries state knows is honest =
    let s = c.loop.invariant.served entries state knows is honest in
    (s.0, s.3, stream_endless _ _ entries _ state s.0 s.1 s.2 _ _ _ _ _ _ s.4 s.5 s.7 (omega (arith, s.8, c.loop-test.false)))
