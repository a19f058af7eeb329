use Rattle.std.proofs.Common.{◌≡◌, sym, ◌∙◌, ap, ◌<◌, Bool, false, true, ◌&&◌, ◌||◌, not, length, arith}
use Rattle.std.specs.Prelude.{string_bytes}
use Rattle.scim_schema.specs.Units.{is_same_leaf}
use Rattle.scim_value.specs.declared.uniqueness.UniqueName.{UniqueName}
use Rattle.scim_shelf.specs.Owners.{is_among}
use Rattle.scim_shelf.specs.TextIndex.{is_noted}
use Rattle.scim_shelf.proofs.TextLemmas.{text_of, one_pushed, one_skipped, none_more}
use Rattle.scim_shelf.proofs.NoteLemmas.{noted_alike}
use Rattle.scim_shelf.proofs.text_index.TextIndex.push_unnoted.Goals as goal
use Rattle.scim_shelf.proofs.text_index.TextIndex.push_unnoted.Goals.{in-Some+in_ok-text+then-not-has+in_ok-push, in-Some+in_ok-text+else-not-has, in_default}

pub loop-value-preserved : goal.loop-value-preserved
loop-value-preserved c =
    let leaf = c.args.leaf in
    let values = c.args.values.now in
    let k = c.loop-value.value-index in
    let value = c.value-item.result in
    let come = c.loop-value.come.items in
    let index = c.args.self.now in
    let inside : k < length values = omega arith in
    let before = λ (q : UniqueName). is_among q c.args.come.now.items in
    let noted = λ (q : UniqueName). is_noted index q c.args.id in
    elim c.match-text_at.branch [
      | in-Some+in_ok-text+then-not-has+in_ok-push w ↦ λ q.
          let text = w.in_ok-text.text in
          let own = w.in-Some.text.now in
          let absent : noted (text_of leaf text) ≡ false = sym w.has.ensures ∙ w.if-not-has.true in
          ap (is_among q) ((λ i. (w.come-is i).items) ∙ w.in_ok-push.ensures.items)
          ∙ one_pushed leaf values k value inside c.value-item.is q come text own (before q) (noted q) w.in_ok-text.ensures (w.in-Some.ensures (string_bytes q.text))
          (c.loop-value.invariant q) (noted_alike index.by_text (text_of leaf text) q c.args.id false absent)
      | in-Some+in_ok-text+else-not-has w ↦ λ q.
          let text = w.in_ok-text.text in
          let own = w.in-Some.text.now in
          let present : noted (text_of leaf text) ≡ true = sym w.has.ensures ∙ w.if-not-has.false in
          ap (is_among q) (λ i. (w.come-is i).items)
          ∙ one_skipped leaf values k value inside c.value-item.is q come text own (before q) (noted q) w.in_ok-text.ensures (w.in-Some.ensures (string_bytes q.text))
          (c.loop-value.invariant q) (noted_alike index.by_text (text_of leaf text) q c.args.id true present)
      | in_default w ↦ λ q.
          ap (is_among q) (λ i. (w.come-is i).items) ∙ c.loop-value.invariant q
          ∙ ap (λ (b : Bool). before q || (is_same_leaf leaf q.leaf && (b && not (noted q))))
          (none_more leaf values k value inside c.value-item.is (string_bytes q.text) (w.in_default.ensures (string_bytes q.text)))
    ]
