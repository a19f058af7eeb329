use Rattle.std.proofs.Common.{◌≡◌, true, false, sym, ◌∙◌, ap, List, ◌+◌, drop, map}
use Rattle.std.specs.List.{list_any}
use Rattle.scim_value.specs.Uniqueness.{Name, name_of}
use Rattle.scim_shelf.specs.Stores.{has_name, without}
use Rattle.scim_shelf.proofs.Facts.{named_beside}
use Rattle.scim_shelf_merge.proofs.OwnerLemmas.{later_names, taken_here, taken_later}
use Rattle.scim_shelf_merge.proofs.taken_names.is_any_taken.Goals as goal

pub returns-then-is_another-clause-answer : goal.returns-then-is_another-clause-answer
returns-then-is_another-clause-answer g c store stands honest keyed =
    let loop = c.loop-name.invariant in
    let names = c.args.names.now in
    let name = c.name-item.result in
    let others = without c.args.own store.resources in
    let owner = c.in_ok-owner.ensures.answer store (loop.store store stands) honest in
    let has : list_any (has_name (name_of name)) others ≡ true
    = sym (named_beside (name_of name) c.args.own store.resources c.in_ok-owner.owner keyed owner) ∙ sym c.is_another.ensures ∙ c.if-is_another.true in
    sym (loop.later store stands (c.in_ok-owner.ensures.read.honest honest) keyed
    ∙ ap (λ (ns : List Name). list_any (λ (n : Name). list_any (has_name n) others) ns) (later_names names c.loop-name.name-index name c.loop-name-test.true c.name-item.is)
    ∙ taken_here (name_of name) (map name_of (drop (c.loop-name.name-index + 1) names)) others has)

pub loop-name-preserved : goal.loop-name-preserved
loop-name-preserved g c =
    let loop = c.loop-name.invariant in
    let read = c.in_ok-owner.ensures.read in
    record {
      store = λ store stands. read.store store (loop.store store stands);
      round = λ round has. read.round round (loop.round round has);
      honest = λ is. loop.honest (read.honest is);
      counts = read.counts.ok ∙ loop.counts;
      later = λ store stands honest keyed.
          let names = c.args.names.now in
          let name = c.name-item.result in
          let others = without c.args.own store.resources in
          let owner = c.in_ok-owner.ensures.answer store (loop.store store stands) honest in
          let free : list_any (has_name (name_of name)) others ≡ false
          = sym (named_beside (name_of name) c.args.own store.resources c.in_ok-owner.owner keyed owner) ∙ sym c.is_another.ensures ∙ c.if-is_another.false in
          loop.later store stands (read.honest honest) keyed
          ∙ ap (λ (ns : List Name). list_any (λ (n : Name). list_any (has_name n) others) ns) (later_names names c.loop-name.name-index name c.loop-name-test.true c.name-item.is)
          ∙ taken_later (name_of name) (map name_of (drop (c.loop-name.name-index + 1) names)) others free;
    }
