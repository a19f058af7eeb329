use Rattle.std.proofs.Common.{rules, ◌≡◌, sym, ◌∙◌, ap, ℕ, Bool, ◌||◌, List, [], ◌∷◌, map}
use Rattle.std.specs.Ordering.{nat_cmp}
use Rattle.std.specs.Cmp.Lexicographic.{slice_cmp}
use Rattle.std.specs.BTreeMap.{is_at}
use Rattle.std.specs.BTreeSet.{contains}
use Rattle.std.proofs.Math.Bool.{or_assoc}
use Rattle.std.proofs.lemmas.List.{map_push}
use Rattle.std.proofs.lemmas.List.Folds.{list_any-append}
use Rattle.std.proofs.lemmas.Map.Iter.{iter_end}
use denote.Ref.{Bor}
use Rattle.scim_shelf.specs.TextIndex.{is_same}
use Rattle.scim_shelf.proofs.NotedLemmas.{same_flips}
use Rattle.scim_shelf.proofs.PickLemmas.{is_listed}
use Rattle.scim_shelf.proofs.ValueLemmas.{or_cond, or_false}
use Rattle.scim_shelf.proofs.text_index.add_all.Goals as goal

pub loop-id-preserved : goal.loop-id-preserved
loop-id-preserved c = λ i.
    let id = c.in-Some.id in
    let had = contains (slice_cmp nat_cmp) c.args.ids.now i in
    let some = map (λ (x : Bor (List ℕ)). x.now) c.loop-id.yielded in
    c.in_ok-insert.ensures.updates.0 i
    ∙ or_cond (is_same id.now i) (contains (slice_cmp nat_cmp) c.loop-id.ids i)
    ∙ ap (λ (b : Bool). b || is_same id.now i) (c.loop-id.invariant i)
    ∙ or_assoc had (is_listed i some) (is_same id.now i)
    ∙ ap (λ (b : Bool). had || b)
    (sym (ap (is_listed i) (map_push (λ (x : Bor (List ℕ)). x.now) c.loop-id.yielded id)
    ∙ list_any-append (is_at (slice_cmp nat_cmp i)) some (id.now ∷ [])
    ∙ ap (λ (b : Bool). is_listed i some || b) (or_false (is_same i id.now) ∙ same_flips i id.now)))

pub returns : goal.returns
returns c = λ i.
    let all : map (λ id. id.now) c.loop-id.yielded ≡ c.args.others.now.keys = search (rules, iter_end) in
    c.loop-id.invariant i
    ∙ ap (λ (ids : List (List ℕ)). contains (slice_cmp nat_cmp) c.args.ids.now i || is_listed i ids) all
    ∙ sym (or_cond (contains (slice_cmp nat_cmp) c.args.others.now i) (contains (slice_cmp nat_cmp) c.args.ids.now i))
