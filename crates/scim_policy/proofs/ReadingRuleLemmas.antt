-- What rules that are selected for reading give.
use Rattle.std.proofs.Common.{◌≡◌, refl, sym, ap, ◌∙◌, subst, ℕ, zero, suc, ◌+◌, ◌<◌, ◌≤◌, Bool, true, false, List, [], ◌∷◌, ◌++◌, length, get_or, map, drop, inl, inr, arith}
use Rattle.std.proofs.Math.ListN.{drop_of_length-le}
use Rattle.std.specs.Prelude.{◌&&◌, ◌||◌, None, is_some, filter, if◌then◌else◌}
use Rattle.std.specs.List.{enumerate_from}
use Rattle.std.proofs.lemmas.Bool.{cases_Bool}
use Rattle.std.proofs.lemmas.List.{append-nil, at_drop_more}
use Rattle.scim_schema.specs.declared.Kind.{Kind}
use Rattle.scim_schema.specs.declared.Op.TheVariants.{Read}
use Rattle.scim_schema.specs.declared.Leaf.{Leaf}
use Rattle.scim_cell.specs.Content.{Content}
use Rattle.scim_policy.specs.declared.patterns.Patterns.{Patterns}
use Rattle.scim_policy.specs.declared.reading_rules.ReadingRule.{ReadingRule}
use Rattle.scim_policy.specs.Rules.{Rule}
use Rattle.scim_policy.specs.Fits.{covers_in, covers_partly, fits, is_about, is_target_met}
use Rattle.scim_policy.specs.Patterns.{decision_of, pattern_rules, up_to_whole}
use Rattle.scim_policy.specs.PatternTable.{rules_in}
use Rattle.scim_policy.specs.Selected.{is_met_for_reading, rules_by}
use Rattle.scim_policy.specs.Table.{decided}
use Rattle.scim_policy.specs.code.Inside.{reading_rule, AreAbove}
use Rattle.scim_policy.specs.code.PatternWalk.{AddsRule, HasWalked}
use Rattle.scim_policy.proofs.PatternLemmas.{walk_start, walk_rule, walk_past, walk_end, walk_whole}
use Rattle.scim_policy.proofs.RuleLemmas.{speaks_grouped}

-- ---- which rules are selected

-- of rules numbered from n, those for the client's reading of the kind
abbrev pub selected_from : List ℕ → Kind → ℕ → List Rule → List (ℕ × Rule)
selected_from client k n rs = filter (λ (numbered : ℕ × Rule). is_about client Read k numbered.1) (enumerate_from n rs)

-- their numbers ascend
pub selected_above : (client : List ℕ) (k : Kind) (m n : ℕ) (rs : List Rule) → m < n → AreAbove m (selected_from client k n rs)
selected_above client k m n [] less = tt
selected_above client k m n (r ∷ rs) less = elim (cases_Bool (is_about client Read k r)) [
  | inl ours ↦ rw ours (less, selected_above client k n (n + 1) rs (omega arith))
  | inr other ↦ rw other (selected_above client k m (n + 1) rs (omega (arith, less)))
]

-- those selected so far with those from the i-th on, from 0, are all
abbrev pub AreSelected : List ℕ → Kind → List Rule → ℕ → List ReadingRule → Type 0
AreSelected client k rs i selected = map reading_rule selected ++ selected_from client k (i + 1) (drop i rs) ≡ selected_from client k 1 rs

pub all_selected : (client : List ℕ) (k : Kind) (rs : List Rule) (i : ℕ) (selected : List ReadingRule) → length rs ≤ i → AreSelected client k rs i selected → map reading_rule selected ≡ selected_from client k 1 rs
all_selected client k rs i selected end are =
    let gone : drop i rs ≡ [] = drop_of_length-le rs end in
    sym (append-nil (map reading_rule selected))
    ∙ sym (ap (λ (qs : List Rule). map reading_rule selected ++ selected_from client k (i + 1) qs) gone)
    ∙ are

pushed : (selected : List ReadingRule) (r : ReadingRule) (more : List (ℕ × Rule)) → map reading_rule (selected ++ r ∷ []) ++ more ≡ map reading_rule selected ++ reading_rule r ∷ more
pushed [] r more = refl
pushed (s ∷ selected) r more = ap (λ (ms : List (ℕ × Rule)). reading_rule s ∷ ms) (pushed selected r more)

module _ (client : List ℕ) (k : Kind) (rs : List Rule) (i : ℕ) (selected : List ReadingRule) (less : i < length rs) where
  -- the rules from the i-th on are that one and those behind it
  from_item : (r : Rule) → r ≡ get_or rs i r → selected_from client k (i + 1) (drop i rs) ≡ selected_from client k (i + 1) (r ∷ drop (i + 1) rs)
  from_item r there = at_drop_more (selected_from client k (i + 1)) rs i r less ∙ ap (λ (q : Rule). selected_from client k (i + 1) (q ∷ drop (i + 1) rs)) (sym there)

  pub selected_next : (r : ReadingRule) (new : List ReadingRule) → r.rule.now ≡ get_or rs i r.rule.now → r.number ≡ i + 1 → is_about client Read k r.rule.now ≡ true
      → new ≡ selected ++ r ∷ [] → AreSelected client k rs i selected → AreSelected client k rs (i + 1) new
  selected_next r new there number ours are before =
      let more = selected_from client k (i + 1 + 1) (drop (i + 1) rs) in
      let first : selected_from client k (i + 1) (r.rule.now ∷ drop (i + 1) rs) ≡ (i + 1, r.rule.now) ∷ more = rw ours refl in
      ap (λ (ns : List ReadingRule). map reading_rule ns ++ more) are
      ∙ pushed selected r more
      ∙ ap (λ (n : ℕ). map reading_rule selected ++ (n, r.rule.now) ∷ more) number
      ∙ sym (ap (λ (ms : List (ℕ × Rule)). map reading_rule selected ++ ms) (from_item r.rule.now there ∙ first))
      ∙ before

  pub selected_skip : (r : Rule) → r ≡ get_or rs i r → is_about client Read k r ≡ false → AreSelected client k rs i selected → AreSelected client k rs (i + 1) selected
  selected_skip r there other before =
      let more = selected_from client k (i + 1 + 1) (drop (i + 1) rs) in
      let first : selected_from client k (i + 1) (r ∷ drop (i + 1) rs) ≡ more = rw other refl in
      sym (ap (λ (ms : List (ℕ × Rule)). map reading_rule selected ++ ms) (from_item r there ∙ first)) ∙ before

-- of the selected rules, those that are met are those that fit
met_fits : (client : List ℕ) (c : Content) (l : Leaf) (n : ℕ × Rule) (ours : Bool) → is_about client Read c.kind n.1 ≡ ours → ours && is_met_for_reading c l n ≡ fits client Read c l n.1
met_fits client c l n ours is =
    let covered = covers_in c l n.1 || covers_partly Read c l n.1 in
    nested ours (is_target_met c n.1) covered
    ∙ sym (ap (λ (b : Bool). b && covered) (speaks_grouped client Read c n.1 ∙ ap (λ (b : Bool). b && is_target_met c n.1) is))
  where
    nested : (a b d : Bool) → a && (b && d) ≡ (a && b) && d
    nested true b d = refl
    nested false b d = refl

fitting_selected : (client : List ℕ) (c : Content) (l : Leaf) (ns : List (ℕ × Rule)) → filter (is_met_for_reading c l) (filter (λ (n : ℕ × Rule). is_about client Read c.kind n.1) ns) ≡ filter (λ (n : ℕ × Rule). fits client Read c l n.1) ns
fitting_selected client c l [] = refl
fitting_selected client c l (n ∷ ns) =
    let more = filter (is_met_for_reading c l) (filter (λ (m : ℕ × Rule). is_about client Read c.kind m.1) ns) in
    let fitting = ap (λ (ms : List (ℕ × Rule)). if fits client Read c l n.1 then n ∷ ms else ms) (fitting_selected client c l ns) in
    elim (cases_Bool (is_about client Read c.kind n.1)) [
      | inl ours ↦ rw ours (ap (λ (b : Bool). if b then n ∷ more else more) (met_fits client c l n true ours) ∙ fitting)
      | inr other ↦ rw other (ap (λ (b : Bool). if b then n ∷ more else more) (met_fits client c l n false other) ∙ fitting)
    ]

-- where all are selected, they give the pattern of each resource of the kind
pub selected_give : (client : List ℕ) (k : Kind) (rs : List Rule) (selected : List (ℕ × Rule)) → selected ≡ selected_from client k 1 rs → (c : Content) → c.kind ≡ k → (l : Leaf) → rules_by selected c l ≡ pattern_rules rs client c l
unfolding rules_by pattern_rules
selected_give client k rs selected all c same l =
    ap (λ (ns : List (ℕ × Rule)). up_to_whole c l (filter (is_met_for_reading c l) ns)) (all ∙ ap (λ (j : Kind). selected_from client j 1 rs) (sym same))
    ∙ ap (up_to_whole c l) (fitting_selected client c l (enumerate_from 1 rs))

-- ---- the walk over selected rules

pub map_length : (rs : List ReadingRule) → length (map reading_rule rs) ≡ length rs
map_length [] = refl
map_length (r ∷ rs) = ap suc (map_length rs)

map_item : (rs : List ReadingRule) (i : ℕ) (d : ReadingRule) → get_or (map reading_rule rs) i (reading_rule d) ≡ reading_rule (get_or rs i d)
map_item [] i d = refl
map_item (r ∷ rs) zero d = refl
map_item (r ∷ rs) (suc i) d = map_item rs i d

-- an item of the selected rules
pub item_there : (rs : List ReadingRule) (i : ℕ) (r : ReadingRule) → r ≡ get_or rs i r → reading_rule r ≡ get_or (map reading_rule rs) i (reading_rule r)
item_there rs i r there = ap reading_rule there ∙ sym (map_item rs i r)

pub item_low : (rs : List ReadingRule) (i : ℕ) → i < length rs → i < length (map reading_rule rs)
item_low rs i less = subst (λ (n : ℕ). i < n) (sym (map_length rs)) less

-- a table to which the selected rules up to the i-th were added, from 0; the numbers of the others are greater
pub record SelectedWalked (c : Content) (ns : List (ℕ × Rule)) (i : ℕ) (ps : Patterns) : Type 0 where
  pub number : ℕ
  pub above : AreAbove number (drop i ns)
  pub walked : HasWalked c (λ l. filter (is_met_for_reading c l) (drop i ns)) (λ l. rules_by ns c l) number ps

pub selected_start : (c : Content) (ns : List (ℕ × Rule)) (ps : Patterns) → AreAbove 0 ns → ((l : Leaf) → decided ps.last l ≡ None) → ps.partial.items ≡ [] → SelectedWalked c ns 0 ps
unfolding rules_by
selected_start c ns ps above none empty = record { number = 0; above = above; walked = walk_start c (λ l. filter (is_met_for_reading c l) ns) ps none empty }

module _ (c : Content) (ns : List (ℕ × Rule)) (i : ℕ) (n : ℕ × Rule) (less : i < length ns) (there : n ≡ get_or ns i n) where
  -- the rules from the i-th on are that one and those behind it
  item_first : {Y : Type 0} (f : List (ℕ × Rule) → Y) → f (drop i ns) ≡ f (n ∷ drop (i + 1) ns)
  item_first f = at_drop_more f ns i n less ∙ ap (λ (m : ℕ × Rule). f (m ∷ drop (i + 1) ns)) (sym there)

  item_above : (number : ℕ) → AreAbove number (drop i ns) → (number < n.0) × AreAbove n.0 (drop (i + 1) ns)
  item_above number above = subst (AreAbove number) (item_first (λ (ms : List (ℕ × Rule)). ms)) above

  pub selected_met : (k : Kind) (old new : Patterns) → is_target_met c n.1 ≡ true → k ≡ c.kind → AddsRule k n.1 (decision_of n) old new → SelectedWalked c ns i old → SelectedWalked c ns (i + 1) new
  selected_met k old new met same adds before =
      let above = item_above before.number before.above in
      record {
        number = n.0;
        above = above.1;
        walked = walk_rule c k (λ l. filter (is_met_for_reading c l) (drop i ns)) (λ l. filter (is_met_for_reading c l) (drop (i + 1) ns)) (λ l. rules_by ns c l) before.number n old new
            same above.0 (λ l. item_first (filter (is_met_for_reading c l)) ∙ rw met refl) adds before.walked;
      }

  pub selected_past : (ps : Patterns) → is_target_met c n.1 ≡ false → SelectedWalked c ns i ps → SelectedWalked c ns (i + 1) ps
  selected_past ps other before =
      let above = item_above before.number before.above in
      record {
        number = n.0;
        above = above.1;
        walked = walk_past c (λ l. filter (is_met_for_reading c l) (drop i ns)) (λ l. filter (is_met_for_reading c l) (drop (i + 1) ns)) (λ l. rules_by ns c l) before.number n.0 ps
            (omega (arith, above.0)) (λ l. item_first (filter (is_met_for_reading c l)) ∙ rw other refl) before.walked;
      }

pub selected_end : (c : Content) (ns : List (ℕ × Rule)) (i : ℕ) (ps : Patterns) → length ns ≤ i → SelectedWalked c ns i ps → (l : Leaf) → rules_in ps l ≡ rules_by ns c l
selected_end c ns i ps end before =
    walk_end c (λ l. filter (is_met_for_reading c l) (drop i ns)) (λ l. rules_by ns c l) before.number ps (λ l. ap (filter (is_met_for_reading c l)) (drop_of_length-le ns end)) before.walked

pub selected_whole : (c : Content) (ns : List (ℕ × Rule)) (i : ℕ) (ps : Patterns) → is_some ps.last.rest ≡ true → SelectedWalked c ns i ps → (l : Leaf) → rules_in ps l ≡ rules_by ns c l
selected_whole c ns i ps rest before = walk_whole c (λ l. filter (is_met_for_reading c l) (drop i ns)) (λ l. rules_by ns c l) before.number ps rest before.walked
