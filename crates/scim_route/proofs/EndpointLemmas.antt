-- Which endpoint the routes lead a path to.
use Rattle.std.proofs.Common.{◌≡◌, refl, sym, ◌∙◌, ap, subst, ℕ, Bool, true, false, cond, List, [], ◌∷◌, ◌++◌, length, Option, None, Some, ◌==◌, ◌||◌, arith, codes, take, ◌+◌, ◌<◌, one-add}
use Rattle.std.proofs.Math.Seq.{take-length}
use Rattle.std.proofs.lemmas.Bool.{eqb-true, eq-eqb, eqb-false}
use Rattle.std.proofs.lemmas.List.Sums.{split_at_first, passes_at_first}
use Rattle.std.specs.List.{list_any, before_first, after_first, position_or_len}
use Rattle.std.specs.Prelude.{option_and_then}
use Rattle.scim_schema.specs.declared.Kind.{Kind}
use Rattle.scim_route.specs.declared.route_table.Leads.{Leads}
use Rattle.scim_route.specs.declared.route_table.Leads.TheVariants.{Search as LeadsToSearch, Resource as LeadsToResource, Unsupported, ResourceType, Schema}
use Rattle.scim_schema.specs.declared.Kind.TheVariants.{User, Group}
use Rattle.std.specs.Prelude.{if◌then◌else◌}
use Rattle.std.specs.Cmp.Lexicographic.{bytes_decides}
use Rattle.matchit.specs.Rows.{RowsOf}
use Rattle.matchit.specs.Seek.{has_slash, own, step, first}
use Rattle.scim_route.specs.Targets.{is_slash}
use Rattle.scim_route.specs.Endpoints.{is, at_top, below, among, in_segments}
use Rattle.scim_route.specs.code.Places.{led}
use Rattle.scim_route.specs.code.Table.{routes, any}
use Rattle.scim_route.proofs.PositionLemmas.{by_bool, position_within}
use Rattle.scim_route.proofs.TableLemmas.{begins_well, is_literal, all_are, both, plain, steps, find, or_none, none_either, seek_plain}

-- neither holds
pub neither : (a b : Bool) → (a || b) ≡ false → (a ≡ false) × (b ≡ false)
neither true b h = absurd (cc h)
neither false b h = (refl, h)

-- both say whether a text has a slash
pub slash_same : (xs : List ℕ) → has_slash xs ≡ list_any is_slash xs
slash_same [] = refl
slash_same (b ∷ rest) = by_bool (b == 47) (λ t. rw t refl) (λ f. rw f (slash_same rest))

-- a text without a slash isn't one with a slash
pub no_slash_is : (p t : List ℕ) → list_any is_slash p ≡ false → list_any is_slash t ≡ true → is p t ≡ false
no_slash_is p t h g = by_bool (is p t) (λ e. let clash : false ≡ true = sym h ∙ ap (list_any is_slash) ((bytes_decides p t).0 e) ∙ g in absurd (cc clash)) (λ f. f)

-- numbers that differ do so either way round
pub other_way : (a b : ℕ) → (a == b) ≡ false → (b == a) ≡ false
other_way a b h = by_bool (b == a) (λ e. let clash : false ≡ true = sym h ∙ eq-eqb a b (sym (eqb-true b a e)) in absurd (cc clash)) (λ f. f)

-- what is left of a pattern behind a byte other than a slash begins as well
pub tail_begins : (x : ℕ) (t : List ℕ) → (x == 47) ≡ false → begins_well (x ∷ t) ≡ true → begins_well t ≡ true
tail_begins x t n h =
    let rest : cond (x == 256) false (begins_well t) ≡ true = subst (λ v. cond v true (cond (x == 256) false (begins_well t)) ≡ true) n h in
    by_bool (x == 256)
    (λ e. let clash : false ≡ true = subst (λ v. cond v false (begins_well t) ≡ true) e rest in absurd (cc clash))
    (λ f. subst (λ v. cond v false (begins_well t) ≡ true) f rest)

-- what a pattern has behind this segment and a slash
abbrev pub behind : List ℕ → List ℕ → Option (List ℕ)
behind [] [] = None
behind [] (x ∷ t) = cond (x == 47) (Some t) None
behind (b ∷ seg) [] = None
behind (b ∷ seg) (x ∷ t) = cond (x == b) (behind seg t) None

module _ {K : Type 0} where
  -- no pattern goes on with a parameter
  pub no_param : (rs : RowsOf K) → all_are begins_well rs ≡ true → step 256 rs ≡ []
  no_param [] h = refl
  no_param (([], k) ∷ rest) h = no_param rest h
  no_param ((x ∷ t, k) ∷ rest) h =
      let parts = both (begins_well (x ∷ t)) (all_are begins_well rest) h in
      by_bool (x == 256)
      (λ e. let clash : false ≡ true = subst (λ y. begins_well (y ∷ t) ≡ true) (eqb-true x 256 e) parts.0 in absurd (cc clash))
      (λ f. rw f (no_param rest parts.1))

  -- within the first segment patterns go on as such
  pub step_begins : (b : ℕ) (rs : RowsOf K) → (b == 47) ≡ false → all_are begins_well rs ≡ true → all_are begins_well (step b rs) ≡ true
  step_begins b [] n h = refl
  step_begins b (([], k) ∷ rest) n h = step_begins b rest n h
  step_begins b ((x ∷ t, k) ∷ rest) n h =
      let parts = both (begins_well (x ∷ t)) (all_are begins_well rest) h in
      by_bool (x == b)
      (λ e. let left : begins_well t ≡ true = tail_begins x t (subst (λ y. (y == 47) ≡ false) (sym (eqb-true x b e)) n) parts.0 in rw (e, left) (step_begins b rest n parts.1))
      (λ f. rw f (step_begins b rest n parts.1))

  -- a path of one segment goes by its bytes
  pub one_segment : (rs : RowsOf K) (p : List ℕ) → list_any is_slash p ≡ false → all_are begins_well rs ≡ true → plain rs p ≡ own (steps p rs)
  one_segment rs [] n h = refl
  one_segment rs (b ∷ p) n h =
      let parts = neither (is_slash b) (list_any is_slash p) n in
      rw (no_param rs h, none_either K (has_slash (b ∷ p)), or_none (plain (step b rs) p)) (one_segment (step b rs) p parts.1 (step_begins b rs parts.0 h))

  -- and another does so through the first
  pub first_segment : (rs : RowsOf K) (seg text : List ℕ) → list_any is_slash seg ≡ false → all_are begins_well rs ≡ true
      → plain rs (seg ++ 47 ∷ text) ≡ plain (step 47 (steps seg rs)) text
  first_segment rs [] text n h = or_none (plain (step 47 rs) text)
  first_segment rs (b ∷ seg) text n h =
      let parts = neither (is_slash b) (list_any is_slash seg) n in
      rw (no_param rs h, none_either K (has_slash (b ∷ (seg ++ 47 ∷ text))), or_none (plain (step b rs) (seg ++ 47 ∷ text))) (first_segment (step b rs) seg text parts.1 (step_begins b rs parts.0 h))

  -- a text is found behind a byte where the whole is
  pub find_behind : (b : ℕ) (p : List ℕ) (rs : RowsOf K) → find p (step b rs) ≡ find (b ∷ p) rs
  find_behind b p [] = refl
  find_behind b p (([], k) ∷ rest) = find_behind b p rest
  find_behind b p ((x ∷ t, k) ∷ rest) =
      by_bool (x == b)
      (λ e. rw (e, eq-eqb b x (sym (eqb-true x b e))) (ap (cond (is p t) (Some k)) (find_behind b p rest)))
      (λ f. rw (f, other_way x b f) (find_behind b p rest))

  -- the row that ends is the one of no more text
  pub own_found : (rs : RowsOf K) → own rs ≡ find [] rs
  own_found [] = refl
  own_found (([], k) ∷ rest) = refl
  own_found ((x ∷ t, k) ∷ rest) = own_found rest

  -- what is reached by bytes is the row of these bytes
  pub steps_find : (p : List ℕ) (rs : RowsOf K) → own (steps p rs) ≡ find p rs
  steps_find [] rs = own_found rs
  steps_find (b ∷ p) rs = steps_find p (step b rs) ∙ find_behind b p rs

  -- a row, if there is one, before others
  abbrev pub row_and : Option (List ℕ) → K → RowsOf K → RowsOf K
  row_and None k rs = rs
  row_and (Some t) k rs = (t, k) ∷ rs

  -- what rows have behind this segment and a slash
  abbrev pub all_behind : List ℕ → RowsOf K → RowsOf K
  all_behind seg [] = []
  all_behind seg ((t, k) ∷ rest) = row_and (behind seg t) k (all_behind seg rest)

  -- these are those that the bytes of both lead to
  pub behind_is : (seg : List ℕ) (rs : RowsOf K) → step 47 (steps seg rs) ≡ all_behind seg rs
  behind_is [] [] = refl
  behind_is [] (([], k) ∷ rest) = behind_is [] rest
  behind_is [] ((x ∷ t, k) ∷ rest) =
      by_bool (x == 47)
      (λ e. rw e (ap (λ (rs : RowsOf K). (t, k) ∷ rs) (behind_is [] rest)))
      (λ f. rw f (behind_is [] rest))
  behind_is (b ∷ seg) rs = behind_is seg (step b rs) ∙ go rs
    where
      go : (rs : RowsOf K) → all_behind seg (step b rs) ≡ all_behind (b ∷ seg) rs
      go [] = refl
      go (([], k) ∷ rest) = go rest
      go ((x ∷ t, k) ∷ rest) =
          by_bool (x == b)
          (λ e. rw e (ap (row_and (behind seg t) k) (go rest)))
          (λ f. rw f (go rest))

  -- no row has anything behind this segment
  abbrev pub NoneBehind : List ℕ → RowsOf K → Type 0
  NoneBehind seg [] = Unit {0}
  NoneBehind seg ((t, k) ∷ rest) = (behind seg t ≡ None) × NoneBehind seg rest

  -- so nothing is left
  pub none_left : (seg : List ℕ) (rs : RowsOf K) → NoneBehind seg rs → all_behind seg rs ≡ []
  none_left seg [] h = refl
  none_left seg ((t, k) ∷ rest) h = rw h.0 (none_left seg rest h.1)

  -- no rows, no route
  pub plain_none : (p : List ℕ) → plain {K = K} [] p ≡ None
  plain_none [] = refl
  plain_none (b ∷ p) = rw (plain_none p) (none_either K (has_slash (b ∷ p)))

  -- a row that has ended takes no more bytes
  pub ended : (k : K) (b : ℕ) (p : List ℕ) → plain (([], k) ∷ []) (b ∷ p) ≡ None
  ended k b p = rw (plain_none p) (none_either K (has_slash (b ∷ p)))

  -- a parameter takes what has no slash
  pub any_takes : (k : K) (b : ℕ) (p : List ℕ) → plain ((any, k) ∷ []) (b ∷ p) ≡ cond (has_slash (b ∷ p)) None (Some k)
  any_takes k b p = by_bool (256 == b) (λ e. byte e p) (λ f. rw (f, plain_none p) refl)
    where
      byte : (256 == b) ≡ true → (p : List ℕ) → plain ((any, k) ∷ []) (b ∷ p) ≡ cond (has_slash (b ∷ p)) None (Some k)
      byte e [] = let is_256 : b ≡ 256 = sym (eqb-true 256 b e) in rw is_256 refl
      byte e (c ∷ p) = rw (e, ended k c p) refl

-- a pattern of one segment has nothing behind it
pub one_has_none : (seg t : List ℕ) → list_any is_slash t ≡ false → behind seg t ≡ None
one_has_none [] [] h = refl
one_has_none [] (x ∷ t) h = let parts = neither (is_slash x) (list_any is_slash t) h in rw parts.0 refl
one_has_none (b ∷ seg) [] h = refl
one_has_none (b ∷ seg) (x ∷ t) h =
    let parts = neither (is_slash x) (list_any is_slash t) h in
    by_bool (x == b) (λ e. rw e (one_has_none seg t parts.1)) (λ f. rw f refl)

-- a pattern whose first segment is another has nothing behind this one
pub other_has_none : (seg name t : List ℕ) → list_any is_slash seg ≡ false → list_any is_slash name ≡ false → is seg name ≡ false → behind seg (name ++ 47 ∷ t) ≡ None
other_has_none [] [] t h n f = absurd (cc f)
other_has_none [] (x ∷ name) t h n f = let parts = neither (is_slash x) (list_any is_slash name) n in rw parts.0 refl
other_has_none (b ∷ seg) [] t h n f = let parts = neither (is_slash b) (list_any is_slash seg) h in rw (other_way b 47 parts.0) refl
other_has_none (b ∷ seg) (x ∷ name) t h n f =
    let of_seg = neither (is_slash b) (list_any is_slash seg) h in
    let of_name = neither (is_slash x) (list_any is_slash name) n in
    by_bool (x == b)
    (λ e. let rest : is seg name ≡ false = rw (eq-eqb b x (sym (eqb-true x b e))) at f in rw e (other_has_none seg name t of_seg.1 of_name.1 rest))
    (λ g. rw g refl)

-- the first doesn't hold, and the second does
pub but : (a b : Bool) → cond a false b ≡ true → (a ≡ false) × (b ≡ true)
but true b h = absurd (cc h)
but false b h = (refl, h)

module _ {K : Type 0} where
  -- patterns without parameters go on as such
  pub step_literal : (b : ℕ) (rs : RowsOf K) → all_are is_literal rs ≡ true → all_are is_literal (step b rs) ≡ true
  step_literal b [] h = refl
  step_literal b (([], k) ∷ rest) h = step_literal b rest h
  step_literal b ((x ∷ t, k) ∷ rest) h =
      let parts = both (is_literal (x ∷ t)) (all_are is_literal rest) h in
      let left = but (x == 256) (is_literal t) parts.0 in
      by_bool (x == b) (λ e. rw (e, left.1) (step_literal b rest parts.1)) (λ f. rw f (step_literal b rest parts.1))

  -- none of them takes a parameter
  pub literal_no_param : (rs : RowsOf K) → all_are is_literal rs ≡ true → step 256 rs ≡ []
  literal_no_param [] h = refl
  literal_no_param (([], k) ∷ rest) h = literal_no_param rest h
  literal_no_param ((x ∷ t, k) ∷ rest) h =
      let parts = both (is_literal (x ∷ t)) (all_are is_literal rest) h in
      let left = but (x == 256) (is_literal t) parts.0 in
      rw left.0 (literal_no_param rest parts.1)

  -- so a path takes the one that it is
  pub literal_found : (rs : RowsOf K) (p : List ℕ) → all_are is_literal rs ≡ true → plain rs p ≡ find p rs
  literal_found rs [] h = own_found rs
  literal_found rs (b ∷ p) h =
      rw (literal_no_param rs h, none_either K (has_slash (b ∷ p)), or_none (plain (step b rs) p))
      (literal_found (step b rs) p (step_literal b rs h) ∙ find_behind b p rs)

-- the search of a kind goes before its resources
pub two_take : {K : Type 0} (s r : K) (b : ℕ) (p : List ℕ) → plain ((codes ".search", s) ∷ (any, r) ∷ []) (b ∷ p) ≡ cond (is (b ∷ p) (codes ".search")) (Some s) (cond (has_slash (b ∷ p)) None (Some r))
two_take {K} s r b p =
    by_bool (46 == b)
    (λ e. let is_46 : b ≡ 46 = sym (eqb-true 46 b e) in rw is_46 (
    rw (one_way p) (by_bool (is p (codes "search")) (λ t. rw t refl) (λ f. rw f refl))))
    (λ f. rw (f, other_way 46 b f) (any_takes r b p))
  where
    one_way : (p : List ℕ) → plain {K = K} ((codes "search", s) ∷ []) p ≡ cond (is p (codes "search")) (Some s) None
    one_way p = literal_found ((codes "search", s) ∷ []) p refl

-- what is below the resources of a kind
pub below_kind : (kind : Kind) (text : List ℕ) (b : ℕ)
    → option_and_then (λ l. led l (b ∷ text)) (plain ((codes ".search", LeadsToSearch kind) ∷ (any, LeadsToResource kind) ∷ []) (b ∷ text))
    ≡ (if list_any is_slash (b ∷ text) then None else Some (among kind (b ∷ text)))
below_kind kind text b =
    rw (two_take (LeadsToSearch kind) (LeadsToResource kind) b text, slash_same (b ∷ text))
    (by_bool (is (b ∷ text) (codes ".search"))
    (λ t. let none : list_any is_slash (b ∷ text) ≡ false = ap (list_any is_slash) ((bytes_decides (b ∷ text) (codes ".search")).0 t) in rw (t, none) refl)
    (λ f. rw f (by_bool (list_any is_slash (b ∷ text)) (λ t. rw t refl) (λ g. rw g refl))))

-- what is below a name with a route for any text
pub below_any : (leads : Leads) (b : ℕ) (text : List ℕ)
    → option_and_then (λ l. led l (b ∷ text)) (plain ((any, leads) ∷ []) (b ∷ text)) ≡ (if list_any is_slash (b ∷ text) then None else led leads (b ∷ text))
below_any leads b text =
    rw (any_takes leads b text, slash_same (b ∷ text))
    (by_bool (list_any is_slash (b ∷ text)) (λ t. rw t refl) (λ g. rw g refl))

-- a path of one segment leads to what it names
pub led_at_top : (p text : List ℕ) → list_any is_slash p ≡ false → option_and_then (λ l. led l text) (find p routes) ≡ at_top p
led_at_top p text n =
    let unlike : (t : List ℕ) → list_any is_slash t ≡ true → is p t ≡ false = λ t. no_slash_is p t n in
    named [] refl (λ f0.
    named (codes ".search") refl (λ f1.
    named (codes "Bulk") refl (λ f2.
    named (codes "Me") refl (λ f3.
    named (codes "ServiceProviderConfig") refl (λ f4.
    named (codes "ResourceTypes") refl (λ f5.
    named (codes "Schemas") refl (λ f6.
    named (codes "Users") refl (λ f7.
    named (codes "Groups") refl (λ f8.
    rw (
      f0,
      f1,
      f2,
      f3,
      f4,
      f5,
      f6,
      f7,
      f8,
      unlike (codes "Groups/.search") refl,
      unlike (codes "Groups/" ++ any) refl,
      unlike (codes "Me/" ++ any) refl,
      unlike (codes "ResourceTypes/" ++ any) refl,
      unlike (codes "Schemas/" ++ any) refl,
      unlike (codes "Users/.search") refl,
      unlike (codes "Users/" ++ any) refl,
    ) refl)))))))))
  where
    named : (t : List ℕ) → option_and_then (λ l. led l text) (find t routes) ≡ at_top t
        → (is p t ≡ false → option_and_then (λ l. led l text) (find p routes) ≡ at_top p)
        → option_and_then (λ l. led l text) (find p routes) ≡ at_top p
    named t same other = by_bool (is p t) (λ e. subst (λ (q : List ℕ). option_and_then (λ l. led l text) (find q routes) ≡ at_top q) (sym ((bytes_decides p t).0 e)) same) other

-- behind a segment that no route begins with there is nothing
pub nothing_behind : (seg : List ℕ) → list_any is_slash seg ≡ false
    → is seg (codes "Users") ≡ false → is seg (codes "Groups") ≡ false → is seg (codes "Me") ≡ false → is seg (codes "ResourceTypes") ≡ false → is seg (codes "Schemas") ≡ false
    → step 47 (steps seg routes) ≡ []
nothing_behind seg n users groups me types schemas =
    behind_is seg routes
    ∙ none_left seg routes (
      one (codes ".search") refl,
      (
        one (codes "Bulk") refl,
        (
          two (codes "Groups") (codes ".search") refl groups,
          (
            two (codes "Groups") any refl groups,
            (
              one (codes "Groups") refl,
              (
                two (codes "Me") any refl me,
                (
                  one (codes "Me") refl,
                  (
                    two (codes "ResourceTypes") any refl types,
                    (
                      one (codes "ResourceTypes") refl,
                      (
                        two (codes "Schemas") any refl schemas,
                        (
                          one (codes "Schemas") refl,
                          (
                            one (codes "ServiceProviderConfig") refl,
                            (
                              two (codes "Users") (codes ".search") refl users,
                              (
                                two (codes "Users") any refl users,
                                (
                                  one (codes "Users") refl,
                                  (
                                    one [] refl,
                                    tt,
                                  ),
                                ),
                              ),
                            ),
                          ),
                        ),
                      ),
                    ),
                  ),
                ),
              ),
            ),
          ),
        ),
      ),
    )
  where
    one : (t : List ℕ) → list_any is_slash t ≡ false → behind seg t ≡ None
    one t h = one_has_none seg t h

    two : (name t : List ℕ) → list_any is_slash name ≡ false → is seg name ≡ false → behind seg (name ++ 47 ∷ t) ≡ None
    two name t h f = other_has_none seg name t n h f

-- and one of two leads to what is below the first
pub led_below : (seg text : List ℕ) → list_any is_slash seg ≡ false
    → option_and_then (λ l. led l text) (plain (step 47 (steps seg routes)) text) ≡ below seg text
led_below seg [] n =
    named (codes "Users") refl (λ f0.
    named (codes "Groups") refl (λ f1.
    named (codes "Me") refl (λ f2.
    named (codes "ResourceTypes") refl (λ f3.
    named (codes "Schemas") refl (λ f4.
    rw (nothing_behind seg n f0 f1 f2 f3 f4) refl)))))
  where
    named : (t : List ℕ) → option_and_then (λ l. led l []) (own (step 47 (steps t routes))) ≡ None
        → (is seg t ≡ false → option_and_then (λ l. led l []) (own (step 47 (steps seg routes))) ≡ None)
        → option_and_then (λ l. led l []) (own (step 47 (steps seg routes))) ≡ None
    named t same other = by_bool (is seg t) (λ e. subst (λ (q : List ℕ). option_and_then (λ l. led l []) (own (step 47 (steps q routes))) ≡ None) (sym ((bytes_decides seg t).0 e)) same) other
led_below seg (b ∷ text) n =
    named (codes "Users") (below_kind User text b) (λ f0.
    named (codes "Groups") (below_kind Group text b) (λ f1.
    named (codes "Me") (below_any Unsupported b text) (λ f2.
    named (codes "ResourceTypes") (below_any ResourceType b text) (λ f3.
    named (codes "Schemas") (below_any Schema b text) (λ f4.
    rw (nothing_behind seg n f0 f1 f2 f3 f4, plain_none {K = Leads} (b ∷ text), f0, f1, f2, f3, f4)
    (by_bool (list_any is_slash (b ∷ text)) (λ t. rw t refl) (λ g. rw g refl)))))))
  where
    named : (t : List ℕ) → option_and_then (λ l. led l (b ∷ text)) (plain (step 47 (steps t routes)) (b ∷ text)) ≡ below t (b ∷ text)
        → (is seg t ≡ false → option_and_then (λ l. led l (b ∷ text)) (plain (step 47 (steps seg routes)) (b ∷ text)) ≡ below seg (b ∷ text))
        → option_and_then (λ l. led l (b ∷ text)) (plain (step 47 (steps seg routes)) (b ∷ text)) ≡ below seg (b ∷ text)
    named t same other = by_bool (is seg t) (λ e. subst (λ (q : List ℕ). option_and_then (λ l. led l (b ∷ text)) (plain (step 47 (steps q routes)) (b ∷ text)) ≡ below q (b ∷ text)) (sym ((bytes_decides seg t).0 e)) same) other

-- one more element than these
pub take_one_more : (n b : ℕ) (p : List ℕ) → take (1 + n) (b ∷ p) ≡ b ∷ take n p
take_one_more n b p = rw (one-add n) refl

-- what stands before the first slash has none
pub before_has_none : (p : List ℕ) → list_any is_slash (before_first is_slash p) ≡ false
before_has_none [] = refl
before_has_none (b ∷ p) = by_bool (is_slash b) (λ t. rw t refl) (λ f. rw f (ap (list_any is_slash) (take_one_more (position_or_len is_slash p) b p) ∙ rw f (before_has_none p)))

-- a path leads to the endpoint that it names
pub led_by_path : (p : List ℕ) → option_and_then (λ l. led l (after_first is_slash p)) (first routes p) ≡ in_segments p
led_by_path p = by_bool (position_or_len is_slash p == length p) whole parts
  where
    walked : first routes p ≡ plain routes p
    walked = seek_plain routes p refl

    whole : (position_or_len is_slash p == length p) ≡ true → option_and_then (λ l. led l (after_first is_slash p)) (first routes p) ≡ in_segments p
    whole e =
        let none : list_any is_slash p ≡ false = subst (λ (q : List ℕ). list_any is_slash q ≡ false) (ap (λ (n : ℕ). take n p) (eqb-true _ _ e) ∙ take-length p) (before_has_none p) in
        let found : first routes p ≡ find p routes = walked ∙ one_segment routes p none refl ∙ steps_find p routes in
        rw (found, e) (led_at_top p (after_first is_slash p) none)

    parts : (position_or_len is_slash p == length p) ≡ false → option_and_then (λ l. led l (after_first is_slash p)) (first routes p) ≡ in_segments p
    parts f =
        let differ = eqb-false _ _ f in
        let within = position_within is_slash p in
        let less : position_or_len is_slash p < length p = omega (arith, differ, within) in
        let slash = eqb-true _ _ (passes_at_first is_slash p 0 less) in
        let split : p ≡ before_first is_slash p ++ 47 ∷ after_first is_slash p = split_at_first is_slash p 0 less ∙ ap (λ (b : ℕ). before_first is_slash p ++ b ∷ after_first is_slash p) slash in
        let found : first routes p ≡ plain (step 47 (steps (before_first is_slash p) routes)) (after_first is_slash p) =
        walked ∙ ap (plain routes) split ∙ first_segment routes (before_first is_slash p) (after_first is_slash p) (before_has_none p) refl in
        rw (found, f) (led_below (before_first is_slash p) (after_first is_slash p) (before_has_none p))
