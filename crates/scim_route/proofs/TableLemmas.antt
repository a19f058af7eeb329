-- Which route a path takes, where parameters stand at the ends of routes alone.
use Rattle.std.proofs.Common.{inl, inr, ◌≡◌, refl, ◌∙◌, ap, subst, ℕ, zero, suc, ◌-◌, Bool, true, false, cond, List, [], ◌∷◌, length, Option, None, Some, ◌==◌, sub-one}
use Rattle.std.proofs.lemmas.Bool.{eqb-true}
use Rattle.matchit.specs.Rows.{RowsOf}
use Rattle.matchit.specs.Seek.{has_slash, own, step, or_else, segment, longest_from, param_step, seek}
use Rattle.matchit.specs.Rows.{comes_before}
use Rattle.matchit.specs.Order.{placed}
use Rattle.matchit.specs.Route.{Scan}
use Rattle.matchit.specs.Router.{rename, RouteOf, route_from, InsertsRead}
use Rattle.matchit.specs.declared.error.InsertError.{InsertError}
use Rattle.std.specs.Prelude.{Result, Ok, Err, is_err}
use Rattle.scim_route.specs.declared.route_table.Leads.{Leads}
use Rattle.scim_route.specs.code.Table.{with_route}
use Rattle.scim_route.specs.Endpoints.{is}
use Rattle.scim_route.proofs.PositionLemmas.{by_bool}

-- a list has nothing
abbrev pub is_nil : List ℕ → Bool
is_nil [] = true
is_nil (x ∷ t) = false

-- a pattern's only parameter is its last token, and it has no catch-all
abbrev pub ends_well : List ℕ → Bool
ends_well [] = true
ends_well (x ∷ t) = cond (x == 257) false (cond (x == 256) (is_nil t) (ends_well t))

-- a pattern has no parameter in its first segment
abbrev pub begins_well : List ℕ → Bool
begins_well [] = true
begins_well (x ∷ t) = cond (x == 47) true (cond (x == 256) false (begins_well t))

-- a pattern has no parameter
abbrev pub is_literal : List ℕ → Bool
is_literal [] = true
is_literal (x ∷ t) = cond (x == 256) false (is_literal t)

-- both hold
pub both : (a b : Bool) → cond a b false ≡ true → (a ≡ true) × (b ≡ true)
both true b h = (refl, h)
both false b h = absurd (cc h)

-- nothing behind an answer says nothing
pub or_none : {K : Type 0} (x : Option K) → or_else x None ≡ x
or_none None = refl
or_none (Some k) = refl

-- nothing either way
pub none_either : (K : Type 0) (b : Bool) → ◌≡◌ {A = Option K} (cond b None None) None
none_either K true = refl
none_either K false = refl

-- what is left of a pattern that ends well ends well
pub tail_ends_well : (x : ℕ) (t : List ℕ) → ends_well (x ∷ t) ≡ true → ends_well t ≡ true
tail_ends_well x t h = by (x == 257) (x == 256) h
  where
    nil : (t : List ℕ) → is_nil t ≡ true → ends_well t ≡ true
    nil [] h = refl
    nil (y ∷ s) h = absurd (cc h)

    by : (a b : Bool) → cond a false (cond b (is_nil t) (ends_well t)) ≡ true → ends_well t ≡ true
    by true b h = absurd (cc h)
    by false true h = nil t h
    by false false h = h

module _ {K : Type 0} where
  -- each pattern passes
  abbrev pub all_are : (List ℕ → Bool) → RowsOf K → Bool
  all_are p [] = true
  all_are p ((t, k) ∷ rest) = cond (p t) (all_are p rest) false

  -- the route that a path takes, where parameters stand at the ends alone
  abbrev pub plain : RowsOf K → List ℕ → Option K
  plain rs [] = own rs
  plain rs (b ∷ path) = or_else (plain (step b rs) path) (cond (has_slash (b ∷ path)) None (own (step 256 rs)))

  -- the rows that go on with these tokens
  abbrev pub steps : List ℕ → RowsOf K → RowsOf K
  steps [] rs = rs
  steps (b ∷ bs) rs = steps bs (step b rs)

  -- the key of the first row that is a text
  abbrev pub find : List ℕ → RowsOf K → Option K
  find p [] = None
  find p ((t, k) ∷ rest) = cond (is p t) (Some k) (find p rest)

  -- patterns that end well go on as such
  pub step_ends_well : (b : ℕ) (rs : RowsOf K) → all_are ends_well rs ≡ true → all_are ends_well (step b rs) ≡ true
  step_ends_well b [] h = refl
  step_ends_well b (([], k) ∷ rest) h = step_ends_well b rest h
  step_ends_well b ((x ∷ t, k) ∷ rest) h =
      let parts = both (ends_well (x ∷ t)) (all_are ends_well rest) h in
      by (x == b) (tail_ends_well x t parts.0) (step_ends_well b rest parts.1)
    where
      by : (v : Bool) → ends_well t ≡ true → all_are ends_well (step b rest) ≡ true → all_are ends_well (cond v ((t, k) ∷ step b rest) (step b rest)) ≡ true
      by true e r = rw (e, r) refl
      by false e r = r

  -- none goes on with a catch-all
  pub no_catch_all : (rs : RowsOf K) → all_are ends_well rs ≡ true → step 257 rs ≡ []
  no_catch_all [] h = refl
  no_catch_all (([], k) ∷ rest) h = no_catch_all rest h
  no_catch_all ((x ∷ t, k) ∷ rest) h =
      let parts = both (ends_well (x ∷ t)) (all_are ends_well rest) h in
      by_bool (x == 257) (λ e. let f : false ≡ true = rw e at parts.0 in absurd (cc f)) (λ f. rw f (no_catch_all rest parts.1))

  -- those that go on with a parameter end there
  pub param_ends : (rs : RowsOf K) → all_are ends_well rs ≡ true → all_are is_nil (step 256 rs) ≡ true
  param_ends [] h = refl
  param_ends (([], k) ∷ rest) h = param_ends rest h
  param_ends ((x ∷ t, k) ∷ rest) h =
      let parts = both (ends_well (x ∷ t)) (all_are ends_well rest) h in
      by_bool (x == 256)
      (λ e. let x_is : x ≡ 256 = eqb-true x 256 e in let nil : is_nil t ≡ true = subst (λ y. ends_well (y ∷ t) ≡ true) x_is parts.0 in rw (e, nil, param_ends rest parts.1) refl)
      (λ f. rw f (param_ends rest parts.1))

  -- rows that have ended leave no suffix
  pub no_suffix : (seg : List ℕ) (rs : RowsOf K) → all_are is_nil rs ≡ true → longest_from seg [] rs ≡ []
  no_suffix seg [] h = refl
  no_suffix seg (([], k) ∷ rest) h = no_suffix seg rest h
  no_suffix seg ((x ∷ t, k) ∷ rest) h = absurd (cc h)

  -- so a parameter takes the rest of a path that has no slash
  pub param_step_is : (rs : RowsOf K) (path : List ℕ) → all_are is_nil rs ≡ true → param_step rs path ≡ cond (has_slash path) (0, []) (length path, rs)
  unfolding param_step
  param_step_is rs path h = rw (no_suffix (segment path) rs h) refl

  -- no rows, no route
  pub seek_none : (n : ℕ) (path : List ℕ) → seek {K = K} n [] path ≡ None
  unfolding seek
  seek_none n [] = refl
  seek_none (suc n) (b ∷ path) = seek_none n path
  seek_none zero (b ∷ path) =
      rw (param_step_is [] (b ∷ path) refl, seek_none 0 path)
      (by_bool (has_slash (b ∷ path)) (λ e. rw (e, seek_none 0 path) refl) (λ f. rw (f, seek_none (length (b ∷ path) - 1) path) refl))

  -- what is skipped whole ends where it is
  pub seek_skips : (rs : RowsOf K) (path : List ℕ) → seek (length path) rs path ≡ own rs
  unfolding seek
  seek_skips rs [] = refl
  seek_skips rs (b ∷ path) = seek_skips rs path

  -- the walk is the plain one
  pub seek_plain : (rs : RowsOf K) (path : List ℕ) → all_are ends_well rs ≡ true → seek 0 rs path ≡ plain rs path
  unfolding seek
  seek_plain rs [] h = refl
  seek_plain rs (b ∷ path) h =
      rw (seek_plain (step b rs) path (step_ends_well b rs h), param_step_is (step 256 rs) (b ∷ path) (param_ends rs h), no_catch_all rs h)
      (by_bool (has_slash (b ∷ path))
      (λ e. rw (e, seek_none 0 path) refl)
      (λ f. rw (f, sub-one, seek_skips (step 256 rs) path, or_none (own (step 256 rs))) refl))

module _ {K L : Type 0} (f : K → L) where
  -- the same rows with other keys have a row entered in the same place
  pub placed_rename : (t : List ℕ) (k : K) (rs : RowsOf K) → rename f (placed (t, k) rs) ≡ placed (t, f k) (rename f rs)
  placed_rename t k [] = refl
  placed_rename t k ((u, l) ∷ rest) =
      by_bool (comes_before t u) (λ e. rw e refl) (λ n. rw n (ap (λ (rs : RowsOf L). (u, f l) ∷ rs) (placed_rename t k rest)))

-- what is entered stands in its place
pub entered : (parsed : Result Scan InsertError) (leads : Leads) (old new : RowsOf (RouteOf Leads)) (r : Result (Unit {0}) InsertError)
    → InsertsRead parsed leads old new r → is_err r ≡ false → rename (λ (route : RouteOf Leads). route.value) new ≡ with_route parsed leads (rename (λ (route : RouteOf Leads). route.value) old)
entered (Ok scan) leads old new (Ok u) h e = ap (rename (λ (route : RouteOf Leads). route.value)) h.1 ∙ placed_rename (λ (route : RouteOf Leads). route.value) scan.pattern (route_from scan leads) old
entered (Err fault) leads old new (Ok u) h e = elim h.1 [ inl x ↦ absurd (cc x) | inr x ↦ absurd (cc x) ]
entered parsed leads old new (Err x) h e = absurd (cc e)
