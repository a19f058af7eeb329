-- Each warning is certain.
use Rattle.std.proofs.Common.{◌≡◌, refl, sym, ap, ◌∙◌, subst, ℕ, Bool, true, false, List, [], ◌∷◌, length, inl, inr}
use Rattle.std.specs.Prelude.{All, ◌&&◌, not, Option, None, Some, filter, filter_map, find, is_none, option_map, unwrap_or}
use Rattle.std.specs.List.{cons_option, enumerate_from, flat_map, list_all}
use Rattle.std.specs.Option.{option_or}
use Rattle.std.proofs.lemmas.Bool.{cases_Bool, not-true}
use Rattle.std.proofs.lemmas.List.Elements.{All-append, All-cons, All-filter, All-head, All-nil}
use Rattle.std.proofs.lemmas.List.Folds.{list_all-append}
use Rattle.scim_schema.specs.declared.Attribute.TheVariants.{Id}
use Rattle.scim_schema.specs.declared.Kind.{Kind}
use Rattle.scim_schema.specs.declared.Op.{Op}
use Rattle.scim_schema.specs.declared.Op.TheVariants.{Read, Create, Modify, Delete}
use Rattle.scim_schema.specs.declared.Leaf.{Leaf}
use Rattle.scim_schema.specs.declared.Unit.{Unit as AttributeUnit}
use Rattle.scim_schema.specs.Mutability.{is_write_only}
use Rattle.scim_schema.specs.Names.{kinds, operations}
use Rattle.scim_schema.specs.Units.{simple, units}
use Rattle.scim_cell.specs.Content.{Content}
use Rattle.scim_policy.specs.declared.rules.Decision.{Decision}
use Rattle.scim_policy.specs.Access.{access, forbidding, leaves_of, needed}
use Rattle.scim_policy.specs.Decide.{decide}
use Rattle.scim_policy.specs.Rules.{Rule}
use Rattle.scim_policy_warnings.specs.declared.clients.Client.{Client}
use Rattle.scim_policy_warnings.specs.declared.losses.Loss.{Loss}
use Rattle.scim_policy_warnings.specs.declared.losses.LostUnit.{LostUnit}
use Rattle.scim_policy_warnings.specs.declared.losses.Scope.TheVariants.{Resources, OneUnit}
use Rattle.scim_policy_warnings.specs.declared.needs.Need.{Need}
use Rattle.scim_policy_warnings.specs.declared.policy_warnings.Warning.{Warning}
use Rattle.scim_policy_warnings.specs.Clients.{clients, is_meant}
use Rattle.scim_policy_warnings.specs.Laws.{lets}
use Rattle.scim_policy_warnings.specs.MayAllow.{is_about}
use Rattle.scim_policy_warnings.specs.Needs.{is_missing, missing, needed_at, needed_at_all, needed_to_write}
use Rattle.scim_policy_warnings.specs.Warnings.{all_lost, first_lost, gives_part, gives_some, loss, lost_unit, lost_units, outlook, warning, warnings, warnings_for, warnings_on}
use Rattle.scim_policy_warnings.proofs.CertainLemmas.{denied}

-- ---- lists

same_some : {X : Type 0} (x y : X) → Some x ≡ Some y → x ≡ y
same_some x y e = ap (λ (o : Option _). unwrap_or o x) e

all_of_each : {X Y : Type 0} (f : X → List Y) (P : Y → Type 0) → ((x : X) → All P (f x)) → (xs : List X) → All P (flat_map f xs)
all_of_each f P each [] = All-nil P
all_of_each f P each (x ∷ xs) = All-append P (f x) (flat_map f xs) (each x) (all_of_each f P each xs)

with_made : {Y : Type 0} (P : Y → Type 0) (o : Option Y) (ys : List Y) → ((y : Y) → o ≡ Some y → P y) → All P ys → All P (cons_option o ys)
with_made P None ys own rest = rest
with_made P (Some y) ys own rest = All-cons P y ys (own y refl) rest

all_of_made : {X Y : Type 0} (h : X → Option Y) (P : Y → Type 0) → ((x : X) (y : Y) → h x ≡ Some y → P y) → (xs : List X) → All P (filter_map h xs)
all_of_made h P each [] = All-nil P
all_of_made h P each (x ∷ xs) = with_made P (h x) (filter_map h xs) (λ y e. each x y e) (all_of_made h P each xs)

-- the first that passes passes, and where it fails another test, not all pass that
module _ {X : Type 0} (p : X → Bool) where
  found_passes : (xs : List X) (x : X) → find p xs ≡ Some x → p x ≡ true
  found_passes [] x e = cc
  found_passes (y ∷ ys) x e = elim (cases_Bool (p y)) [
    | inl t ↦ (
        let first : find p (y ∷ ys) ≡ Some y = rw t refl in
        sym (ap p (same_some y x (sym first ∙ e))) ∙ t
        )
    | inr f ↦ (let later : find p (y ∷ ys) ≡ find p ys = rw f refl in found_passes ys x (sym later ∙ e))
  ]

  found_fails : (q : X → Bool) (xs : List X) (x : X) → find p xs ≡ Some x → q x ≡ false → list_all q xs ≡ false
  found_fails q [] x e fails = cc
  found_fails q (y ∷ ys) x e fails = elim (cases_Bool (p y)) [
    | inl t ↦ (
        let first : find p (y ∷ ys) ≡ Some y = rw t refl in
        let own : q y ≡ false = ap q (same_some y x (sym first ∙ e)) ∙ fails in
        rw own refl
        )
    | inr f ↦ (
        let later : find p (y ∷ ys) ≡ find p ys = rw f refl in
        let rest : list_all q ys ≡ false = found_fails q ys x (sym later ∙ e) fails in
        elim (cases_Bool (q y)) [ inl t ↦ rw t rest | inr g ↦ rw g refl ]
        )
  ]

  none_found : (xs : List X) → is_none (find p xs) ≡ list_all (λ x. not (p x)) xs
  none_found [] = refl
  none_found (x ∷ xs) = elim (cases_Bool (p x)) [ inl t ↦ rw t refl | inr f ↦ rw f (none_found xs) ]

-- ---- what a need is for

module _ (policy : List Rule) (own : List ℕ) (c : Content) where
  -- whether the policy allows what is needed
  abbrev allowed : Need → Bool
  allowed n = (decide policy own n.op c n.leaf).allow

  -- what is missing is denied
  pub missing_denied : (who : Client) (needs : List Need) (n : Need) → is_meant policy who own ≡ true → missing policy who c.kind needs ≡ Some n → allowed n ≡ false
  missing_denied who needs n meant e =
      denied policy who own n.op c n.leaf meant (not-true _ (found_passes (is_missing policy who c.kind) needs n e))

  missing_lacks : (who : Client) (needs : List Need) (n : Need) → is_meant policy who own ≡ true → missing policy who c.kind needs ≡ Some n → list_all allowed needs ≡ false
  missing_lacks who needs n meant e = found_fails (is_missing policy who c.kind) allowed needs n e (missing_denied who needs n meant e)

  and_true : (b : Bool) → b && true ≡ b
  and_true true = refl
  and_true false = refl

  not_not : (b : Bool) → not (not b) ≡ b
  not_not true = refl
  not_not false = refl

  -- an operation on a resource is let where all that it needs on any is allowed
  lets_resource : (op : Op) → lets policy own c op Resources ≡ list_all allowed (needed_at_all op)
  lets_resource Read = sym (and_true _)
  lets_resource Create = sym (and_true _)
  lets_resource Modify = sym (and_true _)
  lets_resource Delete = ap (λ b. (decide policy own Read c (simple Id)).allow && b) (sym (and_true _))

  -- the decisions that the policy asks for before a leaf is modified
  modify_leaf : (l : Leaf) → list_all (λ (d : Leaf × Decision). not (not d.1.allow)) (needed c.kind (access policy own c) l) ≡ list_all allowed (needed_at Modify c.kind l)
  modify_leaf l = elim (cases_Bool (is_write_only c.kind l)) [
    | inl t ↦ rw t (ap (λ b. b && true) (not_not _))
    | inr f ↦ rw f (rw (not_not (decide policy own Modify c l).allow, not_not (decide policy own Read c l).allow) refl)
  ]

  modify_leaves : (ls : List Leaf) → list_all (λ (d : Leaf × Decision). not (not d.1.allow)) (flat_map (needed c.kind (access policy own c)) ls) ≡ list_all allowed (flat_map (needed_at Modify c.kind) ls)
  modify_leaves [] = refl
  modify_leaves (l ∷ ls) =
      list_all-append (λ (d : Leaf × Decision). not (not d.1.allow)) (needed c.kind (access policy own c) l) (flat_map (needed c.kind (access policy own c)) ls)
      ∙ rw (modify_leaf l, modify_leaves ls) refl
      ∙ sym (list_all-append allowed (needed_at Modify c.kind l) (flat_map (needed_at Modify c.kind) ls))

  create_leaves : (ls : List Leaf) → list_all (λ l. (decide policy own Create c l).allow) ls ≡ list_all allowed (flat_map (needed_at Create c.kind) ls)
  create_leaves [] = refl
  create_leaves (l ∷ ls) = ap (λ b. (decide policy own Create c l).allow && b) (create_leaves ls)

  read_leaves : (ls : List Leaf) → list_all allowed (flat_map (needed_at Read c.kind) ls) ≡ true
  read_leaves [] = refl
  read_leaves (l ∷ ls) = read_leaves ls

  delete_leaves : (ls : List Leaf) → list_all allowed (flat_map (needed_at Delete c.kind) ls) ≡ true
  delete_leaves [] = refl
  delete_leaves (l ∷ ls) = delete_leaves ls

  -- where something is denied that writing a unit needs, writing it isn't let
  lets_no_unit : (op : Op) (u : AttributeUnit) (more : ℕ) → list_all allowed (needed_to_write op c.kind u) ≡ false → lets policy own c op (OneUnit u more) ≡ false
  unfolding forbidding
  lets_no_unit Read u more lacks = absurd (let all = read_leaves (leaves_of c.kind u) in cc)
  lets_no_unit Create u more lacks = create_leaves (leaves_of c.kind u) ∙ lacks
  lets_no_unit Modify u more lacks =
      none_found (λ (d : Leaf × Decision). not d.1.allow) (flat_map (needed c.kind (access policy own c)) (leaves_of c.kind u))
      ∙ modify_leaves (leaves_of c.kind u)
      ∙ lacks
  lets_no_unit Delete u more lacks = absurd (let all = delete_leaves (leaves_of c.kind u) in cc)

-- ---- one loss

-- a loss by a need that is never allowed: of all resources, or of a unit
abbrev pub IsLoss : List Rule → Client → Op → Kind → Loss → Type 0
IsLoss policy who op k lost =
    (own : List ℕ) (c : Content) → is_meant policy who own ≡ true → c.kind ≡ k
    → ((decide policy own lost.missing.op c lost.missing.leaf).allow ≡ false) × (lets policy own c op lost.scope ≡ false)

module _ (policy : List Rule) (who : Client) (op : Op) (k : Kind) where
  -- a unit that lacks a need
  abbrev Lacks : LostUnit → Type 0
  Lacks u = missing policy who k (needed_to_write op k u.unit) ≡ Some u.missing

  made_lacks : (u : AttributeUnit) (o : Option Need) (lost : LostUnit) → missing policy who k (needed_to_write op k u) ≡ o → option_map (λ n. record { unit = u; missing = n }) o ≡ Some lost → Lacks lost
  made_lacks u None lost is e = cc
  made_lacks u (Some n) lost is e = subst Lacks (same_some (record { unit = u; missing = n }) lost e) is

  all_lack : All Lacks (lost_units policy who op k)
  all_lack = all_of_made (lost_unit policy who op k) Lacks (λ u lost e. made_lacks u (missing policy who k (needed_to_write op k u)) lost refl e) (units k)

  at_kind : (own : List ℕ) (c : Content) (needs : Kind → List Need) (n : Need) → c.kind ≡ k → missing policy who k (needs k) ≡ Some n → missing policy who c.kind (needs c.kind) ≡ Some n
  at_kind own c needs n same e = ap (λ (j : Kind). missing policy who j (needs j)) same ∙ e

  all_loss : (n : Need) → missing policy who k (needed_at_all op) ≡ Some n → IsLoss policy who op k (all_lost n)
  all_loss n e own c meant same =
      let here = at_kind own c (λ j. needed_at_all op) n same e in
      (missing_denied policy own c who (needed_at_all op) n meant here, lets_resource policy own c op ∙ missing_lacks policy own c who (needed_at_all op) n meant here)

  unit_loss : (u : LostUnit) (more : ℕ) → Lacks u → IsLoss policy who op k (record { scope = OneUnit u.unit more; missing = u.missing })
  unit_loss u more e own c meant same =
      let here = at_kind own c (λ j. needed_to_write op j u.unit) u.missing same e in
      let needs = needed_to_write op c.kind u.unit in
      (missing_denied policy own c who needs u.missing meant here, lets_no_unit policy own c op u.unit more (missing_lacks policy own c who needs u.missing meant here))

  first_loss : (us : List LostUnit) (lost : Loss) → All Lacks us → first_lost us ≡ Some lost → IsLoss policy who op k lost
  first_loss [] lost all e = cc
  first_loss (u ∷ us) lost all e = subst (IsLoss policy who op k) (same_some _ lost e) (unit_loss u (length us) (All-head Lacks u us all))

  either_loss : (o : Option Need) (us : List LostUnit) (lost : Loss) → missing policy who k (needed_at_all op) ≡ o → All Lacks us → option_or (option_map all_lost o) (first_lost us) ≡ Some lost → IsLoss policy who op k lost
  either_loss None us lost is all e = first_loss us lost all e
  either_loss (Some n) us lost is all e = subst (IsLoss policy who op k) (same_some (all_lost n) lost e) (all_loss n is)

  rule_loss : (r : Rule) (lost : Loss) → loss (outlook policy who op k) r ≡ Some lost → IsLoss policy who op k lost
  rule_loss r lost e =
      let o = outlook policy who op k in
      elim (cases_Bool (gives_some o r)) [
        | inl t ↦ (
            let given : loss o r ≡ option_or (option_map all_lost o.missing) (first_lost (filter (gives_part o r) o.lost)) = rw t refl in
            either_loss o.missing (filter (gives_part o r) o.lost) lost refl (All-filter (gives_part o r) Lacks o.lost all_lack) (sym given ∙ e)
            )
        | inr f ↦ absurd (let none : loss o r ≡ None = rw f refl in cc)
      ]

-- ---- all warnings

-- a warning's loss is certain
abbrev pub IsCertain : List Rule → Warning → Type 0
IsCertain policy w = IsLoss policy w.client w.op w.kind w.loss

module _ (policy : List Rule) where
  made_warning : (who : Client) (op : Op) (k : Kind) (number : ℕ) (o : Option Loss) (w : Warning) → ((lost : Loss) → o ≡ Some lost → IsLoss policy who op k lost)
      → option_map (λ lost. record { rule = number; client = who; op = op; kind = k; loss = lost }) o ≡ Some w → IsCertain policy w
  made_warning who op k number None w certain e = cc
  made_warning who op k number (Some lost) w certain e = subst (IsCertain policy) (same_some _ w e) (certain lost refl)

  rule_warning : (who : Client) (op : Op) (k : Kind) (n : ℕ × Rule) (w : Warning) → warning policy who op k n ≡ Some w → IsCertain policy w
  rule_warning who op k n w e = elim (cases_Bool (n.1.allow && is_about who op k n.1)) [
    | inl t ↦ (
        let made : warning policy who op k n ≡ option_map (λ lost. record { rule = n.0; client = who; op = op; kind = k; loss = lost }) (loss (outlook policy who op k) n.1) = rw t refl in
        made_warning who op k n.0 (loss (outlook policy who op k) n.1) w (λ lost is. rule_loss policy who op k n.1 lost is) (sym made ∙ e)
        )
    | inr f ↦ absurd (let none : warning policy who op k n ≡ None = rw f refl in cc)
  ]

  pub all_certain : All (IsCertain policy) (warnings policy)
  all_certain =
      all_of_each (warnings_for policy) (IsCertain policy)
      (λ who. all_of_each (λ k. flat_map (warnings_on policy who k) operations) (IsCertain policy)
      (λ k. all_of_each (warnings_on policy who k) (IsCertain policy)
      (λ op. all_of_made (warning policy who op k) (IsCertain policy) (λ n w e. rule_warning who op k n w e) (enumerate_from 1 policy))
      operations) kinds) (clients policy)
