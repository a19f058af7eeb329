-- What a visitor has taken behind a window.
use Rattle.std.proofs.Common.{◌≡◌, refl, sym, ◌∙◌, ap, subst, add-zero, ℕ, ◌+◌, ◌-◌, ◌<◌, ◌≤◌, inl, inr, zero, suc, List, [], ◌∷◌, ◌++◌, length, take, arith}
use Rattle.std.specs.List.{FoldsTo}
use Rattle.std.proofs.Math.Seq.{drop-nil}
use Rattle.std.proofs.lemmas.Bool.{cases_lt}
use Rattle.scim_cell.specs.Content.{Content}
use Rattle.scim_shelf.specs.declared.windows.Window.{Window}
use Rattle.scim_shelf.specs.Shelves.{TookPrefix}
use Rattle.scim_shelf.specs.Stores.{window}
use Rattle.scim_shelf.specs.Windows.{PassesWindow}

-- the resources of a window that come after the first `shown` resources of the list; `cs` is the list without these
abbrev pub left : ℕ → ℕ → ℕ → List Content → List Content
left skipped count shown cs = window (skipped - shown) (count - (shown - skipped)) cs

-- the place of a resource: before a window, within, or past it
by_place : {G : Type 0} (skipped count shown : ℕ) → (shown < skipped → G) → (skipped ≤ shown → shown < skipped + count → G) → (skipped + count ≤ shown → G) → G
by_place skipped count shown before within past = elim (cases_lt shown skipped) [
  | inl less ↦ before less
  | inr from ↦ elim (cases_lt shown (skipped + count)) [ inl less ↦ within from less | inr more ↦ past more ]
]

left_before : (skipped count shown : ℕ) (c : Content) (cs : List Content) → shown < skipped
    → left skipped count shown (c ∷ cs) ≡ left skipped count (shown + 1) cs
left_before skipped count shown c cs less =
    let one : skipped - shown ≡ suc (skipped - (shown + 1)) = omega arith in
    let same : count - (shown - skipped) ≡ count - (shown + 1 - skipped) = omega arith in
    rw (one, same) refl

left_within : (skipped count shown : ℕ) (c : Content) (cs : List Content) → skipped ≤ shown → shown < skipped + count
    → left skipped count shown (c ∷ cs) ≡ c ∷ left skipped count (shown + 1) cs
left_within skipped count shown c cs from less =
    let none : skipped - shown ≡ 0 = omega arith in
    let later : skipped - (shown + 1) ≡ 0 = omega arith in
    let one : count - (shown - skipped) ≡ suc (count - (shown + 1 - skipped)) = omega arith in
    rw (none, one, later) refl

pub left_past : (skipped count shown : ℕ) (cs : List Content) → skipped + count ≤ shown → left skipped count shown cs ≡ []
left_past skipped count shown cs past =
    let none : count - (shown - skipped) ≡ 0 = omega arith in
    rw none refl

abbrev empty : List Content
empty = []

take_none : (n : ℕ) → take n (empty) ≡ empty
take_none zero = refl
take_none (suc n) = refl

left_none : (skipped count shown : ℕ) → left skipped count shown [] ≡ []
left_none skipped count shown = ap (take (count - (shown - skipped))) (drop-nil (skipped - shown)) ∙ take_none (count - (shown - skipped))

left_whole : (skipped count shown : ℕ) (cs : List Content) → shown ≡ 0 → left skipped count shown cs ≡ window skipped count cs
left_whole skipped count shown cs fresh =
    let from : skipped - shown ≡ skipped = omega arith in
    let most : count - (shown - skipped) ≡ count = omega arith in
    rw (from, most) refl

-- the part of a window in two lists
pub left_append : (skipped count shown : ℕ) (xs ys : List Content)
    → left skipped count shown (xs ++ ys) ≡ left skipped count shown xs ++ left skipped count (shown + length xs) ys
left_append skipped count shown [] ys = rw (left_none skipped count shown, add-zero shown) refl
left_append skipped count shown (c ∷ xs) ys = go (left_append skipped count (shown + 1) xs ys)
  where
    go : left skipped count (shown + 1) (xs ++ ys) ≡ left skipped count (shown + 1) xs ++ left skipped count (shown + 1 + length xs) ys
        → left skipped count shown (c ∷ xs ++ ys) ≡ left skipped count shown (c ∷ xs) ++ left skipped count (shown + length (c ∷ xs)) ys
    go rest =
        let sum : shown + 1 + length xs ≡ shown + length (c ∷ xs) = omega arith in
        let after : left skipped count (shown + 1) (xs ++ ys) ≡ left skipped count (shown + 1) xs ++ left skipped count (shown + length (c ∷ xs)) ys
        = rest ∙ ap (λ (n : ℕ). left skipped count (shown + 1) xs ++ left skipped count n ys) sum in
        by_place skipped count shown
        (λ less. left_before skipped count shown c (xs ++ ys) less ∙ after ∙ ap (λ (zs : List Content). zs ++ left skipped count (shown + length (c ∷ xs)) ys) (sym (left_before skipped count shown c xs less)))
        (λ from less.
        left_within skipped count shown c (xs ++ ys) from less ∙ ap (λ (zs : List Content). c ∷ zs) after
        ∙ ap (λ (zs : List Content). zs ++ left skipped count (shown + length (c ∷ xs)) ys) (sym (left_within skipped count shown c xs from less)))
        (λ past.
        left_past skipped count shown (c ∷ xs ++ ys) past
        ∙ sym (rw (left_past skipped count shown (c ∷ xs) past) (left_past skipped count (shown + length (c ∷ xs)) ys (omega arith))))

module _ {V : Type 0} (Takes : V → Content → V → Type 0) where
  -- what a window has done: it keeps its bounds and its reference, and its visitor has taken what lies within
  pub record Passed (old : Window V) (cs : List Content) (new : Window V) : Type 0 where
    pub same_reference : new.visitor.ghost_name ≡ old.visitor.ghost_name
    pub skipped : new.skipped ≡ old.skipped
    pub count : new.count ≡ old.count
    pub shown : new.shown ≡ old.shown + length cs
    pub took : FoldsTo Takes old.visitor.now (left old.skipped old.count old.shown cs) new.visitor.now

  passed_more : (old mid new : Window V) (c : Content) (cs : List Content) → PassesWindow Takes old c mid → Passed mid cs new → Passed old (c ∷ cs) new
  passed_more old mid new c cs step rest = record {
    same_reference = rest.same_reference ∙ step.same_reference;
    skipped = rest.skipped ∙ step.skipped;
    count = rest.count ∙ step.count;
    shown = omega (arith, rest.shown, step.shown);
    took =
        by_place old.skipped old.count old.shown
        (λ less. rw (left_before old.skipped old.count old.shown c cs less) (unchanged (step.before less)))
        (λ from less. rw (left_within old.skipped old.count old.shown c cs from less) (mid.visitor.now, step.taken from less, later))
        (λ past.
        rw (left_past old.skipped old.count old.shown (c ∷ cs) past)
        (subst (λ (xs : List Content). FoldsTo Takes old.visitor.now xs new.visitor.now) (left_past old.skipped old.count (old.shown + 1) cs (omega arith))
        (unchanged (step.past past))));
  }
    where
      later : FoldsTo Takes mid.visitor.now (left old.skipped old.count (old.shown + 1) cs) new.visitor.now
      later = rw (step.skipped, step.count, step.shown) at rest.took

      unchanged : mid.visitor.now ≡ old.visitor.now → FoldsTo Takes old.visitor.now (left old.skipped old.count (old.shown + 1) cs) new.visitor.now
      unchanged same = subst (λ (v : V). FoldsTo Takes v (left old.skipped old.count (old.shown + 1) cs) new.visitor.now) same later

  pub passed : (old : Window V) (cs : List Content) (new : Window V) → FoldsTo (PassesWindow Takes) old cs new → Passed old cs new
  passed old [] new same = record {
    same_reference = ap (λ (w : Window V). w.visitor.ghost_name) (sym same);
    skipped = ap (λ (w : Window V). w.skipped) (sym same);
    count = ap (λ (w : Window V). w.count) (sym same);
    shown = ap (λ (w : Window V). w.shown) (sym same) ∙ sym (add-zero old.shown);
    took = rw (left_none old.skipped old.count old.shown) (ap (λ (w : Window V). w.visitor.now) same);
  }
  passed old (c ∷ cs) new folds = passed_more old folds.0 new c cs folds.1 (passed folds.0 cs new folds.2)

  -- a window that was shown all resources passed on those within
  pub took_all : (old : Window V) (cs : List Content) (new : Window V) → old.shown ≡ 0 → FoldsTo (PassesWindow Takes) old cs new
      → (new.visitor.ghost_name ≡ old.visitor.ghost_name) × FoldsTo Takes old.visitor.now (window old.skipped old.count cs) new.visitor.now
  took_all old cs new fresh folds =
      let all = passed old cs new folds in
      (all.same_reference, subst (λ (xs : List Content). FoldsTo Takes old.visitor.now xs new.visitor.now) (left_whole old.skipped old.count old.shown cs fresh) all.took)

  -- a window that was shown a prefix passed on a prefix
  pub took_prefix : (old : Window V) (cs : List Content) (new : Window V) → old.shown ≡ 0 → TookPrefix (PassesWindow Takes) old cs new
      → (new.visitor.ghost_name ≡ old.visitor.ghost_name) × TookPrefix Takes old.visitor.now (window old.skipped old.count cs) new.visitor.now
  took_prefix old cs new fresh took =
      let all = passed old took.taken new took.took in (
        all.same_reference,
        record {
          taken = left old.skipped old.count old.shown took.taken;
          left = left old.skipped old.count (old.shown + length took.taken) took.left;
          whole =
              sym (left_append old.skipped old.count old.shown took.taken took.left)
              ∙ ap (left old.skipped old.count old.shown) took.whole
              ∙ left_whole old.skipped old.count old.shown cs fresh;
          took = all.took;
        },
      )
