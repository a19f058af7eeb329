-- Which ids are noted under a text after a change.
use Rattle.std.proofs.Common.{◌≡◌, refl, sym, ◌∙◌, ap, subst, ℕ, ◌+◌, ◌<◌, Bool, true, false, ◌&&◌, ◌||◌, cond, List, length, take, drop, get_or}
use Rattle.std.specs.Prelude.{Option, None, Some, IsSome}
use Rattle.std.specs.Ordering.{is_eq}
use Rattle.std.specs.Cmp.Lexicographic.{bytes_decides}
use Rattle.std.specs.Map.{lookup}
use Rattle.std.specs.BTreeMap.{BTreeMap, UpdatesBy, get}
use Rattle.std.proofs.lemmas.List.{take-append-drop}
use Rattle.std.proofs.lemmas.List.Folds.{list_any-append, list_any_more}
use Rattle.std.proofs.lemmas.Map.Text.{is_eq-slice_cmp}
use Rattle.scim_value.specs.declared.uniqueness.UniqueName.{UniqueName}
use Rattle.scim_value.specs.contracts.uniqueness.UniqueNameOrd.TheImpl as name_ord
use Rattle.scim_value.specs.contracts.uniqueness.UniqueNameOrd.TheImpl.Laws as order
use Rattle.scim_value.specs.Uniqueness.{name_of}
use Rattle.scim_shelf.specs.declared.text_index.Holders.{Holders}
use Rattle.scim_shelf.specs.Owners.{is_alike, is_among}
use Rattle.scim_shelf.specs.TextIndex.{is_same, has_in}
use Rattle.scim_shelf.proofs.NameLemmas.{by_bool, is_eq-Equal}
use Rattle.scim_shelf.proofs.OwnerLemmas.{tied_alike, tied_copy}

-- the notes, by text
abbrev pub Notes : Type 0
Notes = BTreeMap UniqueName Holders

-- the ids under a text, if any
abbrev pub held : Notes → UniqueName → Option Holders
held notes q = get (name_ord.ghosts).cmp notes q

-- the ids under one text become these, and no others change
abbrev pub ChangesAt : UniqueName → Notes → Notes → Option Holders → Type 0
ChangesAt text old new holders = (q : UniqueName) → held new q ≡ cond (is_alike text q) holders (held old q)

-- an update at a text, or at a copy of it, changes the ids there
pub changes_at : (text copy : UniqueName) (old new : Notes) (holders : Option Holders) → name_of copy ≡ name_of text
    → UpdatesBy (name_ord.ghosts).cmp ((name_ord.ghosts).cmp copy) old new holders → ChangesAt text old new holders
changes_at text copy old new holders same h q = h.0 q ∙ ap (λ (b : Bool). cond b holders (held old q)) (tied_copy copy text q same)

-- texts that are alike have the same ids
pub same_holders : (notes : Notes) (n q : UniqueName) → is_alike n q ≡ true → held notes n ≡ held notes q
same_holders notes n q alike =
    let tied = is_eq-Equal ((name_ord.ghosts).cmp n q) (tied_alike n q ∙ alike) in
    λ i. lookup (λ (k : UniqueName). is_eq (order.total-law.congr n q k tied i)) notes.entries

-- an id that is noted under a text, or isn't, is so under each that is alike
pub noted_alike : (notes : Notes) (n q : UniqueName) (id : List ℕ) (b : Bool) → has_in id (held notes n) ≡ b → is_alike n q ≡ true → has_in id (held notes q) ≡ b
noted_alike notes n q id b is alike = ap (has_in id) (sym (same_holders notes n q alike)) ∙ is

-- what is found is there
pub is_there : {X : Type 0} (o : Option X) (x : X) → Some x ≡ o → IsSome o
is_there o x h = subst IsSome h refl

paired : (alike here b old : Bool) → cond alike (cond here b old) old ≡ cond (alike && here) b old
paired true here b old = refl
paired false here b old = refl

absent : (alike here old : Bool) → (alike ≡ true → old ≡ false) → old ≡ cond (alike && here) false old
absent true true old none = none refl
absent true false old none = refl
absent false here old none = refl

cond_then : (test x y z : Bool) → (test ≡ true → x ≡ y) → cond test x z ≡ cond test y z
cond_then true x y z h = h refl
cond_then false x y z h = refl

cond_same : (test x : Bool) → cond test x x ≡ x
cond_same true x = refl
cond_same false x = refl

cond_twice : (test x y z : Bool) → cond test x (cond test y z) ≡ cond test x z
cond_twice true x y z = refl
cond_twice false x y z = refl

cond_in : (i : List ℕ) (test : Bool) (x y : Option Holders) → has_in i (cond test x y) ≡ cond test (has_in i x) (has_in i y)
cond_in i true x y = refl
cond_in i false x y = refl

module _ (text : UniqueName) where
  changed : (old new : Notes) (holders : Option Holders) → ChangesAt text old new holders → (q : UniqueName) (i : List ℕ)
      → has_in i (held new q) ≡ cond (is_alike text q) (has_in i holders) (has_in i (held old q))
  changed old new holders h q i = ap (has_in i) (h q) ∙ cond_in i (is_alike text q) holders (held old q)

  -- one id is noted under a text, or no more
  pub one_changed : (id : List ℕ) (b : Bool) (old new : Notes) (holders : Option Holders) → ChangesAt text old new holders
      → ((i : List ℕ) → has_in i holders ≡ cond (is_same id i) b (has_in i (held old text)))
      → (q : UniqueName) (i : List ℕ) → has_in i (held new q) ≡ cond (is_alike text q && is_same id i) b (has_in i (held old q))
  one_changed id b old new holders h one q i =
      let wanted = λ (o : Option Holders). cond (is_same id i) b (has_in i o) in
      changed old new holders h q i
      ∙ cond_then (is_alike text q) (has_in i holders) (wanted (held old q)) (has_in i (held old q)) (λ alike. one i ∙ ap wanted (same_holders old text q alike))
      ∙ paired (is_alike text q) (is_same id i) b (has_in i (held old q))

  -- the same ids are noted under a text
  pub none_changed : (old new : Notes) (holders : Option Holders) → ChangesAt text old new holders
      → ((i : List ℕ) → has_in i holders ≡ has_in i (held old text))
      → (q : UniqueName) (i : List ℕ) → has_in i (held new q) ≡ has_in i (held old q)
  none_changed old new holders h none q i =
      changed old new holders h q i
      ∙ cond_then (is_alike text q) (has_in i holders) (has_in i (held old q)) (has_in i (held old q)) (λ alike. none i ∙ ap (has_in i) (same_holders old text q alike))
      ∙ cond_same (is_alike text q) (has_in i (held old q))

  -- nothing is noted under a text any more, where no id but one was
  pub last_gone : (id : List ℕ) (old left new : Notes) (holders : Option Holders) → ChangesAt text old left holders → ChangesAt text left new None
      → ((i : List ℕ) → cond (is_same id i) false (has_in i (held old text)) ≡ false)
      → (q : UniqueName) (i : List ℕ) → has_in i (held new q) ≡ cond (is_alike text q && is_same id i) false (has_in i (held old q))
  last_gone id old left new holders g h last q i =
      let wanted = λ (o : Option Holders). cond (is_same id i) false (has_in i o) in
      changed left new None h q i
      ∙ ap (cond (is_alike text q) false) (changed old left holders g q i)
      ∙ cond_twice (is_alike text q) false (has_in i holders) (has_in i (held old q))
      ∙ cond_then (is_alike text q) false (wanted (held old q)) (has_in i (held old q)) (λ alike. sym (last i) ∙ ap wanted (same_holders old text q alike))
      ∙ paired (is_alike text q) (is_same id i) false (has_in i (held old q))

  -- no id is noted where nothing is found
  pub none_found : (id : List ℕ) (old new : Notes) → new ≡ old → None ≡ held old text
      → (q : UniqueName) (i : List ℕ) → has_in i (held new q) ≡ cond (is_alike text q && is_same id i) false (has_in i (held old q))
  none_found id old new same none q i =
      ap (λ (notes : Notes). has_in i (held notes q)) same
      ∙ absent (is_alike text q) (is_same id i) (has_in i (held old q)) (λ alike. ap (has_in i) (sym (same_holders old text q alike) ∙ sym none))

-- another id stays where one goes
pub other_stays : (id other i : List ℕ) → is_same other id ≡ false → is_same other i ≡ cond (is_same id i) false (is_same other i)
other_stays id other i differs =
    by_bool (is_same id i)
    (λ t. let here : id ≡ i = (bytes_decides id i).0 (sym (is_eq-slice_cmp id i) ∙ t) in rw t (ap (is_same other) (sym here) ∙ differs))
    (λ f. rw f refl)

-- an id is added to none
pub same_alone : (id i : List ℕ) → is_same id i ≡ cond (is_same id i) true false
same_alone id i = by_bool (is_same id i) (λ t. rw t refl) (λ f. rw f refl)

-- a note is changed under one more of some texts
pub text_more : (q : UniqueName) (texts : List UniqueName) (k : ℕ) (text : UniqueName) (same b old : Bool) → k < length texts → text ≡ get_or texts k text
    → cond (is_alike text q && same) b (cond (is_among q (take k texts) && same) b old) ≡ cond (is_among q (take (k + 1) texts) && same) b old
text_more q texts k text same b old inside is =
    one_more (is_among q (take k texts)) (is_alike text q) same b old
    ∙ ap (λ (among : Bool). cond (among && same) b old)
    (ap (λ (n : UniqueName). is_among q (take k texts) || is_alike n q) is ∙ sym (list_any_more (λ (n : UniqueName). is_alike n q) texts k text inside))
  where
    one_more : (before now here b old : Bool) → cond (now && here) b (cond (before && here) b old) ≡ cond ((before || now) && here) b old
    one_more true true true b old = refl
    one_more true true false b old = refl
    one_more true false true b old = refl
    one_more true false false b old = refl
    one_more false now here b old = refl

-- a note under none of some texts is under none of the first of them, and stays where these are noted
pub others_stay : (q : UniqueName) (texts : List UniqueName) (k : ℕ) (same old : Bool) → (is_among q texts && same) ≡ false
    → cond (is_among q (take k texts) && same) true old ≡ old
others_stay q texts k same old none =
    go (is_among q (take k texts)) (is_among q (drop k texts)) (is_among q texts) same
    (sym (list_any-append (λ (n : UniqueName). is_alike n q) (take k texts) (drop k texts)) ∙ ap (is_among q) (take-append-drop k texts)) none
  where
    go : (first rest all same : Bool) → (first || rest) ≡ all → (all && same) ≡ false → cond (first && same) true old ≡ old
    go true rest true true is h = cc
    go true rest false true is h = cc
    go true rest all false is h = refl
    go false rest all same is h = refl
