-- Lists of turns of several clients.
use Rattle.std.proofs.Common.{◌≡◌, refl, sym, ◌∙◌, ap, ap₂, subst, subst₂, ℕ, suc, zero, ◌<◌, true, false, List, [], ◌∷◌, ◌++◌, map, filter, flat_map, length, slice_index_or, append-nil, inl, inr, arith}
use Rattle.std.specs.Prelude.{All, cond}
use Rattle.std.specs.List.{AllByRecursion}
use Rattle.std.specs.List.Sorted.{IsStrictlySortedBy}
use Rattle.std.specs.Ordering.{nat_cmp, ordering_reverse}
use Rattle.std.specs.declared.cmp.Ordering.TheVariants.{Less, Equal, Greater}
use Rattle.std.specs.Cmp.Lexicographic.{slice_cmp, bytes_decides}
use Rattle.std.proofs.lemmas.Bool.{cases_Bool}
use Rattle.std.proofs.lemmas.Cmp.{tied_itself, nat_list_cmp_total}
use Rattle.std.proofs.lemmas.List.Elements.{All-head, All-tail, All-contains, All-from_recursion, Contains-append_right}
use Rattle.std.proofs.lemmas.Map.Keys.{sorted_head, sorted_tail}
use Rattle.std.proofs.lemmas.Map.Lookups.{exact_bytes}
use Rattle.scim_cell.specs.Content.{Content}
use Rattle.scim_cell.specs.Order.{id_cmp}
use Rattle.scim_cell.specs.Rows.{rows}
use Rattle.scim_value.specs.Resource.{IsResource, HasBase}
use Rattle.scim_policy.specs.Control.{control}
use Rattle.scim_view.specs.View.{Viewer, sees}
use Rattle.scim_shelf.specs.Stores.{Store, IsStore, below, above, keep, without}
use Rattle.scim_service.specs.declared.requests.Turn.{Turn}
use Rattle.scim_service.specs.declared.replies.Reply.{Reply}
use Rattle.scim_service.specs.Step.{viewer_at, plan, next_store}
use Rattle.scim_noninterference.specs.Alike.{IsAlike, is_in_use}
use Rattle.scim_noninterference.specs.Lists.{is_of, run, replies_to, AreTurns, Round, first_list, second_list, AreOthers, IsRound, LeadAlike, IsUnseen, IsHidden, IsQuiet, AreQuiet}
use Rattle.scim_noninterference.specs.Laws.{TwoLists, QuietOthers}
use Rattle.scim_noninterference.proofs.StoreLemmas.{traits, seen_traits, whole_same, controls_same, rows_visible, traits_keep}
use Rattle.scim_noninterference.proofs.NameLemmas.{names_same, in_use_keep_same}
use Rattle.scim_noninterference.proofs.LawLemmas.{one_request}
use Rattle.scim_service.proofs.Facts.{next_is_store}

-- ---- where a resource stands among others in order of id

-- the ids of these are above an id
abbrev AreAbove : List ℕ → List Content → Type 0
AreAbove id cs = AllByRecursion (λ (c : Content). slice_cmp nat_cmp id c.id ≡ Less) cs

above_lower : (x y : List ℕ) (cs : List Content) → slice_cmp nat_cmp x y ≡ Less → AreAbove y cs → AreAbove x cs
above_lower x y [] h up = tt
above_lower x y (c ∷ cs) h up = (nat_list_cmp_total.trans x y c.id h up.0, above_lower x y cs h up.1)

none_below : (id : List ℕ) (cs : List Content) → AreAbove id cs → below id cs ≡ []
none_below id [] up = refl
none_below id (c ∷ cs) up = rw (nat_list_cmp_total.antisymm c.id id ∙ ap ordering_reverse up.0) (none_below id cs up.1)

all_above : (id : List ℕ) (cs : List Content) → AreAbove id cs → above id cs ≡ cs
all_above id [] up = refl
all_above id (c ∷ cs) up = rw (nat_list_cmp_total.antisymm c.id id ∙ ap ordering_reverse up.0) (ap (λ ds. c ∷ ds) (all_above id cs up.1))

-- a resource that is kept again
keep_first : (c : Content) (cs : List Content) → AreAbove c.id cs → keep c (c ∷ cs) ≡ c ∷ cs
keep_first c cs up = rw (tied_itself nat_list_cmp_total c.id) (λ i. none_below c.id cs up i ++ c ∷ all_above c.id cs up i)

pub keep_again : (c : Content) (cs : List Content) → IsStrictlySortedBy id_cmp cs → (k : ℕ) → k < length cs → slice_index_or cs k c ≡ c → keep c cs ≡ cs
keep_again c [] sorted k l e = absurd (omega arith)
keep_again c (d ∷ ds) sorted zero l e = subst (λ (x : Content). keep x (d ∷ ds) ≡ d ∷ ds) e (keep_first d ds (sorted_head id_cmp d ds sorted))
keep_again c (d ∷ ds) sorted (suc k) l e =
    let less : slice_cmp nat_cmp d.id c.id ≡ Less
    = All-contains (λ (x : Content). slice_cmp nat_cmp d.id x.id ≡ Less) ds c (All-from_recursion _ ds (sorted_head id_cmp d ds sorted)) (k, omega arith, e) in
    rw less (ap (λ xs. d ∷ xs) (keep_again c ds (sorted_tail id_cmp d ds sorted) k (omega arith) e))

-- those that a viewer sees are the same without a resource that it doesn't see
seen_without : (v : Viewer) (id : List ℕ) (cs : List Content) → IsStrictlySortedBy id_cmp cs → All (λ c. c.id ≡ id → sees v c ≡ false) cs
    → filter (sees v) (without id cs) ≡ filter (sees v) cs
seen_without v id [] sorted unseen = refl
seen_without v id (d ∷ ds) sorted unseen =
    let rest = seen_without v id ds (sorted_tail id_cmp d ds sorted) (All-tail (λ (c : Content). c.id ≡ id → sees v c ≡ false) d ds unseen) in
    elim (slice_cmp nat_cmp d.id id) as (λ o. slice_cmp nat_cmp d.id id ≡ o → filter (sees v) (without id (d ∷ ds)) ≡ filter (sees v) (d ∷ ds)) [
      | Less ↦ λ e. rw e (ap (λ xs. cond (sees v d) (d ∷ xs) xs) rest)
      | Equal ↦ λ e. rw (e, All-head (λ (c : Content). c.id ≡ id → sees v c ≡ false) d ds unseen (exact_bytes d.id id e)) rest
      | Greater ↦ λ e.
          (let less : slice_cmp nat_cmp id d.id ≡ Less = nat_list_cmp_total.antisymm id d.id ∙ ap ordering_reverse e in
          let up : AreAbove id (d ∷ ds) = (less, above_lower id d.id ds less (sorted_head id_cmp d ds sorted)) in
          λ i. filter (sees v) (none_below id (d ∷ ds) up i ++ all_above id (d ∷ ds) up i))
    ] refl

module _ (v : Viewer) where
  -- ---- what is alike

  pub alike_refl : (s : List Content) → IsAlike v s s
  alike_refl s = record { same_view = refl; same_control = refl; same_names = λ name. refl }

  -- two that are alike to a third
  pub alike_from : (r s t : List Content) → IsAlike v r s → IsAlike v r t → IsAlike v s t
  alike_from r s t a b = record {
    same_view = sym a.same_view ∙ b.same_view;
    same_control = sym a.same_control ∙ b.same_control;
    same_names = λ name. sym (a.same_names name) ∙ b.same_names name;
  }

  -- ---- the three quiet cases

  unseen_alike : (s t : List Content) → IsStrictlySortedBy id_cmp s → IsStrictlySortedBy id_cmp t → IsUnseen v s t → IsAlike v s t
  unseen_alike s t one two unseen =
      let same : filter (sees v) s ≡ filter (sees v) t
      = sym (seen_without v unseen.id s one unseen.unseen_before) ∙ ap (filter (sees v)) unseen.others ∙ seen_without v unseen.id t two unseen.unseen_after in
      record {
        same_view = whole_same v s t (ap (map (traits v)) same);
        same_control = ap (map (control v.policy)) same;
        same_names = unseen.names;
      }

  hidden_alike : (base : List ℕ) (s t : Store) → IsStore base s → IsStore base t → IsHidden v s.resources t.resources → IsAlike v s.resources t.resources
  hidden_alike base s t one two hidden =
      let a = hidden.old in
      let b = hidden.new in
      let cs = s.resources in
      let P = λ (c : Content). IsResource c × HasBase base c in
      let kept : All P (keep b cs) = subst (All P) (sym hidden.kept) two.sound in
      let own : IsResource a = (All-contains P cs a one.sound hidden.there).0 in
      let other : IsResource b = (All-contains P (keep b cs) b kept (Contains-append_right (below b.id cs) (b ∷ above b.id cs) b (0, omega arith, refl))).0 in
      let again : keep a cs ≡ cs = keep_again a cs one.keyed.ascending hidden.there.0 hidden.there.1 hidden.there.2 in
      let same : traits v a ≡ traits v b = λ i. record {
        kind = hidden.same_kind i;
        id = hidden.same_id i;
        rows = (sym (rows_visible v a own) ∙ ap rows hidden.same_visible ∙ rows_visible v b other) i;
        control = hidden.same_control i;
      } in
      let all : seen_traits v (keep a cs) ≡ seen_traits v (keep b cs) = traits_keep v a b same cs cs refl in
      let names = names_same v.policy a b own other hidden.same_kind hidden.same_control in
      subst₂ (IsAlike v) again hidden.kept (record {
        same_view = whole_same v (keep a cs) (keep b cs) all;
        same_control = controls_same v (keep a cs) (keep b cs) all;
        same_names = λ name. in_use_keep_same a b cs cs names name (ap (λ id. is_in_use (without id cs) name) hidden.same_id);
      })

  pub quiet_alike : (base : List ℕ) (s t : Store) → IsStore base s → IsStore base t → IsQuiet v s.resources t.resources → IsAlike v s.resources t.resources
  quiet_alike base s t one two (inl same) = subst (IsAlike v s.resources) same (alike_refl s.resources)
  quiet_alike base s t one two (inr (inl unseen)) = unseen_alike s.resources t.resources one.keyed.ascending two.keyed.ascending unseen
  quiet_alike base s t one two (inr (inr hidden)) = hidden_alike base s t one two hidden

  -- ---- turns

  abbrev next : Turn → Store → Store
  next turn store = next_store v.policy v.base turn store

  abbrev after_all : Store → List Turn → Store
  after_all store turns = run v.policy v.base store turns

  abbrev answers : Store → List Turn → List Reply
  answers store turns = replies_to v.policy v.base v.client store turns

  abbrev Come : Store → List Turn → Type 0
  Come store turns = AreTurns v.policy v.base v.client store turns

  -- the first of the turns is the client's, or another's
  answers_own : (turn : Turn) (more : List Turn) (s : Store) → is_of v.client turn ≡ true → answers s (turn ∷ more) ≡ (plan v.policy v.base turn s).reply ∷ answers (next turn s) more
  answers_own turn more s own = rw own refl

  answers_other : (turn : Turn) (more : List Turn) (s : Store) → is_of v.client turn ≡ false → answers s (turn ∷ more) ≡ answers (next turn s) more
  answers_other turn more s other = rw other refl

  filter_own : (turn : Turn) (more : List Turn) → is_of v.client turn ≡ true → filter (is_of v.client) (turn ∷ more) ≡ turn ∷ filter (is_of v.client) more
  filter_own turn more own = rw own refl

  filter_other : (turn : Turn) (more : List Turn) → is_of v.client turn ≡ false → filter (is_of v.client) (turn ∷ more) ≡ filter (is_of v.client) more
  filter_other turn more other = rw other refl

  -- turns one after another
  after_append : (xs ys : List Turn) (s : Store) → after_all s (xs ++ ys) ≡ after_all (after_all s xs) ys
  after_append [] ys s = refl
  after_append (x ∷ xs) ys s = after_append xs ys (next x s)

  come_append : (xs ys : List Turn) (s : Store) → Come s (xs ++ ys) → Come s xs × Come (after_all s xs) ys
  come_append [] ys s come = (tt, come)
  come_append (x ∷ xs) ys s come = let parts = come_append xs ys (next x s) come.2 in ((come.0, come.1, parts.0), parts.1)

  stays_store : (xs : List Turn) (s : Store) → IsStore v.base s → Come s xs → IsStore v.base (after_all s xs)
  stays_store [] s is come = is
  stays_store (x ∷ xs) s is come = stays_store xs (next x s) (next_is_store v.policy v.base x s is come.0) come.2

  -- to others' turns the client is answered nothing
  answers_append : (xs ys : List Turn) (s : Store) → AreOthers v.client xs → answers s (xs ++ ys) ≡ answers (after_all s xs) ys
  answers_append [] ys s others = refl
  answers_append (x ∷ xs) ys s others =
      answers_other x (xs ++ ys) s (All-head (λ turn. is_of v.client turn ≡ false) x xs others)
      ∙ answers_append xs ys (next x s) (All-tail (λ turn. is_of v.client turn ≡ false) x xs others)

  answers_none : (xs : List Turn) (s : Store) → AreOthers v.client xs → answers s xs ≡ []
  answers_none xs s others = ap (answers s) (sym (append-nil xs)) ∙ answers_append xs [] s others

  -- ---- turns over two stores

  -- two stores that are alike for the client, and turns that come to each
  record Meet (s t : Store) (xs ys : List Turn) : Type 0 where
    one : IsStore v.base s
    two : IsStore v.base t
    alike : IsAlike v s.resources t.resources
    come : Come s xs
    come_too : Come t ys

  -- where it is answered alike, and they are alike in the end
  abbrev EndAlike : Store → Store → List Turn → List Turn → Type 0
  EndAlike s t xs ys = (answers s xs ≡ answers t ys) × IsAlike v (after_all s xs).resources (after_all t ys).resources

  own_viewer : (turn : Turn) → is_of v.client turn ≡ true → viewer_at v.policy v.base turn ≡ v
  own_viewer turn own =
      let same : turn.request.client ≡ v.client = (bytes_decides turn.request.client v.client).0 own in λ i. record { policy = v.policy; client = same i; base = v.base }

  -- a turn of the client
  own_turn : (turn : Turn) (xs ys : List Turn) (s t : Store) → is_of v.client turn ≡ true → Meet s t (turn ∷ xs) (turn ∷ ys)
      → ((plan v.policy v.base turn s).reply ≡ (plan v.policy v.base turn t).reply) × Meet (next turn s) (next turn t) xs ys
  own_turn turn xs ys s t own meet =
      let same = own_viewer turn own in
      let alike = subst (λ (u : Viewer). IsAlike u s.resources t.resources) (sym same) meet.alike in
      let both = one_request v.policy v.base turn s t meet.one meet.two alike meet.come.0 (meet.come.1 own) (meet.come_too.1 own) in (
        both.0,
        record {
          one = next_is_store v.policy v.base turn s meet.one meet.come.0;
          two = next_is_store v.policy v.base turn t meet.two meet.come_too.0;
          alike = subst (λ (u : Viewer). IsAlike u (next turn s).resources (next turn t).resources) same both.1;
          come = meet.come.2;
          come_too = meet.come_too.2;
        },
      )

  -- turns of others in each list, which lead to what is alike
  after_others : (first second xs ys : List Turn) (s t : Store) → IsAlike v (after_all s first).resources (after_all t second).resources
      → Meet s t (first ++ xs) (second ++ ys) → Meet (after_all s first) (after_all t second) xs ys
  after_others first second xs ys s t alike meet =
      let parts = come_append first xs s meet.come in
      let parts_too = come_append second ys t meet.come_too in
      record {
        one = stays_store first s meet.one parts.0;
        two = stays_store second t meet.two parts_too.0;
        alike = alike;
        come = parts.1;
        come_too = parts_too.1;
      }

  -- a turn of another that is quiet
  after_quiet : (turn : Turn) (xs ys : List Turn) (s t : Store) → IsQuiet v s.resources (next turn s).resources → Meet s t (turn ∷ xs) ys → Meet (next turn s) t xs ys
  after_quiet turn xs ys s t quiet meet =
      let one = next_is_store v.policy v.base turn s meet.one meet.come.0 in
      record {
        one = one;
        two = meet.two;
        alike = alike_from s.resources (next turn s).resources t.resources (quiet_alike v.base s (next turn s) meet.one one quiet) meet.alike;
        come = meet.come.2;
        come_too = meet.come_too;
      }

  -- where others' turns are quiet, the client is answered as it is without them
  quiet_list : (turns : List Turn) (s t : Store) → Meet s t turns (filter (is_of v.client) turns) → AreQuiet v s turns → answers s turns ≡ answers t (filter (is_of v.client) turns)
  quiet_list [] s t meet quiet = refl
  quiet_list (turn ∷ more) s t meet quiet =
      let own_more = filter (is_of v.client) more in
      elim (cases_Bool (is_of v.client turn)) [
        | inl own ↦
            (let left = filter_own turn more own in
            let here = own_turn turn more own_more s t own (subst (Meet s t (turn ∷ more)) left meet) in
            let rest = quiet_list more (next turn s) (next turn t) here.1 quiet.1 in
            answers_own turn more s own ∙ ap₂ ◌∷◌ here.0 rest ∙ sym (ap (answers t) left ∙ answers_own turn own_more t own))
        | inr other ↦
            (let left = filter_other turn more other in
            let rest = quiet_list more (next turn s) t (after_quiet turn more own_more s t (quiet.0 other) (subst (Meet s t (turn ∷ more)) left meet)) quiet.1 in
            answers_other turn more s other ∙ rest ∙ sym (ap (answers t) left))
      ]

  -- a round: others' turns, and then one of the client, which is answered alike
  round_ends : (r : Round) (xs ys : List Turn) (s t : Store) → IsRound v.client r
      → (plan v.policy v.base r.own (after_all s r.first)).reply ≡ (plan v.policy v.base r.own (after_all t r.second)).reply
      → EndAlike (next r.own (after_all s r.first)) (next r.own (after_all t r.second)) xs ys → EndAlike s t (r.first ++ r.own ∷ xs) (r.second ++ r.own ∷ ys)
  round_ends r xs ys s t is same rest = (
    answers_append r.first (r.own ∷ xs) s is.first ∙ answers_own r.own xs (after_all s r.first) is.own ∙ ap₂ ◌∷◌ same rest.0
        ∙ sym (answers_append r.second (r.own ∷ ys) t is.second ∙ answers_own r.own ys (after_all t r.second) is.own),
    subst₂ (λ (x y : Store). IsAlike v x.resources y.resources) (sym (after_append r.first (r.own ∷ xs) s)) (sym (after_append r.second (r.own ∷ ys) t)) rest.1,
  )

  shape : (block : List Turn) (own : Turn) (rest last : List Turn) → ((block ++ own ∷ []) ++ rest) ++ last ≡ block ++ own ∷ (rest ++ last)
  shape [] own rest last = refl
  shape (x ∷ block) own rest last = ap (λ ys. x ∷ ys) (shape block own rest last)

  lists_alike : (rounds : List Round) (first second : List Turn) (s t : Store) → Meet s t (first_list rounds first) (second_list rounds second)
      → All (IsRound v.client) rounds → AreOthers v.client first → AreOthers v.client second → LeadAlike v s t rounds first second
      → EndAlike s t (first_list rounds first) (second_list rounds second)
  lists_alike [] first second s t meet each others others_too lead = (answers_none first s others ∙ sym (answers_none second t others_too), lead meet.alike)
  lists_alike (r ∷ rounds) first second s t meet each others others_too lead =
      let is = All-head (IsRound v.client) r rounds each in
      let xs = first_list rounds first in
      let ys = second_list rounds second in
      let shape_one = shape r.first r.own (flat_map (λ (x : Round). x.first ++ x.own ∷ []) rounds) first in
      let shape_two = shape r.second r.own (flat_map (λ (x : Round). x.second ++ x.own ∷ []) rounds) second in
      let before = after_others r.first r.second (r.own ∷ xs) (r.own ∷ ys) s t (lead.0 meet.alike) (subst₂ (Meet s t) shape_one shape_two meet) in
      let here = own_turn r.own xs ys (after_all s r.first) (after_all t r.second) is.own before in
      let rest = lists_alike rounds first second _ _ here.1 (All-tail (IsRound v.client) r rounds each) others others_too lead.1 in
      subst₂ (EndAlike s t) (sym shape_one) (sym shape_two) (round_ends r xs ys s t is here.0 rest)

pub two_lists : TwoLists
two_lists v s t rounds first second one two alike each others others_too come come_too lead =
    lists_alike v rounds first second s t (record { one = one; two = two; alike = alike; come = come; come_too = come_too }) each others others_too lead

pub quiet_others : QuietOthers
quiet_others v store turns is come come_too quiet =
    quiet_list v turns store store (record { one = is; two = is; alike = alike_refl v store.resources; come = come; come_too = come_too }) quiet
