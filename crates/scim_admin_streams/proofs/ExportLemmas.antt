-- The resources that an export names are found, and their documents make up the users file.
use Rattle.std.proofs.Common.{◌≡◌, ◌≢◌, ℕ, zero, suc, ◌+◌, ◌<◌, ◌≤◌, List, [], ◌∷◌, ◌++◌, append_assoc, append-nil, length, get_or, drop, map, find, filter, refl, sym, ap, ◌∙◌, subst, arith, add-one, Bool, true, false, None, Some}
use Rattle.std.specs.Prelude.{codes}
use Rattle.std.specs.List.{FoldsTo, flat_map, join_by}
use Rattle.std.proofs.Math.ListN.{drop_of_length-le}
use Rattle.std.proofs.lemmas.List.{map-append}
use Rattle.std.proofs.lemmas.Slice.Eq.{bytes_eq-Decides}
use denote.Enum.Bare.{true_same}
use Rattle.scim_schema.specs.declared.Kind.{Kind}
use Rattle.scim_schema.specs.declared.Kind.TheVariants.{User, Group}
use Rattle.scim_schema.specs.contracts.Kind.{the_type as the_kind}
use Rattle.scim_cell.specs.Content.{Content}
use Rattle.scim_cell.specs.Equality.{is_same_id}
use Rattle.scim_cell.specs.Kinds.{is_of, of_kind}
use Rattle.scim_json.specs.Stored.{stored_text}
use Rattle.scim_shelf.specs.Stores.{AreKeyed, is_at}
use Rattle.scim_shelf.proofs.Facts.{AreAbove, ids_differ, keyed_above, keyed_tail}
use Rattle.scim_command_database.specs.Exports.{users_and_groups}
use Rattle.scim_admin_streams.specs.ExportJobs.{IsShorter, name_of, text_after, text_before, end_after}
use Rattle.scim_admin_streams.specs.declared.export_jobs.ExportJob.{ExportJob}
use Rattle.scim_admin_streams.specs.declared.export_jobs.Named.{Named}
use Rattle.scim_admin_streams.specs.declared.export_jobs.Names.{Names}
use Rattle.scim_admin_streams.specs.code.Names.{TakesName}

by_test : {G : Type 0} (b : Bool) → (b ≡ true → G) → (b ≡ false → G) → G
by_test true pass fail = pass refl
by_test false pass fail = fail refl

-- ---- the names

-- a visitor that was shown resources has their names
pub names_taken : (cs : List Content) (old new : Names) → FoldsTo TakesName old cs new → new.names.items ≡ old.names.items ++ map name_of cs
names_taken [] old new h = ap (λ (n : Names). n.names.items) (sym h) ∙ sym (append-nil old.names.items)
names_taken (c ∷ cs) old new h =
    names_taken cs h.0 new h.2 ∙ ap (λ (names : List Named). names ++ map name_of cs) h.1 ∙ append_assoc old.names.items (name_of c ∷ []) (map name_of cs)

-- the users and then the groups
pub all_names : (cs : List Content) (old mid new : Names) → old.names.items ≡ [] → FoldsTo TakesName old (of_kind User cs) mid → FoldsTo TakesName mid (of_kind Group cs) new
    → new.names.items ≡ map name_of (users_and_groups cs)
all_names cs old mid new none users groups =
    names_taken (of_kind Group cs) mid new groups
    ∙ ap (λ (names : List Named). names ++ map name_of (of_kind Group cs)) (names_taken (of_kind User cs) old mid users ∙ ap (λ (names : List Named). names ++ map name_of (of_kind User cs)) none)
    ∙ sym (map-append name_of (of_kind User cs) (of_kind Group cs))

-- ---- each is found

-- each of the second resources is found among the first by its kind and its id
abbrev AreFound : List Content → List Content → Type 0
AreFound cs [] = Unit {0}
AreFound cs (x ∷ xs) = (find (is_at x.kind x.id) cs ≡ Some x) × AreFound cs xs

found_parts : (p : Content → Bool) (cs xs : List Content) → AreFound cs xs → AreFound cs (filter p xs)
found_parts p cs [] found = tt
found_parts p cs (x ∷ xs) found = by_test (p x) (λ t. rw t (found.0, found_parts p cs xs found.1)) (λ f. rw f (found_parts p cs xs found.1))

found_both : (cs xs ys : List Content) → AreFound cs xs → AreFound cs ys → AreFound cs (xs ++ ys)
found_both cs [] ys first second = second
found_both cs (x ∷ xs) ys first second = (first.0, found_both cs xs ys first.1 second)

not_at : (kind : Kind) (id : List ℕ) (d : Content) → id ≢ d.id → is_at kind id d ≡ false
not_at kind id d other =
    let differ : is_same_id id d.id ≡ false = by_test (is_same_id id d.id) (λ t. absurd (other ((bytes_eq-Decides id d.id).0 t))) (λ f. f) in
    rw differ (by_test (is_of kind d) (λ t. rw t refl) (λ f. rw f refl))

found_later : (d : Content) (cs xs : List Content) → AreAbove d.id xs → AreFound cs xs → AreFound (d ∷ cs) xs
found_later d cs [] up found = tt
found_later d cs (x ∷ xs) up found =
    (rw (not_at x.kind x.id d (λ same. ids_differ d.id x.id up.0 (sym same))) found.0, found_later d cs xs up.1 found.1)

found_own : (cs : List Content) → AreKeyed cs → AreFound cs cs
found_own [] keyed = tt
found_own (d ∷ ds) keyed =
    let kind : is_of d.kind d ≡ true = true_same the_kind d.kind d.kind refl in
    let id : is_same_id d.id d.id ≡ true = (bytes_eq-Decides d.id d.id).1 refl in
    (rw (kind, id) refl, found_later d ds ds (keyed_above d ds keyed) (found_own ds (keyed_tail d ds keyed)))

found_all : (cs : List Content) → AreKeyed cs → AreFound cs (users_and_groups cs)
found_all cs keyed =
    let own = found_own cs keyed in
    found_both cs (of_kind User cs) (of_kind Group cs) (found_parts (is_of User) cs cs own) (found_parts (is_of Group) cs cs own)

-- ---- the next one

-- The resource with the name at a place.
record IsNext (cs all : List Content) (i : ℕ) (n : Named) : Type 0 where
  pub c : Content
  pub name : n ≡ name_of c
  pub found : find (is_at c.kind c.id) cs ≡ Some c
  pub left : drop i all ≡ c ∷ drop (suc i) all

next_named : (cs all : List Content) (i : ℕ) (n : Named) → AreFound cs all → i < length (map name_of all) → n ≡ get_or (map name_of all) i n → IsNext cs all i n
next_named cs [] i n found low is = absurd (omega (arith, low))
next_named cs (c ∷ all) zero n found low is = record { c = c; name = is; found = found.0; left = refl }
next_named cs (c ∷ all) (suc i) n found low is =
    let next = next_named cs all i n found.1 (omega (arith, low)) is in
    record { c = next.c; name = next.name; found = next.found; left = next.left }

-- ---- the text

-- a document more, and those after it
more_text : (i : ℕ) (all : List Content) (c : Content) → drop i all ≡ c ∷ drop (suc i) all → text_after i all ≡ text_before i ++ (stored_text c ++ text_after (suc i) all)
more_text zero all c left =
    let rest = drop 1 all in
    ap (λ (cs : List Content). codes "[" ++ join_by stored_text (codes ",\n") cs ++ codes "]\n") left
    ∙ append_assoc (codes "[") (stored_text c ++ flat_map (λ d. codes ",\n" ++ stored_text d) rest) (codes "]\n")
    ∙ ap (λ (t : List ℕ). codes "[" ++ t) (append_assoc (stored_text c) (flat_map (λ d. codes ",\n" ++ stored_text d) rest) (codes "]\n"))
more_text (suc i) all c left =
    let later = flat_map (λ d. codes ",\n" ++ stored_text d) (drop (suc (suc i)) all) in
    ap (λ (cs : List Content). flat_map (λ d. codes ",\n" ++ stored_text d) cs ++ codes "]\n") left
    ∙ simp append_assoc

-- the end of the file
pub end_text : (i : ℕ) (all : List Content) → length all ≤ i → text_after i all ≡ end_after i
end_text zero [] none = refl
end_text zero (c ∷ all) none = absurd (omega (arith, none))
end_text (suc i) all long =
    ap (λ (cs : List Content). flat_map (λ d. codes ",\n" ++ stored_text d) cs ++ codes "]\n") (drop_of_length-le all {i = suc i} long)

-- ---- one part of an export

module _ (cs : List Content) (names : List Named) (i : ℕ) (n : Named) (keyed : AreKeyed cs) (are : names ≡ map name_of (users_and_groups cs)) (low : i < length names) (is : n ≡ get_or names i n) where
  next : IsNext cs (users_and_groups cs) i n
  next =
      next_named cs (users_and_groups cs) i n (found_all cs keyed)
      (subst (λ (ns : List Named). i < length ns) are low)
      (subst (λ (ns : List Named). n ≡ get_or ns i n) are is)

  found_next : find (is_at n.kind n.id) cs ≡ Some next.c
  found_next = ap (λ (m : Named). find (is_at m.kind m.id) cs) next.name ∙ next.found

  -- the next resource is there
  pub next_there : find (is_at n.kind n.id) cs ≢ None
  next_there none = let found = found_next in cc

  -- the text up to the next document, and that after it
  pub next_text : (c : Content) → find (is_at n.kind n.id) cs ≡ Some c → text_after i (users_and_groups cs) ≡ text_before i ++ (stored_text c ++ text_after (i + 1) (users_and_groups cs))
  next_text c found =
      let mine = found_next in
      let same : next.c ≡ c = cc in
      more_text i (users_and_groups cs) next.c next.left
      ∙ (λ k. text_before i ++ (stored_text (same k) ++ text_after (sym (add-one i) k) (users_and_groups cs)))

-- a document more is written
pub written_more : (start text before pushed new document rest later : List ℕ) → start ≡ text ++ rest → rest ≡ before ++ (document ++ later) → pushed ≡ text ++ before → new ≡ pushed ++ document → start ≡ new ++ later
written_more start text before pushed new document rest later so_far next first second =
    let regrouped : text ++ before ++ document ++ later ≡ text ++ (before ++ (document ++ later)) = simp append_assoc in
    so_far ∙ ap (λ (t : List ℕ). text ++ t) next ∙ sym regrouped ∙ (λ i. sym first i ++ document ++ later) ∙ ap (λ (t : List ℕ). t ++ later) (sym second)

-- after a part less is left
pub part_done : (old mid new : ExportJob) → old.is_done ≡ false → mid.names ≡ old.names → new ≡ record mid { is_done = true } → IsShorter old new
part_done old mid new undone names is = rw (is, undone) (omega arith)

pub part_more : (old new : ExportJob) → old.is_done ≡ false → new.names ≡ old.names → new.is_done ≡ old.is_done → old.at ≤ new.at → new.at < length new.names.items → (old.at < length old.names.items → old.at < new.at) → IsShorter old new
part_more old new undone names same above low more =
    let open_still : new.is_done ≡ false = same ∙ undone in
    let long : length new.names.items ≡ length old.names.items = (λ i. length (names i).items) in
    rw (open_still, undone) (omega (arith, long, low, more))
