-- The rows that one pass finds in order are those of resources, which the visitor took.
use Rattle.std.proofs.Common.{◌≡◌, ℕ, refl, sym, ◌∙◌, ap, subst, List, [], ◌∷◌, ◌++◌, map, drop, length, arith}
use Rattle.std.specs.Prelude.{All, IsPermutation}
use Rattle.std.specs.Ordering.{nat_cmp}
use Rattle.std.specs.declared.cmp.Ordering.TheVariants.{Less}
use Rattle.std.specs.Cmp.Lexicographic.{slice_cmp}
use Rattle.std.specs.List.{flat_map, AllByRecursion, FoldsTo, IsDistinct}
use Rattle.std.specs.List.Sorted.{IsStrictlySortedBy}
use Rattle.std.proofs.lemmas.Cmp.{nat_list_cmp_total}
use Rattle.std.proofs.lemmas.Fn.{FoldsTo-push}
use Rattle.std.proofs.lemmas.List.{map-append, append-nil, append_assoc, drop_all}
use Rattle.std.proofs.lemmas.List.Elements.{All-nil, All-cons, All-append}
use Rattle.std.proofs.lemmas.Grind.{flat_map-append}
use Rattle.std.proofs.lemmas.List.Sorted.{IsPermutation-trans}
use Rattle.std.proofs.lemmas.Map.Keys.{IsDistinct-IsPermutation}
use Rattle.sqlite_trees.proofs.ListLemmas.{IsPermutation-same, map-map, map-flat_map, all-append, all_weaker}
use Rattle.sqlite.specs.Order.{Row}
use Rattle.scim_cell.specs.Content.{Content}
use Rattle.scim_cell.specs.Ids.{id_text}
use Rattle.scim_store_tables.specs.declared.versions.Version.{Version}
use Rattle.scim_store_tables.specs.Reading.{owner_first, group_first}
use Rattle.scim_store_rows.specs.Stands.{Entry, IsEntry, resource_row, name_rows, member_row, member_rows, secret_rows}
use Rattle.scim_store_rows.proofs.Facts.{contents}
use Rattle.scim_store.specs.declared.passing.Passed.{Passed}
use Rattle.scim_store.specs.Damage.{Tables, IsEntryIn, is_shared}
use Rattle.scim_store.specs.code.Damage.{owned_names, owned_code}
use Rattle.scim_store.specs.code.Passing.{IsAbove, IsAtEnd, Passes, PassesAll, ShowsSound}
use Rattle.scim_store.proofs.HoldLemmas.{once_rising}
use Rattle.scim_store.proofs.OrderLemmas.{all_permuted}
use Rattle.scim_store.proofs.WholeLemmas.{keyed_all, shared_flips}

-- ---- in order of id

abbrev IsBelow : List ℕ → Entry → Type 0
IsBelow id e = slice_cmp nat_cmp e.content.id id ≡ Less

abbrev Rising : List Entry → Type 0
Rising = IsStrictlySortedBy (λ (a b : Entry). slice_cmp nat_cmp a.content.id b.content.id)

nil_rising : Rising []
unfolding IsStrictlySortedBy
nil_rising = tt

-- one that is above all others comes behind them
push_rising : (es : List Entry) (e : Entry) → Rising es → AllByRecursion (IsBelow e.content.id) es → Rising (es ++ e ∷ [])
unfolding IsStrictlySortedBy
push_rising [] e up low = (tt, tt)
push_rising (x ∷ es) e up low = (all-append (λ b. slice_cmp nat_cmp x.content.id b.content.id ≡ Less) es (e ∷ []) up.0 (low.0, tt), push_rising es e up.1 low.1)

push_below : (es : List Entry) (e : Entry) (id : List ℕ) → AllByRecursion (IsBelow e.content.id) es → slice_cmp nat_cmp e.content.id id ≡ Less → AllByRecursion (IsBelow id) (es ++ e ∷ [])
push_below es e id low less =
    all-append (IsBelow id) es (e ∷ []) (all_weaker (IsBelow e.content.id) (IsBelow id) (λ x h. nat_list_cmp_total.trans x.content.id e.content.id id h less) es low) (less, tt)

-- ---- one row more

module _ {V : Type 0} (Takes : V → Content → V → Type 0) (version : Version) (base : List ℕ) (tables : Tables) where
  abbrev entry_of : (row : Row) (old new : Passed) (before after : V) → Passes Takes version base tables row old new before after → Entry
  entry_of row old new before after p = record { content = p.content; document = p.row_is.document; members = p.follows.has.values; door_code = p.code }

  pub passes_none : (start : Passed) (v : V) → start.names ≡ 0 → start.members ≡ 0 → start.secrets ≡ 0 → PassesAll Takes version base tables [] start v v
  passes_none start v n m s = record {
    entries = [];
    sound = All-nil (IsEntryIn version base);
    resources = refl;
    rising = nil_rising;
    below = λ id _. tt;
    names = sym (ap (λ k. drop k tables.names) n);
    members = sym (ap (λ k. drop k tables.members) m);
    secrets = sym (ap (λ k. drop k tables.secrets) s);
    took = refl;
  }

  pub passes_more : (rows : List Row) (row : Row) (mid new : Passed) (before between after : V) → PassesAll Takes version base tables rows mid before between → Passes Takes version base tables row mid new between after → PassesAll Takes version base tables (rows ++ row ∷ []) new before after
  passes_more rows row mid new before between after all one =
      let f = one.follows in
      let e : Entry = entry_of row mid new between after one in
      let es = all.entries in
      let low = all.below e.content.id f.above in
      let listed : f.own_members ≡ map group_first (member_rows e) = f.has.members_are ∙ sym (map-map group_first (member_row e.content.id) e.members) in
      let secret : f.own_secrets ≡ secret_rows e = f.has.coded ∙ ap (owned_code (id_text e.content.id)) (sym one.row_is.kept.code) in
      let entry : IsEntry base e = record { document = one.row_is.kept; utf8 = one.row_is.utf8; code_utf8 = one.code_utf8; members = record { once = once_rising f.has.values f.has.rising; listed = f.has.listed } } in
      record {
        entries = es ++ e ∷ [];
        sound = All-append (IsEntryIn version base) es (e ∷ []) all.sound (All-cons (IsEntryIn version base) e [] (record { entry = entry; may = one.row_is.may }) (All-nil (IsEntryIn version base)));
        resources = (λ i. all.resources i ++ one.row_is.row_is i ∷ []) ∙ sym (map-append resource_row es (e ∷ []));
        rising = push_rising es e all.rising low;
        below = λ id up. push_below es e id low (subst (IsAbove id) f.last up);
        names = all.names ∙ ap (λ l. flat_map (λ (d : Entry). owned_names d.content) es ++ l) (f.names ∙ ap (λ l. l ++ drop new.names tables.names) f.has.named) ∙ followed (λ (d : Entry). owned_names d.content) es e (drop new.names tables.names);
        members = all.members ∙ ap (λ l. map group_first (flat_map member_rows es) ++ l) (f.members ∙ ap (λ l. l ++ drop new.members tables.members) listed) ∙ joined group_first member_rows es e (drop new.members tables.members);
        secrets = all.secrets ∙ ap (λ l. flat_map secret_rows es ++ l) (f.secrets ∙ ap (λ l. l ++ drop new.secrets tables.secrets) secret) ∙ followed secret_rows es e (drop new.secrets tables.secrets);
        took = subst (λ (cs : List Content). FoldsTo Takes before cs after) (sym (map-append (λ (d : Entry). d.content) es (e ∷ []))) (FoldsTo-push Takes before (contents es) between e.content after all.took one.took);
      }
    where
      followed : (g : Entry → List Row) (es : List Entry) (e : Entry) (rest : List Row) → flat_map g es ++ (g e ++ rest) ≡ flat_map g (es ++ e ∷ []) ++ rest
      followed g es e rest = sym (append_assoc (flat_map g es) (g e) rest) ∙ ap (λ l. l ++ rest) (ap (λ l. flat_map g es ++ l) (sym (append-nil (g e))) ∙ sym (flat_map-append g es (e ∷ [])))

      joined : (f : Row → Row) (g : Entry → List Row) (es : List Entry) (e : Entry) (rest : List Row) → map f (flat_map g es) ++ (map f (g e) ++ rest) ≡ map f (flat_map g (es ++ e ∷ [])) ++ rest
      joined f g es e rest =
          sym (append_assoc (map f (flat_map g es)) (map f (g e)) rest)
          ∙ ap (λ l. l ++ rest) (sym (map-append f (flat_map g es) (g e)) ∙ ap (map f) (ap (λ l. flat_map g es ++ l) (sym (append-nil (g e))) ∙ sym (flat_map-append g es (e ∷ []))))

  -- ---- all rows

  pub passes_whole : (end : Passed) (before after : V) → PassesAll Takes version base tables tables.resources end before after → IsAtEnd tables end → IsDistinct is_shared tables.names → ShowsSound Takes version base tables before after
  passes_whole end before after all at distinct =
      let es = all.entries in
      let follow : tables.names ≡ flat_map (λ (e : Entry). owned_names e.content) es =
      all.names ∙ ap (λ l. flat_map (λ (e : Entry). owned_names e.content) es ++ l) (ap (λ k. drop k tables.names) at.names ∙ drop_all (length tables.names) tables.names (omega arith)) ∙ append-nil _ in
      let names : IsPermutation tables.names (map owner_first (flat_map name_rows es)) = IsPermutation-trans _ _ _ (IsPermutation-same _ _ follow) (all_permuted es) in
      let members : tables.members ≡ map group_first (flat_map member_rows es) =
      all.members ∙ ap (λ l. map group_first (flat_map member_rows es) ++ l) (ap (λ k. drop k tables.members) at.members ∙ drop_all (length tables.members) tables.members (omega arith)) ∙ append-nil (map group_first (flat_map member_rows es)) in
      let secrets : tables.secrets ≡ flat_map secret_rows es =
      all.secrets ∙ ap (λ l. flat_map secret_rows es ++ l) (ap (λ k. drop k tables.secrets) at.secrets ∙ drop_all (length tables.secrets) tables.secrets (omega arith)) ∙ append-nil (flat_map secret_rows es) in
      record {
        entries = es;
        are = record {
          sound = all.sound;
          keyed = keyed_all es all.rising (subst (IsDistinct is_shared) (map-flat_map owner_first name_rows es) (IsDistinct-IsPermutation is_shared shared_flips _ _ names distinct));
          resources = IsPermutation-same _ _ all.resources;
          names = names;
          members = IsPermutation-same _ _ members;
          secrets = IsPermutation-same _ _ secrets;
        };
        resources = all.resources;
        secrets = secrets;
        rising = all.rising;
        took = all.took;
      }
