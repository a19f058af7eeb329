-- Values that are read back as they were written: arrays of them, and objects whose keys ascend.
use Rattle.std.proofs.Common.{◌≡◌, ℕ, suc, ◌≤◌, List, [], ◌∷◌, true, false, Option, Some, None, option_map, Ordering, Less, Equal, Greater, nat_cmp, refl, sym, ap, ◌∙◌, arith}
use Rattle.std.specs.Prelude.{⊤}
use Rattle.std.specs.List.{list_all}
use Rattle.std.specs.Ordering.{is_lt, ordering_reverse, match_ordering}
use Rattle.std.specs.Cmp.Lexicographic.{slice_cmp}
use Rattle.std.proofs.lemmas.Bool.{and_parts}
use Rattle.std.proofs.lemmas.Cmp.{nat_list_cmp_total}
use Rattle.json.specs.Tree as tree
use Rattle.serde_json.specs.Data.{Data, array, object, Items, no_items, item, Members, no_members, member, put}
use Rattle.serde_json.specs.Read.{of_json, of_items, of_members}
use Rattle.serde_json.specs.Written.{outline, items_outline, members_outline, has_float, items_have_float, members_have_float}
use Rattle.scim_schema.specs.JsonKeys.{is_ascending}
use Rattle.scim_json.specs.PartData.{with_member, members_where, object_of, items_of, array_of}

-- ---- members put in at the end

-- the key comes after each key of the members
abbrev pub IsAbove : List ℕ → Members → Type 0
IsAbove k no_members = ⊤
IsAbove k (member l d ms) = (slice_cmp nat_cmp k l ≡ Greater) × IsAbove k ms

-- the members of both, in order
abbrev pub join : Members → Members → Members
join no_members rest = rest
join (member k d ms) rest = member k d (join ms rest)

-- what is less is greater the other way round
reversed : (o : Ordering) → is_lt o ≡ true → ordering_reverse o ≡ Greater
reversed Less h = refl
reversed Equal h = absurd (cc)
reversed Greater h = absurd (cc)

-- of two texts, the second comes after the first where the first comes before it
after : (k l : List ℕ) → is_lt (slice_cmp nat_cmp k l) ≡ true → slice_cmp nat_cmp l k ≡ Greater
after k l h = nat_list_cmp_total.antisymm l k ∙ reversed (slice_cmp nat_cmp k l) h

-- a key after all members is put at the end
put-above : (k : List ℕ) (d : Data) (ms : Members) → IsAbove k ms → put k d ms ≡ join ms (member k d no_members)
put-above k d no_members h = refl
put-above k d (member l e ms) h = ap (λ o. match_ordering o (member k d (member l e ms)) (member l d ms) (member l e (put k d ms))) h.0 ∙ ap (member l e) (put-above k d ms h.1)

-- a key after all members and after one more is after them together
IsAbove-join : (k l : List ℕ) (d : Data) (ms : Members) → IsAbove k ms → slice_cmp nat_cmp k l ≡ Greater → IsAbove k (join ms (member l d no_members))
IsAbove-join k l d no_members h e = (e, tt)
IsAbove-join k l d (member m f ms) h e = (h.0, IsAbove-join k l d ms h.1 e)

-- joining is associative
join-join : (a b c : Members) → join (join a b) c ≡ join a (join b c)
join-join no_members b c = refl
join-join (member k d a) b c = ap (member k d) (join-join a b c)

-- joining nothing changes nothing
join-none : (a : Members) → join a no_members ≡ a
join-none no_members = refl
join-none (member k d a) = ap (member k d) (join-none a)

module _ {K : Type 0} (name : K → List ℕ) where
  -- each of the keys comes after all members
  abbrev Above : Members → List K → Type 0
  Above found [] = ⊤
  Above found (k ∷ ks) = IsAbove (name k) found × Above found ks

  -- keys after all members and after one more are after them together
  Above-join : (found : Members) (j : K) (d : Data) (ks : List K) → Above found ks → list_all (λ k. is_lt (slice_cmp nat_cmp (name j) (name k))) ks ≡ true → Above (join found (member (name j) d no_members)) ks
  Above-join found j d [] h b = tt
  Above-join found j d (k ∷ ks) h b =
      let p = and_parts (is_lt (slice_cmp nat_cmp (name j) (name k))) (list_all (λ l. is_lt (slice_cmp nat_cmp (name j) (name l))) ks) b in
      (IsAbove-join (name k) (name j) d found h.0 (after (name j) (name k) p.0), Above-join found j d ks h.1 p.1)

  -- all keys come after no members
  Above-none : (ks : List K) → Above no_members ks
  Above-none [] = tt
  Above-none (k ∷ ks) = (tt, Above-none ks)

-- ---- values that are read back

-- the value is read back as it was written, has no float, spells its numbers as JSON does, and nests at most n deep
pub record IsKept (n : ℕ) (d : Data) : Type 0 where
  pub reads : of_json (outline d) ≡ Some d
  pub exact : has_float d ≡ false
  pub numbered : tree.HasNumbers (outline d)
  pub shallow : tree.depth (outline d) ≤ n

-- so is the value, if there is one
abbrev pub IfKept : ℕ → Option Data → Type 0
IfKept n None = ⊤
IfKept n (Some d) = IsKept n d

-- so are the items
pub record AreKept (n : ℕ) (ds : Items) : Type 0 where
  pub reads : of_items (items_outline ds) ≡ Some ds
  pub exact : items_have_float ds ≡ false
  pub numbered : tree.ItemsHaveNumbers (items_outline ds)
  pub shallow : tree.items_depth (items_outline ds) ≤ n

-- a value that nests at most n deep nests at most n + 1 deep
pub deeper : (n : ℕ) (o : Option Data) → IfKept n o → IfKept (suc n) o
deeper n None h = tt
deeper n (Some d) h = record { reads = h.reads; exact = h.exact; numbered = h.numbered; shallow = omega (arith, h.shallow) }

-- ---- arrays

-- no items
AreKept-none : (n : ℕ) → AreKept n no_items
AreKept-none n = record { reads = refl; exact = refl; numbered = tt; shallow = omega arith }

-- an item before items
pub AreKept-item : (n : ℕ) (d : Data) (ds : Items) → IsKept n d → AreKept n ds → AreKept n (item d ds)
AreKept-item n d ds h t = record {
  reads = rw (h.reads, t.reads);
  exact = rw (h.exact, t.exact);
  numbered = (h.numbered, t.numbered);
  shallow = omega (arith, h.shallow, t.shallow);
}

-- the items of a list
pub AreKept-items : {V : Type 0} (n : ℕ) (value : V → Data) → ((v : V) → IsKept n (value v)) → (vs : List V) → AreKept n (items_of value vs)
AreKept-items n value each [] = AreKept-none n
AreKept-items n value each (v ∷ vs) = AreKept-item n (value v) (items_of value vs) (each v) (AreKept-items n value each vs)

-- an array of items
pub IsKept-array : (n : ℕ) (ds : Items) → AreKept n ds → IsKept (suc n) (array ds)
IsKept-array n ds t = record { reads = rw t.reads; exact = t.exact; numbered = t.numbered; shallow = omega (arith, t.shallow) }

-- an array that is left out where it would be empty
pub IfKept-array_of : (n : ℕ) (ds : Items) → AreKept n ds → IfKept (suc n) (array_of ds)
IfKept-array_of n no_items t = tt
IfKept-array_of n (item d ds) t = IsKept-array n (item d ds) t

-- ---- objects

module _ {K : Type 0} (name : K → List ℕ) (value : K → Option Data) (n : ℕ) (each : (k : K) → IfKept n (value k)) where
  -- a member is read after those found before it
  reads_with : (found : Members) (k : List ℕ) (o : Option Data) (ms : Members) → IfKept n o → IsAbove k found
      → ((d : Data) → of_members (members_outline ms) (join found (member k d no_members)) ≡ Some (join (join found (member k d no_members)) ms))
      → of_members (members_outline ms) found ≡ Some (join found ms)
      → of_members (members_outline (with_member k o ms)) found ≡ Some (join found (with_member k o ms))
  reads_with found k None ms h a more same = same
  reads_with found k (Some d) ms h a more same = rw (h.reads, put-above k d found a, more d) (ap Some (join-join found (member k d no_members) ms))

  -- members whose keys ascend are read in their order
  reads_members : (ks : List K) (found : Members) → is_ascending name ks ≡ true → Above name found ks → of_members (members_outline (members_where name value ks)) found ≡ Some (join found (members_where name value ks))
  reads_members [] found h a = ap Some (sym (join-none found))
  reads_members (k ∷ ks) found h a =
      let p = and_parts (list_all (λ l. is_lt (slice_cmp nat_cmp (name k) (name l))) ks) (is_ascending name ks) h in
      reads_with found (name k) (value k) (members_where name value ks) (each k) a.0
      (λ d. reads_members ks (join found (member (name k) d no_members)) p.1 (Above-join name found k d ks a.1 p.0))
      (reads_members ks found p.1 a.1)

  -- a member more has no float
  exact_with : (k : List ℕ) (o : Option Data) (ms : Members) → IfKept n o → members_have_float ms ≡ false → members_have_float (with_member k o ms) ≡ false
  exact_with k None ms h e = e
  exact_with k (Some d) ms h e = rw (h.exact, e)

  -- a member more spells its numbers so
  numbered_with : (k : List ℕ) (o : Option Data) (ms : Members) → IfKept n o → tree.MembersHaveNumbers (members_outline ms) → tree.MembersHaveNumbers (members_outline (with_member k o ms))
  numbered_with k None ms h e = e
  numbered_with k (Some d) ms h e = (h.numbered, e)

  -- a member more nests no deeper than n
  shallow_with : (k : List ℕ) (o : Option Data) (ms : Members) → IfKept n o → tree.members_depth (members_outline ms) ≤ n → tree.members_depth (members_outline (with_member k o ms)) ≤ n
  shallow_with k None ms h e = e
  shallow_with k (Some d) ms h e = omega (arith, h.shallow)

  -- no member has a float
  exact_members : (ks : List K) → members_have_float (members_where name value ks) ≡ false
  exact_members [] = refl
  exact_members (k ∷ ks) = exact_with (name k) (value k) _ (each k) (exact_members ks)

  -- all members do
  numbered_members : (ks : List K) → tree.MembersHaveNumbers (members_outline (members_where name value ks))
  numbered_members [] = tt
  numbered_members (k ∷ ks) = numbered_with (name k) (value k) _ (each k) (numbered_members ks)

  -- no member nests deeper than n
  shallow_members : (ks : List K) → tree.members_depth (members_outline (members_where name value ks)) ≤ n
  shallow_members [] = omega arith
  shallow_members (k ∷ ks) = shallow_with (name k) (value k) _ (each k) (shallow_members ks)

  -- an object whose keys ascend
  pub IsKept-object : (ks : List K) → is_ascending name ks ≡ true → IsKept (suc n) (object (members_where name value ks))
  IsKept-object ks h = record {
    reads = ap (option_map object) (reads_members ks no_members h (Above-none name ks));
    exact = exact_members ks;
    numbered = numbered_members ks;
    shallow = let s = shallow_members ks in omega (arith, s);
  }

-- an object that is left out where it would be empty
pub IfKept-object_of : (n : ℕ) (ms : Members) → IsKept n (object ms) → IfKept n (object_of ms)
IfKept-object_of n no_members h = tt
IfKept-object_of n (member k d ms) h = h
