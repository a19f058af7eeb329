-- What is found by its place or by its name.
use Rattle.std.proofs.Common.{◌≡◌, ◌≢◌, ℕ, zero, suc, ◌+◌, ◌<◌, refl, sym, ap, subst, ◌∙◌, true, false, Bool, List, [], ◌∷◌, ◌++◌, append_assoc, map, length, arith, cond, not, ◌&&◌, get_or, ◌⊎◌, ◌≤◌, inl, inr}
use Rattle.std.specs.Prelude.{◌==◌, Option, None, Some, IfSome, option_map, IsUtf8, MatchBool, codes, find, slice_get}
use Rattle.std.specs.List.{range_with_len, list_all}
use Rattle.std.specs.Option.{is_some, option_copied}
use Rattle.std.specs.Str.{bytes_eq}
use Rattle.std.specs.Char.{is_ascii}
use denote.Bor.{Bor}
use Rattle.std.proofs.Math.Dec.{ltb}
use Rattle.std.proofs.lemmas.Bool.{cases_lt, ltb-false, ltb-true}
use Rattle.std.proofs.lemmas.Option.{slice_get_past, slice_get_read}
use Rattle.std.proofs.lemmas.Slice.Eq.{bytes_eq-Decides}
use Rattle.std.proofs.lemmas.Str.{IsUtf8-append, IsUtf8-from_ascii}
use Rattle.std.proofs.lemmas.List.{get_or_past}
use Rattle.std.proofs.lemmas.Bool.Decides.{nat_tests}
use Rattle.sqlite.specs.declared.types.Value.{Value}
use Rattle.sqlite.specs.declared.types.Value.TheVariants.{Null, Text}
use Rattle.sqlite.specs.Values.{or_null}
use Rattle.scim_schema.proofs.Facts.{and_first, and_second}
use Rattle.scim_schema.specs.declared.Leaf.{Leaf}
use Rattle.scim_cell.specs.Ids.{IsId, IsIdText, IsLowerHexDigit, id_text}
use Rattle.scim_cell.proofs.Facts.{IsIdText-id_text}
use Rattle.scim_audit.specs.Rows.{path_of, leaf_path}
use Rattle.scim_schema.specs.declared.Kind.{Kind}
use Rattle.scim_schema.specs.declared.Kind.TheVariants.{User, Group}
use Rattle.scim_schema.specs.declared.Op.{Op}
use Rattle.scim_schema.specs.declared.Op.TheVariants.{Read, Create, Modify, Delete}
use Rattle.scim_schema.specs.Names.{kinds, operations, attribute_name, sub_attribute_name}
use Rattle.scim_schema.specs.Table.{attributes}
use Rattle.scim_schema.specs.declared.Attribute.{Attribute}
use Rattle.scim_schema.specs.declared.Attribute.TheVariants as attribute
use Rattle.scim_schema.specs.declared.SubAttribute.{SubAttribute}
use Rattle.scim_schema.specs.declared.SubAttribute.TheVariants as sub
use Rattle.scim_audit.specs.declared.audit_rows.Decided.{Decided}
use Rattle.scim_audit.specs.declared.audit_rows.Decided.TheVariants.{Allow, Deny, Hidden, Absent, Refused}
use Rattle.scim_audit.specs.declared.refusals.Refusal.{Refusal}
use Rattle.scim_audit.specs.declared.refusals.Refusal.TheVariants.{BadHead, TooLarge, BadFraming, UnknownCoding, NoRoute, NotSupported, BadMethod, NoToken, Syntax, Filter, Path, MessageValue, NotFound, Denied, Mutability, NoTarget, ResultValue, Taken, Widens, IdInUse, Store}
use Rattle.scim_store_rows.specs.Audit.{kind_number, op_number, decided_number, refusal_number}
use Rattle.scim_store_rows.specs.AuditBack.{ReadsBack, Any, IsAnyLeaf}
use Rattle.scim_schema.specs.Names.{all_sub_attributes}
use Rattle.scim_audit.specs.Refusals.{refusals}
use Rattle.scim_audit.specs.Rows.{decisions}

-- ---- by a place

-- what a look into a list gives
pub looked_up : {X : Type 0} (xs : List X) (n : ℕ) (o : Option (Bor X)) → is_some o ≡ ltb n (length xs) → IfSome o (λ x. x.now ≡ get_or xs n x.now) → option_copied o ≡ slice_get xs n
looked_up xs n None past is = sym (slice_get_past xs n (ltb-false n (length xs) (sym past)))
looked_up xs n (Some x) within is = sym (slice_get_read xs (length xs) n x.now refl (ltb-true n (length xs) (sym within)) is)

-- where all stand in a list in order of their numbers from k, the one at a place is found
placed : {X : Type 0} (image : X → ℕ) (xs : List X) (k n : ℕ) → map image xs ≡ range_with_len k (length xs) → ((x : X) → image x < k + length xs) → ReadsBack Any image (k + n) (slice_get xs n)
placed image [] k n are all = λ x _. (λ e. omega (arith, e, all x))
placed image (x ∷ xs) k zero are all = (let first : image x ≡ k = cc in (tt, omega (arith, first)))
placed image (x ∷ xs) k (suc n) are all =
    let rest : map image xs ≡ range_with_len (k + 1) (length xs) = cc in
    let place : k + 1 + n ≡ k + suc n = omega arith in
    subst (λ m. ReadsBack Any image m (slice_get xs n)) place (placed image xs (k + 1) n rest (λ y. omega (arith, all y)))

-- from 0
in_place : {X : Type 0} (image : X → ℕ) (xs : List X) (n : ℕ) → map image xs ≡ range_with_len 0 (length xs) → ((x : X) → image x < length xs) → ReadsBack Any image n (slice_get xs n)
in_place image xs n are all = subst (λ m. ReadsBack Any image m (slice_get xs n)) (let z : 0 + n ≡ n = omega arith in z) (placed image xs 0 n are (λ x. omega (arith, all x)))

pub kind_placed : (n : ℕ) → ReadsBack Any kind_number n (slice_get kinds n)
kind_placed n = in_place kind_number kinds n refl low
  where
    low : (kind : Kind) → kind_number kind < 2
    low User = omega arith
    low Group = omega arith

pub op_placed : (n : ℕ) → ReadsBack Any op_number n (slice_get operations n)
op_placed n = in_place op_number operations n refl low
  where
    low : (op : Op) → op_number op < 4
    low Read = omega arith
    low Create = omega arith
    low Modify = omega arith
    low Delete = omega arith

pub decided_placed : (n : ℕ) → ReadsBack Any decided_number n (slice_get decisions n)
unfolding decisions
decided_placed n = in_place decided_number decisions n refl low
  where
    low : (decided : Decided) → decided_number decided < 5
    low Allow = omega arith
    low Deny = omega arith
    low Hidden = omega arith
    low Absent = omega arith
    low Refused = omega arith

pub refusal_placed : (n : ℕ) → ReadsBack Any refusal_number n (slice_get refusals n)
unfolding refusals
refusal_placed n = in_place refusal_number refusals n refl low
  where
    low : (refusal : Refusal) → refusal_number refusal < 21
    low BadHead = omega arith
    low TooLarge = omega arith
    low BadFraming = omega arith
    low UnknownCoding = omega arith
    low NoRoute = omega arith
    low NotSupported = omega arith
    low (BadMethod methods) = omega arith
    low NoToken = omega arith
    low Syntax = omega arith
    low Filter = omega arith
    low Path = omega arith
    low MessageValue = omega arith
    low NotFound = omega arith
    low Denied = omega arith
    low Mutability = omega arith
    low NoTarget = omega arith
    low ResultValue = omega arith
    low Taken = omega arith
    low Widens = omega arith
    low IdInUse = omega arith
    low Store = omega arith

-- ---- by a name

-- whether a text is ASCII
abbrev pub is_plain : List ℕ → Bool
is_plain text = list_all is_ascii text

plain_utf8 : (text : List ℕ) → is_plain text ≡ true → IsUtf8 text
plain_utf8 text plain = IsUtf8-from_ascii text (ascii text plain)
  where
    ascii : (text : List ℕ) → is_plain text ≡ true → (i : ℕ) → get_or text i 0 < 128
    ascii [] plain i = omega arith
    ascii (c ∷ cs) plain zero = (let low : ltb c 128 ≡ true = and_first (ltb c 128) (is_plain cs) plain in grind (arith, nat_tests, low))
    ascii (c ∷ cs) plain (suc i) = ascii cs (and_second (ltb c 128) (is_plain cs) plain) i

-- the first that has the name
abbrev pub with_name : {X : Type 0} → (X → List ℕ) → List X → List ℕ → Option X
with_name name xs text = find (λ x. bytes_eq (name x) text) xs

-- what is found has the name
found_name : {X : Type 0} (name : X → List ℕ) (xs : List X) (text : List ℕ) (x : X) → with_name name xs text ≡ Some x → name x ≡ text
found_name name [] text x is = absurd cc
found_name name (y ∷ ys) text x is = go (bytes_eq (name y) text) refl is (found_name name ys text x)
  where
    go : (b : Bool) → bytes_eq (name y) text ≡ b → cond b (Some y) (with_name name ys text) ≡ Some x → (with_name name ys text ≡ Some x → name x ≡ text) → name x ≡ text
    go true e is rest = ap name (let one : x ≡ y = cc in one) ∙ (bytes_eq-Decides (name y) text).0 e
    go false e is rest = rest is

-- among all of which each is found by its own name, which is ASCII, just what has a name is found by it
named : {X : Type 0} (name : X → List ℕ) (xs : List X) (text : List ℕ) → ((x : X) → is_some (with_name name xs (name x)) && is_plain (name x) ≡ true) → ReadsBack Any name text (with_name name xs text)
named name xs text each = go (with_name name xs text) refl
  where
    go : (o : Option _) → with_name name xs text ≡ o → ReadsBack Any name text o
    go None none = λ x _ e. (let c : false ≡ true = ap is_some (sym none) ∙ ap (λ t. is_some (with_name name xs t)) (sym e) ∙ and_first (is_some (with_name name xs (name x))) (is_plain (name x)) (each x) in cc)
    go (Some x) is = (tt, found_name name xs text x is)

-- the attributes of both kinds
abbrev all_attributes : List Attribute
all_attributes = attributes User ++ attributes Group

-- each attribute is found by its own name, which is ASCII
each_attribute : (a : Attribute) → is_some (with_name attribute_name all_attributes (attribute_name a)) && is_plain (attribute_name a) ≡ true
each_attribute attribute.Id = refl
each_attribute attribute.ExternalId = refl
each_attribute attribute.UserName = refl
each_attribute attribute.Name = refl
each_attribute attribute.DisplayName = refl
each_attribute attribute.NickName = refl
each_attribute attribute.ProfileUrl = refl
each_attribute attribute.Title = refl
each_attribute attribute.UserType = refl
each_attribute attribute.PreferredLanguage = refl
each_attribute attribute.Locale = refl
each_attribute attribute.Timezone = refl
each_attribute attribute.Active = refl
each_attribute attribute.Password = refl
each_attribute attribute.Emails = refl
each_attribute attribute.PhoneNumbers = refl
each_attribute attribute.Ims = refl
each_attribute attribute.Photos = refl
each_attribute attribute.Addresses = refl
each_attribute attribute.Groups = refl
each_attribute attribute.Entitlements = refl
each_attribute attribute.Roles = refl
each_attribute attribute.X509Certificates = refl
each_attribute attribute.EmployeeNumber = refl
each_attribute attribute.CostCenter = refl
each_attribute attribute.Organization = refl
each_attribute attribute.Division = refl
each_attribute attribute.Department = refl
each_attribute attribute.Manager = refl
each_attribute attribute.Badge = refl
each_attribute attribute.Note = refl
each_attribute attribute.DoorCode = refl
each_attribute attribute.Members = refl
each_attribute attribute.Meta = refl

-- so is each sub-attribute
each_sub_attribute : (b : SubAttribute) → is_some (with_name sub_attribute_name all_sub_attributes (sub_attribute_name b)) && is_plain (sub_attribute_name b) ≡ true
unfolding all_sub_attributes
each_sub_attribute sub.Formatted = refl
each_sub_attribute sub.FamilyName = refl
each_sub_attribute sub.GivenName = refl
each_sub_attribute sub.MiddleName = refl
each_sub_attribute sub.HonorificPrefix = refl
each_sub_attribute sub.HonorificSuffix = refl
each_sub_attribute sub.Value = refl
each_sub_attribute sub.Reference = refl
each_sub_attribute sub.Display = refl
each_sub_attribute sub.TypeName = refl
each_sub_attribute sub.Primary = refl
each_sub_attribute sub.StreetAddress = refl
each_sub_attribute sub.Locality = refl
each_sub_attribute sub.Region = refl
each_sub_attribute sub.PostalCode = refl
each_sub_attribute sub.Country = refl
each_sub_attribute sub.DisplayName = refl
each_sub_attribute sub.ResourceType = refl
each_sub_attribute sub.Created = refl
each_sub_attribute sub.LastModified = refl
each_sub_attribute sub.Location = refl

pub sub_attribute_named : (text : List ℕ) → ReadsBack Any sub_attribute_name text (with_name sub_attribute_name all_sub_attributes text)
sub_attribute_named text = named sub_attribute_name all_sub_attributes text each_sub_attribute

-- what is found in a second list, where nothing is found in a first one, is found in both
with_name-append : {X : Type 0} (name : X → List ℕ) (xs ys : List X) (text : List ℕ) → with_name name xs text ≡ None → with_name name (xs ++ ys) text ≡ with_name name ys text
with_name-append name [] ys text none = refl
with_name-append name (x ∷ xs) ys text none = go (bytes_eq (name x) text) none (with_name-append name xs ys text)
  where
    go : (b : Bool) → cond b (Some x) (with_name name xs text) ≡ None → (with_name name xs text ≡ None → with_name name (xs ++ ys) text ≡ with_name name ys text) → cond b (Some x) (with_name name (xs ++ ys) text) ≡ with_name name ys text
    go true none rest = absurd cc
    go false none rest = rest none

pub user_attribute_named : (text : List ℕ) (a : Attribute) → with_name attribute_name (attributes User) text ≡ Some a → ReadsBack Any attribute_name text (Some a)
user_attribute_named text a is = (tt, found_name attribute_name (attributes User) text a is)

pub group_attribute_named : (text : List ℕ) → with_name attribute_name (attributes User) text ≡ None → ReadsBack Any attribute_name text (with_name attribute_name (attributes Group) text)
group_attribute_named text none = subst (ReadsBack Any attribute_name text) (with_name-append attribute_name (attributes User) (attributes Group) text none) (named attribute_name all_attributes text each_attribute)

-- ---- texts

-- the path of a leaf is a text
pub path_utf8 : (leaf : Leaf) → IsUtf8 (leaf_path leaf)
path_utf8 leaf = go leaf.attribute leaf.sub_attribute
  where
    name : (a : Attribute) → IsUtf8 (attribute_name a)
    name a = plain_utf8 (attribute_name a) (and_second (is_some (with_name attribute_name all_attributes (attribute_name a))) (is_plain (attribute_name a)) (each_attribute a))

    sub_name : (b : SubAttribute) → IsUtf8 (sub_attribute_name b)
    sub_name b = plain_utf8 (sub_attribute_name b) (and_second (is_some (with_name sub_attribute_name all_sub_attributes (sub_attribute_name b))) (is_plain (sub_attribute_name b)) (each_sub_attribute b))

    go : (a : Attribute) (b : Option SubAttribute) → IsUtf8 (path_of a b)
    go a None = name a
    go a (Some b) = IsUtf8-append (attribute_name a ++ codes ".") (sub_attribute_name b) (IsUtf8-append (attribute_name a) (codes ".") (name a) (plain_utf8 (codes ".") refl)) (sub_name b)

-- so is the text of an id
pub id_utf8 : (id : List ℕ) → IsUtf8 (id_text id)
id_utf8 id = IsUtf8-from_ascii (id_text id) small
  where
    low : (b : Bool) (c : ℕ) → MatchBool b (c ≡ 45) (IsLowerHexDigit c) → c < 128
    low true c is = omega (arith, is)
    low false c (inl digit) = omega (arith, digit.1)
    low false c (inr letter) = omega (arith, letter.1)

    at : (i : ℕ) → (i < length (id_text id)) ⊎ (length (id_text id) ≤ i) → get_or (id_text id) i 0 < 128
    at i (inl within) = low _ (get_or (id_text id) i 0) ((IsIdText-id_text id).characters i within)
    at i (inr past) = rw (get_or_past (id_text id) i 0 past) (omega arith)

    small : (i : ℕ) → get_or (id_text id) i 0 < 128
    small i = at i (cases_lt i (length (id_text id)))

-- ---- a leaf has one path

-- among all of which each is found by its own name, no two have one name
one_named : {X : Type 0} (name : X → List ℕ) (xs : List X) → ((x : X) → with_name name xs (name x) ≡ Some x) → (x y : X) → name x ≡ name y → x ≡ y
one_named {X} name xs each x y same = some (sym (each x) ∙ ap (with_name name xs) same ∙ each y)
  where
    some : {a b : X} → Some a ≡ Some b → a ≡ b
    some h = cc

attribute_found : (a : Attribute) → with_name attribute_name all_attributes (attribute_name a) ≡ Some a
attribute_found attribute.Id = refl
attribute_found attribute.ExternalId = refl
attribute_found attribute.UserName = refl
attribute_found attribute.Name = refl
attribute_found attribute.DisplayName = refl
attribute_found attribute.NickName = refl
attribute_found attribute.ProfileUrl = refl
attribute_found attribute.Title = refl
attribute_found attribute.UserType = refl
attribute_found attribute.PreferredLanguage = refl
attribute_found attribute.Locale = refl
attribute_found attribute.Timezone = refl
attribute_found attribute.Active = refl
attribute_found attribute.Password = refl
attribute_found attribute.Emails = refl
attribute_found attribute.PhoneNumbers = refl
attribute_found attribute.Ims = refl
attribute_found attribute.Photos = refl
attribute_found attribute.Addresses = refl
attribute_found attribute.Groups = refl
attribute_found attribute.Entitlements = refl
attribute_found attribute.Roles = refl
attribute_found attribute.X509Certificates = refl
attribute_found attribute.EmployeeNumber = refl
attribute_found attribute.CostCenter = refl
attribute_found attribute.Organization = refl
attribute_found attribute.Division = refl
attribute_found attribute.Department = refl
attribute_found attribute.Manager = refl
attribute_found attribute.Badge = refl
attribute_found attribute.Note = refl
attribute_found attribute.DoorCode = refl
attribute_found attribute.Members = refl
attribute_found attribute.Meta = refl

-- no two attributes have one name
pub name_one : (a b : Attribute) → attribute_name a ≡ attribute_name b → a ≡ b
name_one a b same = one_named attribute_name all_attributes attribute_found a b same

sub_attribute_found : (b : SubAttribute) → with_name sub_attribute_name all_sub_attributes (sub_attribute_name b) ≡ Some b
unfolding all_sub_attributes
sub_attribute_found sub.Formatted = refl
sub_attribute_found sub.FamilyName = refl
sub_attribute_found sub.GivenName = refl
sub_attribute_found sub.MiddleName = refl
sub_attribute_found sub.HonorificPrefix = refl
sub_attribute_found sub.HonorificSuffix = refl
sub_attribute_found sub.Value = refl
sub_attribute_found sub.Reference = refl
sub_attribute_found sub.Display = refl
sub_attribute_found sub.TypeName = refl
sub_attribute_found sub.Primary = refl
sub_attribute_found sub.StreetAddress = refl
sub_attribute_found sub.Locality = refl
sub_attribute_found sub.Region = refl
sub_attribute_found sub.PostalCode = refl
sub_attribute_found sub.Country = refl
sub_attribute_found sub.DisplayName = refl
sub_attribute_found sub.ResourceType = refl
sub_attribute_found sub.Created = refl
sub_attribute_found sub.LastModified = refl
sub_attribute_found sub.Location = refl

-- whether a text has no point
abbrev has_no_point : List ℕ → Bool
has_no_point text = list_all (λ c. not (c == 46)) text

attribute_pointless : (a : Attribute) → has_no_point (attribute_name a) ≡ true
attribute_pointless attribute.Id = refl
attribute_pointless attribute.ExternalId = refl
attribute_pointless attribute.UserName = refl
attribute_pointless attribute.Name = refl
attribute_pointless attribute.DisplayName = refl
attribute_pointless attribute.NickName = refl
attribute_pointless attribute.ProfileUrl = refl
attribute_pointless attribute.Title = refl
attribute_pointless attribute.UserType = refl
attribute_pointless attribute.PreferredLanguage = refl
attribute_pointless attribute.Locale = refl
attribute_pointless attribute.Timezone = refl
attribute_pointless attribute.Active = refl
attribute_pointless attribute.Password = refl
attribute_pointless attribute.Emails = refl
attribute_pointless attribute.PhoneNumbers = refl
attribute_pointless attribute.Ims = refl
attribute_pointless attribute.Photos = refl
attribute_pointless attribute.Addresses = refl
attribute_pointless attribute.Groups = refl
attribute_pointless attribute.Entitlements = refl
attribute_pointless attribute.Roles = refl
attribute_pointless attribute.X509Certificates = refl
attribute_pointless attribute.EmployeeNumber = refl
attribute_pointless attribute.CostCenter = refl
attribute_pointless attribute.Organization = refl
attribute_pointless attribute.Division = refl
attribute_pointless attribute.Department = refl
attribute_pointless attribute.Manager = refl
attribute_pointless attribute.Badge = refl
attribute_pointless attribute.Note = refl
attribute_pointless attribute.DoorCode = refl
attribute_pointless attribute.Members = refl
attribute_pointless attribute.Meta = refl

not_point : (x : ℕ) (xs : List ℕ) → has_no_point (x ∷ xs) ≡ true → x ≢ 46
not_point x xs none same = (let c : false ≡ true = (rw same at none) in cc)

-- what stands before the first point is one text
split_once : (xs ys us vs : List ℕ) → has_no_point xs ≡ true → has_no_point ys ≡ true → xs ++ 46 ∷ us ≡ ys ++ 46 ∷ vs → (xs ≡ ys) × (us ≡ vs)
split_once [] [] us vs p q e = (refl, (let t : us ≡ vs = cc in t))
split_once [] (y ∷ ys) us vs p q e = absurd (not_point y ys q (let h : y ≡ 46 = cc in h))
split_once (x ∷ xs) [] us vs p q e = absurd (not_point x xs p (let h : x ≡ 46 = cc in h))
split_once (x ∷ xs) (y ∷ ys) us vs p q e =
    let first : x ≡ y = cc in
    let rest : xs ++ 46 ∷ us ≡ ys ++ 46 ∷ vs = cc in
    let more = split_once xs ys us vs (and_second (not (x == 46)) (has_no_point xs) p) (and_second (not (y == 46)) (has_no_point ys) q) rest in
    (rw (first, more.0) refl, more.1)

-- a text without a point isn't one with a point
never_split : (xs ys vs : List ℕ) → has_no_point xs ≡ true → xs ≢ ys ++ 46 ∷ vs
never_split [] [] vs p e = absurd cc
never_split [] (y ∷ ys) vs p e = absurd cc
never_split (x ∷ xs) [] vs p e = not_point x xs p (let h : x ≡ 46 = cc in h)
never_split (x ∷ xs) (y ∷ ys) vs p e = never_split xs ys vs (and_second (not (x == 46)) (has_no_point xs) p) (let rest : xs ≡ ys ++ 46 ∷ vs = cc in rest)

with_point : (a : Attribute) (s : SubAttribute) → path_of a (Some s) ≡ attribute_name a ++ 46 ∷ sub_attribute_name s
with_point a s = append_assoc (attribute_name a) (codes ".") (sub_attribute_name s)

same_path : (a b : Attribute) (s t : Option SubAttribute) → path_of a s ≡ path_of b t → (a ≡ b) × (s ≡ t)
same_path a b None None e = (name_one a b e, refl)
same_path a b None (Some t) e = absurd (never_split (attribute_name a) (attribute_name b) (sub_attribute_name t) (attribute_pointless a) (e ∙ with_point b t))
same_path a b (Some s) None e = absurd (never_split (attribute_name b) (attribute_name a) (sub_attribute_name s) (attribute_pointless b) (sym e ∙ with_point a s))
same_path a b (Some s) (Some t) e =
    let both = split_once (attribute_name a) (attribute_name b) (sub_attribute_name s) (sub_attribute_name t) (attribute_pointless a) (attribute_pointless b) (sym (with_point a s) ∙ e ∙ with_point b t) in
    (name_one a b both.0, ap (λ (x : SubAttribute). Some x) (one_named sub_attribute_name all_sub_attributes sub_attribute_found s t both.1))

-- no two leaves have one path
pub path_one : (x y : Leaf) → leaf_path x ≡ leaf_path y → x ≡ y
path_one x y e =
    let both = same_path x.attribute y.attribute x.sub_attribute y.sub_attribute e in
    λ i. record { attribute = both.0 i; sub_attribute = both.1 i }

-- where what a path names is no leaf, no leaf has the path
pub no_leaf_named : (path : List ℕ) (named : Leaf) → leaf_path named ≡ path → (IsAnyLeaf named → ⊥) → ReadsBack IsAnyLeaf leaf_path path None
no_leaf_named path named is none = λ x known e. none (subst IsAnyLeaf (path_one x named (e ∙ sym is)) known)

-- ---- what isn't found

-- the value that an id is kept as, and a leaf
abbrev pub id_kept : Option (List ℕ) → Value
id_kept id = or_null Text (option_map id_text id)

abbrev pub leaf_kept : Option Leaf → Value
leaf_kept leaf = or_null Text (option_map leaf_path leaf)

-- where there is neither NULL nor a text, there is no id and no leaf
pub no_id_text : (v : Value) → v ≢ Null → ReadsBack IsUtf8 Text v None → ReadsBack (λ id. IfSome id IsId) id_kept v None
no_id_text v full none None is e = full (sym e)
no_id_text v full none (Some id) is e = none (id_text id) (id_utf8 id) e

pub no_leaf_text : (v : Value) → v ≢ Null → ReadsBack IsUtf8 Text v None → ReadsBack (λ leaf. IfSome leaf IsAnyLeaf) leaf_kept v None
no_leaf_text v full none None is e = full (sym e)
no_leaf_text v full none (Some leaf) is e = none (leaf_path leaf) (path_utf8 leaf) e

-- nor is there an id where the text is none of an id
pub no_id : (v : Value) (text : List ℕ) → v ≢ Null → Text text ≡ v → (IsIdText text → ⊥) → ReadsBack (λ id. IfSome id IsId) id_kept v None
no_id v text full is none None sound e = full (sym e)
no_id v text full is none (Some id) sound e = none (subst IsIdText (let same : id_text id ≡ text = one (e ∙ sym is) in same) (IsIdText-id_text id))
  where
    one : {a b : List ℕ} → Text a ≡ Text b → a ≡ b
    one h = cc
