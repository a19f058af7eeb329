-- The text of an id in a row, as that of the id of a resource.
use Rattle.std.proofs.Common.{◌≡◌, ℕ, sym, ◌∙◌, ap, true, false, List}
use Rattle.std.specs.Ordering.{nat_cmp, is_eq}
use Rattle.std.specs.Cmp.Lexicographic.{slice_cmp}
use Rattle.std.proofs.lemmas.Slice.Eq.{bytes_eq-Decides}
use Rattle.scim_cell.specs.Equality.{is_same_id}
use Rattle.scim_cell.specs.Ids.{IsId, id_text}
use Rattle.scim_shelf.proofs.Facts.{by_bool}
use Rattle.scim_store_rows.specs.Stands.{Entry}
use Rattle.scim_store_rows.proofs.PlaceLemmas.{own, own_same}
use Rattle.scim_store_rows.proofs.TiedLemmas.{tied, ids_apart}

pub same_id : (x id : List ℕ) → IsId x → IsId id → is_eq (slice_cmp nat_cmp (id_text x) (id_text id)) ≡ is_same_id id x
same_id x id one two =
    by_bool (is_same_id id x)
    (λ t. ap (λ (y : List ℕ). is_eq (slice_cmp nat_cmp (id_text x) (id_text y))) ((bytes_eq-Decides id x).0 t) ∙ tied (id_text x) ∙ sym t)
    (λ f. ids_apart x id one two (λ same. (let t : is_same_id id x ≡ true = (bytes_eq-Decides id x).1 (sym same) in let c : true ≡ false = sym t ∙ f in cc)) ∙ sym f)

-- the text of a resource's id is that of an id where the resource has the id
pub text_own : (id : List ℕ) (e : Entry) → IsId e.content.id → IsId id → is_eq (slice_cmp nat_cmp (id_text e.content.id) (id_text id)) ≡ own id e
text_own id e one two = same_id e.content.id id one two ∙ own_same id e
