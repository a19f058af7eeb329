-- A value is what is kept of a resource exactly where the two texts are equal.
use Rattle.std.proofs.Common.{◌≡◌, List, ℕ, Bool, false, Some, None, IsTrue, bytes_eq, sym, ap, ◌∙◌, Option}
use Rattle.std.proofs.lemmas.Slice.Eq.{bytes_eq-Decides}
use Rattle.serde_json.specs.Data.{Data, null}
use Rattle.serde_json.specs.Read.{read}
use Rattle.serde_json.specs.Written.{has_float, compact_text}
use Rattle.scim_cell.specs.Content.{Content}
use Rattle.scim_json.specs.PartData.{stored_data}
use Rattle.scim_schema.specs.declared.json_keys.JsonForm.TheVariants.{Stored}
use Rattle.scim_json.proofs.Kept.{data_of-IsKept}

abbrev or_null : Option Data → Data
or_null None = null
or_null (Some d) = d

-- what is kept has no float
stored_exact : (c : Content) → has_float (stored_data c) ≡ false
unfolding stored_data
stored_exact c = (data_of-IsKept Stored c).exact

-- one text has one value
pub same_value : (d e : Data) (s t : List ℕ) → s ≡ t → read s ≡ Some d → read t ≡ Some e → d ≡ e
same_value d e s t same first second = ap or_null (sym first ∙ ap read same ∙ second)

-- the text of the value, written again, is that of the resource
pub kept_from_texts : (d : Data) (c : Content) (kept compact : List ℕ) (b : Bool)
    → kept ≡ compact_text (stored_data c) → read kept ≡ Some (stored_data c) → (has_float d ≡ false → compact ≡ compact_text d) → read compact ≡ Some d → b ≡ bytes_eq kept compact
    → (IsTrue b → d ≡ stored_data c) × (d ≡ stored_data c → IsTrue b)
kept_from_texts d c kept compact b text reads compact_is compact_reads is = (
  λ yes. same_value d (stored_data c) compact kept (sym ((bytes_eq-Decides kept compact).0 (sym is ∙ yes))) compact_reads reads,
  λ same. is ∙ (bytes_eq-Decides kept compact).1 (text ∙ ap compact_text (sym same) ∙ sym (compact_is (ap has_float same ∙ stored_exact c))),
)
