-- Of less than two members none has the key of another.
use Rattle.std.proofs.Common.{◌≡◌, ◌<◌, ◌∷◌, [], ℕ, List, Bool, true, false, Bor, length, nat_lt, if◌then◌else◌, refl, arith}
use Rattle.serde_json.specs.Data.{Data}
use Rattle.scim_body.specs.View.{view, members_view}
use Rattle.scim_body.specs.declared.trees.Tree.{Tree}
use Rattle.scim_text.specs.Names.{is_same_name}
use Rattle.scim_body.specs.BodyNames.{is_twice}
use Rattle.scim_body.proofs.object_members.is_twice.Goals as goal

one_value : (same : Bool) (d : Data) → false ≡ nat_lt 1 (length (if same then d ∷ [] else []))
one_value true d = refl
one_value false d = refl

few_members : (name : List ℕ) (ms : List (Bor (List ℕ) × Tree)) → length ms < 2 → false ≡ is_twice name (members_view ms)
few_members name [] few = refl
few_members name (m ∷ []) few = one_value (is_same_name name m.0.now) (view m.1)
few_members name (m ∷ n ∷ ms) few = absurd (omega (arith, few))

pub returns-then-members-lt2 : goal.returns-then-members-lt2
returns-then-members-lt2 c = few_members c.args.name.now c.args.members.now (omega (arith, c.if-members-lt2.true))
