-- One request of a client, over two stores that are alike for it.
use Rattle.std.proofs.Common.{List}
use Rattle.std.specs.Prelude.{All}
use Rattle.std.proofs.lemmas.List.Elements.{All-weaker}
use Rattle.scim_cell.specs.Content.{Content}
use Rattle.scim_value.specs.Resource.{IsResource, HasBase}
use Rattle.scim_view.specs.View.{Viewer}
use Rattle.scim_service.specs.Step.{viewer_at}
use Rattle.scim_noninterference.specs.Alike.{IsAlike}
use Rattle.scim_noninterference.specs.Laws.{OneRequest}
use Rattle.scim_noninterference.proofs.StoreLemmas.{controls_same, traits_from, whole_same}
use Rattle.scim_noninterference.proofs.ViewLemmas.{seen_from_views}
use Rattle.scim_noninterference.proofs.RequestLemmas.{AreLike, planned_same}

-- what is alike for a client it can't tell apart, and the other way round
pub like_alike : (v : Viewer) (s t : List Content) → All (λ c. IsResource c × HasBase v.base c) s → All (λ c. IsResource c × HasBase v.base c) t → IsAlike v s t → AreLike v s t
like_alike v s t first second alike =
    let resources = λ (cs : List Content) (h : All (λ c. IsResource c × HasBase v.base c) cs). All-weaker (λ c. IsResource c × HasBase v.base c) IsResource (λ c both. both.0) cs h in
    record {
      same = traits_from v s t (resources s first) (resources t second) (seen_from_views v s t (resources s first) (resources t second) alike.same_view) alike.same_control;
      names = alike.same_names;
    }

pub alike_like : (v : Viewer) (s t : List Content) → AreLike v s t → IsAlike v s t
alike_like v s t like = record { same_view = whole_same v s t like.same; same_control = controls_same v s t like.same; same_names = like.names }

pub one_request : OneRequest
one_request policy base turn s t one two alike is first second =
    let v = viewer_at policy base turn in
    let like = like_alike v s.resources t.resources one.sound two.sound alike in
    let answers = planned_same v turn s.resources t.resources like one.keyed two.keyed one.sound two.sound is.moment turn.request.ask is.ask first second in
    (answers.reply, alike_like v _ _ answers.like)
