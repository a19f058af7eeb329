use Rattle.std.proofs.Common.{refl}
use Rattle.scim_view.specs.View.{viewer_of}
use Rattle.scim_search.specs.ViewBuilders.{made}
use Rattle.scim_search.proofs.VisitLemmas.{taken_skipped}
use Rattle.scim_search.proofs.WalkLemmas.{on_found}
use Rattle.scim_search.proofs.visitors.SearchVisitorVisitor.take.Goals as goal

pub returns-then-not-may_have_groups : goal.returns-then-not-may_have_groups
returns-then-not-may_have_groups c =
    let old = c.args.self.now in
    let viewer = viewer_of old.builder.viewer.now in
    record {
      builder = refl;
      query = refl;
      needs = refl;
      taken = λ groups parts is skips was.
          taken_skipped old.pager (made viewer groups old.builder.scope) viewer parts c.args.resource.now (skips c.if-self.true) (c.may_have_groups.ensures c.if-not-may_have_groups.true groups is) was;
      cached = λ groups cs kind is found recalls. recalls;
    }

pub returns-in-Some : goal.returns-in-Some
returns-in-Some c = record {
  builder = refl;
  query = c.in_ok-show.ensures.query;
  needs = refl;
  taken = λ groups parts is skips was. c.in_ok-show.ensures.taken groups parts is (c.in-Some.ensures groups is) was;
  cached = λ groups cs kind is found recalls. recalls;
}

pub returns-in_ok-keep : goal.returns-in_ok-keep
returns-in_ok-keep c = record {
  builder = refl;
  query = c.in_ok-show-2.ensures.query;
  needs = refl;
  taken = λ groups parts is skips was. c.in_ok-show-2.ensures.taken groups parts is (c.in_ok-patterns.ensures groups is) was;
  cached = λ groups cs kind is found recalls.
      let viewer = viewer_of c.args.self.now.builder.viewer.now in
      c.in_ok-keep.ensures.recalls viewer kind cs
      (on_found viewer kind cs c.id.result c.args.resource.now c.in_ok-patterns.patterns c.id.ensures found (c.in_ok-patterns.ensures groups is)) recalls;
}

pub returns-else-branch : goal.returns-else-branch
returns-else-branch c = record {
  builder = refl;
  query = c.in_ok-show-2.ensures.query;
  needs = refl;
  taken = λ groups parts is skips was. c.in_ok-show-2.ensures.taken groups parts is (c.in_ok-patterns.ensures groups is) was;
  cached = λ groups cs kind is found recalls. recalls;
}
