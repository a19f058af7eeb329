use Rattle.std.proofs.Common.{◌≡◌, ◌≤◌, ◌<◌, length, Some, None, sym, ap, subst, ◌∙◌, arith}
use Rattle.std.specs.Prelude.{option_map}
use Rattle.scim_filter_grammar.specs.Bytes.{lone_word}
use Rattle.scim_schema.specs.declared.limits.TheConstants.{LONGEST_FILTER}
use Rattle.scim_filter_grammar.specs.declared.tree.AttributePath.{AttributePath}
use Rattle.scim_filter_grammar.proofs.FunctionLemmas.{path_in-word, path_in-none, path_in-long}
use Rattle.scim_filter_grammar.proofs.WrittenPathLemmas.{NamesAlone, named_alone, not_alone}
use Rattle.scim_filter_grammar.proofs.whole_paths.attribute_path.Goals as goal

pub returns-then-text-gt-LONGEST_FILTER : goal.returns-then-text-gt-LONGEST_FILTER
returns-then-text-gt-LONGEST_FILTER c =
    let long : LONGEST_FILTER < length c.args.text.now = c.if-text-gt-LONGEST_FILTER.true in record {
      spelled = λ path short h. absurd (omega (arith, long, short));
      same = ap (option_map (λ (path : AttributePath). path.meant)) (sym (path_in-long c.args.kind c.args.text.now long));
    }

pub returns-in_default : goal.returns-in_default
returns-in_default c =
    let short : length c.args.text.now ≤ LONGEST_FILTER = c.if-text-gt-LONGEST_FILTER.false in
    let none : lone_word c.args.text.now ≡ None = sym c.lone_word.ensures ∙ ap (option_map (λ w. w.now)) c.in_default.is in record {
      spelled = λ path _ h. not_alone c.args.kind c.args.text.now path none h;
      same = ap (option_map (λ (path : AttributePath). path.meant)) (sym (path_in-none c.args.kind c.args.text.now short none));
    }

pub returns : goal.returns
returns c =
    let short : length c.args.text.now ≤ LONGEST_FILTER = c.if-text-gt-LONGEST_FILTER.false in
    let one : lone_word c.args.text.now ≡ Some c.in-Some.word.now = sym c.lone_word.ensures ∙ ap (option_map (λ w. w.now)) c.in-Some.is in record {
      spelled = subst (NamesAlone c.args.kind c.args.text.now) (sym c.meant.ensures) (named_alone c.args.kind c.args.text.now c.in-Some.word.now short one);
      same = c.meant.ensures ∙ ap (option_map (λ (path : AttributePath). path.meant)) (sym (path_in-word c.args.kind c.args.text.now c.in-Some.word.now short one));
    }
