use Rattle.std.proofs.Common.{◌++◌, sym, ap, ◌∙◌, string_bytes, encode_utf8_all}
use Rattle.std.specs.List.{flat_map}
use Rattle.std.proofs.lemmas.Iterator.{YieldsList-from_chars}
use Rattle.std.proofs.lemmas.Iterator.Consumers.{YieldsList-end}
use Rattle.am_match.specs.Printing.{escaped}
use Rattle.am_match.proofs.PrintingLemmas.{written_more, map-itself}
use Rattle.am_match.proofs.printing.push_characters.Goals as goal

pub loop-c-preserved : goal.loop-c-preserved
loop-c-preserved c =
    written_more escaped (string_bytes c.args.text.now) _ _ c.loop-c.yielded c.in-Some.c c.loop-c.invariant
    c.in_ok-push_escaped.ensures

pub returns : goal.returns
returns c =
    let all = YieldsList-end (YieldsList-from_chars c.args.value.now c.utf8.value cc) c.loop-c.yielded _ c.loop-c.yielded_by _ _
    c.in-None.is c.next.ensures.steps in
    c.loop-c.invariant
    ∙ ap (λ cs. string_bytes c.args.text.now ++ encode_utf8_all (flat_map escaped cs)) (sym (map-itself c.loop-c.yielded) ∙ all.0)
