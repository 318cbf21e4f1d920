use Rattle.std.proofs.Common.{◌∙◌, IsUtf8}
use Rattle.std.proofs.lemmas.Str.{IsUtf8-string_bytes}
use Rattle.am_match.proofs.PrintingLemmas.{cons_of_first, written-all, reads_written}
use Rattle.am_match.proofs.printing.print_matchers.Goals as goal

pub returns-clause-text : goal.returns-clause-text
returns-clause-text c =
    let ms = c.args.matchers.now in
    let m = c.first-item.result in
    c.from_string-2.ensures
    ∙ written-all ms m _ _ _ _ (cons_of_first ms m c.in-len1-up.len_at_least c.first-item.is) c.new-text.ensures.bytes
    c.in_ok-push_matcher.ensures.text c.in_ok-push_others.ensures.text

pub returns-clause-reads_back : goal.returns-clause-reads_back
returns-clause-reads_back c =
    let ms = c.args.matchers.now in
    let m = c.first-item.result in
    let whole = cons_of_first ms m c.in-len1-up.len_at_least c.first-item.is in
    let written =
    c.from_string-2.ensures
    ∙ written-all ms m _ _ _ _ whole c.new-text.ensures.bytes c.in_ok-push_matcher.ensures.text
    c.in_ok-push_others.ensures.text in
    let utf8 : IsUtf8 c.from_string-2.result = rw c.from_string-2.ensures (IsUtf8-string_bytes c.push_others.new.text) in
    λ _. reads_written ms m _ _ whole utf8 written c.in_ok-push_matcher.ensures.matcher c.in_ok-push_others.ensures.matchers
